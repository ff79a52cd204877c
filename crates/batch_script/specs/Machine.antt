-- The plain machine over the items of a script.
use Rattle.std.specs.Prelude.{⊤, ◌≡◌, ◌≢◌, ◌⊎◌, ℕ, ◌<◌, ◌≤◌, max, nat_le, if◌then◌else◌, List, [], ◌∷◌, length}
use Rattle.std.specs.List.{AllByRecursion}
use Rattle.std.specs.Ordering.{nat_cmp}
use Rattle.std.specs.FinMap.{FinMap}
use Rattle.std.specs.FinSet.{FinSet}
use Rattle.wic_slab.specs.Order.{max_capacity, next_id}
use Rattle.batch_core.specs.State.{Contents, State}
use Rattle.batch_core.specs.Course.{Course, batch_course}
use Rattle.batch_core.specs.Batch.{Outcome, outcome_of}
use Rattle.batch_core.specs.Room.{Fits}
use Rattle.batch_core.specs.declared.command.Command.{Command}
use Rattle.batch_core.specs.declared.command.End.{End}

-- what the bodies of items come to: the course of each from these contents, and how many places it needs to begin
pub record Bodies (B : Type 0) : Type 1 where
  pub course : Contents ℕ → B → Course ℕ
  pub places : B → ℕ

-- one item of a script: a batch has its body and its end
pub data ItemOf (B : Type 0) : Type 0 where
  reserve : ℕ → ItemOf B
  show : ItemOf B
  batch : B → End → ItemOf B

-- the reply to one item: what is shown are the list, the set, the values of the live ids, and the next id
pub data Reply : Type 0 where
  reserved : Reply
  reserve_too_large : Reply
  shown : List ℕ → FinSet nat_cmp → FinMap nat_cmp ℕ → ℕ → Reply
  answered : Outcome ℕ → Reply
  no_memory : Reply

-- what a reservation comes to, within the limit and beyond it; the room is never lowered
abbrev pub reserve_step : State ℕ → ℕ → Reply × State ℕ
reserve_step state number =
    if nat_le number max_capacity then (reserved, record state { room = max state.room number }) else (reserve_too_large, state)

-- the contents as they are shown
abbrev pub shown_of : Contents ℕ → Reply
shown_of contents = shown contents.list contents.set contents.live (next_id contents.order)

-- the reservation asks for more than the room, and for no more than the limit
abbrev pub AsksForMore : ℕ → ℕ → Type 0
AsksForMore room number = (room < number) × (number ≤ max_capacity)

-- nothing was refused for memory: each script has one such run from empty
abbrev pub IsPlain : List Reply → Type 0
IsPlain = AllByRecursion (λ reply. reply ≢ no_memory)

module _ {B : Type 0} (bodies : Bodies B) where
  -- the body fits the room where it stands in these contents
  abbrev pub FitsOver : ℕ → Contents ℕ → B → Type 0
  FitsOver room contents body = Fits room (bodies.places body) (bodies.course contents body).stands

  -- what an item comes to if memory is found: the reply and the next state
  abbrev pub step_over : State ℕ → ItemOf B → Reply × State ℕ
  step_over state (reserve number) = reserve_step state number
  step_over state show = (shown_of state.contents, state)
  step_over state (batch body ending) =
      let outcome = outcome_of state.contents (bodies.course state.contents body) ending in
      (answered outcome.0, record state { contents = outcome.1 })

  -- the item is beyond the room, so that it may be refused for memory
  abbrev pub IsBeyondOver : State ℕ → ItemOf B → Type 0
  IsBeyondOver state (reserve number) = AsksForMore state.room number
  IsBeyondOver state show = ⊥
  IsBeyondOver state (batch body ending) = ¬ FitsOver state.room state.contents body

  -- In this state the machine may give this reply to the item, and go on to the next state: what the item comes to, or,
  -- if it is beyond the room, a refusal for memory that leaves the old state.
  abbrev pub ItemStepOver : State ℕ → ItemOf B → Reply → State ℕ → Type 0
  ItemStepOver state item reply next =
      ((reply, next) ≡ step_over state item) ⊎ (IsBeyondOver state item × (reply ≡ no_memory) × (next ≡ state))

  -- from this state the machine may give these replies to these items, one step after another
  abbrev pub RunOver : State ℕ → List (ItemOf B) → List Reply → Type 0
  RunOver state [] [] = ⊤
  RunOver state (item ∷ items) (reply ∷ replies) =
      (next : State ℕ) × ItemStepOver state item reply next × RunOver next items replies
  RunOver state [] (reply ∷ replies) = ⊥
  RunOver state (item ∷ items) [] = ⊥

  -- the replies of the run from this state in which memory is always found
  abbrev pub replies_over : State ℕ → List (ItemOf B) → List Reply
  replies_over state [] = []
  replies_over state (item ∷ items) = (step_over state item).0 ∷ replies_over (step_over state item).1 items

  -- the state at its end
  abbrev pub end_over : State ℕ → List (ItemOf B) → State ℕ
  end_over state [] = state
  end_over state (item ∷ items) = end_over (step_over state item).1 items

-- ---- scripts of batches

-- a body is the commands of a batch, in order
abbrev pub batches : Bodies (List (Command ℕ))
batches = record { course = batch_course; places = λ commands. length commands }

-- one item of a script of batches: a batch has its commands and its end
abbrev pub PlainItem : Type 0
PlainItem = ItemOf (List (Command ℕ))

-- what an item comes to if memory is found
abbrev pub plain_step : State ℕ → PlainItem → Reply × State ℕ
plain_step = step_over batches

-- the item is beyond the room
abbrev pub IsBeyond : State ℕ → PlainItem → Type 0
IsBeyond = IsBeyondOver batches

-- the machine may give this reply to the item, and go on to the next state
abbrev pub ItemStep : State ℕ → PlainItem → Reply → State ℕ → Type 0
ItemStep = ItemStepOver batches

-- from this state the machine may give these replies to these items
abbrev pub Run : State ℕ → List PlainItem → List Reply → Type 0
Run = RunOver batches

-- the replies of the run from this state in which memory is always found
abbrev pub plain_replies : State ℕ → List PlainItem → List Reply
plain_replies = replies_over batches

-- the state at its end
abbrev pub plain_end : State ℕ → List PlainItem → State ℕ
plain_end = end_over batches

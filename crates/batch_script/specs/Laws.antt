-- What lines and texts tell: lines tell their items, a text tells its run, and with room enough there is one run alone.
use Rattle.std.specs.Prelude.{⊤, ◌≡◌, ℕ, ◌≤◌, List, [], ◌∷◌}
use Rattle.std.specs.List.{AllByRecursion}
use Rattle.wic_slab.specs.Order.{max_capacity}
use Rattle.batch_core.specs.State.{State, empty_state}
use Rattle.batch_script.specs.Machine.{ItemOf, PlainItem, reserve, show, batch, Bodies, batches, Reply, reserved, AsksForMore, IsPlain}
use Rattle.batch_script.specs.Machine.{FitsOver, step_over, replies_over, RunOver, Run}
use Rattle.batch_script.specs.Grammar.{Printing, batch_printing, IsValidItemOver, all_lines_over}
use Rattle.batch_script.specs.Reply.{text_of}

-- valid items that are printed alike, line for line, are the same items
abbrev pub LinesTellItemsOver : {B : Type 0} → Printing B → Type 0
LinesTellItemsOver {B} printing = (items others : List (ItemOf B)) → AllByRecursion (IsValidItemOver printing) items
    → AllByRecursion (IsValidItemOver printing) others → all_lines_over printing items ≡ all_lines_over printing others → items ≡ others

-- the item doesn't ask for more than this room
abbrev pub AsksForNoMore : {B : Type 0} → ℕ → ItemOf B → Type 0
AsksForNoMore room (reserve number) = ¬ AsksForMore room number
AsksForNoMore room show = ⊤
AsksForNoMore room (batch body ending) = ⊤

module _ {B : Type 0} (bodies : Bodies B) where
  -- items that are run to one text were given the same replies
  abbrev pub TextTellsRunOver : Type 0
  TextTellsRunOver = (items : List (ItemOf B)) (replies others : List Reply) → RunOver bodies empty_state items replies
      → RunOver bodies empty_state items others → text_of replies ≡ text_of others → replies ≡ others

  -- the item, if it is a batch, fits the room in this state
  abbrev pub FitsIfBatch : ℕ → State ℕ → ItemOf B → Type 0
  FitsIfBatch room state (reserve number) = ⊤
  FitsIfBatch room state show = ⊤
  FitsIfBatch room state (batch body ending) = FitsOver bodies room state.contents body

  -- every batch fits the room where it stands in the plain run from this state
  abbrev pub BatchesFit : ℕ → State ℕ → List (ItemOf B) → Type 0
  BatchesFit room state [] = ⊤
  BatchesFit room state (item ∷ items) = FitsIfBatch room state item × BatchesFit room (step_over bodies state item).1 items

  -- the replies are those of the plain run, in which nothing is refused for memory
  pub record IsPlainRunOver (items : List (ItemOf B)) (replies : List Reply) : Type 0 where
    pub same : replies ≡ replies_over bodies empty_state items
    pub plain : IsPlain replies

  -- a run is the plain one if its first item reserves a room within the limit, that item is answered so, no later item asks
  -- for more, and every batch fits that room where it stands
  abbrev pub RoomMakesPlainOver : Type 0
  RoomMakesPlainOver = (room : ℕ) (items : List (ItemOf B)) (replies : List Reply) → room ≤ max_capacity
      → RunOver bodies empty_state (reserve room ∷ items) (reserved ∷ replies)
      → AllByRecursion (AsksForNoMore room) items → BatchesFit room empty_state (reserve room ∷ items)
      → IsPlainRunOver (reserve room ∷ items) (reserved ∷ replies)

  -- each list of items has exactly one run in which nothing is refused for memory
  pub record HasOnePlainRunOver (items : List (ItemOf B)) : Type 0 where
    pub runs : RunOver bodies empty_state items (replies_over bodies empty_state items)
    pub is_plain : IsPlain (replies_over bodies empty_state items)
    pub alone : (replies : List Reply) → RunOver bodies empty_state items replies → IsPlain replies
        → replies ≡ replies_over bodies empty_state items

-- ---- scripts of batches

-- valid items that are printed alike, line for line, are the same items
abbrev pub LinesTellItems : Type 0
LinesTellItems = LinesTellItemsOver batch_printing

-- items that are run to one text were given the same replies
abbrev pub TextTellsRun : Type 0
TextTellsRun = (items : List PlainItem) (replies others : List Reply) → Run empty_state items replies → Run empty_state items others
    → text_of replies ≡ text_of others → replies ≡ others

-- a run is the plain one if its first item reserves all the room that its items need, and is answered so
abbrev pub RoomMakesPlain : Type 0
RoomMakesPlain = (room : ℕ) (items : List PlainItem) (replies : List Reply) → room ≤ max_capacity
    → Run empty_state (reserve room ∷ items) (reserved ∷ replies)
    → AllByRecursion (AsksForNoMore room) items → BatchesFit batches room empty_state (reserve room ∷ items)
    → IsPlainRunOver batches (reserve room ∷ items) (reserved ∷ replies)

-- the items have exactly one run in which nothing is refused for memory
abbrev pub HasOnePlainRun : List PlainItem → Type 0
HasOnePlainRun = HasOnePlainRunOver batches

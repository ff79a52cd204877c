-- Steps of the machine, and runs that go on by one item.
use Rattle.std.proofs.Common.{◌≡◌, ℕ, ◌+◌, List, [], ◌∷◌, ◌++◌, refl, sym, ap, subst, ◌∙◌, inl, inr, append_assoc, length, arith, Some}
use Rattle.std.proofs.Common.{None}
use Rattle.std.specs.Prelude.{codes, Result, OnOk}
use Rattle.std.specs.List.{flat_map}
use Rattle.std.proofs.lemmas.List.{append-nil}
use Rattle.std.proofs.lemmas.Result.{on_ok_weaker}
use Rattle.std.proofs.lemmas.List.Concat.{flat_map-append}
use Rattle.batch_core.specs.State.{empty_state}
use Rattle.batch_core.specs.Applied.{RefusedFor}
use Rattle.batch_core.specs.Batch.{Outcome, committed, refused, outcome_of}
use Rattle.batch_core.specs.Workspace.{Workspace}
use Rattle.batch_core.specs.declared.command.Cause.{Cause}
use Rattle.batch_core.specs.declared.command.Cause.TheVariants.{Empty, Position, Vacant, Full, TooLarge, Oom}
use Rattle.batch_core.specs.declared.command.End.{End}
use Rattle.batch_core.specs.declared.record.Record.{Record}
use Rattle.batch_script.specs.declared.kind.BatchKind.{BatchKind}
use Rattle.batch_script.specs.declared.kind.BatchKind.TheVariants.{Empty as EmptyKind, Position as PositionKind, Vacant as VacantKind}
use Rattle.batch_script.specs.declared.kind.BatchKind.TheVariants.{Full as FullKind, TooLarge as TooLargeKind}
use Rattle.batch_script.specs.Kind.{kind_of_cause, kind_text}
use Rattle.batch_script.specs.Machine.{Bodies, ItemOf, batch, Reply, answered, no_memory, ItemStepOver, RunOver}
use Rattle.batch_script.specs.Reply.{record_lines, outcome_lines, reply_lines, cause_text, text_of, text_of_lines}
use Rattle.batch_script.specs.RunText.{IsTextOfRunOver, AnswersOver, state_of}
use Rattle.batch_core.proofs.RunFacts.{short_beyond}

-- one more reply
pub text_of-more : (replies : List Reply) (reply : Reply)
    → text_of (replies ++ reply ∷ []) ≡ text_of replies ++ text_of_lines (reply_lines reply)
text_of-more replies reply =
    rw (flat_map-append reply_lines replies (reply ∷ []), append-nil)
    (flat_map-append _ (flat_map reply_lines replies) (reply_lines reply))

-- the text of a batch that was committed: the lines of its records, and one more
pub text-committed : (records : List (Record ℕ))
    → text_of_lines (flat_map record_lines records) ++ codes "committed\n" ≡ text_of_lines (outcome_lines (committed records))
text-committed records = sym (flat_map-append _ (flat_map record_lines records) (codes "committed" ∷ []))

module _ {B : Type 0} (bodies : Bodies B) (old new : Workspace ℕ) (body : B) (ending : End) (same_room : new.room ≡ old.room) where
  -- a batch came to its outcome, and the room stays
  pub batch_step : (outcome : Outcome ℕ) → outcome_of old.contents (bodies.course old.contents body) ending ≡ (outcome, new.contents)
      → ItemStepOver bodies (state_of old) (batch body ending) (answered outcome) (state_of new)
  batch_step outcome came =
      inl (rw came (λ t. (answered outcome, record { contents = new.contents; room = same_room t })))

  -- a batch was refused for a cause other than out of memory
  pub refused_step : (cause : Cause) (at : ℕ) (why : BatchKind) → kind_of_cause cause ≡ Some why
      → new.contents ≡ old.contents
      → RefusedFor old.room (bodies.places body) old.contents (bodies.course old.contents body) ending cause at
      → ItemStepOver bodies (state_of old) (batch body ending) (answered (refused (record { cause = cause; at = at }))) (state_of new)
  refused_step (Oom size) at why is same came = let none : None ≡ Some why = is in cc
  refused_step Empty at why is same came = batch_step _ (rw same came)
  refused_step Position at why is same came = batch_step _ (rw same came)
  refused_step Vacant at why is same came = batch_step _ (rw same came)
  refused_step Full at why is same came = batch_step _ (rw same came)
  refused_step TooLarge at why is same came = batch_step _ (rw same came)

  -- a batch was refused with a cause that has no kind: memory ran out, and it doesn't fit the room
  pub short_step : (cause : Cause) (at : ℕ) → kind_of_cause cause ≡ None → new.contents ≡ old.contents
      → RefusedFor old.room (bodies.places body) old.contents (bodies.course old.contents body) ending cause at
      → ItemStepOver bodies (state_of old) (batch body ending) no_memory (state_of new)
  short_step (Oom size) at is same short = inr (
    short_beyond old.room (bodies.places body) (bodies.course old.contents body).stands at short,
    refl,
    λ t. record { contents = same t; room = same_room t },
  )
  short_step Empty at is same short = let some : Some EmptyKind ≡ None = is in cc
  short_step Position at is same short = let some : Some PositionKind ≡ None = is in cc
  short_step Vacant at is same short = let some : Some VacantKind ≡ None = is in cc
  short_step Full at is same short = let some : Some FullKind ≡ None = is in cc
  short_step TooLarge at is same short = let some : Some TooLargeKind ≡ None = is in cc

-- the words of a cause are those of its kind
pub cause_text-kind : (cause : Cause) (why : BatchKind) → kind_of_cause cause ≡ Some why → cause_text cause ≡ kind_text why
cause_text-kind cause why is = rw is refl

module _ {B : Type 0} (bodies : Bodies B) where
  -- an item has this reply, and its text is written
  pub answered_by : {T E : Type 0} (result : Result T E) (item : ItemOf B) (old new : Workspace ℕ) (before after : List ℕ) (reply : Reply)
      → ItemStepOver bodies (state_of old) item reply (state_of new)
      → OnOk result (after ≡ before ++ text_of_lines (reply_lines reply)) → OnOk result (AnswersOver bodies item old new before after)
  answered_by result item old new before after reply step =
      on_ok_weaker result (λ written. record { reply = reply; step = step; written = written })

  -- a run of all items, as far as it has come: the replies so far are written, and any run of the items that are left
  -- goes on from them
  pub record IsUnderWay (all : List (ItemOf B)) (workspace : Workspace ℕ) (text : List ℕ) (left : List (ItemOf B)) (count : ℕ)
      : Type 0 where
    -- the replies so far
    pub replies : List Reply
    -- the text is that of these replies
    pub written : text ≡ text_of replies
    -- with the replies so far before it, a run of the items that are left is a run of all items
    pub goes_on : (later : List Reply) → RunOver bodies (state_of workspace) left later
        → RunOver bodies empty_state all (replies ++ later)
    -- count is the number of items that are left
    pub counted : count ≡ length left

  -- it begins at the empty state, with all items left
  pub under_way-begin : (all : List (ItemOf B)) (workspace : Workspace ℕ) (text : List ℕ) (count : ℕ) → state_of workspace ≡ empty_state
      → text ≡ [] → count ≡ length all → IsUnderWay all workspace text all count
  under_way-begin all workspace text count start none counted = record {
    replies = [];
    written = none;
    goes_on = λ later run. subst (λ state. RunOver bodies state all later) start run;
    counted = counted;
  }

  -- it goes on by one item
  pub under_way-more : (all : List (ItemOf B)) (old new : Workspace ℕ) (before after : List ℕ) (left rest : List (ItemOf B))
      (item : ItemOf B) (count fewer : ℕ) → IsUnderWay all old before left count → left ≡ item ∷ rest → fewer + 1 ≡ count
      → AnswersOver bodies item old new before after → IsUnderWay all new after rest fewer
  under_way-more all old new before after left rest item count fewer so_far parts one answer = record {
    replies = so_far.replies ++ answer.reply ∷ [];
    written = answer.written ∙ ap (λ bytes. bytes ++ text_of_lines (reply_lines answer.reply)) so_far.written
        ∙ sym (text_of-more so_far.replies answer.reply);
    goes_on = λ later run. rw append_assoc (so_far.goes_on (answer.reply ∷ later) (rw parts (state_of new, answer.step, run)));
    counted = omega (arith, so_far.counted, ap length parts);
  }

  -- and if no item is left the text is that of a run of all items
  pub text_of_run : (all : List (ItemOf B)) (workspace : Workspace ℕ) (text : List ℕ) (left : List (ItemOf B)) (count : ℕ)
      → IsUnderWay all workspace text left count → count ≡ 0 → IsTextOfRunOver bodies all text
  text_of_run all workspace text [] count so_far none = (so_far.replies, rw append-nil at (so_far.goes_on [] tt), so_far.written)
  text_of_run all workspace text (item ∷ left) count so_far none = absurd (omega (arith, so_far.counted))

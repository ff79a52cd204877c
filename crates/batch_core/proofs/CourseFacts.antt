-- Courses in two parts: those commands that are done, and those to come.
use Rattle.std.proofs.Common.{◌≡◌, ℕ, zero, suc, ◌+◌, List, [], ◌∷◌, ◌++◌, length, take, Option, Some, None, refl, sym, ap, subst, ◌∙◌}
use Rattle.std.proofs.Common.{arith, append_assoc, length-append}
use Rattle.std.specs.Prelude.{IfNone}
use Rattle.std.specs.Option.{option_map}
use Rattle.std.proofs.Math.Seq.{take-append_seam}
use Rattle.batch_core.specs.State.{Contents}
use Rattle.batch_core.specs.Command.{cause_of, effect_of, records_of}
use Rattle.batch_core.specs.Course.{Stand, Course, led_by, batch_course}
use Rattle.batch_core.specs.Batch.{BadCommand, later_by, front_or_later, first_bad}
use Rattle.batch_core.specs.Room.{cut_by, Passes, StaysWithin}
use Rattle.batch_core.specs.declared.command.Cause.{Cause}
use Rattle.batch_core.specs.declared.command.Command.{Command}
use Rattle.batch_core.specs.declared.record.Record.{Record}

later_none : (o : Option BadCommand) → option_map (later_by 0) o ≡ o
later_none None = refl
later_none (Some bad) =
    let at : 0 + bad.at ≡ bad.at = omega arith in
    ap (λ k. Some (record bad { at = k })) at

later_more : (n m : ℕ) (o : Option BadCommand) → m ≡ n + 1
    → option_map (later_by 1) (option_map (later_by n) o) ≡ option_map (later_by m) o
later_more n m None next = refl
later_more n m (Some bad) next =
    let at : 1 + (n + bad.at) ≡ m + bad.at = omega arith in
    ap (λ k. Some (record bad { at = k })) at

-- what holds if there is no cause holds if there is none
pub if_none : (o : Option Cause) (P : Type 0) → o ≡ None → IfNone o P → P
if_none o P none here = subst (λ x. IfNone x P) none here

if_none_back : (o : Option Cause) (P : Type 0) → o ≡ None → P → IfNone o P
if_none_back o P none here = subst (λ x. IfNone x P) (sym none) here

-- if P gives Q, and P holds if there is no cause, Q holds if there is no cause
pub if_none_more : (o : Option Cause) (P Q : Type 0) → (P → Q) → IfNone o P → IfNone o Q
if_none_more None P Q more here = more here
if_none_more (Some cause) P Q more here = tt

-- if there is no bad command, the first one has no cause, and there is none after it
pub none_first : (o : Option Cause) (later : Option BadCommand) → front_or_later o later ≡ None → (o ≡ None) × (later ≡ None)
none_first None None none = (refl, refl)
none_first None (Some bad) none = absurd (cc)
none_first (Some cause) later none = absurd (cc)

module _ {X : Type 0} where
  -- the course of a batch has as many commands as the batch
  pub batch_course-length : (contents : Contents X) (commands : List (Command X))
      → length (batch_course contents commands).stands ≡ length commands
  batch_course-length contents [] = refl
  batch_course-length contents (command ∷ commands) = ap suc (batch_course-length (effect_of contents command) commands)

  -- how many values these commands cut off
  abbrev pub cut_off : List (Stand X) → ℕ
  cut_off [] = 0
  cut_off (stand ∷ stands) = cut_by stand.contents stand.command + cut_off stands

  -- one command more cuts off its own values too
  pub cut_off-more : (front : List (Stand X)) (stand : Stand X)
      → cut_off (front ++ stand ∷ []) ≡ cut_off front + cut_by stand.contents stand.command
  cut_off-more [] stand = omega arith
  cut_off-more (first ∷ front) stand = omega (arith, cut_off-more front stand)

  -- if no command of the front is bad, the first bad one is that of the others, counted from the first of the front
  pub first_bad-append : (front stands : List (Stand X)) → first_bad front ≡ None
      → first_bad (front ++ stands) ≡ option_map (later_by (length front)) (first_bad stands)
  first_bad-append [] stands good = sym (later_none (first_bad stands))
  first_bad-append (stand ∷ front) stands good =
      let parts = none_first (cause_of stand.contents stand.command) (first_bad front) good in
      let next : length (stand ∷ front) ≡ length front + 1 = omega arith in
      ap (λ o. front_or_later o (first_bad (front ++ stands))) parts.0
      ∙ ap (option_map (later_by 1)) (first_bad-append front stands parts.1)
      ∙ later_more (length front) (length (stand ∷ front)) (first_bad stands) next

  -- one admitted command more, and still none is bad
  pub first_bad-more : (front : List (Stand X)) (stand : Stand X) → first_bad front ≡ None
      → cause_of stand.contents stand.command ≡ None → first_bad (front ++ stand ∷ []) ≡ None
  first_bad-more front stand good admitted =
      first_bad-append front (stand ∷ []) good
      ∙ ap (λ o. option_map (later_by (length front)) (front_or_later o None)) admitted

  -- if no command of the front is bad, a course stays within the room if the front does, and then the others, counted from
  -- what the front cuts off
  pub within-append : (room count : ℕ) (front stands : List (Stand X)) → first_bad front ≡ None
      → StaysWithin room count (front ++ stands) → StaysWithin room count front × StaysWithin room (count + cut_off front) stands
  within-append room count [] stands good within =
      let same : count ≡ count + 0 = omega arith in
      (tt, subst (λ k. StaysWithin room k stands) same within)
  within-append room count (stand ∷ front) stands good within =
      let cut = cut_by stand.contents stand.command in
      let parts = none_first (cause_of stand.contents stand.command) (first_bad front) good in
      let here = if_none (cause_of stand.contents stand.command) _ parts.0 within in
      let more = within-append room (count + cut) front stands parts.1 here.1 in
      let sum : (count + cut) + cut_off front ≡ count + (cut + cut_off front) = omega arith in (
        if_none_back (cause_of stand.contents stand.command) _ parts.0 (here.0, more.0),
        subst (λ k. StaysWithin room k stands) sum more.1,
      )

  -- so an admitted command after the front doesn't pass the room
  pub within-more : (room count : ℕ) (front : List (Stand X)) (stand : Stand X) → first_bad front ≡ None
      → cause_of stand.contents stand.command ≡ None → StaysWithin room count (front ++ stand ∷ [])
      → StaysWithin room count front × (¬ Passes room (count + cut_off front) stand.contents stand.command)
  within-more room count front stand good admitted within =
      let parts = within-append room count front (stand ∷ []) good within in
      (parts.0, (if_none (cause_of stand.contents stand.command) _ admitted parts.1).0)

  -- what stays within the room does so up to each place
  pub within-take : (room count : ℕ) (stands : List (Stand X)) (k : ℕ) → StaysWithin room count stands
      → StaysWithin room count (take k stands)
  within-take room count stands zero within = tt
  within-take room count [] (suc k) within = tt
  within-take room count (stand ∷ stands) (suc k) within =
      if_none_more (cause_of stand.contents stand.command) _ _
      (λ here. (here.0, within-take room (count + cut_by stand.contents stand.command) stands k here.1)) within

  -- the front and the command after it are the first commands of the course
  pub take-front : (front : List (Stand X)) (stand : Stand X) (stands : List (Stand X)) (n : ℕ) → n ≡ length front + 1
      → take n (front ++ stand ∷ stands) ≡ front ++ stand ∷ []
  take-front front stand stands n next =
      ap (take n) (sym (append_assoc front (stand ∷ []) stands))
      ∙ ap (λ k. take k ((front ++ stand ∷ []) ++ stands)) (next ∙ sym (length-append front (stand ∷ [])))
      ∙ take-append_seam (front ++ stand ∷ []) stands

  -- the course of which this front is done and has left these records, and this course is to come
  abbrev pub after_front : List (Stand X) → List (Record X) → Course X → Course X
  after_front front records later = record {
    stands = front ++ later.stands;
    records = records ++ later.records;
    after = later.after;
  }

  -- a command further
  pub after_front-led : (front : List (Stand X)) (records : List (Record X)) (contents : Contents X) (command : Command X)
      (later : Course X)
      → after_front front records (led_by contents command later)
      ≡ after_front (front ++ record { contents = contents; command = command } ∷ []) (records ++ records_of contents command) later
  after_front-led front records contents command later =
      λ i. record {
        stands = sym (append_assoc front (record { contents = contents; command = command } ∷ []) later.stands) i;
        records = sym (append_assoc records (records_of contents command) later.records) i;
        after = later.after;
      }

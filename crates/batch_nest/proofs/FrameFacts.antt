-- A nest line after line: which inner bodies are open, and what the whole comes to from here.
use Rattle.std.specs.Prelude.{⊤}
use Rattle.std.proofs.Common.{◌≡◌, ℕ, ◌≤◌, List, [], ◌∷◌, ◌++◌, length, take, drop, None, refl, sym, ap}
use Rattle.std.proofs.Common.{◌∙◌, arith, append_assoc, length-append}
use Rattle.std.proofs.lemmas.List.{append-nil}
use Rattle.std.proofs.Math.Seq.{take-append_seam, drop-append_seam}
use Rattle.batch_core.specs.State.{Contents, IsSound}
use Rattle.batch_core.specs.Command.{cause_of, effect_of, records_of}
use Rattle.batch_core.specs.Back.{undo_all, back}
use Rattle.batch_core.specs.Course.{Stand, Course}
use Rattle.batch_core.specs.declared.command.Command.{Command}
use Rattle.batch_core.specs.declared.command.End.{End}
use Rattle.batch_core.specs.declared.command.End.TheVariants.{Commit, Abort}
use Rattle.batch_core.specs.declared.record.Record.{Record}
use Rattle.batch_core.proofs.BackFacts.{undo_all-append, undoing_goes_back}
use Rattle.batch_core.proofs.CourseFacts.{after_front}
use Rattle.batch_nest.specs.Nest.{Body, done, then_inner, nest_course}
use Rattle.batch_nest.proofs.LineFacts.{Rest}

-- an inner body that is open: what comes after it, and what was held and recorded at its start
pub record Frame (X : Type 0) : Type 0 where
  pub rest : Rest X
  pub contents : Contents X
  pub records : List (Record X)

module _ {X : Type 0} where
  -- what comes after each open body, the innermost first
  abbrev pub rests_of : List (Frame X) → List (Rest X)
  rests_of [] = []
  rests_of (frame ∷ frames) = frame.rest ∷ rests_of frames

  -- the number of records at the start of each open body, the outermost first
  abbrev pub marks_of : List (Frame X) → List ℕ
  marks_of [] = []
  marks_of (frame ∷ frames) = marks_of frames ++ length frame.records ∷ []

  -- the course so far is that of an inner body up to its end, which is followed by what comes later
  abbrev pub close_one : End → Body X → Contents X → List (Record X) → Course X → Course X
  close_one Commit later contents records course = after_front course.stands course.records (nest_course course.after later)
  close_one Abort later contents records course = after_front course.stands records (nest_course contents later)

  -- so it is for each open body, the innermost first
  abbrev pub close_all : List (Frame X) → Course X → Course X
  close_all [] course = course
  close_all (frame ∷ frames) course =
      close_all frames (close_one frame.rest.ending frame.rest.later frame.contents frame.records course)

  -- into an inner body
  pub inward : (stands : List (Stand X)) (records : List (Record X)) (contents : Contents X) (inner : Body X) (ending : End)
      (later : Body X)
      → after_front stands records (nest_course contents (then_inner inner ending later))
      ≡ close_one ending later contents records (after_front stands records (nest_course contents inner))
  inward stands records contents inner Commit later =
      let within = nest_course contents inner in
      let after = nest_course within.after later in λ i. record {
        stands = sym (append_assoc stands within.stands after.stands) i;
        records = sym (append_assoc records within.records after.records) i;
        after = after.after;
      }
  inward stands records contents inner Abort later =
      let within = nest_course contents inner in
      let after = nest_course contents later in λ i. record {
        stands = sym (append_assoc stands within.stands after.stands) i;
        records = records ++ after.records;
        after = after.after;
      }

  -- out of an inner body that ends in commit: what it held and recorded stays
  pub outward_kept : (stands : List (Stand X)) (records start : List (Record X)) (contents before : Contents X) (later : Body X)
      (ending : End)
      → ending ≡ Commit
      → close_one ending later before start (after_front stands records (nest_course contents done))
      ≡ after_front stands records (nest_course contents later)
  outward_kept stands records start contents before later ending is =
      ap (λ e. close_one e later before start (after_front stands records (nest_course contents done))) is
      ∙ (λ i. after_front (append-nil stands i) (append-nil records i) (nest_course contents later))

  -- out of an inner body that ends in abort: what was held and recorded at its start is back
  pub outward_undone : (stands : List (Stand X)) (records start : List (Record X)) (contents before : Contents X) (later : Body X)
      (ending : End)
      → ending ≡ Abort
      → close_one ending later before start (after_front stands records (nest_course contents done))
      ≡ after_front stands start (nest_course before later)
  outward_undone stands records start contents before later ending is =
      ap (λ e. close_one e later before start (after_front stands records (nest_course contents done))) is
      ∙ (λ i. after_front (append-nil stands i) start (nest_course before later))

  stands_one : (ending : End) (later : Body X) (contents : Contents X) (records : List (Record X)) (course : Course X)
      → (more : List (Stand X)) × ((close_one ending later contents records course).stands ≡ course.stands ++ more)
  stands_one Commit later contents records course = ((nest_course course.after later).stands, refl)
  stands_one Abort later contents records course = ((nest_course contents later).stands, refl)

  -- the commands that stood so far are the first of the whole course
  pub stands_first : (frames : List (Frame X)) (course : Course X)
      → (more : List (Stand X)) × ((close_all frames course).stands ≡ course.stands ++ more)
  stands_first [] course = ([], sym (append-nil course.stands))
  stands_first (frame ∷ frames) course =
      let one = stands_one frame.rest.ending frame.rest.later frame.contents frame.records course in
      let all = stands_first frames (close_one frame.rest.ending frame.rest.later frame.contents frame.records course) in (
        one.0 ++ all.0,
        all.1 ∙ ap (λ l. l ++ all.0) one.1 ∙ append_assoc course.stands one.0 all.0,
      )

  -- undoing the records after those of the start gives the contents of the start
  pub record GoesBack (c : Contents X) (r : List (Record X)) (start : Contents X) (before : List (Record X)) : Type 0 where
    pub late : List (Record X)
    pub records : r ≡ before ++ late
    pub contents : undo_all late c ≡ start

  -- each open body goes back to its start, from what the next inner one had at its own start
  abbrev pub IsStacked : List (Frame X) → Contents X → List (Record X) → Type 0
  IsStacked [] contents records = ⊤
  IsStacked (frame ∷ frames) contents records =
      GoesBack contents records frame.contents frame.records × IsStacked frames frame.contents frame.records

  back_twice : (c : Contents X) (r : List (Record X)) (d : Contents X) (s : List (Record X)) (e : Contents X) (t : List (Record X))
      → GoesBack c r d s → GoesBack d s e t → GoesBack c r e t
  back_twice c r d s e t near far = record {
    late = far.late ++ near.late;
    records = near.records ∙ ap (λ l. l ++ near.late) far.records ∙ append_assoc t far.late near.late;
    contents = undo_all-append far.late near.late c ∙ ap (undo_all far.late) near.contents ∙ far.contents;
  }

  -- what goes back to where one was goes back to all that one could go back to
  pub stacked_from : (frames : List (Frame X)) (c : Contents X) (r : List (Record X)) (d : Contents X) (s : List (Record X))
      → GoesBack c r d s → IsStacked frames d s → IsStacked frames c r
  stacked_from [] c r d s near far = tt
  stacked_from (frame ∷ frames) c r d s near far = (back_twice c r d s frame.contents frame.records near far.0, far.1)

  -- one goes back to where one is
  pub here : (c : Contents X) (r : List (Record X)) → GoesBack c r c r
  here c r = record { late = []; records = sym (append-nil r); contents = refl }

  -- an admitted command goes back to what was before it
  pub done_goes_back : (c d : Contents X) (r s : List (Record X)) (command : Command X) → IsSound c → cause_of c command ≡ None
      → d ≡ effect_of c command → s ≡ r ++ records_of c command → GoesBack d s c r
  done_goes_back c d r s command sound none effect records = record {
    late = records_of c command;
    records = records;
    contents = ap (undo_all (records_of c command)) effect ∙ undoing_goes_back c command sound none;
  }

  -- at the mark of the start, `back` gives the contents and the records of the start
  pub back_at : (c : Contents X) (r : List (Record X)) (start : Contents X) (before : List (Record X)) (mark : ℕ) → mark ≡ length before
      → GoesBack c r start before → (back c r mark ≡ start) × (take mark r ≡ before) × (mark ≤ length r)
  back_at c r start before mark is goes = (
    ap (λ l. undo_all l c) (ap (drop mark) goes.records ∙ ap (λ m. drop m (before ++ goes.late)) is ∙ drop-append_seam before goes.late)
        ∙ goes.contents,
    ap (take mark) goes.records ∙ ap (λ m. take m (before ++ goes.late)) is ∙ take-append_seam before goes.late,
    omega (arith, is, ap length goes.records, length-append before goes.late),
  )

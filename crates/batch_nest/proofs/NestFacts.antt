-- How far a nest has come, and what each line does.
use Rattle.std.proofs.Common.{◌≡◌, ℕ, ◌+◌, ◌<◌, ◌≤◌, List, [], ◌∷◌, ◌++◌, length, take, drop, Option, None, Some, refl, sym, ap}
use Rattle.std.proofs.Common.{subst, ◌∙◌, arith, append_assoc, length-append, length-take}
use Rattle.std.specs.Prelude.{◌↔◌, IsSome, IfSome}
use Rattle.std.proofs.lemmas.List.{append-nil}
use Rattle.std.proofs.Math.Seq.{drop-append_seam}
use Rattle.batch_core.specs.State.{Contents, IsSound}
use Rattle.batch_core.specs.Command.{cause_of, effect_of}
use Rattle.batch_core.specs.Back.{Grows, IsWithin, undo_all, back}
use Rattle.batch_core.specs.Batch.{first_bad}
use Rattle.batch_core.specs.Course.{Course, Stand, led_by}
use Rattle.batch_core.specs.Workspace.{Workspace, IsReady, IsDone, IsCauseOf}
use Rattle.batch_core.specs.declared.command.Cause.{Cause}
use Rattle.batch_core.specs.declared.command.Command.{Command}
use Rattle.batch_core.specs.declared.command.End.{End}
use Rattle.batch_core.specs.declared.command.End.TheVariants.{Commit, Abort}
use Rattle.batch_core.proofs.BackFacts.{going_back_in_two}
use Rattle.batch_core.proofs.CourseFacts.{after_front, after_front-led}
use Rattle.batch_core.proofs.RunFacts.{along_refused, along_start}
use Rattle.batch_nest.specs.declared.nest.NestLine.{NestLine}
use Rattle.batch_nest.specs.declared.nest.NestLine.TheVariants.{Command as CommandLine, Begin as BeginLine}
use Rattle.batch_nest.specs.declared.nest.NestLine.TheVariants.{Commit as CommitLine, Abort as AbortLine}
use Rattle.batch_nest.specs.Nest.{Body, done, nest_end, nest_lines, nest_course, nest_places}
use Rattle.batch_core.specs.Applied.{RefusedFor}
use Rattle.batch_nest.specs.Applied.{IsThrough}
use Rattle.batch_nest.proofs.AlongFacts.{IsAlongAs, along_again, along_further, same_refused}
use Rattle.batch_nest.proofs.LineFacts.{rest_lines}
use Rattle.batch_nest.proofs.FrameFacts.{Frame, rests_of, marks_of, close_all, close_one, inward, outward_kept, outward_undone}
use Rattle.batch_nest.proofs.FrameFacts.{GoesBack, IsStacked, stacked_from, stands_first, here, done_goes_back, back_at}
use Rattle.batch_nest.proofs.ShapeFacts.{goes_on, goes_in, goes_out, goes_nowhere}

-- ends of lists of numbers tell the lists and the numbers
snoc_tells : (xs ys : List ℕ) (x y : ℕ) → xs ++ x ∷ [] ≡ ys ++ y ∷ [] → (xs ≡ ys) × (x ≡ y)
snoc_tells [] [] x y same = (refl, cc)
snoc_tells [] (b ∷ ys) x y same = absurd (omega (arith, ap length same, length-append (b ∷ ys) (y ∷ [])))
snoc_tells (a ∷ xs) [] x y same = absurd (omega (arith, ap length same, length-append (a ∷ xs) (x ∷ [])))
snoc_tells (a ∷ xs) (b ∷ ys) x y same =
    let tails : xs ++ x ∷ [] ≡ ys ++ y ∷ [] = cc in
    let first : a ≡ b = cc in
    let more = snoc_tells xs ys x y tails in
    ((λ i. first i ∷ more.0 i), more.1)

-- a list that is parted twice behind as many elements has the same rest
same_rest : {A : Type 0} (xs ys us vs : List A) → length xs ≡ length us → xs ++ ys ≡ us ++ vs → ys ≡ vs
same_rest xs ys us vs long same = sym (drop-append_seam xs ys) ∙ (λ i. drop (long i) (same i)) ∙ drop-append_seam us vs

-- a list of no length is empty
pub no_items : {A : Type 0} (xs : List A) → length xs ≡ 0 → xs ≡ []
no_items [] none = refl
no_items (x ∷ xs) none = absurd (omega (arith, none))

-- a mark is found if there is one
pub pop_found : (o : Option ℕ) (old new : List ℕ) → (IsSome o ↔ (0 < length old)) → IfSome o (λ v. old ≡ new ++ v ∷ [])
    → 0 < length old → (mark : ℕ) × (old ≡ new ++ mark ∷ [])
pop_found None old new found last some = let none = found.1 some in absurd (cc)
pop_found (Some mark) old new found last some = (mark, last)

-- none is found only if there is none
pub none_found : (o : Option ℕ) (old : List ℕ) → o ≡ None → (IsSome o ↔ (0 < length old)) → 0 < length old → ⊥
none_found None old is found some = let none = found.1 some in cc
none_found (Some mark) old is found some = cc

module _ {X : Type 0} where
  -- these commands are to come, and leave nothing
  abbrev to_come : List (Stand X) → Contents X → Course X
  to_come stands contents = record { stands = stands; records = []; after = contents }

  -- how far a nest of this body has come: what is left of it, which inner bodies are open, and which commands stood so far
  pub record IsInside (first now : Workspace X) (marked : List ℕ) (count : ℕ) (left : List (NestLine X)) (whole : Body X) : Type 0 where
    pub body : Body X
    pub frames : List (Frame X)
    pub stands : List (Stand X)
    pub later : Course X
    pub lines : left ≡ rest_lines body (rests_of frames)
    -- the course of the whole goes on from here by what is left
    pub course : nest_course first.contents whole ≡ close_all frames (after_front stands now.records (nest_course now.contents body))
    pub marks : marked ≡ marks_of frames
    pub stacked : IsStacked frames now.contents now.records
    pub stood : count ≡ length stands
    pub along : IsAlongAs (nest_course first.contents whole) first now later count

  -- an inner body that ends has a mark, the last one: the start of that body lies there
  pub record IsAtEnd (first now : Workspace X) (marked : List ℕ) (left : List (NestLine X)) (whole : Body X) (stands : List (Stand X))
      (end : End) : Type 0 where
    pub frame : Frame X
    pub others : List (Frame X)
    pub ending : frame.rest.ending ≡ end
    pub lines : left ≡ rest_lines frame.rest.later (rests_of others)
    pub course : nest_course first.contents whole ≡ close_all others
        (close_one frame.rest.ending frame.rest.later frame.contents frame.records
        (after_front stands now.records (nest_course now.contents done)))
    pub marks : marked ≡ marks_of others ++ length frame.records ∷ []
    pub near : GoesBack now.contents now.records frame.contents frame.records
    pub far : IsStacked others frame.contents frame.records

  -- before the first line
  pub inside_first : (first : Workspace X) (marked : List ℕ) (lines : List (NestLine X)) (whole : Body X) → first.records ≡ []
      → marked ≡ [] → lines ≡ nest_lines whole → length (nest_course first.contents whole).stands ≤ first.capacities.records
      → IsInside first first marked 0 lines whole
  inside_first first marked lines whole fresh none is room =
      let course = nest_course first.contents whole in record {
        body = whole;
        frames = [];
        stands = [];
        later = course;
        lines = is;
        course = ap (λ r. after_front [] r course) (sym fresh);
        marks = none;
        stacked = tt;
        stood = refl;
        along = record { batch = course; same = refl; along = along_start course first fresh room };
      }

module _ {X : Type 0} {first now : Workspace X} {marked : List ℕ} {count : ℕ} {left : List (NestLine X)} {whole : Body X} where
  -- the same, once it is known which line comes first
  pub inside_at : (line known : NestLine X) (rest : List (NestLine X)) → left ≡ line ∷ rest → line ≡ known
      → IsInside first now marked count left whole → IsInside first now marked count (known ∷ rest) whole
  inside_at line known rest split is inside =
      subst (λ l. IsInside first now marked count l whole) (split ∙ ap (λ x. x ∷ rest) is) inside

  -- what is to come by the course of the whole comes in the batch
  same_later : (inside : IsInside first now marked count left whole) (coming : List (Stand X))
      → (nest_course first.contents whole).stands ≡ inside.stands ++ coming → inside.later.stands ≡ coming
  same_later inside coming split =
      let batch = inside.along.along in
      same_rest batch.front inside.later.stands inside.stands coming (sym batch.count ∙ inside.stood)
      (sym (ap (λ (course : Course X). course.stands) batch.course) ∙ inside.along.same ∙ split)

module _ {X : Type 0} {first now : Workspace X} {marked : List ℕ} {count : ℕ} {left : List (NestLine X)} {whole : Body X} where
  -- a command comes next in the batch too
  next_in_batch : (command : Command X) → IsInside first now marked count (CommandLine command ∷ left) whole
      → (coming : List (Stand X)) × IsAlongAs (nest_course first.contents whole) first now
      (led_by now.contents command (to_come coming (effect_of now.contents command))) count
  next_in_batch command inside =
      let course = nest_course first.contents whole in
      let shape = goes_on inside.body (rests_of inside.frames) command left inside.lines in
      let stand : Stand X = record { contents = now.contents; command = command } in
      let later = nest_course (effect_of now.contents command) shape.later in
      let more = stands_first inside.frames (after_front inside.stands now.records (led_by now.contents command later)) in
      let coming = later.stands ++ more.0 in
      let split : course.stands ≡ inside.stands ++ stand ∷ coming = ap (λ (k : Course X). k.stands) (inside.course
      ∙ ap (λ b. close_all inside.frames (after_front inside.stands now.records (nest_course now.contents b))) shape.body)
      ∙ more.1 ∙ append_assoc inside.stands (stand ∷ later.stands) more.0 in (
        coming,
        along_again course first now now inside.later (led_by now.contents command (to_come coming (effect_of now.contents command))) count
            inside.along (same_later inside (stand ∷ coming) split) (omega arith) refl refl inside.along.along.back,
      )

  -- after a command
  pub inside_command : (next : Workspace X) (command : Command X) → IsInside first now marked count (CommandLine command ∷ left) whole
      → IsSound now.contents → IsReady now → cause_of now.contents command ≡ None → IsDone now command next → next.room ≡ now.room
      → Grows now.capacities next.capacities → IsInside first next marked (count + 1) left whole
  inside_command next command inside sound ready none took room grows =
      let shape = goes_on inside.body (rests_of inside.frames) command left inside.lines in
      let stand : Stand X = record { contents = now.contents; command = command } in
      let coming = next_in_batch command inside in record {
        body = shape.later;
        frames = inside.frames;
        stands = inside.stands ++ stand ∷ [];
        later = to_come coming.0 next.contents;
        lines = shape.lines;
        course = inside.course
            ∙ ap (λ b. close_all inside.frames (after_front inside.stands now.records (nest_course now.contents b))) shape.body
            ∙ ap (close_all inside.frames)
            (after_front-led inside.stands now.records now.contents command (nest_course (effect_of now.contents command) shape.later))
            ∙ (λ i. close_all inside.frames (after_front (inside.stands ++ stand ∷ []) (sym took.records i)
            (nest_course (sym took.effect i) shape.later)));
        marks = inside.marks;
        stacked = stacked_from inside.frames next.contents next.records now.contents now.records
            (done_goes_back now.contents next.contents now.records next.records command sound none took.effect took.records) inside.stacked;
        stood = omega (arith, inside.stood, length-append inside.stands (stand ∷ []));
        along = along_further (nest_course first.contents whole) first now next command (to_come coming.0) count coming.1 ready sound none
            took room grows;
      }

  -- a command that isn't done refuses the nest
  pub inside_refused : (command : Command X) (ending : End) (cause : Cause)
      → IsInside first now marked count (CommandLine command ∷ left) whole → IsReady now → IsWithin now.capacities now.contents
      → IsCauseOf now command cause
      → RefusedFor first.room (nest_places whole) first.contents (nest_course first.contents whole) ending cause (count + 1)
  inside_refused command ending cause inside ready within is =
      let coming = next_in_batch command inside in
      let batch = coming.1.batch in
      same_refused first.room (nest_places whole) first.contents batch (nest_course first.contents whole) ending cause (count + 1)
      coming.1.same (along_refused (nest_places whole) batch first now command (to_come coming.0 (effect_of now.contents command)) ending
      count cause coming.1.along ready within is)

  -- after a begin
  pub inside_begin : (marked_next : List ℕ) (mark : ℕ) → IsInside first now marked count (BeginLine ∷ left) whole
      → marked_next ≡ marked ++ mark ∷ [] → mark ≡ length now.records → IsInside first now marked_next count left whole
  inside_begin marked_next mark inside next is =
      let shape = goes_in inside.body (rests_of inside.frames) left inside.lines in
      let frame : Frame X = record { rest = shape.rest; contents = now.contents; records = now.records } in
      record {
        body = shape.inner;
        frames = frame ∷ inside.frames;
        stands = inside.stands;
        later = inside.later;
        lines = shape.lines;
        course = inside.course
            ∙ ap (λ b. close_all inside.frames (after_front inside.stands now.records (nest_course now.contents b))) shape.body
            ∙ ap (close_all inside.frames)
            (inward inside.stands now.records now.contents shape.inner shape.rest.ending shape.rest.later);
        marks = next ∙ (λ i. inside.marks i ++ is i ∷ []);
        stacked = (here now.contents now.records, inside.stacked);
        stood = inside.stood;
        along = inside.along;
      }

  at_end : (end : End) (inside : IsInside first now marked count (nest_end end ∷ left) whole)
      → IsAtEnd first now marked left whole inside.stands end
  at_end end inside =
      let shape = goes_out inside.body inside.frames end left inside.lines in
      let stacked = subst (λ fs. IsStacked fs now.contents now.records) shape.frames inside.stacked in
      record {
        frame = shape.frame;
        others = shape.others;
        ending = shape.ending;
        lines = shape.lines;
        course = inside.course
            ∙ (λ i. close_all (shape.frames i) (after_front inside.stands now.records (nest_course now.contents (shape.body i))));
        marks = inside.marks ∙ ap marks_of shape.frames;
        near = stacked.0;
        far = stacked.1;
      }

  -- after a commit
  pub inside_commit : (marked_next : List ℕ) (mark : ℕ) → IsInside first now marked count (CommitLine ∷ left) whole
      → marked ≡ marked_next ++ mark ∷ [] → IsInside first now marked_next count left whole
  inside_commit marked_next mark inside popped =
      let end = at_end Commit inside in
      let f = end.frame in
      record {
        body = f.rest.later;
        frames = end.others;
        stands = inside.stands;
        later = inside.later;
        lines = end.lines;
        course = end.course ∙ ap (close_all end.others)
            (outward_kept inside.stands now.records f.records now.contents f.contents f.rest.later f.rest.ending end.ending);
        marks = (snoc_tells marked_next (marks_of end.others) mark (length f.records) (sym popped ∙ end.marks)).0;
        stacked = stacked_from end.others now.contents now.records f.contents f.records end.near end.far;
        stood = inside.stood;
        along = inside.along;
      }

  -- the mark for an inner body that ends is within the records
  pub mark_within : (marked_next : List ℕ) (mark : ℕ) → IsInside first now marked count (AbortLine ∷ left) whole
      → marked ≡ marked_next ++ mark ∷ [] → mark ≤ length now.records
  mark_within marked_next mark inside popped =
      let end = at_end Abort inside in
      let f = end.frame in
      let told = snoc_tells marked_next (marks_of end.others) mark (length f.records) (sym popped ∙ end.marks) in
      (back_at now.contents now.records f.contents f.records mark told.1 end.near).2

  -- after an abort
  pub inside_abort : (next : Workspace X) (marked_next : List ℕ) (mark : ℕ) → IsInside first now marked count (AbortLine ∷ left) whole
      → marked ≡ marked_next ++ mark ∷ [] → next.contents ≡ back now.contents now.records mark
      → next.records ≡ take mark now.records → next.capacities ≡ now.capacities → next.room ≡ now.room
      → IsInside first next marked_next count left whole
  inside_abort next marked_next mark inside popped contents records capacities room =
      let end = at_end Abort inside in
      let f = end.frame in
      let told = snoc_tells marked_next (marks_of end.others) mark (length f.records) (sym popped ∙ end.marks) in
      let start = back_at now.contents now.records f.contents f.records mark told.1 end.near in
      let same_contents : f.contents ≡ next.contents = sym (contents ∙ start.0) in
      let same_records : f.records ≡ next.records = sym (records ∙ start.1) in
      let fewer : length next.records ≤ length now.records = omega (arith, ap length records, length-take mark now.records) in
      record {
        body = f.rest.later;
        frames = end.others;
        stands = inside.stands;
        later = inside.later;
        lines = end.lines;
        course = end.course ∙ ap (close_all end.others)
            (outward_undone inside.stands now.records f.records now.contents f.contents f.rest.later f.rest.ending end.ending
            ∙ (λ i. after_front inside.stands (same_records i) (nest_course (same_contents i) f.rest.later)));
        marks = told.0;
        stacked = subst (λ c. IsStacked end.others c next.records) same_contents
            (subst (IsStacked end.others f.contents) same_records end.far);
        stood = inside.stood;
        along = along_again (nest_course first.contents whole) first now next inside.later inside.later count inside.along refl fewer
            capacities room ((λ i. undo_all (records i) (contents i))
            ∙ (going_back_in_two now.contents now.records 0 mark (omega arith)).0 ∙ inside.along.along.back);
      }

  -- there is a mark for an inner body that ends
  pub mark_for_end : (end : End) → IsInside first now marked count (nest_end end ∷ left) whole → 0 < length marked
  mark_for_end end inside =
      let ended = at_end end inside in
      omega (arith, ap length ended.marks, length-append (marks_of ended.others) (length ended.frame.records ∷ []))

  -- once no line is left, all commands were done
  pub inside_last : left ≡ [] → IsInside first now marked count left whole → IsThrough first now whole
  inside_last none inside =
      let shape = goes_nowhere inside.body inside.frames (sym none ∙ inside.lines) in
      let course = inside.course
      ∙ (λ i. close_all (shape.1 i) (after_front inside.stands now.records (nest_course now.contents (shape.0 i)))) in
      let batch = inside.along.along in
      let all : (nest_course first.contents whole).stands ≡ batch.front = sym inside.along.same
      ∙ ap (λ (k : Course X). k.stands) batch.course
      ∙ ap (λ l. batch.front ++ l) (same_later inside [] (ap (λ (k : Course X). k.stands) course)) ∙ append-nil batch.front in
      record {
        not_bad = ap first_bad all ∙ batch.good;
        records = sym (ap (λ (k : Course X). k.records) course ∙ append-nil now.records);
        contents = sym (ap (λ (k : Course X). k.after) course);
      }

-- What the first line that is left tells of the body.
use Rattle.std.proofs.Common.{◌≡◌, List, [], ◌∷◌, refl, sym, ap, ◌∙◌}
use Rattle.batch_core.specs.declared.command.Command.{Command}
use Rattle.batch_core.specs.declared.command.End.{End}
use Rattle.batch_core.specs.declared.command.End.TheVariants.{Commit, Abort}
use Rattle.batch_nest.specs.declared.nest.NestLine.{NestLine}
use Rattle.batch_nest.specs.declared.nest.NestLine.TheVariants.{Command as CommandLine, Begin as BeginLine}
use Rattle.batch_nest.specs.Nest.{Body, done, then_command, then_inner, nest_end}
use Rattle.batch_nest.proofs.LineFacts.{Rest, rest_lines, after_command, after_inner}
use Rattle.batch_nest.proofs.FrameFacts.{Frame, rests_of}

module _ {X : Type 0} where
  -- the body goes on with this command, and what follows has these lines
  pub record GoesOn (now : Body X) (rests : List (Rest X)) (command : Command X) (left : List (NestLine X)) : Type 0 where
    pub later : Body X
    pub body : now ≡ then_command command later
    pub lines : left ≡ rest_lines later rests

  -- the body goes on with an inner body, and it and what follows have these lines
  pub record GoesIn (now : Body X) (rests : List (Rest X)) (left : List (NestLine X)) : Type 0 where
    pub inner : Body X
    pub rest : Rest X
    pub body : now ≡ then_inner inner rest.ending rest.later
    pub lines : left ≡ rest_lines inner (rest ∷ rests)

  -- the body is at its end, and what follows has these lines
  pub record GoesOut (now : Body X) (opened : List (Frame X)) (end : End) (left : List (NestLine X)) : Type 0 where
    pub frame : Frame X
    pub others : List (Frame X)
    pub body : now ≡ done
    pub frames : opened ≡ frame ∷ others
    pub ending : frame.rest.ending ≡ end
    pub lines : left ≡ rest_lines frame.rest.later (rests_of others)

  command_not_end : (ending : End) (command : Command X) → CommandLine command ≡ nest_end ending → ⊥
  command_not_end Commit command same = cc
  command_not_end Abort command same = cc

  begin_not_end : (ending : End) → ◌≡◌ {A = NestLine X} BeginLine (nest_end ending) → ⊥
  begin_not_end Commit same = cc
  begin_not_end Abort same = cc

  pub same_end : (a b : End) → ◌≡◌ {A = NestLine X} (nest_end a) (nest_end b) → a ≡ b
  same_end Commit Commit same = refl
  same_end Commit Abort same = absurd (cc)
  same_end Abort Commit same = absurd (cc)
  same_end Abort Abort same = refl

  pub heads : (a b : NestLine X) (xs ys : List (NestLine X)) → a ∷ xs ≡ b ∷ ys → (a ≡ b) × (xs ≡ ys)
  heads a b xs ys same = (cc, cc)

  pub goes_on : (body : Body X) (rests : List (Rest X)) (command : Command X) (lines : List (NestLine X))
      → CommandLine command ∷ lines ≡ rest_lines body rests → GoesOn body rests command lines
  goes_on done [] command lines is = absurd (cc)
  goes_on done (rest ∷ rests) command lines is =
      absurd (command_not_end rest.ending command (heads _ (nest_end rest.ending) lines _ is).0)
  goes_on (then_command other later) rests command lines is =
      let same = heads (CommandLine command) (CommandLine other) lines (rest_lines later rests)
      (is ∙ sym (after_command other later rests)) in
      let called : command ≡ other = (let first = same.0 in cc) in
      record { later = later; body = ap (λ k. then_command k later) (sym called); lines = same.1 }
  goes_on (then_inner inner ending later) rests command lines is =
      let same = heads (CommandLine command) BeginLine lines _ (is ∙ sym (after_inner inner ending later rests)) in
      let differ = same.0 in absurd (cc)

  pub goes_in : (body : Body X) (rests : List (Rest X)) (lines : List (NestLine X)) → BeginLine ∷ lines ≡ rest_lines body rests
      → GoesIn body rests lines
  goes_in done [] lines is = absurd (cc)
  goes_in done (rest ∷ rests) lines is = absurd (begin_not_end rest.ending (heads _ (nest_end rest.ending) lines _ is).0)
  goes_in (then_command other later) rests lines is =
      let same = heads BeginLine (CommandLine other) lines (rest_lines later rests) (is ∙ sym (after_command other later rests)) in
      let differ = same.0 in absurd (cc)
  goes_in (then_inner inner ending later) rests lines is =
      let same = heads BeginLine BeginLine lines _ (is ∙ sym (after_inner inner ending later rests)) in
      record { inner = inner; rest = record { ending = ending; later = later }; body = refl; lines = same.1 }

  pub goes_out : (body : Body X) (frames : List (Frame X)) (ending : End) (lines : List (NestLine X))
      → nest_end ending ∷ lines ≡ rest_lines body (rests_of frames) → GoesOut body frames ending lines
  goes_out done [] ending lines is = absurd (cc)
  goes_out done (frame ∷ frames) ending lines is =
      let same = heads (nest_end ending) (nest_end frame.rest.ending) lines _ is in record {
        frame = frame;
        others = frames;
        body = refl;
        frames = refl;
        ending = sym (same_end ending frame.rest.ending same.0);
        lines = same.1;
      }
  goes_out (then_command other later) frames ending lines is =
      let same = heads (nest_end ending) (CommandLine other) lines _ (is ∙ sym (after_command other later (rests_of frames))) in
      absurd (command_not_end ending other (sym same.0))
  goes_out (then_inner inner end later) frames ending lines is =
      let same = heads (nest_end ending) BeginLine lines _ (is ∙ sym (after_inner inner end later (rests_of frames))) in
      absurd (begin_not_end ending (sym same.0))

  -- no line is left: the body is at its end, and no other one is open
  pub goes_nowhere : (body : Body X) (frames : List (Frame X)) → [] ≡ rest_lines body (rests_of frames) → (body ≡ done) × (frames ≡ [])
  goes_nowhere done [] is = (refl, refl)
  goes_nowhere done (frame ∷ frames) is = absurd (cc)
  goes_nowhere (then_command other later) frames is = let differ = is ∙ sym (after_command other later (rests_of frames)) in absurd (cc)
  goes_nowhere (then_inner inner end later) frames is =
      let differ = is ∙ sym (after_inner inner end later (rests_of frames)) in absurd (cc)

-- The lines of a nest tell its body.
use Rattle.std.specs.Prelude.{⊤}
use Rattle.std.proofs.Common.{◌≡◌, List, [], ◌∷◌, ◌++◌, refl, sym, subst, ◌∙◌, append_assoc}
use Rattle.std.proofs.lemmas.List.{append-nil}
use Rattle.batch_core.specs.declared.command.End.{End}
use Rattle.batch_core.specs.declared.command.End.TheVariants.{Commit, Abort}
use Rattle.batch_nest.specs.declared.nest.NestLine.{NestLine}
use Rattle.batch_nest.specs.declared.nest.NestLine.TheVariants.{Command as CommandLine, Begin as BeginLine}
use Rattle.batch_nest.specs.declared.nest.NestLine.TheVariants.{Commit as CommitLine, Abort as AbortLine}
use Rattle.batch_nest.specs.Laws.{LinesTellTheBody}
use Rattle.batch_nest.specs.Nest.{Body, done, then_command, then_inner, nest_end, nest_lines}
use Rattle.batch_nest.proofs.LawFacts.{same_command}
use Rattle.batch_nest.proofs.ShapeFacts.{heads, same_end}

module _ {X : Type 0} where
  -- no more of a body stands here: there is no line, or its end
  abbrev pub EndsHere : List (NestLine X) → Type 0
  EndsHere [] = ⊤
  EndsHere (CommandLine command ∷ lines) = ⊥
  EndsHere (BeginLine ∷ lines) = ⊥
  EndsHere (CommitLine ∷ lines) = ⊤
  EndsHere (AbortLine ∷ lines) = ⊤

  -- an end of a body does
  pub ends_at : (ending : End) (lines : List (NestLine X)) → EndsHere (nest_end ending ∷ lines)
  ends_at Commit lines = tt
  ends_at Abort lines = tt

  -- the lines of two bodies, each up to its end, tell the bodies and what follows them
  pub tells : (a b : Body X) (x y : List (NestLine X)) → EndsHere x → EndsHere y → nest_lines a ++ x ≡ nest_lines b ++ y → (a ≡ b) × (x ≡ y)
  tells done done x y end other same = (refl, same)
  tells done (then_command command later) x y end other same = absurd (subst EndsHere same end)
  tells done (then_inner inner ending later) x y end other same = absurd (subst EndsHere same end)
  tells (then_command command later) done x y end other same = absurd (subst EndsHere (sym same) other)
  tells (then_inner inner ending later) done x y end other same = absurd (subst EndsHere (sym same) other)
  tells (then_command command later) (then_command named more) x y end other same =
      let both = heads (CommandLine command) (CommandLine named) (nest_lines later ++ x) (nest_lines more ++ y) same in
      let rest = tells later more x y end other both.1 in
      (λ i. then_command (same_command command named both.0 i) (rest.0 i), rest.1)
  tells (then_command command later) (then_inner inner ending more) x y end other same =
      let differ = (heads (CommandLine command) BeginLine (nest_lines later ++ x) _ same).0 in absurd (cc)
  tells (then_inner inner ending later) (then_command command more) x y end other same =
      let differ = (heads BeginLine (CommandLine command) _ (nest_lines more ++ y) same).0 in absurd (cc)
  tells (then_inner inner ending later) (then_inner within closing more) x y end other same =
      let both = heads BeginLine BeginLine ((nest_lines inner ++ nest_end ending ∷ nest_lines later) ++ x)
      ((nest_lines within ++ nest_end closing ∷ nest_lines more) ++ y) same in
      let inside = tells inner within (nest_end ending ∷ (nest_lines later ++ x)) (nest_end closing ∷ (nest_lines more ++ y))
      (ends_at ending (nest_lines later ++ x)) (ends_at closing (nest_lines more ++ y))
      (sym (append_assoc (nest_lines inner) (nest_end ending ∷ nest_lines later) x) ∙ both.1
      ∙ append_assoc (nest_lines within) (nest_end closing ∷ nest_lines more) y) in
      let ended = heads (nest_end ending) (nest_end closing) (nest_lines later ++ x) (nest_lines more ++ y) inside.1 in
      let rest = tells later more x y end other ended.1 in
      (λ i. then_inner (inside.0 i) (same_end ending closing ended.0 i) (rest.0 i), rest.1)

  -- the lines of a nest tell its body
  pub lines_tell : LinesTellTheBody X
  lines_tell body other same =
      (tells body other [] [] tt tt (append-nil (nest_lines body) ∙ same ∙ sym (append-nil (nest_lines other)))).0

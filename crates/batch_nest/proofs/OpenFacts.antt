-- What a line does to a nest that has begun, and where reading it stops.
use Rattle.std.proofs.Common.{◌≡◌, ℕ, zero, suc, List, [], ◌∷◌, ◌++◌, map, refl, sym, ap, ◌∙◌, subst, append_assoc}
use Rattle.std.proofs.Math.Logic.{◌⊎◌, inl, inr}
use Rattle.std.proofs.lemmas.List.{append-nil}
use Rattle.std.specs.List.{AllByRecursion}
use Rattle.batch_core.specs.declared.command.End.{End}
use Rattle.batch_core.specs.declared.command.End.TheVariants.{Commit, Abort}
use Rattle.batch_script.specs.Grammar.{Line}
use Rattle.batch_script.proofs.ListFacts.{AllByRecursion-behind}
use Rattle.batch_script.proofs.PrefixFacts.{HasWhole}
use Rattle.batch_nest.specs.declared.nest.NestLine.{NestLine}
use Rattle.batch_nest.specs.declared.nest.NestLine.TheVariants.{Command as CommandLine, Begin as BeginLine}
use Rattle.batch_nest.specs.declared.nest.NestLine.TheVariants.{Commit as CommitLine, Abort as AbortLine}
use Rattle.batch_nest.specs.Nest.{Body, IsBalanced, body_of, nest_lines, nest_end}
use Rattle.batch_nest.specs.Reading.{commits}
use Rattle.batch_nest.specs.Script.{IsValidLine, nest_printing, printed_line}
use Rattle.batch_nest.proofs.LineFacts.{Closes, Steps, balanced_closes, closes_balanced}
use Rattle.batch_nest.proofs.PrintFacts.{closed_lines, closed_printed, closed_valid, one_is_longer}
use Rattle.batch_nest.proofs.TellFacts.{ends_at, tells}

-- with so many bodies open before these lines, so many are open behind them
record Leaves (start depth : ℕ) (lines : List (NestLine ℕ)) : Type 0 where
  pub on : (more : List (NestLine ℕ)) → Closes start (lines ++ more) → Closes depth more
  pub back : (more : List (NestLine ℕ)) → Closes depth more → Closes start (lines ++ more)

-- lines that go on to close all leave some number open
leaves_some : (start : ℕ) (lines more : List (NestLine ℕ)) → Closes start (lines ++ more) → (depth : ℕ) × Leaves start depth lines
leaves_some start [] more closes = (start, record { on = λ more closes. closes; back = λ more closes. closes })
leaves_some start (CommandLine command ∷ lines) more closes =
    let later = leaves_some start lines more closes in (later.0, record { on = later.1.on; back = later.1.back })
leaves_some start (BeginLine ∷ lines) more closes =
    let later = leaves_some (suc start) lines more closes in (later.0, record { on = later.1.on; back = later.1.back })
leaves_some zero (CommitLine ∷ lines) more closes = absurd closes
leaves_some (suc start) (CommitLine ∷ lines) more closes =
    let later = leaves_some start lines more closes in (later.0, record { on = later.1.on; back = later.1.back })
leaves_some zero (AbortLine ∷ lines) more closes = absurd closes
leaves_some (suc start) (AbortLine ∷ lines) more closes =
    let later = leaves_some start lines more closes in (later.0, record { on = later.1.on; back = later.1.back })

-- as many are open as there are commits that close them
commits_close : (depth : ℕ) → Closes depth (commits depth)
commits_close zero = refl
commits_close (suc depth) = commits_close depth

so_many_open : (opened depth : ℕ) → Closes opened (commits depth) → opened ≡ depth
so_many_open zero zero closes = refl
so_many_open zero (suc depth) closes = absurd closes
so_many_open (suc opened) zero closes = closes
so_many_open (suc opened) (suc depth) closes = ap suc (so_many_open opened depth closes)

-- with so many more commits the lines are balanced
abbrev pub IsOpenAt : List (NestLine ℕ) → ℕ → Type 0
IsOpenAt lines depth = IsBalanced (lines ++ commits depth)

-- so that many are open behind them
leaves_open : (lines : List (NestLine ℕ)) (depth : ℕ) → IsOpenAt lines depth → Leaves 0 depth lines
leaves_open lines depth opened =
    let closes = closes_balanced (lines ++ commits depth) opened in
    let some = leaves_some 0 lines (commits depth) closes in
    subst (λ depth. Leaves 0 depth lines) (so_many_open some.0 depth (some.1.on (commits depth) closes)) some.1

-- one line more
pub open_line : (lines : List (NestLine ℕ)) (depth next : ℕ) (line : NestLine ℕ) → Steps depth next line → IsOpenAt lines depth
    → IsOpenAt (lines ++ line ∷ []) next
open_line lines depth next line step opened =
    balanced_closes ((lines ++ line ∷ []) ++ commits next)
    (subst (Closes 0) (sym (append_assoc lines (line ∷ []) (commits next)))
    ((leaves_open lines depth opened).back (line ∷ commits next) (step.back (commits next) (commits_close next))))

-- no line: nothing is open
pub open_start : IsOpenAt [] 0
open_start = balanced_closes [] refl

-- an end is one of two lines
pub end_is : (ending : End) → (nest_end {T = ℕ} ending ≡ CommitLine) ⊎ (nest_end {T = ℕ} ending ≡ AbortLine)
end_is Commit = inl refl
end_is Abort = inr refl

-- with none open the lines are those of a body
pub balanced_at_none : (lines : List (NestLine ℕ)) (depth : ℕ) → depth ≡ 0 → IsOpenAt lines depth → IsBalanced lines
balanced_at_none lines depth none opened =
    subst IsBalanced (append-nil lines) (subst (λ depth. IsOpenAt lines depth) none opened)

-- lines that can still be balanced don't hold a whole body with its end
never_closed : (lines : List (NestLine ℕ)) (depth : ℕ) (body : Body ℕ) (ending : End) (behind : List (NestLine ℕ))
    → IsOpenAt lines depth → lines ≡ closed_lines body ending ++ behind → ⊥
never_closed lines depth body ending behind opened is =
    let more = behind ++ commits depth in
    let whole = body_of (lines ++ commits depth) in
    let same : nest_lines body ++ nest_end ending ∷ more ≡ nest_lines whole ++ [] =
    sym (append_assoc (nest_lines body) (nest_end ending ∷ []) more)
    ∙ (sym (append_assoc (closed_lines body ending) behind (commits depth))
    ∙ (ap (λ l. l ++ commits depth) (sym is) ∙ (opened ∙ sym (append-nil (nest_lines whole))))) in
    let none = (tells body whole (nest_end ending ∷ more) [] (ends_at ending more) tt same).1 in
    cc

-- the line is the print of a line of a nest
abbrev pub GoesOnNest : Line → Type 0
GoesOnNest line = (known : NestLine ℕ) × IsValidLine known × (line ≡ printed_line known)

-- lines that can still be balanced are shorter than a body with its end, and the next one of that comes behind them
next_is_known : (lines : List (NestLine ℕ)) (depth : ℕ) (body : Body ℕ) (ending : End) (line : Line) (rest more : List Line)
    (behind : List (NestLine ℕ)) → IsOpenAt lines depth → AllByRecursion IsValidLine (closed_lines body ending)
    → closed_lines body ending ≡ lines ++ behind → line ∷ rest ≡ map printed_line behind ++ more → GoesOnNest line
next_is_known lines depth body ending line rest more [] opened valid is same =
    absurd (never_closed lines depth body ending [] opened
    (sym (append-nil lines) ∙ (sym is ∙ sym (append-nil (closed_lines body ending)))))
next_is_known lines depth body ending line rest more (known ∷ behind) opened valid is same =
    let first : line ≡ printed_line known = cc in
    (known, (AllByRecursion-behind IsValidLine lines (known ∷ behind) (subst (AllByRecursion IsValidLine) is valid)).0, first)

none_behind : (lines closed behind : List (NestLine ℕ)) (more : List Line) → closed ≡ lines ++ behind
    → [] ≡ map printed_line behind ++ more → lines ≡ closed ++ []
none_behind lines closed [] more is none = sym (append-nil lines) ∙ (sym is ∙ sym (append-nil closed))
none_behind lines closed (line ∷ behind) more is none = absurd (let bad : _ = none in cc)

module _ (lines : List (NestLine ℕ)) (depth : ℕ) (valid : AllByRecursion IsValidLine lines) (opened : IsOpenAt lines depth) where
  -- behind the lines of a nest that has begun comes a line of a nest
  pub next_in_nest : (line : Line) (rest : List Line) → HasWhole nest_printing (map printed_line lines ++ line ∷ rest) → GoesOnNest line
  next_in_nest line rest whole =
      let closed = closed_lines whole.body whole.ending in
      let sound = closed_valid whole.body whole.ending whole.valid in
      elim (one_is_longer lines closed (line ∷ rest) whole.rest valid sound (whole.same
      ∙ closed_printed whole.body whole.ending whole.rest)) [
        | inl longer ↦ next_is_known lines depth whole.body whole.ending line rest whole.rest longer.behind opened sound longer.lines_are
            longer.rest_is
        | inr longer ↦ absurd (never_closed lines depth whole.body whole.ending longer.behind opened longer.lines_are)
      ]

  -- they alone are no whole nest
  pub unended_nest : ¬ HasWhole nest_printing (map printed_line lines)
  unended_nest whole =
      let closed = closed_lines whole.body whole.ending in
      elim (one_is_longer lines closed [] whole.rest valid (closed_valid whole.body whole.ending whole.valid)
      (append-nil (map printed_line lines) ∙ (whole.same ∙ closed_printed whole.body whole.ending whole.rest))) [
        | inl longer ↦ never_closed lines depth whole.body whole.ending [] opened
            (none_behind lines closed longer.behind whole.rest longer.lines_are longer.rest_is)
        | inr longer ↦ never_closed lines depth whole.body whole.ending longer.behind opened longer.lines_are
      ]

-- What begins a script, and the line of the fault where none goes on.
use Rattle.std.proofs.Common.{◌≡◌, ℕ, ◌+◌, ◌<◌, ◌≤◌, List, [], ◌∷◌, ◌++◌, length, take, drop, sym, ap, ◌∙◌, subst}
use Rattle.std.proofs.Common.{inl, inr, arith, append_assoc, length-drop, take-take, refl}
use Rattle.std.proofs.lemmas.List.{take-append-drop, append-nil, drop-drop}
use Rattle.std.proofs.lemmas.List.Concat.{flat_map-append}
use Rattle.std.proofs.Math.Seq.{take-add}
use Rattle.batch_script.specs.Machine.{ItemOf}
use Rattle.batch_script.specs.Grammar.{Line, lines_of, Printing, printed_over, all_lines_over}
use Rattle.batch_script.specs.Grammar.{IsOpenOver, IsScriptOver, IsFaultLineOver}

-- if line comes after the first count lines, the first count + 1 lines are those and line
pub take_next : (lines : List Line) (count : ℕ) (line : Line) (later : List Line) → drop count lines ≡ line ∷ later
    → take (count + 1) lines ≡ take count lines ++ line ∷ []
take_next lines count line later next = take-add count 1 lines ∙ ap (λ rest. take count lines ++ take 1 rest) next

-- if line comes after the first count lines, and then later, later is what comes after the first count + 1 lines
pub drop_next : (lines : List Line) (count : ℕ) (line : Line) (later : List Line) → drop count lines ≡ line ∷ later
    → drop (count + 1) lines ≡ later
drop_next lines count line later next = sym (drop-drop 1 count lines) ∙ ap (drop 1) next

-- with no byte left no line is left
pub no_lines : (rest : List ℕ) → length rest ≡ 0 → lines_of rest ≡ []
no_lines [] none = refl
no_lines (byte ∷ rest) none = absurd (omega arith)

-- with no line left the first lines are all lines
pub take_to_end : (lines : List Line) (count : ℕ) → drop count lines ≡ [] → take count lines ≡ lines
take_to_end lines count next =
    let whole = take-append-drop count lines in
    sym (append-nil (take count lines)) ∙ (rw next at whole)

module _ {B : Type 0} (printing : Printing B) where
  -- the lines of items and of more items are those of all of them
  pub all_lines-append : (xs ys : List (ItemOf B)) → all_lines_over printing (xs ++ ys)
      ≡ all_lines_over printing xs ++ all_lines_over printing ys
  all_lines-append xs ys = flat_map-append (printed_over printing) xs ys

  -- a prefix of lines that begin a script begins one too
  pub IsOpen-front : (front rest : List Line) → IsOpenOver printing (front ++ rest) → IsOpenOver printing front
  IsOpen-front front rest opened = (opened.0, rest ++ opened.1, opened.2, sym (append_assoc front rest opened.1) ∙ opened.3)

  -- each prefix of the lines of a script begins a script
  pub IsOpen-script : (input : List ℕ) (count : ℕ) → IsScriptOver printing input → IsOpenOver printing (take count (lines_of input))
  IsOpen-script input count script =
      (script.0, drop count (lines_of input), script.1.valid, take-append-drop count (lines_of input) ∙ script.1.lines)

  IsOpen-take : (lines : List Line) (count : ℕ) → IsOpenOver printing lines → IsOpenOver printing (take count lines)
  IsOpen-take lines count opened =
      IsOpen-front (take count lines) (drop count lines) (subst (IsOpenOver printing) (sym (take-append-drop count lines)) opened)

  fewer_open : (lines : List Line) (count fewer : ℕ) → fewer ≤ count → IsOpenOver printing (take count lines)
      → IsOpenOver printing (take fewer lines)
  fewer_open lines count fewer below opened =
      subst (IsOpenOver printing) (take-take fewer count lines below) (IsOpen-take (take count lines) fewer opened)

  -- the fault is at the first line with which no script begins
  pub IsFaultLine-at : (input : List ℕ) (count : ℕ) (line : Line) (later : List Line) → IsOpenOver printing (take count (lines_of input))
      → drop count (lines_of input) ≡ line ∷ later → ¬ IsOpenOver printing (take count (lines_of input) ++ line ∷ [])
      → (¬ IsScriptOver printing input) × IsFaultLineOver printing input (count + 1)
  IsFaultLine-at input count line later opened next stuck =
      let lines = lines_of input in
      let short : count < length lines = omega (arith, length-drop count lines, ap length next) in
      let front : take (count + 1) lines ≡ take count lines ++ line ∷ [] = take_next lines count line later next in
      let closed : ¬ IsOpenOver printing (take (count + 1) lines) = λ whole. stuck (subst (IsOpenOver printing) front whole) in (
        (λ script. closed (IsOpen-script input (count + 1) script)),
        record {
          counted = omega arith;
          before = λ fewer below. fewer_open lines count fewer (omega arith) opened;
          least = inl (omega arith, closed);
        },
      )

  -- if all lines begin a script and the input is none, the fault is behind the last line
  pub IsFaultLine-end : (input : List ℕ) (count : ℕ) → IsOpenOver printing (take count (lines_of input)) → drop count (lines_of input) ≡ []
      → count ≤ length (lines_of input) → IsFaultLineOver printing input (count + 1)
  IsFaultLine-end input count opened next within =
      let all : length (lines_of input) ≡ count = omega (arith, length-drop count (lines_of input), ap length next) in
      record {
        counted = omega arith;
        before = λ fewer below. fewer_open (lines_of input) count fewer (omega arith) opened;
        least = inr (omega arith);
      }

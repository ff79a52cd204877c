-- Words that ask for a generated run ask for one alone.
use Rattle.std.proofs.Common.{◌≡◌, ℕ, ◌^◌, ◌<◌, List, [], ◌∷◌, sym, ◌∙◌, arith}
use Rattle.std.specs.Fmt.{decimal}
use Rattle.std.proofs.lemmas.Fmt.{decimal_injective}
use Rattle.batch_script.specs.Words.{AreForRun}

-- the third text is the number of batches
pub same_count : (word from text : List ℕ) (count seed many : ℕ) → text ≡ decimal count → count < 2 ^ 64
    → AreForRun (word ∷ from ∷ text ∷ []) seed many → count ≡ many
same_count word from text count seed many is small asks =
    let said = asks.said in let few = asks.within_limit in
    let third : text ≡ decimal many = cc in decimal_injective count many small (omega arith) (sym is ∙ third)

-- the two numbers are known by the texts
pub one_run : (texts : List (List ℕ)) (seed count other many : ℕ) → AreForRun texts seed count → AreForRun texts other many
    → (seed ≡ other) × (count ≡ many)
one_run texts seed count other many asks same =
    let said = sym asks.said ∙ same.said in
    let few = asks.within_limit in let less = same.within_limit in
    let second : decimal seed ≡ decimal other = cc in
    let third : decimal count ≡ decimal many = cc in
    (decimal_injective seed other asks.seed_fits same.seed_fits second, decimal_injective count many (omega arith) (omega arith) third)

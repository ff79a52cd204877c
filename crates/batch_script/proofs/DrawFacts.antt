-- Draws that follow others, and what is made of them.
use Rattle.std.proofs.Common.{◌≡◌, ℕ, zero, suc, ◌+◌, ◌*◌, List, [], ◌∷◌, ◌++◌, map, sym, ap, ◌∙◌, arith}
use Rattle.std.specs.List.{range_with_len}
use Rattle.std.proofs.lemmas.List.FromFn.{map-range_with_len_more}
use Rattle.batch_script.specs.Generated.{next_number, number_after}

-- so many draws, and then so many more
pub number_after-more : (more draws number : ℕ) → number_after more (number_after draws number) ≡ number_after (more + draws) number
number_after-more zero draws number = let sum : draws ≡ 0 + draws = omega arith in ap (λ all. number_after all number) sum
number_after-more (suc more) draws number =
    let sum : suc (more + draws) ≡ suc more + draws = omega arith in
    ap next_number (number_after-more more draws number) ∙ ap (λ all. number_after all number) sum

one_more : (size count : ℕ) → size + size * count ≡ size * (count + 1)
one_more size count = grind arith

-- one step more of as many draws each
pub number_after-step : (size count number held next : ℕ) → held ≡ number_after (size * count) number → next ≡ number_after size held
    → next ≡ number_after (size * (count + 1)) number
number_after-step size count number held next was is =
    is ∙ ap (number_after size) was ∙ number_after-more size (size * count) number
    ∙ ap (λ draws. number_after draws number) (one_more size count)

module _ {X : Type 0} (made : ℕ → X) (size : ℕ) where
  -- what is made of the number that each step begins with, for so many steps
  abbrev pub made_in_steps : ℕ → ℕ → List X
  made_in_steps number count = map (λ k. made (number_after (size * k) number)) (range_with_len 0 count)

  -- one more is made of the number that is held by then
  pub made-more : (number count held : ℕ) → held ≡ number_after (size * count) number
      → made_in_steps number count ++ made held ∷ [] ≡ made_in_steps number (count + 1)
  made-more number count held is =
      ap (λ x. made_in_steps number count ++ made x ∷ []) is
      ∙ sym (map-range_with_len_more (λ k. made (number_after (size * k) number)) 0 count count (omega arith))

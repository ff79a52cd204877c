-- The run of a closure on numbers, call after call.
use Rattle.std.proofs.Common.{◌≡◌, ◌+◌, ℕ, zero, suc, arith, List, [], ◌∷◌, ◌++◌, refl, sym, ap, ◌∙◌, subst}
use Rattle.std.specs.List.{range_with_len}
use Rattle.wic_vec.specs.ClosureRun.{ClosureRun}

module _ {F R : Type 0} (call : F → ℕ → R → F → Type 0) where
  -- a run, and one more call at its end
  run_more : (f mid last : F) (xs : List ℕ) (rs : List R) (x : ℕ) (r : R) → ClosureRun call f xs rs mid → call mid x r last
      → ClosureRun call f (xs ++ x ∷ []) (rs ++ r ∷ []) last
  run_more f mid last [] [] x r run step = (last, subst (λ g. call g x r last) (sym run) step, refl)
  run_more f mid last [] (s ∷ rs) x r run step = absurd run
  run_more f mid last (y ∷ xs) [] x r run step = absurd run
  run_more f mid last (y ∷ xs) (s ∷ rs) x r run step = (run.0, run.1, run_more run.0 mid last xs rs x r run.2 step)

  -- the numbers below i, and then i
  range_more : (from n j : ℕ) → from + n ≡ j → range_with_len from (n + 1) ≡ range_with_len from n ++ j ∷ []
  range_more from zero j sum = let first : from ≡ j = omega arith in λ k. first k ∷ []
  range_more from (suc n) j sum =
      let longer : suc n + 1 ≡ suc (n + 1) = omega arith in
      ap (range_with_len from) longer ∙ ap (λ l. from ∷ l) (range_more (from + 1) n j (omega arith))

  -- the calls at the numbers below i, and one more at i, are those at the numbers below i + 1
  pub one_more_call : (f mid last : F) (i : ℕ) (rs : List R) (r : R) → ClosureRun call f (range_with_len 0 i) rs mid
      → call mid i r last → ClosureRun call f (range_with_len 0 (i + 1)) (rs ++ r ∷ []) last
  one_more_call f mid last i rs r run step =
      subst (λ l. ClosureRun call f l (rs ++ r ∷ []) last) (sym (range_more 0 i i (omega arith)))
      (run_more f mid last (range_with_len 0 i) rs i r run step)

-- A range of numbers, cut in two, and what a test keeps of it.
use Rattle.std.proofs.Common.{⊎_elim, ◌≡◌, ◌≢◌, ℕ, zero, suc, ◌+◌, ◌<◌, ◌≤◌, Bool, true, false, not, ◌&&◌, cond}
use Rattle.std.proofs.Common.{List, [], ◌∷◌, ◌++◌, refl, ap, ◌∙◌, arith, zero-add, add-zero}
use Rattle.std.specs.Prelude.{◌==◌, Option, Some, None}
use Rattle.std.specs.List.{filter, range_with_len, last_or, slice_get}
use Rattle.std.proofs.lemmas.Bool.{cases_eq}
use Rattle.std.proofs.lemmas.Bool.Decides.{nat_tests}

-- a range of m + n numbers is one of m and, right after it, one of n
pub range_append : (a m n : ℕ) → range_with_len a (m + n) ≡ range_with_len a m ++ range_with_len (a + m) n
range_append a zero n = rw (zero-add, add-zero) refl
range_append a (suc m) n =
    let e : suc m + n ≡ suc (m + n) = omega arith in
    let f : a + 1 + m ≡ a + suc m = omega arith in
    rw e (ap (λ xs. a ∷ xs) (range_append (a + 1) m n ∙ ap (λ b. range_with_len (a + 1) m ++ range_with_len b n) f))

-- two tests that agree on the range keep the same numbers
pub filter_agree_in : (p q : ℕ → Bool) (a n : ℕ) → ((i : ℕ) → a ≤ i → i < a + n → p i ≡ q i)
    → filter p (range_with_len a n) ≡ filter q (range_with_len a n)
filter_agree_in p q a zero same = refl
filter_agree_in p q a (suc n) same =
    let here : p a ≡ q a = same a (omega arith) (omega arith) in
    let rest : filter p (range_with_len (a + 1) n) ≡ filter q (range_with_len (a + 1) n) =
    filter_agree_in p q (a + 1) n (λ i low high. same i (omega arith) (omega arith)) in
    rw (here, rest) refl

-- a test that fails on the range keeps nothing
pub filter_none_in : (p : ℕ → Bool) (a n : ℕ) → ((i : ℕ) → a ≤ i → i < a + n → p i ≡ false) → filter p (range_with_len a n) ≡ []
filter_none_in p a zero none = refl
filter_none_in p a (suc n) none =
    rw (none a (omega arith) (omega arith)) (filter_none_in p (a + 1) n (λ i low high. none i (omega arith) (omega arith)))

-- a test that passes on the range keeps it
pub filter_all_in : (p : ℕ → Bool) (a n : ℕ) → ((i : ℕ) → a ≤ i → i < a + n → p i ≡ true)
    → filter p (range_with_len a n) ≡ range_with_len a n
filter_all_in p a zero all = refl
filter_all_in p a (suc n) all =
    rw (all a (omega arith) (omega arith))
    (ap (λ xs. a ∷ xs) (filter_all_in p (a + 1) n (λ i low high. all i (omega arith) (omega arith))))

-- z is the first of the range that passes p, and q is p without z
pub filter_first : (p q : ℕ → Bool) (z a n : ℕ) → a ≤ z → z < a + n → p z ≡ true → ((i : ℕ) → a ≤ i → i < z → p i ≡ false)
    → ((i : ℕ) → a ≤ i → i < a + n → q i ≡ (p i && not (i == z))) → filter p (range_with_len a n) ≡ z ∷ filter q (range_with_len a n)
filter_first p q z a zero low high one none without = absurd (omega arith)
filter_first p q z a (suc n) low high one none without = ⊎_elim
    (λ same.
    let p_here : p a ≡ true = ap p same ∙ one in
    let q_here : q a ≡ false = let w = without a (omega arith) (omega arith) in grind (arith, nat_tests) in
    let rest : filter p (range_with_len (a + 1) n) ≡ filter q (range_with_len (a + 1) n) =
    filter_agree_in p q (a + 1) n (λ i l h. let w = without i (omega arith) (omega arith) in let apart : i ≢ z = omega arith in
    grind (arith, nat_tests)) in
    rw (p_here, q_here, rest, same) refl)
    (λ apart.
    let p_here : p a ≡ false = none a (omega arith) (omega arith) in
    let q_here : q a ≡ false = let w = without a (omega arith) (omega arith) in grind (arith, nat_tests) in
    rw (p_here, q_here) (filter_first p q z (a + 1) n (omega arith) (omega arith) one (λ i l h. none i (omega arith) h)
    (λ i l h. without i (omega arith) (omega arith))))
    (cases_eq a z)

-- z is the last of the range that passes p, and q is p without z
pub filter_last : (p q : ℕ → Bool) (z a n : ℕ) → a ≤ z → z < a + n → p z ≡ true → ((i : ℕ) → z < i → i < a + n → p i ≡ false)
    → ((i : ℕ) → a ≤ i → i < a + n → q i ≡ (p i && not (i == z)))
    → filter p (range_with_len a n) ≡ filter q (range_with_len a n) ++ z ∷ []
filter_last p q z a zero low high one none without = absurd (omega arith)
filter_last p q z a (suc n) low high one none without = ⊎_elim
    (λ same.
    let p_here : p a ≡ true = ap p same ∙ one in
    let q_here : q a ≡ false = let w = without a (omega arith) (omega arith) in grind (arith, nat_tests) in
    let p_rest : filter p (range_with_len (a + 1) n) ≡ [] = filter_none_in p (a + 1) n (λ i l h. none i (omega arith) (omega arith)) in
    let q_rest : filter q (range_with_len (a + 1) n) ≡ [] =
    filter_none_in q (a + 1) n (λ i l h. let w = without i (omega arith) (omega arith) in let e =
    none i (omega arith) (omega arith) in grind (arith, nat_tests)) in
    rw (p_here, q_here, p_rest, q_rest, same) refl)
    (λ apart.
    let agree : q a ≡ p a = let w = without a (omega arith) (omega arith) in grind (arith, nat_tests) in
    let rest : filter p (range_with_len (a + 1) n) ≡ filter q (range_with_len (a + 1) n) ++ z ∷ [] =
    filter_last p q z (a + 1) n (omega arith) (omega arith) one (λ i l h. none i l (omega arith))
    (λ i l h. without i (omega arith) (omega arith)) in
    rw (agree, rest) (elim (p a) as
    (λ b. cond b (a ∷ (filter q (range_with_len (a + 1) n) ++ z ∷ [])) (filter q (range_with_len (a + 1) n) ++ z ∷ []) ≡ cond b
    (a ∷ filter q (range_with_len (a + 1) n)) (filter q (range_with_len (a + 1) n)) ++ z ∷ []) [ true ↦ refl | false ↦ refl ]))
    (cases_eq a z)

-- the first number that passes is the first that is kept
pub first_of_filter : (p : ℕ → Bool) (z a n : ℕ) → a ≤ z → z < a + n → p z ≡ true → ((i : ℕ) → a ≤ i → i < z → p i ≡ false)
    → slice_get (filter p (range_with_len a n)) 0 ≡ Some z
first_of_filter p z a n low high one none =
    ap (λ xs. slice_get xs 0) (filter_first p (λ i. p i && not (i == z)) z a n low high one none (λ _ _ _. refl))

-- the last of a list that ends in x
last_or-push : (o : Option ℕ) (xs : List ℕ) (x : ℕ) → last_or o (xs ++ x ∷ []) ≡ Some x
last_or-push o [] x = refl
last_or-push o (y ∷ ys) x = last_or-push (Some y) ys x

-- the last number that passes is the last that is kept
pub last_of_filter : (p : ℕ → Bool) (z a n : ℕ) → a ≤ z → z < a + n → p z ≡ true → ((i : ℕ) → z < i → i < a + n → p i ≡ false)
    → last_or None (filter p (range_with_len a n)) ≡ Some z
last_of_filter p z a n low high one none =
    ap (last_or None) (filter_last p (λ i. p i && not (i == z)) z a n low high one none (λ _ _ _. refl))
    ∙ last_or-push None (filter (λ i. p i && not (i == z)) (range_with_len a n)) z

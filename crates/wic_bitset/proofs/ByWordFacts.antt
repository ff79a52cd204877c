-- The members of a set, word by word.
use Rattle.std.proofs.Common.{⊎_elim, ◌≡◌, ◌≢◌, ℕ, zero, suc, ◌+◌, ◌-◌, ◌*◌, ◌/◌, ◌<◌, ◌≤◌, true, false, List, [], ◌∷◌, ◌++◌, map}
use Rattle.std.proofs.Common.{append-nil, add-zero, refl, sym, ap, ◌∙◌, ◌↔◌, arith}
use Rattle.std.specs.List.{filter, flat_map, list_any, range_with_len}
use Rattle.std.specs.Ordering.{nat_cmp, eq_by_cmp}
use Rattle.std.specs.Cmp.{nat_cmp_total, unsigned_tied}
use Rattle.std.specs.FinSet.{FinSet, empty, contains, insert, items, len, contains-empty, contains-items, contains-from_list, len-empty}
use Rattle.std.proofs.lemmas.Bool.{cases_eq, cases_lt, cases_Bool, false_from_ne_true}
use Rattle.std.proofs.lemmas.Bool.Decides.{nat_tests}
use Rattle.std.proofs.lemmas.Grind.{flat_map-append}
use Rattle.std.proofs.lemmas.Nat.{div_below, le-div}
use Rattle.std.proofs.Math.Nat.{div-le_self, zero-mul, mul-le-mul_left}
use Rattle.wic_scalar.specs.Digits.{is_one}
use Rattle.wic_scalar.specs.Scalar.{members_of}
use Rattle.wic_bitset.specs.Rising.{members_between, word_members, rising, greatest_of}
use Rattle.wic_bitset.specs.Summary.{filled_words}
use Rattle.wic_bitset.specs.Words.{IsWordOf, IsWordEmpty}
use Rattle.wic_bitset.proofs.BetweenFacts.{between-none, between-last, between-last_word, filter_shift}
use Rattle.wic_bitset.proofs.DivisionFacts.{next_start}
use Rattle.wic_bitset.proofs.RisingFacts.{below_top, between-rising}
use Rattle.wic_base.proofs.SetFacts.{empty_of_none, same_by_absence, there_after_insert, same_after_insert, len-insert-le}
use Rattle.wic_scalar.proofs.MemberFacts.{contains_below}

-- the digits of word k give the members in it
pub map-members_of : (w : ℕ) (s : FinSet nat_cmp) (k n : ℕ) → IsWordOf w s k n
    → map (λ j. k * w + j) (members_of w n) ≡ word_members w s k
unfolding members_of
map-members_of w s k n word =
    let all : k * w + w - k * w ≡ w = omega arith in
    filter_shift (is_one n) (contains s) (k * w) 0 w (λ j _ h. sym (contains_below w n j (omega arith)) ∙ word j (omega arith))
    ∙ ap (λ a. filter (contains s) (range_with_len a w)) (add-zero (k * w))
    ∙ ap (λ m. filter (contains s) (range_with_len (k * w) m)) (sym all)

-- an empty word has no members
word_members-none : (w : ℕ) (s : FinSet nat_cmp) (k : ℕ) → 0 < w → IsWordEmpty w s k → word_members w s k ≡ []
word_members-none w s k some empty = between-none s (k * w) (k * w + w) (λ i low high.
    empty i (let up = next_start k w in
    let below : i / w < k + 1 = div_below i w (k + 1) some (omega arith) in
    let above : k ≤ i / w = le-div k i w some low in
    omega arith))

-- ---- the words that have a member

none_of_map : (f : ℕ → ℕ) (k : ℕ) (xs : List ℕ) → ((x : ℕ) → list_any (eq_by_cmp nat_cmp x) xs ≡ true → f x ≢ k)
    → list_any (eq_by_cmp nat_cmp k) (map f xs) ≡ false
none_of_map f k [] none = refl
none_of_map f k (x ∷ xs) none =
    let tx = unsigned_tied x x in
    let tk = unsigned_tied k (f x) in
    let here : f x ≢ k = none x (grind (arith, nat_tests)) in
    let rest : list_any (eq_by_cmp nat_cmp k) (map f xs) ≡ false = none_of_map f k xs (λ y has. none y (grind (arith, nat_tests))) in
    grind (arith, nat_tests)

each_of_map : (f : ℕ → ℕ) (k : ℕ) (xs : List ℕ) → list_any (eq_by_cmp nat_cmp k) (map f xs) ≡ false → (x : ℕ)
    → list_any (eq_by_cmp nat_cmp x) xs ≡ true → f x ≢ k
each_of_map f k [] none x has = absurd (cc)
each_of_map f k (y ∷ xs) none x has =
    let tx = unsigned_tied x y in
    let tk = unsigned_tied k (f y) in
    ⊎_elim
    (λ same. λ at. let e : f y ≡ k = ap f (sym same) ∙ at in absurd (grind (arith, nat_tests)))
    (λ apart. each_of_map f k xs (grind (arith, nat_tests)) x (grind (arith, nat_tests)))
    (cases_eq x y)

-- all words but these are empty
pub filled_words-empty : (w : ℕ) (s : FinSet nat_cmp) (k : ℕ) → (contains (filled_words w s) k ≡ false) ↔ IsWordEmpty w s k
filled_words-empty w s k =
    let listed : contains (filled_words w s) k ≡ list_any (eq_by_cmp nat_cmp k) (map (λ i. i / w) (items s)) =
    contains-from_list nat_cmp_total (map (λ i. i / w) (items s)) k in (
      λ none i at. false_from_ne_true (contains s i) (λ there.
          each_of_map (λ i. i / w) k (items s) (sym listed ∙ none) i (sym (contains-items s i) ∙ there) at),
      λ none. listed ∙ none_of_map (λ i. i / w) k (items s) (λ x has at.
          let there : contains s x ≡ true = contains-items s x ∙ has in
          let gone = none x at in
          absurd (cc)),
    )

-- one number more is one such word more at most
filled_words-insert : (w : ℕ) (s : FinSet nat_cmp) (i : ℕ) → filled_words w (insert s i) ≡ insert (filled_words w s) (i / w)
filled_words-insert w s i = same_by_absence _ _
    (λ k none.
    let empty = (filled_words-empty w (insert s i) k).0 none in
    let apart : k ≢ i / w = λ same. absurd (let no = empty i (sym same) in let yes = there_after_insert s i in cc) in
    same_after_insert (filled_words w s) (i / w) k apart
    ∙ (filled_words-empty w s k).1 (λ q at.
    sym (same_after_insert s i q (λ same. apart (sym at ∙ ap (λ n. n / w) same))) ∙ empty q at))
    (λ k none.
    let apart : k ≢ i / w = λ same. absurd (
    let no = ap (contains (insert (filled_words w s) (i / w))) (sym same) ∙ none in
    let yes = there_after_insert (filled_words w s) (i / w) in
    cc) in
    let empty = (filled_words-empty w s k).0 (sym (same_after_insert (filled_words w s) (i / w) k apart) ∙ none) in
    (filled_words-empty w (insert s i) k).1 (λ q at.
    same_after_insert s i q (λ same. apart (sym at ∙ ap (λ n. n / w) same)) ∙ empty q at))

-- one number more is one such word more at most
pub len-filled_words-insert : (w : ℕ) (s : FinSet nat_cmp) (i : ℕ) → len (filled_words w (insert s i)) ≤ len (filled_words w s) + 1
len-filled_words-insert w s i =
    let same = ap len (filled_words-insert w s i) in omega (arith, same, len-insert-le (filled_words w s) (i / w))

-- no members have no such word
pub len-filled_words-empty : (w : ℕ) → len (filled_words w empty) ≡ 0
len-filled_words-empty w =
    ap len (empty_of_none (filled_words w empty) (λ k. (filled_words-empty w empty k).1 (λ i _. contains-empty nat_cmp i)))
    ∙ len-empty nat_cmp

-- the members of the first words, from those that have one
by_first_words : (w : ℕ) (s filled : FinSet nat_cmp) → ((k : ℕ) → contains filled k ≡ false → IsWordEmpty w s k) → 0 < w → (n : ℕ)
    → flat_map (word_members w s) (members_between filled 0 n) ≡ members_between s 0 (n * w)
by_first_words w s filled empty some zero = rw zero-mul refl
by_first_words w s filled empty some (suc n) =
    let next : suc n * w ≡ (n + 1) * w = ap (λ m. m * w) (omega arith) in
    let one_more : members_between s 0 (suc n * w) ≡ members_between s 0 (n * w) ++ word_members w s n =
    ap (members_between s 0) next ∙ between-last_word w s n in
    ap (flat_map (word_members w s)) (between-last filled n)
    ∙ flat_map-append (word_members w s) (members_between filled 0 n) (filter (contains filled) (n ∷ []))
    ∙ ap (λ xs. xs ++ flat_map (word_members w s) (filter (contains filled) (n ∷ []))) (by_first_words w s filled empty some n)
    ∙ ⊎_elim
    (λ has. rw has (ap (λ ys. members_between s 0 (n * w) ++ ys) (append-nil (word_members w s n)) ∙ sym one_more))
    (λ none. rw none (sym (one_more ∙ ap (λ ys. members_between s 0 (n * w) ++ ys) (word_members-none w s n some (empty n none)))))
    (cases_Bool (contains filled n))

-- a word that has a member is at most that member
word_below_top : (w : ℕ) (s : FinSet nat_cmp) (k : ℕ) → contains (filled_words w s) k ≡ true → k < greatest_of (items s) + 1
word_below_top w s k has = ⊎_elim
    (λ below. below)
    (λ above. absurd (
    let none = (filled_words-empty w s k).1 (λ i at. false_from_ne_true (contains s i) (λ there. absurd (
    let h = below_top s i there in let le = div-le_self i w in omega arith))) in
    cc))
    (cases_lt k (greatest_of (items s) + 1))

-- all members, from the words that have one
pub by_words : (w : ℕ) (s : FinSet nat_cmp) → 0 < w → flat_map (word_members w s) (rising (filled_words w s)) ≡ rising s
by_words w s some =
    let top = greatest_of (items s) + 1 in
    ap (flat_map (word_members w s)) (sym (between-rising (filled_words w s) top (word_below_top w s)))
    ∙ by_first_words w s (filled_words w s) (λ k. (filled_words-empty w s k).0) some top
    ∙ between-rising s (top * w) (λ i has.
    let h = below_top s i has in
    let more : top * 1 ≤ top * w = mul-le-mul_left top some in
    omega arith)

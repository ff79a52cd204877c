-- The least member from a number on: within a word, and from one word to the next.
use Rattle.std.proofs.Common.{⊎_elim, ◌≡◌, ℕ, ◌+◌, ◌*◌, ◌/◌, ◌%◌, ◌<◌, ◌≤◌, true, not, ◌&&◌}
use Rattle.std.proofs.Common.{sym, ap, ◌∙◌, arith}
use Rattle.std.specs.Prelude.{nat_lt}
use Rattle.std.specs.Ordering.{nat_cmp}
use Rattle.std.specs.FinSet.{FinSet, empty, contains}
use Rattle.std.proofs.lemmas.Bool.{cases_lt, false_from_ne_true}
use Rattle.std.proofs.lemmas.Bool.Decides.{nat_tests}
use Rattle.std.proofs.lemmas.Nat.{div-mul-add, mod-mul-add, div-add-mod', mod_below}
use Rattle.std.proofs.Math.Nat.{mul-le-mul_right}
use Rattle.wic_scalar.specs.Digits.{is_one}
use Rattle.wic_scalar.specs.Scalar.{set_of}
use Rattle.wic_base.specs.Sets.{IsLeast}
use Rattle.wic_scalar.proofs.MemberFacts.{contains_below, none_from_empty}
use Rattle.wic_bitset.specs.Words.{EndsBefore, IsWordOf}
use Rattle.wic_bitset.proofs.DivisionFacts.{div_mono, next_start}
use Rattle.wic_bitset.specs.From.{NoneFrom, IsLeastFrom, NoneInWord, IsLeastInWord, NoneUntil}

-- ---- in one word: n is the word of i, and m has its digits from the place of i on
module _ (w : ℕ) (s : FinSet nat_cmp) (i n m : ℕ) (some : 0 < w) (word : IsWordOf w s (i / w) n)
    (part : (j : ℕ) → j < w → is_one m j ≡ (is_one n j && not (nat_lt j (i % w)))) where
  -- a number of the word by its digit
  by_place : (q : ℕ) → q / w ≡ i / w → contains s q ≡ is_one n (q % w)
  by_place q at =
      let place = div-add-mod' q w in
      let start : q / w * w ≡ i / w * w = ap (λ k. k * w) at in
      let e : i / w * w + q % w ≡ q = omega arith in
      let low = mod_below q w some in
      sym (ap (contains s) e) ∙ sym (word (q % w) low) ∙ contains_below w n (q % w) low

  -- and if it isn't below i, by the digit of the part
  by_part : (q : ℕ) → i ≤ q → q / w ≡ i / w → contains s q ≡ is_one m (q % w)
  by_part q from at =
      let here = div-add-mod' q w in
      let there = div-add-mod' i w in
      let start : q / w * w ≡ i / w * w = ap (λ k. k * w) at in
      let le : i % w ≤ q % w = omega arith in
      let e = by_place q at in
      let d = part (q % w) (mod_below q w some) in
      grind (arith, nat_tests)

  pub least_in_word-some : (x : ℕ) → x < w → IsLeast (set_of w m) x → IsLeastInWord w s i (i / w * w + x)
  least_in_word-some x low least =
      let one : is_one m x ≡ true = sym (contains_below w m x low) ∙ least.member in
      let d = part x low in
      let there = div-add-mod' i w in
      let above : i % w ≤ x = ⊎_elim (λ less. absurd (grind (arith, nat_tests))) (λ le. le) (cases_lt x (i % w)) in
      let from : i ≤ i / w * w + x = omega arith in
      let at = div-mul-add (i / w) w x low in
      let place = mod-mul-add (i / w) w x low in record {
        member = by_part (i / w * w + x) from at ∙ ap (is_one m) place ∙ one;
        from = from;
        word = at;
        least = λ q up same has.
            let le : x ≤ q % w =
            least.least (q % w) (contains_below w m (q % w) (mod_below q w some) ∙ sym (by_part q up same) ∙ has) in
            let here = div-add-mod' q w in
            let start : q / w * w ≡ i / w * w = ap (λ k. k * w) same in
            omega arith;
      }

  pub least_in_word-none : set_of w m ≡ empty → NoneInWord w s i
  least_in_word-none none q up same = by_part q up same ∙ none_from_empty w m (q % w) none (mod_below q w some)

-- ---- from one word to the next

-- the word of i has none
pub none_until-first : (w : ℕ) (s : FinSet nat_cmp) (i : ℕ) → 0 < w → NoneInWord w s i → NoneUntil w s i (i / w + 1)
none_until-first w s i some none q up within = let mono = div_mono w i q some up in none q up (omega arith)

-- nor has word n
pub none_until-next : (w : ℕ) (s : FinSet nat_cmp) (i n : ℕ) → 0 < w → NoneUntil w s i n → NoneInWord w s (n * w)
    → NoneUntil w s i (n + 1)
none_until-next w s i n some before none q up within = ⊎_elim
    (λ less. before q up less)
    (λ le.
    let at : q / w ≡ n = omega arith in
    let word : n * w / w ≡ n = let h = div-mul-add n w 0 some in let e : n * w + 0 ≡ n * w = omega arith in sym (ap (λ x. x / w) e) ∙ h in
    let place = div-add-mod' q w in
    let start : q / w * w ≡ n * w = ap (λ k. k * w) at in
    none q (omega arith) (at ∙ sym word))
    (cases_lt (q / w) n)

-- the least of the first word that has one
pub least_from-first : (w : ℕ) (s : FinSet nat_cmp) (i x : ℕ) → 0 < w → IsLeastInWord w s i x → IsLeastFrom s i x
least_from-first w s i x some least = record {
  member = least.member;
  from = least.from;
  least = λ q up has.
      let mono = div_mono w i q some up in
      ⊎_elim
      (λ less. let back : q / w ≤ x / w = div_mono w q x some (omega arith) in let at = least.word in
      absurd (let le = least.least q up (omega arith) has in omega arith))
      (λ le. le)
      (cases_lt q x);
}

-- the least of word n, if there is none before
pub least_from-next : (w : ℕ) (s : FinSet nat_cmp) (i n x : ℕ) → 0 < w → i / w < n → NoneUntil w s i n → IsLeastInWord w s (n * w) x
    → IsLeastFrom s i x
least_from-next w s i n x some behind before least =
    let there = div-add-mod' i w in
    let low = mod_below i w some in
    let start : (i / w + 1) * w ≤ n * w = mul-le-mul_right w (omega arith) in
    let next = next_start (i / w) w in
    let up : i ≤ n * w = omega arith in
    let first = least_from-first w s (n * w) x some least in
    let more = first.from in record {
      member = first.member;
      from = omega arith;
      least = λ q from has. ⊎_elim
          (λ less. absurd (let no = before q from less in cc))
          (λ le.
          let place = div-add-mod' q w in
          let high : n * w ≤ q / w * w = mul-le-mul_right w le in
          first.least q (omega arith) has)
          (cases_lt (q / w) n);
    }

-- it starts behind the last word
pub none_from-past : (w : ℕ) (s : FinSet nat_cmp) (i n : ℕ) → 0 < w → n ≤ i / w → EndsBefore w s n → NoneFrom s i
none_from-past w s i n some past ends q up = false_from_ne_true (contains s q) (λ has.
    absurd (let mono = div_mono w i q some up in let h = ends q has in omega arith))

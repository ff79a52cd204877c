-- A walk from one marked word to the next.
use Rattle.std.proofs.Common.{◌≡◌, ℕ, ◌+◌, ◌-◌, ◌*◌, ◌/◌, ◌<◌, ◌≤◌, false, Option, Some, None, List, [], ◌++◌}
use Rattle.std.proofs.Common.{length, refl, ap, ◌∙◌, arith}
use Rattle.std.specs.Iterator.{MakesProgress, YieldsFirst, item_count}
use Rattle.std.specs.Ordering.{nat_cmp}
use Rattle.std.specs.FinSet.{FinSet, contains, contains-empty, from_list}
use Rattle.std.proofs.lemmas.Bool.{false_from_ne_true}
use Rattle.std.proofs.lemmas.Bool.Decides.{nat_tests}
use Rattle.std.proofs.lemmas.Nat.{le-div, div_below, div-add-mod', mod_below}
use Rattle.std.proofs.Math.Nat.{mul-le-mul_right, div-lt_iff_lt-mul}
use Rattle.wic_base.proofs.SetFacts.{contains-filter_range}
use Rattle.wic_bitset.specs.From.{NoneFrom, IsLeastFrom}
use Rattle.wic_bitset.specs.Rising.{members_between, rising, word_members}
use Rattle.wic_bitset.specs.Summary.{Summarizes}
use Rattle.wic_bitset.specs.Words.{Words, IsWordEmpty}
use Rattle.wic_bitset.proofs.BetweenFacts.{between-none, between-split, between-first_word}
use Rattle.wic_bitset.proofs.RisingFacts.{between-rising}
use Rattle.wic_bitset.proofs.SummaryFacts.{no_empty_word, summary_within}

-- a word of which a walk gives nothing is empty
empty_walk : (w : ℕ) (s : FinSet nat_cmp) (k : ℕ) → 0 < w → word_members w s k ≡ [] → IsWordEmpty w s k
empty_walk w s k some none i at =
    let listed = contains-filter_range (contains s) (k * w) (k * w + w - k * w) i in
    let clear = ap (λ xs. contains (from_list {R = nat_cmp} xs) i) none ∙ contains-empty nat_cmp i in
    let place = div-add-mod' i w in
    let low = mod_below i w some in
    let start : i / w * w ≡ k * w = ap (λ k. k * w) at in
    let from : k * w ≤ i = omega arith in
    let below : i < k * w + (k * w + w - k * w) = omega arith in
    grind (arith, nat_tests)

module _ (w : ℕ) (words : Words) (marks : FinSet nat_cmp) (end : ℕ) (sum : Summarizes w words marks end) (some : 0 < w) where
  -- a walk begins with all members
  pub walk_all : members_between words.members 0 (words.count * w) ≡ rising words.members
  walk_all = between-rising words.members (words.count * w) (λ i has. (div-lt_iff_lt-mul some).0 (sum.ends i has))

  -- there are none in words from `next` on that aren't marked
  none_between : (next b : ℕ) → ((k : ℕ) → next ≤ k → k < b → contains marks k ≡ false)
      → members_between words.members (next * w) (b * w) ≡ []
  none_between next b unmarked = between-none words.members (next * w) (b * w) (λ i low high.
      (sum.digits (i / w)).0 (unmarked (i / w) (le-div next i w some low) (div_below i w b some high)) i refl)

  -- if no word is marked from `next` on, the walk is at its end
  pub walk_end : (next : ℕ) → NoneFrom marks next → members_between words.members (next * w) (words.count * w) ≡ []
  walk_end next none = none_between next words.count (λ k low _. none k low)

  -- the next marked word is there
  pub walk_within : (next k : ℕ) → IsLeastFrom marks next k → k < words.count
  walk_within next k least = summary_within w words marks end sum k least.member

  -- the members that are left are those of the next marked word, and those behind it
  pub walk_next : (next k : ℕ) → IsLeastFrom marks next k → members_between words.members (next * w) (words.count * w)
      ≡ word_members w words.members k ++ members_between words.members ((k + 1) * w) (words.count * w)
  walk_next next k least =
      let s = words.members in
      let top = words.count * w in
      let within = walk_within next k least in
      let from : next * w ≤ k * w = mul-le-mul_right w least.from in
      let up : k * w ≤ top = mul-le-mul_right w (omega arith) in
      let more : (k + 1) * w ≤ top = mul-le-mul_right w (omega arith) in
      let skipped = none_between next k (λ q low high. false_from_ne_true (contains marks q) (λ has. absurd (
      let le = least.least q low has in omega arith))) in
      between-split s (next * w) (k * w) top from up
      ∙ ap (λ xs. xs ++ members_between s (k * w) top) skipped
      ∙ between-first_word w s k top more

  -- and it has a member
  pub walk_some : (next k : ℕ) → IsLeastFrom marks next k → word_members w words.members k ≡ [] → ⊥
  walk_some next k least none = no_empty_word w words marks end sum k least.member (empty_walk w words.members k some none)

-- the first of a word that isn't empty is the first of it and of what stands behind it
pub walk_gives : (old word rest left : List ℕ) (r : Option ℕ) → old ≡ word ++ rest → (word ≡ [] → ⊥) → YieldsFirst (λ xs. xs) word r left
    → YieldsFirst (λ xs. xs) old r (left ++ rest)
walk_gives old word rest left None is some gives = absurd (some gives.0)
walk_gives old word rest left (Some x) is some gives = is ∙ ap (λ xs. xs ++ rest) gives

-- a call that gives the first of what is left makes what is left shorter
pub walk_goes : (can : List ℕ → Type 0) (old new : List ℕ) (r : Option ℕ) → ((xs : List ℕ) → can xs) → YieldsFirst (λ xs. xs) old r new
    → MakesProgress can (item_count (λ xs. xs)) old r new
walk_goes can old new None always gives = record { on = λ _. tt; keeps = tt; rests = λ _. tt }
walk_goes can old new (Some x) always gives =
    let shorter = ap length gives in record {
      on = λ _. (always new, tt, omega arith);
      keeps = always new;
      rests = λ _. tt;
    }

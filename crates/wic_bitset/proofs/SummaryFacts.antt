-- Every change keeps the summary.
use Rattle.std.proofs.Common.{⊎_elim, ◌≡◌, ◌≢◌, ℕ, ◌+◌, ◌*◌, ◌/◌, ◌<◌, ◌≤◌, true, false, Option, Some, None, refl, sym, ap, subst}
use Rattle.std.proofs.Common.{◌∙◌, ◌↔◌, arith}
use Rattle.std.specs.Ordering.{nat_cmp}
use Rattle.std.specs.FinSet.{FinSet, empty, contains, insert, remove}
use Rattle.std.proofs.lemmas.Bool.{cases_eq, cases_lt, cases_Bool, false_from_ne_true}
use Rattle.std.specs.Prelude.{All}
use Rattle.wic_bitset.specs.Compound.{max_number}
use Rattle.wic_bitset.specs.Rising.{rising, word_members}
use Rattle.wic_bitset.proofs.BetweenFacts.{All-between}
use Rattle.wic_bitset.proofs.RisingFacts.{All-rising}
use Rattle.wic_bitset.specs.Greatest.{IsMax}
use Rattle.wic_base.specs.Sets.{IsGreatest}
use Rattle.wic_bitset.specs.Words.{Words, most_words, EndsBefore, IsMaxOfWord, IsWordEmpty}
use Rattle.wic_bitset.specs.Summary.{Summarizes, block_words, filled_words}
use Rattle.wic_bitset.proofs.ByWordFacts.{filled_words-empty}
use Rattle.wic_bitset.proofs.GreatestFacts.{greatest_of_last_word}
use Rattle.wic_base.proofs.SetFacts.{empty_of_none, none_in_empty, there_after_insert, same_after_insert, gone_after_remove}
use Rattle.wic_base.proofs.SetFacts.{insert_present, same_after_remove, same_by_absence, was_before_remove}

-- other words are as empty as before
other_word : (w i k : ℕ) (s t : FinSet nat_cmp) → ((q : ℕ) → q ≢ i → contains t q ≡ contains s q) → k ≢ i / w
    → IsWordEmpty w t k ↔ IsWordEmpty w s k
other_word w i k s t same apart = (
  λ none q at. sym (same q (λ e. apart (sym at ∙ ap (λ n. n / w) e))) ∙ none q at,
  λ none q at. same q (λ e. apart (sym at ∙ ap (λ n. n / w) e)) ∙ none q at,
)

module _ (w i : ℕ) (words words' : Words) (marks marks' : FinSet nat_cmp) (end end' : ℕ) (old : Summarizes w words marks end)
    (count : words'.count ≡ words.count) (same_end : end' ≡ end) where
  -- i alone and its word alone are in or out otherwise than before, and its word is marked as it should be
  changed : ((q : ℕ) → q ≢ i → contains words'.members q ≡ contains words.members q)
      → ((k : ℕ) → k ≢ i / w → contains marks' k ≡ contains marks k)
      → (contains words'.members i ≡ true → (i / w < words.count) × (i ≤ max_number))
      → (contains marks' (i / w) ≡ false) ↔ IsWordEmpty w words'.members (i / w) → Summarizes w words' marks' end'
  changed others other_marks here word = record {
    digits = λ k. ⊎_elim
        (λ at. subst (λ k. (contains marks' k ≡ false) ↔ IsWordEmpty w words'.members k) (sym at) word)
        (λ apart.
        let same = other_marks k apart in
        let kept = other_word w i k words.members words'.members others apart in
        (λ none. kept.1 ((old.digits k).0 (sym same ∙ none)), λ none. same ∙ (old.digits k).1 (kept.0 none)))
        (cases_eq k (i / w));
    reach = omega (arith, old.reach);
    ends = λ q has. rw count (⊎_elim
        (λ at. rw at ((here (sym (ap (contains words'.members) at) ∙ has)).0))
        (λ apart. old.ends q (sym (others q apart) ∙ has))
        (cases_eq q i));
    numbers = λ q has. ⊎_elim
        (λ at. rw at ((here (sym (ap (contains words'.members) at) ∙ has)).1))
        (λ apart. old.numbers q (sym (others q apart) ∙ has))
        (cases_eq q i);
    few = omega (arith, old.few);
  }

  -- i is put in, and its word
  pub Summarizes-insert : i / w < words.count → i ≤ max_number → words'.members ≡ insert words.members i
      → marks' ≡ insert marks (i / w) → Summarizes w words' marks' end'
  Summarizes-insert within small put marked = changed
      (λ q apart. ap (λ s. contains s q) put ∙ same_after_insert words.members i q apart)
      (λ k apart. ap (λ s. contains s k) marked ∙ same_after_insert marks (i / w) k apart)
      (λ _. (within, small)) (
        λ none. absurd (let yes = ap (λ s. contains s (i / w)) marked ∙ there_after_insert marks (i / w) in cc),
        λ none. absurd (let no = none i refl in let yes = ap (λ s. contains s i) put ∙ there_after_insert words.members i in cc),
      )

  -- i is put in, and its word has another member
  pub Summarizes-insert_filled : i / w < words.count → i ≤ max_number → words'.members ≡ insert words.members i → marks' ≡ marks
      → (IsWordEmpty w words.members (i / w) → ⊥) → Summarizes w words' marks' end'
  Summarizes-insert_filled within small put same filled =
      let marked : contains marks (i / w) ≡ true = ⊎_elim
      (λ yes. yes)
      (λ no. absurd (filled ((old.digits (i / w)).0 no)))
      (cases_Bool (contains marks (i / w))) in
      Summarizes-insert within small put (same ∙ sym (insert_present marks (i / w) marked))

  -- i is taken out, and its word, since it is empty now
  pub Summarizes-emptied : words'.members ≡ remove words.members i → marks' ≡ remove marks (i / w)
      → IsWordEmpty w words'.members (i / w) → Summarizes w words' marks' end'
  Summarizes-emptied taken marked none = changed
      (λ q apart. ap (λ s. contains s q) taken ∙ same_after_remove words.members i q apart)
      (λ k apart. ap (λ s. contains s k) marked ∙ same_after_remove marks (i / w) k apart)
      (λ has. absurd (let gone = ap (λ s. contains s i) taken ∙ gone_after_remove words.members i in cc))
      (λ _. none, λ _. ap (λ s. contains s (i / w)) marked ∙ gone_after_remove marks (i / w))

  -- i is taken out, and its word has another member
  pub Summarizes-kept : words'.members ≡ remove words.members i → marks' ≡ marks
      → (IsWordEmpty w words'.members (i / w) → ⊥) → Summarizes w words' marks' end'
  Summarizes-kept taken marked other = changed
      (λ q apart. ap (λ s. contains s q) taken ∙ same_after_remove words.members i q apart)
      (λ k apart. ap (λ s. contains s k) marked)
      (λ has. absurd (let gone = ap (λ s. contains s i) taken ∙ gone_after_remove words.members i in cc)) (
        λ none q at. false_from_ne_true (contains words'.members q) (λ has.
            let was = was_before_remove words.members i q (sym (ap (λ s. contains s q) taken) ∙ has) in
            let no = (old.digits (i / w)).0 (ap (λ s. contains s (i / w)) (sym marked) ∙ none) q at in
            absurd (cc)),
        λ none. absurd (other none),
      )

-- no members, and no words that have one
pub Summarizes-none : (w : ℕ) (words : Words) (marks : FinSet nat_cmp) (end : ℕ) → words.count ≤ most_words → words.members ≡ empty
    → marks ≡ empty → words.count ≤ end → Summarizes w words marks end
Summarizes-none w words marks end few none unmarked reach = record {
  digits = λ k. (λ _ i _. none_in_empty words.members none i, λ _. none_in_empty marks unmarked k);
  reach = reach;
  ends = λ i has. absurd (let absent = none_in_empty words.members none i in cc);
  numbers = λ i has. absurd (let absent = none_in_empty words.members none i in cc);
  few = few;
}

-- more words, and a place for the mark of each
pub Summarizes-grown : (w : ℕ) (words words' : Words) (marks marks' : FinSet nat_cmp) (end end' : ℕ) → Summarizes w words marks end
    → words'.members ≡ words.members → marks' ≡ marks → words.count ≤ words'.count → words'.count ≤ most_words → words'.count ≤ end'
    → Summarizes w words' marks' end'
Summarizes-grown w words words' marks marks' end end' old same marked grown few reach = record {
  digits = λ k. (
    λ none i at. ap (λ s. contains s i) same ∙ (old.digits k).0 (sym (ap (λ s. contains s k) marked) ∙ none) i at,
    λ none. ap (λ s. contains s k) marked ∙ (old.digits k).1 (λ i at. sym (ap (λ s. contains s i) same) ∙ none i at),
  );
  reach = reach;
  ends = λ i has. let h = old.ends i (sym (ap (λ s. contains s i) same) ∙ has) in omega arith;
  numbers = λ i has. old.numbers i (sym (ap (λ s. contains s i) same) ∙ has);
  few = few;
}

-- ---- what the summary tells of the words

module _ (w : ℕ) (words : Words) (marks : FinSet nat_cmp) (end : ℕ) (sum : Summarizes w words marks end) where
  -- a word that the summary has is no empty word
  pub no_empty_word : (k : ℕ) → contains marks k ≡ true → IsWordEmpty w words.members k → ⊥
  no_empty_word k has none = let no : contains marks k ≡ false = (sum.digits k).1 none in absurd (cc)

  -- if the words from n on are empty, the summary has none of them
  pub below_end : (n : ℕ) → EndsBefore w words.members n → (k : ℕ) → contains marks k ≡ true → k < n
  below_end n ends k has = ⊎_elim
      (λ inside. inside)
      (λ above. absurd (no_empty_word k has (λ i at. false_from_ne_true (contains words.members i)
      (λ there. absurd (let h = ends i there in omega arith)))))
      (cases_lt k n)

  -- a word that the summary has is below the count
  pub summary_within : (k : ℕ) → contains marks k ≡ true → k < words.count
  summary_within = below_end words.count sum.ends

  -- the word of a member is in the summary
  pub filled : (i : ℕ) → contains words.members i ≡ true → contains marks (i / w) ≡ true
  filled i there = ⊎_elim
      (λ yes. yes)
      (λ no. absurd (let none = (sum.digits (i / w)).0 no i refl in cc))
      (cases_Bool (contains marks (i / w)))

  -- the greatest member stands in the greatest word that the summary has
  pub max_through_summary : 0 < w → (k : ℕ) (r : Option ℕ) → IsGreatest marks k → IsMaxOfWord w words.members k r
      → IsMax words.members r
  max_through_summary some k None last none = absurd (no_empty_word k last.member none)
  max_through_summary some k (Some x) last found =
      greatest_of_last_word w words.members k x some (λ i there. ⊎_elim
      (λ inside. inside)
      (λ above. absurd (
      let yes : contains marks (i / w) ≡ true = filled i there in
      let le = last.greatest (i / w) yes in
      omega arith))
      (cases_lt (i / w) (k + 1))) found

  -- there is no member if the summary is empty
  pub none_through_summary : marks ≡ empty → words.members ≡ empty
  none_through_summary none =
      empty_of_none words.members (λ i. (sum.digits (i / w)).0 (none_in_empty marks none (i / w)) i refl)

-- ---- the summary is the set of the words that have a member

-- the summary has just the words that have a member
pub summary_is_filled_words : (w : ℕ) (words : Words) (marks : FinSet nat_cmp) (end : ℕ) → Summarizes w words marks end
    → marks ≡ filled_words w words.members
summary_is_filled_words w words marks end sum = same_by_absence _ _
    (λ k none. (filled_words-empty w words.members k).1 ((sum.digits k).0 none))
    (λ k none. (sum.digits k).1 ((filled_words-empty w words.members k).0 none))

-- a word that has a member is there
pub filled_within : (w : ℕ) (words : Words) (marks : FinSet nat_cmp) (end : ℕ) → Summarizes w words marks end → (k : ℕ)
    → contains (filled_words w words.members) k ≡ true → k < words.count
filled_within w words marks end sum k has =
    summary_within w words marks end sum k (ap (λ s. contains s k) (summary_is_filled_words w words marks end sum) ∙ has)

-- each word that has a member is there
pub All-filled : (w : ℕ) (words : Words) (marks : FinSet nat_cmp) (end : ℕ) → Summarizes w words marks end
    → All (λ k. k < words.count) (rising (filled_words w words.members))
All-filled w words marks end sum = All-rising (λ k. k < words.count) (filled_words w words.members) (filled_within w words marks end sum)

-- what stands in word s of the summary
pub block_words-are : (w v : ℕ) (words : Words) (marks : FinSet nat_cmp) (end : ℕ) → Summarizes w words marks end → (s : ℕ)
    → word_members v marks s ≡ block_words w v words.members s
block_words-are w v words marks end sum s = ap (λ t. word_members v t s) (summary_is_filled_words w words marks end sum)

-- the words of a block have their place in the set
pub All-block_words : (w v : ℕ) (words : Words) (marks : FinSet nat_cmp) (end : ℕ) → Summarizes w words marks end → (s : ℕ)
    → All (λ k. k < words.count) (block_words w v words.members s)
All-block_words w v words marks end sum s = All-between (λ k. k < words.count) (filled_words w words.members) (s * v) (s * v + v)
    (filled_within w words marks end sum)

-- Blocks that are followed with a worklist.
use Rattle.std.proofs.Common.{⊎_elim, ◌⊎◌, inl, inr, ◌≡◌, ℕ, ◌+◌, ◌-◌, ◌*◌, ◌<◌, ◌≤◌, true, false, sym, ap, ◌∙◌, arith}
use Rattle.std.specs.Ordering.{nat_cmp}
use Rattle.std.specs.Cmp.{nat_cmp_total}
use Rattle.std.specs.FinSet.{FinSet, empty, contains, insert, remove, len, len-insert, len-remove, empty_of_len}
use Rattle.std.proofs.lemmas.Bool.{cases_eq, cases_lt}
use Rattle.wic_base.specs.Sets.{AllBelow}
use Rattle.wic_bitset.proofs.RisingFacts.{length-rising, length-rising-le}
use Rattle.wic_base.proofs.SetFacts.{none_in_empty, there_after_insert, same_after_insert, same_after_remove, len-insert-le}
use Rattle.entity_set.specs.Follows.{IsFollowed}

-- on the way: each block is done or still on the worklist
pub record IsFollowing (jumps : ℕ → ℕ) (first before work done : FinSet nat_cmp) : Type 0 where
  -- the blocks of before are done
  pub kept : (b : ℕ) → contains before b ≡ true → contains done b ≡ true
  -- each block of first is done or on the worklist
  pub taken : (b : ℕ) → contains first b ≡ true → (contains done b ≡ true) ⊎ (contains work b ≡ true)
  -- if a block is done and not of before, the block that it jumps to is done or on the worklist
  pub closed : (b : ℕ) → contains done b ≡ true → contains before b ≡ false
      → (contains done (jumps b) ≡ true) ⊎ (contains work (jumps b) ≡ true)

-- at the start the blocks of first are on the worklist, and those of before are done
pub following-starts : (jumps : ℕ → ℕ) (first before : FinSet nat_cmp) → IsFollowing jumps first before first before
following-starts jumps first before = record {
  kept = λ b has. has;
  taken = λ b has. inr has;
  closed = λ b has hasn't. absurd (cc);
}

-- if the worklist is empty, all blocks of first are followed
pub following-ends : (jumps : ℕ → ℕ) (first before work done : FinSet nat_cmp) → IsFollowing jumps first before work done → work ≡ empty
    → IsFollowed jumps first before done
following-ends jumps first before work done way none = record {
  kept = way.kept;
  taken = λ b has. ⊎_elim (λ is. is) (λ left. absurd (let no = none_in_empty work none b in cc)) (way.taken b has);
  closed = λ b has hasn't. ⊎_elim (λ is. is) (λ left. absurd (let no = none_in_empty work none (jumps b) in cc)) (way.closed b has hasn't);
}

-- what was put in before stays
pub kept_after_insert : (s : FinSet nat_cmp) (i q : ℕ) → contains s q ≡ true → contains (insert s i) q ≡ true
kept_after_insert s i q has = ⊎_elim
    (λ same. ap (contains (insert s i)) same ∙ there_after_insert s i)
    (λ apart. same_after_insert s i q apart ∙ has)
    (cases_eq q i)

-- block b is taken off and done; it was done before, or the block that it jumps to is on the worklist
pub following-step : (jumps : ℕ → ℕ) (first before work done work' done' : FinSet nat_cmp) (b : ℕ)
    → IsFollowing jumps first before work done → done' ≡ insert done b
    → ((q : ℕ) → contains (remove work b) q ≡ true → contains work' q ≡ true)
    → (contains done b ≡ true) ⊎ (contains work' (jumps b) ≡ true)
    → IsFollowing jumps first before work' done'
following-step jumps first before work done work' done' b way put rest next = record {
  kept = λ q has. now q (way.kept q has);
  taken = λ q has. carry q (way.taken q has);
  closed = λ q has hasn't. ⊎_elim
      (λ same. ⊎_elim
      (λ was. carry (jumps q) (way.closed q (ap (contains done) same ∙ was) hasn't))
      (λ on. inr (ap (λ x. contains work' (jumps x)) same ∙ on))
      next)
      (λ apart. carry (jumps q)
      (way.closed q (sym (same_after_insert done b q apart) ∙ sym (ap (λ s. contains s q) put) ∙ has) hasn't))
      (cases_eq q b);
}
  where
    now : (q : ℕ) → contains done q ≡ true → contains done' q ≡ true
    now q has = ap (λ s. contains s q) put ∙ kept_after_insert done b q has

    carry : (q : ℕ) → (contains done q ≡ true) ⊎ (contains work q ≡ true) → (contains done' q ≡ true) ⊎ (contains work' q ≡ true)
    carry q either = ⊎_elim
        (λ is. inl (now q is))
        (λ left. ⊎_elim
        (λ same. inl (ap (λ s. contains s q) put ∙ ap (contains (insert done b)) same ∙ there_after_insert done b))
        (λ apart. inr (rest q (same_after_remove work b q apart ∙ left)))
        (cases_eq q b))
        either

-- ---- how long it takes

-- there are at most n members if each is below n
len-below : (n : ℕ) (s : FinSet nat_cmp) → AllBelow n s → len s ≤ n
len-below n s below = let e = length-rising s in let h = length-rising-le s n below in omega arith

-- one member less
len-taken : (s : FinSet nat_cmp) (b : ℕ) → contains s b ≡ true → len (remove s b) + 1 ≡ len s
len-taken s b has = ⊎_elim
    (λ none. absurd (let no = none_in_empty s (empty_of_len s none) b in cc))
    (λ some. let e = len-remove nat_cmp_total s b in let h = rw has at e in omega arith)
    (zero_or_more (len s))
  where
    zero_or_more : (n : ℕ) → (n ≡ 0) ⊎ (0 < n)
    zero_or_more n = ⊎_elim (λ some. inr some) (λ none. inl (omega arith)) (cases_lt 0 n)

-- the blocks that aren't done count twice, those on the worklist once
abbrev pub to_do : ℕ → FinSet nat_cmp → FinSet nat_cmp → ℕ
to_do n work done = 2 * (n - len done) + len work

-- less is to do after a block that was done before is taken off the worklist
pub fewer-known : (n b : ℕ) (work done : FinSet nat_cmp) → contains work b ≡ true → contains done b ≡ true
    → to_do n (remove work b) (insert done b) < to_do n work done
fewer-known n b work done on is =
    let less = len-taken work b on in
    let e = len-insert nat_cmp_total done b in
    let same = rw is at e in
    omega arith

-- less is to do after a block is taken off the worklist and newly done, though another is put on it; all done are below n
pub fewer-new : (n b c : ℕ) (work done : FinSet nat_cmp) → contains work b ≡ true → contains done b ≡ false → AllBelow n (insert done b)
    → to_do n (insert (remove work b) c) (insert done b) < to_do n work done
fewer-new n b c work done on isn't below =
    let less = len-taken work b on in
    let e = len-insert nat_cmp_total done b in
    let more = rw isn't at e in
    let within = len-below n (insert done b) below in
    let one = len-insert-le (remove work b) c in
    omega arith

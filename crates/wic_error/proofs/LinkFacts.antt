-- Links that lie with the root first, and are searched from the newest on.
use Rattle.std.proofs.Common.{◌≡◌, ℕ, ◌==◌, Bool, true, false, List, [], ◌∷◌, ◌++◌, length, reverse, slice_get, set, Option, Some, None}
use Rattle.std.proofs.Common.{refl, sym, ap, ◌∙◌, append_assoc, if◌then◌else◌, is_some, MatchOption, map}
use Rattle.std.specs.List.{find}
use Rattle.std.proofs.lemmas.List.{reverse-append, map-append}
use Rattle.std.proofs.lemmas.List.Folds.{find-append}
use Rattle.std.proofs.Math.Seq.{set-append_seam}
use Rattle.wic_error.specs.Error.{links, links_of, items_of, link, EndsIn, first_with, with_first, replace_first}
use Rattle.wic_error.specs.Repr.{error_of, IsNewestWith}
use Rattle.wic_error.specs.Kept.{kept_of, seen, with_kept}
use Rattle.wic_error.specs.declared.repr.Repr.{Repr}
use Rattle.wic_error.specs.declared.repr.Repr.TheVariants.{Oom, Links}

module _ {K : Type 0} where
  -- turned round, what lies behind a link comes before it
  pub reverse_parts : (older newer : List K) (k : K) → reverse (older ++ k ∷ newer) ≡ reverse newer ++ k ∷ reverse older
  reverse_parts older newer k =
      rw (reverse-append older (k ∷ newer), reverse-append (k ∷ []) newer, append_assoc)

  -- an element behind others
  at_seam : (front rest : List K) (k : K) → slice_get (front ++ k ∷ rest) (length front) ≡ Some k
  at_seam [] rest k = refl
  at_seam (x ∷ front) rest k = at_seam front rest k

  -- the links of an error that is made of links
  pub links_of-error_of : (ks : List K) → links_of (error_of ks) ≡ ks
  links_of-error_of [] = refl
  links_of-error_of (k ∷ ks) = refl

  -- the links of an error are those that are kept, turned round
  pub links_of-seen : (repr : Repr K) → links_of (seen repr) ≡ reverse (kept_of repr)
  links_of-seen (Oom size) = refl
  links_of-seen (Links kept) = links_of-error_of (reverse kept.items)

  module _ (test : K → Bool) where
    -- another link is passed that does not pass the test
    pub none_in_more : (k : K) (passed : List K) → find test (reverse passed) ≡ None → test k ≡ false
        → find test (reverse (k ∷ passed)) ≡ None
    none_in_more k passed none fails =
        rw (reverse-append (k ∷ []) passed, find-append test (reverse passed) (k ∷ []), none, fails)

    -- the first link to pass the test, the newest first, is the one at the place
    pub find-newest : (kept : List K) (place : ℕ) (it : IsNewestWith test kept place) → find test (reverse kept) ≡ Some it.found
    find-newest kept place it =
        rw (it.parts, reverse_parts it.older it.newer it.found, find-append test (reverse it.newer), it.none_newer, it.passes)

    -- at the place of the newest link to pass the test lies the link that was found
    pub get-newest : (kept : List K) (place : ℕ) (it : IsNewestWith test kept place) → slice_get kept place ≡ Some it.found
    get-newest kept place it = rw (it.parts, ← it.at) (at_seam it.older it.newer it.found)

    replace_past : (front rest : List K) (k written : K) → find test front ≡ None → test k ≡ true
        → replace_first test written (front ++ k ∷ rest) ≡ front ++ written ∷ rest
    replace_past [] rest k written none passes = rw passes
    replace_past (x ∷ front) rest k written none passes =
        elim (test x) as (λ b. test x ≡ b → replace_first test written ((x ∷ front) ++ k ∷ rest) ≡ (x ∷ front) ++ written ∷ rest) [
          | true ↦ λ e. let bad = rw e at none in cc
          | false ↦ λ e. rw e (ap (x ∷◌) (replace_past front rest k written (rw e at none) passes))
        ] refl

    -- writing at the place is writing over the first link to pass the test
    pub replace-newest : (kept : List K) (place : ℕ) (written : K) → IsNewestWith test kept place
        → replace_first test written (reverse kept) ≡ reverse (set kept place written)
    replace-newest kept place written it =
        rw (
          it.parts,
          ← it.at,
          set-append_seam it.older it.found it.newer written,
          reverse_parts it.older it.newer it.found,
          reverse_parts it.older it.newer written,
        )
        (replace_past (reverse it.newer) (reverse it.older) it.found written it.none_newer it.passes)

  -- writing over the first link with a number, among the links of an error
  pub with_first-error_of : (number : K → ℕ) (wanted : ℕ) (ks : List K) (written : K)
      → with_first number wanted (error_of ks) written ≡ error_of (replace_first (λ k. number k == wanted) written ks)
  with_first-error_of number wanted [] written = refl
  with_first-error_of number wanted (k ∷ ks) written =
      elim (number k == wanted) as (λ b. (if b then links written ks else links k (replace_first (λ k. number k == wanted) written ks))
      ≡ error_of (if b then written ∷ ks else k ∷ replace_first (λ k. number k == wanted) written ks)) [
        | true ↦ refl
        | false ↦ refl
      ]

-- The root lies first, and is the last item of the chain.
module _ {K : Type 0} where
  items_of-error_of : (front : List K) (root : K) → items_of (error_of (front ++ root ∷ [])) ≡ map link front ++ link root ∷ []
  items_of-error_of [] root = refl
  items_of-error_of (newest ∷ front) root = ap (link newest ∷◌) (map-append link front (root ∷ []))

  -- the chain of an error with kept links ends in the root, the first link that is kept
  pub ends_in_root : (kept : List K) (root : K) → slice_get kept 0 ≡ Some root → EndsIn (items_of (error_of (reverse kept))) (link root)
  ends_in_root [] root none = let bad : None ≡ Some root = none in cc
  ends_in_root (first ∷ rest) root there =
      let same : first ≡ root = cc in
      (map link (reverse rest), rw (reverse_parts [] rest first, ← same) (items_of-error_of (reverse rest) first))

-- The first link with a number, by the place where it lies.
module _ {K : Type 0} (number : K → ℕ) (wanted : ℕ) (repr : Repr K) where
  -- if no kept link has the wanted number, the error has no first link with it
  pub first_none : find (λ k. number k == wanted) (reverse (kept_of repr)) ≡ None → first_with number wanted (seen repr) ≡ None
  first_none none = rw (links_of-seen repr) none

  -- the error's first link with the wanted number is the kept link at the place of the newest with it
  pub first_found : (place : ℕ) → IsNewestWith (λ k. number k == wanted) (kept_of repr) place
      → first_with number wanted (seen repr) ≡ slice_get (kept_of repr) place
  first_found place it =
      rw (links_of-seen repr) (find-newest _ (kept_of repr) place it ∙ sym (get-newest _ (kept_of repr) place it))

  -- there is a place of the newest kept link with the wanted number exactly if the error has a first link with it
  pub is_first : (place : Option ℕ)
      → MatchOption place (find (λ k. number k == wanted) (reverse (kept_of repr)) ≡ None)
      (IsNewestWith (λ k. number k == wanted) (kept_of repr))
      → is_some place ≡ is_some (first_with number wanted (seen repr))
  is_first None none = sym (ap is_some (first_none none))
  is_first (Some place) it = sym (ap is_some (first_found place it ∙ get-newest _ (kept_of repr) place it))

-- Writing over that link.
module _ {K : Type 0} (number : K → ℕ) (wanted : ℕ) where
  -- writing over the newest kept link with the wanted number is writing over the error's first link with it
  pub seen-with_kept : (repr : Repr K) (place : ℕ) (written : K) → IsNewestWith (λ k. number k == wanted) (kept_of repr) place
      → seen (with_kept repr place written) ≡ with_first number wanted (seen repr) written
  seen-with_kept (Oom size) place written it = refl
  seen-with_kept (Links kept) place written it =
      rw (with_first-error_of number wanted (reverse kept.items) written, replace-newest _ kept.items place written it)

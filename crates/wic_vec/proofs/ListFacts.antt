-- Lists that are turned round in part, and lists of copies.
use Rattle.std.proofs.Common.{◌≡◌, ◌+◌, ◌-◌, ◌<◌, ℕ, List, [], ◌∷◌, ◌++◌, length, take, drop, reverse, get_or, add-one, sym, subst}
use Rattle.std.proofs.Common.{ap, ◌∙◌, length-drop, take_at, drop_at}
use Rattle.std.proofs.Math.Seq.{take-suc}
use Rattle.std.specs.List.{AllZip}
use Rattle.std.proofs.lemmas.List.{reverse-append, reverse-reverse, length-reverse, take-append-drop}
use Rattle.std.proofs.lemmas.List.Elements.{AllZip-push}

module _ {X : Type 0} (xs first second : List X) (count : ℕ) where
  -- xs is turned round whole, into first, and then what had been behind its prefix is turned back, into second
  pub front_turned_behind : first ≡ reverse xs → second ≡ reverse (take (length xs - count) first)
      → second ++ drop (length xs - count) first ≡ drop count xs ++ reverse (take count xs)
  front_turned_behind whole part =
      let parts : first ≡ reverse (drop count xs) ++ reverse (take count xs) =
      whole ∙ ap reverse (sym (take-append-drop count xs)) ∙ reverse-append (take count xs) (drop count xs) in
      let long : length (reverse (drop count xs)) ≡ length xs - count =
      length-reverse (drop count xs) ∙ length-drop count xs in
      let back : second ≡ drop count xs =
      part ∙ ap (λ l. reverse (take (length xs - count) l)) parts
      ∙ ap reverse (take_at _ _ _ long) ∙ reverse-reverse (drop count xs) in
      let front : drop (length xs - count) first ≡ reverse (take count xs) =
      ap (drop (length xs - count)) parts ∙ drop_at _ _ _ long in
      λ t. back t ++ front t

module _ {X : Type 0} (same : X → X → Type 0) (xs ys : List X) (i : ℕ) (x y : X) where
  -- those below place i have their copies, and x at place i has its own
  pub one_more_copy : i < length xs → x ≡ get_or xs i x → AllZip same (take i xs) ys → same x y
      → AllZip same (take (i + 1) xs) (ys ++ y ∷ [])
  one_more_copy below at those this =
      let next : take (i + 1) xs ≡ take i xs ++ x ∷ [] = rw add-one (take-suc xs i x below ∙ (λ k. take i xs ++ sym at k ∷ [])) in
      subst (λ l. AllZip same l (ys ++ y ∷ [])) (sym next) (AllZip-push same (take i xs) ys x y those this)

-- Items that are results, place by place.
use Rattle.std.proofs.Common.{◌≡◌, ◌+◌, ◌<◌, ℕ, zero, suc, arith, List, [], ◌∷◌, ◌++◌, map, length, Result, Ok, Err, IsOk}
use Rattle.std.proofs.Common.{refl, ap, ◌∙◌}
use Rattle.std.specs.List.{slice_index_or}
use Rattle.std.proofs.Math.ListN.{get_or-map}
use Rattle.std.proofs.lemmas.List.{length-map, length_push}
use Rattle.wic_collect.specs.Collected.{AreValues, EndWithError}

module _ {T E : Type 0} where
  -- values, each as an Ok
  pub are_values : (items : List (Result T E)) (values : List T) → items ≡ map Ok values → AreValues items values
  are_values items values is = (
    is,
    ap length is ∙ length-map values Ok,
    λ k d l. ap (λ l. slice_index_or l k (Ok d)) is ∙ get_or-map Ok values k d,
  )

  -- the item behind the values
  last_is : (values : List T) (r d : Result T E) → slice_index_or (map Ok values ++ r ∷ []) (length values) d ≡ r
  last_is [] r d = refl
  last_is (x ∷ values) r d = last_is values r d

  -- an item before it
  ok_before : (values : List T) (r d : Result T E) (k : ℕ) → k < length values → IsOk (slice_index_or (map Ok values ++ r ∷ []) k d)
  ok_before [] r d k l = absurd (omega (arith, l))
  ok_before (x ∷ values) r d zero l = refl
  ok_before (x ∷ values) r d (suc k) l = ok_before values r d k (omega (arith, l))

  -- values, each as an Ok, and then an Err
  pub end_with_error : (values : List T) (e : E) → EndWithError (map Ok values ++ Err e ∷ []) e
  end_with_error values e = (
    (values, refl),
    length values,
    length_push (map Ok values) (Err e) ∙ ap (λ n. n + 1) (length-map values Ok),
    λ d. last_is values (Err e) d,
    λ k d l. ok_before values (Err e) d k l,
  )

-- Items that are read one after another.
use Rattle.std.proofs.Common.{◌≡◌, List, [], ◌∷◌, ◌++◌, map, Option, Some, Result, Ok, refl, sym, ap, subst, ◌∙◌}
use Rattle.std.specs.Iterator.{Yields, Drains}
use Rattle.std.proofs.iter.Next.{Yields-more}
use Rattle.std.proofs.lemmas.List.{map-append}
use Rattle.wic_collect.specs.Collect.{Reads, ReadsAll}

module _ {S X T E : Type 0} (steps : S → Option X → S → Type 0) (as_result : X → Result T E) where
  -- one more item was read, and it is Ok
  pub reads_more : (s t u : S) (values : List T) (x : X) (y : T) → Reads steps as_result s values t → steps t (Some x) u
      → as_result x ≡ Ok y → Reads steps as_result s (values ++ y ∷ []) u
  reads_more s t u values x y read step is = (
    read.0 ++ x ∷ [],
    Yields-more steps s read.0 t x u read.1 step,
    map-append as_result read.0 (x ∷ []) ∙ ap (λ l. l ++ as_result x ∷ []) read.2 ∙ ap (λ r. map Ok values ++ r ∷ []) is
        ∙ sym (map-append Ok values (y ∷ [])),
  )

module _ {S X E : Type 0} (steps : S → Option X → S → Type 0) (as_result : X → Result X E) (plain : (x : X) → as_result x ≡ Ok x)
  where
    -- if the values of items are the items, equal values make equal lists
    same_values : (items values : List X) → map as_result items ≡ map Ok values → items ≡ values
    same_values [] [] same = refl
    same_values [] (y ∷ values) same = absurd (cc)
    same_values (x ∷ items) [] same = absurd (cc)
    same_values (x ∷ items) (y ∷ values) same =
        let as_is = plain x in
        let here : x ≡ y = cc in
        let there : map as_result items ≡ map Ok values = cc in
        λ i. here i ∷ same_values items values there i

    -- items that are their own values are what was read
    pub yields_from_reads : (s t : S) (values : List X) → Reads steps as_result s values t → Yields steps s values t
    yields_from_reads s t values read = subst (λ l. Yields steps s l t) (same_values read.0 values read.2) read.1

    -- an iterator that was read to its end gave just these values
    pub drains_from_reads : (s u : S) (values : List X) → ReadsAll steps as_result s values u → Drains steps s values
    drains_from_reads s u values read = (u, (read.0, yields_from_reads s read.0 values read.1, read.2))

    -- and one more
    pub yields_one_more : (s t u : S) (values : List X) (x : X) → Reads steps as_result s values t → steps t (Some x) u
        → Yields steps s (values ++ x ∷ []) u
    yields_one_more s t u values x read step = Yields-more steps s values t x u (yields_from_reads s t values read) step

module _ {S T E : Type 0} (steps : S → Option (Result T E) → S → Type 0) (as_result : Result T E → Result T E)
    (as_is : (x : Result T E) → as_result x ≡ x)
  where
    -- results that are passed on are the items
    same_items : (items : List (Result T E)) → map as_result items ≡ items
    same_items [] = refl
    same_items (x ∷ items) = λ i. as_is x i ∷ same_items items i

    -- items that are results are what was read, each with its value in an Ok
    pub results_from_reads : (s t : S) (values : List T) → Reads steps as_result s values t → Yields steps s (map Ok values) t
    results_from_reads s t values read = subst (λ l. Yields steps s l t) (sym (same_items read.0) ∙ read.2) read.1

    -- an iterator over results that was read to its end gave just these values, each as an Ok
    pub drains_results : (s u : S) (values : List T) → ReadsAll steps as_result s values u → Drains steps s (map Ok values)
    drains_results s u values read = (u, (read.0, results_from_reads s read.0 values read.1, read.2))

    -- and one more item, as it is
    pub results_one_more : (s t u : S) (values : List T) (x r : Result T E) → Reads steps as_result s values t
        → steps t (Some x) u → as_result x ≡ r → Yields steps s (map Ok values ++ r ∷ []) u
    results_one_more s t u values x r read step is =
        subst (λ y. Yields steps s (map Ok values ++ y ∷ []) u) (sym (as_is x) ∙ is)
        (Yields-more steps s (map Ok values) t x u (results_from_reads s t values read) step)

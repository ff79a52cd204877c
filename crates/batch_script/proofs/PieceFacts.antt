-- Bytes that are read and written in pieces.
use Rattle.std.proofs.Common.{◌≡◌, ◌-◌, ℕ, List, [], ◌++◌, length, take, drop, sym, ap, ◌∙◌, append_assoc, Option}
use Rattle.std.proofs.Common.{◌≢◌, ◌+◌, ◌<◌, ◌≤◌, Result, Ok, Err, OnErr, arith}
use Rattle.std.proofs.lemmas.List.{take-append-drop, take_rest, append-nil}
use Rattle.batch_script.specs.Device.{AtMost, TakesFirst}

-- what was written, the piece that is taken, and the rest
pub front-more : (front rest : List ℕ) (count : ℕ)
    → front ++ rest ≡ (front ++ take count rest) ++ take (length rest - count) (drop count rest)
front-more front rest count =
    ap (λ bytes. front ++ bytes) (sym (take-append-drop count rest))
    ∙ (sym (append_assoc front (take count rest) (drop count rest))
    ∙ ap (λ later. (front ++ take count rest) ++ later) (sym (take_rest rest count)))

-- what was read, with the piece that was taken, and the rest
pub read-more : (bytes rest input buffer : List ℕ) (left_after : Option (List ℕ)) (count : ℕ) → bytes ++ rest ≡ input
    → TakesFirst rest left_after buffer count → (bytes ++ take count buffer) ++ drop count rest ≡ input
read-more bytes rest input buffer left_after count so_far takes =
    ap (λ piece. (bytes ++ piece) ++ drop count rest) takes.read
    ∙ (append_assoc bytes (take count rest) (drop count rest)
    ∙ (ap (λ later. bytes ++ later) (take-append-drop count rest) ∙ so_far))

-- with nothing left all was read
pub read-all : (bytes rest input : List ℕ) → bytes ++ rest ≡ input → rest ≡ [] → bytes ≡ input
read-all bytes rest input so_far none =
    sym (append-nil bytes) ∙ (ap (λ later. bytes ++ later) (sym none) ∙ so_far)

-- a text that has a byte is not empty
pub nonempty : (text : List ℕ) → 0 < length text → text ≢ []
nonempty text some none = let empty = ap length none in omega arith

-- what holds holds of a failure too
pub on-err : {T E : Type 0} {P : Type 0} (result : Result T E) → P → OnErr result P
on-err (Ok value) holds = tt
on-err (Err error) holds = holds

-- calls that led to here, and one more that moved bytes or none
pub and_one : {D : Type 0} (reaches : ℕ → D → D → Type 0)
    → ((first more : ℕ) (before between after : D) → reaches first before between → reaches more between after
    → reaches (first + more) before after)
    → (most moved limit : ℕ) (before between after : D) → AtMost most reaches before between → reaches moved between after
    → most + moved ≤ limit → AtMost limit reaches before after
and_one reaches goes_on most moved limit before between after calls call few =
    (calls.0 + moved, (let so_far = calls.1 in omega arith), goes_on calls.0 moved before between after calls.2 call)

-- What calls of the devices in memory make of them, one after the other.
use Rattle.std.proofs.Common.{◌∙◌, ◌+◌, ℕ, List, [], ◌++◌, length, refl, sym, ap, arith}
use Rattle.std.proofs.lemmas.List.{append-nil, append_assoc, length-append}
use Rattle.batch_script.specs.MemoryDevice.{Gave, MemSource, MemSink, SourceReaches, SinkReaches, Counted}

-- no call gave no byte
pub gave_none : (left : List ℕ) → Gave 0 left left
gave_none left = record { given = []; parts = refl; each = omega arith }

-- what was given first and then
pub gave_more : (first more : ℕ) (left between after : List ℕ) → Gave first left between → Gave more between after
    → Gave (first + more) left after
gave_more first more left between after one two = record {
  given = one.given ++ two.given;
  parts = one.parts ∙ (ap (λ rest. one.given ++ rest) two.parts ∙ sym (append_assoc one.given two.given after));
  each = let long = length-append one.given two.given in let few = one.each in let less = two.each in omega arith;
}

-- a source that is not called
pub source_none : (source : MemSource) → SourceReaches 0 source source
source_none source = record { gave = gave_none source.left; piece = refl; failing = refl; quiet = λ none. refl }

-- a source that is called, and called again
pub source_more : (first more : ℕ) (before between after : MemSource) → SourceReaches first before between
    → SourceReaches more between after → SourceReaches (first + more) before after
source_more first more before between after one two = record {
  gave = gave_more first more before.left between.left after.left one.gave two.gave;
  piece = two.piece ∙ one.piece;
  failing = two.failing ∙ one.failing;
  quiet = λ none. two.quiet (one.failing ∙ none) ∙ one.quiet none;
}

-- a sink that is not called
pub sink_none : (sink : MemSink) → SinkReaches 0 sink sink
sink_none sink = record {
  taken = [];
  bytes = sym (append-nil sink.bytes);
  each = omega arith;
  room = refl;
  piece = refl;
  failing = refl;
  quiet = λ none room. refl;
}

-- a sink that is called, and called again
pub sink_more : (first more : ℕ) (before between after : MemSink) → SinkReaches first before between
    → SinkReaches more between after → SinkReaches (first + more) before after
sink_more first more before between after one two =
    let long = length-append one.taken two.taken in
    let grown = ap length two.bytes ∙ length-append between.bytes two.taken in
    let room = two.room in record {
      taken = one.taken ++ two.taken;
      bytes = two.bytes ∙ (ap (λ held. held ++ two.taken) one.bytes ∙ append_assoc before.bytes one.taken two.taken);
      each = let few = one.each in let less = two.each in omega arith;
      room = two.room ∙ one.room;
      piece = two.piece ∙ one.piece;
      failing = two.failing ∙ one.failing;
      quiet = λ none left. two.quiet (one.failing ∙ none) left ∙ one.quiet none (omega arith);
    }

-- no call counts no byte
pub counted_none : (total : ℕ) → Counted 0 total total
counted_none total = record { taken = 0; each = omega arith; counted = omega arith; no_more = omega arith }

-- bytes that are counted first and then
pub counted_more : (first more before between after : ℕ) → Counted first before between → Counted more between after
    → Counted (first + more) before after
counted_more first more before between after one two =
    let few = one.each in let less = two.each in
    let here = one.counted in let there = two.counted in
    let so_far = one.no_more in let at_last = two.no_more in record {
      taken = one.taken + two.taken;
      each = omega arith;
      counted = omega arith;
      no_more = omega arith;
    }

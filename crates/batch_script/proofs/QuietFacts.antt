-- Where no call of the devices in memory is listed as failing and there is room enough, no fault is counted.
use Rattle.std.proofs.Common.{◌≡◌, ◌≢◌, ◌∙◌, ℕ, ◌≤◌, ◌<◌, List, [], ◌∷◌, length, refl, ap, sym, subst, inl, inr, arith, Some}
use Rattle.std.proofs.lemmas.List.{length-append}
use Rattle.wic_vec.specs.TryString.{TryString}
use Rattle.batch_script.specs.Device.{Use, AtMost, HasFaults, use_of}
use Rattle.batch_script.specs.Grammar.{IsScript}
use Rattle.batch_script.specs.MemoryDevice.{MemSink, SinkReaches}
use Rattle.batch_script.specs.Program.{batch_meaning}
use Rattle.batch_script.specs.RunText.{HoldsReplies}
use Rattle.batch_script.specs.Status.{CallsFor, Finishes, IsAmong, Offers}
use Rattle.batch_script.specs.declared.program.Status.{Status}
use Rattle.batch_script.specs.declared.program.Status.TheVariants.{Done, Oom, ReadFault, WriteFault}
use Rattle.batch_script.specs.declared.program.TheConstants.{INPUT_LIMIT}
use Rattle.batch_script.specs.ProgramLaws.{batch_sound}
use Rattle.batch_script.proofs.StatusFacts.{calls_among, replies_of, some_told}

-- what a script calls for has room if no read failed
pub script_has_room : (source sink : Use) (status : Status) (input text : List ℕ) (words : List TryString) (room : ℕ)
    → Offers words source input → length input ≤ INPUT_LIMIT → IsScript input → ¬ HasFaults source → HoldsReplies room input
    → CallsFor batch_meaning words source status text → length text ≤ room
script_has_room source sink status input text words room offers within script quiet holds called =
    fits ((calls_among batch_meaning batch_sound words source text sink status called).script input offers within script)
  where
    at : (other : Status) → status ≡ other → CallsFor batch_meaning words source other text
    at other is = subst (λ s. CallsFor batch_meaning words source s text) is called

    fits : IsAmong (Done ∷ Oom ∷ ReadFault ∷ WriteFault ∷ []) status → length text ≤ room
    fits (inl is) =
        let replies = replies_of batch_meaning batch_sound words source text (at Done is).1 offers.no_words in
        holds.holds_runs text (replies.replies input offers.told)
    fits (inr (inl is)) = subst (λ line. length line ≤ room) (sym (at Oom is).2) holds.holds_refusal
    fits (inr (inr (inl is))) = absurd (quiet (at ReadFault is).0)
    fits (inr (inr (inr (inl is)))) = absurd (at WriteFault is)
    fits (inr (inr (inr (inr none)))) = absurd none

-- a text for which there is room is written with no fault
pub no_write_fails : (status result : Status) (sink sink_after : MemSink) (text : List ℕ) → sink.bytes ≡ [] → sink.failing ≡ []
    → length text ≤ sink.room
    → Finishes text status (use_of (λ s. Some s.bytes) (λ s. s.faults) sink sink_after) (λ most. AtMost most SinkReaches sink sink_after)
    result
    → sink_after.faults ≡ sink.faults
no_write_fails status result sink sink_after text empty none room (inl wrote) = wrote.1.kept
no_write_fails status result sink sink_after text empty none room (inr failed) =
    let front = failed.1.front in
    let rest = failed.1.rest in
    let reached = failed.1.writes.2 in
    let held : sink_after.bytes ≡ front = some_told sink_after.bytes front (failed.1.gained [] (ap Some empty)) in
    let parts = ap length failed.1.parts ∙ length-append front rest in
    let more = not_empty rest failed.1.more in
    let long = ap length held in
    let same = reached.room in
    reached.quiet none (omega arith)
  where
    not_empty : (xs : List ℕ) → xs ≢ [] → 0 < length xs
    not_empty [] some = absurd (some refl)
    not_empty (x ∷ xs) some = omega arith

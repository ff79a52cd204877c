use Rattle.std.proofs.Common.{◌∙◌, ◌≤◌, [], Some, length, ap, subst, sym, arith}
use Rattle.batch_script.specs.Device.{HasFaults, Use, use_of}
use Rattle.batch_script.proofs.QuietFacts.{script_has_room, no_write_fails}
use Rattle.batch_script.proofs.callers.run_in_memory.Goals as goal

pub returns-clause-whole : goal.returns-clause-whole
returns-clause-whole c = λ items script within holds.
    let ended = c.top-status.ensures in
    let how = ended.concludes in
    let given = c.new-source.ensures in
    let room = c.in_ok-sink.ensures in
    let no_words = c.new-4.ensures.empty in
    let source : Use = use_of (λ s. Some s.left) (λ s. s.faults) c.new-source.result c.top-status.new.source in
    let sink : Use = use_of (λ s. Some s.bytes) (λ s. s.faults) c.in_ok-sink.sink c.top-status.new.sink in
    let reads_kept = ended.reads.2.quiet (given.failing ∙ c.new.ensures.empty) in
    let no_count = given.faults in
    let read_quiet : HasFaults source → ⊥ = λ rose. omega (arith, rose) in
    let fits = script_has_room source sink how.status c.args.script.items how.text c.new-4.result.items c.args.room
    (record { no_words = no_words; told = ap Some given.left }) within (items, script) read_quiet holds how.called_for in
    let writes_kept = no_write_fails how.status c.top-status.result c.in_ok-sink.sink c.top-status.new.sink how.text room.empty
    (room.failing ∙ c.new-2.ensures.empty) (subst (λ most. length how.text ≤ most) (sym room.room) fits) how.finished in
    let none_yet = room.faults in
    ended.headline c.args.script.items [] items (record {
      no_words = no_words;
      source_tells = ap Some given.left;
      within_limit = within;
      sink_tells = ap Some room.empty;
      source_quiet = read_quiet;
      sink_quiet = λ rose. omega (arith, rose);
      script = script;
    })

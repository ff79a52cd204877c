use Rattle.std.proofs.Common.{◌≡◌, ◌<◌, ◌∙◌, ◌++◌, ap, drop, length, take, min, Some, arith}
use Rattle.std.proofs.lemmas.List.{length-append, length-take}
use Rattle.batch_script.proofs.PieceFacts.{and_one, read-more, read-all}
use Rattle.batch_script.proofs.program.read_input.Goals as goal

pub returns-in-Ok-eq0-clause-bytes : goal.returns-in-Ok-eq0-clause-bytes
returns-in-Ok-eq0-clause-bytes g c =
    let inv = c.loop-bytes.invariant in
    let zero : c.in-Ok-eq0.field-0 ≡ 0 = omega arith in
    let buffer : 0 < length c.read.new.buf = omega arith in
    record {
      all = λ input told. let left = inv.left input told in
          read-all c.loop-bytes.bytes.items left.0 input left.2 ((c.in-Ok-eq0.ensures.bytes left.0 left.1).ended zero buffer);
      ended = λ input told. let left = inv.left input told in let takes = c.in-Ok-eq0.ensures.bytes left.0 left.1 in
          takes.rest ∙ ap Some (ap (λ count. drop count left.0) zero ∙ takes.ended zero buffer);
      within = inv.within;
      kept = c.in-Ok-eq0.ensures.cause.kept ∙ inv.kept;
    }

pub loop-bytes-preserved : goal.loop-bytes-preserved
loop-bytes-preserved g c =
    let inv = c.loop-bytes.invariant in
    let count = c.in-Ok.count in record {
      kept = c.in-Ok.ensures.cause.kept ∙ inv.kept;
      within = c.in_ok-take_piece-in-Ok.ensures.fits;
      piece = omega arith;
      left = λ input told. let left = inv.left input told in let takes = c.in-Ok.ensures.bytes left.0 left.1 in (
        drop count left.0,
        takes.rest,
        ap (λ items. items ++ drop count left.0) c.in_ok-take_piece-in-Ok.ensures.taken
            ∙ read-more c.loop-bytes.bytes.items left.0 input c.read.new.buf (g.S.Source.left c.read.new.self) count left.2 takes,
      );
      reads = and_one g.S.Device.reaches g.S.Device.goes_on (length c.loop-bytes.bytes.items) (min count 1)
          (length c.take_piece.new.bytes.items) c.args.source.now c.loop-bytes.source c.read.new.self inv.reads c.in-Ok.ensures.reaches (
          let within = c.in-Ok.ensures.within in let buffer = c.read.new.buf in
          let grown = ap length c.in_ok-take_piece-in-Ok.ensures.taken ∙ length-append c.loop-bytes.bytes.items (take count buffer) in
          let piece = length-take count buffer in omega arith);
      can_call = c.in-Ok.ensures.can_call (omega arith);
    }

pub returns-in-Ok-eq0-clause-reads : goal.returns-in-Ok-eq0-clause-reads
returns-in-Ok-eq0-clause-reads g c =
    let inv = c.loop-bytes.invariant in
    and_one g.S.Device.reaches g.S.Device.goes_on (length c.loop-bytes.bytes.items) (min c.in-Ok-eq0.field-0 1) 67108865
    c.args.source.now c.loop-bytes.source c.read.new.self inv.reads c.in-Ok-eq0.ensures.reaches (omega arith)

pub returns-in_err-take_piece-in-Ok-clause-reads : goal.returns-in_err-take_piece-in-Ok-clause-reads
returns-in_err-take_piece-in-Ok-clause-reads g c =
    let inv = c.loop-bytes.invariant in
    and_one g.S.Device.reaches g.S.Device.goes_on (length c.loop-bytes.bytes.items) (min c.in-Ok.count 1) 67108865
    c.args.source.now c.loop-bytes.source c.read.new.self inv.reads c.in-Ok.ensures.reaches (omega arith)

pub returns-in-Err-clause-reads : goal.returns-in-Err-clause-reads
returns-in-Err-clause-reads g c =
    let inv = c.loop-bytes.invariant in
    and_one g.S.Device.reaches g.S.Device.goes_on (length c.loop-bytes.bytes.items) 0 67108865
    c.args.source.now c.loop-bytes.source c.read.new.self inv.reads c.in-Err.ensures.reaches (omega arith)

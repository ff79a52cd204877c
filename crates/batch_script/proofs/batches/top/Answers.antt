use Rattle.batch_script.specs.Device.{AtMost, use_of}
use Rattle.batch_script.proofs.StatusFacts.{headline_lem, summary_lem}
use Rattle.batch_script.proofs.batches.top.Goals as goal

pub returns-clause-headline : goal.returns-clause-headline
returns-clause-headline g c =
    headline_lem c.args.words.now.items (use_of g.S.Source.left g.S.Device.faults c.args.source.now c.serve.new.source)
    (use_of g.K.Sink.written g.K.Device.faults c.args.sink.now c.serve.new.sink)
    (λ most. AtMost most g.K.Device.reaches c.args.sink.now c.serve.new.sink) c.serve.result c.serve.ensures.concludes

pub returns-clause-summary : goal.returns-clause-summary
returns-clause-summary g c =
    summary_lem c.args.words.now.items (use_of g.S.Source.left g.S.Device.faults c.args.source.now c.serve.new.source)
    (use_of g.K.Sink.written g.K.Device.faults c.args.sink.now c.serve.new.sink)
    (λ most. AtMost most g.K.Device.reaches c.args.sink.now c.serve.new.sink) c.serve.result c.serve.ensures.concludes

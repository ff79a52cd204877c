use Rattle.batch_script.specs.Device.{AtMost, use_of}
use Rattle.batch_script.proofs.StatusFacts.{IsOfScripts, headline_over}
use Rattle.batch_nest.specs.Program.{nest_meaning, nest_sound}
use Rattle.batch_nest.specs.Script.{nest_bodies, nest_printing}
use Rattle.batch_nest.proofs.PrintFacts.{nests_told}
use Rattle.batch_nest.proofs.program.nest_top.Goals as goal

-- to the program of nests these are its scripts
nests_known : IsOfScripts nest_bodies nest_printing nest_meaning
nests_known = record { sound = nest_sound; scripts = λ input script. script; replies = λ input text reply. reply }

pub returns-clause-headline : goal.returns-clause-headline
returns-clause-headline g c =
    headline_over nest_bodies nest_printing nests_told nest_meaning nests_known c.args.words.now.items
    (use_of g.S.Source.left g.S.Device.faults c.args.source.now c.serve.new.source)
    (use_of g.K.Sink.written g.K.Device.faults c.args.sink.now c.serve.new.sink)
    (λ most. AtMost most g.K.Device.reaches c.args.sink.now c.serve.new.sink) c.serve.result c.serve.ensures.concludes

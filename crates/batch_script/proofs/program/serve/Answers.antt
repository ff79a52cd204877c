use Rattle.std.proofs.Common.{[], ap, inr, refl}
use Rattle.batch_script.specs.Device.{AtMost, Use, use_of}
use Rattle.batch_script.specs.Answer.{status_of, text_of_answer}
use Rattle.batch_script.specs.Status.{CallsFor}
use Rattle.batch_script.specs.declared.program.Answer.TheVariants.{Done, Oom, Usage}
use Rattle.batch_script.proofs.StatusFacts.{called_at, called_without, concludes_by, ends_lem}
use Rattle.batch_script.proofs.program.serve.Goals as goal
use Rattle.batch_script.proofs.program.serve.Goals.{in-Script, in-Text, in-OutOfMemory, in-Usage}

pub returns-clause-concludes : goal.returns-clause-concludes
returns-clause-concludes g c =
    let words = c.args.words.now.items in
    let meaning = g.P.Program.meaning in
    let source : Use = use_of g.S.Source.left g.S.Device.faults c.args.source.now c.match-asked.source in
    let answer = c.match-asked.answer in
    let called : CallsFor meaning words source (status_of answer) (text_of_answer meaning.usage answer) =
    elim c.match-asked.branch [
      | in-Script w ↦ called_without meaning words source answer w.in-Script.ensures (called_at meaning [] source
          (use_of g.S.Source.left g.S.Device.faults c.args.source.now w.answer_to_source-answer.new.source)
          answer w.answer_to_source-answer.result
          (ap (use_of g.S.Source.left g.S.Device.faults c.args.source.now) w.source-is) w.answer-is
          w.answer_to_source-answer.ensures.called_for)
      | in-Text w ↦ called_at meaning words source source answer (Done w.in-Text.text) refl w.answer-is
          (ap g.S.Device.faults w.source-is, inr w.in-Text.ensures)
      | in-OutOfMemory w ↦ called_at meaning words source source answer Oom refl w.answer-is
          (ap g.S.Device.faults w.source-is, w.in-OutOfMemory.ensures.1, refl)
      | in-Usage w ↦ called_at meaning words source source answer Usage refl w.answer-is
          (ap g.S.Device.faults w.source-is, w.in-Usage.ensures, refl)
    ] in
    concludes_by meaning words source (use_of g.K.Sink.written g.K.Device.faults c.args.sink.now c.finish.new.sink)
    (λ most. AtMost most g.K.Device.reaches c.args.sink.now c.finish.new.sink) c.finish.result c.status.result c.text.result.now answer
    called c.status.ensures.status c.text.ensures.text c.finish.ensures.finishes

pub returns-clause-ends : goal.returns-clause-ends
returns-clause-ends g c =
    ends_lem g.P.Program.meaning g.P.Program.sound c.args.words.now.items
    (use_of g.S.Source.left g.S.Device.faults c.args.source.now c.match-asked.source)
    (use_of g.K.Sink.written g.K.Device.faults c.args.sink.now c.finish.new.sink)
    (λ most. AtMost most g.K.Device.reaches c.args.sink.now c.finish.new.sink) c.finish.result (returns-clause-concludes g c)

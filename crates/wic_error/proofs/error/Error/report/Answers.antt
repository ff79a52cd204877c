use Rattle.std.proofs.Common.{◌<◌, length, map, reverse, arith, append_assoc, sym, ◌∙◌}
use Rattle.std.proofs.lemmas.Bool.{eqb-false}
use Rattle.std.proofs.lemmas.List.{length-map, length-reverse}
use Rattle.wic_error.proofs.TextFacts.{report-causes}
use Rattle.wic_error.proofs.error.Error.report.Goals as goal

pub returns : goal.returns
returns g c =
    let texts = c.causes-causes.ensures.texts in
    let causes = c.causes-causes.result.now in
    let nonempty = eqb-false (length causes) 0 (sym c.is_empty.ensures ∙ c.if-is_empty.false) in
    let some : 0 < length (map g.K.Kind.text (reverse causes)) = simp (length-map, length-reverse) (omega arith) in
    record {
      text = rw (
        c.in_ok-push_causes.ensures.lines,
        c.in_ok-push_str.ensures.last,
        c.in_ok-text.ensures.text,
        texts.1,
        report-causes texts.0 (map g.K.Kind.text (reverse causes)) some,
        append_assoc,
      );
    }

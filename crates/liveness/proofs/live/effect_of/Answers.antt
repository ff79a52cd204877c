use Rattle.std.proofs.Common.{sym, ap, ◌∙◌}
use Rattle.std.specs.FinSet.{contains}
use Rattle.liveness.proofs.OpsFacts.{use_defines, use_exposes, use_hidden, def_defines, def_exposes}
use Rattle.liveness.proofs.live.effect_of.Goals as goal
use Rattle.liveness.proofs.live.effect_of.Goals.{in-Use+then-not-contains+in_ok-insert-in-Use, in-Use+else-not-contains}
use Rattle.liveness.proofs.live.effect_of.Goals.{in-Def+in_ok-insert-in-Def}

pub loop-op-preserved : goal.loop-op-preserved
loop-op-preserved c =
    let ops = c.args.ops.now in
    let i = c.loop-op.op-index in
    let was = c.loop-op.invariant in
    let within = c.loop-op-test.true in
    elim c.match-op.branch [
      | in-Use+then-not-contains+in_ok-insert-in-Use b ↦ let free =
          sym (was.defined b.in-Use.v.0) ∙ sym b.contains.ensures.member ∙ b.if-not-contains.true in record {
            defined = λ v. ap (λ s. contains s.members v) b.defined-is ∙ use_defines ops i b.in-Use.v _ within _ b.in-Use.is was.defined v;
            exposed = λ v. ap (λ s. contains s.members v) b.exposed-is ∙ ap (λ s. contains s v) b.in_ok-insert-in-Use.ensures.members
                ∙ use_exposes ops i b.in-Use.v _ within _ b.in-Use.is free was.exposed v;
          }
      | in-Use+else-not-contains b ↦ let there =
          sym (was.defined b.in-Use.v.0) ∙ sym b.contains.ensures.member ∙ b.if-not-contains.false in record {
            defined = λ v. ap (λ s. contains s.members v) b.defined-is ∙ use_defines ops i b.in-Use.v _ within _ b.in-Use.is was.defined v;
            exposed = λ v. ap (λ s. contains s.members v) b.exposed-is
                ∙ use_hidden ops i b.in-Use.v _ within _ b.in-Use.is there was.exposed v;
          }
      | in-Def+in_ok-insert-in-Def b ↦ record {
        defined = λ v. ap (λ s. contains s.members v) b.defined-is ∙ ap (λ s. contains s v) b.in_ok-insert-in-Def.ensures.members
            ∙ def_defines ops i b.in-Def.v _ within _ b.in-Def.is was.defined v;
        exposed = λ v. ap (λ s. contains s.members v) b.exposed-is ∙ def_exposes ops i b.in-Def.v _ within _ b.in-Def.is was.exposed v;
      }
    ]

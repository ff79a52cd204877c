use Rattle.std.proofs.Common.{◌≡◌, ◌+◌, ◌-◌, arith}
use Rattle.liveness.proofs.PassFacts.{goes_on}
use Rattle.liveness.proofs.graph.Graph.pass.Goals as goal

pub loop-b-preserved : goal.loop-b-preserved
loop-b-preserved g c =
    let was = c.loop-b.invariant in
    let down : c.loop-b.b - 1 + 1 ≡ c.loop-b.b = omega arith in
    let looks = c.visit.ensures.looks in
    let so_far = was.looks in
    record {
      ready = c.in_ok-added.ensures.ready;
      pass = goes_on c.args.self.now.blocks c.loop-b.changed _ c.args.found.now.live.items
          c.loop-b.found.live.items c.visit.new.found.live.items c.loop-b.b (c.loop-b.b - 1) down was.within was.pass
          c.in_ok-added.ensures.visit;
      within = let h = was.within in omega arith;
      looks = omega arith;
    }

use Rattle.std.proofs.Common.{◌≡◌, is_some, true, sym, ◌∙◌, refl}
use Rattle.gen_slab.specs.GenSlab.{value_of}
use Rattle.gen_slab.proofs.KeptFacts.{writes_only}
use Rattle.gen_slab.proofs.slab.GenerationalSlab.get_mut.Goals as goal

pub returns-then-contains : goal.returns-then-contains
returns-then-contains g c =
    let some : is_some (value_of c.args.self.now.state c.args.handle) ≡ true = sym c.contains.ensures.live ∙ c.if-contains.true in (
      refl,
      record {
        writes_back = tt;
        value = sym c.value_mut.ensures.value;
        written = writes_only c.args.self.now.state c.args.handle c.len.ensures.sound some;
        sound = c.len.ensures.sound;
      },
    )

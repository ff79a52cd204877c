use Rattle.std.proofs.Common.{rules, ◌∙◌, ◌++◌, sym, ap}
use Rattle.batch_core.specs.Command.{made_of}
use Rattle.batch_core.specs.declared.record.Record.TheVariants.{Popped}
use Rattle.batch_core.proofs.ListFacts.{without_last_of, last_value_of}
use Rattle.batch_core.proofs.store.Store.pop.Goals as goal

pub returns : goal.returns
returns g c =
    let s = c.args.self.now in
    let view = c.self.view_is in
    let ys = c.pop.new.self.items in
    let ends = ap (λ v. v.contents.list) (sym view) ∙ c.in-Some.ensures.last in
    let left = without_last_of s.contents.list ys c.in-Some.value ends in
    let taken = last_value_of s.contents.list ys c.in-Some.value ends in
    record {
      done = record {
        effect = λ i. record {
          list = sym left i;
          set = (view i).contents.set;
          live = (view i).contents.live;
          order = (view i).contents.order;
        };
        records = c.push_reserved.ensures.last ∙ (λ i. (view i).records ++ made_of (sym taken i) Popped);
      };
      room = search rules;
      capacities = search rules;
    }

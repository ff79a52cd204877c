use Rattle.std.proofs.Common.{◌≡◌, length, rules, ap, ◌∙◌}
use Rattle.wic_vec.proofs.ClosureFacts.{appends_answers, given_ok}
use Rattle.wic_vec.proofs.vec.TryVec.resize_with.Goals as goal

pub returns-clause-items : goal.returns-clause-items
returns-clause-items g c =
    let same = ap (λ v. v.items) c.self.view_is ∙ c.reserve.ensures.same_items in
    let said = given_ok _ _ c.unwrap.ensures c.resize_with.ensures.items in
    let long : length c.resize_with.new.self.items ≡ c.args.new_len =
    search (rules, given_ok _ _ c.unwrap.ensures c.resize_with.ensures.len) in
    appends_answers _ _ _ _ _ _ same said long

pub returns-clause-length : goal.returns-clause-length
returns-clause-length g c = search (rules, given_ok _ _ c.unwrap.ensures c.resize_with.ensures.len)

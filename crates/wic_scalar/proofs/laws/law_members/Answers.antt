use Rattle.std.proofs.Common.{refl, sym}
use Rattle.wic_base.proofs.SetFacts.{lists_members}
use Rattle.wic_scalar.proofs.CallFacts.{as_many_listed}
use Rattle.wic_scalar.proofs.MemberFacts.{rising-members_of, below_width}
use Rattle.wic_scalar.specs.Scalar.{members_of}
use Rattle.wic_scalar.proofs.laws.law_members.Goals as goal

pub returns : goal.returns
returns c width number = record {
  lists = lists_members (members_of width number) _ refl (rising-members_of width number) (sym (as_many_listed width number));
  within = below_width width number;
}

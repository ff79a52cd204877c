use Rattle.wic_bitset.proofs.RisingFacts.{lists-rising}
use Rattle.wic_bitset.proofs.laws.law_members.Goals as goal

pub returns : goal.returns
returns c = lists-rising

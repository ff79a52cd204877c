use Rattle.std.proofs.Common.{◌+◌, ◌%◌, ◌/◌}
use Rattle.wic_vec.proofs.DigitFacts.{two_written}
use Rattle.wic_vec.proofs.TableFacts.{pair_at}
use Rattle.wic_vec.proofs.string.digits.write_pair.Goals as goal

pub returns : goal.returns
returns c =
    let table = pair_at c.args.number c.requires.number in record {
      written = rw (table.0, table.1)
          (two_written c.args.digits.now c.args.start (48 + c.args.number / 10) (48 + c.args.number % 10) c.requires.inside);
    }

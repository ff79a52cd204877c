use Rattle.std.proofs.Common.{arith}
use Rattle.batch_script.proofs.WordFacts.{same_count}
use Rattle.batch_script.proofs.words.seed_and_count.Goals as goal

pub returns-then-count-gt-MOST_BATCHES-clause-none : goal.returns-then-count-gt-MOST_BATCHES-clause-none
returns-then-count-gt-MOST_BATCHES-clause-none c = λ from many asks.
    let count = c.in_ok-count.ensures.some in
    let same = same_count c.args.word.now c.args.seed.now c.args.count.now c.in_ok-count.count from many count.1 count.0 asks in
    omega (arith, asks.within_limit)

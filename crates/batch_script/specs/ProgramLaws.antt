-- Words ask the program for one thing at most, and what it replies to is a script.
use Rattle.std.proofs.Common.{◌≡◌, ℕ, List, [], ap, arith, length, subst}
use Rattle.wic_vec.specs.TryString.{TryString}
use Rattle.batch_script.specs.Program.{batch_meaning}
use Rattle.batch_script.specs.Status.{IsMeaning}
use Rattle.batch_script.specs.Words.{AsksForRun}

-- words that say numbers are some
pub some_words : (words : List TryString) (seed count : ℕ) → words ≡ [] → ¬ AsksForRun words seed count
some_words words seed count none asks =
    let said = subst (λ (given : List TryString). AsksForRun given seed count) none asks in
    let long = ap length said.said in omega arith

pub batch_sound : IsMeaning batch_meaning
batch_sound = record {
  reply_is_script = λ input text reply. (reply.0, reply.1);
  some_for_text = λ words text none asks. some_words words asks.seed asks.count none asks.asks;
  some_for_usage = λ words none usage. usage.0 none;
  text_or_usage = λ words text asks usage. usage.1 asks.seed asks.count asks.asks;
}

-- What scripts of nests and words mean to the program of nests.
use Rattle.std.specs.Prelude.{◌≢◌, [], codes}
use Rattle.batch_script.specs.Status.{Meaning, IsMeaning}
use Rattle.batch_nest.specs.Script.{IsNestScript, IsNestFaultLine, IsNestRunText}

-- what an input is to the program, and what words ask of it: any word asks for the usage
abbrev pub nest_meaning : Meaning
nest_meaning = record {
  is_script = IsNestScript;
  is_fault_line = IsNestFaultLine;
  is_reply = IsNestRunText;
  asks_for_text = λ words text. ⊥;
  asks_for_usage = λ words. words ≢ [];
  usage = codes "usage: nest";
}

-- only scripts of nests are replied to, and words ask for the usage alone
pub nest_sound : IsMeaning nest_meaning
nest_sound = record {
  reply_is_script = λ input text reply. (reply.0, reply.1);
  some_for_text = λ words text none asks. asks;
  some_for_usage = λ words none usage. usage none;
  text_or_usage = λ words text asks usage. asks;
}

-- What scripts of batches and words mean to the program, and what is promised of a generated run.
use Rattle.std.specs.Prelude.{◌≡◌, ℕ, List, ◌++◌, codes, Option, Some}
use Rattle.wic_vec.specs.TryString.{TryString}
use Rattle.batch_script.specs.Generated.{generated}
use Rattle.batch_script.specs.Grammar.{IsScript, IsFaultLine}
use Rattle.batch_script.specs.RunText.{IsRunText}
use Rattle.batch_script.specs.Status.{Meaning}
use Rattle.batch_script.specs.Summary.{summary_text}
use Rattle.batch_script.specs.Words.{AsksForRun, AsksForUsage}
use Rattle.batch_script.specs.declared.program.Status.{Status}
use Rattle.batch_script.specs.declared.program.Status.TheVariants.{Done}

-- the words ask for a generated run, and the text is its summary
pub record AsksForSummary (words : List TryString) (text : List ℕ) : Type 0 where
  pub seed : ℕ
  pub count : ℕ
  pub asks : AsksForRun words seed count
  pub tells : text ≡ summary_text (generated seed count)

-- what an input is to the program, and what words ask of it
abbrev pub batch_meaning : Meaning
batch_meaning = record {
  is_script = IsScript;
  is_fault_line = IsFaultLine;
  is_reply = IsRunText;
  asks_for_text = AsksForSummary;
  asks_for_usage = AsksForUsage;
  usage = codes "usage: batch [gen SEED N]";
}

-- the summary of the script that is generated from these numbers, whole
pub record SummarizesRun (status : Status) (written : Option (List ℕ)) (held : List ℕ) (seed count : ℕ) : Type 0 where
  -- the status is 0
  pub done : status ≡ Done
  -- the sink holds what it held, followed by the seven lines and nothing else
  pub gained : written ≡ Some (held ++ summary_text (generated seed count))

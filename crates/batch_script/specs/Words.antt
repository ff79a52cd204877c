-- What the words of the command line ask for: a script, a generated run, or the usage.
use Rattle.std.specs.Prelude.{◌≡◌, ◌≢◌, ℕ, ◌^◌, ◌<◌, ◌≤◌, List, [], ◌∷◌, map, codes}
use Rattle.std.specs.Fmt.{decimal}
use Rattle.wic_vec.specs.TryString.{TryString}
use Rattle.batch_script.specs.declared.words.TheConstants.{MOST_BATCHES}
use Rattle.batch_script.specs.declared.words.Wish.{Wish}
use Rattle.batch_script.specs.declared.words.Wish.TheVariants.{Script, Generated, Usage}

-- the texts are `gen` and two numbers in decimal, with no leading zero: a seed, and how many batches are to be made
pub record AreForRun (texts : List (List ℕ)) (seed count : ℕ) : Type 0 where
  pub said : texts ≡ codes "gen" ∷ decimal seed ∷ decimal count ∷ []
  pub seed_fits : seed < 2 ^ 64
  pub within_limit : count ≤ MOST_BATCHES

-- no words ask for a script
abbrev pub AsksForScript : List TryString → Type 0
AsksForScript words = words ≡ []

-- the words ask for a run of the script that is generated from these numbers
abbrev pub AsksForRun : List TryString → ℕ → ℕ → Type 0
AsksForRun words = AreForRun (map (λ word. word.bytes) words)

-- all other words ask for the usage
abbrev pub AsksForUsage : List TryString → Type 0
AsksForUsage words = (words ≢ []) × ((seed count : ℕ) → ¬ AsksForRun words seed count)

-- the words ask for this
abbrev pub AsksFor : List TryString → Wish → Type 0
AsksFor words Script = AsksForScript words
AsksFor words (Generated seed count) = AsksForRun words seed count
AsksFor words Usage = AsksForUsage words

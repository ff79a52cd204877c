-- The items of a chain as they are given, what writing a text leaves, and the three texts of an error, the newest first.
use Rattle.std.specs.Prelude.{◌≡◌, ℕ, ◌+◌, ◌-◌, List, [], ◌∷◌, ◌++◌, length, codes, replicate, Option, Some}
use Rattle.std.specs.List.{flat_map}
use Rattle.std.specs.Fmt.{decimal}
use Rattle.wic_base.specs.OutOfMemory.{text_of}
use Rattle.wic_error.specs.Error.{Item, link, oom}
use Rattle.wic_error.specs.declared.chain.ChainItem.{ChainItem}
use Rattle.wic_error.specs.declared.chain.ChainItem.TheVariants.{Link, Oom}

-- the item: the link behind the reference, or out of memory
abbrev pub item_of : {K : Type 0} → ChainItem K → Item K
item_of (Link k) = link k.now
item_of (Oom size) = oom size

-- what an item prints: what the link prints, or the text of out of memory
abbrev pub item_output : {K : Type 0} → (K → Option (List ℕ)) → ChainItem K → Option (List ℕ)
item_output output (Link k) = output k.now
item_output output (Oom size) = Some (text_of size)

-- a prefix of the text stands behind what was there
pub record GainsFront (before text after : List ℕ) : Type 0 where
  pub front : List ℕ
  pub rest : List ℕ
  pub parts : text ≡ front ++ rest
  pub gained : after ≡ before ++ front

-- the text of the first item alone
abbrev pub first_text : List (List ℕ) → List ℕ
first_text [] = []
first_text (text ∷ texts) = text

-- all texts, joined by a colon and a space
abbrev pub line : List (List ℕ) → List ℕ
line [] = []
line (text ∷ texts) = text ++ flat_map (λ cause. codes ": " ++ cause) texts

-- a number, right-aligned in five places
abbrev pub in_five_places : ℕ → List ℕ
in_five_places number = replicate (5 - length (decimal number)) 32 ++ decimal number

-- a line for each text, numbered from this number on
abbrev pub numbered_lines : ℕ → List (List ℕ) → List ℕ
numbered_lines number [] = []
numbered_lines number (cause ∷ causes) =
    in_five_places number ++ codes ": " ++ cause ++ codes "\n" ++ numbered_lines (number + 1) causes

-- the lines of the causes: a single one has no number
abbrev pub cause_lines : List (List ℕ) → List ℕ
cause_lines [] = []
cause_lines (cause ∷ []) = codes "    " ++ cause ++ codes "\n"
cause_lines (cause ∷ next ∷ causes) = numbered_lines 0 (cause ∷ next ∷ causes)

-- the first text, and if there are causes a heading and their lines
abbrev pub report : List (List ℕ) → List ℕ
report [] = []
report (text ∷ []) = text
report (text ∷ cause ∷ causes) = text ++ codes "\n\nCaused by:\n" ++ cause_lines (cause ∷ causes)

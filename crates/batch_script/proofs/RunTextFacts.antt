-- The text of a run tells its replies.
use Rattle.std.proofs.Common.{◌≡◌, ℕ, Bool, true, false, List, [], ◌∷◌, ◌++◌, get_or, refl, sym, ap, subst, ◌∙◌, inl, inr}
use Rattle.std.specs.Prelude.{nat_le, nat_eq, ◌&&◌}
use Rattle.std.proofs.lemmas.List.{append_cancel_left}
use Rattle.std.proofs.lemmas.List.Concat.{flat_map-append}
use Rattle.wic_slab.specs.Order.{max_capacity}
use Rattle.batch_core.specs.State.{State, empty_state}
use Rattle.batch_core.specs.declared.record.Record.TheVariants.{Pushed, Popped, Replaced, Allocated, Freed, Put as Overwritten}
use Rattle.batch_core.specs.declared.record.Record.TheVariants.{Inserted, Removed, Cut, Truncated}
use Rattle.batch_core.specs.Batch.{Outcome, committed, aborted, refused, outcome_of}
use Rattle.batch_script.specs.Machine.{Bodies, ItemOf, reserve, show, batch, Reply, no_memory}
use Rattle.batch_script.specs.Machine.{step_over, IsBeyondOver, ItemStepOver, RunOver}
use Rattle.batch_script.specs.Reply.{reply_lines, outcome_lines, text_of_lines, text_of}
use Rattle.batch_script.specs.Laws.{TextTellsRunOver}
use Rattle.batch_script.proofs.PlainRunFacts.{reserve_by}

-- the text of one reply
abbrev reply_text : Reply → List ℕ
reply_text reply = text_of_lines (reply_lines reply)

-- the text of replies begins with that of the first
text-cons : (reply : Reply) (replies : List Reply) → text_of (reply ∷ replies) ≡ reply_text reply ++ text_of replies
text-cons reply replies = flat_map-append _ (reply_lines reply) _

-- the text begins with the letters that tell out of memory from all else: `..f......o`
abbrev tells_no_memory : List ℕ → Bool
tells_no_memory text = nat_eq (get_or text 2 0) 102 && nat_eq (get_or text 9 0) 111

-- what a batch came to doesn't tell out of memory
batch_tells : (outcome : Outcome ℕ) (rest : List ℕ) → tells_no_memory (text_of_lines (outcome_lines outcome) ++ rest) ≡ false
batch_tells (committed []) rest = refl
batch_tells (committed (Pushed ∷ records)) rest = refl
batch_tells (committed (Popped value ∷ records)) rest = refl
batch_tells (committed (Replaced place old ∷ records)) rest = refl
batch_tells (committed (Allocated id ∷ records)) rest = refl
batch_tells (committed (Freed id old ∷ records)) rest = refl
batch_tells (committed (Overwritten id old ∷ records)) rest = refl
batch_tells (committed (Inserted number true ∷ records)) rest = refl
batch_tells (committed (Inserted number false ∷ records)) rest = refl
batch_tells (committed (Removed number true ∷ records)) rest = refl
batch_tells (committed (Removed number false ∷ records)) rest = refl
batch_tells (committed (Cut value ∷ records)) rest = batch_tells (committed records) rest
batch_tells (committed (Truncated removed ∷ records)) rest = refl
batch_tells aborted rest = refl
batch_tells (refused bad) rest = refl

-- nor does what a reservation came to
reserve_tells : (within : Bool) (state : State ℕ) (number : ℕ) (rest : List ℕ)
    → tells_no_memory (reply_text (reserve_by within state number).0 ++ rest) ≡ false
reserve_tells true state number rest = refl
reserve_tells false state number rest = refl

module _ {B : Type 0} (bodies : Bodies B) where
  -- if an item may be refused for memory, the text of its plain reply tells that it wasn't
  plain_tells : (state : State ℕ) (item : ItemOf B) (rest : List ℕ) → IsBeyondOver bodies state item
      → tells_no_memory (reply_text (step_over bodies state item).0 ++ rest) ≡ false
  plain_tells state (reserve number) rest beyond = reserve_tells (nat_le number max_capacity) state number rest
  plain_tells state show rest beyond = absurd beyond
  plain_tells state (batch body ending) rest beyond =
      batch_tells (outcome_of state.contents (bodies.course state.contents body) ending).0 rest

  -- the text of a plain reply and that of out of memory are apart, whatever follows them
  texts_apart : (state : State ℕ) (item : ItemOf B) (rest more : List ℕ) → IsBeyondOver bodies state item
      → reply_text (step_over bodies state item).0 ++ rest ≡ reply_text no_memory ++ more → ⊥
  texts_apart state item rest more beyond same =
      let plain = plain_tells state item rest beyond in
      let short : tells_no_memory (reply_text no_memory ++ more) ≡ true = refl in
      let tells = ap tells_no_memory same in
      cc

  -- state, item and the text that begins with the reply's determine the reply and the next state
  same_step : (state : State ℕ) (item : ItemOf B) (reply other : Reply) (next after : State ℕ) (rest more : List ℕ)
      → ItemStepOver bodies state item reply next → ItemStepOver bodies state item other after
      → reply_text reply ++ rest ≡ reply_text other ++ more → (reply ≡ other) × (next ≡ after)
  same_step state item reply other next after rest more (inl plain) (inl simple) same =
      (ap (λ p. p.0) (plain ∙ sym simple), ap (λ p. p.1) (plain ∙ sym simple))
  same_step state item reply other next after rest more (inl plain) (inr short) same =
      absurd (texts_apart state item rest more short.0
      (ap (λ p. reply_text p.0 ++ rest) (sym plain) ∙ same ∙ ap (λ r. reply_text r ++ more) short.1))
  same_step state item reply other next after rest more (inr short) (inl plain) same =
      absurd (texts_apart state item more rest short.0
      (ap (λ p. reply_text p.0 ++ more) (sym plain) ∙ sym same ∙ ap (λ r. reply_text r ++ rest) short.1))
  same_step state item reply other next after rest more (inr short) (inr wanting) same = (cc, cc)

  -- so text and items determine the replies, from every state
  same_run : (state : State ℕ) (items : List (ItemOf B)) (replies others : List Reply) → RunOver bodies state items replies
      → RunOver bodies state items others → text_of replies ≡ text_of others → replies ≡ others
  same_run state [] [] [] run course same = refl
  same_run state [] [] (other ∷ others) run course same = absurd course
  same_run state [] (reply ∷ replies) others run course same = absurd run
  same_run state (item ∷ items) [] others run course same = absurd run
  same_run state (item ∷ items) (reply ∷ replies) [] run course same = absurd course
  same_run state (item ∷ items) (reply ∷ replies) (other ∷ others) run course same =
      let texts = sym (text-cons reply replies) ∙ same ∙ text-cons other others in
      let step = same_step state item reply other run.0 course.0 (text_of replies) (text_of others) run.1 course.1 texts in
      let first : reply ≡ other = step.0 in
      let rest = append_cancel_left (reply_text reply) (text_of replies) (text_of others)
      (texts ∙ ap (λ r. reply_text r ++ text_of others) (sym first)) in
      let later : replies ≡ others =
      same_run course.0 items replies others (subst (λ s. RunOver bodies s items replies) step.1 run.2) course.2 rest in
      cc

  -- two runs of the same items from the empty state with the same text have the same replies
  pub one_run : TextTellsRunOver bodies
  one_run items replies others = same_run empty_state items replies others

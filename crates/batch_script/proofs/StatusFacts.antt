-- What follows from how the program came to its result.
use Rattle.std.proofs.Common.{◌≡◌, ◌⊎◌, ℕ, List, [], ◌∷◌, ◌++◌, map, refl, sym, ap, ◌∙◌, subst, inl, inr, arith, Option}
use Rattle.std.proofs.Common.{Some}
use Rattle.wic_vec.specs.TryString.{TryString}
use Rattle.batch_core.specs.State.{empty_state}
use Rattle.batch_script.specs.Answer.{ReadsAll, status_of, text_of_answer}
use Rattle.batch_script.specs.Device.{Use, HasFaults, OfTold}
use Rattle.batch_script.specs.Generated.{generated}
use Rattle.batch_script.specs.Grammar.{Printing, TellsBodies, batch_printing, IsScriptOfOver, IsScriptOver}
use Rattle.batch_script.specs.Headline.{Premises, PremisesOver, RunsWhole, RunsWholeOver, WantsMemory}
use Rattle.batch_script.specs.Machine.{Bodies, ItemOf, PlainItem, RunOver, batches}
use Rattle.batch_script.specs.Program.{AsksForSummary, SummarizesRun, batch_meaning}
use Rattle.batch_script.specs.RunText.{IsRunTextOver}
use Rattle.batch_script.specs.ProgramLaws.{batch_sound, some_words}
use Rattle.batch_script.specs.Status.{CallsFor, Concludes, EndsAmong, Finishes, IsAmong, IsMeaning, Meaning, RepliesTo}
use Rattle.batch_script.specs.Summary.{summary_text}
use Rattle.batch_script.specs.Words.{AsksForRun}
use Rattle.batch_script.specs.declared.program.Answer.{Answer}
use Rattle.batch_script.specs.declared.program.Status.{Status}
use Rattle.batch_script.specs.declared.program.Status.TheVariants.{Done, Syntax, Oom, ReadFault, WriteFault, TooLong, Usage}
use Rattle.batch_script.proofs.ScriptFacts.{batches_told, one_script}
use Rattle.batch_script.proofs.WordFacts.{one_run}

-- bytes and input are the same if Some bytes and Some input are
pub some_told : (bytes input : List ℕ) → Some bytes ≡ Some input → bytes ≡ input
some_told bytes input same = cc

-- ---- any program

module _ (meaning : Meaning) (sound : IsMeaning meaning) (words : List TryString) (source : Use) (text : List ℕ) where
  -- with no words the text that goes with status 0 replies to the input
  pub replies_of : RepliesTo meaning words source text ⊎ meaning.asks_for_text words text → words ≡ []
      → RepliesTo meaning words source text
  replies_of (inl replies) none = replies
  replies_of (inr asks) none = absurd (sound.some_for_text words text none asks)

  -- status 0 is no answer to words that ask for the usage
  done_or_usage : RepliesTo meaning words source text ⊎ meaning.asks_for_text words text → ¬ meaning.asks_for_usage words
  done_or_usage (inl replies) = sound.some_for_usage words replies.no_words
  done_or_usage (inr asks) = sound.text_or_usage words text asks

  -- which statuses are called for, by words and input
  pub calls_among : (sink : Use) (status : Status) → CallsFor meaning words source status text
      → EndsAmong meaning words source sink status
  calls_among sink Done called = record {
    script = λ input offers within is. inl refl;
    no_script = λ input offers within none.
        absurd (none (sound.reply_is_script input text ((replies_of called.1 offers.no_words).replies input offers.told)));
    too_long = λ input offers beyond.
        absurd (let within = (replies_of called.1 offers.no_words).within input offers.told in omega arith);
    text = λ other asks. inl refl;
    usage = λ asks. absurd (done_or_usage called.1 asks);
    only_usage = λ is. absurd (cc);
    read_fault = λ is. absurd (cc);
    write_fault = λ is. absurd (cc);
  }
  calls_among sink Syntax called = record {
    script = λ input offers within is. absurd (called.1.no_script input offers.told is);
    no_script = λ input offers within none. inl refl;
    too_long = λ input offers beyond. absurd (let within = called.1.within input offers.told in omega arith);
    text = λ other asks. absurd (sound.some_for_text words other called.1.no_words asks);
    usage = λ asks. absurd (sound.some_for_usage words called.1.no_words asks);
    only_usage = λ is. absurd (cc);
    read_fault = λ is. absurd (cc);
    write_fault = λ is. absurd (cc);
  }
  calls_among sink Oom called = record {
    script = λ input offers within is. inr (inl refl);
    no_script = λ input offers within none. inr (inl refl);
    too_long = λ input offers beyond. inr (inl refl);
    text = λ other asks. inr (inl refl);
    usage = λ asks. absurd (called.1 asks);
    only_usage = λ is. absurd (cc);
    read_fault = λ is. absurd (cc);
    write_fault = λ is. absurd (cc);
  }
  calls_among sink ReadFault called = record {
    script = λ input offers within is. inr (inr (inl refl));
    no_script = λ input offers within none. inr (inr (inl refl));
    too_long = λ input offers beyond. inr (inr (inl refl));
    text = λ other asks. absurd (sound.some_for_text words other called.1 asks);
    usage = λ asks. absurd (sound.some_for_usage words called.1 asks);
    only_usage = λ is. absurd (cc);
    read_fault = λ is. called.0;
    write_fault = λ is. absurd (cc);
  }
  calls_among sink WriteFault called = absurd called
  calls_among sink TooLong called = record {
    script = λ input offers within is. absurd (let beyond = called.2 input offers.told in omega arith);
    no_script = λ input offers within none. absurd (let beyond = called.2 input offers.told in omega arith);
    too_long = λ input offers beyond. inl refl;
    text = λ other asks. absurd (sound.some_for_text words other called.1 asks);
    usage = λ asks. absurd (sound.some_for_usage words called.1 asks);
    only_usage = λ is. absurd (cc);
    read_fault = λ is. absurd (cc);
    write_fault = λ is. absurd (cc);
  }
  calls_among sink Usage called = record {
    script = λ input offers within is. absurd (sound.some_for_usage words offers.no_words called.1);
    no_script = λ input offers within none. absurd (sound.some_for_usage words offers.no_words called.1);
    too_long = λ input offers beyond. absurd (sound.some_for_usage words offers.no_words called.1);
    text = λ other asks. absurd (sound.text_or_usage words other asks called.1);
    usage = λ asks. inl refl;
    only_usage = λ is. called.1;
    read_fault = λ is. absurd (cc);
    write_fault = λ is. absurd (cc);
  }

-- the results that a call can have, by how it came to this one
pub ends_lem : (meaning : Meaning) → IsMeaning meaning
    → (words : List TryString) (source sink : Use) (writes : ℕ → Type 0) (result : Status)
    → Concludes meaning words source sink writes result → EndsAmong meaning words source sink result
ends_lem meaning sound words source sink writes result how =
    elim how.finished [
      | inl wrote ↦ subst (EndsAmong meaning words source sink) (sym wrote.0)
          (calls_among meaning sound words source how.text sink how.status how.called_for)
      | inr failed ↦ record {
        script = λ input offers within is. inr (inr (inr (inl failed.0)));
        no_script = λ input offers within none. inr (inr (inr (inl failed.0)));
        too_long = λ input offers beyond. inr (inr (inr (inl failed.0)));
        text = λ other asks. inr (inr (inl failed.0));
        usage = λ asks. inr (inl failed.0);
        only_usage = λ is. let bad : Usage ≡ WriteFault = sym is ∙ failed.0 in absurd (cc);
        read_fault = λ is. let bad : ReadFault ≡ WriteFault = sym is ∙ failed.0 in absurd (cc);
        write_fault = λ is. failed.1.rose;
      }
    ]

-- The whole text was written, which is one that the result calls for.
pub record Wrote (meaning : Meaning) (words : List TryString) (source sink : Use) (result : Status) : Type 0 where
  pub text : List ℕ
  pub called_for : CallsFor meaning words source result text
  pub gained : OfTold sink (λ held. sink.told_after ≡ Some (held ++ text))

-- so it is if no write failed
pub wrote_lem : (meaning : Meaning) (words : List TryString) (source sink : Use) (writes : ℕ → Type 0) (result : Status)
    → Concludes meaning words source sink writes result → ¬ HasFaults sink → Wrote meaning words source sink result
wrote_lem meaning words source sink writes result how quiet =
    elim how.finished [
      | inl wrote ↦ record {
        text = how.text;
        called_for = subst (λ s. CallsFor meaning words source s how.text) (sym wrote.0) how.called_for;
        gained = wrote.1.gained;
      }
      | inr failed ↦ absurd (quiet failed.1.rose)
    ]

-- of these two results and two faults, quiet devices leave the two results
pub two_left : (first result : Status) (source sink : Use) → IsAmong (first ∷ Oom ∷ ReadFault ∷ WriteFault ∷ []) result
    → (result ≡ ReadFault → HasFaults source) → (result ≡ WriteFault → HasFaults sink) → ¬ HasFaults source → ¬ HasFaults sink
    → (result ≡ first) ⊎ (result ≡ Oom)
two_left first result source sink (inl is) read write quiet silent = inl is
two_left first result source sink (inr (inl is)) read write quiet silent = inr is
two_left first result source sink (inr (inr (inl is))) read write quiet silent = absurd (quiet (read is))
two_left first result source sink (inr (inr (inr (inl is)))) read write quiet silent = absurd (silent (write is))
two_left first result source sink (inr (inr (inr (inr none)))) read write quiet silent = absurd none

-- the same if nothing is read
two_left_unread : (first result : Status) (sink : Use) → IsAmong (first ∷ Oom ∷ WriteFault ∷ []) result
    → (result ≡ WriteFault → HasFaults sink) → ¬ HasFaults sink → (result ≡ first) ⊎ (result ≡ Oom)
two_left_unread first result sink (inl is) write silent = inl is
two_left_unread first result sink (inr (inl is)) write silent = inr is
two_left_unread first result sink (inr (inr (inl is))) write silent = absurd (silent (write is))
two_left_unread first result sink (inr (inr (inr none))) write silent = absurd none

-- ---- the headline

module _ {B : Type 0} (bodies : Bodies B) (printing : Printing B) (told : TellsBodies printing) where
  -- the text of one run of the items
  runs : (result : Status) (written_after : Option (List ℕ)) (input held text : List ℕ) (items : List (ItemOf B)) → result ≡ Done
      → IsRunTextOver bodies printing input text → IsScriptOfOver printing input items → written_after ≡ Some (held ++ text)
      → RunsWholeOver bodies result written_after held items
  runs result written_after input held text items is text_of_run script gained =
      let same = one_script printing told text_of_run.0 items text_of_run.1.valid script.valid
      (sym text_of_run.1.lines ∙ script.lines) in
      record {
        done = is;
        replies = text_of_run.2.0;
        run = subst (λ (read : List (ItemOf B)). RunOver bodies empty_state read text_of_run.2.0) same text_of_run.2.1;
        gained = gained ∙ ap (λ bytes. Some (held ++ bytes)) text_of_run.2.2;
      }

-- the line of out of memory, whole
wants : (meaning : Meaning) (words : List TryString) (source sink : Use) (result : Status) (held : List ℕ)
    (wrote : Wrote meaning words source sink result)
    → sink.told ≡ Some held → result ≡ Oom → WantsMemory result sink.told_after held
wants meaning words source sink result held wrote told is =
    let called : CallsFor meaning words source Oom wrote.text =
    subst (λ s. CallsFor meaning words source s wrote.text) is wrote.called_for in record {
      wanted = is;
      gained = wrote.gained held told ∙ ap (λ bytes. Some (held ++ bytes)) called.2;
    }

-- to the program these are the scripts, and only the texts of their runs reply to them
pub record IsOfScripts {B : Type 0} (bodies : Bodies B) (printing : Printing B) (meaning : Meaning) : Type 0 where
  pub sound : IsMeaning meaning
  pub scripts : (input : List ℕ) → IsScriptOver printing input → meaning.is_script input
  pub replies : (input text : List ℕ) → meaning.is_reply input text → IsRunTextOver bodies printing input text

module _ {B : Type 0} (bodies : Bodies B) (printing : Printing B) (told : TellsBodies printing) (meaning : Meaning)
    (known : IsOfScripts bodies printing meaning) where
  -- the headline, by how the call came to its result
  pub headline_over : (words : List TryString) (source sink : Use) (writes : ℕ → Type 0) (result : Status)
      → Concludes meaning words source sink writes result → (input held : List ℕ) (items : List (ItemOf B))
      → PremisesOver printing words source sink input held items
      → RunsWholeOver bodies result sink.told_after held items ⊎ WantsMemory result sink.told_after held
  headline_over words source sink writes result how input held items premises =
      let ends = ends_lem meaning known.sound words source sink writes result how in
      let wrote = wrote_lem meaning words source sink writes result how premises.sink_quiet in
      elim (two_left Done result source sink
      (ends.script input (record { no_words = premises.no_words; told = premises.source_tells }) premises.within_limit
      (known.scripts input (items, premises.script)))
      ends.read_fault ends.write_fault premises.source_quiet premises.sink_quiet) [
        | inl is ↦
            let called : CallsFor meaning words source Done wrote.text =
            subst (λ s. CallsFor meaning words source s wrote.text) is wrote.called_for in
            let replies = replies_of meaning known.sound words source wrote.text called.1 premises.no_words in
            inl (runs bodies printing told result sink.told_after input held wrote.text items is
            (known.replies input wrote.text (replies.replies input premises.source_tells)) premises.script
            (wrote.gained held premises.sink_tells))
        | inr is ↦ inr (wants meaning words source sink result held wrote premises.sink_tells is)
      ]

-- ---- the program of batches

batches_known : IsOfScripts batches batch_printing batch_meaning
batches_known = record { sound = batch_sound; scripts = λ input script. script; replies = λ input text reply. reply }

-- the headline for scripts of batches
pub headline_lem : (words : List TryString) (source sink : Use) (writes : ℕ → Type 0) (result : Status)
    → Concludes batch_meaning words source sink writes result → (input held : List ℕ) (items : List PlainItem)
    → Premises words source sink input held items
    → RunsWhole result sink.told_after held items ⊎ WantsMemory result sink.told_after held
headline_lem = headline_over batches batch_printing batches_told batch_meaning batches_known

-- the text of a run that was asked for is the summary
summary_is : (words : List TryString) (source : Use) (seed count : ℕ) (text : List ℕ) → AsksForRun words seed count
    → RepliesTo batch_meaning words source text ⊎ AsksForSummary words text → text ≡ summary_text (generated seed count)
summary_is words source seed count text asks (inl replies) = absurd (some_words words seed count replies.no_words asks)
summary_is words source seed count text asks (inr asked) =
    let same = one_run (map (λ word. word.bytes) words) asked.seed asked.count seed count asked.asks asks in
    asked.tells ∙ (λ i. summary_text (generated (same.0 i) (same.1 i)))

-- the summary, by how the call came to its result
pub summary_lem : (words : List TryString) (source sink : Use) (writes : ℕ → Type 0) (result : Status)
    → Concludes batch_meaning words source sink writes result → (seed count : ℕ) (held : List ℕ) → AsksForRun words seed count
    → sink.told ≡ Some held → ¬ HasFaults sink
    → SummarizesRun result sink.told_after held seed count ⊎ WantsMemory result sink.told_after held
summary_lem words source sink writes result how seed count held asks told quiet =
    let ends = ends_lem batch_meaning batch_sound words source sink writes result how in
    let wrote = wrote_lem batch_meaning words source sink writes result how quiet in
    let asked : AsksForSummary words (summary_text (generated seed count)) =
    record { seed = seed; count = count; asks = asks; tells = refl } in
    elim (two_left_unread Done result sink (ends.text (summary_text (generated seed count)) asked) ends.write_fault quiet) [
      | inl is ↦
          let called : CallsFor batch_meaning words source Done wrote.text =
          subst (λ s. CallsFor batch_meaning words source s wrote.text) is wrote.called_for in
          inl (record {
            done = is;
            gained = wrote.gained held told
                ∙ ap (λ bytes. Some (held ++ bytes)) (summary_is words source seed count wrote.text asks called.1);
          })
      | inr is ↦ inr (wants batch_meaning words source sink result held wrote told is)
    ]

-- ---- what was read

-- what holds of all that was read holds of what the source told
pub of_read : (Fact : List ℕ → Type 0) (source : Use) (bytes : List ℕ) → ReadsAll source bytes → Fact bytes → OfTold source Fact
of_read Fact source bytes reads holds = λ input told. subst Fact (reads.all input told) holds

module _ (meaning : Meaning) (words : List TryString) where
  -- what is called for with this use of the source and this answer is called for with the same ones
  pub called_at : (source used : Use) (answer made : Answer) → source ≡ used → answer ≡ made
      → CallsFor meaning words used (status_of made) (text_of_answer meaning.usage made)
      → CallsFor meaning words source (status_of answer) (text_of_answer meaning.usage answer)
  called_at source used answer made same_use same_answer called =
      subst (λ s. CallsFor meaning words s (status_of answer) (text_of_answer meaning.usage answer)) (sym same_use)
      (subst (λ a. CallsFor meaning words used (status_of a) (text_of_answer meaning.usage a)) (sym same_answer) called)

  -- what is called for without words
  pub called_without : (source : Use) (answer : Answer) → words ≡ []
      → CallsFor meaning [] source (status_of answer) (text_of_answer meaning.usage answer)
      → CallsFor meaning words source (status_of answer) (text_of_answer meaning.usage answer)
  called_without source answer none =
      subst (λ w. CallsFor meaning w source (status_of answer) (text_of_answer meaning.usage answer)) (sym none)

  -- how a call came to its result, by the answer that it wrote
  pub concludes_by : (source sink : Use) (writes : ℕ → Type 0) (result status : Status) (text : List ℕ) (answer : Answer)
      → CallsFor meaning words source (status_of answer) (text_of_answer meaning.usage answer)
      → status ≡ status_of answer → text ≡ text_of_answer meaning.usage answer → Finishes text status sink writes result
      → Concludes meaning words source sink writes result
  concludes_by source sink writes result status text answer called is tells finished = record {
    status = status;
    text = text;
    called_for = subst (λ s. CallsFor meaning words source s text) (sym is)
        (subst (λ t. CallsFor meaning words source (status_of answer) t) (sym tells) called);
    finished = finished;
  }

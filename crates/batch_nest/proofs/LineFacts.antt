-- Balanced lines, by the number of inner bodies that are open.
use Rattle.std.proofs.Common.{◌≡◌, ℕ, zero, suc, ◌+◌, List, [], ◌∷◌, ◌++◌, length, refl, sym, ap, subst, ◌∙◌, arith, append_assoc}
use Rattle.std.proofs.lemmas.List.{append-nil}
use Rattle.std.specs.Prelude.{◌↔◌}
use Rattle.std.proofs.Math.Logic.{◌⊎◌, inl, inr}
use Rattle.batch_core.specs.declared.command.Command.{Command}
use Rattle.batch_core.specs.declared.command.End.{End}
use Rattle.batch_core.specs.declared.command.End.TheVariants.{Commit, Abort}
use Rattle.batch_nest.specs.declared.nest.NestLine.{NestLine}
use Rattle.batch_nest.specs.declared.nest.NestLine.TheVariants.{Command as CommandLine, Begin as BeginLine}
use Rattle.batch_nest.specs.declared.nest.NestLine.TheVariants.{Commit as CommitLine, Abort as AbortLine}
use Rattle.batch_nest.specs.Nest.{Body, body_of, done, then_command, then_inner, nest_end, nest_lines, IsBalanced}
use Rattle.batch_nest.proofs.SpaceFacts.{is_balanced}

-- what comes after an inner body: its end, and what follows
pub record Rest (X : Type 0) : Type 0 where
  pub ending : End
  pub later : Body X

module _ {X : Type 0} where
  -- the lines of what is left of a body, and of what comes after each body that is open, the innermost first
  abbrev pub rest_lines : Body X → List (Rest X) → List (NestLine X)
  rest_lines body [] = nest_lines body
  rest_lines body (rest ∷ rests) = nest_lines body ++ nest_end rest.ending ∷ rest_lines rest.later rests

  -- with so many bodies open, the lines close them all
  abbrev pub Closes : ℕ → List (NestLine X) → Type 0
  Closes depth [] = depth ≡ 0
  Closes depth (CommandLine command ∷ lines) = Closes depth lines
  Closes depth (BeginLine ∷ lines) = Closes (suc depth) lines
  Closes zero (CommitLine ∷ lines) = ⊥
  Closes (suc depth) (CommitLine ∷ lines) = Closes depth lines
  Closes zero (AbortLine ∷ lines) = ⊥
  Closes (suc depth) (AbortLine ∷ lines) = Closes depth lines

  closes_end : (ending : End) (depth : ℕ) (lines : List (NestLine X)) → Closes depth lines → Closes (suc depth) (nest_end ending ∷ lines)
  closes_end Commit depth lines closes = closes
  closes_end Abort depth lines closes = closes

  body_inner : (inner : Body X) (ending : End) (later : Body X) (more : List (NestLine X))
      → (nest_lines inner ++ nest_end ending ∷ nest_lines later) ++ more
      ≡ nest_lines inner ++ nest_end ending ∷ (nest_lines later ++ more)
  body_inner inner ending later more = append_assoc (nest_lines inner) (nest_end ending ∷ nest_lines later) more

  -- the lines of a body leave open what was open before them
  closes_body : (body : Body X) (depth : ℕ) (more : List (NestLine X)) → Closes depth more → Closes depth (nest_lines body ++ more)
  closes_body done depth more closes = closes
  closes_body (then_command command later) depth more closes = closes_body later depth more closes
  closes_body (then_inner inner ending later) depth more closes =
      subst (Closes (suc depth)) (sym (body_inner inner ending later more))
      (closes_body inner (suc depth) (nest_end ending ∷ (nest_lines later ++ more))
      (closes_end ending depth (nest_lines later ++ more) (closes_body later depth more closes)))

  -- balanced lines close what they open
  pub closes_balanced : (lines : List (NestLine X)) → IsBalanced lines → Closes 0 lines
  closes_balanced lines balanced =
      subst (Closes 0) (append-nil (nest_lines (body_of lines)) ∙ sym balanced) (closes_body (body_of lines) 0 [] refl)

  -- lines that close so many bodies are those of a body and of what comes after the open ones
  abbrev Unfolds : ℕ → List (NestLine X) → Type 0
  Unfolds depth lines = (body : Body X) × (rests : List (Rest X)) × (length rests ≡ depth) × (lines ≡ rest_lines body rests)

  pub after_inner : (inner : Body X) (ending : End) (later : Body X) (rests : List (Rest X))
      → BeginLine ∷ (nest_lines inner ++ nest_end ending ∷ rest_lines later rests) ≡ rest_lines (then_inner inner ending later) rests
  after_inner inner ending later [] = refl
  after_inner inner ending later (rest ∷ rests) = ap (λ l. BeginLine ∷ l) (sym (body_inner inner ending later _))

  unfolds_begin : (depth : ℕ) (lines : List (NestLine X)) → Unfolds (suc depth) lines → Unfolds depth (BeginLine ∷ lines)
  unfolds_begin depth lines (inner, [], many, is) = absurd (omega (arith, many))
  unfolds_begin depth lines (inner, rest ∷ rests, many, is) = (
    then_inner inner rest.ending rest.later,
    rests,
    omega (arith, many),
    ap (λ l. BeginLine ∷ l) is ∙ after_inner inner rest.ending rest.later rests,
  )

  unfolds_end : (ending : End) (depth : ℕ) (lines : List (NestLine X)) → Unfolds depth lines → Unfolds (suc depth) (nest_end ending ∷ lines)
  unfolds_end ending depth lines (later, rests, many, is) = (
    done,
    record { ending = ending; later = later } ∷ rests,
    omega (arith, many),
    ap (λ l. nest_end ending ∷ l) is,
  )

  pub after_command : (command : Command X) (body : Body X) (rests : List (Rest X))
      → CommandLine command ∷ rest_lines body rests ≡ rest_lines (then_command command body) rests
  after_command command body [] = refl
  after_command command body (rest ∷ rests) = refl

  unfolds : (depth : ℕ) (lines : List (NestLine X)) → Closes depth lines → Unfolds depth lines
  unfolds depth [] closes = (done, [], sym closes, refl)
  unfolds depth (CommandLine command ∷ lines) closes =
      let more = unfolds depth lines closes in (
        then_command command more.0,
        more.1,
        more.2,
        ap (λ l. CommandLine command ∷ l) more.3 ∙ after_command command more.0 more.1,
      )
  unfolds depth (BeginLine ∷ lines) closes = unfolds_begin depth lines (unfolds (suc depth) lines closes)
  unfolds zero (CommitLine ∷ lines) closes = absurd closes
  unfolds (suc depth) (CommitLine ∷ lines) closes = unfolds_end Commit depth lines (unfolds depth lines closes)
  unfolds zero (AbortLine ∷ lines) closes = absurd closes
  unfolds (suc depth) (AbortLine ∷ lines) closes = unfolds_end Abort depth lines (unfolds depth lines closes)

  balanced_of : (lines : List (NestLine X)) → Unfolds 0 lines → IsBalanced lines
  balanced_of lines (body, [], many, is) = is_balanced lines body is
  balanced_of lines (body, rest ∷ rests, many, is) = absurd (omega (arith, many))

  -- lines that close what they open are balanced
  pub balanced_closes : (lines : List (NestLine X)) → Closes 0 lines → IsBalanced lines
  balanced_closes lines closes = balanced_of lines (unfolds 0 lines closes)

  -- after lines of which these are left, with so many bodies open, all lines are balanced exactly if these close them
  pub record IsOpenFor (all left : List (NestLine X)) (depth : ℕ) : Type 0 where
    pub on : Closes 0 all → Closes depth left
    pub back : Closes depth left → Closes 0 all

  -- before the first line
  pub open_start : (all left : List (NestLine X)) (depth : ℕ) → left ≡ all → depth ≡ 0 → IsOpenFor all left depth
  open_start all left depth same none =
      subst (λ l. IsOpenFor all l depth) (sym same)
      (subst (IsOpenFor all all) (sym none) (record { on = λ closes. closes; back = λ closes. closes }))

  -- with so many bodies open before this line, so many are open behind it
  pub record Steps (depth next : ℕ) (line : NestLine X) : Type 0 where
    pub on : (rest : List (NestLine X)) → Closes depth (line ∷ rest) → Closes next rest
    pub back : (rest : List (NestLine X)) → Closes next rest → Closes depth (line ∷ rest)

  -- a command opens and ends nothing
  pub step_command : (line : NestLine X) (depth : ℕ) (command : Command X) → line ≡ CommandLine command → Steps depth depth line
  step_command line depth command is =
      subst (Steps depth depth) (sym is) (record { on = λ rest closes. closes; back = λ rest closes. closes })

  -- a begin opens one more
  pub step_begin : (line : NestLine X) (depth next : ℕ) → line ≡ BeginLine → next ≡ depth + 1 → Steps depth next line
  step_begin line depth next is more =
      let one_more : suc depth ≡ next = omega (arith, more) in
      subst (Steps depth next) (sym is)
      (subst (λ n. Steps depth n BeginLine) one_more (record { on = λ rest closes. closes; back = λ rest closes. closes }))

  -- an end closes one of those that are open
  pub step_end : (line : NestLine X) (depth next : ℕ) → ((line ≡ CommitLine) ⊎ (line ≡ AbortLine)) → depth ≡ next + 1
      → Steps depth next line
  step_end line depth next (inl is) fewer =
      let one_fewer : suc next ≡ depth = omega (arith, fewer) in
      subst (Steps depth next) (sym is)
      (subst (λ d. Steps d next CommitLine) one_fewer (record { on = λ rest closes. closes; back = λ rest closes. closes }))
  step_end line depth next (inr is) fewer =
      let one_fewer : suc next ≡ depth = omega (arith, fewer) in
      subst (Steps depth next) (sym is)
      (subst (λ d. Steps d next AbortLine) one_fewer (record { on = λ rest closes. closes; back = λ rest closes. closes }))

  -- so it is for the lines that are left behind it
  pub after_line : (all left : List (NestLine X)) (line : NestLine X) (rest : List (NestLine X)) (depth next : ℕ) → left ≡ line ∷ rest
      → Steps depth next line → IsOpenFor all left depth → IsOpenFor all rest next
  after_line all left line rest depth next split step now =
      let here = subst (λ l. IsOpenFor all l depth) split now in
      record { on = λ closes. step.on rest (here.on closes); back = λ closes. here.back (step.back rest closes) }

  never_closes : (line : NestLine X) (rest : List (NestLine X)) → ((line ≡ CommitLine) ⊎ (line ≡ AbortLine)) → ¬ Closes 0 (line ∷ rest)
  never_closes line rest (inl is) closes = subst (λ l. Closes 0 (l ∷ rest)) is closes
  never_closes line rest (inr is) closes = subst (λ l. Closes 0 (l ∷ rest)) is closes

  -- an end while none is open: the lines aren't balanced
  pub unbalanced_end : (all left : List (NestLine X)) (line : NestLine X) (rest : List (NestLine X)) (depth : ℕ) → left ≡ line ∷ rest
      → ((line ≡ CommitLine) ⊎ (line ≡ AbortLine)) → depth ≡ 0 → IsOpenFor all left depth → ¬ IsBalanced all
  unbalanced_end all left line rest depth split is none now balanced =
      never_closes line rest is
      (subst (λ d. Closes d (line ∷ rest)) none (subst (Closes depth) split (now.on (closes_balanced all balanced))))

  -- once no line is left, the lines are balanced exactly if none is open
  pub balanced_in_the_end : (all left : List (NestLine X)) (depth : ℕ) → left ≡ [] → IsOpenFor all left depth
      → (depth ≡ 0) ↔ IsBalanced all
  balanced_in_the_end all left depth none now =
      let here = subst (λ l. IsOpenFor all l depth) none now in
      (λ zero. balanced_closes all (here.back zero), λ balanced. here.on (closes_balanced all balanced))

-- The size of a type parameter, which the borrow checker follows only as a factor: one word, read and returned.
use Rattle.std.proofs.Common.{◌≡◌, ℕ, ◌^◌, ◌<◌, List, [], ◌∷◌, refl, arith, w64}
use mir.Syntax.{Fn, Args, a_type}
use mir.MapTy.{inst_fn}
use mir.Val.{Val, vint}
use base.Logic.{via, fst∗}
use base.Fml.{ftrue, flft}
use prog.Memory.{size, capped}
use prog.Capped.{capped_fits, capped_is}
use prog.Wp.{WpFn}
use sound.WpLaws.{WpFn-mono}
use contract.Running.{tables, tables_of}
use types.Kit.{‵, ◌⊛◌, ◌$◌, ◌∵◌, !, qed, move, keep, join, fjoin, feq_i, flt_i, suffices, done}
use types.Run.{size_word, of_opd, returns, enter}
use types.ByLocal.{alloc_all, pass_all, free_all, look_at, sets}
use denote.Param.{layout, layouts}
use denote.Steps.{nothing}
use denote.Triple.Spec.{triple_of}
use denote.Triple.Table.{entered}
use denote.Triple.Walked.{says, ends_at, walked, walk_Meets}
use Rattle.wic_vec.specs.contracts.vec.size_of_element as f
use Rattle.wic_vec.proofs.vec.size_of_element.Statement.{statement}
use Rattle.wic_vec.proofs.vec.size_of_element.Code as code

-- below the greatest word the size is not cut off
uncut : (k : ℕ) → k < 2 ^ 63 → capped k ≡ k
uncut k small = let less : k < 2 ^ 64 = omega arith in capped_is k less

pub size_of_element_spec : {M : Type 1} → statement M
unfolding tables_of
size_of_element_spec 𝓤 𝓛 𝓜 𝓡 wired X laws =
    let clauses = f.clauses X 𝓛 𝓜.mem 𝓡.returns in
    let ended = f.ended X in
    let 𝓣 = tables_of 𝓤 𝓛.H 𝓜 (tables 𝓤 𝓛.H 𝓜 𝓡 𝓡.env) in
    let types : Args = layouts (a_type ∷ []) (X, tt) in
    let machine : Fn = inst_fn types code.function in
    let bytes : ℕ = capped (size (layout X)) in
    entered 𝓤 𝓛.H (triple_of 𝓛 (f.signature X) (f.spec X 𝓛 𝓜.mem 𝓡.returns)) 𝓣.C 𝓣.Λ (f.Key.name types) machine
    (code.unfolded 𝓤 𝓛.H 𝓜 𝓡 wired (X, tt))
    (walk_Meets 𝓛 ended tt tt clauses (WpFn 𝓤 𝓛.H 𝓣.C 𝓣.Λ machine) (WpFn-mono 𝓤 𝓛.H 𝓛.laws 𝓣 machine)
    (walked 𝓛 ended tt clauses (WpFn 𝓤 𝓛.H 𝓣.C 𝓣.Λ machine) (λ κs. tt) (λ κs. tt)
    (λ κs qs bounds a g are. via 𝓤 _ (fst∗ 𝓤 _ ((clauses κs a).requires g)) (
    qed 𝓛 ((‵ (flft κs.0 qs.0) ⊛ ‵ ftrue) ∷ ‵ ftrue ∷ []) ∵ enter ! 𝓣.C 𝓣.Λ machine [] _ $
    alloc_all ! (λ l. pass_all ! refl tt $
    sets ! (of_opd ! (size_word !)) refl (tt, record { fits = capped_fits (size (layout X)) }) $
    returns ! (look_at ! 0 refl) $ free_all ! refl $
    suffices ! _ (ends_at 𝓛 ended tt clauses (((κs.0, tt), (qs.0, tt), tt, tt, tt), tt) (vint w64 bytes) bytes tt tt) $
    says ! (uncut _) $
    flt_i ! bytes (2 ^ 64) (capped_fits (size (layout X))) $ feq_i ! (List Val) (vint w64 bytes ∷ []) (vint w64 bytes ∷ []) refl $
    fjoin ! $ nothing ! $ join ! $ move ! (1 ∷ 0 ∷ []) $ join ! $ keep ! (0 ∷ []) $ done !)))))

-- `get_mut` calls `find_mut` and converts its result: what holds once the reference ends is what `find_mut` states.
use mathlib.Core.Path.{◌≡◌, refl, sym, subst}
use mathlib.Core.List.{List, [], ◌∷◌}
use Prim.Native.Nat.{ℕ}
use seplogic.Ra.Ura.{Ura}
use lib.Dec.{T}
use mir.Syntax.{Ty, named}
use mir.Val.{Val, WT, has_ty}
use base.Fml.{GName, ftrue, flft}
use base.Logic.{SProp, ent, sep, ex_e, ex_i, id⊢, emp}
use mathlib.Core.Option as maybe
use contract.Monad.{fact, fact_i}
use contract.Running.{tables}
use prog.Wp.{WpFn}
use types.Logic.{Logic, sem}
use types.Kit.{‵, raw, ◌⊛◌, some, later, ◌$◌, ◌∵◌, !, qed, done, by, move, keep, drop, use0, use1, use2, split, split3}
use types.Kit.{join, pick, await}
use types.Run.{enter, of_opd, addr, stop, no_more, and_then, returns}
use types.ByLocal.{alloc_all, pass_all, free_all, look_at, get, through, sets, lands_as}
use denote.Exit.{Kept, left, yes, no}
use denote.Follow.{follows_so, such_by, follows_by}
use denote.Laws.{Is, Typed, shows}
use denote.Param.{layout}
use denote.Param.Laws.{Laws, of_field, row_shared}
use denote.Param.Shared.{mut_ref_shared}
use denote.RattleType.{RattleType}
use denote.Ref.{MutBor, NamedLft, mut_vals}
use denote.Signature.{Slot, named_lft, plain}
use denote.Builtin.{RefMutOf}
use denote.Steps.{nothing, heard, peeks}
use denote.Struct.Field.{mut_ref_field}
use denote.Struct.Laws.{mut_ref_laws}
use denote.Triple.Call.{calls_at}
use denote.Triple.Clauses.{Lasts, at_exit, lasts}
use denote.Triple.Spec.{triple_of}
use denote.Triple.Table.{framed}
use denote.Triple.Walked.{Stay, Stays, Goes, walk_of}
use Rattle.std.proofs.raw_atomic.Walks.{proved_at, leaves}
use Rattle.std.proofs.option.Option.TheLaws.{the_row_laws as option_laws}
use Rattle.std.proofs.result.Result.TheLaws.{the_row_laws as result_laws}
use Rattle.std.specs.Prelude.{Some, None, Ok, Err, Option, Result, IfOk, IfErr}
use Rattle.std.specs.Option.{option_copied_mut}
use Rattle.std.specs.contracts.option.Option as option
use Rattle.std.specs.contracts.result.Result as result
use Rattle.markdown_base.proofs.cow_str.CowStr.TheLaws as cow_laws
use Rattle.markdown_base.proofs.fault.Fault.TheLaws as fault_laws
use Rattle.markdown_base.specs.CowText.{text_of}
use Rattle.markdown_base.specs.contracts.cow_str.CowStr as cow
use Rattle.markdown_base.specs.contracts.fault.Fault as fault
use Rattle.markdown_base.specs.declared.fault.Fault.{Fault}
use Rattle.markdown_defs.proofs.footnotes.Absence.TheLaws as absence_laws
use Rattle.markdown_defs.proofs.footnotes.FootnoteDef.TheLaws as footnote_laws
use Rattle.markdown_defs.specs.contracts.footnotes.Absence as absence
use Rattle.markdown_defs.specs.contracts.footnotes.FootnoteDef as footnote
use Rattle.markdown_defs.specs.contracts.footnotes.FootnoteDefs as footnotes
use Rattle.markdown_defs.specs.declared.footnotes.Absence.{Absence}
use Rattle.markdown_defs.specs.declared.footnotes.FootnoteDef.{FootnoteDef}
use Rattle.markdown_defs.specs.declared.footnotes.FootnoteDefs.{FootnoteDefs}
use Rattle.markdown_defs.specs.Footnotes.{footnote_at}
use Rattle.markdown_defs.specs.FootnoteLending.{LendsDefined, LendsFootnote, none_if_undefined}
use Rattle.markdown_defs.specs.contracts.footnotes.FootnoteDefs.get_mut as f
use Rattle.markdown_defs.specs.contracts.footnotes.FootnoteDefs.find_mut as g
use Rattle.markdown_defs.specs.contracts.footnotes.none_if_undefined as h
use Rattle.markdown_defs.proofs.footnotes.FootnoteDefs.find_mut.Met as find
use Rattle.markdown_defs.proofs.footnotes.none_if_undefined.Met as turn
use Rattle.markdown_defs.proofs.footnotes.FootnoteDefs.get_mut.Statement.{statement}
use Rattle.markdown_defs.proofs.footnotes.FootnoteDefs.get_mut.Code as code

-- what the callee left of a parameter is what is left of it
abbrev stay_left : {n : ℕ} (s : Slot n) (k : Kept) → Stay s k
stay_left s k = record { fit = λ κs x w. Unit {0}; has = λ κs x w vs. left ((s.row κs).exit k) x w }

goes_left : {M : Type 1} {𝓤 : Ura M} (𝓛 : Logic 𝓤) (n : ℕ) (s : Slot n) (k : Kept) → Goes 𝓛 n s k (stay_left s k)
goes_left 𝓛 n s k κs x w vs ok = 𝓛.laws.⇛_intro _

abbrev self_slot : Slot 2
self_slot = RefMutOf (0 ∷ []) tt (plain (λ κs. footnotes.the_row)) (λ κs. tt)

abbrev key_slot : Slot 2
key_slot = plain (λ κs. cow.the_row (named_lft 2 1 tt κs))

abbrev stayed : Stays f.ended.signature.params f.ended.kept
stayed = (stay_left self_slot no, (stay_left key_slot yes, tt))

-- the laws of the result of each call
ref_laws : (ℓ : NamedLft) → Laws (mut_ref_field ℓ footnote.the_row tt).row
ref_laws ℓ = of_field (mut_ref_field ℓ footnote.the_row tt) (mut_ref_laws ℓ footnote.the_row tt) refl
    (mut_ref_shared ℓ footnote.the_row tt (row_shared footnote.the_row footnote_laws.the_row_laws))

abbrev ref_row : NamedLft → RattleType
ref_row ℓ = (mut_ref_field ℓ footnote.the_row tt).row

find_laws : (ℓ : NamedLft) → Laws (result.the_row (ref_row ℓ) absence.the_row)
find_laws ℓ = result_laws (ref_row ℓ) absence.the_row (ref_laws ℓ) absence_laws.the_row_laws

get_laws : (ℓ : NamedLft) → Laws (result.the_row (option.the_row (ref_row ℓ)) fault.the_row)
get_laws ℓ = result_laws (option.the_row (ref_row ℓ)) fault.the_row (option_laws (ref_row ℓ) (ref_laws ℓ))
    fault_laws.the_row_laws

abbrev Found : Type 0
Found = Result (MutBor FootnoteDef) Absence

abbrev Answered : Type 0
Answered = Result (Option (MutBor FootnoteDef)) Fault

-- a value of one machine word
one : (τ : Ty) (vs : List Val) → Typed (τ ∷ []) vs → (v : Val) × ((vs ≡ v ∷ []) × (T (has_ty τ v) × WT v))
one τ [] t = absurd t
one τ (v ∷ []) t = (v, (refl, t.0))
one τ (v ∷ w ∷ vs) t = absurd t.1

-- a relation for the final value gives each that it implies
weaken : {M : Type 1} {𝓤 : Ura M} (𝓛 : Logic 𝓤) (R U : RattleType) (γ : GName) (m : maybe.Option GName)
    (P P' : U.Denot → R.Denot
    → Type 0) (P₀ P₀' : R.Denot → Type 0)
    → ((w : U.Denot) (n : R.Denot) → P w n → P' w n) → ((n : R.Denot) → P₀ n → P₀' n)
    → ent 𝓤 (sem 𝓛 (follows_so R U γ m P P₀)) (sem 𝓛 (follows_so R U γ m P' P₀'))
unfolding such_by
weaken {𝓤 = 𝓤} 𝓛 R U γ m P P' P₀ P₀' on at_none =
    ex_e 𝓤 _ (λ s. ex_i 𝓤 (λ (t : (p : (U.Denot → R.Denot) × R.Denot) × ((z : U.Denot) → P' z (p.0 z)) × P₀' p.1). sem 𝓛
    (follows_by R.Denot U.Denot R.coded.code U.coded.code γ m t.0.0 t.0.1))
    (s.0, (λ w. on w (s.0.0 w) (s.1 w)), at_none s.0.1 s.2))

-- what `find_mut` states about the last value of the footnotes holds for the converted result
lends : {M : Type 1} {𝓤 : Ura M} (𝓛 : Logic 𝓤) (lender : MutBor FootnoteDefs) (key : List ℕ)
    (r : Result (MutBor FootnoteDef) Absence)
    → ent 𝓤 (sem 𝓛 (LendsDefined lender key r)) (sem 𝓛 (LendsFootnote lender key (none_if_undefined r)))
lends 𝓛 lender key (Ok x) = weaken 𝓛 footnotes.the_row footnote.the_row _ _ _ _ _ _ (λ w n p. p refl) (λ n p. tt)
lends 𝓛 lender key (Err Absence.Undefined) = weaken 𝓛 footnotes.the_row footnote.the_row _ _ _ _ _ _ (λ w n p. tt)
    (λ n p. p)
lends 𝓛 lender key (Err Absence.Refused) = weaken 𝓛 footnotes.the_row footnote.the_row _ _ _ _ _ _ (λ w n p. tt)
    (λ n p. p)

-- likewise for what was found
found : (d : FootnoteDefs) (key : List ℕ) (r : Result (MutBor FootnoteDef) Absence)
    → IfOk r (λ x. Some x.now ≡ footnote_at d key)
    → IfErr r (λ why. why ≡ Absence.Undefined → footnote_at d key ≡ None)
    → IfOk (none_if_undefined r) (λ x. option_copied_mut x ≡ footnote_at d key)
    × IfErr (none_if_undefined r) (λ fault. fault
    ≡ Fault.Memory)
found d key (Ok x) p q = (p, tt)
found d key (Err Absence.Undefined) p q = (sym (q refl), tt)
found d key (Err Absence.Refused) p q = (tt, refl)

abbrev Finds : {M : Type 1} {𝓤 : Ura M} → Logic 𝓤 → MutBor FootnoteDefs → List ℕ → Found → SProp 𝓤
Finds {𝓤 = 𝓤} 𝓛 lender key r = sep 𝓤 (sem 𝓛 (LendsDefined lender key r))
    (sep 𝓤 (fact 𝓤 (IfOk r (λ x. Some x.now ≡ footnote_at lender.now key)))
    (fact 𝓤 (IfErr r (λ why. why ≡ Absence.Undefined
    → footnote_at lender.now key ≡ None))))

abbrev Gets : {M : Type 1} {𝓤 : Ura M} → Logic 𝓤 → MutBor FootnoteDefs → List ℕ → Answered → SProp 𝓤
Gets {𝓤 = 𝓤} 𝓛 lender key x = sep 𝓤 (sem 𝓛 (LendsFootnote lender key x))
    (sep 𝓤 (fact 𝓤 (IfOk x (λ y. option_copied_mut y ≡ footnote_at lender.now key)))
    (fact 𝓤 (IfErr x (λ why. why ≡ Fault.Memory))))

turned : {M : Type 1} {𝓤 : Ura M} (𝓛 : Logic 𝓤) (lender : MutBor FootnoteDefs) (key : List ℕ) (r : Found) (x : Answered)
    → x ≡ none_if_undefined r → ent 𝓤 (Finds 𝓛 lender key r) (Gets 𝓛 lender key x)
turned {𝓤 = 𝓤} 𝓛 lender key r x same =
    let P : Type 0 = IfOk r (λ y. Some y.now ≡ footnote_at lender.now key) in
    let Q : Type 0 = IfErr r (λ why. why ≡ Absence.Undefined → footnote_at lender.now key ≡ None) in
    let P' : Type 0 = IfOk (none_if_undefined r) (λ y. option_copied_mut y ≡ footnote_at lender.now key) in
    let Q' : Type 0 = IfErr (none_if_undefined r) (λ why. why ≡ Fault.Memory) in
    subst (λ (y : Answered). ent 𝓤 (Finds 𝓛 lender key r) (Gets 𝓛 lender key y)) (sym same) (
    qed 𝓛 ((‵ (LendsDefined lender key r) ⊛ raw (fact 𝓤 P) ⊛ raw (fact 𝓤 Q)) ∷ []) ∵ split3 ! $
    use1 𝓛 (‵ (LendsFootnote lender key (none_if_undefined r))) (lends 𝓛 lender key r) $
    move ! (1 ∷ []) $ heard ! P (λ p. move ! (1 ∷ []) $ heard ! Q (λ q. let both = found lender.now key r p q in
    use0 𝓛 (raw (fact 𝓤 Q')) (fact_i 𝓤 Q' (emp 𝓤) both.1) $ use0 𝓛 (raw (fact 𝓤 P')) (fact_i 𝓤 P' (emp 𝓤) both.0) $ join
    ! $ move !
    (1 ∷ 0 ∷ []) $ join ! $ done !)))

pub get_mut_spec : {M : Type 1} → statement M
get_mut_spec 𝓤 𝓛 𝓜 𝓡 wired =
    let c = f.clauses 𝓛 𝓜.mem 𝓡.returns in let W = walk_of 𝓛 f.ended stayed c in let 𝓣 = tables 𝓤 𝓛.H 𝓜 𝓡 𝓡.env in
    proved_at 𝓛 f.ended stayed c 𝓜 𝓡 (goes_left 𝓛 2 self_slot no, (goes_left 𝓛 2 key_slot yes, tt)) f.Key.name
    code.function
    (code.unfolded 𝓤 𝓛.H 𝓜 𝓡 wired) (λ y₀ are.
    let κs = y₀.0.0 in let qs = y₀.0.1 in let a = y₀.0.3 in let ℓ : NamedLft = record { mir = named 0; lft = κs.0 } in
    let got = one (layout (cow.the_row (named_lft 2 1 tt κs))) y₀.0.4.1.0
    (((cow_laws.the_row_laws (named_lft 2 1 tt κs)).lawful 𝓛).typed
    a.1.0 y₀.0.4.1.0 are.1.0) in
    let At : List Val × (List Val × Unit {0}) → W.Ghost = λ vss. ((κs, qs, y₀.0.2, a, vss), tt) in
    subst (λ (vss : List Val × (List Val × Unit {0})). ent 𝓤 (W.pre (At vss))
    (WpFn 𝓤 𝓛.H 𝓣.C 𝓣.Λ code.function (W.args (At vss))
    (W.post (At vss)))) (λ i. (sym are.0.0 i, (sym got.1.0 i, tt))) (
    let vss : List Val × (List Val × Unit {0}) = (mut_vals a.0, (got.0 ∷ [], tt)) in
    let G = triple_of 𝓛 g.signature (g.spec 𝓛 𝓜.mem 𝓡.returns) in let gc = g.clauses 𝓛 𝓜.mem 𝓡.returns in
    let z : G.Ghost = ((κs, qs, y₀.0.2, a, vss), tt) in
    qed 𝓛 (raw (G.pre z) ∷ []) ∵ enter ! _ _ _ _ _ $
    alloc_all ! (λ l. pass_all ! refl ((tt, tt), (got.1.1, tt)) $
    sets ! (addr ! (through ! refl (stop !))) refl (tt, tt) $
    sets ! (of_opd ! (get ! refl)) refl got.1.1 $
    calls_at ! (framed 𝓤 𝓛.H 𝓜 𝓣) G
    (find.met 𝓤 𝓛 𝓜 𝓡 (code.calls-markdown_defs::footnotes::FootnoteDefs::find_mut 𝓡.env wired)) z
    (and_then ! (get ! refl) (and_then ! (get ! refl) (no_more !))) (λ v.
    use1 𝓛
    (later (some (λ (r : Found). ((‵ (flft κs.0 qs.0) ⊛ ‵ (flft κs.1.0 qs.1.0) ⊛ ‵ ftrue) ⊛ ‵
    ((result.the_row (ref_row ℓ) absence.the_row).own_val r (v ∷ []))) ⊛
    some (λ (ws : Lasts g.ended κs a). ‵ (lasts g.ended κs a ws) ⊛ raw
    ((gc κs a).ensures tt r (at_exit g.ended κs a ws)))))) (id⊢ 𝓤 _) $
    await ! tt $ pick ! (λ r. split ! $ split ! $ move ! (1 ∷ []) $
    peeks ! (result.the_row (ref_row ℓ) absence.the_row) (Is (result.the_row (ref_row ℓ) absence.the_row))
    (shows 𝓛 (result.the_row (ref_row ℓ) absence.the_row)) r (v ∷ []) (λ is.
    lands_as ! refl refl (((find_laws ℓ).lawful 𝓛).typed r (v ∷ []) is).0 $
    move ! (1 ∷ []) $ split3 ! $ move ! (3 ∷ 0 ∷ []) $ nothing ! $ move ! (1 ∷ 0 ∷ []) $ join ! $ nothing ! $ move !
    (2 ∷ 0 ∷ []) $ join ! $
    join ! $ nothing ! $ move ! (1 ∷ 0 ∷ []) $
    let H = triple_of 𝓛 h.signature (h.spec 𝓛 𝓜.mem 𝓡.returns) in
    let z' : H.Ghost = (((κs.0, tt), (qs.0, tt), tt, (r, tt), (v ∷ [], tt)), tt) in
    use2 𝓛 (raw (H.pre z')) (id⊢ 𝓤 _) $
    -- [what `none_if_undefined` asks; the key's token; nothing; what `find_mut` leaves]
    calls_at ! (framed 𝓤 𝓛.H 𝓜 𝓣) H
    (turn.met 𝓤 𝓛 𝓜 𝓡 (code.calls-markdown_defs::footnotes::none_if_undefined 𝓡.env wired)) z'
    (and_then ! (get ! refl) (no_more !)) (λ u.
    use1 𝓛
    (later (some (λ (x : Answered). ((‵ (flft κs.0 qs.0) ⊛ ‵ ftrue) ⊛ ‵
    ((result.the_row (option.the_row (ref_row ℓ)) fault.the_row).own_val x (u ∷ []))) ⊛
    some (λ (ws : Lasts h.ended (κs.0, tt) (r, tt)). ‵ (lasts h.ended (κs.0, tt) (r, tt) ws) ⊛ raw
    (fact 𝓤 (x ≡ none_if_undefined r))))))
    (id⊢ 𝓤 _) $
    await ! tt $ pick ! (λ x. split ! $ split ! $ split ! $ move ! (3 ∷ []) $ pick !
    (λ ws'. split ! $ drop ! $ heard ! (x ≡ none_if_undefined r) (λ same. move ! (2 ∷ []) $
    peeks ! (result.the_row (option.the_row (ref_row ℓ)) fault.the_row)
    (Is (result.the_row (option.the_row (ref_row ℓ)) fault.the_row))
    (shows 𝓛 (result.the_row (option.the_row (ref_row ℓ)) fault.the_row)) x (u ∷ []) (λ is'.
    lands_as ! refl refl (((get_laws ℓ).lawful 𝓛).typed x (u ∷ []) is').0 $
    -- [the answer; the lender's token; nothing; the key's token; nothing; what `find_mut` leaves]
    move ! (5 ∷ []) $ pick ! (λ ws. split ! $ move ! (1 ∷ []) $
    use1 𝓛 (raw ((c κs a).ensures tt x (at_exit f.ended κs a ws))) (turned 𝓛 a.0 (text_of a.1.0) r x same) $
    returns ! (look_at ! 0 refl) $ free_all ! refl $
    move ! (5 ∷ 6 ∷ []) $ join ! $ move ! (4 ∷ 0 ∷ []) $ join ! $ keep ! (0 ∷ 2 ∷ 3 ∷ 1 ∷ []) $
    by ! (leaves 𝓛 f.ended stayed c z u x ws (tt, (tt, tt)))))))))))))))

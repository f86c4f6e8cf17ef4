-- What a look-up finds takes its bytes off the limit, which was not 0 before; nothing else in a chain changes the
-- limit.
use Rattle.std.proofs.Common.{◌≡◌, ℕ, ◌-◌, ◌≤◌, Bool, true, false, List, [], ◌∷◌, map, Option, Some, None, refl, sym}
use Rattle.std.proofs.Common.{subst, arith, nat_le}
use Rattle.std.specs.Option.{option_map}
use Rattle.std.specs.Prelude.{MatchOption, if◌then◌else◌, unwrap_or}
use Rattle.std.proofs.lemmas.List.{map-append}
use Rattle.markdown_base.specs.Event.{LinkView}
use Rattle.markdown_base.specs.Forest.{Forest, nil, node}
use Rattle.markdown_base.specs.declared.item.ItemBody.{ItemBody}
use Rattle.markdown_base.specs.declared.item.ItemBody.TheVariants as body
use Rattle.markdown_document.specs.EnclosingBlocks.{EnclosingBlocks}
use Rattle.markdown_document.specs.ChainRest.{begun_at, end_of, open_body}
use Rattle.markdown_document.specs.Document.{Notes, TreeNode}
use Rattle.markdown_document.specs.Setting.{Setting, ReferenceState}
use Rattle.markdown_brackets.specs.BracketDecision.{BracketContext, Becomes, Closing, Decision, Written, LinkReference}
use Rattle.markdown_brackets.specs.BracketDecision.{Progress, a_footnote, a_link, a_text, a_wikilink, carried_out}
use Rattle.markdown_brackets.specs.BracketDecision.{decided, footnote_label, found, inline_link, left_for_one}
use Rattle.markdown_brackets.specs.BracketDecision.{link_reference, question_at, second_end, wikilink}
use Rattle.markdown_brackets.specs.ClosingBracket.{closed, put}
use Rattle.markdown_brackets.specs.LeftList.{Split, bracket_taken}
use Rattle.markdown_brackets.specs.Lookup.{LookedUp, look_up, size_of}
use Rattle.markdown_brackets.specs.ReadChain.{begun, closing_of, read, read_as, read_chain, read_past}
use Rattle.markdown_inline.specs.LookUps.{found_as, found_by, found_past, is_looked_up, look_ups_from}
use Rattle.markdown_inline.specs.ResolvedDocument.{resolved_chain}
use Rattle.markdown_resolver.specs.PassOne.{bracket_context, pass_one, read_on, read_other}
use Rattle.markdown_resolver.specs.Resolved.{resolved}
use Rattle.markdown_inline.proofs.EndOrderLemmas.{Spent, spent_both, spent_none}
use Rattle.markdown_inline.proofs.ResolvedEndsLemmas.{takes_from}

-- the bytes of what was found
abbrev sizes : List LinkView → List ℕ
sizes found = map size_of found

module _ {A : Type 0} where
  -- a decision leaves of the limit what the look-up left, if there was one
  abbrev IsSpent : (limit : ℕ) → Decision A → Type 0
  IsSpent limit d = Spent limit (sizes (found_by d.becomes)) d.progress.state.limit

  module _ (w : BracketContext) (c : Closing A) where
    looked_spent : (o : Split A) (r : LinkReference) (limit : ℕ) (target : Option LinkView) (left : ℕ)
        → MatchOption target (left ≡ limit) (λ v. (1 ≤ limit) × (left ≡ limit - size_of v))
        → Spent limit (sizes (found_by (unwrap_or (option_map (λ t. a_link o t [] r.end r.next) target) a_text))) left
    looked_spent o r limit None left e = record { left = omega (arith, e); fits = tt }
    looked_spent o r limit (Some v) left e = by (is_looked_up v.kind)
      where
        by : (b : Bool) → Spent limit (sizes (if b then v ∷ [] else [])) left
        by true = record { left = omega (arith, e.0, e.1); fits = (omega (arith, e.0), tt) }
        by false = record { left = omega (arith, e.0, e.1); fits = tt }

    carried_spent : (x : Option (Written A)) (p : Progress A) → IsSpent p.state.limit (carried_out w x p)
    carried_spent None p = spent_none p.state.limit
    carried_spent (Some (inline_link o t)) p = spent_none p.state.limit
    carried_spent (Some (link_reference o r)) p =
        let rules = w.setting.rules in
        let result : LookedUp = look_up rules.definitions rules.asks p.state.limit p.state.answers (question_at o r) in
        looked_spent o r p.state.limit result.target result.limit
        (takes_from rules.definitions rules.asks p.state.limit p.state.answers (question_at o r))
    carried_spent (Some (footnote_label o name)) p = spent_none p.state.limit
    carried_spent (Some (wikilink o v end)) p = spent_none p.state.limit

    -- what is put changes nothing that is known
    put_state : (b : Becomes A) (p : Progress A) → (put w c b p).state.limit ≡ p.state.limit
    put_state a_text p = refl
    put_state (a_link o target titles end next) p = refl
    put_state (a_footnote o name) p = refl
    put_state (a_wikilink o found end) p = refl

    closed_spent : (p : Progress A) → Spent p.state.limit (sizes (found_by (decided w c p).becomes))
        (closed w c p).state.limit
    unfolding closed decided
    closed_spent p =
        subst (λ (l : ℕ). Spent p.state.limit (sizes (found_by (decided w c p).becomes)) l)
        (sym (put_state (decided w c p).becomes (decided w c p).progress))
        (carried_spent (found w c (second_end w c.rest) p.left)
        (record p { left = bracket_taken (left_for_one (second_end w c.rest) p.left) }))

  module _ (s : Setting) (notes : Notes A) (above : EnclosingBlocks) where
    as_spent : (b : ItemBody) (a : TreeNode A) (below rest : Forest (TreeNode A)) (p : Progress A)
        → Spent p.state.limit (sizes (found_as (bracket_context s above) b a rest p))
        (read_as (bracket_context s above) (read_other s notes above) b a below rest p).state.limit
    as_spent body.MaybeLinkOpen a below rest p = spent_none p.state.limit
    as_spent body.MaybeImage a below rest p = spent_none p.state.limit
    as_spent (body.MaybeLinkClose could) a below rest p = closed_spent (bracket_context s above)
        (closing_of could a rest p) p
    as_spent other a below rest p = spent_none p.state.limit

    past_spent : (goes_on : Option ℕ) (a : TreeNode A) (below rest : Forest (TreeNode A)) (p : Progress A)
        → Spent p.state.limit (sizes (found_past (bracket_context s above) goes_on a rest p))
        (read_past (bracket_context s above) (read_other s notes above) goes_on a below rest p).state.limit
    past_spent None a below rest p = as_spent (open_body a.part.shape) a below rest p
    past_spent (Some n) a below rest p = by (nat_le (end_of a) n)
      where
        by : (b : Bool) → Spent p.state.limit
            (sizes (if b then [] else found_as (bracket_context s above) (open_body (begun_at n a).part.shape)
            (begun_at n a)
            rest
            (record p { goes_on = None })))
            (if b then p else read (bracket_context s above) (read_other s notes above) (begun_at n a) below rest
            (record p { goes_on = None })).state.limit
        by true = spent_none p.state.limit
        by false = as_spent (open_body (begun_at n a).part.shape) (begun_at n a) below rest
            (record p { goes_on = None })

    chain_spent : (chain : Forest (TreeNode A)) (p : Progress A)
        → Spent p.state.limit (sizes (look_ups_from s notes above chain p)) (read_on s notes above chain p).state.limit
    unfolding read_chain
    chain_spent nil p = spent_none p.state.limit
    chain_spent (node a below rest) p =
        let next : Progress A = read_past (bracket_context s above)
        (read_other s notes above) p.goes_on a below rest p in
        let here : List LinkView = found_past (bracket_context s above) p.goes_on a rest p in
        let later : List LinkView = look_ups_from s notes above rest next in
        let last : ℕ = (read_on s notes above rest next).state.limit in
        subst (λ (l : List ℕ). Spent p.state.limit l last) (sym (map-append size_of here later))
        (spent_both p.state.limit next.state.limit last (sizes here) (sizes later) (past_spent p.goes_on a below rest p)
        (chain_spent rest next))

    -- all of a chain
    pub resolved_spent : (chain : Forest (TreeNode A)) (state : ReferenceState)
        → Spent state.limit (map size_of (resolved_chain s notes above chain state).found)
        (resolved_chain s notes above chain state).state.limit
    unfolding resolved pass_one
    resolved_spent chain state = chain_spent chain (begun state)

-- Pass one leaves the trees of a chain one after the other: what a `]` becomes ends with it or later, and the chain
-- continues there or later.
use Rattle.std.proofs.Common.{◌≡◌, ℕ, ◌+◌, ◌<◌, ◌≤◌, Bool, true, false, ◌&&◌, ◌==◌, List, [], ◌∷◌, Option, Some, None}
use Rattle.std.proofs.Common.{refl, sym, ap, subst, ◌∙◌, arith, nat_le, ⊎_elim}
use Rattle.std.specs.Prelude.{if◌then◌else◌, unwrap_or, nat_lt, ◌⊎◌}
use Rattle.std.specs.Option.{option_map}
use Rattle.std.proofs.lemmas.Bool.{eqb-true}
use Rattle.std.proofs.lemmas.Bool.Decides.{nat_tests}
use Rattle.markdown_base.specs.Event.{LinkView}
use Rattle.markdown_base.specs.Forest.{Forest, nil, node}
use Rattle.markdown_base.specs.declared.item.ItemBody.{ItemBody}
use Rattle.markdown_base.specs.declared.item.ItemBody.TheVariants as body
use Rattle.markdown_base.specs.declared.tag.LinkType.TheVariants as kind
use Rattle.markdown_brackets.specs.BracketDecision.{BracketContext, Closing, LinkReference, Progress, Wikilink, Written}
use Rattle.markdown_brackets.specs.BracketDecision.{a_link, a_text, block_text, carried_out, closer_ends_at, decided}
use Rattle.markdown_brackets.specs.BracketDecision.{form_of, found, inline_target, inline_title, left_for_one, lines}
use Rattle.markdown_brackets.specs.BracketDecision.{looked_up, past_second, question_at, second_end}
use Rattle.markdown_brackets.specs.BracketDecision.{start_of_first_past, text_from, wikilink_in}
use Rattle.markdown_brackets.specs.ClosingBracket.{closed, footnote_from, footnote_onto, linked, put, put_decided}
use Rattle.markdown_brackets.specs.ClosingBracket.{wikilink_target}
use Rattle.markdown_brackets.specs.LeftList.{Entry, Split, before_footnote, before_link, before_wikilink, bracket_taken}
use Rattle.markdown_brackets.specs.LeftList.{disabled_state, done, inside, nearest, on_states, opens_bracket}
use Rattle.markdown_brackets.specs.LeftList.{opens_wikilink, second_folded, trees_onto, without_bracket}
use Rattle.markdown_brackets.specs.LeftList.{without_wikilink}
use Rattle.markdown_brackets.specs.Lookup.{look_up}
use Rattle.markdown_brackets.specs.ReadChain.{begun, closing_of, opened, read, read_as, read_chain, read_past}
use Rattle.markdown_brackets.specs.Reference.{collapsed, is_closing_bracket}
use Rattle.markdown_brackets.proofs.ClosingBracketLemmas.{IsFull, IsOwn, Stays, all_stays, either, found_cases, some_of}
use Rattle.markdown_document.specs.ChainRest.{begun_at, end_of, open_body, past, past_byte, start_of}
use Rattle.markdown_document.specs.Document.{Notes, Origin, Shape, TreeNode, as_text, is_unresolved, unresolved}
use Rattle.markdown_document.specs.EnclosingBlocks.{EnclosingBlocks}
use Rattle.markdown_document.specs.Setting.{ReferenceState, Setting}
use Rattle.markdown_document.specs.Waiting.{is_quiet}
use Rattle.markdown_spans.specs.Finds.{end_of_find, find, read_tree, read_unless, trees_for}
use Rattle.markdown_resolver.specs.PassOne.{bracket_context, pass_one, put_passed, read_on, read_other}
use Rattle.markdown_resolver.proofs.ApartLemmas.{Around, LieApart, around, find_fits, found_apart, one_apart, onto}
use Rattle.markdown_resolver.proofs.ApartLemmas.{past_byte_apart, past_second_apart, sooner, wikilink_apart}
use Rattle.markdown_resolver.proofs.TailEndLemmas.{tail_closes}
use Rattle.markdown_resolver.proofs.WholeLemmas.{onto_done, same_change, same_link, same_marks, same_second}

-- what is not quiet is open, and so is a `]`
pub quiet_open : (shape : Shape) → is_quiet shape ≡ false → is_unresolved shape ≡ true
quiet_open (unresolved b) h = refl
quiet_open other h = cc h

pub closer_open : (shape : Shape) (could : Bool) → open_body shape ≡ body.MaybeLinkClose could
    → is_unresolved shape ≡ true
closer_open (unresolved b) could e = refl
closer_open other could e = cc e

module _ {A : Type 0} where
  -- a `]` of a chain that ends at a byte offset ends no earlier than the chain begins
  closer_later : (i j : ℕ) (f : Forest (TreeNode A)) → LieApart j f → closer_ends_at i f ≡ true → j ≤ i
  closer_later i j nil h e = cc e
  closer_later i j (node a below after) h e =
      by (nat_lt (end_of a) i) (is_closing_bracket (open_body a.part.shape)) (end_of a == i) refl refl e
    where
      by : (sooner closes here : Bool) → nat_lt (end_of a) i ≡ sooner → (end_of a == i) ≡ here
          → (if sooner then closer_ends_at i after else closes && here) ≡ true → j ≤ i
      by true closes here l s e =
          let later : end_of a < i = grind (arith, nat_tests) in omega (arith, h.0, h.1, later)
      by false true true l s e = omega (arith, h.0, h.1, eqb-true (end_of a) i s)
      by false true false l s e = cc e
      by false false here l s e = cc e

  module _ (w : BracketContext) (c : Closing A) (some : start_of c.node < end_of c.node)
      (rest : LieApart (end_of c.node) c.rest) where
    Before : List (Entry A) → Type 0
    Before left = LieApart 0 (trees_onto left (node c.node nil c.rest))

    After : Progress A → Type 0
    After q = LieApart 0 (trees_onto q.left (past q.goes_on c.rest))

    stays : Stays Before
    unfolding Before
    stays = record {
      bracket = λ left h. subst (LieApart 0) (sym (same_change opens_bracket without_bracket left
          (node c.node nil c.rest)))
          h;
      wikilink = λ left h. subst (LieApart 0)
          (sym (same_change opens_wikilink without_wikilink left (node c.node nil c.rest))) h;
    }

    -- the rest from a byte offset on that is no earlier than another
    rest_apart : (end next : ℕ) → end ≤ next → LieApart end (past_byte next c.rest)
    rest_apart end next l = sooner end next (past_byte next c.rest) l (past_byte_apart next (end_of c.node) c.rest rest)

    text_apart : (q : Progress A) → q.goes_on ≡ None → Before q.left → After (put w c a_text q)
    unfolding Before After
    text_apart q none h =
        let o = onto 0 q.left (node c.node nil c.rest) h in
        let k = o.here in
        subst (λ (goes_on : Option ℕ). LieApart 0 (trees_onto q.left
        (node (as_text w.setting.text c.node) nil (past goes_on c.rest)))) (sym none)
        (o.goes (node (as_text w.setting.text c.node) nil c.rest)
        (one_apart o.at (as_text w.setting.text c.node) nil c.rest k.0 k.1 refl tt rest))

    link_apart : (left : List (Entry A)) (o : Split A) (target : LinkView) (titles : List Origin) (end next : ℕ)
        → Before left → nearest opens_bracket left ≡ Some o → end_of c.node ≤ end → end ≤ next
        → LieApart 0 (trees_onto (done (linked o target titles end) (inside o) ∷ before_link o.state.is_image o.before)
        (past_byte next c.rest))
    unfolding Before
    link_apart left o target titles end next h is later on =
        let r = around opens_bracket left o (node c.node nil c.rest) is h in
        let k = r.here in
        let d = linked o target titles end in
        subst (LieApart 0) (sym (same_link o.state.is_image o.before (node d (inside o) (past_byte next c.rest))))
        (r.goes (node d (inside o) (past_byte next c.rest))
        (one_apart r.begins d (inside o) (past_byte next c.rest) r.starts
        (omega (arith, r.ordered, r.later, k.0, k.1, later)) refl (sooner 0 (end_of o.opener) (inside o)
        (omega arith) r.inner) (rest_apart end next on)))

    footnote_apart : (i : Bool) (left : List (Entry A)) (o : Split A) (name : List ℕ) → Before left
        → nearest opens_bracket left ≡ Some o
        → LieApart 0 (trees_onto (footnote_onto w c i o.opener name (before_footnote o.before))
        (past_byte (end_of c.node) c.rest))
    unfolding Before
    footnote_apart i left o name h is = by i
      where
        r : Around left o (node c.node nil c.rest)
        r = around opens_bracket left o (node c.node nil c.rest) is h

        later : Forest (TreeNode A)
        later = past_byte (end_of c.node) c.rest

        same : (f : Forest (TreeNode A)) → trees_onto (before_footnote o.before) f ≡ trees_onto o.before f
        same f = same_marks without_bracket (second_folded o.before) f ∙ same_second o.before f

        by : (i : Bool)
            → LieApart 0 (trees_onto (footnote_onto w c i o.opener name (before_footnote o.before)) later)
        by false =
            let d = footnote_from o.opener name (start_of o.opener) (end_of c.node) in
            subst (LieApart 0) (sym (same (node d nil later))) (r.goes (node d nil later)
            (one_apart r.begins d nil later r.starts (omega (arith, r.ordered, r.later, r.here.0, some)) refl tt
            (rest_apart (end_of c.node) (end_of c.node) (omega arith))))
        by true =
            let d = footnote_from c.node name (start_of o.opener + 1) (end_of c.node) in
            let mark = text_from w o.opener (start_of o.opener) (start_of o.opener + 1) in
            subst (LieApart 0) (sym (same (node mark nil (node d nil later))))
            (r.goes (node mark nil (node d nil later))
            (one_apart r.begins mark nil (node d nil later) r.starts (omega arith) refl tt
            (one_apart (start_of o.opener + 1) d nil later (omega arith)
            (omega (arith, r.ordered, r.later, r.here.0, some)) refl tt
            (rest_apart (end_of c.node) (end_of c.node) (omega arith)))))

    wikilink_put : (left : List (Entry A)) (o : Split A) (v : Wikilink A) (end : ℕ) → Before left
        → nearest opens_wikilink left ≡ Some o → end_of c.node ≤ end
        → wikilink_in w (past_second (inside o)) (start_of c.node) ≡ Some v
        → LieApart 0 (trees_onto (done (linked o (wikilink_target v) [] end) v.children ∷ before_wikilink o.before)
        (past_byte end c.rest))
    unfolding Before
    wikilink_put left o v end h is later shows =
        let r = around opens_wikilink left o (node c.node nil c.rest) is h in
        let k = r.here in
        let d = linked o (wikilink_target v) [] end in
        let children = some_of (wikilink_in w (past_second (inside o)) (start_of c.node)) v
        (λ (v : Wikilink A). LieApart 0 v.children) shows
        (wikilink_apart w (past_second (inside o)) (start_of c.node) (past_second_apart (inside o)
        (sooner 0 (end_of o.opener) (inside o) (omega arith) r.inner))) in
        let same = same_marks without_wikilink (on_states disabled_state o.before)
        (node d v.children (past_byte end c.rest))
        ∙ same_marks disabled_state o.before (node d v.children (past_byte end c.rest)) in
        subst (LieApart 0) (sym same) (r.goes (node d v.children (past_byte end c.rest))
        (one_apart r.begins d v.children (past_byte end c.rest) r.starts
        (omega (arith, r.ordered, r.later, k.0, k.1, later)) refl children (rest_apart end end (omega arith))))

    pub second_later : (f : Forest (TreeNode A)) (end : ℕ) → LieApart (end_of c.node) f → second_end w f ≡ Some end
        → end_of c.node ≤ end
    second_later nil end h e = cc e
    second_later (node a below after) end h e =
        by (w.setting.rules.syntax.wikilinks && is_closing_bracket (open_body a.part.shape)) e
      where
        by : (b : Bool) → (if b then Some (end_of a) else None) ≡ Some end → end_of c.node ≤ end
        by true e = let same : end_of a ≡ end = cc e in omega (arith, h.0, h.1, same)
        by false e = cc e

    -- a reference ends with the `]` or later, and the chain continues there or later
    reference_later : (r : LinkReference) → IsFull w c r ⊎ IsOwn w c r → (end_of c.node ≤ r.end) × (r.end ≤ r.next)
    reference_later r way = ⊎_elim (λ (f : IsFull w c r).
        let next : r.next ≡ r.end = ap (λ (x : LinkReference). x.next) f.is in
        (closer_later r.end (end_of c.node) c.rest rest f.closes, omega (arith, next)))
        (λ (f : IsOwn w c r). (
          omega (arith, f.end),
          ⊎_elim
              (λ (k : (r.link_type ≡ kind.Collapsed) × (r.next ≡ end_of c.node + 2) × (form_of w c ≡ collapsed)).
              omega (arith, k.1, f.end))
              (λ (k : (r.link_type ≡ kind.Shortcut) × (r.next ≡ end_of c.node)). omega (arith, k.1, f.end)) f.form,
        )) way

    pub closed_apart : (p : Progress A) → p.goes_on ≡ None → LieApart 0 (trees_onto p.left (node c.node nil c.rest))
        → LieApart 0 (trees_onto (closed w c p).left (past (closed w c p).goes_on c.rest))
    unfolding closed decided Before After
    closed_apart p none g = either (λ x. After (put_decided w c (carried_out w x now))) (found w c second p.left)
        (text_apart now none goes)
        (found_cases w c Before stays Holds second
        (λ left o h e live. record {
          inline = λ t is.
              let closes = tail_closes (lines w) (start_of_first_past c.rest) (block_text w) (end_of c.node) t is in
              link_apart left o (inline_target w t) (inline_title w t ∷ []) t.ends t.ends h e
              (omega (arith, closes.after))
              (omega arith);
          refers = λ r way.
              let rules = w.setting.rules in
              let result = look_up rules.definitions rules.asks p.state.limit p.state.answers (question_at o r) in
              refers left o r h e (reference_later r way) result.target (looked_up o r result now).progress none goes;
          footnote = λ name. footnote_apart o.state.is_image left o name h e;
        })
        (λ left o v end h e live is s. wikilink_put left o v end h e (second_later c.rest end rest s) is) p.left g)
      where
        second : Option ℕ
        second = second_end w c.rest

        now : Progress A
        now = record p { left = bracket_taken (left_for_one second p.left) }

        goes : Before now.left
        goes = all_stays w c Before stays second p.left g

        Holds : Written A → Type 0
        Holds x = After (put_decided w c (carried_out w (Some x) now))

        refers : (left : List (Entry A)) (o : Split A) (r : LinkReference) → Before left → nearest opens_bracket left
            ≡ Some o → (end_of c.node ≤ r.end) × (r.end ≤ r.next) → (target : Option LinkView) (q : Progress A)
            → q.goes_on ≡ None → Before q.left
            → After (put w c (unwrap_or (option_map (λ t. a_link o t [] r.end r.next) target) a_text) q)
        refers left o r h e l None q none g = text_apart q none g
        refers left o r h e l (Some t) q none g = link_apart left o t [] r.end r.next h e l.0 l.1

  -- ---- a chain

  -- how far a chain was read: its trees lie one after the other
  unfoldable pub SoFar : Progress A → Forest (TreeNode A) → Type 0
  SoFar p rest = LieApart 0 (trees_onto p.left (past p.goes_on rest))

  module _ (s : Setting) (notes : Notes A) (above : EnclosingBlocks) where
    other_step : (a : TreeNode A) (below rest : Forest (TreeNode A)) (p : Progress A)
        → LieApart 0 (trees_onto p.left (node a below rest)) → SoFar (read_other s notes above a below rest p) rest
    unfolding read_tree SoFar
    other_step a below rest p h = by (is_quiet a.part.shape) refl
      where
        by : (quiet : Bool) → is_quiet a.part.shape ≡ quiet
            → SoFar (put_passed (read_unless quiet s notes above p.made a below rest) p) rest
        by true q = h
        by false q =
            let found = find s above a rest in
            let fresh = notes.of_made p.made in
            let o = onto 0 p.left (node a below rest) h in
            let k = o.here in
            let long = (k.2 (quiet_open a.part.shape q)).0 in
            subst (LieApart 0) (sym (onto_done (trees_for s fresh a found) p.left (past (end_of_find found) rest)))
            (o.goes _ (found_apart s above fresh o.at a found rest k.0 long k.4 (find_fits s above a rest long k.4)))

    opened_step : (i : Bool) (a : TreeNode A) (below rest : Forest (TreeNode A)) (p : Progress A) → p.goes_on ≡ None
        → LieApart 0 (trees_onto p.left (node a below rest))
        → SoFar (opened (bracket_context s above) i a rest p) rest
    unfolding SoFar
    opened_step i a below rest p none h =
        let o = onto 0 p.left (node a below rest) h in
        let k = o.here in
        subst (λ (goes_on : Option ℕ). LieApart 0 (trees_onto p.left (node (as_text s.text a) nil (past goes_on rest))))
        (sym none) (o.goes (node (as_text s.text a) nil rest)
        (one_apart o.at (as_text s.text a) nil rest k.0 k.1 refl tt k.4))

    closed_step : (could : Bool) (a : TreeNode A) (below rest : Forest (TreeNode A)) (p : Progress A) → p.goes_on ≡ None
        → open_body a.part.shape ≡ body.MaybeLinkClose could → LieApart 0 (trees_onto p.left (node a below rest))
        → SoFar (closed (bracket_context s above) (closing_of could a rest p) p) rest
    unfolding SoFar
    closed_step could a below rest p none is h =
        let o = onto 0 p.left (node a below rest) h in
        let k = o.here in
        let alone = k.2 (closer_open a.part.shape could is) in
        closed_apart (bracket_context s above) (closing_of could a rest p) alone.0 k.4 p none
        (o.goes (node a nil rest) (k.0, k.1, (λ opens. (alone.0, refl)), tt, k.4))

    step : (b : ItemBody) (a : TreeNode A) (below rest : Forest (TreeNode A)) (p : Progress A)
        → open_body a.part.shape ≡ b → p.goes_on ≡ None → LieApart 0 (trees_onto p.left (node a below rest))
        → SoFar (read_as (bracket_context s above) (read_other s notes above) b a below rest p) rest
    step body.MaybeLinkOpen a below rest p is none h = opened_step false a below rest p none h
    step body.MaybeImage a below rest p is none h = opened_step true a below rest p none h
    step (body.MaybeLinkClose could) a below rest p is none h = closed_step could a below rest p none is h
    step other a below rest p is none h = other_step a below rest p h

    pub past_step : (goes_on : Option ℕ) (a : TreeNode A) (below rest : Forest (TreeNode A)) (p : Progress A)
        → p.goes_on
        ≡ goes_on → SoFar p (node a below rest)
        → SoFar (read_past (bracket_context s above) (read_other s notes above) goes_on a below rest p) rest
    unfolding SoFar
    past_step None a below rest p is h =
        step (open_body a.part.shape) a below rest p refl is
        (subst (λ (o : Option ℕ). LieApart 0 (trees_onto p.left (past o (node a below rest)))) is h)
    past_step (Some i) a below rest p is h =
        by (nat_le (end_of a) i)
        (subst (λ (o : Option ℕ). LieApart 0 (trees_onto p.left (past o (node a below rest)))) is h)
      where
        by : (ends : Bool) → LieApart 0
            (trees_onto p.left (if ends then past_byte i rest else node (begun_at i a) below rest))
            → SoFar (if ends then p else read (bracket_context s above) (read_other s notes above) (begun_at i a)
            below rest (record p { goes_on = None })) rest
        by true k = subst (λ (o : Option ℕ). LieApart 0 (trees_onto p.left (past o rest))) (sym is) k
        by false k = step (open_body (begun_at i a).part.shape) (begun_at i a) below rest (record p { goes_on = None })
            refl refl k

    chain_apart : (chain : Forest (TreeNode A)) (p : Progress A) → SoFar p chain
        → SoFar (read_on s notes above chain p) nil
    unfolding read_chain
    chain_apart nil p h = h
    chain_apart (node a below rest) p h =
        chain_apart rest (read_past (bracket_context s above) (read_other s notes above) p.goes_on a below rest p)
        (past_step p.goes_on a below rest p refl h)

    nothing_left : (left : List (Entry A)) (goes_on : Option ℕ) → LieApart 0 (trees_onto left (past goes_on nil))
        → LieApart 0 (trees_onto left nil)
    nothing_left left None h = h
    nothing_left left (Some i) h = h

    pub pass_one_apart : (chain : Forest (TreeNode A)) (state : ReferenceState) → LieApart 0 chain
        → LieApart 0 (pass_one s notes above chain state).forest
    unfolding pass_one SoFar
    pass_one_apart chain state h =
        let read = read_on s notes above chain (begun state) in
        nothing_left read.left read.goes_on (chain_apart chain (begun state) h)

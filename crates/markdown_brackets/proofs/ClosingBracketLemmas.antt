-- What is found at a `]`, and what becomes of a left list there, case by case: what holds in each case holds of the
-- whole.
use Rattle.std.proofs.Common.{◌≡◌, ◌⊎◌, inl, inr, ℕ, ◌+◌, Bool, true, false, List, [], ◌∷◌, Option, Some, None, refl}
use Rattle.std.proofs.Common.{subst}
use Rattle.std.specs.Prelude.{IfSome, if◌then◌else◌, unwrap_or}
use Rattle.std.specs.Option.{option_and_then, option_map}
use Rattle.markdown_base.specs.Event.{LinkView}
use Rattle.markdown_base.specs.Forest.{nil}
use Rattle.markdown_base.specs.declared.tag.LinkType.{LinkType}
use Rattle.markdown_base.specs.declared.tag.LinkType.TheVariants as kind
use Rattle.markdown_base.proofs.OptionLemmas.{if_or}
use Rattle.markdown_document.specs.Document.{Origin, as_text}
use Rattle.markdown_document.specs.ChainRest.{start_of, end_of}
use Rattle.markdown_brackets.specs.FootnoteUse.{footnote_style, is_reference}
use Rattle.markdown_brackets.specs.BracketDecision.{BracketContext, Closing, Written, LinkReference, Progress, Wikilink}
use Rattle.markdown_brackets.specs.BracketDecision.{a_link, inline_title, a_text, block_text, bracket_found}
use Rattle.markdown_brackets.specs.BracketDecision.{carried_out, closer_ends_at, decided, footnote_label}
use Rattle.markdown_brackets.specs.BracketDecision.{footnote_written, form_of, found, full, inline_link, inline_target}
use Rattle.markdown_brackets.specs.BracketDecision.{label_of_opener, left_for_one, lines, link_reference, looked_up}
use Rattle.markdown_brackets.specs.BracketDecision.{own_written, past_second, question_at, reference_written}
use Rattle.markdown_brackets.specs.BracketDecision.{second_end, start_of_first_past, wikilink, wikilink_found}
use Rattle.markdown_brackets.specs.BracketDecision.{wikilink_in, written}
use Rattle.markdown_brackets.specs.ClosingBracket.{closed, footnote_onto, linked, put, put_decided, wikilink_target}
use Rattle.markdown_brackets.specs.LeftList.{Entry, Split, before_footnote, before_link, before_wikilink, bracket_taken}
use Rattle.markdown_brackets.specs.LeftList.{done, inside, is_live, nearest, opens_bracket, opens_wikilink}
use Rattle.markdown_brackets.specs.LeftList.{wikilink_taken}
use Rattle.markdown_brackets.specs.LinkTail.{LinkTail, link_tail}
use Rattle.markdown_brackets.specs.Lookup.{look_up}
use Rattle.markdown_brackets.specs.Reference.{Form, FoundLabel, collapsed, reference, shortcut}

-- what holds of what an option holds
pub some_of : {X : Type 0} (o : Option X) (x : X) (p : X → Type 0) → o ≡ Some x → IfSome o p → p x
some_of o x p e h = subst (λ (o : Option _). IfSome o p) e h

-- what holds of nothing, and of whatever is found
pub either : {X : Type 0} (p : Option X → Type 0) (o : Option X) → p None → IfSome o (λ x. p (Some x)) → p o
either p None none some = none
either p (Some x) none some = some

if_then : {X Y : Type 0} (p : Y → Type 0) (f : X → Option Y) (o : Option X) → ((x : X) → o ≡ Some x → IfSome (f x) p)
    → IfSome (option_and_then f o) p
if_then p f None h = tt
if_then p f (Some x) h = h x refl

if_test : {X : Type 0} (p : X → Type 0) (b : Bool) (o : Option X) → (b ≡ true → IfSome o p)
    → IfSome (if b then o else None) p
if_test p true o h = h refl
if_test p false o h = tt

if_map : {X Y : Type 0} (p : Y → Type 0) (f : X → Y) (o : Option X) → ((x : X) → o ≡ Some x → p (f x))
    → IfSome (option_map f o) p
if_map p f None h = tt
if_map p f (Some x) h = h x refl

-- it stays true where an opener is taken off
pub record Stays {A : Type 0} (q : List (Entry A) → Type 0) : Type 0 where
  pub bracket : (left : List (Entry A)) → q left → q (bracket_taken left)
  pub wikilink : (left : List (Entry A)) → q left → q (wikilink_taken left)

module _ {A : Type 0} (w : BracketContext) (c : Closing A) where
  -- a full reference, whose label follows the `]`
  pub record IsFull (r : LinkReference) : Type 0 where
    pub form : form_of w c ≡ reference r.label r.end
    pub closes : closer_ends_at r.end c.rest ≡ true
    pub is : r ≡ full r.label r.end

  -- one whose label ends with the `]`
  pub record IsOwn (r : LinkReference) : Type 0 where
    pub could : c.could_be_reference ≡ true
    pub end : r.end ≡ end_of c.node
    pub spends : r.spends ≡ []
    pub form : ((r.link_type ≡ kind.Collapsed) × (r.next ≡ end_of c.node + 2) × (form_of w c ≡ collapsed))
        ⊎ ((r.link_type ≡ kind.Shortcut) × (r.next ≡ end_of c.node))

  -- what is to hold of what is written from an opener on
  pub record WrittenCases (o : Split A) (p : Written A → Type 0) : Type 0 where
    pub inline : (t : LinkTail) → link_tail (lines w) (start_of_first_past c.rest) (block_text w) (end_of c.node)
        ≡ Some t
        → p (inline_link o t)
    pub refers : (r : LinkReference) → IsFull r ⊎ IsOwn r → p (link_reference o r)
    pub footnote : (name : List ℕ) → p (footnote_label o name)

  own_cases : (o : Split A) (p : Written A → Type 0) → WrittenCases o p → (link_type : LinkType) (next : ℕ)
      → ((link_type ≡ kind.Collapsed) × (next ≡ end_of c.node + 2) × (form_of w c ≡ collapsed))
      ⊎ ((link_type ≡ kind.Shortcut) × (next ≡ end_of c.node))
      → IfSome (option_and_then (own_written w o link_type (end_of c.node) next) (label_of_opener w c o)) p
  own_cases o p k link_type next form = if_then p (own_written w o link_type (end_of c.node) next)
      (label_of_opener w c o)
      (λ l is. by_label l l.is_footnote (could_be c.could_be_reference _ l is))
    where
      could_be : (b : Bool) (x : Option FoundLabel) (l : FoundLabel) → (if b then x else None) ≡ Some l → b ≡ true
      could_be true x l is = refl
      could_be false x l is = cc

      by_label : (l : FoundLabel) (is_footnote : Bool) → c.could_be_reference ≡ true
          → IfSome (if is_footnote then footnote_written w o l.name else Some (link_reference o (record {
            link_type = link_type;
            label = l.name;
            end = end_of c.node;
            next = next;
            spends = [];
          }))) p
      by_label l true could = if_test p
          (is_reference (footnote_style w.setting.rules.syntax) (w.setting.rules.is_footnote l.name))
          (Some (footnote_label o l.name)) (λ e. k.footnote l.name)
      by_label l false could = k.refers _ (inr (record { could = could; end = refl; spends = refl; form = form }))

  reference_cases : (o : Split A) (p : Written A → Type 0) → WrittenCases o p → (form : Form) → form_of w c ≡ form
      → IfSome (reference_written w o (end_of c.node) (λ i. closer_ends_at i c.rest) (label_of_opener w c o) form) p
  reference_cases o p k (reference label to) e =
      if_test p (closer_ends_at to c.rest) (Some (link_reference o (full label to)))
      (λ closes. k.refers (full label to) (inl (record { form = e; closes = closes; is = refl })))
  reference_cases o p k collapsed e = own_cases o p k kind.Collapsed (end_of c.node + 2) (inl (refl, refl, e))
  reference_cases o p k shortcut e = own_cases o p k kind.Shortcut (end_of c.node) (inr (refl, refl))

  -- it holds of what is found from an opener on
  pub bracket_cases : (o : Split A) (p : Written A → Type 0) → (is_live o.state.bracket ≡ true → WrittenCases o p)
      → IfSome (bracket_found w c o) p
  bracket_cases o p k = if_test p (is_live o.state.bracket) (written w c o) (λ live.
      if_or p (option_map (inline_link o)
      (link_tail (lines w) (start_of_first_past c.rest) (block_text w) (end_of c.node)))
      (reference_written w o (end_of c.node) (λ i. closer_ends_at i c.rest) (label_of_opener w c o) (form_of w c))
      (if_map p (inline_link o) (link_tail (lines w) (start_of_first_past c.rest) (block_text w) (end_of c.node))
      (k live).inline)
      (reference_cases o p (k live) (form_of w c) refl))

  module _ (q : List (Entry A) → Type 0) (stays : Stays q) where
    one_stays : (second : Option ℕ) (left : List (Entry A)) → q left → q (left_for_one second left)
    one_stays None left h = h
    one_stays (Some end) left h = stays.wikilink left h

    -- what holds of a left list holds of what is left of it
    pub all_stays : (second : Option ℕ) (left : List (Entry A)) → q left → q (bracket_taken (left_for_one second left))
    all_stays second left h = stays.bracket (left_for_one second left) (one_stays second left h)

    -- it holds of what is found at the `]`
    pub found_cases : (p : Written A → Type 0) (second : Option ℕ)
        → ((left : List (Entry A)) (o : Split A) → q left → nearest opens_bracket left ≡ Some o
        → is_live o.state.bracket
        ≡ true
        → WrittenCases o p)
        → ((left : List (Entry A)) (o : Split A) (v : Wikilink A) (end : ℕ) → q left → nearest opens_wikilink left
        ≡ Some o
        → is_live o.state.wikilink ≡ true → wikilink_in w (past_second (inside o)) (start_of c.node) ≡ Some v → second
        ≡ Some end
        → p (wikilink o v end))
        → (left : List (Entry A)) → q left → IfSome (found w c second left) p
    found_cases p second brackets wikilinks left h =
        if_or p _ _
        (if_then p (λ end. option_and_then (wikilink_found w c end) (nearest opens_wikilink (bracket_taken left)))
        second (λ end s.
        if_then p (wikilink_found w c end) (nearest opens_wikilink (bracket_taken left)) (λ o e.
        if_test p (is_live o.state.wikilink) _ (λ live.
        if_map p (λ v. wikilink o v end) (wikilink_in w (past_second (inside o)) (start_of c.node)) (λ v is.
        wikilinks (bracket_taken left) o v end (stays.bracket left h) e live is s)))))
        (if_then p (bracket_found w c) (nearest opens_bracket (left_for_one second left)) (λ o e.
        bracket_cases o p (λ live. brackets (left_for_one second left) o (one_stays second left h) e live)))

-- `q` holds of the left list before, and `p` is to hold of it after
pub record Cases {A : Type 0} (w : BracketContext) (c : Closing A) (q p : List (Entry A) → Type 0) : Type 0 where
  pub bracket_goes : (left : List (Entry A)) → q left → q (bracket_taken left)
  pub wikilink_goes : (left : List (Entry A)) → q left → q (wikilink_taken left)
  pub text : (left : List (Entry A)) → q left → p (done (as_text w.setting.text c.node) nil ∷ left)
  pub link : (left : List (Entry A)) (o : Split A) (target : LinkView) (titles : List Origin) (end : ℕ) → q left
      → nearest opens_bracket left ≡ Some o
      → is_live o.state.bracket ≡ true
      → p (done (linked o target titles end) (inside o) ∷ before_link o.state.is_image o.before)
  pub footnote : (left : List (Entry A)) (o : Split A) (name : List ℕ) → q left → nearest opens_bracket left ≡ Some o
      → is_live o.state.bracket ≡ true
      → p (footnote_onto w c o.state.is_image o.opener name (before_footnote o.before))
  pub wikilink : (left : List (Entry A)) (o : Split A) (v : Wikilink A) (end : ℕ) → q left → nearest opens_wikilink left
      ≡ Some o
      → is_live o.state.wikilink ≡ true
      → wikilink_in w (past_second (inside o)) (start_of c.node) ≡ Some v
      → p (done (linked o (wikilink_target v) [] end) v.children ∷ before_wikilink o.before)

module _ {A : Type 0} (w : BracketContext) (c : Closing A) (before after : List (Entry A) → Type 0)
    (k : Cases w c before after)
  where
    pub in_each_case : (p : Progress A) → before p.left → after (closed w c p).left
    unfolding closed decided
    in_each_case p g = either (λ x. after (put_decided w c (carried_out w x now)).left) (found w c second p.left)
        (k.text now.left goes)
        (found_cases w c before stays Holds second
        (λ left o h e live. record {
          inline = λ t is. k.link left o (inline_target w t) (inline_title w t ∷ []) t.ends h e live;
          refers = λ r way.
              let rules = w.setting.rules in
              let result = look_up rules.definitions rules.asks p.state.limit p.state.answers (question_at o r) in
              refers left o r h e live result.target (looked_up o r result now).progress goes;
          footnote = λ name. k.footnote left o name h e live;
        })
        (λ left o v end h e live is s. k.wikilink left o v end h e live is) p.left g)
      where
        second : Option ℕ
        second = second_end w c.rest

        stays : Stays before
        stays = record { bracket = k.bracket_goes; wikilink = k.wikilink_goes }

        now : Progress A
        now = record p { left = bracket_taken (left_for_one second p.left) }

        goes : before now.left
        goes = all_stays w c before stays second p.left g

        Holds : Written A → Type 0
        Holds x = after (put_decided w c (carried_out w (Some x) now)).left

        refers : (left : List (Entry A)) (o : Split A) (r : LinkReference) → before left → nearest opens_bracket left
            ≡ Some o
            → is_live o.state.bracket ≡ true → (target : Option LinkView) (p : Progress A) → before p.left
            → after (put w c (unwrap_or (option_map (λ t. a_link o t [] r.end r.next) target) a_text) p).left
        refers left o r h e live None p g = k.text p.left g
        refers left o r h e live (Some t) p g = k.link left o t [] r.end h e live

-- An opener of math in an arena, by the list of the items after it.
use Rattle.std.proofs.Common.{◌≡◌, ℕ, suc, ◌+◌, ◌<◌, ◌≤◌, Bool, List, [], ◌∷◌, ◌++◌, Option, Some, None, true, false}
use Rattle.std.proofs.Common.{◌&&◌, not, length, drop, refl, arith, subst, sym, ◌∙◌, ap}
use Rattle.std.specs.Prelude.{if◌then◌else◌, ◌==◌, is_some, option_to_list, IfSome}
use Rattle.std.specs.Option.{option_map}
use Rattle.markdown_base.specs.declared.item.Item.{Item}
use Rattle.markdown_base.specs.declared.item.ItemBody.{ItemBody}
use Rattle.markdown_base.specs.declared.item.ItemBody.TheVariants as body
use Rattle.markdown_base.specs.declared.node.Node.{Node}
use Rattle.markdown_base.specs.Arena.{sibling_of}
use Rattle.markdown_base.specs.BlockTree.{Numbered, item_at}
use Rattle.markdown_spans.specs.ChainInArena.{LeadsThrough, HasChain}
use Rattle.markdown_spans.specs.Closers.{Dollar, MathClose, can_close, can_open, math_closed_by, context_of}
use Rattle.markdown_spans.specs.Closers.{display_close, dollar_next, first_dollar, inline_close, is_dollar}
use Rattle.markdown_spans.specs.Closers.{is_dollar_of, math_close}
use Rattle.markdown_spans.specs.CloserSearches.{looked_for_dollar, searched_for_math}
use Rattle.markdown_spans.specs.MathOpening.{closed_by_first, display_closed, dollar_at, inline_closed, marks_at}
use Rattle.markdown_spans.specs.MathOpening.{opener_at, searched_from}
use Rattle.markdown_spans.specs.SpanClosers.{StandsIn, found_math, item_in}
use Rattle.markdown_spans.specs.SpanMarks.{mark_at, marks_in}
use Rattle.markdown_spans.proofs.ChainWalkLemmas.{chain_at}
use Rattle.markdown_spans.specs.declared.math_opener.MathOpener.{MathOpener}
use Rattle.markdown_spans.specs.declared.span_closers.FoundMath.{FoundMath}
use Rattle.markdown_spans.specs.declared.span_text.SpanKind.TheVariants.{Math}

-- what an opener says of its node
pub record OpenerIs (nodes : List (Node Item)) (o : MathOpener) : Type 0 where
  pub opens : can_open (item_at nodes o.number).body ≡ true
  pub end : o.end ≡ (item_at nodes o.number).end
  pub context : o.context ≡ context_of (item_at nodes o.number).body
  pub second : o.second ≡ dollar_at nodes (sibling_of nodes o.number)

pub opener_number : (nodes : List (Node Item)) (ix : ℕ) (o : MathOpener) → opener_at nodes ix ≡ Some o → o.number ≡ ix
opener_number nodes ix o h = cases (can_open (item_at nodes ix).body) refl
  where
    cases : (opens : Bool) → can_open (item_at nodes ix).body ≡ opens → o.number ≡ ix
    cases true e = let made = rw e at h in cc
    cases false e = let made = rw e at h in cc

pub opener_is : (nodes : List (Node Item)) (o : MathOpener) → opener_at nodes o.number ≡ Some o → OpenerIs nodes o
opener_is nodes o h = cases (can_open (item_at nodes o.number).body) refl
  where
    cases : (opens : Bool) → can_open (item_at nodes o.number).body ≡ opens → OpenerIs nodes o
    cases true e = let made = rw e at h in record { opens = e; end = cc; context = cc; second = cc }
    cases false e = let made = rw e at h in cc

-- the `$` that comes next in a list is that to which the link leads
pub dollar_is_at : (nodes : List (Node Item)) (low : ℕ) (link : Option ℕ) (after : List Numbered) →
    LeadsThrough nodes low link after
    → dollar_at nodes link ≡ option_map (λ a. a.number) (dollar_next item_in after)
dollar_is_at nodes low link [] h = rw h refl
dollar_is_at nodes low link (a ∷ after) h = rw (h.0, h.3) (number_of (is_dollar a.item.body))
  where
    number_of : (is : Bool) → (if is then Some a.number else None)
        ≡ option_map (λ (a : Numbered). a.number) (if is then Some a else None)
    number_of true = refl
    number_of false = refl

-- what closes math by the first `$` of its brace context, where there is a second `$` and where there is none
abbrev pub close_by : (display : Bool) → (opener_end : ℕ) → Option (Dollar Numbered) → Option (MathClose Numbered)
close_by true opener_end found = display_close item_in found
close_by false opener_end found = inline_close item_in opener_end found

-- the items that are searched for what closes an opener
pub record Searched (nodes : List (Node Item)) (o : MathOpener) (after : List Numbered) : Type 0 where
  pub items : List Numbered
  pub is : searched_for_math item_in after ≡ items
  pub low : ℕ
  pub leads : LeadsThrough nodes low (searched_from nodes o) items
  pub above : IfSome o.second (λ second. second < low)
  pub marks : marks_in Math after ≡ marks_at nodes o.second ++ marks_in Math items
  pub closes : math_close item_in o.end o.context after
      ≡ close_by (is_some o.second) o.end (first_dollar item_in o.context items)

-- by what comes next
close_by_next : (opener_end context : ℕ) (after : List Numbered) (next : Option Numbered) → dollar_next item_in after
    ≡ next
    → math_close item_in opener_end context after ≡ elim next [
      | Some second ↦ display_close item_in (first_dollar item_in context (drop 1 after))
      | None ↦ inline_close item_in opener_end (first_dollar item_in context after)
    ]
close_by_next opener_end context after next e = ap (λ (o : Option Numbered). elim o [
  | Some second ↦ display_close item_in (first_dollar item_in context (drop 1 after))
  | None ↦ inline_close item_in opener_end (first_dollar item_in context after)
]) e

searched_inline : (nodes : List (Node Item)) (o : MathOpener) (low : ℕ) (after : List Numbered) →
    LeadsThrough nodes low (sibling_of nodes o.number) after
    → dollar_next item_in after ≡ None → o.second ≡ None → Searched nodes o after
searched_inline nodes o low after h none e = record {
  items = after;
  is = rw none refl;
  low = low;
  leads = rw e h;
  above = rw e tt;
  marks = rw e refl;
  closes = close_by_next o.end o.context after None none ∙ rw e refl;
}

searched_display : (nodes : List (Node Item)) (o : MathOpener) (low second : ℕ) (after : List Numbered) →
    LeadsThrough nodes low (sibling_of nodes o.number) after
    → o.second ≡ Some second → o.second ≡ option_map (λ a. a.number) (dollar_next item_in after) →
    Searched nodes o after
searched_display nodes o low second [] h e is = cc
searched_display nodes o low second (a ∷ after) h e is = cases (is_dollar a.item.body) refl
  where
    cases : (dollar : Bool) → is_dollar a.item.body ≡ dollar → Searched nodes o (a ∷ after)
    cases false d = let none = rw d at is in cc
    cases true d =
        let same : second ≡ a.number = let one = rw d at is in cc in
        record {
          items = after;
          is = rw d refl;
          low = suc a.number;
          leads = rw (e, same) h.4;
          above = rw e (omega arith);
          marks = rw (e, same) (ap (λ (item : Item). option_to_list
              (mark_at Math a.number item.body) ++ marks_in Math after) (sym h.3));
          closes = close_by_next o.end o.context (a ∷ after) (Some a) (rw d refl) ∙ rw e refl;
        }

pub searched : (nodes : List (Node Item)) (o : MathOpener) (low : ℕ) (after : List Numbered) → OpenerIs nodes o
    → LeadsThrough nodes low (sibling_of nodes o.number) after → Searched nodes o after
searched nodes o low after is h = cases o.second refl
  where
    next : o.second ≡ option_map (λ (a : Numbered). a.number) (dollar_next item_in after)
    next = is.second ∙ dollar_is_at nodes low (sibling_of nodes o.number) after h

    none_next : (found : Option Numbered) → None ≡ option_map (λ (a : Numbered). a.number) found → found ≡ None
    none_next None e = refl
    none_next (Some a) e = cc

    cases : (second : Option ℕ) → o.second ≡ second → Searched nodes o after
    cases None e = searched_inline nodes o low after h (none_next (dollar_next item_in after) (sym e ∙ next)) e
    cases (Some second) e = searched_display nodes o low second after h e next

-- a `$` that was found in a list, in the arena
pub record StandsAt (nodes : List (Node Item)) (d : Dollar Numbered) : Type 0 where
  pub within : d.dollar.number < length nodes
  pub item : item_at nodes d.dollar.number ≡ d.dollar.item
  pub leads : LeadsThrough nodes (suc d.dollar.number) (sibling_of nodes d.dollar.number) d.after

dollar_stands : (nodes : List (Node Item)) (context low : ℕ) (link : Option ℕ) (chain : List Numbered)
    (d : Dollar Numbered)
    → LeadsThrough nodes low link chain → first_dollar item_in context chain ≡ Some d → StandsAt nodes d
dollar_stands nodes context low link [] d h e = cc
dollar_stands nodes context low link (a ∷ after) d h e =
    cases (is_dollar_of context a.item.body) refl
    (dollar_stands nodes context (suc a.number) (sibling_of nodes a.number) after d h.4)
  where
    cases : (is : Bool) → is_dollar_of context a.item.body ≡ is →
        (first_dollar item_in context after ≡ Some d → StandsAt nodes d) → StandsAt nodes d
    cases true is later =
        let here : Dollar Numbered = record { dollar = a; after = after } in
        let same : here ≡ d = let found = rw is at e in cc in
        subst (StandsAt nodes) same (record { within = h.2; item = h.3; leads = h.4 })
    cases false is later = later (rw is at e)

inline_at : (nodes : List (Node Item)) (opener_end : ℕ) (d : Dollar Numbered) → StandsAt nodes d
    → option_map found_math (inline_close item_in opener_end (Some d)) ≡ inline_closed nodes opener_end d.dollar.number
inline_at nodes opener_end d s = rw s.item
    (found (can_close d.dollar.item.body && not (opener_end == d.dollar.item.start)))
  where
    found : (closes : Bool) → option_map found_math
        (if closes then Some (record { display = false; closer = d.dollar; last = d.dollar }) else None)
        ≡ (if closes then Some (record { display = false; closer = d.dollar.number; last = d.dollar.number }) else None)
    found true = refl
    found false = refl

display_at : (nodes : List (Node Item)) (d : Dollar Numbered) → StandsAt nodes d
    → option_map found_math (display_close item_in (Some d)) ≡ display_closed nodes d.dollar.number
display_at nodes d s =
    found (dollar_next item_in d.after)
    ∙ ap (option_map (λ (last : ℕ). record { display = true; closer = d.dollar.number; last = last }))
    (sym (dollar_is_at nodes (suc d.dollar.number) (sibling_of nodes d.dollar.number) d.after s.leads))
  where
    found : (last : Option Numbered) → option_map found_math (math_closed_by d.dollar last)
        ≡ option_map (λ (last : ℕ). record { display = true; closer = d.dollar.number; last = last })
        (option_map (λ (a : Numbered). a.number) last)
    found None = refl
    found (Some a) = refl

close_at_first : (nodes : List (Node Item)) (o : MathOpener) (low : ℕ) (items : List Numbered) (display : Bool) →
    is_some o.second ≡ display → LeadsThrough nodes low (searched_from nodes o) items
    → option_map found_math (close_by display o.end (first_dollar item_in o.context items))
    ≡ closed_by_first nodes o (option_map (λ d. d.dollar.number) (first_dollar item_in o.context items))
close_at_first nodes o low items true e h = cases (first_dollar item_in o.context items) refl
  where
    cases : (found : Option (Dollar Numbered)) → first_dollar item_in o.context items ≡ found
        → option_map found_math (display_close item_in found)
        ≡ closed_by_first nodes o (option_map (λ (d : Dollar Numbered). d.dollar.number) found)
    cases None is = refl
    cases (Some d) is = rw e (display_at nodes d
        (dollar_stands nodes o.context low (searched_from nodes o) items d h is))
close_at_first nodes o low items false e h = cases (first_dollar item_in o.context items) refl
  where
    cases : (found : Option (Dollar Numbered)) → first_dollar item_in o.context items ≡ found
        → option_map found_math (inline_close item_in o.end found)
        ≡ closed_by_first nodes o (option_map (λ (d : Dollar Numbered). d.dollar.number) found)
    cases None is = refl
    cases (Some d) is = rw e (inline_at nodes o.end d
        (dollar_stands nodes o.context low (searched_from nodes o) items d h is))

pub closes_by : (nodes : List (Node Item)) (o : MathOpener) (after : List Numbered) (s : Searched nodes o after)
    (first : Option ℕ)
    → option_map (λ d. d.dollar.number) (first_dollar item_in o.context s.items) ≡ first
    → option_map found_math (math_close item_in o.end o.context after) ≡ closed_by_first nodes o first
closes_by nodes o after s first e =
    ap (option_map found_math) s.closes ∙ (close_at_first nodes o s.low s.items (is_some o.second) refl s.leads
    ∙ ap (closed_by_first nodes o) e)

-- what was found by numbers was found
pub found_or_not : (close : Option (MathClose Numbered)) (found : Option FoundMath) → option_map found_math close
    ≡ found → is_some close ≡ is_some found
found_or_not None found e = ap is_some e
found_or_not (Some m) found e = ap is_some e

-- at most as many items are examined as there are
pub looked_within : (context : ℕ) (chain : List Numbered) → looked_for_dollar item_in context chain ≤ length chain
looked_within context [] = omega arith
looked_within context (a ∷ after) = cases (is_dollar_of context a.item.body) (looked_within context after)
  where
    cases : (is : Bool) → looked_for_dollar item_in context after ≤ length after →
        1 + (if is then 0 else looked_for_dollar item_in context after) ≤ suc (length after)
    cases true later = omega arith
    cases false later = omega arith

-- an opener as a mark
pub opener_mark : (ix : ℕ) (b : ItemBody) → can_open b ≡ true → mark_at Math ix b
    ≡ Some (record { number = ix; key = context_of b; wanted = context_of b })
opener_mark ix (body.MaybeMath opens closes context) h = refl
opener_mark ix other h = cc

pub dollar_mark : (ix : ℕ) (b : ItemBody) → is_dollar b ≡ true → mark_at Math ix b
    ≡ Some (record { number = ix; key = context_of b; wanted = context_of b })
dollar_mark ix (body.MaybeMath opens closes context) h = refl
dollar_mark ix other h = cc

-- what an opener names is there
pub second_within : (nodes : List (Node Item)) (o : MathOpener) → HasChain nodes (Some o.number) →
    opener_at nodes o.number ≡ Some o → IfSome o.second (λ ix. ix < length nodes)
second_within nodes o h is =
    let P : Option ℕ → Type 0 = λ second. IfSome second (λ ix. ix < length nodes) in
    subst P (sym (opener_is nodes o is).second) (stands (sibling_of nodes o.number) (chain_at nodes o.number h).later)
  where
    stands : (link : Option ℕ) → HasChain nodes link → IfSome (dollar_at nodes link) (λ ix. ix < length nodes)
    stands None h = tt
    stands (Some ix) h = cases (is_dollar (item_at nodes ix).body)
      where
        cases : (is : Bool) → IfSome (if is then Some ix else None) (λ ix. ix < length nodes)
        cases true = (chain_at nodes ix h).within
        cases false = tt

pub searched_chain : (nodes : List (Node Item)) (o : MathOpener) → HasChain nodes (Some o.number) →
    opener_at nodes o.number ≡ Some o → HasChain nodes (searched_from nodes o)
searched_chain nodes o h is =
    let later = (chain_at nodes o.number h).later in
    let s = searched nodes o later.low later.chain (opener_is nodes o is) later.leads in
    record { low = s.low; chain = s.items; leads = s.leads }

pub first_within : (nodes : List (Node Item)) (context low : ℕ) (link : Option ℕ) (chain : List Numbered)
    (first : Option ℕ) → LeadsThrough nodes low link chain
    → option_map (λ d. d.dollar.number) (first_dollar item_in context chain) ≡ first →
    IfSome first (λ ix. ix < length nodes)
first_within nodes context low link chain first h e =
    let P : Option ℕ → Type 0 = λ first. IfSome first (λ ix. ix < length nodes) in
    subst P e (cases (first_dollar item_in context chain) refl)
  where
    cases : (found : Option (Dollar Numbered)) → first_dollar item_in context chain ≡ found →
        IfSome (option_map (λ (d : Dollar Numbered). d.dollar.number) found) (λ ix. ix < length nodes)
    cases None is = tt
    cases (Some d) is = (dollar_stands nodes context low link chain d h is).within

-- what closes an opener consists of nodes of the arena
pub record HasNext (nodes : List (Node Item)) (ix : ℕ) : Type 0 where
  pub within : ix < length nodes
  pub later : HasChain nodes (sibling_of nodes ix)

first_stands : (nodes : List (Node Item)) (context low : ℕ) (link : Option ℕ) (chain : List Numbered) →
    LeadsThrough nodes low link chain
    → IfSome (option_map (λ d. d.dollar.number) (first_dollar item_in context chain)) (HasNext nodes)
first_stands nodes context low link chain h = cases (first_dollar item_in context chain) refl
  where
    cases : (found : Option (Dollar Numbered)) → first_dollar item_in context chain ≡ found
        → IfSome (option_map (λ (d : Dollar Numbered). d.dollar.number) found) (HasNext nodes)
    cases None is = tt
    cases (Some d) is =
        let s = dollar_stands nodes context low link chain d h is in
        record { within = s.within; later = record { low = suc d.dollar.number; chain = d.after; leads = s.leads } }

last_stands : (nodes : List (Node Item)) (ix : ℕ) (link : Option ℕ) → ix < length nodes → HasChain nodes link
    → IfSome (option_map (λ (last : ℕ). record { display = true; closer = ix; last = last }) (dollar_at nodes link))
    (StandsIn nodes)
last_stands nodes ix None h chain = tt
last_stands nodes ix (Some last) h chain = cases (is_dollar (item_at nodes last).body)
  where
    cases : (is : Bool) → IfSome (option_map (λ (last : ℕ). record { display = true; closer = ix; last = last })
        (if is then Some last else None)) (StandsIn nodes)
    cases true = record { closer = h; last = (chain_at nodes last chain).within }
    cases false = tt

closed_stands : (nodes : List (Node Item)) (o : MathOpener) (first : Option ℕ) → IfSome first (HasNext nodes) →
    IfSome (closed_by_first nodes o first) (StandsIn nodes)
closed_stands nodes o None h = tt
closed_stands nodes o (Some ix) h = cases (is_some o.second)
  where
    inline : (closes : Bool) → IfSome (if closes then Some
        (record { display = false; closer = ix; last = ix }) else None) (StandsIn nodes)
    inline true = record { closer = h.within; last = h.within }
    inline false = tt

    cases : (display : Bool) → IfSome (if display then display_closed nodes ix else inline_closed nodes o.end ix)
        (StandsIn nodes)
    cases true = last_stands nodes ix (sibling_of nodes ix) h.within h.later
    cases false = inline (can_close (item_at nodes ix).body && not (o.end == (item_at nodes ix).start))

pub math_stands : (nodes : List (Node Item)) (o : MathOpener) (low : ℕ) (after : List Numbered) → OpenerIs nodes o
    → LeadsThrough nodes low (sibling_of nodes o.number) after
    → IfSome (option_map found_math (math_close item_in o.end o.context after)) (StandsIn nodes)
math_stands nodes o low after is h =
    let s = searched nodes o low after is h in
    let P : Option FoundMath → Type 0 = λ found. IfSome found (StandsIn nodes) in
    subst P (sym (closes_by nodes o after s _ refl))
    (closed_stands nodes o _ (first_stands nodes o.context s.low (searched_from nodes o) s.items s.leads))

-- A walk along a chain, step by step.
use Rattle.std.proofs.Common.{◌≡◌, ℕ, suc, ◌+◌, ◌-◌, ◌<◌, List, [], ◌∷◌, ◌++◌, Option, Some, None, true, false, length}
use Rattle.std.proofs.Common.{refl, arith, subst, sym, ◌∙◌, ap, append_assoc, append-nil, length-append}
use Rattle.std.specs.Prelude.{option_to_list}
use Rattle.markdown_base.specs.declared.item.Item.{Item}
use Rattle.markdown_base.specs.declared.node.Node.{Node}
use Rattle.markdown_base.specs.Arena.{sibling_of}
use Rattle.markdown_base.specs.BlockTree.{Numbered, item_at, numbered}
use Rattle.markdown_spans.specs.ChainInArena.{LeadsThrough, HasChain, numbers_ahead}
use Rattle.markdown_spans.specs.ChainWalk.{FirstIsSought, LooksAlong, NoneSought, Passes, WalksTo, is_sought, one_of}
use Rattle.markdown_spans.specs.SpanClosers.{RisesBy}
use Rattle.markdown_spans.specs.SpanMarks.{is_wanted, mark_at, marks_in}
use Rattle.markdown_spans.specs.declared.span_marks.SpanMark.{SpanMark}
use Rattle.markdown_spans.specs.declared.span_text.SpanKind.{SpanKind}
use Rattle.markdown_document.proofs.CountLemmas.{risen_twice}

-- a chain that begins at a node
pub record ChainAt (nodes : List (Node Item)) (ix : ℕ) : Type 0 where
  pub within : ix < length nodes
  pub later : HasChain nodes (sibling_of nodes ix)
  pub falls : numbers_ahead (length nodes) (sibling_of nodes ix) < numbers_ahead (length nodes) (Some ix)

ahead_falls : (nodes : List (Node Item)) (ix : ℕ) (next : Option ℕ) (after : List Numbered) → ix < length nodes
    → LeadsThrough nodes (suc ix) next after → numbers_ahead (length nodes) next < length nodes - ix
ahead_falls nodes ix next [] l h = rw h (omega arith)
ahead_falls nodes ix next (a ∷ after) l h = rw h.0 (omega (arith, h.1, h.2))

chain_at_of : (nodes : List (Node Item)) (ix low : ℕ) (chain : List Numbered) →
    LeadsThrough nodes low (Some ix) chain → ChainAt nodes ix
chain_at_of nodes ix low [] h = cc
chain_at_of nodes ix low (a ∷ after) h =
    let e : a.number ≡ ix = cc (h.0) in
    rw (← e) (record {
      within = h.2;
      later = record { low = suc a.number; chain = after; leads = h.4 };
      falls = ahead_falls nodes a.number (sibling_of nodes a.number) after h.2 h.4;
    })

pub chain_at : (nodes : List (Node Item)) (ix : ℕ) → HasChain nodes (Some ix) → ChainAt nodes ix
chain_at nodes ix h = chain_at_of nodes ix h.low h.chain h.leads

-- the items from a node on, and after it
pub record BeginsAt (nodes : List (Node Item)) (ix : ℕ) (chain : List Numbered) : Type 0 where
  pub after : List Numbered
  pub parts : chain ≡ numbered nodes ix ∷ after
  pub leads : LeadsThrough nodes (suc ix) (sibling_of nodes ix) after

pub begins_at : (nodes : List (Node Item)) (ix low : ℕ) (chain : List Numbered) →
    LeadsThrough nodes low (Some ix) chain → BeginsAt nodes ix chain
begins_at nodes ix low [] h = cc
begins_at nodes ix low (a ∷ after) h =
    let e : a.number ≡ ix = cc (h.0) in
    let P : ℕ → Type 0 = λ n. BeginsAt nodes n (a ∷ after) in
    let here : BeginsAt nodes a.number (a ∷ after) = record {
      after = after;
      parts = ap (λ (item : Item). let b : Numbered = record { number = a.number; item = item } in b ∷ after) (sym h.3);
      leads = h.4;
    } in
    subst P e here

-- the marks of two lists, one after the other
pub marks_in-append : (kind : SpanKind) (xs ys : List Numbered) → marks_in kind (xs ++ ys)
    ≡ marks_in kind xs ++ marks_in kind ys
marks_in-append kind [] ys = refl
marks_in-append kind (a ∷ xs) ys =
    ap (λ later. option_to_list (mark_at kind a.number a.item.body) ++ later) (marks_in-append kind xs ys)
    ∙ sym (append_assoc (option_to_list (mark_at kind a.number a.item.body)) (marks_in kind xs) (marks_in kind ys))

marks_in-one : (kind : SpanKind) (a : Numbered) → marks_in kind (a ∷ [])
    ≡ option_to_list (mark_at kind a.number a.item.body)
marks_in-one kind a = append-nil (option_to_list (mark_at kind a.number a.item.body))

-- one more that is not sought
none_sought-push : (kind : SpanKind) (wanted : Option ℕ) (passed : List Numbered) (a : Numbered) →
    NoneSought kind wanted passed
    → is_sought kind wanted a ≡ false → NoneSought kind wanted (passed ++ a ∷ [])
none_sought-push kind wanted [] a h e = (e, tt)
none_sought-push kind wanted (b ∷ passed) a h e = (h.0, none_sought-push kind wanted passed a h.1 e)

pub rises_on : (old n mid k new : ℕ) → RisesBy n old mid → RisesBy k mid new → RisesBy (n + k) old new
rises_on old n mid k new p q = rw (q, p) (risen_twice n k old)

pub walk_begins : (kind : SpanKind) (wanted : Option ℕ) (nodes : List (Node Item)) (chain : List Numbered)
    (first : Option ℕ)
    (noted : List SpanMark) (visits low : ℕ) → LeadsThrough nodes low first chain
    → Passes kind wanted nodes chain first noted noted visits visits
walk_begins kind wanted nodes chain first noted visits low h = record {
  passed = [];
  rest = chain;
  parts = refl;
  none = tt;
  notes = sym (append-nil noted);
  counts = refl;
  low = low;
  leads = h;
}

pub walk_goes_on : (kind : SpanKind) (wanted : Option ℕ) (nodes : List (Node Item)) (chain : List Numbered) (ix : ℕ)
    (old noted new : List SpanMark) (visits at_ix later : ℕ) →
    Passes kind wanted nodes chain (Some ix) old noted visits at_ix
    → is_wanted wanted (mark_at kind ix (item_at nodes ix).body) ≡ false
    → new ≡ noted ++ option_to_list (mark_at kind ix (item_at nodes ix).body) → RisesBy 1 at_ix later
    → Passes kind wanted nodes chain (sibling_of nodes ix) old new visits later
walk_goes_on kind wanted nodes chain ix old noted new visits at_ix later p miss is one =
    let b = begins_at nodes ix p.low p.rest p.leads in
    let here : Numbered = numbered nodes ix in
    record {
      passed = p.passed ++ here ∷ [];
      rest = b.after;
      parts = p.parts ∙ (ap (λ rest. p.passed ++ rest) b.parts ∙ sym (append_assoc p.passed (here ∷ []) b.after));
      none = none_sought-push kind wanted p.passed here p.none miss;
      notes = is ∙ (ap (λ noted. noted ++ option_to_list (mark_at kind ix (item_at nodes ix).body)) p.notes
          ∙ (append_assoc old (marks_in kind p.passed) (option_to_list (mark_at kind ix (item_at nodes ix).body))
          ∙ ap (λ marks. old ++ marks) (sym
          (marks_in-append kind p.passed (here ∷ [])
          ∙ ap (λ one. marks_in kind p.passed ++ one) (marks_in-one kind here)))));
      counts = rw (length-append p.passed (here ∷ [])) (rises_on visits (length p.passed) at_ix 1 later p.counts one);
      low = suc ix;
      leads = b.leads;
    }

first_sought : (kind : SpanKind) (wanted : Option ℕ) (nodes : List (Node Item)) (ix low : ℕ) (rest : List Numbered)
    → LeadsThrough nodes low (Some ix) rest → is_wanted wanted (mark_at kind ix (item_at nodes ix).body) ≡ true →
    FirstIsSought kind wanted rest
first_sought kind wanted nodes ix low [] h hit = tt
first_sought kind wanted nodes ix low (a ∷ after) h hit =
    let e : a.number ≡ ix = cc (h.0) in
    rw (← h.3, e) hit

one_there : (nodes : List (Node Item)) (ix low : ℕ) (rest : List Numbered) → LeadsThrough nodes low (Some ix) rest →
    one_of rest ≡ 1
one_there nodes ix low [] h = cc
one_there nodes ix low (a ∷ after) h = refl

pub walk_finds : (kind : SpanKind) (wanted : Option ℕ) (nodes : List (Node Item)) (chain : List Numbered) (ix : ℕ)
    (old noted : List SpanMark) (visits at_ix later : ℕ) →
    Passes kind wanted nodes chain (Some ix) old noted visits at_ix
    → is_wanted wanted (mark_at kind ix (item_at nodes ix).body) ≡ true → RisesBy 1 at_ix later
    → WalksTo kind wanted nodes chain (Some ix) old noted visits later
walk_finds kind wanted nodes chain ix old noted visits at_ix later p hit one = record {
  before = at_ix;
  passes = p;
  stops = first_sought kind wanted nodes ix p.low p.rest p.leads hit;
  counts = rw (one_there nodes ix p.low p.rest p.leads) one;
}

none_there : (kind : SpanKind) (wanted : Option ℕ) (nodes : List (Node Item)) (low : ℕ) (rest : List Numbered) (v : ℕ)
    → LeadsThrough nodes low None rest → FirstIsSought kind wanted rest × RisesBy (one_of rest) v v
none_there kind wanted nodes low [] v h = (tt, refl)
none_there kind wanted nodes low (a ∷ after) v h = cc (h.0)

pub walk_ends : (kind : SpanKind) (wanted : Option ℕ) (nodes : List (Node Item)) (chain : List Numbered)
    (old noted : List SpanMark) (visits at_end : ℕ) →
    Passes kind wanted nodes chain None old noted visits at_end
    → WalksTo kind wanted nodes chain None old noted visits at_end
walk_ends kind wanted nodes chain old noted visits at_end p =
    let last = none_there kind wanted nodes p.low p.rest at_end p.leads in
    record { before = at_end; passes = p; stops = last.0; counts = last.1 }

-- memory was refused for a mark that is not sought
pub walk_breaks : (kind : SpanKind) (wanted : Option ℕ) (nodes : List (Node Item)) (chain : List Numbered) (ix : ℕ)
    (old noted : List SpanMark) (visits at_ix later : ℕ) →
    Passes kind wanted nodes chain (Some ix) old noted visits at_ix
    → is_wanted wanted (mark_at kind ix (item_at nodes ix).body) ≡ false → RisesBy 1 at_ix later
    → LooksAlong kind wanted chain visits later
walk_breaks kind wanted nodes chain ix old noted visits at_ix later p miss one =
    let on = walk_goes_on kind wanted nodes chain ix old noted
    (noted ++ option_to_list (mark_at kind ix (item_at nodes ix).body)) visits at_ix later p miss refl one in
    record { passed = on.passed; rest = on.rest; parts = on.parts; none = on.none; counts = on.counts }

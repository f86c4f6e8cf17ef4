-- A footnote reference, put in the place of its opener, or after a Text for the `!` of an opener `![`.
use Rattle.std.proofs.Common.{◌≡◌, ℕ, ◌+◌, ◌-◌, ◌<◌, ◌≤◌, Bool, true, false, List, [], ◌∷◌, length, Some, None, refl}
use Rattle.std.proofs.Common.{sym, ap, ◌∙◌, subst, arith}
use Rattle.std.specs.Prelude.{IsCharBoundary, codes, drop, slice_range}
use Rattle.std.proofs.lemmas.List.{length-take, length-drop}
use Rattle.markdown_base.specs.BlockTree.{item_at}
use Rattle.markdown_base.specs.CowText.{text_of}
use Rattle.markdown_base.specs.Event.{footnote_reference}
use Rattle.markdown_base.specs.Forest.{nil, node}
use Rattle.markdown_base.specs.declared.cow_str.CowStr.{CowStr}
use Rattle.markdown_base.specs.declared.index.CowIndex.{CowIndex}
use Rattle.markdown_base.specs.declared.item.Item.{Item}
use Rattle.markdown_base.specs.declared.item.ItemBody.TheVariants as body
use Rattle.markdown_base.specs.declared.node.Node.{Node}
use Rattle.markdown_brackets.specs.BracketDecision.{BracketContext, Becomes, Closing, a_footnote, text_from}
use Rattle.markdown_brackets.specs.ClosingBracket.{footnote_from, footnote_onto}
use Rattle.markdown_brackets.specs.DecisionView.{IsBecome, opener_of}
use Rattle.markdown_brackets.specs.LeftList.{Entry, Split, before_footnote, all_done}
use Rattle.markdown_brackets.specs.declared.closing_bracket.ClosedBracket.TheVariants.{Footnote}
use Rattle.markdown_brackets.specs.declared.openers.Opener.{Opener}
use Rattle.markdown_document.specs.ChainRest.{start_of, end_of}
use Rattle.markdown_document.specs.Document.{TreeNode, Plain, tree_node_of, leaf, made}
use Rattle.markdown_document.specs.Tables.{Tables, text_at}
use Rattle.markdown_document.specs.NamedEntries.{Named, number_of, size_for, some_text, times_named}
use Rattle.markdown_resolver.specs.declared.continuation.Continuation.{Continuation}
use Rattle.markdown_resolver.specs.ClosedOver.{CanClose, CanPutMark, CanPutOver, PutsOver, after_mark, in_place_of}
use Rattle.markdown_resolver.specs.Closes.{ClosesAt, PutsClosed}
use Rattle.markdown_resolver.specs.Rewritten.{CanPut}
use Rattle.markdown_resolver.proofs.CodeSpanLemmas.{can_put_text, text_item_over, PutsText}
use Rattle.markdown_resolver.proofs.LiteralTextLemmas.{names_nothing}
use Rattle.markdown_resolver.proofs.PutFoundLemmas.{same_before}
use Rattle.markdown_resolver.proofs.CloseLemmas.{OpenerAt, can_close, opener_at, opener_before, puts_closed}
use Rattle.markdown_resolver.proofs.SplitLemmas.{inside_numbers, opens_numbered}
use Rattle.markdown_resolver.proofs.StandsToLemmas.{footnote_stands}

-- what becomes a footnote reference
pub record BecomesFootnote (becomes : Becomes ℕ) (opener : Opener) (name : List ℕ) : Type 0 where
  pub split : Split ℕ
  pub is : becomes ≡ a_footnote split name
  pub opener_is : opener ≡ opener_of split

pub becomes_footnote : (w : BracketContext) (becomes : Becomes ℕ) (opener : Opener) (found : CowStr)
    → IsBecome w becomes (Footnote opener found) → BecomesFootnote becomes opener (text_of found)
becomes_footnote w (a_footnote o name) opener found h = record { split = o; is = rw h.1 refl; opener_is = h.0 }
becomes_footnote w other opener found h = absurd h

-- a footnote reference of an entry, over bytes
abbrev pub footnote_over : CowIndex → (start end : ℕ) → Item
footnote_over number start end = record { start = start; end = end; body = body.FootnoteReference number }

-- it can be put in place where it lies in the text
pub can_put_footnote : (source : List ℕ) (tables tables' : Tables) (number : CowIndex) (name : List ℕ) (start end : ℕ)
    → PutsText tables tables' number name → start ≤ end → IsCharBoundary source start → IsCharBoundary source end
    → CanPut source tables tables' (footnote_over number start end)
can_put_footnote source tables tables' number name start end put ordered from to = record {
  closed = refl;
  no_block = refl;
  lies = record { ordered = ordered; start = from; end = to };
  named = record { text = put.within; link = tt; alignments = tt; attributes = tt };
  slices = tt;
  new_names = by_text;
}
  where
    by_text : (n : Named) → number_of n < size_for tables n → times_named n (body.FootnoteReference number) ≡ 0
    by_text (some_text n) h = same_before n number.0 (omega (arith, h, put.number))
    by_text other h = refl

-- how they read
footnote_label : (source : List ℕ) (tables : Tables) (number : CowIndex) (name : List ℕ) (start start' end end' : ℕ)
    → start ≡ start' → end ≡ end' → text_at tables.cows number.0 ≡ name
    → tree_node_of source tables (footnote_over number start end) ≡ record {
      note = tt;
      part = record {
        shape = leaf (footnote_reference name) (made ∷ []);
        range = record { start = start'; end = end' };
        block = None;
      };
    }
footnote_label source tables number name start start' end end' e e' found = rw (e, e', found) refl

pub text_node : (source : List ℕ) (tables : Tables) (w : BracketContext) (a : TreeNode ℕ) (start start' end end' : ℕ)
    → start
    ≡ start' → end ≡ end' → w.setting.text ≡ source
    → tree_node_of source tables (text_item_over start end) ≡ record {
      note = tt;
      part =
          (text_from w a start' end').part;
    }
text_node source tables w a start start' end end' e e' is = rw (e, e', is) refl

-- what is put, of an opener `[` and of an opener `![`
one_onto : (w : BracketContext) (c : Closing ℕ) (is_image : Bool) (opener : TreeNode ℕ) (name : List ℕ)
    (left : List (Entry ℕ)) → is_image ≡ false → footnote_onto w c is_image opener name left
    ≡ all_done (node (footnote_from opener name (start_of opener) (end_of c.node)) nil nil) left
one_onto w c true opener name left e = cc e
one_onto w c false opener name left e = refl

two_onto : (w : BracketContext) (c : Closing ℕ) (is_image : Bool) (opener : TreeNode ℕ) (name : List ℕ)
    (left : List (Entry ℕ)) → is_image ≡ true → footnote_onto w c is_image opener name left
    ≡ all_done (node (text_from w opener (start_of opener) (start_of opener + 1)) nil
    (node (footnote_from c.node name (start_of opener + 1) (end_of c.node)) nil nil)) left
two_onto w c true opener name left e = refl
two_onto w c false opener name left e = cc e

-- a footnote reference can be put in place from its opener's start to the `]`, once its name is in its table: in place
-- of an opener `[`, or after a Text for the `!` of an opener `![`
pub record MayRefer (source : List ℕ) (tables tables' : Tables) (nodes : List (Node Item)) (closer : ℕ) (o : Split ℕ)
    (opener : Opener) (number : CowIndex) (name : List ℕ) (start end : ℕ) : Type 0 where
  pub put : PutsText tables tables' number name
  pub starts : start ≡ (item_at nodes opener.node).start
  pub ends : end ≡ (item_at nodes closer).end
  pub ordered : start + 1 ≤ end
  pub close : CanClose source tables nodes opener.node closer (inside_numbers o) end
  pub over : CanPutOver source tables tables' nodes opener.node (footnote_over number start end) end
  pub mark : (mark : Item) → mark ≡ text_item_over start (start + 1)
      → CanPutMark source tables tables' nodes opener.node closer mark (footnote_over number (start + 1) end)

module _ {source : List ℕ} {tables : Tables} {old : List (Node Item)} {first closer : ℕ} {left : List (Entry ℕ)}
    {w : BracketContext} {c : Closing ℕ} {o : Split ℕ} {opener : Opener} {name : List ℕ}
    (closes : ClosesAt source tables old first closer left w c (a_footnote o name)) (is : opener ≡ opener_of o) where
  at_opener : OpenerAt source tables old first closer o
  at_opener = opener_at closes.stands closes.splits

  start_is : start_of o.opener ≡ (item_at old o.opener.note).start
  start_is = ap (λ (a : TreeNode ℕ). start_of a) at_opener.around.node_is

  end_is : end_of c.node ≡ (item_at old closer).end
  end_is = ap (λ (a : TreeNode ℕ). end_of a) closes.node_is

  -- a `]` is one byte
  closer_byte : (item_at old closer).start < (item_at old closer).end
  closer_byte =
      let placed = (opens_numbered at_opener.ready_closer).placed in
      let item = item_at old closer in
      let bytes : slice_range source item.start item.end ≡ codes "]" =
      rw closes.closes.1 at placed.keeps.markup_is_there in
      let size : length (slice_range source item.start item.end) ≡ 1 = ap length bytes in
      omega (arith, size, length-take (item.end - item.start) (drop item.start source), length-drop item.start source)

  pub may_refer : {tables' : Tables} {number : CowIndex} {begin last : Item} → PutsText tables tables' number name
      → begin ≡ item_at old opener.node → last ≡ item_at old closer
      → MayRefer source tables tables' old closer o opener number name begin.start last.end
  may_refer {tables'} {number} {begin} {last} put begins lasts =
      let from = (opens_numbered at_opener.ready).placed.lies in
      let to = (opens_numbered at_opener.ready_closer).placed.lies in
      let before = opener_before at_opener in
      let ordered = from.ordered in
      let byte = closer_byte in
      let start = (item_at old o.opener.note).start in
      let end = (item_at old closer).end in
      rw (begins, lasts, is) (record {
        put = put;
        starts = refl;
        ends = refl;
        ordered = omega arith;
        close = subst (CanClose source tables old o.opener.note closer (inside_numbers o)) end_is
            (can_close closes at_opener closes.ends);
        over = record {
          puts = can_put_footnote source tables tables' number name start end put (omega arith) from.start to.end;
          starts = refl;
          ends = omega arith;
        };
        mark = λ mark e. rw e (record {
          puts_mark = can_put_text source tables tables' start (start + 1)
              (omega arith) from.start at_opener.opener.mark;
          puts = can_put_footnote source tables tables' number name (start + 1) end put
              (omega arith) at_opener.opener.mark to.end;
          names_nothing = names_nothing;
          starts = refl;
          in_order = omega arith;
          ends = refl;
          closer_open = rw closes.closes.1 refl;
        });
      })

  -- so it is in the left list
  pub reference_closed : {tables' : Tables} {number : CowIndex} {start end : ℕ} {new : List
      (Node Item)} {rest : Continuation}
      → opener.is_image ≡ false → MayRefer source tables tables' old closer o opener number name start end
      → PutsOver source opener.node closer (inside_numbers o)
      (in_place_of source tables' (footnote_over number start end)) end (opener.node ∷ []) rest old new tables tables'
      → PutsClosed source first closer rest left w c (a_footnote o name) old new tables tables'
  reference_closed {tables'} {number} {start} {end} {new} {rest} plain r over =
      let from = (item_at old o.opener.note).start in
      let to = (item_at old closer).end in
      let mark : o.state.is_image ≡ false = sym (ap (λ (x : Opener). x.is_image) is) ∙ plain in
      puts_closed (node (footnote_from o.opener name (start_of o.opener) (end_of c.node)) nil nil) closes at_opener
      (rw (r.starts, r.ends, is) at over)
      (footnote_stands source tables old first (Some o.opener.note) o.before at_opener.stands) (record {
        left_is = λ p e. one_onto w c o.state.is_image o.opener name (before_footnote o.before) mark;
        goes = λ p. ap Some end_is;
      }) (ap (λ (a : Plain). node a nil nil) (footnote_label source tables' number name from (start_of o.opener) to
      (end_of c.node) (sym start_is) (sym end_is) r.put.found)) (refl, refl, tt, tt) (λ a i. refl)

  pub image_reference_closed : {tables' : Tables} {number : CowIndex} {start end : ℕ} {mark : Item}
      {new : List (Node Item)} {rest : Continuation}
      → opener.is_image ≡ true → MayRefer source tables tables' old closer o opener number name start end
      → mark ≡ text_item_over start (start + 1) → PutsOver source opener.node closer (inside_numbers o)
      (after_mark source tables' mark (footnote_over number (start + 1) end)) end (opener.node ∷ closer ∷ []) rest old
      new tables tables' → PutsClosed source first closer rest left w c (a_footnote o name) old new tables tables'
  image_reference_closed {tables'} {number} {start} {end} {mark} {new} {rest} image r e over =
      let from = (item_at old o.opener.note).start in
      let to = (item_at old closer).end in
      let opens = start_of o.opener in
      let next : from + 1 ≡ opens + 1 = ap (λ (n : ℕ). n + 1) (sym start_is) in
      let is_image : o.state.is_image ≡ true = sym (ap (λ (x : Opener). x.is_image) is) ∙ image in
      let reads : node (tree_node_of source tables' (text_item_over from (from + 1))) nil
      (node (tree_node_of source tables' (footnote_over number (from + 1) to)) nil nil)
      ≡ node (record { note = tt; part = (text_from w o.opener opens (opens + 1)).part }) nil
      (node (record { note = tt; part = (footnote_from c.node name (opens + 1) (end_of c.node)).part }) nil nil) =
      rw (
        text_node source tables' w o.opener from opens (from + 1) (opens + 1) (sym start_is) next closes.text_is,
        footnote_label source tables' number name (from + 1) (opens + 1) to (end_of c.node) next (sym end_is)
            r.put.found,
      ) refl in
      puts_closed (node (text_from w o.opener opens (opens + 1)) nil
      (node (footnote_from c.node name (opens + 1) (end_of c.node)) nil nil)) closes at_opener
      (rw (e, r.starts, r.ends, is) at over)
      (footnote_stands source tables old first (Some o.opener.note) o.before at_opener.stands) (record {
        left_is = λ p e. two_onto w c o.state.is_image o.opener name (before_footnote o.before) is_image;
        goes = λ p. ap Some end_is;
      }) reads (refl, refl, tt, (refl, refl, tt, tt)) (λ a i. refl)

-- Each step of the walk, by the chain that begins at the node.
use Rattle.std.proofs.Common.{◌≡◌, ◌++◌, sym, ◌∙◌, ap, true, false}
use Rattle.std.specs.Prelude.{option_to_list}
use Rattle.std.proofs.lemmas.Result.{err_from_is_err_and}
use Rattle.markdown_base.specs.BlockTree.{item_at, no_item}
use Rattle.markdown_base.specs.declared.item.Item.{Item}
use Rattle.markdown_spans.specs.SpanMarks.{is_wanted, mark_at}
use Rattle.markdown_spans.proofs.ChainWalkLemmas.{chain_at, walk_begins, walk_breaks, walk_ends, walk_finds}
use Rattle.markdown_spans.proofs.ChainWalkLemmas.{walk_goes_on}
use Rattle.markdown_spans.proofs.span_marks.walk_to.Goals as goal

pub walk-init : goal.walk-init
walk-init c = record {
  some = c.requires;
  passes = λ low chain h. walk_begins c.args.kind c.args.wanted c.args.tree.now.nodes chain c.args.first
      c.args.noted.now.items c.args.visits.now low h;
}

pub item-requires : goal.item-requires
item-requires c = (chain_at c.args.tree.now.nodes c.in-Some.ix (rw c.in-Some.is at c.walk.invariant.some)).within

pub next-link-requires : goal.next-link-requires
next-link-requires c = (chain_at c.args.tree.now.nodes c.in-Some.ix (rw c.in-Some.is at c.walk.invariant.some)).within

pub walk-smaller : goal.walk-smaller
walk-smaller c =
    let falls = (chain_at c.args.tree.now.nodes c.in-Some.ix (rw c.in-Some.is at c.walk.invariant.some)).falls in
    rw (c.in-Some.is, c.next-link.ensures.value) falls

pub returns-then-is_wanted-clause-walks : goal.returns-then-is_wanted-clause-walks
returns-then-is_wanted-clause-walks c =
    let hit : is_wanted c.args.wanted (mark_at c.args.kind c.in-Some.ix
    (item_at c.args.tree.now.nodes c.in-Some.ix).body) ≡ true =
    ap (λ (item : Item). is_wanted c.args.wanted (mark_at c.args.kind c.in-Some.ix item.body))
    (sym (c.item.ensures no_item))
    ∙ (ap (is_wanted c.args.wanted) (sym c.mark_of-mark.ensures) ∙ (sym c.is_wanted.ensures ∙ c.if-is_wanted.true)) in
    λ low chain h. walk_finds c.args.kind c.args.wanted c.args.tree.now.nodes chain c.in-Some.ix
    c.args.noted.now.items c.walk.noted.items
    c.args.visits.now c.walk.visits c.count_visit.new.visits
    (rw c.in-Some.is at (c.walk.invariant.passes low chain h)) hit c.count_visit.ensures

pub returns-in_err-note-clause-refused : goal.returns-in_err-note-clause-refused
returns-in_err-note-clause-refused c =
    let p = err_from_is_err_and c.from_residual.result c.from_residual.ensures.1 in
    let miss : is_wanted c.args.wanted (mark_at c.args.kind c.in-Some.ix
    (item_at c.args.tree.now.nodes c.in-Some.ix).body) ≡ false =
    ap (λ (item : Item). is_wanted c.args.wanted (mark_at c.args.kind c.in-Some.ix item.body))
    (sym (c.item.ensures no_item))
    ∙ (ap (is_wanted c.args.wanted) (sym c.mark_of-mark.ensures) ∙ (sym c.is_wanted.ensures ∙ c.if-is_wanted.false)) in
    rw p.1 (λ low chain h. walk_breaks c.args.kind c.args.wanted c.args.tree.now.nodes chain c.in-Some.ix
    c.args.noted.now.items c.walk.noted.items
    c.args.visits.now c.walk.visits c.count_visit.new.visits
    (rw c.in-Some.is at (c.walk.invariant.passes low chain h)) miss c.count_visit.ensures)

pub walk-preserved : goal.walk-preserved
walk-preserved c =
    let miss : is_wanted c.args.wanted (mark_at c.args.kind c.in-Some.ix
    (item_at c.args.tree.now.nodes c.in-Some.ix).body) ≡ false =
    ap (λ (item : Item). is_wanted c.args.wanted (mark_at c.args.kind c.in-Some.ix item.body))
    (sym (c.item.ensures no_item))
    ∙ (ap (is_wanted c.args.wanted) (sym c.mark_of-mark.ensures) ∙ (sym c.is_wanted.ensures ∙ c.if-is_wanted.false)) in
    let noted : c.note.new.noted.items ≡ c.walk.noted.items ++ option_to_list
    (mark_at c.args.kind c.in-Some.ix (item_at c.args.tree.now.nodes c.in-Some.ix).body) =
    c.in_ok-note.ensures ∙ (ap (λ mark. c.walk.noted.items ++ option_to_list mark) c.mark_of-mark.ensures
    ∙ ap (λ (item : Item). c.walk.noted.items ++ option_to_list (mark_at c.args.kind c.in-Some.ix item.body))
    (c.item.ensures no_item)) in
    record {
      some = rw c.next-link.ensures.value
          (chain_at c.args.tree.now.nodes c.in-Some.ix (rw c.in-Some.is at c.walk.invariant.some)).later;
      passes = λ low chain h. rw c.next-link.ensures.value
          (walk_goes_on c.args.kind c.args.wanted c.args.tree.now.nodes chain c.in-Some.ix c.args.noted.now.items
          c.walk.noted.items c.note.new.noted.items
          c.args.visits.now c.walk.visits c.count_visit.new.visits
          (rw c.in-Some.is at (c.walk.invariant.passes low chain h)) miss noted c.count_visit.ensures);
    }

pub returns-clause-walks : goal.returns-clause-walks
returns-clause-walks c = λ low chain h. walk_ends c.args.kind c.args.wanted c.args.tree.now.nodes chain
    c.args.noted.now.items c.walk.noted.items
    c.args.visits.now c.walk.visits (rw c.in_default.is at (c.walk.invariant.passes low chain h))

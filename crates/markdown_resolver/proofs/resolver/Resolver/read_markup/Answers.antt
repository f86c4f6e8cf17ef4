-- What the scan finds is what pass one finds from the `<` on, and what is put there reads so.
use Rattle.std.proofs.Common.{ℕ, List, None, sym, ap, ◌∙◌, subst, arith, ◌≡◌, refl}
use Rattle.std.specs.Str.{IsCharBoundary}
use Rattle.std.specs.Option.{option_map}
use Rattle.markdown_base.specs.BlockTree.{no_item}
use Rattle.markdown_base.specs.declared.item.Item.{Item}
use Rattle.markdown_document.specs.Tables.{tables_of}
use Rattle.markdown_spans.specs.MarkupView.{markup_of}
use Rattle.markdown_brackets.proofs.WrittenLemmas.{boundary_before, whole_range}
use Rattle.markdown_resolver.specs.declared.continuation.Continuation.{Continuation}
use Rattle.markdown_resolver.proofs.MarkupItemLemmas.{lies_at}
use Rattle.markdown_resolver.proofs.MarkupLemmas.{if_ok, is_scanned, markup_stands, none_follows, none_past_block}
use Rattle.markdown_resolver.proofs.MarkupLemmas.{reads_found, reads_text, scan_finds}
use Rattle.markdown_resolver.proofs.resolver.Resolver.read_markup.Goals as goal
use Rattle.markdown_resolver.proofs.resolver.Resolver.read_markup.Goals.{then-item-place-via-then-item-place}
use Rattle.markdown_resolver.proofs.resolver.Resolver.read_markup.Goals.{
  then-item-place-via-else-item-place+then-not-starts_at,
}
use Rattle.std.specs.Prelude.{Result, Ok}
use Rattle.markdown_document.specs.Setting.{Rules, setting_of}
use Rattle.markdown_document.specs.ResolverStates.{above_cursor}
use Rattle.markdown_base.specs.declared.fault.Fault.{Fault}
use Rattle.markdown_spans.specs.SpanClosers.{has_failed}
use Rattle.markdown_resolver.specs.ReadsItem.{ReadsItem}
use Rattle.markdown_resolver.specs.declared.resolver.Resolver.{Resolver}
use Rattle.markdown_resolver.proofs.NodeReadLemmas.{only_reads}
use Rattle.markdown_resolver.proofs.ReadingLemmas.{stops_at_none}
use Rattle.markdown_resolver.proofs.OpenerReadLemmas.{if_err}

pub returns-then-item-place-clause-reads : goal.returns-then-item-place-clause-reads
returns-then-item-place-clause-reads g c =
    let s = c.args.self.now in
    let place = c.args.place.now in
    let tree = c.args.tree.now in
    let held = s.lookup.tables in
    let same = c.item-item.ensures no_item in
    let puts = c.make_literal.ensures.puts place.text.now (tables_of held) c.requires.ready.chain.ready in
    let reads : (rules : Rules) → rules.syntax ≡ place.syntax
    → ReadsItem (setting_of place.text.now rules) (above_cursor place.text.now tree) c.args.ix c.make_literal.result
    tree.nodes c.make_literal.new.tree.nodes (tables_of held)
    (tables_of held) = λ rules syntax. elim c.then-item-place.branch [
      | then-item-place-via-then-item-place w ↦ reads_text c.requires.ready.chain c.requires.opener
          (none_past_block place tree held c.args.ix rules c.item-item.result.now c.requires.ready.chain
          c.requires.opener same w.if-item-place.true) puts
      | then-item-place-via-else-item-place+then-not-starts_at w ↦ reads_text c.requires.ready.chain c.requires.opener
          (none_follows place tree held c.args.ix rules c.item-item.result.now w.next.result c.requires.ready.chain same
          w.next.ensures.value (sym w.if-not-starts_at.true ∙ w.starts_at.ensures)) puts
    ] in
    let result : Result Continuation Fault = Ok c.make_literal.result in
    only_reads result place tree s s c.args.ix c.make_literal.new.tree c.requires.ready c.make_literal.ensures.place
    reads refl refl
    refl

pub scan_after_less-requires-clause-start : goal.scan_after_less-requires-clause-start
scan_after_less-requires-clause-start g c =
    let source = c.args.place.now.text.now in
    let last = c.args.place.now.block_end in
    let start = c.item-item.result.now.start in
    let same = c.item-item.ensures no_item in
    let lies = lies_at c.requires.ready.chain.ready in
    let boundary = boundary_before source last start (rw same lies.start)
    (omega (arith, c.if-item-place.false, ap (λ (i : Item). i.start) same, ap (λ (i : Item). i.end) same, lies.ordered))
    in
    subst (λ (xs : List ℕ). IsCharBoundary xs start) (sym (c.range-text.ensures.value ∙ whole_range source last))
    boundary

pub scan_after_less-requires-clause-after : goal.scan_after_less-requires-clause-after
scan_after_less-requires-clause-after g c =
    let source = c.args.place.now.text.now in
    let last = c.args.place.now.block_end in
    let end = c.item-item.result.now.end in
    let same = c.item-item.ensures no_item in
    let lies = lies_at c.requires.ready.chain.ready in
    let boundary = boundary_before source last end (rw same lies.end) c.if-item-place.false in
    subst (λ (xs : List ℕ). IsCharBoundary xs end) (sym (c.range-text.ensures.value ∙ whole_range source last)) boundary

pub put_markup-requires : goal.put_markup-requires
put_markup-requires g c =
    let place = c.args.place.now in
    let tree = c.args.tree.now in
    let held = c.args.self.now.lookup.tables in
    let prefix = c.new-prefix.result in
    let value = sym (ap (option_map markup_of) c.in-Some.is) ∙ c.in_ok-scan_after_less.ensures.value in
    let scanned = is_scanned prefix c.requires.ready.chain c.requires.opener
    (c.item-item.ensures no_item) c.if-item-place.false c.next.ensures.value c.if-not-starts_at.ensures
    c.new-prefix.ensures.containers c.new-prefix.ensures.footnotes c.range-text.ensures.value c.range-text.utf8
    refl value in
    (place.text.now, markup_stands scanned)

pub returns-in-None-clause-reads : goal.returns-in-None-clause-reads
returns-in-None-clause-reads g c =
    let s = c.args.self.now in
    let place = c.args.place.now in
    let tree = c.args.tree.now in
    let held = s.lookup.tables in
    let prefix = c.new-prefix.result in
    let value = sym (ap (option_map markup_of) c.in-None.is) ∙ c.in_ok-scan_after_less.ensures.value in
    let scanned = is_scanned prefix c.requires.ready.chain c.requires.opener
    (c.item-item.ensures no_item) c.if-item-place.false c.next.ensures.value c.if-not-starts_at.ensures
    c.new-prefix.ensures.containers c.new-prefix.ensures.footnotes c.range-text.ensures.value c.range-text.utf8
    refl value in
    let result : Result Continuation Fault = Ok c.make_literal-in-None.result in
    only_reads result place tree s s c.args.ix c.make_literal-in-None.new.tree c.requires.ready
    c.make_literal-in-None.ensures.place
    (λ rules syntax. reads_text
    c.requires.ready.chain c.requires.opener (scan_finds place tree held c.args.ix prefix None rules scanned syntax)
    (c.make_literal-in-None.ensures.puts place.text.now (tables_of held) c.requires.ready.chain.ready)) refl refl refl

pub returns-in-Some-clause-reads : goal.returns-in-Some-clause-reads
returns-in-Some-clause-reads g c =
    let s = c.args.self.now in
    let place = c.args.place.now in
    let tree = c.args.tree.now in
    let held = s.lookup.tables in
    let prefix = c.new-prefix.result in
    let m = markup_of c.in-Some.found in
    let value = sym (ap (option_map markup_of) c.in-Some.is) ∙ c.in_ok-scan_after_less.ensures.value in
    let scanned = is_scanned prefix c.requires.ready.chain c.requires.opener
    (c.item-item.ensures no_item) c.if-item-place.false c.next.ensures.value c.if-not-starts_at.ensures
    c.new-prefix.ensures.containers c.new-prefix.ensures.footnotes c.range-text.ensures.value c.range-text.utf8
    refl value in
    let new : Resolver g.row.F.Denot = record s { lookup = record s.lookup { tables = c.put_markup.new.tables } } in
    only_reads c.put_markup.result place tree s new c.args.ix c.put_markup.new.tree c.requires.ready
    c.put_markup.ensures.place (if_ok c.put_markup.result _ _ (λ next puts. λ rules syntax.
    reads_found place tree held c.args.ix prefix m rules next c.put_markup.new.tree.nodes
    (tables_of c.put_markup.new.tables) scanned syntax
    (puts place.text.now rules (markup_stands scanned))) c.put_markup.ensures.puts) refl refl refl

pub returns-in-Some-clause-stops : goal.returns-in-Some-clause-stops
returns-in-Some-clause-stops g c =
    let s = c.args.self.now in
    if_err c.put_markup.result (record {
      code_looks = stops_at_none (has_failed s.code_closers) s.work.code_visits _;
      math_looks = stops_at_none (has_failed s.math_closers) s.work.math_visits _;
    })

pub returns-in-Some-clause-kept : goal.returns-in-Some-clause-kept
returns-in-Some-clause-kept g c = rw c.put_markup.ensures.tables refl

pub returns-in_err-scan_after_less-clause-stops : goal.returns-in_err-scan_after_less-clause-stops
returns-in_err-scan_after_less-clause-stops g c =
    let s = c.args.self.now in
    if_err c.from_residual.result (record {
      code_looks = stops_at_none (has_failed s.code_closers) s.work.code_visits _;
      math_looks = stops_at_none (has_failed s.math_closers) s.work.math_visits _;
    })

-- Each step of the tree is one of the parser; before a chain the resolver is called.
use Rattle.markdown_document.specs.Tables.{tables_of}
use Rattle.std.proofs.Common.{ap, refl, ◌∙◌}
use Rattle.markdown_base.specs.Arena.{Arena}
use Rattle.markdown_base.specs.Syntax.{gfm_footnotes}
use Rattle.markdown_base.specs.declared.item.Item.{Item}
use Rattle.markdown_inline.specs.ParserLeft.{parser_setting}
use Rattle.markdown_inline.proofs.ParserLemmas.{above_chain, before_chain, moved_give, moved_past, moved_skip}
use Rattle.markdown_inline.proofs.ParserLemmas.{entered_chain, stands_chain, unread_chain}
use Rattle.markdown_inline.proofs.ParserLemmas.{moved_chain, moved_done, moved_refused, moved_stopped}
use Rattle.markdown_base.specs.Item.{range_of}
use Rattle.markdown_inline.proofs.WalkStepsLemmas.{none_above, stands_ended, stopped}
use Rattle.markdown_inline.proofs.walk.Parser.advance_once.Goals as goal

pub resolve_chain-requires : goal.resolve_chain-requires
resolve_chain-requires g c κs =
    let s = c.args.self.now in
    let h = rw c.in-Ok-Chain.field-0-is at
    (c.in-Ok-Chain.ensures.gives s.resolver.text.now s.resolver.lookup.tables s.stands)
    in (
      (refl, tt),
      (
        c.requires,
        (
          record {
            ready = rw h.1 (before_chain s.resolver.text.now s.tree s.resolver.lookup.tables c.in-Ok-Chain.first
                s.stands h.0);
            unread = rw h.1 (unread_chain s.resolver.text.now s.tree s.resolver.lookup.tables c.in-Ok-Chain.first
                s.stands h.0);
            above = rw h.1 (above_chain s.resolver.text.now s.tree s.resolver.lookup.tables c.in-Ok-Chain.first s.stands
                h.0);
          },
          (
            c.in-Ok-Chain.ensures.above _ s.entered,
            rw h.1 h.0.is_open,
          ),
        ),
      ),
    )

pub invariant_of-self-in-Ok : goal.invariant_of-self-in-Ok
invariant_of-self-in-Ok g c =
    let s = c.args.self.now in
    let h = rw c.in-Ok-Chain.field-0-is at
    (c.in-Ok-Chain.ensures.gives s.resolver.text.now s.resolver.lookup.tables s.stands)
    in
    let before = rw h.1 at c.resolve_chain.ensures.above in
    record {
      entered = rw c.in-Ok.ensures.kept.syntax (entered_chain (parser_setting s)
          (gfm_footnotes s.resolver.syntax) s.stands h.0 (rw h.1 at c.in-Ok.ensures.resolves) before);
      stands = rw c.in-Ok.ensures.kept.text
          (stands_chain g.F.BrokenLinkCallback.answers (parser_setting s) s.tree c.resolve_chain.new.tree
          s.resolver.lookup.tables c.resolve_chain.new.self.lookup.tables c.in-Ok-Chain.first
          s.resolver.lookup.limit c.resolve_chain.new.self.lookup.limit s.resolver.lookup.callback
          c.resolve_chain.new.self.lookup.callback s.resolver.work
          c.resolve_chain.new.self.work
          s.stands h.0 (rw h.1 at c.in-Ok.ensures.resolves));
    }

pub invariant_of-self-in-Ok-Skip : goal.invariant_of-self-in-Ok-Skip
invariant_of-self-in-Ok-Skip g c =
    let s = c.args.self.now in
    let h = rw c.in-Ok-Skip.field-0-is at
    (c.in-Ok-Skip.ensures.gives s.resolver.text.now s.resolver.lookup.tables s.stands)
    in
    record { entered = c.in-Ok-Skip.ensures.above _ s.entered; stands = h.stands }

pub invariant_of-self-in-Err-resolve_chain : goal.invariant_of-self-in-Err-resolve_chain
invariant_of-self-in-Err-resolve_chain g c =
    let s = c.args.self.now in
    record {
      entered = rw c.resolve_chain.ensures.kept.syntax (none_above c.stop.new.self c.resolve_chain.new.above
          (gfm_footnotes s.resolver.syntax) (ap (λ (t : Arena Item). t.spine) c.stop.ensures)
          c.resolve_chain.ensures.above.style c.clear.ensures);
      stands = stands_ended c.resolve_chain.new.self.text.now (tables_of c.resolve_chain.new.self.lookup.tables)
          c.stop.new.self
          (stopped c.resolve_chain.new.tree c.stop.new.self c.stop.ensures);
    }

pub invariant_of-self-in-Err : goal.invariant_of-self-in-Err
invariant_of-self-in-Err g c =
    let s = c.args.self.now in
    record {
      entered = none_above c.stop-in-Err.new.self c.take_step.new.above (gfm_footnotes s.resolver.syntax)
          (ap (λ (t : Arena Item). t.spine) c.stop-in-Err.ensures) (c.take_step.ensures.style ∙ s.entered.style)
          c.clear-in-Err.ensures;
      stands = stands_ended c.args.self.now.resolver.text.now (tables_of c.args.self.now.resolver.lookup.tables)
          c.stop-in-Err.new.self
          (stopped c.take_step.new.tree c.stop-in-Err.new.self c.stop-in-Err.ensures);
    }

pub returns-in-Ok-Done-clause-moves : goal.returns-in-Ok-Done-clause-moves
returns-in-Ok-Done-clause-moves g c =
    let s = c.args.self.now in
    let h = rw c.in-Ok-Done.field-0-is at
    (c.in-Ok-Done.ensures.gives s.resolver.text.now s.resolver.lookup.tables s.stands)
    in
    moved_done s _ h.0 h.1 refl refl

pub returns-in-Ok-Skip-clause-moves : goal.returns-in-Ok-Skip-clause-moves
returns-in-Ok-Skip-clause-moves g c =
    let s = c.args.self.now in
    let h = rw c.in-Ok-Skip.field-0-is at
    (c.in-Ok-Skip.ensures.gives s.resolver.text.now s.resolver.lookup.tables s.stands)
    in
    moved_skip g.F.BrokenLinkCallback.answers s _
    (record { text = refl; syntax = refl; callback = refl; limit = refl; work = refl }) h

pub returns-in-Ok-Leaf-clause-moves : goal.returns-in-Ok-Leaf-clause-moves
returns-in-Ok-Leaf-clause-moves g c =
    let s = c.args.self.now in
    let h = rw c.in-Ok-Leaf.field-0-is at
    (c.in-Ok-Leaf.ensures.gives s.resolver.text.now s.resolver.lookup.tables s.stands)
    in
    moved_past s _ c.in-Ok-Leaf.item _
    (record { text = refl; syntax = refl; callback = refl; limit = refl; work = refl }) refl h

pub returns-in-Ok-Start-clause-moves : goal.returns-in-Ok-Start-clause-moves
returns-in-Ok-Start-clause-moves g c =
    let s = c.args.self.now in
    let h = rw c.in-Ok-Start.field-0-is at
    (c.in-Ok-Start.ensures.gives s.resolver.text.now s.resolver.lookup.tables s.stands)
    in
    moved_past s _ c.in-Ok-Start.item _
    (record { text = refl; syntax = refl; callback = refl; limit = refl; work = refl }) refl h

pub returns-in-Ok-End-clause-moves : goal.returns-in-Ok-End-clause-moves
returns-in-Ok-End-clause-moves g c =
    let s = c.args.self.now in
    let h = rw c.in-Ok-End.field-0-is at
    (c.in-Ok-End.ensures.gives s.resolver.text.now s.resolver.lookup.tables s.stands) in
    moved_give s _ _ (range_of c.in-Ok-End.item)
    (record { text = refl; syntax = refl; callback = refl; limit = refl; work = refl }) h

pub returns-in-Ok-clause-moves : goal.returns-in-Ok-clause-moves
returns-in-Ok-clause-moves g c =
    let s = c.args.self.now in
    let h = rw c.in-Ok-Chain.field-0-is at
    (c.in-Ok-Chain.ensures.gives s.resolver.text.now s.resolver.lookup.tables s.stands)
    in
    moved_chain g.F.BrokenLinkCallback.answers c.args.self.now _ c.in-Ok-Chain.first c.in-Ok.ensures.kept.text
    c.in-Ok.ensures.kept.syntax
    c.args.self.now.stands h.0 (rw h.1 at c.in-Ok.ensures.resolves)

pub returns-in-Err-resolve_chain-clause-moves : goal.returns-in-Err-resolve_chain-clause-moves
returns-in-Err-resolve_chain-clause-moves g c =
    let s = c.args.self.now in
    let h = rw c.in-Ok-Chain.field-0-is at
    (c.in-Ok-Chain.ensures.gives s.resolver.text.now s.resolver.lookup.tables s.stands)
    in
    moved_stopped g.F.BrokenLinkCallback.answers c.args.self.now _ c.in-Ok-Chain.first c.args.self.now.stands h.0
    (rw h.1 at c.in-Err-resolve_chain.ensures.stops)
    (stopped c.resolve_chain.new.tree c.stop.new.self c.stop.ensures)

pub returns-in-Err-clause-moves : goal.returns-in-Err-clause-moves
returns-in-Err-clause-moves g c =
    let s = c.args.self.now in
    moved_refused g.F.BrokenLinkCallback.answers s _ c.take_step.new.tree refl refl
    (c.in-Err.ensures.gives s.resolver.text.now s.resolver.lookup.tables s.stands)
    (stopped c.take_step.new.tree c.stop-in-Err.new.self c.stop-in-Err.ensures)

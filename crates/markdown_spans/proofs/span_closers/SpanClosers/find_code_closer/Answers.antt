-- No backticks, or a single escaped one, open nothing; else what was learned is read, or a walk is made.
use Rattle.std.proofs.Common.{◌≡◌, Some, None, reverse, ap, refl, sym, ◌∙◌}
use Rattle.std.proofs.lemmas.Result.{IfErr-weaker, IfOk-weaker}
use Rattle.markdown_base.specs.BlockTree.{item_at, no_item}
use Rattle.markdown_base.specs.declared.item.Item.{Item}
use Rattle.markdown_spans.specs.SpanMarks.{mark_at}
use Rattle.markdown_spans.specs.declared.span_text.SpanKind.TheVariants.{Code}
use Rattle.markdown_spans.proofs.ChainWalkLemmas.{chain_at}
use Rattle.markdown_spans.proofs.FindCodeLemmas.{code_within, finds_known, holds_left, learned_from}
use Rattle.markdown_spans.proofs.FindCodeLemmas.{looks_at_escaped, looks_at_known, looks_without_mark, nothing_from}
use Rattle.markdown_spans.proofs.FindCodeLemmas.{walked, walked_at_most}
use Rattle.markdown_spans.proofs.LearnedLemmas.{holds_next}
use Rattle.markdown_spans.proofs.span_closers.SpanClosers.find_code_closer.Goals as goal

pub item-requires : goal.item-requires
item-requires c = (chain_at c.args.tree.now.nodes c.args.opener c.requires.ready.chain).within

pub next-requires : goal.next-requires
next-requires c = (chain_at c.args.tree.now.nodes c.args.opener c.requires.ready.chain).within

pub search_code-requires-clause-chain : goal.search_code-requires-clause-chain
search_code-requires-clause-chain c = rw c.next.ensures.value
    (chain_at c.args.tree.now.nodes c.args.opener c.requires.ready.chain).later

pub returns-in_default-clause-counted : goal.returns-in_default-clause-counted
returns-in_default-clause-counted c =
    let is : mark_at Code c.args.opener (item_at c.args.tree.now.nodes c.args.opener).body ≡ None =
    ap (λ (item : Item). mark_at Code c.args.opener item.body) (sym (c.item.ensures no_item))
    ∙ (sym c.mark_of.ensures ∙ c.in_default.is) in
    looks_without_mark c.args.tree.now.nodes c.args.opener c.args.self.now c.args.visits.now is

pub returns-in_default-clause-learned : goal.returns-in_default-clause-learned
returns-in_default-clause-learned c = holds_next Code c.args.tree.now.nodes c.args.opener c.args.self.now
    c.requires.ready.chain c.requires.ready.holds

pub returns-then-mark-eq0-clause-counted : goal.returns-then-mark-eq0-clause-counted
returns-then-mark-eq0-clause-counted c =
    let is : mark_at Code c.args.opener (item_at c.args.tree.now.nodes c.args.opener).body ≡ Some c.in-Some.mark =
    ap (λ (item : Item). mark_at Code c.args.opener item.body) (sym (c.item.ensures no_item))
    ∙ (sym c.mark_of.ensures ∙ c.in-Some.is) in
    looks_at_escaped c.args.tree.now.nodes c.args.opener c.in-Some.mark c.args.self.now c.args.visits.now is
    c.if-mark-eq0.true

pub returns-then-mark-eq0-clause-learned : goal.returns-then-mark-eq0-clause-learned
returns-then-mark-eq0-clause-learned c = holds_next Code c.args.tree.now.nodes c.args.opener c.args.self.now
    c.requires.ready.chain c.requires.ready.holds

pub returns-then-self-clause-found : goal.returns-then-self-clause-found
returns-then-self-clause-found c =
    let is : mark_at Code c.args.opener (item_at c.args.tree.now.nodes c.args.opener).body ≡ Some c.in-Some.mark =
    ap (λ (item : Item). mark_at Code c.args.opener item.body) (sym (c.item.ensures no_item))
    ∙ (sym c.mark_of.ensures ∙ c.in-Some.is) in
    finds_known c.args.tree.now.nodes c.args.opener c.in-Some.mark c.args.self.now
    (reverse c.self.inside.ahead.items) c.take_closer.result
    c.requires.ready.chain c.requires.ready.holds (learned_from c.self.inside.failed
    (reverse c.self.inside.ahead.items) c.args.self.now c.self.view_is c.if-self.true) is c.if-mark-eq0.false
    c.take_closer.ensures.value

pub returns-then-self-clause-counted : goal.returns-then-self-clause-counted
returns-then-self-clause-counted c =
    looks_at_known c.args.tree.now.nodes c.args.opener c.args.self.now
    (reverse c.self.inside.ahead.items) c.args.visits.now
    (learned_from c.self.inside.failed (reverse c.self.inside.ahead.items) c.args.self.now c.self.view_is
    c.if-self.true)

pub returns-then-self-clause-learned : goal.returns-then-self-clause-learned
returns-then-self-clause-learned c =
    let is : mark_at Code c.args.opener (item_at c.args.tree.now.nodes c.args.opener).body ≡ Some c.in-Some.mark =
    ap (λ (item : Item). mark_at Code c.args.opener item.body) (sym (c.item.ensures no_item))
    ∙ (sym c.mark_of.ensures ∙ c.in-Some.is) in
    rw c.if-self.true (holds_left Code c.args.tree.now.nodes c.args.opener c.in-Some.mark c.args.self.now
    (reverse c.self.inside.ahead.items) _
    c.requires.ready.chain c.requires.ready.holds (learned_from c.self.inside.failed
    (reverse c.self.inside.ahead.items) c.args.self.now c.self.view_is c.if-self.true) is c.take_closer.ensures.left)

pub returns-then-self-clause-failed : goal.returns-then-self-clause-failed
returns-then-self-clause-failed c =
    rw (
      c.if-self.true,
      learned_from c.self.inside.failed (reverse c.self.inside.ahead.items) c.args.self.now c.self.view_is
          c.if-self.true,
    ) refl

pub returns-then-self-clause-within : goal.returns-then-self-clause-within
returns-then-self-clause-within c =
    let is : mark_at Code c.args.opener (item_at c.args.tree.now.nodes c.args.opener).body ≡ Some c.in-Some.mark =
    ap (λ (item : Item). mark_at Code c.args.opener item.body) (sym (c.item.ensures no_item))
    ∙ (sym c.mark_of.ensures ∙ c.in-Some.is) in
    code_within c.args.tree.now.nodes c.args.opener c.take_closer.result
    (chain_at c.args.tree.now.nodes c.args.opener c.requires.ready.chain).later
    (finds_known c.args.tree.now.nodes c.args.opener c.in-Some.mark c.args.self.now
    (reverse c.self.inside.ahead.items) c.take_closer.result
    c.requires.ready.chain c.requires.ready.holds
    (learned_from c.self.inside.failed (reverse c.self.inside.ahead.items) c.args.self.now c.self.view_is
    c.if-self.true) is c.if-mark-eq0.false c.take_closer.ensures.value)

-- else a walk is made
pub search_code-requires-clause-fresh : goal.search_code-requires-clause-fresh
search_code-requires-clause-fresh c = nothing_from c.self.inside.failed (reverse c.self.inside.ahead.items)
    c.args.self.now c.self.view_is c.if-self.false

pub returns : goal.returns
returns c =
    let is : mark_at Code c.args.opener (item_at c.args.tree.now.nodes c.args.opener).body ≡ Some c.in-Some.mark =
    ap (λ (item : Item). mark_at Code c.args.opener item.body) (sym (c.item.ensures no_item))
    ∙ (sym c.mark_of.ensures ∙ c.in-Some.is) in
    let fresh = nothing_from c.self.inside.failed (reverse c.self.inside.ahead.items) c.args.self.now c.self.view_is
    c.if-self.false in
    let searches = rw c.next.ensures.value at c.search_code.ensures.searches in
    let walk = walked c.args.tree.now.nodes c.args.opener c.in-Some.mark c.args.self.now
    (chain_at c.args.tree.now.nodes c.args.opener c.requires.ready.chain).later is c.if-mark-eq0.false fresh in
    record {
      found = IfOk-weaker c.search_code.result _ _ (λ found s. (walk found _ _ _ s).closes) searches;
      within = c.search_code.ensures.within;
      counted = IfOk-weaker c.search_code.result _ _ (λ found s. (walk found _ _ _ s).counted) searches;
      failed = IfOk-weaker c.search_code.result _ _ (λ found s. (walk found _ _ _ s).failed) searches;
      learned = IfOk-weaker c.search_code.result _ _ (λ found s. (walk found _ _ _ s).holds) searches;
      unchanged = IfErr-weaker c.search_code.result _ _ (λ fault none. none ∙ sym fresh) c.search_code.ensures.refused;
      counted_at_most = IfErr-weaker c.search_code.result _ _
          (λ fault s. walked_at_most c.args.tree.now.nodes c.args.opener c.in-Some.mark c.args.self.now _ _ is
          c.if-mark-eq0.false fresh s) (rw c.next.ensures.value at c.search_code.ensures.at_most);
    }

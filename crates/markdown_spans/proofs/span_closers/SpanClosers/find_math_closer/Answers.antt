-- What cannot open opens nothing; else a walk is made, or what was learned is read.
use Rattle.std.proofs.Common.{reverse, sym, ◌∙◌}
use Rattle.std.proofs.lemmas.Result.{IfOk-weaker}
use Rattle.markdown_spans.specs.declared.span_text.SpanKind.TheVariants.{Math}
use Rattle.markdown_spans.proofs.ChainWalkLemmas.{chain_at}
use Rattle.markdown_spans.proofs.FindCodeLemmas.{learned_from, nothing_from}
use Rattle.markdown_spans.proofs.FindMathLemmas.{failed_at, known_math, math_within, opener_here, walked_within}
use Rattle.markdown_spans.proofs.LearnedLemmas.{holds_next}
use Rattle.markdown_spans.proofs.span_closers.SpanClosers.find_math_closer.Goals as goal

pub of_node-requires : goal.of_node-requires
of_node-requires c = (chain_at c.args.tree.now.nodes c.args.opener c.requires.ready.chain).within

pub returns-in_default-clause-learned : goal.returns-in_default-clause-learned
returns-in_default-clause-learned c = holds_next Math c.args.tree.now.nodes c.args.opener c.args.self.now
    c.requires.ready.chain c.requires.ready.holds

pub search_math-requires-clause-opener : goal.search_math-requires-clause-opener
search_math-requires-clause-opener c = opener_here c.args.tree.now.nodes c.args.opener c.in-Some.opening
    (sym c.of_node.ensures ∙ c.in-Some.is)

pub returns-then-not-self-clause-failed : goal.returns-then-not-self-clause-failed
returns-then-not-self-clause-failed c =
    IfOk-weaker c.search_math.result _ _ (λ found s. failed_at c.args.tree.now.nodes c.args.opener c.in-Some.opening
    found c.args.self.now c.search_math.new.self _ _
    (sym c.of_node.ensures ∙ c.in-Some.is) c.requires.ready.chain
    (nothing_from c.self.inside.failed (reverse c.self.inside.ahead.items) c.args.self.now c.self.view_is
    c.if-not-self.true) s) c.search_math.ensures.searches

pub close_by-requires : goal.close_by-requires
close_by-requires c =
    (known_math c.args.tree.now.nodes c.args.opener c.in-Some.opening c.args.self.now
    (reverse c.self.inside.ahead.items) _ c.take_dollar-first.result
    (sym c.of_node.ensures ∙ c.in-Some.is) c.requires.ready.chain c.requires.ready.holds
    (learned_from c.self.inside.failed (reverse c.self.inside.ahead.items) c.args.self.now c.self.view_is
    c.if-not-self.false) c.take_dollar-first.ensures.value c.take_dollar-first.ensures.left).within

pub returns-clause-found : goal.returns-clause-found
returns-clause-found c = λ low after h.
    (known_math c.args.tree.now.nodes c.args.opener c.in-Some.opening c.args.self.now
    (reverse c.self.inside.ahead.items) _ c.take_dollar-first.result
    (sym c.of_node.ensures ∙ c.in-Some.is) c.requires.ready.chain c.requires.ready.holds
    (learned_from c.self.inside.failed (reverse c.self.inside.ahead.items) c.args.self.now c.self.view_is
    c.if-not-self.false) c.take_dollar-first.ensures.value c.take_dollar-first.ensures.left).found low after h
    ∙ sym c.close_by.ensures

pub returns-clause-learned : goal.returns-clause-learned
returns-clause-learned c = rw c.if-not-self.false
    (known_math c.args.tree.now.nodes c.args.opener c.in-Some.opening c.args.self.now
    (reverse c.self.inside.ahead.items) _ c.take_dollar-first.result
    (sym c.of_node.ensures ∙ c.in-Some.is) c.requires.ready.chain c.requires.ready.holds
    (learned_from c.self.inside.failed (reverse c.self.inside.ahead.items) c.args.self.now c.self.view_is
    c.if-not-self.false) c.take_dollar-first.ensures.value c.take_dollar-first.ensures.left).later

pub returns-clause-within : goal.returns-clause-within
returns-clause-within c =
    math_within c.args.tree.now.nodes c.args.opener c.close_by.result c.requires.ready.chain (λ low after h.
    (known_math c.args.tree.now.nodes c.args.opener c.in-Some.opening c.args.self.now
    (reverse c.self.inside.ahead.items) _ c.take_dollar-first.result
    (sym c.of_node.ensures ∙ c.in-Some.is) c.requires.ready.chain c.requires.ready.holds
    (learned_from c.self.inside.failed (reverse c.self.inside.ahead.items) c.args.self.now c.self.view_is
    c.if-not-self.false) c.take_dollar-first.ensures.value c.take_dollar-first.ensures.left).found low after h
    ∙ sym c.close_by.ensures)

pub returns-then-not-self-clause-within : goal.returns-then-not-self-clause-within
returns-then-not-self-clause-within c =
    IfOk-weaker c.search_math.result _ _ (λ found s. walked_within c.args.tree.now.nodes c.args.opener
    c.in-Some.opening found c.search_math.new.self _ _
    (sym c.of_node.ensures ∙ c.in-Some.is) c.requires.ready.chain s) c.search_math.ensures.searches

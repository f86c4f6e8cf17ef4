-- Each kind of item is read by its own function; at any other item nothing is found.
use Rattle.std.proofs.Common.{Some, refl, sym, ap, ◌∙◌, subst}
use Rattle.std.specs.Prelude.{Result, Ok}
use Rattle.markdown_base.specs.BlockTree.{no_item}
use Rattle.markdown_base.specs.declared.fault.Fault.{Fault}
use Rattle.markdown_base.specs.declared.item.Item.{Item}
use Rattle.markdown_document.specs.ResolverStates.{above_cursor}
use Rattle.markdown_document.specs.Tables.{tables_of}
use Rattle.markdown_spans.specs.Closers.{is_dollar}
use Rattle.markdown_spans.specs.SpanClosers.{has_failed}
use Rattle.markdown_spans.specs.declared.span_text.SpanKind.{SpanKind}
use Rattle.markdown_resolver.specs.declared.continuation.Continuation.{Continuation}
use Rattle.markdown_resolver.specs.Chains.{CanResolve}
use Rattle.markdown_resolver.specs.ReadsBracket.{setting_by}
use Rattle.markdown_resolver.proofs.ReadingLemmas.{FindsNothing, finds_nothing, reads_alone, literal_reads}
use Rattle.markdown_resolver.proofs.LiteralTextLemmas.{node_within}
use Rattle.markdown_resolver.proofs.resolver.Resolver.read_other.Goals as goal

pub item-requires : goal.item-requires
item-requires g c = node_within c.requires.ready.chain.ready

pub read_code-requires : goal.read_code-requires
read_code-requires g c κs =
    let opener = ap (λ (item : Item). item.body) (sym (c.item.ensures no_item)) ∙ c.in-MaybeCode.is in
    ((refl, tt), (c.requires.ready, (c.in-MaybeCode.field-0, c.in-MaybeCode.field-1, opener)))

pub read_math-requires : goal.read_math-requires
read_math-requires g c κs =
    let opener = ap (λ (item : Item). is_dollar item.body) (sym (c.item.ensures no_item))
    ∙ ap is_dollar c.in-MaybeMath.is in
    ((refl, tt), (c.requires.ready, opener))

pub read_markup-requires : goal.read_markup-requires
read_markup-requires g c κs =
    let opener = ap (λ (item : Item). item.body) (sym (c.item.ensures no_item)) ∙ c.in-MaybeHtml.is in
    ((refl, tt), (c.requires.ready, (opener, c.requires.scanner)))

pub returns-in_default : goal.returns-in_default
returns-in_default g c =
    let s = c.args.self.now in
    let nodes = c.args.tree.now.nodes in
    let tables = tables_of s.lookup.tables in
    let set = setting_by s in
    let above = above_cursor s.text.now c.args.tree.now in
    let nothing_there : FindsNothing c.item.result.now.body = finds_nothing c.item.result.now.body
    c.in_default.not-MaybeCode c.in_default.not-MaybeMath c.in_default.not-MaybeHtml in
    let ready : CanResolve s.text.now tables nodes (Some c.args.ix) = rw c.requires.ready.text at
    c.requires.ready.chain.ready in
    let result : Result Continuation Fault = Ok c.make_literal.result in
    let read = reads_alone result set above c.args.ix nodes c.make_literal.new.tree.nodes tables tables ready
    (literal_reads set above c.args.ix c.make_literal.result nodes c.make_literal.new.tree.nodes tables ready
    (subst FindsNothing (ap (λ (item : Item). item.body) (c.item.ensures no_item)) nothing_there)
    (c.make_literal.ensures.puts s.text.now tables ready)) in
    record {
      reads = record {
        item = read.reads;
        learned = record {
          code = read.holds SpanKind.Code s.code_closers c.requires.ready.learned.code;
          math = read.holds SpanKind.Math s.math_closers c.requires.ready.learned.math;
        };
        looked = record {
          code = read.looks (has_failed s.code_closers) s.work.code_visits;
          math = read.looks (has_failed s.math_closers) s.work.math_visits;
        };
        place_is = c.make_literal.ensures.place;
      };
      stops = tt;
      refused = tt;
      kept = refl;
      scanner = refl;
    }

-- What a `]` becomes is decided, and put.
use Rattle.std.proofs.Common.{Some, ap, ◌∙◌, refl}
use Rattle.std.specs.Prelude.{is_some}
use Rattle.markdown_document.specs.ResolverStates.{above_cursor}
use Rattle.markdown_resolver.specs.ReadsBracket.{setting_by, resolver_state_by}
use Rattle.markdown_resolver.proofs.CloseBracketLemmas.{may_put, reads_closed, stops_decided}
use Rattle.markdown_resolver.proofs.OpenerReadLemmas.{if_err}
use Rattle.markdown_resolver.proofs.StopsLemmas.{stops_here}
use Rattle.markdown_resolver.proofs.resolver.Resolver.close_bracket.Goals as goal
use Rattle.markdown_defs.specs.Allocations.{Allocated}
use Rattle.markdown_defs.specs.Footnotes.{footnote_at}

pub decide_closing-requires : goal.decide_closing-requires
decide_closing-requires g c κs = ((refl, tt), (c.requires.can_ask, (c.requires.ready, c.requires.closes)))

pub returns-in_err-found-clause-stops : goal.returns-in_err-found-clause-stops
returns-in_err-found-clause-stops g c =
    let s = c.args.self.now in
    if_err c.from_residual.result (λ first left was_read.
    stops_here g.F.BrokenLinkCallback.answers (setting_by s) (above_cursor s.text.now c.args.tree.now) (Some c.args.ix)
    left (resolver_state_by c.args.tree.now s) s.waiting.spent _ c.in_err-found.ensures.nothing_asked)

pub returns-in_err-found-clause-kept : goal.returns-in_err-found-clause-kept
returns-in_err-found-clause-kept g c = record {
  kept = rw c.decide_closing.ensures.kept.kept refl;
  footnotes = c.decide_closing.ensures.kept.footnotes;
}

pub finish_bracket-requires : goal.finish_bracket-requires
finish_bracket-requires g c =
    let utf8 = c.requires.ready.was_read.stands.utf8 in
    (may_put g.F.BrokenLinkCallback.answers c.args.place.now c.args.tree.now c.args.self.now c.decide_closing.new.self
    c.in_ok-found.found c.args.ix c.requires.ready utf8 c.requires.closes c.decide_closing.ensures.kept
    c.in_ok-found.ensures.decides).within

pub put_bracket-requires : goal.put_bracket-requires
put_bracket-requires g c =
    let utf8 = c.requires.ready.was_read.stands.utf8 in
    let m = may_put g.F.BrokenLinkCallback.answers c.args.place.now c.args.tree.now c.args.self.now
    c.decide_closing.new.self
    c.in_ok-found.found c.args.ix c.requires.ready utf8 c.requires.closes c.decide_closing.ensures.kept
    c.in_ok-found.ensures.decides in
    (c.args.self.now.text.now, c.requires.ready.first, m.left_then, _, _, m.becomes, m.closes, m.is_become)

pub returns : goal.returns
returns g c =
    let n = c.decide_closing.new.self in
    let utf8 = c.requires.ready.was_read.stands.utf8 in
    let put = c.put_bracket.ensures.tables in
    let kept = c.decide_closing.ensures.kept in
    record {
      reads = reads_closed g.F.BrokenLinkCallback.answers c.args.place.now c.args.tree.now c.args.self.now n
          c.in_ok-found.found c.args.ix
          c.requires.ready utf8 c.requires.closes kept c.in_ok-found.ensures.decides c.put_bracket.new.tree
          c.put_bracket.new.tables
          c.finish_bracket.new.openers c.put_bracket.result (ap (λ (h : Allocated). h.footdefs) put)
          c.finish_bracket.ensures c.put_bracket.ensures.puts c.put_bracket.ensures.place;
      stops = stops_decided g.F.BrokenLinkCallback.answers c.args.place.now c.args.tree.now c.args.self.now n
          c.in_ok-found.found c.args.ix
          c.requires.ready utf8 c.requires.closes kept c.in_ok-found.ensures.decides c.put_bracket.result;
      again = c.decide_closing.ensures.again;
      refused = c.put_bracket.ensures.refused;
      kept = record {
        kept = rw (put, kept.kept) refl;
        footnotes = λ name. ap (λ (h : Allocated). is_some (footnote_at h.footdefs name)) put ∙ kept.footnotes name;
      };
    }

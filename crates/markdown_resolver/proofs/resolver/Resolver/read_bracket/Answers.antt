-- An opener waits, and a `]` is closed.
use Rattle.std.proofs.Common.{Some, refl, ap, ◌∙◌}
use Rattle.markdown_document.specs.ResolverStates.{above_cursor}
use Rattle.markdown_document.specs.Tables.{tables_of}
use Rattle.markdown_resolver.specs.ReadsBracket.{setting_by, resolver_state_by}
use Rattle.markdown_resolver.proofs.OpenerReadLemmas.{if_err, reads_opener, ready_here}
use Rattle.markdown_resolver.proofs.StopsLemmas.{stops_here}
use Rattle.markdown_resolver.proofs.resolver.Resolver.read_bracket.Goals as goal

pub open_bracket-requires : goal.open_bracket-requires
open_bracket-requires g c
    = (c.args.place.now.text.now, tables_of c.args.self.now.lookup.tables, ready_here c.requires.ready.was_read)

pub returns-in-Opener : goal.returns-in-Opener
returns-in-Opener g c =
    let s = c.args.self.now in
    let opened = c.open_bracket.ensures in
    record {
      reads = reads_opener g.F.BrokenLinkCallback.answers c.args.place.now c.args.ix c.in-Opener.is_image
          c.args.tree.now c.open_bracket.new.tree s c.open_bracket.new.openers c.open_bracket.result c.requires.ready
          (c.requires.bracket ∙ ap Some c.in-Opener.is) opened.puts opened.place opened.brackets opened.wikilinks;
      stops = if_err c.open_bracket.result (λ first left was_read.
          stops_here g.F.BrokenLinkCallback.answers (setting_by s) (above_cursor s.text.now c.args.tree.now)
          (Some c.args.ix) left (resolver_state_by c.args.tree.now s) s.waiting.spent s.lookup.callback refl);
      again = c.requires.can_ask;
      refused = opened.refused;
      kept = record { kept = refl; footnotes = λ name. refl };
    }

pub returns-in-Closer : goal.returns-in-Closer
returns-in-Closer g c =
    let closed = c.close_bracket.ensures in
    record {
      reads = closed.reads;
      stops = closed.stops;
      again = closed.again;
      refused = closed.refused;
      kept = closed.kept;
    }

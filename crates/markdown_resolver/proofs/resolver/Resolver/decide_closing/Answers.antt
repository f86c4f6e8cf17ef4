-- What a `]` becomes is decided, by the rules of pass one.
use Rattle.std.proofs.Common.{refl}
use Rattle.markdown_base.specs.BlockTree.{item_at}
use Rattle.markdown_resolver.proofs.CloseBracketLemmas.{IsPrefixOf, decides_here, finds_each, tries_each}
use Rattle.markdown_resolver.proofs.OpenerReadLemmas.{closer_body, ready_here}
use Rattle.markdown_resolver.proofs.LiteralTextLemmas.{node_within}
use Rattle.markdown_resolver.proofs.resolver.Resolver.decide_closing.Goals as goal

pub decide_bracket-requires : goal.decide_bracket-requires
decide_bracket-requires g c κs =
    let can = c.requires.ready.was_read in
    let is = closer_body (item_at c.args.tree.now.nodes c.args.ix).body c.requires.closes in (
      (refl, tt),
      (
        record {
          within = node_within (ready_here can);
          brackets = tries_each can _ is;
          wikilinks = finds_each can _ is;
        },
        c.requires.can_ask,
      ),
    )

pub returns : goal.returns
returns g c =
    let prefix : IsPrefixOf c.args.place.now c.new-rule.result = record {
      containers = c.new-rule.ensures.containers;
      gfm = c.new-rule.ensures.footnotes;
    } in
    record {
      decides = decides_here g.F.BrokenLinkCallback.answers c.args.place.now c.new-rule.result c.args.tree.now
          c.args.self.now _ c.args.ix
          c.decide_bracket.result c.requires.ready.text c.requires.ready.syntax prefix c.requires.closes
          c.decide_bracket.ensures.decides;
      nothing_asked = c.decide_bracket.ensures.nothing_asked;
      again = c.decide_bracket.ensures.again;
      refused = c.decide_bracket.ensures.refused;
      kept = record {
        kept = rw c.decide_bracket.ensures.uses.others refl;
        footnotes = c.decide_bracket.ensures.uses.names;
      };
    }

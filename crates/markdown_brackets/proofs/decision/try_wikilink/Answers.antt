-- The nodes between an opener and its `]` are the trees between them.
use Rattle.markdown_brackets.proofs.WikilinkFoundLemmas.{finds_dead, finds_live, finds_none}
use Rattle.markdown_brackets.proofs.decision.try_wikilink.Goals as goal

pub returns-in_default : goal.returns-in_default
returns-in_default g c w cl o text block t =
    finds_none c.args.at.now.tree.now.nodes w c.args.end c.args.at.now.node cl o
    (rw c.in_default.is at t)

pub returns-then-not-is_live : goal.returns-then-not-is_live
returns-then-not-is_live g c w cl o text block t =
    finds_dead c.args.at.now.tree.now.nodes w c.args.end c.args.at.now.node c.in-Some.opener c.in-Some.is_live cl o
    c.if-not-is_live.true (rw c.in-Some.is at t)

pub returns : goal.returns
returns g c w cl o text block t =
    finds_live c.args.at.now.tree.now.nodes w c.args.end c.args.at.now.node c.in-Some.opener c.in-Some.is_live cl o
    c.find_wikilink.result c.if-not-is_live.false (rw (text, block) c.find_wikilink.ensures) (rw c.in-Some.is at t)

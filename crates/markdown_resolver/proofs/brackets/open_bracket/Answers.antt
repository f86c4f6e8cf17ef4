-- An opener becomes literal text, and waits.
use Rattle.markdown_resolver.proofs.LiteralTextLemmas.{node_within}
use Rattle.markdown_resolver.proofs.brackets.open_bracket.Goals as goal

pub next-requires : goal.next-requires
next-requires c = node_within c.requires.2

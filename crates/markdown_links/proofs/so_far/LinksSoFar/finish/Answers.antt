-- What is kept is shown.
use Rattle.std.proofs.Common.{◌∙◌}
use Rattle.std.specs.String.{string_bytes}
use Rattle.markdown_links.proofs.FoundLinksLemmas.{entries_kept}
use Rattle.markdown_links.proofs.so_far.LinksSoFar.finish.Goals as goal

pub returns : goal.returns
returns c = c.new.ensures ∙ entries_kept (string_bytes c.args.self.texts) c.args.self.found.items

-- A text is settled.
use Rattle.std.proofs.Common.{refl}
use Rattle.markdown_items.proofs.line_items.append_text.Goals as goal

pub inline-requires-clause-settled : goal.inline-requires-clause-settled
inline-requires-clause-settled c = refl

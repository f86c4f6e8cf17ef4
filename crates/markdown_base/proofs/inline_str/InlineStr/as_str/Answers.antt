-- The bytes in use are text, by the invariant.
use Rattle.std.proofs.lemmas.Str.{IsUtf8-had}
use Rattle.markdown_base.proofs.inline_str.InlineStr.as_str.Goals as goal

pub from_utf8_unchecked-requires : goal.from_utf8_unchecked-requires
from_utf8_unchecked-requires c = IsUtf8-had _ c.args.self.now.is_text

-- The em dashes, and the en dashes after them.
use Rattle.std.proofs.Common.{refl}
use lib.Utf8.{encode}
use Rattle.markdown_items.proofs.dashes.Dashes.into_string.Goals as goal

pub returns : goal.returns
unfolding encode
returns c =
    rw (
      c.in_ok-push_str.ensures.bytes,
      c.in_ok-text.ensures.bytes,
      c.as_str.ensures.value,
      c.in_ok-en_dashes.ensures.bytes,
    ) refl

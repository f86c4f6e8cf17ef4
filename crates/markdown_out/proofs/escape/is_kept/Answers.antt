-- The comparisons and the definition agree at each of the 256 bytes, by computing.
use Rattle.std.proofs.Common.{ℕ, Bool, ◌||◌, ◌&&◌, ◌==◌, nat_le, refl, arith}
use Rattle.std.proofs.lemmas.Bool.{agree_below_at}
use Rattle.markdown_out.specs.Escapes.{is_kept_byte}
use Rattle.markdown_out.proofs.escape.is_kept.Goals as goal

-- what the code compares
abbrev is_found : ℕ → Bool
is_found byte =
    (nat_le 40 byte && nat_le byte 59)
    || (nat_le 63 byte && nat_le byte 90)
    || (nat_le 97 byte && nat_le byte 122)
    || (nat_le 35 byte && nat_le byte 37)
    || (byte == 33)
    || (byte == 61)
    || (byte == 95)
    || (byte == 126)

pub returns : goal.returns
returns c = agree_below_at is_found is_kept_byte 256 c.args.byte refl (omega arith)

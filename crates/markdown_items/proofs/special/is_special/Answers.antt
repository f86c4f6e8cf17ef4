-- The table and the definition agree at each of the 256 bytes, by computing.
use Rattle.std.proofs.Common.{◌≡◌, ◌==◌, ℕ, List, Bool, false, get_or, refl, arith}
use Rattle.std.proofs.lemmas.Bool.{agree_below_at}
use Rattle.std.specs.List.{list_any}
use Rattle.markdown_items.specs.LineItems.{special_bytes}
use Rattle.markdown_items.specs.declared.special.TheConstants.{SPECIALS}
use Rattle.markdown_items.proofs.special.is_special.Goals as goal

-- what the table says of a byte
abbrev stands : List Bool → ℕ → Bool
stands table byte = get_or table byte false

abbrev is_one_of : ℕ → Bool
is_one_of byte = list_any (λ b. b == byte) special_bytes

pub returns : goal.returns
returns c =
    let same : stands SPECIALS c.args.byte ≡ is_one_of c.args.byte =
    agree_below_at (stands SPECIALS) is_one_of 256 c.args.byte refl (omega arith) in
    rw (same, c.is_dash_byte.ensures) refl

-- Email autolinks (CommonMark 6.5): an address in angle brackets.
use Rattle.std.specs.Prelude.{ℕ, ◌+◌, ◌-◌, ◌==◌, Bool, not, ◌&&◌, ◌||◌, nat_le, List, [], ◌∷◌, length, take, drop}
use Rattle.std.specs.Prelude.{take_while, slice_index, codes, Option, Some, None, if◌then◌else◌}
use Rattle.std.specs.Option.{option_map}
use Rattle.std.specs.Char.{is_ascii_alphanumeric}
use Rattle.std.specs.List.{list_all, list_any}
use Rattle.markdown_base.specs.Bytes.{full_stop, hyphen}
use Rattle.markdown_scan.specs.Beginnings.{begins_with}

-- a character before the `@`: an ASCII letter, a digit or one of these marks
abbrev pub is_local_byte : ℕ → Bool
is_local_byte b = is_ascii_alphanumeric b || list_any (λ mark. mark == b) (codes ".!#$%&'*+/=?^_`{|}~-")

-- the number of such characters that the bytes begin with
abbrev pub local_length : List ℕ → ℕ
local_length bytes = length (take_while is_local_byte bytes)

-- a character after the `@`: an ASCII letter, a digit, a hyphen or a period
abbrev pub is_domain_byte : ℕ → Bool
is_domain_byte b = is_ascii_alphanumeric b || (b == hyphen) || (b == full_stop)

-- the number of such characters that the bytes begin with
abbrev pub domain_length : List ℕ → ℕ
domain_length bytes = length (take_while is_domain_byte bytes)

-- a byte before the pieces of bytes
abbrev pub put_first : ℕ → List (List ℕ) → List (List ℕ)
put_first b [] = (b ∷ []) ∷ []
put_first b (piece ∷ pieces) = (b ∷ piece) ∷ pieces

-- bytes cut at each period
unfoldable pub cut_at_periods : List ℕ → List (List ℕ)
cut_at_periods [] = [] ∷ []
cut_at_periods (b ∷ bytes) =
    if b == full_stop then [] ∷ cut_at_periods bytes else put_first b (cut_at_periods bytes)

-- a label of a domain: 1 to 63 characters, the first and the last no hyphen
abbrev pub is_label : List ℕ → Bool
is_label label =
    nat_le 1 (length label) && nat_le (length label) 63
    && not (slice_index label 0 == hyphen) && not (slice_index label (length label - 1) == hyphen)

-- labels with a period between
abbrev pub are_labels : List ℕ → Bool
are_labels domain = list_all is_label (cut_at_periods domain)

-- the length of the address that the bytes begin with, if a `>` follows it
abbrev pub closed_address : List ℕ → Option ℕ
closed_address bytes =
    let before = local_length bytes in
    let after = drop (before + 1) bytes in
    if nat_le 1 before && begins_with (codes "@") (drop before bytes) && are_labels (take (domain_length after) after)
    && begins_with (codes ">") (drop (domain_length after) after)
    then Some (before + 1 + domain_length after)
    else None

-- the byte offset after the autolink whose `<` is the byte before `at`, and its address
abbrev pub email_autolink : List ℕ → ℕ → Option (ℕ × List ℕ)
email_autolink text at = option_map (λ n. (at + n + 1, take n (drop at text))) (closed_address (drop at text))

-- Absolute-URI autolinks (CommonMark 6.5): a URI in angle brackets.
use Rattle.std.specs.Prelude.{ℕ, ◌+◌, ◌==◌, Bool, not, ◌&&◌, ◌||◌, nat_le, List, length, take, drop, take_while}
use Rattle.std.specs.Prelude.{slice_index, Option, Some, None, if◌then◌else◌}
use Rattle.std.specs.Option.{option_map}
use Rattle.std.specs.Char.{is_ascii_alphanumeric}
use Rattle.markdown_base.specs.Bytes.{colon, full_stop, greater_than, hyphen, less_than, plus_sign}
use Rattle.markdown_scan.specs.AsciiKinds.{is_control_or_space}
use Rattle.markdown_scan.specs.Beginnings.{begins_with_letter}

-- a character of a scheme: an ASCII letter, a digit, a plus sign, a period or a hyphen
abbrev pub is_scheme_byte : ℕ → Bool
is_scheme_byte b = is_ascii_alphanumeric b || (b == plus_sign) || (b == full_stop) || (b == hyphen)

-- the number of characters of a scheme that the bytes begin with
abbrev pub scheme_length : List ℕ → ℕ
scheme_length bytes = length (take_while is_scheme_byte bytes)

-- the bytes begin with a scheme, which is 2 to 32 characters, the first a letter, and with a colon after it
abbrev pub begins_scheme : List ℕ → Bool
begins_scheme bytes =
    begins_with_letter bytes && nat_le 2 (scheme_length bytes) && nat_le (scheme_length bytes) 32
    && (slice_index bytes (scheme_length bytes) == colon)

-- a character of a URI: no ASCII control character, no space, no `<` and no `>`
abbrev pub is_uri_byte : ℕ → Bool
is_uri_byte b = not (is_control_or_space b) && not (b == less_than) && not (b == greater_than)

-- the number of characters of a URI that the bytes begin with
abbrev pub uri_length : List ℕ → ℕ
uri_length bytes = length (take_while is_uri_byte bytes)

-- the length of the URI that the bytes begin with, if a `>` follows it
abbrev pub closed_uri : List ℕ → Option ℕ
closed_uri bytes =
    if begins_scheme bytes && (slice_index bytes (uri_length bytes) == greater_than) then Some (uri_length bytes)
    else None

-- the byte offset after the autolink whose `<` is the byte before `at`, and its URI
abbrev pub uri_autolink : List ℕ → ℕ → Option (ℕ × List ℕ)
uri_autolink text at = option_map (λ n. (at + n + 1, take n (drop at text))) (closed_uri (drop at text))

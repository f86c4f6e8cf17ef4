-- Link destinations (CommonMark 6.3), as they are written. A backslash escapes ASCII punctuation only, and therefore
-- neither a control character nor a space.
use Rattle.std.specs.Prelude.{ℕ, ◌+◌, ◌-◌, Bool, false, ◌&&◌, ◌||◌, ◌==◌, nat_lt, List, [], ◌∷◌, take, drop}
use Rattle.std.specs.Prelude.{slice_index, Option, Some, None, if◌then◌else◌}
use Rattle.std.specs.Option.{option_map}
use Rattle.markdown_base.specs.Bytes.{backslash, carriage_return, close_parenthesis, greater_than, less_than}
use Rattle.markdown_base.specs.Bytes.{line_feed, open_parenthesis}
use Rattle.markdown_scan.specs.AsciiKinds.{is_control_or_space}
use Rattle.markdown_scan.specs.Backslash.{is_bare}

-- the byte is not allowed between angle brackets: another `<`, or a line ending
abbrev pub is_refused : Bool → ℕ → Bool
is_refused escaped b = is_bare escaped b less_than || (b == line_feed) || (b == carriage_return)

-- the number of bytes before the `>` that closes a destination in angle brackets
abbrev pub angle_length : Bool → List ℕ → Option ℕ
angle_length escaped [] = None
angle_length escaped (b ∷ bytes) =
    if is_bare escaped b greater_than then Some 0
    else if is_refused escaped b then None
    else option_map (λ n. 1 + n) (angle_length (is_bare escaped b backslash) bytes)

-- the number of parentheses that are open after this byte
abbrev pub open_after : Bool → ℕ → ℕ → ℕ
open_after escaped b opened =
    if is_bare escaped b open_parenthesis then opened + 1
    else if is_bare escaped b close_parenthesis then opened - 1
    else opened

-- a destination ends before this byte: a control character, a space, or a `)` that closes no `(`
abbrev pub is_past_bare : Bool → ℕ → ℕ → Bool
is_past_bare escaped opened b = is_control_or_space b || (is_bare escaped b close_parenthesis && (opened == 0))

-- a `(` inside more than `max_nesting` open parentheses
abbrev pub is_too_deep : ℕ → Bool → ℕ → ℕ → Bool
is_too_deep max_nesting escaped opened b = is_bare escaped b open_parenthesis && nat_lt max_nesting opened

-- a destination can only end where no parenthesis is open
abbrev pub end_of_bare : ℕ → Option ℕ
end_of_bare opened = if opened == 0 then Some 0 else None

-- the length of a destination without angle brackets, if its parentheses are balanced and not nested too deeply
abbrev pub bare_length : ℕ → Bool → ℕ → List ℕ → Option ℕ
bare_length max_nesting escaped opened [] = end_of_bare opened
bare_length max_nesting escaped opened (b ∷ bytes) =
    if is_past_bare escaped opened b then end_of_bare opened
    else if is_too_deep max_nesting escaped opened b then None
    else option_map (λ n. 1 + n) (bare_length max_nesting (is_bare escaped b backslash) (open_after escaped b opened)
    bytes)

-- in angle brackets: the length through the closing one, and the bytes between them
abbrev pub angle_destination : List ℕ → Option (ℕ × List ℕ)
angle_destination inside = option_map (λ n. (n + 2, take n inside)) (angle_length false inside)

-- without angle brackets: the length, and the bytes; both are empty where a link has no destination
abbrev pub bare_destination : ℕ → List ℕ → Option (ℕ × List ℕ)
bare_destination max_nesting bytes = option_map (λ n. (n, take n bytes)) (bare_length max_nesting false 0 bytes)

-- the length and the raw text of the destination that the bytes begin with
abbrev pub destination : ℕ → List ℕ → Option (ℕ × List ℕ)
destination max_nesting bytes =
    if slice_index bytes 0 == less_than then angle_destination (drop 1 bytes) else bare_destination max_nesting bytes

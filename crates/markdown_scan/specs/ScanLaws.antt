-- Laws of the scanners, in a reader's words.
use Rattle.std.specs.Prelude.{◌+◌, ◌||◌, [], ◌∷◌, suc, zero, take, Option, ◌≤◌, false, ℕ, Bool, not, ◌&&◌, ◌==◌, ◌≡◌}
use Rattle.std.specs.Prelude.{List, IfSome, IsTrue, ◌-◌, slice_index}
use Rattle.std.specs.Char.{is_ascii_punctuation}
use Rattle.std.specs.List.{list_all}
use Rattle.markdown_base.specs.Bytes.{ampersand, backslash, pipe, semicolon, space as space_byte}
use Rattle.markdown_scan.specs.Autolink.{uri_autolink, is_uri_byte}
use Rattle.markdown_scan.specs.AsciiKinds.{is_control_or_space}
use Rattle.markdown_scan.specs.Backslash.{is_bare}
use Rattle.markdown_scan.specs.Destination.{bare_destination}
use Rattle.markdown_scan.specs.Entity.{entity}
use Rattle.markdown_scan.specs.Label.{LabelByte, dropped, is_bracket, kept, label_body, label_bytes, refused}
use Rattle.markdown_scan.specs.LineStart.{LineLeft, leading_space, wider}
use Rattle.markdown_scan.specs.Unescape.{unescaped}
use Rattle.markdown_scan.specs.declared.entity.EntityNames.{EntityNames}
use Rattle.markdown_scan.specs.WikilinkPipe.{wikilink_pipe}

-- an autolink's text contains no space, no control character and no angle bracket
abbrev pub AutolinkIsPlain : List ℕ → ℕ → Type 0
AutolinkIsPlain text at = IfSome (uri_autolink text at) (λ found. IsTrue (list_all is_uri_byte found.1))

-- neither a backslash nor a `&`
abbrev pub is_plain_byte : ℕ → Bool
is_plain_byte b = not (b == backslash) && not (b == ampersand)

-- `unescaped` leaves a text without backslashes and `&` unchanged
abbrev pub UnescapingLeavesPlainText : EntityNames → Bool → List ℕ → Type 0
UnescapingLeavesPlainText names in_table text =
    IsTrue (list_all is_plain_byte text) → unescaped names in_table text ≡ text

-- a backslash and punctuation are replaced by the punctuation
abbrev pub EscapedPunctuationStandsForItself : EntityNames → ℕ → List ℕ → Type 0
EscapedPunctuationStandsForItself names mark text =
    IsTrue (is_ascii_punctuation mark)
    → unescaped names false (backslash ∷ mark ∷ text) ≡ mark ∷ unescaped names false text

-- not a pipe
abbrev pub is_no_pipe : ℕ → Bool
is_no_pipe b = not (b == pipe)

-- the name before a wikilink's pipe contains no pipe
abbrev pub WikilinkNameHoldsNoPipe : List ℕ → ℕ → ℕ → Type 0
WikilinkNameHoldsNoPipe text start size =
    IfSome (wikilink_pipe text start size) (λ found. IsTrue (list_all is_no_pipe found.1))

-- the first of n bytes is `first`, and the last of them is `last`
abbrev pub StandsBetween : ℕ → ℕ → List ℕ → ℕ → Type 0
StandsBetween first last bytes n =
    (slice_index bytes 0 ≡ first) × (slice_index bytes (n - 1) ≡ last)

-- an entity begins with `&` and ends with `;`
abbrev pub EntityBeginsAndEnds : EntityNames → List ℕ → Type 0
EntityBeginsAndEnds names bytes = IfSome (entity names bytes) (λ r. StandsBetween ampersand semicolon bytes r.0)

-- neither a space nor a control character
abbrev pub is_in_bare : ℕ → Bool
is_in_bare b = not (is_control_or_space b)

-- a destination without angle brackets contains no space and no control character
abbrev pub BareDestinationHoldsNoSpace : ℕ → List ℕ → Type 0
BareDestinationHoldsNoSpace max_nesting bytes =
    IfSome (bare_destination max_nesting bytes) (λ d. IsTrue (list_all is_in_bare d.1))

-- one of the brackets is not escaped; `escaped` if a backslash before the bytes escapes the first
abbrev pub holds_bare_bracket : Bool → List LabelByte → Bool
holds_bare_bracket escaped [] = false
holds_bare_bracket escaped (refused ∷ rest) = holds_bare_bracket escaped rest
holds_bare_bracket escaped (dropped ∷ rest) = holds_bare_bracket escaped rest
holds_bare_bracket escaped (kept b ∷ rest) =
    is_bracket escaped b || holds_bare_bracket (is_bare escaped b backslash) rest

-- before the closing bracket of a label each bracket is escaped, whatever the rule for its lines
abbrev pub LabelHoldsNoBareBracket : Bool → List ℕ → Type 0
LabelHoldsNoBareBracket in_table bytes =
    (skipped : List ℕ → Option ℕ) → IfSome (label_body skipped in_table bytes)
    (λ found. holds_bare_bracket false (take found.0 (label_bytes skipped 0 bytes)) ≡ false)

-- a line that begins with these bytes
abbrev pub line_of : List ℕ → LineLeft
line_of bytes = record { scanned = 0; owed = 0; column = 0; bytes = bytes }

-- a number of spaces, a tab, and then these bytes
abbrev pub spaces_and_tab : ℕ → List ℕ → List ℕ
spaces_and_tab zero bytes = 9 ∷ bytes
spaces_and_tab (suc spaces) bytes = space_byte ∷ spaces_and_tab spaces bytes

-- at most three spaces and a tab are four columns, and the next byte is at a tab stop
abbrev pub TabGoesToTheNextStop : ℕ → List ℕ → Type 0
TabGoesToTheNextStop spaces bytes =
    spaces ≤ 3 → leading_space 4 (line_of (spaces_and_tab spaces bytes))
    ≡ record {
      columns = 4;
      after = record { scanned = spaces + 1; owed = 0; column = 0; bytes = bytes };
    }

-- n and then m columns of space of the rest of any line are n + m columns
abbrev pub LineSpaceIsCountedByColumns : ℕ → ℕ → Type 0
LineSpaceIsCountedByColumns n m =
    (left : LineLeft) → leading_space (n + m) left
    ≡ wider (leading_space n left).columns (leading_space m (leading_space n left).after)

-- The scan of a label in progress, for private clauses: labels are defined in `Label`.
use Rattle.std.specs.Prelude.{◌≡◌, ◌≢◌, IfSome, ℕ, ◌+◌, List, [], ◌∷◌, ◌++◌, take, Bool, ◌&&◌, ◌||◌, Option, Some, None}
use Rattle.std.specs.Prelude.{not, ◌==◌, if◌then◌else◌, nat_le, nat_lt, count_by, option_and_then, encode_utf8, String}
use Rattle.std.specs.Prelude.{string_bytes}
use Rattle.std.specs.List.{list_any}
use Rattle.markdown_base.specs.Bytes.{backslash, space}
use Rattle.markdown_scan.specs.Backslash.{escapes_pipe, is_bare}
use Rattle.markdown_scan.specs.Label.{label_bytes, body, put_before, with_shown, begins_character, is_not_white_space}

-- the byte offset of the closing bracket, if the label fits: `at` bytes with this number of characters precede what was
-- found, and `solid` says whether one of these is not white space
abbrev pub end_after : ℕ → ℕ → Bool → Option (ℕ × List ℕ) → Option ℕ
end_after at characters solid found =
    option_and_then (λ f. if nat_le (characters + count_by begins_character f.1) 999
    && (solid || list_any is_not_white_space f.1) then Some (at + f.0) else None) found

-- no text that begins with `text` is a prefix of the source
abbrev pub IsNoBeginning : List ℕ → List ℕ → Type 0
IsNoBeginning text source = (rest : List ℕ) (n : ℕ) → text ++ rest ≢ take n source

-- the closing bracket and the text of a label in these bytes, the first of which is escaped or not
abbrev pub found_in : (List ℕ → Option ℕ) → Bool → Bool → List ℕ → Option (ℕ × List ℕ)
found_in skipped in_table escaped bytes = with_shown in_table (body escaped (label_bytes skipped 0 bytes))

-- what a byte adds to the text if these bytes follow it
abbrev pub byte_shown : Bool → ℕ → List ℕ → List ℕ
byte_shown in_table b bytes = if escapes_pipe in_table b bytes then [] else b ∷ []

-- what a character adds to the text if these bytes follow it
abbrev pub character_shown : Bool → ℕ → List ℕ → List ℕ
character_shown in_table c bytes = if escapes_pipe in_table c bytes then [] else encode_utf8 c

-- the byte is above a space, or it is a space that does not follow a space and is not the first byte
abbrev pub stays : Bool → ℕ → Bool
stays spaced b = nat_lt space b || ((b == space) && not spaced)

-- all bytes are above a space, except single spaces between others; `spaced` at the start and after a space
abbrev pub is_collapsed : Bool → List ℕ → Bool
is_collapsed spaced [] = not spaced
is_collapsed spaced (b ∷ bytes) = stays spaced b && is_collapsed (b == space) bytes

-- the owned text if there is one, and otherwise a prefix of the source
abbrev pub own_or : {Z : Type 0} → Option (String Z) → List ℕ → List ℕ
own_or (Some own) beginning = string_bytes own
own_or None beginning = beginning

-- the text of a label, if it is closed, ends before these bytes
abbrev pub EndsHere : (List ℕ → Option ℕ) → Bool → Bool → List ℕ → Type 0
EndsHere skipped in_table escaped bytes = IfSome (found_in skipped in_table escaped bytes) (λ f. f.1 ≡ [])

-- the text of a label continues with the character `c`, which the bytes `tail` follow
abbrev pub LabelGoesOn : (List ℕ → Option ℕ) → Bool → Bool → List ℕ → ℕ → List ℕ → Type 0
LabelGoesOn skipped in_table escaped bytes c tail =
    (m : ℕ) × (found_in skipped in_table escaped bytes
    ≡ put_before m (character_shown in_table c tail) (found_in skipped in_table (is_bare escaped c backslash) tail))

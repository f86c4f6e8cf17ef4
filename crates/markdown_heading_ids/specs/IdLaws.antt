-- What holds of each id that is given, whatever is taken.
use Rattle.std.specs.Prelude.{◌≡◌, ◌+◌, ◌<◌, ◌^◌, ◌==◌, ◌||◌, ℕ, nat_le, Bool, true, false, List, [], length}
use Rattle.std.specs.Prelude.{All, encode_utf8_all}
use Rattle.std.specs.Char.{is_ascii_alphanumeric}
use Rattle.std.specs.List.{list_all}
use Rattle.markdown_base.specs.Bytes.{hyphen, underscore}
use Rattle.markdown_heading_ids.specs.Anchors.{is_kept_in_anchor}
use Rattle.markdown_heading_ids.specs.HeadingIds.{Id, free_id, is_taken, with_ids}
use Rattle.markdown_heading_ids.specs.IdsOfEvents.{ids_given}
use Rattle.markdown_outline.specs.Outline.{Ranged}

-- an id that is given is not among those that are taken
abbrev pub GivenIdsAreFree : Type 0
GivenIdsAreFree = (taken : List Id) (anchor : List ℕ) → length taken < 2 ^ 64
    → is_taken taken (free_id taken anchor) ≡ false

-- where the empty id is taken, it is not empty
abbrev pub GivenIdsAreNotEmpty : Type 0
GivenIdsAreNotEmpty = (taken : List Id) (anchor : List ℕ) → length taken < 2 ^ 64 → is_taken taken [] ≡ true
    → free_id taken anchor ≡ [] → ⊥

-- it is the anchor itself unless that is taken
abbrev pub GivenIdsAreAnchors : Type 0
GivenIdsAreAnchors = (taken : List Id) (anchor : List ℕ) → is_taken taken anchor ≡ false
    → free_id taken anchor ≡ anchor

-- an id is the UTF-8 of some characters, each of which an anchor keeps
pub record IsOfWords (id : Id) : Type 0 where
  pub characters : List ℕ
  pub spelt : id ≡ encode_utf8_all characters
  pub kept : list_all is_kept_in_anchor characters ≡ true

-- so is each id that is given to a heading of these events
abbrev pub GivenIdsAreOfWords : Type 0
GivenIdsAreOfWords = (taken : List Id) (events : List Ranged) → All IsOfWords (ids_given events (with_ids taken events))

-- whether a byte is an ASCII letter or digit, `-` or `_`, or of a character outside of ASCII. So it is no ASCII white
-- space, and none of `&`, `<`, `>`, `"` and `'`, which HTML escapes.
abbrev pub is_id_byte : ℕ → Bool
is_id_byte b = nat_le 128 b || (is_ascii_alphanumeric b || ((b == hyphen) || (b == underscore)))

-- each byte of an id that is given is so
abbrev pub GivenIdsArePlain : Type 0
GivenIdsArePlain = (taken : List Id) (events : List Ranged)
    → All (λ (id : Id). list_all is_id_byte id ≡ true) (ids_given events (with_ids taken events))

-- where the empty id is taken, and there are not too many ids to count, no id that is given is empty
abbrev pub NoGivenIdIsEmpty : Type 0
NoGivenIdIsEmpty = (taken : List Id) (events : List Ranged) → is_taken taken [] ≡ true
    → length taken + length events < 2 ^ 64
    → All (λ (id : Id). 0 < length id) (ids_given events (with_ids taken events))

-- Runs of Texts, and the links that are made of the addresses in them.
use Rattle.std.specs.Prelude.{ℕ, zero, suc, ◌+◌, ◌-◌, ◌==◌, Bool, true, false, not, ◌&&◌, ◌||◌, nat_le, nat_lt}
use Rattle.std.specs.Prelude.{List, [], ◌∷◌, ◌++◌, length, take, drop, slice_range, Option, Some, None, if◌then◌else◌}
use Rattle.std.specs.List.{flat_map}
use Rattle.std.specs.Str.{bytes_eq}
use Rattle.std.specs.declared.ops.Range.{Range}
use Rattle.markdown_base.specs.Bytes.{ampersand}
use Rattle.markdown_base.specs.Event.{start, end, text, link}
use Rattle.markdown_base.specs.declared.tag.LinkType.{LinkType}
use Rattle.markdown_base.specs.declared.tag.LinkType.TheVariants as types
use Rattle.markdown_base.specs.declared.tag.TagEnd.{TagEnd}
use Rattle.markdown_base.specs.declared.tag.TagEnd.TheVariants as closes
use Rattle.markdown_out.specs.OutLaws.{RangedEvent}
use Rattle.markdown_autolinks.specs.AddressBytes.{byte_at}
use Rattle.markdown_autolinks.specs.Addresses.{address_destination, addresses_in}
use Rattle.markdown_autolinks.specs.declared.address.Address.{Address}
use Rattle.markdown_autolinks.specs.declared.address.AddressForm.{AddressForm}
use Rattle.markdown_autolinks.specs.declared.address.AddressForm.TheVariants as forms

-- a Text of a run: the bytes that are searched, those that are shown, where it is, and whether each byte that is
-- searched is the one of the source there
pub record RunTextView : Type 0 where
  pub searched : List ℕ
  pub shown : List ℕ
  pub range : Range ℕ
  pub exact : Bool

-- a character begins at a place, or the text ends there
abbrev pub is_cut_at : List ℕ → ℕ → Bool
is_cut_at source at =
    nat_le at (length source) && not (nat_le 128 (byte_at source at) && nat_lt (byte_at source at) 192)

-- a range is one of the source, between characters, and not empty
abbrev pub is_of_source : List ℕ → Range ℕ → Bool
is_of_source source range = nat_lt range.start range.end && is_cut_at source range.start && is_cut_at source range.end

-- a Text of which the source's bytes are searched: they are its own, or smart punctuation was made of them; what begins
-- with `&` was made of an entity
abbrev pub is_as_in_source : List ℕ → List ℕ → Bool
is_as_in_source shown bytes = bytes_eq bytes shown || not (byte_at bytes 0 == ampersand)

-- a Text of a run, by its bytes and its range
abbrev pub run_text : List ℕ → List ℕ × Range ℕ → RunTextView
run_text source t =
    if is_of_source source t.1 && is_as_in_source t.0 (slice_range source t.1.start t.1.end)
    then record { searched = slice_range source t.1.start t.1.end; shown = t.0; range = t.1; exact = true }
    else record { searched = t.0; shown = t.0; range = t.1; exact = false }

-- the first `n` bytes of a Text
abbrev pub first_part : ℕ → RunTextView → RunTextView
first_part n t = record {
  searched = take n t.searched;
  shown = take n t.searched;
  range = if t.exact then record { start = t.range.start; end = t.range.start + n } else t.range;
  exact = t.exact;
}

-- a Text without its first `n` bytes
abbrev pub last_part : ℕ → RunTextView → RunTextView
last_part n t = record {
  searched = drop n t.searched;
  shown = drop n t.searched;
  range = if t.exact then record { start = t.range.start + n; end = t.range.end } else t.range;
  exact = t.exact;
}

-- the first `n` bytes of a run
abbrev pub take_run : ℕ → List RunTextView → List RunTextView
take_run zero run = []
take_run (suc n) [] = []
take_run (suc n) (t ∷ run) =
    if nat_le (length t.searched) (suc n) then t ∷ take_run (suc n - length t.searched) run
    else first_part (suc n) t ∷ []

-- a run without its first `n` bytes
abbrev pub run_left : ℕ → List RunTextView → List RunTextView
run_left zero run = run
run_left (suc n) [] = []
run_left (suc n) (t ∷ run) =
    if nat_le (length t.searched) (suc n) then run_left (suc n - length t.searched) run
    else last_part (suc n) t ∷ run

-- the bytes of a run that are searched, and those that are shown
abbrev pub searched_bytes : List RunTextView → List ℕ
searched_bytes run = flat_map (λ t. t.searched) run

abbrev pub shown_bytes : List RunTextView → List ℕ
shown_bytes run = flat_map (λ t. t.shown) run

-- from the range of the first to that of the last
abbrev pub run_range : RunTextView → List RunTextView → Range ℕ
run_range t [] = t.range
run_range t (u ∷ us) = record { start = t.range.start; end = (run_range u us).end }

-- the range of a run
abbrev pub run_span : List RunTextView → Option (Range ℕ)
run_span [] = None
run_span (t ∷ run) = Some (run_range t run)

-- one Text of these bytes, or nothing where there are none
abbrev pub text_unless_empty : List ℕ → Range ℕ → List RangedEvent
text_unless_empty [] range = []
text_unless_empty (b ∷ bytes) range = (text (b ∷ bytes), range) ∷ []

-- a run as one Text, or nothing where it is empty
abbrev pub text_of_run : List RunTextView → List RangedEvent
text_of_run [] = []
text_of_run (t ∷ run) = text_unless_empty (shown_bytes (t ∷ run)) (run_range t run)

-- how the link of an address is said to be written
abbrev pub address_link_type : AddressForm → LinkType
address_link_type forms.Mail = types.Email
address_link_type other = types.Autolink

-- a link over a run, with one Text
abbrev pub link_over : LinkType → List ℕ → List RunTextView → List RangedEvent
link_over kind destination [] = []
link_over kind destination (t ∷ run) =
    (start (link (record { kind = kind; destination = destination; title = []; label = [] })), run_range t run)
    ∷ (text (searched_bytes (t ∷ run)), run_range t run)
    ∷ (end closes.Link, run_range t run) ∷ []

-- the events of what is left of a run after `used` bytes of the searched text: before each address what is between as
-- one Text, then the link of the address, and what is left at last
abbrev pub linked_events : List ℕ → ℕ → List RunTextView → List Address → List RangedEvent
linked_events searched used run [] = text_of_run (take_run (length searched - used) run)
linked_events searched used run (a ∷ addresses) =
    text_of_run (take_run (a.start - used) run)
    ++ link_over (address_link_type a.form) (address_destination searched a)
    (take_run (a.end - a.start) (run_left (a.start - used) run))
    ++ linked_events searched a.end (run_left (a.end - a.start) (run_left (a.start - used) run)) addresses

-- the events of a run in which no address is found: a single Text stays as it is, and more become one
abbrev pub merged_run : List RunTextView → List RangedEvent
merged_run (t ∷ []) = (text t.shown, t.range) ∷ []
merged_run run = text_of_run run

-- the events of a run with these addresses
abbrev pub run_with : List RunTextView → List Address → List RangedEvent
run_with run [] = merged_run run
run_with run (a ∷ addresses) = linked_events (searched_bytes run) 0 run (a ∷ addresses)

-- the events of a run, with the addresses in it as links
abbrev pub run_events : List RunTextView → List RangedEvent
run_events run = run_with run (addresses_in (searched_bytes run))

-- in this no addresses are looked for: a link, an image, a code block, an HTML block or metadata
abbrev pub is_left_alone : TagEnd → Bool
is_left_alone closes.Link = true
is_left_alone closes.Image = true
is_left_alone closes.CodeBlock = true
is_left_alone closes.HtmlBlock = true
is_left_alone (closes.MetadataBlock kind) = true
is_left_alone other = false

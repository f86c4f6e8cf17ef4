-- A call from C: its outcome, the number that it returns, and what the buffer then holds.
use Rattle.std.specs.Prelude.{◌≡◌, ◌⊎◌, ◌≤◌, ◌<◌, ℕ, ◌+◌, ℤ, Bool, true, false, not, ◌&&◌, ◌==◌, pos, negsuc}
use Rattle.std.specs.Prelude.{nat_le, ◌++◌, List}
use Rattle.std.specs.Prelude.{length, drop, flat_map, if◌then◌else◌}
use Rattle.std.specs.Prelude.{None, Result, Ok, Err, String, Vec, string_bytes}
use Rattle.std.specs.Global.{Global}
use Rattle.std.specs.Int.RustNames.{bit_and}
use Rattle.std.specs.Str.{IsUtf8}
use Rattle.markdown_additions.specs.Additions.{AdditionsView, AreFirstAdded, adds_ids, adds_no_ids}
use Rattle.markdown_additions.specs.Written.{BeginsTooDeep, FormView, as_html, as_lines, as_safe_html}
use Rattle.markdown_additions.specs.Written.{headings_of_text, written_of_text}
use Rattle.markdown_base.specs.declared.fault.Fault.{Fault}
use Rattle.markdown_base.specs.declared.fault.Fault.TheVariants as fault
use Rattle.markdown_base.specs.Source.{Source, source_as}
use Rattle.markdown_base.specs.Syntax.{full_syntax, profile_syntax}
use Rattle.markdown_base.specs.declared.syntax.Syntax.{Syntax}
use Rattle.markdown_render.specs.Words.{of_bits}
use Rattle.markdown_safe.specs.PlacedTree.{IsPlacedTree}
use Rattle.markdown_safe.specs.SafeHtml.{IsSafeHtml}
use Rattle.markdown_safe.specs.SafeRules.{SafeRulesView}
use Rattle.markdown_safe.specs.declared.rules.Images.{Images}
use Rattle.markdown_safe.specs.declared.rules.Images.TheVariants as images
use Rattle.markdown_text_json.specs.OutlineJson.{entry_line}
use Rattle.markdown_c.specs.declared.readings.Refusal.{Refusal}
use Rattle.markdown_c.specs.declared.readings.Refusal.TheVariants.{NotUtf8, Memory, Depth, UnknownOption}
use Rattle.markdown_c.specs.declared.readings.Refusal.TheVariants.{NotRecords, OverLimit, TooLong}

-- the refusal for an error of the library; no text has the error Blocks
abbrev pub refusal_of : Fault → Refusal
refusal_of fault.Memory = Memory
refusal_of fault.Depth = Depth
refusal_of fault.Blocks = Memory

-- an outcome, with the bytes of the text to write
abbrev pub bytes_of : {A : Type 0} → Result (String A) Refusal → Result (List ℕ) Refusal
bytes_of (Ok whole) = Ok (string_bytes whole)
bytes_of (Err refusal) = Err refusal

-- the same of an outcome that is bytes
abbrev pub vec_bytes : {A : Type 0} → Result (Vec ℕ Global) A → Result (List ℕ) A
vec_bytes (Ok bytes) = Ok bytes.items
vec_bytes (Err refusal) = Err refusal

-- the bits that enable extensions of the syntax, those from 1 to 11 and from 13 to 15
abbrev pub extension_flags : ℕ
extension_flags = 0xEFFE

-- the bit by which a caller asks for links of bare addresses
abbrev pub autolinks_flag : ℕ
autolinks_flag = 0x800_0000

-- the bit by which a caller asks for ids of headings
abbrev pub heading_ids_flag : ℕ
heading_ids_flag = 0x1000_0000

-- the bit by which a caller asks for the port's profile
abbrev pub profile_flag : ℕ
profile_flag = 0x2000_0000

-- the bit that asked for the full reading before that was the default, and now changes nothing
abbrev pub extended_flag : ℕ
extended_flag = 0x4000_0000

-- no bit is set but these
abbrev pub are_known : (bits : ℕ) → Bool
are_known bits =
    bit_and bits (extension_flags + autolinks_flag + heading_ids_flag + profile_flag + extended_flag) == bits

-- what is read of a text by these bits: all, or what the port's profile reads
abbrev pub syntax_by_bits : (bits : ℕ) → Syntax
syntax_by_bits bits =
    if bit_and bits profile_flag == 0 then full_syntax (of_bits bits) else profile_syntax (of_bits bits)

-- whether these bits make links of bare addresses; in the port's profile none do
abbrev pub gives_autolinks : (bits : ℕ) → Bool
gives_autolinks bits = (bit_and bits profile_flag == 0) && not (bit_and bits autolinks_flag == 0)

-- whether these bits give headings ids; in the port's profile none do
abbrev pub gives_ids : (bits : ℕ) → Bool
gives_ids bits = (bit_and bits profile_flag == 0) && not (bit_and bits heading_ids_flag == 0)

-- what these bits add to the events of a text
abbrev pub additions_by_bits : (bits : ℕ) → AdditionsView
additions_by_bits bits =
    record { autolinks = gives_autolinks bits; ids = if gives_ids bits then adds_ids else adds_no_ids }

-- what a call has to write is that of the text, or there is nothing, for this reason
abbrev pub IsOutcome : (IsOf : Source → List ℕ → Type 0) → (IsDeep : Source → Type 0) → (bits : ℕ) → (text : List ℕ)
    → Result (List ℕ) Refusal → Type 0
IsOutcome IsOf IsDeep bits text (Ok written) =
    (are_known bits ≡ true) × IsUtf8 text × IsOf (source_as (syntax_by_bits bits) text) written
IsOutcome IsOf IsDeep bits text (Err UnknownOption) = are_known bits ≡ false
IsOutcome IsOf IsDeep bits text (Err NotUtf8) = IsUtf8 text → ⊥
IsOutcome IsOf IsDeep bits text (Err Memory) = Unit {0}
IsOutcome IsOf IsDeep bits text (Err Depth) = IsDeep (source_as (syntax_by_bits bits) text)
IsOutcome IsOf IsDeep bits text (Err NotRecords) = ⊥
IsOutcome IsOf IsDeep bits text (Err TooLong) = ⊥
IsOutcome IsOf IsDeep bits text (Err OverLimit) = ⊥

-- among the first events of a text with what the bits add, as they are written in a form, more Starts are open in an
-- image than can be counted
abbrev pub IsTooDeepAsAsked : FormView → (bits : ℕ) → Source → Type 0
IsTooDeepAsAsked form bits s = BeginsTooDeep form (AreFirstAdded (additions_by_bits bits) s)

-- no text is too deep for lines
abbrev pub NeverTooDeep : Source → Type 0
NeverTooDeep s = ⊥

-- the HTML of a text with what the bits add, or why there is none
abbrev pub IsHtmlOutcome : (bits : ℕ) → (text : List ℕ) → Result (List ℕ) Refusal → Type 0
IsHtmlOutcome bits = IsOutcome (λ s html. html ≡ written_of_text as_html (additions_by_bits bits) s)
    (IsTooDeepAsAsked as_html bits) bits

-- the safe HTML by rules; it is safe, and a tree whose elements stand where a browser leaves them
pub record IsSafeHtmlOf (rules : SafeRulesView) (bits : ℕ) (s : Source) (html : List ℕ) : Type 0 where
  pub is : html ≡ written_of_text (as_safe_html rules) (additions_by_bits bits) s
  pub safe : IsSafeHtml html
  pub tree : IsPlacedTree html

abbrev pub IsSafeHtmlOutcome : (rules : SafeRulesView) → (bits : ℕ) → (text : List ℕ) → Result (List ℕ) Refusal
    → Type 0
IsSafeHtmlOutcome rules bits =
    IsOutcome (IsSafeHtmlOf rules bits) (IsTooDeepAsAsked (as_safe_html rules) bits) bits

-- the lines of the events
abbrev pub IsJsonOutcome : (bits : ℕ) → (text : List ℕ) → Result (List ℕ) Refusal → Type 0
IsJsonOutcome bits =
    IsOutcome (λ s lines. lines ≡ written_of_text as_lines (additions_by_bits bits) s) NeverTooDeep bits

-- the lines of the headings of a text, with their ids where the bits give them ids
abbrev pub outline_by_bits : (bits : ℕ) → Source → List ℕ
outline_by_bits bits s =
    flat_map (entry_line (gives_ids bits)) (headings_of_text None (additions_by_bits bits) s)

abbrev pub IsOutlineOutcome : (bits : ℕ) → (text : List ℕ) → Result (List ℕ) Refusal → Type 0
IsOutlineOutcome bits = IsOutcome (λ s lines. lines ≡ outline_by_bits bits s) NeverTooDeep bits

-- what a call chooses of safe HTML
pub record SafeChoiceView : Type 0 where
  -- what follows `user-content-` in ids
  pub prefix : List ℕ
  -- what becomes of images, and whether links to other sites have a `rel`
  pub bits : ℕ
  -- how many tags may stand in one another
  pub nesting : ℕ
  -- how many bytes the HTML may have
  pub limit : ℕ

-- the bit by which images become links
abbrev pub image_links_flag : ℕ
image_links_flag = 1

-- the bit by which images become text
abbrev pub image_texts_flag : ℕ
image_texts_flag = 2

-- the bit by which links to other sites have no `rel`
abbrev pub no_rel_flag : ℕ
no_rel_flag = 4

-- no bit of a choice is set but these
abbrev pub are_choices : (bits : ℕ) → Bool
are_choices bits = bit_and bits (image_links_flag + image_texts_flag + no_rel_flag) == bits

-- what becomes of images by these bits: text, where both are set
abbrev pub images_by_bits : (bits : ℕ) → Images
images_by_bits bits =
    if not (bit_and bits image_texts_flag == 0) then images.Text
    else if not (bit_and bits image_links_flag == 0) then images.Links
    else images.Shown

-- the rules that a call chooses
abbrev pub rules_chosen : SafeChoiceView → SafeRulesView
rules_chosen c = record {
  prefix = c.prefix;
  images = images_by_bits c.bits;
  rel = bit_and c.bits no_rel_flag == 0;
  nesting = c.nesting;
}

-- the outcome of a call that chooses: it is one by the rules chosen, and its HTML is within the limit; or the choice
-- means nothing
abbrev pub IsChosenOutcome : (IsBy : SafeRulesView → Result (List ℕ) Refusal → Type 0) → SafeChoiceView
    → Result (List ℕ) Refusal → Type 0
IsChosenOutcome IsBy c (Ok html) = (are_choices c.bits ≡ true) × IsUtf8 c.prefix × IsBy (rules_chosen c) (Ok html)
    × (length html ≤ c.limit)
IsChosenOutcome IsBy c (Err UnknownOption) =
    (are_choices c.bits ≡ false) ⊎ IsBy (rules_chosen c) (Err UnknownOption)
IsChosenOutcome IsBy c (Err NotUtf8) = (IsUtf8 c.prefix → ⊥) ⊎ IsBy (rules_chosen c) (Err NotUtf8)
IsChosenOutcome IsBy c (Err Memory) = Unit {0}
IsChosenOutcome IsBy c (Err Depth) = IsBy (rules_chosen c) (Err Depth)
IsChosenOutcome IsBy c (Err NotRecords) = IsBy (rules_chosen c) (Err NotRecords)
IsChosenOutcome IsBy c (Err TooLong) = IsBy (rules_chosen c) (Err TooLong)
IsChosenOutcome IsBy c (Err OverLimit) =
    (html : List ℕ) × IsBy (rules_chosen c) (Ok html) × (c.limit < length html)

-- the status of a refusal, from -1 to -7
abbrev pub refusal_status : Refusal → ℤ
refusal_status NotUtf8 = negsuc 0
refusal_status Memory = negsuc 1
refusal_status Depth = negsuc 2
refusal_status UnknownOption = negsuc 3
refusal_status NotRecords = negsuc 4
refusal_status TooLong = negsuc 5
refusal_status OverLimit = negsuc 6

-- the number that is returned: the length of the text to write, or a status
abbrev pub returned_number : Result (List ℕ) Refusal → ℤ
returned_number (Ok whole) = pos (length whole)
returned_number (Err refusal) = refusal_status refusal

-- what the buffer then holds: the text to write at the front, where it fits, and otherwise what it held before
abbrev pub buffer_after : (old : List ℕ) → Result (List ℕ) Refusal → List ℕ
buffer_after old (Ok whole) =
    if nat_le (length whole) (length old) then whole ++ drop (length whole) old else old
buffer_after old (Err refusal) = old

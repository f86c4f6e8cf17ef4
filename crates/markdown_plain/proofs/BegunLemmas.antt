-- What a line begins: with or without a paragraph that it may go on with; and what holds of each block that a line
-- may begin holds of what it begins.
use Rattle.std.proofs.Common.{◌≡◌, ◌⊎◌, inl, inr, ⊎_elim, ℕ, suc, ◌+◌, ◌-◌, ◌<◌, Bool, true, false, ◌&&◌, ◌||◌, ◌==◌}
use Rattle.std.proofs.Common.{List, [], ◌∷◌, Option, Some, None, length, drop, slice_range, codes, nat_le, nat_lt, refl}
use Rattle.std.proofs.Common.{sym, ap, ◌∙◌, subst, arith, ◌++◌, not, take}
use Rattle.markdown_plain.proofs.Names.{and_parts, or_right, nat_tests, none-some, same_Some, prefix_len, list_all}
use Rattle.markdown_plain.proofs.Names.{option_or, hyphen, Forest, Syntax, MetadataBlockKind, begins_with, LineLeft}
use Rattle.markdown_plain.proofs.Names.{Space, column_after, leading_space, space_from, space_width, past_marker}
use Rattle.markdown_plain.proofs.Names.{HtmlKind, ListMarker, Position, Source, Beginning, begins, begins_after}
use Rattle.markdown_plain.proofs.Names.{item_in_line, item_of, metadata_begun, is_paragraph}
use Rattle.markdown_plain.proofs.Names.{is_reached, past_bytes, is_space_or_tab, left_from, SourceLine, is_blank_rest}
use Rattle.markdown_plain.proofs.Names.{rest_inside, slice_same, rest_of_part, Block, another_item, begun_by, begun_in}
use Rattle.markdown_plain.proofs.Names.{inside_of, is_text, line_block, new_blocks, next_item, either, HeadingLevel}
use Rattle.markdown_plain.proofs.Names.{BlockQuoteKind, AtxHeading, prefix_len-le-length, prefix_len_passes}
use Rattle.std.proofs.lemmas.Bool.{true≢false}
use Rattle.std.specs.Prelude.{get_or, unwrap_or, if◌then◌else◌, slice_index}
use Rattle.std.specs.Option.{option_and_then, option_map}
use Rattle.std.specs.Char.{is_ascii_digit}
use Rattle.std.proofs.lemmas.List.{get_or-drop, length-drop}
use Rattle.markdown_base.specs.Syntax.{reads_metadata}
use Rattle.markdown_base.specs.Bytes.{plus_sign}
use Rattle.markdown_lines.specs.declared.block_start.Before.{Before}
use Rattle.markdown_lines.specs.BlockBeginnings.{first_found, break_in_line, fence_in_line, footnote_in_line}
use Rattle.markdown_lines.specs.BlockBeginnings.{heading_in_line, html_in_line, quote_in_line, underline_in_line}
use Rattle.markdown_lines.specs.BlockBeginnings.{footnote_marker, label_before_colon, quote_of, quote_or_alert}
use Rattle.markdown_lines.specs.BlockBeginnings.{whole_heading}
use Rattle.markdown_lines.specs.HtmlBeginnings.{is_lone_tag, known_kind, html_kind_of, in_one_line}
use Rattle.markdown_lines.specs.ListMarkers.{if_it_stands, marker_of, decimal, ends_number, is_bullet, ordered_marker}
use Rattle.markdown_lines.specs.ListMarkers.{ordered_marker_of, stands_before}
use Rattle.markdown_lines.specs.MetadataBlocks.{are_of_metadata, is_three_of, lines_at, metadata_opened, opened_before}
use Rattle.markdown_lines.specs.ThematicBreaks.{is_thematic_break, setext_level}
use Rattle.markdown_lines.proofs.BlockStartsLemmas.{after_less_than, after_mark}
use Rattle.markdown_block_rules.proofs.BlockBeginningsLemmas.{HoldsLess, begins_less, begun_same}
use Rattle.markdown_lines.specs.LineBytes.{is_parted}
use Rattle.markdown_plain.specs.Beginning.{NeedsRoom}
use Rattle.markdown_scan.specs.Label.{link_label}
use Rattle.markdown_lines.specs.Alerts.{alert_read}
use Rattle.markdown_lines.specs.declared.fence.OpeningFence.{OpeningFence}
use Rattle.markdown_base.specs.declared.tag.MetadataBlockKind.TheVariants as metadata
use Rattle.markdown_lines.specs.declared.block_start.Before.TheVariants as paragraph
use Rattle.markdown_lines.specs.declared.html_kind.HtmlKind.TheVariants as html
use Rattle.markdown_lines.specs.BlockBeginnings as line
use Rattle.markdown_base.specs.declared.tag.HeadingLevel.TheVariants as level
use Rattle.markdown_plain.proofs.LeafTreesLemmas.{on_test, by_test}
use Rattle.markdown_plain.proofs.ParagraphTreesLemmas.{if_some}

-- ---- what is left of a line, in its text

-- these bytes of the text are left of a line
abbrev pub IsLeftOf : List ℕ → LineLeft → Type 0
IsLeftOf text left = slice_range text left.scanned (left.scanned + length left.bytes) ≡ left.bytes

pub left_from_is_of : (text : List ℕ) (position : Position) (stop : ℕ) (left : LineLeft)
    → left_from text position stop ≡ left → IsLeftOf text left
left_from_is_of text position stop left is = subst (IsLeftOf text) is (slice_same text position.at stop)

-- a byte fewer
pub next_is_of : (text : List ℕ) (scanned owed next column after b : ℕ) (bytes : List ℕ)
    → IsLeftOf text (record { scanned = scanned; owed = owed; column = column; bytes = b ∷ bytes })
    → IsLeftOf text (record { scanned = scanned + 1; owed = next; column = after; bytes = bytes })
next_is_of text scanned owed next column after b bytes is =
    let stop : scanned + 1 + length bytes ≡ scanned + suc (length bytes) = omega arith in
    ap (slice_range text (scanned + 1)) stop
    ∙ (sym (rest_of_part text scanned (scanned + suc (length bytes)) 1) ∙ ap (drop 1) is)

space_from_is_of : (text : List ℕ) (n scanned column : ℕ) (bytes : List ℕ)
    → IsLeftOf text (record { scanned = scanned; owed = 0; column = column; bytes = bytes })
    → IsLeftOf text (space_from n scanned column bytes).after
space_from_is_of text n scanned column [] is = is
space_from_is_of text n scanned column (b ∷ bytes) is =
    let w = space_width column b in let after = column_after column b in
    either (λ (space : Space). IsLeftOf text space.after) ((n == 0) || (w == 0)) _ _ is
    (either (λ (space : Space). IsLeftOf text space.after) (nat_lt n w) _ _
    (next_is_of text scanned 0 (w - n) column after b bytes is)
    (space_from_is_of text (n - w) (scanned + 1) after bytes (next_is_of text scanned 0 0 column after b bytes is)))

pub space_is_of : (text : List ℕ) (n : ℕ) (left : LineLeft) → IsLeftOf text left
    → IsLeftOf text (leading_space n left).after
space_is_of text n left is = either (λ (space : Space). IsLeftOf text space.after) (nat_le n left.owed) _ _ is
    (space_from_is_of text (n - left.owed) left.scanned left.column left.bytes is)

-- a byte that is no space stays after space
byte_stays : (left : LineLeft) (byte n : ℕ) (more : List ℕ) → left.bytes ≡ byte ∷ more
    → (space_width left.column byte == 0) ≡ true → (leading_space n left).after.bytes ≡ byte ∷ more
byte_stays left byte n more are none =
    either (λ (space : Space). space.after.bytes ≡ byte ∷ more) (nat_le n left.owed) _ _ are
    (rw (are, or_right (n - left.owed == 0) (space_width left.column byte == 0) none) refl)

-- ---- three of a byte

same_number : (n m : ℕ) → (n == m) ≡ true → n ≡ m
same_number n m is = grind (arith, nat_tests, is)

-- a byte twice, and what follows, with which it is there three times
record Three (sign : ℕ) (bytes : List ℕ) : Type 0 where
  more : List ℕ
  are : bytes ≡ sign ∷ sign ∷ more
  count : prefix_len (λ b. b == sign) bytes ≡ 3
  white : list_all is_space_or_tab (drop 3 bytes) ≡ true

three_of : (sign : ℕ) (bytes : List ℕ) → is_three_of sign bytes ≡ true → Three sign bytes
three_of sign (b ∷ c ∷ more) three =
    let parts = and_parts _ _ three in
    let count : prefix_len (λ d. d == sign) (b ∷ c ∷ more) ≡ 3 = same_number _ _ parts.0 in
    let at : (k : ℕ) → k < 3 → get_or (b ∷ c ∷ more) k 0 ≡ sign = λ k few.
    same_number _ _ (prefix_len_passes (λ d. d == sign) (b ∷ c ∷ more) k 0 (omega (arith, count, few))) in
    let first : b ≡ sign = at 0 (omega arith) in let second : c ≡ sign = at 1 (omega arith) in
    record { more = more; are = rw (first, second) refl; count = count; white = parts.1 }
three_of sign bytes three =
    let n = prefix_len (λ b. b == sign) bytes in
    let count : n ≡ 3 = same_number n 3 (and_parts (n == 3) (list_all is_space_or_tab (drop 3 bytes)) three).0 in
    absurd (omega (arith, count, prefix_len-le-length (λ b. b == sign) bytes))

-- three pluses begin nothing else that could continue a paragraph
pluses_are_text : (s : Source) (columns : ℕ) (here : LineLeft) (more : List ℕ) → IsLeftOf s.text here
    → here.bytes ≡ 43 ∷ 43 ∷ more → begins_after s paragraph.Lazy columns here ≡ line.begins_text
pluses_are_text s columns here more own are =
    after_mark s paragraph.Lazy columns here own (rw are refl) ∙ rw (own, are) refl

-- three hyphens are an underline
hyphens_underline : (s : Source) (columns : ℕ) (here : LineLeft) → IsLeftOf s.text here → Three hyphen here.bytes
    → begins_after s paragraph.Reached columns here ≡ line.begins_underline level.H2
hyphens_underline s columns here own three =
    let level : setext_level here.bytes ≡ Some level.H2 =
    rw three.are (rw (rw three.are at three.count, rw three.are at three.white) refl) in
    after_mark s paragraph.Reached columns here own (rw three.are refl) ∙ rw level refl

-- ---- metadata

-- the byte that opens metadata of a kind
abbrev pub sign_of : MetadataBlockKind → ℕ
sign_of metadata.YamlStyle = hyphen
sign_of metadata.PlusesStyle = plus_sign

-- a line that opens metadata is three times this byte, and that is read
pub record OpensMetadata (syntax : Syntax) (content : List ℕ) (kind : MetadataBlockKind) : Type 0 where
  pub three : is_three_of (sign_of kind) content ≡ true
  pub read : reads_metadata syntax kind ≡ true

pub opens_metadata : (syntax : Syntax) (text content : List ℕ) (next : ℕ) (kind : MetadataBlockKind)
    → metadata_opened syntax text content next ≡ Some kind → OpensMetadata syntax content kind
opens_metadata syntax text content next kind opened =
    by_test (is_three_of hyphen content) (λ these. of_kind metadata.YamlStyle these (rw these at opened))
    (λ none. by_test (is_three_of plus_sign content)
    (λ others. of_kind metadata.PlusesStyle others (rw (none, others) at opened))
    (λ neither. absurd (none-some kind (rw (none, neither) at opened))))
  where
    of_kind : (of : MetadataBlockKind) → is_three_of (sign_of of) content ≡ true
        → opened_before syntax text next of ≡ Some kind → OpensMetadata syntax content kind
    of_kind of three is =
        let found = if_some (reads_metadata syntax of && are_of_metadata of (lines_at text next)) (Some of) kind is in
        subst (OpensMetadata syntax content) (same_Some of kind found.1)
        (record { three = three; read = (and_parts _ _ found.0).0 })

-- ---- what a line begins where it may go on with a paragraph, and where it may not

-- what it begins where it has fewer than four columns of space, and no metadata begins
abbrev begins_in_line : Source → Before → SourceLine → Beginning
begins_in_line s before l = begins_after s before (leading_space 4 l.left).columns (leading_space 4 l.left).after

-- what holds of what it begins in either case, holds where it does of text or code, of metadata, and of the rest
begins_both : (R : Beginning → Beginning → Type 0) (s : Source) (one other : Before) (l : SourceLine)
    → R (if is_paragraph one then line.begins_text else line.begins_indented (leading_space 4 l.left).after)
    (if is_paragraph other then line.begins_text else line.begins_indented (leading_space 4 l.left).after)
    → ((kind : MetadataBlockKind) → metadata_opened s.syntax s.text l.left.bytes l.next ≡ Some kind
    → R (unwrap_or (metadata_begun one kind) (begins_in_line s one l))
    (unwrap_or (metadata_begun other kind) (begins_in_line s other l)))
    → R (begins_in_line s one l) (begins_in_line s other l) → R (begins s one l) (begins s other l)
begins_both R s one other l full opens after = by_test ((leading_space 4 l.left).columns == 4) (λ e. rw e full)
    (λ e. rw e (by_test l.outermost (λ o. rw o (by_kind _ refl)) (λ o. rw o after)))
  where
    by_kind : (opened : Option MetadataBlockKind) → metadata_opened s.syntax s.text l.left.bytes l.next ≡ opened
        → R (unwrap_or (option_and_then (metadata_begun one) opened) (begins_in_line s one l))
        (unwrap_or (option_and_then (metadata_begun other) opened) (begins_in_line s other l))
    by_kind None is = after
    by_kind (Some kind) is = opens kind is

-- what a line begins where there is no paragraph is what it begins where it could continue one, or that is text, and
-- it is no item
abbrev Alike : (lazy plain : Beginning) → Type 0
Alike lazy plain = (plain ≡ lazy) ⊎ ((lazy ≡ line.begins_text)
    × ((s : Source) (l : SourceLine) (marker : ListMarker) → another_item s l marker plain ≡ None))

first_is_less_than : (bytes : List ℕ) → begins_with (codes "<") bytes ≡ true → slice_index bytes 0 ≡ 60
first_is_less_than [] begins = absurd (true≢false (sym begins))
first_is_less_than (b ∷ bytes) begins = grind (arith, nat_tests, begins)

html_alike : (known : Option HtmlKind) (lone : Bool)
    → Alike (first_found (option_map line.begins_html (option_or known None) ∷ []))
    (first_found (option_map line.begins_html (option_or known (if lone then Some html.LoneTag else None)) ∷ []))
html_alike (Some kind) lone = inl refl
html_alike None true = inr (refl, λ s l marker. refl)
html_alike None false = inl refl

after_alike : (s : Source) (columns : ℕ) (here : LineLeft) → IsLeftOf s.text here
    → Alike (begins_after s paragraph.Lazy columns here) (begins_after s paragraph.NoParagraph columns here)
after_alike s columns here own = by_test (begins_with (codes "<") here.bytes) (λ is.
    let first = first_is_less_than here.bytes is in
    let lazy = after_less_than s paragraph.Lazy columns here own first in
    let plain = after_less_than s paragraph.NoParagraph columns here own first in
    rw (lazy, plain, is) (html_alike (known_kind (drop 1 here.bytes)) (is_lone_tag here.bytes)))
    (λ is. inl (rw is refl))

begins_alike : (s : Source) (l : SourceLine) → IsLeftOf s.text l.left
    → Alike (begins s paragraph.Lazy l) (begins s paragraph.NoParagraph l)
begins_alike s l own =
    begins_both Alike s paragraph.Lazy paragraph.NoParagraph l (inr (refl, λ s l marker. refl)) by_kind
    (after_alike s (leading_space 4 l.left).columns (leading_space 4 l.left).after (space_is_of s.text 4 l.left own))
  where
    by_kind : (kind : MetadataBlockKind) → metadata_opened s.syntax s.text l.left.bytes l.next ≡ Some kind
        → Alike (unwrap_or (metadata_begun paragraph.Lazy kind) (begins_in_line s paragraph.Lazy l))
        (unwrap_or (metadata_begun paragraph.NoParagraph kind) (begins_in_line s paragraph.NoParagraph l))
    by_kind metadata.YamlStyle is = inl refl
    by_kind metadata.PlusesStyle is =
        let three = three_of plus_sign l.left.bytes (opens_metadata s.syntax s.text l.left.bytes l.next _ is).three in
        let text = pluses_are_text s (leading_space 4 l.left).columns (leading_space 4 l.left).after three.more
        (space_is_of s.text 4 l.left own) (byte_stays l.left 43 4 _ three.are refl) in
        inr (text, λ s l marker. refl)

-- ---- what begins inside

-- the blocks that a line begins, from what begins with its rest
new_alike : (l : SourceLine) (b : Beginning) (f g : LineLeft → Forest Block) (n : ℕ) → HoldsLess n b
    → ((rest : LineLeft) → length rest.bytes < n → f rest ≡ g rest) → new_blocks f l b ≡ new_blocks g l b
new_alike l (line.begins_quote rest) f g n less same = rw (same rest less) refl
new_alike l (line.begins_footnote label rest) f g n less same = rw (same rest less) refl
new_alike l (line.begins_item marker indent rest) f g n less same = rw (same rest less) refl
new_alike l other f g n less same = refl

-- the blocks that a line begins hold those that the rest of it begins
pub begun_once : (s : Source) (l : SourceLine)
    → begun_by s l ≡ new_blocks (inside_of (begun_by s) l) l (begins s paragraph.NoParagraph l)
unfolding begun_in
begun_once s l =
    let n = length l.left.bytes in
    new_alike l (begins s paragraph.NoParagraph l) (inside_of (begun_in n s) l) (inside_of (begun_by s) l) n
    (begins_less s paragraph.NoParagraph l) (λ rest less.
    let same : begun_in n s (rest_inside rest l) ≡ begun_by s (rest_inside rest l) =
    begun_same n (suc (length rest.bytes)) s (rest_inside rest l) less (omega arith) in rw same refl)

-- a line that is not blank is what it begins
pub block_begun : (s : Source) (l : SourceLine) → is_blank_rest l ≡ false
    → line_block s l ≡ new_blocks (inside_of (begun_by s) l) l (begins s paragraph.NoParagraph l)
block_begun s l filled = rw filled (begun_once s l)

-- and is in a list the item that it begins
pub item_begun : (s : Source) (l : SourceLine) (marker : ListMarker) → IsLeftOf s.text l.left → is_blank_rest l ≡ false
    → next_item s l marker ≡ another_item s l marker (begins s paragraph.NoParagraph l)
item_begun s l marker own filled = rw filled (⊎_elim (λ same. ap (another_item s l marker) (sym same))
    (λ text. ap (another_item s l marker) text.0 ∙ sym (text.1 s l marker)) (begins_alike s l own))

-- ---- no text, and no underline

-- a block begins that is neither a further line of a paragraph nor its underline
abbrev pub BeginsBlock : Beginning → Type 0
BeginsBlock line.begins_text = ⊥
BeginsBlock (line.begins_underline level) = ⊥
BeginsBlock other = Unit

-- what needs room is one
pub block_needed : (b : Beginning) → NeedsRoom b → BeginsBlock b
block_needed line.begins_text needs = needs
block_needed (line.begins_underline level) needs = needs
block_needed other needs = tt

-- it is no text
pub is_no_text : (b : Beginning) → BeginsBlock b → is_text b ≡ false
is_no_text line.begins_text block = absurd block
is_no_text other block = refl

-- ---- what interrupts a paragraph that the line reaches

-- a block that begins where the line reaches a paragraph begins where it could only continue that lazily
abbrev Interrupts : (reached lazy : Beginning) → Type 0
Interrupts reached lazy = BeginsBlock reached → lazy ≡ reached

-- a marker that may interrupt a paragraph stands anywhere
marker_alone : (marker : Option ListMarker) (content : List ℕ) (found : ListMarker)
    → if_it_stands marker content true ≡ Some found → if_it_stands marker content false ≡ Some found
marker_alone None content found is = absurd (none-some found is)
marker_alone (Some marker) content found is =
    let test = if_some (stands_before marker (drop marker.width content) true) (Some marker) found is in
    rw ((and_parts (is_parted (drop marker.width content)) _ test.0).0) test.1

-- a break or an item is found where the paragraph's underline comes before them
last_alone : (level : Option HeadingLevel) (broken : Option Beginning) (reached lazy : Option ListMarker)
    (item : ListMarker → Beginning) → ((found : ListMarker) → reached ≡ Some found → lazy ≡ Some found)
    → Interrupts (first_found (option_map line.begins_underline level ∷ broken ∷ option_map item reached ∷ []))
    (first_found (None ∷ broken ∷ option_map item lazy ∷ []))
last_alone None (Some found) reached lazy item same = λ block. refl
last_alone None None (Some found) lazy item same = λ block. rw (same found refl) refl
last_alone level broken reached lazy item same = λ block. absurd block

-- or something is found before them
first_alone : (first reached lazy : List (Option Beginning)) → Interrupts (first_found reached) (first_found lazy)
    → Interrupts (first_found (first ++ reached)) (first_found (first ++ lazy))
first_alone [] reached lazy others = others
first_alone (None ∷ first) reached lazy others = first_alone first reached lazy others
first_alone (Some found ∷ first) reached lazy others = λ block. refl

after_alone : (s : Source) (columns : ℕ) (here : LineLeft)
    → Interrupts (begins_after s paragraph.Reached columns here) (begins_after s paragraph.Lazy columns here)
after_alone s columns here =
    let content = slice_range s.text here.scanned (here.scanned + length here.bytes) in
    first_alone (quote_in_line s here ∷ heading_in_line s here ∷ fence_in_line s columns here ∷
    html_in_line paragraph.Lazy here ∷ footnote_in_line s.syntax here ∷ [])
    (underline_in_line paragraph.Reached here ∷ break_in_line here ∷ item_in_line s paragraph.Reached columns here ∷ [])
    (underline_in_line paragraph.Lazy here ∷ break_in_line here ∷ item_in_line s paragraph.Lazy columns here ∷ [])
    (last_alone (setext_level here.bytes) (break_in_line here) (if_it_stands (marker_of content) content true)
    (if_it_stands (marker_of content) content false) (item_of columns here) (marker_alone (marker_of content) content))

-- where the line reaches a paragraph, it begins what it would if it could only continue that lazily
reached_alone : (s : Source) (l : SourceLine) → IsLeftOf s.text l.left
    → Interrupts (begins s paragraph.Reached l) (begins s paragraph.Lazy l)
reached_alone s l own = begins_both Interrupts s paragraph.Reached paragraph.Lazy l (λ block. refl) by_kind alone
  where
    alone : Interrupts (begins_in_line s paragraph.Reached l) (begins_in_line s paragraph.Lazy l)
    alone = after_alone s (leading_space 4 l.left).columns (leading_space 4 l.left).after

    by_kind : (kind : MetadataBlockKind) → metadata_opened s.syntax s.text l.left.bytes l.next ≡ Some kind
        → Interrupts (unwrap_or (metadata_begun paragraph.Reached kind) (begins_in_line s paragraph.Reached l))
        (unwrap_or (metadata_begun paragraph.Lazy kind) (begins_in_line s paragraph.Lazy l))
    by_kind metadata.PlusesStyle is = alone
    by_kind metadata.YamlStyle is =
        let three = three_of hyphen l.left.bytes (opens_metadata s.syntax s.text l.left.bytes l.next _ is).three in
        let stay = byte_stays l.left 45 4 _ three.are refl ∙ sym three.are in
        λ block. absurd (subst BeginsBlock (hyphens_underline s _ (leading_space 4 l.left).after
        (space_is_of s.text 4 l.left own) (subst (Three hyphen) (sym stay) three)) block)

-- what begins a block where the line could only continue a paragraph lazily, begins that where there is none
lazily_alone : (s : Source) (l : SourceLine) → IsLeftOf s.text l.left
    → Interrupts (begins s paragraph.Lazy l) (begins s paragraph.NoParagraph l)
lazily_alone s l own block =
    ⊎_elim (λ same. same) (λ text. absurd (subst BeginsBlock text.0 block)) (begins_alike s l own)

-- it begins the same where there is none, however it may go on with one
pub begins_alone : (s : Source) (before : Before) (l : SourceLine) (b : Beginning) → IsLeftOf s.text l.left
    → begins s before l ≡ b → BeginsBlock b → begins s paragraph.NoParagraph l ≡ b
begins_alone s paragraph.NoParagraph l b own is block = is
begins_alone s paragraph.Lazy l b own is block = lazily_alone s l own (subst BeginsBlock (sym is) block) ∙ is
begins_alone s paragraph.Reached l b own is block =
    let lazily = reached_alone s l own (subst BeginsBlock (sym is) block) ∙ is in
    lazily_alone s l own (subst BeginsBlock (sym lazily) block) ∙ lazily

-- ---- what was found

-- it holds of what was found, if something was
abbrev pub IfFound : (Beginning → Type 0) → Option Beginning → Type 0
IfFound P None = Unit
IfFound P (Some b) = P b

-- it does of each of some that were found
abbrev AllFound : (Beginning → Type 0) → List (Option Beginning) → Type 0
AllFound P [] = Unit
AllFound P (o ∷ others) = IfFound P o × AllFound P others

first_holds : (P : Beginning → Type 0) (found : List (Option Beginning)) → P line.begins_text → AllFound P found
    → P (first_found found)
first_holds P [] text all = text
first_holds P (None ∷ others) text all = first_holds P others text all.1
first_holds P (Some b ∷ others) text all = all.0

pub mapped_holds : {A : Type 0} (P : Beginning → Type 0) (f : A → Beginning) (found : Option A) → ((a : A) → P (f a))
    → IfFound P (option_map f found)
mapped_holds P f None holds = tt
mapped_holds P f (Some a) holds = holds a

-- ---- the marker of a list item

-- it holds of a marker, if one was found
abbrev IfMarker : (ListMarker → Type 0) → Option ListMarker → Type 0
IfMarker P None = Unit
IfMarker P (Some marker) = P marker

-- bytes begin with a marker: with no white space, and the marker's last byte is ASCII
pub record IsMarkerOf (bytes : List ℕ) (marker : ListMarker) : Type 0 where
  pub last : ℕ
  pub width : marker.width ≡ last + 1
  pub less : last < length bytes
  pub ascii : slice_index bytes last < 128
  pub first : prefix_len is_space_or_tab bytes ≡ 0

ordered_is : (bytes digits rest : List ℕ) (count : ℕ) → drop count bytes ≡ rest
    → prefix_len is_space_or_tab bytes ≡ 0 → IfMarker (IsMarkerOf bytes) (ordered_marker_of digits rest count)
ordered_is bytes digits [] count is first = tt
ordered_is bytes digits (byte ∷ rest) count is first =
    on_test (IfMarker (IsMarkerOf bytes)) ((count == 0) || nat_lt 9 count || not (ends_number byte)) None
    (Some (record { character = byte; first = decimal digits; width = count + 1 })) (λ none. tt) (λ some.
    let place : count + 0 ≡ count = omega arith in
    let same : slice_index bytes count ≡ byte =
    rw (sym place) (sym (get_or-drop count bytes 0 0) ∙ ap (λ (bs : List ℕ). slice_index bs 0) is) in
    let small : byte < 128 = grind (arith, nat_tests, some) in
    record {
      last = count;
      width = refl;
      less = omega (arith, ap length is, length-drop count bytes);
      ascii = omega (arith, same, small);
      first = first;
    })

marker_is : (bytes : List ℕ) → IfMarker (IsMarkerOf bytes) (marker_of bytes)
marker_is [] = tt
marker_is (byte ∷ bytes) = by_test (is_space_or_tab byte) (λ white.
    let bullet : is_bullet byte ≡ false = grind (arith, nat_tests, white) in
    let digit : is_ascii_digit byte ≡ false = grind (arith, nat_tests, white) in
    rw (bullet, digit) tt) (λ other.
    let first : prefix_len is_space_or_tab (byte ∷ bytes) ≡ 0 = rw other refl in
    let count = prefix_len is_ascii_digit (byte ∷ bytes) in
    on_test (IfMarker (IsMarkerOf (byte ∷ bytes))) (is_bullet byte) (Some (record {
      character = byte;
      first = 0;
      width = 1;
    })) (ordered_marker (byte ∷ bytes)) (λ bullet.
    let small : byte < 128 = grind (arith, nat_tests, bullet) in
    record { last = 0; width = refl; less = omega arith; ascii = small; first = first })
    (λ none. ordered_is (byte ∷ bytes) (take count (byte ∷ bytes)) (drop count (byte ∷ bytes)) count refl first))

standing_is : (P : ListMarker → Type 0) (content : List ℕ) (found : Option ListMarker) (interrupts : Bool)
    → IfMarker P found → IfMarker P (if_it_stands found content interrupts)
standing_is P content None interrupts is = tt
standing_is P content (Some marker) interrupts is =
    either (IfMarker P) (stands_before marker (drop marker.width content) interrupts) (Some marker) None is tt

-- ---- what is left inside a container

-- it holds of a container that begins, where something does of what is left of the line inside it
pub record HoldsOfContainers (P : Beginning → Type 0) (Q : LineLeft → Type 0) : Type 0 where
  pub quote : (rest : LineLeft) → Q rest → P (line.begins_quote rest)
  pub alert : (kind : BlockQuoteKind) → P (line.begins_alert kind)
  pub footnote : (label : List ℕ) (rest : LineLeft) → Q rest → P (line.begins_footnote label rest)
  pub item : (marker : ListMarker) (indent : ℕ) (rest : LineLeft) → Q rest → P (line.begins_item marker indent rest)

-- it does of what is left after each marker that the rest of a line may begin with
pub record HoldsAfter (here : LineLeft) (Q : LineLeft → Type 0) : Type 0 where
  pub quote : begins_with (codes ">") here.bytes ≡ true → Q (past_marker here)
  pub footnote : (n : ℕ) → begins_with (codes "[^") here.bytes ≡ true → (slice_index here.bytes n == 58) ≡ true
      → Q (past_bytes (n + 1) here)
  pub item : (marker : ListMarker) (n : ℕ) → IsMarkerOf here.bytes marker
      → Q (leading_space n (past_bytes marker.width here)).after

module _ (P : Beginning → Type 0) (Q : LineLeft → Type 0) (s : Source) (here : LineLeft)
    (holds : HoldsOfContainers P Q) (after : HoldsAfter here Q) where
  quote_holds : IfFound P (quote_in_line s here)
  quote_holds = on_test (IfFound P) (begins_with (codes ">") here.bytes) _ None
      (λ marker. of_alert (alert_read s.syntax (past_marker here)) (after.quote marker)) (λ none. tt)
    where
      of_alert : (alert : Option BlockQuoteKind) → Q (past_marker here) → P (quote_or_alert (past_marker here) alert)
      of_alert None is = holds.quote _ is
      of_alert (Some kind) is = holds.alert kind

  footnote_holds : IfFound P (footnote_in_line s.syntax here)
  footnote_holds = either (IfFound P) s.syntax.footnotes (found (footnote_marker here.bytes)) None
      (on_test (λ o. IfFound P (found o)) (begins_with (codes "[^") here.bytes) _ None
      (λ marker. of_label marker (link_label in_one_line false (drop 2 here.bytes))) (λ none. tt)) tt
    where
      found : Option (List ℕ × ℕ) → Option Beginning
      found = option_map (λ marker. line.begins_footnote marker.0 (past_bytes marker.1 here))

      of_label : begins_with (codes "[^") here.bytes ≡ true → (label : Option (ℕ × List ℕ))
          → IfFound P (found (label_before_colon here.bytes label))
      of_label marker None = tt
      of_label marker (Some label) =
          let last : label.0 + 3 ≡ label.0 + 2 + 1 = omega arith in
          on_test (λ o. IfFound P (found o)) (slice_index here.bytes (label.0 + 2) == 58)
          (Some (label.1, label.0 + 3)) None
          (λ colon. holds.footnote label.1 _ (rw last (after.footnote (label.0 + 2) marker colon))) (λ none. tt)

  item_holds : (before : Before) (columns : ℕ) → IsLeftOf s.text here → IfFound P (item_in_line s before columns here)
  item_holds before columns own =
      of_marker _ (rw own (standing_is (IsMarkerOf here.bytes) here.bytes (marker_of here.bytes) (is_reached before)
      (marker_is here.bytes)))
    where
      of_marker : (found : Option ListMarker) → IfMarker (IsMarkerOf here.bytes) found
          → IfFound P (option_map (item_of columns here) found)
      of_marker None is = tt
      of_marker (Some marker) is =
          let five = leading_space 5 (past_bytes marker.width here) in
          holds.item marker _ _ (either (λ (space : Space). Q space.after)
          (nat_lt 0 five.columns && nat_lt five.columns 5 && not (length five.after.bytes == 0)) _ _
          (after.item marker 5 is) (after.item marker 1 is))

-- ---- what a line begins

-- it holds of text, and of the other leaves, if the rest of a line begins one
pub record HoldsOfLeaves (P : Beginning → Type 0) (s : Source) (before : Before) (columns : ℕ) (here : LineLeft)
    : Type 0 where
  pub text : P line.begins_text
  pub heading : IfFound P (heading_in_line s here)
  pub fence : IfFound P (fence_in_line s columns here)
  pub html : (kind : HtmlKind) → P (line.begins_html kind)
  pub underline : IfFound P (underline_in_line before here)
  pub break : P line.begins_break

-- so it does where it does of each leaf
pub leaves_hold : (P : Beginning → Type 0) (s : Source) (before : Before) (columns : ℕ) (here : LineLeft)
    → P line.begins_text → ((heading : AtxHeading) → P (line.begins_heading heading))
    → ((opening : OpeningFence) → P (line.begins_fence opening)) → ((kind : HtmlKind) → P (line.begins_html kind))
    → IfFound P (underline_in_line before here) → P line.begins_break → HoldsOfLeaves P s before columns here
leaves_hold P s before columns here text heading fence html underline break =
    let byte = slice_index here.bytes 0 in
    let heading_found : IfFound P (heading_in_line s here) =
    mapped_holds P (λ found. line.begins_heading (whole_heading s.syntax here found)) _
    (λ found. heading (whole_heading s.syntax here found)) in
    let fence_found : IfFound P (fence_in_line s columns here) =
    either (IfFound P) ((byte == 96) || (byte == 126)) _ None (mapped_holds P line.begins_fence _ fence) tt in
    assumption (heading_found, fence_found)

-- it holds of an underline
pub underline_holds : (P : Beginning → Type 0) (before : Before) (here : LineLeft)
    → ((level : HeadingLevel) → P (line.begins_underline level)) → IfFound P (underline_in_line before here)
underline_holds P before here holds = either (IfFound P) (is_reached before) _ None
    (mapped_holds P line.begins_underline (setext_level here.bytes) holds) tt

-- after fewer than four columns of space
all_hold : (P : Beginning → Type 0) (s : Source) (before : Before) (columns : ℕ) (here : LineLeft)
    → HoldsOfLeaves P s before columns here → IfFound P (quote_in_line s here)
    → IfFound P (footnote_in_line s.syntax here) → IfFound P (item_in_line s before columns here)
    → P (begins_after s before columns here)
all_hold P s before columns here leaves quote footnote item =
    let html : IfFound P (html_in_line before here) = either (IfFound P) (begins_with (codes "<") here.bytes) _ None
    (mapped_holds P line.begins_html (html_kind_of here.bytes (is_paragraph before)) leaves.html) tt in
    let break : IfFound P (break_in_line here) =
    either (IfFound P) (is_thematic_break here.bytes) _ None leaves.break tt in
    first_holds P (quote_in_line s here ∷ heading_in_line s here ∷ fence_in_line s columns here
    ∷ html_in_line before here ∷ footnote_in_line s.syntax here ∷ underline_in_line before here
    ∷ break_in_line here ∷ item_in_line s before columns here ∷ []) leaves.text
    (quote, (leaves.heading, (leaves.fence, (html, (footnote, (leaves.underline, (break, (item, tt))))))))

pub after_holds : (P : Beginning → Type 0) (Q : LineLeft → Type 0) (s : Source) (before : Before) (columns : ℕ)
    (here : LineLeft) → IsLeftOf s.text here → HoldsOfLeaves P s before columns here → HoldsOfContainers P Q
    → HoldsAfter here Q → P (begins_after s before columns here)
after_holds P Q s before columns here own leaves holds after =
    all_hold P s before columns here leaves (quote_holds P Q s here holds after) (footnote_holds P Q s here holds after)
    (item_holds P Q s here holds after before columns own)

-- and where it holds of all containers, whatever is left inside them
pub any_holds : (P : Beginning → Type 0) (s : Source) (before : Before) (columns : ℕ) (here : LineLeft)
    → HoldsOfLeaves P s before columns here → HoldsOfContainers P (λ rest. Unit)
    → P (begins_after s before columns here)
any_holds P s before columns here leaves holds =
    let any : HoldsAfter here (λ rest. Unit) =
    record { quote = λ is. tt; footnote = λ n is colon. tt; item = λ marker n is. tt } in
    all_hold P s before columns here leaves (quote_holds P (λ rest. Unit) s here holds any)
    (footnote_holds P (λ rest. Unit) s here holds any)
    (mapped_holds P (item_of columns here) _ (λ marker. holds.item marker _ _ tt))

-- in a line that is not blank
pub begins_holds : (P : Beginning → Type 0) (s : Source) (before : Before) (l : SourceLine) → P line.begins_text
    → P (line.begins_indented (leading_space 4 l.left).after)
    → ((kind : MetadataBlockKind) → P (line.begins_metadata kind))
    → P (begins_after s before (leading_space 4 l.left).columns (leading_space 4 l.left).after) → P (begins s before l)
begins_holds P s before l text indented opens after =
    begins_both (λ b other. P b) s before before l (either P (is_paragraph before) _ _ text indented)
    (λ kind is. by_kind kind) after
  where
    by_kind : (kind : MetadataBlockKind) → P (unwrap_or (metadata_begun before kind) (begins_in_line s before l))
    by_kind metadata.YamlStyle =
        either (λ o. P (unwrap_or o (begins_in_line s before l))) (is_reached before) None _ after (opens _)
    by_kind metadata.PlusesStyle =
        either (λ o. P (unwrap_or o (begins_in_line s before l))) (is_paragraph before) None _ after (opens _)

-- ---- no underline, and no metadata

-- it begins inside a container
abbrev pub BeginsInside : Beginning → Type 0
BeginsInside (line.begins_underline level) = ⊥
BeginsInside (line.begins_metadata kind) = ⊥
BeginsInside other = Unit

-- so does what begins where no paragraph is reached
pub after_inside : (s : Source) (before : Before) (columns : ℕ) (here : LineLeft) → is_reached before ≡ false
    → BeginsInside (begins_after s before columns here)
after_inside s before columns here off = any_holds BeginsInside s before columns here
    (leaves_hold BeginsInside s before columns here tt (λ heading. tt) (λ opening. tt) (λ kind. tt) (rw off tt) tt)
    (record {
      quote = λ rest is. tt;
      alert = λ kind. tt;
      footnote = λ label rest is. tt;
      item = λ marker indent rest is. tt;
    })

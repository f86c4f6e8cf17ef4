-- What a line begins holds less than the line: each container takes at least one byte. So the number of containers that
-- may be in each other, where it is large enough, does not matter.
use Rattle.std.proofs.Common.{◌≡◌, ℕ, zero, suc, ◌+◌, ◌-◌, ◌<◌, ◌≤◌, Bool, true, false, List, [], ◌∷◌, Option, Some}
use Rattle.std.proofs.Common.{None, refl, arith, length, drop, take, not, ◌&&◌, ◌||◌, ◌==◌, codes, nat_lt, nat_le}
use Rattle.std.specs.Prelude.{⊤, if◌then◌else◌, slice_range, slice_index, unwrap_or}
use Rattle.std.specs.Option.{option_and_then, option_map}
use Rattle.std.proofs.lemmas.List.{length-drop}
use Rattle.markdown_scan.specs.Beginnings.{begins_with}
use Rattle.markdown_lines.specs.HtmlBeginnings.{html_kind_of, in_one_line}
use Rattle.markdown_scan.specs.Label.{link_label}
use Rattle.std.specs.Char.{is_ascii_digit}
use Rattle.std.specs.List.{prefix_len}
use Rattle.markdown_lines.specs.AtxHeadings.{atx_heading_at}
use Rattle.markdown_lines.specs.CodeFences.{opening_fence_at}
use Rattle.markdown_lines.specs.ThematicBreaks.{is_thematic_break, setext_level}
use Rattle.markdown_base.specs.Forest.{Forest}
use Rattle.markdown_block_rules.specs.BlockGrowth.{Block, begun_in, inside_of, new_blocks}
use Rattle.markdown_base.specs.declared.tag.MetadataBlockKind.{MetadataBlockKind}
use Rattle.markdown_base.specs.declared.tag.MetadataBlockKind.TheVariants as metadata
use Rattle.markdown_lines.specs.declared.block_start.Before.{Before}
use Rattle.markdown_lines.specs.declared.block_start.Before.TheVariants as paragraph
use Rattle.markdown_lines.specs.BlockBeginnings as line
use Rattle.markdown_base.specs.Source.{Source}
use Rattle.markdown_lines.specs.BlockBeginnings.{Beginning, begins, begins_after, first_found, past_bytes, quote_of}
use Rattle.markdown_lines.specs.BlockBeginnings.{quote_or_alert, quote_in_line, heading_in_line, fence_in_line}
use Rattle.markdown_lines.specs.BlockBeginnings.{html_in_line, footnote_in_line, metadata_begun, metadata_in_line}
use Rattle.markdown_lines.specs.BlockBeginnings.{whole_heading, footnote_marker, label_before_colon, underline_in_line}
use Rattle.markdown_lines.specs.BlockBeginnings.{break_in_line, is_paragraph, is_reached, item_in_line, item_of}
use Rattle.markdown_lines.specs.BlockBeginnings.{item_space}
use Rattle.markdown_lines.specs.Alerts.{alert_read}
use Rattle.markdown_base.specs.declared.tag.BlockQuoteKind.{BlockQuoteKind}
use Rattle.markdown_lines.specs.ListMarkers.{decimal, ends_number, is_bullet, marker_of, ordered_marker, stands_before}
use Rattle.markdown_lines.specs.ListMarkers.{ordered_marker_of, if_it_stands, list_marker_at}
use Rattle.markdown_scan.specs.LineStart.{LineLeft, Space, leading_space, space_from, past_marker, past_one_byte}
use Rattle.markdown_scan.specs.LineStart.{space_width, no_space, wider, column_after}
use Rattle.markdown_lines.specs.declared.list_marker.ListMarker.{ListMarker}
use Rattle.markdown_lines.specs.MetadataBlocks.{metadata_opened}
use Rattle.markdown_lines.specs.SourceLines.{SourceLine, rest_inside}

-- a container has fewer than `n` bytes of the line inside it
abbrev pub HoldsLess : ℕ → Beginning → Type 0
HoldsLess n (line.begins_quote rest) = length rest.bytes < n
HoldsLess n (line.begins_footnote label rest) = length rest.bytes < n
HoldsLess n (line.begins_item marker indent rest) = length rest.bytes < n
HoldsLess n other = ⊤

abbrev pub IfHoldsLess : ℕ → Option Beginning → Type 0
IfHoldsLess n None = ⊤
IfHoldsLess n (Some b) = HoldsLess n b

-- a fact of both of two values is one of the value chosen
pub either : {A : Type 0} (P : A → Type 0) (test : Bool) (x y : A) → P x → P y → P (if test then x else y)
either P true x y first second = first
either P false x y first second = second

-- reading space leaves no more bytes
space_from_left : (n scanned column : ℕ) (bytes : List ℕ)
    → length (space_from n scanned column bytes).after.bytes ≤ length bytes
space_from_left n scanned column [] = omega arith
space_from_left n scanned column (b ∷ bytes) =
    let more : length (space_from (n - space_width column b) (scanned + 1) (column_after column b) bytes).after.bytes
    ≤ suc (length bytes) =
    omega (arith, space_from_left (n - space_width column b) (scanned + 1) (column_after column b) bytes) in
    either (λ (space : Space). length space.after.bytes ≤ suc (length bytes))
    ((n == 0) || (space_width column b == 0))
    (no_space (record { scanned = scanned; owed = 0; column = column; bytes = b ∷ bytes }))
    (if nat_lt n (space_width column b)
    then record {
      columns = n;
      after = record {
        scanned = scanned + 1;
        owed = space_width column b - n;
        column = column_after column b;
        bytes = bytes;
      };
    }
    else wider (space_width column b) (space_from (n - space_width column b) (scanned + 1) (column_after column b)
    bytes))
    (omega arith)
    (either (λ (space : Space). length space.after.bytes ≤ suc (length bytes)) (nat_lt n (space_width column b))
    (record {
      columns = n;
      after = record {
        scanned = scanned + 1;
        owed = space_width column b - n;
        column = column_after column b;
        bytes = bytes;
      };
    })
    (wider (space_width column b) (space_from (n - space_width column b) (scanned + 1) (column_after column b)
    bytes)) (omega arith) more)

pub space_left : (n : ℕ) (left : LineLeft) → length (leading_space n left).after.bytes ≤ length left.bytes
space_left n left =
    either (λ (space : Space). length space.after.bytes ≤ length left.bytes) (nat_le n left.owed)
    (record { columns = n; after = record left { owed = left.owed - n } })
    (wider left.owed (space_from (n - left.owed) left.scanned left.column left.bytes))
    (omega arith) (space_from_left (n - left.owed) left.scanned left.column left.bytes)

-- a marker takes a byte
marker_left : (b : ℕ) (bytes : List ℕ) (scanned owed column : ℕ)
    → length (past_marker (record { scanned = scanned; owed = owed; column = column; bytes = b ∷ bytes })).bytes
    < suc (length bytes)
marker_left b bytes scanned owed column =
    let left = past_one_byte (record { scanned = scanned; owed = owed; column = column; bytes = b ∷ bytes }) in
    omega (arith, space_left 1 left)

-- an alert takes its whole line
quote_holds : (n : ℕ) (rest : LineLeft) (alert : Option BlockQuoteKind) → length rest.bytes < n
    → HoldsLess n (quote_or_alert rest alert)
quote_holds n rest None less = less
quote_holds n rest (Some kind) less = tt

quote_less : (s : Source) (scanned owed column : ℕ) (bytes : List ℕ)
    → IfHoldsLess (length bytes) (quote_in_line s
    (record { scanned = scanned; owed = owed; column = column; bytes = bytes }))
quote_less s scanned owed column [] = tt
quote_less s scanned owed column (b ∷ bytes) =
    let here : LineLeft = record { scanned = scanned; owed = owed; column = column; bytes = b ∷ bytes } in
    let rest = past_marker here in
    either (IfHoldsLess (suc (length bytes))) (begins_with (codes ">") (b ∷ bytes))
    (Some (quote_of s.syntax rest)) None
    (quote_holds (suc (length bytes)) rest (alert_read s.syntax rest) (marker_left b bytes scanned owed column)) tt

-- some bytes fewer
dropped_less : (n : ℕ) (b : ℕ) (bytes : List ℕ) → 0 < n → length (drop n (b ∷ bytes)) < suc (length bytes)
dropped_less n b bytes some = omega (arith, some, length-drop n (b ∷ bytes))

label_less : (here : LineLeft) (n : ℕ) (label : Option (ℕ × List ℕ)) (bytes : List ℕ)
    → ((k : ℕ) → 0 < k → length (drop k here.bytes) < n)
    → IfHoldsLess n
    (option_map (λ marker. line.begins_footnote marker.0 (past_bytes marker.1 here)) (label_before_colon bytes label))
label_less here n None bytes less = tt
label_less here n (Some label) bytes less =
    either (λ (found : Option (List ℕ × ℕ)).
    IfHoldsLess n (option_map (λ marker. line.begins_footnote marker.0 (past_bytes marker.1 here)) found))
    (slice_index bytes (label.0 + 2) == 58) (Some (label.1, label.0 + 3)) None (less (label.0 + 3) (omega arith)) tt

marker_less : (here : LineLeft) (n : ℕ) (bytes : List ℕ) → ((k : ℕ) → 0 < k → length (drop k here.bytes) < n)
    → IfHoldsLess n
    (option_map (λ marker. line.begins_footnote marker.0 (past_bytes marker.1 here)) (footnote_marker bytes))
marker_less here n bytes less =
    let label = link_label in_one_line false (drop 2 bytes) in
    either (λ (found : Option (List ℕ × ℕ)).
    IfHoldsLess n (option_map (λ marker. line.begins_footnote marker.0 (past_bytes marker.1 here)) found))
    (begins_with (codes "[^") bytes) (label_before_colon bytes label) None (label_less here n label bytes less) tt

footnote_less : (s : Source) (scanned owed column : ℕ) (bytes : List ℕ)
    → IfHoldsLess (length bytes)
    (footnote_in_line s.syntax (record { scanned = scanned; owed = owed; column = column; bytes = bytes }))
footnote_less s scanned owed column [] = no_footnote s.syntax.footnotes
  where
    no_footnote : (test : Bool) → IfHoldsLess 0 (if test then None else None)
    no_footnote true = tt
    no_footnote false = tt
footnote_less s scanned owed column (b ∷ bytes) =
    let here : LineLeft = record { scanned = scanned; owed = owed; column = column; bytes = b ∷ bytes } in
    either (IfHoldsLess (suc (length bytes))) s.syntax.footnotes
    (option_map (λ marker. line.begins_footnote marker.0 (past_bytes marker.1 here)) (footnote_marker here.bytes)) None
    (marker_less here (suc (length bytes)) (b ∷ bytes) (λ k some. dropped_less k b bytes some)) tt

-- a list marker has at least one byte
abbrev HasByte : Option ListMarker → Type 0
HasByte None = ⊤
HasByte (Some marker) = 0 < marker.width

ordered_has_byte : (digits rest : List ℕ) (count : ℕ) → HasByte (ordered_marker_of digits rest count)
ordered_has_byte digits [] count = tt
ordered_has_byte digits (byte ∷ rest) count =
    either HasByte ((count == 0) || nat_lt 9 count || not (ends_number byte)) None
    (Some (record { character = byte; first = decimal digits; width = count + 1 })) tt (omega arith)

marker_has_byte : (bytes : List ℕ) → HasByte (marker_of bytes)
marker_has_byte [] = tt
marker_has_byte (byte ∷ bytes) =
    either HasByte (is_bullet byte) (Some (record { character = byte; first = 0; width = 1 }))
    (ordered_marker (byte ∷ bytes)) (omega arith)
    (ordered_has_byte (take (prefix_len is_ascii_digit (byte ∷ bytes)) (byte ∷ bytes))
    (drop (prefix_len is_ascii_digit (byte ∷ bytes)) (byte ∷ bytes)) (prefix_len is_ascii_digit (byte ∷ bytes)))

standing_has_byte : (found : Option ListMarker) (content : List ℕ) (interrupts : Bool) → HasByte found
    → HasByte (if_it_stands found content interrupts)
standing_has_byte None content interrupts has = tt
standing_has_byte (Some marker) content interrupts has =
    either HasByte (stands_before marker (drop marker.width content) interrupts) (Some marker) None has tt

item_left : (left : LineLeft) → length (item_space left).after.bytes ≤ length left.bytes
item_left left =
    either (λ (space : Space). length space.after.bytes ≤ length left.bytes)
    (nat_lt 0 (leading_space 5 left).columns && nat_lt (leading_space 5 left).columns 5
    && not (length (leading_space 5 left).after.bytes == 0))
    (leading_space 5 left) (record { columns = 1; after = (leading_space 1 left).after })
    (space_left 5 left) (space_left 1 left)

found_less : (columns : ℕ) (here : LineLeft) (n : ℕ) (found : Option ListMarker) → HasByte found
    → ((k : ℕ) → 0 < k → length (drop k here.bytes) < n)
    → IfHoldsLess n (option_map (item_of columns here) found)
found_less columns here n None has less = tt
found_less columns here n (Some marker) has less =
    omega (arith, item_left (past_bytes marker.width here), less marker.width has)

nothing_at : (text : List ℕ) (at : ℕ) → slice_range text at (at + 0) ≡ []
nothing_at text at = let none : at + 0 - at ≡ 0 = omega arith in rw none refl

no_item : (s : Source) (interrupts : Bool) (columns : ℕ) (here : LineLeft)
    → IfHoldsLess 0 (option_map (item_of columns here)
    (list_marker_at s.text here.scanned (here.scanned + 0) interrupts))
no_item s interrupts columns here = rw (nothing_at s.text here.scanned) tt

item_less : (s : Source) (before : Before) (columns scanned owed column : ℕ) (bytes : List ℕ)
    → IfHoldsLess (length bytes)
    (item_in_line s before columns (record { scanned = scanned; owed = owed; column = column; bytes = bytes }))
item_less s before columns scanned owed column [] =
    no_item s (is_reached before) columns (record { scanned = scanned; owed = owed; column = column; bytes = [] })
item_less s before columns scanned owed column (b ∷ bytes) =
    let here : LineLeft = record { scanned = scanned; owed = owed; column = column; bytes = b ∷ bytes } in
    let content = slice_range s.text scanned (scanned + suc (length bytes)) in
    found_less columns here (suc (length bytes))
    (list_marker_at s.text scanned (scanned + suc (length bytes)) (is_reached before))
    (standing_has_byte (marker_of content) content (is_reached before) (marker_has_byte content))
    (λ k some. dropped_less k b bytes some)

-- a leaf holds nothing
leaf_less : {A : Type 0} (n : ℕ) (f : A → Beginning) (found : Option A) → ((a : A) → HoldsLess n (f a))
    → IfHoldsLess n (option_map f found)
leaf_less n f None leaf = tt
leaf_less n f (Some a) leaf = leaf a

-- each of some that are there holds less
abbrev EachHoldsLess : ℕ → List (Option Beginning) → Type 0
EachHoldsLess n [] = ⊤
EachHoldsLess n (o ∷ others) = IfHoldsLess n o × EachHoldsLess n others

first_less : (n : ℕ) (found : List (Option Beginning)) → EachHoldsLess n found → HoldsLess n (first_found found)
first_less n [] each = tt
first_less n (None ∷ others) each = first_less n others each.1
first_less n (Some b ∷ others) each = each.0

fence_less : (s : Source) (columns : ℕ) (here : LineLeft) → IfHoldsLess (length here.bytes)
    (fence_in_line s columns here)
fence_less s columns here =
    let n = length here.bytes in
    let byte = slice_index here.bytes 0 in
    let found = opening_fence_at s.text here.scanned (here.scanned + n) byte columns in
    either (IfHoldsLess n) ((byte == 96) || (byte == 126)) (option_map line.begins_fence found) None
    (leaf_less n line.begins_fence found (λ a. tt)) tt

html_less : (before : Before) (here : LineLeft) → IfHoldsLess (length here.bytes) (html_in_line before here)
html_less before here =
    let n = length here.bytes in
    let found = html_kind_of here.bytes (is_paragraph before) in
    either (IfHoldsLess n) (begins_with (codes "<") here.bytes) (option_map line.begins_html found) None
    (leaf_less n line.begins_html found (λ a. tt)) tt

after_less : (s : Source) (before : Before) (columns : ℕ) (here : LineLeft)
    → HoldsLess (length here.bytes) (begins_after s before columns here)
after_less s before columns here =
    let n = length here.bytes in
    first_less n (quote_in_line s here ∷ heading_in_line s here ∷ fence_in_line s columns here ∷ html_in_line before
    here ∷
    footnote_in_line s.syntax here ∷ underline_in_line before here ∷ break_in_line here ∷ item_in_line s before
    columns here ∷ []) (
      quote_less s here.scanned here.owed here.column here.bytes,
      (
        leaf_less n (λ heading. line.begins_heading (whole_heading s.syntax here heading))
            (atx_heading_at s.text here.scanned (here.scanned + length here.bytes)) (λ a. tt),
        (
          fence_less s columns here,
          (
            html_less before here,
            (
              footnote_less s here.scanned here.owed here.column here.bytes,
              (
                either (IfHoldsLess n) (is_reached before)
                    (option_map line.begins_underline (setext_level here.bytes)) None
                    (leaf_less n line.begins_underline (setext_level here.bytes) (λ a. tt)) tt,
                (
                  either (IfHoldsLess n) (is_thematic_break here.bytes) (Some line.begins_break) None tt tt,
                  (item_less s before columns here.scanned here.owed here.column here.bytes, tt),
                ),
              ),
            ),
          ),
        ),
      ),
    )

more_holds : (n m : ℕ) (b : Beginning) → n ≤ m → HoldsLess n b → HoldsLess m b
more_holds n m (line.begins_quote rest) more less = omega (arith, more, less)
more_holds n m (line.begins_footnote label rest) more less = omega (arith, more, less)
more_holds n m (line.begins_item marker indent rest) more less = omega (arith, more, less)
more_holds n m other more less = tt

-- metadata holds nothing
metadata_less : (n : ℕ) (before : Before) (kind : MetadataBlockKind) → IfHoldsLess n (metadata_begun before kind)
metadata_less n before metadata.YamlStyle =
    either (IfHoldsLess n) (is_reached before) None (Some (line.begins_metadata metadata.YamlStyle)) tt tt
metadata_less n before metadata.PlusesStyle =
    either (IfHoldsLess n) (is_paragraph before) None (Some (line.begins_metadata metadata.PlusesStyle)) tt tt

opened_less : (n : ℕ) (before : Before) (found : Option MetadataBlockKind)
    → IfHoldsLess n (option_and_then (metadata_begun before) found)
opened_less n before None = tt
opened_less n before (Some kind) = metadata_less n before kind

found_or_less : (n : ℕ) (found : Option Beginning) (other : Beginning) → IfHoldsLess n found → HoldsLess n other
    → HoldsLess n (unwrap_or found other)
found_or_less n None other less more = more
found_or_less n (Some b) other less more = less

-- what a line begins holds less than the line
pub begins_less : (s : Source) (before : Before) (l : SourceLine) → HoldsLess (length l.left.bytes) (begins s before l)
begins_less s before l =
    let space = leading_space 4 l.left in
    either (HoldsLess (length l.left.bytes)) (space.columns == 4)
    (if is_paragraph before then line.begins_text else line.begins_indented space.after)
    (unwrap_or (metadata_in_line s before l) (begins_after s before space.columns space.after))
    (either (HoldsLess (length l.left.bytes)) (is_paragraph before) line.begins_text
    (line.begins_indented space.after) tt tt)
    (found_or_less (length l.left.bytes) (metadata_in_line s before l)
    (begins_after s before space.columns space.after)
    (either (IfHoldsLess (length l.left.bytes)) l.outermost
    (option_and_then (metadata_begun before) (metadata_opened s.syntax s.text l.left.bytes l.next)) None
    (opened_less (length l.left.bytes) before (metadata_opened s.syntax s.text l.left.bytes l.next)) tt)
    (more_holds (length space.after.bytes) (length l.left.bytes) (begins_after s before space.columns space.after)
    (space_left 4 l.left) (after_less s before space.columns space.after)))

-- the blocks that a line begins, from what begins with its rest
new_same : (l : SourceLine) (b : Beginning) (f g : LineLeft → Forest Block) (n : ℕ) → HoldsLess n b
    → ((rest : LineLeft) → length rest.bytes < n → f rest ≡ g rest)
    → new_blocks f l b ≡ new_blocks g l b
new_same l (line.begins_quote rest) f g n less same = rw (same rest less) refl
new_same l (line.begins_footnote label rest) f g n less same = rw (same rest less) refl
new_same l (line.begins_item marker indent rest) f g n less same = rw (same rest less) refl
new_same l line.begins_text f g n less same = refl
new_same l (line.begins_alert kind) f g n less same = refl
new_same l (line.begins_indented rest) f g n less same = refl
new_same l (line.begins_heading found) f g n less same = refl
new_same l (line.begins_fence opening) f g n less same = refl
new_same l (line.begins_html kind) f g n less same = refl
new_same l (line.begins_underline level) f g n less same = refl
new_same l line.begins_break f g n less same = refl
new_same l (line.begins_metadata kind) f g n less same = refl

-- where it is large enough, the number of containers that may be in each other does not matter
pub begun_same : (n m : ℕ) (s : Source) (l : SourceLine) → length l.left.bytes < n → length l.left.bytes < m
    → begun_in n s l ≡ begun_in m s l
unfolding begun_in
begun_same zero m s l low high = let no : ⊥ = omega (arith, low) in absurd no
begun_same (suc n) zero s l low high = let no : ⊥ = omega (arith, high) in absurd no
begun_same (suc n) (suc m) s l low high =
    new_same l (begins s paragraph.NoParagraph l) (inside_of (begun_in n s) l) (inside_of (begun_in m s) l)
    (length l.left.bytes)
    (begins_less s paragraph.NoParagraph l)
    (λ rest less. inside_same rest
    (begun_same n m s (rest_inside rest l) (omega (arith, less, low)) (omega (arith, less, high))))
  where
    inside_same : (rest : LineLeft) → begun_in n s (rest_inside rest l) ≡ begun_in m s (rest_inside rest l)
        → inside_of (begun_in n s) l rest ≡ inside_of (begun_in m s) l rest
    inside_same rest same = rw same refl

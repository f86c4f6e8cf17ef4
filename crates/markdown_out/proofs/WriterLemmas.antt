-- What the writer remembers, against what the events before tell: its column stops at the highest
-- number, where no table has an alignment.
use Rattle.std.proofs.Common.{◌≡◌, ◌≤◌, ◌+◌, ◌-◌, ◌^◌, ℕ, zero, suc, min, Bool, List, [], ◌∷◌, length, map, Option}
use Rattle.std.proofs.Common.{Some, None, refl, sym, ap, subst, ◌∙◌, ◌⊎◌, inl, inr, arith, slice_get, codes}
use Rattle.std.proofs.Common.{if◌then◌else◌}
use Rattle.std.specs.Option.{IsSomeAnd}
use Rattle.std.specs.List.{flat_map}
use Rattle.std.proofs.lemmas.List.Folds.{flat_map-map}
use Rattle.markdown_base.specs.Event.{EventView, start, end, text, TagView, table_head, table_row, table_cell}
use Rattle.markdown_base.specs.declared.fault.Fault.{Fault}
use Rattle.markdown_base.specs.declared.fault.Fault.TheVariants.{Depth}
use Rattle.markdown_base.specs.declared.tag.TagEnd.TheVariants as closes
use Rattle.markdown_out.specs.ByteLists.{joined, fresh_after_bytes}
use Rattle.markdown_out.specs.EventHtml.{bytes_by_image, event_bytes, fresh_after, fresh_after_empty, past_by}
use Rattle.markdown_out.specs.TagHtml.{start_parts, cell_style}
use Rattle.markdown_out.specs.LookBacks.{Past, OpenImageView, unless_inside, cell_column_after, metadata_after}
use Rattle.markdown_out.specs.LookBacks.{head_after, alignments_after, names_after, image_after}
use Rattle.markdown_out.specs.Writer.{piece_bytes, spelled, counted_after, view_after, IsFull, MayRefuse}
use Rattle.markdown_out.specs.declared.html.Piece.{Piece}
use Rattle.markdown_out.specs.declared.html.rules.HtmlRules.{HtmlRules}
use Rattle.markdown_out.proofs.ByteListsLemmas.{joined-flat_map}

-- the bytes of pieces are those of each in turn
pub spelled-flat_map : (pieces : List Piece) → flat_map piece_bytes pieces ≡ spelled pieces
spelled-flat_map pieces = sym (flat_map-map (λ part. part) piece_bytes pieces)
    ∙ joined-flat_map (map piece_bytes pieces)

-- the highest column that the writer counts
abbrev pub highest : ℕ
highest = 2 ^ 64 - 1

-- what events tell, with a column that stops there
abbrev pub capped : Past → Past
capped past = record past { column = min past.column highest }

slice_get-past : {A : Type 0} (xs : List A) (k : ℕ) → length xs ≤ k → slice_get xs k ≡ None
slice_get-past [] k h = refl
slice_get-past (x ∷ xs) zero h = absurd (omega arith)
slice_get-past (x ∷ xs) (suc k) h = slice_get-past xs k (omega arith)

-- no element is past the highest column
slice_get-capped : {A : Type 0} (xs : List A) (k cap : ℕ) → length xs ≤ cap
    → slice_get xs (min k cap) ≡ slice_get xs k
slice_get-capped xs k cap h = by_order (order k cap)
  where
    order : (a b : ℕ) → (a ≤ b) ⊎ (b ≤ a)
    order a b = grind arith

    by_order : (k ≤ cap) ⊎ (cap ≤ k) → slice_get xs (min k cap) ≡ slice_get xs k
    by_order (inl l) = let e : min k cap ≡ k = omega arith in ap (slice_get xs) e
    by_order (inr l) = let e : min k cap ≡ cap = omega arith in
        ap (slice_get xs) e ∙ (slice_get-past xs cap h ∙ sym (slice_get-past xs k (omega arith)))

-- a Start has the same parts
start_parts-capped : (past : Past) (tag : TagView) → length past.alignments ≤ highest
    → start_parts (capped past) tag ≡ start_parts past tag
start_parts-capped past table_cell h =
    ap (λ a. (if past.in_head then codes "<th" else codes "<td") ∷ cell_style past.rules.align a
    ∷ [])
    (slice_get-capped past.alignments past.column highest h)
start_parts-capped past tag h = refl

bytes_by_image-capped : (within : Option OpenImageView) (past : Past) (e : EventView)
    → length past.alignments ≤ highest
    → bytes_by_image within (capped past) e ≡ bytes_by_image within past e
bytes_by_image-capped (Some i) past e h = refl
bytes_by_image-capped None past (start tag) h = ap joined (start_parts-capped past tag h)
bytes_by_image-capped None past e h = refl

-- an event has the same bytes
pub event_bytes-capped : (past : Past) (e : EventView) → length past.alignments ≤ highest
    → event_bytes (capped past) e ≡ event_bytes past e
event_bytes-capped past e h = bytes_by_image-capped past.open_image past e h

fresh_after_empty-capped : (within : Option OpenImageView) (past : Past)
    → fresh_after_empty within (capped past) ≡ fresh_after_empty within past
fresh_after_empty-capped None past = refl
fresh_after_empty-capped (Some i) past = refl

fresh_after-capped : (past : Past) (e : EventView) → length past.alignments ≤ highest
    → fresh_after (capped past) e ≡ fresh_after past e
fresh_after-capped past (text []) h = fresh_after_empty-capped past.open_image past
fresh_after-capped past (text (b ∷ bytes)) h = ap (fresh_after_bytes past.fresh) (event_bytes-capped past
    (text (b ∷ bytes)) h)
fresh_after-capped past e h = ap (fresh_after_bytes past.fresh) (event_bytes-capped past e h)

counted_after-capped : (within : Option OpenImageView) (column : ℕ) (e : EventView)
    → unless_inside counted_after within (min column highest) e ≡ min
    (unless_inside cell_column_after within column e) highest
counted_after-capped (Some i) column e = refl
counted_after-capped None column (start table_head) = refl
counted_after-capped None column (start table_row) = refl
counted_after-capped None column (end closes.TableCell) = omega arith
counted_after-capped None column e = refl

-- what is told after an event, with this freshness and this column
abbrev told_with : Past → EventView → Bool → ℕ → Past
told_with past e fresh column = record {
  rules = past.rules;
  fresh = fresh;
  in_metadata = unless_inside metadata_after past.open_image past.in_metadata e;
  in_head = unless_inside head_after past.open_image past.in_head e;
  column = column;
  alignments = unless_inside alignments_after past.open_image past.alignments e;
  names = names_after past.open_image past.names e;
  open_image = image_after past.open_image e;
}

-- what the writer remembers after an event is what the events then tell
pub view_after-capped : {rules : HtmlRules} (before : List EventView) (e : EventView)
    → length (past_by rules before).alignments ≤ highest
    → view_after (capped (past_by rules before)) e ≡ capped (past_by rules (e ∷ before))
view_after-capped {rules} before e h =
    let past = past_by rules before in
    ap (λ f. told_with past e f (unless_inside counted_after past.open_image
    (min past.column highest) e)) (fresh_after-capped past e h)
    ∙ ap (told_with past e (fresh_after past e)) (counted_after-capped past.open_image past.column
    e)

-- a Start that can not be counted
pub refused_start : (past : Past) (i : OpenImageView) (tag : TagView) (fault : Fault)
    → fault ≡ Depth → 2 ^ 64 ≤ i.starts + 1 → MayRefuse (record past { open_image = Some i })
    (start tag) fault
refused_start past i tag fault e h = let P : Fault
    → Type 0 = MayRefuse (record past { open_image = Some i }) (start tag) in subst P (sym e) h

-- after it, more Starts than can be counted have no End
pub full_deep : (within : Option OpenImageView) (e : EventView) → IsFull within e
    → IsSomeAnd (image_after within e) (λ i. 2 ^ 64 ≤ i.starts)
full_deep (Some i) (start tag) h = omega arith
full_deep within e h = absurd h

-- it writes nothing
pub full_silent : (within : Option OpenImageView) (past : Past) (e : EventView) → IsFull within e
    → bytes_by_image within past e ≡ []
full_silent (Some i) past (start tag) h = refl
full_silent within past e h = absurd h

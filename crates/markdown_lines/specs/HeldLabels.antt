-- The label of a definition in the lines of a paragraph, for private clauses: labels are defined in `Label`.
use Rattle.std.specs.Prelude.{◌≡◌, ℕ, Bool, false, List, [], ◌∷◌, ◌++◌, Option, Some, None, drop, codes, length}
use Rattle.std.specs.Prelude.{IfSome, if◌then◌else◌, ◌+◌}
use Rattle.markdown_base.specs.Bytes.{backslash}
use Rattle.markdown_base.specs.CowText.{text_of}
use Rattle.markdown_scan.specs.Backslash.{is_bare}
use Rattle.markdown_scan.specs.Beginnings.{begins_with}
use Rattle.markdown_scan.specs.Label.{body, label_bytes, link_label, put_before}
use Rattle.markdown_lines.specs.DefinitionRules.{no_prefix}
use Rattle.markdown_lines.specs.declared.definition.Label.{Label}

-- where the label of these bytes ends, and its text
abbrev pub label_in : Bool → List ℕ → Option (ℕ × List ℕ)
label_in escaped bytes = body escaped (label_bytes no_prefix 0 bytes)

-- the link label that bytes begin with, after its `[`
abbrev pub label_of : List ℕ → Option (ℕ × List ℕ)
label_of bytes = link_label no_prefix false bytes

-- no colon follows a label there
abbrev pub HasNoColon : Bool → List ℕ → Type 0
HasNoColon escaped bytes =
    IfSome (label_in escaped bytes) (λ f. begins_with (codes ":") (drop (f.0 + 1) bytes) ≡ false)

-- the label ends in these bytes, or a bracket breaks it there, whatever follows them
abbrev pub IsDecided : List ℕ → Type 0
IsDecided bytes = (more : List ℕ) → label_in false (bytes ++ more) ≡ label_in false bytes

-- whether a byte that follows these would be escaped
abbrev pub escaped_after : Bool → List ℕ → Bool
escaped_after escaped [] = escaped
escaped_after escaped (b ∷ bytes) = escaped_after (is_bare escaped b backslash) bytes

-- a label does not end in these bytes: one goes on after them, unless a bracket has broken it
pub record LabelGoesOn (bytes : List ℕ) (escaped : Bool) : Type 0 where
  pub broken : Bool
  pub is : (more : List ℕ) → label_in false (bytes ++ more)
      ≡ (if broken then None else put_before (length bytes) bytes (label_in escaped more))

-- a label that was read, with its length
abbrev pub label_read : Label → ℕ × List ℕ
label_read label = (label.length, text_of label.text)

-- a label that was read is the one that the bytes begin with; where none was read, no colon follows a label there
abbrev pub IsLabelRead : List ℕ → Option Label → Type 0
IsLabelRead bytes None =
    IfSome (label_of bytes) (λ label. begins_with (codes ":") (drop label.0 bytes) ≡ false)
IsLabelRead bytes (Some label) = Some (label_read label) ≡ label_of bytes

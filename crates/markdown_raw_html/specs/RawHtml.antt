-- Raw HTML that ends at its first closing bytes (CommonMark 6.6): comments, CDATA sections, declarations and processing
-- instructions. Each is read from the byte after its `<!` or `<?` on, and returns the number of bytes that it takes
-- from there.
use Rattle.std.specs.Prelude.{ℕ, ◌+◌, List, [], ◌∷◌, Option, Some, None, if◌then◌else◌, length, drop, codes}
use Rattle.std.specs.Option.{option_map}
use Rattle.markdown_scan.specs.Beginnings.{begins_with, begins_with_letter}

-- the length through the first occurrence of the closing bytes
abbrev pub through_first : List ℕ → List ℕ → Option ℕ
through_first closing [] = None
through_first closing (b ∷ bytes) =
    if begins_with closing (b ∷ bytes) then Some (length closing)
    else option_map (λ n. 1 + n) (through_first closing bytes)

-- the same after the first n bytes
abbrev pub through_first_after : ℕ → List ℕ → List ℕ → Option ℕ
through_first_after n closing bytes = option_map (λ m. n + m) (through_first closing (drop n bytes))

-- `<!-->`, `<!--->`, or `<!--` and then everything through the first `-->` after it
abbrev pub comment : List ℕ → Option ℕ
comment bytes =
    if begins_with (codes "-->") bytes then Some 3
    else if begins_with (codes "--->") bytes then Some 4
    else if begins_with (codes "--") bytes then through_first_after 2 (codes "-->") bytes
    else None

-- `<![CDATA[` and then everything through the first `]]>`
abbrev pub cdata_section : List ℕ → Option ℕ
cdata_section bytes =
    if begins_with (codes "[CDATA[") bytes then through_first_after 7 (codes "]]>") bytes else None

-- `<!`, an ASCII letter, and then everything through the first `>`
abbrev pub declaration : List ℕ → Option ℕ
declaration bytes =
    if begins_with_letter bytes then through_first_after 1 (codes ">") bytes else None

-- `<?` and then everything through the first `?>`
abbrev pub processing_instruction : List ℕ → Option ℕ
processing_instruction bytes = through_first (codes "?>") bytes

-- the byte offset in the text at which what begins at `start` ends
abbrev pub end_from : (List ℕ → Option ℕ) → List ℕ → ℕ → Option ℕ
end_from scan text start = option_map (λ n. start + n) (scan (drop start text))

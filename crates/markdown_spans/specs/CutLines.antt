-- A line that is cut, as where a code span ends inside it: what its container prefix is then.
use Rattle.std.specs.Prelude.{◌≡◌, ◌≤◌, ℕ, Bool, true, false, not, ◌==◌, ◌&&◌, ◌||◌, List, [], ◌∷◌, Some, None, length}
use Rattle.std.specs.Prelude.{take, slice_range, if◌then◌else◌}
use Rattle.std.specs.List.{list_all}
use Rattle.markdown_base.specs.Bytes.{space, tab}
use Rattle.markdown_base.specs.declared.item.ItemBody.{ItemBody}
use Rattle.markdown_base.specs.declared.item.ItemBody.TheVariants as body
use Rattle.markdown_scan.specs.ContainerParts.{past_part}
use Rattle.markdown_scan.specs.LineStart.{LineLeft}
use Rattle.markdown_spans.specs.ContainerPrefix.{prefix_length}

-- a space or a tab
abbrev pub is_indent : ℕ → Bool
is_indent b = (b == space) || (b == tab)

-- the body is that of a block quote
abbrev pub is_quote : ItemBody → Bool
is_quote (body.BlockQuote kind) = true
is_quote other = false

-- the outermost of these blocks whose part the line lacks is not a block quote: columns of space are missing
abbrev pub lacks_space : (gfm_footnotes : Bool) → List ItemBody → LineLeft → Bool
lacks_space gfm [] line = false
lacks_space gfm (block ∷ inner) line =
    elim (past_part gfm block line) [ Some after ↦ lacks_space gfm inner after | None ↦ not (is_quote block) ]

-- A line that is cut, but not in its prefix, keeps that. Only where columns of space are missing, and nothing but white
-- space is left before the cut, is all of the line its prefix: where a line is over, fewer columns are enough.
abbrev pub CutLineKeepsPrefix : Type 0
CutLineKeepsPrefix = (gfm : Bool) (blocks : List ItemBody) (line : List ℕ) (cut : ℕ)
    → prefix_length gfm blocks line ≤ cut
    → prefix_length gfm blocks (take cut line)
    ≡ (if lacks_space gfm blocks (record { scanned = 0; owed = 0; column = 0; bytes = line })
    && list_all is_indent (slice_range line (prefix_length gfm blocks line) cut) then length (take cut line)
    else prefix_length gfm blocks line)

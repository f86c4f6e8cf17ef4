-- The definitions that an iterator has left, and the values of its items.
use Rattle.std.specs.Prelude.{ℕ, List, map}
use Rattle.std.specs.Borrow.{Bor}
use Rattle.std.specs.Slice.Iter.{iter_rest}
use Rattle.markdown_base.specs.CowText.{text_of}
use Rattle.markdown_base.specs.declared.block_parts.LinkDef.{LinkDef}
use Rattle.markdown_defs.specs.Definitions.{Labelled}
use Rattle.markdown_defs.specs.declared.definitions.RefDefsIter.{RefDefsIter}

-- a definition with its label's text
abbrev pub with_text : Labelled → List ℕ × LinkDef
with_text d = (text_of d.0, d.1)

-- the definitions that are left, in order
abbrev pub definitions_left : RefDefsIter → List (List ℕ × LinkDef)
definitions_left it = map with_text (iter_rest it.rest)

-- the values that an item refers to
abbrev pub values_of : Bor (List ℕ) × Bor LinkDef → List ℕ × LinkDef
values_of item = (item.0.now, item.1.now)

-- The lines before the number were appended: what is left of the lines makes the items of all.
use Rattle.std.proofs.Common.{◌≡◌, ◌<◌, List, None, drop}
use Rattle.markdown_plain.proofs.Names.{with_items, SourceLine, AreTextLines, end_of}
use Rattle.std.specs.Prelude.{◌==◌, if◌then◌else◌}
use Rattle.markdown_block_rules.specs.BlockRules.{before_braces}
use Rattle.markdown_plain.specs.LeafTrees.{Appends}
use Rattle.markdown_plain.specs.Closable.{HasRoomFor}
use Rattle.markdown_plain.specs.ParagraphItems.{HaveEnds, IsLeft, text_items}
use Rattle.markdown_plain.proofs.paragraph.add_lines.Given as goal

abbrev pub invariant-lines : goal.invariant-lines
invariant-lines l = record {
  appends : Appends l.fn.placing.builder l.placing.builder l.placing.builder.at;
  at : l.from < l.number → l.placing.builder.at ≡ end_of l.lines l.number;
  room : HasRoomFor l.placing.builder l.lines l.number
      (record l.ends { task = if l.number == l.from then l.ends.task else None });
  left : (sources : List SourceLine) → AreTextLines l.fn.placing.builder.text l.lines sources
      → HaveEnds (drop l.from sources) l.ends → l.fn.placing.builder.run ≡ None
      → IsLeft (record { text = l.fn.placing.builder.text; syntax = l.syntax })
      (record l.ends { task = if l.number == l.from then l.ends.task else None }) (drop l.number sources)
      l.placing.builder (with_items l.fn.placing.builder.levels
      (text_items (record { text = l.fn.placing.builder.text; syntax = l.syntax }) l.ends.task
      (before_braces l.ends.braces (drop l.from sources))));
}

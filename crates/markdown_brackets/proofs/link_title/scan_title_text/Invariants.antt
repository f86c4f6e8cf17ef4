-- The title has what was read of it, and then what the rest has.
use Rattle.std.proofs.Common.{◌≡◌, ◌≤◌, ◌-◌, ℕ, false, [], length, string_bytes}
use Rattle.std.specs.Str.{IsCharBoundary}
use Rattle.markdown_document.specs.LinkTitle.{joined_lines, title_in}
use Rattle.markdown_brackets.specs.TitleText.{so_far}
use Rattle.markdown_brackets.proofs.TitleLemmas.{ReadTo}
use Rattle.markdown_brackets.proofs.link_title.scan_title_text.Given as goal

abbrev pub invariant-title : goal.invariant-title
invariant-title g l = record {
  order : l.title.from ≤ l.at;
  text : l.title.text.now ≡ l.bytes;
  boundary : IsCharBoundary l.text l.title.from;
  plain : l.title.is_joined ≡ false → string_bytes l.title.joined ≡ [];
  later : (n : ℕ) → l.at ≤ n → g.I.ItemsAfter.starts l.items n ≡ g.I.ItemsAfter.starts l.initial.items n;
  read : ReadTo (g.I.ItemsAfter.starts l.initial.items) l.bytes l.from.closer
      (title_in l.from.closer false (joined_lines (g.I.ItemsAfter.starts l.initial.items) l.from.start 0 l.text)) l.at
      l.escaped
      (so_far l.title l.at) l.title.is_joined;
}

abbrev pub decreases-title : goal.decreases-title
decreases-title g l = length l.text - l.at

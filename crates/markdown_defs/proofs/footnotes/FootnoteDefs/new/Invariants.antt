-- The footnotes of the names so far.
use Rattle.std.proofs.Common.{◌≡◌, ℕ, List, Some, None, encode_utf8_all}
use Rattle.std.specs.Prelude.{if◌then◌else◌}
use Rattle.std.specs.BTreeMap.{get_by_text}
use Rattle.std.specs.List.{list_any}
use Rattle.std.specs.Str.{bytes_eq}
use Rattle.markdown_base.specs.CowText.{text_of}
use Rattle.markdown_defs.specs.Folding.{case_folding}
use Rattle.markdown_defs.specs.FootnoteCounts.{unused}
use Rattle.markdown_defs.proofs.footnotes.FootnoteDefs.new.Given as goal

abbrev pub invariant-loop-name : goal.invariant-loop-name
invariant-loop-name l = (folded : List ℕ) → get_by_text l.by_folding (encode_utf8_all folded)
    ≡ (if list_any (λ n. bytes_eq (case_folding (text_of n)) folded) l.yielded then Some unused else None)

-- A footnote is found by its folding, which is kept in UTF-8.
use Rattle.std.proofs.Common.{◌∙◌, ap, cond, Some, encode_utf8_all}
use Rattle.std.specs.BTreeMap.{get_by_text}
use Rattle.std.proofs.lemmas.Map.Text.{btree_map_updates_text}
use Rattle.markdown_defs.specs.Folding.{case_folding}
use Rattle.markdown_defs.specs.FootnoteCounts.{unused}
use Rattle.markdown_defs.proofs.FoldingLemmas.{encoded_eq}
use Rattle.markdown_defs.proofs.footnotes.add_unused.Goals as goal

pub returns-clause-added : goal.returns-clause-added
returns-clause-added c = λ folded.
    (rw c.in_ok-folded.ensures.folded at
    (btree_map_updates_text _ c.args.by_folding.now c.insert.new.self _ c.in_ok-insert.ensures.updates
    (encode_utf8_all folded)))
    ∙ ap (λ b. cond b (Some unused) (get_by_text c.args.by_folding.now (encode_utf8_all folded)))
    (encoded_eq (case_folding c.args.name.now)
    folded)

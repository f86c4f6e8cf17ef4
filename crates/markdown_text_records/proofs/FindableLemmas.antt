-- The definitions that can be found, as they are stored and by definition.
use Rattle.std.proofs.Common.{◌≡◌, ◌∙◌, ◌∷◌, ◌++◌, ◌||◌, ℕ, Bool, true, false, List, [], Some, None, ap, cond, find}
use Rattle.std.proofs.Common.{is_some, map, refl, sym}
use Rattle.std.specs.List.{fold, list_any}
use Rattle.std.proofs.lemmas.List.{map-append}
use Rattle.markdown_base.specs.Source.{Source}
use Rattle.markdown_block_rules.specs.BlockRules.{block_definitions}
use Rattle.markdown_blocks.specs.Blocks.{IsBlocksOf, block_parts}
use Rattle.markdown_blocks.specs.declared.blocks.Blocks.{Blocks}
use Rattle.markdown_builder.specs.BuilderView.{Definition, stored_definition}
use Rattle.markdown_defs.specs.Definitions.{Labelled, add_first, first_at, firsts, has_folding}
use Rattle.markdown_defs.specs.Folding.{case_folding, is_match}
use Rattle.markdown_inline.specs.ParserLeft.{findable_definitions}
use Rattle.markdown_text_records.specs.DefinitionsView.{labelled_view}
use Rattle.markdown_text_records.specs.TextRecords.{findable, labelled, with_first}

-- whether a label is among those kept
kept_already : (label : List ℕ) (kept : List Labelled) → is_some (first_at (case_folding label) kept)
    ≡ list_any (λ (other : Definition). is_match label other.label) (map stored_definition kept)
kept_already label [] = refl
kept_already label (d ∷ kept) = by (has_folding (case_folding label) d) (kept_already label kept)
  where
    by : (b : Bool) → is_some (first_at (case_folding label) kept)
        ≡ list_any (λ (other : Definition). is_match label other.label) (map stored_definition kept)
        → is_some (cond b (Some d) (first_at (case_folding label) kept))
        ≡ (b || list_any (λ (other : Definition). is_match label other.label) (map stored_definition kept))
    by true rest = refl
    by false rest = rest

one_more : (kept : List Labelled) (d : Labelled)
    → map stored_definition (add_first kept d) ≡ with_first (map stored_definition kept) (stored_definition d)
one_more kept d = rw (sym (kept_already (stored_definition d).label kept))
    (by (is_some (first_at (case_folding (stored_definition d).label) kept)))
  where
    by : (b : Bool) → map stored_definition (cond b kept (kept ++ d ∷ []))
        ≡ cond b (map stored_definition kept) (map stored_definition kept ++ stored_definition d ∷ [])
    by true = refl
    by false = map-append stored_definition kept (d ∷ [])

all_more : (kept ds : List Labelled) → map stored_definition (fold add_first kept ds)
    ≡ fold with_first (map stored_definition kept) (map stored_definition ds)
all_more kept [] = refl
all_more kept (d ∷ ds) =
    all_more (add_first kept d) ds
    ∙ ap (λ before. fold with_first before (map stored_definition ds)) (one_more kept d)

labels : (ds : List Labelled) → map labelled_view ds ≡ map labelled (map stored_definition ds)
labels [] = refl
labels (d ∷ ds) = ap (λ rest. labelled_view d ∷ rest) (labels ds)

-- those of a block result of a source are those of the source
pub definitions_of_text : (s : Source) (blocks : Blocks) → IsBlocksOf s blocks
    → map labelled_view (findable_definitions blocks) ≡ map labelled (findable (block_definitions s))
unfolding firsts
definitions_of_text s blocks is =
    let rules = is.by_rules in
    labels (findable_definitions blocks)
    ∙ ap (map labelled) (all_more [] (block_parts blocks).definitions.items ∙ ap findable rules.definitions)

-- A block result that the rules of blocks make of a text has the reading of the text.
use Rattle.std.proofs.Common.{◌≡◌, ℕ, Bool, true, false, List, [], ◌∷◌, Some, cond, map, refl, ap, ◌∙◌}
use Rattle.std.proofs.Math.Path.{fun_ext}
use Rattle.std.specs.List.{list_any}
use Rattle.std.specs.Option.{option_map}
use Rattle.std.specs.Prelude.{find}
use Rattle.markdown_base.specs.BlockParts.{definition_view}
use Rattle.markdown_base.specs.CowText.{text_of}
use Rattle.markdown_base.specs.Forest.{Forest}
use Rattle.markdown_base.specs.Questions.{Answers}
use Rattle.markdown_base.specs.declared.cow_str.CowStr.{CowStr}
use Rattle.markdown_base.specs.Source.{Source}
use Rattle.markdown_blocks.specs.Blocks.{IsBlocksOf, block_arena, block_parts, block_source, text_of_blocks}
use Rattle.markdown_blocks.specs.declared.blocks.Blocks.{Blocks}
use Rattle.markdown_builder.specs.BuilderView.{Definition, stored_definition}
use Rattle.markdown_defs.proofs.DefinitionsLemmas.{look_up_firsts}
use Rattle.markdown_defs.specs.Definitions.{Labelled, find_definition, firsts}
use Rattle.markdown_defs.specs.Folding.{is_match}
use Rattle.markdown_document.specs.Document.{Plain, document, no_notes}
use Rattle.markdown_document.specs.EnclosingBlocks.{no_blocks}
use Rattle.markdown_document.specs.Setting.{Rules, by_label, setting_of}
use Rattle.markdown_document.specs.Tables.{tables_at_start}
use Rattle.markdown_inline.proofs.DocumentOfTextLemmas.{document-of_text}
use Rattle.markdown_inline.specs.Elements.{Element, nothing_read}
use Rattle.markdown_inline.specs.ParserLeft.{rules_of}
use Rattle.markdown_inline.specs.Reading.{reading}
use Rattle.markdown_inline.specs.TextLaw.{TextLaw}
use Rattle.markdown_inline.specs.ReadingOfText.{defined_by, rules_of_text, state_at_start, unlabelled}

-- a label refers to the same by definitions as they are stored
same_found : (label : List ℕ) (definitions : List Labelled)
    → option_map definition_view (find_definition label definitions)
    ≡ defined_by (map stored_definition definitions) label
same_found label [] = refl
same_found label (d ∷ definitions) = by (is_match label (text_of d.0)) (same_found label definitions)
  where
    by : (matches : Bool)
        → option_map definition_view (find_definition label definitions)
        ≡ defined_by (map stored_definition definitions) label
        → option_map definition_view (option_map (λ (d : Labelled). d.1)
        (cond matches (Some d) (find (λ (d : Labelled). is_match label (text_of d.0)) definitions)))
        ≡ option_map unlabelled (cond matches (Some (stored_definition d))
        (find (λ (d : Definition). is_match label d.label) (map stored_definition definitions)))
    by true later = refl
    by false later = later

-- footnotes have the same names
same_names : (name : List ℕ) (labels : List CowStr) → list_any (λ n. is_match (text_of n) name) labels
    ≡ list_any (λ footnote. is_match footnote name) (map text_of labels)
same_names name [] = refl
same_names name (n ∷ labels) = rw (same_names name labels) refl

-- what labels refer to by the definitions of a block result is what they refer to by those of its source
pub same_definitions : (definitions : List Labelled)
    → by_label (firsts definitions) ≡ defined_by (map stored_definition definitions)
same_definitions definitions = fun_ext (λ label. ap (option_map definition_view) (look_up_firsts label definitions)
    ∙ same_found label definitions)

rules-of_text : (s : Source) (blocks : Blocks) → IsBlocksOf s blocks → (asks : Bool)
    → rules_of blocks asks ≡ rules_of_text s asks
rules-of_text s blocks of asks =
    let is = of.by_rules in
    let was : List ℕ → Bool = λ name. list_any (λ n. is_match (text_of n) name) (block_parts blocks).footnotes.items in
    let now : List ℕ → Bool = λ name. list_any (λ footnote. is_match footnote name)
    (map text_of (block_parts blocks).footnotes.items) in
    let names : was ≡ now = fun_ext (λ name. same_names name (block_parts blocks).footnotes.items) in
    let syntax : (block_source blocks).syntax ≡ s.syntax = ap (λ (o : Source). o.syntax) of.source in
    rw (
      syntax,
      ← is.definitions,
      ← is.footnotes,
      same_definitions (block_parts blocks).definitions.items,
    ) (ap (λ (f : List ℕ → Bool). let r : Rules = record {
      syntax = s.syntax;
      definitions = defined_by (map stored_definition (block_parts blocks).definitions.items);
      is_footnote = f;
      asks = asks;
    } in r) names)

-- a reading by its parts
read_with : List ℕ → Rules → Forest Plain → Answers → List Element
read_with text rules trees answers =
    (reading (setting_of text rules) no_notes (no_blocks text) trees nothing_read
    (state_at_start text answers)).elements

pub text-law : TextLaw
unfolding read_with
text-law s blocks of asks answers =
    let text : text_of_blocks blocks ≡ s.text = ap (λ (o : Source). o.text) of.source in
    let nodes = (block_arena blocks).nodes in
    let tables = tables_at_start (block_parts blocks) in
    ap (λ (rules : Rules). read_with (text_of_blocks blocks) rules (document (text_of_blocks blocks) tables nodes)
    answers) (rules-of_text s blocks of asks)
    ∙ ap (λ (read : List ℕ). read_with read (rules_of_text s asks) (document read tables nodes) answers) text
    ∙ ap (λ (trees : Forest Plain). read_with s.text (rules_of_text s asks) trees answers)
    (document-of_text s nodes (block_parts blocks) of.by_rules)

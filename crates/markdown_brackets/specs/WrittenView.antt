-- What is read at a `]` of an arena, as contracts describe it.
use Rattle.std.specs.Prelude.{ℕ, Bool, List, Option, None, if◌then◌else◌, take}
use Rattle.std.specs.Option.{option_and_then, option_map, option_or}
use Rattle.markdown_base.specs.Arena.{sibling_of}
use Rattle.markdown_base.specs.BlockTree.{item_at}
use Rattle.markdown_base.specs.CowText.{text_of}
use Rattle.markdown_base.specs.declared.item.Item.{Item}
use Rattle.markdown_base.specs.declared.tag.LinkType.TheVariants as kind
use Rattle.markdown_base.specs.declared.node.Node.{Node}
use Rattle.markdown_brackets.specs.BracketDecision.{BracketContext, Written, inline_link, reference_written}
use Rattle.markdown_brackets.specs.FootnoteUse.{footnote_style}
use Rattle.markdown_brackets.specs.ChainAhead.{reaches_closer, starts_from}
use Rattle.markdown_brackets.specs.LeftList.{Split}
use Rattle.markdown_brackets.specs.LinkTail as tail
use Rattle.markdown_brackets.specs.LinkTail.{link_tail}
use Rattle.markdown_brackets.specs.Reference.{FoundLabel, Form, form_at, own_label}
use Rattle.markdown_brackets.specs.declared.link_tail.LinkTail.{LinkTail}
use Rattle.markdown_document.specs.LinkOrigins.{IsTitleFrom}
use Rattle.markdown_document.specs.Origins.{origin_of}
use Rattle.markdown_document.specs.declared.chain_place.ChainPlace.{ChainPlace}

-- the title of an inline link comes from the source, from this byte offset on and up to the link's end
abbrev pub IsTailFrom : List ℕ → (start : ℕ) → LinkTail → Type 0
IsTailFrom source start found =
    IsTitleFrom source start found.end kind.Inline (origin_of found.title) (text_of found.title)

module _ (nodes : List (Node Item)) (place : ChainPlace) (skipped : List ℕ → Option ℕ) (closer : ℕ) where
  -- the tail of an inline link at the `]` of a node
  abbrev pub tail_ahead : Option tail.LinkTail
  tail_ahead =
      link_tail skipped (starts_from nodes (sibling_of nodes closer)) (take place.block_end place.text.now)
      (item_at nodes closer).end

  -- the form of a reference there
  abbrev pub form_ahead : Form
  form_ahead =
      let next = sibling_of nodes closer in
      form_at (footnote_style place.syntax) skipped place.in_table (take place.block_end place.text.now)
      (item_at nodes closer).end (option_map (item_at nodes) next)
      (option_map (item_at nodes) (option_and_then (sibling_of nodes) next))

  -- the label to there from a `[` at a byte offset
  abbrev pub own_label_at : (start : ℕ) → Option FoundLabel
  own_label_at start =
      own_label (footnote_style place.syntax) skipped place.in_table (take place.block_end place.text.now) start
      (item_at nodes closer).end

  -- the reference there, from an opener on
  abbrev pub reference_at : BracketContext → Split ℕ → (could_be : Bool) → (start : ℕ) → Option (Written ℕ)
  reference_at w o could_be start =
      reference_written w o (item_at nodes closer).end (λ i. reaches_closer nodes i (sibling_of nodes closer))
      (if could_be then own_label_at start else None) form_ahead

  -- the inline link there, or else the reference
  abbrev pub written_at : BracketContext → Split ℕ → (could_be : Bool) → (start : ℕ) → Option (Written ℕ)
  written_at w o could_be start =
      option_or (option_map (inline_link o) tail_ahead) (reference_at w o could_be start)

-- The runs of a well-formed block result are whole in the tree of its nodes: a node is a run's character just where
-- its item is one, and begins and ends where that does.
use Rattle.std.proofs.Common.{◌≡◌, ℕ, zero, suc, Bool, true, false, List, Option, Some, None, refl, sym, subst, ◌∙◌}
use Rattle.std.proofs.Common.{◌==◌}
use Rattle.std.specs.Prelude.{IfSome}
use Rattle.std.specs.Option.{option_map}
use Rattle.markdown_base.specs.BlockTree.{Numbered, tree_of}
use Rattle.markdown_base.specs.Forest.{Forest, nil, node, relabelled, first_root}
use Rattle.markdown_base.specs.WellFormed.{AllKeepRules, IsWellFormed, PartCounts, RunCharacter, run_character, EndsRun}
use Rattle.markdown_base.specs.WellFormed.{RunGoesOn, StandsInRun, RunsAreWhole, byte_of, counts_of}
use Rattle.markdown_base.specs.declared.block_parts.BlockParts.{BlockParts}
use Rattle.markdown_base.specs.declared.item.Item.{Item}
use Rattle.markdown_base.specs.declared.item.ItemBody.{ItemBody}
use Rattle.markdown_base.specs.declared.item.ItemBody.TheVariants as body
use Rattle.markdown_base.specs.declared.node.Node.{Node}
use Rattle.markdown_document.specs.ChainRest.{open_body}
use Rattle.markdown_document.specs.Document.{Plain, document, tree_node_of, shape_of}
use Rattle.markdown_document.specs.Tables.{Tables}
use Rattle.markdown_resolver.specs.Laws.{RunsStandWhole, by_place}

-- a node is a run's character where its item is one
run_seen : (tables : Tables) (source : List ℕ) (b : ItemBody) → run_character (open_body (shape_of tables source b))
    ≡ run_character b
run_seen tables source (body.HardBreak true) = refl
run_seen tables source (body.HardBreak false) = refl
run_seen tables source other = refl

module _ (source : List ℕ) (tables : Tables) where
  -- the node of an item, by its place
  abbrev seen : Numbered → Plain
  seen a = tree_node_of source tables a.item

  abbrev placed : Numbered → Numbered
  placed a = by_place (seen a)

  run_placed : (a : Numbered) → run_character (placed a).item.body ≡ run_character a.item.body
  run_placed a = run_seen tables _ a.item.body

  -- a run ends where it ended, and continues where it continued
  ends : (a b : Numbered) → EndsRun source a (Some b) → EndsRun source (placed a) (Some (placed b))
  ends a b h = subst (λ o. IfSome o (λ c. (byte_of source b.item == byte_of source a.item) ≡ false))
      (sym (run_placed b)) h

  goes_on : (a : Numbered) (next : Option Numbered) (count : ℕ) (opens closes : Bool) → a.item.end ≡ suc a.item.start
      → RunGoesOn source a count opens closes next
      → RunGoesOn source (placed a) count opens closes (option_map placed next)
  goes_on a next zero opens closes one h = h
  goes_on a None (suc zero) opens closes one h = tt
  goes_on a (Some b) (suc zero) opens closes one h = ends a b h
  goes_on a None (suc (suc count)) opens closes one h = h
  goes_on a (Some b) (suc (suc count)) opens closes one h = record {
    body = run_placed b ∙ h.body;
    same = h.same;
    touches = h.touches;
    number = h.touches ∙ one;
  }

  run_if : (a : Numbered) (next : Option Numbered) (o : Option RunCharacter) → IfSome o (StandsInRun source a next)
      → IfSome o (StandsInRun source (placed a) (option_map placed next))
  run_if a next None h = tt
  run_if a next (Some c) h = record {
    one_byte = h.one_byte;
    delimiter = h.delimiter;
    goes_on = goes_on a next c.count c.can_open c.can_close h.one_byte h.goes_on;
  }

  whole_placed : (a : Numbered) (next : Option Numbered) → RunsAreWhole source a next
      → RunsAreWhole source (placed a) (option_map placed next)
  whole_placed a next h = subst (λ o. IfSome o (StandsInRun source (placed a) (option_map placed next)))
      (sym (run_placed a)) (run_if a next (run_character a.item.body) h)

  -- what follows a node is the node of what follows
  first_placed : (f : Forest Numbered) → option_map placed (first_root f)
      ≡ option_map by_place (first_root (relabelled seen f))
  first_placed nil = refl
  first_placed (node a below after) = refl

  forest-whole : (counts : PartCounts) (f : Forest Numbered) → AllKeepRules source counts f
      → RunsStandWhole source (relabelled seen f)
  forest-whole counts nil h = tt
  forest-whole counts (node a below after) h = (
    subst (RunsAreWhole source (placed a)) (first_placed after) (whole_placed a (first_root after) h.0.runs_are_whole),
    forest-whole counts below h.1,
    forest-whole counts after h.2,
  )

pub document-whole : (source : List ℕ) (nodes : List (Node Item)) (parts : BlockParts) (tables : Tables)
    → IsWellFormed source nodes parts → RunsStandWhole source (document source tables nodes)
document-whole source nodes parts tables formed = forest-whole source tables (counts_of parts) (tree_of nodes)
    formed.rules

-- What follows a `]` in an arena, by its links, is what the definition says about the chain that it reads as.
use Rattle.std.proofs.Common.{◌≡◌, ℕ, ◌+◌, ◌-◌, ◌<◌, Bool, true, false, ◌&&◌, ◌==◌, List, Option, Some, None, refl, sym}
use Rattle.std.proofs.Common.{◌∙◌, ap, arith, drop, nat_lt}
use Rattle.std.specs.Prelude.{if◌then◌else◌}
use Rattle.std.specs.Option.{option_and_then, option_map}
use Rattle.std.proofs.lemmas.Bool.{ltb-true, lt-ltb, le-ltb}
use Rattle.markdown_base.specs.Arena.{sibling_of}
use Rattle.markdown_base.specs.ArenaForest.{links_of, forest_at}
use Rattle.markdown_base.specs.BlockTree.{item_at}
use Rattle.markdown_base.specs.Forest.{first_root, Forest, nil, node}
use Rattle.markdown_base.specs.declared.item.Item.{Item}
use Rattle.markdown_base.specs.declared.item.ItemBody.{ItemBody}
use Rattle.markdown_base.specs.declared.item.ItemBody.TheVariants as body
use Rattle.markdown_base.specs.declared.node.Node.{Node}
use Rattle.markdown_document.specs.ChainRest.{as_item, start_of, end_of, open_body}
use Rattle.markdown_document.specs.Document.{TreeNode, Part, part_of, shape_of}
use Rattle.markdown_document.specs.Tables.{Tables}
use Rattle.markdown_brackets.specs.BracketDecision.{closer_ends_at, past_second, start_of_first_past}
use Rattle.markdown_brackets.specs.ChainAhead.{begins_with_closer, first_start, numbers_past, reaches_closer}
use Rattle.markdown_brackets.specs.ChainAhead.{starts_from}
use Rattle.markdown_brackets.specs.ChainHeld.{Holds, numbers_of}
use Rattle.markdown_brackets.specs.Reference.{FoundLabel, Form, reference, collapsed, shortcut, form_at, form_by_label}
use Rattle.markdown_brackets.specs.Reference.{is_closing_bracket, is_opener, bracket_label, stands_at}
use Rattle.markdown_brackets.specs.declared.footnote.FootnoteStyle.{FootnoteStyle}
use Rattle.markdown_brackets.proofs.ChainAheadLemmas.{is_not_below}

-- a bracket reads as an open one, and nothing else does
brackets_read : (tables : Tables) (source : List ℕ) (b : ItemBody)
    → (is_closing_bracket (open_body (shape_of tables source b)) ≡ is_closing_bracket b)
    × (is_opener (open_body (shape_of tables source b)) ≡ is_opener b)
brackets_read tables source (body.HardBreak true) = (refl, refl)
brackets_read tables source (body.HardBreak false) = (refl, refl)
brackets_read tables source other = (refl, refl)

module _ (source : List ℕ) (tables : Tables) (nodes : List (Node Item)) where
  -- an item as its label
  abbrev ReadsAs : TreeNode ℕ → Type 0
  ReadsAs a = part_of source tables (item_at nodes a.note) ≡ a.part

  pub same_start : (a : TreeNode ℕ) → ReadsAs a → (item_at nodes a.note).start ≡ start_of a
  same_start a h = ap (λ (p : Part). p.range.start) h

  pub same_end : (a : TreeNode ℕ) → ReadsAs a → (item_at nodes a.note).end ≡ end_of a
  same_end a h = ap (λ (p : Part). p.range.end) h

  pub same_closer : (a : TreeNode ℕ) → ReadsAs a → is_closing_bracket (item_at nodes a.note).body
      ≡ is_closing_bracket (open_body a.part.shape)
  same_closer a h =
      sym (brackets_read tables _ (item_at nodes a.note).body).0 ∙ ap (λ (p : Part). is_closing_bracket
      (open_body p.shape)) h

  same_opener : (a : TreeNode ℕ) → ReadsAs a → is_opener (item_at nodes a.note).body ≡ is_opener
      (open_body a.part.shape)
  same_opener a h =
      sym (brackets_read tables _ (item_at nodes a.note).body).1 ∙ ap (λ (p : Part). is_opener (open_body p.shape)) h

  -- where the first item past a byte starts
  start_ahead : (i : ℕ) (l : Option ℕ) (f : Forest (TreeNode ℕ)) → Holds source tables nodes l f
      → first_start nodes (numbers_past nodes i (numbers_of f)) ≡ start_of_first_past f i
  start_ahead i l nil h = refl
  start_ahead i l (node a below after) h =
      rw (same_end a h.2) (by (nat_lt i (end_of a)) (start_ahead i (sibling_of nodes a.note) after h.4))
    where
      by : (b : Bool) → first_start nodes (numbers_past nodes i (numbers_of after)) ≡ start_of_first_past after i
          → first_start nodes (if b then node a.note (numbers_of below) (numbers_of after) else numbers_past nodes i
          (numbers_of after))
          ≡ (if b then Some (start_of a) else start_of_first_past after i)
      by true more = ap Some (same_start a h.2)
      by false more = more

  pub starts_ahead : (l : Option ℕ) (f : Forest (TreeNode ℕ)) → Holds source tables nodes l f
      → forest_at (links_of nodes) l ≡ numbers_of f → (i : ℕ) → starts_from nodes l i ≡ start_of_first_past f i
  starts_ahead l f h found i = rw found (start_ahead i l f h)

  -- whether a `]` ends at a byte
  closer_ahead : (i : ℕ) → 0 < i → (l : Option ℕ) (f : Forest (TreeNode ℕ)) → Holds source tables nodes l f
      → begins_with_closer nodes i (numbers_past nodes (i - 1) (numbers_of f)) ≡ closer_ends_at i f
  closer_ahead i some l nil h = refl
  closer_ahead i some l (node a below after) h =
      rw (same_end a h.2) (by (nat_lt (end_of a) i) refl (closer_ahead i some (sibling_of nodes a.note) after h.4))
    where
      by : (d : Bool) → nat_lt (end_of a) i ≡ d
          → begins_with_closer nodes i (numbers_past nodes (i - 1) (numbers_of after)) ≡ closer_ends_at i after
          → begins_with_closer nodes i (if nat_lt (i - 1) (end_of a) then node a.note (numbers_of below)
          (numbers_of after) else numbers_past nodes (i - 1) (numbers_of after))
          ≡ (if d then closer_ends_at i after else is_closing_bracket (open_body a.part.shape) && (end_of a == i))
      by true e more = rw (le-ltb (i - 1) (end_of a) (omega (arith, ltb-true (end_of a) i e))) more
      by false e more = rw (
        lt-ltb (i - 1) (end_of a) (omega (arith, is_not_below (end_of a) i e, some)),
        same_closer a h.2,
        same_end a h.2,
      ) refl

  pub closers_ahead : (l : Option ℕ) (f : Forest (TreeNode ℕ)) → Holds source tables nodes l f
      → forest_at (links_of nodes) l ≡ numbers_of f → (i : ℕ) → 0 < i → reaches_closer nodes i l ≡ closer_ends_at i f
  closers_ahead l f h found i some = rw found (closer_ahead i some l f h)

  -- the first item and the second at a byte offset
  first_stands : (at : ℕ) (kind : ItemBody → Bool)
      → ((a : TreeNode ℕ) → ReadsAs a → kind (item_at nodes a.note).body ≡ kind (open_body a.part.shape))
      → (l : Option ℕ) (f : Forest (TreeNode ℕ)) → Holds source tables nodes l f
      → stands_at at kind (option_map (item_at nodes) l) ≡ stands_at at kind (option_map as_item (first_root f))
  first_stands at kind same l nil h = rw h refl
  first_stands at kind same l (node a below after) h = rw (h.0, same_start a h.2, same a h.2) refl

  second_stands : (at : ℕ) (kind : ItemBody → Bool)
      → ((a : TreeNode ℕ) → ReadsAs a → kind (item_at nodes a.note).body ≡ kind (open_body a.part.shape))
      → (l : Option ℕ) (f : Forest (TreeNode ℕ)) → Holds source tables nodes l f
      → stands_at at kind (option_map (item_at nodes) (option_and_then (sibling_of nodes) l))
      ≡ stands_at at kind (option_map as_item (first_root (past_second f)))
  second_stands at kind same l nil h = rw h refl
  second_stands at kind same l (node a below after) h = rw h.0
      (first_stands at kind same (sibling_of nodes a.note) after h.4)

  pub form_ahead_is : (style : FootnoteStyle) (skipped : List ℕ → Option ℕ) (in_table : Bool) (text : List ℕ) (at : ℕ)
      (l : Option ℕ) (f : Forest (TreeNode ℕ)) → Holds source tables nodes l f
      → form_at style skipped in_table text at (option_map (item_at nodes) l)
      (option_map (item_at nodes) (option_and_then (sibling_of nodes) l))
      ≡ form_at style skipped in_table text at (option_map as_item (first_root f))
      (option_map as_item (first_root (past_second f)))
  form_ahead_is style skipped in_table text at l f h =
      rw (
        first_stands at is_opener same_opener l f h,
        second_stands (at + 1) is_closing_bracket same_closer l f h,
        first_stands at (λ b. true)
            (λ a r. refl) l f h,
      ) refl

-- the label of a full reference ends after a byte offset
abbrev pub EndsAfter : ℕ → Form → Type 0
EndsAfter at (reference label end) = at < end
EndsAfter at other = Unit {0}

-- it ends after its `]`
label_ends_after : (at : ℕ) (l : Option FoundLabel) → 0 < at → EndsAfter 0 (form_by_label at l)
label_ends_after at None some = tt
label_ends_after at (Some l) some = by l.is_footnote
  where
    by : (b : Bool) → EndsAfter 0 (if b then shortcut else reference l.name (at + l.length))
    by true = tt
    by false = omega (arith, some)

pub form_after : (style : FootnoteStyle) (skipped : List ℕ → Option ℕ) (in_table : Bool) (text : List ℕ) (at : ℕ)
    (next after : Option Item) → 0 < at → EndsAfter 0 (form_at style skipped in_table text at next after)
form_after style skipped in_table text at next after some =
    by (stands_at at is_opener next && stands_at (at + 1) is_closing_bracket after) (stands_at at (λ b. true) next)
  where
    by : (empty starts : Bool) → EndsAfter 0 (if empty then collapsed else if starts
        then form_by_label at (bracket_label style skipped in_table (drop at text)) else shortcut)
    by true starts = tt
    by false true = label_ends_after at (bracket_label style skipped in_table (drop at text)) some
    by false false = tt

-- The nodes of a wikilink's body are those of the trees between its opener and the `]`.
use Rattle.std.proofs.Common.{◌≡◌, ℕ, ◌<◌, Bool, true, false, ◌==◌, List, Option, refl, sym, subst, arith, nat_le}
use Rattle.std.proofs.Common.{nat_lt}
use Rattle.std.specs.Prelude.{if◌then◌else◌}
use Rattle.std.specs.Option.{option_map}
use Rattle.std.proofs.lemmas.Bool.Decides.{nat_tests}
use Rattle.std.proofs.lemmas.Bool.{eqb-true, lt-ltb}
use Rattle.markdown_base.specs.Arena.{sibling_of}
use Rattle.markdown_base.specs.Forest.{Forest, nil, node, first_root}
use Rattle.markdown_base.specs.declared.item.Item.{Item}
use Rattle.markdown_base.specs.declared.node.Node.{Node}
use Rattle.markdown_base.proofs.BoolLemmas.{is_itself}
use Rattle.markdown_document.specs.ChainRest.{end_of, begun_at, joined_chains, past_byte}
use Rattle.markdown_document.specs.Document.{TreeNode}
use Rattle.markdown_document.specs.Tables.{Tables}
use Rattle.markdown_document.specs.Totals.{same}
use Rattle.markdown_document.proofs.TablesLemmas.{same-refl}
use Rattle.markdown_brackets.specs.BracketDecision.{past_second}
use Rattle.markdown_brackets.specs.ChainAhead.{numbers_past}
use Rattle.markdown_brackets.specs.ChainHeld.{Holds, numbers_of, times_of, link_to}
use Rattle.markdown_brackets.specs.WikilinkNodes.{unless_is, body_start}
use Rattle.markdown_brackets.specs.declared.wikilink_nodes.ShownNodes.TheVariants.{From}
use Rattle.markdown_brackets.proofs.AheadOfBracketLemmas.{same_end}
use Rattle.markdown_brackets.specs.StandsAt.{shown_from_node}

-- a node that does not occur in some trees is not their first
apart_root : (k : ℕ) (a : TreeNode ℕ) (below after : Forest (TreeNode ℕ)) → times_of k (node a below after) ≡ 0 →
    (a.note == k)
    ≡ false
apart_root k a below after none = by (a.note == k) refl
  where
    by : (b : Bool) → (a.note == k) ≡ b → b ≡ false
    by false e = refl
    by true e =
        let one : same k a.note ≡ 1 = subst (λ n. same k n ≡ 1) (sym (eqb-true a.note k e)) (same-refl k) in
        absurd (omega (arith, one, none))

-- nor the first of those after it
apart_after : (k : ℕ) (a : TreeNode ℕ) (below after : Forest (TreeNode ℕ)) → times_of k (node a below after) ≡ 0
    → times_of k after ≡ 0
apart_after k a below after none = omega (arith, none)

module _ (source : List ℕ) (tables : Tables) (nodes : List (Node Item)) (closer : TreeNode ℕ)
    (below_closer rest : Forest (TreeNode ℕ)) where
  abbrev Up : Forest (TreeNode ℕ) → Forest (TreeNode ℕ)
  Up f = joined_chains f (node closer below_closer rest)

  -- the link to what precedes the `]`
  unless_closer : (l : Option ℕ) (f : Forest (TreeNode ℕ)) → Holds source tables nodes l (Up f)
      → times_of closer.note f ≡ 0
      → unless_is closer.note l ≡ link_to f
  unless_closer l nil h none = rw (h.0, is_itself closer.note) refl
  unless_closer l (node a below after) h none = rw (h.0, apart_root closer.note a below after none) refl

  -- the second node of those
  pub second_is : (opener : ℕ) (f : Forest (TreeNode ℕ)) → Holds source tables nodes (sibling_of nodes opener) (Up f)
      → times_of closer.note f ≡ 0
      → body_start nodes opener closer.note ≡ link_to (past_second f)
  second_is opener nil h none = rw (unless_closer (sibling_of nodes opener) nil h none) refl
  second_is opener (node a below after) h none =
      rw (unless_closer (sibling_of nodes opener) (node a below after) h none)
      (unless_closer (sibling_of nodes a.note) after h.4 (apart_after closer.note a below after none))

  -- the node in which the part of the body from a byte offset on begins
  pub from_is : (at : ℕ) → at < end_of closer → (l : Option ℕ) (f : Forest (TreeNode ℕ))
      → Holds source tables nodes l (Up f)
      → times_of closer.note f ≡ 0
      → shown_from_node closer.note at (first_root (numbers_past nodes at (numbers_of (Up f))))
      ≡ option_map (λ n. From n at) (link_to (past_byte at f))
  from_is at beyond l nil h none =
      rw (same_end source tables nodes closer h.2, lt-ltb at (end_of closer) beyond, is_itself closer.note) refl
  from_is at beyond l (node a below after) h none =
      rw (same_end source tables nodes a h.2)
      (by (nat_lt at (end_of a)) refl
      (from_is at beyond (sibling_of nodes a.note) after h.4 (apart_after closer.note a below after none)))
    where
      by : (b : Bool) → nat_lt at (end_of a) ≡ b
          → shown_from_node closer.note at (first_root (numbers_past nodes at (numbers_of (Up after))))
          ≡ option_map (λ n. From n at) (link_to (past_byte at after))
          → shown_from_node closer.note at (first_root (if b then node a.note (numbers_of below) (numbers_of (Up after))
          else numbers_past nodes at (numbers_of (Up after))))
          ≡ option_map (λ n. From n at) (link_to (if nat_le (end_of a) at then past_byte at after
          else node (begun_at at a) below after))
      by true e more =
          let later : nat_le (end_of a) at ≡ false = grind (arith, nat_tests) in
          rw (later, apart_root closer.note a below after none) refl
      by false e more =
          let before : nat_le (end_of a) at ≡ true = grind (arith, nat_tests) in
          rw before more

-- How much the counts of work rise where a chain is resolved.
use Rattle.std.proofs.Common.{◌≡◌, ℕ, ◌*◌, List, ◌++◌, Option, Some, length, refl, sym, ap, ◌∙◌, arith, subst, inl, inr}
use Rattle.std.proofs.lemmas.List.{length-map}
use Rattle.markdown_base.specs.ArenaForest.{links_of, forest_at}
use Rattle.markdown_base.specs.BlockTree.{trees_at}
use Rattle.markdown_base.specs.Forest.{roots}
use Rattle.markdown_base.specs.Questions.{Question, Answer, Answers}
use Rattle.markdown_base.specs.declared.item.Item.{Item}
use Rattle.markdown_base.specs.declared.node.Node.{Node}
use Rattle.markdown_base.proofs.ForestLemmas.{roots-relabelled}
use Rattle.markdown_document.specs.EnclosingBlocks.{EnclosingBlocks}
use Rattle.markdown_document.specs.Counts.{ChainCounts, RisesAtLeast, RisesAtMost, risen, WorkRises}
use Rattle.markdown_document.specs.Counts.{comparisons_per_delimiter}
use Rattle.markdown_document.specs.Document.{no_notes}
use Rattle.markdown_document.specs.Places.{tree_node_at, trees_from}
use Rattle.markdown_document.specs.Setting.{ReferenceState, Setting}
use Rattle.markdown_document.specs.ResolverStates.{ResolverState, chain_at, items_from, state_at}
use Rattle.markdown_document.specs.Tables.{Tables}
use Rattle.markdown_document.specs.declared.work.Work.{Work}
use Rattle.markdown_delims.specs.RunReading.{delimiters_of}
use Rattle.markdown_delims.specs.PairingFinds.{finds_in}
use Rattle.markdown_resolver.specs.ChainCounts.{RisesInPart, chain_counts}
use Rattle.markdown_resolver.specs.Chains.{ResolvesFrom}
use Rattle.markdown_resolver.specs.PassOne.{Outcome, pass_one}
use Rattle.markdown_resolver.specs.ReadsChain.{ReadCounts}
use Rattle.markdown_resolver.proofs.PairedLemmas.{delimiters_left}

-- a chain has as many items as nodes, and at least one
chain_items : (source : List ℕ) (tables : Tables) (nodes : List (Node Item)) (l : Option ℕ)
    → length (roots (trees_from source tables nodes l)) ≡ items_from nodes l
chain_items source tables nodes l =
    ap length (roots-relabelled (tree_node_at source tables nodes) (forest_at (links_of nodes) l))
    ∙ length-map (roots (forest_at (links_of nodes) l)) (tree_node_at source tables nodes)

-- the same rise
same_rise : (most most' old new new' : ℕ) → most' ≡ most → new' ≡ new → RisesAtMost most old new
    → RisesAtMost most' old new'
same_rise most most' old new new' e e' r = record {
  more = r.more;
  within = omega (arith, e, r.within);
  counted = e' ∙ r.counted;
}

-- what pairing makes of the counts, with these numbers of delimiter characters and of searches that find
pub record PairCounts (delimiters found : ℕ) (old new : Work) : Type 0 where
  pub counted : new ≡ record old { delimiters = risen delimiters old.delimiters; examined = new.examined }
  pub compared : RisesAtMost (comparisons_per_delimiter * delimiters) old.examined new.examined
  pub finds : RisesAtLeast found old.examined new.examined

found_by : (f f' old old' new : ℕ) → f ≡ f' → old ≡ old' → RisesAtLeast f old new → RisesAtLeast f' old' new
found_by f f' old old' new e e' h = rw (sym e, sym e') h

-- where a chain was read, the counts rose by those of a part of it: of its items, and of no delimiter character
pub read_in_part : {C : Type 0} (s : Setting) (above : EnclosingBlocks) (first : ℕ) (old : ResolverState C)
    (state : ReferenceState) (work new : Work) → ReadCounts (items_from old.nodes (Some first)) work new
    → RisesInPart (chain_counts s no_notes above (chain_at s.text old (Some first)) state) work new
read_in_part s above first old state work new read =
    let n = chain_counts s no_notes above (chain_at s.text old (Some first)) state in
    let items = chain_items s.text old.tables old.nodes (Some first) in
    record {
      part = record { items = n.items; delimiters = 0; found = 0 };
      items = inr refl;
      delimiters = inl refl;
      rises = record {
        items = read.items_counted ∙ ap (λ k. risen k work.items) (sym items);
        delimiters = read.same_delimiters;
        examined = record { more = 0; within = omega arith; counted = read.same_examined };
        found = omega (arith, read.same_examined);
        code_visits = same_rise (items_from old.nodes (Some first)) n.items work.code_visits new.code_visits
            new.code_visits items refl read.code;
        math_visits = same_rise (items_from old.nodes (Some first)) n.items work.math_visits new.math_visits
            new.math_visits items refl read.math;
      };
    }

-- where a chain was read, and then paired, the counts rose by those of the chain, with so many searches that find
module _ {C : Type 0} (step : C → Question → Option Answer → C → Type 0) (s : Setting) (above : EnclosingBlocks)
    (first : ℕ) (old mid : ResolverState C) (work then new : Work)
    (r : ResolvesFrom step s.text (pass_one s no_notes above) (Some first) old mid)
    (read : ReadCounts (items_from old.nodes (Some first)) work then) where
  abbrev counts_of : (later : Answers) → ChainCounts
  counts_of later = chain_counts s no_notes above (chain_at s.text old (Some first))
      (state_at old (r.answers ++ later))

  counts_paired : (found : ℕ) → PairCounts (delimiters_of (trees_at mid.nodes (Some first))) found then new
      → (later : Answers) → WorkRises (record (counts_of later) { found = found }) work new
  counts_paired found paired later =
      let n = counts_of later in
      let d = delimiters_of (trees_at mid.nodes (Some first)) in
      let items = chain_items s.text old.tables old.nodes (Some first) in
      let left = delimiters_left step s above first old mid r later in
      record {
        items = ap (λ (w : Work). w.items) paired.counted ∙ read.items_counted
            ∙ ap (λ k. risen k work.items) (sym items);
        delimiters = ap (λ (w : Work). w.delimiters) paired.counted ∙ ap (risen d) read.same_delimiters
            ∙ ap (λ k. risen k work.delimiters) left;
        examined = record {
          more = paired.compared.more;
          within = omega (arith, left, paired.compared.within);
          counted = paired.compared.counted ∙ ap (risen paired.compared.more) read.same_examined;
        };
        found = found_by found found then.examined work.examined new.examined refl read.same_examined paired.finds;
        code_visits = same_rise (items_from old.nodes (Some first)) n.items work.code_visits then.code_visits
            new.code_visits items (ap (λ (w : Work). w.code_visits) paired.counted) read.code;
        math_visits = same_rise (items_from old.nodes (Some first)) n.items work.math_visits then.math_visits
            new.math_visits items (ap (λ (w : Work). w.math_visits) paired.counted) read.math;
      }

  pub counts_rise : PairCounts (delimiters_of (trees_at mid.nodes (Some first)))
      (finds_in s (chain_at s.text mid (Some first))) then new
      → (later : Answers) → WorkRises (counts_of later) work new
  counts_rise paired later =
      subst (λ k. WorkRises (record (counts_of later) { found = k }) work new)
      (ap (λ (o : Outcome (Unit {0})). finds_in s o.forest) (sym (r.resolves later)))
      (counts_paired (finds_in s (chain_at s.text mid (Some first))) paired later)

  -- and if an allocation failed to pairing, by those of a part of it
  pub counts_in_part : PairCounts (delimiters_of (trees_at mid.nodes (Some first))) 0 then new
      → (later : Answers) → RisesInPart (counts_of later) work new
  counts_in_part paired later = record {
    part = record (counts_of later) { found = 0 };
    items = inr refl;
    delimiters = inr refl;
    rises = counts_paired 0 paired later;
  }

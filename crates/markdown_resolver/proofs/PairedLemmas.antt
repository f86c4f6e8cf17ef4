-- A chain that pass one has read can be paired in place, and then it is resolved.
use Rattle.std.proofs.Common.{◌≡◌, ℕ, suc, ◌≤◌, Bool, true, false, List, [], ◌++◌, Option, Some, None, refl, sym, ap}
use Rattle.std.proofs.Common.{◌∙◌, subst, arith, append-nil}
use Rattle.std.specs.Prelude.{IfSome, slice_range}
use Rattle.std.specs.Option.{option_map}
use Rattle.markdown_base.specs.Arena.{child_of, sibling_of}
use Rattle.markdown_base.specs.ArenaForest.{links_of, Spells, forest_at}
use Rattle.markdown_base.specs.BlockTree.{Numbered, numbered, item_at, trees_at}
use Rattle.markdown_base.specs.Forest.{Forest, nil, node, Each, roots, first_root, relabelled}
use Rattle.markdown_base.specs.Item.{is_block, is_open}
use Rattle.markdown_base.specs.Questions.{Question, Answer, Answers}
use Rattle.markdown_base.specs.WellFormed.{RunCharacter, run_character, StandsInRun}
use Rattle.markdown_base.specs.declared.item.Item.{Item}
use Rattle.markdown_base.specs.declared.item.ItemBody.{ItemBody}
use Rattle.markdown_base.specs.declared.item.ItemBody.TheVariants as body
use Rattle.markdown_base.specs.declared.node.Node.{Node}
use Rattle.markdown_base.proofs.ArenaRulesLemmas.{first_spelled}
use Rattle.markdown_document.specs.EnclosingBlocks.{EnclosingBlocks}
use Rattle.markdown_document.specs.Document.{no_notes, Plain, Shape, unresolved, is_unresolved, shape_of}
use Rattle.markdown_document.specs.ItemRules.{ComesBefore}
use Rattle.markdown_document.specs.Counts.{counts_delimiter, counts_shape, delimiters_in}
use Rattle.markdown_document.specs.Places.{tree_node_at, trees_from}
use Rattle.markdown_document.specs.PlacedNodes.{IsPlaced}
use Rattle.markdown_document.specs.Setting.{Setting}
use Rattle.markdown_document.specs.ResolverStates.{ResolverState, chain_at, state_at}
use Rattle.markdown_document.specs.Tables.{Tables}
use Rattle.markdown_document.specs.declared.work.Work.{Work}
use Rattle.markdown_document.specs.Waiting.{waits_for_pairing, is_quiet}
use Rattle.markdown_document.proofs.PlaceLemmas.{shape-open}
use Rattle.markdown_delims.specs.ChainForest.{RisesFrom}
use Rattle.markdown_delims.specs.PairedChain.{WaitsForPairing, HasNoBlock, CanPair, PairsChain}
use Rattle.markdown_delims.specs.RunReading.{StandsWhole, HasWholeRuns, counts_one, delimiters_of}
use Rattle.markdown_delims.proofs.PairingLemmas.{closed_shape}
use Rattle.markdown_resolver.specs.ChainCounts.{RisesInPart, chain_counts}
use Rattle.markdown_resolver.specs.Chains.{ChangesChain, ResolvesFrom, StopsIn}
use Rattle.markdown_resolver.specs.Kept.{IsQuiet, IsQuietBelow}
use Rattle.markdown_resolver.specs.PassOne.{Outcome, pass_one}
use Rattle.markdown_resolver.specs.ReadOn.{StopsInPassOne}
use Rattle.markdown_resolver.specs.Resolved.{then_paired, resolved}
use Rattle.markdown_resolver.proofs.ChainLeadsLemmas.{no_block}
use Rattle.markdown_resolver.proofs.ComposeLemmas.{same_trans}
use Rattle.markdown_resolver.proofs.PassOneQuietLemmas.{pass_one-quiet}

-- the items of a chain in which nothing is open except what waits for pairing, and which has no block
blocks_none : (source : List ℕ) (tables : Tables) (nodes : List (Node Item)) (f : Forest ℕ)
    → IsQuiet (relabelled (tree_node_at source tables nodes) f) → HasNoBlock (relabelled (numbered nodes) f)
blocks_none source tables nodes nil q = tt
blocks_none source tables nodes (node ix below after) q
    = (no_block (item_at nodes ix).body q.1, blocks_none source tables nodes after q.3)

waits_open : (tables : Tables) (source : List ℕ) (b : ItemBody) → is_quiet (shape_of tables source b) ≡ true → is_open b
    ≡ true → waits_for_pairing b ≡ true
waits_open tables source b q e = rw (shape-open tables source b e) at q

all_wait : (source : List ℕ) (tables : Tables) (nodes : List (Node Item)) (f : Forest ℕ)
    → IsQuiet (relabelled (tree_node_at source tables nodes) f) → WaitsForPairing (relabelled (numbered nodes) f)
all_wait source tables nodes nil q = tt
all_wait source tables nodes (node ix below after) q = (
  waits_open tables (slice_range source (item_at nodes ix).start (item_at nodes ix).end) (item_at nodes ix).body q.0,
  all_wait source tables nodes after q.3,
)

nothing_below : (nodes : List (Node Item)) (l : Option ℕ) (f : Forest ℕ) → Spells (links_of nodes) l f → l ≡ None
    → relabelled (numbered nodes) f ≡ nil
nothing_below nodes l nil s e = refl
nothing_below nodes l (node ix below after) s e = cc (s.0, e)

-- the numbers of a chain rise, since each item precedes the next one
rises_next : (nodes : List (Node Item)) (ix : ℕ) (l : Option ℕ) (f : Forest ℕ) → Spells (links_of nodes) l f
    → is_block (item_at nodes ix).body ≡ false → HasNoBlock (relabelled (numbered nodes) f)
    → ComesBefore (numbered nodes ix) (option_map (numbered nodes) l) → IfSome l (λ n. suc ix ≤ n)
rises_next nodes ix l nil s b h stands = rw s tt
rises_next nodes ix l (node j below after) s b h stands = rw s.0
    (let p = (rw s.0 at stands) b h.0 in omega (arith, p.numbers))

rises : (source : List ℕ) (tables : Tables) (nodes : List (Node Item)) (lo : ℕ) (l : Option ℕ) (f : Forest ℕ)
    → Spells (links_of nodes) l f → Each (IsPlaced source tables nodes) f → HasNoBlock (relabelled (numbered nodes) f)
    → IfSome l (λ n. lo ≤ n) → RisesFrom lo (roots f)
rises source tables nodes lo l nil s p h from = tt
rises source tables nodes lo l (node ix below after) s p h from = (
  rw s.0 at from,
  rises source tables nodes (suc ix) (sibling_of nodes ix) after s.3 p.2 h.1
      (rises_next nodes ix (sibling_of nodes ix) after s.3 h.0 h.1 p.0.keeps.in_order),
)

-- its runs are whole
run_open : (b : ItemBody) (c : RunCharacter) → run_character b ≡ Some c → is_open b ≡ true
run_open (body.MaybeEmphasis n opens closes) c h = refl
run_open other c h = cc

whole_if : (source : List ℕ) (a : Numbered) (below after : Forest Numbered) (next : Option Numbered)
    (o : Option RunCharacter) → next ≡ first_root after → IfSome o (StandsInRun source a next)
    → ((c : RunCharacter) → o ≡ Some c → below ≡ nil) → IfSome o (StandsWhole source a below after)
whole_if source a below after next None e h none = tt
whole_if source a below after next (Some c) e h none = record { stands = rw (← e) h; childless = none c refl }

all_whole : (source : List ℕ) (tables : Tables) (nodes : List (Node Item)) (l : Option ℕ) (f : Forest ℕ)
    → Spells (links_of nodes) l f
    → Each (IsPlaced source tables nodes) f → HasWholeRuns source (relabelled (numbered nodes) f)
all_whole source tables nodes l nil s p = tt
all_whole source tables nodes l (node ix below after) s p =
    let keeps = p.0.keeps in (
      whole_if source (numbered nodes ix) (relabelled (numbered nodes) below) (relabelled (numbered nodes) after)
          (option_map (numbered nodes) (sibling_of nodes ix)) (run_character (item_at nodes ix).body)
          (first_spelled nodes (sibling_of nodes ix) after s.3) keeps.runs_are_whole
          (λ c e. nothing_below nodes (child_of nodes ix) below s.2
          (keeps.childless (run_open (item_at nodes ix).body c e))),
      all_whole source tables nodes (sibling_of nodes ix) after s.3 p.2,
    )

-- what pass one leaves of a chain is quiet
pub read_quiet : {C : Type 0} (step : C → Question → Option Answer → C → Type 0) (s : Setting) (above : EnclosingBlocks)
    (first : ℕ) (old mid : ResolverState C) → IsQuietBelow (chain_at s.text old (Some first))
    → ResolvesFrom step s.text (pass_one s no_notes above) (Some first) old mid
    → IsQuiet (chain_at s.text mid (Some first))
read_quiet step s above first old mid quiet r =
    subst IsQuiet (ap (λ (o : Outcome (Unit {0})). o.forest) (r.resolves []))
    (pass_one-quiet s no_notes above (chain_at s.text old (Some first)) (state_at old (r.answers ++ [])) quiet)

-- so it can be paired
pub read_can_pair : {C : Type 0} (step : C → Question → Option Answer → C → Type 0) (s : Setting)
    (above : EnclosingBlocks) (first : ℕ) (old mid : ResolverState C) → IsQuietBelow (chain_at s.text old (Some first))
    → ResolvesFrom step s.text (pass_one s no_notes above) (Some first) old mid → CanPair s.text mid.nodes first
read_can_pair step s above first old mid quiet r =
    let f = forest_at (links_of mid.nodes) (Some first) in
    let q : IsQuiet (relabelled
    (tree_node_at s.text mid.tables mid.nodes) f) = read_quiet step s above first old mid quiet
    r in
    record {
      spelled = r.changes.reaches.spelled;
      once = r.changes.once;
      rising = rises s.text mid.tables mid.nodes 0 (Some first) f r.changes.reaches.spelled r.changes.reaches.each
          (blocks_none s.text mid.tables mid.nodes f q) (omega arith);
      whole = all_whole s.text mid.tables mid.nodes (Some first) f r.changes.reaches.spelled r.changes.reaches.each;
      waits = all_wait s.text mid.tables mid.nodes f q;
    }

-- what was changed by reading, and then by pairing, was changed
pub pair_changes : {C : Type 0} (step : C → Question → Option Answer → C → Type 0) (s : Setting)
    (above : EnclosingBlocks)
    (first : ℕ) (old mid : ResolverState C) (nodes : List (Node Item)) → IsQuietBelow (chain_at s.text old (Some first))
    → ResolvesFrom step s.text (pass_one s no_notes above) (Some first) old mid → PairsChain s first mid.nodes nodes
    → ChangesChain s.text (Some first) old.nodes nodes old.tables mid.tables
pair_changes step s above first old mid nodes quiet r p =
    let f = forest_at (links_of mid.nodes) (Some first) in
    let q : IsQuiet (relabelled
    (tree_node_at s.text mid.tables mid.nodes) f) = read_quiet step s above first old mid quiet
    r in
    let c = r.changes in
    record {
      reaches = p.placed mid.tables (blocks_none s.text mid.tables mid.nodes f q) c.reaches;
      once = λ n. omega (arith, p.times n, c.once n);
      of_chain = λ n l. omega (arith, p.times n, c.of_chain n l);
      more_nodes = omega (arith, p.same_size, c.more_nodes);
      outside = λ n l none. same_trans (c.outside n l none) (p.outside n (omega (arith, c.of_chain n l, none)));
      grown = c.grown;
      named_once = λ n. omega (arith, p.named n, c.named_once n);
      named = λ n l. omega (arith, p.named n, c.named n l);
      before = λ a stands. p.before a (c.before a stands);
      no_heavier = omega (arith, p.no_heavier, c.no_heavier);
    }

-- a chain that was read and then paired is resolved
pub pair_resolves : {C : Type 0} (step : C → Question → Option Answer → C → Type 0) (s : Setting)
    (above : EnclosingBlocks) (first : ℕ) (old mid : ResolverState C) (nodes : List (Node Item))
    → (r : ResolvesFrom step s.text (pass_one s no_notes above) (Some first) old mid)
    → PairsChain s first mid.nodes nodes
    → (later : Answers) → resolved s no_notes above (chain_at s.text old (Some first))
    (state_at old (r.answers ++ later)) ≡ record {
      questions = r.questions;
      forest = trees_from s.text mid.tables nodes (Some first);
      state = state_at mid later;
    }
unfolding resolved
pair_resolves step s above first old mid nodes r p later =
    ap (then_paired s) (r.resolves later) ∙ ap (λ (g : Forest Plain). let o : Outcome (Unit {0}) = record
    { questions = r.questions; forest = g; state = state_at mid later }
    in o) (sym (p.pairs mid.tables))

abbrev pub then_pairs : {C : Type 0} (step : C → Question → Option Answer → C → Type 0) (s : Setting)
    (above : EnclosingBlocks)
    (first : ℕ) (old mid : ResolverState C) (nodes : List (Node Item)) → IsQuietBelow (chain_at s.text old (Some first))
    → ResolvesFrom step s.text (pass_one s no_notes above) (Some first) old mid → PairsChain s first mid.nodes nodes
    → ResolvesFrom step s.text (resolved s no_notes above) (Some first) old
    (record { nodes = nodes; tables = mid.tables; limit = mid.limit; uses = mid.uses; callback = mid.callback })
then_pairs step s above first old mid nodes quiet r p = record {
  changes = pair_changes step s above first old mid nodes quiet r p;
  answers = r.answers;
  questions = r.questions;
  asked = r.asked;
  resolves = pair_resolves step s above first old mid nodes r p;
}

-- if an allocation fails to pass one, the questions asked are the first of the chain
pub stops_resolving : {C : Type 0} (step : C → Question → Option Answer → C → Type 0) (s : Setting)
    (above : EnclosingBlocks) (first : ℕ) (old : ResolverState C) (callback : Option C) (work work' : Work)
    (p : StopsInPassOne step s above first old callback) → ((later : Answers) → RisesInPart
    (chain_counts s no_notes above (chain_at s.text old (Some first)) (state_at old (p.answers ++ later))) work work')
    → StopsIn step s above first old callback work work'
unfolding resolved
stops_resolving step s above first old callback work work' p counts = record {
  answers = p.answers;
  questions = p.questions;
  asked = p.asked;
  begins = λ later. p.begins later;
  counts = counts;
}

-- if an allocation fails to pairing, the chain's questions were all asked
pub stops_in : {C : Type 0} (step : C → Question → Option Answer → C → Type 0) (s : Setting) (above : EnclosingBlocks)
    (first : ℕ) (old mid : ResolverState C)
    (work work' : Work) (r : ResolvesFrom step s.text (pass_one s no_notes above) (Some first) old mid)
    → ((later : Answers) → RisesInPart
    (chain_counts s no_notes above (chain_at s.text old (Some first)) (state_at old (r.answers ++ later))) work work')
    → StopsIn step s above first old mid.callback work work'
unfolding resolved
stops_in step s above first old mid work work' r counts = record {
  answers = r.answers;
  questions = r.questions;
  asked = r.asked;
  begins = λ later. (
    [],
    ap (λ (o : Outcome (Unit {0})). o.questions) (r.resolves later) ∙ sym (append-nil r.questions),
  );
  counts = counts;
}

-- the delimiter characters of a chain are those of its nodes
counts_open : (tables : Tables) (source : List ℕ) (b : ItemBody) → counts_one (run_character b)
    ≡ counts_shape (shape_of tables source b)
counts_open tables source b = by_open (is_open b) refl
  where
    closed_none : (b : ItemBody) → is_open b ≡ false → counts_one (run_character b) ≡ 0
    closed_none (body.MaybeEmphasis n opens closes) e = cc e
    closed_none other e = refl

    shape_none : (shape : Shape) → is_unresolved shape ≡ false → counts_shape shape ≡ 0
    shape_none (unresolved b) e = cc e
    shape_none other e = refl

    same_count : (b : ItemBody) → counts_one (run_character b) ≡ counts_delimiter b
    same_count (body.MaybeEmphasis n opens closes) = refl
    same_count other = refl

    by_open : (x : Bool) → is_open b ≡ x → counts_one (run_character b) ≡ counts_shape (shape_of tables source b)
    by_open true e = rw (shape-open tables source b e) (same_count b)
    by_open false e = closed_none b e ∙ sym (shape_none (shape_of tables source b) (closed_shape tables source b e))

delimiters_seen : (source : List ℕ) (tables : Tables) (nodes : List (Node Item)) (f : Forest ℕ)
    → delimiters_of (relabelled (numbered nodes) f) ≡ delimiters_in (relabelled (tree_node_at source tables nodes) f)
delimiters_seen source tables nodes nil = refl
delimiters_seen source tables nodes (node ix below after) =
    rw (
      counts_open tables (slice_range source (item_at nodes ix).start (item_at nodes ix).end) (item_at nodes ix).body,
      delimiters_seen source tables nodes after,
    ) refl

-- those of a chain that are counted are the ones that pass one leaves
pub delimiters_left : {C : Type 0} (step : C → Question → Option Answer → C → Type 0) (s : Setting)
    (above : EnclosingBlocks) (first : ℕ) (old mid : ResolverState C)
    → (r : ResolvesFrom step s.text (pass_one s no_notes above) (Some first) old mid) → (later : Answers)
    → delimiters_of (trees_at mid.nodes (Some first))
    ≡ (chain_counts s no_notes above (chain_at s.text old (Some first))
    (state_at old (r.answers ++ later))).delimiters
delimiters_left step s above first old mid r later =
    delimiters_seen s.text mid.tables mid.nodes (forest_at (links_of mid.nodes) (Some first))
    ∙ ap (λ (o : Outcome (Unit {0})). delimiters_in o.forest) (sym (r.resolves later))

-- A chain of an arena whose runs are whole, once its quotes are read: its nodes tell of the same runs.
use Rattle.std.proofs.Common.{◌≡◌, ℕ, zero, suc, ◌<◌, ◌≤◌, Bool, true, false, List, [], ◌∷◌, Option, Some, None, refl}
use Rattle.std.proofs.Common.{ap, sym, ◌∙◌, subst, arith}
use Rattle.std.specs.Prelude.{if◌then◌else◌, ◌==◌, ◌||◌, IfSome, IsTrue, slice_index, slice_range, is_some}
use Rattle.markdown_base.specs.declared.item.Item.{Item}
use Rattle.markdown_base.specs.declared.item.ItemBody.{ItemBody}
use Rattle.markdown_base.specs.declared.item.ItemBody.TheVariants as body
use Rattle.markdown_base.specs.declared.node.Node.{Node}
use Rattle.markdown_base.specs.BlockTree.{Numbered, numbered, item_at}
use Rattle.markdown_base.specs.Forest.{Forest, nil, node, relabelled}
use Rattle.markdown_base.specs.Item.{is_open}
use Rattle.markdown_base.specs.WellFormed.{RunCharacter, run_character, is_delimiter, RunGoesOn}
use Rattle.markdown_document.specs.Document.{Shape, unresolved, TreeNode, shaped, is_unresolved, shape_of, block_of}
use Rattle.markdown_document.specs.Document.{part_of}
use Rattle.markdown_document.specs.Setting.{Setting}
use Rattle.markdown_document.specs.Tables.{Tables}
use Rattle.markdown_document.specs.Waiting.{waits_for_pairing}
use Rattle.markdown_document.proofs.PlaceLemmas.{shape-open}
use Rattle.markdown_delims.specs.declared.quotes.Kind.TheVariants as kind
use Rattle.markdown_delims.specs.declared.run.Delimiter.{Delimiter}
use Rattle.markdown_delims.specs.declared.run.Delimiter.TheVariants.{Star, Underscore, Tilde, Caret}
use Rattle.markdown_delims.specs.declared.run.Run.{Run}
use Rattle.markdown_delims.specs.ChainReading.{ShowsCount, BeginsRun, IsWhole, AreWhole, one_if, runs_in, labels}
use Rattle.markdown_delims.specs.Layers.{run_of_shape, run_of}
use Rattle.markdown_delims.specs.MayPair.{delimiter_of}
use Rattle.markdown_delims.specs.PairedChain.{WaitsForPairing}
use Rattle.markdown_delims.specs.Pairing.{Read, done_read, read_trees, trees_done, reads_from, runs_paired}
use Rattle.markdown_delims.specs.PairingFinds.{finds_from}
use Rattle.markdown_delims.specs.Quotes.{kind_of_shape, is_closed_later, is_end, QuoteTurn, turn_by, first_turn}
use Rattle.markdown_delims.specs.Quotes.{quotes_after}
use Rattle.markdown_delims.specs.RunReading.{StandsWhole, HasWholeRuns, counts_one, delimiters_of}
use Rattle.markdown_delims.proofs.ChainLawLemmas.{nothing_follows, trees_before}
use Rattle.markdown_delims.proofs.LayerLawLemmas.{turn-gives}
use Rattle.markdown_delims.proofs.ReadLemmas.{reads_none}

-- what is open, and nothing else, reads as what is
pub open_agrees : (tables : Tables) (source : List ℕ) (b : ItemBody) → is_unresolved (shape_of tables source b)
    ≡ is_open b
open_agrees tables source (body.HardBreak true) = refl
open_agrees tables source (body.HardBreak false) = refl
open_agrees tables source other = refl

pub closed_shape : (tables : Tables) (source : List ℕ) (b : ItemBody) → is_open b ≡ false
    → is_unresolved (shape_of tables source b) ≡ false
closed_shape tables source b e = open_agrees tables source b ∙ e

-- a delimiter's byte is one of the four
pub delimiter_some : (i : ℕ) → IsTrue (is_delimiter i) → (d : Delimiter) × (delimiter_of i ≡ Some d)
delimiter_some i h =
    one_of (i == 42) (i == 95) (i == 126) (i == 94) h
  where
    one_of : (a b c d : Bool) → IsTrue (a || (b || (c || d)))
        → (x : Delimiter) × ((if a then Some Star else if b then Some Underscore else if c then Some Tilde
        else if d then Some Caret else None) ≡ Some x)
    one_of true b c d h = (Star, refl)
    one_of false true c d h = (Underscore, refl)
    one_of false false true d h = (Tilde, refl)
    one_of false false false true h = (Caret, refl)
    one_of false false false false h = absurd (let no : false ≡ true = h in cc)

-- what is not open begins no run
run_of_closed : (shape : Shape) (d : Option Delimiter) → is_unresolved shape ≡ false → run_of_shape shape d ≡ None
run_of_closed (unresolved b) d h = cc h
run_of_closed other d h = refl

pub count_some : (text : List ℕ) (a : Numbered) (n : ℕ) (opens closes : Bool) (next : Option Numbered)
    → RunGoesOn text a n opens closes next → 0 < n
count_some text a zero opens closes next g = absurd g
count_some text a (suc n) opens closes next g = omega arith

-- what is not open shows no count
closed_count : (shape : Shape) → is_unresolved shape ≡ false → ShowsCount shape
closed_count (unresolved b) h = cc h
closed_count other h = tt

quote_kind : (q x y : Bool) → (if q then kind.Single x y else kind.Double x y) ≡ kind.Other → ⊥
quote_kind true x y e = cc
quote_kind false x y e = cc

quote_break : (q x y : Bool) → (if q then kind.Single x y else kind.Double x y) ≡ kind.Break → ⊥
quote_break true x y e = cc
quote_break false x y e = cc

-- a character of a run reads as itself, and begins a run
module _ (tables : Tables) (source : List ℕ) where
  kept_made : (b : ItemBody) (c : RunCharacter) (single double later last : Bool) → run_character b ≡ Some c
      → (turn_by (kind_of_shape (shape_of tables source b)) (shape_of tables source b) single double later last).made
      ≡ shape_of tables source b
  kept_made (body.MaybeEmphasis n x y) c single double later last e = refl
  kept_made other c single double later last e = cc

  shown_count : (b : ItemBody) (c : RunCharacter) → run_character b ≡ Some c → 0 < c.count
      → ShowsCount (shape_of tables source b)
  shown_count (body.MaybeEmphasis n x y) c e some =
      let same : record { count = n; can_open = x; can_close = y } ≡ c = cc in
      omega (arith, some, ap (λ (x : RunCharacter). x.count) same)
  shown_count other c e some = cc

  shown_run : (b : ItemBody) (c : RunCharacter) (d : Delimiter) → run_character b ≡ Some c → 0 < c.count
      → run_of_shape (shape_of tables source b) (Some d)
      ≡ Some (record { delimiter = d; length = c.count; can_open = c.can_open; can_close = c.can_close })
  shown_run (body.MaybeEmphasis zero x y) c d e some =
      let same : record { count = zero; can_open = x; can_close = y } ≡ c = cc in
      absurd (omega (arith, ap (λ (x : RunCharacter). x.count) same, some))
  shown_run (body.MaybeEmphasis (suc n) x y) c d e some =
      let same : record { count = suc n; can_open = x; can_close = y } ≡ c = cc in
      ap (λ (z : RunCharacter). Some
      (record { delimiter = d; length = z.count; can_open = z.can_open; can_close = z.can_close })) same
  shown_run other c d e some = cc

  -- of what else waits for pairing nothing stays open
  open_closed : (b : ItemBody) → waits_for_pairing b ≡ true → run_character b ≡ None → kind_of_shape (unresolved b)
      ≡ kind.Other
      → is_open b ≡ false
  open_closed (body.MaybeEmphasis n x y) w r k = cc
  open_closed (body.MaybeSmartQuote quote x y) w r k = absurd (quote_kind (quote == 39) x y k)
  open_closed other w r k = cc

  other_closed : (b : ItemBody) → (is_open b ≡ true → waits_for_pairing b ≡ true) → run_character b ≡ None
      → kind_of_shape (shape_of tables source b) ≡ kind.Other → is_unresolved (shape_of tables source b) ≡ false
  other_closed b waits none other =
      closed_shape tables source b (by_open (is_open b) refl)
    where
      by_open : (x : Bool) → is_open b ≡ x → is_open b ≡ false
      by_open false e = e
      by_open true e = open_closed b (waits e) none (ap kind_of_shape (sym (shape-open tables source b e)) ∙ other)

block_of_run : (b : ItemBody) (c : RunCharacter) → run_character b ≡ Some c → block_of b ≡ None
block_of_run (body.MaybeEmphasis n x y) c e = refl
block_of_run other c e = cc

break_closed : (shape : Shape) → kind_of_shape shape ≡ kind.Break → is_unresolved shape ≡ false
break_closed (unresolved (body.MaybeSmartQuote quote x y)) e = absurd (quote_break (quote == 39) x y e)
break_closed (unresolved other) e = cc
break_closed other e = refl

pub one_at_most : (b : Bool) → one_if b ≤ 1
one_at_most true = omega arith
one_at_most false = omega arith

empty : {A B : Type 0} (f : A → B) (g : Forest A) → relabelled f g ≡ nil → g ≡ nil
empty f nil e = refl
empty f (node a below after) e = cc

module _ (s : Setting) (tables : Tables) (nodes : List (Node Item)) where
  abbrev numbers : Forest ℕ → Forest Numbered
  numbers f = relabelled (numbered nodes) f

  abbrev label : ℕ → TreeNode ℕ
  label ix = record { note = ix; part = part_of s.text tables (item_at nodes ix) }

  abbrev turn : (single double : Bool) → ℕ → Forest ℕ → QuoteTurn
  turn single double ix after = first_turn (label ix) (labels s tables nodes after) single double

  -- a character of a run
  whole_at : (ix : ℕ) (below after : Forest ℕ) (c : RunCharacter) → run_character (item_at nodes ix).body ≡ Some c
      → HasWholeRuns s.text (numbers (node ix below after))
      → StandsWhole s.text (numbered nodes ix) (numbers below) (numbers after) c
  whole_at ix below after c e w = subst
      (λ o. IfSome o (StandsWhole s.text (numbered nodes ix) (numbers below) (numbers after))) e w.0

  none_below : (ix : ℕ) (below after : Forest ℕ) (c : RunCharacter) → run_character (item_at nodes ix).body ≡ Some c
      → HasWholeRuns s.text (numbers (node ix below after)) → labels s tables nodes below ≡ nil
  none_below ix below after c e w = ap (labels s tables nodes)
      (empty (numbered nodes) below (whole_at ix below after c e w).childless)

  -- and those that follow it
  begins_run : (n : ℕ) (opens closes single double : Bool) (ix : ℕ) (below after : Forest ℕ)
      → run_character (item_at nodes ix).body ≡ Some (record { count = n; can_open = opens; can_close = closes })
      → HasWholeRuns s.text (numbers (node ix below after))
      → BeginsRun ix n (quotes_after single double (labels s tables nodes (node ix below after)))
  begins_run zero opens closes single double ix below after e w = tt
  begins_run (suc zero) opens closes single double ix below after e w =
      (refl, none_below ix below after _ e w, block_of_run (item_at nodes ix).body _ e, tt)
  begins_run (suc (suc n)) opens closes single double ix below nil e w = absurd
      (whole_at ix below nil _ e w).stands.goes_on
  begins_run (suc (suc n)) opens closes single double ix below (node j inside after) e w =
      let g = (whole_at ix below (node j inside after) _ e w).stands.goes_on in
      let t = turn single double ix (node j inside after) in (
        refl,
        none_below ix below (node j inside after) _ e w,
        block_of_run (item_at nodes ix).body _ e,
        rw (← g.number) (begins_run (suc n) opens closes t.single t.double j inside after g.body w.1),
      )

  -- a tree, by whether it is a character of a run
  record TreeWhole (single double : Bool) (ix : ℕ) (below after : Forest ℕ) : Type 0 where
    counts : ShowsCount (turn single double ix after).made
    whole : IsWhole (run_of s.text (shaped (turn single double ix after).made (label ix)).part)
        (shaped (turn single double ix after).made (label ix)) (labels s tables nodes below)
        (quotes_after (turn single double ix after).single (turn single double ix after).double
        (labels s tables nodes after))
    counted : one_if (is_some (run_of s.text (shaped (turn single double ix after).made (label ix)).part))
        ≤ counts_one (run_character (item_at nodes ix).body)

  tree_whole : (single double : Bool) (ix : ℕ) (below after : Forest ℕ)
      → HasWholeRuns s.text (numbers (node ix below after))
      → WaitsForPairing (numbers (node ix below after)) → (o : Option RunCharacter)
      → run_character (item_at nodes ix).body ≡ o
      → TreeWhole single double ix below after
  tree_whole single double ix below after w waits None e =
      let t = turn single double ix after in
      let source : List ℕ = slice_range s.text (item_at nodes ix).start (item_at nodes ix).end in
      let closed : is_unresolved t.made ≡ false =
      turn-gives (λ shape. is_unresolved shape ≡ false) (λ c. refl) (kind_of_shape (label ix).part.shape)
      (label ix).part.shape single double (is_closed_later (labels s tables nodes after))
      (is_end (labels s tables nodes after)) (break_closed (label ix).part.shape)
      (other_closed tables source (item_at nodes ix).body waits.0 e) in
      let none : run_of s.text (shaped t.made (label ix)).part ≡ None = run_of_closed t.made _ closed in
      record {
        counts = closed_count t.made closed;
        whole = rw none closed;
        counted = omega (arith, ap (λ o. one_if (is_some o)) none);
      }
  tree_whole single double ix below after w waits (Some c) e =
      let t = turn single double ix after in
      let source : List ℕ = slice_range s.text (item_at nodes ix).start (item_at nodes ix).end in
      let x = (whole_at ix below after c e w).stands in
      let some : 0 < c.count = count_some s.text (numbered nodes ix) c.count c.can_open c.can_close _ x.goes_on in
      let d = delimiter_some (slice_index s.text (item_at nodes ix).start) x.delimiter in
      let made : t.made ≡ (label ix).part.shape = kept_made tables source (item_at nodes ix).body c single double
      (is_closed_later (labels s tables nodes after)) (is_end (labels s tables nodes after)) e in
      let run : Run = record { delimiter = d.0; length = c.count; can_open = c.can_open; can_close = c.can_close } in
      let is : run_of s.text (shaped t.made (label ix)).part ≡ Some run =
      rw (made, d.1) (shown_run tables source (item_at nodes ix).body c d.0 e some) in
      record {
        counts = subst ShowsCount (sym made) (shown_count tables source (item_at nodes ix).body c e some);
        whole = rw is (begins_run c.count c.can_open c.can_close single double ix below after e w);
        counted = omega (arith, one_at_most (is_some (run_of s.text (shaped t.made (label ix)).part)), ap counts_one e);
      }

  -- all trees
  pub whole_quoted : (single double : Bool) (f : Forest ℕ) → HasWholeRuns s.text (numbers f)
      → WaitsForPairing (numbers f)
      → AreWhole s.text (quotes_after single double (labels s tables nodes f))
      × (runs_in s.text (quotes_after single double (labels s tables nodes f)) ≤ delimiters_of (numbers f))
  whole_quoted single double nil w waits = (tt, omega arith)
  whole_quoted single double (node ix below after) w waits =
      let t = turn single double ix after in
      let here = tree_whole single double ix below after w waits (run_character (item_at nodes ix).body) refl in
      let rest = whole_quoted t.single t.double after w.1 waits.1 in
      ((here.counts, here.whole, rest.0), omega (arith, here.counted, rest.1))

-- without runs, reading a chain changes nothing
module _ (s : Setting) where
  no_runs : (chain : Forest (TreeNode ℕ)) (rs : List (Read ℕ)) → AreWhole s.text chain → runs_in s.text chain ≡ 0
      → (reads_from s 0 chain rs ≡ trees_done chain rs) × (finds_from s 0 chain rs ≡ 0)
  unfolding reads_from finds_from
  no_runs nil rs w e = (refl, refl)
  no_runs (node a below after) rs w e =
      by_run (run_of s.text a.part) refl (no_runs after (done_read a below ∷ rs) w.2 (omega (arith, e)))
    where
      by_run : (o : Option Run) → run_of s.text a.part ≡ o
          → (reads_from s 0 after (done_read a below ∷ rs) ≡ trees_done after (done_read a below ∷ rs))
          × (finds_from s 0 after (done_read a below ∷ rs) ≡ 0)
          → (reads_from s 0 (node a below after) rs ≡ trees_done (node a below after) rs)
          × (finds_from s 0 (node a below after) rs ≡ 0)
      by_run None is rest =
          let closed : is_unresolved a.part.shape ≡ false = subst (λ o. IsWhole o a below after) is w.1 in
          let here = reads_none s a below after rs is closed in (here.0 ∙ rest.0, here.1 ∙ rest.1)
      by_run (Some run) is rest = absurd (omega (arith, e, ap (λ o. one_if (is_some o)) is))

  pub paired_none : (chain : Forest (TreeNode ℕ)) → AreWhole s.text chain → runs_in s.text chain ≡ 0
      → (runs_paired s chain ≡ chain) × (finds_from s 0 chain [] ≡ 0)
  unfolding runs_paired
  paired_none chain w e =
      let r = no_runs chain [] w e in
      (ap (λ rs. read_trees rs nil) r.0 ∙ trees_before chain [] nil ∙ nothing_follows chain, r.1)

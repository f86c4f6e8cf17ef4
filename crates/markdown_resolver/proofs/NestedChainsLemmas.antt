-- Pairs nest in each chain of a well-formed block result: its trees lie one after the other, also after pass one, and
-- nothing is below the characters of its runs.
use Rattle.std.proofs.Common.{◌≡◌, ℕ, zero, suc, ◌-◌, ◌<◌, ◌≤◌, true, List, Option, Some, None, refl, ap, ◌∙◌, subst}
use Rattle.std.proofs.Common.{arith, length}
use Rattle.std.specs.Prelude.{IfSome, IsTrue, ⊤, slice_index, slice_range}
use Rattle.std.specs.Option.{option_map}
use Rattle.std.specs.List.{list_all}
use Rattle.std.proofs.lemmas.List.{length-replicate}
use Rattle.std.proofs.lemmas.Bool.{or_right, and_parts}
use Rattle.markdown_base.specs.BlockTree.{Numbered, tree_of}
use Rattle.markdown_base.specs.Forest.{Forest, nil, node, first_root, relabelled, roots, Throughout}
use Rattle.markdown_base.specs.Item.{BodyKind, body_kind, is_childless_kind, is_inline, is_inline_kind, is_open}
use Rattle.markdown_base.specs.Item.{settled_inline, undecided_bracket, undecided_delimiter, undecided_span}
use Rattle.markdown_base.specs.WellFormed.{AllKeepRules, InlineInOrder, IsWellFormed, PartCounts, RunCharacter}
use Rattle.markdown_base.specs.WellFormed.{RunGoesOn, RunsAreWhole, StandsInRun, StandsOverMarkup, all_inline}
use Rattle.markdown_base.specs.WellFormed.{counts_of, has_open, run_character}
use Rattle.markdown_base.specs.declared.block_parts.BlockParts.{BlockParts}
use Rattle.markdown_base.specs.declared.item.Item.{Item}
use Rattle.markdown_base.specs.declared.item.ItemBody.{ItemBody}
use Rattle.markdown_base.specs.declared.item.ItemBody.TheVariants as body
use Rattle.markdown_base.specs.declared.node.Node.{Node}
use Rattle.markdown_base.proofs.ByteListLemmas.{part_length}
use Rattle.markdown_delims.specs.Layers.{run_by, run_of, run_of_shape}
use Rattle.markdown_delims.specs.MayPair.{delimiter_of}
use Rattle.markdown_delims.specs.NestedPairs.{IsFilled, LieInOrder}
use Rattle.markdown_delims.specs.PairingLaws.{RunAt, further, no_run, run_at, with_runs}
use Rattle.markdown_delims.specs.declared.run.Delimiter.{Delimiter}
use Rattle.markdown_delims.specs.declared.run.Run.{Run}
use Rattle.markdown_delims.proofs.NestedPairsLemmas.{nest-law}
use Rattle.markdown_document.specs.ChainRest.{end_of, open_body, start_of}
use Rattle.markdown_document.specs.Document.{Plain, Shape, TreeNode, document, is_unresolved, no_notes, tree_node_of}
use Rattle.markdown_document.specs.Document.{unresolved}
use Rattle.markdown_document.specs.Setting.{Rules, Setting, setting_of}
use Rattle.markdown_document.specs.Tables.{Tables}
use Rattle.markdown_document.specs.TreeNodes.{annotate, annotated}
use Rattle.markdown_document.proofs.PlaceLemmas.{open-unresolved}
use Rattle.markdown_resolver.specs.Kept.{EachChain}
use Rattle.markdown_resolver.specs.Laws.{RunsStandWhole, by_place}
use Rattle.markdown_resolver.specs.NestedChains.{PairsNest, PairsNestAfterPassOne}
use Rattle.markdown_resolver.proofs.ApartLemmas.{LieApart}
use Rattle.markdown_resolver.proofs.DocumentRunsLemmas.{document-whole}
use Rattle.markdown_resolver.proofs.PassOneApartLemmas.{pass_one_apart}
use Rattle.markdown_resolver.proofs.WholeLemmas.{pass_one-whole}

-- ---- the characters of runs

-- a character of a run is open
run_open : (shape : Shape) (c : RunCharacter) → run_character (open_body shape) ≡ Some c → is_unresolved shape ≡ true
run_open (unresolved b) c e = refl
run_open other c e = cc e

-- a run that a shape begins has as many characters as the shape says
record Begins (shape : Shape) (run : Run) : Type 0 where
  character : RunCharacter
  is : run_character (open_body shape) ≡ Some character
  length_is : character.count ≡ run.length

run_begins : (shape : Shape) (d : Option Delimiter) (run : Run) → run_of_shape shape d ≡ Some run → Begins shape run
run_begins (unresolved (body.MaybeEmphasis count opens closes)) d run e = by count d e
  where
    by : (count : ℕ) (d : Option Delimiter) → run_by count opens closes d ≡ Some run
        → Begins (unresolved (body.MaybeEmphasis count opens closes)) run
    by count None e = cc e
    by zero (Some d) e = cc e
    by (suc n) (Some d) e = record {
      character = record { count = suc n; can_open = opens; can_close = closes };
      is = refl;
      length_is = ap (λ (o : Option Run). length_of o) e;
    }
      where
        length_of : Option Run → ℕ
        length_of None = 0
        length_of (Some r) = r.length
run_begins other d run e = cc e

module _ {A : Type 0} where
  -- the first trees of a chain are the rest of a run, with this many characters
  Continues : ℕ → Forest (TreeNode A) → Type 0
  Continues zero f = ⊤
  Continues (suc n) nil = ⊤
  Continues (suc n) (node a below after) = (c : RunCharacter) × (run_character (open_body a.part.shape) ≡ Some c)
      × (c.count ≡ suc n)

  continues_from : (source : List ℕ) (a : TreeNode A) (after : Forest (TreeNode A)) (c : RunCharacter) (more : ℕ)
      → c.count ≡ suc more → run_character (open_body a.part.shape) ≡ Some c
      → RunsAreWhole source (by_place a) (option_map by_place (first_root after)) → Continues more after
  unfolding Continues
  continues_from source a after c zero e is w = tt
  continues_from source a nil c (suc more) e is w = tt
  continues_from source a (node b below rest) c (suc more) e is w =
      let stands : StandsInRun source (by_place a) (Some (by_place b)) c =
      subst (λ (o : Option RunCharacter). IfSome o (StandsInRun source (by_place a) (Some (by_place b)))) is w in
      let on = subst (λ n. RunGoesOn source (by_place a) n c.can_open c.can_close (Some (by_place b))) e
      stands.goes_on in
      (record { count = suc more; can_open = c.can_open; can_close = c.can_close }, on.body, refl)

  -- where the last tree of a chain ends
  last_of : ℕ → Forest (TreeNode A) → ℕ
  last_of i nil = i
  last_of i (node a below after) = last_of (end_of a) after

  filled : (note : Option RunAt) (i k : ℕ) (below : Forest (TreeNode A)) → i ≤ k
      → ((p : RunAt) → note ≡ Some p → below ≡ nil) → IsFilled note i k (LieInOrder i k (annotated no_run below))
  filled None i k below l none = l
  filled (Some p) i k below l none = rw (none p refl) l

  module _ (s : Setting) where
    in_order : (more : ℕ) (before : Option RunAt) (i : ℕ) (f : Forest (TreeNode A)) → LieApart i f
        → RunsStandWhole s.text f → Continues more f → LieInOrder i (last_of i f) (with_runs s more before f)
    unfolding Continues last_of
    in_order zero before i nil h w k = omega arith
    in_order (suc more) before i nil h w k = omega arith
    in_order (suc more) before i (node a below after) h w k =
        let opens = run_open a.part.shape k.0 k.1 in (
          h.0,
          filled before (start_of a) (end_of a) below h.1 (λ p e. (h.2 opens).1),
          in_order more before (end_of a) after h.4 w.2 (continues_from s.text a after k.0 more k.2 k.1 w.0),
        )
    in_order zero before i (node a below after) h w k = by (run_of s.text a.part) refl
        (λ more before k. in_order more before (end_of a) after h.4 w.2 k)
      where
        by : (o : Option Run) → run_of s.text a.part ≡ o
            → ((more : ℕ) (before : Option RunAt) → Continues more after
            → LieInOrder (end_of a) (last_of (end_of a) after) (with_runs s more before after))
            → LieInOrder i (last_of (end_of a) after)
            (node (annotate (λ _. run_at (start_of a) o) a) (annotated no_run below)
            (with_runs s (further (run_at (start_of a) o)) (run_at (start_of a) o) after))
        by None e later = (h.0, h.1, later zero None tt)
        by (Some run) e later =
            let b = run_begins a.part.shape (delimiter_of (slice_index s.text a.part.range.start)) run e in
            let opens = run_open a.part.shape b.character b.is in
            let here : RunAt = record { start = start_of a; run = run } in (
              h.0,
              filled (Some here) (start_of a) (end_of a) below h.1 (λ p e. (h.2 opens).1),
              later (run.length - 1) (Some here) (rest_of run b),
            )
          where
            rest_of : (run : Run) → Begins a.part.shape run → Continues (run.length - 1) after
            rest_of run b = by_length run.length b.length_is
              where
                by_length : (n : ℕ) → b.character.count ≡ n → Continues (n - 1) after
                by_length zero e = tt
                by_length (suc n) e =
                    let more : n ≡ suc n - 1 = omega arith in
                    subst (λ m. Continues m after) more (continues_from s.text a after b.character n e b.is w.0)

    chain_nests : (f : Forest (TreeNode A)) → LieApart 0 f → RunsStandWhole s.text f → PairsNest s f
    unfolding Continues
    chain_nests f h w = (nest-law s 0 (last_of 0 f) f (in_order 0 None 0 f h w tt)).1

    below_nest : (i : ℕ) (f : Forest (TreeNode A)) → LieApart i f → RunsStandWhole s.text f
        → Throughout (λ a below after. PairsNest s below) f
    below_nest i nil h w = tt
    below_nest i (node a below after) h w =
        (chain_nests below h.3 w.1, below_nest 0 below h.3 w.1, below_nest (end_of a) after h.4 w.2)

-- ---- fresh chains

-- an open item has bytes
some_bytes : (bytes : List ℕ) (b : ItemBody) → is_open b ≡ true → StandsOverMarkup bytes b
    → IfSome (run_character b) (λ c. length bytes ≡ 1) → 0 < length bytes
some_bytes bytes (body.MaybeEmphasis count can_open can_close) opens markup run = omega (arith, run)
some_bytes bytes (body.MaybeMath can_open can_close context) opens markup run = omega (arith, ap length markup)
some_bytes bytes (body.MaybeSmartQuote quote can_open can_close) opens markup run = omega (arith, ap length markup.0)
some_bytes bytes (body.MaybeCode count escaped) opens markup run =
    let size : length bytes ≡ count = ap length markup.0 ∙ length-replicate count 96 in
    omega (arith, size, markup.1)
some_bytes bytes body.MaybeHtml opens markup run = omega (arith, ap length markup)
some_bytes bytes body.MaybeLinkOpen opens markup run = omega (arith, ap length markup)
some_bytes bytes (body.MaybeLinkClose reference) opens markup run = omega (arith, ap length markup)
some_bytes bytes body.MaybeImage opens markup run = omega (arith, ap length markup)
some_bytes bytes other opens markup run = cc opens

pub inline_childless : (k : BodyKind) → is_inline_kind k ≡ true → is_childless_kind k ≡ true
inline_childless undecided_span e = refl
inline_childless undecided_bracket e = refl
inline_childless undecided_delimiter e = refl
inline_childless settled_inline e = refl
inline_childless other e = cc e

module _ (source : List ℕ) (tables : Tables) (counts : PartCounts) where
  abbrev seen : Numbered → Plain
  seen a = tree_node_of source tables a.item

  -- a chain of inline items, after one that ends at a byte offset
  inline_apart : (i : ℕ) (f : Forest Numbered) → AllKeepRules source counts f → IsTrue (all_inline f)
      → IfSome (first_root f) (λ a. i ≤ a.item.start) → LieApart i (relabelled seen f)
  inline_apart i nil h all from = tt
  inline_apart i (node a below after) h all from =
      let inline = and_parts (is_inline a.item.body) (list_all (λ n. is_inline n.item.body) (roots after)) all in
      let rules = h.0 in
      let none : below ≡ nil = rules.chains_are_kept.childless (inline_childless (body_kind a.item.body) inline.0) in
      let bytes = slice_range source a.item.start a.item.end in
      let size : length bytes ≡ a.item.end - a.item.start
      = part_length source a.item.start a.item.end rules.ranges_lie_in.end.0 in (
        from,
        rules.ranges_lie_in.ordered,
        (λ opens.
            let some = some_bytes bytes a.item.body (open-unresolved tables bytes a.item.body opens)
            rules.markup_is_there (run_long (run_character a.item.body) bytes size rules.runs_are_whole) in
            (omega (arith, size, some), ap (relabelled seen) none)),
        rw none tt,
        inline_apart a.item.end after h.2 inline.1 (next_apart after inline.0 inline.1 rules.inline_in_order),
      )
    where
      run_long : (o : Option RunCharacter) (bytes : List ℕ) → length bytes ≡ a.item.end - a.item.start
          → IfSome o (StandsInRun source a (first_root after)) → IfSome o (λ c. length bytes ≡ 1)
      run_long None bytes e w = tt
      run_long (Some c) bytes e w = omega (arith, e, w.one_byte)

      next_apart : (after : Forest Numbered) → IsTrue (is_inline a.item.body) → IsTrue (all_inline after)
          → InlineInOrder a (first_root after) → IfSome (first_root after) (λ b. a.item.end ≤ b.item.start)
      next_apart nil here all order = tt
      next_apart (node b inner rest) here all order =
          (order here
          (and_parts (is_inline b.item.body) (list_all (λ n. is_inline n.item.body) (roots rest)) all).0).ends

  -- what holds of chains of inline items holds of each chain with an open item
  pub chains_of : (P : Forest Plain → Type 0)
      → ((f : Forest Numbered) → AllKeepRules source counts f → IsTrue (all_inline f) → P (relabelled seen f))
      → (f : Forest Numbered) → AllKeepRules source counts f → (IsTrue (has_open f) → IsTrue (all_inline f))
      → EachChain P (relabelled seen f)
  chains_of P holds nil h kept = tt
  chains_of P holds (node a below after) h kept = (
    (λ opens. holds (node a below after) h (kept (open_here opens))),
    chains_of P holds below h.1 h.0.chains_are_kept.inline_only,
    chains_of P holds after h.2 (λ opens. all_later (kept (or_right (is_open a.item.body) (has_open after) opens))),
  )
    where
      all_later : IsTrue (all_inline (node a below after)) → IsTrue (all_inline after)
      all_later all = (and_parts (is_inline a.item.body) (list_all (λ n. is_inline n.item.body) (roots after)) all).1

      open_here : is_unresolved (seen a).part.shape ≡ true → IsTrue (has_open (node a below after))
      open_here opens =
          let is : is_open a.item.body ≡ true = open-unresolved tables (slice_range source a.item.start a.item.end)
          a.item.body opens in
          rw is refl

  chain_apart : (f : Forest Numbered) → AllKeepRules source counts f → IsTrue (all_inline f)
      → LieApart 0 (relabelled seen f)
  chain_apart f h all = inline_apart 0 f h all (from_start f)
    where
      from_start : (f : Forest Numbered) → IfSome (first_root f) (λ a. 0 ≤ a.item.start)
      from_start nil = tt
      from_start (node a below after) = omega arith

-- the trees of each chain of a well-formed block result lie one after the other
pub document_apart : (source : List ℕ) (nodes : List (Node Item)) (parts : BlockParts) (tables : Tables)
    → IsWellFormed source nodes parts → EachChain (LieApart 0) (document source tables nodes)
document_apart source nodes parts tables formed =
    chains_of source tables (counts_of parts) (LieApart 0) (chain_apart source tables (counts_of parts)) (tree_of nodes)
    formed.rules (λ opens. absurd (cc (opens, formed.top_is_closed)))

-- where runs are whole throughout, and the trees of each chain lie one after the other, pairs nest after pass one
chains_nest : (s : Setting) (f : Forest Plain) → EachChain (LieApart 0) f → RunsStandWhole s.text f
    → EachChain (PairsNestAfterPassOne s) f
chains_nest s nil h w = tt
chains_nest s (node a below after) h w = (
  (λ opens above state.
      let chain = node a below after in
      let apart = pass_one_apart s no_notes above chain state (h.0 opens) in
      let whole = pass_one-whole s no_notes above chain state w in
      (chain_nests s _ apart whole, below_nest s 0 _ apart whole)),
  chains_nest s below h.1 w.1,
  chains_nest s after h.2 w.2,
)

pub document_nests : (source : List ℕ) (nodes : List (Node Item)) (parts : BlockParts) (tables : Tables) (rules : Rules)
    → IsWellFormed source nodes parts
    → EachChain (PairsNestAfterPassOne (setting_of source rules)) (document source tables nodes)
document_nests source nodes parts tables rules formed =
    chains_nest (setting_of source rules) (document source tables nodes)
    (document_apart source nodes parts tables formed) (document-whole source nodes parts tables formed)

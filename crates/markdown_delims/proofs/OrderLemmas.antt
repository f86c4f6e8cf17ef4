-- Pairing a chain, and changing what is below each of its trees and the notes of its nodes, may be done in either
-- order, if the change of a chain in which nothing is open only changes what is below its trees and its notes.
use Rattle.std.proofs.Common.{◌≡◌, ℕ, zero, suc, ◌-◌, Bool, true, false, List, [], ◌∷◌, length, Option, Some, None}
use Rattle.std.proofs.Common.{refl, ap, sym, ◌∙◌, map}
use Rattle.std.specs.Prelude.{IfSome, not, ◌&&◌}
use Rattle.std.specs.List.{AllByRecursion}
use Rattle.std.proofs.lemmas.List.{length-map}
use Rattle.markdown_base.specs.Forest.{Forest, nil, node}
use Rattle.markdown_document.specs.Document.{TreeNode, is_unresolved, as_text}
use Rattle.markdown_document.specs.TreeNodes.{annotate}
use Rattle.markdown_document.specs.Setting.{Setting}
use Rattle.markdown_document.specs.Waiting.{text_if, as_closed}
use Rattle.markdown_delims.specs.declared.run.Delimiter.{Delimiter}
use Rattle.markdown_delims.specs.declared.run.Run.{Run}
use Rattle.markdown_delims.specs.Layers.{extensions_of, layer_of_two, spanned, run_of}
use Rattle.markdown_delims.specs.MayPair.{may_pair}
use Rattle.markdown_delims.specs.Pairing.{Read, done_read, waiting, texts_before, characters_done, read_trees}
use Rattle.markdown_delims.specs.Pairing.{FoundOpener, found_if, nearest_opener, drop_read, Layers, layers, trees_done}
use Rattle.markdown_delims.specs.Pairing.{still_waiting, last_first, opened_if, left_over, after_layers, after_search}
use Rattle.markdown_delims.specs.Pairing.{closed_by, run_read, first_texts, after_tree, reads_from, runs_paired, paired}
use Rattle.markdown_delims.specs.PairingFinds.{search_finds, closer_finds, run_finds, tree_finds, finds_from, finds_in}
use Rattle.markdown_delims.specs.Quotes.{kind_of_shape, closes_later, is_closed_later, is_end, first_turn, quotes_after}
use Rattle.markdown_delims.specs.Quotes.{with_quotes}
use Rattle.markdown_delims.proofs.KeepLemmas.{EachTree, EachRead, EachFound, Holds, nearest-keeps, found-keeps}
use Rattle.markdown_delims.proofs.KeepLemmas.{firsts-keep, holds-on}
use Rattle.markdown_delims.proofs.KeepLemmas.{IsClosed, IsClosedTree, as_closed-closed, readable, makes-closed}
use Rattle.markdown_delims.proofs.LayerLawLemmas.{two-closed}
use Rattle.markdown_delims.proofs.StepLawLemmas.{run-stays}

-- none of a chain's own trees is open, nor is any that was read
abbrev pub IsClosedChain : {A : Type 0} → Forest (TreeNode A) → Type 0
IsClosedChain f = EachTree IsClosedTree f

abbrev AreClosed : {A : Type 0} → List (TreeNode A) → Type 0
AreClosed xs = AllByRecursion IsClosed xs

abbrev Good : {A : Type 0} → List (Read A) → Type 0
Good rs = EachRead IsClosed IsClosedTree rs

module _ {A B : Type 0} (to : A → B) (within : Forest (TreeNode A) → Forest (TreeNode B)) where
  -- it is done below each tree
  abbrev pub deep : Forest (TreeNode A) → Forest (TreeNode B)
  deep nil = nil
  deep (node a below after) = node (annotate to a) (within below) (deep after)

  abbrev moved : List (TreeNode A) → List (TreeNode B)
  moved xs = map (annotate to) xs

  abbrev deep_reads : List (Read A) → List (Read B)
  deep_reads [] = []
  deep_reads (done_read a below ∷ rs) = done_read (annotate to a) (within below) ∷ deep_reads rs
  deep_reads (waiting dropped run xs ∷ rs) = waiting dropped run (moved xs) ∷ deep_reads rs

  abbrev deep_opener : FoundOpener A → FoundOpener B
  deep_opener f = record {
    inside = deep f.inside;
    run = f.run;
    characters = moved f.characters;
    before = deep_reads f.before;
  }

  abbrev deep_found : Option (FoundOpener A) → Option (FoundOpener B)
  deep_found None = None
  deep_found (Some f) = Some (deep_opener f)

  abbrev deep_layers : Layers A → Layers B
  deep_layers l = record { whole = deep l.whole; opening = moved l.opening; closing = moved l.closing }

  module _ (s : Setting) (within_nil : within nil ≡ nil) (stays : (f : Forest (TreeNode A)) → IsClosedChain f → within f
      ≡ deep f) where
    texts_deep : (xs : List (TreeNode A)) (chain : Forest (TreeNode A)) → texts_before (moved xs) (deep chain)
        ≡ deep (texts_before xs chain)
    texts_deep [] chain = refl
    texts_deep (x ∷ xs) chain = rw within_nil at (texts_deep xs (node x nil chain))

    trees_deep : (rs : List (Read A)) (after : Forest (TreeNode A)) → read_trees (deep_reads rs) (deep after)
        ≡ deep (read_trees rs after)
    trees_deep [] after = refl
    trees_deep (done_read a below ∷ rs) after = trees_deep rs (node a below after)
    trees_deep (waiting dropped run xs ∷ rs) after = ap (read_trees (deep_reads rs)) (texts_deep xs after)
        ∙ trees_deep rs (texts_before xs after)

    done_deep : (xs : List (TreeNode A)) (rs : List (Read A)) → characters_done (moved xs) (deep_reads rs)
        ≡ deep_reads (characters_done xs rs)
    done_deep [] rs = refl
    done_deep (x ∷ xs) rs =
        ap (λ (f : Forest (TreeNode B)). done_read (annotate to x) f ∷ characters_done (moved xs) (deep_reads rs))
        (sym within_nil)
        ∙ ap (λ (os : List (Read B)). done_read (annotate to x) (within nil) ∷ os) (done_deep xs rs)

    found_deep : (b : Bool) (f : FoundOpener A) (o : Option (FoundOpener A)) → found_if b (deep_opener f) (deep_found o)
        ≡ deep_found (found_if b f o)
    found_deep true f o = refl
    found_deep false f o = refl

    nearest_deep : (closer : Run) (rs : List (Read A)) (inside : Forest (TreeNode A))
        → nearest_opener closer (deep_reads rs) (deep inside)
        ≡ deep_found (nearest_opener closer rs inside)
    nearest_deep closer [] inside = refl
    nearest_deep closer (done_read a below ∷ rs) inside = nearest_deep closer rs (node a below inside)
    nearest_deep closer (waiting dropped run xs ∷ rs) inside =
        let f : FoundOpener A = record { inside = inside; run = run; characters = xs; before = rs } in
        rw (texts_deep xs inside, nearest_deep closer rs (texts_before xs inside))
        (found_deep (not dropped && may_pair run closer) f (nearest_opener closer rs (texts_before xs inside)))

    dropped_deep : (d : Delimiter) (rs : List (Read A)) → map (drop_read d) (deep_reads rs)
        ≡ deep_reads (map (drop_read d) rs)
    dropped_deep d [] = refl
    dropped_deep d (done_read a below ∷ rs) = rw (dropped_deep d rs) refl
    dropped_deep d (waiting dropped run xs ∷ rs) = rw (dropped_deep d rs) refl

    layers_deep : (d : Delimiter) (xs vs : List (TreeNode A)) (inside : Forest (TreeNode A)) → IsClosedChain inside
        → layers s d (moved xs) (moved vs) (deep inside) ≡ deep_layers (layers s d xs vs inside)
    layers_deep d [] vs inside h = refl
    layers_deep d (x ∷ xs) [] inside h = refl
    layers_deep d (x ∷ []) (v ∷ vs) inside h = rw (stays inside h) refl
    layers_deep d (x ∷ y ∷ xs) (v ∷ []) inside h = rw (stays inside h) refl
    layers_deep d (x ∷ y ∷ xs) (v ∷ w ∷ vs) inside h =
        rw (stays inside h) at
        (layers_deep d xs vs (node (spanned s.text (layer_of_two (extensions_of s.rules.syntax) d) y w) inside nil)
        (two-closed (extensions_of s.rules.syntax) d _, tt))

    done_trees_deep : (f : Forest (TreeNode A)) (rs : List (Read A)) → trees_done (deep f) (deep_reads rs)
        ≡ deep_reads (trees_done f rs)
    done_trees_deep nil rs = refl
    done_trees_deep (node a below after) rs = done_trees_deep after (done_read a below ∷ rs)

    still_deep : (run : Run) (xs : List (TreeNode A)) (rs : List (Read A)) → still_waiting run (moved xs)
        (deep_reads rs)
        ≡ deep_reads (still_waiting run xs rs)
    still_deep run [] rs = refl
    still_deep run (x ∷ xs) rs = refl

    turned_deep : (xs ys : List (TreeNode A)) → last_first (moved xs) (moved ys) ≡ moved (last_first xs ys)
    turned_deep [] ys = refl
    turned_deep (x ∷ xs) ys = turned_deep xs (x ∷ ys)

    opened_deep : (b : Bool) (run : Run) (xs : List (TreeNode A)) (rs : List (Read A))
        → opened_if b run (moved xs) (deep_reads rs)
        ≡ deep_reads (opened_if b run xs rs)
    opened_deep true run xs rs = refl
    opened_deep false run xs rs = done_deep xs rs

    left_deep : (run : Run) (vs : List (TreeNode A)) (rs : List (Read A)) → left_over run (moved vs) (deep_reads rs)
        ≡ deep_reads (left_over run vs rs)
    left_deep run vs rs = ap (λ (xs : List (TreeNode B)). opened_if run.can_open run xs (deep_reads rs))
        (turned_deep vs [])
        ∙ opened_deep run.can_open run (last_first vs []) rs

    -- what goes on from a closer's characters and from what was read: it reads, and finds as many openers
    abbrev IsDeep : (reads' : List (TreeNode B) → List (Read B) → List (Read B))
        → (finds' : List (TreeNode B) → List (Read B) → ℕ)
        → (reads : List (TreeNode A) → List (Read A) → List (Read A)) → (finds : List (TreeNode A) → List (Read A) → ℕ)
        → Type 0
    IsDeep reads' finds' reads finds = (vs : List (TreeNode A)) (rs : List (Read A)) → AreClosed vs → Good rs
        → (reads' (moved vs) (deep_reads rs) ≡ deep_reads (reads vs rs))
        × (finds' (moved vs) (deep_reads rs) ≡ finds vs rs)

    -- a pair
    pair_deep : {C : Type 0} (go : List (TreeNode B) → List (Read B) → C) (vs : List (TreeNode A)) (f : FoundOpener A)
        → EachFound IsClosed IsClosedTree f
        → (let l : Layers B = layers s f.run.delimiter (moved f.characters) (moved vs) (deep f.inside) in
        let made : Layers A = layers s f.run.delimiter f.characters vs f.inside in
        go l.closing (after_layers (deep_opener f) l) ≡ go (moved made.closing) (deep_reads (after_layers f made)))
    pair_deep go vs f g =
        let made : Layers A = layers s f.run.delimiter f.characters vs f.inside in
        ap (λ (l : Layers B). go l.closing (after_layers (deep_opener f) l))
        (layers_deep f.run.delimiter f.characters vs f.inside g.0)
        ∙ ap (go (moved made.closing))
        (ap (trees_done (deep made.whole)) (still_deep f.run made.opening f.before)
        ∙ done_trees_deep made.whole (still_waiting f.run made.opening f.before))

    searched_deep : (reads' : List (TreeNode B) → List (Read B) → List (Read B))
        (finds' : List (TreeNode B) → List (Read B) → ℕ) (reads : List (TreeNode A) → List (Read A) → List (Read A))
        (finds : List (TreeNode A) → List (Read A) → ℕ) (closer : Run) (vs : List (TreeNode A)) (rs : List (Read A))
        (o : Option (FoundOpener A)) → IsDeep reads' finds' reads finds → AreClosed vs
        → IfSome o (EachFound IsClosed IsClosedTree)
        → (after_search s reads' closer (moved vs) (deep_reads rs) (deep_found o)
        ≡ deep_reads (after_search s reads closer vs rs o))
        × (search_finds s finds' (moved vs) (deep_found o) ≡ search_finds s finds vs o)
    searched_deep reads' finds' reads finds closer vs rs None h k g = (
      ap (left_over closer (moved vs)) (dropped_deep closer.delimiter rs)
          ∙ left_deep closer vs (map (drop_read closer.delimiter) rs),
      refl,
    )
    searched_deep reads' finds' reads finds closer vs rs (Some f) h k g =
        let made : Layers A = layers s f.run.delimiter f.characters vs f.inside in
        let holds = found-keeps IsClosed IsClosedTree s (makes-closed s) vs nil f k tt g in
        let rest = h made.closing (after_layers f made) holds.0 holds.1 in
        (pair_deep reads' vs f g ∙ rest.0, ap suc (pair_deep finds' vs f g ∙ rest.1))

    closed_deep : (turns : ℕ) (closer : Run)
        → IsDeep (λ vs rs. closed_by s turns closer vs rs) (λ vs rs. closer_finds s turns closer vs rs)
        (λ vs rs. closed_by s turns closer vs rs) (λ vs rs. closer_finds s turns closer vs rs)
    unfolding closed_by closer_finds
    closed_deep zero closer [] rs h k = (refl, refl)
    closed_deep (suc turns) closer [] rs h k = (refl, refl)
    closed_deep zero closer (v ∷ vs) rs h k = (left_deep closer (v ∷ vs) rs, refl)
    closed_deep (suc turns) closer (v ∷ vs) rs h k =
        let found = nearest_deep closer rs nil in
        let r = searched_deep (λ vs rs. closed_by s turns closer vs rs) (λ vs rs. closer_finds s turns closer vs rs)
        (λ vs rs. closed_by s turns closer vs rs) (λ vs rs. closer_finds s turns closer vs rs) closer (v ∷ vs) rs
        (nearest_opener closer rs nil) (closed_deep turns closer) h
        (nearest-keeps IsClosed IsClosedTree s (makes-closed s) closer rs nil k tt) in (
          rw found r.0,
          rw found r.1,
        )

    run_deep : (b : Bool) (run : Run) → IsDeep (λ vs rs. run_read s b run vs rs) (λ vs rs. run_finds s b run vs rs)
        (λ vs rs. run_read s b run vs rs) (λ vs rs. run_finds s b run vs rs)
    run_deep true run vs rs h k =
        let r = closed_deep (length vs) run vs rs h k in (
          rw (length-map vs (annotate to)) r.0,
          rw (length-map vs (annotate to)) r.1,
        )
    run_deep false run vs rs h k = (left_deep run vs rs, refl)

    firsts_deep : (n : ℕ) (chain : Forest (TreeNode A)) → first_texts s.text n (deep chain)
        ≡ moved (first_texts s.text n chain)
    firsts_deep zero chain = refl
    firsts_deep (suc n) nil = refl
    firsts_deep (suc n) (node a below after) = ap (λ (xs : List (TreeNode B)). as_text s.text (annotate to a) ∷ xs)
        (firsts_deep n after)

    text_deep : (b : Bool) (a : TreeNode A) → text_if b s.text (annotate to a) ≡ annotate to (text_if b s.text a)
    text_deep true a = refl
    text_deep false a = refl

    abbrev NextDeep : (reads' : ℕ → List (Read B) → List (Read B)) → (finds' : ℕ → List (Read B) → ℕ)
        → (reads : ℕ → List (Read A) → List (Read A)) → (finds : ℕ → List (Read A) → ℕ) → Type 0
    NextDeep reads' finds' reads finds = (skip : ℕ) (fs : List (Read A)) → Good fs
        → (reads' skip (deep_reads fs) ≡ deep_reads (reads skip fs)) × (finds' skip (deep_reads fs) ≡ finds skip fs)

    tree_deep : (reads' : ℕ → List (Read B) → List (Read B)) (finds' : ℕ → List (Read B) → ℕ)
        (reads : ℕ → List (Read A) → List (Read A)) (finds : ℕ → List (Read A) → ℕ) (a : TreeNode A)
        (below after : Forest (TreeNode A)) (rs : List (Read A)) (o : Option Run) → NextDeep reads' finds' reads finds
        → Good rs
        → (after_tree s reads' (annotate to a) (within below) (deep after) (deep_reads rs) o
        ≡ deep_reads (after_tree s reads a below after rs o))
        × (tree_finds s finds' (annotate to a) (within below) (deep after) (deep_reads rs) o
        ≡ tree_finds s finds a below after rs o)
    tree_deep reads' finds' reads finds a below after rs None h k =
        let is = text_deep (is_unresolved a.part.shape) a in
        let rest = h 0 (done_read (as_closed s.text a) below ∷ rs) (as_closed-closed s.text a, k) in
        (rw is rest.0, rw is rest.1)
    tree_deep reads' finds' reads finds a below after rs (Some run) h k =
        let n : ℕ = run.length - 1 in
        let vs : List (TreeNode A) = first_texts s.text run.length (node a below after) in
        let closed : AreClosed vs =
        (firsts-keep IsClosed IsClosedTree s (makes-closed s) run.length (node a below after)
        (readable s (node a below after))).0 in
        let firsts = firsts_deep run.length (node a below after) in
        let read = run_deep run.can_close run vs rs closed k in
        let rest = h n (run_read s run.can_close run vs rs)
        (run-stays s (Holds IsClosed IsClosedTree s (makes-closed s))
        (holds-on IsClosed IsClosedTree s (makes-closed s)) run vs rs nil (closed, k, tt)).1 in
        (rw (firsts, read.0) rest.0, rw (firsts, read.1, read.0, rest.1) refl)

    reads_deep : (skip : ℕ) (chain : Forest (TreeNode A)) (rs : List (Read A)) → Good rs
        → (reads_from s skip (deep chain) (deep_reads rs) ≡ deep_reads (reads_from s skip chain rs))
        × (finds_from s skip (deep chain) (deep_reads rs) ≡ finds_from s skip chain rs)
    unfolding reads_from finds_from
    reads_deep skip nil rs k = (refl, refl)
    reads_deep (suc skip) (node a below after) rs k = reads_deep skip after rs k
    reads_deep zero (node a below after) rs k =
        tree_deep (λ skip others. reads_from s skip (deep after) others)
        (λ skip others. finds_from s skip (deep after) others) (λ skip others. reads_from s skip after others)
        (λ skip others. finds_from s skip after others) a below after rs (run_of s.text a.part)
        (λ skip fs g. reads_deep skip after fs g) k

    later_deep : (chain : Forest (TreeNode A)) → is_closed_later (deep chain) ≡ is_closed_later chain
    later_deep nil = refl
    later_deep (node a below after) = ap (closes_later (kind_of_shape a.part.shape)) (later_deep after)

    end_deep : (chain : Forest (TreeNode A)) → is_end (deep chain) ≡ is_end chain
    end_deep nil = refl
    end_deep (node a below after) = refl

    quotes_deep : (single double : Bool) (chain : Forest (TreeNode A)) → quotes_after single double (deep chain)
        ≡ deep (quotes_after single double chain)
    quotes_deep single double nil = refl
    quotes_deep single double (node a below after) =
        rw (
          later_deep after,
          end_deep after,
          quotes_deep (first_turn a after single double).single (first_turn a after single double).double after,
        ) refl

    -- in either order
    pub paired-deep : (chain : Forest (TreeNode A)) → paired s (deep chain) ≡ deep (paired s chain)
    unfolding paired runs_paired with_quotes
    paired-deep chain =
        ap (λ (f : Forest (TreeNode B)). read_trees (reads_from s 0 f []) nil) (quotes_deep false false chain)
        ∙ ap (λ (rs : List (Read B)). read_trees rs nil) (reads_deep 0 (quotes_after false false chain) [] tt).0
        ∙ trees_deep (reads_from s 0 (quotes_after false false chain) []) nil

    pub finds-deep : (chain : Forest (TreeNode A)) → finds_in s (deep chain) ≡ finds_in s chain
    unfolding finds_in with_quotes
    finds-deep chain = ap (λ (f : Forest (TreeNode B)). finds_from s 0 f []) (quotes_deep false false chain)
        ∙ (reads_deep 0 (quotes_after false false chain) [] tt).1

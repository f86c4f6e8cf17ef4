-- In a chain in which the note of each character is its run, each tree that is made from a run is a character of it, or
-- joins it to a run with which it may pair: this holds for all that is read, since the characters of a closer belong to
-- one run, and so do those of an open run.
use Rattle.std.proofs.Common.{◌≡◌, inl, inr, ℕ, zero, suc, ◌-◌, Bool, true, false, List, [], ◌∷◌, Option, Some, None}
use Rattle.std.proofs.Common.{refl, ap, sym, subst, ◌∙◌, arith}
use Rattle.std.specs.Prelude.{⊤}
use Rattle.std.specs.List.{AllByRecursion}
use Rattle.std.specs.declared.ops.Range.{Range}
use Rattle.markdown_base.specs.Forest.{Forest, nil, node}
use Rattle.markdown_base.proofs.OptionLemmas.{if_both}
use Rattle.markdown_document.specs.Document.{Shape, TreeNode, is_unresolved}
use Rattle.markdown_document.specs.TreeNodes.{annotated}
use Rattle.markdown_document.specs.Setting.{Setting}
use Rattle.markdown_document.specs.Waiting.{text_if, as_closed}
use Rattle.markdown_delims.specs.declared.run.Delimiter.{Delimiter}
use Rattle.markdown_delims.specs.declared.run.Run.{Run}
use Rattle.markdown_delims.specs.JoinedRuns.{HasCharacter, IsMadeOfRun, JoinedLaw, JoinsRuns}
use Rattle.markdown_delims.specs.Layers.{extensions_of, layer_of_one, layer_of_two, run_of, spanned}
use Rattle.markdown_delims.specs.MayPair.{may_pair}
use Rattle.markdown_delims.specs.Pairing.{Read, done_read, read_trees, FoundOpener, nearest_opener, Layers, layers}
use Rattle.markdown_delims.specs.Pairing.{still_waiting, last_first, left_over, after_layers, first_texts, reads_from}
use Rattle.markdown_delims.specs.Pairing.{runs_paired, paired}
use Rattle.markdown_delims.specs.PairingLaws.{RunAt, further, no_run, run_at, with_runs}
use Rattle.markdown_delims.specs.Quotes.{first_turn, quotes_after, with_quotes}
use Rattle.markdown_delims.proofs.KeepLemmas.{EachTree, EachReadOf, FoundOf, AreTexts, dropped-keep, done-trees-keep}
use Rattle.markdown_delims.proofs.KeepLemmas.{nearest-keeps-of, opened-keeps, still-keeps, trees-keep, turned-all}
use Rattle.markdown_delims.proofs.LawLemmas.{joins-law}
use Rattle.markdown_delims.proofs.MissedLawLemmas.{quotes_told}
use Rattle.markdown_delims.proofs.StepLawLemmas.{StaysTrueOf, later, reads-stay-of}

abbrev MaybeRun : Type 0
MaybeRun = Option RunAt

abbrev Character : Type 0
Character = TreeNode MaybeRun

-- what holds of the range of a character, where another thing did
has_other : (p : RunAt) (holds other : Range ℕ → Type 0) → ((r : Range ℕ) → holds r → other r)
    → (chain : Forest Character)
    → HasCharacter p holds chain → HasCharacter p other chain
has_other p holds other i nil h = absurd h
has_other p holds other i (node a below after) (inl h) = inl (h.0, i a.part.range h.1)
has_other p holds other i (node a below after) (inr h) = inr (has_other p holds other i after h)

-- the first tree of what is left of a chain begins a run if and only if its note says so, and the run's other
-- characters
-- follow
abbrev Follows : ℕ → MaybeRun → List ℕ → Forest Character → Type 0
Follows more before source nil = ⊤
Follows (suc more) before source (node a below after) = (a.note ≡ before) × Follows more before source after
Follows zero before source (node a below after) =
    (a.note ≡ run_at a.part.range.start (run_of source a.part)) × Follows (further a.note) a.note source after

fresh : (before : MaybeRun) (source : List ℕ) (chain : Forest Character) → Follows 0 before source chain
    → Follows 0 None source chain
fresh before source nil h = tt
fresh before source (node a below after) h = h

module _ (whole : Forest Character) where
  -- a character of this run, as it is in the chain
  abbrev IsOf : RunAt → Character → Type 0
  IsOf p x = (x.note ≡ Some p) × HasCharacter p (λ own. own ≡ x.part.range) whole

  record AreOf (run : Run) (xs : List Character) : Type 0 where
    at : RunAt
    same : at.run ≡ run
    all : AllByRecursion (IsOf at) xs

  abbrev IsTree : Character → Forest Character → Type 0
  IsTree a below = IsMadeOfRun whole a.note a.part.range below × JoinsRuns whole below

  -- what was read
  abbrev IsOpen : Run → List Character → Type 0
  IsOpen run xs = (run.can_open ≡ true) × AreOf run xs

  abbrev AllRead : List (Read MaybeRun) → Type 0
  AllRead rs = EachReadOf IsOpen IsTree rs

  -- what is still to be read
  abbrev AreThere : Forest Character → Type 0
  AreThere nil = ⊤
  AreThere (node a below after) = ((p : RunAt) → a.note ≡ Some p → HasCharacter p (λ own. own ≡ a.part.range) whole)
      × JoinsRuns whole below × AreThere after

  -- a character that stays text, and several
  stays_text : (p : RunAt) (x : Character) → IsOf p x → IsTree x nil
  stays_text p x h = (subst (λ t. IsMadeOfRun whole t x.part.range nil) (sym h.0) (inl (refl, h.1)), tt)

  are_texts : (p : RunAt) (xs : List Character) → AllByRecursion (IsOf p) xs → AreTexts IsOpen IsTree xs
  are_texts p [] a = tt
  are_texts p (x ∷ xs) a = (stays_text p x a.0, are_texts p xs a.1)

  open_texts : (run : Run) (xs : List Character) → IsOpen run xs → AreTexts IsOpen IsTree xs
  open_texts run xs h = are_texts h.1.at xs h.1.all

  each_joins : (f : Forest Character) → EachTree IsTree f → JoinsRuns whole f
  each_joins nil h = tt
  each_joins (node a below after) h = (h.0.0, h.0.1, each_joins after h.1)

  left_join : (closer : Run) (vs : List Character) (rs : List (Read MaybeRun)) → AreOf closer vs → AllRead rs
      → AllRead (left_over closer vs rs)
  left_join closer vs rs a r =
      let all = turned-all (IsOf a.at) vs [] a.all tt in
      opened-keeps IsOpen IsTree closer.can_open closer (last_first vs []) rs
      (λ e. (e, record { at = a.at; same = a.same; all = all })) (are_texts a.at (last_first vs []) all) r

  -- an opener p and a closer q that may pair
  record MayJoin (p q : RunAt) : Type 0 where
    can_open : p.run.can_open ≡ true
    can_close : q.run.can_close ≡ true
    may : may_pair p.run q.run ≡ true

  module _ (s : Setting) (p q : RunAt) (m : MayJoin p q) where
    -- a layer joins them
    layer_joins : (shape : List ℕ → Shape) (x v : Character) (inside : Forest Character) → IsOf p x → IsOf q v
        → EachTree IsTree inside → IsTree (spanned s.text shape x v) inside
    layer_joins shape x v inside h k i =
        let range : Range ℕ = (spanned s.text shape x v).part.range in (
          subst (λ t. IsMadeOfRun whole t range inside) (sym h.0) (inr (record {
            closer = q;
            begins = has_other p (λ own. own ≡ x.part.range) (λ own. own.start ≡ range.start)
                (λ r e. ap (λ (r : Range ℕ). r.start) e) whole
                h.1;
            ends = has_other q (λ own. own ≡ v.part.range) (λ own. own.end ≡ range.end)
                (λ r e. ap (λ (r : Range ℕ). r.end) e) whole k.1;
            can_open = m.can_open;
            can_close = m.can_close;
            may = m.may;
          })),
          each_joins inside i,
        )

    abbrev AreMade : Layers MaybeRun → Type 0
    AreMade l = EachTree IsTree l.whole × AllByRecursion (IsOf p) l.opening × AllByRecursion (IsOf q) l.closing

    layers_join : (d : Delimiter) (xs vs : List Character) (inside : Forest Character) → AllByRecursion (IsOf p) xs
        → AllByRecursion (IsOf q) vs → EachTree IsTree inside → AreMade (layers s d xs vs inside)
    layers_join d [] vs inside a b h = (h, tt, b)
    layers_join d (x ∷ xs) [] inside a b h = (h, a, tt)
    layers_join d (x ∷ []) (v ∷ vs) inside a b h =
        ((layer_joins (layer_of_one (extensions_of s.rules.syntax) d) x v inside a.0 b.0 h, tt), tt, b.1)
    layers_join d (x ∷ y ∷ xs) (v ∷ []) inside a b h =
        ((layer_joins (layer_of_one (extensions_of s.rules.syntax) d) x v inside a.0 b.0 h, tt), a.1, tt)
    layers_join d (x ∷ y ∷ xs) (v ∷ w ∷ vs) inside a b h =
        let shape : List ℕ → Shape = layer_of_two (extensions_of s.rules.syntax) d in
        layers_join d xs vs (node (spanned s.text shape y w) inside nil) a.1.1 b.1.1
        (layer_joins shape y w inside a.1.0 b.1.0 h, tt)

  module _ (s : Setting) where
    -- the characters of a closer, what was read, and what is still to be read
    abbrev HoldsOf : List Character → List (Read MaybeRun) → Forest Character → Type 0
    HoldsOf vs rs rest = AllRead rs × Follows 0 None s.text rest × AreThere rest

    pair_joins : (closer : Run) (vs : List Character) (rest : Forest Character) (f : FoundOpener MaybeRun)
        → closer.can_close ≡ true
        → AreOf closer vs → Follows 0 None s.text rest × AreThere rest → may_pair f.run closer ≡ true
        → FoundOf IsOpen IsTree f
        → AreOf closer (layers s f.run.delimiter f.characters vs f.inside).closing
        × HoldsOf (layers s f.run.delimiter f.characters vs f.inside).closing
        (after_layers f (layers s f.run.delimiter f.characters vs f.inside)) rest
    pair_joins closer vs rest f c a follows may g =
        let o = g.1.1 in
        let p : RunAt = o.at in
        let q : RunAt = a.at in
        let m : MayJoin p q = record {
          can_open = ap (λ (r : Run). r.can_open) o.same ∙ g.1.0;
          can_close = ap (λ (r : Run). r.can_close) a.same ∙ c;
          may = ap (λ (r : Run). may_pair r q.run) o.same ∙ ap (may_pair f.run) a.same ∙ may;
        } in
        let made : Layers MaybeRun = layers s f.run.delimiter f.characters vs f.inside in
        let l = layers_join s p q m f.run.delimiter f.characters vs f.inside o.all a.all g.0 in (
          record { at = q; same = a.same; all = l.2 },
          (
            done-trees-keep IsOpen IsTree made.whole (still_waiting f.run made.opening f.before) l.0
                (still-keeps IsOpen IsTree f.run made.opening f.before
                (g.1.0, record { at = p; same = o.same; all = l.1 }) g.2),
            follows.0,
            follows.1,
          ),
        )

    -- the characters of a run that follow its first
    firsts_of : (n : ℕ) (p : RunAt) (chain : Forest Character) → Follows n (Some p) s.text chain → AreThere chain
        → AllByRecursion (IsOf p) (first_texts s.text n chain) × Follows 0 None s.text (later n chain)
        × AreThere (later n chain)
    firsts_of zero p chain f h = (tt, fresh (Some p) s.text chain f, h)
    firsts_of (suc n) p nil f h = (tt, tt, tt)
    firsts_of (suc n) p (node a below after) f h =
        let k = firsts_of n p after f.1 h.2 in (((f.0, h.0 p f.0), k.0), k.1, k.2)

    of_length : (n : ℕ) (p : RunAt) (a : Character) (below after : Forest Character) → a.note ≡ Some p
        → Follows (n - 1) (Some p) s.text after → AreThere (node a below after)
        → AllByRecursion (IsOf p) (first_texts s.text n (node a below after))
        × Follows 0 None s.text (later (n - 1) after)
        × AreThere (later (n - 1) after)
    of_length zero p a below after e f h = firsts_of 0 p after f h.2
    of_length (suc n) p a below after e f h =
        let one : suc n - 1 ≡ n = omega arith in
        let k = firsts_of n p after (subst (λ k. Follows k (Some p) s.text after) one f) h.2 in
        (((e, h.0 p e), k.0), rw one k.1, rw one k.2)

    run_holds : (run : Run) (a : Character) (below after : Forest Character) (rs : List (Read MaybeRun))
        → run_of s.text a.part ≡ Some run
        → HoldsOf [] rs (node a below after)
        → AreOf run (first_texts s.text run.length (node a below after))
        × HoldsOf (first_texts s.text run.length (node a below after)) rs (later (run.length - 1) after)
    run_holds run a below after rs e h =
        let p : RunAt = record { start = a.part.range.start; run = run } in
        let tag : a.note ≡ Some p = h.1.0 ∙ ap (run_at a.part.range.start) e in
        let k = of_length run.length p a below after tag (subst (λ t. Follows (further t) t s.text after) tag h.1.1) h.2
        in
        (record { at = p; same = refl; all = k.0 }, (h.0, k.1, k.2))

    closed_tree : (b : Bool) (a : Character) (below : Forest Character) → a.note ≡ None → JoinsRuns whole below
        → IsTree (text_if b s.text a) below
    closed_tree true a below e h = (subst (λ t. IsMadeOfRun whole t a.part.range below) (sym e) tt, h)
    closed_tree false a below e h = (subst (λ t. IsMadeOfRun whole t a.part.range below) (sym e) tt, h)

    tree_holds : (a : Character) (below after : Forest Character) (rs : List (Read MaybeRun)) → run_of s.text a.part
        ≡ None
        → HoldsOf [] rs (node a below after) → HoldsOf [] (done_read (as_closed s.text a) below ∷ rs) after
    tree_holds a below after rs e h =
        let tag : a.note ≡ None = h.1.0 ∙ ap (run_at a.part.range.start) e in (
          (closed_tree (is_unresolved a.part.shape) a below tag h.2.1, h.0),
          subst (λ t. Follows (further t) t s.text after) tag h.1.1,
          h.2.2,
        )

    join_on : StaysTrueOf s AreOf HoldsOf
    join_on = record {
      tree = λ a below after rs e h. tree_holds a below after rs e h;
      run = λ run a below after rs e h. run_holds run a below after rs e h;
      dropped = λ d vs rs rest h. (dropped-keep IsOpen IsTree d rs h.0, h.1, h.2);
      left = λ closer vs rs rest a h. (left_join closer vs rs a h.0, h.1, h.2);
      found = λ closer vs rs rest c a h. if_both (nearest_opener closer rs nil)
          (λ f. may_pair f.run closer ≡ true) (FoundOf IsOpen IsTree)
          (λ f. AreOf closer (layers s f.run.delimiter f.characters vs f.inside).closing
          × HoldsOf (layers s f.run.delimiter f.characters vs f.inside).closing
          (after_layers f (layers s f.run.delimiter f.characters vs f.inside)) rest)
          (joins-law closer rs nil) (nearest-keeps-of IsOpen IsTree open_texts closer rs nil h.0 tt)
          (λ f may g. pair_joins closer vs rest f c a (h.1, h.2) may g);
    }

    -- quotes leave characters where they are
    quotes_there : (single double : Bool) (chain : Forest Character) → AreThere chain
        → AreThere (quotes_after single double chain)
    quotes_there single double nil h = tt
    quotes_there single double (node a below after) h = (
      h.0,
      h.1,
      quotes_there (first_turn a after single double).single (first_turn a after single double).double
          after h.2,
    )

    reads_join : (chain : Forest Character) → Follows 0 None s.text chain → AreThere chain
        → JoinsRuns whole (runs_paired s chain)
    unfolding runs_paired
    reads_join chain f h =
        each_joins (read_trees (reads_from s 0 chain []) nil) (trees-keep IsOpen IsTree open_texts
        (reads_from s 0 chain []) nil (reads-stay-of s AreOf HoldsOf join_on 0 chain [] (tt, f, h)).0 tt)

-- below the trees of a chain with its runs told are none
none_below : {A : Type 0} (whole : Forest Character) (f : Forest (TreeNode A)) → JoinsRuns whole (annotated no_run f)
none_below whole nil = tt
none_below whole (node a below after) = (tt, none_below whole below, none_below whole after)

-- the characters of a chain occur in another
abbrev Stands : (whole part : Forest Character) → Type 0
Stands whole part = (p : RunAt) (r : Range ℕ) → HasCharacter p (λ own. own ≡ r) part
    → HasCharacter p (λ own. own ≡ r) whole

module _ {A : Type 0} (s : Setting) where
  -- each character has its run as its note, and occurs in its own chain
  runs_follow : (more : ℕ) (before : MaybeRun) (chain : Forest (TreeNode A))
      → Follows more before s.text (with_runs s more before chain)
  runs_follow more before nil = tt
  runs_follow (suc more) before (node a below after) = (refl, runs_follow more before after)
  runs_follow zero before (node a below after) =
      let here : MaybeRun = run_at a.part.range.start (run_of s.text a.part) in
      (refl, runs_follow (further here) here after)

  runs_there : (whole : Forest Character) (more : ℕ) (before : MaybeRun) (chain : Forest (TreeNode A))
      → Stands whole (with_runs s more before chain) → AreThere whole (with_runs s more before chain)
  runs_there whole more before nil h = tt
  runs_there whole (suc more) before (node a below after) h = (
    (λ p e. h p a.part.range (inl (e, refl))),
    none_below whole below,
    runs_there whole more before after (λ p r k. h p r (inr k)),
  )
  runs_there whole zero before (node a below after) h =
      let here : MaybeRun = run_at a.part.range.start (run_of s.text a.part) in (
        (λ p e. h p a.part.range (inl (e, refl))),
        none_below whole below,
        runs_there whole (further here) here after (λ p r k. h p r (inr k)),
      )

pub joined-law : {A : Type 0} → JoinedLaw A
unfolding paired with_quotes
joined-law {A} s chain =
    let told : Forest Character = with_runs s 0 None chain in
    reads_join told s (quotes_after false false told)
    (rw (quotes_told s 0 None chain false false) (runs_follow s 0 None (quotes_after false false chain)))
    (quotes_there told s false false told (runs_there s told 0 None chain (λ p r k. k)))

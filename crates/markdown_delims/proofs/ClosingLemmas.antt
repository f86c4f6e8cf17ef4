-- A closer goes on while it finds openers: what is read from here on, and what is found, are what the whole run gives.
use Rattle.std.proofs.Common.{◌≡◌, ℕ, zero, suc, ◌+◌, ◌-◌, ◌<◌, ◌≤◌, Bool, true, false, List, [], ◌∷◌, map, Option}
use Rattle.std.proofs.Common.{Some, None, length, refl, ap, sym, ◌∙◌, subst, arith}
use Rattle.std.specs.Prelude.{not}
use Rattle.markdown_base.specs.declared.item.Item.{Item}
use Rattle.markdown_base.specs.Arena.{Arena}
use Rattle.markdown_base.specs.Forest.{Forest, nil}
use Rattle.markdown_document.specs.Document.{TreeNode}
use Rattle.markdown_document.specs.Setting.{Setting}
use Rattle.markdown_delims.specs.declared.extensions.Extensions.{Extensions}
use Rattle.markdown_delims.specs.declared.run.Characters.{Characters}
use Rattle.markdown_delims.specs.declared.run.Run.{Run}
use Rattle.markdown_delims.specs.ChainStanding.{Chain, view, texts, AreLast, AreOpen, Reads, StandsAt, Finds}
use Rattle.markdown_delims.specs.ChainStanding.{Pairs, CanPair, IsRead, Keeps, RunRead, CanRead}
use Rattle.markdown_delims.specs.Layers.{extensions_of}
use Rattle.markdown_delims.specs.OpenRuns.{Openers}
use Rattle.markdown_delims.specs.Pairing.{Read, FoundOpener, nearest_opener, drop_read, Layers, layers, left_over}
use Rattle.markdown_delims.specs.Pairing.{after_layers, after_search, still_waiting, closed_by, run_read}
use Rattle.markdown_delims.specs.PairingFinds.{search_finds, closer_finds, run_finds}
use Rattle.markdown_delims.specs.RunSearch.{OpenRun, nearest_run, dropped_by}
use Rattle.markdown_delims.specs.Views.{Kept}
use Rattle.markdown_delims.proofs.CloseLemmas.{LayersLeave, FoundAs, found_as, found_none, opener_stands, flat-dropped}
use Rattle.markdown_delims.proofs.CloseLemmas.{open-dropped, open-trees, layers_leave, stands_as}
use Rattle.markdown_delims.proofs.EncloseLemmas.{texts_link}
use Rattle.markdown_delims.proofs.WriteLemmas.{kept_none, kept_both}

-- one turn of a closer with characters left
module _ (s : Setting) (k : ℕ) (closer : Run) (rs : List (Read ℕ)) where
  closed_turn : (vs : List (TreeNode ℕ)) → 0 < length vs
      → (closed_by s (suc k) closer vs rs
      ≡ after_search s (λ left others. closed_by s k closer left others) closer vs rs (nearest_opener closer rs nil))
      × (closer_finds s (suc k) closer vs rs
      ≡ search_finds s (λ left others. closer_finds s k closer left others) vs (nearest_opener closer rs nil))
  unfolding closed_by closer_finds
  closed_turn [] some = absurd (omega arith)
  closed_turn (v ∷ vs) some = (refl, refl)

  -- and of one without
  closed_empty : (turns : ℕ) (vs : List (TreeNode ℕ)) → length vs ≡ 0
      → (closed_by s turns closer vs rs ≡ rs) × (closer_finds s turns closer vs rs ≡ 0)
  unfolding closed_by closer_finds
  closed_empty zero [] none = (refl, refl)
  closed_empty (suc turns) [] none = (refl, refl)
  closed_empty turns (v ∷ vs) none = absurd (omega (arith, none))

-- a run that cannot close is read
pub kept_read : (h : Chain) (s t : Arena Item) (run : Run) (vs : List (TreeNode ℕ)) (rs : List (Read ℕ))
    (old new : Openers)
    (last l : Option ℕ) (after : Forest (TreeNode ℕ)) → not run.can_close ≡ true → new.examined ≡ old.examined
    → IsRead h s t (left_over run vs rs) new.runs last l after → RunRead h s t run vs rs old new last l after
kept_read h s t run vs rs old new last l after e counted r =
    by_case run.can_close refl
  where
    by_case : (b : Bool) → run.can_close ≡ b → RunRead h s t run vs rs old new last l after
    by_case true f = let no : true ≡ false = sym e ∙ ap not f in cc
    by_case false f = record {
      is_read = subst (λ b. IsRead h s t (run_read h.setting b run vs rs) new.runs last l after) (sym f) r;
      found = omega (arith, counted, ap (λ b. run_finds h.setting b run vs rs) f);
    }

-- the state after some finds
pub record ClosingAt (h : Chain) (met : Characters) (met_vs : List (TreeNode ℕ)) (begun : List (Read ℕ))
    (after : Forest (TreeNode ℕ))
    (s t : Arena Item) (old now : Openers) (closer : Characters) (last : Option ℕ) : Type 0 where
  pub rs : List (Read ℕ)
  pub vs : List (TreeNode ℕ)
  pub turns : ℕ
  pub stands : StandsAt h t rs last closer vs after
  pub kept : Kept h.touched s t
  pub are : AreOpen now.runs rs
  pub run_is : closer.run ≡ met.run
  pub enough : closer.count ≤ turns
  pub same : closed_by h.setting turns closer.run vs rs ≡ closed_by h.setting (length met_vs) met.run met_vs begun
  pub found : old.examined + closer_finds h.setting (length met_vs) met.run met_vs begun
      ≤ now.examined + closer_finds h.setting turns closer.run vs rs

pub closing_begin : (h : Chain) (met : Characters) (vs : List (TreeNode ℕ)) (rs : List (Read ℕ))
    (after : Forest (TreeNode ℕ)) (s : Arena Item)
    (o : Openers) (last : Option ℕ) → StandsAt h s rs last met vs after → AreOpen o.runs rs
    → ClosingAt h met vs rs after s s o o met last
closing_begin h met vs rs after s o last st a = record {
  rs = rs;
  vs = vs;
  turns = length vs;
  stands = st;
  kept = kept_none h.touched s;
  are = a;
  run_is = refl;
  enough = omega (arith, st.are.count);
  same = refl;
  found = omega arith;
}

module _ (h : Chain) (met : Characters) (met_vs : List (TreeNode ℕ)) (begun : List (Read ℕ))
    (after : Forest (TreeNode ℕ)) (s t : Arena Item) (old now : Openers) (closer : Characters) (last : Option ℕ)
    (a : ClosingAt h met met_vs begun after s t old now closer last) (some : 0 < closer.count) where
  turn : a.turns ≡ suc (a.turns - 1)
  turn = omega (arith, a.enough, some)

  left : 0 < length a.vs
  left = omega (arith, a.stands.are.count, some)

  -- what its search finds decides what is read, and how many searches find
  search_is : (o : Option (FoundOpener ℕ)) → nearest_opener closer.run a.rs nil ≡ o
      → (closed_by h.setting (length met_vs) met.run met_vs begun
      ≡ after_search h.setting (λ left others. closed_by h.setting (a.turns - 1) closer.run left others) closer.run a.vs
      a.rs o)
      × (closer_finds h.setting a.turns closer.run a.vs a.rs
      ≡ search_finds h.setting (λ left others. closer_finds h.setting (a.turns - 1) closer.run left others) a.vs o)
  search_is o e =
      let t = closed_turn h.setting (a.turns - 1) closer.run a.rs a.vs left in (
        sym a.same ∙ ap (λ k. closed_by h.setting k closer.run a.vs a.rs) turn ∙ t.0
            ∙ ap (after_search h.setting (λ left others. closed_by h.setting (a.turns - 1) closer.run left others)
            closer.run a.vs a.rs) e,
        ap (λ k. closer_finds h.setting k closer.run a.vs a.rs) turn ∙ t.1
            ∙ ap (search_finds h.setting (λ left others. closer_finds h.setting (a.turns - 1) closer.run left others)
            a.vs) e,
      )

  -- a run that can close is read
  closed_read : (u : Arena Item) (new : Openers) (rs : List (Read ℕ)) (last' l : Option ℕ) → met.run.can_close ≡ true
      → closed_by h.setting (length met_vs) met.run met_vs begun ≡ rs → IsRead h s u rs new.runs last' l after
      → old.examined + closer_finds h.setting (length met_vs) met.run met_vs begun ≤ new.examined
      → RunRead h s u met.run met_vs begun old new last' l after
  closed_read u new rs last' l closes e r found = record {
    is_read = subst (λ fs. IsRead h s u fs new.runs last' l after)
        (sym e ∙ sym (ap (λ b. run_read h.setting b met.run met_vs begun) closes)) r;
    found = omega (arith, found, ap (λ b. run_finds h.setting b met.run met_vs begun) closes);
  }

  -- where the search finds none, what is left is kept
  module _ (dropped : List OpenRun) (none : nearest_run closer.run now.runs ≡ None)
      (is : dropped ≡ dropped_by closer.run now.runs) where
    abbrev rs' : List (Read ℕ)
    rs' = map (drop_read closer.run.delimiter) a.rs

    stands_dropped : StandsAt h t rs' last closer a.vs after
    stands_dropped = record {
      stands = stands_as h t a.rs rs' last (Some closer.number) (texts a.vs after)
          (flat-dropped closer.run.delimiter a.rs) a.stands.stands;
      are = a.stands.are;
    }

    are_dropped : AreOpen dropped rs'
    are_dropped = subst (λ runs. AreOpen runs rs') (sym is) (open-dropped closer.run now.runs a.rs a.are)

    pub can_keep : (m : Extensions) → extensions_of h.setting.rules.syntax ≡ m → CanRead m closer last t dropped
    can_keep m e = record {
      chain = h;
      extensions_are = e;
      rs = rs';
      vs = a.vs;
      after = after;
      stands = stands_dropped;
      are = are_dropped;
    }

    pub closing_none : (new : Openers) (last' l : Option ℕ) → met.run.can_close ≡ true
        → Keeps closer t dropped new.runs last' l
        → now.examined ≤ new.examined → RunRead h s t met.run met_vs begun old new last' l after
    closing_none new last' l closes keeps counted =
        let e = search_is None (found_none closer.run now.runs a.rs nil a.are none) in
        let r = keeps h rs' last a.vs after stands_dropped are_dropped in
        closed_read t new (left_over closer.run a.vs rs') last' l closes e.0
        (record {
          reads = record { stands = r.reads.stands; kept = kept_both h.touched s t t a.kept r.reads.kept };
          are = r.are;
        }) (omega (arith, a.found, e.1, counted))

  -- where it finds an opener
  module _ (opener : Characters) (before : List OpenRun) (found : nearest_run closer.run now.runs
      ≡ Some (record { opener = opener; before = before })) (some_open : 0 < opener.count) where
    taken : FoundAs closer.run a.rs nil (record { opener = opener; before = before })
    taken = found_as closer.run now.runs a.rs nil (record { opener = opener; before = before }) a.are found

    pub opener_before : last ≡ None → ⊥
    opener_before e =
        opener_stands closer.run a.rs nil taken.found (omega (arith, taken.are.count, some_open)) taken.finds
        (sym a.stands.stands.last_is ∙ e)

    module _ (m : Extensions) (extensions_are : extensions_of h.setting.rules.syntax ≡ m) (ix : ℕ)
        (is : last ≡ Some ix) where
      stands_after : StandsAt h t a.rs (Some ix) closer a.vs after
      stands_after = subst (λ x. StandsAt h t a.rs x closer a.vs after) is a.stands

      finds_here : Finds a.rs opener closer taken.found
      finds_here = record { finds = taken.finds; run_is = taken.run_is; are = taken.are }

      pub can_pair : CanPair m opener closer ix t
      can_pair = record {
        chain = h;
        extensions_are = extensions_are;
        rs = a.rs;
        vs = a.vs;
        after = after;
        found = taken.found;
        stands = stands_after;
        finds = finds_here;
      }

      module _ (u : Arena Item) (root : ℕ) (rest : Option ℕ) (p : Pairs m opener closer ix t u root rest) where
        abbrev made : Layers ℕ
        made = layers h.setting taken.found.run.delimiter taken.found.characters a.vs taken.found.inside

        reads : Reads h t u (after_layers taken.found made) (Some root) rest (texts made.closing after)
        reads = p h a.rs a.vs after taken.found extensions_are stands_after finds_here

        leave : LayersLeave opener.number closer.number taken.found.characters a.vs made
        leave = layers_leave h.setting taken.found.run.delimiter opener.number closer.number taken.found.characters a.vs
            taken.found.inside
            taken.are.from a.stands.are.from

        closed_on : closed_by h.setting (length met_vs) met.run met_vs begun
            ≡ closed_by h.setting (a.turns - 1) closer.run made.closing (after_layers taken.found made)
        closed_on = (search_is (Some taken.found) taken.finds).0

        found_one : (examined : ℕ) → now.examined < examined
            → old.examined + closer_finds h.setting (length met_vs) met.run met_vs begun
            ≤ examined + closer_finds h.setting (a.turns - 1) closer.run made.closing (after_layers taken.found made)
        found_one examined counted = omega (arith, a.found, (search_is (Some taken.found) taken.finds).1, counted)

        -- the opener is used up
        none_open : (xs : List (TreeNode ℕ)) → length xs ≡ 0
            → AreOpen before (still_waiting taken.found.run xs taken.found.before)
        none_open [] e = taken.before_are
        none_open (x ∷ xs) e = absurd (omega (arith, e))

        -- or some of its characters are left
        some_open_still : (left : Characters) (xs : List (TreeNode ℕ)) → left.run ≡ taken.found.run → AreLast left xs
            → 0 < left.count
            → AreOpen (record { dropped = false; opener = left } ∷ before)
            (still_waiting taken.found.run xs taken.found.before)
        some_open_still left [] e are l = absurd (omega (arith, are.count, l))
        some_open_still left (x ∷ xs) e are l = (record { dropped_is = refl; run_is = e; are = are }, taken.before_are)

        -- the closer has characters left
        pub closing_more : (next : Openers) → next.runs ≡ before → now.examined < next.examined
            → opener.count < closer.count
            → ClosingAt h met met_vs begun after s u old next
            (record closer { number = closer.number + opener.count; count = closer.count - opener.count }) (Some root)
        closing_more next e counted more =
            let l = leave in
            let n : l.next ≡ closer.number + opener.count = omega
            (arith, l.next_is, taken.are.count, a.stands.are.count, more) in
            let left : length made.closing ≡ closer.count - opener.count =
            omega (arith, l.closing_count, taken.are.count, a.stands.are.count, more) in
            let from = rw n at l.closing in
            let none : length made.opening ≡ 0 =
            omega (arith, l.opening_count, taken.are.count, a.stands.are.count, more) in
            record {
              rs = after_layers taken.found made;
              vs = made.closing;
              turns = a.turns - 1;
              stands = record {
                stands = rw (← (texts_link (view h u) rest (closer.number + opener.count) made.closing after
                    (omega (arith, left, more)) from reads.stands.cut.right)) reads.stands;
                are = record { from = from; count = left };
              };
              kept = kept_both h.touched s t u a.kept reads.kept;
              are = rw e (open-trees before made.whole _ (none_open made.opening none));
              run_is = a.run_is;
              enough = omega (arith, a.enough, some_open);
              same = sym closed_on;
              found = found_one next.examined counted;
            }

        -- the closer has no characters left
        ended : (new : Openers) → closer.count ≤ opener.count → met.run.can_close ≡ true → now.examined < new.examined
            → AreOpen new.runs (still_waiting taken.found.run made.opening taken.found.before)
            → RunRead h s u met.run met_vs begun old new (Some root) rest after
        ended new all closes counted open_runs =
            let l = leave in
            let none : length made.closing
            ≡ 0 = omega (arith, l.closing_count, taken.are.count, a.stands.are.count, all) in
            let no_texts : texts made.closing after ≡ after = no_characters made.closing none in
            let empty = closed_empty h.setting 0 closer.run (after_layers taken.found made) (a.turns - 1) made.closing
            none in
            closed_read u new (after_layers taken.found made) (Some root) rest closes (closed_on ∙ empty.0)
            (record {
              reads = record {
                stands = rw no_texts at reads.stands;
                kept = kept_both h.touched s t u a.kept reads.kept;
              };
              are = open-trees new.runs made.whole _ open_runs;
            }) (omega (arith, found_one new.examined counted, empty.1))
          where
            no_characters : (vs : List (TreeNode ℕ)) → length vs ≡ 0 → texts vs after ≡ after
            no_characters [] e = refl
            no_characters (v ∷ vs) e = absurd (omega (arith, e))

        pub closing_used : (new : Openers) → new.runs ≡ before → now.examined < new.examined → closer.count
            ≡ opener.count
            → met.run.can_close ≡ true → RunRead h s u met.run met_vs begun old new (Some root) rest after
        closing_used new e counted equal closes =
            let l = leave in
            ended new (omega (arith, equal)) closes counted
            (rw e
            (none_open made.opening (omega (arith, l.opening_count, taken.are.count, a.stands.are.count, equal))))

        pub closing_left : (new : Openers) → new.runs
            ≡ record { dropped = false; opener = record opener { count = opener.count - closer.count } } ∷ before
            → now.examined < new.examined → closer.count < opener.count → met.run.can_close ≡ true
            → RunRead h s u met.run met_vs begun old new (Some root) rest after
        closing_left new e counted fewer closes =
            let l = leave in
            ended new (omega (arith, fewer)) closes counted
            (rw e (some_open_still (record opener { count = opener.count - closer.count }) made.opening taken.run_is
            (record {
              from = l.opening;
              count = omega (arith, l.opening_count, taken.are.count, a.stands.are.count, fewer);
            })
            (omega (arith, fewer))))

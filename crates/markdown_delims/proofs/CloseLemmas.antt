-- The search of the stack is the search of what was read; and what a find, or none, leaves.
use Rattle.std.proofs.Common.{◌≡◌, ℕ, suc, ◌+◌, ◌-◌, ◌<◌, min, Bool, true, false, List, [], ◌∷◌, map, Option, Some}
use Rattle.std.proofs.Common.{None, length, refl, ap, sym, ◌∙◌, subst, arith}
use Rattle.std.specs.Prelude.{⊤, if◌then◌else◌, not, ◌&&◌, ◌||◌}
use Rattle.markdown_base.specs.declared.item.Item.{Item}
use Rattle.markdown_base.specs.Arena.{Arena, sibling_of}
use Rattle.markdown_base.specs.Forest.{Forest, nil, node}
use Rattle.markdown_document.specs.Document.{Part, TreeNode}
use Rattle.markdown_document.specs.Setting.{Setting}
use Rattle.markdown_delims.specs.declared.run.Characters.{Characters}
use Rattle.markdown_delims.specs.declared.run.Delimiter.{Delimiter}
use Rattle.markdown_delims.specs.declared.run.Run.{Run}
use Rattle.markdown_delims.specs.ChainStanding.{Chain, view, texts, left_texts, flat, FirstFrom, LastFrom, AreFirst}
use Rattle.markdown_delims.specs.ChainStanding.{AreLast, IsOpen, AreOpen, Stands, StandsAt, IsRead}
use Rattle.markdown_delims.specs.MayPair.{drops, may_pair}
use Rattle.markdown_delims.specs.Pairing.{Read, done_read, waiting, texts_before, characters_done, FoundOpener}
use Rattle.markdown_delims.specs.Pairing.{found_if, nearest_opener, drop_read}
use Rattle.markdown_delims.specs.Pairing.{Layers, layers, trees_done, last_first, opened_if, left_over}
use Rattle.markdown_delims.specs.RunSearch.{OpenRun, Found, may_take, nearest_run, dropped_by}
use Rattle.markdown_delims.specs.Views.{View, LeftHolds, Cut, AllTouched, top}
use Rattle.markdown_delims.proofs.CutLemmas.{step_right}
use Rattle.markdown_delims.proofs.PairLemmas.{last_link}
use Rattle.markdown_delims.proofs.WriteLemmas.{kept_none}

-- an opener that the search of the stack finds
pub record FoundAs (closer : Run) (rs : List (Read ℕ)) (inside : Forest (TreeNode ℕ)) (f : Found) : Type 0 where
  pub found : FoundOpener ℕ
  pub finds : nearest_opener closer rs inside ≡ Some found
  pub run_is : f.opener.run ≡ found.run
  pub are : AreLast f.opener found.characters
  pub before_are : AreOpen f.before found.before

-- whether a run may be taken
same_take : (closer : Run) (r : OpenRun) (dropped : Bool) (run : Run) (xs : List (TreeNode ℕ)) → IsOpen r dropped run xs
    → may_take closer r ≡ (not dropped && may_pair run closer)
same_take closer r dropped run xs is = ap (λ d. not d && may_pair r.opener.run closer) is.dropped_is
    ∙ ap (λ o. not dropped && may_pair o closer) is.run_is

-- the stack and what was read agree on what a search finds
abbrev Agree : Option Found → Option (FoundOpener ℕ) → Type 0
Agree None None = ⊤
Agree (Some f) (Some found) =
    (f.opener.run ≡ found.run) × AreLast f.opener found.characters × AreOpen f.before found.before
Agree f found = ⊥

agree : (closer : Run) (runs : List OpenRun) (rs : List (Read ℕ)) (inside : Forest (TreeNode ℕ)) → AreOpen runs rs
    → Agree (nearest_run closer runs) (nearest_opener closer rs inside)
agree closer runs [] inside a = rw a tt
agree closer runs (done_read b below ∷ rs) inside a = agree closer runs rs (node b below inside) a
agree closer [] (waiting dropped run xs ∷ rs) inside a = absurd a
agree closer (r ∷ runs) (waiting dropped run xs ∷ rs) inside a =
    rw (same_take closer r dropped run xs a.0)
    (here_or (not dropped && may_pair run closer) (agree closer runs rs (texts_before xs inside) a.1))
  where
    here_or : (b : Bool) → Agree (nearest_run closer runs) (nearest_opener closer rs (texts_before xs inside))
        → Agree (if b then Some (record { opener = r.opener; before = runs }) else nearest_run closer runs)
        (found_if b (record { inside = inside; run = run; characters = xs; before = rs })
        (nearest_opener closer rs (texts_before xs inside)))
    here_or true further = (a.0.run_is, a.0.are, a.1)
    here_or false further = further

pub found_as : (closer : Run) (runs : List OpenRun) (rs : List (Read ℕ)) (inside : Forest (TreeNode ℕ)) (f : Found)
    → AreOpen runs rs → nearest_run closer runs ≡ Some f → FoundAs closer rs inside f
found_as closer runs rs inside f a h =
    by_found (nearest_opener closer rs inside) refl
    (subst (λ o. Agree o (nearest_opener closer rs inside)) h (agree closer runs rs inside a))
  where
    by_found : (o : Option (FoundOpener ℕ)) → nearest_opener closer rs inside ≡ o → Agree (Some f) o
        → FoundAs closer rs inside f
    by_found None e g = absurd g
    by_found (Some found) e g = record { found = found; finds = e; run_is = g.0; are = g.1; before_are = g.2 }

pub found_none : (closer : Run) (runs : List OpenRun) (rs : List (Read ℕ)) (inside : Forest (TreeNode ℕ))
    → AreOpen runs rs
    → nearest_run closer runs ≡ None → nearest_opener closer rs inside ≡ None
found_none closer runs rs inside a h =
    none_by (nearest_opener closer rs inside)
    (subst (λ o. Agree o (nearest_opener closer rs inside)) h (agree closer runs rs inside a))
  where
    none_by : (o : Option (FoundOpener ℕ)) → Agree None o → o ≡ None
    none_by None g = refl
    none_by (Some found) g = absurd g

-- an opener that is found is in the chain
stands_over : (xs : List (TreeNode ℕ)) (before : Forest (TreeNode ℕ)) → (top before ≡ None → ⊥) → top
    (left_texts xs before)
    ≡ None → ⊥
stands_over [] before h e = h e
stands_over (x ∷ xs) before h e = cc

pub opener_stands : (closer : Run) (rs : List (Read ℕ)) (inside : Forest (TreeNode ℕ)) (f : FoundOpener ℕ)
    → 0 < length f.characters
    → nearest_opener closer rs inside ≡ Some f → top (flat rs) ≡ None → ⊥
opener_stands closer [] inside f some h e = cc
opener_stands closer (done_read a below ∷ rs) inside f some h e = cc
opener_stands closer (waiting dropped run xs ∷ rs) inside f some h e =
    here_or (not dropped && may_pair run closer) (opener_stands closer rs (texts_before xs inside) f some) h
  where
    none_left : (ys : List (TreeNode ℕ)) → 0 < length ys → top (left_texts ys (flat rs)) ≡ None → ⊥
    none_left [] l q = omega (arith, l)
    none_left (y ∷ ys) l q = cc

    here_or : (b : Bool) → (nearest_opener closer rs (texts_before xs inside) ≡ Some f → top (flat rs) ≡ None → ⊥)
        → found_if b (record { inside = inside; run = run; characters = xs; before = rs })
        (nearest_opener closer rs (texts_before xs inside)) ≡ Some f → ⊥
    here_or true further q =
        let same : record { inside = inside; run = run; characters = xs; before = rs } ≡ f = cc in
        none_left xs (omega (arith, some, ap (λ (g : FoundOpener ℕ). length g.characters) same)) e
    here_or false further q = stands_over xs (flat rs) (further q) e

-- dropping runs leaves the chain
pub flat-dropped : (d : Delimiter) (rs : List (Read ℕ)) → flat (map (drop_read d) rs) ≡ flat rs
flat-dropped d [] = refl
flat-dropped d (done_read a below ∷ rs) = ap (node a below) (flat-dropped d rs)
flat-dropped d (waiting dropped run xs ∷ rs) = ap (left_texts xs) (flat-dropped d rs)

pub open-dropped : (closer : Run) (runs : List OpenRun) (rs : List (Read ℕ)) → AreOpen runs rs
    → AreOpen (dropped_by closer runs) (map (drop_read closer.delimiter) rs)
open-dropped closer runs [] a = rw a refl
open-dropped closer runs (done_read b below ∷ rs) a = open-dropped closer runs rs a
open-dropped closer [] (waiting dropped run xs ∷ rs) a = absurd a
open-dropped closer (r ∷ runs) (waiting dropped run xs ∷ rs) a = (
  record {
    dropped_is = ap (λ d. d || drops closer.delimiter r.opener.run.delimiter) a.0.dropped_is
        ∙ ap (λ (o : Run). dropped || drops closer.delimiter o.delimiter) a.0.run_is;
    run_is = a.0.run_is;
    are = a.0.are;
  },
  open-dropped closer runs rs a.1,
)

-- trees and characters that are done leave the open runs
pub open-trees : (runs : List OpenRun) (f : Forest (TreeNode ℕ)) (rs : List (Read ℕ)) → AreOpen runs rs
    → AreOpen runs (trees_done f rs)
open-trees runs nil rs a = a
open-trees runs (node b below after) rs a = open-trees runs after (done_read b below ∷ rs) a

open-done : (runs : List OpenRun) (xs : List (TreeNode ℕ)) (rs : List (Read ℕ)) → AreOpen runs rs
    → AreOpen runs (characters_done xs rs)
open-done runs [] rs a = a
open-done runs (x ∷ xs) rs a = open-done runs xs rs a

-- what layers leave of both sides, whose characters are consecutive
pub record LayersLeave (number end : ℕ) (xs vs : List (TreeNode ℕ)) (made : Layers ℕ) : Type 0 where
  pub next : ℕ
  pub next_is : next ≡ end + min (length xs) (length vs)
  pub opening : LastFrom number made.opening
  pub opening_count : length made.opening ≡ length xs - min (length xs) (length vs)
  pub closing : FirstFrom next made.closing
  pub closing_count : length made.closing ≡ length vs - min (length xs) (length vs)

pub layers_leave : (s : Setting) (d : Delimiter) (number end : ℕ) (xs vs : List (TreeNode ℕ))
    (inside : Forest (TreeNode ℕ)) → LastFrom number xs
    → FirstFrom end vs → LayersLeave number end xs vs (layers s d xs vs inside)
layers_leave s d number end [] vs inside f g = record {
  next = end;
  next_is = omega arith;
  opening = tt;
  opening_count = omega arith;
  closing = g;
  closing_count = omega arith;
}
layers_leave s d number end (x ∷ xs) [] inside f g = record {
  next = end;
  next_is = omega arith;
  opening = f;
  opening_count = omega arith;
  closing = tt;
  closing_count = omega arith;
}
layers_leave s d number end (x ∷ []) (v ∷ vs) inside f g = record {
  next = suc end;
  next_is = omega arith;
  opening = tt;
  opening_count = omega arith;
  closing = g.2;
  closing_count = omega arith;
}
layers_leave s d number end (x ∷ y ∷ xs) (v ∷ []) inside f g = record {
  next = suc end;
  next_is = omega arith;
  opening = f.2;
  opening_count = omega arith;
  closing = tt;
  closing_count = omega arith;
}
layers_leave s d number end (x ∷ y ∷ xs) (v ∷ w ∷ vs) inside f g =
    let r = layers_leave s d number (suc (suc end)) xs vs _ f.2.2 g.2.2 in
    record {
      next = r.next;
      next_is = omega (arith, r.next_is);
      opening = r.opening;
      opening_count = omega (arith, r.opening_count);
      closing = r.closing;
      closing_count = omega (arith, r.closing_count);
    }

-- the cut goes to the right over characters
read_over : (own : ℕ → Bool) (k : View Part) (first : Option ℕ) (vs xs : List (TreeNode ℕ))
    (before : Forest (TreeNode ℕ)) (l : Option ℕ)
    (after : Forest (TreeNode ℕ)) (hi : ℕ) → Cut own k first (left_texts xs before) l (texts vs after) hi
    → (m : Option ℕ) × Cut own k first (left_texts (last_first vs xs) before) m after hi
read_over own k first [] xs before l after hi c = (l, c)
read_over own k first (v ∷ vs) xs before l after hi c = read_over own k first vs (v ∷ xs) before
    (k.next v.note) after hi
    (step_right own k first (left_texts xs before) l v nil (texts vs after) hi c)

touched_read : (touched : ℕ → Bool) (vs xs : List (TreeNode ℕ)) (before after : Forest (TreeNode ℕ))
    → AllTouched touched (left_texts xs before)
    → AllTouched touched (texts vs after) → AllTouched touched (left_texts (last_first vs xs) before)
    × AllTouched touched after
touched_read touched [] xs before after h a = (h, a)
touched_read touched (v ∷ vs) xs before after h a = touched_read touched vs (v ∷ xs) before after (a.0, h) a.1

-- characters in reverse
last_from : (number : ℕ) (vs xs : List (TreeNode ℕ)) → FirstFrom (number + length xs) vs → LastFrom number xs
    → LastFrom number (last_first vs xs)
last_from number [] xs f g = g
last_from number (v ∷ vs) xs f g =
    last_from number vs (v ∷ xs)
    (rw (← (let e : suc (number + length xs) ≡ number + suc (length xs) = omega arith in e)) f.2) (f.0, f.1, g)

last_count : (vs xs : List (TreeNode ℕ)) → length (last_first vs xs) ≡ length vs + length xs
last_count [] xs = omega arith
last_count (v ∷ vs) xs = omega (arith, last_count vs (v ∷ xs))

in_reverse : (c : Characters) (vs : List (TreeNode ℕ)) → AreFirst c vs → AreLast c (last_first vs [])
in_reverse c vs are = record {
  from = last_from c.number vs []
      (subst (λ n. FirstFrom n vs) (let e : c.number ≡ c.number + 0 = omega arith in e) are.from) tt;
  count = omega (arith, last_count vs [], are.count);
}

flat-done : (xs : List (TreeNode ℕ)) (rs : List (Read ℕ)) → flat (characters_done xs rs) ≡ left_texts xs (flat rs)
flat-done [] rs = refl
flat-done (x ∷ xs) rs = ap (node x nil) (flat-done xs rs)

flat-opened : (b : Bool) (run : Run) (xs : List (TreeNode ℕ)) (rs : List (Read ℕ)) → flat (opened_if b run xs rs)
    ≡ left_texts xs (flat rs)
flat-opened true run xs rs = refl
flat-opened false run xs rs = flat-done xs rs

last_there : (k : View Part) (first : Option ℕ) (c : Characters) (xs : List (TreeNode ℕ)) (before : Forest (TreeNode ℕ))
    (l : Option ℕ) → 0 < c.count → AreLast c xs → LeftHolds k first (left_texts xs before) l
    → (c.number + (c.count - 1) < k.size) × (Some (c.number + (c.count - 1)) ≡ top (left_texts xs before))
last_there k first c [] before l some are h = absurd (omega (arith, some, are.count))
last_there k first c (x ∷ xs) before l some are h =
    let e : x.note ≡ c.number + (c.count - 1) = omega (arith, are.from.0, are.count) in
    (omega (arith, h.0, e), ap Some (sym e))

module _ (h : Chain) (s : Arena Item) (rs : List (Read ℕ)) (last : Option ℕ) (c : Characters) (vs : List (TreeNode ℕ))
    (after : Forest (TreeNode ℕ)) (st : StandsAt h s rs last c vs after) (some : 0 < c.count) where
  abbrev xs : List (TreeNode ℕ)
  xs = last_first vs []

  over : (m : Option ℕ) × Cut h.touched (view h s) h.first (left_texts xs (flat rs)) m after h.bound
  over = read_over h.touched (view h s) h.first vs [] (flat rs) (Some c.number) after h.bound st.stands.cut

  pub last_within : c.number + (c.count - 1) < length s.nodes
  last_within = (last_there (view h s) h.first c xs (flat rs) over.0 some (in_reverse c vs st.are) over.1.left).0

  -- characters that close nothing more are read
  pub characters_kept : (runs' : List OpenRun) (last' l : Option ℕ) → last' ≡ Some (c.number + (c.count - 1))
      → l ≡ sibling_of s.nodes (c.number + (c.count - 1)) → AreOpen runs' (opened_if c.run.can_open c.run xs rs)
      → IsRead h s s (left_over c.run vs rs) runs' last' l after
  characters_kept runs' last' l e f a =
      let flat_is = flat-opened c.run.can_open c.run xs rs in
      let there = last_there (view h s) h.first c xs (flat rs) over.0 some (in_reverse c vs st.are) over.1.left in
      let link : over.0 ≡ l = last_link (view h s) h.first c xs (flat rs) over.0 some (in_reverse c vs st.are)
      over.1.left ∙ sym f in
      let touched = touched_read h.touched vs [] (flat rs) after st.stands.left_touched st.stands.rest_touched in
      record {
        reads = record {
          stands = record {
            cut = rw (← link) (rw flat_is over.1);
            last_is = e ∙ there.1 ∙ ap top (sym flat_is);
            left_touched = rw flat_is touched.0;
            rest_touched = touched.1;
            few = st.stands.few;
          };
          kept = kept_none h.touched s;
        };
        are = a;
      }

  pub opened_open : (runs : List OpenRun) → AreOpen runs rs → c.run.can_open ≡ true
      → AreOpen (record { dropped = false; opener = c } ∷ runs) (opened_if c.run.can_open c.run xs rs)
  opened_open runs a e = subst (λ b. AreOpen (record { dropped = false; opener = c } ∷ runs) (opened_if b c.run xs rs))
      (sym e) (record { dropped_is = refl; run_is = refl; are = in_reverse c vs st.are }, a)

  pub opened_lone : (runs : List OpenRun) → AreOpen runs rs → c.run.can_open ≡ false
      → AreOpen runs (opened_if c.run.can_open c.run xs rs)
  opened_lone runs a e = subst (λ b. AreOpen runs (opened_if b c.run xs rs)) (sym e) (open-done runs xs rs a)

-- what was read may be replaced by the same chain
pub stands_as : (h : Chain) (s : Arena Item) (rs rs' : List (Read ℕ)) (last l : Option ℕ) (rest : Forest (TreeNode ℕ))
    → flat rs' ≡ flat rs
    → Stands h s rs last l rest → Stands h s rs' last l rest
stands_as h s rs rs' last l rest e st = record {
  cut = rw e st.cut;
  last_is = rw e st.last_is;
  left_touched = rw e st.left_touched;
  rest_touched = st.rest_touched;
  few = st.few;
}

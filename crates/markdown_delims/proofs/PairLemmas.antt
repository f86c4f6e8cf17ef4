-- One pair: the chain is cut before the closer, and the opener encloses what follows it.
use Rattle.std.proofs.Common.{◌≡◌, ◌≤◌, ℕ, ◌+◌, ◌-◌, ◌<◌, Bool, true, false, List, [], ◌∷◌, Option, Some, None, length}
use Rattle.std.proofs.Common.{refl, ap, sym, ◌∙◌, subst, arith}
use Rattle.std.specs.Prelude.{not, ◌&&◌, ◌^◌}
use Rattle.markdown_base.specs.declared.item.Item.{Item}
use Rattle.markdown_base.specs.Arena.{Arena, child_of}
use Rattle.markdown_base.specs.BlockTree.{item_at}
use Rattle.markdown_base.specs.Forest.{Forest, nil, node}
use Rattle.markdown_document.specs.Document.{Part, TreeNode, part_of}
use Rattle.markdown_delims.specs.declared.extensions.Extensions.{Extensions}
use Rattle.markdown_delims.specs.declared.run.Characters.{Characters}
use Rattle.markdown_delims.specs.declared.run.Run.{Run}
use Rattle.markdown_delims.specs.ChainStanding.{Chain, view, texts, left_texts, flat, AreFirst, AreLast, Reads}
use Rattle.markdown_delims.specs.ChainStanding.{StandsAt, Finds}
use Rattle.markdown_delims.specs.Enclosing.{ChainParts, Encloses, EnclosesAll, inner_of}
use Rattle.markdown_delims.specs.Layers.{extensions_of}
use Rattle.markdown_delims.specs.MayPair.{may_pair}
use Rattle.markdown_delims.specs.Pairing.{Read, done_read, waiting, texts_before, FoundOpener, found_if, nearest_opener}
use Rattle.markdown_delims.specs.Pairing.{Layers, layers, trees_done, still_waiting, after_layers}
use Rattle.markdown_delims.specs.Views.{View, Writes, Wrote, LeftHolds, next_number, LeftRises, Cut, AllTouched, top}
use Rattle.markdown_delims.proofs.CutLemmas.{Rises-raise, Holds-write_before, step_left, Parted, parted}
use Rattle.markdown_delims.proofs.WriteLemmas.{parts_written, kept_links, kept_both}

-- the cut goes to the left over characters
pub record CutSomewhere (own : ℕ → Bool) (k : View Part) (first : Option ℕ) (before after : Forest (TreeNode ℕ))
    (hi : ℕ)
    : Type 0 where
  pub link : Option ℕ
  pub cut : Cut own k first before link after hi

pub over_texts : (own : ℕ → Bool) (k : View Part) (first : Option ℕ) (xs : List (TreeNode ℕ))
    (before : Forest (TreeNode ℕ)) (l : Option ℕ)
    (after : Forest (TreeNode ℕ)) (hi : ℕ) → Cut own k first (left_texts xs before) l after hi
    → CutSomewhere own k first before (texts_before xs after) hi
over_texts own k first [] before l after hi c = record { link = l; cut = c }
over_texts own k first (x ∷ xs) before l after hi c = over_texts own k first xs before (Some x.note) (node x nil after)
    hi
    (step_left own k first x nil (left_texts xs before) l after hi c)

pub touched_over : (touched : ℕ → Bool) (xs : List (TreeNode ℕ)) (before after : Forest (TreeNode ℕ))
    → AllTouched touched (left_texts xs before)
    → AllTouched touched after → AllTouched touched (texts_before xs after)
touched_over touched [] before after h a = a
touched_over touched (x ∷ xs) before after h a = touched_over touched xs before (node x nil after) h.1 (h.0, a)

touched_before : (touched : ℕ → Bool) (xs : List (TreeNode ℕ)) (before : Forest (TreeNode ℕ))
    → AllTouched touched (left_texts xs before)
    → AllTouched touched before
touched_before touched [] before h = h
touched_before touched (x ∷ xs) before h = touched_before touched xs before h.1

-- and over what was read, up to the opener that a search finds
pub record FoundAt (touched : ℕ → Bool) (k : View Part) (first : Option ℕ) (f : FoundOpener ℕ) (hi : ℕ) : Type 0 where
  pub link : Option ℕ
  pub cut : Cut touched k first (left_texts f.characters (flat f.before)) link f.inside hi
  pub left_touched : AllTouched touched (left_texts f.characters (flat f.before))
  pub inside_touched : AllTouched touched f.inside

module _ (touched : ℕ → Bool) (k : View Part) (first : Option ℕ) (closer : Run) (f : FoundOpener ℕ) (hi : ℕ) where
  here_or : (b : Bool) (g : FoundOpener ℕ) (further : Option (FoundOpener ℕ)) → FoundAt touched k first g hi
      → (further ≡ Some f → FoundAt touched k first f hi) → found_if b g further ≡ Some f → FoundAt touched k first f hi
  here_or true g further h rest e = let same : g ≡ f = cc in subst (λ x. FoundAt touched k first x hi) same h
  here_or false g further h rest e = rest e

  pub found_at : (rs : List (Read ℕ)) (l : Option ℕ) (inside : Forest (TreeNode ℕ))
      → Cut touched k first (flat rs) l inside hi
      → AllTouched touched (flat rs) → AllTouched touched inside → nearest_opener closer rs inside ≡ Some f
      → FoundAt touched k first f hi
  found_at [] l inside c h a e = cc
  found_at (done_read b below ∷ rs) l inside c h a e =
      found_at rs (Some b.note) (node b below inside) (step_left touched k first b below (flat rs) l inside hi c) h.1
      (h.0, a) e
  found_at (waiting dropped run xs ∷ rs) l inside c h a e =
      here_or (not dropped && may_pair run closer) (record { inside = inside; run = run; characters = xs; before = rs })
      (nearest_opener closer rs (texts_before xs inside))
      (record { link = l; cut = c; left_touched = h; inside_touched = a })
      (let x = over_texts touched k first xs (flat rs) l inside hi c in
      found_at rs x.link (texts_before xs inside) x.cut (touched_before touched xs (flat rs) h)
      (touched_over touched xs (flat rs) inside h a))
      e

-- the last node of a left list leads nowhere now
parted_top : (own : ℕ → Bool) (k k' : View Part) (first : Option ℕ) (f : Forest (TreeNode ℕ)) (last : ℕ) (l : Option ℕ)
    (right : Forest (TreeNode ℕ)) (hi : ℕ) → Cut own k first f l right hi → Some last ≡ top f → own last ≡ true
    → Writes k k' last (k.item last) (k.child last) None → Parted k' first f None l right
parted_top own k k' first nil last l right hi c e o w = cc
parted_top own k k' first (node a below before) last l right hi c e o w =
    let same : last ≡ a.note = cc in
    parted own k k' first a below before l None right hi c (subst (λ i. own i ≡ true) same o)
    (subst (λ i. Writes k k' i (k.item i) (k.child i) None) same w)

-- where the last node of a left list is
top_is : (own : ℕ → Bool) (k : View Part) (first : Option ℕ) (f : Forest (TreeNode ℕ)) (last hi : ℕ) (l : Option ℕ)
    → LeftHolds k first f l → LeftRises own f hi → AllTouched own f → Some last ≡ top f
    → (last < k.size) × (last < hi) × (own last ≡ true)
top_is own k first nil last hi l h r t e = cc
top_is own k first (node a below before) last hi l h r t e =
    let same : last ≡ a.note = cc in (omega (arith, h.0, same), omega (arith, r.0.0, same), rw same t.0)

-- the link after the last of an opener's characters
pub last_link : (k : View Part) (first : Option ℕ) (o : Characters) (xs : List (TreeNode ℕ))
    (before : Forest (TreeNode ℕ)) (l : Option ℕ)
    → 0 < o.count → AreLast o xs → LeftHolds k first (left_texts xs before) l → l ≡ k.next (o.number + (o.count - 1))
last_link k first o [] before l some are h = absurd (omega (arith, some, are.count))
last_link k first o (x ∷ xs) before l some are h =
    let e : x.note ≡ o.number + (o.count - 1) = omega (arith, are.from.0, are.count) in
    sym h.3 ∙ ap k.next e

-- the first number of a closer's characters
pub texts_next : (c : Characters) (vs : List (TreeNode ℕ)) (after : Forest (TreeNode ℕ)) (hi : ℕ) → 0 < c.count
    → AreFirst c vs
    → next_number (texts vs after) hi ≡ c.number
texts_next c [] after hi some are = absurd (omega (arith, some, are.count))
texts_next c (v ∷ vs) after hi some are = are.from.0

-- what a pair leaves
flat_left : (run : Run) (xs : List (TreeNode ℕ)) (rs : List (Read ℕ)) → flat (still_waiting run xs rs)
    ≡ left_texts xs (flat rs)
flat_left run [] rs = refl
flat_left run (x ∷ xs) rs = refl

flat_pair : (f : FoundOpener ℕ) (made : Layers ℕ) (whole : TreeNode ℕ) (inside : Forest (TreeNode ℕ)) → made.whole
    ≡ node whole inside nil
    → flat (after_layers f made) ≡ node whole inside (left_texts made.opening (flat f.before))
flat_pair f made whole inside e =
    ap (λ g. flat (trees_done g (still_waiting f.run made.opening f.before))) e
    ∙ ap (node whole inside) (flat_left f.run made.opening f.before)

-- a closer after an opener that its search finds
module _ (h : Chain) (s : Arena Item) (rs : List (Read ℕ)) (vs : List (TreeNode ℕ)) (after : Forest (TreeNode ℕ))
    (found : FoundOpener ℕ) (opener closer : Characters) (last : ℕ) (st : StandsAt h s rs (Some last) closer vs after)
    (finds : Finds rs opener closer found) (some_open : 0 < opener.count) (some_close : 0 < closer.count) where
  top_last : (last < length s.nodes) × (last < next_number (texts vs after) h.bound) × (h.touched last ≡ true)
  top_last = top_is h.touched (view h s) h.first (flat rs) last (next_number (texts vs after) h.bound)
      (Some closer.number) st.stands.cut.left st.stands.cut.rises_left st.stands.left_touched st.stands.last_is

  pub last_within : last < length s.nodes
  last_within = top_last.0

  pub around_opener : ChainParts
  around_opener = record {
    before = flat found.before;
    opening = found.characters;
    inside = found.inside;
    closing = vs;
    after = after;
  }

  module _ (t : Arena Item) (w : Wrote s t last (item_at s.nodes last) (child_of s.nodes last) None) where
    touched_last : h.touched last ≡ true
    touched_last = top_last.2

    parts : Writes (view h s) (view h t) last ((view h s).item last) ((view h s).child last) None
    parts = parts_written (part_of h.setting.text h.tables) s.nodes t.nodes last (item_at s.nodes last)
        (child_of s.nodes last) None w.nodes

    pub encloses : Encloses h around_opener t opener closer (inner_of opener t)
    unfolding around_opener
    encloses =
        let first : next_number (texts vs after) h.bound ≡ closer.number = texts_next closer vs after h.bound some_close
        st.are in
        let rises = Rises-raise h.touched 0 closer.number (texts vs after) h.bound (omega (arith, first))
        st.stands.cut.rises_right in
        let below : last < closer.number = rw (← first) top_last.1 in
        let p = parted_top h.touched (view h s) (view h t) h.first (flat rs) last (Some closer.number) (texts vs after)
        h.bound
        st.stands.cut st.stands.last_is touched_last parts in
        let at = found_at h.touched (view h t) h.first closer.run found closer.number rs None nil
        (record {
          left = p.left;
          right = refl;
          rises_left = subst (λ n. LeftRises h.touched (flat rs) n) first st.stands.cut.rises_left;
          rises_right = omega arith;
        }) st.stands.left_touched tt finds.finds in
        let link = last_link (view h t) h.first opener found.characters (flat found.before) at.link some_open finds.are
        at.cut.left in
        record {
          opener_are = finds.are;
          closer_are = st.are;
          hi = closer.number;
          low = omega arith;
          cut = rw (← link) at.cut;
          right = Holds-write_before h.touched (view h s) (view h t) last _ _ None parts touched_last
              (Some closer.number) closer.number
              (texts vs after) h.bound below rises st.stands.cut.right;
          rises = rises;
          left_touched = at.left_touched;
          inside_touched = at.inside_touched;
          right_touched = st.stands.rest_touched;
          few = subst (λ n. n ≤ 2 ^ 63) (sym w.nodes.size) st.stands.few;
        }

    pub pair_done : (m : Extensions) (u : Arena Item) (root : ℕ) (rest : Option ℕ)
        → extensions_of h.setting.rules.syntax ≡ m
        → EnclosesAll m opener closer t u root rest
        → Reads h s u (after_layers found (layers h.setting found.run.delimiter found.characters vs found.inside))
        (Some root) rest
        (texts (layers h.setting found.run.delimiter found.characters vs found.inside).closing after)
    unfolding around_opener
    pair_done m u root rest is all =
        let made : Layers ℕ = layers h.setting opener.run.delimiter found.characters vs found.inside in
        let r = all h around_opener is encloses in
        let e = flat_pair found made r.whole r.inside r.whole_is in
        subst (λ (run : Run). let l : Layers ℕ = layers h.setting run.delimiter found.characters vs found.inside in
        Reads h s u (after_layers found l) (Some root) rest (texts l.closing after)) finds.run_is
        (record {
          stands = record {
            cut = subst (λ f. Cut h.touched (view h u) h.first f rest (texts made.closing after) h.bound) (sym e) r.cut;
            last_is = ap Some (sym r.last) ∙ sym (ap top e);
            left_touched = subst (λ f. AllTouched h.touched f) (sym e) r.left_touched;
            rest_touched = r.right_touched;
            few = subst (λ n. n ≤ 2 ^ 63) (sym (r.kept.size ∙ w.nodes.size)) st.stands.few;
          };
          kept = kept_both h.touched s t u (kept_links h.touched s t last _ None touched_last w) r.kept;
        })

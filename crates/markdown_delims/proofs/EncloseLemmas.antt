-- Characters of an opener become nodes, one layer at a time.
use Rattle.std.proofs.Common.{◌≡◌, ℕ, suc, ◌+◌, ◌-◌, ◌<◌, ◌≤◌, min, Bool, true, List, [], ◌∷◌, Option, Some, None}
use Rattle.std.proofs.Common.{length, refl, ap, sym, ◌∙◌, subst, arith}
use Rattle.std.specs.Prelude.{IfSome, slice_range, ◌^◌}
use Rattle.markdown_base.specs.declared.item.Item.{Item}
use Rattle.markdown_base.specs.declared.item.ItemBody.{ItemBody}
use Rattle.markdown_base.specs.Arena.{Arena}
use Rattle.markdown_base.specs.BlockTree.{item_at}
use Rattle.markdown_base.specs.Forest.{Forest, nil, node}
use Rattle.markdown_document.specs.Document.{Shape, Part, TreeNode, part_of, block_of}
use Rattle.markdown_document.specs.Setting.{Setting}
use Rattle.markdown_document.specs.Tables.{Tables}
use Rattle.markdown_delims.specs.declared.run.Characters.{Characters}
use Rattle.markdown_delims.specs.declared.run.Delimiter.{Delimiter}
use Rattle.markdown_delims.specs.ChainStanding.{Chain, view, texts, left_texts, FirstFrom, LastFrom}
use Rattle.markdown_delims.specs.Enclosing.{IsLayer, ChainParts, Encloses, IsEnclosed}
use Rattle.markdown_delims.specs.Layers.{extensions_of, layer_of_one, layer_of_two, spanned}
use Rattle.markdown_delims.specs.Pairing.{Layers, layers}
use Rattle.markdown_delims.specs.Views.{View, Writes, Wrote, Holds, LeftHolds, next_number, Rises, LeftRises, Cut, Kept}
use Rattle.markdown_delims.specs.Views.{AllTouched}
use Rattle.markdown_delims.proofs.CutLemmas.{Rises-le, Rises-raise, Rises-lower, Inside-of, Inside-further}
use Rattle.markdown_delims.proofs.CutLemmas.{Holds-write_before, step_left, enclosing}
use Rattle.markdown_delims.proofs.WriteLemmas.{parts_written, kept_none, kept_made}

-- a chain's first number is not below where it begins
pub next_number-from : (own : ℕ → Bool) (lo : ℕ) (f : Forest (TreeNode ℕ)) (hi : ℕ) → Rises own lo f hi
    → lo ≤ next_number f hi
next_number-from own lo nil hi r = r
next_number-from own lo (node a below after) hi r = r.0

-- a link to a chain leads to a node
pub link_within : (k : View Part) (l : Option ℕ) (f : Forest (TreeNode ℕ)) → Holds k l f → IfSome l (λ ix. ix < k.size)
link_within k None f h = tt
link_within k (Some ix) nil h = cc
link_within k (Some ix) (node a below after) h = let e : ix ≡ a.note = cc in omega (arith, h.1, e)

-- a character of a left list, with what precedes it and the chain that is to be inside
pub record Peeled (own : ℕ → Bool) (k : View Part) (first : Option ℕ) (x : TreeNode ℕ) (before : Forest (TreeNode ℕ))
    (l : Option ℕ) (chain : Forest (TreeNode ℕ)) (hi : ℕ) : Type 0 where
  pub within : x.note < k.size
  pub item : k.item x.note ≡ x.part
  pub left : LeftHolds k first before (Some x.note)
  pub rises_left : LeftRises own before x.note
  pub right : Holds k l chain
  pub rises : Rises own (suc x.note) chain hi

module _ (own : ℕ → Bool) (k : View Part) (first : Option ℕ) (x : TreeNode ℕ) (before : Forest (TreeNode ℕ))
    (l : Option ℕ) (chain : Forest (TreeNode ℕ)) (hi : ℕ) where
  pub peel_one : Cut own k first (node x nil before) l chain hi → Peeled own k first x before l chain hi
  peel_one c =
      record {
        within = c.left.0;
        item = c.left.1;
        left = c.left.4;
        rises_left = c.rises_left.1;
        right = c.right;
        rises = Rises-raise own 0 (suc x.note) chain hi c.rises_left.0.0 c.rises_right;
      }

  pub peel_two : (y : TreeNode ℕ) → Cut own k first (node y nil (node x nil before)) l chain hi
      → Peeled own k first x before l chain hi
  peel_two y c =
      let last : suc y.note ≤ next_number chain hi = c.rises_left.0.0 in
      let above : suc x.note ≤ y.note = c.rises_left.1.0.0 in
      record {
        within = c.left.4.0;
        item = c.left.4.1;
        left = c.left.4.4;
        rises_left = c.rises_left.1.1;
        right = c.right;
        rises = Rises-raise own 0 (suc x.note) chain hi (omega arith) c.rises_right;
      }

  module _ (k' : View Part) (p : Part) (peeled : Peeled own k first x before l chain hi) (o : own x.note ≡ true) where
    abbrev made : TreeNode ℕ
    made = record { note = x.note; part = p }

    -- an inner layer
    pub layer_inside : Writes k k' x.note p l None → Cut own k' first before (Some x.note) (node made chain nil) hi
    layer_inside w =
        let inner = Inside-of own (suc x.note) chain hi peeled.rises in
        let held = enclosing own k k' first before made l None chain hi o peeled.within peeled.left peeled.rises_left
        peeled.right inner w in
        step_left own k' first made chain before None nil hi
        (record { left = held; right = refl; rises_left = (inner, peeled.rises_left); rises_right = omega arith })

    -- the outermost one
    pub layer_last : (m : Option ℕ) (after : Forest (TreeNode ℕ)) (lo bound : ℕ) → hi ≤ lo → Holds k m after
        → Rises own lo after bound
        → Writes k k' x.note p l m → Cut own k' first (node made chain before) m after bound
    layer_last m after lo bound high h r w =
        let inner = Inside-of own (suc x.note) chain hi peeled.rises in
        let held = enclosing own k k' first before made l m chain hi o peeled.within peeled.left peeled.rises_left
        peeled.right inner w in
        let low : suc x.note ≤ hi = Rises-le own (suc x.note) chain hi peeled.rises in
        let from : lo ≤ next_number after bound = next_number-from own lo after bound r in
        record {
          left = held;
          right = Holds-write_before own k k' x.note p l m w o m lo after bound (omega arith) r h;
          rises_left = (
            Inside-further own (suc x.note) chain hi (next_number after bound) (omega arith) inner,
            peeled.rises_left,
          );
          rises_right = Rises-lower own lo 0 after bound (omega arith) r;
        }

-- what is written over characters is a layer from one to the other
pub spanned_part : (s : Setting) (tables : Tables) (i j : Item) (x v : TreeNode ℕ) (b : ItemBody) (shape : List ℕ
    → Shape)
    → part_of s.text tables i ≡ x.part → part_of s.text tables j ≡ v.part → x.part.block ≡ None → IsLayer b shape
    → part_of s.text tables (record { start = i.start; end = j.end; body = b }) ≡ (spanned s.text shape x v).part
spanned_part s tables i j x v b shape e f none is =
    let apart : block_of i.body ≡ None = ap (λ (p : Part). p.block) e ∙ none in
    rw (← e, ← f, is.reads tables (slice_range s.text i.start j.end), is.made.inline, apart) refl

-- where the characters of one side are used up, no layer is left
layers_end : (s : Setting) (d : Delimiter) (xs vs : List (TreeNode ℕ)) (inside : Forest (TreeNode ℕ))
    → min (length xs) (length vs) ≡ 0
    → layers s d xs vs inside ≡ record { whole = inside; opening = xs; closing = vs }
layers_end s d [] vs inside e = refl
layers_end s d (x ∷ xs) [] inside e = refl
layers_end s d (x ∷ xs) (v ∷ vs) inside e = absurd (omega (arith, e))

layers_once : (s : Setting) (d : Delimiter) (x v : TreeNode ℕ) (xs vs : List (TreeNode ℕ))
    (inside : Forest (TreeNode ℕ)) → min (length xs) (length vs) ≡ 0
    → layers s d (x ∷ xs) (v ∷ vs) inside
    ≡ layers s d xs vs (node (spanned s.text (layer_of_one (extensions_of s.rules.syntax) d) x v) inside nil)
layers_once s d x v [] vs inside e = refl
layers_once s d x v (y ∷ xs) [] inside e = refl
layers_once s d x v (y ∷ xs) (w ∷ vs) inside e = absurd (omega (arith, e))

-- a chain of characters begins at their first number
pub texts_link : (k : View Part) (l : Option ℕ) (number : ℕ) (vs : List (TreeNode ℕ)) (after : Forest (TreeNode ℕ))
    → 0 < length vs
    → FirstFrom number vs → Holds k l (texts vs after) → l ≡ Some number
texts_link k l number [] after some f h = absurd (omega (arith, some))
texts_link k l number (v ∷ vs) after some f h = h.0 ∙ ap Some f.0

-- the state after some layers: the characters that are left enclose the chain that was made so far
pub record LayersAt (h : Chain) (g : ChainParts) (s t : Arena Item) (d : Delimiter) (o c : Characters) (left : ℕ)
    (inner : Option ℕ) : Type 0
  where
    pub opening : List (TreeNode ℕ)
    pub closing : List (TreeNode ℕ)
    pub inside : Forest (TreeNode ℕ)
    pub stands : Encloses h (record {
      before = g.before;
      opening = opening;
      inside = inside;
      closing = closing;
      after = g.after;
    }) t o c inner
    pub same : layers h.setting d opening closing inside ≡ layers h.setting d g.opening g.closing g.inside
    pub left_is : left ≡ min o.count c.count
    pub kept : Kept h.touched s t

pub layers_begin : (h : Chain) (g : ChainParts) (s : Arena Item) (d : Delimiter) (o c : Characters) (left : ℕ)
    (inner : Option ℕ) → left ≡ min o.count c.count → Encloses h g s o c inner → LayersAt h g s s d o c left inner
layers_begin h g s d o c left inner e st = record {
  opening = g.opening;
  closing = g.closing;
  inside = g.inside;
  stands = st;
  same = refl;
  left_is = e;
  kept = kept_none h.touched s;
}

-- the next layer, of the last n characters that are left of the opener and the first n of the closer, for an n of one
-- or two: from x to v
pub record NextLayer (h : Chain) (g : ChainParts) (t : Arena Item) (o c : Characters) (inner : Option ℕ)
    (n : ℕ) : Type 0
  where
    pub x : TreeNode ℕ
    pub v : TreeNode ℕ
    pub xs : List (TreeNode ℕ)
    pub vs : List (TreeNode ℕ)
    pub hi : ℕ
    pub low : hi ≤ c.number
    pub root_is : x.note ≡ o.number + (o.count - n)
    pub end_is : suc v.note ≡ c.number + n
    pub none : x.part.block ≡ None
    pub opening : LastFrom o.number xs
    pub opening_count : length xs + n ≡ o.count
    pub closing : FirstFrom (c.number + n) vs
    pub closing_count : length vs + n ≡ c.count
    pub peeled : Peeled h.touched (view h t) h.first x (left_texts xs g.before) inner g.inside hi
    pub root_touched : h.touched x.note ≡ true
    pub left_touched : AllTouched h.touched (left_texts xs g.before)
    pub end_within : v.note < length t.nodes
    pub end_part : (view h t).item v.note ≡ v.part
    pub right : Holds (view h t) ((view h t).next v.note) (texts vs g.after)
    pub rises : Rises h.touched (suc v.note) (texts vs g.after) h.bound
    pub right_touched : AllTouched h.touched (texts vs g.after)

-- of two characters, and of one
abbrev shape_of_two : Setting → Delimiter → List ℕ → Shape
shape_of_two s d = layer_of_two (extensions_of s.rules.syntax) d

abbrev shape_of_one : Setting → Delimiter → List ℕ → Shape
shape_of_one s d = layer_of_one (extensions_of s.rules.syntax) d

module _ (h : Chain) (t : Arena Item) (o c : Characters) (inner : Option ℕ) (before inside after : Forest (TreeNode ℕ))
  where
    abbrev around : List (TreeNode ℕ) → List (TreeNode ℕ) → ChainParts
    around xs vs = record { before = before; opening = xs; inside = inside; closing = vs; after = after }

    -- after a layer of n characters the characters that are left pair around it, if there are any
    pub record LayerOf (n : ℕ) (shape : Setting → Delimiter → List ℕ → Shape)
        (opening closing : List (TreeNode ℕ)) : Type
        0 where
      pub next : NextLayer h (around opening closing) t o c inner n
      pub layers_are : (n ≡ 1 → min (length next.xs) (length next.vs) ≡ 0) → (s : Setting) (d : Delimiter)
          → layers s d opening closing inside
          ≡ layers s d next.xs next.vs (node (spanned s.text (shape s d) next.x next.v) inside nil)

    pub layer_of_two_at : (opening closing : List (TreeNode ℕ)) → Encloses h (around opening closing) t o c inner
        → 2 ≤ min o.count c.count → LayerOf 2 shape_of_two opening closing
    layer_of_two_at [] closing st m = absurd (omega (arith, st.opener_are.count, m))
    layer_of_two_at (x ∷ []) closing st m = absurd (omega (arith, st.opener_are.count, m))
    layer_of_two_at (x ∷ y ∷ xs) [] st m = absurd (omega (arith, st.closer_are.count, m))
    layer_of_two_at (x ∷ y ∷ xs) (v ∷ []) st m = absurd (omega (arith, st.closer_are.count, m))
    layer_of_two_at (x ∷ y ∷ xs) (v ∷ w ∷ vs) st m =
        record {
          next = record {
            x = y;
            v = w;
            xs = xs;
            vs = vs;
            hi = st.hi;
            low = st.low;
            root_is = omega (arith, st.opener_are.from.2.0, st.opener_are.count);
            end_is = omega (arith, st.closer_are.from.2.0);
            none = st.opener_are.from.2.1;
            opening = st.opener_are.from.2.2;
            opening_count = omega (arith, st.opener_are.count);
            closing = rw (← (let e : suc (suc c.number) ≡ c.number + 2 = omega arith in e)) st.closer_are.from.2.2;
            closing_count = omega (arith, st.closer_are.count);
            peeled = peel_two h.touched (view h t) h.first y (left_texts xs before) inner inside st.hi x st.cut;
            root_touched = st.left_touched.1.0;
            left_touched = st.left_touched.1.1;
            end_within = st.right.4.1;
            end_part = st.right.4.2;
            right = st.right.4.4;
            rises = st.rises.2.2;
            right_touched = st.right_touched.1.1;
          };
          layers_are = λ last s d. refl;
        }

    pub layer_of_one_at : (opening closing : List (TreeNode ℕ)) → Encloses h (around opening closing) t o c inner
        → 1 ≤ min o.count c.count → LayerOf 1 shape_of_one opening closing
    layer_of_one_at [] closing st m = absurd (omega (arith, st.opener_are.count, m))
    layer_of_one_at (x ∷ xs) [] st m = absurd (omega (arith, st.closer_are.count, m))
    layer_of_one_at (x ∷ xs) (v ∷ vs) st m =
        record {
          next = record {
            x = x;
            v = v;
            xs = xs;
            vs = vs;
            hi = st.hi;
            low = st.low;
            root_is = omega (arith, st.opener_are.from.0, st.opener_are.count);
            end_is = omega (arith, st.closer_are.from.0);
            none = st.opener_are.from.1;
            opening = st.opener_are.from.2;
            opening_count = omega (arith, st.opener_are.count);
            closing = rw (← (let e : suc c.number ≡ c.number + 1 = omega arith in e)) st.closer_are.from.2;
            closing_count = omega (arith, st.closer_are.count);
            peeled = peel_one h.touched (view h t) h.first x (left_texts xs before) inner inside st.hi st.cut;
            root_touched = st.left_touched.0;
            left_touched = st.left_touched.1;
            end_within = st.right.1;
            end_part = st.right.2;
            right = st.right.4;
            rises = st.rises.2;
            right_touched = st.right_touched.1;
          };
          layers_are = λ none s d. layers_once s d x v xs vs inside (none refl);
        }

-- the layer is written
module _ (h : Chain) (t : Arena Item) (o c : Characters) (inner : Option ℕ) (g : ChainParts) (n : ℕ)
    (next : NextLayer h g t o c inner n) (b : ItemBody) (shape : List ℕ → Shape) (is : IsLayer b shape)
    (u : Arena Item) (root end : ℕ) (m : Option ℕ)
    (w : Wrote t u root (record { start = (item_at t.nodes root).start; end = (item_at t.nodes end).end; body = b })
    inner m)
    (root_is : root ≡ next.x.note) (end_is : end ≡ next.v.note) where
  pub layer_written : Writes (view h t) (view h u) next.x.note (spanned h.setting.text shape next.x next.v).part inner
      m
  layer_written =
      let i : Item = record {
        start = (item_at t.nodes next.x.note).start;
        end = (item_at t.nodes next.v.note).end;
        body = b;
      } in
      let at : Wrote t u next.x.note i inner m =
      rw (← end_is) (subst (λ x. Wrote t u x (record {
        start = (item_at t.nodes x).start;
        end = (item_at t.nodes end).end;
        body = b;
      }) inner m) root_is w) in
      rw (← (spanned_part h.setting h.tables (item_at t.nodes next.x.note) (item_at t.nodes next.v.note) next.x next.v b
      shape next.peeled.item next.end_part next.none is))
      (parts_written (part_of h.setting.text h.tables) t.nodes u.nodes next.x.note i inner m at.nodes)

  pub layer_kept : (s : Arena Item) → Kept h.touched s t → Kept h.touched s u
  layer_kept s k = kept_made h.touched s t u root _ inner m k
      (subst (λ x. h.touched x ≡ true) (sym root_is) next.root_touched) w is.made

-- the nodes of the next layer are those of an arena
pub record LayersFit (t : Arena Item) (o c : Characters) (left : ℕ) (inner : Option ℕ) : Type 0 where
  pub opener : left ≤ o.count
  pub closer : left ≤ c.count
  pub root_of_two : 2 ≤ left → o.number + (o.count - 2) < length t.nodes
  pub end_of_two : 2 ≤ left → c.number + 1 < length t.nodes
  pub root_of_one : o.number + (o.count - 1) < length t.nodes
  pub end_of_one : c.number < length t.nodes
  pub inner_within : IfSome inner (λ ix. ix < length t.nodes)
  pub few : length t.nodes ≤ 2 ^ 63

-- one layer more
module _ (h : Chain) (g : ChainParts) (s t u : Arena Item) (d : Delimiter) (o c : Characters) (left : ℕ)
    (inner : Option ℕ) (a : LayersAt h g s t d o c left inner) where
  abbrev two : 2 ≤ left → LayerOf h t o c inner g.before a.inside g.after 2 shape_of_two a.opening a.closing
  two l = layer_of_two_at h t o c inner g.before a.inside g.after a.opening a.closing a.stands
      (omega (arith, a.left_is, l))

  abbrev one : 1 ≤ left → LayerOf h t o c inner g.before a.inside g.after 1 shape_of_one a.opening a.closing
  one l = layer_of_one_at h t o c inner g.before a.inside g.after a.opening a.closing a.stands
      (omega (arith, a.left_is, l))

  module _ (b : ItemBody) where
    abbrev LayerWritten : Option ℕ → (root end : ℕ) → Type 0
    LayerWritten m root end =
        Wrote t u root (record { start = (item_at t.nodes root).start; end = (item_at t.nodes end).end; body = b })
        inner m

    pub layers_more : IsLayer b (layer_of_two (extensions_of h.setting.rules.syntax) d) → (root : ℕ)
        → root ≡ o.number + (o.count - 2) → 2 < left → LayerWritten None root (c.number + 1)
        → LayersAt h g s u d (record o { count = o.count - 2 })
        (record c { number = c.number + 2; count = c.count - 2 }) (left - 2) (Some root)
    layers_more is root e more w =
        let z = two (omega (arith, more)) in
        let n = z.next in
        let layer : TreeNode ℕ = spanned h.setting.text (layer_of_two
        (extensions_of h.setting.rules.syntax) d) n.x n.v in
        let root_is : root ≡ n.x.note = e ∙ sym n.root_is in
        let end_is : c.number + 1 ≡ n.v.note = omega (arith, n.end_is) in
        let written = layer_written h t o c inner _ 2 n _ _ is u _ _ None w root_is end_is in
        let low : suc n.x.note ≤ n.hi = Rises-le h.touched (suc n.x.note) a.inside n.hi n.peeled.rises in
        let right = Holds-write_before h.touched (view h t) (view h u) n.x.note _ inner None written n.root_touched
        ((view h t).next n.v.note) (suc n.v.note) (texts n.vs g.after) h.bound (omega (arith, low, n.low, n.end_is))
        n.rises n.right in
        let some : 0 < length n.vs = omega (arith, n.closing_count, a.left_is, more) in
        record {
          opening = n.xs;
          closing = n.vs;
          inside = node layer a.inside nil;
          stands = record {
            opener_are = record { from = n.opening; count = omega (arith, n.opening_count) };
            closer_are = record { from = n.closing; count = omega (arith, n.closing_count) };
            hi = n.hi;
            low = omega (arith, n.low);
            cut = rw root_is (layer_inside h.touched (view h t) h.first n.x (left_texts n.xs g.before) inner a.inside
                n.hi (view h u) layer.part n.peeled n.root_touched written);
            right = rw (← (texts_link (view h u) _ (c.number + 2) n.vs g.after some n.closing right)) right;
            rises = subst (λ x. Rises h.touched x (texts n.vs g.after) h.bound) n.end_is n.rises;
            left_touched = n.left_touched;
            inside_touched = (n.root_touched, tt);
            right_touched = n.right_touched;
            few = subst (λ x. x ≤ 2 ^ 63) (sym w.nodes.size) a.stands.few;
          };
          same = sym (z.layers_are (λ l. absurd (omega (arith, l))) h.setting d) ∙ a.same;
          left_is = omega (arith, a.left_is);
          kept = layer_kept h t o c inner _ 2 n _ _ is u _ _ None w root_is end_is s a.kept;
        }

    -- the outermost layer
    abbrev IsDone : ℕ → Option ℕ → Type 0
    IsDone root rest = IsEnclosed h g s u (layers h.setting d g.opening g.closing g.inside) root rest

    outermost : (n : ℕ) (shape : Setting → Delimiter → List ℕ → Shape)
        (z : LayerOf h t o c inner g.before a.inside g.after n shape a.opening a.closing) → left ≡ n
        → IsLayer b (shape h.setting d) → (root end : ℕ) (rest : Option ℕ) → root ≡ o.number + (o.count - n)
        → suc end ≡ c.number + n → rest ≡ (view h t).next end → LayerWritten rest root end → IsDone root rest
    outermost n shape z l is root end rest e f rest_is w =
        let next = z.next in
        let layer : TreeNode ℕ = spanned h.setting.text (shape h.setting d) next.x next.v in
        let root_is : root ≡ next.x.note = e ∙ sym next.root_is in
        let end_is : end ≡ next.v.note = omega (arith, f, next.end_is) in
        let written = layer_written h t o c inner _ n next _ _ is u _ _ rest w root_is end_is in
        let here : rest ≡ (view h t).next next.v.note = rest_is ∙ ap (view h t).next end_is in
        let low : next.hi ≤ suc next.v.note = omega (arith, next.low, next.end_is) in
        let none : min (length next.xs) (length next.vs) ≡ 0 =
        omega (arith, l, a.left_is, next.opening_count, next.closing_count) in
        subst (λ (l : Layers ℕ). IsEnclosed h g s u l root rest)
        (sym (layers_end h.setting d next.xs next.vs (node layer a.inside nil) none)
        ∙ sym (z.layers_are (λ _. none) h.setting d) ∙ a.same)
        (record {
          whole = layer;
          inside = a.inside;
          cut = layer_last h.touched (view h t) h.first next.x (left_texts next.xs g.before) inner a.inside next.hi
              (view h u) layer.part next.peeled next.root_touched rest (texts next.vs g.after) (suc next.v.note) h.bound
              low (subst (λ l. Holds (view h t) l (texts next.vs g.after)) (sym here) next.right) next.rises written;
          whole_is = refl;
          last = sym root_is;
          left_touched = (next.root_touched, next.left_touched);
          right_touched = next.right_touched;
          kept = layer_kept h t o c inner _ n next _ _ is u _ _ rest w root_is end_is s a.kept;
        })

    pub layers_two : IsLayer b (layer_of_two (extensions_of h.setting.rules.syntax) d) → (root end : ℕ)
        (rest : Option ℕ) → root ≡ o.number + (o.count - 2) → end ≡ c.number + 1 → left ≡ 2 → rest ≡ (view h t).next end
        → LayerWritten rest root end → IsDone root rest
    layers_two is root end rest e f l r w =
        outermost 2 shape_of_two (two (omega (arith, l))) l is root end rest e (omega (arith, f)) r w

    pub layers_one : IsLayer b (layer_of_one (extensions_of h.setting.rules.syntax) d) → (root : ℕ) (rest : Option ℕ)
        → root ≡ o.number + (o.count - 1) → left ≡ 1 → rest ≡ (view h t).next c.number
        → LayerWritten rest root c.number → IsDone root rest
    layers_one is root rest e l r w =
        outermost 1 shape_of_one (one (omega (arith, l))) l is root c.number rest e (omega arith) r w

  -- the nodes of the next layer are there
  pub layers_fit : 0 < left → LayersFit t o c left inner
  layers_fit some = record {
    opener = omega (arith, a.left_is);
    closer = omega (arith, a.left_is);
    root_of_two = λ l. let n = (two l).next in omega (arith, n.peeled.within, n.root_is);
    end_of_two = λ l. let n = (two l).next in omega (arith, n.end_within, n.end_is);
    root_of_one = let n = (one some).next in omega (arith, n.peeled.within, n.root_is);
    end_of_one = let n = (one some).next in omega (arith, n.end_within, n.end_is);
    inner_within = link_within (view h t) inner a.inside a.stands.cut.right;
    few = a.stands.few;
  }

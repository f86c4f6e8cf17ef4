-- Quotes are read tree by tree: a remembered one is overwritten in place.
use Rattle.std.proofs.Common.{◌≡◌, ℕ, suc, ◌<◌, Bool, true, false, List, Option, Some, None, length, refl, ap, sym, ◌∙◌}
use Rattle.std.proofs.Common.{subst, arith, inl, inr}
use Rattle.std.specs.Prelude.{◌⊎◌, ◌||◌, ◌&&◌, ◌==◌, if◌then◌else◌, IfSome, is_some}
use Rattle.std.proofs.lemmas.Bool.{cond_both, eqb-true, eqb-false, eq-eqb}
use Rattle.markdown_base.specs.Bytes.{backslash}
use Rattle.markdown_base.specs.declared.item.Item.{Item}
use Rattle.markdown_base.specs.declared.item.ItemBody.{ItemBody}
use Rattle.markdown_base.specs.declared.item.ItemBody.TheVariants as body
use Rattle.markdown_base.specs.Arena.{Arena, child_of, sibling_of}
use Rattle.markdown_base.specs.BlockTree.{item_at}
use Rattle.markdown_base.specs.Forest.{Forest, nil, node}
use Rattle.markdown_document.specs.Document.{Shape, Part, TreeNode, shaped, shape_of, block_of, part_of}
use Rattle.markdown_document.specs.Tables.{Tables}
use Rattle.markdown_delims.specs.declared.quotes.Kind.{Kind}
use Rattle.markdown_delims.specs.declared.quotes.Kind.TheVariants as kind
use Rattle.markdown_delims.specs.ChainStanding.{Chain, view, read_back}
use Rattle.markdown_delims.specs.Quotes.{synthesized, left_single, right_single, left_double, right_double}
use Rattle.markdown_delims.specs.Quotes.{kind_of_shape, closes_later, is_closed_later, is_end, turn_by, quotes_after}
use Rattle.markdown_delims.specs.Quoting.{IsRoot, left_quoted, remembered_as, quoted_from, QuotesStand, QuotesOn}
use Rattle.markdown_delims.specs.Views.{View, Writes, WroteBody, Holds, LeftHolds, next_number, LeftRises, IsMade, Kept}
use Rattle.markdown_delims.specs.Views.{AllTouched}
use Rattle.markdown_delims.proofs.CutLemmas.{Rises-raise, Holds-inside_before, Holds-write_before}
use Rattle.markdown_delims.proofs.CutLemmas.{LeftHolds-write_after, step_right}
use Rattle.markdown_delims.proofs.LiteralRunLemmas.{written_over}
use Rattle.markdown_delims.proofs.WriteLemmas.{parts_written, body_part, kept_none, kept_made}

-- a tree of a left list has a number below what follows
root_below : (own : ℕ → Bool) (ix : ℕ) (f : Forest (TreeNode ℕ)) (hi : ℕ) → LeftRises own f hi → IsRoot ix f → ix < hi
root_below own ix nil hi r i = absurd i
root_below own ix (node a below before) hi r (inl e) = omega (arith, e.0, r.0.0)
root_below own ix (node a below before) hi r (inr i) = omega (arith, root_below own ix before a.note r.1 i, r.0.0)

-- it is a node that may be written, and no block
root_is : (own : ℕ → Bool) (k : View Part) (first : Option ℕ) (ix : ℕ) (f : Forest (TreeNode ℕ)) (l : Option ℕ)
    → LeftHolds k first f l → AllTouched own f → IsRoot ix f
    → (ix < k.size) × (own ix ≡ true) × ((k.item ix).block ≡ None)
root_is own k first ix nil l h t i = absurd i
root_is own k first ix (node a below before) l h t (inl e) = (
  omega (arith, e.0, h.0),
  rw e.0 at t.0,
  ap (λ (p : Part). p.block) (ap k.item (sym e.0) ∙ h.1) ∙ e.1,
)
root_is own k first ix (node a below before) l h t (inr i) = root_is own k first ix before (Some a.note) h.4 t.1 i

other_root : (ix : ℕ) (a : TreeNode ℕ) (before : Forest (TreeNode ℕ)) → (a.note ≡ ix → ⊥)
    → ((a.note ≡ ix) × (a.part.block ≡ None)) ⊎ IsRoot ix before
    → IsRoot ix before
other_root ix a before d (inl e) = absurd (d e.0)
other_root ix a before d (inr i) = i

-- a write of the body of one of them
module _ (own : ℕ → Bool) (k k' : View Part) (first : Option ℕ) (ix : ℕ) (o : own ix ≡ true)
    (w : Writes k k' ix (record { shape = left_single; range = (k.item ix).range; block = (k.item ix).block })
    (k.child ix) (k.next ix)) where
  pub left_written : (f : Forest (TreeNode ℕ)) (l : Option ℕ) (hi : ℕ) → IsRoot ix f → LeftRises own f hi
      → LeftHolds k first f l → LeftHolds k' first (left_quoted ix f) l
  left_written nil l hi i r h = absurd i
  left_written (node a below before) l hi i r h =
      let inside : ix < suc a.note → Holds k' (k.child a.note) below =
      λ low. Holds-inside_before own k k' ix _ (k.child ix) (k.next ix) w o (k.child a.note)
      (suc a.note) below hi low r.0
      h.2 in
      cond_both (a.note == ix) (node (shaped left_single a) below before) (node a below (left_quoted ix before))
      (λ f. LeftHolds k' first f l)
      (λ e.
      let same : a.note ≡ ix = eqb-true a.note ix e in (
        rw w.size h.0,
        ap k'.item same ∙ w.item
            ∙ ap (λ (j : Part). let p : Part = record { shape = left_single; range = j.range; block = j.block } in p)
            (ap k.item (sym same) ∙ h.1),
        subst (λ m. Holds k' m below) (sym (ap k'.child same ∙ w.child ∙ ap k.child (sym same))) (inside (omega arith)),
        ap k'.next same ∙ w.next ∙ ap k.next (sym same) ∙ h.3,
        LeftHolds-write_after own k k' ix _ (k.child ix) (k.next ix) w o first before (Some a.note) a.note (omega arith)
            r.1 h.4,
      ))
      (λ e.
      let differ : a.note ≡ ix → ⊥ = eqb-false a.note ix e in
      let j : IsRoot ix before = other_root ix a before differ i in
      let low : ix < a.note = root_below own ix before a.note r.1 j in
      let same = w.others a.note differ in (
        rw w.size h.0,
        same.item ∙ h.1,
        rw same.child (inside (omega arith)),
        same.next ∙ h.3,
        left_written before (Some a.note) a.note j r.1 h.4,
      ))

-- the numbers stay
left_rises : (own : ℕ → Bool) (ix : ℕ) (f : Forest (TreeNode ℕ)) (hi : ℕ) → LeftRises own f hi
    → LeftRises own (left_quoted ix f) hi
left_rises own ix nil hi r = r
left_rises own ix (node a below before) hi r =
    cond_both (a.note == ix) (node (shaped left_single a) below before) (node a below (left_quoted ix before))
    (λ f. LeftRises own f hi) (λ _. r) (λ _. (r.0, left_rises own ix before a.note r.1))

left_all_touched : (touched : ℕ → Bool) (ix : ℕ) (f : Forest (TreeNode ℕ)) → AllTouched touched f
    → AllTouched touched (left_quoted ix f)
left_all_touched touched ix nil h = h
left_all_touched touched ix (node a below before) h =
    cond_both (a.note == ix) (node (shaped left_single a) below before) (node a below (left_quoted ix before))
    (AllTouched touched) (λ _. h) (λ _. (h.0, left_all_touched touched ix before h.1))

still_root : (single : Option ℕ) (a : TreeNode ℕ) (below before : Forest (TreeNode ℕ)) → IfSome single
    (λ x. IsRoot x before)
    → IfSome single (λ x. IsRoot x (node a below before))
still_root None a below before h = tt
still_root (Some x) a below before h = inr h

-- what was remembered precedes a tree that is read
remembered_over : (single : Option ℕ) (later : Bool) (a : TreeNode ℕ) (below before : Forest (TreeNode ℕ))
    → IfSome single (λ x. x < a.note)
    → remembered_as single later (node a below before) ≡ node a below (remembered_as single later before)
remembered_over None later a below before h = refl
remembered_over (Some x) false a below before h = refl
remembered_over (Some x) true a below before h =
    cond_both (a.note == x) (node (shaped left_single a) below before) (node a below (left_quoted x before))
    (λ f. f ≡ node a below (left_quoted x before))
    (λ e. absurd (let same : a.note ≡ x = eqb-true a.note x e in omega arith)) (λ _. refl)

left_quoted-here : (a : TreeNode ℕ) (below before : Forest (TreeNode ℕ)) → left_quoted a.note (node a below before)
    ≡ node (shaped left_single a) below before
left_quoted-here a below before = ap (λ b. if b then node (shaped left_single a) below before
    else node a below (left_quoted a.note before)) (eq-eqb a.note a.note refl)

-- what the whole chain is, by the turn of the first tree of its rest
module _ (begun : Forest (TreeNode ℕ)) (a : TreeNode ℕ) (below after : Forest (TreeNode ℕ)) where
  abbrev pub turned : Option ℕ → Bool → Kind → Forest (TreeNode ℕ)
  turned single double k =
      read_back (node (shaped
      (turn_by k a.part.shape (is_some single) double (is_closed_later after) (is_end after)).made a) below
      (remembered_as single (closes_later k (is_closed_later after)) begun))
      (quotes_after (turn_by k a.part.shape (is_some single) double (is_closed_later after) (is_end after)).single
      (turn_by k a.part.shape (is_some single) double (is_closed_later after) (is_end after)).double after)

  pub turned_whole : (single : Option ℕ) (double : Bool) (k : Kind) → k ≡ kind_of_shape a.part.shape
      → turned single double k ≡ quoted_from single double begun (node a below after)
  turned_whole single double k e = ap (turned single double) e

  -- where the same `'` stays remembered
  stays : (single : Option ℕ) (double : Bool) (b : Shape) → IfSome single (λ x. x < a.note)
      → quoted_from single double (node (shaped b a) below begun) after
      ≡ read_back (node (shaped b a) below (remembered_as single (is_closed_later after) begun))
      (quotes_after (is_some single) double after)
  stays single double b low = ap (λ f. read_back f (quotes_after (is_some single) double after))
      (remembered_over single (is_closed_later after) (shaped b a) below begun low)

  pub turn_other : (single : Option ℕ) (double : Bool) → IfSome single (λ x. x < a.note)
      → quoted_from single double (node a below begun) after ≡ turned single double kind.Other
  turn_other single double low = stays single double a.part.shape low

  pub turn_break : (single : Option ℕ) (double : Bool) → IfSome single (λ x. x < a.note) → is_end after ≡ true
      → quoted_from single double (node (shaped (synthesized backslash) a) below begun) after
      ≡ turned single double kind.Break
  turn_break single double low e = rw e (stays single double (synthesized backslash) low)

  pub turn_no_break : (single : Option ℕ) (double : Bool) → IfSome single (λ x. x < a.note) → is_end after ≡ false
      → quoted_from single double (node a below begun) after ≡ turned single double kind.Break
  turn_no_break single double low e = rw e (stays single double a.part.shape low)

  pub turn_double_closes : (single : Option ℕ) (opens : Bool) → IfSome single (λ x. x < a.note)
      → quoted_from single false (node (shaped right_double a) below begun) after
      ≡ turned single true (kind.Double opens true)
  turn_double_closes single opens low = stays single false right_double low

  pub turn_double_opens : (single : Option ℕ) (double opens closes : Bool) → IfSome single (λ x. x < a.note)
      → (double && closes) ≡ false
      → quoted_from single (opens || double) (node (shaped left_double a) below begun) after
      ≡ turned single double (kind.Double opens closes)
  turn_double_opens single double opens false low e = let f : (double && false) ≡ false = e
      in rw f (stays single (opens || double) left_double low)
  turn_double_opens single false opens true low e = stays single (opens || false) left_double low
  turn_double_opens single true opens true low e = cc

  opens_if : (double later : Bool)
      → read_back (if later then left_quoted a.note (node (shaped right_single a) below begun)
      else node (shaped right_single a) below begun) (quotes_after true double after)
      ≡ read_back (node (shaped (if true && later then left_single else right_single) a) below begun)
      (quotes_after true double after)
  opens_if double true = ap (λ f. read_back f (quotes_after true double after))
      (left_quoted-here (shaped right_single a) below begun)
  opens_if double false = refl

  pub turn_none_opens : (double closes : Bool)
      → quoted_from (Some a.note) double (node (shaped right_single a) below begun) after
      ≡ turned None double (kind.Single true closes)
  turn_none_opens double closes = opens_if double (is_closed_later after)

  pub turn_none_stays : (double closes : Bool) → quoted_from None double (node (shaped right_single a) below begun)
      after
      ≡ turned None double (kind.Single false closes)
  turn_none_stays double closes = refl

  pub turn_some_closes : (x : ℕ) (double opens : Bool)
      → quoted_from None double (node (shaped right_single a) below (left_quoted x begun)) after
      ≡ turned (Some x) double (kind.Single opens true)
  turn_some_closes x double opens = refl

  pub turn_some_opens : (x : ℕ) (double : Bool)
      → quoted_from (Some a.note) double (node (shaped right_single a) below begun) after
      ≡ turned (Some x) double (kind.Single true false)
  turn_some_opens x double = opens_if double (is_closed_later after)

  pub turn_some_stays : (x : ℕ) (double : Bool) → x < a.note
      → quoted_from (Some x) double (node (shaped right_single a) below begun)
      after ≡ turned (Some x) double (kind.Single false false)
  turn_some_stays x double low = stays (Some x) double right_single low

low_if : (own : ℕ → Bool) (single : Option ℕ) (f : Forest (TreeNode ℕ)) (hi : ℕ) → LeftRises own f hi
    → IfSome single (λ x. IsRoot x f)
    → IfSome single (λ x. x < hi)
low_if own None f hi r i = tt
low_if own (Some x) f hi r i = root_below own x f hi r i

-- what is read as a quote or as a break is no block
pub quote_block : (tables : Tables) (source : List ℕ) (b : ItemBody)
    → (kind_of_shape (shape_of tables source b) ≡ kind.Other → ⊥)
    → block_of b ≡ None
quote_block tables source (body.MaybeSmartQuote quote opens closes) h = refl
quote_block tables source (body.HardBreak x) h = refl
quote_block tables source other h = absurd (h refl)

-- a Text of one character is made by pairing
made_character : (c : ℕ) → IsMade (body.SynthesizeChar c)
made_character c = record {
  text = refl;
  link = refl;
  alignments = refl;
  attributes = refl;
  closed = refl;
  inline = refl;
}

-- a tree at the link to the rest
module _ (h : Chain) (s : Arena Item) (begun : Forest (TreeNode ℕ)) (single : Option ℕ) (ix : ℕ) (a : TreeNode ℕ)
    (below after : Forest (TreeNode ℕ)) (st : QuotesStand h s begun single (Some ix) (node a below after)) where
  pub number_is : ix ≡ a.note
  number_is = let here : Some ix ≡ Some a.note = st.cut.right.0 in cc

  pub remembered_low : IfSome single (λ x. x < a.note)
  remembered_low = low_if h.touched single begun a.note st.cut.rises_left st.remembered

  pub no_block : (k : Kind) → k ≡ kind_of_shape a.part.shape → (k ≡ kind.Other → ⊥) → a.part.block ≡ None
  no_block k e other =
      sym (ap (λ (p : Part). p.block) st.cut.right.2)
      ∙ quote_block h.tables _ (item_at s.nodes a.note).body
      (λ f. other (e ∙ ap (λ (p : Part). kind_of_shape p.shape) (sym st.cut.right.2) ∙ f))

  -- it becomes a character
  pub put_here : (t : Arena Item) (c : ℕ) → a.part.block ≡ None → WroteBody s t ix (body.SynthesizeChar c)
      → QuotesStand h t (node (shaped (synthesized c) a) below begun) single (sibling_of s.nodes ix) after
  put_here t c none w0 =
      let w = subst (λ i. WroteBody s t i (body.SynthesizeChar c)) number_is w0 in
      let part = body_part h.setting.text h.tables (item_at s.nodes a.note) a (body.SynthesizeChar c) (synthesized c)
      st.cut.right.2 refl
      (sym none) in
      let written = rw part at (parts_written (part_of h.setting.text h.tables) s.nodes t.nodes a.note _ _ _ w.nodes) in
      record {
        cut = rw number_is (written_over h.touched (view h s) (view h t) h.first begun (Some ix) a below after h.bound
            (shaped (synthesized c) a).part st.cut st.rest_touched.0 written);
        remembered = still_root single (shaped (synthesized c) a) below begun st.remembered;
        left_touched = (st.rest_touched.0, st.left_touched);
        rest_touched = st.rest_touched.1;
      }

  put_kept : (t : Arena Item) (c : ℕ) → WroteBody s t ix (body.SynthesizeChar c) → Kept h.touched s t
  put_kept t c w = kept_made h.touched s s t ix _ _ _ (kept_none h.touched s) (rw number_is st.rest_touched.0) w
      (made_character c)

  pub put_on : (t : Arena Item) (c : ℕ) (k : Kind) (double : Bool) (single' : Option ℕ) (double' : Bool)
      → WroteBody s t ix (body.SynthesizeChar c) → k ≡ kind_of_shape a.part.shape → (k ≡ kind.Other → ⊥)
      → IfSome single' (λ x. IsRoot x (node (shaped (synthesized c) a) below begun))
      → quoted_from single' double' (node (shaped (synthesized c) a) below begun) after
      ≡ turned begun a below after single double k
      → QuotesOn h s t begun (node a below after) single double single' double' (sibling_of s.nodes ix) after
  put_on t c k double single' double' w e other i q =
      let p = put_here t c (no_block k e other) w in
      record {
        read = node (shaped (synthesized c) a) below begun;
        stands = record { cut = p.cut; remembered = i; left_touched = p.left_touched; rest_touched = p.rest_touched };
        kept = put_kept t c w;
        same = q ∙ turned_whole begun a below after single double k e;
      }

  -- it stays
  pub stay_on : (k : Kind) (double : Bool) → k ≡ kind_of_shape a.part.shape
      → quoted_from single double (node a below begun) after
      ≡ turned begun a below after single double k
      → QuotesOn h s s begun (node a below after) single double single double (sibling_of s.nodes ix) after
  stay_on k double e q =
      record {
        read = node a below begun;
        stands = record {
          cut = rw number_is (step_right h.touched (view h s) h.first begun (Some ix) a below after h.bound st.cut);
          remembered = still_root single a below begun st.remembered;
          left_touched = (st.rest_touched.0, st.left_touched);
          rest_touched = st.rest_touched.1;
        };
        kept = kept_none h.touched s;
        same = q ∙ turned_whole begun a below after single double k e;
      }

  -- the remembered one is still there
  pub still_there : (c : ℕ) → IfSome single (λ x. IsRoot x (node (shaped (synthesized c) a) below begun))
  still_there c = still_root single (shaped (synthesized c) a) below begun st.remembered

  pub here_root : (c : ℕ) → a.part.block ≡ None
      → IfSome (Some ix) (λ x. IsRoot x (node (shaped (synthesized c) a) below begun))
  here_root c none = inl (sym number_is, none)

-- the remembered one becomes a left quote
put_left : (h : Chain) (s t : Arena Item) (read : Forest (TreeNode ℕ)) (left : ℕ) (l : Option ℕ)
    (rest : Forest (TreeNode ℕ))
    → QuotesStand h s read (Some left) l rest → WroteBody s t left (body.SynthesizeChar 8216)
    → QuotesStand h t (left_quoted left read) None l rest
put_left h s t read left l rest st w =
    let low = root_below h.touched left read (next_number rest h.bound) st.cut.rises_left st.remembered in
    let is = root_is h.touched (view h s) h.first left read l st.cut.left st.left_touched st.remembered in
    let none = is.2 in
    let own = is.1 in
    let written = subst (λ o. Writes (view h s) (view h t) left (record {
      shape = left_single;
      range = ((view h s).item left).range;
      block = o;
    }) (child_of s.nodes left) (sibling_of s.nodes left)) (sym none)
    (parts_written (part_of h.setting.text h.tables) s.nodes t.nodes left _ _ _ w.nodes) in
    record {
      cut = record {
        left = left_written h.touched (view h s) (view h t) h.first left own written read l (next_number rest h.bound)
            st.remembered
            st.cut.rises_left st.cut.left;
        right = Holds-write_before h.touched (view h s) (view h t) left _ _ _ written own l (suc left) rest h.bound
            (omega arith)
            (Rises-raise h.touched 0 (suc left) rest h.bound low st.cut.rises_right) st.cut.right;
        rises_left = left_rises h.touched left read (next_number rest h.bound) st.cut.rises_left;
        rises_right = st.cut.rises_right;
      };
      remembered = tt;
      left_touched = left_all_touched h.touched left read st.left_touched;
      rest_touched = st.rest_touched;
    }

-- and a tree after it a right one
pub close_on : (h : Chain) (s t u : Arena Item) (begun : Forest (TreeNode ℕ)) (left ix : ℕ) (a : TreeNode ℕ)
    (below after : Forest (TreeNode ℕ)) (double opens : Bool)
    → QuotesStand h s begun (Some left) (Some ix) (node a below after) → kind.Single opens true
    ≡ kind_of_shape a.part.shape
    → WroteBody s t left (body.SynthesizeChar 8216) → WroteBody t u ix (body.SynthesizeChar 8217)
    → QuotesOn h s u begun (node a below after) (Some left) double None double (sibling_of s.nodes ix) after
close_on h s t u begun left ix a below after double opens st e v w =
    let none = no_block h s begun (Some left) ix a below after st (kind.Single opens true) e (λ q. cc) in
    let p = put_left h s t begun left (Some ix) (node a below after) st v in
    let q = put_here h t (left_quoted left begun) None ix a below after p u 8217 none w in
    let is = number_is h s begun (Some left) ix a below after st in
    let low : left < a.note = root_below h.touched left begun a.note st.cut.rises_left st.remembered in
    let on : sibling_of t.nodes ix ≡ sibling_of s.nodes ix = (v.nodes.others ix (λ x. omega (arith, is, x, low))).next
    in
    let k = kept_made h.touched s s t left _ _ _ (kept_none h.touched s)
    (root_is h.touched (view h s) h.first left begun (Some ix) st.cut.left st.left_touched st.remembered).1 v
    (made_character 8216) in
    record {
      read = node (shaped right_single a) below (left_quoted left begun);
      stands = rw (← on) q;
      kept = kept_made h.touched s t u ix _ _ _ k (rw is st.rest_touched.0) w (made_character 8217);
      same = turn_some_closes begun a below after left double opens ∙ turned_whole begun a below after (Some left)
          double
          (kind.Single opens true) e;
    }

-- where a chain can be quoted there are its nodes
pub can_here : (h : Chain) (s : Arena Item) (begun rest : Forest (TreeNode ℕ)) (single : Option ℕ) (ix : ℕ)
    → QuotesStand h s begun single (Some ix) rest → ix < length s.nodes
can_here h s begun nil single ix st = let no : Some ix ≡ None = st.cut.right in cc
can_here h s begun (node a below after) single ix st = let here : Some ix ≡ Some a.note = st.cut.right.0 in let e : ix
    ≡ a.note = cc
    in omega (arith, st.cut.right.1, e)

pub can_left : (h : Chain) (s : Arena Item) (begun rest : Forest (TreeNode ℕ)) (left : ℕ) (l : Option ℕ)
    → QuotesStand h s begun (Some left) l rest → left < length s.nodes
can_left h s begun rest left l st =
    (root_is h.touched (view h s) h.first left begun l st.cut.left st.left_touched st.remembered).0

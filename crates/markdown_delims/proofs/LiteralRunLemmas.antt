-- The characters of a run become texts, from the first on.
use Rattle.std.proofs.Common.{◌≡◌, ◌≤◌, ℕ, zero, suc, ◌+◌, ◌<◌, Bool, true, List, [], ◌∷◌, Option, Some, length, refl}
use Rattle.std.proofs.Common.{ap, sym, ◌∙◌, subst, arith}
use Rattle.std.specs.Prelude.{false, ◌^◌}
use Rattle.markdown_base.specs.declared.item.Item.{Item}
use Rattle.markdown_base.specs.declared.item.ItemBody.TheVariants as body
use Rattle.markdown_base.specs.Arena.{Arena, sibling_of}
use Rattle.markdown_base.specs.BlockTree.{item_at}
use Rattle.markdown_base.specs.Forest.{Forest, nil, node}
use Rattle.markdown_document.specs.Document.{Part, TreeNode, as_text, part_of}
use Rattle.markdown_delims.specs.declared.run.Characters.{Characters}
use Rattle.markdown_delims.specs.ChainReading.{BeginsRun, trees_after}
use Rattle.markdown_delims.specs.ChainStanding.{Chain, view, texts, left_texts, flat, FirstFrom, Stands, StandsAt}
use Rattle.markdown_delims.specs.Pairing.{Read, texts_before, last_first, first_texts}
use Rattle.markdown_delims.specs.Views.{View, Writes, WroteBody, IsMade, LeftHolds, next_number, Cut, Kept, AllTouched}
use Rattle.markdown_delims.proofs.CutLemmas.{Rises-lower, Holds-write_before, enclosing}
use Rattle.markdown_delims.proofs.EncloseLemmas.{texts_link}
use Rattle.markdown_delims.proofs.PairLemmas.{over_texts, touched_over}
use Rattle.markdown_delims.proofs.WriteLemmas.{parts_written, body_part, kept_none, kept_made}

-- another part at the first node of the rest, over which the cut goes
pub written_over : (own : ℕ → Bool) (k k' : View Part) (first : Option ℕ) (before : Forest (TreeNode ℕ)) (l : Option ℕ)
    (a : TreeNode ℕ) (below after : Forest (TreeNode ℕ)) (hi : ℕ) (p : Part)
    → Cut own k first before l (node a below after) hi → own a.note ≡ true
    → Writes k k' a.note p (k.child a.note) (k.next a.note)
    → Cut own k' first (node (record { note = a.note; part = p }) below before) (k.next a.note) after hi
written_over own k k' first before l a below after hi p c o w =
    record {
      left = enclosing own k k' first before (record { note = a.note; part = p }) (k.child a.note) (k.next a.note) below
          (next_number after hi) o
          c.right.1 (subst (λ m. LeftHolds k first before m) c.right.0 c.left) c.rises_left c.right.3 c.rises_right.1 w;
      right = Holds-write_before own k k' a.note p (k.child a.note) (k.next a.note) w o (k.next a.note)
          (suc a.note) after hi
          (omega arith)
          c.rises_right.2 c.right.4;
      rises_left = (c.rises_right.1, c.rises_left);
      rises_right = Rises-lower own (suc a.note) 0 after hi (omega arith) c.rises_right.2;
    }

-- the first i characters are texts, the last one first, and others are left
pub record LiteralTextAt (h : Chain) (s t : Arena Item) (rs : List (Read ℕ)) (number n i : ℕ)
    (chain : Forest (TreeNode ℕ))
    : Type 0 where
  pub xs : List (TreeNode ℕ)
  pub left : ℕ
  pub rest : Forest (TreeNode ℕ)
  pub link : Option ℕ
  pub left_is : left + i ≡ n
  pub begins : BeginsRun (number + i) left rest
  pub texts_are : last_first xs (first_texts h.setting.text left rest) ≡ first_texts h.setting.text n chain
  pub rest_is : trees_after left rest ≡ trees_after n chain
  pub cut : Cut h.touched (view h t) h.first (left_texts xs (flat rs)) link rest h.bound
  pub left_touched : AllTouched h.touched (left_texts xs (flat rs))
  pub rest_touched : AllTouched h.touched rest
  pub kept : Kept h.touched s t

pub settling_begin : (h : Chain) (s : Arena Item) (rs : List (Read ℕ)) (number n : ℕ) (last : Option ℕ)
    (chain : Forest (TreeNode ℕ))
    → Stands h s rs last (Some number) chain → BeginsRun number n chain → LiteralTextAt h s s rs number n 0 chain
settling_begin h s rs number n last chain st b = record {
  xs = [];
  left = n;
  rest = chain;
  link = Some number;
  left_is = omega arith;
  begins = subst (λ x. BeginsRun x n chain) (let e : number ≡ number + 0 = omega arith in e) b;
  texts_are = refl;
  rest_is = refl;
  cut = st.cut;
  left_touched = st.left_touched;
  rest_touched = st.rest_touched;
  kept = kept_none h.touched s;
}

module _ (h : Chain) (s t : Arena Item) (rs : List (Read ℕ)) (number n i : ℕ) (chain : Forest (TreeNode ℕ)) where
  -- the next of them is a node of the arena
  within_if : (xs : List (TreeNode ℕ)) (left : ℕ) (rest : Forest (TreeNode ℕ)) (l : Option ℕ) → 0 < left
      → BeginsRun (number + i) left rest
      → Cut h.touched (view h t) h.first (left_texts xs (flat rs)) l rest h.bound → number + i < length t.nodes
  within_if xs zero rest l some b c = absurd (omega arith)
  within_if xs (suc left) nil l some b c = absurd b
  within_if xs (suc left) (node a below after) l some b c = omega (arith, c.right.1, b.0)

  pub settling_within : i < n → LiteralTextAt h s t rs number n i chain → number + i < length t.nodes
  settling_within l a = within_if a.xs a.left a.rest a.link (omega (arith, a.left_is, l)) a.begins a.cut

  -- one more
  more_if : (u : Arena Item) (xs : List (TreeNode ℕ)) (left : ℕ) (rest : Forest (TreeNode ℕ)) (l : Option ℕ) → 0 < left
      → left + i ≡ n
      → BeginsRun (number + i) left rest
      → last_first xs (first_texts h.setting.text left rest) ≡ first_texts h.setting.text n chain
      → trees_after left rest ≡ trees_after n chain
      → Cut h.touched (view h t) h.first (left_texts xs (flat rs)) l rest h.bound
      → AllTouched h.touched (left_texts xs (flat rs))
      → AllTouched h.touched rest → Kept h.touched s t → WroteBody t u (number + i) (body.Text false)
      → LiteralTextAt h s u rs number n (suc i) chain
  more_if u xs zero rest l some e b x y c p q k w = absurd (omega arith)
  more_if u xs (suc left) nil l some e b x y c p q k w = absurd b
  more_if u xs (suc left) (node a below after) l some e b x y c p q k w0 =
      let w = subst (λ ix. WroteBody t u ix (body.Text false)) (sym b.0) w0 in
      let c1 = subst (λ f. Cut h.touched (view h t) h.first (left_texts xs (flat rs)) l (node a f after) h.bound) b.1 c
      in
      let text : IsMade (body.Text false) = record {
        text = refl;
        link = refl;
        alignments = refl;
        attributes = refl;
        closed = refl;
        inline = refl;
      } in
      let part = body_part h.setting.text h.tables (item_at t.nodes a.note) a (body.Text false) _ c.right.2
      (ap (λ (p : Part). (as_text h.setting.text (record { note = a.note; part = p })).part.shape) c.right.2)
      (sym b.2) in
      let written = rw part at (parts_written (part_of h.setting.text h.tables) t.nodes u.nodes a.note _ _ _ w.nodes) in
      record {
        xs = as_text h.setting.text a ∷ xs;
        left = left;
        rest = after;
        link = sibling_of t.nodes a.note;
        left_is = omega (arith, e);
        begins = subst (λ z. BeginsRun z left after) (let z : suc (number + i) ≡ number + suc i = omega arith in z) b.3;
        texts_are = x;
        rest_is = y;
        cut = written_over h.touched (view h t) (view h u) h.first (left_texts xs (flat rs)) l a nil after h.bound
            (as_text h.setting.text a).part c1 q.0 written;
        left_touched = (q.0, p);
        rest_touched = q.1;
        kept = kept_made h.touched s t u a.note _ _ _ k q.0 w text;
      }

  pub settling_more : (u : Arena Item) → i < n → LiteralTextAt h s t rs number n i chain
      → WroteBody t u (number + i) (body.Text false)
      → LiteralTextAt h s u rs number n (suc i) chain
  settling_more u l a w =
      more_if u a.xs a.left a.rest a.link (omega (arith, a.left_is, l)) a.left_is a.begins a.texts_are a.rest_is a.cut
      a.left_touched
      a.rest_touched a.kept w

-- the texts have consecutive numbers
pub firsts_from : (source : List ℕ) (number n : ℕ) (chain : Forest (TreeNode ℕ)) → BeginsRun number n chain
    → FirstFrom number (first_texts source n chain) × (length (first_texts source n chain) ≡ n)
firsts_from source number zero chain b = (tt, refl)
firsts_from source number (suc n) nil b = absurd b
firsts_from source number (suc n) (node a below after) b =
    let r = firsts_from source (suc number) n after b.3 in ((b.0, b.2, r.0), omega (arith, r.1))

texts_back : (xs ys : List (TreeNode ℕ)) (rest : Forest (TreeNode ℕ)) → texts (last_first xs ys) rest
    ≡ texts_before xs (texts ys rest)
texts_back [] ys rest = refl
texts_back (x ∷ xs) ys rest = texts_back xs (x ∷ ys) rest

-- all of them
pub settling_done : (h : Chain) (s t : Arena Item) (rs : List (Read ℕ)) (met : Characters) (i : ℕ) (last : Option ℕ)
    (chain : Forest (TreeNode ℕ)) → 0 < met.count → i ≡ met.count → Stands h s rs last (Some met.number) chain
    → BeginsRun met.number met.count chain → LiteralTextAt h s t rs met.number met.count i chain
    → StandsAt h t rs last met (first_texts h.setting.text met.count chain) (trees_after met.count chain)
    × Kept h.touched s t
settling_done h s t rs met i last chain some e st b a =
    let none : a.left ≡ 0 = omega (arith, a.left_is, e) in
    let vs : List (TreeNode ℕ) = first_texts h.setting.text met.count chain in
    let f = firsts_from h.setting.text met.number met.count chain b in
    let back : last_first a.xs [] ≡ vs = ap (λ n. last_first a.xs (first_texts h.setting.text n a.rest)) (sym none)
    ∙ a.texts_are in
    let rest : a.rest ≡ trees_after met.count chain = ap (λ n. trees_after n a.rest) (sym none) ∙ a.rest_is in
    let all : texts_before a.xs a.rest ≡ texts vs (trees_after met.count chain) =
    sym (texts_back a.xs [] a.rest) ∙ ap (λ ys. texts ys a.rest) back ∙ ap (texts vs) rest in
    let r = over_texts h.touched (view h t) h.first a.xs (flat rs) a.link a.rest h.bound a.cut in
    let cut = subst (λ f. Cut h.touched (view h t) h.first (flat rs) r.link f h.bound) all r.cut in
    let link = texts_link (view h t) r.link met.number vs (trees_after met.count chain) (omega (arith, f.1, some)) f.0
    cut.right in (
      record {
        stands = record {
          cut = rw (← link) cut;
          last_is = st.last_is;
          left_touched = st.left_touched;
          rest_touched = rw (← all) (touched_over h.touched a.xs (flat rs) a.rest a.left_touched a.rest_touched);
          few = subst (λ n. n ≤ 2 ^ 63) (sym a.kept.size) st.few;
        };
        are = record { from = f.0; count = f.1 };
      },
      a.kept,
    )

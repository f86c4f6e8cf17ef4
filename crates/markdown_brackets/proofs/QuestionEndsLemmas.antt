-- A chain asks at most as many questions as it has `]`, and no two end together: a `]` that ends the label of an
-- earlier one asks about no label itself, and no two labels that follow a `]` end at the same byte offset.
use Rattle.std.proofs.Common.{◌≡◌, ◌⊎◌, inl, inr, ⊎_elim, ℕ, ◌+◌, ◌-◌, ◌<◌, ◌≤◌, Bool, true, false, not, ◌&&◌, ◌==◌}
use Rattle.std.proofs.Common.{List, [], ◌∷◌, ◌++◌, length, map, Option, cond, refl, sym, ap, subst, ◌∙◌, arith}
use Rattle.std.proofs.Common.{append-nil, drop, get_or, take, nat_eq, length-append, length-drop, length-take, suc}
use Rattle.std.specs.Prelude.{IfSome, slice_range}
use Rattle.std.specs.List.{AllByRecursion, IsDistinct, list_any}
use Rattle.std.proofs.lemmas.Bool.Decides.{nat_tests}
use Rattle.std.proofs.lemmas.Cmp.{nat_eq_equiv}
use Rattle.std.proofs.lemmas.List.{map-append, get_or-drop, get_or-take}
use Rattle.std.proofs.lemmas.List.Sums.{sum_by-cons}
use Rattle.std.proofs.lemmas.Map.Keys.{IsDistinct-push}
use Rattle.markdown_base.specs.Forest.{Forest, nil, node, first_root, roots}
use Rattle.markdown_base.specs.Questions.{Question}
use Rattle.markdown_base.specs.WellFormed.{StandsOverMarkup}
use Rattle.markdown_base.specs.declared.item.ItemBody.{ItemBody}
use Rattle.markdown_base.specs.declared.item.ItemBody.TheVariants as body
use Rattle.markdown_base.proofs.ForestLemmas.{All-weaker}
use Rattle.markdown_base.proofs.ArenaLemmas.{All-snoc}
use Rattle.markdown_document.specs.ChainRest.{begun_at, cut_shape, end_of, open_body, start_of}
use Rattle.markdown_document.specs.Document.{Shape, plain, TreeNode}
use Rattle.markdown_document.specs.Setting.{ReferenceState}
use Rattle.markdown_brackets.specs.BracketDecision.{BracketContext, Closing, Progress, block_text, lines}
use Rattle.markdown_brackets.specs.ClosingBracket.{closed}
use Rattle.markdown_brackets.specs.QuestionEnds.{AsksNothing, HoldsNoOpener, StandInLine, StandsInLine}
use Rattle.markdown_brackets.specs.QuestionsAsked.{AsksAtMost, EndApart, closers_among, closes_bracket}
use Rattle.markdown_brackets.specs.ReadChain.{Reader, among, begun, closing_of, read_chain}
use Rattle.markdown_brackets.specs.Reference.{is_closing_bracket}
use Rattle.markdown_brackets.proofs.AsksAboutLemmas.{Asks, AsksFull, AsksNone, AsksOwn, AtMostOneTo, Told, closed_told}
use Rattle.markdown_brackets.proofs.AsksAboutLemmas.{full_label, told_by}
use Rattle.markdown_brackets.proofs.LabelPairLemmas.{IsLabelFrom, first_byte, labels_apart}
use Rattle.markdown_brackets.proofs.ReadChainLemmas.{Reads, chain_keeps}
use Rattle.std.proofs.lemmas.Bool.{or_right}

-- cutting leaves it open what an item opens or closes
pub cut_body : (n : ℕ) (shape : Shape) → open_body (cut_shape n shape) ≡ open_body shape
cut_body n plain = refl
cut_body n other = refl

-- ---- how many questions

-- at most n questions where `closers` more are still asked, and none at a limit of 0, which stays 0
record AtMost (n closers : ℕ) (s t : Told) : Type 0 where
  once : length t.asked + closers ≤ n
  silent : s.limit ≡ 0 → (t.limit ≡ 0) × (t.asked ≡ s.asked)

one_at_most : (end : ℕ) (more : List Question) → AtMostOneTo end more → length more ≤ 1
one_at_most end [] h = omega arith
one_at_most end (q ∷ []) h = omega arith
one_at_most end (q ∷ r ∷ more) h = absurd h

few_asked : {A : Type 0} (w : BracketContext) (c : Closing A) (s t : Told) (h : Asks w c s t) → length h.more ≤ 1
few_asked w c s t h = ⊎_elim
    (λ (k : AsksFull w c h.more s.spent t.spent). one_at_most k.end h.more k.most)
    (λ (k : AsksOwn w c h.more s.spent t.spent ⊎ AsksNone w c h.more s.spent t.spent). ⊎_elim
    (λ (k : AsksOwn w c h.more s.spent t.spent). one_at_most (end_of c.node) h.more k.most)
    (λ (k : AsksNone w c h.more s.spent t.spent). let none = ap length k.none in omega (arith, none)) k) h.way

closer_more : {A : Type 0} (w : BracketContext) (c : Closing A) (n closers : ℕ) (s t u : Told) → Asks w c t u
    → AtMost n (suc closers) s t → AtMost n closers s u
closer_more w c n closers s t u a h =
    let sum : length u.asked ≡ length t.asked + length a.more = ap length a.asked ∙ length-append t.asked a.more in
    record {
      once = omega (arith, few_asked w c t u a, sum, h.once);
      silent = λ z.
          let none = a.silent (h.silent z).0 in (
            none.0,
            a.asked ∙ ap (λ (more : List Question). t.asked ++ more) none.1 ∙ append-nil t.asked
                ∙ (h.silent z).1,
          );
    }

abbrev one_if : Bool → ℕ
one_if b = cond b 1 0

module _ {A : Type 0} (w : BracketContext) (others : Reader A) (nothing : AsksNothing others) where
  other_told : (a : TreeNode A) (below rest : Forest (TreeNode A)) (p : Progress A) → told_by (others a below rest p)
      ≡ told_by p
  other_told a below rest p = ap told_by (nothing a below rest p)

  closers_on : (a : TreeNode A) (rest : Forest (TreeNode A))
      → closers_among (a ∷ roots rest) ≡ one_if (closes_bracket a) + closers_among (roots rest)
  closers_on a rest = sum_by-cons (λ (a : TreeNode A). one_if (closes_bracket a)) a (roots rest)

  fewer : (n : ℕ) (s t : Told) (a : TreeNode A) (rest : Forest (TreeNode A)) → AtMost n (closers_among (a
      ∷ roots rest)) s t
      → AtMost n (closers_among (roots rest)) s t
  fewer n s t a rest h = record { once = omega (arith, closers_on a rest, h.once); silent = h.silent }

  more_reads : (n : ℕ) (s : Told)
      → Reads w others (λ chain q. AtMost n (closers_among (roots chain)) s (told_by q))
  more_reads n s = record {
    opens = λ i a below rest q h. fewer n s (told_by q) a rest h;
    closes = λ could a below rest q e h.
        let c : Closing A = closing_of could a rest q in
        let one : one_if (closes_bracket a) ≡ 1 = ap (λ (b : ItemBody). one_if (is_closing_bracket b)) e in
        closer_more w c n (closers_among (roots rest)) s (told_by q) (told_by (closed w c q)) (closed_told w c q)
        (record { once = omega (arith, closers_on a rest, one, h.once); silent = h.silent });
    other = λ a below rest q h. rw (other_told a below rest q) (fewer n s (told_by q) a rest h);
    passes = λ a below rest q h. fewer n s (told_by q) a rest h;
    cuts = λ i a below rest q h.
        let same : one_if (closes_bracket (begun_at i a)) ≡ one_if (closes_bracket a) =
        ap (λ (b : ItemBody). one_if (is_closing_bracket b)) (cut_body (i - start_of a) a.part.shape) in
        record {
          once = omega (arith, closers_on a rest, closers_on (begun_at i a) rest, same, h.once);
          silent = h.silent;
        };
  }

  few_more : (chain : Forest (TreeNode A)) (state : ReferenceState)
      → AtMost (closers_among (roots chain)) 0 (told_by (begun {A = A} state))
      (told_by (read_chain w others chain (begun state)))
  few_more chain state =
      let s : Told = told_by (begun {A = A} state) in
      let h = chain_keeps (more_reads (closers_among (roots chain)) s) chain (begun state)
      (record { once = omega arith; silent = λ z. (z, refl) }) in
      record { once = omega (arith, h.once); silent = h.silent }

  pub asks_at_most : (chain : Forest (TreeNode A)) (state : ReferenceState)
      → AsksAtMost (closers_among (roots chain)) state.limit (read_chain w others chain (begun state)).asked
  asks_at_most chain state =
      let h = few_more chain state in
      record { once = omega (arith, h.once); silent = λ z. (h.silent z).1 }

  -- a limit of 0 stays
  pub stays_zero : (chain : Forest (TreeNode A)) (state : ReferenceState) → state.limit ≡ 0
      → (read_chain w others chain (begun state)).state.limit ≡ 0
  stays_zero chain state z = ((few_more chain state).silent z).0

-- ---- where they end

-- a question that ends where none of them does
none_there : (end : ℕ) (questions : List Question) → AllByRecursion (λ q. (end ≡ q.span.end) → ⊥) questions
    → list_any (nat_eq end) (map (λ q. q.span.end) questions) ≡ false
none_there end [] h = refl
none_there end (q ∷ questions) h = rw (apart h.0, none_there end questions h.1) refl
  where
    apart : ((end ≡ q.span.end) → ⊥) → nat_eq end q.span.end ≡ false
    apart h = grind (arith, nat_tests, h)

apart_pushed : (questions : List Question) (q : Question) → EndApart questions
    → AllByRecursion (λ r. (q.span.end ≡ r.span.end) → ⊥) questions → EndApart (questions ++ q ∷ [])
apart_pushed questions q h k =
    subst (IsDistinct nat_eq) (sym (map-append (λ (q : Question). q.span.end) questions (q ∷ [])))
    (IsDistinct-push nat_eq_equiv (map (λ (q : Question). q.span.end) questions) q.span.end h
    (none_there q.span.end questions k))

-- a label that follows a `]` by a byte ends there, whose own `]` is used up
record IsUsedUp (w : BracketContext) (last : ℕ) (spent : List ℕ) (end : ℕ) : Type 0 where
  used : among end spent ≡ true
  from : ℕ
  after : from ≤ last
  label : IsLabelFrom (lines w) (block_text w) from end

-- each question ends at a byte offset or before, or with such a label
abbrev EndsBy : BracketContext → ℕ → List ℕ → Question → Type 0
EndsBy w last spent q = (q.span.end ≤ last) ⊎ IsUsedUp w last spent q.span.end

record IsToldTo (w : BracketContext) (last : ℕ) (t : Told) : Type 0 where
  apart : EndApart t.asked
  each : AllByRecursion (EndsBy w last t.spent) t.asked

ends_later : (w : BracketContext) (last later : ℕ) (spent spent' : List ℕ) (q : Question) → last ≤ later
    → (among q.span.end spent ≡ true → among q.span.end spent' ≡ true) → EndsBy w last spent q → EndsBy w later spent' q
ends_later w last later spent spent' q l more (inl k) = inl (omega (arith, k, l))
ends_later w last later spent spent' q l more (inr k) =
    inr (record { used = more k.used; from = k.from; after = omega (arith, k.after, l); label = k.label })

told_later : (w : BracketContext) (last later : ℕ) (t : Told) → last ≤ later → IsToldTo w last t → IsToldTo w later t
told_later w last later t l h = record {
  apart = h.apart;
  each = All-weaker (EndsBy w last t.spent) (EndsBy w later t.spent)
      (λ q k. ends_later w last later t.spent t.spent q l (λ u. u) k)
      t.asked h.each;
}

-- after the items up to one byte offset there is a `]` that ends at another
pub record ClosesUpTo (text : List ℕ) (last end : ℕ) : Type 0 where
  pub later : last < end
  pub byte : get_or text (end - 1) 0 ≡ 93

among_first : (n m : ℕ) (ms : List ℕ) → n ≡ m → among n (m ∷ ms) ≡ true
among_first n m ms e = grind (arith, nat_tests)

module _ {A : Type 0} (w : BracketContext) (none : HoldsNoOpener w.skipped) (c : Closing A) (last : ℕ)
    (at : ClosesUpTo w.setting.text last (end_of c.node)) where
  abbrev here : ℕ
  here = end_of c.node

  -- no earlier question ends where the label ends that follows
  full_apart : (spent : List ℕ) (end : ℕ) → IsLabelFrom (lines w) (block_text w) here end → (q : Question)
      → EndsBy w last spent q
      → (end ≡ q.span.end) → ⊥
  full_apart spent end label q (inl l) e = absurd (omega (arith, l, label.ends, at.later, e))
  full_apart spent end label q (inr k) e =
      let first = first_byte (lines w) (block_text w) here end label in
      let size = length-take w.above.block_end w.setting.text in
      let within : here < w.above.block_end = omega (arith, first.0, size) in
      let byte = get_or-take w.above.block_end w.setting.text (here - 1) 0 (omega (arith, within)) ∙ at.byte in
      let earlier = subst (IsLabelFrom (lines w) (block_text w) k.from) (sym e) k.label in
      labels_apart w.skipped none (block_text w) k.from here end earlier label (omega (arith, k.after, at.later)) byte

  -- nor where the `]` ends, where that is not used up
  own_apart : (spent : List ℕ) → among here spent ≡ false → (q : Question) → EndsBy w last spent q → (here ≡ q.span.end)
      → ⊥
  own_apart spent unused q (inl l) e = absurd (omega (arith, l, at.later, e))
  own_apart spent unused q (inr k) e = let used : among here spent ≡ true = rw e k.used in absurd (cc (used, unused))

  abbrev ToldWith : List Question → List ℕ → ℕ → Type 0
  ToldWith asked spent limit = IsToldTo w here (record { asked = asked; spent = spent; limit = limit })

  -- one question more at most, which ends elsewhere
  pushed : (asked : List Question) (spent : List ℕ) (limit end : ℕ) (more : List Question) → AtMostOneTo end more
      → EndApart asked
      → AllByRecursion (EndsBy w here spent) asked → AllByRecursion (λ r. (end ≡ r.span.end) → ⊥) asked
      → ((q : Question) → q.span.end ≡ end → EndsBy w here spent q) → ToldWith (asked ++ more) spent limit
  pushed asked spent limit end [] most apart each elsewhere new =
      subst (λ (asked : List Question). ToldWith asked spent limit) (sym (append-nil asked))
      (record { apart = apart; each = each })
  pushed asked spent limit end (q ∷ []) most apart each elsewhere new =
      let other = All-weaker (λ r. (end ≡ r.span.end) → ⊥) (λ r. (q.span.end ≡ r.span.end) → ⊥)
      (λ r h e. h (sym most ∙ e)) asked elsewhere in
      record {
        apart = apart_pushed asked q apart other;
        each = All-snoc (EndsBy w here spent) asked q each
            (new q most);
      }
  pushed asked spent limit end (q ∷ r ∷ more) most apart each elsewhere new = absurd most

  module _ (s t : Told) (so : IsToldTo w last s) where
    abbrev later : IsToldTo w here s
    later = told_later w last here s (omega (arith, at.later)) so

    -- about the label that follows
    full_told : (more : List Question) → AsksFull w c more s.spent t.spent → ToldWith (s.asked ++ more) t.spent t.limit
    full_told more k =
        let label = full_label w c k.label k.end k.form in
        rw k.spends (pushed s.asked (k.end ∷ s.spent) t.limit k.end more k.most so.apart
        (All-weaker _ _ (λ q. ends_later w here here s.spent (k.end ∷ s.spent) q (omega arith)
        (or_right (q.span.end == k.end) (among q.span.end s.spent))) s.asked later.each)
        (All-weaker _ _ (full_apart s.spent k.end label) s.asked so.each)
        (λ q e. inr (record {
          used = among_first q.span.end k.end s.spent e;
          from = here;
          after = omega arith;
          label = rw e label;
        })))

    -- about the label that the `]` ends
    own_told : (c.could_be_reference ≡ true → among here s.spent ≡ false) → (more : List Question)
        → AsksOwn w c more s.spent t.spent
        → ToldWith (s.asked ++ more) t.spent t.limit
    own_told unused more k =
        rw k.keeps (pushed s.asked s.spent t.limit here more k.most so.apart later.each
        (All-weaker _ _ (own_apart s.spent (unused k.could)) s.asked so.each) (λ q e. inl (omega (arith, e))))

    -- about none
    none_told : (more : List Question) → AsksNone w c more s.spent t.spent → ToldWith (s.asked ++ more) t.spent t.limit
    none_told more k = rw (k.keeps, k.none, append-nil) (record { apart = later.apart; each = later.each })

    closer_told : (c.could_be_reference ≡ true → among here s.spent ≡ false) → Asks w c s t → IsToldTo w here t
    closer_told unused h =
        rw h.asked (⊎_elim (full_told h.more) (⊎_elim (own_told unused h.more) (none_told h.more)) h.way)

-- the source of a `]` is one byte
one_byte : (text : List ℕ) (start end : ℕ) → end ≤ length text → slice_range text start end ≡ 93 ∷ []
    → (start < end) × (get_or text (end - 1) 0 ≡ 93)
one_byte text start end within bytes =
    let size : length (slice_range text start end) ≡ 1 = ap length bytes in
    let sizes = length-take (end - start) (drop start text) in
    let left = length-drop start text in
    let long : end ≡ start + 1 = omega (arith, size, sizes, left, within) in
    let first : get_or (take (end - start) (drop start text)) 0 0 ≡ 93 = ap (λ (xs : List ℕ). get_or xs 0 0) bytes in
    let place : end - 1 ≡ start + 0 = omega (arith, long) in (
      omega (arith, long),
      ap (λ (i : ℕ). get_or text i 0) place ∙ sym (get_or-drop start text 0 0)
          ∙ sym (get_or-take (end - start) (drop start text) 0 0 (omega (arith, long))) ∙ first,
    )

-- of an item that is a `]`, up to a byte
abbrev IfCloses : List ℕ → ℕ → ItemBody → ℕ → Type 0
IfCloses text last (body.MaybeLinkClose could) end = ClosesUpTo text last end
IfCloses text last other end = Unit {0}

if_closes : {A : Type 0} (text : List ℕ) (last : ℕ) (b : ItemBody) (a : TreeNode A) (next : Option (TreeNode A))
    → StandsInLine text a next
    → open_body a.part.shape ≡ b → last ≤ start_of a
    → IfCloses text last b (end_of a)
if_closes text last (body.MaybeLinkClose could) a next h is l =
    let over = subst (StandsOverMarkup (slice_range text (start_of a) (end_of a))) is h.markup_is_there in
    let r = one_byte text (start_of a) (end_of a) h.lies.end.0 over in
    record { later = omega (arith, r.0, l); byte = r.1 }
if_closes text last other a next h is l = tt

-- of each `]` of a chain
abbrev CloseInLine : {A : Type 0} → List ℕ → ℕ → Forest (TreeNode A) → Type 0
CloseInLine text last nil = Unit {0}
CloseInLine text last (node a below rest) =
    (last ≤ end_of a) × IfCloses text last (open_body a.part.shape) (end_of a) × CloseInLine text (end_of a) rest

in_line : {A : Type 0} (text : List ℕ) (last : ℕ) (chain : Forest (TreeNode A)) → StandInLine text chain
    → IfSome (first_root chain) (λ a. last ≤ start_of a) → CloseInLine text last chain
in_line text last nil stand l = tt
in_line text last (node a below rest) stand l =
    let ordered : start_of a ≤ end_of a = stand.0.lies.ordered in (
      omega (arith, l, ordered),
      if_closes text last (open_body a.part.shape) a (first_root rest) stand.0 refl l,
      in_line text (end_of a) rest stand.1 stand.0.in_order,
    )

unused_then : (could used : Bool) → (could && not used) ≡ true → used ≡ false
unused_then true true h = cc h
unused_then false true h = cc h
unused_then could false h = refl

module _ {A : Type 0} (w : BracketContext) (others : Reader A) (nothing : AsksNothing others)
    (none : HoldsNoOpener w.skipped)
  where
    abbrev IsToldBefore : Forest (TreeNode A) → Told → Type 0
    IsToldBefore chain t = (last : ℕ) × CloseInLine w.setting.text last chain × IsToldTo w last t

    past_told : (a : TreeNode A) (below rest : Forest (TreeNode A)) (t : Told) → IsToldBefore (node a below rest) t
        → IsToldBefore rest t
    past_told a below rest t h = (end_of a, h.1.2, told_later w h.0 (end_of a) t h.1.0 h.2)

    told_reads : Reads w others (λ chain p. IsToldBefore chain (told_by p))
    told_reads = record {
      opens = λ i a below rest p h. past_told a below rest (told_by p) h;
      closes = λ could a below rest p e h.
          let c : Closing A = closing_of could a rest p in
          let at : ClosesUpTo w.setting.text h.0 (end_of a) = rw e at h.1.1 in (
            end_of a,
            h.1.2,
            closer_told w none c h.0 at (told_by p) (told_by (closed w c p)) h.2
                (unused_then could (among (end_of a) p.spent)) (closed_told w c p),
          );
      other = λ a below rest p h.
          rw (other_told w others nothing a below rest p) (past_told a below rest (told_by p) h);
      passes = λ a below rest p h. past_told a below rest (told_by p) h;
      cuts = λ i a below rest p h. (h.0, (h.1.0, rw (cut_body (i - start_of a) a.part.shape) h.1.1, h.1.2), h.2);
    }

    pub end_apart : (chain : Forest (TreeNode A)) (state : ReferenceState) → StandInLine w.setting.text chain
        → EndApart (read_chain w others chain (begun state)).asked
    unfolding IsDistinct
    end_apart chain state stand = (chain_keeps told_reads chain (begun state)
        (0, in_line w.setting.text 0 chain stand (from_start chain), record { apart = tt; each = tt })).2.apart
      where
        from_start : (chain : Forest (TreeNode A)) → IfSome (first_root chain) (λ a. 0 ≤ start_of a)
        from_start nil = tt
        from_start (node a below rest) = omega arith

-- The numbers of a chain's nodes in the order in which its trees end, where Texts and pairs of delimiters have none:
-- pairing at most drops some.
use Rattle.std.proofs.Common.{◌≡◌, ℕ, zero, suc, Bool, true, false, List, [], ◌∷◌, ◌++◌, map, refl, sym, subst, ap, ◌∙◌}
use Rattle.std.specs.Prelude.{⊤, IfSome, not, ◌&&◌, encode_utf8, slice_range}
use Rattle.std.proofs.lemmas.Option.{IfSome_then}
use Rattle.markdown_base.specs.Event.{EventView, TagView, link, image, text}
use Rattle.markdown_base.specs.Forest.{Forest, nil, node}
use Rattle.markdown_document.specs.ChainRest.{end_of, start_of}
use Rattle.markdown_document.specs.Document.{Origin, inlined, sliced, Shape, leaf, enclosed, TreeNode, as_text}
use Rattle.markdown_document.specs.Document.{is_unresolved, text_over}
use Rattle.markdown_document.specs.Setting.{Setting}
use Rattle.markdown_document.specs.Waiting.{as_closed, text_if}
use Rattle.markdown_delims.specs.Layers.{enclosed_if, layer_of_one, layer_of_two, extensions_of, spanned}
use Rattle.markdown_delims.specs.MayPair.{may_pair}
use Rattle.markdown_delims.specs.Pairing.{FoundOpener, Layers, Read, after_layers, characters_done, done_read}
use Rattle.markdown_delims.specs.Pairing.{drop_read, first_texts, last_first, layers, left_over, nearest_opener}
use Rattle.markdown_delims.specs.Pairing.{opened_if, paired, read_trees, reads_from, runs_paired, still_waiting}
use Rattle.markdown_delims.specs.Pairing.{texts_before, trees_done, waiting}
use Rattle.markdown_delims.specs.Quotes.{first_turn, is_closed_later, is_end, kind_of_shape, quotes_after, with_quotes}
use Rattle.markdown_delims.specs.declared.extensions.Extensions.{Extensions}
use Rattle.markdown_delims.specs.declared.run.Delimiter.{Delimiter}
use Rattle.markdown_delims.specs.declared.run.Delimiter.TheVariants.{Star, Underscore, Tilde, Caret}
use Rattle.markdown_delims.specs.declared.run.Run.{Run}
use Rattle.markdown_delims.proofs.LayerLawLemmas.{turn-made}
use Rattle.markdown_delims.proofs.StepLawLemmas.{StaysTrue, found-if, later, reads-stay}
use Rattle.markdown_resolver.specs.Resolved.{all_paired, paired_from, paired_if_open}
use Rattle.markdown_inline.specs.ResolvedShapes.{IsMadeEvent, IsPairedTag}
use Rattle.markdown_inline.proofs.EndOrderLemmas.{IsWithin, drop_list, ends_drop, ends_mono, ends_onto, keep_list}
use Rattle.markdown_inline.proofs.EndOrderLemmas.{within_same, within_trans}

-- a tag of no link and of no image
abbrev pub IsNoBracket : TagView → Type 0
IsNoBracket (link v) = ⊥
IsNoBracket (image v) = ⊥
IsNoBracket other = ⊤

-- what is made of open items has no numbers, except links and images
pub record NumbersNoMarks (own : Shape → List ℕ) : Type 0 where
  pub lone : (e : EventView) (origins : List Origin) → IsMadeEvent e → own (leaf e origins) ≡ []
  pub mark : (tag : TagView) → IsPairedTag tag → own (enclosed tag []) ≡ []

-- a mark is neither a link nor an image
pub mark_bracket : (tag : TagView) → IsPairedTag tag → IsNoBracket tag
mark_bracket (link v) h = absurd h
mark_bracket (image v) h = absurd h
mark_bracket other h = tt

module _ (own : Shape → List ℕ) (numbers : NumbersNoMarks own) where
  -- what pairs make has no numbers
  enclosed_none : (b : Bool) (tag : TagView) (other : Shape) → IsPairedTag tag → own other ≡ []
      → own (enclosed_if b tag other) ≡ []
  enclosed_none true tag other h e = numbers.mark tag h
  enclosed_none false tag other h e = e

  -- a Text has no numbers
  pub text_none : (source : List ℕ) → own (text_over source) ≡ []
  text_none source = numbers.lone (text source) (sliced ∷ []) tt

  -- a layer has no numbers
  two_none : (m : Extensions) (d : Delimiter) (source : List ℕ) → own (layer_of_two m d source) ≡ []
  two_none m Star source = numbers.mark _ tt
  two_none m Underscore source = numbers.mark _ tt
  two_none m Tilde source = enclosed_none m.strikethrough _ (text_over source) tt (text_none source)
  two_none m Caret source = enclosed_none m.superscript _ (text_over source) tt (text_none source)

  one_none : (m : Extensions) (d : Delimiter) (source : List ℕ) → own (layer_of_one m d source) ≡ []
  one_none m Star source = numbers.mark _ tt
  one_none m Underscore source = numbers.mark _ tt
  one_none m Tilde source = enclosed_none m.subscript _ _ tt
      (enclosed_none m.strikethrough _ (text_over source) tt (text_none source))
  one_none m Caret source = enclosed_none m.superscript _ (text_over source) tt (text_none source)

  -- a shape without numbers in the place of another
  in_place : (shape other : Shape) (ns ms : List ℕ) → own shape ≡ [] → IsWithin ns ms
      → IsWithin (own shape ++ ns) (own other ++ ms)
  in_place shape other ns ms e w = subst (λ (xs : List ℕ). IsWithin (xs ++ ns) (own other ++ ms)) (sym e)
      (drop_list (own other) ns ms w)

  module _ {A : Type 0} where
    abbrev ends : Forest (TreeNode A) → List ℕ → List ℕ
    ends f rest = ends_onto own f rest

    abbrev of : TreeNode A → List ℕ
    of a = own a.part.shape

    -- of characters, the first one first or the last one first, and of what was read, the nearest first
    abbrev forward : List (TreeNode A) → List ℕ → List ℕ
    forward [] rest = rest
    forward (x ∷ xs) rest = of x ++ forward xs rest

    abbrev backward : List (TreeNode A) → List ℕ → List ℕ
    backward [] rest = rest
    backward (x ∷ xs) rest = backward xs (of x ++ rest)

    abbrev ends_read : List (Read A) → List ℕ → List ℕ
    ends_read [] rest = rest
    ends_read (done_read a below ∷ rs) rest = ends_read rs (ends below (of a ++ rest))
    ends_read (waiting dropped run xs ∷ rs) rest = ends_read rs (backward xs rest)

    -- where a list is within another, so it is with these numbers before both
    mono_backward : (xs : List (TreeNode A)) (ns ms : List ℕ) → IsWithin ns ms → IsWithin (backward xs ns)
        (backward xs ms)
    mono_backward [] ns ms w = w
    mono_backward (x ∷ xs) ns ms w = mono_backward xs (of x ++ ns) (of x ++ ms) (keep_list (of x) ns ms w)

    mono_read : (rs : List (Read A)) (ns ms : List ℕ) → IsWithin ns ms → IsWithin (ends_read rs ns) (ends_read rs ms)
    mono_read [] ns ms w = w
    mono_read (done_read a below ∷ rs) ns ms w = mono_read rs (ends below (of a ++ ns)) (ends below (of a ++ ms))
        (ends_mono own below (of a ++ ns) (of a ++ ms) (keep_list (of a) ns ms w))
    mono_read (waiting dropped run xs ∷ rs) ns ms w = mono_read rs (backward xs ns) (backward xs ms)
        (mono_backward xs ns ms w)

    mono_forward : (xs : List (TreeNode A)) (ns ms : List ℕ) → IsWithin ns ms → IsWithin (forward xs ns) (forward xs ms)
    mono_forward [] ns ms w = w
    mono_forward (x ∷ xs) ns ms w = keep_list (of x) (forward xs ns) (forward xs ms) (mono_forward xs ns ms w)

    -- the numbers before a chain in which things were read
    ends_texts : (xs : List (TreeNode A)) (chain : Forest (TreeNode A)) (t : List ℕ) → ends (texts_before xs chain) t
        ≡ backward xs (ends chain t)
    ends_texts [] chain t = refl
    ends_texts (x ∷ xs) chain t = ends_texts xs (node x nil chain) t

    ends_trees : (rs : List (Read A)) (after : Forest (TreeNode A)) (t : List ℕ) → ends (read_trees rs after) t
        ≡ ends_read rs (ends after t)
    ends_trees [] after t = refl
    ends_trees (done_read a below ∷ rs) after t = ends_trees rs (node a below after) t
    ends_trees (waiting dropped run xs ∷ rs) after t = ends_trees rs (texts_before xs after) t
        ∙ ap (λ (l : List ℕ). ends_read rs l) (ends_texts xs after t)

    ends_done : (xs : List (TreeNode A)) (rs : List (Read A)) (t : List ℕ) → ends_read (characters_done xs rs) t
        ≡ ends_read rs (backward xs t)
    ends_done [] rs t = refl
    ends_done (x ∷ xs) rs t = ends_done xs rs (of x ++ t)

    -- an opener that was found
    abbrev Splits : (List ℕ → List ℕ) → FoundOpener A → Type 0
    Splits whole f = (t : List ℕ) → ends_read f.before (backward f.characters (ends f.inside t)) ≡ whole t

    ends_nearest : (closer : Run) (rs : List (Read A)) (inside : Forest (TreeNode A)) (whole : List ℕ → List ℕ)
        → ((t : List ℕ) → ends_read rs (ends inside t) ≡ whole t) → IfSome (nearest_opener closer rs inside)
        (Splits whole)
    ends_nearest closer [] inside whole e = tt
    ends_nearest closer (done_read a below ∷ rs) inside whole e = ends_nearest closer rs (node a below inside) whole e
    ends_nearest closer (waiting dropped run xs ∷ rs) inside whole e =
        found-if (Splits whole) (not dropped && may_pair run closer)
        (record { inside = inside; run = run; characters = xs; before = rs })
        (nearest_opener closer rs (texts_before xs inside)) e
        (ends_nearest closer rs (texts_before xs inside) whole
        (λ t. ap (λ (l : List ℕ). ends_read rs l) (ends_texts xs inside t) ∙ e t))

    -- numbers do not depend on whether a run is dropped
    ends_dropped : (d : Delimiter) (rs : List (Read A)) (t : List ℕ) → ends_read (map (drop_read d) rs) t
        ≡ ends_read rs t
    ends_dropped d [] t = refl
    ends_dropped d (done_read a below ∷ rs) t = ends_dropped d rs (ends below (of a ++ t))
    ends_dropped d (waiting dropped run xs ∷ rs) t = ends_dropped d rs (backward xs t)

    -- a layer round a chain
    one_layer : (s : Setting) (shape : Shape) (x v : TreeNode A) (inside : Forest (TreeNode A)) (ns ms : List ℕ)
        → own shape
        ≡ [] → IsWithin ns ms
        → IsWithin (ends inside (own shape ++ ns)) (of x ++ ends inside (of v ++ ms))
    one_layer s shape x v inside ns ms e w =
        drop_list (of x) (ends inside (own shape ++ ns)) (ends inside (of v ++ ms))
        (ends_mono own inside (own shape ++ ns) (of v ++ ms)
        (in_place shape v.part.shape ns ms e w))

    abbrev LayersWithin : List ℕ → List ℕ → Layers A → Type 0
    LayersWithin t whole l = IsWithin (backward l.opening (ends l.whole (forward l.closing t))) whole

    -- layers drop the numbers of the characters that they are made of
    ends_layers : (s : Setting) (d : Delimiter) (xs vs : List (TreeNode A)) (inside : Forest (TreeNode A)) (t : List ℕ)
        → LayersWithin t (backward xs (ends inside (forward vs t))) (layers s d xs vs inside)
    ends_layers s d [] vs inside t = within_same (ends inside (forward vs t))
    ends_layers s d (x ∷ xs) [] inside t = within_same (backward (x ∷ xs) (ends inside t))
    ends_layers s d (x ∷ []) (v ∷ vs) inside t =
        let e = one_none (extensions_of s.rules.syntax) d (slice_range s.text x.part.range.start v.part.range.end) in
        one_layer s (spanned s.text (layer_of_one (extensions_of s.rules.syntax) d) x v).part.shape x v inside
        (forward vs t) (forward vs t) e
        (within_same (forward vs t))
    ends_layers s d (x ∷ y ∷ xs) (v ∷ []) inside t =
        let e = one_none (extensions_of s.rules.syntax) d (slice_range s.text x.part.range.start v.part.range.end) in
        let shape : Shape = (spanned s.text (layer_of_one (extensions_of s.rules.syntax) d) x v).part.shape in
        mono_backward (y ∷ xs) (ends inside (own shape ++ t)) (of x ++ ends inside (of v ++ t))
        (one_layer s shape x v inside t t e (within_same t))
    ends_layers s d (x ∷ y ∷ xs) (v ∷ w ∷ vs) inside t =
        let e = two_none (extensions_of s.rules.syntax) d (slice_range s.text y.part.range.start w.part.range.end) in
        let layer : TreeNode A = spanned s.text (layer_of_two (extensions_of s.rules.syntax) d) y w in
        let u : List ℕ = forward vs t in
        within_trans _ (backward xs (ends inside (of layer ++ u))) _ (ends_layers s d xs vs (node layer inside nil) t)
        (mono_backward xs (ends inside (of layer ++ u)) (of y ++ (of x ++ ends inside (of v ++ (of w ++ u))))
        (drop_list (of y) (ends inside (of layer ++ u)) (of x ++ ends inside (of v ++ (of w ++ u)))
        (one_layer s layer.part.shape x v inside u (of w ++ u) e (drop_list (of w) u u (within_same u)))))

    -- trees that are done, and characters that stay open or are left over
    ends_trees_done : (f : Forest (TreeNode A)) (rs : List (Read A)) (t : List ℕ) → ends_read (trees_done f rs) t
        ≡ ends_read rs (ends f t)
    ends_trees_done nil rs t = refl
    ends_trees_done (node a below after) rs t = ends_trees_done after (done_read a below ∷ rs) t

    ends_still : (run : Run) (xs : List (TreeNode A)) (rs : List (Read A)) (t : List ℕ)
        → ends_read (still_waiting run xs rs) t
        ≡ ends_read rs (backward xs t)
    ends_still run [] rs t = refl
    ends_still run (x ∷ xs) rs t = refl

    ends_turned : (xs ys : List (TreeNode A)) (t : List ℕ) → backward (last_first xs ys) t ≡ backward ys (forward xs t)
    ends_turned [] ys t = refl
    ends_turned (x ∷ xs) ys t = ends_turned xs (x ∷ ys) t

    ends_opened : (b : Bool) (run : Run) (xs : List (TreeNode A)) (rs : List (Read A)) (t : List ℕ)
        → ends_read (opened_if b run xs rs) t
        ≡ ends_read rs (backward xs t)
    ends_opened true run xs rs t = refl
    ends_opened false run xs rs t = ends_done xs rs t

    ends_left : (run : Run) (vs : List (TreeNode A)) (rs : List (Read A)) (t : List ℕ) → ends_read
        (left_over run vs rs) t
        ≡ ends_read rs (forward vs t)
    ends_left run vs rs t = ends_opened run.can_open run (last_first vs []) rs t
        ∙ ap (λ (l : List ℕ). ends_read rs l) (ends_turned vs [] t)

    -- the first characters of a chain as Texts, and what follows them
    ends_firsts : (s : Setting) (n : ℕ) (chain : Forest (TreeNode A)) (t : List ℕ)
        → IsWithin (forward (first_texts s.text n chain) (ends (later n chain) t)) (ends chain t)
    ends_firsts s zero chain t = within_same (ends chain t)
    ends_firsts s (suc n) nil t = within_same t
    ends_firsts s (suc n) (node a below after) t =
        let rest : List ℕ = forward (first_texts s.text n after) (ends (later n after) t) in
        ends_drop own below (of (as_text s.text a) ++ rest) (of a ++ ends after t)
        (in_place (as_text s.text a).part.shape a.part.shape rest (ends after t)
        (text_none (slice_range s.text (start_of a) (end_of a)))
        (ends_firsts s n after t))

    -- what is open has no number as a Text
    of_closed : (source : List ℕ) (b : Bool) (a : TreeNode A) (ns ms : List ℕ) → IsWithin ns ms
        → IsWithin (of (text_if b source a) ++ ns) (of a ++ ms)
    of_closed source true a ns ms w = in_place (as_text source a).part.shape a.part.shape ns ms
        (text_none (slice_range source (start_of a) (end_of a))) w
    of_closed source false a ns ms w = keep_list (of a) ns ms w

    -- a closer's characters, what was read and what is still to be read
    abbrev Within : Forest (TreeNode A) → List (TreeNode A) → List (Read A) → Forest (TreeNode A) → Type 0
    Within whole vs rs rest = (t : List ℕ) → IsWithin (ends_read rs (forward vs (ends rest t))) (ends whole t)

    -- a pair at most drops some numbers, and so does each step of the reading
    pair_within : (s : Setting) (vs : List (TreeNode A)) (rs : List (Read A)) (rest : Forest (TreeNode A))
        (f : FoundOpener A) (t : List ℕ) → Splits (ends_read rs) f
        → IsWithin (ends_read (after_layers f (layers s f.run.delimiter f.characters vs f.inside))
        (forward (layers s f.run.delimiter f.characters vs f.inside).closing (ends rest t)))
        (ends_read rs (forward vs (ends rest t)))
    pair_within s vs rs rest f t splits =
        let l : Layers A = layers s f.run.delimiter f.characters vs f.inside in
        let u : List ℕ = ends rest t in
        let e : ends_read (after_layers f l) (forward l.closing u)
        ≡ ends_read f.before (backward l.opening (ends l.whole (forward l.closing u))) =
        ends_trees_done l.whole (still_waiting f.run l.opening f.before) (forward l.closing u)
        ∙ ends_still f.run l.opening f.before (ends l.whole (forward l.closing u)) in
        subst (λ (xs : List ℕ). IsWithin xs (ends_read rs (forward vs u))) (sym e)
        (subst (λ (xs : List ℕ). IsWithin (ends_read f.before (backward l.opening (ends l.whole (forward l.closing u))))
        xs)
        (splits (forward vs u))
        (mono_read f.before (backward l.opening (ends l.whole (forward l.closing u)))
        (backward f.characters (ends f.inside (forward vs u)))
        (ends_layers s f.run.delimiter f.characters vs f.inside u)))

    within_on : (s : Setting) (whole : Forest (TreeNode A)) → StaysTrue s (Within whole)
    within_on s whole = record {
      tree = λ a below after rs h t.
          within_trans (ends_read rs (ends below (of (as_closed s.text a) ++ ends after t)))
          (ends_read rs (ends below (of a ++ ends after t))) (ends whole t)
          (mono_read rs (ends below (of (as_closed s.text a) ++ ends after t)) (ends below (of a ++ ends after t))
          (ends_mono own below (of (as_closed s.text a) ++ ends after t) (of a ++ ends after t)
          (of_closed s.text (is_unresolved a.part.shape) a (ends after t) (ends after t) (within_same (ends after t)))))
          (h t);
      skip = λ a below after rs h t.
          within_trans (ends_read rs (ends after t)) (ends_read rs (ends below (of a ++ ends after t))) (ends whole t)
          (mono_read rs (ends after t) (ends below (of a ++ ends after t))
          (ends_drop own below (ends after t) (of a ++ ends after t)
          (drop_list (of a) (ends after t) (ends after t) (within_same (ends after t)))))
          (h t);
      texts = λ n chain rs h t.
          within_trans (ends_read rs (forward (first_texts s.text n chain) (ends (later n chain) t)))
          (ends_read rs (ends chain t))
          (ends whole t)
          (mono_read rs (forward (first_texts s.text n chain) (ends (later n chain) t)) (ends chain t)
          (ends_firsts s n chain t)) (h t);
      dropped = λ d vs rs rest h t.
          subst (λ (xs : List ℕ). IsWithin xs (ends whole t)) (sym (ends_dropped d rs (forward vs (ends rest t))))
          (h t);
      left = λ closer vs rs rest h t.
          subst (λ (xs : List ℕ). IsWithin xs (ends whole t)) (sym (ends_left closer vs rs (ends rest t))) (h t);
      found = λ closer vs rs rest h.
          IfSome_then (nearest_opener closer rs nil) (ends_nearest closer rs nil (ends_read rs) (λ t. refl))
          (λ f splits t. within_trans _ (ends_read rs (forward vs (ends rest t))) _
          (pair_within s vs rs rest f t splits) (h t));
    }

    -- pairing quotation marks at most drops some numbers
    quoted_within : (single double : Bool) (chain : Forest (TreeNode A)) (t : List ℕ)
        → IsWithin (ends (quotes_after single double chain) t) (ends chain t)
    quoted_within single double nil t = within_same t
    quoted_within single double (node a below after) t =
        let rest : List ℕ = ends
        (quotes_after (first_turn a after single double).single (first_turn a after single double).double after) t
        in
        let shape : Shape = (first_turn a after single double).made in
        let turned : (ns ms : List ℕ) → IsWithin ns ms → IsWithin (own shape ++ ns) (of a ++ ms) =
        turn-made (λ (x : Shape). (ns ms : List ℕ) → IsWithin ns ms → IsWithin (own x ++ ns) (of a ++ ms))
        (λ c ns ms w. in_place (leaf (text (encode_utf8 c)) (inlined ∷ [])) a.part.shape ns ms
        (numbers.lone (text (encode_utf8 c)) (inlined ∷ []) tt) w)
        (kind_of_shape a.part.shape) a.part.shape single double (is_closed_later after) (is_end after)
        (λ ns ms w. keep_list (of a) ns ms w)
        in
        ends_mono own below (own shape ++ rest) (of a ++ ends after t)
        (turned rest (ends after t)
        (quoted_within (first_turn a after single double).single (first_turn a after single double).double after
        t))

    -- so does pairing a chain, and its chains of children
    pub paired_within : (s : Setting) (chain : Forest (TreeNode A)) (t : List ℕ)
        → IsWithin (ends (paired s chain) t) (ends chain t)
    unfolding paired runs_paired with_quotes
    paired_within s chain t =
        let quoted : Forest (TreeNode A) = quotes_after false false chain in
        within_trans (ends (paired s chain) t) (ends quoted t) (ends chain t)
        (subst (λ (xs : List ℕ). IsWithin xs (ends quoted t)) (sym (ends_trees (reads_from s 0 quoted []) nil t))
        (reads-stay s (Within quoted) (within_on s quoted) 0 quoted [] (λ t. within_same (ends quoted t)) t))
        (quoted_within false false chain t)

    from_within : (s : Setting) (is_open : Bool) (a : TreeNode A) (below after rest : Forest (TreeNode A)) (t : List ℕ)
        → IsWithin (ends rest t) (ends after t) → IsWithin (ends (paired_from s is_open a below after rest) t)
        (ends (node a below after) t)
    from_within s true a below after rest t w = paired_within s (node a below after) t
    from_within s false a below after rest t w = ends_mono own below (of a ++ ends rest t) (of a ++ ends after t)
        (keep_list (of a) (ends rest t) (ends after t) w)

    if_open_within : (s : Setting) (f : Forest (TreeNode A)) (t : List ℕ)
        → IsWithin (ends (paired_if_open s f) t) (ends f t)
    if_open_within s nil t = within_same t
    if_open_within s (node a below after) t = from_within s (is_unresolved a.part.shape) a below after
        (paired_if_open s after) t
        (if_open_within s after t)

    pub all_within : (s : Setting) (f : Forest (TreeNode A)) (t : List ℕ) → IsWithin (ends (all_paired s f) t)
        (ends f t)
    all_within s nil t = within_same t
    all_within s (node a below after) t =
        let rest : List ℕ = of a ++ ends (all_paired s after) t in
        within_trans (ends (paired_if_open s (all_paired s below)) rest) (ends (all_paired s below) rest)
        (ends below (of a ++ ends after t)) (if_open_within s (all_paired s below) rest)
        (within_trans (ends (all_paired s below) rest) (ends below rest) (ends below (of a ++ ends after t))
        (all_within s below rest)
        (ends_mono own below rest (of a ++ ends after t) (keep_list (of a) (ends (all_paired s after) t) (ends after t)
        (all_within s after t))))

    -- what a chain of children is paired to has no more
    pub below_within : (s : Setting) (f : Forest (TreeNode A)) (t : List ℕ)
        → IsWithin (ends (paired_if_open s (all_paired s f)) t) (ends f t)
    below_within s f t = within_trans (ends (paired_if_open s (all_paired s f)) t) (ends (all_paired s f) t) (ends f t)
        (if_open_within s (all_paired s f) t) (all_within s f t)

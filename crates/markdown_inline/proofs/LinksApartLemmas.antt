-- Resolving a chain whose only links are autolinks puts no link into a link: pass one by the law of brackets, and
-- pairing since it makes no link and moves none into another.
use Rattle.std.proofs.Common.{◌≡◌, ℕ, Bool, true, false, List, [], ◌∷◌, ◌++◌, Option, Some, None, refl, sym, ◌∙◌}
use Rattle.std.proofs.Common.{append_assoc, arith}
use Rattle.std.specs.Option.{option_map, option_map_or, option_or}
use Rattle.std.specs.Prelude.{⊤, IfSome, if◌then◌else◌, slice_range, take}
use Rattle.markdown_base.specs.Event.{TagView, link}
use Rattle.markdown_base.specs.Forest.{Forest, nil, node, roots}
use Rattle.markdown_base.specs.declared.item.ItemBody.{ItemBody}
use Rattle.markdown_base.specs.declared.item.ItemBody.TheVariants as body
use Rattle.markdown_base.specs.declared.tag.LinkType.TheVariants as written
use Rattle.markdown_document.specs.EnclosingBlocks.{EnclosingBlocks}
use Rattle.markdown_document.specs.Document.{Notes, Shape, leaf, enclosed, plain, backslash_break, unresolved, TreeNode}
use Rattle.markdown_document.specs.Document.{shaped, is_unresolved, text_over}
use Rattle.markdown_document.specs.ChainRest.{as_item, end_of, next_starts_at, open_body, start_of}
use Rattle.markdown_document.specs.Setting.{Setting, ReferenceState}
use Rattle.markdown_document.specs.Waiting.{text_if, is_quiet}
use Rattle.markdown_spans.specs.AfterLess.{Markup, address_at, autolink, html_at, html_markup, markup_at}
use Rattle.markdown_spans.specs.Autolink.{uri_autolink}
use Rattle.markdown_spans.specs.EmailAutolink.{email_autolink}
use Rattle.markdown_spans.specs.Closers.{MathClose, code_close, math_close_from}
use Rattle.markdown_spans.specs.Finds.{Find, SpanText, code_found, code_span, code_trees, find, find_by, is_escaped}
use Rattle.markdown_spans.specs.Finds.{link_type, markup, markup_found, markup_trees, math_found, math_span, nothing}
use Rattle.markdown_spans.specs.Finds.{prefix_below, read_tree, read_unless, trees_for}
use Rattle.markdown_spans.specs.declared.after_less.AutolinkKind.TheVariants.{Uri, Email}
use Rattle.markdown_delims.specs.Layers.{enclosed_if, layer_of_one, layer_of_two, extensions_of}
use Rattle.markdown_delims.specs.Pairing.{paired}
use Rattle.markdown_delims.specs.Quotes.{first_turn, is_closed_later, is_end, kind_of_shape, quotes_after, with_quotes}
use Rattle.markdown_delims.specs.declared.extensions.Extensions.{Extensions}
use Rattle.markdown_delims.specs.declared.run.Delimiter.{Delimiter}
use Rattle.markdown_delims.specs.declared.run.Delimiter.TheVariants.{Star, Underscore, Tilde, Caret}
use Rattle.markdown_delims.proofs.KeepLemmas.{EachTree, IsReadable, MakesTrees, runs-keep}
use Rattle.markdown_delims.proofs.LayerLawLemmas.{turn-made}
use Rattle.markdown_delims.proofs.SumLemmas.{sum_of}
use Rattle.markdown_brackets.specs.BracketDecision.{Progress}
use Rattle.markdown_brackets.specs.LeftList.{Entry, done, waits, all_done}
use Rattle.markdown_brackets.specs.NoLinkInLink.{AreFreeTrees, ClosesOverNone, HasMoreTrees, HasNoLinkInLink}
use Rattle.markdown_brackets.specs.NoLinkInLink.{HasNoneBelow, IsFreeOfLinks, IsNoLink, OpensNoLink, is_autolink}
use Rattle.markdown_brackets.proofs.NoLinkLemmas.{no_link_in_link}
use Rattle.markdown_resolver.specs.PassOne.{bracket_context, pass_one, read_other}
use Rattle.markdown_resolver.specs.Resolved.{all_paired, paired_from, paired_if_open, resolved}
use Rattle.markdown_inline.specs.ResolvedShapes.{IsPairedTag}
use Rattle.markdown_inline.proofs.EndOrderLemmas.{total, total_ends}
use Rattle.markdown_inline.proofs.PairedEndsLemmas.{IsNoBracket, NumbersNoMarks, below_within}

module _ (addresses : Bool) where
  -- 1 for a link that is no autolink
  abbrev not_autolink : (is_autolink : Bool) → List ℕ
  not_autolink true = []
  not_autolink false = 1 ∷ []

  abbrev link_of : TagView → List ℕ
  link_of (link v) = not_autolink (is_autolink addresses v.kind)
  link_of other = []

  abbrev links_at : Shape → List ℕ
  links_at (enclosed tag origins) = link_of tag
  links_at other = []

  -- a forest is free of links where it has none of them
  free_if : (b : Bool) → total (not_autolink b) ≡ 0 → b ≡ true
  free_if true e = refl
  free_if false e = cc e

  none_if : (b : Bool) → b ≡ true → total (not_autolink b) ≡ 0
  none_if true e = refl
  none_if false e = cc e

  free_note : (tag : TagView) → total (link_of tag) ≡ 0 → OpensNoLink addresses tag
  free_note (link v) e = free_if (is_autolink addresses v.kind) e
  free_note other e = tt

  free_shape : (shape : Shape) → total (links_at shape) ≡ 0 → IsNoLink addresses shape
  free_shape (enclosed tag origins) e = free_note tag e
  free_shape other e = tt

  none_tag : (tag : TagView) → OpensNoLink addresses tag → total (link_of tag) ≡ 0
  none_tag (link v) h = none_if (is_autolink addresses v.kind) h
  none_tag other h = refl

  none_shape : (shape : Shape) → IsNoLink addresses shape → total (links_at shape) ≡ 0
  none_shape (enclosed tag origins) h = none_tag tag h
  none_shape other h = refl

  -- where nothing is below an item, no link is
  nothing_below : (A : Type 0) (shape : Shape) → HasNoneBelow {A = A} addresses shape nil
  nothing_below A (enclosed (link v) origins) = tt
  nothing_below A (enclosed other origins) = tt
  nothing_below A (leaf e origins) = tt
  nothing_below A plain = tt
  nothing_below A backslash_break = tt
  nothing_below A (unresolved b) = tt

  -- links alone are counted
  links_numbered : NumbersNoMarks links_at
  links_numbered = record {
    lone = λ e origins h. refl;
    mark = λ tag h. mark_no_link tag h;
  }
    where
      mark_no_link : (tag : TagView) → IsPairedTag tag → link_of tag ≡ []
      mark_no_link (link v) h = absurd h
      mark_no_link other h = refl

  -- what begins at a `<` is no autolink to an address where there are no addresses
  abbrev IsAllowed : Markup → Type 0
  IsAllowed (autolink kind end bytes) = is_autolink addresses (link_type kind) ≡ true
  IsAllowed (html_markup end bytes) = ⊤

  allowed_at : (skipped : List ℕ → Option ℕ) (text : List ℕ) (start at : ℕ)
      → IfSome (markup_at skipped addresses text start at) IsAllowed
  unfolding markup_at
  allowed_at skipped text start at =
      first_of (uri_autolink text at) (address_at addresses text at) (html_at skipped text start at)
      (by_kind addresses (email_autolink text at))
    where
      -- an address is found only where there are addresses
      by_kind : (on : Bool) (found : Option (ℕ × List ℕ))
          → IfSome (if on then found else None) (λ p. is_autolink on written.Email ≡ true)
      by_kind true None = tt
      by_kind true (Some found) = refl
      by_kind false found = tt

      first_of : (uri : Option (ℕ × List ℕ)) (address : Option (ℕ × List ℕ)) (tag : Option (ℕ × Option (List ℕ)))
          → IfSome address (λ found. is_autolink addresses written.Email ≡ true)
          → IfSome (option_or (option_map (λ found. autolink Uri found.0 found.1) uri)
          (option_or (option_map (λ found. autolink Email found.0 found.1) address)
          (option_map (λ found. html_markup found.0 found.1) tag))) IsAllowed
      first_of (Some found) address tag h = refl
      first_of None (Some found) tag h = h
      first_of None None (Some found) h = tt
      first_of None None None h = tt

  module _ {A : Type 0} where
    abbrev links : Forest (TreeNode A) → ℕ
    links f = sum_of (λ (a : TreeNode A). total (links_at a.part.shape)) f

    free_from_count : (f : Forest (TreeNode A)) → links f ≡ 0 → IsFreeOfLinks addresses f
    free_from_count nil e = tt
    free_from_count (node a below after) e = (
      free_shape a.part.shape (omega (arith, e)),
      free_from_count below (omega (arith, e)),
      free_from_count after
          (omega (arith, e)),
    )

    count_of_free : (f : Forest (TreeNode A)) → IsFreeOfLinks addresses f → links f ≡ 0
    count_of_free nil h = refl
    count_of_free (node a below after) h = omega
        (arith, none_shape a.part.shape h.0, count_of_free below h.1, count_of_free after h.2)

    -- so pairing the chains of children leaves it free
    free_below : (s : Setting) (f : Forest (TreeNode A)) → IsFreeOfLinks addresses f
        → IsFreeOfLinks addresses (paired_if_open s (all_paired s f))
    free_below s f h =
        let paired_below : Forest (TreeNode A) = paired_if_open s (all_paired s f) in
        let within = below_within links_at links_numbered s f [] in
        free_from_count paired_below (omega (
          arith,
          within.sums,
          total_ends links_at paired_below [],
          total_ends links_at f [],
          count_of_free
              f h,
        ))

    -- a tree: what a link has below it is free, and so on below
    abbrev IsApart : TreeNode A → Forest (TreeNode A) → Type 0
    IsApart a below = HasNoneBelow addresses a.part.shape below × HasNoLinkInLink addresses below

    from_each : (f : Forest (TreeNode A)) → EachTree IsApart f → HasNoLinkInLink addresses f
    from_each nil h = tt
    from_each (node a below after) h = (h.0.0, h.0.1, from_each after h.1)

    -- a layer is no link
    enclosed_apart : (b : Bool) (tag : TagView) (other : Shape) (below : Forest (TreeNode A)) → IsNoBracket tag
        → HasNoneBelow addresses other below
        → HasNoneBelow addresses (enclosed_if b tag other) below
    enclosed_apart true tag other below h k = no_link tag h
      where
        no_link : (tag : TagView) → IsNoBracket tag → ClosesOverNone addresses tag below
        no_link (link v) h = absurd h
        no_link other h = tt
    enclosed_apart false tag other below h k = k

    two_apart : (m : Extensions) (d : Delimiter) (source : List ℕ) (below : Forest (TreeNode A))
        → HasNoneBelow addresses (layer_of_two m d source) below
    two_apart m Star source below = tt
    two_apart m Underscore source below = tt
    two_apart m Tilde source below = enclosed_apart m.strikethrough _ (text_over source) below tt tt
    two_apart m Caret source below = enclosed_apart m.superscript _ (text_over source) below tt tt

    one_apart : (m : Extensions) (d : Delimiter) (source : List ℕ) (below : Forest (TreeNode A))
        → HasNoneBelow addresses (layer_of_one m d source) below
    one_apart m Star source below = tt
    one_apart m Underscore source below = tt
    one_apart m Tilde source below = enclosed_apart m.subscript _ _ below tt
        (enclosed_apart m.strikethrough _ (text_over source) below tt tt)
    one_apart m Caret source below = enclosed_apart m.superscript _ (text_over source) below tt tt

    makes_apart : (s : Setting) → MakesTrees s (λ (a : TreeNode A). ⊤) IsApart
    makes_apart s = record {
      text = λ x h. (nothing_below A x.part.shape, tt);
      one = λ d x v inside h i. (
        one_apart (extensions_of s.rules.syntax) d (slice_range s.text x.part.range.start v.part.range.end) inside,
        from_each inside i,
      );
      two = λ d x v inside h i. (
        two_apart (extensions_of s.rules.syntax) d (slice_range s.text x.part.range.start v.part.range.end) inside,
        from_each inside i,
      );
    }

    closed_apart : (source : List ℕ) (b : Bool) (a : TreeNode A) (below : Forest (TreeNode A))
        → HasNoneBelow addresses a.part.shape below
        → HasNoneBelow addresses (text_if b source a).part.shape below
    closed_apart source true a below h = tt
    closed_apart source false a below h = h

    quoted_apart : (s : Setting) (single double : Bool) (chain : Forest (TreeNode A)) → HasNoLinkInLink addresses chain
        → EachTree (IsReadable (λ (a : TreeNode A). ⊤) IsApart s) (quotes_after single double chain)
    quoted_apart s single double nil h = tt
    quoted_apart s single double (node a below after) h =
        let quoted : TreeNode A = shaped (first_turn a after single double).made a in
        let made_apart : HasNoneBelow addresses quoted.part.shape below =
        turn-made (λ shape. HasNoneBelow addresses shape below) (λ c. tt) (kind_of_shape a.part.shape) a.part.shape
        single double
        (is_closed_later after) (is_end after) h.0 in (
          (tt, (closed_apart s.text (is_unresolved quoted.part.shape) quoted below made_apart, h.1)),
          quoted_apart s
              (first_turn a after single double).single (first_turn a after single double).double after h.2,
        )

    -- so pairing puts no link into a link
    paired_apart : (s : Setting) (chain : Forest (TreeNode A)) → HasNoLinkInLink addresses chain
        → HasNoLinkInLink addresses (paired s chain)
    unfolding paired with_quotes
    paired_apart s chain h = from_each (paired s chain)
        (runs-keep (λ (a : TreeNode A). ⊤) IsApart s (makes_apart s) (with_quotes chain)
        (quoted_apart s false false chain h))

    -- chains of children
    shape_apart : (shape : Shape) (below later : Forest (TreeNode A)) → (IsFreeOfLinks addresses below
        → IsFreeOfLinks addresses later)
        → HasNoneBelow addresses shape below
        → HasNoneBelow addresses shape later
    shape_apart (enclosed (link v) origins) below later k h = k h
    shape_apart (enclosed other origins) below later k h = tt
    shape_apart (leaf e origins) below later k h = tt
    shape_apart plain below later k h = tt
    shape_apart backslash_break below later k h = tt
    shape_apart (unresolved b) below later k h = tt

    from_apart : (s : Setting) (is_open : Bool) (a : TreeNode A) (below after later : Forest (TreeNode A))
        → HasNoLinkInLink addresses (node a below after)
        → HasNoLinkInLink addresses later → HasNoLinkInLink addresses (paired_from s is_open a below after later)
    from_apart s true a below after later h k = paired_apart s (node a below after) h
    from_apart s false a below after later h k = (h.0, h.1, k)

    if_open_apart : (s : Setting) (f : Forest (TreeNode A)) → HasNoLinkInLink addresses f
        → HasNoLinkInLink addresses (paired_if_open s f)
    if_open_apart s nil h = tt
    if_open_apart s (node a below after) h = from_apart s (is_unresolved a.part.shape) a below after
        (paired_if_open s after) h
        (if_open_apart s after h.2)

    -- nor does pairing the chains of children
    all_apart : (s : Setting) (f : Forest (TreeNode A)) → HasNoLinkInLink addresses f
        → HasNoLinkInLink addresses (all_paired s f)
    all_apart s nil h = tt
    all_apart s (node a below after) h = (
      shape_apart a.part.shape below (paired_if_open s (all_paired s below)) (free_below s below) h.0,
      if_open_apart s (all_paired s below)
          (all_apart s below h.1),
      all_apart s after h.2,
    )

    -- what stands for an item is free of links
    abbrev FindsAllowed : Find A → Type 0
    FindsAllowed (markup m) = IsAllowed m
    FindsAllowed other = ⊤

    free_code : (s : Setting) (escaped : Bool) (a : TreeNode A) (t : SpanText) (closer : TreeNode A)
        → IsFreeOfLinks addresses (code_trees s escaped a t closer)
    free_code s false a t closer = (tt, tt, tt)
    free_code s true a t closer = (tt, tt, (tt, tt, tt))

    free_markup : (s : Setting) (new : A) (a : TreeNode A) (m : Markup) → IsAllowed m
        → IsFreeOfLinks addresses (markup_trees s new a m)
    free_markup s new a (autolink kind end bytes) h = (h, (tt, tt, tt), tt)
    free_markup s new a (html_markup end None) h = (tt, tt, tt)
    free_markup s new a (html_markup end (Some bytes)) h = (tt, tt, tt)

    free_find : (s : Setting) (new : A) (a : TreeNode A) (found : Find A) → FindsAllowed found
        → IsFreeOfLinks addresses (trees_for s new a found)
    free_find s new a (code_span t closer) h = free_code s (is_escaped (open_body a.part.shape)) a t closer
    free_find s new a (math_span display t end) h = (tt, tt, tt)
    free_find s new a (markup m) h = free_markup s new a m h
    free_find s new a nothing h = (tt, tt, tt)

    free_unless : (quiet : Bool) (s : Setting) (notes : Notes A) (above : EnclosingBlocks) (n : ℕ) (a : TreeNode A)
        (below rest : Forest (TreeNode A)) → FindsAllowed (find s above a rest) → IsNoLink addresses a.part.shape
        → IsFreeOfLinks addresses below → IsFreeOfLinks addresses (read_unless quiet s notes above n a below rest).trees
    free_unless true s notes above n a below rest f h i = (h, i, tt)
    free_unless false s notes above n a below rest f h i = free_find s (notes.of_made n) a (find s above a rest) f

    -- put onto a left list they stand at its right
    free_more : (a : TreeNode A) (below : Forest (TreeNode A)) (more : List (Entry A)) → AreFreeTrees addresses more
        → IsNoLink addresses a.part.shape
        → IsFreeOfLinks addresses below → AreFreeTrees addresses (more ++ done a below ∷ [])
    free_more a below [] f h i = (h, i, tt)
    free_more a below (done b inner ∷ more) f h i = (f.0, f.1, free_more a below more f.2 h i)
    free_more a below (waits m b ∷ more) f h i = absurd f

    put_more : (trees : Forest (TreeNode A)) (left : List (Entry A)) → IsFreeOfLinks addresses trees
        → HasMoreTrees addresses left (all_done trees left)
    put_more nil left h = record { more = []; free = tt; grown = refl }
    put_more (node a below after) left h =
        let r = put_more after (done a below ∷ left) h.2 in
        record {
          more = r.more ++ done a below ∷ [];
          free = free_more a below r.more r.free h.0 h.1;
          grown = r.grown
              ∙ sym (append_assoc r.more (done a below ∷ []) left);
        }

module _ {A : Type 0} where
  -- the full reading has addresses
  abbrev FreeBy : Setting → Forest (TreeNode A) → Type 0
  FreeBy s f = IsFreeOfLinks s.rules.syntax.addresses f

  abbrev ApartBy : Setting → Forest (TreeNode A) → Type 0
  ApartBy s f = HasNoLinkInLink s.rules.syntax.addresses f

  code_allowed : (s : Setting) (above : EnclosingBlocks) (a : TreeNode A) (closer : Option (TreeNode A))
      → FindsAllowed s.rules.syntax.addresses (code_found s above a closer)
  code_allowed s above a None = tt
  code_allowed s above a (Some closer) = tt

  math_allowed : (s : Setting) (above : EnclosingBlocks) (a : TreeNode A) (after : List (TreeNode A))
      (m : Option (MathClose (TreeNode A)))
      → FindsAllowed s.rules.syntax.addresses (math_found s above a after m)
  math_allowed s above a after None = tt
  math_allowed s above a after (Some m) = tt

  markup_allowed : (s : Setting) (above : EnclosingBlocks) (a : TreeNode A) (is_followed : Bool)
      → FindsAllowed s.rules.syntax.addresses (markup_found s above a is_followed)
  markup_allowed s above a false = tt
  markup_allowed s above a true =
      by (markup_at (λ bytes. Some (prefix_below s above bytes)) s.rules.syntax.addresses
      (take above.block_end s.text) (start_of a) (end_of a))
      (allowed_at s.rules.syntax.addresses (λ bytes. Some (prefix_below s above bytes))
      (take above.block_end s.text) (start_of a) (end_of a))
    where
      by : (m : Option Markup) → IfSome m (IsAllowed s.rules.syntax.addresses)
          → FindsAllowed s.rules.syntax.addresses {A = A} (option_map_or markup m nothing)
      by None h = tt
      by (Some m) h = h

  find_allowed : (s : Setting) (above : EnclosingBlocks) (b : ItemBody) (a : TreeNode A) (rest : Forest (TreeNode A))
      → FindsAllowed s.rules.syntax.addresses (find_by s above b a rest)
  find_allowed s above (body.MaybeCode count escaped) a rest =
      code_allowed s above a (code_close as_item (body.MaybeCode count escaped) (roots rest))
  find_allowed s above (body.MaybeMath opens closes context) a rest =
      math_allowed s above a (roots rest) (math_close_from as_item (as_item a) (roots rest))
  find_allowed s above body.MaybeHtml a rest = markup_allowed s above a (next_starts_at (end_of a) rest)
  find_allowed s above other a rest = tt

  other_free : (s : Setting) (notes : Notes A) (above : EnclosingBlocks) (a : TreeNode A)
      (below rest : Forest (TreeNode A)) (p : Progress A) → IsNoLink s.rules.syntax.addresses a.part.shape
      → FreeBy s below
      → HasMoreTrees s.rules.syntax.addresses p.left (read_other s notes above a below rest p).left
  unfolding read_tree
  other_free s notes above a below rest p h i =
      put_more s.rules.syntax.addresses (read_tree s notes above p.made a below rest).trees p.left
      (free_unless s.rules.syntax.addresses (is_quiet a.part.shape) s notes above p.made a below rest
      (find_allowed s above (open_body a.part.shape) a rest) h i)

  -- pass one puts no link into a link either, by the law of brackets; nor does the whole
  pass_one_apart : (s : Setting) (notes : Notes A) (above : EnclosingBlocks) (chain : Forest (TreeNode A))
      (state : ReferenceState) → FreeBy s chain
      → ApartBy s (pass_one s notes above chain state).forest
  unfolding pass_one
  pass_one_apart s notes above chain state h = no_link_in_link s.rules.syntax.addresses (bracket_context s above)
      (read_other s notes above) (other_free s notes above) chain
      state h

  pub resolved_apart : (s : Setting) (notes : Notes A) (above : EnclosingBlocks) (chain : Forest (TreeNode A))
      (state : ReferenceState) → IsFreeOfLinks s.rules.syntax.addresses chain
      → HasNoLinkInLink s.rules.syntax.addresses (all_paired s (resolved s notes above chain state).forest)
  unfolding resolved
  resolved_apart s notes above chain state h =
      let f : Forest (TreeNode A) = (pass_one s notes above chain state).forest in
      all_apart s.rules.syntax.addresses s (paired s f) (paired_apart s.rules.syntax.addresses s f
      (pass_one_apart s notes above chain state h))

-- The trees of a chain lie one after the other: a fresh chain's do, and pass one leaves it so, for the chains of
-- children that it makes too. What replaces a find or an opener ends where the chain continues at the latest, and the
-- rest of the chain begins there.
use Rattle.std.proofs.Common.{◌≡◌, ℕ, ◌+◌, ◌-◌, ◌<◌, ◌≤◌, Bool, true, false, ◌&&◌, List, [], ◌∷◌, Option, Some, None}
use Rattle.std.proofs.Common.{refl, sym, ap, subst, ◌∙◌, arith, nat_le}
use Rattle.std.specs.Prelude.{IfSome, if◌then◌else◌, ⊤, nat_lt, not, ◌==◌, drop, take, slice_index}
use Rattle.std.specs.List.{AllByRecursion}
use Rattle.std.specs.Option.{option_and_then, option_map, option_map_or, option_or}
use Rattle.std.proofs.lemmas.Bool.{leb-false}
use Rattle.std.proofs.lemmas.Bool.Decides.{nat_tests}
use Rattle.markdown_base.specs.Forest.{Forest, nil, node, roots}
use Rattle.markdown_base.specs.declared.item.Item.{Item}
use Rattle.markdown_base.specs.declared.item.ItemBody.{ItemBody}
use Rattle.markdown_base.specs.declared.item.ItemBody.TheVariants as body
use Rattle.markdown_brackets.specs.BracketDecision.{BracketContext, Wikilink, found, past_second, if_some}
use Rattle.markdown_brackets.specs.BracketDecision.{shown_children, text_from, wikilink_by, wikilink_in}
use Rattle.markdown_brackets.specs.LeftList.{Entry, OpenerState, Split, done, inside, nearest, trees_onto, waits}
use Rattle.markdown_brackets.specs.Wikilink.{Shows, WikilinkBody, has_pothole, shows_from, shows_name, shows_nothing}
use Rattle.markdown_brackets.proofs.LeftListLemmas.{onto_append, split_at}
use Rattle.markdown_document.specs.ChainRest.{as_item, begun_at, end_of, joined_chains, open_body, past, next_starts_at}
use Rattle.markdown_document.specs.ChainRest.{past_byte, start_of}
use Rattle.markdown_document.specs.Document.{TreeNode, is_unresolved}
use Rattle.markdown_document.specs.EnclosingBlocks.{EnclosingBlocks}
use Rattle.markdown_document.specs.Setting.{Setting}
use Rattle.markdown_spans.specs.AfterLess.{Markup, address_at, autolink, declared_end, html_at, html_markup, markup_at}
use Rattle.markdown_spans.specs.AfterLess.{unbroken}
use Rattle.markdown_spans.specs.EmailAutolink.{closed_address}
use Rattle.markdown_spans.specs.declared.after_less.AutolinkKind.TheVariants.{Uri, Email}
use Rattle.markdown_raw_html.specs.HtmlTag.{html_tag}
use Rattle.markdown_raw_html.specs.RawHtml.{cdata_section, comment, declaration, end_from, processing_instruction}
use Rattle.markdown_raw_html.specs.TagSource.{tag_at, tag_lengths, tag_of}
use Rattle.markdown_raw_html.specs.TagText.{text_in}
use Rattle.markdown_spans.specs.Autolink.{closed_uri, uri_autolink}
use Rattle.markdown_spans.specs.Closers.{Dollar, MathClose, code_close, code_closer, dollar_next, first_dollar}
use Rattle.markdown_spans.specs.Closers.{closing_count, inline_close, is_code_of, is_dollar, is_dollar_of, math_close}
use Rattle.markdown_spans.specs.Closers.{can_close, can_open, context_of, display_close, math_close_from}
use Rattle.markdown_spans.specs.Closers.{math_closed_by}
use Rattle.markdown_spans.specs.Finds.{Find, SpanText, code_found, code_span, code_trees, end_of_find, find, find_by}
use Rattle.markdown_spans.specs.Finds.{is_escaped, markup, markup_found, math_found, math_span, nothing, prefix_below}
use Rattle.markdown_spans.specs.Finds.{trees_for}
use Rattle.markdown_spans.proofs.FindsLemmas.{cut_open}

-- raw HTML and an autolink end later
abbrev TagLater : ℕ → Option (ℕ × Option (List ℕ)) → Type 0
TagLater start tag = IfSome tag (λ (tag : ℕ × Option (List ℕ)). start ≤ tag.0)

scanned_later : (scan : List ℕ → Option ℕ) (text : List ℕ) (start from : ℕ) → start ≤ from
    → TagLater start (unbroken (end_from scan text from))
scanned_later scan text start from l = by (scan (drop from text))
  where
    by : (found : Option ℕ) → TagLater start (unbroken (option_map (λ n. from + n) found))
    by None = tt
    by (Some n) = omega (arith, l)

or_later : (start : ℕ) (first other : Option ℕ) → TagLater start (unbroken first) → TagLater start (unbroken other)
    → TagLater start (unbroken (option_or first other))
or_later start None other h k = k
or_later start (Some n) other h k = h

html_later : (skipped : List ℕ → Option ℕ) (text : List ℕ) (start at : ℕ) → start ≤ at
    → TagLater start (html_at skipped text start at)
html_later skipped text start at l = by (slice_index text at == 33) (slice_index text at == 63)
  where
    more : start ≤ at + 1
    more = omega (arith, l)

    of_tag : (found : Option ℕ) → TagLater start (option_map (λ n. tag_of skipped start (drop start text)
        (tag_lengths skipped (drop start text) n)) found)
    of_tag None = tt
    of_tag (Some n) = omega arith

    by : (declared instruction : Bool) → TagLater start (if declared then unbroken (declared_end text (at + 1))
        else if instruction then unbroken (end_from processing_instruction text (at + 1))
        else tag_at skipped text start)
    by true instruction =
        or_later start (end_from comment text (at + 1))
        (option_or (end_from cdata_section text (at + 1)) (end_from declaration text (at + 1)))
        (scanned_later comment text start (at + 1) more)
        (or_later start (end_from cdata_section text (at + 1)) (end_from declaration text (at + 1))
        (scanned_later cdata_section text start (at + 1) more) (scanned_later declaration text start (at + 1) more))
    by false true = scanned_later processing_instruction text start (at + 1) more
    by false false = of_tag (html_tag (text_in skipped (drop start text)))

closed_later : (text : List ℕ) (at : ℕ) (size : Option ℕ)
    → IfSome {T = ℕ × List ℕ} (option_map (λ n. (at + n + 1, take n (drop at text))) size) (λ found. at < found.0)
closed_later text at None = tt
closed_later text at (Some n) = omega arith

uri_later : (text : List ℕ) (at : ℕ) → IfSome (uri_autolink text at) (λ found. at < found.0)
uri_later text at = closed_later text at (closed_uri (drop at text))

address_later : (addresses : Bool) (text : List ℕ) (at : ℕ)
    → IfSome (address_at addresses text at) (λ found. at < found.0)
address_later false text at = tt
address_later true text at = closed_later text at (closed_address (drop at text))

module _ {A : Type 0} where
  -- an open node has bytes, and nothing is below it
  abbrev pub OpensAlone : TreeNode A → Forest (TreeNode A) → Type 0
  OpensAlone a below = is_unresolved a.part.shape ≡ true → (start_of a < end_of a) × (below ≡ nil)

  -- the trees of a chain lie one after the other, from a byte offset on, and so do those of the chains below them
  abbrev pub LieApart : ℕ → Forest (TreeNode A) → Type 0
  LieApart i nil = ⊤
  LieApart i (node a below after) = (i ≤ start_of a) × (start_of a ≤ end_of a) × OpensAlone a below × LieApart 0 below
      × LieApart (end_of a) after

  pub sooner : (i j : ℕ) (f : Forest (TreeNode A)) → i ≤ j → LieApart j f → LieApart i f
  sooner i j nil l h = tt
  sooner i j (node a below after) l h = (omega (arith, l, h.0), h.1, h.2, h.3, h.4)

  closed_alone : (a : TreeNode A) (below : Forest (TreeNode A)) → is_unresolved a.part.shape ≡ false
      → OpensAlone a below
  closed_alone a below e opens = absurd (cc (e, opens))

  -- a node that is not open, over a range, with a chain below it
  pub one_apart : (i : ℕ) (d : TreeNode A) (below after : Forest (TreeNode A)) → i ≤ start_of d → start_of d ≤ end_of d
      → is_unresolved d.part.shape ≡ false → LieApart 0 below → LieApart (end_of d) after
      → LieApart i (node d below after)
  one_apart i d below after b o e inner later = (b, o, closed_alone d below e, inner, later)

  -- ---- past a byte offset

  pub past_byte_apart : (i j : ℕ) (f : Forest (TreeNode A)) → LieApart j f → LieApart i (past_byte i f)
  past_byte_apart i j nil h = tt
  past_byte_apart i j (node a below after) h = by (nat_le (end_of a) i) refl (past_byte_apart i (end_of a) after h.4)
    where
      by : (ends : Bool) → nat_le (end_of a) i ≡ ends → LieApart i (past_byte i after)
          → LieApart i (if ends then past_byte i after else node (begun_at i a) below after)
      by true e later = later
      by false e later =
          let past_here : i < end_of a = leb-false (end_of a) i e in (
            omega arith,
            omega (arith, h.1, past_here),
            λ opens.
                let alone = h.2 (sym (cut_open (i - start_of a) a.part.shape) ∙ opens) in
                (omega (arith, alone.0, past_here), alone.1),
            h.3,
            h.4,
          )

  -- ---- left lists

  -- what follows a left list lies after what is in it, and something else there may follow it
  pub record Onto (i : ℕ) (left : List (Entry A)) (f : Forest (TreeNode A)) : Type 0 where
    pub at : ℕ
    pub bytes : i ≤ at
    pub here : LieApart at f
    pub goes : (g : Forest (TreeNode A)) → LieApart at g → LieApart i (trees_onto left g)

  pub onto : (i : ℕ) (left : List (Entry A)) (f : Forest (TreeNode A)) → LieApart i (trees_onto left f) → Onto i left f
  onto i [] f h = record { at = i; bytes = omega arith; here = h; goes = λ g k. k }
  onto i (done a below ∷ left) f h =
      let r = onto i left (node a below f) h in
      let k = r.here in
      record {
        at = end_of a;
        bytes = omega (arith, r.bytes, k.0, k.1);
        here = k.4;
        goes = λ g l. r.goes (node a below g) (k.0, k.1, k.2, k.3, l);
      }
  onto i (waits m a ∷ left) f h =
      let r = onto i left (node a nil f) h in
      let k = r.here in
      record {
        at = end_of a;
        bytes = omega (arith, r.bytes, k.0, k.1);
        here = k.4;
        goes = λ g l. r.goes (node a nil g) (k.0, k.1, k.2, k.3, l);
      }

  -- an opener of a left list, with what lies before it, inside and after it
  pub record Around (left : List (Entry A)) (o : Split A) (f : Forest (TreeNode A)) : Type 0 where
    pub begins : ℕ
    pub starts : begins ≤ start_of o.opener
    pub ordered : start_of o.opener ≤ end_of o.opener
    pub inner : LieApart (end_of o.opener) (inside o)
    pub at : ℕ
    pub later : end_of o.opener ≤ at
    pub here : LieApart at f
    pub goes : (g : Forest (TreeNode A)) → LieApart begins g → LieApart 0 (trees_onto o.before g)

  pub around : (opens : OpenerState → Bool) (left : List (Entry A)) (o : Split A) (f : Forest (TreeNode A))
      → nearest opens left ≡ Some o → LieApart 0 (trees_onto left f) → Around left o f
  around opens left o f is h =
      let split : trees_onto left f ≡ trees_onto o.before (node o.opener nil (trees_onto o.after f)) =
      ap (λ (l : List (Entry A)). trees_onto l f) (split_at opens left o is)
      ∙ onto_append o.after (waits o.state o.opener ∷ o.before) f in
      let b = onto 0 o.before (node o.opener nil (trees_onto o.after f)) (subst (LieApart 0) split h) in
      let k = b.here in
      let a = onto (end_of o.opener) o.after f k.4 in
      record {
        begins = b.at;
        starts = k.0;
        ordered = k.1;
        inner = a.goes nil tt;
        at = a.at;
        later = a.bytes;
        here = a.here;
        goes = b.goes;
      }

  -- ---- wikilinks

  module _ (w : BracketContext) where
    named_apart : (first : TreeNode A) (trees : Forest (TreeNode A)) (end : ℕ) (b : WikilinkBody) → start_of first < end
        → LieApart 0 trees
        → IfSome (wikilink_by w first trees end b) (λ v. LieApart 0 v.children)
    named_apart first trees end b l h = by b.shows
      where
        shown_apart : (f : Forest (TreeNode A)) → LieApart 0 f
            → IfSome (option_map (λ children. let v : Wikilink A = record {
              name = b.name;
              has_pothole = has_pothole b.shows;
              children = children;
            } in v) (if_some f)) (λ v. LieApart 0 v.children)
        shown_apart nil k = tt
        shown_apart (node a below after) k = k

        by : (shows : Shows) → IfSome (option_map (λ children. let v : Wikilink A = record {
          name = b.name;
          has_pothole = has_pothole b.shows;
          children = children;
        } in v) (shown_children w first trees end shows)) (λ v. LieApart 0 v.children)
        by shows_name = one_apart 0 (text_from w first (start_of first) end) nil nil (omega arith)
            (omega (arith, l)) refl
            tt tt
        by (shows_nothing at) = one_apart 0 (text_from w first at at) nil nil (omega arith) (omega arith) refl tt tt
        by (shows_from at) = shown_apart (past_byte at trees)
            (sooner 0 at (past_byte at trees) (omega arith) (past_byte_apart at 0 trees h))

    pub wikilink_apart : (trees : Forest (TreeNode A)) (end : ℕ) → LieApart 0 trees
        → IfSome (wikilink_in w trees end) (λ v. LieApart 0 v.children)
    wikilink_apart nil end h = tt
    wikilink_apart (node first below after) end h = by (nat_lt (start_of first) end) refl _
      where
        trees : Forest (TreeNode A)
        trees = node first below after

        of_body : start_of first < end → (o : Option WikilinkBody)
            → IfSome (option_and_then (wikilink_by w first trees end) o) (λ v. LieApart 0 v.children)
        of_body l None = tt
        of_body l (Some b) = named_apart first trees end b l h

        by : (some : Bool) → nat_lt (start_of first) end ≡ some → (o : Option WikilinkBody)
            → IfSome (option_and_then (wikilink_by w first trees end) (if some then o else None))
            (λ v. LieApart 0 v.children)
        by true e o =
            let some : start_of first < end = grind (arith, nat_tests) in
            of_body some o
        by false e o = tt

  pub past_second_apart : (f : Forest (TreeNode A)) → LieApart 0 f → LieApart 0 (past_second f)
  past_second_apart nil h = tt
  past_second_apart (node a below after) h = sooner 0 (end_of a) after (omega arith) h.4

  -- ---- what is found at an item

  -- it ends there or later, and the text of an autolink has room
  abbrev pub Fits : TreeNode A → Find A → Type 0
  Fits a (code_span t closer) = end_of a ≤ end_of closer
  Fits a (math_span display t end) = end_of a ≤ end
  Fits a (markup (autolink kind end uri)) = end_of a < end
  Fits a (markup (html_markup end bytes)) = start_of a ≤ end
  Fits a nothing = ⊤

  module _ (P : TreeNode A → Type 0) where
    closer_among : (n : ℕ) (xs : List (TreeNode A)) → AllByRecursion P xs → IfSome (code_closer as_item n xs) P
    closer_among n [] h = tt
    closer_among n (a ∷ xs) h = by (is_code_of n (open_body a.part.shape)) (closer_among n xs h.1)
      where
        by : (b : Bool) → IfSome (code_closer as_item n xs) P
            → IfSome (if b then Some a else code_closer as_item n xs) P
        by true k = h.0
        by false k = k

    pub code_among : (b : ItemBody) (xs : List (TreeNode A)) → AllByRecursion P xs → IfSome (code_close as_item b xs) P
    code_among (body.MaybeCode count escaped) xs h = by (closing_count count escaped == 0)
      where
        by : (none : Bool)
            → IfSome (if none then None else code_closer as_item (closing_count count escaped) xs) P
        by true = tt
        by false = closer_among (closing_count count escaped) xs h
    code_among other xs h = tt

    pub next_among : (xs : List (TreeNode A)) → AllByRecursion P xs → IfSome (dollar_next as_item xs) P
    next_among [] h = tt
    next_among (a ∷ xs) h = by (is_dollar (open_body a.part.shape))
      where
        by : (b : Bool) → IfSome (if b then Some a else None) P
        by true = h.0
        by false = tt

    FoundDollar : Option (Dollar (TreeNode A)) → Type 0
    FoundDollar o = IfSome o (λ d. P d.dollar × AllByRecursion P d.after)

    dollar_among : (context : ℕ) (xs : List (TreeNode A)) → AllByRecursion P xs
        → FoundDollar (first_dollar as_item context xs)
    unfolding FoundDollar
    dollar_among context [] h = tt
    dollar_among context (a ∷ xs) h = by (is_dollar_of context (open_body a.part.shape)) (dollar_among context xs h.1)
      where
        by : (b : Bool) → FoundDollar (first_dollar as_item context xs)
            → FoundDollar (if b then Some (record { dollar = a; after = xs }) else first_dollar as_item context xs)
        by true k = h
        by false k = k

    unfoldable pub Closing_among : Option (MathClose (TreeNode A)) → Type 0
    Closing_among o = IfSome o (λ m. P m.last)

    inline_among : (end : ℕ) (o : Option (Dollar (TreeNode A))) → FoundDollar o
        → Closing_among (inline_close as_item end o)
    unfolding FoundDollar Closing_among
    inline_among end None h = tt
    inline_among end (Some d) h =
        by (can_close (open_body d.dollar.part.shape) && not (end == start_of d.dollar))
      where
        by : (b : Bool) → Closing_among (if b then Some
            (record { display = false; closer = d.dollar; last = d.dollar }) else None)
        by true = h.0
        by false = tt

    display_among : (o : Option (Dollar (TreeNode A))) → FoundDollar o → Closing_among (display_close as_item o)
    unfolding FoundDollar Closing_among
    display_among None h = tt
    display_among (Some d) h = by (dollar_next as_item d.after) (next_among d.after h.1)
      where
        by : (o : Option (TreeNode A)) → IfSome o P → Closing_among (math_closed_by d.dollar o)
        by None k = tt
        by (Some last) k = k

    rest_among : (xs : List (TreeNode A)) → AllByRecursion P xs → AllByRecursion P (drop 1 xs)
    rest_among [] h = tt
    rest_among (x ∷ xs) h = h.1

    pub math_among : (opener : Item) (xs : List (TreeNode A)) → AllByRecursion P xs
        → Closing_among (math_close_from as_item opener xs)
    unfolding Closing_among
    math_among opener xs h = by (can_open opener.body)
      where
        of_next : (o : Option (TreeNode A)) → Closing_among (elim o [
          | Some second ↦ display_close as_item (first_dollar as_item (context_of opener.body) (drop 1 xs))
          | None ↦ inline_close as_item opener.end (first_dollar as_item (context_of opener.body) xs)
        ])
        of_next (Some second) = display_among _ (dollar_among (context_of opener.body) (drop 1 xs) (rest_among xs h))
        of_next None = inline_among opener.end _ (dollar_among (context_of opener.body) xs h)

        by : (opens : Bool)
            → Closing_among (if opens then math_close as_item opener.end (context_of opener.body) xs else None)
        by true = of_next (dollar_next as_item xs)
        by false = tt

  -- each item of a chain ends at the chain's beginning or later
  pub ends_later : (i j : ℕ) (f : Forest (TreeNode A)) → i ≤ j → LieApart j f
      → AllByRecursion (λ (c : TreeNode A). i ≤ end_of c) (roots f)
  ends_later i j nil l h = tt
  ends_later i j (node a below after) l h =
      (omega (arith, l, h.0, h.1), ends_later i (end_of a) after (omega (arith, l, h.0, h.1)) h.4)

  markup_fits : (skipped : List ℕ → Option ℕ) (addresses : Bool) (text : List ℕ) (a : TreeNode A)
      → start_of a < end_of a
      → IfSome (markup_at skipped addresses text (start_of a) (end_of a)) (λ m. Fits a (markup m))
  unfolding markup_at
  markup_fits skipped addresses text a l =
      by (uri_autolink text (end_of a)) (address_at addresses text (end_of a))
      (html_at skipped text (start_of a) (end_of a)) (uri_later text (end_of a))
      (address_later addresses text (end_of a)) (html_later skipped text (start_of a) (end_of a) (omega (arith, l)))
    where
      by : (uri address : Option (ℕ × List ℕ)) (tag : Option (ℕ × Option (List ℕ)))
          → IfSome uri (λ found. end_of a < found.0) → IfSome address (λ found. end_of a < found.0)
          → TagLater (start_of a) tag → IfSome (option_or (option_map (λ found. autolink Uri found.0 found.1) uri)
          (option_or (option_map (λ found. autolink Email found.0 found.1) address)
          (option_map (λ found. html_markup found.0 found.1) tag))) (λ m. Fits a (markup m))
      by (Some found) address tag h i k = h
      by None (Some found) tag h i k = i
      by None None (Some found) h i k = k
      by None None None h i k = tt

  module _ (s : Setting) (above : EnclosingBlocks) where
    code_fits : (a : TreeNode A) (o : Option (TreeNode A)) → IfSome o (λ c. end_of a ≤ end_of c)
        → Fits a (code_found s above a o)
    code_fits a None h = tt
    code_fits a (Some closer) h = h

    math_fits : (a : TreeNode A) (after : List (TreeNode A)) (o : Option (MathClose (TreeNode A)))
        → IfSome o (λ m. end_of a ≤ end_of m.last) → Fits a (math_found s above a after o)
    math_fits a after None h = tt
    math_fits a after (Some m) h = h

    less_fits : (a : TreeNode A) (followed : Bool) → start_of a < end_of a → Fits a (markup_found s above a followed)
    less_fits a false l = tt
    less_fits a true l =
        by (markup_at skipped s.rules.syntax.addresses text (start_of a) (end_of a))
        (markup_fits skipped s.rules.syntax.addresses text a l)
      where
        skipped : List ℕ → Option ℕ
        skipped = λ bytes. Some (prefix_below s above bytes)

        text : List ℕ
        text = take above.block_end s.text

        by : (o : Option Markup) → IfSome o (λ m. Fits a (markup m)) → Fits a (option_map_or markup o nothing)
        by None h = tt
        by (Some m) h = h

    by_fits : (b : ItemBody) (a : TreeNode A) (rest : Forest (TreeNode A)) → start_of a < end_of a
        → LieApart (end_of a) rest → Fits a (find_by s above b a rest)
    unfolding Closing_among
    by_fits (body.MaybeCode count escaped) a rest l h =
        code_fits a _ (code_among (λ c. end_of a ≤ end_of c) (body.MaybeCode count escaped) (roots rest)
        (ends_later (end_of a) (end_of a) rest (omega arith) h))
    by_fits (body.MaybeMath opens closes context) a rest l h =
        math_fits a (roots rest) _ (math_among (λ c. end_of a ≤ end_of c) (as_item a) (roots rest)
        (ends_later (end_of a) (end_of a) rest (omega arith) h))
    by_fits body.MaybeHtml a rest l h = less_fits a (next_starts_at (end_of a) rest) l
    by_fits other a rest l h = tt

    -- what replaces it, before the rest of the chain
    code_apart : (escaped : Bool) (i : ℕ) (a closer : TreeNode A) (t : SpanText) (rest : Forest (TreeNode A))
        → i ≤ start_of a → start_of a < end_of a → end_of a ≤ end_of closer → LieApart (end_of closer) rest
        → LieApart i (joined_chains (code_trees s escaped a t closer) rest)
    code_apart false i a closer t rest b l e h = (b, omega (arith, l, e), (λ opens. cc opens), tt, h)
    code_apart true i a closer t rest b l e h =
        (b, omega arith, (λ opens. cc opens), tt, (omega arith, omega (arith, l, e), (λ opens. cc opens), tt, h))

    pub found_apart : (fresh : A) (i : ℕ) (a : TreeNode A) (f : Find A) (rest : Forest (TreeNode A)) → i ≤ start_of a
        → start_of a < end_of a → LieApart (end_of a) rest → Fits a f
        → LieApart i (joined_chains (trees_for s fresh a f) (past (end_of_find f) rest))
    found_apart fresh i a (code_span t closer) rest b l h e =
        code_apart (is_escaped (open_body a.part.shape)) i a closer t (past_byte (end_of closer) rest) b l e
        (past_byte_apart (end_of closer) (end_of a) rest h)
    found_apart fresh i a (math_span display t end) rest b l h e =
        (b, omega (arith, l, e), (λ opens. cc opens), tt, past_byte_apart end (end_of a) rest h)
    found_apart fresh i a (markup (autolink kind end uri)) rest b l h e = (
      b,
      omega (arith, l, e),
      (λ opens. cc opens),
      (omega arith, omega (arith, e), (λ opens. cc opens), tt, tt),
      past_byte_apart end (end_of a) rest h,
    )
    found_apart fresh i a (markup (html_markup end None)) rest b l h e =
        (b, e, (λ opens. cc opens), tt, past_byte_apart end (end_of a) rest h)
    found_apart fresh i a (markup (html_markup end (Some bytes))) rest b l h e =
        (b, e, (λ opens. cc opens), tt, past_byte_apart end (end_of a) rest h)
    found_apart fresh i a nothing rest b l h e = (b, omega (arith, l), (λ opens. cc opens), tt, h)

    pub find_fits : (a : TreeNode A) (rest : Forest (TreeNode A)) → start_of a < end_of a → LieApart (end_of a) rest
        → Fits a (find s above a rest)
    find_fits a rest l h = by_fits (open_body a.part.shape) a rest l h

-- What resolving a chain needs to know about code spans, math spans, autolinks and raw HTML: nothing that replaces a
-- find is open, no chain's weight or number of delimiter characters rises, and tags have no effect.
use Rattle.std.proofs.Common.{◌≡◌, ℕ, ◌+◌, ◌-◌, ◌≤◌, Bool, true, false, Option, Some, None, refl, arith, nat_le}
use Rattle.std.specs.Prelude.{if◌then◌else◌, is_some}
use Rattle.markdown_base.specs.Forest.{Forest, nil, node, Each}
use Rattle.markdown_document.specs.EnclosingBlocks.{EnclosingBlocks}
use Rattle.markdown_document.specs.Document.{Notes, Shape, leaf, enclosed, plain, backslash_break, unresolved, TreeNode}
use Rattle.markdown_document.specs.Document.{is_unresolved}
use Rattle.markdown_document.specs.TreeNodes.{Begins, weight}
use Rattle.markdown_document.specs.Counts.{counts_shape, delimiters_in}
use Rattle.markdown_document.specs.Setting.{Setting}
use Rattle.markdown_document.specs.Totals.{weight_if}
use Rattle.markdown_document.specs.Waiting.{is_quiet}
use Rattle.markdown_spans.specs.AfterLess.{Markup, autolink, html_markup}
use Rattle.markdown_document.specs.ChainRest.{begun_at, cut_shape, end_of, open_body, past, past_byte}
use Rattle.markdown_spans.specs.Finds.{Find, SpanText, code_span, code_trees, find, is_escaped, markup, markup_trees}
use Rattle.markdown_spans.specs.Finds.{math_span, nothing, read_tree, read_unless, trees_for}

-- what is no more open, all through a forest
abbrev pub AllClosed : {A : Type 0} → Forest (TreeNode A) → Type 0
AllClosed trees = Each (λ a. is_unresolved a.part.shape ≡ false) trees

-- pass one leaves it as it is, and it is no block
abbrev pub IsQuietNode : {A : Type 0} → TreeNode A → Type 0
IsQuietNode a = (is_quiet a.part.shape ≡ true) × (is_some a.part.block ≡ false)

-- what is not quiet is open
open_weight : (shape : Shape) → is_quiet shape ≡ false → weight_if (is_unresolved shape) ≡ 4
open_weight (leaf e origins) h = cc h
open_weight (enclosed tag origins) h = cc h
open_weight plain h = cc h
open_weight backslash_break h = cc h
open_weight (unresolved b) h = refl

-- cutting opens and closes nothing, and no run loses a character
pub cut_open : (n : ℕ) (shape : Shape) → is_unresolved (cut_shape n shape) ≡ is_unresolved shape
cut_open n (leaf e origins) = refl
cut_open n (enclosed tag origins) = refl
cut_open n plain = refl
cut_open n backslash_break = refl
cut_open n (unresolved b) = refl

cut_counts : (n : ℕ) (shape : Shape) → counts_shape (cut_shape n shape) ≡ counts_shape shape
cut_counts n (leaf e origins) = refl
cut_counts n (enclosed tag origins) = refl
cut_counts n plain = refl
cut_counts n backslash_break = refl
cut_counts n (unresolved b) = refl

module _ {A : Type 0} where
  -- nothing that replaces a find is open
  closed_code : (s : Setting) (e : Bool) (a : TreeNode A) (t : SpanText) (closer : TreeNode A)
      → AllClosed (code_trees s e a t closer)
  closed_code s false a t closer = (refl, tt, tt)
  closed_code s true a t closer = (refl, tt, (refl, tt, tt))

  closed_markup : (s : Setting) (new : A) (a : TreeNode A) (m : Markup) → AllClosed (markup_trees s new a m)
  closed_markup s new a (autolink kind end bytes) = (refl, (refl, tt, tt), tt)
  closed_markup s new a (html_markup end None) = (refl, tt, tt)
  closed_markup s new a (html_markup end (Some bytes)) = (refl, tt, tt)

  pub closed_trees : (s : Setting) (new : A) (a : TreeNode A) (found : Find A) → AllClosed (trees_for s new a found)
  closed_trees s new a (code_span t closer) = closed_code s (is_escaped (open_body a.part.shape)) a t closer
  closed_trees s new a (math_span display t end) = (refl, tt, tt)
  closed_trees s new a (markup m) = closed_markup s new a m
  closed_trees s new a nothing = (refl, tt, tt)

  weight_code : (s : Setting) (e : Bool) (a : TreeNode A) (t : SpanText) (closer : TreeNode A)
      → weight (code_trees s e a t closer) ≤ 4
  weight_code s false a t closer = omega arith
  weight_code s true a t closer = omega arith

  weight_markup : (s : Setting) (new : A) (a : TreeNode A) (m : Markup) → weight (markup_trees s new a m) ≤ 4
  weight_markup s new a (autolink kind end bytes) = omega arith
  weight_markup s new a (html_markup end None) = omega arith
  weight_markup s new a (html_markup end (Some bytes)) = omega arith

  weight_trees : (s : Setting) (new : A) (a : TreeNode A) (found : Find A) → weight (trees_for s new a found) ≤ 4
  weight_trees s new a (code_span t closer) = weight_code s (is_escaped (open_body a.part.shape)) a t closer
  weight_trees s new a (math_span display t end) = omega arith
  weight_trees s new a (markup m) = weight_markup s new a m
  weight_trees s new a nothing = omega arith

  -- what is read from a tree weighs at most what the tree does
  unless_weight : (s : Setting) (notes : Notes A) (above : EnclosingBlocks) (n : ℕ) (a : TreeNode A)
      (below rest : Forest (TreeNode A)) (quiet : Bool) → is_quiet a.part.shape ≡ quiet
      → weight (read_unless quiet s notes above n a below rest).trees ≤ weight_if (is_unresolved a.part.shape) + weight
      below
  unless_weight s notes above n a below rest true e = omega arith
  unless_weight s notes above n a below rest false e =
      let found = weight_trees s (notes.of_made n) a (find s above a rest) in
      let opened = open_weight a.part.shape e in
      omega arith

  pub read_weight : (s : Setting) (notes : Notes A) (above : EnclosingBlocks) (n : ℕ) (a : TreeNode A)
      (below rest : Forest (TreeNode A))
      → weight (read_tree s notes above n a below rest).trees ≤ weight_if (is_unresolved a.part.shape) + weight below
  unfolding read_tree
  read_weight s notes above n a below rest = unless_weight s notes above n a below rest (is_quiet a.part.shape) refl

  -- nor is what is left of a chain
  cut_weight : (i : ℕ) (a : TreeNode A) (below after : Forest (TreeNode A)) → weight (node (begun_at i a) below after)
      ≡ weight (node a below after)
  cut_weight i a below after = rw (cut_open (i - a.part.range.start) a.part.shape) refl

  past_byte_weight : (i : ℕ) (chain : Forest (TreeNode A)) → weight (past_byte i chain) ≤ weight chain
  past_byte_weight i nil = omega arith
  past_byte_weight i (node a below after) = by (nat_le (end_of a) i) (past_byte_weight i after)
    where
      by : (b : Bool) → weight (past_byte i after) ≤ weight after
          → weight (if b then past_byte i after else node (begun_at i a) below after) ≤ weight (node a below after)
      by true h = omega arith
      by false h = omega (arith, cut_weight i a below after)

  pub past_weight : (goes_on : Option ℕ) (chain : Forest (TreeNode A)) → weight (past goes_on chain) ≤ weight chain
  past_weight None chain = omega arith
  past_weight (Some i) chain = past_byte_weight i chain

  -- what replaces a find gives an event first, and has no delimiter character
  begins_code : (s : Setting) (e : Bool) (a : TreeNode A) (t : SpanText) (closer : TreeNode A)
      → Begins (code_trees s e a t closer)
  begins_code s false a t closer = tt
  begins_code s true a t closer = tt

  begins_markup : (s : Setting) (new : A) (a : TreeNode A) (m : Markup) → Begins (markup_trees s new a m)
  begins_markup s new a (autolink kind end bytes) = tt
  begins_markup s new a (html_markup end None) = tt
  begins_markup s new a (html_markup end (Some bytes)) = tt

  pub begins_trees : (s : Setting) (new : A) (a : TreeNode A) (found : Find A) → Begins (trees_for s new a found)
  begins_trees s new a (code_span t closer) = begins_code s (is_escaped (open_body a.part.shape)) a t closer
  begins_trees s new a (math_span display t end) = tt
  begins_trees s new a (markup m) = begins_markup s new a m
  begins_trees s new a nothing = tt

  delimiters_code : (s : Setting) (e : Bool) (a : TreeNode A) (t : SpanText) (closer : TreeNode A)
      → delimiters_in (code_trees s e a t closer) ≡ 0
  delimiters_code s false a t closer = refl
  delimiters_code s true a t closer = refl

  delimiters_markup : (s : Setting) (new : A) (a : TreeNode A) (m : Markup) → delimiters_in (markup_trees s new a m) ≡ 0
  delimiters_markup s new a (autolink kind end bytes) = refl
  delimiters_markup s new a (html_markup end None) = refl
  delimiters_markup s new a (html_markup end (Some bytes)) = refl

  delimiters_trees : (s : Setting) (new : A) (a : TreeNode A) (found : Find A) → delimiters_in (trees_for s new a found)
      ≡ 0
  delimiters_trees s new a (code_span t closer) = delimiters_code s (is_escaped (open_body a.part.shape)) a t closer
  delimiters_trees s new a (math_span display t end) = refl
  delimiters_trees s new a (markup m) = delimiters_markup s new a m
  delimiters_trees s new a nothing = refl

  unless_delimiters : (s : Setting) (notes : Notes A) (above : EnclosingBlocks) (n : ℕ) (a : TreeNode A)
      (below rest : Forest (TreeNode A)) (quiet : Bool)
      → delimiters_in (read_unless quiet s notes above n a below rest).trees ≤ counts_shape a.part.shape
  unless_delimiters s notes above n a below rest true = omega arith
  unless_delimiters s notes above n a below rest false = omega
      (arith, delimiters_trees s (notes.of_made n) a (find s above a rest))

  -- a tree has no more of them when it is read, nor has what is left of a chain
  pub read_delimiters : (s : Setting) (notes : Notes A) (above : EnclosingBlocks) (n : ℕ) (a : TreeNode A)
      (below rest : Forest (TreeNode A))
      → delimiters_in (read_tree s notes above n a below rest).trees ≤ counts_shape a.part.shape
  unfolding read_tree
  read_delimiters s notes above n a below rest = unless_delimiters s notes above n a below rest (is_quiet a.part.shape)

  cut_delimiters : (i : ℕ) (a : TreeNode A) (below after : Forest (TreeNode A))
      → delimiters_in (node (begun_at i a) below after)
      ≡ delimiters_in (node a below after)
  cut_delimiters i a below after = rw (cut_counts (i - a.part.range.start) a.part.shape) refl

  past_byte_delimiters : (i : ℕ) (chain : Forest (TreeNode A)) → delimiters_in (past_byte i chain) ≤ delimiters_in chain
  past_byte_delimiters i nil = omega arith
  past_byte_delimiters i (node a below after) = by (nat_le (end_of a) i) (past_byte_delimiters i after)
    where
      by : (b : Bool) → delimiters_in (past_byte i after) ≤ delimiters_in after
          → delimiters_in (if b then past_byte i after else node (begun_at i a) below after) ≤ delimiters_in
          (node a below after)
      by true h = omega arith
      by false h = omega (arith, cut_delimiters i a below after)

  pub past_delimiters : (goes_on : Option ℕ) (chain : Forest (TreeNode A))
      → delimiters_in (past goes_on chain) ≤ delimiters_in chain
  past_delimiters None chain = omega arith
  past_delimiters (Some i) chain = past_byte_delimiters i chain

  -- what was read of a tree is quiet, and no block, where the tree is no block and what is below it is so
  quiet_code : (s : Setting) (e : Bool) (a : TreeNode A) (t : SpanText) (closer : TreeNode A)
      → Each IsQuietNode (code_trees s e a t closer)
  quiet_code s false a t closer = ((refl, refl), tt, tt)
  quiet_code s true a t closer = ((refl, refl), tt, ((refl, refl), tt, tt))

  quiet_markup : (s : Setting) (new : A) (a : TreeNode A) (m : Markup) → Each IsQuietNode (markup_trees s new a m)
  quiet_markup s new a (autolink kind end bytes) = ((refl, refl), ((refl, refl), tt, tt), tt)
  quiet_markup s new a (html_markup end None) = ((refl, refl), tt, tt)
  quiet_markup s new a (html_markup end (Some bytes)) = ((refl, refl), tt, tt)

  quiet_trees : (s : Setting) (new : A) (a : TreeNode A) (found : Find A) → is_some a.part.block ≡ false
      → Each IsQuietNode (trees_for s new a found)
  quiet_trees s new a (code_span t closer) h = quiet_code s (is_escaped (open_body a.part.shape)) a t closer
  quiet_trees s new a (math_span display t end) h = ((refl, refl), tt, tt)
  quiet_trees s new a (markup m) h = quiet_markup s new a m
  quiet_trees s new a nothing h = ((refl, h), tt, tt)

  unless_quiet : (s : Setting) (notes : Notes A) (above : EnclosingBlocks) (n : ℕ) (a : TreeNode A)
      (below rest : Forest (TreeNode A)) (quiet : Bool) → is_quiet a.part.shape ≡ quiet
      → is_some a.part.block ≡ false → Each IsQuietNode below
      → Each IsQuietNode (read_unless quiet s notes above n a below rest).trees
  unless_quiet s notes above n a below rest true e h inner = ((e, h), inner, tt)
  unless_quiet s notes above n a below rest false e h inner = quiet_trees s (notes.of_made n) a (find s above a rest) h

  pub read_quiet : (s : Setting) (notes : Notes A) (above : EnclosingBlocks) (n : ℕ) (a : TreeNode A)
      (below rest : Forest (TreeNode A)) → is_some a.part.block ≡ false → Each IsQuietNode below
      → Each IsQuietNode (read_tree s notes above n a below rest).trees
  unfolding read_tree
  read_quiet s notes above n a below rest h inner = unless_quiet s notes above n a below rest
      (is_quiet a.part.shape) refl
      h inner

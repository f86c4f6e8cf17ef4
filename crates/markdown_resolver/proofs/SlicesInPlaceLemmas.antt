-- Pairing moves no tree out of its place, and fresh chains refer to no slices: so in each chain of a well-formed block
-- result, once it is resolved, the slices of each tree are in its own range, but for the first that a wikilink shows
-- after its pipe.
use Rattle.std.proofs.Common.{◌≡◌, ℕ, Bool, true, false, ◌&&◌, ◌==◌, List, [], refl, sym, ap, subst, ⊎_elim, inl, inr}
use Rattle.std.specs.Prelude.{IsTrue, ◌⊎◌, if◌then◌else◌, slice_range}
use Rattle.std.specs.List.{list_all}
use Rattle.std.proofs.lemmas.Bool.{and_parts}
use Rattle.markdown_base.specs.BlockTree.{Numbered, tree_of}
use Rattle.markdown_base.specs.Event.{TagView}
use Rattle.markdown_base.specs.Forest.{Forest, nil, node, relabelled, roots}
use Rattle.markdown_base.specs.Item.{body_kind, is_inline, is_resolved}
use Rattle.markdown_base.specs.WellFormed.{AllKeepRules, IsWellFormed, PartCounts, all_inline, counts_of}
use Rattle.markdown_base.specs.declared.block_parts.BlockParts.{BlockParts}
use Rattle.markdown_base.specs.declared.item.Item.{Item}
use Rattle.markdown_base.specs.declared.item.ItemBody.{ItemBody}
use Rattle.markdown_base.specs.declared.item.ItemBody.TheVariants as body
use Rattle.markdown_base.specs.declared.node.Node.{Node}
use Rattle.markdown_delims.specs.declared.extensions.Extensions.{Extensions}
use Rattle.markdown_delims.specs.Layers.{enclosed_if, extensions_of, layer_of_one, layer_of_two, spanned}
use Rattle.markdown_delims.specs.Pairing.{paired}
use Rattle.markdown_delims.specs.Quotes.{double_turn, first_turn, is_closed_later, is_end, kind_of_shape, left_single}
use Rattle.markdown_delims.specs.Quotes.{quotes_after, right_single, single_turn, turn_by, with_quotes}
use Rattle.markdown_delims.specs.declared.quotes.Kind.TheVariants as quote_kind
use Rattle.markdown_delims.specs.declared.run.Delimiter.{Delimiter}
use Rattle.markdown_delims.specs.declared.run.Delimiter.TheVariants.{Star, Underscore, Tilde, Caret}
use Rattle.markdown_delims.proofs.ChainLawLemmas.{KeptByPairing, kept-by-pairing}
use Rattle.markdown_document.specs.ChainRest.{end_of, joined_chains, start_of}
use Rattle.markdown_document.specs.Document.{Plain, Shape, TreeNode, backslash_break, document, enclosed, is_unresolved}
use Rattle.markdown_document.specs.Document.{no_notes, shape_of, shaped, tree_node_of, unresolved}
use Rattle.markdown_document.specs.Setting.{Rules, Setting, setting_of}
use Rattle.markdown_document.specs.Tables.{Tables}
use Rattle.markdown_resolver.specs.Kept.{EachChain}
use Rattle.markdown_resolver.specs.Resolved.{all_paired, paired_from, paired_if_open, resolved}
use Rattle.markdown_resolver.specs.SlicesInPlace.{ResolvesInPlace, SlicesInPlace, shows_after_pipe}
use Rattle.markdown_resolver.proofs.ApartLemmas.{LieApart}
use Rattle.markdown_resolver.proofs.NestedChainsLemmas.{chains_of, document_apart, inline_childless}
use Rattle.markdown_resolver.proofs.PassOneSlicesLemmas.{IsFresh, in_place-none, no_pipe, pass_one_in_place, refers}

-- ---- pairing

open_pipe : (shape : Shape) → is_unresolved shape ≡ true → shows_after_pipe shape ≡ false
open_pipe (unresolved b) e = refl
open_pipe other e = cc e

if_refers : (b : Bool) (t : TagView) (other : Shape) → refers (enclosed t []) ≡ false → refers other ≡ false
    → refers (enclosed_if b t other) ≡ false
if_refers true t other h k = h
if_refers false t other h k = k

one_refers : (m : Extensions) (d : Delimiter) (bytes : List ℕ) → refers (layer_of_one m d bytes) ≡ false
one_refers m Star bytes = refl
one_refers m Underscore bytes = refl
one_refers m Tilde bytes = if_refers m.subscript _ _ refl (if_refers m.strikethrough _ _ refl refl)
one_refers m Caret bytes = if_refers m.superscript _ _ refl refl

two_refers : (m : Extensions) (d : Delimiter) (bytes : List ℕ) → refers (layer_of_two m d bytes) ≡ false
two_refers m Star bytes = refl
two_refers m Underscore bytes = refl
two_refers m Tilde bytes = if_refers m.strikethrough _ _ refl refl
two_refers m Caret bytes = if_refers m.superscript _ _ refl refl

-- what a quotation mark or a break becomes refers to nothing
Turns : Shape → Shape → Type 0
Turns shape made = (made ≡ shape) ⊎ ((refers made ≡ false) × (shows_after_pipe shape ≡ false))

turns : (shape : Shape) (single double later last : Bool)
    → Turns shape (turn_by (kind_of_shape shape) shape single double later last).made
unfolding Turns
turns backslash_break single double later last = by last
  where
    by : (last : Bool) → Turns backslash_break (turn_by (kind_of_shape backslash_break) backslash_break single double
        later last).made
    by true = inr (refl, refl)
    by false = inl refl
turns (unresolved (body.MaybeSmartQuote quote opens closes)) single double later last = by (quote == 39)
  where
    shape : Shape
    shape = unresolved (body.MaybeSmartQuote quote opens closes)

    by : (b : Bool) → Turns shape (turn_by (if b then quote_kind.Single opens closes else quote_kind.Double opens
        closes) shape
        single double later last).made
    by true = inr (single_refers (single && closes), refl)
      where
        single_refers : (closing : Bool) → refers (single_turn closing opens single double later).made ≡ false
        single_refers true = refl
        single_refers false = if_opens (opens && later)
          where
            if_opens : (b : Bool) → refers (if b then left_single else right_single) ≡ false
            if_opens true = refl
            if_opens false = refl
    by false = inr (double_refers (double && closes), refl)
      where
        double_refers : (closing : Bool) → refers (double_turn closing opens single double).made ≡ false
        double_refers true = refl
        double_refers false = refl
turns other single double later last = inl refl

module _ {A : Type 0} (source : List ℕ) where
  joined_first : (f g : Forest (TreeNode A)) → SlicesInPlace source false (joined_chains f g)
      → SlicesInPlace source false f
  joined_first nil g h = tt
  joined_first (node a below after) g h = (h.0, h.1, joined_first after g h.2)

  joined_rest : (f g : Forest (TreeNode A)) → SlicesInPlace source false (joined_chains f g)
      → SlicesInPlace source false g
  joined_rest nil g h = h
  joined_rest (node a below after) g h = joined_rest after g h.2

  -- a tree that refers to no slice, with a chain below it and another after it
  pub put_around : (cut : Bool) (a : TreeNode A) (below after : Forest (TreeNode A)) → refers a.part.shape ≡ false
      → SlicesInPlace source false below → SlicesInPlace source false after
      → SlicesInPlace source cut (node a below after)
  put_around cut a below after none inner later = (
    (λ e. in_place-none source (start_of a) (end_of a) a.part.shape none),
    subst (λ (b : Bool). SlicesInPlace source b below) (sym (no_pipe a.part.shape none)) inner,
    later,
  )

module _ {A : Type 0} (s : Setting) where
  abbrev In : Bool → Forest (TreeNode A) → Type 0
  In cut f = SlicesInPlace s.text cut f

  in_kept : KeptByPairing s In
  in_kept = record {
    after = λ a below f g l i h. (h.0, h.1, l false h.2);
    text = λ a below f g l i h. ((λ e. tt), tt, l false h.2);
    closed = λ a below after opens i h. (
      (λ e. tt),
      subst (λ (b : Bool). In b below) (open_pipe a.part.shape opens) h.1,
      h.2,
    );
    one = λ d x v inside rest c i h.
        put_around s.text i (spanned s.text (layer_of_one (extensions_of s.rules.syntax) d) x v) inside rest
        (one_refers (extensions_of s.rules.syntax) d _) (joined_first s.text inside (node v nil rest) h.2)
        (joined_rest s.text inside (node v nil rest) h.2).2;
    two = λ d x y v w inside rest c i h.
        put_around s.text i (spanned s.text (layer_of_two (extensions_of s.rules.syntax) d) y w) inside rest
        (two_refers (extensions_of s.rules.syntax) d _)
        (joined_first s.text inside (node v nil (node w nil rest)) h.2.2)
        (joined_rest s.text inside (node v nil (node w nil rest)) h.2.2).2.2;
  }

  quotes_in : (single double cut : Bool) (f : Forest (TreeNode A)) → In cut f → In cut (quotes_after single double f)
  unfolding Turns
  quotes_in single double cut nil h = tt
  quotes_in single double cut (node a below after) h =
      let turn = first_turn a after single double in
      let later = quotes_in turn.single turn.double false after h.2 in
      ⊎_elim
      (λ (same : turn.made ≡ a.part.shape).
      subst (λ (shape : Shape). In cut (node (shaped shape a) below (quotes_after turn.single turn.double after)))
      (sym same) (h.0, h.1, later))
      (λ (k : (refers turn.made ≡ false) × (shows_after_pipe a.part.shape ≡ false)).
      put_around s.text cut (shaped turn.made a) below (quotes_after turn.single turn.double after) k.0
      (subst (λ (b : Bool). In b below) k.1 h.1) later)
      (turns a.part.shape single double (is_closed_later after) (is_end after))

  paired_in : (cut : Bool) (f : Forest (TreeNode A)) → In cut f → In cut (paired s f)
  unfolding paired with_quotes
  paired_in cut f h = kept-by-pairing s In in_kept cut (quotes_after false false f) (quotes_in false false cut f h)

  if_open_in : (cut : Bool) (f : Forest (TreeNode A)) → In cut f → In cut (paired_if_open s f)
  if_open_in cut nil h = tt
  if_open_in cut (node a below after) h = by (is_unresolved a.part.shape) (if_open_in false after h.2)
    where
      by : (opens : Bool) → In false (paired_if_open s after)
          → In cut (paired_from s opens a below after (paired_if_open s after))
      by true later = paired_in cut (node a below after) h
      by false later = (h.0, h.1, later)

  all_paired_in : (cut : Bool) (f : Forest (TreeNode A)) → In cut f → In cut (all_paired s f)
  all_paired_in cut nil h = tt
  all_paired_in cut (node a below after) h = (
    h.0,
    if_open_in (shows_after_pipe a.part.shape) (all_paired s below)
        (all_paired_in (shows_after_pipe a.part.shape) below h.1),
    all_paired_in false after h.2,
  )

-- ---- fresh chains

-- what is not resolved refers to no slice
pub unresolved_refers : (tables : Tables) (bytes : List ℕ) (b : ItemBody) → is_resolved b ≡ false
    → refers (shape_of tables bytes b) ≡ false
unresolved_refers tables bytes (body.Code ix) e = cc e
unresolved_refers tables bytes (body.Math ix display) e = cc e
unresolved_refers tables bytes (body.Link ix) e = cc e
unresolved_refers tables bytes (body.Image ix) e = cc e
unresolved_refers tables bytes (body.HardBreak true) e = refl
unresolved_refers tables bytes (body.HardBreak false) e = refl
unresolved_refers tables bytes other e = refl

module _ (source : List ℕ) (tables : Tables) (counts : PartCounts) where
  chain_fresh : (f : Forest Numbered) → AllKeepRules source counts f → IsTrue (all_inline f)
      → IsFresh (relabelled (λ (a : Numbered). tree_node_of source tables a.item) f)
  chain_fresh nil h all = tt
  chain_fresh (node a below after) h all =
      let inline = and_parts (is_inline a.item.body) (list_all (λ n. is_inline n.item.body) (roots after)) all in
      let none : below ≡ nil = h.0.chains_are_kept.childless (inline_childless (body_kind a.item.body) inline.0) in (
        unresolved_refers tables (slice_range source a.item.start a.item.end) a.item.body h.0.nothing_resolved,
        ap (relabelled (λ (a : Numbered). tree_node_of source tables a.item)) none,
        chain_fresh after h.2 inline.1,
      )

document_fresh : (source : List ℕ) (nodes : List (Node Item)) (parts : BlockParts) (tables : Tables)
    → IsWellFormed source nodes parts → EachChain IsFresh (document source tables nodes)
document_fresh source nodes parts tables formed =
    chains_of source tables (counts_of parts) IsFresh (chain_fresh source tables (counts_of parts)) (tree_of nodes)
    formed.rules (λ opens. absurd (cc (opens, formed.top_is_closed)))

chains_in_place : (s : Setting) (f : Forest Plain) → EachChain (LieApart 0) f → EachChain IsFresh f
    → EachChain (ResolvesInPlace s) f
unfolding resolved
chains_in_place s nil h k = tt
chains_in_place s (node a below after) h k = (
  (λ opens above state. all_paired_in s false _ (paired_in s false _
      (pass_one_in_place s no_notes above (node a below after) state (h.0 opens) (k.0 opens)))),
  chains_in_place s below h.1 k.1,
  chains_in_place s after h.2 k.2,
)

pub document_in_place : (source : List ℕ) (nodes : List (Node Item)) (parts : BlockParts) (tables : Tables)
    (rules : Rules) → IsWellFormed source nodes parts
    → EachChain (ResolvesInPlace (setting_of source rules)) (document source tables nodes)
document_in_place source nodes parts tables rules formed =
    chains_in_place (setting_of source rules) (document source tables nodes)
    (document_apart source nodes parts tables formed) (document_fresh source nodes parts tables formed)

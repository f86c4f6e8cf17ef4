-- Proofs of the sentences about one line more.
use Rattle.std.proofs.Common.{◌≡◌, not, [], Some, None, Option, Bool, refl, sym, ap, ◌∙◌, true, false, ◌&&◌}
use Rattle.std.proofs.lemmas.Bool.{true≢false}
use Rattle.std.proofs.lemmas.Iterator.Adapters.{option_map_id}
use Rattle.std.specs.Prelude.{unwrap_or, if◌then◌else◌}
use Rattle.std.specs.Option.{option_map}
use Rattle.markdown_base.specs.Forest.{Forest, nil, node}
use Rattle.markdown_lines.specs.declared.block_start.Before.TheVariants as paragraph
use Rattle.markdown_base.specs.Source.{Source}
use Rattle.markdown_base.proofs.BoolLemmas.{or_first, or_second}
use Rattle.markdown_lines.specs.BlockBeginnings.{begins}
use Rattle.markdown_block_rules.specs.BlockGrowth.{Block, Kind, block_with, goes_on, is_nil, is_text, lazily}
use Rattle.markdown_block_rules.specs.BlockGrowth.{line_block, paragraph_leaf, with_lazy, with_line, with_lazy_text}
use Rattle.markdown_block_laws.specs.BlockLaws.{no_quoted, one_quoted, to_line, rest_of, lone, with_lines}
use Rattle.markdown_block_laws.specs.BlockLaws.{MarkedLineGoesIntoQuote, MarkedLinesGoIntoQuote, BlankLineEndsQuote}
use Rattle.markdown_block_laws.specs.BlockLaws.{MarkerBeforeTextMayBeLeftOut, IndentedLineGoesIntoItem}
use Rattle.markdown_block_laws.specs.BlockLaws.{is_paragraph_block, end_with_paragraph}
use Rattle.markdown_block_laws.specs.BlockLaws.{IndentationBeforeTextMayBeLeftOut, OnlyParagraphsGoOnLazily}
use Rattle.markdown_block_laws.specs.BlockLaws.{LineChangesTheLastBlock}
use Rattle.markdown_lines.specs.SourceLines.{SourceLine, is_blank_rest, text_line}
use Rattle.markdown_builder.specs.TreeLevels.{followed_by}

pub marked_line : MarkedLineGoesIntoQuote
unfolding goes_on
marked_line s b below l rest is marker = rw (is, marker) refl

pub marked_lines : MarkedLinesGoIntoQuote
marked_lines s b below [] [] is no_quoted = refl
marked_lines s b below _ _ is (one_quoted l rest lines rests marker more) =
    ap (λ (f : Forest Block). with_lines s f lines) (marked_line s b below l rest is marker)
    ∙ marked_lines s (to_line l b) (with_line s below (rest_of l rest)) lines rests is more

pub blank_ends : BlankLineEndsQuote
unfolding goes_on
blank_ends s b below l is blank unmarked = rw (is, unmarked, blank) refl

text_same : (a b : SourceLine) (c : Block) (below : Forest Block) (kind : Kind) → text_line a ≡ text_line b
    → with_lazy_text a c below kind ≡ with_lazy_text b c below kind
text_same a b c below (paragraph_leaf lines) same =
    let ends : a.next ≡ b.next = ap (λ (l : SourceLine). l.next) same in rw (same, ends) refl
text_same a b c below other same = refl

lazily_same : (a b : SourceLine) (blocks : Forest Block) → text_line a ≡ text_line b
    → with_lazy a blocks ≡ with_lazy b blocks
unfolding with_lazy
lazily_same a b nil same = refl
lazily_same a b (node c below after) same =
    let ends : a.next ≡ b.next = ap (λ (l : SourceLine). l.next) same in
    rw (text_same a b c below c.kind same, lazily_same a b below same, lazily_same a b after same, ends) refl

pub marker_left_out : MarkerBeforeTextMayBeLeftOut
unfolding goes_on
marker_left_out s b below grown marked bare rest is marker unmarked same goes grows full begins_text =
    let next : marked.next ≡ bare.next = ap (λ (l : SourceLine). l.next) same in
    let more : with_lazy bare below ≡ Some grown =
    sym (lazily_same (rest_of marked rest) bare below same) ∙ grows in
    rw (is, marker, unmarked, full, begins_text, more, goes, next) refl

pub indented_line : IndentedLineGoesIntoItem
unfolding goes_on
indented_line s list b marker indent below l rest lists is holds indented = rw (lists, is, holds, indented) refl

pub indentation_left_out : IndentationBeforeTextMayBeLeftOut
unfolding goes_on
indentation_left_out s list b marker indent below grown deep bare rest lists is indented bare_ends same goes grows
    deep_full full begins_text =
    let next : deep.next ≡ bare.next = ap (λ (l : SourceLine). l.next) same in
    let more : with_lazy bare below ≡ Some grown =
    sym (lazily_same (rest_of deep rest) bare below same) ∙ grows in
    rw (lists, is, indented, bare_ends, deep_full, full, begins_text, more, goes, next) refl

-- a block that is no paragraph takes no text
no_text : (l : SourceLine) (b : Block) (below : Forest Block) (kind : Kind)
    → is_paragraph_block kind ≡ false → with_lazy_text l b below kind ≡ None
no_text l b below (paragraph_leaf lines) is = absurd (true≢false is)
no_text l b below other is = refl

no_paragraph : (l : SourceLine) (blocks : Forest Block) → end_with_paragraph blocks ≡ false → with_lazy l blocks ≡ None
unfolding with_lazy
no_paragraph l nil none = refl
no_paragraph l (node b below nil) none =
    rw (
      no_text l b below b.kind
          (or_first (is_paragraph_block b.kind) (end_with_paragraph below) none),
      no_paragraph l below (or_second (is_paragraph_block b.kind) (end_with_paragraph below) none),
    ) refl
no_paragraph l (node b below (node c inside after)) none = rw (no_paragraph l (node c inside after) none) refl

lazily_none : (s : Source) (l : SourceLine) (below : Forest Block) → end_with_paragraph below ≡ false
    → lazily s l below ≡ None
lazily_none s l below none =
    rw (no_paragraph l below none) (both_none (not (is_blank_rest l) && is_text (begins s paragraph.Lazy l)))
  where
    unchosen : Bool → Option (Forest Block)
    unchosen test = if test then None else None

    both_none : (test : Bool) → unchosen test ≡ None
    both_none true = refl
    both_none false = refl

pub only_paragraphs : OnlyParagraphsGoOnLazily
unfolding goes_on
only_paragraphs s b below l is unmarked none = rw (is, unmarked, lazily_none s l below none) refl

mapped_twice : {A B C : Type 0} (f : B → C) (g : A → B) (o : Option A)
    → option_map f (option_map g o) ≡ option_map (λ x. f (g x)) o
mapped_twice f g None = refl
mapped_twice f g (Some x) = refl

pub ends_in_block : (before : Forest Block) (b : Block) (below : Forest Block)
    → is_nil (followed_by before (node b below nil)) ≡ false
ends_in_block nil b below = refl
ends_in_block (node c inside after) b below = refl

joined_more : (a b c : Forest Block) → followed_by (followed_by a b) c ≡ followed_by a (followed_by b c)
joined_more nil b c = refl
joined_more (node d below after) b c = ap (node d below) (joined_more after b c)

-- the blocks before a block are unchanged where it goes on
goes_on_last : (s : Source) (before : Forest Block) (b : Block) (below : Forest Block) (l : SourceLine)
    → goes_on s (followed_by before (lone b below)) l ≡ option_map (followed_by before) (goes_on s (lone b below) l)
unfolding goes_on
goes_on_last s nil b below l = sym (option_map_id (block_with s l b below (goes_on s below)))
goes_on_last s (node c inside after) b below l =
    rw (ends_in_block after b below, goes_on_last s after b below l)
    (mapped_twice (λ f. node c inside f) (followed_by after) (goes_on s (lone b below) l))

either_way : (before last new : Forest Block) (grown : Option (Forest Block))
    → unwrap_or (option_map (followed_by before) grown) (followed_by (followed_by before last) new)
    ≡ followed_by before (unwrap_or grown (followed_by last new))
either_way before last new None = joined_more before last new
either_way before last new (Some f) = refl

pub last_block : LineChangesTheLastBlock
last_block s before b below l =
    rw (goes_on_last s before b below l)
    (either_way before (lone b below) (line_block s l) (goes_on s (lone b below) l))

-- An opener of math in an arena, and what closes math at a `$` there.
use Rattle.std.specs.Prelude.{ℕ, true, false, not, ◌&&◌, ◌==◌, List, [], Option, Some, None, is_some, if◌then◌else◌}
use Rattle.std.specs.Prelude.{option_to_list}
use Rattle.std.specs.Option.{option_map}
use Rattle.markdown_base.specs.declared.item.Item.{Item}
use Rattle.markdown_base.specs.declared.node.Node.{Node}
use Rattle.markdown_base.specs.Arena.{sibling_of}
use Rattle.markdown_base.specs.BlockTree.{item_at}
use Rattle.markdown_spans.specs.Closers.{can_close, can_open, context_of, is_dollar}
use Rattle.markdown_spans.specs.declared.span_closers.FoundMath.{FoundMath}
use Rattle.markdown_spans.specs.SpanMarks.{mark_at}
use Rattle.markdown_spans.specs.declared.math_opener.MathOpener.{MathOpener}
use Rattle.markdown_spans.specs.declared.span_marks.SpanMark.{SpanMark}
use Rattle.markdown_spans.specs.declared.span_text.SpanKind.TheVariants.{Math}

-- the number of the `$` that a link leads to, if it leads to one
abbrev pub dollar_at : List (Node Item) → Option ℕ → Option ℕ
dollar_at nodes None = None
dollar_at nodes (Some ix) = if is_dollar (item_at nodes ix).body then Some ix else None

-- the opener at a node, if the node is a `$` that can open
abbrev pub opener_at : List (Node Item) → ℕ → Option MathOpener
opener_at nodes ix =
    if can_open (item_at nodes ix).body
    then Some (record {
      number = ix;
      end = (item_at nodes ix).end;
      context = context_of (item_at nodes ix).body;
      second = dollar_at nodes (sibling_of nodes ix);
    })
    else None

-- the link after an opener's second `$`, or after the opener if it has none
abbrev pub link_after : List (Node Item) → Option ℕ → ℕ → Option ℕ
link_after nodes None ix = sibling_of nodes ix
link_after nodes (Some second) ix = sibling_of nodes second

-- the first node that is searched for what closes an opener
abbrev pub searched_from : List (Node Item) → MathOpener → Option ℕ
searched_from nodes opener = link_after nodes opener.second opener.number

-- what closes inline math at a `$`, if the span is not empty and the `$` can close
abbrev pub inline_closed : List (Node Item) → (opener_end : ℕ) → ℕ → Option FoundMath
inline_closed nodes opener_end ix =
    if can_close (item_at nodes ix).body && not (opener_end == (item_at nodes ix).start)
    then Some (record { display = false; closer = ix; last = ix }) else None

-- what closes display math at a `$`, if the next item is a `$` too
abbrev pub display_closed : List (Node Item) → ℕ → Option FoundMath
display_closed nodes ix =
    option_map (λ last. record { display = true; closer = ix; last = last }) (dollar_at nodes (sibling_of nodes ix))

-- what closes an opener at a `$`
abbrev pub closed_at : List (Node Item) → MathOpener → ℕ → Option FoundMath
closed_at nodes opener ix = if is_some opener.second then display_closed nodes ix else inline_closed nodes opener.end ix

-- what closes an opener, given the first `$` of its brace context, if there is one
abbrev pub closed_by_first : List (Node Item) → MathOpener → Option ℕ → Option FoundMath
closed_by_first nodes opener None = None
closed_by_first nodes opener (Some ix) = closed_at nodes opener ix

-- the mark that a link leads to, as a list
abbrev pub marks_at : List (Node Item) → Option ℕ → List SpanMark
marks_at nodes None = []
marks_at nodes (Some ix) = option_to_list (mark_at Math ix (item_at nodes ix).body)

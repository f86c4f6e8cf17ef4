-- What is read of groups, as views. Only private clauses cite this.
use Rattle.std.specs.Prelude.{ℕ, List, map, ◌==◌, if◌then◌else◌, Option, None}
use Rattle.std.specs.Option.{option_map}
use Rattle.std.specs.Borrow.{Bor}
use Rattle.markdown_base.specs.CowText.{text_of}
use Rattle.markdown_base.specs.Event as event
use Rattle.markdown_base.specs.Event.{EventView, HeadingView, LinkView, attribute_view}
use Rattle.markdown_records.specs.Decoded.{Group, if_bare, plain}
use Rattle.markdown_records.specs.Numbers as number
use Rattle.markdown_records.specs.NumbersRead.{bool_of}
use Rattle.markdown_records.specs.RecordView.{RecordView, records_in}
use Rattle.markdown_records.specs.declared.read_tags.HeadingRead.{HeadingRead}
use Rattle.markdown_records.specs.declared.read_tags.LinkRead.{LinkRead}

-- the first text, and the records after it
abbrev pub part_and_rest : Bor (List ℕ) × Bor (List ℕ) → List ℕ × List RecordView
part_and_rest found = (found.0.now, records_in found.1.now)

-- two texts
abbrev pub both_words : Bor (List ℕ) × Bor (List ℕ) → List ℕ × List ℕ
both_words texts = (texts.0.now, texts.1.now)

-- the fields of a link
abbrev pub link_read : LinkRead → LinkView
link_read l = record {
  kind = l.link_type;
  destination = l.destination.now;
  title = l.title.now;
  label = l.label.now;
}

-- the fields of a heading so far
abbrev pub heading_read : HeadingRead → HeadingView
heading_read h = record {
  level = h.level;
  id = option_map text_of h.id;
  classes = map text_of h.classes.items;
  attributes = map attribute_view h.attributes.items;
}

-- an event without a text that is neither a Start nor an End
abbrev pub bare_leaf_in : (source pool : List ℕ) → Group → Option EventView
bare_leaf_in source pool g =
    if g.head.kind == number.soft_break_kind then plain source pool g event.soft_break
    else if g.head.kind == number.hard_break_kind then plain source pool g event.hard_break
    else if g.head.kind == number.rule_kind then plain source pool g event.rule
    else if g.head.kind == number.task_list_marker_kind
    then if_bare source pool g (option_map (λ done. event.task_list_marker done) (bool_of g.head.detail))
    else None

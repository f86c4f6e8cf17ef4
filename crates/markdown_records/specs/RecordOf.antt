-- Records of the code, and drafts of them, as views. Only private clauses cite this.
use Rattle.std.specs.Prelude.{ℕ, map}
use Rattle.std.specs.Option.{option_map}
use Rattle.std.specs.declared.ops.Range.{Range}
use Rattle.markdown_base.specs.CowText.{text_of}
use Rattle.markdown_base.specs.Event.{HeadingView, LinkView, attribute_view}
use Rattle.markdown_records.specs.Drafts.{DraftView, Wording, no_text, number_instead, pooled, sought}
use Rattle.markdown_records.specs.RecordView.{RecordView}
use Rattle.markdown_records.specs.Encoded.{Spot}
use Rattle.markdown_records.specs.declared.draft.Draft.{Draft}
use Rattle.markdown_records.specs.declared.draft.Span.{Span}
use Rattle.markdown_records.specs.declared.draft.TextPlace.{TextPlace}
use Rattle.markdown_records.specs.declared.draft.TextPlace.TheVariants as text
use Rattle.markdown_records.specs.declared.draft.SpotHeld.{SpotHeld}
use Rattle.markdown_records.specs.declared.link.Heading.{Heading}
use Rattle.markdown_records.specs.declared.link.Link.{Link}
use Rattle.markdown_records.specs.declared.record.Record.{Record}

abbrev pub record_view : Record → RecordView
record_view r = record {
  kind = r.kind;
  detail = r.detail;
  place = r.place;
  spare = r.spare;
  start = r.start;
  end = r.end;
  at = r.at;
  length = r.length;
  parts = r.parts;
}

abbrev pub wording_of : TextPlace → Wording
wording_of text.Absent = no_text
wording_of (text.Number n) = number_instead n
wording_of (text.Pooled words) = pooled words.now
wording_of (text.Sought words first second) = sought first second words.now

abbrev pub span_range : Span → Range ℕ
span_range s = record { start = s.start; end = s.end }

abbrev pub draft_view : Draft → DraftView
draft_view d = record {
  kind = d.kind;
  detail = d.detail;
  range = span_range d.span;
  wording = wording_of d.text;
  parts = d.parts;
}

-- a place of a text
abbrev pub spot_view : SpotHeld → Spot
spot_view spot = record { place = spot.place; at = spot.at; length = spot.length }

-- the fields of a heading, with the bytes of their texts
abbrev pub heading_of : Heading → HeadingView
heading_of h = record {
  level = h.level;
  id = option_map text_of h.id.now;
  classes = map text_of h.classes.now;
  attributes = map attribute_view h.attributes.now;
}

-- the fields of a link, with the bytes of their texts
abbrev pub link_of : Link → LinkView
link_of l = record {
  kind = l.link_type;
  destination = l.destination.now;
  title = l.title.now;
  label = l.label.now;
}

-- The HTML of what records say of a text, and why there is none.
use Rattle.std.specs.Prelude.{◌≡◌, ◌++◌, ⊤, ℕ, List, Some, None}
use Rattle.markdown_base.specs.Event.{EventView}
use Rattle.markdown_base.specs.declared.fault.Fault.TheVariants.{Blocks, Depth, Memory}
use Rattle.markdown_out.specs.EventHtml.{html_of}
use Rattle.markdown_out.specs.LookBacks.{IsTooDeep}
use Rattle.markdown_records.specs.Decoded.{decoded}
use Rattle.markdown_records.specs.RecordEntry.{Contents}
use Rattle.markdown_records.specs.SaidBy.{events_among}
use Rattle.markdown_records.specs.declared.fault.RecordFault.{RecordFault}
use Rattle.markdown_records.specs.declared.fault.RecordFault.TheVariants.{NotRecords, Of, TooLong}
use Rattle.markdown_safe.specs.SafeEvents.{safe_html_of}
use Rattle.markdown_safe.specs.SafeHtml.{IsSafeHtml}
use Rattle.markdown_safe.specs.SafeRules.{SafeRulesView}

-- the HTML of the events that records say
pub record IsHtmlOfRecords (source bytes html : List ℕ) : Type 0 where
  pub contents : Contents
  pub said : decoded source bytes ≡ Some contents
  pub is : html ≡ html_of (events_among contents.entries)

-- their safe HTML by rules, which is safe
pub record IsSafeHtmlOfRecords (rules : SafeRulesView) (source bytes html : List ℕ) : Type 0 where
  pub contents : Contents
  pub said : decoded source bytes ≡ Some contents
  pub is : html ≡ safe_html_of rules (events_among contents.entries)
  pub safe : IsSafeHtml html

-- among the first of the events that records say, as they are written, more Starts are open in an image than can be
-- counted
pub record ReadsTooDeep (as_written : List EventView → List EventView) (source bytes : List ℕ) : Type 0 where
  pub contents : Contents
  pub said : decoded source bytes ≡ Some contents
  pub first : List EventView
  pub others : List EventView
  pub begin : events_among contents.entries ≡ first ++ others
  pub deep : IsTooDeep (as_written first)

-- this is why there is none
abbrev pub IsFaultOf : (as_written : List EventView → List EventView) → (source bytes : List ℕ) → RecordFault → Type 0
IsFaultOf as_written source bytes NotRecords = decoded source bytes ≡ None
IsFaultOf as_written source bytes TooLong = ⊥
IsFaultOf as_written source bytes (Of Memory) = ⊤
IsFaultOf as_written source bytes (Of Blocks) = ⊥
IsFaultOf as_written source bytes (Of Depth) = ReadsTooDeep as_written source bytes

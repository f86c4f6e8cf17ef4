-- What comes from a range of the source comes from a wider one.
use Rattle.std.proofs.Common.{◌≡◌, ℕ, zero, suc, ◌≤◌, Bool, true, false, List, arith}
use Rattle.std.specs.Prelude.{if◌then◌else◌, slice_range}
use Rattle.std.specs.declared.ops.Range.{Range}
use Rattle.std.proofs.Math.Logic.{∥∥₁_map}
use Rattle.markdown_base.specs.Event.{LinkView}
use Rattle.markdown_base.specs.declared.item.Item.{Item}
use Rattle.markdown_base.specs.declared.item.ItemBody.{ItemBody}
use Rattle.markdown_base.specs.declared.item.ItemBody.TheVariants as body
use Rattle.markdown_base.specs.declared.tag.LinkType.{LinkType}
use Rattle.markdown_base.specs.declared.tag.LinkType.TheVariants as kind
use Rattle.markdown_document.specs.LinkOrigins.{IsLinkFrom, IsSlice, IsTitleFrom, LinkOrigins}
use Rattle.markdown_document.specs.Origins.{IsSliceWithin, Origin, sliced}
use Rattle.markdown_document.specs.Places.{follows_pipe, origin_start}
use Rattle.markdown_document.specs.PlacedNodes.{ComesFromPlace, HasSlices}
use Rattle.markdown_document.specs.Tables.{Tables, link_at}
use Rattle.markdown_document.specs.NamedEntries.{link_origins_at}

-- a slice within a range is one within a wider range
pub slice_wider : (text : List ℕ) (start end start' end' : ℕ) (bytes : List ℕ) → start' ≤ start → end ≤ end'
    → IsSliceWithin text start end bytes → IsSliceWithin text start' end' bytes
slice_wider text start end start' end' bytes low high h =
    ∥∥₁_map h (λ (p : (range : Range ℕ) × (start ≤ range.start) × (range.end ≤ end)
    × (bytes ≡ slice_range text range.start range.end)). (
      p.0,
      omega (arith, low, p.1),
      omega (arith, high, p.2),
      p.3,
    ))

-- so is a title, and so is what a link leads to
pub title_wider : (source : List ℕ) (start end start' end' : ℕ) (link_type : LinkType) (origin : Origin)
    (title : List ℕ)
    → start' ≤ start → end ≤ end' → IsTitleFrom source start end link_type origin title
    → IsTitleFrom source start' end' link_type origin title
title_wider source start end start' end' kind.Inline origin title low high h = λ is.
    slice_wider source start end start' end' title low high (h is)
title_wider source start end start' end' other origin title low high h = tt

destination_wider : (source : List ℕ) (start end start' : ℕ) (origin : Origin) (bytes : List ℕ) → start' ≤ start
    → IsSlice source start end origin bytes → IsSlice source start' end origin bytes
destination_wider source start end start' sliced bytes low h = slice_wider source start end start' end bytes low
    (omega arith) h
destination_wider source start end start' other bytes low h = absurd h

link_wider : (source : List ℕ) (start end start' : ℕ) (origins : LinkOrigins) (link : LinkView) → start' ≤ start
    → IsLinkFrom source start end origins link → IsLinkFrom source start' end origins link
link_wider source start end start' origins link low h = record {
  leads = λ e. let l = h.leads e in record {
    destination = destination_wider source start end start' origins.destination link.destination low l.destination;
    no_title = l.no_title;
    no_label = l.no_label;
  };
  title = title_wider source start end start' end link.kind origins.title link.title low (omega arith) h.title;
}

-- and so is what an item refers to
pub slices_wider : (source : List ℕ) (tables : Tables) (start end start' : ℕ) (b : ItemBody) → start' ≤ start
    → HasSlices source tables start end b → HasSlices source tables start' end b
slices_wider source tables start end start' (body.Code ix) low h = λ is. slice_wider source start end start' end _ low
    (omega arith) (h is)
slices_wider source tables start end start' (body.Math ix display) low h =
    λ is. slice_wider source start end start' end _ low (omega arith) (h is)
slices_wider source tables start end start' (body.Link ix) low h =
    link_wider source start end start' (link_origins_at tables.links ix.0) (link_at tables.links ix.0) low h
slices_wider source tables start end start' (body.Image ix) low h =
    link_wider source start end start' (link_origins_at tables.links ix.0) (link_at tables.links ix.0) low h
slices_wider source tables start end start' other low h = tt

origin_first : (source : List ℕ) (start : ℕ) → origin_start source start ≤ start
origin_first source start = by (follows_pipe source start)
  where
    by : (after : Bool) → (if after then 0 else start) ≤ start
    by true = omega arith
    by false = omega arith

-- what comes from an item's range comes from where the item is
pub slices_from_place : (source : List ℕ) (tables : Tables) (item : Item) → HasSlices source tables item.start item.end
    item.body
    → ComesFromPlace source tables item
slices_from_place source tables item h =
    slices_wider source tables item.start item.end (origin_start source item.start) item.body
    (origin_first source item.start) h

-- what comes from where an item is still does where the item is cut after a pipe
pub slices_past_pipe : (source : List ℕ) (tables : Tables) (item : Item) (i : ℕ) → follows_pipe source i ≡ true
    → ComesFromPlace source tables item → HasSlices source tables (origin_start source i) item.end item.body
slices_past_pipe source tables item i piped h =
    rw piped (slices_wider source tables (origin_start source item.start) item.end 0 item.body (omega arith) h)

-- What an item begins with, by what it refers to, and what is left in the tables.
use Rattle.markdown_base.specs.declared.item.ItemBody.TheVariants as body
use Rattle.markdown_inline.specs.declared.bodies.Visit.TheVariants as visit
use Rattle.std.proofs.Common.{◌≡◌, ℕ, zero, suc, ◌-◌, ◌<◌, ◌≤◌, List, [], ◌∷◌, Option, Some, None, length, refl, sym}
use Rattle.std.proofs.Common.{ap, subst, arith, get_or, set, true, false}
use Rattle.std.specs.Prelude.{IfSome, is_some, slice_range}
use Rattle.std.specs.Borrow.{Bor}
use Rattle.std.specs.declared.alloc.Global.{Global}
use Rattle.std.specs.declared.ops.Range.{Range}
use Rattle.std.specs.declared.vec.Vec.{Vec}
use Rattle.std.proofs.lemmas.List.{length-set}
use Rattle.markdown_base.specs.CowText.{text_of}
use Rattle.markdown_base.specs.Event.{EventView, LinkView, TagView, event_view, link_view, tag_view, hard_break}
use Rattle.markdown_base.specs.Item.{text_named, alignments_named, is_open}
use Rattle.markdown_base.specs.declared.block_parts.HeadingAttributes.{HeadingAttributes}
use Rattle.markdown_base.specs.declared.cow_str.CowStr.{CowStr}
use Rattle.markdown_base.specs.declared.cow_str.CowStr.TheVariants.{Borrowed}
use Rattle.markdown_base.specs.declared.event.Event.{Event}
use Rattle.markdown_base.specs.declared.event.Event.TheVariants as step
use Rattle.markdown_base.specs.declared.index.AlignmentIndex.{AlignmentIndex}
use Rattle.markdown_base.specs.declared.index.CowIndex.{CowIndex}
use Rattle.markdown_base.specs.declared.index.HeadingIndex.{HeadingIndex}
use Rattle.markdown_base.specs.declared.index.LinkIndex.{LinkIndex}
use Rattle.markdown_base.specs.declared.item.ItemBody.{ItemBody}
use Rattle.markdown_base.specs.declared.tag.Alignment.{Alignment}
use Rattle.markdown_base.specs.declared.tag.HeadingLevel.{HeadingLevel}
use Rattle.markdown_base.specs.declared.tag.Tag.{Tag}
use Rattle.markdown_defs.specs.Allocations.{Allocated, LinkParts}
use Rattle.markdown_defs.specs.AllocationCalls.{LeavesEmptyCow, LeavesEmptyLink, LeavesEmptyAlignment}
use Rattle.markdown_document.specs.LinkOrigins.{IsLinkFrom, LinkOrigins, titles_for}
use Rattle.markdown_document.specs.Origins.{Origin, origin_at, origin_of}
use Rattle.markdown_document.specs.PlacedNodes.{IsSlicedOf, HasSliceLink}
use Rattle.markdown_document.specs.Document.{Shape, leaf, enclosed, plain, backslash_break, unresolved, sliced, made}
use Rattle.markdown_document.specs.Document.{shape_of}
use Rattle.markdown_document.specs.Places.{origin_start}
use Rattle.markdown_document.specs.Tables.{Tables, text_at, link_at, link_origins, titles_at, alignments_at, heading_at}
use Rattle.markdown_document.specs.Tables.{heading_with, tables_of}
use Rattle.markdown_document.specs.NamedEntries.{Named, some_text, some_link, some_alignments, link_origins_at}
use Rattle.markdown_document.specs.NamedEntries.{link_named, size_for, NamesEntries, IsSameEntry, times_named}
use Rattle.markdown_document.specs.Totals.{same}
use Rattle.markdown_document.proofs.TablesLemmas.{same_entry-refl}
use Rattle.markdown_inline.specs.Slices.{slice_start, texts_of, titles_in, AreFrom, IsFrom, TagIsFrom, StartIsFrom}
use Rattle.markdown_inline.specs.WalkSteps.{OpensWith, TakesOnly, beginning, visit_at_shape, visit_at, event_of_shape}
use Rattle.markdown_inline.specs.WalkSteps.{container_of}

-- an entry that is read
pub text_at-read : (cows : List CowStr) (n : ℕ) (c : CowStr) → n < length cows → c ≡ get_or cows n c → text_at cows n
    ≡ text_of c
text_at-read [] n c l e = absurd (omega (arith, l))
text_at-read (d ∷ cows) zero c l e = ap text_of (sym e)
text_at-read (d ∷ cows) (suc n) c l e = text_at-read cows n c (omega (arith, l)) e

pub origin_at-read : (cows : List CowStr) (n : ℕ) (c : CowStr) → n < length cows → c ≡ get_or cows n c
    → origin_at cows n ≡ origin_of c
origin_at-read [] n c l e = absurd (omega (arith, l))
origin_at-read (d ∷ cows) zero c l e = ap origin_of (sym e)
origin_at-read (d ∷ cows) (suc n) c l e = origin_at-read cows n c (omega (arith, l)) e

-- the text has the origin that the table says
from_itself : (source : List ℕ) (start end : ℕ) (c : CowStr) → IsSlicedOf source start end (origin_of c) (text_of c)
    → IsFrom source start end (origin_of c) c
from_itself source start end (Borrowed slice) h = h refl
from_itself source start end other h = tt

pub is_from : (source : List ℕ) (start end : ℕ) (cows : List CowStr) (n : ℕ) (c : CowStr) → n < length cows → c
    ≡ get_or cows n c
    → IsSlicedOf source start end (origin_at cows n) (text_at cows n)
    → IsFrom source start end (origin_at cows n) c
is_from source start end cows n c l e h =
    let origin = origin_at-read cows n c l e in
    rw origin (from_itself source start end c (rw (origin, text_at-read cows n c l e) at h))

pub link_at-read : (links : List LinkParts) (n : ℕ) (c : LinkParts) → n < length links → c ≡ get_or links n c
    → link_at links n ≡ link_view c
link_at-read [] n c l e = absurd (omega (arith, l))
link_at-read (d ∷ links) zero c l e = ap link_view (sym e)
link_at-read (d ∷ links) (suc n) c l e = link_at-read links n c (omega (arith, l)) e

link_origins_at-read : (links : List LinkParts) (n : ℕ) (c : LinkParts) → n < length links → c ≡ get_or links n c
    → link_origins_at links n ≡ link_origins c
link_origins_at-read [] n c l e = absurd (omega (arith, l))
link_origins_at-read (d ∷ links) zero c l e = ap link_origins (sym e)
link_origins_at-read (d ∷ links) (suc n) c l e = link_origins_at-read links n c (omega (arith, l)) e

-- the origin of its title
pub titles_at-read : (links : List LinkParts) (n : ℕ) (c : LinkParts) → n < length links → c ≡ get_or links n c
    → titles_at links n ≡ titles_for c.0 (origin_of c.2)
titles_at-read links n c l e = rw (link_at-read links n c l e, link_origins_at-read links n c l e) refl

-- a link comes from where its entry does
pub leads_from : (source : List ℕ) (start end : ℕ) (tables : Tables) (n : ℕ) (c : LinkParts) → n < length tables.links
    → c ≡ get_or tables.links n c → HasSliceLink source tables start end n
    → IsLinkFrom source start end (link_origins c) (link_view c)
leads_from source start end tables n c l e h =
    subst (λ (v : LinkView). IsLinkFrom source start end (link_origins c) v) (link_at-read tables.links n c l e)
    (subst (λ (o : LinkOrigins). IsLinkFrom source start end o (link_at tables.links n))
    (link_origins_at-read tables.links n c l e) h)

pub alignments_at-read : (alignments : List (Vec Alignment Global)) (n : ℕ) (c : Vec Alignment Global)
    → n < length alignments
    → c ≡ get_or alignments n c → alignments_at alignments n ≡ c.items
alignments_at-read [] n c l e = absurd (omega (arith, l))
alignments_at-read (d ∷ alignments) zero c l e = ap (λ (v : Vec Alignment Global). v.items) (sym e)
alignments_at-read (d ∷ alignments) (suc n) c l e = alignments_at-read alignments n c (omega (arith, l)) e

pub heading_at-read : (level : HeadingLevel) (headings : List HeadingAttributes) (n : ℕ) (c : HeadingAttributes)
    → n < length headings → c ≡ get_or headings n c → heading_at level headings n ≡ heading_with level c
heading_at-read level [] n c l e = absurd (omega (arith, l))
heading_at-read level (d ∷ headings) zero c l e = ap (heading_with level) (sym e)
heading_at-read level (d ∷ headings) (suc n) c l e = heading_at-read level headings n c (omega (arith, l)) e

-- the attributes that a heading refers to exist
pub heading_named : (tables : Tables) (level : HeadingLevel) (named : Option HeadingIndex)
    → NamesEntries tables (body.Heading level named)
    → IfSome named (λ ix. (1 ≤ ix.0) × (ix.0 ≤ length tables.headings))
heading_named tables level None h = tt
heading_named tables level (Some ix) h = h.attributes

pub place_within : (headings : List HeadingAttributes) (ix : HeadingIndex) → (1 ≤ ix.0) × (ix.0 ≤ length headings)
    → ix.0 - 1 < length headings
place_within headings ix h = omega (arith, h.0, h.1)

-- an entry beside one that is replaced is read as before
text_at-set : (cows : List CowStr) (n m : ℕ) (c : CowStr) → same m n ≡ 0 → text_at (set cows n c) m ≡ text_at cows m
text_at-set [] n m c h = refl
text_at-set (d ∷ cows) zero zero c h = cc h
text_at-set (d ∷ cows) zero (suc m) c h = refl
text_at-set (d ∷ cows) (suc n) zero c h = refl
text_at-set (d ∷ cows) (suc n) (suc m) c h = text_at-set cows n m c h

origin_at-set : (cows : List CowStr) (n m : ℕ) (c : CowStr) → same m n ≡ 0 → origin_at (set cows n c) m
    ≡ origin_at cows m
origin_at-set [] n m c h = refl
origin_at-set (d ∷ cows) zero zero c h = cc h
origin_at-set (d ∷ cows) zero (suc m) c h = refl
origin_at-set (d ∷ cows) (suc n) zero c h = refl
origin_at-set (d ∷ cows) (suc n) (suc m) c h = origin_at-set cows n m c h

link_at-set : (links : List LinkParts) (n m : ℕ) (c : LinkParts) → same m n ≡ 0 → link_at (set links n c) m
    ≡ link_at links m
link_at-set [] n m c h = refl
link_at-set (d ∷ links) zero zero c h = cc h
link_at-set (d ∷ links) zero (suc m) c h = refl
link_at-set (d ∷ links) (suc n) zero c h = refl
link_at-set (d ∷ links) (suc n) (suc m) c h = link_at-set links n m c h

link_origins_at-set : (links : List LinkParts) (n m : ℕ) (c : LinkParts) → same m n ≡ 0
    → link_origins_at (set links n c) m ≡ link_origins_at links m
link_origins_at-set [] n m c h = refl
link_origins_at-set (d ∷ links) zero zero c h = cc h
link_origins_at-set (d ∷ links) zero (suc m) c h = refl
link_origins_at-set (d ∷ links) (suc n) zero c h = refl
link_origins_at-set (d ∷ links) (suc n) (suc m) c h = link_origins_at-set links n m c h

alignments_at-set : (alignments : List (Vec Alignment Global)) (n m : ℕ) (c : Vec Alignment Global) → same m n ≡ 0
    → alignments_at (set alignments n c) m ≡ alignments_at alignments m
alignments_at-set [] n m c h = refl
alignments_at-set (d ∷ alignments) zero zero c h = cc h
alignments_at-set (d ∷ alignments) zero (suc m) c h = refl
alignments_at-set (d ∷ alignments) (suc n) zero c h = refl
alignments_at-set (d ∷ alignments) (suc n) (suc m) c h = alignments_at-set alignments n m c h

same_length : {A : Type 0} (xs ys : List A) → length ys ≡ length xs → length xs ≤ length ys
same_length xs ys e = omega (arith, e)

-- nothing was taken
pub takes_nothing : (body : ItemBody) (held : Allocated) → TakesOnly body held held
takes_nothing body held = record {
  tables = refl;
  longer = record { sizes = λ n. omega arith; headings = refl };
  others =
      λ n h. same_entry-refl (tables_of held) n;
}

-- the text that a body refers to was taken
text_others : (tables : Tables) (b : ItemBody) (ix : ℕ) (left : CowStr) (n : Named) → text_named b ≡ Some ix
    → times_named n b ≡ 0
    → IsSameEntry tables (record tables { cows = set tables.cows ix left }) n
text_others tables b ix left (some_text n) e h = let apart = rw e at h
    in (text_at-set tables.cows ix n left apart, origin_at-set tables.cows ix n left apart)
text_others tables b ix left (some_link n) e h = (refl, refl)
text_others tables b ix left (some_alignments n) e h = refl

text_sizes : (tables : Tables) (ix : ℕ) (left : CowStr) (n : Named)
    → size_for tables n ≤ size_for (record tables { cows = set tables.cows ix left }) n
text_sizes tables ix left (some_text n) = same_length tables.cows (set tables.cows ix left)
    (length-set tables.cows ix left)
text_sizes tables ix left (some_link n) = omega arith
text_sizes tables ix left (some_alignments n) = omega arith

pub takes_text : (b : ItemBody) (held held' : Allocated) (ix : CowIndex) → text_named b ≡ Some ix.0
    → LeavesEmptyCow held held' ix
    → TakesOnly b held held'
takes_text b held held' ix e l = rw l.others (record {
  tables = refl;
  longer = record { sizes = λ n. text_sizes (tables_of held) ix.0 l.left n; headings = refl };
  others = λ n h. text_others (tables_of held) b ix.0 l.left n e h;
})

-- the link that a body refers to was taken
link_others : (tables : Tables) (b : ItemBody) (ix : ℕ) (left : LinkParts) (n : Named) → link_named b ≡ Some ix
    → times_named n b ≡ 0
    → IsSameEntry tables (record tables { links = set tables.links ix left }) n
link_others tables b ix left (some_text n) e h = (refl, refl)
link_others tables b ix left (some_link n) e h = let apart = rw e at h
    in (link_at-set tables.links ix n left apart, link_origins_at-set tables.links ix n left apart)
link_others tables b ix left (some_alignments n) e h = refl

link_sizes : (tables : Tables) (ix : ℕ) (left : LinkParts) (n : Named)
    → size_for tables n ≤ size_for (record tables { links = set tables.links ix left }) n
link_sizes tables ix left (some_text n) = omega arith
link_sizes tables ix left (some_link n) = same_length tables.links (set tables.links ix left)
    (length-set tables.links ix left)
link_sizes tables ix left (some_alignments n) = omega arith

pub takes_link : (b : ItemBody) (held held' : Allocated) (ix : LinkIndex) → link_named b ≡ Some ix.0
    → LeavesEmptyLink held held' ix
    → TakesOnly b held held'
takes_link b held held' ix e l = rw l.others (record {
  tables = refl;
  longer = record { sizes = λ n. link_sizes (tables_of held) ix.0 l.left n; headings = refl };
  others = λ n h. link_others (tables_of held) b ix.0 l.left n e h;
})

-- the alignments that a body refers to were taken
alignments_others : (tables : Tables) (b : ItemBody) (ix : ℕ) (left : Vec Alignment Global) (n : Named)
    → alignments_named b ≡ Some ix
    → times_named n b ≡ 0
    → IsSameEntry tables (record tables { alignments = set tables.alignments ix left }) n
alignments_others tables b ix left (some_text n) e h = (refl, refl)
alignments_others tables b ix left (some_link n) e h = (refl, refl)
alignments_others tables b ix left (some_alignments n) e h = alignments_at-set tables.alignments ix n left (rw e at h)

alignments_sizes : (tables : Tables) (ix : ℕ) (left : Vec Alignment Global) (n : Named)
    → size_for tables n ≤ size_for (record tables { alignments = set tables.alignments ix left }) n
alignments_sizes tables ix left (some_text n) = omega arith
alignments_sizes tables ix left (some_link n) = omega arith
alignments_sizes tables ix left (some_alignments n) = same_length tables.alignments (set tables.alignments ix left)
    (length-set tables.alignments ix left)

pub takes_alignments : (b : ItemBody) (held held' : Allocated) (ix : AlignmentIndex) → alignments_named b ≡ Some ix.0
    → LeavesEmptyAlignment held held' ix → TakesOnly b held held'
takes_alignments b held held' ix e l = rw l.others (record {
  tables = refl;
  longer = record { sizes = λ n. alignments_sizes (tables_of held) ix.0 l.left n; headings = refl };
  others = λ n h. alignments_others (tables_of held) b ix.0 l.left n e h;
})

-- an event of one text is not a Start
pub no_start : (source : List ℕ) (start end : ℕ) (origins : List Origin) (e : Event) (c : CowStr)
    → texts_of e ≡ c ∷ [] → StartIsFrom source start end origins e
no_start source start end origins (step.Start tag) c h = cc h
no_start source start end origins other c h = tt

-- an event of one text that is a slice of the source
pub opens_slice : (source : List ℕ) (range : Range ℕ) (view : List ℕ → EventView) (e : CowStr → Event) (c : CowStr)
    → ((slice : Bor (List ℕ)) × (c ≡ Borrowed slice) × (slice.now ≡ slice_range source range.start range.end))
    → ((d : CowStr) → event_view (e d) ≡ view (text_of d)) → ((d : CowStr) → texts_of (e d) ≡ d ∷ [])
    → ((d : CowStr) → slice_start source (e d) range.start ≡ range.start)
    → OpensWith source range (leaf (view (slice_range source range.start range.end)) (sliced ∷ [])) (e c)
opens_slice source range view e c (slice, is, over) viewed texts from = rw is (record {
  origins = sliced ∷ [];
  begins = rw (viewed (Borrowed slice), over) refl;
  texts = rw (texts (Borrowed slice), from (Borrowed slice)) (∣ (range, omega arith, omega arith, over) ∣₁, tt);
  start = no_start source range.start range.end (sliced ∷ []) (e (Borrowed slice)) (Borrowed slice)
      (texts (Borrowed slice));
})

-- an event of one text that is referred to, and is taken
pub opens_made : (source : List ℕ) (range : Range ℕ) (cows : List CowStr) (n : ℕ) (view : List ℕ → EventView)
    (e : CowStr → Event) (c : CowStr) → n < length cows → c ≡ get_or cows n c
    → ((d : CowStr) → event_view (e d) ≡ view (text_of d)) → ((d : CowStr) → texts_of (e d) ≡ d ∷ [])
    → OpensWith source range (leaf (view (text_at cows n)) (made ∷ [])) (e c)
opens_made source range cows n view e c within read viewed texts = record {
  origins = made ∷ [];
  begins = rw (viewed c, text_at-read cows n c within read) refl;
  texts = rw (texts c) (tt, tt);
  start = no_start source range.start range.end (made ∷ []) (e c) c (texts c);
}

-- the same for the text of a span, which is a slice of the source where the table says so
pub opens_span : (source : List ℕ) (range : Range ℕ) (cows : List CowStr) (n : ℕ) (view : List ℕ → EventView)
    (e : CowStr → Event) (c : CowStr) → n < length cows → c ≡ get_or cows n c
    → IsSlicedOf source (origin_start source range.start) range.end (origin_at cows n) (text_at cows n)
    → ((d : CowStr) → event_view (e d) ≡ view (text_of d)) → ((d : CowStr) → texts_of (e d) ≡ d ∷ [])
    → ((d : CowStr) → slice_start source (e d) range.start ≡ origin_start source range.start)
    → OpensWith source range (leaf (view (text_at cows n)) (origin_at cows n ∷ [])) (e c)
opens_span source range cows n view e c within read slice viewed texts from = record {
  origins = origin_at cows n ∷ [];
  begins = rw (viewed c, text_at-read cows n c within read) refl;
  texts = rw (texts c, from c) (
    is_from source (origin_start source range.start) range.end cows n c within read slice,
    tt,
  );
  start = no_start source range.start range.end (origin_at cows n ∷ []) (e c) c (texts c);
}

-- where a walk goes over an item, its event is that of the shape
pub leaf_shape : (shape : Shape) (e : EventView) (origins : List Origin) → visit_at_shape shape ≡ visit.Leaf
    → beginning shape ≡ Some (e, origins) → event_of_shape shape ≡ Some (e, origins)
leaf_shape (leaf d others) e origins h b = b
leaf_shape (enclosed tag others) e origins h b = cc h
leaf_shape plain e origins h b = cc h
leaf_shape backslash_break e origins h b = b
leaf_shape (unresolved other) e origins h b = cc h

-- a shape with such an event
pub record IsLeafShape (shape : Shape) : Type 0 where
  pub event : EventView
  pub origins : List Origin
  pub begins : beginning shape ≡ Some (event, origins)

pub some_leaf : (shape : Shape) → visit_at_shape shape ≡ visit.Leaf → IsLeafShape shape
some_leaf (leaf e origins) h = record { event = e; origins = origins; begins = refl }
some_leaf (enclosed tag origins) h = absurd (cc h)
some_leaf plain h = absurd (cc h)
some_leaf backslash_break h = record { event = hard_break; origins = []; begins = refl }
some_leaf (unresolved other) h = absurd (cc h)

-- where it goes in by a Start, the shape has a tag
pub record IsEnclosed (shape : Shape) : Type 0 where
  pub tag : TagView
  pub origins : List Origin
  pub is : shape ≡ enclosed tag origins

pub some_tag : (shape : Shape) → visit_at_shape shape ≡ visit.Start → IsEnclosed shape
some_tag (leaf e origins) h = absurd (cc h)
some_tag (enclosed tag origins) h = record { tag = tag; origins = origins; is = refl }
some_tag plain h = absurd (cc h)
some_tag backslash_break h = absurd (cc h)
some_tag (unresolved other) h = absurd (cc h)

-- where it goes in without one, only what is below is read
pub plain_shape : (shape : Shape) → visit_at_shape shape ≡ visit.Plain → shape ≡ plain
plain_shape (leaf e origins) h = cc h
plain_shape (enclosed tag origins) h = cc h
plain_shape plain h = refl
plain_shape backslash_break h = cc h
plain_shape (unresolved other) h = cc h

-- how a walk moves at an item depends on its body alone
pub visit-shape : (tables : Tables) (over : List ℕ) (b : ItemBody) → visit_at b ≡ visit_at_shape
    (shape_of tables over b)
visit-shape tables over (body.HardBreak true) = refl
visit-shape tables over (body.HardBreak false) = refl
visit-shape tables over other = refl

-- a chain is resolved only at an open item
pub open-visit : (b : ItemBody) → visit_at b ≡ visit.Open → is_open b ≡ true
open-visit (body.HardBreak true) h = cc h
open-visit (body.HardBreak false) h = cc h
open-visit other h = cc h

-- the Start of a body that refers to nothing is that of a container
pub some_container : (b : ItemBody) → visit_at b ≡ visit.Start
    → ((level : HeadingLevel) (named : Option HeadingIndex) → b ≡ body.Heading level named → ⊥)
    → ((ix : CowIndex) → b ≡ body.FencedCodeBlock ix → ⊥) → ((ix : CowIndex) → b ≡ body.FootnoteDefinition ix → ⊥)
    → ((ix : AlignmentIndex) → b ≡ body.Table ix → ⊥) → ((ix : LinkIndex) → b ≡ body.Link ix → ⊥)
    → ((ix : LinkIndex) → b ≡ body.Image ix → ⊥) → is_some (container_of b) ≡ true
some_container (body.Heading level named) h heading fenced footnote table link image = absurd (heading level named refl)
some_container (body.FencedCodeBlock ix) h heading fenced footnote table link image = absurd (fenced ix refl)
some_container (body.FootnoteDefinition ix) h heading fenced footnote table link image = absurd (footnote ix refl)
some_container (body.Table ix) h heading fenced footnote table link image = absurd (table ix refl)
some_container (body.Link ix) h heading fenced footnote table link image = absurd (link ix refl)
some_container (body.Image ix) h heading fenced footnote table link image = absurd (image ix refl)
some_container (body.HardBreak true) h heading fenced footnote table link image = cc h
some_container (body.HardBreak false) h heading fenced footnote table link image = cc h
some_container other h heading fenced footnote table link image = cc h

-- the tree reads with the container's tag
pub container_shape : (tables : Tables) (over : List ℕ) (b : ItemBody) (tag : TagView) (found : Option TagView)
    → container_of b ≡ found
    → is_some found ≡ true → IfSome found (λ t. tag ≡ t) → (titles : List Origin) → titles ≡ []
    → shape_of tables over b ≡ enclosed tag titles
container_shape tables over b tag None e s h titles none = cc s
container_shape tables over b tag (Some t) e s h titles none = rw (h, none) (agrees b t e)
  where
    agrees : (b : ItemBody) (t : TagView) → container_of b ≡ Some t → shape_of tables over b ≡ enclosed t []
    agrees (body.HardBreak true) t e = cc e
    agrees (body.HardBreak false) t e = cc e
    agrees other t e = cc e

-- a Start is the event that a tree of its tag begins with
pub opens_start : (source : List ℕ) (range : Range ℕ) (shape : Shape) (tag : Tag)
    → shape ≡ enclosed (tag_view tag) (titles_in tag)
    → TagIsFrom source (origin_start source range.start) range.end tag → OpensWith source range shape (step.Start tag)
opens_start source range shape tag h from = record {
  origins = titles_in tag;
  begins = rw h refl;
  texts = no_texts (titles_in tag);
  start = (from, refl);
}
  where
    no_texts : (origins : List Origin)
        → AreFrom source (slice_start source (step.Start tag) range.start) range.end origins []
    no_texts [] = tt
    no_texts (origin ∷ origins) = tt

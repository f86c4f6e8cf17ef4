-- Levels and types read back from their numbers.
use Rattle.std.proofs.Common.{◌≡◌, ◌∷◌, Bool, true, false, List, [], refl, map, Option, Some, None}
use Rattle.markdown_base.specs.declared.tag.Alignment.{Alignment}
use Rattle.markdown_base.specs.declared.tag.Alignment.TheVariants as align
use Rattle.markdown_base.specs.declared.tag.BlockQuoteKind.{BlockQuoteKind}
use Rattle.markdown_base.specs.declared.tag.BlockQuoteKind.TheVariants as quote
use Rattle.markdown_base.specs.declared.tag.HeadingLevel.{HeadingLevel}
use Rattle.markdown_base.specs.declared.tag.HeadingLevel.TheVariants as level
use Rattle.markdown_base.specs.declared.tag.LinkType.{LinkType}
use Rattle.markdown_base.specs.declared.tag.LinkType.TheVariants as written
use Rattle.markdown_base.specs.declared.tag.MetadataBlockKind.{MetadataBlockKind}
use Rattle.markdown_base.specs.declared.tag.MetadataBlockKind.TheVariants as fence
use Rattle.markdown_records.specs.Decoded.{each_of}
use Rattle.markdown_records.specs.Numbers.{alignment_letter, bool_number, level_number, link_type_number}
use Rattle.markdown_records.specs.Numbers.{metadata_number, quote_number}
use Rattle.markdown_records.specs.NumbersRead.{alignment_of, bool_of, level_numbered, link_type_of, metadata_of}
use Rattle.markdown_records.specs.NumbersRead.{quote_numbered}

pub level_back : (l : HeadingLevel) → level_numbered (level_number l) ≡ Some l
level_back level.H1 = refl
level_back level.H2 = refl
level_back level.H3 = refl
level_back level.H4 = refl
level_back level.H5 = refl
level_back level.H6 = refl

pub quote_back : (k : Option BlockQuoteKind) → quote_numbered (quote_number k) ≡ Some k
quote_back None = refl
quote_back (Some quote.Note) = refl
quote_back (Some quote.Tip) = refl
quote_back (Some quote.Important) = refl
quote_back (Some quote.Warning) = refl
quote_back (Some quote.Caution) = refl

pub metadata_back : (k : MetadataBlockKind) → metadata_of (metadata_number k) ≡ Some k
metadata_back fence.YamlStyle = refl
metadata_back fence.PlusesStyle = refl

pub bool_back : (b : Bool) → bool_of (bool_number b) ≡ Some b
bool_back false = refl
bool_back true = refl

pub link_type_back : (k : LinkType) → link_type_of (link_type_number k) ≡ Some k
link_type_back written.Inline = refl
link_type_back written.Reference = refl
link_type_back written.ReferenceUnknown = refl
link_type_back written.Collapsed = refl
link_type_back written.CollapsedUnknown = refl
link_type_back written.Shortcut = refl
link_type_back written.ShortcutUnknown = refl
link_type_back written.Autolink = refl
link_type_back written.Email = refl
link_type_back (written.WikiLink false) = refl
link_type_back (written.WikiLink true) = refl

alignment_back : (a : Alignment) → alignment_of (alignment_letter a) ≡ Some a
alignment_back align.None = refl
alignment_back align.Left = refl
alignment_back align.Center = refl
alignment_back align.Right = refl

pub alignments_back : (columns : List Alignment) → each_of alignment_of (map alignment_letter columns) ≡ Some columns
alignments_back [] = refl
alignments_back (a ∷ columns) = rw (alignment_back a, alignments_back columns) refl

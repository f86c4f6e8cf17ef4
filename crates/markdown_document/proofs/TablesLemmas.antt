-- Entries of tables: those that are named are there, and stay where tables grow.
use Rattle.std.proofs.Common.{◌≡◌, ℕ, zero, suc, ◌<◌, ◌≤◌, List, [], ◌∷◌, ◌++◌, length, Option, Some, None, refl, ◌∙◌}
use Rattle.std.proofs.Common.{arith, append-nil, append_assoc}
use Rattle.std.specs.Prelude.{IfSome}
use Rattle.std.proofs.lemmas.List.{length-append}
use Rattle.markdown_base.specs.Item.{text_named, alignments_named}
use Rattle.markdown_base.specs.declared.cow_str.CowStr.{CowStr}
use Rattle.markdown_base.specs.declared.item.ItemBody.{ItemBody}
use Rattle.markdown_base.proofs.ArenaLemmas.{below_more}
use Rattle.markdown_defs.specs.Allocations.{LinkParts}
use Rattle.markdown_document.specs.Origins.{origin_at}
use Rattle.markdown_document.specs.Tables.{Tables, text_at, link_at}
use Rattle.markdown_document.specs.NamedEntries.{Named, some_text, some_link, some_alignments, link_origins_at}
use Rattle.markdown_document.specs.NamedEntries.{link_named, number_of, size_for, NamesEntries, IsSameEntry}
use Rattle.markdown_document.specs.NamedEntries.{IsNoShorter, HasGrown, same_as, times_named}
use Rattle.markdown_document.specs.Totals.{same}

-- a number is itself, and not one that is smaller
pub same-refl : (n : ℕ) → same n n ≡ 1
same-refl zero = refl
same-refl (suc n) = same-refl n

pub same-apart : (n m : ℕ) → m < n → same n m ≡ 0
same-apart zero m l = absurd (omega (arith, l))
same-apart (suc n) zero l = refl
same-apart (suc n) (suc m) l = same-apart n m (omega (arith, l))

pub same_once : (n m : ℕ) → same n m ≤ 1
same_once zero zero = omega arith
same_once zero (suc m) = omega arith
same_once (suc n) zero = omega arith
same_once (suc n) (suc m) = same_once n m

as_once : (n : ℕ) (o : Option ℕ) → same_as n o ≤ 1
as_once n None = omega arith
as_once n (Some m) = same_once n m

as_apart : (n size : ℕ) (o : Option ℕ) → IfSome o (λ m. m < size) → size ≤ n → same_as n o ≡ 0
as_apart n size None h z = refl
as_apart n size (Some m) h z = same-apart n m (omega (arith, h, z))

-- a body names an entry once at most
pub named-once : (n : Named) (b : ItemBody) → times_named n b ≤ 1
named-once (some_text n) b = as_once n (text_named b)
named-once (some_link n) b = as_once n (link_named b)
named-once (some_alignments n) b = as_once n (alignments_named b)

-- and none that is in no table
pub named-apart : (n : Named) (tables : Tables) (b : ItemBody) → NamesEntries tables b → size_for tables n ≤ number_of n
    → times_named n b ≡ 0
named-apart (some_text n) tables b h z = as_apart n (length tables.cows) (text_named b) h.text z
named-apart (some_link n) tables b h z = as_apart n (length tables.links) (link_named b) h.link z
named-apart (some_alignments n) tables b h z = as_apart n (length tables.alignments) (alignments_named b) h.alignments z

-- an entry is the same as it is, and one that stays, and then stays
pub same_entry-refl : (a : Tables) (n : Named) → IsSameEntry a a n
same_entry-refl a (some_text n) = (refl, refl)
same_entry-refl a (some_link n) = (refl, refl)
same_entry-refl a (some_alignments n) = refl

pub same_entry-trans : (a b c : Tables) (n : Named) → IsSameEntry a b n → IsSameEntry b c n → IsSameEntry a c n
same_entry-trans a b c (some_text n) p q = (q.0 ∙ p.0, q.1 ∙ p.1)
same_entry-trans a b c (some_link n) p q = (q.0 ∙ p.0, q.1 ∙ p.1)
same_entry-trans a b c (some_alignments n) p q = q ∙ p

-- a table that grows at its end
text_at-append : (cows more : List CowStr) (n : ℕ) → n < length cows → text_at (cows ++ more) n ≡ text_at cows n
text_at-append [] more n l = absurd (omega (arith, l))
text_at-append (c ∷ cows) more zero l = refl
text_at-append (c ∷ cows) more (suc n) l = text_at-append cows more n (omega (arith, l))

origin_at-append : (cows more : List CowStr) (n : ℕ) → n < length cows → origin_at (cows ++ more) n ≡ origin_at cows n
origin_at-append [] more n l = absurd (omega (arith, l))
origin_at-append (c ∷ cows) more zero l = refl
origin_at-append (c ∷ cows) more (suc n) l = origin_at-append cows more n (omega (arith, l))

link_at-append : (links more : List LinkParts) (n : ℕ) → n < length links → link_at (links ++ more) n ≡ link_at links n
link_at-append [] more n l = absurd (omega (arith, l))
link_at-append (c ∷ links) more zero l = refl
link_at-append (c ∷ links) more (suc n) l = link_at-append links more n (omega (arith, l))

link_origins_at-append : (links more : List LinkParts) (n : ℕ) → n < length links → link_origins_at (links ++ more) n
    ≡ link_origins_at links n
link_origins_at-append [] more n l = absurd (omega (arith, l))
link_origins_at-append (c ∷ links) more zero l = refl
link_origins_at-append (c ∷ links) more (suc n) l = link_origins_at-append links more n (omega (arith, l))

appended_same : (tables : Tables) (cows : List CowStr) (links : List LinkParts) (n : Named)
    → number_of n < size_for tables n
    → IsSameEntry tables (record tables { cows = tables.cows ++ cows; links = tables.links ++ links }) n
appended_same tables cows links (some_text n) l
    = (text_at-append tables.cows cows n l, origin_at-append tables.cows cows n l)
appended_same tables cows links (some_link n) l
    = (link_at-append tables.links links n l, link_origins_at-append tables.links links n l)
appended_same tables cows links (some_alignments n) l = refl

appended_sizes : (tables : Tables) (cows : List CowStr) (links : List LinkParts) (n : Named)
    → size_for tables n ≤ size_for (record tables { cows = tables.cows ++ cows; links = tables.links ++ links }) n
appended_sizes tables cows links (some_text n) = omega (arith, length-append tables.cows cows)
appended_sizes tables cows links (some_link n) = omega (arith, length-append tables.links links)
appended_sizes tables cows links (some_alignments n) = omega arith

-- tables that have grown say the same of the entries that were there, and are no shorter
pub grown-same : (tables tables' : Tables) (n : Named) → HasGrown tables tables' → number_of n < size_for tables n
    → IsSameEntry tables tables' n
grown-same tables tables' n g l = rw g.grown (appended_same tables g.more_cows g.more_links n l)

pub grown-longer : (tables tables' : Tables) → HasGrown tables tables' → IsNoShorter tables tables'
grown-longer tables tables' g = record {
  sizes = λ n. rw g.grown (appended_sizes tables g.more_cows g.more_links n);
  headings = rw g.grown refl;
}

pub grown-nothing : (tables : Tables) → HasGrown tables tables
grown-nothing tables = record {
  more_cows = [];
  more_links = [];
  grown = rw (append-nil tables.cows, append-nil tables.links) refl;
}

pub grown-twice : (a b c : Tables) → HasGrown a b → HasGrown b c → HasGrown a c
grown-twice a b c p q = record {
  more_cows = p.more_cows ++ q.more_cows;
  more_links = p.more_links ++ q.more_links;
  grown = q.grown ∙ rw (
    p.grown,
    append_assoc a.cows p.more_cows q.more_cows,
    append_assoc a.links p.more_links
        q.more_links,
  ) refl;
}

pub longer-trans : (a b c : Tables) → IsNoShorter a b → IsNoShorter b c → IsNoShorter a c
longer-trans a b c p q = record { sizes = λ n. omega (arith, p.sizes n, q.sizes n); headings = q.headings ∙ p.headings }

pub entries-longer : (tables tables' : Tables) (b : ItemBody) → IsNoShorter tables tables' → NamesEntries tables b
    → NamesEntries tables' b
entries-longer tables tables' b y h = record {
  text = below_more (text_named b) (length tables.cows) (length tables'.cows) (y.sizes (some_text 0)) h.text;
  link = below_more (link_named b) (length tables.links) (length tables'.links) (y.sizes (some_link 0)) h.link;
  alignments = below_more (alignments_named b) (length tables.alignments) (length tables'.alignments)
      (y.sizes (some_alignments 0))
      h.alignments;
  attributes = rw y.headings h.attributes;
}

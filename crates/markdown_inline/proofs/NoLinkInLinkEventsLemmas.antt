-- In the events of a forest in which no link is in a link, and no leaf is a Start or an End, no Start of a link is in a
-- link.
use Rattle.std.proofs.Common.{◌≡◌, ℕ, suc, ◌≤◌, Bool, true, false, List, [], ◌∷◌, ◌++◌, refl, sym, subst, append_assoc}
use Rattle.std.proofs.Common.{append-nil, arith, inl, inr}
use Rattle.std.specs.declared.ops.Range.{Range}
use Rattle.markdown_base.specs.Event.{EventView, TagView, start, end, tag_end, link}
use Rattle.markdown_base.specs.Forest.{Forest, nil, node}
use Rattle.markdown_base.specs.declared.tag.LinkType.{LinkType}
use Rattle.markdown_base.specs.declared.tag.LinkType.TheVariants as kind
use Rattle.markdown_document.specs.Document.{Shape, leaf, enclosed, plain, backslash_break, unresolved, TreeNode}
use Rattle.markdown_delims.proofs.SumLemmas.{sum_of}
use Rattle.markdown_brackets.specs.NoLinkInLink.{ClosesOverNone, HasNoLinkInLink, HasNoneBelow, IsFreeOfLinks, IsNoLink}
use Rattle.markdown_brackets.specs.NoLinkInLink.{OpensNoLink, is_autolink}
use Rattle.markdown_inline.specs.Balanced.{Ranged}
use Rattle.markdown_inline.specs.NoLinkInLinkEvents.{NoLinkInLink, NoLinkInLinkFrom, NoLinkInLinkLaw, StartsInLink}
use Rattle.markdown_inline.specs.NoLinkInLinkEvents.{StartsNoLinkInLink}
use Rattle.markdown_inline.specs.ParserLeft.{rules_of}
use Rattle.markdown_inline.specs.ResolvedDocument.{resolved_blocks}
use Rattle.markdown_inline.proofs.EndOrderLemmas.{total}
use Rattle.markdown_inline.proofs.WholeReadingLemmas.{alone, alone_at, alone_event, ranged_in, opened_events}
use Rattle.markdown_inline.proofs.WholeReadingLemmas.{whole_events, whole_such}

starts_in : (addresses : Bool) (k : LinkType) → is_autolink addresses k ≡ true → StartsInLink addresses k
starts_in true kind.Autolink e = inl refl
starts_in true kind.Email e = inr refl
starts_in true other e = cc e
starts_in false kind.Autolink e = refl
starts_in false other e = cc e

module _ (addresses : Bool) where
  -- an event that is neither a Start nor an End
  lone_stays : (e : EventView) (within : ℕ) (rest : ℕ → Type 0) → total (alone_event e) ≡ 0 → rest within
      → StartsNoLinkInLink addresses e within rest
  lone_stays (start tag) within rest e h = cc e
  lone_stays (end x) within rest e h = cc e
  lone_stays other within rest e h = h

  -- events that keep the law, where they are free of links in a link, before others that keep it with as many links
  -- open
  abbrev Goes : List Ranged → (free : Type 0) → Type 0
  Goes es free = (within : ℕ) (rest : List Ranged) → (1 ≤ within → free) → NoLinkInLinkFrom addresses within rest
      → NoLinkInLinkFrom addresses within (es ++ rest)

  -- what a tag encloses
  tag_goes : {A : Type 0} (tag : TagView) (range : Range ℕ) (below : Forest (TreeNode A)) (es fs : List Ranged)
      (within : ℕ) → ClosesOverNone addresses tag below
      → (1 ≤ within → OpensNoLink addresses tag × IsFreeOfLinks addresses below)
      → Goes es (IsFreeOfLinks addresses below) → NoLinkInLinkFrom addresses within fs
      → NoLinkInLinkFrom addresses within ((start tag, range) ∷ (es ++ (end (tag_end tag), range) ∷ fs))
  tag_goes (link v) range below es fs within over free inside h = (
    λ some. starts_in addresses v.kind (free some).0,
    inside (suc within)
        ((end (tag_end (link v)), range) ∷ fs) (λ some. over) h,
  )
  tag_goes other range below es fs within over free inside h = inside within ((end (tag_end other), range) ∷ fs)
      (λ some. (free some).1) h

  -- a tree before others
  goes_on : {A : Type 0} (shape : Shape) (range : Range ℕ) (below : Forest (TreeNode A)) (es fs : List Ranged)
      (free : Type 0) → total (alone_at shape) ≡ 0 → HasNoneBelow addresses shape below
      → Goes es (IsFreeOfLinks addresses below) → Goes fs free
      → Goes (opened_events shape range es fs) (IsNoLink addresses shape × IsFreeOfLinks addresses below × free)
  goes_on (leaf e origins) range below es fs free lone apart inside after within rest freed h =
      lone_stays e within (λ within. NoLinkInLinkFrom addresses within (fs ++ rest)) lone
      (after within rest (λ some. (freed some).2) h)
  goes_on (enclosed tag origins) range below es fs free lone apart inside after within rest freed h =
      subst (λ xs. NoLinkInLinkFrom addresses within ((start tag, range) ∷ xs))
      (sym (append_assoc es ((end (tag_end tag), range) ∷ fs) rest))
      (tag_goes tag range below es (fs ++ rest) within apart (λ some. ((freed some).0, (freed some).1)) inside
      (after within rest (λ some. (freed some).2) h))
  goes_on plain range below es fs free lone apart inside after within rest freed h =
      subst (λ xs. NoLinkInLinkFrom addresses within xs) (sym (append_assoc es fs rest))
      (inside within (fs ++ rest) (λ some. (freed some).1)
      (after within rest (λ some. (freed some).2) h))
  goes_on backslash_break range below es fs free lone apart inside after within rest freed h = after within rest
      (λ some. (freed some).2) h
  goes_on (unresolved b) range below es fs free lone apart inside after within rest freed h = after within rest
      (λ some. (freed some).2) h

  -- a forest before others that keep the law
  apart_in : {A : Type 0} (f : Forest (TreeNode A)) → sum_of alone f ≡ 0 → HasNoLinkInLink addresses f
      → Goes (ranged_in f) (IsFreeOfLinks addresses f)
  apart_in nil lone apart within rest freed h = h
  apart_in (node a below later) lone apart within rest freed h =
      goes_on a.part.shape a.part.range below (ranged_in below) (ranged_in later) (IsFreeOfLinks addresses later)
      (omega (arith, lone)) apart.0
      (apart_in below (omega (arith, lone)) apart.1)
      (apart_in later (omega (arith, lone)) apart.2) within rest freed h

pub no-link-law : NoLinkInLinkLaw
no-link-law blocks asks answers =
    let addresses = (rules_of blocks asks).syntax.addresses in
    let r = whole_such blocks asks answers in
    let trees = (resolved_blocks blocks asks answers).trees in
    subst (NoLinkInLink addresses) (sym (whole_events blocks asks answers))
    (subst (NoLinkInLink addresses) (append-nil (ranged_in trees))
    (apart_in addresses trees r.lone r.apart 0 [] (λ some. absurd (omega (arith, some))) tt))

-- Small examples of events that keep the laws of a whole document, and of events that break one.
use Rattle.std.proofs.Common.{◌≡◌, ℕ, true, false, List, [], ◌∷◌, ◌++◌, codes, refl, ap, arith, inr, ⊎_elim}
use Rattle.std.specs.declared.ops.Range.{Range}
use Rattle.markdown_base.specs.Event.{LinkView, TagView, start, end, tag_end, text, emphasis, link, image}
use Rattle.markdown_base.specs.declared.tag.LinkType.{LinkType}
use Rattle.markdown_base.specs.declared.tag.LinkType.TheVariants as kind
use Rattle.markdown_base.specs.declared.tag.TagEnd.TheVariants as closes
use Rattle.markdown_inline.specs.Balanced.{Ranged, AreBalanced}
use Rattle.markdown_inline.specs.LimitLaw.{ExpandsBelow, expansions}
use Rattle.markdown_inline.specs.NoLinkInLinkEvents.{NoLinkInLink}

abbrev from_to : ℕ → ℕ → Range ℕ
from_to i j = record { start = i; end = j }

-- a link of a type to `c`
abbrev leads : LinkType → LinkView
leads k = record { kind = k; destination = codes "c"; title = []; label = [] }

-- what a tag opens over bytes i up to j, round other events
abbrev round : TagView → ℕ → ℕ → Ranged → List Ranged
round tag i j e = (start tag, from_to i j) ∷ e ∷ (end (tag_end tag), from_to i j) ∷ []

-- `*a*`
paired_is_balanced : AreBalanced (round emphasis 0 3 (text (codes "a"), from_to 1 2))
paired_is_balanced = (refl, refl, refl)

-- an End of something else, an End over other bytes, an End alone and a Start alone break the first law
other_end : AreBalanced ((start emphasis, from_to 0 3) ∷ (end closes.Strong, from_to 0 3) ∷ []) → ⊥
other_end h = cc (h.0)

other_range : AreBalanced ((start emphasis, from_to 0 3) ∷ (end closes.Emphasis, from_to 0 2) ∷ []) → ⊥
other_range h = let e : 2 ≡ 3 = ap (λ (r : Range ℕ). r.end) h.1 in omega (arith, e)

end_alone : AreBalanced ((end closes.Emphasis, from_to 0 3) ∷ []) → ⊥
end_alone h = h

start_alone : AreBalanced ((start emphasis, from_to 0 3) ∷ []) → ⊥
start_alone h = cc h

-- `[<c>](c)` keeps the second law, and so does a link after a link; an inline link in another breaks it
autolink_in_link : NoLinkInLink false
    ((start (link (leads kind.Inline)), from_to 0 8) ∷ (start (link (leads kind.Autolink)), from_to 1 4) ∷ [])
autolink_in_link = (λ some. absurd (omega (arith, some)), (λ some. refl, tt))

link_after_link : NoLinkInLink false ((start (link (leads kind.Inline)), from_to 0 6) ∷ (end closes.Link, from_to 0 6)
    ∷ (start (link (leads kind.Inline)), from_to 6 12) ∷ [])
link_after_link = (λ some. absurd (omega (arith, some)), (λ some. absurd (omega (arith, some)), tt))

link_in_link : NoLinkInLink true
    ((start (link (leads kind.Inline)), from_to 0 11) ∷ (start (link (leads kind.Inline)), from_to 1 7) ∷ []) → ⊥
link_in_link h = ⊎_elim (λ e. cc e) (λ e. cc e) (h.1.0 (omega arith))

-- `[<a@b.c>](c)` keeps it where addresses are on, and only there
abbrev address_in_link : List Ranged
address_in_link =
    (start (link (leads kind.Inline)), from_to 0 12) ∷ (start (link (leads kind.Email)), from_to 1 8) ∷ []

address_on : NoLinkInLink true address_in_link
address_on = (λ some. absurd (omega (arith, some)), (λ some. inr refl, tt))

address_off : NoLinkInLink false address_in_link → ⊥
address_off h = cc (h.1.0 (omega arith))

-- of two references to `c` one byte counts, and of three two, since the last does not; inline links do not count
two_references : ExpandsBelow 2 (round (link (leads kind.Shortcut)) 0 3 (text (codes "b"), from_to 1 2)
    ++ round (image (leads kind.Collapsed)) 4 10 (text (codes "b"), from_to 6 7))
two_references = omega arith

three_references : ExpandsBelow 2 (round (link (leads kind.Shortcut)) 0 3 (text (codes "b"), from_to 1 2)
    ++ round (image (leads kind.Collapsed)) 4 10 (text (codes "b"), from_to 6 7) ++ round
    (link (leads kind.ReferenceUnknown)) 11 17
    (text (codes "b"), from_to 12 13)) → ⊥
three_references h = omega (arith, h)

inline_links : ExpandsBelow 1
    (round (link (leads kind.Inline)) 0 6 (text (codes "b"), from_to 1 2) ++ round (link (leads kind.Inline)) 6 12
    (text (codes "b"), from_to 7 8))
inline_links = omega arith

-- `![a[b]][d]`, an image round a link: the label of the link is looked up first, though it starts later
inner_first : expansions ((start (image (leads kind.Reference)), from_to 0 10)
    ∷ (start (link (record (leads kind.Shortcut) { title = codes "tt" })), from_to 3 6) ∷ (end closes.Link, from_to 3 6)
    ∷ (end closes.Image, from_to 0 10) ∷ []) ≡ 3 ∷ 1 ∷ []
inner_first = refl

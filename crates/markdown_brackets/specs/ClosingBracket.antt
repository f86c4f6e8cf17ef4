-- The effect of a closing bracket on a chain, from the left list before it, the chain after it, and what is known.
use Rattle.std.specs.Prelude.{ℕ, ◌+◌, Bool, true, false, List, [], ◌∷◌, Some, if◌then◌else◌}
use Rattle.markdown_base.specs.Event.{LinkView, TagView, link, image, footnote_reference}
use Rattle.markdown_base.specs.Forest.{nil}
use Rattle.markdown_base.specs.declared.tag.LinkType.TheVariants as kind
use Rattle.markdown_document.specs.Document.{Origin, made, leaf, enclosed, TreeNode, as_text}
use Rattle.markdown_document.specs.ChainRest.{start_of, end_of}
use Rattle.markdown_brackets.specs.BracketDecision.{BracketContext, Becomes, Closing, Decision, Progress, Step}
use Rattle.markdown_brackets.specs.BracketDecision.{Wikilink}
use Rattle.markdown_brackets.specs.BracketDecision.{a_footnote, a_link, a_text, a_wikilink, decided, over, text_from}
use Rattle.markdown_brackets.specs.LeftList.{OpenerState, Entry, done, Split, inside, before_link, before_wikilink}
use Rattle.markdown_brackets.specs.LeftList.{before_footnote}

-- the tag of a link or an image
abbrev pub tag_for : OpenerState → LinkView → TagView
tag_for m target = if m.is_image then image target else link target

-- a link or an image, with the origin of its title if it is inline, from its opener to a byte offset
abbrev pub linked : {A : Type 0} → Split A → LinkView → (titles : List Origin) → (end : ℕ) → TreeNode A
linked o target titles end = over o.opener (enclosed (tag_for o.state target) titles) (start_of o.opener) end

-- a footnote reference over a range
abbrev pub footnote_from : {A : Type 0} → TreeNode A → List ℕ → (start end : ℕ) → TreeNode A
footnote_from a name start end = over a (leaf (footnote_reference name) (made ∷ [])) start end

-- a footnote reference is added to the left list; the `!` of an image's opener becomes a Text before it
abbrev pub footnote_onto : {A : Type 0} → BracketContext → Closing A → (is_image : Bool) → TreeNode A → List ℕ → List
    (Entry A)
    → List (Entry A)
footnote_onto w c false opener name left =
    done (footnote_from opener name (start_of opener) (end_of c.node)) nil ∷ left
footnote_onto w c true opener name left =
    done (footnote_from c.node name (start_of opener + 1) (end_of c.node)) nil
    ∷ done (text_from w opener (start_of opener) (start_of opener + 1)) nil ∷ left

-- the target of a wikilink
abbrev pub wikilink_target : {A : Type 0} → Wikilink A → LinkView
wikilink_target found =
    record { kind = kind.WikiLink found.has_pothole; destination = found.name; title = []; label = [] }

-- what a `]` becomes is added to the left list, and openers before it are disabled or taken off
abbrev pub put : {A : Type 0} → BracketContext → Closing A → Becomes A → Step A
put w c a_text p = record p { left = done (as_text w.setting.text c.node) nil ∷ p.left }
put w c (a_link o target titles end next) p = record p {
  left = done (linked o target titles end) (inside o) ∷ before_link o.state.is_image o.before;
  goes_on = Some next;
}
put w c (a_footnote o name) p = record p {
  left = footnote_onto w c o.state.is_image o.opener name (before_footnote o.before);
  goes_on = Some (end_of c.node);
}
put w c (a_wikilink o found end) p = record p {
  left = done (linked o (wikilink_target found) [] end) found.children ∷ before_wikilink o.before;
  goes_on = Some end;
}

-- what was decided is added to the left list
abbrev pub put_decided : {A : Type 0} → BracketContext → Closing A → Decision A → Progress A
put_decided w c d = put w c d.becomes d.progress

-- the effect of a `]` on what was read
unfoldable pub closed : {A : Type 0} → BracketContext → Closing A → Step A
closed w c p = put_decided w c (decided w c p)

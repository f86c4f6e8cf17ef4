-- Where the title of what a link leads to comes from.
use Rattle.std.specs.Prelude.{ℕ, ⊤, List}
use Rattle.markdown_base.specs.CowText.{text_of}
use Rattle.markdown_base.specs.declared.tag.LinkType.{LinkType}
use Rattle.markdown_base.specs.declared.tag.LinkType.TheVariants as kind
use Rattle.markdown_document.specs.LinkOrigins.{IsTitleFrom, titles_for}
use Rattle.markdown_document.specs.Origins.{Origin, origin_of}
use Rattle.markdown_brackets.specs.declared.look_up.Target.{Target}

-- the origin of the title of the target of an inline link
abbrev pub titles_of : Target → List Origin
titles_of target = titles_for target.link_type (origin_of target.title)

-- the title of the target of a link over these bytes comes from there, as the link's type says
abbrev pub IsTargetFrom : List ℕ → (start end : ℕ) → Target → Type 0
IsTargetFrom source start end target =
    IsTitleFrom source start end target.link_type (origin_of target.title) (text_of target.title)

-- no inline link is of this type
abbrev pub IsLookedUp : LinkType → Type 0
IsLookedUp kind.Inline = ⊥
IsLookedUp other = ⊤

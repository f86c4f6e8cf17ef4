-- The results of looking up link labels in a chain, in the order of the look-ups.
use Rattle.std.specs.Prelude.{ℕ, Bool, true, false, List, [], ◌∷◌, ◌++◌, Option, Some, None, if◌then◌else◌, nat_le}
use Rattle.markdown_base.specs.Event.{LinkView}
use Rattle.markdown_base.specs.Forest.{Forest, nil, node}
use Rattle.markdown_base.specs.declared.item.ItemBody.{ItemBody}
use Rattle.markdown_base.specs.declared.item.ItemBody.TheVariants as body
use Rattle.markdown_base.specs.declared.tag.LinkType.{LinkType}
use Rattle.markdown_base.specs.declared.tag.LinkType.TheVariants as kind
use Rattle.markdown_brackets.specs.BracketDecision.{BracketContext, Becomes, Progress, a_link, decided}
use Rattle.markdown_brackets.specs.ReadChain.{closing_of, read_past}
use Rattle.markdown_document.specs.EnclosingBlocks.{EnclosingBlocks}
use Rattle.markdown_document.specs.ChainRest.{begun_at, end_of, open_body}
use Rattle.markdown_document.specs.Document.{Notes, TreeNode}
use Rattle.markdown_document.specs.Setting.{Setting}
use Rattle.markdown_resolver.specs.PassOne.{bracket_context, read_other}

-- the type is that of a link or an image whose label was looked up
abbrev pub is_looked_up : LinkType → Bool
is_looked_up kind.Reference = true
is_looked_up kind.ReferenceUnknown = true
is_looked_up kind.Collapsed = true
is_looked_up kind.CollapsedUnknown = true
is_looked_up kind.Shortcut = true
is_looked_up kind.ShortcutUnknown = true
is_looked_up kind.Inline = false
is_looked_up kind.Autolink = false
is_looked_up kind.Email = false
is_looked_up (kind.WikiLink has_pothole) = false

-- what a look-up found, where it made a `]` the end of a link or an image
abbrev pub found_by : {A : Type 0} → Becomes A → List LinkView
found_by (a_link o target titles end next) = if is_looked_up target.kind then target ∷ [] else []
found_by other = []

-- what a look-up found at an item, by the item's body: a label is looked up only at a `]`
abbrev pub found_as : {A : Type 0} → BracketContext → ItemBody → TreeNode A → (rest : Forest (TreeNode A)) → Progress A
    → List LinkView
found_as w (body.MaybeLinkClose could_be_reference) a rest p =
    found_by (decided w (closing_of could_be_reference a rest p) p).becomes
found_as w other a rest p = []

-- the same where pass one has read up to a byte offset: nothing is found at an item that ends there or before
abbrev pub found_past : {A : Type 0} → BracketContext → Option ℕ → TreeNode A → (rest : Forest (TreeNode A))
    → Progress A
    → List LinkView
found_past w None a rest p = found_as w (open_body a.part.shape) a rest p
found_past w (Some i) a rest p =
    if nat_le (end_of a) i then []
    else found_as w (open_body (begun_at i a).part.shape) (begun_at i a) rest (record p { goes_on = None })

-- what look-ups found in a chain as pass one reads it, from this progress on
abbrev pub look_ups_from : {A : Type 0} → Setting → Notes A → EnclosingBlocks → Forest (TreeNode A) → Progress A
    → List LinkView
look_ups_from s notes above nil p = []
look_ups_from s notes above (node a below rest) p =
    found_past (bracket_context s above) p.goes_on a rest p
    ++ look_ups_from s notes above rest
    (read_past (bracket_context s above) (read_other s notes above) p.goes_on a below rest p)

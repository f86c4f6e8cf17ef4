use Rattle.std.proofs.Common.{◌-◌, List, length, ◌∙◌, ap}
use Rattle.std.specs.List.{slice_get}
use Rattle.markdown_brackets.specs.Openers.{first_opener}
use Rattle.markdown_brackets.specs.declared.openers.Opener.{Opener}
use Rattle.markdown_brackets.proofs.OpenerLemmas.{nearest_is}
use Rattle.markdown_brackets.proofs.openers.OpenerStack.nearest.Goals as goal

pub returns : goal.returns
returns c =
    c.copied.ensures ∙ (c.last.ensures.value
    ∙ (ap (λ (l : List Opener). slice_get l (length l - 1)) c.deref.ensures.value
    ∙ (nearest_is c.self.inside.live_from c.self.inside.openers.items ∙ ap first_opener c.self.view_is)))

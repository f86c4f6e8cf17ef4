-- What follows a `#` is no name, or there is no `#`.
use Rattle.std.proofs.Common.{◌≡◌, ◌∙◌, sym, lit<}
use Rattle.std.proofs.lemmas.Result.{IfOk-weaker}
use Rattle.std.proofs.lemmas.Str.Pattern.{strip_prefix_char}
use Rattle.markdown_base.specs.CowText.{text_of}
use Rattle.markdown_safe.specs.SafeEvents.{safe_destination, safe_target}
use Rattle.markdown_safe.specs.SafeUrl.{link_schemes}
use Rattle.markdown_safe.proofs.TargetLemmas.{target-unnamed, target-other}
use Rattle.markdown_safe.proofs.events.safe_target.Goals.{in_default-via-in-Some+else-is_name}
use Rattle.markdown_safe.proofs.events.safe_target.Goals.{in_default-via-in_default}
use Rattle.markdown_safe.proofs.events.safe_target.Goals as goal

pub returns : goal.returns
returns c =
    let text = c.as_str.ensures in
    let sign = strip_prefix_char 35 c.as_str.result.now c.strip_prefix.result c.strip_prefix.ensures.cases (lit< tt) in
    let same : safe_destination c.args.link_type link_schemes (text_of c.args.destination)
    ≡ safe_target c.args.prefix.now c.args.link_type (text_of c.args.destination) =
    elim c.in_default.branch [
      | in_default-via-in-Some+else-is_name w ↦
          target-unnamed _ _ _ w.in-Some.name.now (sym text ∙ rw w.in-Some.is at sign)
          (sym w.is_name.ensures ∙ w.if-is_name.false)
      | in_default-via-in_default w ↦ target-other _ _ _ (λ name are. (rw w.in_default.is at sign) name (text ∙ are))
    ] in
    IfOk-weaker c.safe_destination.result _ _ (λ made h. h ∙ same) c.safe_destination.ensures

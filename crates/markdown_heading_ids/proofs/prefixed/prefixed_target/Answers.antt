-- What follows a `#` is empty, or there is no `#`.
use Rattle.std.proofs.Common.{◌∙◌, sym, lit<}
use Rattle.std.proofs.lemmas.Str.Pattern.{strip_prefix_char}
use Rattle.markdown_heading_ids.proofs.PrefixedLemmas.{target-elsewhere, target-sign}
use Rattle.markdown_heading_ids.proofs.prefixed.prefixed_target.Goals.{in_default-via-in-Some+else-not-is_empty}
use Rattle.markdown_heading_ids.proofs.prefixed.prefixed_target.Goals.{in_default-via-in_default}
use Rattle.markdown_heading_ids.proofs.prefixed.prefixed_target.Goals as goal

pub returns : goal.returns
returns c =
    let text = c.as_str.ensures in
    let sign = strip_prefix_char 35 c.as_str.result.now c.strip_prefix.result c.strip_prefix.ensures.cases (lit< tt) in
    elim c.in_default.branch [
      | in_default-via-in-Some+else-not-is_empty w ↦ target-sign _ _ w.in-Some.id.now
          (sym w.is_empty.ensures ∙ w.if-not-is_empty.false) (sym text ∙ rw w.in-Some.is at sign)
      | in_default-via-in_default w ↦ target-elsewhere _ _ (λ id are. (rw w.in_default.is at sign) id (text ∙ are))
    ]

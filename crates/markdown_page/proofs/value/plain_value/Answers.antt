-- The characters of what is left are those of the value.
use Rattle.std.proofs.Common.{◌≡◌, ◌∙◌, false, true, refl, ap, sym, chars, encode_utf8_all, rules, Some}
use Rattle.std.proofs.lemmas.Str.{chars_from_encodes, encodes-chars}
use Rattle.markdown_page.specs.MetadataTitle.{before_comment, begins_plain_value, is_no_value, up_to_gap}
use Rattle.markdown_page.proofs.value.plain_value.Goals as goal

pub returns-then-is_no_value-clause-read : goal.returns-then-is_no_value-clause-read
returns-then-is_no_value-clause-read c =
    let begins : begins_plain_value (chars c.args.text.now) ≡ true =
    search (rules, c.begins_plain_value.ensures, c.if-not-begins_plain_value.false) in
    let written : c.as_str.result.now ≡ encode_utf8_all (before_comment (chars c.args.text.now)) =
    search (rules, c.as_str.ensures.value, c.in_ok-before.ensures.read) in
    let before = chars_from_encodes (before_comment (chars c.args.text.now)) c.as_str.result.now c.as_str.utf8
    (sym written) in
    let value : chars c.up_to_gap-value.result.now ≡ up_to_gap (before_comment (chars c.args.text.now)) =
    c.up_to_gap-value.ensures ∙ ap up_to_gap (sym before) in
    let none : is_no_value (up_to_gap (before_comment (chars c.args.text.now))) ≡ true =
    sym (ap is_no_value value) ∙ search (rules, c.is_no_value.ensures, c.if-is_no_value.true) in
    rw (begins, none) refl

pub returns-clause-read : goal.returns-clause-read
returns-clause-read c =
    let begins : begins_plain_value (chars c.args.text.now) ≡ true =
    search (rules, c.begins_plain_value.ensures, c.if-not-begins_plain_value.false) in
    let written : c.as_str.result.now ≡ encode_utf8_all (before_comment (chars c.args.text.now)) =
    search (rules, c.as_str.ensures.value, c.in_ok-before.ensures.read) in
    let before = chars_from_encodes (before_comment (chars c.args.text.now)) c.as_str.result.now c.as_str.utf8
    (sym written) in
    let value : chars c.up_to_gap-value.result.now ≡ up_to_gap (before_comment (chars c.args.text.now)) =
    c.up_to_gap-value.ensures ∙ ap up_to_gap (sym before) in
    let some : is_no_value (up_to_gap (before_comment (chars c.args.text.now))) ≡ false =
    sym (ap is_no_value value) ∙ search (rules, c.is_no_value.ensures, c.if-is_no_value.false) in
    let same = c.in_ok-from_str.ensures.ok ∙ sym (encodes-chars _ c.up_to_gap-value.utf8) ∙ ap encode_utf8_all value in
    rw (begins, some) (ap Some same)

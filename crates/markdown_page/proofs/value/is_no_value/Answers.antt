-- The bytes are those of the characters.
use Rattle.std.proofs.Common.{◌≡◌, false, true, refl, chars, rules}
use Rattle.std.proofs.lemmas.Str.{encodes-chars}
use Rattle.markdown_page.specs.MetadataTitle.{has_key}
use Rattle.markdown_page.proofs.value.is_no_value.Goals as goal

pub returns-then-has_key : goal.returns-then-has_key
returns-then-has_key c =
    let key : has_key (chars c.args.value.now) ≡ true = search (rules, c.has_key.ensures, c.if-has_key.true) in
    rw key refl

pub returns : goal.returns
returns c =
    let key : has_key (chars c.args.value.now) ≡ false = search (rules, c.has_key.ensures, c.if-has_key.false) in
    rw (key, encodes-chars c.args.value.now c.utf8.value) c.is_null_word.ensures

-- A name is what stands between an ampersand and a semicolon.
use Rattle.std.proofs.Common.{sym, ◌∙◌, length, take, drop, ◌-◌}
use Rattle.markdown_entities.proofs.NamesLemmas.{no_ampersand, no_semicolon, name_between, to_end}
use Rattle.markdown_entities.proofs.named_entity.written_name.Goals as goal

pub returns-then-not-starts_with-clause-none : goal.returns-then-not-starts_with-clause-none
returns-then-not-starts_with-clause-none c =
    no_ampersand c.args.bytes.now (sym c.starts_with.ensures.value ∙ c.if-not-starts_with.true)

pub returns-then-starts_with-clause-some : goal.returns-then-starts_with-clause-some
returns-then-starts_with-clause-some c =
    let bytes = c.args.bytes.now in
    let rest = take (length bytes - 1) (drop 1 bytes) in
    name_between bytes rest _ c.min.result c.name_length-length.result (to_end 1 bytes)
    c.name_length-length.ensures.value
    (to_end c.name_length-length.result rest) (sym c.starts_with.ensures.value ∙ c.if-not-starts_with.false)
    (sym c.starts_with-2.ensures.value ∙ c.if-starts_with.true)

pub returns-else-starts_with-clause-none : goal.returns-else-starts_with-clause-none
returns-else-starts_with-clause-none c =
    let bytes = c.args.bytes.now in
    let rest = take (length bytes - 1) (drop 1 bytes) in
    no_semicolon bytes rest _ c.min.result c.name_length-length.result (to_end 1 bytes) c.min.ensures
    c.name_length-length.ensures.value
    (to_end c.name_length-length.result rest) (sym c.starts_with-2.ensures.value ∙ c.if-starts_with.false)

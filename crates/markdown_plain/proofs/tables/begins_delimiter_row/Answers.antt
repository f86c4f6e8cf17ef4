-- Another byte.
use Rattle.std.proofs.Common.{ℕ, List, sym, ◌∙◌}
use Rattle.markdown_base.specs.Bytes.{colon, hyphen, pipe}
use Rattle.markdown_plain.proofs.DefinitionsLemmas.{differs}
use Rattle.markdown_plain.proofs.DelimiterRowsLemmas.{no_row_at}
use Rattle.markdown_plain.proofs.tables.begins_delimiter_row.Goals as goal

pub returns-else-byte-eq11 : goal.returns-else-byte-eq11
returns-else-byte-eq11 c = λ last (text : List ℕ) (at stop : ℕ) there.
    let b = c.in-Some.byte in let space = sym c.is_space_or_tab.ensures ∙ c.if-byte-eq11.false.0 in
    no_row_at text at stop b (sym c.in-Some.is ∙ there) (rw (space, differs b 11 c.if-byte-eq11.false.1, last))
    (differs b pipe c.if-byte-eq124.false) (differs b colon c.if-byte-eq58.false)
    (differs b hyphen c.if-byte-eq45.false)

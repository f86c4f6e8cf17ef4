-- Outside all blocks the line is text where its first byte shows that.
use Rattle.std.proofs.Common.{◌≡◌, ◌==◌, ◌∙◌, [], ◌∷◌, List, arith, length, true, refl, sym}
use Rattle.markdown_builder.specs.declared.open_block.OpenBlock.{OpenBlock}
use Rattle.std.proofs.lemmas.Bool.Decides.{nat_tests}
use Rattle.std.proofs.lemmas.Result.{IfOk-weaker}
use Rattle.markdown_plain.proofs.AddedCellsLemmas.{HasNoTable, counted_on, next_as_line}
use Rattle.markdown_plain.proofs.OpenTablesLemmas.{table_none_last, table_open}
use Rattle.markdown_plain.proofs.ReadyTextsLemmas.{start_of, text_outside}
use Rattle.markdown_plain.proofs.pass.Pass.read_line.Goals as goal

none_open : (blocks : List OpenBlock) → (length blocks == 0) ≡ true → blocks ≡ []
none_open [] none = refl
none_open (block ∷ blocks) none = absurd (grind (arith, nat_tests, none))

pub read_text_line-requires : goal.read_text_line-requires
read_text_line-requires c = text_outside c.requires (none_open c.args.self.now.placing.builder.blocks
    (rw (c.is_empty.ensures, c.open_blocks.ensures) at c.if-not-is_empty.false))
    (rw c.text.ensures at (c.begins_text.ensures c.if-not-begins_text.false (start_of c.args.line) refl refl))

pub returns-clause-reads : goal.returns-clause-reads
returns-clause-reads c =
    let old = c.args.self.now in
    let none : old.placing.builder.blocks ≡ [] = none_open old.placing.builder.blocks
    (rw (c.is_empty.ensures, c.open_blocks.ensures) at c.if-not-is_empty.false) in
    let shows = rw c.text.ensures
    at (c.begins_text.ensures c.if-not-begins_text.false (start_of c.args.line) refl refl) in
    IfOk-weaker c.read_text_line.result _ _ (λ done told may.
    let table : HasNoTable may.before.last = table_none_last may.before.last (sym (table_open may.s old
    may.before.frames may.before.inside may.before.last may.stands.unended) ∙ rw none refl) in
    record {
      stands = rw (next_as_line may.s old may.before may.source c.args.line.start may.stands may.counted table).0
          (told.stands (text_outside may none shows));
      counted = counted_on may.s old c.read_text_line.new.self may.before may.source c.args.line.start may.stands table
          told.tables may.counted;
    }) c.read_text_line.ensures

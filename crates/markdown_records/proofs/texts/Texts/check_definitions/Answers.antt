-- Each group can be read, or one cannot.
use Rattle.std.proofs.Common.{rules, ◌∙◌}
use Rattle.markdown_records.specs.Decoded.{definition_in}
use Rattle.markdown_records.specs.ReadResult.{IsNotRead}
use Rattle.markdown_records.specs.SaidBy.{said_definitions}
use Rattle.markdown_records.proofs.SaidLemmas.{said_more, said_refused}
use Rattle.markdown_records.proofs.texts.Texts.check_definitions.Goals as goal

pub returns-in_err-check_definition : goal.returns-in_err-check_definition
returns-in_err-check_definition c =
    let s = c.args.self.now.source.now in
    let p = c.args.self.now.pool.now in
    let why : IsNotRead (said_definitions s p c.args.bytes.now) c.in_err-check_definition.field-0.0 =
    said_refused s p (definition_in s p) c.args.bytes.now c.definitions.invariant.same c.definitions.invariant.whole
    c.in-Some.ensures
    c.in_err-check_definition.ensures in
    search rules

pub definitions-preserved : goal.definitions-preserved
definitions-preserved c =
    let s = c.args.self.now.source.now in
    let p = c.args.self.now.pool.now in
    record {
      whole = c.in-Some.ensures.whole;
      same = c.definitions.invariant.same
          ∙ said_more s p (definition_in s p) c.definitions.invariant.whole c.in-Some.ensures
          c.in_ok-check_definition.ensures;
    }

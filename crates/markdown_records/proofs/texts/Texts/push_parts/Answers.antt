-- A part comes to those before, or it cannot.
use Rattle.std.proofs.Common.{rules, ap, sym, ◌∙◌, ℕ, List, Option}
use Rattle.std.specs.Borrow.{Bor}
use Rattle.std.specs.Option.{option_map}
use Rattle.markdown_records.specs.Decoded.{with_parts}
use Rattle.markdown_records.specs.ReadOf.{heading_read}
use Rattle.markdown_records.specs.ReadResult.{IsNotRead, words}
use Rattle.markdown_records.specs.RecordView.{records_in}
use Rattle.markdown_records.proofs.TagLemmas.{part_added, part_refused}
use Rattle.markdown_records.proofs.texts.Texts.push_parts.Goals as goal

pub returns-in_err-push_part : goal.returns-in_err-push_part
returns-in_err-push_part c =
    let s = c.args.self.now.source.now in
    let p = c.args.self.now.pool.now in
    let why : IsNotRead (with_parts s p (heading_read c.args.heading.now) (records_in c.args.parts.now))
    c.in_err-push_part.field-0.0 =
    part_refused s p (heading_read c.args.heading.now) (heading_read c.parts.heading) (records_in c.args.parts.now)
    c.parts.invariant c.in-Some.ensures.records
    (sym c.text_of.ensures ∙ ap (λ (t : Option (Bor (List ℕ))). option_map words t) c.in_ok-text.ensures.ok_part)
    (c.in_err-push_part.ensures s p) in
    search rules

pub parts-preserved : goal.parts-preserved
parts-preserved c =
    let s = c.args.self.now.source.now in
    let p = c.args.self.now.pool.now in
    c.parts.invariant
    ∙ part_added s p (heading_read c.parts.heading) (heading_read c.push_part.new.self) c.in-Some.ensures.records
    (sym c.text_of.ensures ∙ ap (λ (t : Option (Bor (List ℕ))). option_map words t) c.in_ok-text.ensures.ok_part)
    (c.in_ok-push_part.ensures s p)

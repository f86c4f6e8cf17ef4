-- The items so far are appended to the cell.
use Rattle.std.proofs.Common.{rules, ℕ, ◌≡◌, ◌+◌, ◌-◌, ◌<◌, ◌≤◌, ◌∙◌, length, slice_range, refl, sym, ap, arith}
use Rattle.std.proofs.Common.{true≢false, suc, length-take}
use Rattle.markdown_plain.proofs.ClosableLemmas.{ahead_of}
use Rattle.markdown_plain.proofs.LeafTreesLemmas.{no_text, texts_after}
use Rattle.markdown_lines.specs.TableRows.{piece_length}
use Rattle.markdown_items.proofs.RestOfLineLemmas.{no_items}
use Rattle.markdown_plain.proofs.ShownRowsLemmas.{IsPieceIn, no_pieces, piece_cut, piece_in, piece_placed, whole_piece}
use Rattle.markdown_plain.proofs.tables.add_cell_items.Goals.{then-escapes, else-escapes, After-saturating_add-end}
use Rattle.markdown_plain.proofs.tables.add_cell_items.Goals as goal

pub pieces-init : goal.pieces-init
pieces-init c = record {
  goes_on = search rules;
  texts = no_text _ _ refl;
  whole = λ once less. refl;
  items = λ once none. record {
    steps = suc (c.args.cell.to - c.args.cell.from);
    enough = omega arith;
    rest = refl;
    over = λ less byte some. cc (none, some);
    special = λ byte some. cc (none, some);
  };
  may =
      let low = c.requires.ahead in
      record { low = low; high = omega (arith, low, c.requires.cell.content); boundary = λ less. c.requires.cell.from };
}

-- how far the next piece goes
ends_at : (c : After-saturating_add-end) → c.saturating_add-end.result ≡ c.pieces.from + c.if-escapes.length
ends_at c =
    let from = c.pieces.from in
    let within : c.if-escapes.length ≤ c.args.cell.to - from = elim c.if-escapes.branch [
      | then-escapes w ↦
          omega (arith, w.piece_length-length.ensures, ap length w.bytes_of.ensures, length-take {A = ℕ})
      | else-escapes w ↦ omega (arith, w.length-is)
    ] in
    omega (arith, c.saturating_add-end.ensures, within, c.pieces-test.true)

piece : (c : After-saturating_add-end)
    → IsPieceIn c.args.placing.now.builder.text c.pieces.from c.args.cell.to c.saturating_add-end.result
piece c =
    let to = c.args.cell.to in let less : c.pieces.from < to = c.pieces-test.true in
    let same : c.pieces.placing.builder.text ≡ c.args.placing.now.builder.text = rw c.pieces.invariant.goes_on refl in
    elim c.if-escapes.branch [
      | then-escapes w ↦
          let size : c.if-escapes.length ≡ piece_length (slice_range c.args.placing.now.builder.text c.pieces.from to) =
          w.length-is ∙ (w.piece_length-length.ensures.value ∙ rw (w.bytes_of.ensures, w.text.ensures, same) refl) in
          rw (ends_at c, size) (piece_in c.args.placing.now.builder.text c.pieces.from to (omega (arith, less))
          c.requires.cell.to.0)
      | else-escapes w ↦ whole_piece c.args.placing.now.builder.text c.pieces.from to c.saturating_add-end.result
          (omega (arith, less)) (omega (arith, w.length-is, ends_at c, less))
    ]

pub pieces-preserved : goal.pieces-preserved
pieces-preserved c =
    let text = c.args.placing.now.builder.text in let view = c.pieces.placing.builder in let to = c.args.cell.to in
    let from = c.pieces.from in let stop = c.saturating_add-end.result in let next = c.saturating_add-from.result in
    let less : from < to = c.pieces-test.true in let same : view.text ≡ text = rw c.pieces.invariant.goes_on refl in
    let there = ends_at (goal.at.pieces-preserved c).After-saturating_add-end in
    let after : stop + 3 ≤ to → next ≡ stop + 2 = λ more. omega (arith, c.saturating_add-from.ensures, more) in
    let past : next < to → stop < to = λ more. omega (arith, c.saturating_add-from.ensures, more) in
    let appends = c.in_ok-add_items.ensures.appends in
    record {
      goes_on = search rules;
      texts = texts_after _ view _ c.pieces.invariant.texts (texts_after _ c.step_to.new.self.builder _
          (no_text _ _ (rw c.step_to.ensures.steps refl)) appends.texts);
      whole = λ once more. elim c.if-escapes.branch [
        | then-escapes w ↦ absurd (true≢false (sym w.if-escapes.true ∙ once))
        | else-escapes w ↦ absurd (omega (arith, w.length-is, there, past more))
      ];
      items = λ once none.
          let size : c.if-escapes.length ≡ piece_length (slice_range view.text from to) = elim c.if-escapes.branch [
            | then-escapes w ↦ w.length-is ∙ (w.piece_length-length.ensures.value
                ∙ rw (w.bytes_of.ensures, w.text.ensures) refl)
            | else-escapes w ↦
                let first = c.pieces.invariant.whole w.if-escapes.false less in
                rw (same, first) (w.length-is ∙ rw first (sym (once w.if-escapes.false)))
          ] in
          piece_placed less (rw same c.requires.cell.to.0) (c.pieces.invariant.items once none) c.step_to.ensures.steps
          appends.goes_on c.in_ok-add_items.ensures.further c.in_ok-add_items.ensures.over (rw size at there) after
          (omega (arith, c.saturating_add-from.ensures));
      may =
          let piece = piece (goal.at.pieces-preserved c).After-saturating_add-end in
          let cut = piece_cut text from to stop c.requires.cell.to piece in
          let at : c.add_items.new.self.builder.at ≡ stop = rw appends.goes_on refl in
          record {
            low = omega (arith, at, c.saturating_add-from.ensures, piece.high);
            high = omega (arith, at, piece.high);
            boundary = λ more. rw (after (piece.pair (past more)).0) (cut.1 (past more));
          };
    }

-- the next piece fits
pub add_items-requires-clause-ahead : goal.add_items-requires-clause-ahead
add_items-requires-clause-ahead c =
    let text = c.args.placing.now.builder.text in
    let next = piece (goal.at.add_items-requires-clause-ahead c).After-saturating_add-end in
    ahead_of text c.pieces.from c.saturating_add-end.result c.step_to.new.self.builder
    (rw (c.step_to.ensures.steps, c.pieces.invariant.goes_on) refl) (rw c.step_to.ensures.steps refl) next.low
    (piece_cut text c.pieces.from c.args.cell.to c.saturating_add-end.result c.requires.cell.to next).0

pub returns-clause-items : goal.returns-clause-items
returns-clause-items c = λ once none.
    let awaits = c.pieces.invariant.items once none in
    sym (no_items c.pieces.placing.builder.levels)
    ∙ rw (no_pieces awaits.steps _ _ c.pieces.from c.args.cell.to (search rules)) at awaits.rest

pub returns-clause-within : goal.returns-clause-within
returns-clause-within c = c.pieces.invariant.may.high

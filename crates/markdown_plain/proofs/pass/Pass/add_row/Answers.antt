-- The row is placed, and the cells that it lacks are counted.
use Rattle.std.proofs.Common.{rules, ◌≡◌, ◌+◌, ◌-◌, ◌∙◌, ap, arith, if◌then◌else◌, length, nat_le, refl}
use Rattle.std.proofs.lemmas.Bool.{and_parts}
use Rattle.markdown_builder.specs.EvenRows.{open_columns}
use Rattle.markdown_lines.specs.TableRows.{row_cells_at}
use Rattle.markdown_plain.proofs.pass.Pass.add_row.Goals as goal

pub returns : goal.returns
returns c = λ is.
    let tables = c.args.self.now.tables in let view = c.args.self.now.placing.builder in
    let lacking : c.saturating_sub.result
    ≡ open_columns view - length (row_cells_at view.text c.args.start c.args.line.stop) =
    omega (arith, c.saturating_sub.ensures, c.columns-columns.ensures, c.in_ok-found.ensures.found) in
    record {
      same = search rules;
      counts = c.add-fits.ensures.counts ∙ (ap (λ fits. if fits then tables.added + c.saturating_sub.result
          else tables.added) (c.add-fits.ensures.fits ∙ (ap (λ n. nat_le (tables.added + n) tables.most) lacking ∙
          (and_parts _ _ is).1)) ∙ ap (λ n. tables.added + n) lacking);
      most = search rules;
      puts = c.in_ok-found.ensures.puts refl;
    }

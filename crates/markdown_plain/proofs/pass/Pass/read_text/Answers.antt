-- The line is placed as the definition says.
use Rattle.std.proofs.Common.{rules}
use Rattle.markdown_lines.specs.declared.block_start.BlockStart.{BlockStart}
use Rattle.markdown_lines.specs.declared.block_start.BlockStart.TheVariants as start
use Rattle.markdown_plain.specs.Beginning.{IsReadAsText, MayBeginBlock}
use Rattle.markdown_plain.specs.Standing.{PlacesFor}
use Rattle.markdown_plain.proofs.TurnsLemmas.{found_text, text_here}
use Rattle.markdown_plain.proofs.UnderlinesLemmas.{underline_added}
use Rattle.markdown_plain.proofs.pass.Pass.read_text.Goals as goal
use Rattle.markdown_plain.proofs.pass.Pass.read_text.Goals.{In_ok-add_text}

-- the line is placed
places : (c : In_ok-add_text) (start : BlockStart) → IsReadAsText c.args.self.now c.args.rest.now.line c.args.at start
    → (may : MayBeginBlock c.args.self.now c.args.rest.now c.args.at start)
    → PlacesFor may.s c.add_text.new.self c.args.rest.now.line.next may.blocks
places c start.Text is may =
    text_here may.s c.args.self.now c.add_text.new.self c.args.rest.now c.args.at may.turn may.source may.blocks
    c.in_ok-add_text.ensures may.here (found_text may.s c.args.rest.now may.source c.args.at may.found)
places c (start.Underline level) is may =
    underline_added may.s c.args.self.now c.add_text.new.self c.args.rest.now may.turn may.source c.args.at may.blocks
    level may.here may.found is c.in_ok-add_text.ensures
places c other is may = absurd is

pub returns : goal.returns
returns c = λ start is. record { begun = places c start is; tables = search rules }

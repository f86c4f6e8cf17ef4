-- The indented code is the block that the rest of the line begins.
use Rattle.std.proofs.Common.{◌∙◌, ◌∷◌, [], refl, rules}
use Rattle.markdown_lines.specs.BlockStarts.{left_at}
use Rattle.markdown_lines.specs.SourceLines.{SourceLine}
use Rattle.markdown_block_rules.specs.BlockGrowth as was
use Rattle.markdown_plain.proofs.FoundBlocksLemmas.{keeps_rest, room_kept}
use Rattle.markdown_plain.proofs.BegunLeavesLemmas.{code_fits, code_in_room, code_is, code_rest, leaf_in_room}
use Rattle.markdown_plain.proofs.BegunContainersLemmas.{blank_alike}
use Rattle.markdown_plain.proofs.pass.Pass.read_indented.Goals as goal

pub returns : goal.returns
returns c = λ at. record {
  begun = λ may.
      let room = c.make_room_for.new.self in let has = c.in_ok-make_room_for.ensures.room _ _ _ may refl tt in
      let left = left_at c.args.rest.now.reader c.args.code in let l : SourceLine = record may.source { left = left } in
      let filled = blank_alike left may.source.left (code_in_room c.args.code has).0 ∙ has.filled in
      let opens = c.in_ok-open_indented.ensures in
      leaf_in_room has room.placing (was.indented_leaf (l ∷ [])) c.args.code.at refl
      (keeps_rest room c.open_indented.new.self c.open_indented.ensures.same opens.text)
      (opens.leaf l (code_rest c.args.code has) filled) (rw opens.kind (code_is [] l filled)) (λ e. cc) refl;
  tables = search rules;
}

pub open_indented-requires : goal.open_indented-requires
open_indented-requires c =
    let may = c.requires.1 in let has = c.in_ok-make_room_for.ensures.room _ _ _ may refl tt in
    code_fits c.args.code has (rw (room_kept may has) may.fits.0)

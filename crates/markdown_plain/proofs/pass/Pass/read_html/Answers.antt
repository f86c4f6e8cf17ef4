-- The HTML block is the block that the rest of the line begins.
use Rattle.std.proofs.Common.{◌∷◌, [], refl, rules}
use Rattle.markdown_block_rules.specs.BlockGrowth.{content_of, ends_html}
use Rattle.markdown_block_rules.specs.BlockGrowth as was
use Rattle.markdown_plain.proofs.FoundBlocksLemmas.{keeps_rest, room_kept}
use Rattle.markdown_plain.proofs.BegunLeavesLemmas.{ends_last_is, html_fits, html_next, leaf_in_room, room_rest}
use Rattle.markdown_plain.proofs.pass.Pass.read_html.Goals as goal

pub returns : goal.returns
returns c = λ at. record {
  begun = λ may.
      let room = c.make_room_for.new.self in let has = c.in_ok-make_room_for.ensures.room _ _ _ may refl tt in
      let kind = was.html_leaf c.args.kind (ends_html c.args.kind may.source) (may.source ∷ []) in
      let opens = c.in_ok-open_html.ensures in
      leaf_in_room has room.placing kind (content_of may.source) refl
      (keeps_rest room c.open_html.new.self c.open_html.ensures.same opens.text)
      (opens.leaf may.source (content_of may.source) (room_rest has)
      (html_next has at may.found.begins (rw (room_kept may has) may.stands)))
      (ends_last_is kind refl (λ e. rw (opens.kind, e) refl)) (λ e. cc) refl;
  tables = search rules;
}

pub open_html-requires : goal.open_html-requires
open_html-requires c =
    let may = c.requires.1 in let has = c.in_ok-make_room_for.ensures.room _ _ _ may refl tt in
    html_fits has c.requires.0 may.found.begins (rw (room_kept may has) may.stands)

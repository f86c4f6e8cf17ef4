-- There is room for the block that the rest of the line begins.
use Rattle.std.proofs.lemmas.Result.{IfOk-weaker}
use Rattle.markdown_plain.proofs.OpenTablesLemmas.{here_room}
use Rattle.markdown_plain.proofs.BegunItemsLemmas.{room_for}
use Rattle.markdown_plain.proofs.pass.Pass.make_room_for.Goals as goal

pub returns-clause-room : goal.returns-clause-room
returns-clause-room c = IfOk-weaker c.make_room.result _ _ (λ done room at start b may begins needs.
    room_for may.s c.args.self.now c.make_room.new.self c.args.rest.now may.turn may.source at start b may.blocks room
    may.here may.found begins needs) c.make_room.ensures

pub returns-clause-same : goal.returns-clause-same
returns-clause-same c = IfOk-weaker c.make_room.result _ _ (λ done room. room.same) c.make_room.ensures

pub make_room-requires : goal.make_room-requires
make_room-requires c =
    let may = c.requires.2 in here_room may.s c.args.self.now c.args.rest.now may.turn may.source may.blocks may.here

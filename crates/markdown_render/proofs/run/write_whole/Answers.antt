-- What a write took of the rest follows what the writer held before, and an interrupted one took nothing.
use Rattle.std.proofs.Common.{◌++◌, take}
use Rattle.std.proofs.KnownBytes.{Appends-kept, Appends-trans}
use Rattle.markdown_render.proofs.OutcomeLemmas.{front_moves}
use Rattle.markdown_render.proofs.run.write_whole.Goals as goal
use Rattle.markdown_render.proofs.run.write_whole.Goals.{in-Ok, in-Err+else-ne}

pub writing-preserved : goal.writing-preserved
writing-preserved g c =
    let (done, split, appended) = c.writing.invariant in
    let rest = c.writing.rest.now in
    elim c.match-write.branch [
      | in-Ok w ↦
          rw w.rest-is (
            done ++ take w.in-Ok.count rest,
            front_moves _ done rest w.in-Ok.count split,
            Appends-trans _ _ _ _ _ appended w.in-Ok.ensures.bytes,
          )
      | in-Err+else-ne w ↦ rw w.rest-is (done, split, Appends-kept _ _ _ _ appended w.in-Err.ensures.bytes)
    ]

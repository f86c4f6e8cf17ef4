-- What the writer held is followed by what is gone from `rest`.
use Rattle.std.proofs.Common.{◌≡◌, ℕ, List, ◌++◌}
use Rattle.std.specs.Io.KnownBytes.{Appends}
use Rattle.markdown_render.proofs.run.write_whole.Given as goal

abbrev pub invariant-writing : goal.invariant-writing
invariant-writing g l = (done : List ℕ) × (l.initial.rest ≡ done ++ l.rest)
    × Appends (g.W.Write.contents l.initial.out) (g.W.Write.contents l.out) done

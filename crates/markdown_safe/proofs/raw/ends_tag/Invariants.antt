use Rattle.std.proofs.Common.{◌≡◌}
use Rattle.std.proofs.Math.ListN.{drop}
use Rattle.markdown_safe.specs.VoidTags.{ends_tag}
use Rattle.markdown_safe.proofs.raw.ends_tag.Given as goal

-- the bytes end a tag if those that are left do
abbrev pub invariant-loop-at : goal.invariant-loop-at
invariant-loop-at l = ends_tag l.bytes ≡ ends_tag (drop l.at l.bytes)

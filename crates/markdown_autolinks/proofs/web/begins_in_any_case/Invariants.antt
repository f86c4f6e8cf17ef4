-- What the letters that are left decide.
use Rattle.std.proofs.Common.{◌≡◌, ◌+◌, drop}
use Rattle.markdown_autolinks.specs.Addresses.{begins_in_any_case}
use Rattle.markdown_autolinks.proofs.web.begins_in_any_case.Given as goal

-- the letters that are left decide
abbrev pub invariant-loop-byte : goal.invariant-loop-byte
invariant-loop-byte l =
    (begins_in_any_case l.text l.at l.word ≡ begins_in_any_case l.text l.place (drop l.byte-index l.word))
    × (l.place ≡ l.at + l.byte-index)

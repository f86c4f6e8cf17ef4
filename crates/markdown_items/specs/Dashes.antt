-- What hyphens and dots become where dashes are read.
use Rattle.std.specs.Prelude.{ℕ, ◌-◌, ◌/◌, ◌%◌, ◌==◌, List, ◌++◌, encode_utf8, if◌then◌else◌}
use Rattle.std.specs.List.{repeat}
use Rattle.markdown_items.specs.declared.dashes.Dashes.{Dashes}

abbrev pub em_dash : ℕ
em_dash = 0x2014

abbrev pub en_dash : ℕ
en_dash = 0x2013

abbrev pub ellipsis : ℕ
ellipsis = 0x2026

-- the dashes for `n` hyphens, three for an em dash and two for an en dash: of one kind if they come out even, em dashes
-- before en dashes, and otherwise em dashes with one or two en dashes
abbrev pub dashes_for : ℕ → Dashes
dashes_for n =
    if n % 3 == 0 then record { em = n / 3; en = 0 }
    else if n % 2 == 0 then record { em = 0; en = n / 2 }
    else if (n - 2) % 3 == 0 then record { em = (n - 2) / 3; en = 1 }
    else record { em = (n - 4) / 3; en = 2 }

-- the em dashes and then the en dashes, in UTF-8
abbrev pub dashes_in_utf8 : Dashes → List ℕ
dashes_in_utf8 dashes = repeat dashes.em (encode_utf8 em_dash) ++ repeat dashes.en (encode_utf8 en_dash)

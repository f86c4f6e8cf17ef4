-- Which extensions a set of options enables.
use Rattle.std.specs.Prelude.{Bool, ◌==◌}
use Rattle.std.specs.Int.RustNames.{bit_and, bit_or}
use Rattle.markdown_base.specs.declared.options.Options.{Options}

-- the empty set of options
abbrev pub no_options : Options
no_options = record { 0 = 0 }

-- the options of two sets
abbrev pub both_options : Options → Options → Options
both_options a b = record { 0 = bit_or a.0 b.0 }

-- an option is enabled: the set contains all of its bits
abbrev pub is_on : (option options : Options) → Bool
is_on option options = bit_and options.0 option.0 == option.0

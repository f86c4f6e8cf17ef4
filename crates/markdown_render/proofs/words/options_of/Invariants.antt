-- What the words read so far enable: with the words left, it is what all of them enable.
use Rattle.std.proofs.Common.{◌≡◌, map, string_bytes}
use Rattle.std.proofs.Math.ListN.{drop}
use Rattle.markdown_base.specs.EnabledOptions.{no_options}
use Rattle.markdown_render.specs.Words.{turned_on}
use Rattle.markdown_render.proofs.words.options_of.Given as goal

abbrev pub invariant-words : goal.invariant-words
invariant-words l =
    turned_on (map string_bytes l.words) no_options ≡ turned_on (map string_bytes (drop l.word-index l.words)) l.options

-- The first byte shows that the line is text.
use Rattle.std.proofs.Common.{◌≡◌, ◌<◌, Some, arith, false, rules, true, slice_get}
use Rattle.std.specs.Char.{is_ascii_alphabetic}
use Rattle.std.proofs.lemmas.Bool.Decides.{nat_tests}
use Rattle.markdown_lines.specs.Lines.{is_space_or_tab}
use Rattle.markdown_plain.proofs.ReadyTextsLemmas.{letter_begins_none, shows_text}
use Rattle.markdown_plain.proofs.block_pass.begins_text.Goals as goal

pub returns-in-Some : goal.returns-in-Some
returns-in-Some c = λ passes position here nothing.
    let byte = c.in-Some.byte in let low : c.args.at < c.args.stop = search rules in
    let there : slice_get c.args.text.now c.args.at ≡ Some byte = search rules in
    let letter : is_ascii_alphabetic byte ≡ true = search rules in
    let other : is_space_or_tab byte ≡ false = grind (arith, nat_tests, letter) in
    shows_text c.args.text.now _ _ byte low there other (letter_begins_none byte letter) position here nothing

pub returns-then-not-is_space_or_tab : goal.returns-then-not-is_space_or_tab
returns-then-not-is_space_or_tab c = λ passes position here nothing.
    let byte = c.in-Some.byte in let low : c.args.at < c.args.stop = search rules in
    let there : slice_get c.args.text.now c.args.at ≡ Some byte = search rules in
    let other : is_space_or_tab byte ≡ false = search rules in
    let none : c.may_begin_block.result ≡ false = grind (arith, passes) in
    shows_text c.args.text.now _ _ byte low there other (c.may_begin_block.ensures none) position here nothing

-- Tails of links, and bodies of wikilinks, as the definitions read them.
use Rattle.std.proofs.Common.{◌≡◌, ℕ, ◌++◌, true, false, List, [], Option, Some, None, codes, refl, replicate}
use Rattle.std.proofs.Common.{if◌then◌else◌, nat_lt}
use Rattle.markdown_brackets.specs.LinkTail.{link_tail}
use Rattle.markdown_brackets.specs.Wikilink.{wikilink_body, shows_name, shows_nothing, shows_from}

-- lines have no prefix
abbrev no_prefix : List ℕ → Option ℕ
no_prefix rest = Some 0

-- no item follows
abbrev no_item : ℕ → Option ℕ
no_item at = None

-- lines of a block quote have a prefix of two bytes
abbrev quote_prefix : List ℕ → Option ℕ
quote_prefix rest = Some 2

destination_alone : link_tail no_prefix no_item (codes "[a](c)") 3
    ≡ Some (record { ends = 6; destination = codes "c"; title = []; is_joined = false })
destination_alone = refl

with_title : link_tail no_prefix no_item (codes "[a](c 't' )") 3
    ≡ Some (record { ends = 11; destination = codes "c"; title = codes "t"; is_joined = false })
with_title = refl

-- the destination may be left out, and the separator before a title
nothing_in_it : link_tail no_prefix no_item (codes "[a]()") 3
    ≡ Some (record { ends = 5; destination = []; title = []; is_joined = false })
nothing_in_it = refl

-- a destination is left out only before a `)`
no_destination : link_tail no_prefix no_item (codes "[a](\n\u{b}\n)") 3 ≡ None
no_destination = refl

title_alone : link_tail no_prefix no_item (codes "[a](\n\u{c}\n't')") 3 ≡ None
title_alone = refl

title_after_brackets : link_tail no_prefix no_item (codes "[a](<c d>(t))x") 3
    ≡ Some (record { ends = 13; destination = codes "c d"; title = codes "t"; is_joined = false })
title_after_brackets = refl

-- an open parenthesis refuses a title in parentheses, and a title that does not end is none
title_in_title : link_tail no_prefix no_item (codes "[a](c (t(u)))") 3 ≡ None
title_in_title = refl

title_left_open : link_tail no_prefix no_item (codes "[a](c 't)") 3 ≡ None
title_left_open = refl

-- an escaped mark closes nothing
escaped_mark : link_tail no_prefix no_item (codes "[a](c '\\'t')") 3
    ≡ Some (record { ends = 12; destination = codes "c"; title = codes "\\'t"; is_joined = false })
escaped_mark = refl

-- 33 parentheses may be open in a destination, and 34 may not
abbrev parentheses : ℕ → List ℕ
parentheses n = codes "[a](" ++ replicate n 40 ++ replicate n 41 ++ codes ")"

nested_33 : link_tail no_prefix no_item (parentheses 33) 3
    ≡ Some (record { ends = 71; destination = replicate 33 40 ++ replicate 33 41; title = []; is_joined = false })
nested_33 = refl

nested_34 : link_tail no_prefix no_item (parentheses 34) 3 ≡ None
nested_34 = refl

-- one line ending with its prefix separates, two do not
line_separates : link_tail quote_prefix no_item (codes "[a](c\n> 't')") 3
    ≡ Some (record { ends = 12; destination = codes "c"; title = codes "t"; is_joined = false })
line_separates = refl

two_lines_do_not : link_tail no_prefix no_item (codes "[a](c\n\n't')") 3 ≡ None
two_lines_do_not = refl

-- a line of a title goes on at the item that starts it; where none starts later, the line ending stays
abbrev item_from_11 : ℕ → Option ℕ
item_from_11 at = if nat_lt at 14 then Some 11 else None

title_of_two_lines : link_tail quote_prefix item_from_11 (codes "[a](c 't\n> u')") 3
    ≡ Some (record { ends = 14; destination = codes "c"; title = codes "t\nu"; is_joined = true })
title_of_two_lines = refl

abbrev item_from_9 : ℕ → Option ℕ
item_from_9 at = if nat_lt at 11 then Some 9 else None

title_without_prefix : link_tail no_prefix item_from_9 (codes "[a](c 't\ru')") 3
    ≡ Some (record { ends = 12; destination = codes "c"; title = codes "t\nu"; is_joined = true })
title_without_prefix = refl

line_ending_stays : link_tail quote_prefix no_item (codes "[a](c 't\n> u')") 3
    ≡ Some (record { ends = 14; destination = codes "c"; title = codes "t\n> u"; is_joined = false })
line_ending_stays = refl

-- wikilinks
name_alone : wikilink_body (codes "[[foo]]") 7 2 5 ≡ Some (record { name = codes "foo"; shows = shows_name })
name_alone = refl

name_and_text : wikilink_body (codes "[[bar|baz]]") 11 2 9 ≡ Some (record { name = codes "bar"; shows = shows_from 6 })
name_and_text = refl

nothing_after_pipe : wikilink_body (codes "[[a|]]") 6 2 4 ≡ Some (record { name = codes "a"; shows = shows_nothing 4 })
nothing_after_pipe = refl

first_pipe_cuts : wikilink_body (codes "[[a|b|c]]") 9 2 7 ≡ Some (record { name = codes "a"; shows = shows_from 4 })
first_pipe_cuts = refl

-- past the block's end no pipe is seen
pipe_past_block : wikilink_body (codes "[[a|b]]") 3 2 5 ≡ Some (record { name = codes "a|b"; shows = shows_name })
pipe_past_block = refl

empty_name : wikilink_body (codes "[[|b]]") 6 2 4 ≡ None
empty_name = refl

empty_body : wikilink_body (codes "[[]]") 4 2 2 ≡ None
empty_body = refl

inverted_body : wikilink_body (codes "[[]]") 4 3 2 ≡ None
inverted_body = refl

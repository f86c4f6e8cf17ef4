-- The last character of the part of the line.
use Rattle.markdown_items.proofs.FlankingLemmas.{last_of_part}
use Rattle.markdown_items.proofs.around.character_before.Goals as goal

pub returns : goal.returns
returns c =
    last_of_part c.range.result.now c.chars-characters.result.rest.now c.as_str-front.result.now
    c.next_back-last.new.self.rest.now _ _ _ c.range.utf8 c.as_str-front.utf8 c.chars-characters.ensures.rest
    c.as_str-front.ensures c.range.ensures.value c.next_back-last.ensures.steps

-- The questions and answers of a callback, without the memory that holds their texts.
use Rattle.std.specs.Prelude.{Option, Some, None}
use Rattle.markdown_base.specs.declared.cow_str.CowStr.{CowStr}
use Rattle.markdown_base.specs.CowText.{text_of}
use Rattle.markdown_base.specs.Questions.{Question, Answer}
use Rattle.markdown_defs.specs.declared.callback.BrokenLink.{BrokenLink}

-- the question for a broken link, with the bytes of its label
abbrev pub question_of : BrokenLink → Question
question_of link =
    record { span = link.span; link_type = link.link_type; reference = text_of link.reference }

-- the answer that consists of a destination and a title, by their bytes
abbrev pub answer_of : Option (CowStr × CowStr) → Option Answer
answer_of None = None
answer_of (Some given) = Some (record { destination = text_of given.0; title = text_of given.1 })

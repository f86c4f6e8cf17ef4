-- The line is added to the paragraph that is held back, or one begins with it where room was made.
use Rattle.std.proofs.Common.{◌≡◌, ◌∙◌, [], refl, rules, sym, true, false, true≢false}
use Rattle.markdown_plain.specs.Paragraphs.{has_paragraph}
use Rattle.markdown_plain.proofs.pass.Pass.add_text.Goals.{then-not-has_paragraph+in_ok-make_room}
use Rattle.markdown_plain.proofs.pass.Pass.add_text.Goals.{else-not-has_paragraph}
use Rattle.markdown_plain.proofs.pass.Pass.add_text.Goals as goal

pub returns : goal.returns
returns c =
    elim c.if-not-has_paragraph.branch [
      | then-not-has_paragraph+in_ok-make_room w ↦
          let none : has_paragraph c.args.self.now ≡ false = search rules in let mid = w.make_room.new.self in
          let lines : c.if-not-has_paragraph.self.lines.items ≡ [] = rw w.self-is w.in_ok-make_room.ensures.ended in
          record {
            lines = search (rules, none, lines);
            text = rw w.self-is w.in_ok-make_room.ensures.text;
            tables = search rules;
            goes_on = λ some. absurd (true≢false (sym some ∙ none));
            begins = λ _. record {
              mid = mid;
              room = w.in_ok-make_room.ensures;
              same = rw w.self-is refl;
              task = search rules;
            };
          }
      | else-not-has_paragraph w ↦
          let some : has_paragraph c.args.self.now ≡ true = search rules in
          record {
            lines = search (rules, some, w.self-is);
            text = rw w.self-is refl;
            tables = rw w.self-is refl;
            goes_on = λ _. rw w.self-is refl;
            begins = λ none. absurd (true≢false (sym some ∙ none));
          }
    ]

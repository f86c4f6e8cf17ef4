-- What the definitions of comments and of void tags say of small texts.
use Rattle.std.proofs.Common.{◌≡◌, true, false, [], ◌∷◌, refl}
use Rattle.std.specs.Prelude.{codes}
use Rattle.std.specs.List.{list_all, list_any}
use Rattle.markdown_safe.specs.Comments.{ends_in_comment, shown_html, without_comments}
use Rattle.markdown_safe.specs.VoidTags.{is_tag_of}

-- what is on both sides of a comment stays
both_sides : without_comments false (codes "a<!-- b -->c") ≡ codes "ac"
both_sides = refl

-- the hyphens of the beginning may be those of the end
two_hyphens : without_comments false (codes "<!-->x") ≡ codes "x"
two_hyphens = refl

three_hyphens : without_comments false (codes "<!--->x") ≡ codes "x"
three_hyphens = refl

-- one hyphen begins no comment
one_hyphen : without_comments false (codes "<!- x -->") ≡ codes "<!- x -->"
one_hyphen = refl

-- nor does the end of one
end_alone : without_comments false (codes "a --> b") ≡ codes "a --> b"
end_alone = refl

-- hyphens without `>` are within a comment, and so is a `>` after one hyphen
hyphens_inside : without_comments false (codes "<!--a--b->-->c") ≡ codes "c"
hyphens_inside = refl

-- two comments
two_comments : without_comments false (codes "a<!--b-->c<!--d-->e") ≡ codes "ace"
two_comments = refl

-- letters of two bytes, in a comment and around it
letters_of_two_bytes : without_comments false (codes "ä<!--ß-->é") ≡ codes "äé"
letters_of_two_bytes = refl

-- a comment in three pieces: the first
first_piece : without_comments false (codes "y<!-- a") ≡ codes "y"
first_piece = refl

first_piece_ends : ends_in_comment false (codes "y<!-- a") ≡ true
first_piece_ends = refl

-- the second, in which another does not begin
second_piece : without_comments true (codes "- <!-- > -> ") ≡ []
second_piece = refl

second_piece_ends : ends_in_comment true (codes "- <!-- > -> ") ≡ true
second_piece_ends = refl

-- and the third
third_piece : without_comments true (codes " b --> c") ≡ codes " c"
third_piece = refl

third_piece_ends : ends_in_comment true (codes " b --> c") ≡ false
third_piece_ends = refl

-- of white space around a comment nothing is shown
white_space_left : shown_html false (codes " <!-- a --> \n") ≡ []
white_space_left = refl

-- white space without a comment is shown
white_space_alone : shown_html false (codes " \n") ≡ codes " \n"
white_space_alone = refl

-- tags of this name
breaks : list_all (is_tag_of (codes "br"))
    (codes "<br>" ∷ codes "<BR/>" ∷ codes "<br />" ∷ codes "<br clear=\"all\">" ∷ codes "  <br>\n" ∷ []) ≡ true
breaks = refl

-- other texts
no_breaks : list_any (is_tag_of (codes "br"))
    (codes "<bra>" ∷ codes "<b>" ∷ codes "<br>x" ∷ codes "<br" ∷ codes "<br a=\">\">" ∷ codes "</br>"
    ∷ codes "<br><br>" ∷ codes "< br>" ∷ codes "" ∷ [])
    ≡ false
no_breaks = refl

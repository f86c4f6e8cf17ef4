-- What the open containers take of a line, blank or not, by the open blocks and by the definition of blocks; and when
-- the last block goes on in no line, or lazily.
use Rattle.std.proofs.Common.{◌≡◌, inl, inr, ℕ, ◌+◌, ◌<◌, ◌≤◌, Bool, true, false, List, [], ◌∷◌, ◌++◌, length, drop}
use Rattle.std.proofs.Common.{nat_le, refl, sym, ap, subst, ◌∙◌, arith, map, nat_eq, append_assoc}
use Rattle.markdown_plain.proofs.Names.{list_all, prefix_len, and_parts, and-false, and-true, eqb_tells, nat_tests}
use Rattle.markdown_plain.proofs.Names.{prefix_len-le-length, none-some, same_Some, Forest, nil, node, ItemBody}
use Rattle.markdown_plain.proofs.Names.{OpenBlock, begins_with, past_footnote, past_indent, past_quote, is_line_over}
use Rattle.markdown_plain.proofs.Names.{LineLeft, leading_space, past_one_byte, Line, is_space_or_tab, Source}
use Rattle.markdown_plain.proofs.Names.{SourceLine, is_blank_rest, rest_inside, Block, Kind, is_nil, goes_on, is_text}
use Rattle.markdown_plain.proofs.Names.{lazily, with_lazy, with_line, either, Pass, is_container, is_innermost, Frame}
use Rattle.markdown_plain.proofs.Names.{Reached, inside_container, is_list, is_quote, reached, rebuilt, AreContainers}
use Rattle.markdown_plain.proofs.Names.{AreNested, IsContainer, forgotten, touched, is_item, AreOpen, EmptyKnown}
use Rattle.markdown_plain.proofs.Names.{IsBodyOf, EmptyKnownIn, QuotesEnd, IsBefore, IsReached, are_none, quote_depth}
use Rattle.markdown_plain.proofs.Names.{begins, followed_by, leaf_block}
use Rattle.std.specs.Prelude.{Option, Some, None, not, ◌==◌, ◌||◌, ◌&&◌, if◌then◌else◌, codes}
use Rattle.std.specs.Option.{IfSome, option_map}
use Rattle.std.proofs.lemmas.Bool.{true≢false}
use Rattle.std.proofs.lemmas.List.{map-append}
use Rattle.markdown_scan.specs.ContainerParts.{past_part}
use Rattle.markdown_lines.proofs.BlockStartsLemmas.{is_blank, is_not_blank}
use Rattle.markdown_plain.specs.Containers.{Reach, content_of, ends_before, past_container, reach_after, reach_from}
use Rattle.markdown_plain.specs.Containers.{reach_of, reach_past, reach_start, whole_line}
use Rattle.markdown_plain.specs.Frames.{reached_past, AreOver}
use Rattle.markdown_plain.specs.ReachedFrames.{IsAtMostLeaf}
use Rattle.markdown_block_rules.specs.BlockGrowth as was
use Rattle.markdown_plain.specs.declared.containers.Reached as code
use Rattle.markdown_plain.specs.OpenBlocks as by_body
use Rattle.markdown_lines.specs.declared.block_start.Before.TheVariants as paragraph
use Rattle.markdown_plain.proofs.FramesLemmas.{ends_in_block, container_goes_lazily, goes_on_last}
use Rattle.markdown_plain.proofs.LeafTreesLemmas.{by_option, by_test}
use Rattle.markdown_plain.proofs.FramesLemmas.{inner_containers, rebuilt_in, touched_alike, with_lazy_last, lists_leave}
use Rattle.markdown_plain.proofs.FramesLemmas.{inner_goes_lazily, last_goes_on, reached_next, reached_parts, on_reached}
use Rattle.markdown_plain.proofs.FramesLemmas.{TestsAlike, quote_alike, reached_indent, tests_alike}
use Rattle.markdown_plain.proofs.LeafTreesLemmas.{few_owed, on_test}
use Rattle.markdown_plain.proofs.ContainersLemmas.{part_keeps, space_keeps}
use Rattle.markdown_plain.proofs.OpenListsLemmas.{full_after}

-- ---- what a container leaves

-- the byte offset at which a line's content ends
abbrev pub end_of : LineLeft → ℕ
end_of left = left.scanned + length left.bytes

-- a rest of a line begins its content and ends where another does
pub record AreAlike (one other : LineLeft) : Type 0 where
  pub content : content_of one ≡ content_of other
  pub end : end_of one ≡ end_of other

-- no column of space is content
pub space_alike : (n : ℕ) (left : LineLeft) → AreAlike (leading_space n left).after left
space_alike n left =
    space_keeps (λ (after : LineLeft). AreAlike after left) (λ after owed alike. assumption alike)
    (λ scanned owed column after b bytes white alike. record {
      content = omega (arith, rw white at alike.content);
      end = omega (arith, alike.end);
    }) n left (record { content = refl; end = refl })

-- what is left of a line is blank where its content begins at its end
pub blank_at : (left : LineLeft) → nat_le (end_of left) (content_of left) ≡ list_all is_space_or_tab left.bytes
blank_at left = elim (eqb_tells (prefix_len is_space_or_tab left.bytes) (length left.bytes)) [
  | inl all ↦ rw (is_blank left.bytes all.1) (grind (arith, nat_tests, all.1))
  | inr some ↦
      let less : content_of left < end_of left =
      omega (arith, prefix_len-le-length is_space_or_tab left.bytes, some.1) in
      rw (is_not_blank left.bytes some.1) (grind (arith, nat_tests, less))
]

-- the rest of a line inside a container, by whether that is a block quote
record IsInside (quote : Bool) (left rest : LineLeft) : Type 0 where
  content : quote ≡ false → content_of rest ≡ content_of left
  end : end_of rest ≡ end_of left
  few : left.owed ≤ 3 → rest.owed ≤ 3

inside_part : (gfm : Bool) (block : ItemBody) (left : LineLeft)
    → IfSome (past_part gfm block left) (IsInside (by_body.is_quote block) left)
inside_part gfm block left =
    let after = (leading_space 4 left).after in
    part_keeps (λ quote. IsInside quote left) left (λ n. record {
      content = λ e. (space_alike n left).content;
      end = (space_alike n left).end;
      few = λ few. few_owed n left few;
    }) (λ there. record {
      content = λ e. absurd (true≢false e);
      end = (space_alike 1 (past_one_byte after)).end
          ∙ (past_first after.scanned after.bytes there ∙ (space_alike 4 left).end);
      few = λ few. few_owed 1 (past_one_byte after) (omega arith);
    }) (record { content = λ e. refl; end = refl; few = λ few. few }) gfm block
  where
    past_first : (scanned : ℕ) (bytes : List ℕ) → begins_with (codes ">") bytes ≡ true
        → (scanned + 1) + length (drop 1 bytes) ≡ scanned + length bytes
    past_first scanned [] marker = absurd (true≢false (sym marker))
    past_first scanned (b ∷ bytes) marker = omega arith

-- what is left of a line in a container, by whether that is a list
abbrev rest_in : (list : Bool) → SourceLine → LineLeft → SourceLine
rest_in list l left = record l { left = left; outermost = list && l.outermost }

unless : (l : SourceLine) (ends : Bool) (o : Option LineLeft)
    → (if ends then None else option_map (rest_in false l) o) ≡ option_map (rest_in false l) (if ends then None else o)
unless l true o = refl
unless l false o = refl

-- that is what the open block leaves
rest_alike : (s : Source) (l : SourceLine) (texts : List (List ℕ)) (empty : Bool) (inside : Forest Block) (kind : Kind)
    (b : ItemBody) → IsBodyOf texts kind b → EmptyKnownIn empty inside kind → inside_container s l (is_nil inside) kind
    ≡ option_map (rest_in (is_list kind) l) (past_container s.syntax.old_footnotes empty (is_blank_rest l) b l.left)
rest_alike s l texts empty inside was.quote_container b is known = rw is refl
rest_alike s l texts empty inside (was.alert_container kind) b is known = rw is refl
rest_alike s l texts empty inside (was.list_container marker) b is known = rw is refl
rest_alike s l texts empty inside (was.item_container indent) b is known =
    rw (is, known) (unless l (is_blank_rest l && is_nil inside) _)
rest_alike s l texts empty inside (was.footnote_container label) b is known =
    rw is.1 (unless l (is_blank_rest l && s.syntax.old_footnotes) _)
rest_alike s l texts empty inside other b is known = absurd is

container_alike : TestsAlike is_container (λ kind. true)
container_alike =
    tests_alike is_container (λ kind. true) refl (λ kind. refl) (λ m. refl) (λ indent. refl) (λ ix label. refl)

-- ---- what is reached

-- what is reached with some containers is what the definition says, in a line whose content ends before `stop`
record Reaches (stop : ℕ) (l : SourceLine) (r : Reached) (reach : Reach) : Type 0 where
  depth : reach.depth ≡ length r.outer
  all : reach.all ≡ are_none r.inner
  left : reach.left ≡ r.rest.left
  content : reach.content ≡ content_of r.rest.left
  end : stop ≡ end_of r.rest.left
  few : r.rest.left.owed ≤ 3
  outermost : r.rest.outermost ≡ (l.outermost && list_all (λ f. is_list f.block.kind) r.outer)
  quoted : reach.quoted ≡ quote_depth r.outer

-- where the line reaches all of them, the blocks inside them are read
record ReachesBy (s : Source) (empty : Bool) (stop : ℕ) (l : SourceLine) (r : Reached) (more : List OpenBlock)
    (whole : Reach) : Type 0 where
  reach : Reach
  is : Reaches stop l r reach
  made : whole ≡ (if are_none r.inner then reach_from s.syntax.old_footnotes empty stop more reach else reach)

module _ (s : Source) (texts : List (List ℕ)) (empty : Bool) (stop : ℕ) (l : SourceLine) where
  -- with one container more, where the line reaches all others
  one_more : (f : Frame) (inside : Forest Block) (block : OpenBlock) (more : List OpenBlock) (r : Reached)
      (reach : Reach) → Reaches stop l r reach → IsBodyOf texts f.block.kind block.body
      → EmptyKnownIn (is_innermost more && empty) inside f.block.kind
      → ReachesBy s empty stop l (reached_past f r (inside_container s r.rest (is_nil inside) f.block.kind)) more
      (reach_from s.syntax.old_footnotes empty stop (block ∷ more) reach)
  unfolding reach_from
  one_more f inside block more r reach is body known =
      let old = s.syntax.old_footnotes in let last = is_innermost more && empty in
      let blank : nat_le stop reach.content ≡ is_blank_rest r.rest = rw (is.end, is.content) (blank_at r.rest.left) in
      let same : past_container old last (nat_le stop reach.content) block.body reach.left
      ≡ past_container old last (is_blank_rest r.rest) block.body r.rest.left = rw (blank, is.left) refl in
      rw (rest_alike s r.rest texts last inside f.block.kind block.body body known)
      (rw (container_alike texts f.block.kind block.body body, same)
      (by_past _ (either (λ o. IfSome o (IsInside (by_body.is_quote block.body) r.rest.left))
      (ends_before old last (is_blank_rest r.rest) block.body) None (past_part (not old) block.body r.rest.left) tt
      (inside_part (not old) block.body r.rest.left))))
    where
      by_past : (past : Option LineLeft) → IfSome past (IsInside (by_body.is_quote block.body) r.rest.left)
          → ReachesBy s empty stop l (reached_past f r (option_map (rest_in (is_list f.block.kind) r.rest) past)) more
          (reach_past (reach_from s.syntax.old_footnotes empty stop more) block.body past reach)
      by_past None taken = record { reach = record reach { all = false }; is = assumption is; made = refl }
      by_past (Some left) taken = record {
        reach = reach_after block.body left reach;
        is = record {
          depth = omega (arith, is.depth);
          all = refl;
          left = refl;
          content = on_test (λ n. n ≡ content_of left) (by_body.is_quote block.body) _ _ (λ e. refl)
              (λ e. is.content ∙ sym (taken.content e));
          end = is.end ∙ sym taken.end;
          few = taken.few is.few;
          outermost = by_test (is_list f.block.kind) (λ e. rw e is.outermost) (λ e. rw (e, and-false) refl);
          quoted = rw (quote_alike texts f.block.kind block.body body, is.depth, is.quoted) refl;
        };
        made = refl;
      }

  -- where it may not
  one_inside : (f : Frame) (outer : List Frame) (inside : Forest Block) (block : OpenBlock) (more : List OpenBlock)
      (whole : Reach) → IsBodyOf texts f.block.kind block.body
      → EmptyKnownIn (is_innermost more && empty) inside f.block.kind
      → ReachesBy s empty stop l (reached s outer (forgotten f inside) l) (block ∷ more) whole
      → ReachesBy s empty stop l (reached s (f ∷ outer) inside l) more whole
  one_inside f outer inside block more whole body known by =
      let one = one_more f inside block more (reached s outer (forgotten f inside) l) by.reach by.is body known in
      on_reached (λ r. ReachesBy s empty stop l r more whole) s f outer inside l
      (λ rest all takes. rw (rw (ap are_none all) at by.made) (rw takes at one))
      (λ all takes. rw (rw (ap are_none all) at by.made) (rw takes at one)) (λ g inner some.
      let all : by.reach.all ≡ false = by.is.all ∙ ap are_none some in
      record { reach = by.reach; is = assumption (all, by.is); made = rw (ap are_none some) at by.made })

  -- of the open containers, with these blocks inside them
  reaches : (start : Reach) → Reaches stop l (record { outer = []; inner = []; rest = l }) start
      → (frames : List Frame) (inside : Forest Block) (containers more : List OpenBlock)
      → AreOpen texts containers frames → EmptyKnown (is_innermost more && empty) frames inside
      → ReachesBy s empty stop l (reached s frames inside l) more
      (reach_from s.syntax.old_footnotes empty stop (containers ++ more) start)
  unfolding reached
  reaches start at_start [] inside containers more none known =
      rw none (record { reach = start; is = at_start; made = refl })
  reaches start at_start (f ∷ outer) inside containers more (block, others, are, is, around) known =
      rw (are, append_assoc others (block ∷ []) more) (one_inside f outer inside block more _ is.body known
      (reaches start at_start outer (forgotten f inside) others (block ∷ more) around
      (full_after false outer f inside refl)))

-- a leaf that is open takes nothing of it
leaf_stays : (old empty : Bool) (stop : ℕ) (blocks : List OpenBlock) (reach : Reach) → IsAtMostLeaf blocks
    → reach_from old empty stop blocks reach ≡ reach
unfolding reach_from
leaf_stays old empty stop [] reach alone = refl
leaf_stays old empty stop (block ∷ []) reach alone = rw alone refl
leaf_stays old empty stop (block ∷ inner ∷ blocks) reach alone = absurd alone

-- what is reached of the open blocks is what is reached of the open containers
pub frames_reached : (pass : Pass) (line : Line) (s : Source) (frames : List Frame)
    (inside : Forest Block) (source : SourceLine) (result : code.Reached)
    → reach_of pass.placing.builder.text line.stop result
    ≡ reach_from pass.syntax.old_footnotes pass.looseness.item_is_empty line.stop pass.placing.builder.blocks
    (reach_start (whole_line pass.placing.builder.text line)) → IsBefore pass line s frames inside source
    → IsReached pass.placing.builder.text line source result (reached s frames inside source)
frames_reached pass line s frames inside source result is before =
    let text = pass.placing.builder.text in let empty = pass.looseness.item_is_empty in
    let start = reach_start (whole_line text line) in let r = reached s frames inside source in
    let by = reaches s pass.placing.builder.texts empty line.stop source start (record {
      depth = refl;
      all = refl;
      left = before.left;
      content = ap (λ (left : LineLeft). content_of left) before.left;
      end = before.stop;
      few = subst (λ (left : LineLeft). left.owed ≤ 3) before.left (omega arith);
      outermost = sym (and-true source.outermost);
      quoted = refl;
    }) frames inside before.containers before.leaf before.are before.empty in
    let same : reach_of text line.stop result
    ≡ reach_from s.syntax.old_footnotes empty line.stop (before.containers ++ before.leaf) start =
    rw (← before.syntax, ← before.blocks) is in
    let found : reach_of text line.stop result ≡ by.reach = same ∙ (by.made ∙ either (λ (x : Reach). x ≡ by.reach)
    (are_none r.inner) _ _ (leaf_stays s.syntax.old_footnotes empty line.stop before.leaf by.reach before.alone) refl)
    in
    let got : Reaches line.stop source r (reach_of text line.stop result) = rw found by.is in
    record {
      depth = got.depth;
      all = got.all;
      rest = record {
        left = got.left;
        few = omega (arith, got.few, ap (λ (left : LineLeft). left.owed) got.left);
        next = before.next ∙ sym (reached_next s frames inside source);
      };
      stop = got.end;
      outermost = got.outermost;
      indent = reached_indent s frames inside source;
      content = got.content;
      blank = rw (got.end, got.content) (blank_at r.rest.left);
      quoted = got.quoted;
    }

-- ---- blocks that are over

-- a leaf of this kind goes on in no line
abbrev pub is_over : Kind → Bool
is_over was.blank_line = true
is_over (was.underlined_leaf level lines) = true
is_over (was.heading_leaf found) = true
is_over was.break_leaf = true
is_over (was.fenced_leaf opening closed lines) = closed
is_over (was.html_leaf kind closed lines) = closed
is_over (was.metadata_leaf kind closed lines) = closed
is_over (was.table_leaf ended head alignments rows) = ended
is_over other = false

pub leaf_is_over : (s : Source) (before : Forest Block) (b : Block) → is_over b.kind ≡ true
    → AreOver s (followed_by before (node b nil nil))
unfolding goes_on with_lazy
leaf_is_over s before b over l = rw (goes_on_last s before b nil l, with_lazy_last before b nil l) (by_kind b.kind over)
  where
    by_kind : (kind : Kind) → is_over kind ≡ true
        → (option_map (followed_by before) (goes_on s (node (record b { kind = kind }) nil nil) l) ≡ None)
        × (option_map (followed_by before) (with_lazy l (node (record b { kind = kind }) nil nil)) ≡ None)
    by_kind was.blank_line over = (refl, refl)
    by_kind (was.underlined_leaf level lines) over = (refl, refl)
    by_kind (was.heading_leaf found) over = (refl, refl)
    by_kind was.break_leaf over = (refl, refl)
    by_kind (was.fenced_leaf opening true lines) over = (refl, refl)
    by_kind (was.html_leaf kind true lines) over = (refl, refl)
    by_kind (was.metadata_leaf kind true lines) over = (refl, refl)
    by_kind (was.table_leaf true head alignments rows) over = (refl, refl)
    by_kind other over = absurd (true≢false (sym over))

pub nothing_is_over : (s : Source) → AreOver s nil
unfolding goes_on with_lazy
nothing_is_over s l = (refl, refl)

-- ---- inside open containers

-- open blocks that a builder has are containers
pub open_are_containers : (texts : List (List ℕ)) (blocks : List OpenBlock) (frames : List Frame)
    → AreOpen texts blocks frames → AreContainers frames
open_are_containers texts blocks [] are = tt
open_are_containers texts blocks (f ∷ outer) (block, others, same, is, around) =
    (is_container f.block.kind is.body, open_are_containers texts others outer around)
  where
    is_container : (kind : Kind) → IsBodyOf texts kind block.body → IsContainer kind
    is_container was.quote_container body = tt
    is_container (was.alert_container kind) body = tt
    is_container (was.list_container marker) body = tt
    is_container (was.item_container indent) body = tt
    is_container (was.footnote_container label) body = tt
    is_container other body = absurd body

-- blocks go on lazily as those in the innermost open container do
pub lazily_inside : (l : SourceLine) (frames : List Frame) (inside : Forest Block) → AreContainers frames
    → with_lazy l (rebuilt frames inside) ≡ option_map (rebuilt (map (touched l) frames)) (with_lazy l inside)
lazily_inside l [] inside are = by_option (with_lazy l inside) (λ e. rw e refl) (λ blocks e. rw e refl)
lazily_inside l (f ∷ outer) inside are =
    rw (lazily_inside l outer (forgotten f inside) are.1, container_goes_lazily f inside l are.0)
    (by_option (with_lazy l inside) (λ e. rw e refl) (λ blocks e. rw e refl))

-- a line that does not reach all open containers continues a paragraph lazily: all of them go on
pub line_goes_lazily : (s : Source) (frames : List Frame) (inside : Forest Block) (l : SourceLine)
    (are : AreContainers frames) (nested : AreNested frames) (f : Frame) (others : List Frame) (grown : Forest Block)
    → (reached s frames inside l).inner ≡ f ∷ others → is_blank_rest (reached s frames inside l).rest ≡ false
    → is_text (begins s paragraph.Lazy (reached s frames inside l).rest) ≡ true
    → with_lazy (reached s frames inside l).rest inside ≡ Some grown
    → with_line s (rebuilt frames inside) l ≡ rebuilt (map (touched l) frames) grown
line_goes_lazily s frames inside l are nested f others grown some filled text goes =
    let r = reached s frames inside l in let inner = inner_containers r.inner r.outer (rw reached_parts are) in
    let lazy : lazily s r.rest (rebuilt r.inner inside) ≡ Some (rebuilt (map (touched r.rest) r.inner) grown) =
    rw (filled, text, lazily_inside r.rest r.inner inside inner, goes) refl in
    last_goes_on s frames inside l are nested _ (inner_goes_lazily s frames inside l f others are some ∙ lazy)
    ∙ rw (touched_alike l r.rest r.inner (reached_next s frames inside l))
    (sym (rebuilt_in (map (touched l) r.inner) (map (touched l) r.outer) grown)
    ∙ rw (← map-append (touched l) r.inner r.outer, reached_parts) refl)

-- where what is in the innermost is over, nothing goes on behind those that the line reaches
pub nothing_goes_on : (s : Source) (frames : List Frame) (inside : Forest Block) (l : SourceLine)
    → AreContainers frames → AreOver s inside
    → goes_on s (rebuilt (reached s frames inside l).inner inside) (reached s frames inside l).rest ≡ None
nothing_goes_on s frames inside l are over = by_inner r.inner refl
  where
    r : Reached
    r = reached s frames inside l

    never : lazily s r.rest (rebuilt r.inner inside) ≡ None
    never = on_test (λ o. o ≡ None) (not (is_blank_rest r.rest) && is_text (begins s paragraph.Lazy r.rest)) _ None
        (λ test. rw (lazily_inside r.rest r.inner inside (inner_containers r.inner r.outer (rw reached_parts are)))
        (rw (over r.rest).1 refl)) (λ test. refl)

    by_inner : (inner : List Frame) → r.inner ≡ inner → goes_on s (rebuilt r.inner inside) r.rest ≡ None
    by_inner [] is = rw is (over r.rest).0
    by_inner (f ∷ others) is = inner_goes_lazily s frames inside l f others are is ∙ never

-- ---- what is left of a blank line

-- no column of space makes a line blank
pub blank_alike : (n : ℕ) (left : LineLeft)
    → list_all is_space_or_tab (leading_space n left).after.bytes ≡ list_all is_space_or_tab left.bytes
blank_alike n left =
    let alike = space_alike n left in
    sym (blank_at (leading_space n left).after) ∙ (rw (alike.end, alike.content) refl ∙ blank_at left)

-- a blank line is in no block quote: a marker is no white space
not_in_quote : (l : SourceLine) → is_blank_rest l ≡ true → past_quote l.left ≡ None
not_in_quote l blank =
    rw (no_marker (leading_space 4 l.left).after.bytes (blank_alike 4 l.left ∙ blank), and-false) refl
  where
    no_marker : (bytes : List ℕ) → list_all is_space_or_tab bytes ≡ true → begins_with (codes ">") bytes ≡ false
    no_marker [] white = refl
    no_marker (b ∷ bytes) white =
        let one = (and_parts (is_space_or_tab b) (list_all is_space_or_tab bytes) white).0 in
        let other : nat_eq 62 b ≡ false = grind (arith, nat_tests, one) in rw other refl

-- what a container leaves of a line without a marker is as blank as the line
pub indented_alike : (l m : SourceLine) (indent : ℕ)
    → option_map (λ rest. rest_inside rest l) (past_indent indent l.left) ≡ Some m → is_blank_rest m ≡ is_blank_rest l
indented_alike l m indent takes =
    let space = leading_space indent l.left in
    on_test (λ o. option_map (λ rest. rest_inside rest l) o ≡ Some m → is_blank_rest m ≡ is_blank_rest l)
    ((space.columns == indent) || is_line_over space.after.bytes) _ _
    (λ there taken. ap is_blank_rest (sym (same_Some _ m taken)) ∙ blank_alike indent l.left)
    (λ missing taken. absurd (none-some m taken)) takes

-- the same in a footnote definition
pub note_alike : (l m : SourceLine) (gfm : Bool)
    → option_map (λ rest. rest_inside rest l) (past_footnote gfm l.left) ≡ Some m → is_blank_rest m ≡ is_blank_rest l
note_alike l m true takes = indented_alike l m 4 takes
note_alike l m false takes = ap is_blank_rest (sym (same_Some (rest_inside l.left l) m takes))

-- a container in which something is left of a line has not ended before it
pub goes_on_in : (ends : Bool) (left : Option SourceLine) (m : SourceLine) → (if ends then None else left) ≡ Some m
    → left ≡ Some m
goes_on_in true left m takes = absurd (none-some m takes)
goes_on_in false left m takes = takes

-- a blank line goes past no block quote, and what it leaves is blank
blank_taken : (s : Source) (l m : SourceLine) (empty : Bool) (kind : Kind) → is_blank_rest l ≡ true
    → inside_container s l empty kind ≡ Some m → (is_quote kind ≡ false) × (is_blank_rest m ≡ true)
blank_taken s l m empty was.quote_container blank takes = absurd (none-some m (rw (not_in_quote l blank) at takes))
blank_taken s l m empty (was.alert_container kind) blank takes =
    absurd (none-some m (rw (not_in_quote l blank) at takes))
blank_taken s l m empty (was.item_container indent) blank takes =
    (refl, indented_alike l m indent (goes_on_in (is_blank_rest l && empty) _ m takes) ∙ blank)
blank_taken s l m empty (was.footnote_container label) blank takes =
    let old = s.syntax.old_footnotes in
    (refl, note_alike l m (not old) (goes_on_in (is_blank_rest l && old) _ m takes) ∙ blank)
blank_taken s l m empty other blank takes = (refl, ap is_blank_rest (sym (same_Some l m takes)) ∙ blank)

-- an item that goes on in a blank line is not empty
item_taken : (s : Source) (l m : SourceLine) (empty : Bool) (kind : Kind) → is_item kind ≡ true
    → inside_container s l empty kind ≡ Some m → is_blank_rest m ≡ true → empty ≡ false
item_taken s l m empty (was.item_container indent) item takes blank = by_test (is_blank_rest l)
    (λ white. by_test empty (λ e. absurd (none-some m (rw (white, e) at takes))) (λ e. e))
    (λ other. absurd (true≢false (sym blank ∙ (indented_alike l m indent (rw other at takes) ∙ other))))
item_taken s l m empty other item takes blank = absurd (true≢false (sym item))

-- ---- which containers go on

-- no block quote goes on in a blank line, of which the rest is blank
pub blank_quotes : (s : Source) (frames : List Frame) (inside : Forest Block) (whole l : SourceLine) (to : ℕ)
    → is_blank_rest l ≡ true → QuotesEnd to (map (touched whole) (reached s frames inside l).outer)
    × (is_blank_rest (reached s frames inside l).rest ≡ true)
unfolding reached
blank_quotes s [] inside whole l to blank = (tt, blank)
blank_quotes s (f ∷ outer) inside whole l to blank =
    let others = blank_quotes s outer (forgotten f inside) whole l to blank in
    on_reached (λ r. QuotesEnd to (map (touched whole) r.outer) × (is_blank_rest r.rest ≡ true)) s f outer inside l
    (λ rest all takes.
    let taken = blank_taken s _ rest (is_nil inside) f.block.kind others.1 takes in
    ((λ quote. absurd (true≢false (sym quote ∙ taken.0)), others.0), taken.1)) (λ all takes. others)
    (λ g inner some. others)

-- the innermost of some open containers is no empty item
abbrev pub NoEmptyItem : List Frame → Forest Block → Type 0
NoEmptyItem [] inside = Unit
NoEmptyItem (f ∷ outer) inside = is_item f.block.kind ≡ true → is_nil inside ≡ false

-- where no container goes on, all of the line is left
pub whole_left : (s : Source) (frames : List Frame) (inside : Forest Block) (l : SourceLine)
    → (reached s frames inside l).outer ≡ [] → (reached s frames inside l).rest ≡ l
whole_left s frames inside l none = lists_leave s frames inside l (rw none refl)

pub item_reached : (s : Source) (frames : List Frame) (inside : Forest Block) (l : SourceLine)
    → is_blank_rest (reached s frames inside l).rest ≡ true
    → NoEmptyItem (reached s frames inside l).outer (rebuilt (reached s frames inside l).inner inside)
unfolding reached
item_reached s [] inside l = λ blank. tt
item_reached s (f ∷ outer) inside l =
    let others = item_reached s outer (forgotten f inside) l in
    on_reached (λ r. is_blank_rest r.rest ≡ true → NoEmptyItem r.outer (rebuilt r.inner inside)) s f outer inside l
    (λ rest all takes blank item. item_taken s _ rest (is_nil inside) f.block.kind item takes blank)
    (λ all takes blank. rw all at (others blank)) (λ g inner some blank. rw some at (others blank))

-- with a blank line in it the innermost container is as empty as before
pub empty_blank : (empty : Bool) (frames : List Frame) (inside : Forest Block) (b : Block) → NoEmptyItem frames inside
    → EmptyKnown empty frames inside → EmptyKnown empty frames (followed_by inside (leaf_block b))
empty_blank empty [] inside b some known = tt
empty_blank empty (f ∷ outer) inside b some known = by_kind f.block.kind some known
  where
    by_kind : (kind : Kind) → (is_item kind ≡ true → is_nil inside ≡ false) → EmptyKnownIn empty inside kind
        → EmptyKnownIn empty (followed_by inside (leaf_block b)) kind
    by_kind (was.item_container indent) some known = known ∙ (some refl ∙ sym (ends_in_block inside b nil))
    by_kind (was.list_container marker) some known = tt
    by_kind other some known = known

-- What a wikilink shows begins and ends between characters, as the items before its `]` do, and so does a text after a
-- `|`, which is one byte. No byte offset cuts an open item of its body: only characters of runs and quotation marks are
-- open there, of one byte each.
use Rattle.std.proofs.Common.{◌≡◌, ℕ, ◌+◌, ◌-◌, ◌<◌, ◌≤◌, Bool, true, false, ◌==◌, List, [], ◌∷◌, Option, Some, None}
use Rattle.std.proofs.Common.{IsUtf8, length, take, drop, get_or, refl, sym, ap, ◌∙◌, subst, arith}
use Rattle.std.specs.Prelude.{IfSome, if◌then◌else◌, nat_le, nat_lt, position, slice_range, ⊤}
use Rattle.std.specs.List.{position_or_len}
use Rattle.std.specs.Option.{option_and_then, option_map}
use Rattle.std.specs.Str.{IsCharBoundary}
use Rattle.std.proofs.lemmas.Bool.{eqb-true}
use Rattle.std.proofs.lemmas.Bool.Decides.{nat_tests}
use Rattle.std.proofs.lemmas.List.{get_or-drop, get_or-take, length-drop, length-take}
use Rattle.std.proofs.lemmas.List.Sums.{passes_at_first}
use Rattle.std.proofs.lemmas.Str.{IsCharBoundary-after_ascii}
use Rattle.markdown_base.specs.ArenaForest.{links_of, forest_at}
use Rattle.markdown_base.specs.ArenaRules.{next_at}
use Rattle.markdown_base.specs.BlockTree.{numbered, item_at}
use Rattle.markdown_base.specs.Forest.{Forest, nil, node, Each, relabelled}
use Rattle.markdown_base.specs.WellFormed.{StandsOverMarkup, run_character}
use Rattle.markdown_base.specs.declared.item.Item.{Item}
use Rattle.markdown_base.specs.declared.item.ItemBody.{ItemBody}
use Rattle.markdown_base.specs.declared.item.ItemBody.TheVariants as body
use Rattle.markdown_base.specs.declared.node.Node.{Node}
use Rattle.markdown_brackets.specs.BracketDecision.{BracketContext, Wikilink, shown_children, if_some, past_second}
use Rattle.markdown_brackets.specs.BracketDecision.{wikilink_by, wikilink_in}
use Rattle.markdown_brackets.specs.LeftList.{OpenerState, Entry, Split, inside, nearest, trees_onto}
use Rattle.markdown_brackets.specs.Wikilink.{Shows, WikilinkBody, cut_at, has_pothole, named, shown_from, shows_from}
use Rattle.markdown_brackets.specs.Wikilink.{shows_name, shows_nothing, wikilink_body}
use Rattle.markdown_brackets.proofs.OpenerHeldLemmas.{splits_at}
use Rattle.markdown_brackets.proofs.WikilinkPipeLemmas.{some_in_block}
use Rattle.markdown_document.specs.ChainRest.{begun_at, end_of, joined_chains, past_byte, start_of}
use Rattle.markdown_document.specs.Document.{TreeNode, is_unresolved}
use Rattle.markdown_document.specs.Origins.{IsSliceWithin}
use Rattle.markdown_document.specs.PlacedNodes.{IsPlaced}
use Rattle.markdown_document.specs.Tables.{Tables}
use Rattle.markdown_document.specs.Waiting.{is_quiet, waits_for_pairing}
use Rattle.markdown_document.proofs.PlaceLemmas.{open-unresolved, shape-open}
use Rattle.markdown_spans.proofs.SliceLemmas.{slice_between, slice_inside}
use Rattle.markdown_base.proofs.ByteListLemmas.{part_length}
use Rattle.markdown_resolver.specs.Closes.{FirstLies, IsNotCut, NoneOpenAround, ShowsWell, IsNamedIn}
use Rattle.markdown_resolver.specs.Kept.{IsQuiet}
use Rattle.markdown_resolver.specs.PutsTrees.{numbered_node}
use Rattle.markdown_resolver.specs.ReadOn.{StandsTo}
use Rattle.markdown_resolver.proofs.PastByteLemmas.{boundary_begun}
use Rattle.markdown_resolver.proofs.GoesOnLemmas.{one_byte}
use Rattle.markdown_resolver.proofs.LeftTreesLemmas.{onto_split}
use Rattle.markdown_resolver.proofs.StandsToLemmas.{rest_of}

-- a node starts and ends between characters, and where it is open it is one byte long
pub record NodeLies (source : List ℕ) (a : TreeNode ℕ) : Type 0 where
  pub ordered : start_of a ≤ end_of a
  pub starts : IsCharBoundary source (start_of a)
  pub ends : IsCharBoundary source (end_of a)
  pub short : is_unresolved a.part.shape ≡ true → end_of a ≤ start_of a + 1

-- so do those of a chain
abbrev pub AllLie : List ℕ → Forest (TreeNode ℕ) → Type 0
AllLie source nil = ⊤
AllLie source (node a below after) = NodeLies source a × AllLie source after

second_lies : (source : List ℕ) (f g : Forest (TreeNode ℕ)) → AllLie source (joined_chains f g) → AllLie source g
second_lies source nil g h = h
second_lies source (node a below after) g h = second_lies source after g h.1

past_second_lies : (source : List ℕ) (f : Forest (TreeNode ℕ)) → AllLie source f → AllLie source (past_second f)
past_second_lies source nil h = tt
past_second_lies source (node a below after) h = h.1

-- what waits for pairing is one byte long
waiting_long : (bytes : List ℕ) (b : ItemBody) → waits_for_pairing b ≡ true → StandsOverMarkup bytes b
    → IfSome (run_character b) (λ c. length bytes ≡ 1) → length bytes ≡ 1
waiting_long bytes (body.MaybeEmphasis count opens closes) waits markup run = run
waiting_long bytes (body.MaybeSmartQuote quote opens closes) waits markup run = ap length markup.0
waiting_long bytes other waits markup run = absurd (cc waits)

-- so it is of an item of an arena that is quiet
numbered_lies : (source : List ℕ) (tables : Tables) (nodes : List (Node Item)) (ix : ℕ)
    → IsPlaced source tables nodes ix → is_quiet (numbered_node source tables nodes ix).part.shape ≡ true
    → NodeLies source (numbered_node source tables nodes ix)
numbered_lies source tables nodes ix placed quiet =
    let item = item_at nodes ix in
    let bytes = slice_range source item.start item.end in
    let size : length bytes ≡ item.end - item.start = part_length source item.start item.end placed.lies.end.0 in
    record {
      ordered = placed.lies.ordered;
      starts = placed.lies.start;
      ends = placed.lies.end;
      short = λ opens.
          let shape = shape-open tables bytes item.body (open-unresolved tables bytes item.body opens) in
          let waits : waits_for_pairing item.body ≡ true = sym (ap is_quiet shape) ∙ quiet in
          let run = one_byte source (numbered nodes ix) (next_at nodes ix) (run_character item.body) bytes size
          placed.keeps.runs_are_whole
          in
          let long = waiting_long bytes item.body waits placed.keeps.markup_is_there run in
          omega (arith, size, long);
    }

first_lies : (source : List ℕ) (tables : Tables) (nodes : List (Node Item)) (f : Forest ℕ) (g h : Forest (TreeNode ℕ))
    → Each (IsPlaced source tables nodes) f
    → relabelled (numbered_node source tables nodes) f ≡ joined_chains g h → IsQuiet g → AllLie source g
first_lies source tables nodes f nil h placed e quiet = tt
first_lies source tables nodes nil (node a below after) h placed e quiet = absurd (cc e)
first_lies source tables nodes (node ix inner later) (node a below after) h placed e quiet =
    let same : numbered_node source tables nodes ix ≡ a = cc e in
    let shape : is_quiet (numbered_node source tables nodes ix).part.shape
    ≡ true = ap (λ (b : TreeNode ℕ). is_quiet b.part.shape) same ∙ quiet.0 in
    let rest : relabelled (numbered_node source tables nodes) later ≡ joined_chains after h = cc e in (
      subst (NodeLies source) same (numbered_lies source tables nodes ix placed.0 shape),
      first_lies source tables nodes later after h placed.2 rest quiet.3,
    )

-- the trees of a left list that stands in an arena
pub left_lies : (source : List ℕ) (tables : Tables) (nodes : List (Node Item)) (first : ℕ) (at : Option ℕ)
    (left : List (Entry ℕ)) → StandsTo source tables nodes first at left → AllLie source (trees_onto left nil)
left_lies source tables nodes first at left h =
    let r = rest_of source tables nodes first at left h in
    first_lies source tables nodes (forest_at (links_of nodes) (Some first)) (trees_onto left nil) _
    h.ready.reaches.each r.whole h.quiet

-- and those inside an opener of it, past the second
pub inside_lies : (source : List ℕ) (test : OpenerState → Bool) (left : List (Entry ℕ)) (o : Split ℕ)
    → AllLie source (trees_onto left nil) → nearest test left ≡ Some o → AllLie source (past_second (inside o))
inside_lies source test left o h found =
    let splits = subst (λ (s : Option (Split ℕ)). IfSome s (λ o. (later : Forest (TreeNode ℕ))
    → trees_onto left later ≡ trees_onto o.before (node o.opener nil (trees_onto o.after later))))
    found (splits_at test left) in
    let whole : trees_onto left nil ≡ joined_chains (trees_onto o.before nil) (node o.opener nil (inside o)) = splits
    nil ∙ onto_split o.before (node o.opener nil (inside o)) in
    let all = second_lies source (trees_onto o.before nil) (node o.opener nil (inside o))
    (subst (AllLie source) whole h) in
    past_second_lies source (inside o) all.1

-- no byte offset cuts one of them that is open
none_cut : (source : List ℕ) (i : ℕ) (f : Forest (TreeNode ℕ)) → AllLie source f → NoneOpenAround i f
none_cut source i nil h = tt
none_cut source i (node a below after) h = by (nat_le (end_of a) i) refl (none_cut source i after h.1)
  where
    by_shape : (opens : Bool) → is_unresolved a.part.shape ≡ opens → start_of a < i → i < end_of a → opens ≡ false
    by_shape true e starts ends = let short = h.0.short e in absurd (omega (arith, short, starts, ends))
    by_shape false e starts ends = refl

    by : (ended : Bool) → nat_le (end_of a) i ≡ ended → NoneOpenAround i after
        → IsNotCut ended i a (NoneOpenAround i after)
    by true e later = later
    by false e later = λ starts. let ends : i < end_of a = grind (arith, nat_tests) in by_shape
        (is_unresolved a.part.shape) refl starts ends

-- what is left of them past a byte offset between characters begins and ends between characters
past_lies : (source : List ℕ) (i : ℕ) (f : Forest (TreeNode ℕ)) → AllLie source f → IsCharBoundary source i
    → FirstLies source (past_byte i f)
past_lies source i nil h between = tt
past_lies source i (node a below after) h between = by (nat_le (end_of a) i) refl (past_lies source i after h.1 between)
  where
    by : (ended : Bool) → nat_le (end_of a) i ≡ ended → FirstLies source (past_byte i after)
        → FirstLies source (if ended then past_byte i after else node (begun_at i a) below after)
    by true e later = later
    by false e later =
        let ends : i < end_of a = grind (arith, nat_tests) in
        let order = h.0.ordered in
        (omega (arith, order, ends), boundary_begun source (start_of a) i h.0.starts between, h.0.ends)

-- where a body is cut
abbrev IsCut : List ℕ → (start end : ℕ) → Shows → Type 0
IsCut text start end shows_name = start < end
IsCut text start end (shows_nothing at) = IsCharBoundary text at
IsCut text start end (shows_from at) = IsCharBoundary text at

named_cut : (text : List ℕ) (start end : ℕ) (name : List ℕ) (shows : Shows) → IsCut text start end shows
    → IfSome (named name shows) (λ b. IsCut text start end b.shows)
named_cut text start end [] shows h = tt
named_cut text start end (b ∷ name) shows h = h

shown_cut : (text : List ℕ) (start end at : ℕ) → IsCharBoundary text at → IsCut text start end (shown_from at end)
shown_cut text start end at h = by (nat_lt at end)
  where
    by : (before : Bool) → IsCut text start end (if before then shows_from at else shows_nothing at)
    by true = h
    by false = h

cut_is : (text : List ℕ) (start end : ℕ) (found : Option (ℕ × List ℕ)) → start < end
    → IfSome found (λ pipe. IsCharBoundary text pipe.0)
    → IfSome (cut_at text start end found) (λ b. IsCut text start end b.shows)
cut_is text start end None order h = named_cut text start end (slice_range text start end) shows_name order
cut_is text start end (Some pipe) order h = named_cut text start end pipe.1 (shown_from pipe.0 end)
    (shown_cut text start end pipe.0 h)

-- after a `|`
pipe_between : (text : List ℕ) (start size : ℕ) → IsUtf8 text
    → IfSome {T = ℕ × List ℕ} (option_map (λ n. (start + n + 1, take n (take size (drop start text))))
    (position (λ b. b == 124) (take size (drop start text)))) (λ pipe. IsCharBoundary text pipe.0)
pipe_between text start size utf8 = by (nat_lt n (length part)) refl
  where
    part : List ℕ
    part = take size (drop start text)

    n : ℕ
    n = position_or_len (λ b. b == 124) part

    by : (found : Bool) → nat_lt n (length part) ≡ found
        → IfSome {T = ℕ × List ℕ} (option_map (λ n. (start + n + 1, take n part)) (if found then Some n else None))
        (λ pipe. IsCharBoundary text pipe.0)
    by true e =
        let inside_part : n < length part = grind (arith, nat_tests) in
        let is : get_or part n 0
        ≡ 124 = eqb-true (get_or part n 0) 124 (passes_at_first (λ b. b == 124) part 0 inside_part) in
        let cut : n < size = omega (arith, inside_part, length-take size (drop start text)) in
        let there : start + n < length text = omega
        (arith, inside_part, length-take size (drop start text), length-drop start text) in
        let byte : get_or text (start + n) 0
        ≡ 124 = sym (get_or-take size (drop start text) n 0 cut ∙ get_or-drop start text n 0) ∙ is in
        let low : get_or text (start + n) 0 < 128 = omega (arith, byte) in
        IsCharBoundary-after_ascii text (start + n) utf8 there low
    by false e = tt

body_cut : (text : List ℕ) (block_end start end : ℕ) → IsUtf8 text
    → IfSome (wikilink_body text block_end start end) (λ b. IsCut text start end b.shows)
body_cut text block_end start end utf8 = by (nat_lt start end) refl _
    (some_in_block text block_end start (end - start) (λ pipe. IsCharBoundary text pipe.0)
    (pipe_between text start (end - start) utf8))
  where
    by : (order : Bool) → nat_lt start end ≡ order → (found : Option (ℕ × List ℕ))
        → IfSome found (λ pipe. IsCharBoundary text pipe.0)
        → IfSome (if order then cut_at text start end found else None) (λ b. IsCut text start end b.shows)
    by true e found h = let before : start < end = grind (arith, nat_tests) in cut_is text start end found before h
    by false e found h = tt

-- what it shows starts and ends between characters
some_lies : (source : List ℕ) (f : Forest (TreeNode ℕ)) → FirstLies source f → IfSome (if_some f) (FirstLies source)
some_lies source nil h = tt
some_lies source (node a below after) h = h

children_lie : (w : BracketContext) (first : TreeNode ℕ) (f : Forest (TreeNode ℕ)) (end : ℕ) (shows : Shows)
    → AllLie w.setting.text f
    → IsCharBoundary w.setting.text (start_of first)
    → IsCharBoundary w.setting.text end → IsCut w.setting.text (start_of first) end shows
    → IfSome (shown_children w first f end shows) (FirstLies w.setting.text)
children_lie w first f end shows_name all starts ends cut = (omega (arith, cut), starts, ends)
children_lie w first f end (shows_nothing at) all starts ends cut = (omega arith, cut, cut)
children_lie w first f end (shows_from at) all starts ends cut = some_lies w.setting.text (past_byte at f)
    (past_lies w.setting.text at f all cut)

made_lies : (source : List ℕ) (b : WikilinkBody) (children : Option (Forest (TreeNode ℕ)))
    → IfSome children (FirstLies source) → IfSome {T = Wikilink ℕ}
    (option_map (λ children. record { name = b.name; has_pothole = has_pothole b.shows; children = children })
    children) (λ v. FirstLies source v.children)
made_lies source b None h = tt
made_lies source b (Some children) h = h

wikilink_lies : (w : BracketContext) (f : Forest (TreeNode ℕ)) (end : ℕ) → IsUtf8 w.setting.text
    → AllLie w.setting.text f
    → IsCharBoundary w.setting.text end → IfSome (wikilink_in w f end) (λ v. FirstLies w.setting.text v.children)
wikilink_lies w nil end utf8 all ends = tt
wikilink_lies w (node first below after) end utf8 all ends = by
    (wikilink_body w.setting.text w.above.block_end (start_of first) end)
    (body_cut w.setting.text w.above.block_end (start_of first) end utf8)
  where
    by : (found : Option WikilinkBody) → IfSome found (λ b. IsCut w.setting.text (start_of first) end b.shows)
        → IfSome (option_and_then (wikilink_by w first (node first below after) end) found)
        (λ v. FirstLies w.setting.text v.children)
    by None cut = tt
    by (Some b) cut =
        made_lies w.setting.text b (shown_children w first (node first below after) end b.shows)
        (children_lie w first (node first below after) end b.shows all all.0.starts ends cut)

-- so a wikilink of this body shows what can be shown
pub shows_well : (w : BracketContext) (f : Forest (TreeNode ℕ)) (end : ℕ) (v : Wikilink ℕ) → IsUtf8 w.setting.text
    → AllLie w.setting.text f → IsCharBoundary w.setting.text end
    → wikilink_in w f end ≡ Some v → ShowsWell w.setting.text f v.children
shows_well w f end v utf8 all ends e = record {
  lies = subst (λ (found : Option (Wikilink ℕ)). IfSome found (λ v. FirstLies w.setting.text v.children)) e
      (wikilink_lies w f end utf8 all ends);
  not_cut = λ at same. none_cut w.setting.text at f all;
}

-- and its name is a slice of the text before the body's end
named_slice : (text : List ℕ) (start end : ℕ) (name : List ℕ) (shows : Shows) → IsSliceWithin text start end name
    → IfSome (named name shows) (λ b. IsSliceWithin text start end b.name)
named_slice text start end [] shows h = tt
named_slice text start end (b ∷ name) shows h = h

pipe_slice : (text : List ℕ) (start end : ℕ) → start ≤ end
    → IfSome {T = ℕ × List ℕ} (option_map (λ n. (start + n + 1, take n (slice_range text start end)))
    (position (λ b. b == 124) (slice_range text start end))) (λ pipe. IsSliceWithin text start end pipe.1)
pipe_slice text start end order = by (position (λ b. b == 124) body)
  where
    body : List ℕ
    body = slice_range text start end

    by : (found : Option ℕ) → IfSome {T = ℕ × List ℕ} (option_map (λ n. (start + n + 1, take n body)) found)
        (λ pipe. IsSliceWithin text start end pipe.1)
    by None = tt
    by (Some n) =
        let size : n ≡ n - 0 = omega arith in
        slice_inside text start end n (take n body) order
        (slice_between body 0 n (take n body) (ap (λ k. take k body) size))

cut_slice : (text : List ℕ) (start end : ℕ) (found : Option (ℕ × List ℕ))
    → IfSome found (λ pipe. IsSliceWithin text start end pipe.1)
    → IfSome (cut_at text start end found) (λ b. IsSliceWithin text start end b.name)
cut_slice text start end None h = named_slice text start end (slice_range text start end) shows_name
    (slice_between text start end (slice_range text start end) refl)
cut_slice text start end (Some pipe) h = named_slice text start end pipe.1 (shown_from pipe.0 end) h

pub body_slice : (text : List ℕ) (block_end start end : ℕ)
    → IfSome (wikilink_body text block_end start end) (λ b. IsSliceWithin text start end b.name)
body_slice text block_end start end = by (nat_lt start end) refl _
    (λ order. some_in_block text block_end start (end - start) (λ pipe. IsSliceWithin text start end pipe.1)
    (pipe_slice text start end order))
  where
    by : (order : Bool) → nat_lt start end ≡ order → (found : Option (ℕ × List ℕ))
        → (start ≤ end → IfSome found (λ pipe. IsSliceWithin text start end pipe.1))
        → IfSome (if order then cut_at text start end found else None) (λ b. IsSliceWithin text start end b.name)
    by true e found h =
        let order : start ≤ end = grind (arith, nat_tests, e) in
        cut_slice text start end found (h order)
    by false e found h = tt

name_slice : (w : BracketContext) (f : Forest (TreeNode ℕ)) (end : ℕ)
    → IfSome (wikilink_in w f end) (λ v. IsNamedIn w.setting.text f end v.name)
name_slice w nil end = tt
name_slice w (node first below after) end = by (wikilink_body w.setting.text w.above.block_end (start_of first) end)
    (body_slice w.setting.text w.above.block_end (start_of first) end)
  where
    made : (b : WikilinkBody) (children : Option (Forest (TreeNode ℕ))) → IsSliceWithin w.setting.text
        (start_of first) end
        b.name → IfSome {T = Wikilink ℕ}
        (option_map (λ children. record { name = b.name; has_pothole = has_pothole b.shows; children = children })
        children) (λ v. IsSliceWithin w.setting.text (start_of first) end v.name)
    made b None h = tt
    made b (Some children) h = h

    by : (found : Option WikilinkBody) → IfSome found (λ b. IsSliceWithin w.setting.text (start_of first) end b.name)
        → IfSome (option_and_then (wikilink_by w first (node first below after) end) found)
        (λ v. IsSliceWithin w.setting.text (start_of first) end v.name)
    by None h = tt
    by (Some b) h = made b (shown_children w first (node first below after) end b.shows) h

pub names_slice : (w : BracketContext) (f : Forest (TreeNode ℕ)) (end : ℕ) (v : Wikilink ℕ)
    → wikilink_in w f end ≡ Some v
    → IsNamedIn w.setting.text f end v.name
names_slice w f end v e = subst
    (λ (found : Option (Wikilink ℕ)). IfSome found (λ v. IsNamedIn w.setting.text f end v.name)) e (name_slice w f end)

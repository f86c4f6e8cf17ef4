-- From what was put in place for an opener to how far the chain was read: it is a Text that waits, the nearest of the
-- left list, and the stacks hold it.
use Rattle.markdown_base.specs.declared.item.ItemBody.TheVariants as body
use Rattle.std.proofs.Common.{◌≡◌, ℕ, zero, suc, ◌+◌, ◌-◌, ◌<◌, ◌≤◌, Bool, true, false, ◌&&◌, List, [], ◌∷◌, ◌++◌}
use Rattle.std.proofs.Common.{Option, Some, None, length, get_or, refl, sym, ap, ◌∙◌, subst, append-nil, arith}
use Rattle.std.specs.Prelude.{if◌then◌else◌, is_some, slice_range}
use Rattle.std.specs.Option.{option_map_or}
use Rattle.std.specs.Str.{IsCharBoundary}
use Rattle.std.proofs.lemmas.Str.{IsCharBoundary-before_ascii}
use Rattle.markdown_base.specs.Arena.{child_of, sibling_of}
use Rattle.markdown_base.specs.ArenaForest.{links_of}
use Rattle.markdown_base.specs.BlockTree.{item_at}
use Rattle.markdown_base.specs.Forest.{Forest, nil, node}
use Rattle.markdown_base.specs.Item.{LiesIn, is_open}
use Rattle.markdown_base.specs.Questions.{Question, Answer}
use Rattle.markdown_base.specs.WellFormed.{MarkupIsThere, StandsOverMarkup}
use Rattle.markdown_base.specs.declared.item.Item.{Item}
use Rattle.markdown_base.specs.declared.item.ItemBody.{ItemBody}
use Rattle.markdown_base.specs.declared.node.Node.{Node}
use Rattle.markdown_brackets.specs.ReadChain.{is_next}
use Rattle.markdown_brackets.specs.LeftList.{Entry, OpenerState, gone, live, trees_onto, waits, all_done}
use Rattle.markdown_brackets.specs.HeldOpeners.{held_as, wikilinks_of}
use Rattle.markdown_brackets.specs.Openers as waiting
use Rattle.markdown_brackets.specs.Openers.{Waiting}
use Rattle.markdown_brackets.specs.Reference.{is_opener}
use Rattle.markdown_brackets.specs.declared.spent_ends.SpentEnds.{SpentEnds}
use Rattle.markdown_base.proofs.ArenaForestLemmas.{forest_at-none}
use Rattle.markdown_document.specs.EnclosingBlocks.{EnclosingBlocks}
use Rattle.markdown_document.specs.ChainRest.{joined_chains, open_body}
use Rattle.markdown_document.specs.Document.{TreeNode, Part, Plain, Shape, as_text, no_notes, shape_of, text_over}
use Rattle.markdown_document.specs.Document.{unresolved}
use Rattle.markdown_document.specs.TreeNodes.{annotate}
use Rattle.markdown_document.specs.Places.{tree_node_at, trees_from}
use Rattle.markdown_document.specs.Setting.{ReferenceState, Setting}
use Rattle.markdown_document.specs.ResolverStates.{ResolverState, chain_at, state_at}
use Rattle.markdown_document.specs.Tables.{Tables}
use Rattle.markdown_document.specs.Waiting.{is_quiet}
use Rattle.markdown_document.proofs.PlaceLemmas.{shape-open}
use Rattle.markdown_base.proofs.ByteListLemmas.{byte_of_part, part_length}
use Rattle.markdown_resolver.specs.declared.continuation.Continuation.{Continuation}
use Rattle.markdown_resolver.specs.Chains.{CanResolve, ChangesChain}
use Rattle.markdown_resolver.specs.Kept.{IsQuiet, IsQuietBelow}
use Rattle.markdown_resolver.specs.PutsTrees.{PutsTrees, numbered_from, numbered_node, without_numbers}
use Rattle.markdown_resolver.specs.ReadOn.{AreHeld, EachWaits, IsOpener, PutsAfter, ReadsOn, StandsTo, all_read}
use Rattle.markdown_resolver.specs.ReadOn.{at_left, left_without_numbers}
use Rattle.markdown_resolver.specs.Rewritten.{Puts, literal, text_unless}
use Rattle.markdown_resolver.proofs.SpanFindLemmas.{body_open}
use Rattle.markdown_resolver.proofs.FollowsLemmas.{follows_so, puts_after}
use Rattle.markdown_resolver.proofs.ComposeLemmas.{Stands}
use Rattle.markdown_resolver.proofs.FollowersLemmas.{opens_chain}
use Rattle.markdown_resolver.proofs.LeftTreesLemmas.{onto_split, quiet_joined}
use Rattle.markdown_resolver.proofs.PassOneLemmas.{opener_body, reads_opener}
use Rattle.markdown_resolver.proofs.PutPairLemmas.{ready_next}
use Rattle.markdown_resolver.proofs.PutsTreesLemmas.{put_trees}
use Rattle.markdown_resolver.proofs.StandsToLemmas.{numbered_none, numbered_opens, rest_of, same_link, some_nodes}
use Rattle.markdown_resolver.proofs.StandsToLemmas.{stands_from, stands_rest}

-- an opener ends with its `[`, and begins with a byte that is a character
pub record EndsWithBracket (source : List ℕ) (item : Item) : Type 0 where
  pub opens : item.start < item.end
  pub bracket : IsCharBoundary source (item.end - 1)
  pub mark : IsCharBoundary source (item.start + 1)

-- an item has as many bytes as its range is long
size_of : (source : List ℕ) (item : Item) → LiesIn source item → length (slice_range source item.start item.end)
    ≡ item.end - item.start
size_of source item lies = part_length source item.start item.end lies.end.0

-- where the last byte of one or two is `[`
with_bracket : (source : List ℕ) (item : Item) (k : ℕ) → LiesIn source item → item.end ≡ item.start + k + 1 → k ≤ 1
    → get_or (slice_range source item.start item.end) k 0 ≡ 91 → EndsWithBracket source item
with_bracket source item k lies size one last =
    let byte : get_or source (item.start + k) 0 ≡ 91 = sym (byte_of_part source item.start item.end k (omega
    (arith, size))) ∙ last in
    let before : IsCharBoundary source (item.start + k) = IsCharBoundary-before_ascii source (item.start + k)
    (omega (arith, lies.end.0, size)) (omega (arith, byte)) in
    let place : item.start + k ≡ item.end - 1 = omega (arith, size) in
    record {
      opens = omega (arith, size);
      bracket = subst (λ (n : ℕ). IsCharBoundary source n) place before;
      mark = by k size one before;
    }
  where
    by : (k : ℕ) → item.end ≡ item.start + k + 1 → k ≤ 1 → IsCharBoundary source (item.start + k)
        → IsCharBoundary source (item.start + 1)
    by zero size one before =
        let place : item.end ≡ item.start + 1 = omega (arith, size) in
        subst (λ (n : ℕ). IsCharBoundary source n) place lies.end
    by (suc k) size one before =
        let place : item.start + suc k ≡ item.start + 1 = omega (arith, one) in
        subst (λ (n : ℕ). IsCharBoundary source n) place before

pub ends_with_bracket : (source : List ℕ) (item : Item) (is_image : Bool) → LiesIn source item
    → MarkupIsThere source item → item.body ≡ opener_body is_image → EndsWithBracket source item
ends_with_bracket source item true lies markup is =
    let over : StandsOverMarkup (slice_range source item.start item.end) body.MaybeImage =
    subst (StandsOverMarkup (slice_range source item.start item.end)) is markup in
    let size : length (slice_range source item.start item.end) ≡ 2 = ap length over in
    with_bracket source item 1 lies (omega (arith, size, size_of source item lies, lies.ordered)) (omega arith)
    (ap (λ (bytes : List ℕ). get_or bytes 1 0) over)
ends_with_bracket source item false lies markup is =
    let over : StandsOverMarkup (slice_range source item.start item.end) body.MaybeLinkOpen =
    subst (StandsOverMarkup (slice_range source item.start item.end)) is markup in
    let size : length (slice_range source item.start item.end) ≡ 1 = ap length over in
    with_bracket source item 0 lies (omega (arith, size, size_of source item lies, lies.ordered)) (omega arith)
    (ap (λ (bytes : List ℕ). get_or bytes 0 0) over)

-- there is one tree
record OneTree (f : Forest (TreeNode ℕ)) (t : Plain) : Type 0 where
  label : TreeNode ℕ
  is : f ≡ node label nil nil
  reads : annotate (λ n. tt) label ≡ t

one_tree : (f : Forest (TreeNode ℕ)) (t : Plain) → without_numbers f ≡ node t nil nil → OneTree f t
one_tree nil t e = cc e
one_tree (node b nil nil) t e = record { label = b; is = refl; reads = cc e }
one_tree (node b (node c below after) rest) t e = let no : node (annotate (λ n. tt) c) (without_numbers below)
    (without_numbers after) ≡ nil = cc e in cc no
one_tree (node b nil (node c below after)) t e = let no : node (annotate (λ n. tt) c) (without_numbers below)
    (without_numbers after) ≡ nil = cc e in cc no

-- a node shows an opener as it is
opener_shape : (tables : Tables) (source : List ℕ) (b : ItemBody) → is_opener (open_body (shape_of tables source b))
    ≡ is_opener b
opener_shape tables source body.Paragraph = refl
opener_shape tables source (body.HardBreak true) = refl
opener_shape tables source (body.HardBreak false) = refl
opener_shape tables source other = refl

-- whether an opener follows
pub opener_next : (source : List ℕ) (tables : Tables) (nodes : List (Node Item)) (l : Option ℕ)
    → CanResolve source tables nodes l
    → is_next is_opener (trees_from source tables nodes l) ≡ option_map_or (λ n. is_opener (item_at nodes n).body) l
    false
opener_next source tables nodes None ready = ap (λ (f : Forest Plain). is_next is_opener f)
    (no_trees source tables nodes)
  where
    no_trees : (source : List ℕ) (tables : Tables) (nodes : List (Node Item)) → trees_from source tables nodes None
        ≡ nil
    no_trees source tables nodes = rw (forest_at-none (links_of nodes)) refl
opener_next source tables nodes (Some n) ready =
    ap (λ (f : Forest Plain). is_next is_opener f) (opens_chain ready).trees
    ∙ opener_shape tables (slice_range source (item_at nodes n).start (item_at nodes n).end) (item_at nodes n).body

-- a stack holds an opener that is live
held_if : (b : Bool) (ix : ℕ) (is_image : Bool) (held : List Waiting)
    → (if b then waiting.live_opener (record { node = ix; is_image = is_image }) ∷ held else held)
    ≡ held_as ix is_image (if b then live else gone) held
held_if true ix is_image held = refl
held_if false ix is_image held = refl

-- an opener is open, and does not wait for pairing
opener_settled : (source : List ℕ) (a : Plain) (below : Forest Plain) (is_image : Bool) → a.part.shape
    ≡ unresolved (opener_body is_image) → literal source a below ≡ node (as_text source a) nil nil
opener_settled source a below true e = ap (λ (shape : Shape). text_unless (is_quiet shape) source a below) e
opener_settled source a below false e = ap (λ (shape : Shape). text_unless (is_quiet shape) source a below) e

opener_open : (is_image : Bool) → is_open (opener_body is_image) ≡ true
opener_open true = refl
opener_open false = refl

-- what reads as a Text is not open
text_closed : (tables : Tables) (source bytes : List ℕ) (b : ItemBody) → shape_of tables source b ≡ text_over bytes
    → is_open b ≡ false
text_closed tables source bytes b e = by_open (is_open b) refl
  where
    by_open : (x : Bool) → is_open b ≡ x → is_open b ≡ false
    by_open true o = let no : unresolved b ≡ text_over bytes = sym (shape-open tables source b o) ∙ e in cc no
    by_open false o = o

-- the node of an opener after it became literal text
pub record IsLiteralAt (source : List ℕ) (tables : Tables) (old new : List (Node Item)) (first ix : ℕ) (next : Option ℕ)
    (left : List (Entry ℕ))
    : Type 0 where
  reads : annotate (λ n. tt) (numbered_node source tables new ix) ≡ as_text source (tree_node_at source tables old ix)
  pub after_is : PutsAfter source first next left (node (as_text source (tree_node_at source tables old ix)) nil nil)
      (trees_from source tables old (sibling_of old ix)) old new tables tables
  stands : numbered_from source tables new (Some first)
      ≡ trees_onto left (node (numbered_node source tables new ix) nil (numbered_from source tables new next))
  childless : child_of new ix ≡ None
  within : ix < length new

pub literal_at : (source : List ℕ) (tables : Tables) (old new : List (Node Item)) (first ix : ℕ) (rest : Continuation)
    (left : List (Entry ℕ)) (is_image : Bool)
    → StandsTo source tables old first (Some ix) left → (item_at old ix).body ≡ opener_body is_image
    → Puts source ix (literal source) None rest old new tables tables → IsLiteralAt source tables old new first ix
    rest.next left
literal_at source tables old new first ix rest left is_image h is puts =
    let ready = stands_rest h in
    let a = tree_node_at source tables old ix in
    let below = trees_from source tables old (child_of old ix) in
    let next = rest.next in
    let after_it = trees_from source tables old (sibling_of old ix) in
    let t = as_text source a in
    let item = item_at old ix in
    let was_open : is_open item.body ≡ true = ap is_open is ∙ opener_open is_image in
    let shape : a.part.shape ≡ unresolved (opener_body is_image) = shape-open tables
    (slice_range source item.start item.end) item.body was_open ∙ ap unresolved is in
    let text : literal source a below ≡ node t nil nil = opener_settled source a below is_image shape in
    let o = opens_chain ready in
    let block : is_some a.part.block
    ≡ false = (subst (λ (f : Forest Plain). IsQuietBelow f) o.trees ready.quiet_below).0 in
    let quiet : IsQuiet (node t nil nil) = (refl, block, tt, tt) in
    let p0 = put_trees ready puts (subst (λ (f : Forest Plain). IsQuiet f) (sym text) quiet) in
    let p : PutsTrees source ix next (node t nil nil) after_it old new tables tables = subst
    (λ (f : Forest Plain). PutsTrees source ix next f after_it old new tables tables) text p0 in
    let some = some_nodes source tables old first (Some ix) left h in
    let b = follows_so source old new tables tables ix (trees_onto left nil) (Some first) some p.changes p.runs
    (stands_from source tables old first (Some ix) left h) (rest_of source tables old first (Some ix) left h).whole in
    let one = one_tree p.standing t p.reads in
    let s : Stands source tables new (Some ix) = record {
      reaches = p.changes.reaches;
      once = p.changes.once;
      named_once = p.changes.named_once;
    } in
    let next_trees = numbered_from source tables new next in
    let here : numbered_from source tables new (Some ix) ≡ node one.label nil next_trees = p.stands
    ∙ ap (λ (f : Forest (TreeNode ℕ)). joined_chains f next_trees) one.is in
    let opened : node (numbered_node source tables new ix) (numbered_from source tables new (child_of new ix))
    (numbered_from source tables new (sibling_of new ix)) ≡ node one.label nil next_trees =
    sym (numbered_opens source tables new ix s) ∙ here in
    let label : one.label ≡ numbered_node source tables new ix = cc opened in
    let child : numbered_from source tables new (child_of new ix) ≡ nil = cc opened in
    record {
      reads = ap (λ (c : TreeNode ℕ). annotate (λ n. tt) c) (sym label) ∙ one.reads;
      after_is = puts_after h p;
      stands =
          b.trees ∙ ap (λ (f : Forest (TreeNode ℕ)). joined_chains (trees_onto left nil) f)
          (here ∙ ap (λ (c : TreeNode ℕ). node c nil next_trees) label)
          ∙ sym (onto_split left (node (numbered_node source tables new ix) nil next_trees));
      childless = same_link source tables new (child_of new ix) None (omega (arith, some, p.changes.more_nodes)) (child
          ∙ sym (numbered_none source tables new));
      within = omega (arith, o.within, p.changes.more_nodes);
    }

-- an opener was read
pub reads_on_opener : {C : Type 0} (step : C → Question → Option Answer → C → Type 0) (s : Setting)
    (above : EnclosingBlocks)
    (first ix : ℕ) (rest : Continuation) (left : List (Entry ℕ)) (is_image : Bool) (old new : ResolverState C)
    (spent : SpentEnds) (brackets wikilinks brackets' wikilinks' : List Waiting) → new
    ≡ record old { nodes = new.nodes }
    → StandsTo s.text old.tables old.nodes first (Some ix) left → AreHeld brackets wikilinks left
    → (item_at old.nodes ix).body ≡ opener_body is_image
    → Puts s.text ix (literal s.text) None rest old.nodes new.nodes old.tables old.tables
    → brackets' ≡ waiting.live_opener (record { node = ix; is_image = is_image }) ∷ brackets
    → wikilinks' ≡ (if s.rules.syntax.wikilinks && option_map_or (λ n. is_opener (item_at old.nodes n).body)
    (sibling_of old.nodes ix) false
    then waiting.live_opener (record { node = ix; is_image = is_image }) ∷ wikilinks else wikilinks)
    → ReadsOn step s above first (Some ix) rest.next left old new spent spent brackets' wikilinks'
reads_on_opener {C} step s above first ix rest left is_image old new spent brackets wikilinks brackets' wikilinks' same
    stands held is puts brackets_are wikilinks_are =
    let ready = stands_rest stands in
    let o = opens_chain ready in
    let item = item_at old.nodes ix in
    let a = tree_node_at s.text old.tables old.nodes ix in
    let below = trees_from s.text old.tables old.nodes (child_of old.nodes ix) in
    let next = rest.next in
    let after_it = trees_from s.text old.tables old.nodes (sibling_of old.nodes ix) in
    let tables : new.tables ≡ old.tables = ap (λ (t : ResolverState C). t.tables) same in
    let at : IsLiteralAt s.text old.tables old.nodes new.nodes first ix rest.next left = literal_at s.text old.tables
    old.nodes new.nodes first ix rest left is_image stands is puts in
    let text = as_text s.text a in
    let b = numbered_node s.text old.tables new.nodes ix in
    let follows = s.rules.syntax.wikilinks && is_next is_opener after_it in
    let mark : OpenerState = record { is_image = is_image; bracket = live; wikilink = if follows then live else gone }
    in
    let left_then : List (Entry ℕ) = waits mark b ∷ left in
    let after_is = at.after_is in
    let one = one_tree after_is.standing text after_is.reads in
    let waiting_then : EachWaits (IsOpener s.text new.nodes) left =
    subst (λ (f : Forest (TreeNode ℕ)). EachWaits (IsOpener s.text new.nodes) (all_done f left)) one.is
    after_is.stands.waiting in
    let ends = ends_with_bracket s.text item is_image o.placed.lies o.placed.keeps.markup_is_there is in
    let part : b.part ≡ text.part = ap (λ (c : Plain). c.part) at.reads in
    let new_end : (item_at new.nodes ix).end ≡ item.end = ap (λ (c : Part). c.range.end) part in
    let new_start : (item_at new.nodes ix).start ≡ item.start = ap (λ (c : Part). c.range.start) part in
    let opener : IsOpener s.text new.nodes ix = record {
      within = at.within;
      opens = rw (new_start, new_end) ends.opens;
      bracket = rw new_end ends.bracket;
      mark = rw new_start ends.mark;
      closed = text_closed old.tables (slice_range s.text (item_at new.nodes ix).start (item_at new.nodes ix).end)
          (slice_range s.text item.start item.end) (item_at new.nodes ix).body (ap (λ (c : Part). c.shape) part);
      childless = at.childless;
    } in
    let head_quiet = (rest_of s.text old.tables old.nodes first (Some ix) left stands).quiet_below in
    let node_quiet : IsQuiet (node text nil nil) = (
      refl,
      (subst (λ (f : Forest Plain). IsQuietBelow f) o.trees ready.quiet_below).0,
      tt,
      tt,
    ) in
    let node_is_quiet : IsQuiet (node b nil nil) = (
      ap (λ (c : Part). is_quiet c.shape) part ∙ node_quiet.0,
      ap (λ (c : Part). is_some c.block) part ∙ node_quiet.1,
      tt,
      tt,
    ) in
    let stands_then : StandsTo s.text old.tables new.nodes first next left_then = record {
      ready = after_is.stands.ready;
      stands = at.stands;
      quiet = subst (λ (f : Forest (TreeNode ℕ)). IsQuiet f) (sym (onto_split left (node b nil nil)))
          (quiet_joined (trees_onto left nil) (node b nil nil) stands.quiet node_is_quiet);
      waiting = (opener, waiting_then);
    } in
    let is_next_opener = opener_next s.text old.tables old.nodes (sibling_of old.nodes ix)
    (ready_next s.text old.tables old.nodes ix ready) in
    record {
      changes = subst (λ (t : Tables). ChangesChain s.text (Some first) old.nodes new.nodes old.tables t) (sym tables)
          after_is.changes;
      left_then = left_then;
      stands = subst (λ (t : Tables). StandsTo s.text t new.nodes first next left_then) (sym tables) stands_then;
      held = record {
        brackets_are = brackets_are
            ∙ ap (λ (held : List Waiting). waiting.live_opener (record { node = ix; is_image = is_image }) ∷ held)
            held.brackets_are;
        wikilinks_are =
            wikilinks_are ∙ ap (λ (b : Bool). if s.rules.syntax.wikilinks && b then waiting.live_opener
            (record { node = ix; is_image = is_image }) ∷ wikilinks else wikilinks) (sym is_next_opener)
            ∙ ap (λ (held : List Waiting). if follows then waiting.live_opener
            (record { node = ix; is_image = is_image }) ∷ held else held)
            held.wikilinks_are ∙ held_if follows ix is_image (wikilinks_of left);
      };
      answers = [];
      questions = [];
      asked = ap (λ (t : ResolverState C). t.callback) (sym same);
      ends = [];
      spends = λ end. refl;
      made = 0;
      reads = λ p later are.
          let k : state_at old later ≡ state_at new later = ap (λ (t : ResolverState C). state_at t later) (sym same) in
          let left_is : waits mark text ∷ left_without_numbers left ≡ left_without_numbers left_then =
          ap (λ (c : Plain). waits mark c ∷ left_without_numbers left) (sym at.reads) in
          let rest_is : after_it ≡ chain_at s.text new next = sym after_is.rest_is
          ∙ ap (λ (t : Tables). trees_from s.text t new.nodes next) (sym tables) in
          let made : p.made ≡ p.made + 0 = omega arith in
          ap (λ (f : Forest Plain). all_read s above f (at_left left old later p)) o.trees
          ∙ reads_opener s no_notes above is_image a below after_it (at_left left old later p) refl
          (body_open old.tables (slice_range s.text item.start item.end) item.body (ap is_open is
          ∙ opener_open is_image) ∙ is) ∙ ap (λ (f : Forest Plain). all_read s above f (record p {
            left = waits mark text ∷ left_without_numbers left;
            goes_on = None;
            state = state_at old later;
          })) rest_is ∙ ap (λ (l : List (Entry (Unit {0}))). all_read s above (chain_at s.text new next)
          (record p { left = l; goes_on = None; state = state_at old later })) left_is
          ∙ ap (λ (state : ReferenceState). all_read s above (chain_at s.text new next)
          (record p { left = left_without_numbers left_then; goes_on = None; state = state })) k
          ∙ ap (λ (asked : List Question). all_read s above (chain_at s.text new next)
          (at_left left_then new later (record p { asked = asked }))) (sym (append-nil p.asked))
          ∙ ap (λ (made : ℕ). all_read s above (chain_at s.text new next)
          (at_left left_then new later (record p { asked = p.asked ++ []; made = made }))) made;
    }

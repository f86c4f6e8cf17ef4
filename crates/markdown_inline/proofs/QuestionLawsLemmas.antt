-- The questions of a reading are those of its chains, and all `]` of a chain are in its document.
use Rattle.std.proofs.Common.{◌≡◌, ℕ, ◌+◌, ◌≤◌, Bool, List, [], ◌++◌, length, cond, refl, ap, ◌∙◌, arith, length-append}
use Rattle.std.specs.Prelude.{count_by, slice_range}
use Rattle.std.proofs.lemmas.List.Sums.{sum_by-append, sum_by-cons}
use Rattle.markdown_base.specs.BlockTree.{Numbered, tree_of}
use Rattle.markdown_base.specs.Event.{end, tag_end}
use Rattle.markdown_base.specs.Forest.{Forest, nil, node, preorder, relabelled, roots}
use Rattle.markdown_base.specs.WellFormed.{IsWellFormed}
use Rattle.markdown_base.specs.declared.block_parts.BlockParts.{BlockParts}
use Rattle.markdown_base.specs.declared.item.Item.{Item}
use Rattle.markdown_base.specs.declared.item.ItemBody.TheVariants as body
use Rattle.markdown_base.specs.declared.node.Node.{Node}
use Rattle.markdown_brackets.specs.QuestionEnds.{StandInLine}
use Rattle.markdown_brackets.specs.QuestionsAsked.{AsksAtMost, closers_among, closes_bracket}
use Rattle.markdown_brackets.specs.Reference.{is_closing_bracket}
use Rattle.markdown_document.specs.EnclosingBlocks.{EnclosingBlocks, inside_node, no_blocks}
use Rattle.markdown_document.specs.Document.{TreeNode, Plain, Shape, backslash_break, document, enclosed, tree_node_of}
use Rattle.markdown_document.specs.Document.{leaf, plain, no_notes, unresolved}
use Rattle.markdown_document.specs.Setting.{ReferenceState, Rules, Setting, setting_of}
use Rattle.markdown_document.specs.Tables.{Tables}
use Rattle.markdown_inline.specs.Elements.{Element, Reading, nothing_read, questions_of, then_reads}
use Rattle.markdown_inline.specs.QuestionLaws.{AsksApart, closers_of, document_reading}
use Rattle.markdown_inline.specs.Reading.{chain_reading, reading_opened, reading, closed_reading}
use Rattle.markdown_inline.proofs.RunLemmas.{questions_of-questions}
use Rattle.markdown_resolver.specs.Kept.{EachChain}
use Rattle.markdown_resolver.specs.PassOne.{Outcome}
use Rattle.markdown_resolver.specs.Resolved.{all_paired, resolved}
use Rattle.markdown_resolver.proofs.ChainQuestionsLemmas.{document_in_line, resolved_asks, resolved_ends}
use Rattle.markdown_resolver.proofs.ChainQuestionsLemmas.{resolved_stays_zero}
use Rattle.markdown_resolver.proofs.GoesOnLemmas.{shows_closer}

-- a reading asks at most this many questions, and none at a limit of 0
record Few (most : ℕ) (r : Reading) : Type 0 where
  once : (state : ReferenceState) → length (questions_of (r state).elements) ≤ most
  silent : (state : ReferenceState) → state.limit ≡ 0 → questions_of (r state).elements ≡ []

more_few : (n m : ℕ) (r : Reading) → n ≤ m → Few n r → Few m r
more_few n m r l h = record { once = λ state. omega (arith, h.once state, l); silent = h.silent }

-- a closed forest asks nothing
module _ {A : Type 0} where
  settled_tree : (a : TreeNode A) (most : ℕ) (inside : Reading → Reading) (after : Reading)
      → ((inner : Reading) → Few most inner → Few most (inside inner)) → Few most after
      → (shape : Shape) → Few most (reading_opened shape a.part.range inside after after)
  settled_tree a most inside after within h (leaf e origins) = record { once = h.once; silent = h.silent }
  settled_tree a most inside after within h (enclosed tag origins) =
      let inner = within (then_reads (end (tag_end tag), a.part.range, []) after)
      (record { once = h.once; silent = h.silent }) in
      record { once = inner.once; silent = inner.silent }
  settled_tree a most inside after within h plain = within after h
  settled_tree a most inside after within h backslash_break = record { once = h.once; silent = h.silent }
  settled_tree a most inside after within h (unresolved b) = h

  settled_few : (f : Forest (TreeNode A)) (most : ℕ) (after : Reading) → Few most after
      → Few most (closed_reading f after)
  settled_few nil most after h = h
  settled_few (node a below later) most after h =
      settled_tree a most (λ inner. closed_reading below inner) (closed_reading later after)
      (λ inner k. settled_few below most inner k)
      (settled_few later most after h) a.part.shape

-- 1 for a `]`
abbrev one_closer : {A : Type 0} → TreeNode A → ℕ
one_closer a = cond (closes_bracket a) 1 0

-- the `]` of a chain are in its document
roots_few : {A : Type 0} (f : Forest (TreeNode A)) → closers_among (roots f) ≤ closers_among (preorder f)
roots_few nil = omega arith
roots_few (node a below after) =
    let all = sum_by-cons one_closer a (preorder below ++ preorder after) in
    let sum = sum_by-append one_closer (preorder below) (preorder after) in
    let here = sum_by-cons one_closer a (roots after) in
    let more = roots_few after in
    omega (arith, all, sum, here, more)

-- the questions of a tree: at most those of what is below it and of what follows, or those of the chain from it on
opened_few : (a : Plain) (all few : ℕ) (inside : Reading → Reading) (after whole : Reading)
    → ((inner : Reading) → Few few inner → Few all (inside inner)) → Few few after → few ≤ all → Few all whole
    → (shape : Shape) → Few all (reading_opened shape a.part.range inside after whole)
opened_few a all few inside after whole within h l rest (leaf e origins) =
    let k = more_few few all after l h in record { once = k.once; silent = k.silent }
opened_few a all few inside after whole within h l rest (enclosed tag origins) =
    let inner = within (then_reads (end (tag_end tag), a.part.range, []) after)
    (record { once = h.once; silent = h.silent }) in
    record { once = inner.once; silent = inner.silent }
opened_few a all few inside after whole within h l rest plain = within after h
opened_few a all few inside after whole within h l rest backslash_break =
    let k = more_few few all after l h in record { once = k.once; silent = k.silent }
opened_few a all few inside after whole within h l rest (unresolved b) = rest

-- the `]` of a tree, of what is below it, and of what follows
closers_sum : (a : Plain) (below after : Forest Plain)
    → closers_among (preorder (node a below after))
    ≡ one_closer a + (closers_among (preorder below) + closers_among (preorder after))
closers_sum a below after =
    sum_by-cons one_closer a (preorder below ++ preorder after)
    ∙ ap (λ (n : ℕ). one_closer a + n) (sum_by-append one_closer (preorder below) (preorder after))

module _ (s : Setting) where
  -- a chain, and then what follows
  chain_few : (above : EnclosingBlocks) (chain : Forest Plain) (most : ℕ) (after : Reading) → Few most after
      → Few (closers_among (preorder chain) + most) (chain_reading s no_notes above chain after)
  chain_few above chain most after h = record {
    once = λ state.
        let r : Outcome (Unit {0}) = resolved s no_notes above chain state in
        let here = (resolved_asks s no_notes above chain state).once in
        let later = (settled_few (all_paired s r.forest) most after h).once r.state in
        let others : List Element = (closed_reading (all_paired s r.forest) after r.state).elements in
        let all = ap length (questions_of-questions r.questions others) in
        let sum = length-append r.questions (questions_of others) in
        omega (arith, here, later, all, sum, roots_few chain);
    silent = λ state z.
        let r : Outcome (Unit {0}) = resolved s no_notes above chain state in
        let here = (resolved_asks s no_notes above chain state).silent z in
        let zero = resolved_stays_zero s no_notes above chain state z in
        let later = (settled_few (all_paired s r.forest) most after h).silent r.state zero in
        questions_of-questions r.questions (closed_reading (all_paired s r.forest) after r.state).elements
        ∙ rw (here, later) refl;
  }

  reading_few : (f : Forest Plain) (above : EnclosingBlocks) (most : ℕ) (after : Reading) → Few most after
      → Few (closers_among (preorder f) + most) (reading s no_notes above f after)
  reading_few nil above most after h = more_few most (0 + most) after (omega arith) h
  reading_few (node a below later) above most after h =
      let sum = closers_sum a below later in
      let all : ℕ = closers_among (preorder (node a below later)) + most in
      let few : ℕ = closers_among (preorder later) + most in
      let inside : Reading → Reading = λ inner. reading s no_notes (inside_node a above) below inner in
      let within = λ (inner : Reading) (k : Few few inner). more_few (closers_among (preorder below) + few) all
      (inside inner)
      (omega (arith, sum)) (reading_few below (inside_node a above) few inner k) in
      opened_few a all few inside (reading s no_notes above later after)
      (chain_reading s no_notes above (node a below later) after)
      within (reading_few later above most after h) (omega (arith, sum))
      (chain_few above (node a below later) most after h) a.part.shape

module _ (source : List ℕ) (tables : Tables) where
  abbrev seen : Numbered → Plain
  seen n = tree_node_of source tables n.item

  closers_seen : (f : Forest Numbered)
      → closers_among (preorder (relabelled seen f)) ≡ count_by (λ (n : Numbered). is_closing_bracket n.item.body)
      (preorder f)
  closers_seen nil = refl
  closers_seen (node a below after) =
      let here = ap {B = ℕ} (λ (b : Bool). cond b 1 0)
      (shows_closer tables (slice_range source a.item.start a.item.end) a.item.body) in
      let one : Numbered → ℕ = λ n. cond (is_closing_bracket n.item.body) 1 0 in
      let labels = closers_sum (seen a) (relabelled seen below) (relabelled seen after) in
      let items = sum_by-cons one a (preorder below ++ preorder after) in
      let sum = sum_by-append one (preorder below) (preorder after) in
      let inside = closers_seen below in
      let later = closers_seen after in
      omega (arith, here, labels, items, sum, inside, later)

pub document_asks : (source : List ℕ) (nodes : List (Node Item)) (tables : Tables) (rules : Rules)
    (state : ReferenceState)
    → AsksAtMost (closers_of nodes) state.limit (questions_of (document_reading source nodes tables rules state))
document_asks source nodes tables rules state =
    let s = setting_of source rules in
    let none : Few 0 nothing_read = record { once = λ state. omega arith; silent = λ state z. refl } in
    let few = reading_few s (document source tables nodes) (no_blocks source) 0 nothing_read none in
    record {
      once = omega (arith, few.once state, closers_seen source tables (tree_of nodes));
      silent = few.silent state;
    }

-- what holds of each chain, where one thing follows from another
pub each_also : {A : Type 0} (P Q : Forest (TreeNode A) → Type 0) → ((chain : Forest (TreeNode A)) → P chain → Q chain)
    → (f : Forest (TreeNode A))
    → EachChain P f → EachChain Q f
each_also P Q also nil h = tt
each_also P Q also (node a below after) h =
    ((λ opens. also (node a below after) (h.0 opens)), each_also P Q also below h.1, each_also P Q also after h.2)

pub document_ends : (source : List ℕ) (nodes : List (Node Item)) (parts : BlockParts) (tables : Tables) (rules : Rules)
    → IsWellFormed source nodes parts
    → EachChain (AsksApart (setting_of source rules)) (document source tables nodes)
document_ends source nodes parts tables rules formed =
    let s = setting_of source rules in
    each_also (StandInLine source) (AsksApart s)
    (λ chain stand above state. resolved_ends s no_notes above chain state stand)
    (document source tables nodes) (document_in_line source nodes parts tables formed)

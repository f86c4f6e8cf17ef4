-- A forest that a chain is resolved to reads as itself, with the chains of children in it paired: what the
-- walk does later, when it is there, is what the definition does at once.
use Rattle.std.proofs.Common.{◌≡◌, ℕ, Bool, true, false, List, [], ◌∷◌, refl, ap}
use Rattle.std.specs.declared.ops.Range.{Range}
use Rattle.markdown_inline.specs.Elements.{Element, Placed, Reading, event, then_reads}
use Rattle.markdown_base.specs.Event.{start, end, tag_end, hard_break}
use Rattle.markdown_base.specs.Forest.{Forest, nil, node}
use Rattle.markdown_inline.specs.Reading.{reading_opened, closed_reading, chain_reading, reading}
use Rattle.markdown_document.specs.EnclosingBlocks.{EnclosingBlocks, inside_node}
use Rattle.markdown_document.specs.Setting.{ReferenceState, Setting}
use Rattle.markdown_delims.specs.Pairing.{paired}
use Rattle.markdown_resolver.specs.Resolved.{paired_from, paired_if_open, all_paired}
use Rattle.markdown_document.specs.Document.{no_notes, is_unresolved, Shape, leaf, enclosed, plain, backslash_break}
use Rattle.markdown_document.specs.Document.{unresolved, Plain}
use Rattle.markdown_resolver.specs.Kept.{IsQuiet}
use Rattle.markdown_resolver.specs.KeptChains.{IsClosedChain}
use Rattle.markdown_resolver.proofs.ResolvingLemmas.{resolved-quiet, all_paired-paired}

-- two readings have the same elements
abbrev pub SameElements : Reading → Reading → Type 0
SameElements r r' = (state : ReferenceState) → (r state).elements ≡ (r' state).elements

pub opened-open : (shape : Shape) (range : Range ℕ) (inside : Reading → Reading) (after whole : Reading)
    → is_unresolved shape ≡ true
    → reading_opened shape range inside after whole ≡ whole
opened-open (leaf e origins) range inside after whole h = cc h
opened-open (enclosed tag origins) range inside after whole h = cc h
opened-open plain range inside after whole h = cc h
opened-open backslash_break range inside after whole h = cc h
opened-open (unresolved b) range inside after whole h = refl

-- one event before the same elements
one_same : (e : Placed) (after after' : Reading) → SameElements after after'
    → SameElements (then_reads e after) (then_reads e after')
one_same e after after' a state = ap (λ (es : List Element). event e ∷ es) (a state)

pub opened-same : (shape : Shape) (range : Range ℕ) (inside inside' : Reading → Reading)
    (after after' whole whole' : Reading)
    → ((inner inner' : Reading) → SameElements inner inner' → SameElements (inside inner) (inside' inner'))
    → SameElements after after'
    → (is_unresolved shape ≡ true → SameElements whole whole')
    → SameElements (reading_opened shape range inside after whole) (reading_opened shape range inside' after' whole')
opened-same (leaf e origins) range inside inside' after after' whole whole' i a w = one_same (e, range, origins) after
    after' a
opened-same (enclosed tag origins) range inside inside' after after' whole whole' i a w =
    let last : Placed = (end (tag_end tag), range, []) in
    one_same (start tag, range, origins) (inside (then_reads last after)) (inside' (then_reads last after'))
    (i (then_reads last after) (then_reads last after') (one_same last after after' a))
opened-same plain range inside inside' after after' whole whole' i a w = i after after' a
opened-same backslash_break range inside inside' after after' whole whole' i a w = one_same (hard_break, range, [])
    after after' a
opened-same (unresolved b) range inside inside' after after' whole whole' i a w = w refl

-- no chain of a closed forest is read by itself
literal-same : (f : Forest Plain) (after after' : Reading) → SameElements after after'
    → SameElements (closed_reading f after) (closed_reading f after')
literal-same nil after after' h = h
literal-same (node a below later) after after' h =
    opened-same a.part.shape a.part.range (λ inner. closed_reading below inner) (λ inner. closed_reading below inner)
    _ _ _ _
    (λ inner inner' k. literal-same below inner inner' k) (literal-same later after after' h)
    (λ is. literal-same later after after' h)

-- a quiet chain that begins with an open item reads as its pairing
chain-quiet : (s : Setting) (above : EnclosingBlocks) (chain : Forest Plain) (after after' : Reading)
    → SameElements after after'
    → IsQuiet chain
    → SameElements (chain_reading s no_notes above chain after)
    (closed_reading (paired s (all_paired s chain)) after')
chain-quiet s above chain after after' h q state =
    rw (resolved-quiet s no_notes above chain state q, all_paired-paired s chain)
    (literal-same (paired s (all_paired s chain)) after after' h state)

-- of a tree of a quiet chain: open, or not
quiet_tree : (s : Setting) (above : EnclosingBlocks) (a : Plain) (below later : Forest Plain) (after after' : Reading)
    (is_open : Bool) → is_unresolved a.part.shape ≡ is_open
    → ((inner inner' : Reading) → SameElements inner inner'
    → SameElements (reading s no_notes (inside_node a above) below inner)
    (closed_reading (paired_if_open s (all_paired s below)) inner'))
    → SameElements (reading s no_notes above later after)
    (closed_reading (paired_if_open s (all_paired s later)) after')
    → SameElements (chain_reading s no_notes above (node a below later) after)
    (closed_reading (paired s (all_paired s (node a below later))) after')
    → SameElements (reading s no_notes above (node a below later) after)
    (closed_reading (paired_from s is_open a (paired_if_open s (all_paired s below)) (all_paired s later)
    (paired_if_open s (all_paired s later))) after')
quiet_tree s above a below later after after' true e inside follows whole =
    rw (opened-open a.part.shape a.part.range (λ inner. reading s no_notes (inside_node a above) below inner)
    (reading s no_notes above later after) (chain_reading s no_notes above (node a below later) after) e) whole
quiet_tree s above a below later after after' false e inside follows whole =
    opened-same a.part.shape a.part.range _ _ _ _ _ _ inside follows (λ is. absurd (cc (e, is)))

-- a chain of children reads as its pairing
pub reading-quiet : (s : Setting) (above : EnclosingBlocks) (chain : Forest Plain) (after after' : Reading)
    → SameElements after after' → IsQuiet chain
    → SameElements (reading s no_notes above chain after)
    (closed_reading (paired_if_open s (all_paired s chain)) after')
reading-quiet s above nil after after' h q = h
reading-quiet s above (node a below later) after after' h q =
    quiet_tree s above a below later after after' (is_unresolved a.part.shape) refl
    (λ inner inner' k. reading-quiet s (inside_node a above) below inner inner' k q.2)
    (reading-quiet s above later after after' h q.3)
    (chain-quiet s above (node a below later) after after' h q)

-- a resolved forest reads as itself, with the chains of children in it paired
pub reading-literal : (s : Setting) (above : EnclosingBlocks) (f : Forest Plain) (after : Reading) → IsClosedChain f
    → SameElements (reading s no_notes above f after) (closed_reading (all_paired s f) after)
reading-literal s above nil after h = λ state. refl
reading-literal s above (node a below later) after h =
    opened-same a.part.shape a.part.range _ _ _ _ _ _
    (λ inner inner' k. reading-quiet s (inside_node a above) below inner inner' k h.1)
    (reading-literal s above later after h.2)
    (λ is. absurd (cc (h.0, is)))

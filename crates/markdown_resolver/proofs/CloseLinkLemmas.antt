-- A link or an image, put in the place of its opener: what can be put there, and what it reads as.
use Rattle.std.proofs.Common.{◌≡◌, ℕ, ◌≤◌, Bool, true, false, List, [], ◌∷◌, length, Some, None, refl, sym, ap, subst}
use Rattle.std.proofs.Common.{arith, if◌then◌else◌}
use Rattle.std.specs.Prelude.{IsCharBoundary}
use Rattle.markdown_base.specs.BlockTree.{item_at}
use Rattle.markdown_base.specs.Event.{LinkView, image, link, link_view}
use Rattle.markdown_base.specs.Forest.{nil, node}
use Rattle.markdown_base.specs.declared.index.LinkIndex.{LinkIndex}
use Rattle.markdown_base.specs.declared.item.Item.{Item}
use Rattle.markdown_base.specs.declared.item.ItemBody.{ItemBody}
use Rattle.markdown_base.specs.declared.item.ItemBody.TheVariants as body
use Rattle.markdown_base.specs.declared.node.Node.{Node}
use Rattle.markdown_brackets.specs.BracketDecision.{BracketContext, Becomes, Closing, a_link}
use Rattle.markdown_brackets.specs.ClosingBracket.{linked}
use Rattle.markdown_brackets.specs.DecisionView.{IsBecome, opener_of}
use Rattle.markdown_brackets.specs.LeftList.{Entry, Split, inside}
use Rattle.markdown_brackets.specs.LookupView.{target_view}
use Rattle.markdown_brackets.specs.TargetOrigins.{IsTargetFrom, titles_of}
use Rattle.markdown_brackets.specs.declared.closing_bracket.ClosedBracket.TheVariants.{Link}
use Rattle.markdown_brackets.specs.declared.look_up.Target.{Target}
use Rattle.markdown_brackets.specs.declared.openers.Opener.{Opener}
use Rattle.markdown_document.specs.ChainRest.{start_of, end_of}
use Rattle.markdown_document.specs.Document.{Origin, TreeNode, Plain, enclosed, tree_node_of}
use Rattle.markdown_document.specs.LinkOrigins.{IsLinkFrom, IsTitleFrom, LinkOrigins, destination_origin, titles_for}
use Rattle.markdown_document.specs.Origins.{made, origin_of}
use Rattle.markdown_document.specs.Tables.{Tables, link_at, link_origins, tables_of, titles_at}
use Rattle.markdown_resolver.specs.declared.continuation.Continuation.{Continuation}
use Rattle.markdown_resolver.specs.ClosedOver.{CanClose, CanPutOver, PutsOver, over_inside}
use Rattle.markdown_resolver.specs.Closes.{ClosesAt, PutsClosed}
use Rattle.markdown_resolver.specs.PutsTrees.{numbered_node, without_numbers}
use Rattle.markdown_resolver.proofs.MarkupItemLemmas.{can_put_link, link_over, PutsLink, link_put, titles_pushed}
use Rattle.markdown_resolver.proofs.CloseLemmas.{OpenerAt, can_close, opener_at, opener_before, puts_closed}
use Rattle.markdown_resolver.proofs.CloseLemmas.{quiet_inside}
use Rattle.markdown_resolver.proofs.SplitLemmas.{inside_numbers, opens_numbered}
use Rattle.markdown_resolver.proofs.StandsToLemmas.{link_stands}
use Rattle.markdown_defs.specs.Allocations.{Allocated, LinkParts}
use Rattle.markdown_defs.specs.AllocationCalls.{with_link}

-- what becomes a link or an image
pub record BecomesLink (text : List ℕ) (becomes : Becomes ℕ) (opener : Opener) (found : Target) (end next : ℕ) : Type 0
  where
    pub split : Split ℕ
    pub is : becomes ≡ a_link split (target_view found) (titles_of found) end next
    pub opener_is : opener ≡ opener_of split
    pub from : IsTargetFrom text (start_of split.opener) end found

pub becomes_link : (w : BracketContext) (becomes : Becomes ℕ) (opener : Opener) (found : Target) (end next : ℕ)
    → IsBecome w becomes (Link opener found end next) → BecomesLink w.setting.text becomes opener found end next
becomes_link w (a_link o target titles e n) opener found end next h = record {
  split = o;
  is = rw (h.1, h.2, h.3, h.4) refl;
  opener_is = h.0;
  from = rw h.2 h.5;
}
becomes_link w other opener found end next h = absurd h

-- a link or an image from an opener on
abbrev pub link_from : List (Node Item) → Opener → LinkIndex → (end : ℕ) → Item
link_from nodes opener number end = link_over opener.is_image number (item_at nodes opener.node).start end

-- an item with a range
abbrev pub item_over : (start end : ℕ) → ItemBody → Item
item_over start end b = record { start = start; end = end; body = b }

-- its destination may have been made, unless it is an autolink or a wikilink
made_link : (source : List ℕ) (start end : ℕ) (origins : LinkOrigins) (view : LinkView) → destination_origin view.kind
    ≡ made → IsTitleFrom source start end view.kind origins.title view.title → IsLinkFrom source start end origins view
made_link source start end origins view other title = record { leads = λ slice. cc (other, slice); title = title }

-- a link reads as its entry
link_label : (source : List ℕ) (tables : Tables) (tag : ℕ) (is_image : Bool) (number : LinkIndex) (view : LinkView)
    (titles : List Origin) (start start' end : ℕ) → start ≡ start' → link_at tables.links number.0 ≡ view
    → titles_at tables.links number.0 ≡ titles
    → tree_node_of source tables (link_over is_image number start end) ≡ record {
      note = tt;
      part = record {
        shape = enclosed (if is_image then image view else link view) titles;
        range = record { start = start'; end = end };
        block = None;
      };
    }
link_label source tables tag true number view titles start start' end e found origin = rw (e, origin, found) refl
link_label source tables tag false number view titles start start' end e found origin = rw (e, origin, found) refl

pub linked_node : (source : List ℕ) (tables tables' : Tables) (nodes : List (Node Item)) (o : Split ℕ)
    (number : LinkIndex) (view : LinkView) (titles : List Origin) (end : ℕ)
    → o.opener ≡ numbered_node source tables nodes o.opener.note
    → PutsLink source (item_at nodes o.opener.note).start end tables tables' number view
    → titles_at tables'.links number.0 ≡ titles
    → tree_node_of source tables' (link_from nodes (opener_of o) number end)
    ≡ record { note = tt; part = (linked o view titles end).part }
linked_node source tables tables' nodes o number view titles end is put origin =
    link_label source tables' o.opener.note o.state.is_image number view titles (item_at nodes o.opener.note).start
    (start_of o.opener) end (sym (ap (λ (a : TreeNode ℕ). start_of a) is)) put.found origin

-- a link that ends between characters, at the `]` or later
pub link_over_opener : (source : List ℕ) (tables tables' : Tables) (nodes : List (Node Item)) (first closer : ℕ)
    (o : Split ℕ) (number : LinkIndex) (view : LinkView) (end byte : ℕ) → OpenerAt source tables nodes first closer o
    → PutsLink source (item_at nodes o.opener.note).start end tables tables' number view → IsCharBoundary source end
    → (item_at nodes closer).end ≤ end → end ≤ byte
    → CanPutOver source tables tables' nodes o.opener.note (link_from nodes (opener_of o) number end) byte
link_over_opener source tables tables' nodes first closer o number view end byte at put between after le =
    let here = (opens_numbered at.ready).placed.lies in
    let last = (opens_numbered at.ready_closer).placed.lies in
    let before = opener_before at in
    let ordered = here.ordered in
    let ordered' = last.ordered in
    record {
      puts = can_put_link source tables tables' o.state.is_image number view (item_at nodes o.opener.note).start end put
          (omega arith) here.start between;
      starts = refl;
      ends = le;
    }

-- it can be put in place of an opener, up to a byte offset, once its entry is in its table
pub record MayLink (source : List ℕ) (tables tables' : Tables) (nodes : List (Node Item)) (closer : ℕ) (o : Split ℕ)
    (opener : Opener) (number : LinkIndex) (view : LinkView) (titles : List Origin) (end byte : ℕ) (item : Item)
    : Type 0 where
  pub put : PutsLink source (item_at nodes o.opener.note).start end tables tables' number view
  pub origin : titles_at tables'.links number.0 ≡ titles
  pub is : item ≡ link_from nodes opener number end
  pub close : CanClose source tables nodes opener.node closer (inside_numbers o) byte
  pub over : CanPutOver source tables tables' nodes opener.node item byte

pub may_link : {source : List ℕ} {nodes : List (Node Item)} {first closer : ℕ} {left : List
    (Entry ℕ)} {w : BracketContext}
    {c : Closing ℕ} {o : Split ℕ} {opener : Opener} {view : LinkView} {end byte : ℕ} (held held' : Allocated)
    (parts : LinkParts) (number : LinkIndex) (begin : Item) (b : ItemBody)
    → ClosesAt source (tables_of held) nodes first closer left w c
    (a_link o view (titles_for parts.0 (origin_of parts.2)) end byte)
    → opener ≡ opener_of o → IsTitleFrom source (start_of o.opener) end view.kind (origin_of parts.2) view.title
    → held' ≡ with_link held parts → number.0 ≡ length held.links → link_view parts ≡ view
    → begin ≡ item_at nodes opener.node → b ≡ (if opener.is_image then body.Image number else body.Link number)
    → MayLink source (tables_of held) (tables_of held') nodes closer o opener number view
    (titles_for parts.0 (origin_of parts.2)) end byte
    (item_over begin.start end b)
may_link {source} {nodes} {first} {closer} {left} {w} {c} {o} {opener} {view} {end} {byte} held held' parts number begin
    b closes is title put last same begins body_is =
    let tables = tables_of held in
    let at = opener_at closes.stands closes.splits in
    let start = (item_at nodes o.opener.note).start in
    let begins_there : start_of o.opener ≡ start = ap (λ (a : TreeNode ℕ). start_of a) at.around.node_is in
    let there = link_put source start end held held' parts number view put last (made_link source start end
    (link_origins parts) view closes.ends.4
    (subst (λ (start : ℕ). IsTitleFrom source start end view.kind (origin_of parts.2) view.title) begins_there title))
    same in
    let after : (item_at nodes closer).end ≤ end = subst (λ (a : TreeNode ℕ). end_of a ≤ end) closes.node_is
    closes.ends.2 in
    rw (begins, body_is, is) (record {
      put = there;
      origin = rw put (titles_pushed held.links parts number.0 last);
      is = refl;
      close = can_close closes at closes.ends.0;
      over = link_over_opener source tables (tables_of held') nodes first closer o number view end byte at there
          closes.ends.1 after closes.ends.3;
    })

-- so it is in the left list
pub link_closed : {source : List ℕ} {tables tables' : Tables} {old new : List (Node Item)} {first closer : ℕ}
    {rest : Continuation} {left : List (Entry ℕ)} {w : BracketContext} {c : Closing ℕ} {o : Split ℕ} {opener : Opener}
    {number : LinkIndex} {view : LinkView} {titles : List Origin} {end byte : ℕ} {item : Item}
    → ClosesAt source tables old first closer left w c (a_link o view titles end byte) → opener ≡ opener_of o
    → MayLink source tables tables' old closer o opener number view titles end byte item
    → PutsOver source opener.node closer (inside_numbers o) (over_inside source tables' item) byte (opener.node ∷ [])
    rest old new tables tables'
    → PutsClosed source first closer rest left w c (a_link o view titles end byte) old new tables tables'
link_closed {source} {tables} {tables'} {old} {new} {first} {closer} {rest} {left} {w} {c} {o} {opener} {number} {view}
    {titles} {end} {byte} {item} closes is r over =
    let at = opener_at closes.stands closes.splits in
    puts_closed (node (linked o view titles end) (inside o) nil) closes at (rw (r.is, is) at over)
    (link_stands source tables old first (Some o.opener.note) o.before at.stands o.state.is_image)
    (record { left_is = λ p e. refl; goes = λ p. refl }) (ap (λ (a : Plain). node a (without_numbers (inside o)) nil)
    (linked_node source tables tables' old o number view titles end at.around.node_is r.put r.origin))
    (refl, refl, quiet_inside left o closes.splits closes.stands.quiet, tt) (λ a i. refl)

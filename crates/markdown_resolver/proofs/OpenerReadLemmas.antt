-- A bracket that opens was read in place, or memory was refused: what is true of the chain then.
use Rattle.markdown_base.specs.declared.item.ItemBody.TheVariants as body
use Rattle.std.proofs.Common.{◌≡◌, ℕ, Bool, true, false, ◌&&◌, List, ◌∷◌, Option, Some, None, refl}
use Rattle.std.specs.Prelude.{Result, Ok, Err, IfErr, IfOk, OnOk, if◌then◌else◌}
use Rattle.std.specs.Option.{option_map_or}
use Rattle.markdown_base.specs.Arena.{Arena, sibling_of}
use Rattle.markdown_base.specs.BlockTree.{item_at}
use Rattle.markdown_base.specs.Questions.{Question, Answer}
use Rattle.markdown_base.specs.declared.item.Item.{Item}
use Rattle.markdown_base.specs.declared.item.ItemBody.{ItemBody}
use Rattle.markdown_brackets.specs.LeftList.{Entry}
use Rattle.markdown_brackets.specs.Openers as waiting
use Rattle.markdown_brackets.specs.Openers.{Waiting}
use Rattle.markdown_brackets.specs.Reference.{is_opener, could_be_reference, is_closing_bracket}
use Rattle.markdown_brackets.specs.declared.chain_openers.ChainOpeners.{ChainOpeners}
use Rattle.markdown_document.specs.ResolverStates.{above_cursor}
use Rattle.markdown_document.specs.Tables.{Tables, tables_of}
use Rattle.markdown_resolver.specs.BracketKinds.{kind_of}
use Rattle.markdown_resolver.specs.ChainPlace.{CanReadOn}
use Rattle.markdown_resolver.specs.Chains.{CanResolve}
use Rattle.markdown_resolver.specs.ReadOn.{StandsTo}
use Rattle.markdown_resolver.specs.ReadsBracket.{CanReadNode, ReadsBracket, setting_by, resolver_state_by}
use Rattle.markdown_resolver.specs.declared.continuation.Continuation.{Continuation}
use Rattle.markdown_resolver.specs.Rewritten.{Puts, literal}
use Rattle.markdown_resolver.specs.declared.bracket_kind.BracketKind.{BracketKind}
use Rattle.markdown_resolver.specs.declared.bracket_kind.BracketKind.TheVariants.{Opener, Closer}
use Rattle.markdown_document.specs.declared.chain_place.ChainPlace.{ChainPlace}
use Rattle.markdown_resolver.specs.declared.resolver.Resolver.{Resolver}
use Rattle.markdown_resolver.proofs.OpenerOnLemmas.{reads_on_opener, literal_at}
use Rattle.markdown_resolver.proofs.PassOneLemmas.{NoBracket, opener_body}
use Rattle.markdown_resolver.proofs.ReadsItemLemmas.{holds_put}
use Rattle.markdown_resolver.proofs.StandsToLemmas.{stands_rest}
use Rattle.markdown_defs.specs.Allocations.{Allocated}
use Rattle.markdown_resolver.proofs.UnreadLemmas.{unread_after}

-- which bracket an item is
opener_same : (a b : Bool) → ◌≡◌ {A = Option BracketKind} (Some (Opener a)) (Some (Opener b)) → a ≡ b
opener_same a b e = cc e

pub opener_kind : (is_image : Bool) (b : ItemBody) → kind_of b ≡ Some (Opener is_image) → b ≡ opener_body is_image
opener_kind is_image body.MaybeLinkOpen e = let same : false ≡ is_image = opener_same false is_image e in rw (← same)
    refl
opener_kind is_image body.MaybeImage e = let same : true ≡ is_image = opener_same true is_image e in rw (← same) refl
opener_kind is_image (body.MaybeLinkClose could_be) e = let no : ◌≡◌ {A = Option BracketKind} (Some Closer)
    (Some (Opener is_image)) = e
    in cc no
opener_kind is_image other e = let no : ◌≡◌ {A = Option BracketKind} None (Some (Opener is_image)) = e in cc no

pub closer_body : (b : ItemBody) → is_closing_bracket b ≡ true → b ≡ body.MaybeLinkClose (could_be_reference b)
closer_body (body.MaybeLinkClose could_be) e = refl
closer_body other e = cc e

pub other_kind : (b : ItemBody) → kind_of b ≡ None → NoBracket b
other_kind body.MaybeLinkOpen e = let no : ◌≡◌ {A = Option BracketKind} (Some (Opener false)) None = e in cc no
other_kind body.MaybeImage e = let no : ◌≡◌ {A = Option BracketKind} (Some (Opener true)) None = e in cc no
other_kind (body.MaybeLinkClose could_be) e = let no : ◌≡◌ {A = Option BracketKind}
    (Some Closer) None = e in cc no
other_kind other e = refl

-- what is true of an error if an allocation failed
pub if_err : {X E : Type 0} {P : Type 0} (r : Result X E) → P → IfErr r (λ fault. P)
if_err (Ok x) p = tt
if_err (Err fault) p = p

pub ready_here : {place : ChainPlace} {tree : Arena Item} {held : Allocated} {brackets wikilinks : List Waiting}
    {first ix : ℕ} {left : List (Entry ℕ)}
    → CanReadOn place tree held brackets wikilinks first ix left → CanResolve place.text.now (tables_of held) tree.nodes
    (Some ix)
ready_here can = stands_rest can.so_far

-- two facts of an error, together
pub if_err_both : {X E : Type 0} (r : Result X E) (P Q : E → Type 0) → IfErr r P → IfErr r Q
    → IfErr r (λ fault. P fault × Q fault)
if_err_both (Ok x) P Q p q = tt
if_err_both (Err fault) P Q p q = (p, q)

-- what was put in place for an opener, whatever the text and its tables are
abbrev pub IsOpened : Arena Item → Arena Item → ℕ → Continuation → Type 0
IsOpened old new ix rest = (source : List ℕ) (tables : Tables) → CanResolve source tables old.nodes (Some ix)
    → Puts source ix (literal source) None rest old.nodes new.nodes tables tables

-- a resolver has read an opener, once that waits
pub reads_opener : {C E : Type 0} (step : C → Question → Option Answer → C → Type 0) (place : ChainPlace) (ix : ℕ)
    (is_image : Bool) (tree tree' : Arena Item) (old : Resolver C) (openers : ChainOpeners) (r : Result Continuation E)
    → CanReadNode place tree old ix → kind_of (item_at tree.nodes ix).body ≡ Some (Opener is_image)
    → IfOk r (λ rest. IsOpened tree tree' ix rest) → IfOk r (λ rest. tree' ≡ record tree { nodes = tree'.nodes })
    → OnOk r (openers.brackets ≡ waiting.live_opener (record { node = ix; is_image = is_image }) ∷
    old.waiting.openers.brackets) → OnOk r (openers.wikilinks
    ≡ (if old.syntax.wikilinks && option_map_or (λ n. is_opener (item_at tree.nodes n).body)
    (sibling_of tree.nodes ix) false
    then waiting.live_opener (record { node = ix; is_image = is_image }) ∷ old.waiting.openers.wikilinks else
    old.waiting.openers.wikilinks)) → IfOk r (λ rest. ReadsBracket step place ix rest tree tree' old
    (record old { waiting = record old.waiting { openers = openers } }))
reads_opener step place ix is_image tree tree' old openers (Ok rest) can kind puts place_is brackets_are wikilinks_are =
    let ready = ready_here can.was_read in
    let put = puts place.text.now (tables_of old.lookup.tables) ready in
    record {
      goes_on = record {
        reads = λ first left was_read.
            let so_far : StandsTo old.text.now (tables_of old.lookup.tables) tree.nodes first (Some ix) left = rw
            (← can.text) was_read.so_far in
            let here = stands_rest so_far in
            reads_on_opener step (setting_by old) (above_cursor old.text.now tree) first ix rest left is_image
            (resolver_state_by tree old)
            (resolver_state_by tree' old) old.waiting.spent old.waiting.openers.brackets old.waiting.openers.wikilinks
            openers.brackets openers.wikilinks refl so_far
            was_read.openers (opener_kind is_image (item_at tree.nodes ix).body kind)
            (puts old.text.now (tables_of old.lookup.tables) here) brackets_are wikilinks_are;
        passes = put.passes;
        unread = λ h.
            let source = old.text.now in
            let tables = tables_of old.lookup.tables in
            let so_far : StandsTo source tables tree.nodes can.first (Some ix) can.left = rw (← can.text)
            can.was_read.so_far in
            let here = stands_rest so_far in
            let settled_there = literal_at source tables tree.nodes tree'.nodes can.first ix rest can.left is_image
            so_far (opener_kind is_image (item_at tree.nodes ix).body kind) (puts source tables here) in
            rw settled_there.after_is.rest_is (unread_after source tables tree.nodes ix here h);
        place_is = place_is;
      };
      holds = λ kind learned. holds_put kind learned ready put;
    }
reads_opener step place ix is_image tree tree' old openers (Err fault) can kind puts place_is brackets_are wikilinks_are
    = tt

-- An address that is found becomes a link, and the rest a Text.
use Rattle.std.proofs.Common.{ap, sym, ◌∙◌, arith, List, map, ◌++◌, Ok, ℕ}
use Rattle.markdown_out.specs.OutLaws.{RangedEvent}
use Rattle.markdown_autolinks.specs.Addresses.{first_address}
use Rattle.markdown_autolinks.specs.AutolinksNext.{item_read}
use Rattle.markdown_autolinks.specs.LinkedRuns.{RunTextView, text_of_run}
use Rattle.markdown_autolinks.specs.RunRead.{run_text_view}
use Rattle.markdown_autolinks.proofs.FoundLemmas.{first_lies}
use Rattle.markdown_autolinks.proofs.RunLemmas.{between_cut, events_linked, linked_cut, links_end, links_next}
use Rattle.markdown_autolinks.proofs.runs.push_linked.Goals as goal

pub overflow_sub-address : goal.overflow_sub-address
overflow_sub-address c =
    let k = c.addresses.invariant.linking in
    let l = first_lies c.args.searched.now c.addresses.used c.in-Some.address k.inside
    (sym c.addresses.invariant.found ∙ c.in-Some.is) in
    l.after

pub take_part-requires-clause-cut : goal.take_part-requires-clause-cut
take_part-requires-clause-cut c =
    let k = c.addresses.invariant.linking in
    let l = first_lies c.args.searched.now c.addresses.used c.in-Some.address k.inside
    (sym c.addresses.invariant.found ∙ c.in-Some.is) in
    between_cut k l

pub overflow_sub-address-in-Some : goal.overflow_sub-address-in-Some
overflow_sub-address-in-Some c =
    let k = c.addresses.invariant.linking in
    let l = first_lies c.args.searched.now c.addresses.used c.in-Some.address k.inside
    (sym c.addresses.invariant.found ∙ c.in-Some.is) in
    omega (arith, l.name_after, l.some)

pub take_part-requires-in-Some-clause-cut : goal.take_part-requires-in-Some-clause-cut
take_part-requires-in-Some-clause-cut c =
    let k = c.addresses.invariant.linking in
    let l = first_lies c.args.searched.now c.addresses.used c.in-Some.address k.inside
    (sym c.addresses.invariant.found ∙ c.in-Some.is) in
    rw c.in_ok-between.ensures.left (linked_cut k l c.utf8.searched)

pub destination_of-requires-clause-name : goal.destination_of-requires-clause-name
destination_of-requires-clause-name c =
    let k = c.addresses.invariant.linking in
    let l = first_lies c.args.searched.now c.addresses.used c.in-Some.address k.inside
    (sym c.addresses.invariant.found ∙ c.in-Some.is) in
    l.name

pub destination_of-requires-clause-end : goal.destination_of-requires-clause-end
destination_of-requires-clause-end c =
    let k = c.addresses.invariant.linking in
    let l = first_lies c.args.searched.now c.addresses.used c.in-Some.address k.inside
    (sym c.addresses.invariant.found ∙ c.in-Some.is) in
    l.end c.utf8.searched

pub destination_of-requires-clause-order : goal.destination_of-requires-clause-order
destination_of-requires-clause-order c =
    let k = c.addresses.invariant.linking in
    let l = first_lies c.args.searched.now c.addresses.used c.in-Some.address k.inside
    (sym c.addresses.invariant.found ∙ c.in-Some.is) in
    omega (arith, l.some)

pub addresses-smaller : goal.addresses-smaller
addresses-smaller c =
    let k = c.addresses.invariant.linking in
    let l = first_lies c.args.searched.now c.addresses.used c.in-Some.address k.inside
    (sym c.addresses.invariant.found ∙ c.in-Some.is) in
    omega (arith, l.after, l.name_after, l.some, l.inside)

pub addresses-preserved : goal.addresses-preserved
addresses-preserved c =
    let k = c.addresses.invariant.linking in
    let found = sym c.addresses.invariant.found ∙ c.in-Some.is in
    let l = first_lies c.args.searched.now c.addresses.used c.in-Some.address k.inside found in
    record {
      linking = links_next k l found
          (ap (map run_text_view) c.as_slice.ensures.value ∙ c.in_ok-between.ensures.part)
          c.in_ok-between.ensures.left
          (ap (map run_text_view) c.as_slice-in-Some.ensures.value ∙ c.in_ok-linked.ensures.part)
          c.in_ok-linked.ensures.left c.in_ok-linked.ensures.fit c.in_ok-push_text.ensures c.link_type_of.ensures
          c.in_ok-destination.ensures c.in_ok-push_link.ensures;
      found = c.first_address-found.ensures
          ∙ ap (λ (bytes : List ℕ). first_address bytes c.in-Some.address.end) c.as_bytes.ensures.value;
    }

pub returns : goal.returns
returns c =
    let k = c.addresses.invariant.linking in
    let none = sym c.addresses.invariant.found ∙ c.in_default.is in
    c.in_ok-push_text-2.ensures
    ∙ ap (λ (run : List RunTextView). map item_read c.addresses.made.items ++ map (λ e. Ok e) (text_of_run run))
    (ap (map run_text_view) c.as_slice-2.ensures.value ∙ c.in_ok-last.ensures.part)
    ∙ links_end k none
    ∙ ap (λ (events : List RangedEvent). map item_read c.args.made.now.items ++ map (λ e. Ok e) events)
    (events_linked c.args.searched.now (map run_text_view c.args.texts.items) c.args.first
    c.requires.searched c.requires.first)

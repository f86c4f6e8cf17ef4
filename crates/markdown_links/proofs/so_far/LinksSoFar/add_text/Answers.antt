-- The shared text grows where one is open, and otherwise nothing does.
use Rattle.std.proofs.Common.{◌≡◌, ◌<◌, arith, length, refl}
use Rattle.std.proofs.lemmas.Bool.Decides.{nat_tests}
use Rattle.std.proofs.lemmas.List.{nil_from_length}
use Rattle.std.proofs.lemmas.Result.{err_from_is_err_and}
use Rattle.std.proofs.lemmas.Str.{IsUtf8-string_bytes}
use Rattle.markdown_links.proofs.FoundLinksLemmas.{nothing_open_all, open_has, text_all, text_kept}
use Rattle.markdown_links.proofs.so_far.LinksSoFar.add_text.Goals as goal

pub returns-in_err-push_str-clause-refused : goal.returns-in_err-push_str-clause-refused
returns-in_err-push_str-clause-refused c =
    let p = err_from_is_err_and c.from_residual.result c.from_residual.ensures.1 in
    let some : 0 < length c.args.self.now.open.items =
    grind (arith, nat_tests, c.is_empty.ensures, c.if-not-is_empty.true, c.args.self.now.open.ok.0) in
    rw (p.1, p.2) (refl, open_has c.args.self.now c.requires some)

pub returns-in_ok-push_str-clause-kept : goal.returns-in_ok-push_str-clause-kept
returns-in_ok-push_str-clause-kept c =
    text_kept c.args.self.now _ c.args.text.now c.requires c.in_ok-push_str.ensures.bytes refl refl
    (IsUtf8-string_bytes c.args.self.now.texts) c.utf8.text

pub returns-in_ok-push_str-clause-ok : goal.returns-in_ok-push_str-clause-ok
returns-in_ok-push_str-clause-ok c =
    λ e other is later. text_all c.args.self.now _ c.args.text.now c.requires c.in_ok-push_str.ensures.bytes e other.0
    other.1 is later

pub returns-else-not-is_empty-clause-ok : goal.returns-else-not-is_empty-clause-ok
returns-else-not-is_empty-clause-ok c =
    let none : length c.args.self.now.open.items ≡ 0 =
    grind (arith, nat_tests, c.is_empty.ensures, c.if-not-is_empty.false, c.args.self.now.open.ok.0) in
    λ e other is later. nothing_open_all c.args.self.now c.requires
    (nil_from_length c.args.self.now.open.items none) e other.0 later

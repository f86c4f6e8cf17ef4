-- The cases of an address at a place.
use Rattle.std.proofs.Common.{◌≡◌, ◌≢◌, ◌+◌, ℕ, true, false, List, refl, arith, None}
use Rattle.std.specs.Prelude.{◌==◌}
use Rattle.std.proofs.lemmas.Bool.Decides.{nat_tests}
use Rattle.markdown_autolinks.specs.AddressBytes.{byte_at, is_host}
use Rattle.markdown_autolinks.specs.Addresses.{address_after, address_found_at, is_after_letter}
use Rattle.markdown_autolinks.specs.Addresses.{address_scheme_length, web_address}
use Rattle.markdown_autolinks.specs.declared.address.AddressForm.TheVariants as forms

is_more : (x y : ℕ) → x ≡ y → x ≢ 0 → (y == 0) ≡ false
is_more x y same some = grind (arith, nat_tests)

-- no scheme is there
pub web_without_scheme : (text : List ℕ) (used at scheme : ℕ) → scheme ≡ address_scheme_length text at → scheme ≡ 0
    → web_address text used at ≡ None
web_without_scheme text used at scheme is none =
    let zero : (address_scheme_length text at == 0) ≡ true = grind (arith, nat_tests) in rw zero refl

-- a letter is before it
pub web_after_letter : (text : List ℕ) (used at scheme : ℕ) → scheme ≡ address_scheme_length text at → scheme ≢ 0
    → is_after_letter text used at ≡ true → web_address text used at ≡ None
web_after_letter text used at scheme is some letter =
    let more = is_more scheme (address_scheme_length text at) is some in rw (more, letter) refl

-- no host follows
pub web_without_host : (text : List ℕ) (used at scheme : ℕ) → scheme ≡ address_scheme_length text at → scheme ≢ 0
    → is_after_letter text used at ≡ false → is_host text (at + scheme) ≡ false → web_address text used at ≡ None
web_without_host text used at scheme is some letter host =
    let more = is_more scheme (address_scheme_length text at) is some in
    let none = rw is at host in rw (more, letter, none) refl

-- a host follows
pub web_with_host : (text : List ℕ) (used at scheme : ℕ) → scheme ≡ address_scheme_length text at → scheme ≢ 0
    → is_after_letter text used at ≡ false → is_host text (at + scheme) ≡ true
    → web_address text used at ≡ address_after text at scheme forms.Web
web_with_host text used at scheme is some letter host =
    let more = is_more scheme (address_scheme_length text at) is some in
    let there = rw is at host in rw (is, more, letter, there) refl

-- where neither `@` nor `w` stands a web address may begin
pub web_at : (text : List ℕ) (used at byte : ℕ) → byte ≡ byte_at text at → byte ≢ 64 → byte ≢ 119
    → address_found_at text used at ≡ web_address text used at
web_at text used at byte is first second =
    let one : (byte_at text at == 64) ≡ false = grind (arith, nat_tests) in
    let two : (byte_at text at == 119) ≡ false = grind (arith, nat_tests) in rw (one, two) refl

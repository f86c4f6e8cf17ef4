-- Bare addresses in a text: web addresses, addresses that begin with `www.`, and addresses of mail.
use Rattle.std.specs.Prelude.{ℕ, zero, suc, ◌+◌, ◌-◌, ◌==◌, Bool, true, not, ◌&&◌, ◌||◌, nat_eq, nat_le, nat_lt}
use Rattle.std.specs.Prelude.{List, [], ◌∷◌, ◌++◌, length, drop, codes, slice_range, Option, Some, None, if◌then◌else◌}
use Rattle.std.specs.Char.{is_ascii_alphabetic, is_ascii_alphanumeric, to_ascii_lowercase}
use Rattle.std.specs.List.{list_any, starts_with}
use Rattle.markdown_base.specs.Bytes.{ampersand, close_parenthesis, full_stop, open_parenthesis, semicolon}
use Rattle.markdown_autolinks.specs.AddressBytes.{byte_at, count_of, first_failing, goes_on_at, is_domain_at, is_host}
use Rattle.markdown_autolinks.specs.AddressBytes.{is_mailbox_byte, is_white_before, passing_from}
use Rattle.markdown_autolinks.specs.declared.address.Address.{Address}
use Rattle.markdown_autolinks.specs.declared.address.AddressForm.{AddressForm}
use Rattle.markdown_autolinks.specs.declared.address.AddressForm.TheVariants as forms

-- punctuation that an address does not end with
abbrev pub is_end_mark : ℕ → Bool
is_end_mark b = list_any (λ mark. mark == b) (codes "?!.,:*_~'\"")

-- how many bytes are left out where an address from `start` to `end` ends with a `;`: those of `&`, letters and `;`, or
-- the `;` alone
abbrev pub entity_left_out : List ℕ → ℕ → ℕ → ℕ
entity_left_out text start end =
    let letters = passing_from (λ at. is_ascii_alphabetic (byte_at text at)) (end - 1) (end - 1 - start) in
    if nat_lt letters (end - 1) && nat_lt start letters && (byte_at text (letters - 1) == ampersand)
    then end - (letters - 1) else 1

-- an address from `start` to `end` has more `)` than `(`
abbrev pub closes_more : List ℕ → ℕ → ℕ → Bool
closes_more text start end =
    nat_lt (count_of text open_parenthesis start (end - start)) (count_of text close_parenthesis start (end - start))

-- how many bytes are left out together at the end of an address from `start` to `end`: a mark; a `)` where there are
-- more of them than of `(`; `&`, letters and `;`; another `;`
abbrev pub left_out : List ℕ → ℕ → ℕ → ℕ
left_out text start end =
    if nat_le end start then 0
    else if is_end_mark (byte_at text (end - 1)) then 1
    else if (byte_at text (end - 1) == close_parenthesis) && closes_more text start end then 1
    else if byte_at text (end - 1) == semicolon then entity_left_out text start end
    else 0

-- where an address from `start` on ends that was read up to `end`: as long as something is to be left out, and at most
-- `n` times, it is
abbrev pub trimmed : List ℕ → ℕ → ℕ → ℕ → ℕ
trimmed text start zero end = end
trimmed text start (suc n) end =
    if left_out text start end == 0 then end else trimmed text start n (end - left_out text start end)

-- where an address ends that begins at a place: before the first white space or `<`, without what is left out there
abbrev pub address_end : List ℕ → ℕ → ℕ
address_end text at =
    let end = first_failing (goes_on_at text) at (length text - at) in trimmed text at (end - at) end

-- these lower-case letters and marks stand at a place, in any case
abbrev pub begins_in_any_case : List ℕ → ℕ → List ℕ → Bool
begins_in_any_case text at [] = true
begins_in_any_case text at (b ∷ word) =
    (to_ascii_lowercase (byte_at text at) == b) && begins_in_any_case text (at + 1) word

-- the number of bytes of the scheme at a place; 0 where there is none
abbrev pub address_scheme_length : List ℕ → ℕ → ℕ
address_scheme_length text at =
    if begins_in_any_case text at (codes "http://") then 7
    else if begins_in_any_case text at (codes "https://") then 8
    else if begins_in_any_case text at (codes "ftp://") then 6
    else 0

-- an ASCII letter that is not used up stands directly before a place
abbrev pub is_after_letter : List ℕ → ℕ → ℕ → Bool
is_after_letter text used at = nat_lt used at && is_ascii_alphabetic (byte_at text (at - 1))

-- the address that begins at a place with so many bytes, and then a host; none where nothing is left after them
abbrev pub address_after : List ℕ → ℕ → ℕ → AddressForm → Option Address
address_after text at before form =
    if nat_lt (at + before) (address_end text at)
    then Some (record { start = at; name = at; end = address_end text at; form = form })
    else None

-- the web address that begins at a place: a scheme, not directly after a letter; a host; a tail
abbrev pub web_address : List ℕ → ℕ → ℕ → Option Address
web_address text used at =
    if address_scheme_length text at == 0 then None
    else if is_after_letter text used at then None
    else if is_host text (at + address_scheme_length text at)
    then address_after text at (address_scheme_length text at) forms.Web
    else None

-- an address with `www.` may begin at a place: at the beginning, or after white space, `*`, `_`, `~` or `(`
abbrev pub may_begin_www : List ℕ → ℕ → Bool
may_begin_www text at =
    (at == 0) || is_white_before text at || list_any (λ mark. mark == byte_at text (at - 1)) (codes "*_~(")

-- the address with `www.` that begins at a place: with what follows it is a host, and what follows is a host; a tail
abbrev pub www_address : List ℕ → ℕ → Option Address
www_address text at =
    if starts_with nat_eq (drop at text) (codes "www.") && may_begin_www text at
    && is_host text (at + 4) && is_host text at
    then address_after text at 4 forms.Www
    else None

-- where the name of the mail address begins whose `@` is at a place
abbrev pub mailbox_begin : List ℕ → ℕ → ℕ → ℕ
mailbox_begin text used at = passing_from (λ i. is_mailbox_byte (byte_at text i)) at (at - used)

-- where what follows the `@` at a place ends
abbrev pub domain_end : List ℕ → ℕ → ℕ
domain_end text at = first_failing (is_domain_at text) (at + 1) (length text - (at + 1))

-- what follows an `@` up to `end` is a domain: a letter or digit first, a letter last, one period at least, and no `@`
-- after it
abbrev pub is_domain : List ℕ → ℕ → ℕ → Bool
is_domain text at end =
    is_ascii_alphanumeric (byte_at text (at + 1)) && nat_lt 0 (count_of text full_stop (at + 1) (end - (at + 1)))
    && is_ascii_alphabetic (byte_at text (end - 1)) && not (byte_at text end == 64)

-- where the link of a mail address begins whose name begins at a place: `mailto:` directly before it is a part of it
abbrev pub mail_begin : List ℕ → ℕ → ℕ → ℕ
mail_begin text used name =
    if nat_le 7 (name - used) && starts_with nat_eq (drop (name - 7) text) (codes "mailto:") then name - 7 else name

-- the mail address around the `@` at a place
abbrev pub mail_address : List ℕ → ℕ → ℕ → Option Address
mail_address text used at =
    if nat_lt (mailbox_begin text used at) at && is_domain text at (domain_end text at)
    then Some (record {
      start = mail_begin text used (mailbox_begin text used at);
      name = mailbox_begin text used at;
      end = domain_end text at;
      form = forms.Mail;
    })
    else None

-- the address that is found at a place, where all before `used` is used up: around an `@` there, or one that begins
-- there
abbrev pub address_found_at : List ℕ → ℕ → ℕ → Option Address
address_found_at text used at =
    if byte_at text at == 64 then mail_address text used at
    else if byte_at text at == 119 then www_address text at
    else web_address text used at

-- the first of two, or the second where there is no first
abbrev pub or_later : Option Address → Option Address → Option Address
or_later None later = later
or_later (Some a) later = Some a

-- the first address that is found at one of the `n` places from `at` on
abbrev pub first_address_from : List ℕ → ℕ → ℕ → ℕ → Option Address
first_address_from text used at zero = None
first_address_from text used at (suc n) =
    or_later (address_found_at text used at) (first_address_from text used (at + 1) n)

-- the first address after what is used up
abbrev pub first_address : List ℕ → ℕ → Option Address
first_address text used = first_address_from text used used (length text - used)

-- an address, and those after its end; none where there is none
abbrev pub and_later : Option Address → (ℕ → List Address) → List Address
and_later None later = []
and_later (Some a) later = a ∷ later a.end

-- the addresses after what is used up, at most `n`: the first, which is then used up, and those after it
abbrev pub addresses_after : List ℕ → ℕ → ℕ → List Address
addresses_after text used zero = []
addresses_after text used (suc n) = and_later (first_address text used) (λ end. addresses_after text end n)

-- the addresses of a text, from left to right
abbrev pub addresses_in : List ℕ → List Address
addresses_in text = addresses_after text 0 (length text)

-- where the link of an address leads
abbrev pub address_destination : List ℕ → Address → List ℕ
address_destination text a = before_name a.form ++ slice_range text a.name a.end
  where
    before_name : AddressForm → List ℕ
    before_name forms.Www = codes "http://"
    before_name other = []

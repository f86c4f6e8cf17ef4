-- The bytes of bare addresses: white space, hosts, and where they end. Places are byte offsets in a text.
use Rattle.std.specs.Prelude.{ℕ, zero, suc, ◌+◌, ◌-◌, ◌==◌, Bool, true, false, not, ◌&&◌, ◌||◌, nat_le, nat_lt, List}
use Rattle.std.specs.Prelude.{length, get_or, if◌then◌else◌}
use Rattle.std.specs.Char.{is_ascii_alphanumeric}
use Rattle.markdown_base.specs.Bytes.{full_stop, hyphen, less_than, underscore, plus_sign}

-- the byte at a place; 0 after the text
abbrev pub byte_at : List ℕ → ℕ → ℕ
byte_at text at = get_or text at 0

-- a byte is white space: a tab, the end of a line, or a space
abbrev pub is_white_byte : ℕ → Bool
is_white_byte a = (nat_le 9 a && nat_le a 13) || (a == 32)

-- two bytes are Unicode white space: U+0085 or U+00A0
abbrev pub are_white_pair : ℕ → ℕ → Bool
are_white_pair a b = (a == 0xC2) && ((b == 0x85) || (b == 0xA0))

-- three bytes are Unicode white space: U+1680, U+2000 to U+200A, U+2028, U+2029, U+202F, U+205F or U+3000
abbrev pub are_white_triple : ℕ → ℕ → ℕ → Bool
are_white_triple a b c =
    ((a == 0xE1) && (b == 0x9A) && (c == 0x80))
    || ((a == 0xE2) && (b == 0x80)
    && ((nat_le 0x80 c && nat_le c 0x8A) || (c == 0xA8) || (c == 0xA9) || (c == 0xAF)))
    || ((a == 0xE2) && (b == 0x81) && (c == 0x9F))
    || ((a == 0xE3) && (b == 0x80) && (c == 0x80))

-- white space begins at a place
abbrev pub is_white_at : List ℕ → ℕ → Bool
is_white_at text at =
    is_white_byte (byte_at text at)
    || are_white_pair (byte_at text at) (byte_at text (at + 1))
    || are_white_triple (byte_at text at) (byte_at text (at + 1)) (byte_at text (at + 2))

-- white space ends at a place
abbrev pub is_white_before : List ℕ → ℕ → Bool
is_white_before text at =
    is_white_byte (byte_at text (at - 1))
    || are_white_pair (byte_at text (at - 2)) (byte_at text (at - 1))
    || are_white_triple (byte_at text (at - 3)) (byte_at text (at - 2)) (byte_at text (at - 1))

-- the first of the `n` places from `at` on that does not pass, or the place after them
abbrev pub first_failing : (ℕ → Bool) → ℕ → ℕ → ℕ
first_failing passes at zero = at
first_failing passes at (suc n) = if passes at then first_failing passes (at + 1) n else at

-- the first of the `n` places before `at` from which on all pass
abbrev pub passing_from : (ℕ → Bool) → ℕ → ℕ → ℕ
passing_from passes at zero = at
passing_from passes at (suc n) = if passes (at - 1) then passing_from passes (at - 1) n else at

-- the number of the `n` bytes from `at` on that are this one
abbrev pub count_of : List ℕ → ℕ → ℕ → ℕ → ℕ
count_of text byte at zero = 0
count_of text byte at (suc n) = (if byte_at text (at + n) == byte then 1 else 0) + count_of text byte at n

-- a letter, a digit, or a part of a character beyond ASCII
abbrev pub is_word_byte : ℕ → Bool
is_word_byte b = is_ascii_alphanumeric b || nat_le 128 b

-- what a host may begin with stands at a place
abbrev pub begins_host : List ℕ → ℕ → Bool
begins_host text at = is_word_byte (byte_at text at) && not (is_white_at text at)

-- a host may have the byte at a place
abbrev pub is_host_at : List ℕ → ℕ → Bool
is_host_at text at =
    (is_word_byte (byte_at text at) || (byte_at text at == hyphen) || (byte_at text at == underscore)
    || (byte_at text at == full_stop)) && not (is_white_at text at)

-- where what may be a host ends
abbrev pub host_end : List ℕ → ℕ → ℕ
host_end text at = first_failing (is_host_at text) at (length text - at)

-- what holds with one fewer of a number; nothing does where it is 0
abbrev pub with_fewer : ℕ → (ℕ → Bool) → Bool
with_fewer zero holds = false
with_fewer (suc fewer) holds = holds fewer

-- of the `n` bytes from `at` on, one of the last labels has a `_`: the last, and `more` before it
abbrev pub has_late_underscore : List ℕ → ℕ → ℕ → ℕ → Bool
has_late_underscore text at more zero = false
has_late_underscore text at more (suc n) =
    if byte_at text (at + n) == underscore then true
    else if byte_at text (at + n) == full_stop then with_fewer more (λ fewer. has_late_underscore text at fewer n)
    else has_late_underscore text at more n

-- a host begins at a place: there is no `_` in its last two labels, unless there are more than 11
abbrev pub is_host : List ℕ → ℕ → Bool
is_host text at =
    begins_host text at
    && (nat_lt 10 (count_of text full_stop at (host_end text at - at))
    || not (has_late_underscore text at 1 (host_end text at - at)))

-- an address may go on over the byte at a place: it is no white space and no `<`
abbrev pub goes_on_at : List ℕ → ℕ → Bool
goes_on_at text at = not (is_white_at text at) && not (byte_at text at == less_than)

-- the name of a mail address may have this byte
abbrev pub is_mailbox_byte : ℕ → Bool
is_mailbox_byte b =
    is_ascii_alphanumeric b || (b == full_stop) || (b == plus_sign) || (b == hyphen) || (b == underscore)

-- what follows the `@` of a mail address may have the byte at a place: a period only before a letter or digit
abbrev pub is_domain_at : List ℕ → ℕ → Bool
is_domain_at text at =
    is_ascii_alphanumeric (byte_at text at) || (byte_at text at == hyphen) || (byte_at text at == underscore)
    || ((byte_at text at == full_stop) && is_ascii_alphanumeric (byte_at text (at + 1)))

-- Help for what no program has at a place of its text, by the words there and before it.
use Rattle.std.specs.Prelude.{ℕ, ◌+◌, ◌-◌, ◌==◌, ◌&&◌, ◌||◌, nat_le, Bool, true, false, Option, Some, None, List, length, take, drop, slice_get, codes, if◌then◌else◌}
use Rattle.std.specs.List.{prefix_len, suffix_len}
use Rattle.std.specs.Str.{bytes_eq}
use Rattle.bsan_ids.specs.Names.{is_digit, is_name}
use Rattle.ir_text.specs.Bytes.{is_blank}

-- ---- words of a text

-- the bytes of a name with which these begin, and those with which they end
abbrev pub first_word : List ℕ → List ℕ
first_word bytes = take (prefix_len is_name bytes) bytes

abbrev pub last_word : List ℕ → List ℕ
last_word bytes = drop (length bytes - suffix_len is_name bytes) bytes

-- these bytes without the blanks at their end
abbrev pub without_blanks : List ℕ → List ℕ
without_blanks bytes = take (length bytes - suffix_len is_blank bytes) bytes

abbrev pub word_at : List ℕ → ℕ → List ℕ
word_at text at = first_word (drop at text)

abbrev pub word_before : List ℕ → ℕ → List ℕ
word_before text at = last_word (without_blanks (take at text))

abbrev pub is_byte : ℕ → Option ℕ → Bool
is_byte b None = false
is_byte b (Some other) = other == b

abbrev pub is_digit_there : Option ℕ → Bool
is_digit_there None = false
is_digit_there (Some b) = is_digit b

-- the last byte before a place that is no blank
abbrev pub mark_before : List ℕ → ℕ → Option ℕ
mark_before text at = slice_get (without_blanks (take at text)) (length (without_blanks (take at text)) - 1)

-- ---- help by those

-- where an operand is of a form that no program has, by the word there and the one before it
abbrev pub operand_help : List ℕ → List ℕ → Option (List ℕ)
operand_help word before =
    if bytes_eq word (codes "null") then Some (codes "`null` is an operation and no operand; write `%n = null` in a line before, and `%n` here")
    else (if bytes_eq word (codes "inttoptr") then Some (codes "no pointer is made from an integer, since it could use no allocation; keep the pointer itself, store and load it as `ptr`, and move it by `gep`")
    else (if bytes_eq word (codes "shrcell") && (bytes_eq before (codes "retag") || bytes_eq before (codes "ptr")) then Some (codes "`shrcell` is a word of `bir 2`; begin the text with `bir 2` in place of `bir 1`")
    else (if bytes_eq before (codes "0") && is_byte 120 (slice_get word 0) then Some (codes "numbers are written in decimal digits, as 16 for 0x10")
    else (if bytes_eq before (codes "print") && bytes_eq word (codes "ptr") then Some (codes "only integers are printed; take the pointer's address: `%n = ptrtoint %p`, and then `print i64 %n`")
    else None))))

-- where a type is wanted, by the word before
abbrev pub typed_help : List ℕ → Option (List ℕ)
typed_help before =
    if bytes_eq before (codes "call") then Some (codes "after `call` stands the type of the result, or `void`: `%r = call i64 @f(ptr %p)`, `call void @f(ptr %p)`")
    else (if bytes_eq before (codes "ret") then Some (codes "after `ret` stands the type of the result, or `void`: `ret i64 %v`, `ret ptr %p`, `ret void`")
    else (if bytes_eq before (codes "print") then Some (codes "after `print` stands the type of an integer: `print i64 %v`")
    else (if bytes_eq before (codes "load") || bytes_eq before (codes "store") then Some (codes "a type stands here, `i8`, `i16`, `i32`, `i64` or `ptr`: `%v = load i64, %p`, `store i64 V, %p`")
    else None)))

-- behind the name of an operation on two integers
abbrev pub sum_help : List ℕ → Option (List ℕ)
sum_help before =
    if bytes_eq before (codes "add") || bytes_eq before (codes "sub") || bytes_eq before (codes "mul") then Some (codes "an operation on integers has the type of integers behind its name, as `%c = add i64 %a, %b`; a pointer is moved by `gep`: `%q = gep %p, N` counts N bytes")
    else (if bytes_eq before (codes "udiv") || bytes_eq before (codes "sdiv") || bytes_eq before (codes "urem") || bytes_eq before (codes "srem") then Some (codes "an operation on integers has the type of integers behind its name, as `%c = add i64 %a, %b`; a pointer is moved by `gep`: `%q = gep %p, N` counts N bytes")
    else (if bytes_eq before (codes "and") || bytes_eq before (codes "or") || bytes_eq before (codes "xor") then Some (codes "an operation on integers has the type of integers behind its name, as `%c = add i64 %a, %b`; a pointer is moved by `gep`: `%q = gep %p, N` counts N bytes")
    else (if bytes_eq before (codes "shl") || bytes_eq before (codes "lshr") || bytes_eq before (codes "ashr") then Some (codes "an operation on integers has the type of integers behind its name, as `%c = add i64 %a, %b`; a pointer is moved by `gep`: `%q = gep %p, N` counts N bytes")
    else None)))

-- where something else than a type is wanted, by the word before
abbrev pub plain_help : List ℕ → Option (List ℕ)
plain_help before =
    if bytes_eq before (codes "gep") || bytes_eq before (codes "free") || bytes_eq before (codes "ptrtoint") || bytes_eq before (codes "memcpy") then Some (codes "a register with a pointer stands here: `%q = gep %p, 8`, `free %p`, `%n = ptrtoint %p`, `memcpy %d, %s, 8`")
    else (if bytes_eq before (codes "retag") then Some (codes "a kind of borrow stands here: `mut`, `cell`, `shr`, `box`, or in a text of `bir 2` `shrcell`; so `%q = retag mut %p, 8`")
    else (if bytes_eq before (codes "icmp") then Some (codes "after `icmp` stand a condition and a type: `%c = icmp eq i64 %a, %b`")
    else (if bytes_eq before (codes "br") || bytes_eq before (codes "condbr") then Some (codes "a block's label stands here: `br again`, `br again(i64 %i)`, and behind the condition of a `condbr` `condbr %c, yes, no`")
    else (if bytes_eq before (codes "spawn") then Some (codes "a function's name stands here: `%h = spawn @f(ptr %p)`")
    else None))))

-- where the type `ptr` stands before a pointer that is loaded from or stored through
abbrev pub bare_help : List ℕ → Option ℕ → Option (List ℕ)
bare_help word mark = if bytes_eq word (codes "ptr") && is_byte 44 mark then Some (codes "a register with a pointer stands here without a type: `load i64, %p`, `store i64 V, %p`") else None

-- at the text's end, or anywhere
abbrev pub other_help : List ℕ → ℕ → List ℕ
other_help text at = if nat_le (length text) at then codes "the text ends before the program does; each function ends with `}`, and each block with `br`, `condbr`, `ret` or `unreachable`" else codes "no program goes on like this; the token here, or the one before it, is of the wrong kind or missing"

-- the first of two that is there
abbrev pub first_of : Option (List ℕ) → Option (List ℕ) → Option (List ℕ)
first_of None second = second
first_of (Some first) second = Some first

abbrev pub or_other : Option (List ℕ) → List ℕ → List ℕ
or_other None other = other
or_other (Some help) other = help

-- by the words alone
abbrev pub worded_help : List ℕ → List ℕ → Option ℕ → Option (List ℕ)
worded_help word before mark =
    first_of (operand_help word before) (first_of (bare_help word mark)
    (first_of (typed_help before) (first_of (sum_help before) (plain_help before))))

-- for the token at a place with which no program goes on, or for the text's end
abbrev pub unexpected_help : List ℕ → ℕ → List ℕ
unexpected_help text at = or_other (worded_help (word_at text at) (word_before text at) (mark_before text at)) (other_help text at)

-- for a byte that begins no token
abbrev pub byte_help : List ℕ → ℕ → List ℕ
byte_help text at =
    if is_byte 45 (slice_get text at) && is_digit_there (slice_get text (at + 1)) then codes "a number has no sign; write its two's complement, which is 2^64 - N for -N as an i64: 18446744073709551608 for -8, 4294967288 as an i32, 65528 as an i16, 248 as an i8"
    else (if is_byte 47 (slice_get text at) || is_byte 35 (slice_get text at) then codes "a comment begins with `;`"
    else codes "no token begins with this byte; only a comment may hold it")

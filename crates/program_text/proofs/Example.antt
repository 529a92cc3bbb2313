-- Document 01's example as a text, and texts that are bad input.
use Prim.Native.Nat.{ℕ}
use mathlib.Core.Path.{◌≡◌, refl}
use mathlib.Core.List.{List, [], ◌∷◌, ◌++◌, map}
use lib.ListN.{replicate}
use Rattle.program_text.specs.Text.{decimal, text_of}
use Rattle.program_text.specs.Reading.{asked, bad_input, read_text}
use Rattle.program_text.specs.declared.Request.{Request}

abbrev pub request : Request
request = record { tick = 1; buckets = 3; spread_states = 2; least = 1; gap = 1000; start = 0; end = 10; quotes = 2 }

abbrev pub quotes : List ℕ
quotes = 0 ∷ 100 ∷ 101 ∷ 9 ∷ 1 ∷ 1 ∷ 100 ∷ 102 ∷ 5 ∷ 5 ∷ []

-- 1 3 2 1 1000 0 10, 0 100 101 9 1 and 1 100 102 5 5, each with its newline
abbrev pub bytes : List ℕ
bytes =
    49 ∷ 32 ∷ 51 ∷ 32 ∷ 50 ∷ 32 ∷ 49 ∷ 32 ∷ 49 ∷ 48 ∷ 48 ∷ 48 ∷ 32 ∷ 48 ∷ 32 ∷ 49 ∷ 48 ∷ 10 ∷
    48 ∷ 32 ∷ 49 ∷ 48 ∷ 48 ∷ 32 ∷ 49 ∷ 48 ∷ 49 ∷ 32 ∷ 57 ∷ 32 ∷ 49 ∷ 10 ∷
    49 ∷ 32 ∷ 49 ∷ 48 ∷ 48 ∷ 32 ∷ 49 ∷ 48 ∷ 50 ∷ 32 ∷ 53 ∷ 32 ∷ 53 ∷ 10 ∷ []

pub example-text : text_of request quotes ≡ bytes
unfolding decimal
example-text = refl

pub example-read : read_text bytes ≡ asked request quotes
unfolding read_text
example-read = refl

-- line 1 without its newline
abbrev pub line : List ℕ
line = 49 ∷ 32 ∷ 51 ∷ 32 ∷ 50 ∷ 32 ∷ 49 ∷ 32 ∷ 49 ∷ 48 ∷ 48 ∷ 48 ∷ 32 ∷ 48 ∷ 32 ∷ 49 ∷ 48 ∷ []

-- its end, from the fourth number on
abbrev pub line-end : List ℕ
line-end = 32 ∷ 49 ∷ 32 ∷ 49 ∷ 48 ∷ 48 ∷ 48 ∷ 32 ∷ 48 ∷ 32 ∷ 49 ∷ 48 ∷ 10 ∷ []

-- nothing; no last newline; carriage return; trailing space; empty line; plus sign; leading zero; 2^64 3 2; 1 4 7; 1 4294967296 4294967296
abbrev pub bad-texts : List (List ℕ)
bad-texts =
    [] ∷
    line ∷
    (line ++ 13 ∷ 10 ∷ []) ∷
    (line ++ 32 ∷ 10 ∷ []) ∷
    (line ++ 10 ∷ 10 ∷ []) ∷
    (43 ∷ line ++ 10 ∷ []) ∷
    (48 ∷ line ++ 10 ∷ []) ∷
    (49 ∷ 56 ∷ 52 ∷ 52 ∷ 54 ∷ 55 ∷ 52 ∷ 52 ∷ 48 ∷ 55 ∷ 51 ∷ 55 ∷ 48 ∷ 57 ∷ 53 ∷ 53 ∷ 49 ∷ 54 ∷ 49 ∷ 54 ∷ 32 ∷ 51 ∷ 32 ∷ 50 ∷ line-end) ∷
    (49 ∷ 32 ∷ 52 ∷ 32 ∷ 55 ∷ line-end) ∷
    (49 ∷ 32 ∷ 52 ∷ 50 ∷ 57 ∷ 52 ∷ 57 ∷ 54 ∷ 55 ∷ 50 ∷ 57 ∷ 54 ∷ 32 ∷ 52 ∷ 50 ∷ 57 ∷ 52 ∷ 57 ∷ 54 ∷ 55 ∷ 50 ∷ 57 ∷ 54 ∷ line-end) ∷
    []

pub bad-read : map read_text bad-texts ≡ replicate 10 bad_input
unfolding read_text
bad-read = refl

-- 18446744073709551615 0 18446744073709551615: 2^64 − 1, n × s = 0 and no quotes are fine
pub large-read : read_text
    (49 ∷ 56 ∷ 52 ∷ 52 ∷ 54 ∷ 55 ∷ 52 ∷ 52 ∷ 48 ∷ 55 ∷ 51 ∷ 55 ∷ 48 ∷ 57 ∷ 53 ∷ 53 ∷ 49 ∷ 54 ∷ 49 ∷ 53 ∷ 32 ∷ 48 ∷ 32 ∷ 49 ∷ 56 ∷ 52 ∷ 52 ∷ 54 ∷ 55 ∷ 52 ∷ 52
    ∷ 48 ∷ 55 ∷ 51 ∷ 55 ∷ 48 ∷ 57 ∷ 53 ∷ 53 ∷ 49 ∷ 54 ∷ 49 ∷ 53 ∷ line-end) ≡ asked
    (record { tick = 18446744073709551615; buckets = 0; spread_states = 18446744073709551615; least = 1; gap = 1000; start = 0; end = 10; quotes = 0 }) []
unfolding read_text
large-read = refl

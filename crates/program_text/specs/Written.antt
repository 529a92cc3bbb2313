-- A word in hexadecimal, and what writing leaves: document 01, "Marked and run".
use Rattle.std.specs.Prelude.{ℕ, zero, suc, ◌+◌, ◌/◌, ◌%◌, ◌≡◌, cond, List, [], ◌∷◌, ◌++◌, ltb, length}
use Rattle.std.proofs.lemmas.List.Edits.{sets}
use Rattle.program_text.specs.declared.Out.{Out}

-- the byte of a digit from 0 to 15: 0 to 9, a to f
abbrev pub hex_digit : ℕ → ℕ
hex_digit d = cond (ltb d 10) (48 + d) (87 + d)

-- the last k hexadecimal digits
abbrev pub hex_digits : ℕ → ℕ → List ℕ
hex_digits zero w = []
hex_digits (suc k) w = hex_digits k (w / 16) ++ hex_digit (w % 16) ∷ []

-- 16 digits
unfoldable pub hex16 : ℕ → List ℕ
hex16 w = hex_digits 16 w

-- bytes stored from a place on, and the place after them
pub record Put (before : List ℕ) (at : ℕ) (bytes : List ℕ) (next : ℕ) (left : List ℕ) : Type 0 where
  pub next-is : next ≡ at + length bytes
  pub stored : left ≡ sets before at bytes

-- what an output is after bytes were written to it: it has the same lent bytes, as many as before
pub record Wrote (before : Out) (bytes : List ℕ) (after : Out) : Type 0 where
  pub put : Put before.bytes.now before.at bytes after.at after.bytes.now
  pub same : after.bytes.ghost_name ≡ before.bytes.ghost_name
  pub long : length after.bytes.now ≡ length before.bytes.now

-- The text that the evening program reads: document 01, "Marked and run".
use Rattle.std.specs.Prelude.{ℕ, zero, suc, ◌+◌, ◌*◌, ◌/◌, ◌%◌, ◌≤◌, ◌≡◌, cond, List, [], ◌∷◌, ◌++◌, ltb, length, take, drop}
use Rattle.image_words.specs.Words.{AllWords}
use Rattle.program_text.specs.declared.Request.{Request}

-- ---- a number

-- the byte of a digit from 0 to 9
abbrev pub digit : ℕ → ℕ
digit d = 48 + d

-- the bytes of n in decimal without leading zeros, if k steps suffice
abbrev pub decimal_in : ℕ → ℕ → List ℕ
decimal_in zero n = digit (n % 10) ∷ []
decimal_in (suc k) n = cond (ltb n 10) (digit n ∷ []) (decimal_in k (n / 10) ++ digit (n % 10) ∷ [])

-- n steps do
unfoldable pub decimal : ℕ → List ℕ
decimal n = decimal_in n n

-- ---- a line, and the text

abbrev pub space : ℕ
space = 32

abbrev pub newline : ℕ
newline = 10

-- numbers with single spaces between them, one newline after the last
abbrev pub line_of : List ℕ → List ℕ
line_of [] = newline ∷ []
line_of (x ∷ []) = decimal x ++ newline ∷ []
line_of (x ∷ y ∷ ys) = decimal x ++ space ∷ line_of (y ∷ ys)

-- a line a quote, five words each
abbrev pub quote_lines : ℕ → List ℕ → List ℕ
quote_lines zero ws = []
quote_lines (suc k) ws = line_of (take 5 ws) ++ quote_lines k (drop 5 ws)

-- line 1: configuration, start and end
abbrev pub first_line : Request → List ℕ
first_line r =
    r.tick ∷ r.buckets ∷ r.spread_states ∷ r.least ∷ r.gap ∷ r.start ∷ r.end ∷ []

-- the text of a request and the words of its quotes
abbrev pub text_of : Request → List ℕ → List ℕ
text_of r ws = line_of (first_line r) ++ quote_lines r.quotes ws

-- what may be asked: numbers below 2^64, n × s at most 27, at most 1,000 quotes
pub record Admissible (r : Request) (ws : List ℕ) : Type 0 where
  pub numbers : AllWords (first_line r ++ ws)
  pub states : r.buckets * r.spread_states ≤ 27
  pub few : r.quotes ≤ 1000
  pub five : length ws ≡ 5 * r.quotes

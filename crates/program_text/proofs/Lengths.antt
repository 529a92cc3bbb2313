-- How long a line and a text can be.
use Prim.Native.Nat.{ℕ, zero, suc, ◌+◌, ◌*◌, ◌≤◌, ◌<◌, ◌^◌}
use mathlib.Core.Path.{◌≡◌, refl, ◌∙◌, ap}
use mathlib.Core.List.{List, [], ◌∷◌}
use native.Mathlib.Nat.{mul-le-mul}
use native.Mathlib.Omega.{arith}
use lib.ListN.{length, length-append}
use Rattle.image_words.specs.Words.{AllWords}
use Rattle.program_text.specs.Text.{decimal, line_of, quote_lines, first_line, text_of, Admissible}
use Rattle.program_text.specs.Reading.{Reading, asked, bad_input, read_text}
use Rattle.program_text.specs.declared.Request.{Request}
use Rattle.program_text.proofs.Faithful.{read-text}
use Rattle.program_text.proofs.Decimals.{decimal-one, decimal-length, decimal-word}

-- the digits of numbers
abbrev pub all_digits : List ℕ → ℕ
all_digits [] = 0
all_digits (x ∷ xs) = length (decimal x) + all_digits xs

-- a line has a byte after each number
pub line-length : (xs : List ℕ) (x : ℕ) → length (line_of (x ∷ xs)) ≡ all_digits (x ∷ xs) + length (x ∷ xs)
line-length [] x = length-append (decimal x) (10 ∷ []) ∙ omega arith
line-length (y ∷ ys) x = length-append (decimal x) (32 ∷ line_of (y ∷ ys)) ∙ omega (arith, line-length ys y)

-- two numbers whose product is at most 27 have together at most 21 digits
pub product-digits : (n s : ℕ) → n < 2 ^ 64 → s < 2 ^ 64 → n * s ≤ 27 → length (decimal n) + length (decimal s) ≤ 21
product-digits zero s h g e = omega (arith, ap length (decimal-one 0 (omega arith)), decimal-word s g)
product-digits (suc n) zero h g e = omega (arith, ap length (decimal-one 0 (omega arith)), decimal-word (suc n) h)
product-digits (suc n) (suc s) h g e =
    let u : suc n * 1 ≤ suc n * suc s = mul-le-mul {n₁ = suc n} {m₁ = 1} {n₂ = suc n} {m₂ = suc s} (omega arith) (omega arith) in
    let v : 1 * suc s ≤ suc n * suc s = mul-le-mul {n₁ = 1} {m₁ = suc s} {n₂ = suc n} {m₂ = suc s} (omega arith) (omega arith) in
    omega (arith, decimal-length 1 (suc n) (omega arith), decimal-length 1 (suc s) (omega arith))

-- a quote's line has at most 105 bytes
pub quotes-longest : (q : ℕ) (ws : List ℕ) → AllWords ws → length ws ≡ 5 * q → length (quote_lines q ws) ≤ 105 * q
quotes-longest zero ws a h = omega arith
quotes-longest (suc q) [] w h = absurd (omega arith)
quotes-longest (suc q) (a ∷ []) w h = absurd (omega arith)
quotes-longest (suc q) (a ∷ b ∷ []) w h = absurd (omega arith)
quotes-longest (suc q) (a ∷ b ∷ c ∷ []) w h = absurd (omega arith)
quotes-longest (suc q) (a ∷ b ∷ c ∷ d ∷ []) w h = absurd (omega arith)
quotes-longest (suc q) (a ∷ b ∷ c ∷ d ∷ e ∷ ws) w h =
    omega (
      arith,
      length-append (line_of (a ∷ b ∷ c ∷ d ∷ e ∷ [])) (quote_lines q ws),
      line-length (b ∷ c ∷ d ∷ e ∷ []) a,
      quotes-longest q ws w.1.1.1.1.1 (omega arith),
      decimal-word a w.0,
      decimal-word b w.1.0,
      decimal-word c w.1.1.0,
      decimal-word d w.1.1.1.0,
      decimal-word e w.1.1.1.1.0,
    )

-- the longest text
pub text-longest : (r : Request) (ws : List ℕ) → Admissible r ws → length (text_of r ws) ≤ 105128
text-longest r ws a =
    let w = a.numbers in
    let few = a.few in
    omega (
      arith,
      length-append (line_of (first_line r)) (quote_lines r.quotes ws),
      line-length (r.buckets ∷ r.spread_states ∷ r.least ∷ r.gap ∷ r.start ∷ r.end ∷ []) r.tick,
      quotes-longest r.quotes ws w.1.1.1.1.1.1.1 a.five,
      product-digits r.buckets r.spread_states w.1.0 w.1.1.0 a.states,
      decimal-word r.tick w.0,
      decimal-word r.least w.1.1.1.0,
      decimal-word r.gap w.1.1.1.1.0,
      decimal-word r.start w.1.1.1.1.1.0,
      decimal-word r.end w.1.1.1.1.1.1.0,
    )

-- a longer one is bad input
pub too_long : (b : List ℕ) → 105128 < length b → read_text b ≡ bad_input
too_long b h = go (read_text b) refl
  where
    go : (g : Reading) → read_text b ≡ g → read_text b ≡ bad_input
    go (asked r ws) e = let t = read-text b r ws e in absurd (omega (arith, text-longest r ws t.1, ap length t.0))
    go bad_input e = e

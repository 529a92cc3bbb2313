-- Words to bytes and back, and bytes to words and back.
use mathlib.Core.Path.{◌≡◌, refl, sym, ◌∙◌, ap}
use mathlib.Core.List.{List, [], ◌∷◌, ◌++◌, map}
use Prim.Native.Nat.{ℕ, zero, suc, ◌+◌, ◌*◌, ◌/◌, ◌%◌, ◌<◌, ◌≤◌, ◌^◌}
use native.Mathlib.Nat.{pow-suc}
use native.Mathlib.Omega.{arith}
use lib.ListN.{length, take, drop, length-drop, take-append-drop}
use lib.Seq.{take_at, drop_at, drop-drop, length-take-le}
use mir.Syntax.{w64}
use mir.Facts.{of_z-to_z}
use Rattle.image_words.specs.Words.{digits, value, bytes_of, words_of, twos, untwos, AllBytes, AllWords}
use Rattle.image_words.proofs.Laws.{length_digits, value-digits}

-- ---- words to bytes and back

pub words_back : (ws : List ℕ) → AllWords ws → words_of (length ws) (bytes_of ws) ≡ ws
words_back [] a = refl
words_back (w ∷ ws) a =
    let t : take 8 (digits 8 w ++ bytes_of ws) ≡ digits 8 w = take_at (digits 8 w) (bytes_of ws) 8 (length_digits 8 w) in
    let d : drop 8 (digits 8 w ++ bytes_of ws) ≡ bytes_of ws = drop_at (digits 8 w) (bytes_of ws) 8 (length_digits 8 w) in
    λ i. (ap value t ∙ value-digits 8 w a.0) i ∷ (ap (words_of (length ws)) d ∙ words_back ws a.1) i

-- ---- bytes to words and back

pub bytes_take : (n : ℕ) (b : List ℕ) → AllBytes b → AllBytes (take n b)
bytes_take zero b a = tt
bytes_take (suc n) [] a = tt
bytes_take (suc n) (x ∷ xs) a = (a.0, bytes_take n xs a.1)

pub bytes_drop : (n : ℕ) (b : List ℕ) → AllBytes b → AllBytes (drop n b)
bytes_drop zero b a = a
bytes_drop (suc n) [] a = tt
bytes_drop (suc n) (x ∷ xs) a = bytes_drop n xs a.1

value-bound : (b : List ℕ) → AllBytes b → value b < 256 ^ length b
value-bound [] a = omega arith
value-bound (x ∷ xs) a = omega (arith, value-bound xs a.1, a.0, pow-suc 256 (length xs))

digits_value : (b : List ℕ) → AllBytes b → digits (length b) (value b) ≡ b
digits_value [] a = refl
digits_value (x ∷ xs) a =
    let m : (x + 256 * value xs) % 256 ≡ x = omega (arith, a.0) in
    let d : (x + 256 * value xs) / 256 ≡ value xs = omega (arith, a.0) in
    λ i. m i ∷ (ap (digits (length xs)) d ∙ digits_value xs a.1) i

-- each word of bytes fits
pub words-fit : (n : ℕ) (b : List ℕ) → AllBytes b → 8 * n ≤ length b → AllWords (words_of n b)
words-fit zero b a h = tt
words-fit (suc n) b a h =
    let l : length (take 8 b) ≡ 8 = length-take-le 8 b (omega arith) in (
      omega (arith, value-bound (take 8 b) (bytes_take 8 b a), ap (λ (k : ℕ). 256 ^ k) l),
      words-fit n (drop 8 b) (bytes_drop 8 b a) (omega (arith, length-drop 8 b)),
    )

empty : (b : List ℕ) → length b ≡ 0 → [] ≡ b
empty [] e = refl
empty (x ∷ xs) e = absurd (omega arith)

pub bytes_back : (n : ℕ) (b : List ℕ) → AllBytes b → length b ≡ 8 * n → bytes_of (words_of n b) ≡ b
bytes_back zero b a e = empty b (omega arith)
bytes_back (suc n) b a e =
    let l : length (take 8 b) ≡ 8 = length-take-le 8 b (omega arith) in
    let d : digits 8 (value (take 8 b)) ≡ take 8 b = ap (λ (k : ℕ). digits k (value (take 8 b))) (sym l) ∙ digits_value (take 8 b) (bytes_take 8 b a) in
    let r : bytes_of (words_of n (drop 8 b)) ≡ drop 8 b = bytes_back n (drop 8 b) (bytes_drop 8 b a) (omega (arith, length-drop 8 b)) in
    (λ i. d i ++ r i) ∙ take-append-drop 8 b

-- words of bytes in two runs
pub words-join : (m n : ℕ) (b : List ℕ) → words_of m b ++ words_of n (drop (8 * m) b) ≡ words_of (m + n) b
words-join zero n b = ap (λ (k : ℕ). words_of k b) (let s : n ≡ 0 + n = omega arith in s)
words-join (suc m) n b =
    let s : suc m + n ≡ suc (m + n) = omega arith in
    let d : drop (8 * suc m) b ≡ drop (8 * m) (drop 8 b) =
    sym (drop-drop (8 * m) 8 b ∙ ap (λ (j : ℕ). drop j b) (let t : 8 + 8 * m ≡ 8 * suc m = omega arith in t)) in
    ap (λ (r : List ℕ). value (take 8 b) ∷ (words_of m (drop 8 b) ++ words_of n r)) d
    ∙ ap (λ (r : List ℕ). value (take 8 b) ∷ r) (words-join m n (drop 8 b))
    ∙ sym (ap (λ (k : ℕ). words_of k b) s)

-- ---- two's complement both ways

pub twos_back : (ws : List ℕ) → AllWords ws → map twos (map untwos ws) ≡ ws
twos_back [] a = refl
twos_back (w ∷ ws) a = λ i. of_z-to_z {w = w64} {n = w} (record { fits = a.0 }) i ∷ twos_back ws a.1 i

pub all_append : (xs ys : List ℕ) → AllWords xs → AllWords ys → AllWords (xs ++ ys)
all_append [] ys a b = b
all_append (x ∷ xs) ys a b = (a.0, all_append xs ys a.1 b)

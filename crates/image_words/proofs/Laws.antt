-- Stores of words, byte by byte, and their reading.
use mathlib.Core.Path.{◌≡◌, refl, sym, ◌∙◌, ap}
use mathlib.Core.List.{List, [], ◌∷◌, ◌++◌, append_assoc}
use Prim.Native.Nat.{ℕ, zero, suc, ◌+◌, ◌*◌, ◌/◌, ◌%◌, ◌<◌, ◌≤◌, ◌^◌}
use native.Mathlib.Nat.{div-add-mod', div-one, div-div-eq-div-mul, pow-suc}
use native.Mathlib.Omega.{arith}
use lib.ListN.{length, get_or, take, drop, set, length-append, drop_of_length-le}
use lib.Seq.{sets, sets-eq, drop-cons, take_all, drop-drop, take-suc-set, take-suc}
use borrow.Rule.Slice.PartMut.{put_mid}
use Rattle.std.specs.Int.{w64, byte_at, bytes_low_first, to_le_bytes}
use Rattle.basics.proofs.Stores.{sets-append}
use Rattle.image_words.specs.Words.{digits, value, bytes_of, words_of, word_at}

pub length_digits : (k w : ℕ) → length (digits k w) ≡ k
length_digits zero w = refl
length_digits (suc k) w = ap suc (length_digits k (w / 256))

pub value-digits : (k w : ℕ) → w < 256 ^ k → value (digits k w) ≡ w
value-digits zero w h = omega arith
value-digits (suc k) w h = omega (arith, value-digits k (w / 256) small, div-add-mod' w 256)
  where
    small : w / 256 < 256 ^ k
    small = omega (arith, div-add-mod' w 256)

pub length-bytes : (ws : List ℕ) → length (bytes_of ws) ≡ 8 * length ws
length-bytes [] = refl
length-bytes (w ∷ ws) = length-append (digits 8 w) (bytes_of ws) ∙ omega (arith, length_digits 8 w, length-bytes ws)

-- ---- stores one after another

-- the library's bytes of a word, the least first
low-first : (i k w : ℕ) → bytes_low_first i k w ≡ digits k (w / 256 ^ i)
low-first i zero w = refl
low-first i (suc k) w =
    let r : w / 256 ^ suc i ≡ w / 256 ^ i / 256 = ap (λ (n : ℕ). w / n) (pow-suc 256 i) ∙ sym (div-div-eq-div-mul w (256 ^ i) 256) in
    λ t. here i t ∷ (low-first (suc i) k w ∙ ap (digits k) r) t
  where
    here : (j : ℕ) → byte_at j w ≡ w / 256 ^ j % 256
    here zero = ap (λ (n : ℕ). n % 256) (sym (div-one w))
    here (suc j) = refl

-- and the word's place in the output after they are copied there
pub put-bytes : (out : List ℕ) (at k w : ℕ) (bs : List ℕ) → bs ≡ to_le_bytes w64 w → k ≡ 8 → at + 8 ≤ length out
    → put_mid at k out bs ≡ sets out at (digits 8 w)
put-bytes out at k w bs e f h =
    let d : bs ≡ digits 8 w = e ∙ low-first 0 8 w ∙ ap (digits 8) (div-one w) in
    let n : at + length (digits 8 w) ≤ length out = omega (arith, length_digits 8 w) in
    let r : drop k (drop at out) ≡ drop (at + length (digits 8 w)) out =
    drop-drop k at out ∙ ap (λ (j : ℕ). drop j out) (let g : at + k ≡ at + length (digits 8 w) = omega (arith, length_digits 8 w) in g) in
    let p : sets out at (digits 8 w) ≡ take at out ++ (digits 8 w ++ drop (at + length (digits 8 w)) out) =
    rw append_assoc at (sets-eq (digits 8 w) out at n) in
    (λ i. take at out ++ (d i ++ r i)) ∙ sym p

-- a word of a table, and those that are left
pub table_step : (out : List ℕ) (at i : ℕ) (t : List ℕ) → i < length t
    → sets (sets out (at + 8 * i) (digits 8 (get_or t i 0))) (at + 8 * (i + 1)) (bytes_of (drop (i + 1) t)) ≡ sets out (at + 8 * i) (bytes_of (drop i t))
table_step out at i t h =
    let w : ℕ = get_or t i 0 in
    let e : drop i t ≡ w ∷ drop (i + 1) t = drop-cons t i 0 h ∙ ap (λ (j : ℕ). w ∷ drop j t) (let s : suc i ≡ i + 1 = omega arith in s) in
    let f : at + 8 * (i + 1) ≡ at + 8 * i + length (digits 8 w) = omega (arith, length_digits 8 w) in
    ap (λ (j : ℕ). sets (sets out (at + 8 * i) (digits 8 w)) j (bytes_of (drop (i + 1) t))) f
    ∙ sym (sets-append (digits 8 w) (bytes_of (drop (i + 1) t)) out (at + 8 * i))
    ∙ sym (ap (λ (r : List ℕ). sets out (at + 8 * i) (bytes_of r)) e)

pub table-end : (out : List ℕ) (at i : ℕ) (t : List ℕ) → length t ≤ i → sets out (at + 8 * i) (bytes_of (drop i t)) ≡ out
table-end out at i t h = ap (λ (r : List ℕ). sets out (at + 8 * i) (bytes_of r)) (drop_of_length-le t h)

-- ---- reading

pub words-at : (n i : ℕ) (bs : List ℕ) → i < n → get_or (words_of n bs) i 0 ≡ word_at bs (8 * i)
words-at zero i bs h = absurd (omega arith)
words-at (suc n) zero bs h = refl
words-at (suc n) (suc i) bs h =
    words-at n i (drop 8 bs) (omega arith)
    ∙ ap (λ (r : List ℕ). value (take 8 r)) (drop-drop (8 * i) 8 bs ∙ ap (λ (j : ℕ). drop j bs) (let s : 8 + 8 * i ≡ 8 * suc i = omega arith in s))

pub words-from : (n i at : ℕ) (bs : List ℕ) → i < n → get_or (words_of n (drop at bs)) i 0 ≡ word_at bs (at + 8 * i)
words-from n i at bs h = words-at n i (drop at bs) h ∙ ap (λ (r : List ℕ). value (take 8 r)) (drop-drop (8 * i) at bs)

pub length-words : (n : ℕ) (bs : List ℕ) → length (words_of n bs) ≡ n
length-words zero bs = refl
length-words (suc n) bs = ap suc (length-words n (drop 8 bs))

-- a store of the next element brings a list that agrees up to i to one that agrees up to i + 1
pub agree-step : {A : Type 0} (d : A) (t W : List A) (i : ℕ) → i < length t → i < length W → take i t ≡ take i W
    → take (i + 1) (set t i (get_or W i d)) ≡ take (i + 1) W
agree-step d t W i h g e =
    ap (λ (j : ℕ). take j (set t i (get_or W i d))) (let s : i + 1 ≡ suc i = omega arith in s)
    ∙ take-suc-set t i (get_or W i d) h
    ∙ ap (λ (r : List _). r ++ (get_or W i d ∷ [])) e
    ∙ sym (take-suc W i d g)
    ∙ ap (λ (j : ℕ). take j W) (let s : suc i ≡ i + 1 = omega arith in s)

pub agree-end : {A : Type 0} (t W : List A) (i : ℕ) → length t ≤ i → length W ≤ i → take i t ≡ take i W → t ≡ W
agree-end t W i h g e = sym (take_all i t h) ∙ e ∙ take_all i W g

-- m words from word k on, of the words or of the bytes
pub words-part : (m k n : ℕ) (b : List ℕ) → k + m ≤ n → take m (drop k (words_of n b)) ≡ words_of m (drop (8 * k) b)
words-part zero zero n b h = refl
words-part (suc m) zero zero b h = absurd (omega arith)
words-part (suc m) zero (suc n) b h = ap (λ (r : List ℕ). value (take 8 b) ∷ r) (words-part m zero n (drop 8 b) (omega arith))
words-part m (suc k) zero b h = absurd (omega arith)
words-part m (suc k) (suc n) b h =
    words-part m k n (drop 8 b) (omega arith)
    ∙ ap (words_of m) (drop-drop (8 * k) 8 b ∙ ap (λ (j : ℕ). drop j b) (let s : 8 + 8 * k ≡ 8 * suc k = omega arith in s))

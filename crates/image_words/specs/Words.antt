-- Words as little-endian bytes, eight to a word: document 01, "The image".
use Rattle.std.specs.Prelude.{List, [], ◌∷◌, ◌++◌, ℕ, zero, suc, ◌+◌, ◌*◌, ◌/◌, ◌%◌, ◌<◌, ◌^◌, take, drop, ℤ}
use Rattle.std.specs.Int.{w64}
use Rattle.std.proofs.Common.{of_z, to_z}

-- k bytes of w, the least first
abbrev pub digits : ℕ → ℕ → List ℕ
digits zero w = []
digits (suc k) w = w % 256 ∷ digits k (w / 256)

abbrev pub value : List ℕ → ℕ
value [] = 0
value (b ∷ bs) = b + 256 * value bs

abbrev pub bytes_of : List ℕ → List ℕ
bytes_of [] = []
bytes_of (w ∷ ws) = digits 8 w ++ bytes_of ws

-- the word that starts at a place
abbrev pub word_at : List ℕ → ℕ → ℕ
word_at bs at = value (take 8 (drop at bs))

-- n words
abbrev pub words_of : ℕ → List ℕ → List ℕ
words_of zero bs = []
words_of (suc n) bs = value (take 8 bs) ∷ words_of n (drop 8 bs)

-- a number of either sign as a word, by two's complement, and back
abbrev pub twos : ℤ → ℕ
twos z = of_z w64 z

abbrev pub untwos : ℕ → ℤ
untwos w = to_z w64 w

-- every number is a byte, every number is a word
abbrev pub AllBytes : List ℕ → Type 0
AllBytes [] = Unit {0}
AllBytes (x ∷ xs) = (x < 256) × AllBytes xs

abbrev pub AllWords : List ℕ → Type 0
AllWords [] = Unit {0}
AllWords (w ∷ ws) = (w < 2 ^ 64) × AllWords ws

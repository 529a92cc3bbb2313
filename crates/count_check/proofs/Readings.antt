-- Words in bytes: how many are whole, and what is read of them.
use Prim.Native.Nat.{ℕ, ◌+◌, ◌*◌, ◌/◌, ◌≤◌, ◌<◌}
use mathlib.Core.Path.{◌≡◌, sym, ◌∙◌}
use mathlib.Core.List.{List}
use native.Mathlib.Omega.{arith}
use lib.ListN.{length, get_or}
use Rattle.image_words.specs.Words.{word_at}
use Rattle.image_words.proofs.Laws.{words-at, length-words}
use Rattle.count_check.specs.Inner.{words_in}

pub word-inside : (b : List ℕ) (i : ℕ) → i < length (words_in b) → 8 * i + 8 ≤ length b
word-inside b i h = omega (arith, length-words (length b / 8) b)

pub word-in : (b : List ℕ) (i w : ℕ) → i < length (words_in b) → w ≡ word_at b (8 * i) → w ≡ get_or (words_in b) i 0
word-in b i w h e = e ∙ sym (words-at (length b / 8) i b (omega (arith, length-words (length b / 8) b)))

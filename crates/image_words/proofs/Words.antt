-- Whether the numbers of a list are words, as a test: for lists that are computed.
use Prim.Native.Nat.{ℕ, ◌^◌}
use mathlib.Core.Path.{◌≡◌}
use mathlib.Core.Bool.{Bool, true, ◌&&◌}
use mathlib.Core.List.{List, [], ◌∷◌}
use lib.Dec.{ltb}
use borrow.Author.Tests.{ltb-true}
use Rattle.basics.proofs.Tests.{both}
use Rattle.image_words.specs.Words.{AllWords}

abbrev pub are_words : List ℕ → Bool
are_words [] = true
are_words (w ∷ ws) = ltb w (2 ^ 64) && are_words ws

pub words-by : (l : List ℕ) → are_words l ≡ true → AllWords l
words-by [] e = tt
words-by (w ∷ ws) e =
    let p = both (ltb w (2 ^ 64)) (are_words ws) e in
    (ltb-true w (2 ^ 64) p.0, words-by ws p.1)

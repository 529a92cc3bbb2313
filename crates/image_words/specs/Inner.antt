-- For the contracts and proofs of inner functions alone: a word that holds a number of either sign.
use Rattle.std.specs.Prelude.{ℕ, ℤ, ◌≡◌}
use Rattle.std.specs.Int.{w64}
use Rattle.std.proofs.Common.{SFits}
use Rattle.image_words.specs.Words.{twos}

-- w is the word of z, a number that fits one
pub record WordOf (w : ℕ) (z : ℤ) : Type 0 where
  pub is : w ≡ twos z
  pub fits : SFits w64 z

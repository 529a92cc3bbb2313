-- The answers of micro_price_calibrate at which nothing is written.
use Rattle.std.specs.Prelude.{ℕ, Bool, [], ◌∷◌, eqb}
use Rattle.basics.specs.Lists.{any}
use Rattle.abi_encoding.specs.Encoding.{bad_encoding}

abbrev pub is_unwritten : ℕ → Bool
is_unwritten n = any (eqb n) (bad_encoding ∷ 7 ∷ 14 ∷ 15 ∷ 1 ∷ [])

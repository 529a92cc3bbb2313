-- Numbers with the operations and tests of document 01, "The fit". The definitions are generic in them: binary64 for the code, exact fractions for what
-- elimination means.
use Rattle.std.specs.Prelude.{Bool, Float}
use Rattle.std.specs.Float.{binary64}
use Rattle.std.specs.Float.Ieee.{neg, add, sub, mul, div, eq, lt}
use Rattle.floats.specs.Floats as Floats

pub record Arith : Type 1 where
  pub Num : Type 0
  pub 𝟘 : Num
  pub 𝟙 : Num
  pub neg : Num → Num
  pub ◌⊕◌ : Num → Num → Num
  pub ◌⊖◌ : Num → Num → Num
  pub ◌⊗◌ : Num → Num → Num
  pub ◌⊘◌ : Num → Num → Num
  -- where a dot product starts
  pub start : Num
  pub size : Num → Num
  -- of two sizes, the second is as great or greater
  pub as_great : Num → Num → Bool
  -- the larger of two sizes
  pub max : Num → Num → Num
  pub is_zero : Num → Bool
  pub is_infinite : Num → Bool
  -- a size below 1e-12
  pub is_tiny : Num → Bool
  -- clamped to 0..1
  pub clamp : Num → Num

-- each product and each sum is rounded by itself; NaN is above all sizes, and passed over in the larger; a dot product starts at minus zero
abbrev pub rounded : Arith
rounded =
    record {
      Num = Float;
      𝟘 = Floats.pos_zero;
      𝟙 = Floats.one;
      neg = neg;
      ◌⊕◌ = add binary64;
      ◌⊖◌ = sub binary64;
      ◌⊗◌ = mul binary64;
      ◌⊘◌ = div binary64;
      start = Floats.neg_zero;
      size = Floats.abs;
      as_great = Floats.as_great;
      max = Floats.max;
      is_zero = λ x. eq x Floats.pos_zero;
      is_infinite = Floats.is_infinite;
      is_tiny = λ x. lt x Floats.tiny;
      clamp = Floats.clamp;
    }

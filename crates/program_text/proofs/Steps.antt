-- One byte of a text, by what it is.
use Prim.Native.Nat.{ℕ, ◌+◌, ◌*◌, ◌-◌, ◌≤◌, ◌<◌, ◌^◌}
use mathlib.Core.Path.{◌≡◌, ap}
use mathlib.Core.Bool.{Bool, true, cond, not, ◌&&◌}
use lib.Dec.{leb, ltb, eqb}
use borrow.Author.Tests.{ltb-true, le-leb, lt-leb}
use Rattle.basics.proofs.Tests.{both}
use Rattle.program_text.specs.Inner.{is_digit, takes, digit_step, end_step, step_of}
use Rattle.program_text.specs.declared.Scan.{Scan}

pub takes-below : (v d : ℕ) → takes v d ≡ true → v * 10 + d < 2 ^ 64
takes-below v d e = ltb-true (v * 10 + d) (2 ^ 64) (both (not (eqb v 0)) (ltb (v * 10 + d) (2 ^ 64)) e).1

module _ (s : Scan) (b : ℕ) where
  pub step-digit : 48 ≤ b → b ≤ 57 → step_of s b ≡ digit_step s (b - 48)
  step-digit h g =
      let e : is_digit b ≡ true = rw (le-leb 48 b h, le-leb b 57 g) in
      ap (λ (t : Bool). cond t (digit_step s (b - 48)) (end_step s b)) e

  pub step-below : b < 48 → step_of s b ≡ end_step s b
  step-below h = ap (λ (t : Bool). cond (t && leb b 57) (digit_step s (b - 48)) (end_step s b)) (lt-leb 48 b h)

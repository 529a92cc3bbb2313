-- The tests of a configuration give the facts of Valid.
use Prim.Native.Nat.{ℕ, ◌*◌, ◌%◌, ◌≤◌, ◌<◌}
use mathlib.Core.Path.{◌≡◌, refl}
use mathlib.Core.Bool.{true, false, not, ◌&&◌}
use mathlib.Core.Logic.{◌⊎◌, ⊎_elim}
use native.Mathlib.Omega.{arith}
use native.Mathlib.Nat.{le-mul_of_pos_right, mul_comm}
use lib.Dec.{leb, eqb}
use borrow.Author.Tests.{leb-true, eqb-true, not-false}
use Rattle.std.specs.Prelude.{Ok}
use Rattle.refusals.proofs.Refusals.{if-fine}
use Rattle.config.specs.Configuration.{shape, valid, check_config}
use Rattle.config.specs.Inner.{Valid}
use Rattle.config.specs.declared.MicroPriceConfig.{MicroPriceConfig}
use Rattle.basics.proofs.Tests.{both, fails}
use Rattle.basics.specs.Domain.{most}

record Shaped (n s : ℕ) : Type 0 where
  n-least : 3 ≤ n
  n-odd : n % 2 ≡ 1
  n-most : n ≤ 256
  s-least : 1 ≤ s
  s-most : s ≤ 256
  states-most : n * s ≤ 256

shape-known : (n s : ℕ) → shape n s ≡ true → Shaped n s
shape-known n s e =
    let u = both (leb 3 n && eqb (n % 2) 1 && leb 1 s) (leb (n * s) 256) e in
    let v = both (leb 3 n && eqb (n % 2) 1) (leb 1 s) u.0 in
    let w = both (leb 3 n) (eqb (n % 2) 1) v.0 in
    let n-least : 3 ≤ n = leb-true _ _ w.0 in
    let s-least : 1 ≤ s = leb-true _ _ v.1 in
    let most : n * s ≤ 256 = leb-true _ _ u.1 in
    record {
      n-least = n-least;
      n-odd = eqb-true _ _ w.1;
      n-most = omega (arith, le-mul_of_pos_right {m = s} n s-least);
      s-least = s-least;
      s-most = omega (arith, le-mul_of_pos_right {m = n} s (omega arith), mul_comm n s);
      states-most = most;
    }

-- no shape has a number over 256
pub no-shape : (n s : ℕ) → (256 < n) ⊎ (256 < s) → shape n s ≡ false
no-shape n s h =
    fails (shape n s)
    (λ e. let k = shape-known n s e in ⊎_elim (λ a. omega (arith, k.n-most)) (λ a. omega (arith, k.s-most)) h)

-- what refusal 1 does not refuse is valid
pub valid-unrefused : (c : MicroPriceConfig) → check_config c ≡ Ok tt → valid c ≡ true
valid-unrefused c e = not-false (valid c) (if-fine (not (valid c)) 1 refl e)

pub valid-known : (c : MicroPriceConfig) → valid c ≡ true → Valid c
valid-known c e =
    let tick = c.tick_size in
    let form = shape c.imbalance_buckets c.spread_states in
    let least = leb 1 c.min_state_observations in
    let gap = leb 1 c.max_quote_gap_ms in
    let a = both (leb 1 tick && leb tick most && form && least) gap e in
    let b = both (leb 1 tick && leb tick most && form) least a.0 in
    let d = both (leb 1 tick && leb tick most) form b.0 in
    let f = both (leb 1 tick) (leb tick most) d.0 in
    let k = shape-known c.imbalance_buckets c.spread_states d.1 in
    record {
      tick-least = leb-true _ _ f.0;
      tick-most = leb-true _ _ f.1;
      n-least = k.n-least;
      n-odd = k.n-odd;
      n-most = k.n-most;
      s-least = k.s-least;
      s-most = k.s-most;
      states-most = k.states-most;
      least-least = leb-true _ _ b.1;
      gap-least = leb-true _ _ a.1;
    }

pub config-known : (c : MicroPriceConfig) → check_config c ≡ Ok tt → Valid c
config-known c e = valid-known c (valid-unrefused c e)

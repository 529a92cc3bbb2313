-- What is known of tables of the right lengths.
use Prim.Native.Nat.{ℕ, ◌*◌}
use mathlib.Core.Path.{◌≡◌, refl}
use mathlib.Core.Bool.{false, not, ◌||◌}
use lib.Dec.{eqb}
use borrow.Author.Tests.{eqb-true, not-false}
use Rattle.basics.proofs.Tests.{neither}
use Rattle.refusals.specs.Refusals.{refuse_if}
use Rattle.std.specs.Prelude.{Ok}
use Rattle.refusals.proofs.Refusals.{if-fine, first_fine}
use Rattle.config.specs.Configuration.{states, check_config}
use Rattle.config.specs.Inner.{Valid}
use Rattle.config.specs.declared.MicroPriceConfig.{MicroPriceConfig}
use Rattle.config.proofs.Known.{config-known}
use Rattle.calibrator.specs.Observe.{wrong_lengths, check_table_lengths}

pub record RightLengths (n stay moved totals : ℕ) : Type 0 where
  pub stay-cells : stay ≡ n * n
  pub moved-cells : moved ≡ n * n
  pub totals-cells : totals ≡ n

pub lengths-known : (n stay moved totals : ℕ) → wrong_lengths n stay moved totals ≡ false → RightLengths n stay moved totals
lengths-known n stay moved totals e =
    let a = neither (not (eqb stay (n * n)) || not (eqb moved (n * n))) (not (eqb totals n)) e in
    let b = neither (not (eqb stay (n * n))) (not (eqb moved (n * n))) a.0 in
    record {
      stay-cells = eqb-true stay (n * n) (not-false _ b.0);
      moved-cells = eqb-true moved (n * n) (not-false _ b.1);
      totals-cells = eqb-true totals n (not-false _ a.1);
    }

pub tables-known : (c : MicroPriceConfig) (stay moved totals : ℕ) → check_table_lengths c stay moved totals ≡ Ok tt
    → Valid c × (wrong_lengths (states c) stay moved totals ≡ false)
tables-known c stay moved totals e =
    let f = first_fine (check_config c) (refuse_if (wrong_lengths (states c) stay moved totals) 7) e in
    (config-known c f.0, if-fine (wrong_lengths (states c) stay moved totals) 7 refl f.1)

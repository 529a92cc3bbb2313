-- What is known where 1, 7, 2, 3 and 4 do not refuse a signal.
use Prim.Native.Nat.{ℕ, ◌*◌}
use mathlib.Core.Path.{◌≡◌, refl}
use mathlib.Core.Bool.{true}
use mathlib.Core.List.{List}
use lib.ListN.{length}
use lib.Dec.{eqb}
use borrow.Author.Tests.{not-false, eqb-true}
use Rattle.refusals.specs.Refusals.{refuse_if}
use Rattle.std.specs.Prelude.{Ok}
use Rattle.refusals.proofs.Refusals.{if-fine, first_fine}
use Rattle.config.specs.Configuration.{states, valid, check_config}
use Rattle.config.proofs.Known.{valid-unrefused}
use Rattle.config.specs.declared.MicroPriceConfig.{MicroPriceConfig}
use Rattle.quotes.specs.Quotes.{check_quote}
use Rattle.quotes.specs.declared.TopOfBook.{TopOfBook}
use Rattle.model_check.specs.Check.{wrong_length, check_table}
use Rattle.model_signals.specs.Signal.{signal_refusal}

pub record Usable (c : MicroPriceConfig) (t : List ℕ) (q : TopOfBook) : Type 0 where
  pub config : valid c ≡ true
  pub table : length t ≡ 7 * states c
  pub quote : check_quote c q ≡ Ok tt

pub unrefused : (c : MicroPriceConfig) (t : List ℕ) (q : TopOfBook) → signal_refusal c t q ≡ Ok tt → Usable c t q
unrefused c t q e =
    let a = first_fine (check_table c t) (check_quote c q) e in
    let b = first_fine (check_config c) (refuse_if (wrong_length c t) 7) a.0 in
    record {
      config = valid-unrefused c b.0;
      table = eqb-true (length t) (7 * states c) (not-false (eqb (length t) (7 * states c)) (if-fine (wrong_length c t) 7 refl b.1));
      quote = a.1;
    }

-- Demand 3 of the exported functions. micro_price_new that answers 0 leaves a new calibrator's words and tables; from there a list of calls is what the
-- operations do (`run-words`), which is what the history says (`demand-3`).
use Prim.Native.Nat.{ℕ}
use mathlib.Core.Path.{◌≡◌, refl, sym, ap, subst, ◌∙◌}
use mathlib.Core.Bool.{Bool, true, false, not, cond, ◌&&◌}
use mathlib.Core.List.{List}
use lib.Dec.{eqb}
use lib.Ieee.{Float}
use lib.IntN.{ℤ}
use lib.ListN.{length}
use borrow.Author.Tests.{not-false, eq-eqb}
use Rattle.basics.proofs.Tests.{zero-not-one, both}
use Rattle.std.specs.Prelude.{Ok, Err}
use Rattle.refusals.specs.Refusals.{Check}
use Rattle.refusals.proofs.Numbers.{zero-fine}
use Rattle.refusals.proofs.Refusals.{if-fine, first_fine}
use Rattle.config.specs.Configuration.{valid, check_config, is_config, config_of}
use Rattle.config.specs.declared.MicroPriceConfig.{MicroPriceConfig}
use Rattle.tally.specs.Rules.{Memory}
use Rattle.calibrator.specs.Record.{memory, answered, Previous}
use Rattle.calibrator.specs.Observe.{fresh, check_memory}
use Rattle.abi_encoding.specs.Encoding.{record_length, record_of, right_words, bad_encoding, lent}
use Rattle.history.specs.Calls.{new_past, run, OwnImages, ConfigWords}
use Rattle.history.specs.Demand.{left}
use Rattle.model_signals.specs.Signal.{signal_of}
use Rattle.fit.specs.Fit.{fitted_with}
use Rattle.history_claims.specs.Models.{Model, Demand3Whole}
use Rattle.history_claims.proofs.Claims.{demand-3-whole}
use Rattle.abi_counting.specs.Counting.{of_outcome, new_words}
use Rattle.abi_fit.specs.FitWindow.{LentFit, lent_fit, of_fit}
use Rattle.abi_models.specs.Models.{signal_length, lent_signal, of_signalled}
use Rattle.abi_claims.specs.WordCalls.{WordMemory, lent_memory, memory_in_words, WordCall, history_calls, WordsRan, run_words, answers_in_words, history_in_words}
use Rattle.abi_claims.specs.Demand.{ran_from_new, fit_in_words, Demand3Words}
use Rattle.abi_claims.proofs.InWords.{HasKinds, kinds-left, words-encoded, memory-from-words, run-words}

-- ---- micro_price_new that answers 0

record NewInWords (c w s m : List ℕ) (t : List ℤ) : Type 0 where
  config : is_config c ≡ true
  valid-is : valid (config_of c) ≡ true
  leaves : lent_memory (new_words c w s m t) ≡ memory_in_words (fresh (config_of c))

module _ (c w s m : List ℕ) (t : List ℤ) where
  abbrev d : MicroPriceConfig
  d = config_of c

  abbrev before : Memory Previous
  before = memory (record_of w) s m t

  new-in-words : (new_words c w s m t).answer ≡ 0 → NewInWords c w s m t
  new-in-words = go (right_words c w) refl (check_memory d before) refl
    where
      go : (b : Bool) → right_words c w ≡ b → (k : Check) → check_memory d before ≡ k
          → (cond b (of_outcome w (answered k before (fresh d))) (lent bad_encoding w s m t)).answer ≡ 0 → NewInWords c w s m t
      go false long k enough e = absurd (zero-not-one cc)
      go true long (Err r) enough e = let none : Err r ≡ Ok tt = zero-fine (Err r) e in absurd (zero-not-one cc)
      go true long (Ok _) enough e =
          record {
            config = (both (is_config c) (eqb (length w) record_length) long).0;
            valid-is = not-false _ (if-fine (not (valid d)) 1 refl (first_fine (check_config d) _ enough).0);
            leaves = λ i. lent_memory (cond (long i) (of_outcome w (answered (enough i) before (fresh d))) (lent bad_encoding w s m t));
          }

  -- ---- the list

  module _ (new : (new_words c w s m t).answer ≡ 0) (words : ConfigWords d) (ks : List WordCall) (own : OwnImages d (new_past d) (history_calls ks)) where
    made : NewInWords c w s m t
    made = new-in-words new

    whole : Demand3Whole d (history_calls ks)
    whole = demand-3-whole d made.valid-is words (history_calls ks) own

    -- what the operations leave, in words
    ran : ran_from_new c w s m t ks
        ≡ record { answers = answers_in_words ks (run d (fresh d) (history_calls ks)).answers; left = memory_in_words (left d (history_calls ks)) }
    ran = ap (λ (h : WordMemory). run_words c h ks) made.leaves ∙ run-words c made.config ks (fresh d) refl

    pub words-history : ran_from_new c w s m t ks ≡ history_in_words c ks
    words-history = ran ∙ (λ i. record { answers = answers_in_words ks (whole.history.answers i); left = memory_in_words (whole.history.memory i) })

    -- ---- the fit after it

    abbrev after : WordMemory
    after = (ran_from_new c w s m t ks).left

    fit_is : (rounds moves : ℕ) (model : List ℕ) (scratch : List Float)
        → fit_in_words rounds moves c after model scratch ≡ of_fit (fitted_with rounds moves d (left d (history_calls ks)) model scratch)
    fit_is rounds moves model scratch =
        ap (λ (r : WordsRan). fit_in_words rounds moves c r.left model scratch) ran
        ∙ (λ i. cond (words-encoded c made.config (left d (history_calls ks)) kinds i)
        (of_fit (fitted_with rounds moves d (memory-from-words c made.config (left d (history_calls ks)) kinds i) model scratch))
        (lent_fit bad_encoding model scratch))
      where
        kinds : HasKinds d (left d (history_calls ks))
        kinds = kinds-left d (history_calls ks) (fresh d) refl

    pub demand-3-words : Demand3Words c w s m t ks
    demand-3-words =
        record {
          history = words-history;
          whole = whole;
          fit_is = fit_is;
          model =
              λ rounds moves model scratch zero_is.
              let f = fitted_with rounds moves d (left d (history_calls ks)) model scratch in
              let is : fit_in_words rounds moves c after model scratch ≡ of_fit f = fit_is rounds moves model scratch in
              subst (λ (x : LentFit). Model d x.model) (sym is)
              (whole.model rounds moves model scratch (zero-fine f.answer (ap (λ (x : LentFit). x.answer) (sym is) ∙ zero_is)));
          signal-is =
              λ model q out row long.
              λ i. cond (made.config i && eq-eqb (length out) signal_length long i) (of_signalled (signal_of d model q) out row)
              (lent_signal bad_encoding out row);
        }

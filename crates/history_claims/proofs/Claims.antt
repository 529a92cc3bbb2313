-- Fits after a list of calls, their models and the signals of those: document 00, demand 3.
use Prim.Native.Nat.{ℕ, ◌*◌, ◌<◌}
use mathlib.Core.Path.{◌≡◌, sym, ap, subst, ◌∙◌}
use mathlib.Core.Bool.{Bool, true, false, not, cond}
use mathlib.Core.List.{List}
use mathlib.Core.Logic.{◌⊎◌, inl, inr}
use native.Mathlib.Omega.{arith}
use borrow.Author.Tests.{eq-eqb}
use lib.ListN.{length}
use lib.Ieee.{Float, eq}
use Rattle.floats.specs.Floats.{pos_zero}
use Rattle.refusals.specs.Refusals.{number_of, refuse_if, first_of, check_number, Check}
use Rattle.std.specs.Prelude.{Ok, Err}
use Rattle.refusals.specs.declared.Refusal.{Refusal}
use Rattle.refusals.specs.declared.Refusal.TheVariants.{ModelRow}
use Rattle.config.specs.Configuration.{states, valid}
use Rattle.config.specs.declared.MicroPriceConfig.{MicroPriceConfig}
use Rattle.quotes.specs.Quotes.{exchanged}
use Rattle.quotes.specs.States.{mirror_of}
use Rattle.quotes.specs.declared.TopOfBook.{TopOfBook}
use Rattle.quotes.proofs.States.{state-located}
use Rattle.tally.specs.Rules.{Memory}
use Rattle.calibrator.specs.Record.{Previous}
use Rattle.history.specs.Calls.{Call, run, new_past, OwnImages, ConfigWords}
use Rattle.history.specs.Demand.{left}
use Rattle.history.proofs.Claim.{list-claim, empty-is, starts-new}
use Rattle.history.proofs.Demand.{demand-3, demand-3-new}
use Rattle.history.proofs.Holds.{Holds, first-all, first-last, check-fine, memory-fine}
use Rattle.model.specs.Rows.{row_at}
use Rattle.model.proofs.Rows.{row-held}
use Rattle.fit_rounds.specs.Rounds.{wrong_rounds}
use Rattle.fit.specs.Fit.{fit_of, given_of, wrong_fit_lengths, fit_refusal_with, fit_unless, fitted_with}
use Rattle.fit.specs.Models.{RowsOpposite, Inside, RowOf}
use Rattle.fit.proofs.Models.{fit-valid, table-long, fit_written, fit-mirrors, calibrated-inside, fit-numbers}
use Rattle.model_check.specs.Check.{check_row, check_model}
use Rattle.model_signals.specs.Claims.{RowsMirror, AnswersMirror}
use Rattle.model_signals.specs.Signal.{signal_of}
use Rattle.model_signals.proofs.Checked.{all-served}
use Rattle.model_signals.proofs.Exchanged.{signal-exchanged}
use Rattle.model_signals.proofs.Within.{signal-within}
use Rattle.history_claims.specs.Models.{Model, FitNumber, Demand3Whole}
use Rattle.history_claims.proofs.Rules.{row-serves, row-checked}

-- ---- a fitted model

-- of any memory, with any two numbers of rounds
module _ (rounds moves : ℕ) (c : MicroPriceConfig) (m : Memory Previous) (t₀ : List ℕ) (l : List Float)
    (fine : (fitted_with rounds moves c m t₀ l).answer ≡ Ok tt) where
  abbrev t : List ℕ
  t = (fitted_with rounds moves c m t₀ l).model

  mirrored : (i : ℕ) → i < states c → RowsOpposite (row_at t i) (row_at t (mirror_of c.imbalance_buckets i))
  mirrored = fit-mirrors rounds moves c m t₀ l fine

  inside : (i : ℕ) → i < states c → (row_at t i).status ≡ 0 → Inside c i (row_at t i).adjustment
  inside = calibrated-inside rounds moves c m t₀ l fine

  row_of : (i : ℕ) → i < states c → RowOf c i (row_at t i)
  row_of = (fit_written rounds moves c m t₀ l fine).row_of

  served : (q : TopOfBook) (i : ℕ) → signal_of c t q ≡ Err (ModelRow i) → ⊥
  served = all-served c t (λ i h. row-serves c i (row_at t i) (row_of i h) (inside i h))

  signals-mirror : (q : TopOfBook) → AnswersMirror (signal_of c t q) (signal_of c t (exchanged q))
  signals-mirror q =
      signal-exchanged c t q
      (λ a s.
      let p = state-located c q a s in
      let o = mirrored a.state p.below in
      subst (λ (j : ℕ). RowsMirror (row_at t a.state) (row_at t j)) (sym p.mirrors)
      (record { status-same = sym o.status-same; sum-zero = o.final-opposite.sum-zero }))

  checked : ((i : ℕ) → i < states c → ((row_at t i).status ≡ 1) ⊎ ((row_at t i).status ≡ 2) → eq (row_at t i).adjustment pos_zero ≡ true)
      → check_model c t ≡ Ok tt
  checked rest =
      let row : (i : ℕ) → i < states c → check_row c t i ≡ Ok tt =
      λ i h. ap (λ (b : Bool). cond b (Ok tt) (Err (ModelRow i)))
      (row-checked c i (row_at t i) (row_of i h) (inside i h) (row_at t (mirror_of c.imbalance_buckets i)) (row-held t i) (mirrored i h) (rest i h)) in
      λ d.
      first_of (first_of (refuse_if (not (fit-valid rounds moves c m t₀ l fine d)) 1)
      (refuse_if (not (eq-eqb (length t) (7 * states c) (table-long rounds moves c m t₀ l fine) d)) 7))
      (first-all (check_row c t) 0 (states c) (λ i h. row i (omega arith)) d)

  pub model-fitted : Model c t
  model-fitted =
      record {
        mirrored = mirrored;
        inside = inside;
        served = served;
        signals-mirror = signals-mirror;
        checked = checked;
      }

-- ---- after a list

module _ (c : MicroPriceConfig) (e : valid c ≡ true) (fits : ConfigWords c) (ks : List Call) (o : OwnImages c (new_past c) ks) where
  left-holds : Holds c (left c ks)
  left-holds =
      let claim = list-claim c e fits ks o in
      subst (Holds c) (sym (ap (λ (x : Memory Previous). (run c x ks).left) (sym (empty-is c e fits)) ∙ claim.memories)) claim.sound.holds

  module _ (rounds moves : ℕ) where
    pub fit-after : (scratch model : ℕ)
        → fit_refusal_with rounds moves c (left c ks) scratch model
        ≡ first_of (refuse_if (wrong_rounds rounds moves) 26) (refuse_if (wrong_fit_lengths (states c) scratch model) 7)
    fit-after scratch model =
        (λ d. first_of (refuse_if (not (e d)) 1)
        (first_of (refuse_if (wrong_rounds rounds moves) 26)
        (first_of (memory-fine c e (left c ks) left-holds d)
        (first_of (refuse_if (wrong_fit_lengths (states c) scratch model) 7)
        (check-fine (states c) (mirror_of c.imbalance_buckets) (left c ks).counts left-holds.balanced left-holds.within d)))))
        ∙ ap (first_of (refuse_if (wrong_rounds rounds moves) 26)) (first-last (refuse_if (wrong_fit_lengths (states c) scratch model) 7))

    pub numbers_after : (t : List ℕ) (l : List Float) (r : Refusal) → (fitted_with rounds moves c (left c ks) t l).answer ≡ Err r
        → FitNumber (wrong_rounds rounds moves) (number_of r)
    numbers_after t l r a = go (wrong_rounds rounds moves) (wrong_fit_lengths (states c) (length l) (length t)) (fit-after (length l) (length t))
      where
        -- the fit's answer is what refuses it before 16
        by : {k : Check} → fit_refusal_with rounds moves c (left c ks) (length l) (length t) ≡ k
            → (fit_unless k (states c) (fit_of rounds moves (given_of c (left c ks).counts)) t l).answer ≡ Err r
        by f = ap (λ (x : Check). (fit_unless x (states c) (fit_of rounds moves (given_of c (left c ks).counts)) t l).answer) (sym f) ∙ a

        go : (wrong b : Bool) → fit_refusal_with rounds moves c (left c ks) (length l) (length t) ≡ first_of (refuse_if wrong 26) (refuse_if b 7)
            → FitNumber wrong (number_of r)
        go true b f = ap check_number (sym (by f))
        go false true f = inl (ap check_number (sym (by f)))
        go false false f = inr (fit-numbers rounds moves c (left c ks) t l r f a)

    -- demand 3, its last sentence
    pub model-after : (t : List ℕ) (l : List Float) → (fitted_with rounds moves c (left c ks) t l).answer ≡ Ok tt
        → Model c (fitted_with rounds moves c (left c ks) t l).model
    model-after t l fine = model-fitted rounds moves c (left c ks) t l fine

  -- demand 3
  pub demand-3-whole : Demand3Whole c ks
  demand-3-whole =
      record {
        history = demand-3 c e fits ks o;
        from-new = demand-3-new c e fits ks o (starts-new c ks);
        fit_refused = fit-after;
        fit-numbers = numbers_after;
        model = model-after;
        signal-inside = signal-within c;
      }

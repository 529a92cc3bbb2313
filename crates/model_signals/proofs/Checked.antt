-- What a table that the model check accepts gives: each row serves, mirrored rows mirror, and so do the signals of exchanged sizes.
use Prim.Native.Nat.{ℕ, ◌<◌}
use mathlib.Core.Path.{◌≡◌, refl, sym, ◌∙◌, subst}
use mathlib.Core.Bool.{Bool, true, false, cond, not, ◌||◌, ◌&&◌}
use mathlib.Core.List.{List}
use native.Mathlib.Omega.{arith}
use lib.Dec.{eqb}
use lib.Ieee.{binary64, add, eq, le}
use lib.Ieee.Scale.{finite}
use borrow.Author.Tests.{not-true, eqb-true}
use Rattle.basics.proofs.Tests.{zero-not-one, both}
use Rattle.floats.specs.Floats.{pos_zero, abs, minus_zero}
use Rattle.model.specs.Rows.{row_at}
use Rattle.model.specs.declared.StateEstimate.{StateEstimate}
use Rattle.model.specs.declared.StateStatus.TheVariants.{Calibrated}
use Rattle.model.proofs.Rows.{row-held}
use Rattle.refusals.specs.Refusals.{refuse_if, first_of, first_from, Check}
use Rattle.std.specs.Prelude.{Result, Ok, Err}
use Rattle.refusals.specs.declared.Refusal.{Refusal}
use Rattle.model_signals.specs.declared.MicroPriceSignal.{MicroPriceSignal}
use Rattle.quotes.specs.declared.At.{At}
use Rattle.quotes.specs.declared.Reason.{Reason}
use Rattle.refusals.specs.declared.Refusal.TheVariants.{ModelRow}
use Rattle.refusals.proofs.Refusals.{first_fine, from-fine}
use Rattle.config.specs.Configuration.{states, valid}
use Rattle.config.specs.Inner.{Valid}
use Rattle.config.specs.declared.MicroPriceConfig.{MicroPriceConfig}
use Rattle.config.proofs.Known.{valid-known}
use Rattle.quotes.specs.Quotes.{over_domain, bad_quote, off_tick, check_quote, exchanged}
use Rattle.quotes.specs.States.{mirror_of, place_of}
use Rattle.quotes.specs.declared.TopOfBook.{TopOfBook}
use Rattle.quotes.proofs.States.{place-located, state-located}
use Rattle.model_check.specs.Check.{half_spread_of, has_status, bucket_is, spread_is, status_known, floats_finite, no_minus_zero, share_in_range, fallback_at_mid, inside_quotes, outside_quotes, state_mirrors, row_fine, check_row, wrong_length, check_table, check_model}
use Rattle.model_signals.specs.Claims.{RowsMirror, AnswersMirror}
use Rattle.model_signals.specs.Signal.{row_serves, adjustment_of, source_of, sent, signal_at, sent_unless, signal_refusal, signal_of}
use Rattle.model_signals.proofs.Exchanged.{signal-exchanged}
use Rattle.model_signals.proofs.Usable.{unrefused}
use Rattle.floats.proofs.Zeros.{sum-zero, plus-sum}

-- ---- one row

-- what the theorems below use of a row's rules
record Ruled (c : MicroPriceConfig) (i : ℕ) (e mirror : StateEstimate) : Type 0 where
  status : status_known e ≡ true
  floats : floats_finite e ≡ true
  zeros : no_minus_zero e ≡ true
  inside : inside_quotes c i e ≡ true
  mirrors : state_mirrors e mirror ≡ true

ruled : (c : MicroPriceConfig) (i : ℕ) (e mirror : StateEstimate) → row_fine c i e mirror ≡ true → Ruled c i e mirror
unfolding row_fine
ruled c i e mirror h =
    let placed = bucket_is c i e && spread_is c i e in
    let values = share_in_range e && fallback_at_mid e in
    let sides = inside_quotes c i e && outside_quotes c i e in
    let k1 = both (placed && status_known e && floats_finite e && no_minus_zero e && values && sides) (state_mirrors e mirror) h in
    let k2 = both (placed && status_known e && floats_finite e && no_minus_zero e && values) sides k1.0 in
    let k3 = both (placed && status_known e && floats_finite e && no_minus_zero e) values k2.0 in
    let k4 = both (placed && status_known e && floats_finite e) (no_minus_zero e) k3.0 in
    let k5 = both (placed && status_known e) (floats_finite e) k4.0 in
    record {
      status = (both placed (status_known e) k5.0).1;
      floats = k5.1;
      zeros = k4.1;
      inside = (both (inside_quotes c i e) (outside_quotes c i e) k2.1).0;
      mirrors = k1.1;
    }

adjustment-finite : (e : StateEstimate) → floats_finite e ≡ true → finite e.adjustment ≡ true
adjustment-finite e h =
    (both (finite e.first_adjustment) (finite e.adjustment)
    (both (finite e.first_adjustment && finite e.adjustment) (finite e.fallback_within_moves) h).0).1

adjustment-plus : (e : StateEstimate) → no_minus_zero e ≡ true → minus_zero e.adjustment ≡ false
adjustment-plus e h =
    let first = not (minus_zero e.first_adjustment) in
    let final = not (minus_zero e.adjustment) in
    not-true (minus_zero e.adjustment) (both first final (both (first && final) (not (minus_zero e.fallback_within_moves)) h).0).1

-- the check's rules on a row give the signal's
fine-serves : (c : MicroPriceConfig) (i : ℕ) (e mirror : StateEstimate) → row_fine c i e mirror ≡ true → row_serves c i e ≡ true
unfolding row_serves
fine-serves c i e mirror h =
    let r = ruled c i e mirror h in
    (λ d. r.status d && (not (has_status Calibrated e) || (adjustment-finite e r.floats d && le (abs e.adjustment) (half_spread_of c i))))
    ∙ r.inside

-- and that it mirrors the mirror's row
fine-mirrors : (c : MicroPriceConfig) (t : List ℕ) (i j : ℕ) → row_fine c i (row_at t i) (row_at t j) ≡ true → RowsMirror (row_at t i) (row_at t j)
fine-mirrors c t i j h =
    let e : StateEstimate = row_at t i in
    let m : StateEstimate = row_at t j in
    let r = ruled c i e m h in
    let status = eqb e.status m.status in
    let counts = eqb e.observations m.observations in
    let final = eq (add binary64 e.adjustment m.adjustment) pos_zero in
    let k = both (status && counts && final) (eq (add binary64 e.first_adjustment m.first_adjustment) pos_zero) r.mirrors in
    let n = both (status && counts) final k.0 in
    let z = sum-zero e.adjustment m.adjustment (row-held t i).final (row-held t j).final n.1 in
    record {
      status-same = eqb-true e.status m.status (both status counts n.0).0;
      sum-zero = plus-sum e.adjustment m.adjustment z.0 z.1 (adjustment-plus e r.zeros);
    }

-- ---- the table

-- where each row serves, no quote's signal is refused by 13
pub all-served : (c : MicroPriceConfig) (t : List ℕ) → ((i : ℕ) → i < states c → row_serves c i (row_at t i) ≡ true) → (q : TopOfBook) (i : ℕ)
    → signal_of c t q ≡ Err (ModelRow i) → ⊥
all-served c t serves q i e = go (signal_refusal c t q) refl e
  where
    quote : (a b d : Bool) → first_of (refuse_if a 2) (first_of (refuse_if b 3) (refuse_if d 4)) ≡ Err (ModelRow i) → ⊥
    quote true b d k = zero-not-one cc
    quote false true d k = zero-not-one cc
    quote false false true k = zero-not-one cc
    quote false false false k = zero-not-one cc

    no_row : (a b : Bool) (k : Check) → (k ≡ Err (ModelRow i) → ⊥) → first_of (first_of (refuse_if a 1) (refuse_if b 7)) k ≡ Err (ModelRow i)
        → ⊥
    no_row true b k n f = zero-not-one cc
    no_row false true k n f = zero-not-one cc
    no_row false false k n f = n f

    place : (p : Result At Reason) → Valid c → place_of c q ≡ p → signal_at c t q p ≡ Err (ModelRow i) → ⊥
    place (Ok a) v p k =
        let s = serves a.state (place-located c q v a p).below in
        let f : ◌≡◌ {A = Result MicroPriceSignal Refusal} (Ok (sent q (adjustment_of (row_at t a.state)) (source_of (row_at t a.state).status)))
        (Err (ModelRow i)) =
        rw s at k in
        zero-not-one (cc f)
    place (Err r) v p k = zero-not-one cc

    go : (k : Check) → signal_refusal c t q ≡ k → sent_unless k (signal_at c t q (place_of c q)) ≡ Err (ModelRow i) → ⊥
    go (Ok _) r k = place (place_of c q) (valid-known c (unrefused c t q r).config) refl k
    go (Err x) r k =
        let f : Err x ≡ Err (ModelRow i) = cc in
        no_row (not (valid c)) (wrong_length c t) (check_quote c q) (quote (over_domain q) (bad_quote q) (off_tick c q)) (r ∙ f)

row_fine_lem : (b : Bool) (i : ℕ) → cond {A = Check} b (Ok tt) (Err (ModelRow i)) ≡ Ok tt → b ≡ true
row_fine_lem true i e = refl
row_fine_lem false i e = absurd (zero-not-one cc)

module _ (c : MicroPriceConfig) (t : List ℕ) (h : check_model c t ≡ Ok tt) where
  rows-fine : (i : ℕ) → i < states c → row_fine c i (row_at t i) (row_at t (mirror_of c.imbalance_buckets i)) ≡ true
  rows-fine i l =
      let rows = (first_fine (check_table c t) (first_from (check_row c t) 0 (states c)) h).1 in
      row_fine_lem _ i (from-fine (check_row c t) 0 (states c) rows i (omega arith) (omega arith))

  -- a state's row and its mirror's
  pub checked-mirrored : (i : ℕ) → i < states c → RowsMirror (row_at t i) (row_at t (mirror_of c.imbalance_buckets i))
  checked-mirrored i l = fine-mirrors c t i (mirror_of c.imbalance_buckets i) (rows-fine i l)

  -- no quote's signal is refused by 13
  pub checked-served : (q : TopOfBook) (i : ℕ) → signal_of c t q ≡ Err (ModelRow i) → ⊥
  checked-served = all-served c t (λ i l. fine-serves c i (row_at t i) _ (rows-fine i l))

  -- the signals of a quote and of the same with its sizes exchanged
  pub checked-exchanged : (q : TopOfBook) → AnswersMirror (signal_of c t q) (signal_of c t (exchanged q))
  checked-exchanged q =
      signal-exchanged c t q
      (λ a s.
      let l = state-located c q a s in
      subst (λ (j : ℕ). RowsMirror (row_at t a.state) (row_at t j)) (sym l.mirrors) (checked-mirrored a.state l.below))

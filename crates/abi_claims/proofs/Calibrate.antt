-- micro_price_calibrate that answers 100, 7, 14, 15 or 1 leaves all lent memory as it was, whatever its record holds: by `evening-history` a fit's answer is
-- another number, and so is that of a quote that stops the count.
use Prim.Native.Nat.{ℕ, ◌≤◌}
use mathlib.Core.Path.{◌≡◌, refl, sym, ap, ◌∙◌}
use mathlib.Core.Bool.{Bool, true, false, cond, ◌||◌, true≢false}
use mathlib.Core.List.{List, [], ◌∷◌}
use native.Mathlib.Omega.{arith}
use lib.Dec.{eqb}
use lib.Ieee.{Float}
use lib.IntN.{ℤ}
use borrow.Author.Tests.{eqb-true, ne_eqb}
use Rattle.basics.specs.Lists.{any}
use Rattle.basics.proofs.Tests.{fails}
use Rattle.refusals.specs.Refusals.{number_of, check_number, Check}
use Rattle.std.specs.Prelude.{Result, Ok, Err}
use Rattle.recording.specs.declared.Recorded.{Recorded}
use Rattle.refusals.specs.declared.Refusal.{Refusal}
use Rattle.config.specs.declared.MicroPriceConfig.{MicroPriceConfig}
use Rattle.quotes.specs.declared.TopOfBook.{TopOfBook}
use Rattle.tally.specs.Rules.{Memory}
use Rattle.image_words.specs.Words.{AllWords}
use Rattle.calibrator.specs.Record.{memory, Previous}
use Rattle.config.specs.Configuration.{config_of}
use Rattle.abi_encoding.specs.Encoding.{record_of, record_words_of, right_words, bad_encoding}
use Rattle.history.specs.Calls.{ConfigWords}
use Rattle.evening.specs.Evening.{EveningOutcome, calibrated}
use Rattle.history_claims.specs.Evening.{window_quotes, EveningHistory}
use Rattle.history_claims.proofs.Evening.{evening-history}
use Rattle.abi_batch.specs.Batch.{LentEvening, lent_evening, evening_number, of_evening, calibrate_words}
use Rattle.abi_claims.specs.Calibrate.{is_unwritten}

-- a test that tells n from k
apart : (test : ℕ → Bool) (n k : ℕ) → test n ≡ true → test k ≡ false → eqb n k ≡ false
apart test n k holds fails-at = fails (eqb n k) (λ e. true≢false (sym holds ∙ ap test (eqb-true n k e) ∙ fails-at))

fit-number-written : (n : ℕ) → 16 ≤ n → n ≤ 19 → is_unwritten n ≡ false
fit-number-written n a b =
    rw (ne_eqb n 100 (omega arith), ne_eqb n 7 (omega arith), ne_eqb n 14 (omega arith), ne_eqb n 15 (omega arith), ne_eqb n 1 (omega arith))

module _ (d : MicroPriceConfig) (w s m : List ℕ) (t : List ℤ) (qs : List TopOfBook) (model : List ℕ) (scratch : List Float) (invalid : ℕ) where
  abbrev before : Memory Previous
  before = memory (record_of w) s m t

  evening-kept : (o : EveningOutcome) → EveningHistory d before qs model scratch o → (a : Result Recorded Refusal) → o.answer ≡ a
      → is_unwritten (evening_number a) ≡ true → of_evening w invalid o ≡ lent_evening (evening_number a) w s m t model scratch invalid
  evening-kept o E (Ok k) is u = absurd (true≢false (sym u ∙ go k.answer (E.fitted k is).fit-numbers))
    where
      go : (x : Check) → ((r : Refusal) → x ≡ Err r → (16 ≤ number_of r) × (number_of r ≤ 19)) → is_unwritten (check_number x) ≡ false
      go (Ok _) h = refl
      go (Err r) h = let b = h r refl in fit-number-written (number_of r) b.0 b.1
  evening-kept o E (Err r) is u =
      let x = E.refused r is in
      let yes : any (eqb (number_of r)) (7 ∷ 14 ∷ 15 ∷ 1 ∷ []) ≡ true =
      (λ j. sym (apart (λ n. any (eqb n) (7 ∷ 14 ∷ 15 ∷ 1 ∷ 2 ∷ 6 ∷ [])) (number_of r) bad_encoding x.number refl) j
      || any (eqb (number_of r)) (7 ∷ 14 ∷ 15 ∷ 1 ∷ [])) ∙ u in
      let other : (k : ℕ) → any (eqb k) (7 ∷ 14 ∷ 15 ∷ 1 ∷ []) ≡ false → eqb (number_of r) k ≡ false =
      λ k. apart (λ n. any (eqb n) (7 ∷ 14 ∷ 15 ∷ 1 ∷ [])) (number_of r) k yes in
      ap (of_evening w invalid) (x.unchanged yes)
      ∙ (λ j. lent_evening (number_of r) (cond (other 2 refl j || other 6 refl j) (record_words_of before) w) s m t model scratch invalid)

module _ (c w s m : List ℕ) (t : List ℤ) (recording : List ℕ) (start end : ℕ) (model : List ℕ) (scratch : List Float) (invalid : ℕ) where
  abbrev outcome : EveningOutcome
  outcome = calibrated (config_of c) (memory (record_of w) s m t) recording start end model scratch

  abbrev x : LentEvening
  x = calibrate_words c w s m t recording start end model scratch invalid

  pub calibrate-unchanged : ConfigWords (config_of c) → AllWords recording → is_unwritten x.answer ≡ true
      → x ≡ lent_evening x.answer w s m t model scratch invalid
  calibrate-unchanged fits words = go (right_words c w)
    where
      go : (b : Bool) → let y = cond b (of_evening w invalid outcome) (lent_evening bad_encoding w s m t model scratch invalid) in
          is_unwritten y.answer ≡ true → y ≡ lent_evening y.answer w s m t model scratch invalid
      go false u = refl
      go true u =
          evening-kept (config_of c) w s m t (window_quotes recording start end) model scratch invalid outcome
          (evening-history (config_of c) fits (memory (record_of w) s m t) recording words start end model scratch) outcome.answer refl u

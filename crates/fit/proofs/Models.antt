-- The table that a fit writes: its rows are the fit's, those of mirrored states are opposite, and a Calibrated row lies inside the quotes. The numbers of a
-- fit's refusals.
use Prim.Native.Nat.{ℕ, zero, suc, ◌+◌, ◌*◌, ◌≤◌, ◌<◌}
use mathlib.Core.Path.{◌≡◌, refl, sym, ap, subst, ◌∙◌}
use mathlib.Core.Bool.{Bool, true, false, not, cond}
use mathlib.Core.List.{List}
use mathlib.Core.Logic.{◌⊎◌, inl, inr}
use native.Mathlib.Nat.{eq-or-lt_of_le, mul_comm}
use native.Mathlib.Numerals.{add-one}
use native.Mathlib.Omega.{arith}
use borrow.Author.Tests.{not-false}
use lib.Dec.{T, eqb}
use lib.IntN.{ℤ}
use lib.ListN.{length, replicate, length-replicate}
use lib.Seq.{sets, length-sets}
use lib.Ieee.{Float, nan, inf, fin, binary64, up, down, lt, le, fits}
use lib.Ieee.Bits.{of_bits-fits}
use lib.Ieee.Fits.{down_pos, add-fits, cond-fits}
use lib.Ieee.Scale.{finite}
use Rattle.basics.proofs.Tests.{zero-not-one}
use Rattle.floats.specs.Floats.{pos_zero, one, abs, half, half_spread, clamp, exact_whole}
use Rattle.floats.proofs.Signs.{abs-plus, plus-finite}
use Rattle.floats.proofs.Whole.{half-exact}
use Rattle.floats.proofs.Within.{value-finite, values-le}
use Rattle.refusals.specs.Refusals.{number_of, refusal, check_number, Check}
use Rattle.std.specs.Prelude.{Ok, Err}
use Rattle.refusals.specs.declared.Refusal.{Refusal}
use Rattle.refusals.proofs.Refusals.{first_fine}
use Rattle.config.specs.Configuration.{states, valid, check_config}
use Rattle.config.proofs.Known.{valid-unrefused}
use Rattle.config.specs.declared.MicroPriceConfig.{MicroPriceConfig}
use Rattle.quotes.specs.States.{mirror_of, spread_in}
use Rattle.quotes.proofs.States.{mirror-below, mirror-keeps-spread}
use Rattle.quotes.proofs.Widths.{width-most}
use Rattle.tally.specs.Rules.{Memory}
use Rattle.calibrator.specs.Record.{Previous}
use Rattle.model.specs.Rows.{row_words, row_at, plus_zeros}
use Rattle.model.specs.declared.StateEstimate.{StateEstimate}
use Rattle.model.proofs.Rows.{Held, row_back, row-elsewhere}
use Rattle.fit_marking.specs.Below.{some_to}
use Rattle.fit_marking.specs.Marks.{Cells}
use Rattle.fit_marking.proofs.Below.{some-not}
use Rattle.fit_linear.specs.Arithmetic.{rounded}
use Rattle.fit_linear.specs.Elimination.{Elimination, solved, singular, matrix_of, gauss_jordan}
use Rattle.fit_linear.proofs.Binary64.{NumbersFit, CellsFit}
use Rattle.fit_series.specs.Series.{Series, converged, not_converged, sum_series, share_after, fallback_within}
use Rattle.fit_system.specs.Rows.{used, system_of}
use Rattle.fit_system.specs.Solution.{Solution, solution, unsolved, summed_up, solution_from, solution_of}
use Rattle.fit_system.proofs.Binary64.{system-solved-fits}
use Rattle.fit_estimates.specs.Estimates.{Given, estimate, representable}
use Rattle.fit.specs.Fit.{Fit, fitted, refused, judged_rows, fit_from, fit_of, given_of, fit_refusal_with, table_of, fit_answer, fit_unless, fitted_with}
use Rattle.fit.specs.Models.{RowsOpposite, Inside, RowOf, Written}
use Rattle.fit.proofs.Judging.{length-table, table_more, table-whole}
use Rattle.fit.proofs.Known.{Fittable, fit-known-with, mirrored-of}
use Rattle.fit.proofs.Opposites.{plus-plus, finite-of, held_of, row-known, row-share, row-fallback, row-outside, row_inside, rows-opposite}

-- ---- the solution

-- a share: clamped, and binary64's
record Clamped (x : Float) : Type 0 where
  of : Float
  is : x ≡ clamp of
  fit : T (fits binary64 x)

-- the shares are such, or the number is 16 to 19
abbrev Kept : Solution → Type 0
Kept (solution G1 sum share) = (i : ℕ) → Clamped (share i)
Kept (unsolved k) = (16 ≤ check_number (refusal k)) × (check_number (refusal k) ≤ 19)

clamp-fits : (x : Float) → T (fits binary64 x) → T (fits binary64 (clamp x))
unfolding clamp
clamp-fits x h =
    cond-fits binary64 (lt x pos_zero) pos_zero (cond (lt one x) one x) (of_bits-fits binary64 0)
    (cond-fits binary64 (lt one x) one x (of_bits-fits binary64 0x3ff0_0000_0000_0000) h)

-- with no round the share is F, with more a sum
share-fits : (n : ℕ) (B : ℕ → ℕ → Float) (F : ℕ → Float) → NumbersFit F → (moves : ℕ) → NumbersFit (share_after rounded n B F moves)
unfolding share_after
share-fits n B F h zero i = h i
share-fits n B F h (suc moves) i = add-fits binary64 (F i) _

share-clamped : (n : ℕ) (B : ℕ → ℕ → Float) (F : ℕ → Float) → NumbersFit F → (moves i : ℕ) → Clamped (fallback_within rounded n B F moves i)
share-clamped n B F h moves i = record { of = share_after rounded n B F moves i; is = refl; fit = clamp-fits _ (share-fits n B F h moves i) }

summed_kept : (G1 share : ℕ → Float) (s : Series Float) → ((i : ℕ) → Clamped (share i)) → Kept (summed_up G1 share s)
summed_kept G1 share (converged sum term) h = h
summed_kept G1 share (not_converged sum term) h = (omega arith, omega arith)

solution-kept : (rounds moves : ℕ) (C : Cells) (total : ℕ → ℤ) → Kept (solution_of rounds moves C total)
unfolding solution_of
solution-kept rounds moves C total = go (gauss_jordan rounded C.states (system_of C total)) (system-solved-fits C total)
  where
    go : (a : Elimination Float) → CellsFit (matrix_of a) → Kept (solution_from C.states rounds moves a)
    go (singular A) h = (omega arith, omega arith)
    go (solved A) h =
        let B : ℕ → ℕ → Float = λ i j. A i (C.states + 2 + j) in
        summed_kept (λ i. A i C.states) _ (sum_series rounded C.states B (λ i. A i C.states) rounds)
        (share-clamped C.states B (λ i. A i (C.states + 1)) (λ i. h i (C.states + 1)) moves)

-- ---- the fit

-- what a fit has found: estimates that can be represented, from a solution
record Found (G : Given) (f : Fit) : Type 0 where
  G1 : ℕ → Float
  sum : ℕ → Float
  share : ℕ → Float
  is : f ≡ fitted (estimate G G1 sum share)
  shares : (i : ℕ) → Clamped (share i)
  held : (i : ℕ) → i < G.cells.states → representable (estimate G G1 sum share i) ≡ true

-- or the number of its refusal
abbrev Ended : Given → Fit → Type 0
Ended G (fitted rows) = Found G (fitted rows)
Ended G (refused k) = (16 ≤ check_number (refusal k)) × (check_number (refusal k) ≤ 19)

judged-ended : (G : Given) (G1 sum share : ℕ → Float) → ((i : ℕ) → Clamped (share i)) → Ended G (judged_rows G.cells.states (estimate G G1 sum share))
unfolding judged_rows
judged-ended G G1 sum share h = go (some_to N (λ i. not (representable (rows i)))) refl (some_to N (λ i. eqb (rows i).status 0))
  where
    N : ℕ
    N = G.cells.states

    rows : ℕ → StateEstimate
    rows = estimate G G1 sum share

    go : (s : Bool) → some_to N (λ i. not (representable (rows i))) ≡ s → (t : Bool) → Ended G (cond s (refused 19) (cond t (fitted rows) (refused 16)))
    go true e t = (omega arith, omega arith)
    go false e true =
        record {
          G1 = G1;
          sum = sum;
          share = share;
          is = refl;
          shares = h;
          held = λ i b. not-false _ (some-not N (λ i. not (representable (rows i))) e i b);
        }
    go false e false = (omega arith, omega arith)

fit-ended : (rounds moves : ℕ) (G : Given) → Ended G (fit_of rounds moves G)
unfolding fit_of
fit-ended rounds moves G =
    go (some_to G.cells.states (used G.cells)) (solution_of rounds moves G.cells G.total) (solution-kept rounds moves G.cells G.total)
  where
    go : (u : Bool) (s : Solution) → Kept s → Ended G (cond u (fit_from G s) (refused 16))
    go true (solution G1 sum share) k = judged-ended G G1 sum share k
    go true (unsolved n) k = k
    go false s k = (omega arith, omega arith)

-- ---- the table

module _ (rows : ℕ → StateEstimate) (l : List ℕ) where
  rows-set : (n : ℕ) → 7 * n ≤ length l → ((i : ℕ) → i < n → Held (rows i)) → (i : ℕ) → i < n → row_at (sets l 0 (table_of n rows)) i ≡ plus_zeros (rows i)
  rows-set zero r h i b = absurd (omega arith)
  rows-set (suc n) r h i b =
      ap (λ (t : List ℕ). row_at t i) (ap (λ (k : ℕ). sets l 0 (table_of k rows)) (sym (add-one n)) ∙ sym (table_more n n rows (rows n) l before refl refl))
      ∙ go (λ g. rows-set n (omega arith) (λ k q. h k (omega arith)) i g) (eq-or-lt_of_le (let q : i ≤ n = omega arith in q))
    where
      before : List ℕ
      before = sets l 0 (table_of n rows)

      go : (i < n → row_at before i ≡ plus_zeros (rows i)) → (i ≡ n) ⊎ (i < n) → row_at (sets before (7 * n) (row_words (rows n))) i ≡ plus_zeros (rows i)
      go earlier (inl e) =
          subst (λ (k : ℕ). row_at (sets before (7 * n) (row_words (rows n))) k ≡ plus_zeros (rows k)) (sym e)
          (row_back before n (rows n) (h n (omega arith)) (omega (arith, length-sets l 0 (table_of n rows))))
      go earlier (inr g) = row-elsewhere before n i (rows n) (λ q. omega arith) ∙ earlier g

table-rows : (n : ℕ) (rows : ℕ → StateEstimate) → ((i : ℕ) → i < n → Held (rows i)) → (i : ℕ) → i < n → row_at (table_of n rows) i ≡ plus_zeros (rows i)
table-rows n rows h i b =
    let l : List ℕ = replicate (7 * n) 0 in
    let long : length l ≡ 7 * n = length-replicate (7 * n) 0 in
    ap (λ (t : List ℕ). row_at t i) (sym (table-whole n rows l long))
    ∙ rows-set rows l n (omega arith) h i b

-- ---- the operation

fine-parts : (k : Check) (n : ℕ) (f : Fit) (t : List ℕ) (l : List Float) → (fit_unless k n f t l).answer ≡ Ok tt → (k ≡ Ok tt) × (fit_answer f ≡ Ok tt)
fine-parts (Ok _) n f t l e = (refl, e)
fine-parts (Err r) n f t l e = absurd (zero-not-one cc)

found_of : (G : Given) (f : Fit) → Ended G f → fit_answer f ≡ Ok tt → Found G f
found_of G (fitted rows) e a = e
found_of G (refused k) e a = let none : check_number (refusal k) ≡ 0 = ap check_number a in absurd (omega (arith, e.0))

inside_of : (c : MicroPriceConfig) (i : ℕ) (x : Float) → c.tick_size * spread_in c.imbalance_buckets i < exact_whole → T (finite x)
    → T (le (abs x) (half_spread c.tick_size (spread_in c.imbalance_buckets i))) → Inside c i x
unfolding abs
inside_of c i nan w f h = absurd f
inside_of c i (inf s) w f h = absurd f
inside_of c i (fin s m d) w f h =
    let width = c.tick_size * spread_in c.imbalance_buckets i in
    record {
      half-most = h;
      num = m * up d;
      den = down d;
      den-some = down_pos d;
      size = (refl, refl);
      inside = rw (mul_comm 2 (m * up d)) (values-le (fin false m d) (half width) (m * up d) (down d) width 2 (refl, refl) (half-exact width w) h);
    }

-- a fit with any number of rounds, of the series and of the share
module _ (rounds moves : ℕ) (c : MicroPriceConfig) (m : Memory Previous) (t₀ : List ℕ) (l : List Float) where
  abbrev G : Given
  G = given_of c m.counts

  abbrev fit : Fit
  fit = fit_of rounds moves G

  abbrev table : List ℕ
  table = (fitted_with rounds moves c m t₀ l).model

  module _ (fine : (fitted_with rounds moves c m t₀ l).answer ≡ Ok tt) where
    parts : (fit_refusal_with rounds moves c m (length l) (length t₀) ≡ Ok tt) × (fit_answer fit ≡ Ok tt)
    parts = fine-parts (fit_refusal_with rounds moves c m (length l) (length t₀)) (states c) fit t₀ l fine

    -- the configuration is valid
    pub fit-valid : valid c ≡ true
    fit-valid = valid-unrefused c (first_fine (check_config c) _ parts.0).0

    known : Fittable c m (length l) (length t₀)
    known = fit-known-with rounds moves c m refl parts.0

    found : Found G fit
    found = found_of G fit (fit-ended rounds moves G) parts.1

    abbrev rows : ℕ → StateEstimate
    rows = estimate G found.G1 found.sum found.share

    table_is : table ≡ table_of (states c) rows
    table_is = λ j. (fit_unless (parts.0 j) (states c) (found.is j) t₀ l).model

    rows_are : (i : ℕ) → i < states c → row_at table i ≡ plus_zeros (rows i)
    rows_are i h =
        ap (λ (t : List ℕ). row_at t i) table_is
        ∙ table-rows (states c) rows (λ k b. held_of G found.G1 found.sum found.share k (found.shares k).fit) i h

    row_of : (i : ℕ) → i < states c → RowOf c i (row_at table i)
    row_of i h =
        let k = row-known G found.G1 found.sum found.share i in
        let f = finite-of (rows i) (found.held i h) in
        let x = found.shares i in
        let s = row-share G found.G1 found.sum found.share i x.of x.is x.fit (found.held i h) in
        subst (RowOf c i) (sym (rows_are i h))
        (record {
          bucket-is = k.0;
          spread-is = k.1;
          status-known = k.2;
          first-finite = plus-finite _ f.first;
          final-finite = plus-finite _ f.final;
          share-finite = plus-finite _ f.share;
          first-plus = plus-plus (rows i).first_adjustment;
          final-plus = plus-plus (rows i).adjustment;
          share-plus = plus-plus (rows i).fallback_within_moves;
          share-least = s.0;
          share-most = s.1;
          share-fallback = row-fallback G found.G1 found.sum found.share i;
          outside =
              λ e. subst (λ (z : Float). T (lt (half_spread c.tick_size (spread_in c.imbalance_buckets i)) z)) (sym (abs-plus (rows i).adjustment))
              (subst T (sym (row-outside G found.G1 found.sum found.share i e)) tt);
        })

    pub table-long : length table ≡ 7 * states c
    table-long = ap length table_is ∙ length-table (states c) rows

    pub fit_written : Written c fit table
    fit_written = record { rows = rows; fit_is = found.is; table_is = table_is; rows_are = rows_are; row_of = row_of }

    -- mirrored states: the same status and observations, opposite adjustments, first and final
    pub fit-mirrors : (i : ℕ) → i < states c → RowsOpposite (row_at table i) (row_at table (mirror_of c.imbalance_buckets i))
    fit-mirrors i h =
        let n = c.imbalance_buckets in
        let v = known.conf in
        let some : 1 ≤ n = omega (arith, v.n-least) in
        let tick = value-finite (half c.tick_size) false c.tick_size 2 (half-exact c.tick_size (omega (arith, v.tick-most))) in
        let o = rows-opposite G found.G1 found.sum found.share (mirrored-of known) tick i h (mirror-keeps-spread n i some) (found.held i h) in
        subst (λ (e : StateEstimate). RowsOpposite e (row_at table (mirror_of n i))) (sym (rows_are i h))
        (subst (λ (e : StateEstimate). RowsOpposite (plus_zeros (rows i)) e) (sym (rows_are (mirror_of n i) (mirror-below n i some c.spread_states h))) o)

    -- a Calibrated state: its adjustment is in size at most half the spread
    pub calibrated-inside : (i : ℕ) → i < states c → (row_at table i).status ≡ 0 → Inside c i (row_at table i).adjustment
    calibrated-inside i h z =
        let width = c.tick_size * spread_in c.imbalance_buckets i in
        let w : width < exact_whole = omega (arith, width-most c known.conf i h) in
        let e = rows_are i h in
        let k = row_inside G found.G1 found.sum found.share i (found.held i h) (value-finite (half width) false width 2 (half-exact width w))
        (sym (ap (λ (x : StateEstimate). x.status) e) ∙ z) in
        inside_of c i (row_at table i).adjustment w (row_of i h).final-finite
        (subst (λ (x : Float). T (le x (half width))) (sym (ap (λ (x : StateEstimate). abs x.adjustment) e ∙ abs-plus (rows i).adjustment)) k)

  -- refused after the checks: 16 to 19
  pub fit-numbers : (r : Refusal) → fit_refusal_with rounds moves c m (length l) (length t₀) ≡ Ok tt → (fitted_with rounds moves c m t₀ l).answer ≡ Err r
      → (16 ≤ number_of r) × (number_of r ≤ 19)
  fit-numbers r k e = go fit (fit-ended rounds moves G) (ap (λ (x : Check). (fit_unless x (states c) fit t₀ l).answer) (sym k) ∙ e)
    where
      go : (f : Fit) → Ended G f → fit_answer f ≡ Err r → (16 ≤ number_of r) × (number_of r ≤ 19)
      go (fitted rows) d a = absurd (zero-not-one cc)
      go (refused n) d a = subst (λ (x : Check). (16 ≤ check_number x) × (check_number x ≤ 19)) a d

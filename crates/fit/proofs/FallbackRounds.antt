-- Rounds of the share: document 02, Q-10. With none the share of a fitted row is F, clamped, or 1 for a fallback state (`zero-moves`). Two fits that succeed
-- with different rounds of the share have tables with all words equal but the shares (`fit-moves`).
use Prim.Native.Nat.{ℕ, zero, suc, ◌+◌, ◌*◌, ◌<◌, ◌≤◌}
use mathlib.Core.Path.{◌≡◌, refl, sym, ap, subst, ◌∙◌}
use mathlib.Core.Bool.{Bool, true, false, not, cond}
use mathlib.Core.List.{List, [], ◌∷◌, ◌++◌}
use mathlib.Core.Logic.{◌⊎◌, inl, inr, ◌≢◌}
use native.Mathlib.Nat.{eq-or-lt_of_le}
use native.Mathlib.Omega.{arith}
use lib.Dec.{eqb}
use lib.ListN.{length, get_or, get_or-append}
use lib.Ieee.{Float}
use Rattle.basics.proofs.Tests.{zero-not-one}
use Rattle.floats.specs.Floats.{one}
use Rattle.std.specs.Prelude.{Ok}
use Rattle.config.specs.Configuration.{states}
use Rattle.config.specs.declared.MicroPriceConfig.{MicroPriceConfig}
use Rattle.tally.specs.Rules.{Memory}
use Rattle.calibrator.specs.Record.{Previous}
use Rattle.model.specs.Rows.{float_word, row_words, row_word}
use Rattle.model.specs.declared.StateEstimate.{StateEstimate}
use Rattle.fit_marking.specs.Below.{some_to}
use Rattle.fit_linear.specs.Arithmetic.{rounded}
use Rattle.fit_linear.specs.Elimination.{Elimination, solved, singular, matrix_of, gauss_jordan}
use Rattle.fit_series.specs.Series.{Series, converged, not_converged, sum_series, share_after, fallback_within}
use Rattle.fit_system.specs.Rows.{used, system_of}
use Rattle.fit_system.specs.Solution.{column_f, Solution, solution, unsolved, summed_up, solution_from, solution_of}
use Rattle.fit_estimates.specs.Estimates.{Given, estimate_of, estimate, representable}
use Rattle.fit.specs.Fit.{Fit, fitted, refused, judged_rows, fit_from, fit_of, given_of, table_of, fit_answer, fitted_with}
use Rattle.fit.specs.Models.{zero_moves_share, SameButShares}
use Rattle.fit.proofs.Ends.{judged-passed}
use Rattle.fit.proofs.Judging.{length-table}
use Rattle.fit.proofs.Models.{fit_written}

-- ---- words of a table

words-past : (l rest : List ℕ) (k d : ℕ) → get_or (l ++ rest) (length l + k) d ≡ get_or rest k d
words-past [] rest k d = ap (λ (n : ℕ). get_or rest n d) (let q : 0 + k ≡ k = omega arith in q)
words-past (x ∷ l) rest k d =
    ap (λ (n : ℕ). get_or (x ∷ l ++ rest) n d) (let q : suc (length l) + k ≡ suc (length l + k) = omega arith in q) ∙ words-past l rest k d

-- word k of row i is that of its row
table-word : (n : ℕ) (rows : ℕ → StateEstimate) (i k : ℕ) → i < n → k < 7 → row_word (table_of n rows) i k ≡ get_or (row_words (rows i)) k 0
table-word zero rows i k h g = absurd (omega arith)
table-word (suc n) rows i k h g = go (λ l. table-word n rows i k l g) (eq-or-lt_of_le (let q : i ≤ n = omega arith in q))
  where
    go : (i < n → row_word (table_of n rows) i k ≡ get_or (row_words (rows i)) k 0) → (i ≡ n) ⊎ (i < n)
        → get_or (table_of n rows ++ row_words (rows n)) (7 * i + k) 0 ≡ get_or (row_words (rows i)) k 0
    go earlier (inl e) =
        ap (λ (w : ℕ). get_or (table_of n rows ++ row_words (rows n)) w 0)
        (let q : 7 * i + k ≡ length (table_of n rows) + k = omega (arith, length-table n rows) in q)
        ∙ words-past (table_of n rows) (row_words (rows n)) k 0
        ∙ ap (λ (j : ℕ). get_or (row_words (rows j)) k 0) (sym e)
    go earlier (inr l) = get_or-append (table_of n rows) (row_words (rows n)) 0 (7 * i + k) (omega (arith, length-table n rows)) ∙ earlier l

-- ---- the share of a fitted row

module _ (rounds moves : ℕ) (G : Given) (rows : ℕ → StateEstimate) where
  abbrev N : ℕ
  N = G.cells.states

  rows-are-judged : (found : ℕ → StateEstimate) → judged_rows N found ≡ fitted rows → found ≡ rows
  rows-are-judged found e = let p : fitted found ≡ fitted rows = sym (judged-passed N found (sym (ap fit_answer e))) ∙ e in cc

  -- the share of a state, of what elimination ends in
  abbrev share_from : Elimination Float → ℕ → Float
  share_from a i =
      cond (used G.cells i) (fallback_within rounded N (λ i j. matrix_of a i (N + 2 + j)) (column_f N (matrix_of a)) moves i) one

  fitted-share : fit_of rounds moves G ≡ fitted rows → (i : ℕ)
      → (rows i).fallback_within_moves ≡ share_from (gauss_jordan rounded N (system_of G.cells G.total)) i
  unfolding fit_of solution_of estimate_of
  fitted-share = go (some_to N (used G.cells)) (gauss_jordan rounded N (system_of G.cells G.total))
    where
      summed : (A : ℕ → ℕ → Float) (s : Series Float)
          → fit_from G (summed_up (λ i. A i N) (fallback_within rounded N (λ i j. A i (N + 2 + j)) (column_f N A) moves) s) ≡ fitted rows → (i : ℕ)
          → (rows i).fallback_within_moves ≡ share_from (solved A) i
      summed A (converged sum term) e i =
          let share = fallback_within rounded N (λ i j. A i (N + 2 + j)) (column_f N A) moves in
          ap (λ (r : ℕ → StateEstimate). (r i).fallback_within_moves) (sym (rows-are-judged (estimate G (λ i. A i N) sum share) e))
      summed A (not_converged sum term) e i = absurd (zero-not-one cc)

      go : (some : Bool) (a : Elimination Float) → cond some (fit_from G (solution_from N rounds moves a)) (refused 16) ≡ fitted rows → (i : ℕ)
          → (rows i).fallback_within_moves ≡ share_from a i
      go true (solved A) e i = summed A (sum_series rounded N (λ i j. A i (N + 2 + j)) (λ i. A i N) rounds) e i
      go true (singular A) e i = absurd (zero-not-one cc)
      go false a e i = absurd (zero-not-one cc)

pub zero-moves : (rounds : ℕ) (c : MicroPriceConfig) (m : Memory Previous) (model : List ℕ) (scratch : List Float)
    → (fitted_with rounds 0 c m model scratch).answer ≡ Ok tt → (i : ℕ) → i < states c
    → row_word (fitted_with rounds 0 c m model scratch).model i 5 ≡ float_word (zero_moves_share (given_of c m.counts) i)
unfolding share_after
zero-moves rounds c m model scratch fine i h =
    let w = fit_written rounds 0 c m model scratch fine in
    ap (λ (t : List ℕ). row_word t i 5) w.table_is
    ∙ table-word (states c) w.rows i 5 h (omega arith)
    ∙ ap float_word (fitted-share rounds 0 (given_of c m.counts) w.rows w.fit_is i)

-- ---- other rounds of the share

-- rows that differ in the share alone
record RowsAlike (e other : StateEstimate) : Type 0 where
  bucket : e.imbalance_bucket ≡ other.imbalance_bucket
  spread : e.spread_ticks ≡ other.spread_ticks
  observed : e.observations ≡ other.observations
  first : e.first_adjustment ≡ other.first_adjustment
  final : e.adjustment ≡ other.adjustment
  status : e.status ≡ other.status

words-same : (e other : StateEstimate) → RowsAlike e other → (k : ℕ) → k < 7 → k ≢ 5 → get_or (row_words e) k 0 ≡ get_or (row_words other) k 0
words-same e other s zero h g = s.bucket
words-same e other s (suc zero) h g = s.spread
words-same e other s (suc (suc zero)) h g = s.observed
words-same e other s (suc (suc (suc zero))) h g = ap float_word s.first
words-same e other s (suc (suc (suc (suc zero)))) h g = ap float_word s.final
words-same e other s (suc (suc (suc (suc (suc zero))))) h g = absurd (g refl)
words-same e other s (suc (suc (suc (suc (suc (suc zero)))))) h g = s.status
words-same e other s (suc (suc (suc (suc (suc (suc (suc k))))))) h g = absurd (omega arith)

-- G1 and the sum are the same, or the number of the refusal is
abbrev SameSolution : Solution → Solution → Type 0
SameSolution (solution G1 sum share) (solution G1' sum' share') = (G1 ≡ G1') × (sum ≡ sum')
SameSolution (solution G1 sum share) (unsolved k) = ⊥
SameSolution (unsolved k) (solution G1 sum share) = ⊥
SameSolution (unsolved k) (unsolved k') = k ≡ k'

-- of two that are fitted
abbrev SameFit : Fit → Fit → Type 0
SameFit (fitted rows) (fitted rows') = (i : ℕ) → RowsAlike (rows i) (rows' i)
SameFit (fitted rows) (refused k) = Unit {0}
SameFit (refused k) f = Unit {0}

module _ (rounds moves moves' : ℕ) where
  solution-alike : (n : ℕ) (a : Elimination Float) → SameSolution (solution_from n rounds moves a) (solution_from n rounds moves' a)
  solution-alike n (singular A) = refl
  solution-alike n (solved A) = go (sum_series rounded n (λ i j. A i (n + 2 + j)) (λ i. A i n) rounds) _ _
    where
      go : (s : Series Float) (share share' : ℕ → Float) → SameSolution (summed_up (λ i. A i n) share s) (summed_up (λ i. A i n) share' s)
      go (converged sum term) share share' = (refl, refl)
      go (not_converged sum term) share share' = refl

  module _ (G : Given) where
    estimates-alike : (G1 sum share share' : ℕ → Float) (i : ℕ) → RowsAlike (estimate G G1 sum share i) (estimate G G1 sum share' i)
    unfolding estimate_of
    estimates-alike G1 sum share share' i = record { bucket = refl; spread = refl; observed = refl; first = refl; final = refl; status = refl }

    judged-alike : (n : ℕ) (rows rows' : ℕ → StateEstimate) → ((i : ℕ) → RowsAlike (rows i) (rows' i)) → SameFit (judged_rows n rows) (judged_rows n rows')
    unfolding judged_rows
    judged-alike n rows rows' h =
        go (some_to n (λ i. not (representable (rows i)))) (some_to n (λ i. eqb ((rows i).status) 0))
        (some_to n (λ i. not (representable (rows' i)))) (some_to n (λ i. eqb ((rows' i).status) 0))
      where
        go : (a b a' b' : Bool) → SameFit (cond a (refused 19) (cond b (fitted rows) (refused 16))) (cond a' (refused 19) (cond b' (fitted rows') (refused 16)))
        go true b a' b' = tt
        go false true true b' = tt
        go false true false true = h
        go false true false false = tt
        go false false a' b' = tt

    from-alike : (s s' : Solution) → SameSolution s s' → SameFit (fit_from G s) (fit_from G s')
    from-alike (solution G1 sum share) (solution G1' sum' share') h =
        subst (λ (g : ℕ → Float). SameFit (fit_from G (solution G1 sum share)) (fit_from G (solution g sum' share'))) h.0
        (subst (λ (u : ℕ → Float). SameFit (fit_from G (solution G1 sum share)) (fit_from G (solution G1 u share'))) h.1
        (judged-alike G.cells.states _ _ (estimates-alike G1 sum share share')))
    from-alike (solution G1 sum share) (unsolved k) h = absurd h
    from-alike (unsolved k) s h = tt

    fit-alike : SameFit (fit_of rounds moves G) (fit_of rounds moves' G)
    unfolding fit_of solution_of
    fit-alike =
        go (some_to G.cells.states (used G.cells)) (solution_of rounds moves G.cells G.total) (solution_of rounds moves' G.cells G.total)
        (solution-alike G.cells.states (gauss_jordan rounded G.cells.states (system_of G.cells G.total)))
      where
        go : (u : Bool) (s s' : Solution) → SameSolution s s' → SameFit (cond u (fit_from G s) (refused 16)) (cond u (fit_from G s') (refused 16))
        go true s s' h = from-alike s s' h
        go false s s' h = tt

  pub fit-moves : (c : MicroPriceConfig) (m : Memory Previous) (model : List ℕ) (scratch : List Float)
      → (fitted_with rounds moves c m model scratch).answer ≡ Ok tt → (fitted_with rounds moves' c m model scratch).answer ≡ Ok tt
      → SameButShares c (fitted_with rounds moves c m model scratch).model (fitted_with rounds moves' c m model scratch).model
  fit-moves c m model scratch h h' i k b g e =
      let w = fit_written rounds moves c m model scratch h in
      let w' = fit_written rounds moves' c m model scratch h' in
      let G = given_of c m.counts in
      let same : SameFit (fitted w.rows) (fitted w'.rows) =
      subst (λ (f : Fit). SameFit f (fitted w'.rows)) w.fit_is (subst (λ (f : Fit). SameFit (fit_of rounds moves G) f) w'.fit_is (fit-alike G)) in
      ap (λ (t : List ℕ). row_word t i k) w.table_is
      ∙ table-word (states c) w.rows i k b g
      ∙ words-same (w.rows i) (w'.rows i) (same i) k g e
      ∙ sym (ap (λ (t : List ℕ). row_word t i k) w'.table_is ∙ table-word (states c) w'.rows i k b g)

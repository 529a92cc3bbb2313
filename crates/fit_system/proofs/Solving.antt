-- What elimination, series and share leave in scratch is the solution of the definition.
use Prim.Native.Nat.{ℕ, ◌+◌, ◌*◌, ◌<◌}
use mathlib.Core.Path.{◌≡◌, refl, sym, ◌∙◌}
use mathlib.Core.List.{List}
use mathlib.Core.Logic.{inl, ◌≢◌}
use native.Mathlib.Omega.{arith}
use lib.IntN.{ℤ}
use lib.Ieee.{Float}
use Rattle.std.specs.Prelude.{⊤, Result, Ok, Err}
use Rattle.refusals.specs.Refusals.{refusal}
use Rattle.refusals.specs.declared.Refusal.TheVariants.{SingularTransitions, NotConverged}
use Rattle.fit_marking.specs.Marks.{Cells}
use Rattle.fit_linear.specs.Arithmetic.{rounded}
use Rattle.fit_linear.specs.Elimination.{Elimination, solved, singular, matrix_of, gauss_jordan}
use Rattle.fit_series.specs.Series.{Series, converged, not_converged, series_sum, sum_series, fallback_within}
use Rattle.fit_linear.specs.Inner.{float_at, rows_of, solve_of, Becomes, Eliminated}
use Rattle.fit_series.specs.Inner.{width, sum_at, solved_g1, solved_f, solved_b, sum_answer, Summed, last_product, Shared}
use Rattle.fit_linear.specs.declared.Singular.{Singular}
use Rattle.fit_series.specs.declared.NotConverged.{NotConverged as NoSum}
use Rattle.basics.proofs.Tests.{zero-not-one, row_in}
use Rattle.fit_linear.proofs.Cells.{eliminated-of}
use Rattle.fit_series.proofs.Rounds.{summed-of, shared_of}
use Rattle.fit_system.specs.Rows.{system_of}
use Rattle.fit_system.specs.Solution.{Solution, solution, unsolved, summed_up, solution_from, solution_of}
use Rattle.fit_system.specs.Inner.{Stands, SolvedIn}

-- ---- by the answers of the parts

from-singular : (N rounds moves : ℕ) (a : Elimination Float) → Err (record {}) ≡ solve_of a → solution_from N rounds moves a ≡ unsolved 17
from-singular N rounds moves (singular A) e = refl
from-singular N rounds moves (solved A) e = absurd (zero-not-one cc)

module _ (N rounds moves : ℕ) (a : Elimination Float) where
  G1 : ℕ → Float
  G1 i = matrix_of a i N

  F : ℕ → Float
  F i = matrix_of a i (N + 1)

  B : ℕ → ℕ → Float
  B i j = matrix_of a i (N + 2 + j)

  series : Series Float
  series = sum_series rounded N B G1 rounds

  share : ℕ → Float
  share = fallback_within rounded N B F moves

  from-solved : Ok tt ≡ solve_of a → solution_from N rounds moves a ≡ summed_up G1 share series
  unfolding G1 F B series share
  from-solved e = go a e
    where
      go : (a : Elimination Float) → Ok tt ≡ solve_of a
          → solution_from N rounds moves a ≡ summed_up (λ i. matrix_of a i N)
          (fallback_within rounded N (λ i j. matrix_of a i (N + 2 + j)) (λ i. matrix_of a i (N + 1)) moves)
          (sum_series rounded N (λ i j. matrix_of a i (N + 2 + j)) (λ i. matrix_of a i N) rounds)
      go (solved A) e = refl
      go (singular A) e = absurd (zero-not-one cc)

not-summed : (g h : ℕ → Float) (s : Series Float) → Err (record {}) ≡ sum_answer s → summed_up g h s ≡ unsolved 18
not-summed g h (not_converged sum term) e = refl
not-summed g h (converged sum term) e = absurd (zero-not-one cc)

is-summed : (g h : ℕ → Float) (s : Series Float) → Ok tt ≡ sum_answer s → summed_up g h s ≡ solution g (series_sum s) h
is-summed g h (converged sum term) e = refl
is-summed g h (not_converged sum term) e = absurd (zero-not-one cc)

-- ---- where there is no solution something is refused

abbrev pub SolvedOrRefused : Solution → Type 0
SolvedOrRefused (solution G1 sum share) = Unit {0}
SolvedOrRefused (unsolved k) = refusal k ≢ (Ok tt)

pub solved-or-refused : (rounds moves : ℕ) (C : Cells) (total : ℕ → ℤ) → SolvedOrRefused (solution_of rounds moves C total)
unfolding solution_of
solved-or-refused rounds moves C total = go (gauss_jordan rounded C.states (system_of C total))
  where
    summed : (g h : ℕ → Float) (s : Series Float) → SolvedOrRefused (summed_up g h s)
    summed g h (converged sum term) = tt
    summed g h (not_converged sum term) = λ e. zero-not-one cc

    go : (a : Elimination Float) → SolvedOrRefused (solution_from C.states rounds moves a)
    go (singular A) = λ e. zero-not-one cc
    go (solved A) = summed (λ i. A i C.states) _ (sum_series rounded C.states (λ i j. A i (C.states + 2 + j)) (λ i. A i C.states) rounds)

-- ---- in scratch

module _ (rounds moves : ℕ) (C : Cells) (total : ℕ → ℤ) (l₀ l m : List Float) (b : Becomes C.states (width C.states) (system_of C total) l₀ l) where
  N : ℕ
  N = C.states

  a : Elimination Float
  a = gauss_jordan rounded C.states (system_of C total)

  eliminated : (x : Result ⊤ Singular) → Eliminated C.states (width C.states) (gauss_jordan rounded C.states (rows_of (width C.states) l)) l x m
      → Eliminated C.states (width C.states) (gauss_jordan rounded C.states (system_of C total)) l x m
  eliminated x e = eliminated-of C.states (width C.states) (omega arith) l m x (system_of C total) b.cells e

  pub solved-singular : Eliminated C.states (width C.states) (gauss_jordan rounded C.states (rows_of (width C.states) l)) l (Err (record {})) m
      → SolvedIn C.states (solution_of rounds moves C total) (Err SingularTransitions) m
  unfolding solution_of
  solved-singular e =
      rw (from-singular C.states rounds moves (gauss_jordan rounded C.states (system_of C total)) (eliminated (Err (record {})) e).answers)
      (record { answers = refl; stands = tt })

  module _ (e : Eliminated C.states (width C.states) (gauss_jordan rounded C.states (rows_of (width C.states) l)) l (Ok tt) m) where
    is-solved : solution_of rounds moves C total ≡ summed_up (G1 N rounds moves a) (share N rounds moves a) (series N rounds moves a)
    unfolding solution_of N a
    is-solved = from-solved C.states rounds moves (gauss_jordan rounded C.states (system_of C total)) (eliminated (Ok tt) e).answers

    cell : (i k : ℕ) → i < C.states → k < width C.states → rows_of (width C.states) m i k ≡ matrix_of a i k
    unfolding a
    cell = (eliminated (Ok tt) e).becomes.cells

    module _ (s : List Float) (x : Result ⊤ NoSum)
        (q : Summed C.states rounds (sum_series rounded C.states (solved_b C.states m) (solved_g1 C.states m) rounds) m x s) where
      sum_is : Summed C.states rounds (series N rounds moves a) m x s
      unfolding series B G1 N
      sum_is =
          summed-of C.states rounds m s x _ _ (λ i j h g. cell i (C.states + 2 + j) h (omega arith)) (λ i h. cell i C.states h (omega arith)) q

      pub solved-not-summed : x ≡ Err (record {}) → SolvedIn C.states (solution_of rounds moves C total) (Err NotConverged) s
      solved-not-summed h =
          rw (is-solved ∙ not-summed (G1 N rounds moves a) (share N rounds moves a) (series N rounds moves a) (sym h ∙ sum_is.answers))
          (record { answers = refl; stands = tt })

      -- places in the rows stay
      row_stays : (i : ℕ) → i < C.states * width C.states → float_at s i ≡ float_at m i
      row_stays i h = sum_is.elsewhere i (inl h) (inl (omega arith))

      cell' : (i k : ℕ) → i < C.states → k < width C.states → rows_of (width C.states) s i k ≡ matrix_of a i k
      cell' i k h g = row_stays (i * width C.states + k) (omega (arith, row_in i C.states (width C.states) h)) ∙ cell i k h g

      module _
          (t : List Float)
          (p : Shared C.states moves (fallback_within rounded C.states (solved_b C.states s) (solved_f C.states s) moves)
          (last_product C.states (solved_b C.states s) (solved_f C.states s) moves) s t) where
        share-is : Shared C.states moves (share N rounds moves a) (last_product N (B N rounds moves a) (F N rounds moves a) moves) s t
        unfolding share B F N
        share-is =
            shared_of C.states moves s _ _ (λ i j h g. cell' i (C.states + 2 + j) h (omega arith)) (λ i h. cell' i (C.states + 1) h (omega arith)) t p

        pub solved-summed : x ≡ Ok tt → SolvedIn C.states (solution_of rounds moves C total) (Ok tt) t
        unfolding G1 N
        solved-summed h =
            rw (is-solved ∙ is-summed (G1 N rounds moves a) (share N rounds moves a) (series N rounds moves a) (sym h ∙ sum_is.answers))
            (record { answers = refl; stands = stands })
          where
            stands : Stands C.states (G1 N rounds moves a) (series_sum (series N rounds moves a)) (share N rounds moves a) t
            stands =
                record {
                  first = λ k g.
                      share-is.elsewhere (k * width C.states + C.states) (inl (omega (arith, row_in k C.states (width C.states) g)))
                      (inl (omega (arith, row_in k C.states (width C.states) g)))
                      ∙ cell' k C.states g (omega arith);
                  sums = λ k g. share-is.elsewhere (sum_at C.states + k) (inl (omega arith)) (inl (omega arith)) ∙ sum_is.sums k g;
                  shares = share-is.shares;
                }

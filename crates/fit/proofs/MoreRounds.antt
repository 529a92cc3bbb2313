-- More rounds of the series, up to the limit: a fit that answers anything but 18 and 26 has the same outcome with them, model table and scratch included.
use Prim.Native.Nat.{ℕ, ◌≤◌}
use mathlib.Core.Path.{◌≡◌, refl, ap, ◌∙◌}
use mathlib.Core.Bool.{Bool, true, false, cond}
use mathlib.Core.List.{List}
use mathlib.Core.Logic.{◌≢◌}
use lib.ListN.{length}
use lib.Ieee.{Float}
use Rattle.refusals.specs.Refusals.{refusal, refuse_if, first_of, Check}
use Rattle.std.specs.Prelude.{Ok, Err}
use Rattle.config.specs.Configuration.{states, check_config}
use Rattle.config.specs.declared.MicroPriceConfig.{MicroPriceConfig}
use Rattle.tally.specs.Rules.{Memory}
use Rattle.calibrator.specs.Record.{Previous}
use Rattle.fit_rounds.specs.Rounds.{most_series_rounds, wrong_rounds}
use Rattle.fit_rounds.proofs.Ranges.{rounds-more}
use Rattle.fit_marking.specs.Below.{some_to}
use Rattle.fit_system.specs.Rows.{used}
use Rattle.fit_system.specs.Solution.{solution_of}
use Rattle.fit_system.proofs.MoreRounds.{solution-more}
use Rattle.fit_estimates.specs.Estimates.{Given}
use Rattle.fit.specs.Fit.{Fit, refused, fit_from, fit_of, given_of, fit_refusal, fit_answer, FitOutcome, fit_unless, fitted_with}

module _ (r r' moves : ℕ) (fewer : r ≤ r') where
  fit-of-more : (G : Given) → fit_of r moves G ≢ refused 18 → fit_of r' moves G ≡ fit_of r moves G
  unfolding fit_of
  fit-of-more G = go (some_to G.cells.states (used G.cells))
    where
      -- with so many rounds, where a state is Calibrated or none is
      tried : Bool → ℕ → Fit
      tried some rounds = cond some (fit_from G (solution_of rounds moves G.cells G.total)) (refused 16)

      go : (some : Bool) → tried some r ≢ refused 18 → tried some r' ≡ tried some r
      go true h = ap (fit_from G) (solution-more r r' fewer moves G.cells G.total (λ e. h (ap (fit_from G) e)))
      go false h = refl

  -- the rounds of the share equal
  pub fit-more : r' ≤ most_series_rounds → (c : MicroPriceConfig) (m : Memory Previous) (model : List ℕ) (scratch : List Float)
      → (fitted_with r moves c m model scratch).answer ≢ refusal 18
      → (fitted_with r moves c m model scratch).answer ≢ refusal 26
      → fitted_with r' moves c m model scratch ≡ fitted_with r moves c m model scratch
  fit-more limit c m model scratch = go (check_config c) (wrong_rounds r moves) (wrong_rounds r' moves) (rounds-more r r' moves fewer limit)
    where
      G : Given
      G = given_of c m.counts

      -- with so many rounds, where the configuration is found such and the rounds wrong or not
      tried : Check → Bool → ℕ → FitOutcome
      tried valid wrong rounds =
          fit_unless (first_of valid (first_of (refuse_if wrong 26) (fit_refusal c m (length scratch) (length model)))) (states c) (fit_of rounds moves G) model
          scratch

      judged : (k : Check) → (fit_unless k (states c) (fit_of r moves G) model scratch).answer ≢ refusal 18
          → fit_unless k (states c) (fit_of r' moves G) model scratch ≡ fit_unless k (states c) (fit_of r moves G) model scratch
      judged (Ok _) h = ap (λ (f : Fit). fit_unless (Ok tt) (states c) f model scratch) (fit-of-more G (λ e. h (ap fit_answer e)))
      judged (Err x) h = refl

      go : (valid : Check) (wrong wrong' : Bool) → (wrong ≡ false → wrong' ≡ false)
          → (tried valid wrong r).answer ≢ refusal 18 → (tried valid wrong r).answer ≢ refusal 26 → tried valid wrong' r' ≡ tried valid wrong r
      go (Err x) wrong wrong' kept h h' = refl
      go (Ok _) true wrong' kept h h' = absurd (h' refl)
      go (Ok _) false wrong' kept h h' =
          ap (λ (b : Bool). tried (Ok tt) b r') (kept refl) ∙ judged (fit_refusal c m (length scratch) (length model)) h

-- The ranges of the rounds as facts on numbers, and what is judged at their ends.
use Prim.Native.Nat.{ℕ, ◌+◌, ◌-◌, ◌^◌, ◌≤◌}
use mathlib.Core.Path.{◌≡◌, refl}
use mathlib.Core.Bool.{true, false, ◌||◌}
use mathlib.Core.List.{[], ◌∷◌, map}
use native.Mathlib.Omega.{arith}
use borrow.Author.Tests.{ltb-false, le-ltb}
use lib.Dec.{ltb}
use Rattle.basics.proofs.Tests.{neither}
use Rattle.fit_rounds.specs.Rounds.{default_series_rounds, default_fallback_rounds, most_series_rounds, most_fallback_rounds, wrong_rounds}

pub record InRange (series fallback : ℕ) : Type 0 where
  pub some : 1 ≤ series
  pub series-most : series ≤ most_series_rounds
  pub fallback-most : fallback ≤ most_fallback_rounds

pub rounds-known : (series fallback : ℕ) → wrong_rounds series fallback ≡ false → InRange series fallback
rounds-known series fallback e =
    let a = neither (ltb series 1 || ltb most_series_rounds series) (ltb most_fallback_rounds fallback) e in
    let b = neither (ltb series 1) (ltb most_series_rounds series) a.0 in
    record {
      some = ltb-false series 1 b.0;
      series-most = ltb-false most_series_rounds series b.1;
      fallback-most = ltb-false most_fallback_rounds fallback a.1;
    }

pub rounds-fine : (series fallback : ℕ) → InRange series fallback → wrong_rounds series fallback ≡ false
rounds-fine series fallback r =
    rw (le-ltb series 1 r.some, le-ltb most_series_rounds series r.series-most, le-ltb most_fallback_rounds fallback r.fallback-most)

-- more series rounds, up to the limit
pub rounds-more : (series more fallback : ℕ) → series ≤ more → more ≤ most_series_rounds → wrong_rounds series fallback ≡ false
    → wrong_rounds more fallback ≡ false
rounds-more series more fallback h limit e =
    let r = rounds-known series fallback e in
    rounds-fine more fallback (record { some = omega (arith, r.some); series-most = limit; fallback-most = r.fallback-most })

-- ---- at the ends of the ranges

pub record EndsJudged : Type 0 where
  pub series : map (λ r. wrong_rounds r 0) (0 ∷ 1 ∷ 10000 ∷ 10001 ∷ (2 ^ 32 + 1) ∷ (2 ^ 64 - 1) ∷ []) ≡ true ∷ false ∷ false ∷ true ∷ true ∷ true ∷ []
  pub fallback : map (wrong_rounds 1) (0 ∷ 100 ∷ 101 ∷ (2 ^ 64 - 1) ∷ []) ≡ false ∷ false ∷ true ∷ true ∷ []
  pub defaults : wrong_rounds default_series_rounds default_fallback_rounds ≡ false

pub ends-judged : EndsJudged
ends-judged = record { series = refl; fallback = refl; defaults = refl }

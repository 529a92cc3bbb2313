-- What is known where nothing before 16 refuses.
use Prim.Native.Nat.{ℕ, ◌+◌, ◌*◌, ◌≤◌, ◌<◌}
use mathlib.Core.Path.{◌≡◌, refl, sym, ap, ◌∙◌}
use mathlib.Core.Bool.{Bool, true, false, not, ◌||◌}
use mathlib.Core.List.{List}
use native.Mathlib.Omega.{arith}
use borrow.Author.Tests.{eqb-true, ltb-false, not-false, leb-true, le-leb, lt-ltb}
use lib.Dec.{eqb}
use lib.IntN.{ℤ, pos, negsuc, nat_abs}
use lib.ListN.{length, get_or, replicate}
use lib.Ieee.{Float, binary64, in_float}
use Rattle.floats.specs.Floats.{pos_zero, exact_whole}
use Rattle.basics.specs.Lists.{any, sum}
use Rattle.basics.proofs.Tests.{both, neither}
use Rattle.basics.proofs.Anys.{none-at}
use Rattle.basics.specs.Domain.{counter_limit, cell_limit}
use Rattle.refusals.specs.Refusals.{refuse_if, first_of, first_from, Check}
use Rattle.std.specs.Prelude.{Ok, Err}
use Rattle.refusals.proofs.Refusals.{if-fine, first_fine, from-fine}
use Rattle.config.specs.Configuration.{states, check_config}
use Rattle.config.specs.Inner.{Valid}
use Rattle.config.specs.declared.MicroPriceConfig.{MicroPriceConfig}
use Rattle.quotes.specs.States.{mirror_of}
use Rattle.quotes.proofs.States.{mirror-below, mirror-involution}
use Rattle.tally.specs.Entries.{over_total}
use Rattle.tally.specs.Events.{Counts}
use Rattle.tally.specs.Limits.{over_counter}
use Rattle.tally.specs.Rules.{Memory}
use Rattle.calibrator.specs.Observe.{check_memory}
use Rattle.calibrator.specs.Record.{Previous}
use Rattle.calibrator.proofs.Lengths.{tables-known, lengths-known}
use Rattle.count_check.specs.Mirrors.{stored_over, total_mirrored, cells_alike, cell_mirrored, row_mirrored, check_state, is_twice, check_mirrored}
use Rattle.count_check.proofs.Walks.{all-at}
use Rattle.fit_rounds.specs.Rounds.{default_series_rounds, default_fallback_rounds, wrong_rounds}
use Rattle.fit_marking.specs.Mirror.{CellsMirror}
use Rattle.fit_system.specs.Inner.{Exact}
use Rattle.fit_system.specs.Rows.{total_of}
use Rattle.fit.specs.Fit.{fit_of, given_of, wrong_fit_lengths, fit_refusal, fit_refusal_with, end_fit, fit_unless, fitted_with}
use Rattle.fit.specs.Inner.{given_in, Usable, FitEnds}
use Rattle.fit.proofs.Ends.{ends_same}

-- a total within its limit is exact as a float
total-exact : (z : ℤ) → over_total z ≡ false → in_float binary64 z ≡ true
unfolding in_float
total-exact (pos n) e = le-leb n exact_whole (leb-true n cell_limit (not-false _ e))
total-exact (negsuc n) e = lt-ltb n exact_whole (leb-true (nat_abs (negsuc n)) cell_limit (not-false _ e))

pub record Fittable (c : MicroPriceConfig) (m : Memory Previous) (scratch model : ℕ) : Type 0 where
  pub conf : Valid c
  pub stay-cells : length m.counts.tables.stay ≡ states c * states c
  pub moved-cells : length m.counts.tables.moved ≡ states c * states c
  pub totals-cells : length m.counts.tables.totals ≡ states c
  pub scratch-long : scratch ≡ states c * (2 * states c + 10)
  pub model-long : model ≡ 7 * states c
  pub mirrored : check_mirrored c m.counts ≡ Ok tt

pub fit-known : (c : MicroPriceConfig) (m : Memory Previous) (scratch model : ℕ) → fit_refusal c m scratch model ≡ Ok tt → Fittable c m scratch model
fit-known c m scratch model e =
    let s = length m.counts.tables.stay in
    let d = length m.counts.tables.moved in
    let t = length m.counts.tables.totals in
    let a = first_fine (check_memory c m) (first_of (refuse_if (wrong_fit_lengths (states c) scratch model) 7) (check_mirrored c m.counts)) e in
    let b = first_fine (refuse_if (wrong_fit_lengths (states c) scratch model) 7) (check_mirrored c m.counts) a.1 in
    let r = tables-known c s d t a.0 in
    let z = lengths-known (states c) s d t r.1 in
    let w = neither (not (eqb scratch (states c * (2 * states c + 10)))) (not (eqb model (7 * states c))) (if-fine _ 7 refl b.0) in
    record {
      conf = r.0;
      stay-cells = z.stay-cells;
      moved-cells = z.moved-cells;
      totals-cells = z.totals-cells;
      scratch-long = eqb-true scratch (states c * (2 * states c + 10)) (not-false _ w.0);
      model-long = eqb-true model (7 * states c) (not-false _ w.1);
      mirrored = b.1;
    }

-- ---- with rounds

module _ (rounds moves : ℕ) (c : MicroPriceConfig) (m : Memory Previous) (scratch model : ℕ) where
  -- rounds in their ranges: the refusals are those of `fit_refusal`
  pub in-range-refusal : wrong_rounds rounds moves ≡ false → fit_refusal_with rounds moves c m scratch model ≡ fit_refusal c m scratch model
  in-range-refusal e =
      ap (λ (b : Bool). first_of (check_config c) (first_of (refuse_if b 26) (fit_refusal c m scratch model))) e ∙ go (check_config c) _ _
    where
      go : (k lengths rest : Check) → first_of k (first_of (first_of k lengths) rest) ≡ first_of (first_of k lengths) rest
      go (Ok _) lengths rest = refl
      go (Err r) lengths rest = refl

  pub with-known : fit_refusal_with rounds moves c m scratch model ≡ Ok tt → (wrong_rounds rounds moves ≡ false) × (fit_refusal c m scratch model ≡ Ok tt)
  with-known e =
      let a = first_fine (refuse_if (wrong_rounds rounds moves) 26) (fit_refusal c m scratch model) (first_fine (check_config c) _ e).1 in
      (if-fine (wrong_rounds rounds moves) 26 refl a.0, a.1)

-- of what `check_fit` answers
pub fit-known-with : (rounds moves : ℕ) (c : MicroPriceConfig) (m : Memory Previous) {scratch model : ℕ} {k : Check}
    → k ≡ fit_refusal_with rounds moves c m scratch model → k ≡ Ok tt → Fittable c m scratch model
fit-known-with rounds moves c m {scratch} {model} is fine = fit-known c m scratch model (with-known rounds moves c m scratch model (sym is ∙ fine)).1

-- at the defaults
pub default-refusal : (c : MicroPriceConfig) (m : Memory Previous) (scratch model : ℕ)
    → fit_refusal_with default_series_rounds default_fallback_rounds c m scratch model ≡ fit_refusal c m scratch model
default-refusal c m scratch model = in-range-refusal default_series_rounds default_fallback_rounds c m scratch model refl

-- 6 and 11: the cells together are at most twice the limit of pairs, each total within its limit
pub record Limited (k : Counts) : Type 0 where
  pub cells-most : sum k.tables.stay + sum k.tables.moved ≤ 2 * counter_limit
  pub totals-most : any over_total k.tables.totals ≡ false

pub limited-of : (c : MicroPriceConfig) (k : Counts) → check_mirrored c k ≡ Ok tt → Limited k
limited-of c k e =
    let walk = first_from (check_state (states c) (mirror_of c.imbalance_buckets) k.tables) 0 (states c) in
    let a = first_fine (refuse_if (stored_over k) 6) (first_of walk (refuse_if (not (is_twice k.pairs k.tables)) 11)) e in
    let b = first_fine walk (refuse_if (not (is_twice k.pairs k.tables)) 11) a.1 in
    let o = neither (over_counter k.pairs || any over_counter k.skips) (any over_total k.tables.totals) (if-fine _ 6 refl a.0) in
    let p = ltb-false counter_limit k.pairs (neither (over_counter k.pairs) (any over_counter k.skips) o.0).0 in
    let t = eqb-true (sum k.tables.stay + sum k.tables.moved) (2 * k.pairs) (not-false _ (if-fine _ 11 refl b.1)) in
    record { cells-most = omega arith; totals-most = o.1 }

-- 10: the cells equal their mirrors'
pub mirrored-of : {c : MicroPriceConfig} {m : Memory Previous} {scratch model : ℕ} → Fittable c m scratch model
    → CellsMirror (given_of c m.counts).cells (mirror_of c.imbalance_buckets)
mirrored-of {c} {m} f =
    let n = c.imbalance_buckets in
    let some : 1 ≤ n = omega (arith, f.conf.n-least) in
    record {
      mirror-below = λ i h. mirror-below n i some c.spread_states h;
      mirror-twice = λ i h. mirror-involution n i some;
      stay-mirrored = λ i j hi hj. sym (eqb-true _ _ (cells i j hi hj).0);
      moved-mirrored = λ i j hi hj. sym (eqb-true _ _ (cells i j hi hj).1);
    }
  where
    N : ℕ
    N = states c

    mirror : ℕ → ℕ
    mirror = mirror_of c.imbalance_buckets

    k : Counts
    k = m.counts

    walked : (i : ℕ) → i < N → check_state N mirror k.tables i ≡ Ok tt
    walked i h =
        let walk = first_from (check_state N mirror k.tables) 0 N in
        let a = first_fine (refuse_if (stored_over k) 6) (first_of walk (refuse_if (not (is_twice k.pairs k.tables)) 11)) f.mirrored in
        let b = first_fine walk (refuse_if (not (is_twice k.pairs k.tables)) 11) a.1 in
        from-fine (check_state N mirror k.tables) 0 N b.0 i (omega arith) (omega arith)

    cells : (i j : ℕ) → i < N → j < N
        → (cells_alike k.tables.stay (i * N + j) (mirror i * N + mirror j) ≡ true)
        × (cells_alike k.tables.moved (i * N + j) (mirror i * N + mirror j) ≡ true)
    cells i j hi hj =
        let row = (first_fine (refuse_if (not (total_mirrored k.tables.totals i (mirror i))) 9) (refuse_if (not (row_mirrored N mirror k.tables i)) 10)
        (walked i hi)).1 in
        both _ _ (all-at (cell_mirrored N mirror k.tables i) 0 N j (not-false _ (if-fine _ 10 refl row)) (omega arith) (omega arith))

pub exact-of : {c : MicroPriceConfig} {m : Memory Previous} {scratch model : ℕ} → Fittable c m scratch model
    → Exact (states c) m.counts.tables.stay m.counts.tables.moved m.counts.tables.totals
exact-of {c} {m} f =
    let l = limited-of c m.counts f.mirrored in
    record {
      few = f.conf.states-most;
      cells = record { stay-cells = f.stay-cells; moved-cells = f.moved-cells; cells-sum = l.cells-most };
      totals-long = f.totals-cells;
      totals-exact =
          λ i h. total-exact (total_of m.counts.tables.totals i)
          (none-at over_total (pos 0) m.counts.tables.totals l.totals-most i (rw f.totals-cells h));
    }

pub usable-of : {c : MicroPriceConfig} {m : Memory Previous} {scratch model : ℕ} → Fittable c m scratch model → (ms : List ℕ) → 256 ≤ length ms
    → ((i : ℕ) → i < states c → get_or ms i 0 ≡ mirror_of c.imbalance_buckets i)
    → Usable (states c) c.imbalance_buckets c.tick_size m.counts.tables.stay m.counts.tables.moved ms
usable-of {c} {m} f ms h e =
    let v = f.conf in
    record {
      few = v.states-most;
      cells = (exact-of f).cells;
      mirrors-long = omega (arith, v.states-most);
      mirrors-below = λ i l. rw (e i l) (mirror-below c.imbalance_buckets i (omega (arith, v.n-least)) c.spread_states l);
      some-buckets = omega (arith, v.n-least);
      tick-most = v.tick-most;
    }

-- ---- the whole

pub whole : (rounds moves : ℕ) (c : MicroPriceConfig) (m : Memory Previous) (model after : List ℕ) (scratch left : List Float) (r : Check) (n : ℕ) (ms : List ℕ)
    → n ≡ states c
    → fit_refusal_with rounds moves c m (length scratch) (length model) ≡ Ok tt
    → ((i : ℕ) → i < states c → get_or ms i 0 ≡ mirror_of c.imbalance_buckets i)
    → FitEnds n
    (fit_of rounds moves
    (given_in n c.imbalance_buckets c.tick_size c.min_state_observations m.counts.tables.stay m.counts.tables.moved
    m.counts.tables.totals ms)) model r after
    → left ≡ replicate (length scratch) pos_zero
    → end_fit r after left ≡ fitted_with rounds moves c m model scratch
whole rounds moves c m model after scratch left r n ms is-n fine same ends clean =
    let G = given_in (states c) c.imbalance_buckets c.tick_size c.min_state_observations m.counts.tables.stay m.counts.tables.moved
    m.counts.tables.totals ms in
    let f = ends_same G (mirror_of c.imbalance_buckets) same rounds moves model after r (rw is-n at ends) in
    (λ j. end_fit (f.answers j) (f.models j) (clean j))
    ∙ sym (ap (λ k. fit_unless k (states c) (fit_of rounds moves (given_of c m.counts)) model scratch) fine)

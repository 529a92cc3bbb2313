-- Estimates of a state and of its mirror, whatever floats the solution has.
use Prim.Native.Nat.{ℕ, zero, suc, ◌*◌, ◌≤◌, ◌<◌}
use mathlib.Core.Path.{◌≡◌, refl, sym, ap, subst, ◌∙◌}
use mathlib.Core.Bool.{Bool, true, false, cond, ◌&&◌, false≢true}
use mathlib.Core.Logic.{◌≢◌, ◌⊎◌, inl, inr}
use native.Mathlib.Nat.{zero-mul, mul-pos, zero-lt-suc}
use native.Mathlib.Omega.{arith}
use lib.Dec.{T}
use lib.IntN.{pos}
use lib.Ieee.{Float, nan, inf, fin, binary64, up, down, neg, sub, mul, div, lt, le, eq, fits, unlike, of_bits}
use lib.Ieee.Bits.{of_bits-fits}
use lib.Ieee.Fits.{down_pos, mul-fits, cond-fits}
use lib.Ieee.Scale.{finite}
use Rattle.basics.proofs.Tests.{both}
use Rattle.floats.specs.Floats.{pos_zero, one, two, clamp, abs, plus_zero, half_tick, half_spread}
use Rattle.floats.proofs.Helpers.{plus-zero, plus-other}
use Rattle.floats.proofs.Order.{not-below}
use Rattle.floats.proofs.Signs.{mul-neg, div-neg, round-zero, sub-turned, abs_neg, abs-finite, plus-neg-plus, plus-sum-zero}
use Rattle.floats.proofs.Within.{finite-no-nan}
use Rattle.model.specs.Rows.{plus_zeros}
use Rattle.model.specs.Status.{status_number, is_calibrated}
use Rattle.model.specs.declared.StateEstimate.{StateEstimate}
use Rattle.model.specs.declared.StateStatus.{StateStatus}
use Rattle.model.specs.declared.StateStatus.TheVariants.{Calibrated, Rare, NoPriceMove, OutsideQuotes}
use Rattle.model.proofs.Rows.{Held}
use Rattle.fit_marking.specs.Marks.{Cells, not_rare, reaches_in, mark_of}
use Rattle.fit_marking.specs.Mirror.{CellsMirror}
use Rattle.fit_marking.proofs.Mirror.{observations-mirrored, mark-mirrored}
use Rattle.fit_estimates.specs.Estimates.{Given, adjusted, judged, estimate_of, estimate, small, representable}
use Rattle.fit.specs.Models.{Opposite, RowsOpposite}

-- ---- floats

small-finite : (x : Float) → small x ≡ true → T (finite x)
unfolding abs lt of_bits
small-finite nan h = absurd (false≢true h)
small-finite (inf s) h = absurd (false≢true h)
small-finite (fin s m e) h = tt

pub plus-plus : (x : Float) → plus_zero (plus_zero x) ≡ plus_zero x
unfolding plus_zero
plus-plus nan = refl
plus-plus (inf s) = refl
plus-plus (fin s zero e) = refl
plus-plus (fin s (suc m) e) = refl

zero-half : div binary64 (fin false 0 (pos 0)) two ≡ fin false 0 (pos 0)
unfolding div of_bits
zero-half = refl

zero-times : (h : Float) → T (finite h) → (s : Bool) × (mul binary64 (fin false 0 (pos 0)) h ≡ fin s 0 (pos 0))
unfolding mul
zero-times nan p = absurd p
zero-times (inf s) p = absurd p
zero-times (fin s m e) p = (unlike false s, rw (zero-mul (m * up e)) (round-zero binary64 (unlike false s) (1 * down e) (mul-pos (zero-lt-suc 0) (down_pos e))))

adjusted-fits : (tick : ℕ) (x y : Float) → T (fits binary64 (adjusted tick x y))
unfolding adjusted
adjusted-fits tick x y = mul-fits binary64 (div binary64 (sub binary64 x y) two) (half_tick tick)

module _ (tick : ℕ) (x y : Float) (p : T (finite (half_tick tick))) where
  -- written with zero as plus zero, the mirror's adjustment is the state's negated
  adjusted-turned : plus_zero (adjusted tick y x) ≡ plus_zero (neg (adjusted tick x y))
  unfolding adjusted
  adjusted-turned =
      elim (sub-turned binary64 y x) [
        | inl e ↦ rw (e, div-neg, mul-neg)
        | inr w ↦ let z = zero-times (half_tick tick) p in rw (w.0, w.1, zero-half, z.1) (unfold plus_zero in unfold neg in refl)
      ]

  adjusted-size : abs (adjusted tick y x) ≡ abs (adjusted tick x y)
  unfolding adjusted
  adjusted-size =
      elim (sub-turned binary64 y x) [
        | inl e ↦ rw (e, div-neg, mul-neg, abs_neg)
        | inr w ↦ rw (w.0, w.1)
      ]

opposite-of : (x y : Float) → T (fits binary64 x) → T (finite x) → plus_zero y ≡ plus_zero (neg x) → Opposite (plus_zero x) (plus_zero y)
unfolding of_bits
opposite-of x y t f h = record { negated = h ∙ sym (plus-neg-plus x); sum-zero = plus-sum-zero x y t f h }

-- ---- statuses

pub judged-known : (m : StateStatus) (half x : Float) → status_number (judged m half x) ≤ 3
judged-known Calibrated half x = go (lt half (abs x))
  where
    go : (b : Bool) → status_number (cond b OutsideQuotes Calibrated) ≤ 3
    go true = omega arith
    go false = omega arith
judged-known Rare half x = omega arith
judged-known NoPriceMove half x = omega arith
judged-known OutsideQuotes half x = omega arith

judged-turned : (m : StateStatus) (half x y : Float) → abs y ≡ abs x → judged m half y ≡ judged m half x
judged-turned Calibrated half x y e = ap (λ (z : Float). cond (lt half z) OutsideQuotes Calibrated) e
judged-turned Rare half x y e = refl
judged-turned NoPriceMove half x y e = refl
judged-turned OutsideQuotes half x y e = refl

judged-within : (m : StateStatus) (half x : Float) → status_number (judged m half x) ≡ 0 → lt half (abs x) ≡ false
judged-within Calibrated half x e = go (lt half (abs x)) e
  where
    go : (b : Bool) → status_number (cond b OutsideQuotes Calibrated) ≡ 0 → b ≡ false
    go true e = absurd (omega arith)
    go false e = refl
judged-within Rare half x e = absurd (omega arith)
judged-within NoPriceMove half x e = absurd (omega arith)
judged-within OutsideQuotes half x e = absurd (omega arith)

-- no state is marked OutsideQuotes
mark-other : (C : Cells) (i : ℕ) → status_number (mark_of C i) ≢ 3
unfolding mark_of
mark-other C i = go (not_rare C i) (reaches_in C C.states i)
  where
    go : (a b : Bool) → status_number (cond a (cond b Calibrated NoPriceMove) Rare) ≢ 3
    go true true e = omega arith
    go true false e = omega arith
    go false b e = omega arith

judged-over : (m : StateStatus) (half x : Float) → status_number m ≢ 3 → status_number (judged m half x) ≡ 3 → lt half (abs x) ≡ true
judged-over Calibrated half x n e = go (lt half (abs x)) e
  where
    go : (b : Bool) → status_number (cond b OutsideQuotes Calibrated) ≡ 3 → b ≡ true
    go true e = refl
    go false e = absurd (omega arith)
judged-over Rare half x n e = absurd (omega arith)
judged-over NoPriceMove half x n e = absurd (omega arith)
judged-over OutsideQuotes half x n e = absurd (n refl)

judged-fallback : (m : StateStatus) (half x : Float) → (status_number (judged m half x) ≡ 1) ⊎ (status_number (judged m half x) ≡ 2) → is_calibrated m ≡ false
judged-fallback Calibrated half x e = absurd (go (lt half (abs x)) e)
  where
    go : (b : Bool) → (status_number (cond b OutsideQuotes Calibrated) ≡ 1) ⊎ (status_number (cond b OutsideQuotes Calibrated) ≡ 2) → ⊥
    go true (inl e) = omega arith
    go true (inr e) = omega arith
    go false (inl e) = omega arith
    go false (inr e) = omega arith
judged-fallback Rare half x e = refl
judged-fallback NoPriceMove half x e = refl
judged-fallback OutsideQuotes half x e = refl

-- ---- shares

-- from 0 to 1
abbrev pub Share : Float → Type 0
Share x = T (le pos_zero x) × T (le x one)

zero-finite : T (finite pos_zero)
unfolding of_bits
zero-finite = tt

one-finite : T (finite one)
unfolding of_bits
one-finite = tt

zero-share : Share pos_zero
unfolding le of_bits
zero-share = (tt, tt)

one-share : Share one
unfolding le of_bits
one-share = (tt, tt)

clamp-share : (x : Float) → T (finite (clamp x)) → Share (clamp x)
unfolding clamp
clamp-share x f = go (lt x pos_zero) refl (lt one x) refl f
  where
    go : (a : Bool) → lt x pos_zero ≡ a → (b : Bool) → lt one x ≡ b → T (finite (cond a pos_zero (cond b one x))) → Share (cond a pos_zero (cond b one x))
    go true p b q f = zero-share
    go false p true q f = one-share
    go false p false q f =
        (not-below x pos_zero (finite-no-nan x f) (finite-no-nan pos_zero zero-finite) p, not-below one x (finite-no-nan one one-finite) (finite-no-nan x f) q)

plus-share : (x : Float) → T (fits binary64 x) → Share x → Share (plus_zero x)
plus-share x t s = go (eq x pos_zero) refl
  where
    go : (b : Bool) → eq x pos_zero ≡ b → Share (plus_zero x)
    go true e = subst Share (plus-zero x t e) zero-share
    go false e = subst Share (plus-other x e) s

plus_one : plus_zero one ≡ one
unfolding plus_zero of_bits
plus_one = refl

-- ---- estimates

pub record Finite (e : StateEstimate) : Type 0 where
  pub first : T (finite e.first_adjustment)
  pub final : T (finite e.adjustment)
  pub share : T (finite e.fallback_within_moves)

pub finite-of : (e : StateEstimate) → representable e ≡ true → Finite e
finite-of e h =
    let a = both (small e.first_adjustment) (small e.adjustment && small e.fallback_within_moves) h in
    let b = both (small e.adjustment) (small e.fallback_within_moves) a.1 in
    record { first = small-finite _ a.0; final = small-finite _ b.0; share = small-finite _ b.1 }

module _ (G : Given) (G1 sum share : ℕ → Float) where
  abbrev row : ℕ → StateEstimate
  row = estimate G G1 sum share

  pub held_of : (i : ℕ) → T (fits binary64 (share i)) → Held (row i)
  unfolding estimate_of
  held_of i h =
      record {
        first = adjusted-fits G.tick (G1 i) (G1 (G.mirror i));
        final = adjusted-fits G.tick (sum i) (sum (G.mirror i));
        share = cond-fits binary64 (is_calibrated (mark_of G.cells i)) (share i) one h (of_bits-fits binary64 0x3ff0_0000_0000_0000);
      }

  pub row-known : (i : ℕ) → ((row i).imbalance_bucket ≡ G.bucket i) × ((row i).spread_ticks ≡ G.spread i) × ((row i).status ≤ 3)
  unfolding estimate_of
  row-known i = (refl, refl, judged-known (mark_of G.cells i) _ _)

  -- its share, written with zero as plus zero
  pub row-share : (i : ℕ) (y : Float) → share i ≡ clamp y → T (fits binary64 (share i)) → representable (row i) ≡ true
      → Share (plus_zero (row i).fallback_within_moves)
  unfolding estimate_of
  row-share i y is t r = go (is_calibrated (mark_of G.cells i)) (finite-of (row i) r).share
    where
      go : (b : Bool) → T (finite (cond b (share i) one)) → Share (plus_zero (cond b (share i) one))
      go true f = plus-share (share i) t (subst Share (sym is) (clamp-share y (subst (λ (x : Float). T (finite x)) is f)))
      go false f = subst Share (sym plus_one) one-share

  pub row-fallback : (i : ℕ) → ((row i).status ≡ 1) ⊎ ((row i).status ≡ 2) → plus_zero (row i).fallback_within_moves ≡ one
  unfolding estimate_of
  row-fallback i e =
      ap (λ (b : Bool). plus_zero (cond b (share i) one))
      (judged-fallback (mark_of G.cells i) (half_spread G.tick (G.spread i)) (adjusted G.tick (sum i) (sum (G.mirror i))) e)
      ∙ plus_one

  pub row-outside : (i : ℕ) → (row i).status ≡ 3 → lt (half_spread G.tick (G.spread i)) (abs (row i).adjustment) ≡ true
  unfolding estimate_of
  row-outside i e =
      judged-over (mark_of G.cells i) (half_spread G.tick (G.spread i)) (adjusted G.tick (sum i) (sum (G.mirror i))) (mark-other G.cells i) e

  -- a Calibrated state's adjustment is in size at most half the spread
  pub row_inside : (i : ℕ) → representable (row i) ≡ true → T (finite (half_spread G.tick (G.spread i))) → (row i).status ≡ 0
      → T (le (abs (row i).adjustment) (half_spread G.tick (G.spread i)))
  unfolding estimate_of
  row_inside i r p z =
      let half = half_spread G.tick (G.spread i) in
      let x = adjusted G.tick (sum i) (sum (G.mirror i)) in
      not-below half (abs x) (finite-no-nan half p) (finite-no-nan (abs x) (subst T (sym (abs-finite x)) (finite-of (row i) r).final))
      (judged-within (mark_of G.cells i) half x z)

  module _ (M : CellsMirror G.cells G.mirror) (p : T (finite (half_tick G.tick))) (i : ℕ) (h : i < G.cells.states)
      (kept : G.spread (G.mirror i) ≡ G.spread i) where
    abbrev j : ℕ
    j = G.mirror i

    turned : (v : ℕ → Float) → plus_zero (adjusted G.tick (v j) (v (G.mirror j))) ≡ plus_zero (neg (adjusted G.tick (v i) (v j)))
    turned v = ap (λ (k : ℕ). plus_zero (adjusted G.tick (v j) (v k))) (M.mirror-twice i h) ∙ adjusted-turned G.tick (v i) (v j) p

    status-turned : (row j).status ≡ (row i).status
    unfolding estimate_of
    status-turned =
        (λ d. status_number
        (judged (mark-mirrored G.cells G.mirror M i h d) (half_spread G.tick (kept d)) (adjusted G.tick (sum j) (sum (M.mirror-twice i h d)))))
        ∙ ap status_number
        (judged-turned (mark_of G.cells i) (half_spread G.tick (G.spread i)) (adjusted G.tick (sum i) (sum j)) (adjusted G.tick (sum j) (sum i))
        (adjusted-size G.tick (sum i) (sum j) p))

    pub rows-opposite : representable (row i) ≡ true → RowsOpposite (plus_zeros (row i)) (plus_zeros (row j))
    unfolding estimate_of
    rows-opposite r =
        let f = finite-of (row i) r in
        record {
          status-same = status-turned;
          observations-same = observations-mirrored G.cells G.mirror M i h;
          first-opposite = opposite-of _ _ (adjusted-fits G.tick (G1 i) (G1 j)) f.first (turned G1);
          final-opposite = opposite-of _ _ (adjusted-fits G.tick (sum i) (sum j)) f.final (turned sum);
        }

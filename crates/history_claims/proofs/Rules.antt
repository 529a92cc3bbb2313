-- The rules of the model check on a fitted row.
use Prim.Native.Nat.{ℕ, zero, suc}
use mathlib.Core.Path.{◌≡◌, refl, sym, ap, ◌∙◌}
use mathlib.Core.Bool.{Bool, true, false, not, ◌||◌, ◌&&◌}
use mathlib.Core.Logic.{◌⊎◌, inl, inr}
use borrow.Author.Tests.{eq-eqb, eqb-true, le-leb}
use lib.Dec.{T}
use lib.IntN.{pos}
use lib.Ieee.{Float, nan, inf, fin, binary64, add, lt, le, eq, fits, of_bits}
use lib.Ieee.Bits.{is_true, of_bits-to_bits}
use lib.Ieee.Scale.{finite}
use Rattle.basics.proofs.Tests.{zero-not-one, fails}
use Rattle.floats.specs.Floats.{pos_zero, neg_zero, one, abs, plus_zero, bits_of, minus_zero}
use Rattle.config.specs.declared.MicroPriceConfig.{MicroPriceConfig}
use Rattle.model.specs.declared.StateEstimate.{StateEstimate}
use Rattle.model.specs.declared.StateStatus.TheVariants.{Calibrated, Rare, NoPriceMove, OutsideQuotes}
use Rattle.model.proofs.Rows.{Held}
use Rattle.fit.specs.Models.{Opposite, RowsOpposite, Inside, RowOf}
use Rattle.model_check.specs.Check.{half_spread_of, has_status, floats_finite, no_minus_zero, share_in_range, fallback_at_mid, inside_quotes, outside_quotes, row_fine}
use Rattle.model_signals.specs.Signal.{row_serves}

-- ---- floats

minus_is : neg_zero ≡ fin true 0 (pos 0)
unfolding of_bits
minus_is = refl

minus-turned : (x : Float) → plus_zero x ≡ fin true 0 (pos 0) → ⊥
unfolding plus_zero
minus-turned nan e = zero-not-one cc
minus-turned (inf s) e = zero-not-one cc
minus-turned (fin s zero d) e = zero-not-one cc
minus-turned (fin s (suc m) d) e = zero-not-one cc

no_minus : (x : Float) → T (fits binary64 x) → plus_zero x ≡ x → minus_zero x ≡ false
no_minus x t h =
    fails (minus_zero x)
    (λ e. minus-turned x (h ∙ sym (of_bits-to_bits binary64 x t) ∙ ap (of_bits binary64) (eqb-true (bits_of x) 0x8000_0000_0000_0000 e) ∙ minus_is))

zero-own : eq pos_zero pos_zero ≡ true
unfolding eq of_bits
zero-own = refl

one-own : eq one one ≡ true
unfolding eq of_bits
one-own = refl

sums : {x y : Float} → Opposite x y → eq (add binary64 x y) pos_zero ≡ true
sums o = ap (λ (z : Float). eq z pos_zero) o.sum-zero ∙ zero-own

-- ---- a row

module _ (c : MicroPriceConfig) (i : ℕ) (e : StateEstimate) (r : RowOf c i e) where
  finites : floats_finite e ≡ true
  finites =
      λ d. is_true (finite e.first_adjustment) r.first-finite d && is_true (finite e.adjustment) r.final-finite d && is_true
      (finite e.fallback_within_moves) r.share-finite d

  zeros : Held e → no_minus_zero e ≡ true
  zeros h =
      λ d. not (no_minus e.first_adjustment h.first r.first-plus d) && not (no_minus e.adjustment h.final r.final-plus d) && not
      (no_minus e.fallback_within_moves h.share r.share-plus d)

  in-range : share_in_range e ≡ true
  in-range = λ d. is_true (le pos_zero e.fallback_within_moves) r.share-least d && is_true (le e.fallback_within_moves one) r.share-most d

  at_mid : ((e.status ≡ 1) ⊎ (e.status ≡ 2) → eq e.adjustment pos_zero ≡ true) → fallback_at_mid e ≡ true
  at_mid h = go (has_status Rare e) refl (has_status NoPriceMove e) refl
    where
      fallback : (e.status ≡ 1) ⊎ (e.status ≡ 2) → (eq e.fallback_within_moves one && eq e.adjustment pos_zero) ≡ true
      fallback s = λ d. (ap (λ (x : Float). eq x one) (r.share-fallback s) ∙ one-own) d && h s d

      go : (a : Bool) → has_status Rare e ≡ a → (b : Bool) → has_status NoPriceMove e ≡ b
          → (not (a || b) || (eq e.fallback_within_moves one && eq e.adjustment pos_zero)) ≡ true
      go true p b q = fallback (inl (eqb-true e.status 1 p))
      go false p true q = fallback (inr (eqb-true e.status 2 q))
      go false p false q = refl

  is-outside : outside_quotes c i e ≡ true
  is-outside = go (has_status OutsideQuotes e) refl
    where
      go : (b : Bool) → has_status OutsideQuotes e ≡ b → (not b || lt (half_spread_of c i) (abs e.adjustment)) ≡ true
      go true z = is_true (lt (half_spread_of c i) (abs e.adjustment)) (r.outside (eqb-true e.status 3 z))
      go false z = refl

  module _ (within : e.status ≡ 0 → Inside c i e.adjustment) where
    is-inside : inside_quotes c i e ≡ true
    is-inside = go (has_status Calibrated e) refl
      where
        go : (b : Bool) → has_status Calibrated e ≡ b → (not b || le (abs e.adjustment) (half_spread_of c i)) ≡ true
        go true z = is_true (le (abs e.adjustment) (half_spread_of c i)) (within (eqb-true e.status 0 z)).half-most
        go false z = refl

    -- the signal's rule
    pub row-serves : row_serves c i e ≡ true
    unfolding row_serves
    row-serves =
        (λ d. le-leb e.status 3 r.status-known d &&
        (not (has_status Calibrated e) || (is_true (finite e.adjustment) r.final-finite d && le (abs e.adjustment) (half_spread_of c i))))
        ∙ is-inside

    -- the check's rules, where a fallback state's adjustment is zero
    pub row-checked : (mirror : StateEstimate) → Held e → RowsOpposite e mirror → ((e.status ≡ 1) ⊎ (e.status ≡ 2) → eq e.adjustment pos_zero ≡ true)
        → row_fine c i e mirror ≡ true
    unfolding row_fine
    row-checked mirror h o rest =
        λ d.
        eq-eqb _ _ r.bucket-is d
        && eq-eqb _ _ r.spread-is d
        && le-leb e.status 3 r.status-known d
        && finites d
        && zeros h d
        && (in-range d && at_mid rest d)
        && (is-inside d && is-outside d)
        && (eq-eqb _ _ (sym o.status-same) d
        && eq-eqb _ _ (sym o.observations-same) d
        && sums o.final-opposite d
        && sums o.first-opposite d)

-- A signal's adjustment lies inside the quotes.
use Prim.Native.Nat.{ℕ, ◌-◌, ◌*◌, ◌<◌}
use mathlib.Core.Path.{◌≡◌, refl, sym, ap, ◌∙◌, subst}
use mathlib.Core.Bool.{Bool, true, false, cond, not, ◌||◌, ◌&&◌}
use mathlib.Core.List.{List}
use native.Mathlib.Nat.{mul_comm}
use native.Mathlib.Omega.{arith}
use lib.Dec.{T, leb}
use lib.Ieee.{Float, nan, inf, fin, up, down, le, of_bits}
use lib.Ieee.Fits.{down_pos}
use lib.Ieee.Scale.{finite}
use Rattle.basics.proofs.Tests.{zero-not-one, both}
use Rattle.floats.specs.Floats.{pos_zero, abs, half, exact_whole}
use Rattle.floats.proofs.Whole.{half-exact}
use Rattle.floats.proofs.Within.{values-le}
use Rattle.model.specs.Rows.{row_at}
use Rattle.model.specs.declared.StateEstimate.{StateEstimate}
use Rattle.model.specs.declared.StateStatus.TheVariants.{Calibrated}
use Rattle.std.specs.Prelude.{Result, Ok, Err}
use Rattle.quotes.specs.declared.Reason.{Reason}
use Rattle.refusals.specs.Refusals.{Check}
use Rattle.refusals.specs.declared.Refusal.{Refusal}
use Rattle.refusals.specs.declared.Refusal.TheVariants.{ModelRow}
use Rattle.config.specs.Inner.{Valid}
use Rattle.config.specs.declared.MicroPriceConfig.{MicroPriceConfig}
use Rattle.config.proofs.Known.{valid-known}
use Rattle.quotes.specs.Inner.{Accepted}
use Rattle.quotes.specs.States.{spread_in, place_of}
use Rattle.quotes.specs.declared.At.{At}
use Rattle.quotes.specs.declared.TopOfBook.{TopOfBook}
use Rattle.quotes.proofs.Known.{fine-known}
use Rattle.quotes.proofs.States.{place-located, place-spread}
use Rattle.quotes.proofs.Ticks.{spread-whole}
use Rattle.model_check.specs.Check.{half_spread_of, has_status}
use Rattle.model_signals.specs.Claims.{Within}
use Rattle.model_signals.specs.Signal.{row_serves, adjustment_of, source_of, sent, signal_at, sent_unless, signal_refusal, signal_of}
use Rattle.model_signals.specs.declared.MicroPriceSignal.{MicroPriceSignal}
use Rattle.quotes.proofs.Widths.{width-most}
use Rattle.model_signals.proofs.Usable.{unrefused}

half-within : (q : TopOfBook) (w : ℕ) (x : Float) → w < exact_whole → w ≡ q.ask - q.bid → T (finite x) → T (le (abs x) (half w)) → Within q x
unfolding abs
half-within q w nan l e f h = absurd f
half-within q w (inf s) l e f h = absurd f
half-within q w (fin s m d) l e f h =
    record {
      num = m * up d;
      den = down d;
      den-some = down_pos d;
      size = (refl, refl);
      inside = rw (← e, mul_comm 2 (m * up d)) (values-le (fin false m d) (half w) (m * up d) (down d) w 2 (refl, refl) (half-exact w l) h);
    }

mid-within : (q : TopOfBook) → Within q pos_zero
unfolding abs of_bits
mid-within q = record { num = 0; den = 1; den-some = omega arith; size = (refl, refl); inside = omega arith }

module _ (c : MicroPriceConfig) (q : TopOfBook) (v : Valid c) (f : Accepted c q) (a : At) (p : place_of c q ≡ Ok a) where
  abbrev width : ℕ
  width = c.tick_size * spread_in c.imbalance_buckets a.state

  -- tick × the state's spread is ask − bid
  width_is : width ≡ q.ask - q.bid
  width_is = ap (λ (s : ℕ). c.tick_size * s) (place-spread c q v f a p) ∙ sym (spread-whole c q v f)

  width-less : width < exact_whole
  width-less = omega (arith, width-most c v a.state (place-located c q v a p).below)

  row_within : (e : StateEstimate) → row_serves c a.state e ≡ true → Within q (adjustment_of e)
  unfolding row_serves
  row_within e h = go (has_status Calibrated e) refl
    where
      go : (z : Bool) → has_status Calibrated e ≡ z → Within q (cond z e.adjustment pos_zero)
      go true z =
          let k = (both (leb e.status 3) (not (has_status Calibrated e) || (finite e.adjustment && le (abs e.adjustment) (half_spread_of c a.state)))
          h).1 in
          let n = both (finite e.adjustment) (le (abs e.adjustment) (half_spread_of c a.state)) (rw z at k) in
          half-within q width e.adjustment width-less width_is (subst T (sym n.0) tt) (subst T (sym n.1) tt)
      go false z = mid-within q

-- the signal that was sent is this one
sent_is : (q : TopOfBook) (m s : MicroPriceSignal) → ◌≡◌ {A = Result MicroPriceSignal Refusal} (Ok m) (Ok s) → Within q m.adjustment → Within q s.adjustment
sent_is q m s e w = let k : m ≡ s = cc in subst (λ (x : MicroPriceSignal). Within q x.adjustment) k w

pub signal-within : (c : MicroPriceConfig) (t : List ℕ) (q : TopOfBook) (s : MicroPriceSignal) → signal_of c t q ≡ Ok s → Within q s.adjustment
signal-within c t q s e = go (signal_refusal c t q) refl e
  where
    row : (a : At) → Valid c → Accepted c q → place_of c q ≡ Ok a → (b : Bool) → row_serves c a.state (row_at t a.state) ≡ b
        → cond b (Ok (sent q (adjustment_of (row_at t a.state)) (source_of (row_at t a.state).status))) (Err (ModelRow a.state)) ≡ Ok s
        → Within q s.adjustment
    row a v f p true r k = sent_is q _ s k (row_within c q v f a p (row_at t a.state) r)
    row a v f p false r k = absurd (zero-not-one cc)

    place : (p : Result At Reason) → Valid c → Accepted c q → place_of c q ≡ p → signal_at c t q p ≡ Ok s → Within q s.adjustment
    place (Ok a) v f p k = row a v f p (row_serves c a.state (row_at t a.state)) refl k
    place (Err r) v f p k = sent_is q _ s k (mid-within q)

    go : (k : Check) → signal_refusal c t q ≡ k → sent_unless k (signal_at c t q (place_of c q)) ≡ Ok s → Within q s.adjustment
    go (Ok _) r k = let u = unrefused c t q r in place (place_of c q) (valid-known c u.config) (fine-known c q u.quote) refl k
    go (Err x) r k = absurd (zero-not-one cc)

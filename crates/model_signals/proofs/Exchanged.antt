-- A quote with its sizes exchanged has the mirrored signal, where the rows of the two states mirror.
use Prim.Native.Nat.{ℕ}
use mathlib.Core.Path.{◌≡◌, refl, sym, ap, ◌∙◌}
use mathlib.Core.Bool.{Bool, true, false, cond, not, ◌||◌, ◌&&◌, true≢false, false≢true}
use mathlib.Core.List.{List}
use native.Mathlib.Omega.{arith}
use lib.Dec.{leb, eqb}
use lib.Ieee.{Float, binary64, add, eq, le, of_bits}
use lib.Ieee.Scale.{finite}
use Rattle.floats.specs.Floats.{pos_zero, abs, half_spread}
use Rattle.model.specs.Rows.{row_at}
use Rattle.model.specs.declared.StateEstimate.{StateEstimate}
use Rattle.model.proofs.Rows.{row-held}
use Rattle.std.specs.Prelude.{Result, Ok, Err}
use Rattle.quotes.specs.declared.Reason.{Reason}
use Rattle.refusals.specs.Refusals.{Check}
use Rattle.refusals.specs.declared.Refusal.TheVariants.{ModelRow}
use Rattle.config.specs.Inner.{Valid}
use Rattle.config.specs.declared.MicroPriceConfig.{MicroPriceConfig}
use Rattle.config.proofs.Known.{valid-known}
use Rattle.quotes.specs.Inner.{Located}
use Rattle.quotes.specs.Quotes.{exchanged}
use Rattle.quotes.specs.States.{spread_in, mirror_place, place_of, state_of}
use Rattle.quotes.specs.declared.At.{At}
use Rattle.quotes.specs.declared.TopOfBook.{TopOfBook}
use Rattle.quotes.proofs.Exchanged.{check-exchanged, place-exchanged}
use Rattle.quotes.proofs.Known.{fine-known}
use Rattle.quotes.proofs.States.{mirror-keeps-spread, place-located}
use Rattle.model_check.specs.Check.{half_spread_of}
use Rattle.model_signals.specs.Claims.{RowsMirror, SignalsMirror, AnswersMirror}
use Rattle.model_signals.specs.Signal.{row_serves, adjustment_of, source_of, signal_at, sent_unless, signal_refusal, signal_of}
use Rattle.model_signals.specs.declared.MicroPriceSignal.{MicroPriceSignal}
use Rattle.model_signals.proofs.Usable.{unrefused}
use Rattle.floats.proofs.Signs.{abs-finite}
use Rattle.floats.proofs.Zeros.{sum-zero, same_size}

zeros-sum : add binary64 pos_zero pos_zero ≡ pos_zero
unfolding add of_bits
zeros-sum = refl

zero_is : eq pos_zero pos_zero ≡ true
unfolding eq of_bits
zero_is = refl

-- the rows of mirrored states serve alike
module _ (c : MicroPriceConfig) (t : List ℕ) (a : At) (v : Valid c) (l : Located c a) (h : RowsMirror (row_at t a.state) (row_at t a.mirror)) where
  abbrev e : StateEstimate
  e = row_at t a.state

  abbrev m : StateEstimate
  m = row_at t a.mirror

  size : abs e.adjustment ≡ abs m.adjustment
  size =
      same_size e.adjustment m.adjustment
      (sum-zero e.adjustment m.adjustment (row-held t a.state).final (row-held t a.mirror).final
      (ap (λ (x : Float). eq x pos_zero) h.sum-zero ∙ zero_is)).1

  half : half_spread_of c a.state ≡ half_spread_of c a.mirror
  half =
      let n = c.imbalance_buckets in
      ap (half_spread c.tick_size) (sym (ap (spread_in n) l.mirrors ∙ mirror-keeps-spread n a.state (omega (arith, v.n-least))))

  serve-alike : row_serves c a.state e ≡ row_serves c a.mirror m
  unfolding row_serves
  serve-alike =
      let f : finite e.adjustment ≡ finite m.adjustment = sym (abs-finite e.adjustment) ∙ ap finite size ∙ abs-finite m.adjustment in
      λ i. leb (h.status-same i) 3 && (not (eqb (h.status-same i) 0) || (f i && le (size i) (half i)))

  adjustments : add binary64 (adjustment_of e) (adjustment_of m) ≡ pos_zero
  adjustments = go (eqb e.status 0) refl
    where
      go : (z : Bool) → eqb e.status 0 ≡ z → add binary64 (adjustment_of e) (adjustment_of m) ≡ pos_zero
      go true z = rw (← h.status-same, z) h.sum-zero
      go false z = rw (← h.status-same, z) zeros-sum

answers : (b d : Bool) (x y : MicroPriceSignal) (i j : ℕ) → b ≡ d → SignalsMirror x y
    → AnswersMirror (cond b (Ok x) (Err (ModelRow i))) (cond d (Ok y) (Err (ModelRow j)))
answers true true x y i j e s = s
answers true false x y i j e s = absurd (true≢false e)
answers false true x y i j e s = absurd (false≢true e)
answers false false x y i j e s = refl

pub signal-exchanged : (c : MicroPriceConfig) (t : List ℕ) (q : TopOfBook)
    → ((a : At) → state_of c q ≡ Ok a → RowsMirror (row_at t a.state) (row_at t a.mirror))
    → AnswersMirror (signal_of c t q) (signal_of c t (exchanged q))
signal-exchanged c t q h = rw (check-exchanged c q) (go (signal_refusal c t q) refl)
  where
    at : (p : Result At Reason) → Valid c → place_of c q ≡ p → state_of c q ≡ p
        → AnswersMirror (signal_at c t q p) (signal_at c t (exchanged q) (mirror_place p))
    at (Ok a) v p s =
        let m = h a s in
        let l = place-located c q v a p in
        answers _ _ _ _ a.state a.mirror (serve-alike c t a v l m)
        (record { time-same = refl; mid-same = refl; source-same = ap source_of m.status-same; sum-zero = adjustments c t a v l m })
    at (Err r) v p s = record { time-same = refl; mid-same = refl; source-same = refl; sum-zero = zeros-sum }

    go : (k : Check) → signal_refusal c t q ≡ k
        → AnswersMirror (sent_unless k (signal_at c t q (place_of c q))) (sent_unless k (signal_at c t (exchanged q) (place_of c (exchanged q))))
    go (Ok _) r =
        let u = unrefused c t q r in
        let v = valid-known c u.config in
        rw (place-exchanged c q v (fine-known c q u.quote)) (at (place_of c q) v refl (rw (u.config, u.quote)))
    go (Err x) r = refl

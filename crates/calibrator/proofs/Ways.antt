-- One quote: what its event and its refusals come to.
use Prim.Native.Nat.{ℕ, ◌≤◌}
use mathlib.Core.Path.{◌≡◌, refl, sym, ap, ◌∙◌}
use mathlib.Core.Bool.{Bool, true, false, not}
use native.Mathlib.Omega.{arith}
use borrow.Author.Tests.{ltb-false, not-true}
use Rattle.basics.proofs.Tests.{zero-not-one}
use Rattle.refusals.specs.Refusals.{refuse_if, first_of, Check}
use Rattle.std.specs.Prelude.{Some, Result, Ok, Err}
use Rattle.refusals.proofs.Refusals.{if-fine, first_fine}
use Rattle.config.specs.Configuration.{states}
use Rattle.config.specs.Inner.{Valid}
use Rattle.config.specs.declared.MicroPriceConfig.{MicroPriceConfig}
use Rattle.quotes.specs.Inner.{Accepted}
use Rattle.quotes.specs.Quotes.{check_quote}
use Rattle.quotes.specs.Neighbours.{neighbours_of}
use Rattle.quotes.specs.declared.Pair.{Pair}
use Rattle.quotes.specs.declared.Skip.{Skip}
use Rattle.quotes.specs.declared.TopOfBook.{TopOfBook}
use Rattle.quotes.proofs.Known.{fine-known}
use Rattle.quotes.proofs.Pairs.{counted-made}
use Rattle.quotes.proofs.States.{place-located}
use Rattle.quotes.proofs.Ticks.{half-ticks-most}
use Rattle.tally.specs.Entries.{Tables}
use Rattle.tally.specs.Inner.{Placed}
use Rattle.tally.specs.Rules.{Memory}
use Rattle.tally.specs.declared.PairEntry.{PairEntry}
use Rattle.calibrator.specs.Record.{Previous}
use Rattle.calibrator.specs.Inner.{entry_of, Countable, judge_pair, counted_as}
use Rattle.calibrator.specs.Observe.{event_from, lent_wrong, refuses, broken, earlier}
use Rattle.calibrator.proofs.Lengths.{lengths-known}

not-refused : (k : Check) → refuses k ≡ false → k ≡ Ok tt
not-refused (Ok _) e = refl
not-refused (Err r) e = absurd (zero-not-one cc)

-- what a judged quote after another is known to be
pub pair-known : (c : MicroPriceConfig) (p q : TopOfBook) → judge_pair c p q ≡ Ok tt → Accepted c p × Accepted c q × (p.timestamp_ms ≤ q.timestamp_ms)
pair-known c p q e =
    let a = first_fine (refuse_if (broken c (Some p)) 8) (first_of (check_quote c q) (refuse_if (earlier (Some p) q) 5)) e in
    let b = first_fine (check_quote c q) (refuse_if (earlier (Some p) q) 5) a.1 in
    (fine-known c p (not-refused (check_quote c p) (if-fine _ 8 refl a.0)), fine-known c q b.0, ltb-false _ _ (if-fine _ 5 refl b.1))

-- a pair that two accepted quotes make
pub counted-known : (c : MicroPriceConfig) (p q : TopOfBook) → Valid c → Accepted c p → Accepted c q → (e : Pair) → neighbours_of c p q ≡ Ok e
    → Countable c e
counted-known c p q v f g e h =
    let k = counted-made c p q e h in
    record {
      from_at = place-located c p v e.from k.from_place;
      to_at = place-located c q v e.to k.to-place;
      mid-from-most = omega (arith, k.from-mid, half-ticks-most c p v f);
      mid-to-most = omega (arith, k.to-mid, half-ticks-most c q v g);
    }

-- such a pair, the number of states and the entry as the code has them, in tables of the right lengths
pub pair-placed : (c : MicroPriceConfig) (p : Pair) {n : ℕ} {e : PairEntry} {t : Tables} → n ≡ states c → e ≡ entry_of p → Valid c → Countable c p
    → lent_wrong (states c) t ≡ false → Placed n e t
pair-placed c p {n} {e} {t} n-is e-is v k w =
    let z = lengths-known (states c) _ _ _ w in
    rw (n-is, e-is)
    (record {
      few = v.states-most;
      from-below = k.from_at.below;
      to_below = k.to_at.below;
      mirror-from-below = k.from_at.mirror-below;
      mirror-to-below = k.to_at.mirror-below;
      stay-cells = z.stay-cells;
      moved-cells = z.moved-cells;
      totals-cells = z.totals-cells;
      mid-from-most = k.mid-from-most;
      mid-to-most = k.mid-to-most;
    })

-- a test b whether something is not over its limit
pub within-limit : (b over : Bool) → b ≡ not over → b ≡ true → over ≡ false
within-limit b over e f = not-true over (sym e ∙ f)

-- what the quotes were found to make is what they make
pub found-made : (c : MicroPriceConfig) (m : Memory Previous) (p q : TopOfBook) (n x : Result Pair Skip) → n ≡ neighbours_of c p q → n ≡ x
    → counted_as c m q (event_from x) ≡ counted_as c m q (event_from (neighbours_of c p q))
found-made c m p q n x e f = ap (λ (z : Result Pair Skip). counted_as c m q (event_from z)) (sym f ∙ e)

-- Document 01's rule is lawful, and one quote on the memory of a history is the step of that history.
use Prim.Native.Nat.{◌≤◌, ◌<◌}
use mathlib.Core.Path.{◌≡◌, refl, ◌∙◌}
use mathlib.Core.Bool.{false, not}
use mathlib.Core.List.{List, [], ◌∷◌, ◌++◌}
use native.Mathlib.Omega.{arith}
use Rattle.basics.proofs.Tests.{zero-not-one}
use Rattle.std.specs.Prelude.{Some, None, Result, Ok, Err}
use Rattle.quotes.specs.declared.Pair.{Pair}
use Rattle.refusals.specs.Refusals.{Check}
use Rattle.refusals.specs.declared.Refusal.{Refusal}
use Rattle.config.specs.Configuration.{states}
use Rattle.config.specs.Inner.{Valid}
use Rattle.config.specs.declared.MicroPriceConfig.{MicroPriceConfig}
use Rattle.quotes.specs.Neighbours.{neighbours_of}
use Rattle.quotes.specs.declared.Skip.{Skip}
use Rattle.quotes.specs.declared.Skip.TheVariants.{Gap, Spread}
use Rattle.quotes.specs.declared.TopOfBook.{TopOfBook}
use Rattle.quotes.proofs.Pairs.{counted-made}
use Rattle.quotes.proofs.States.{place-located, mirror-below, mirror-involution}
use Rattle.tally.specs.Events.{is_first, Counts}
use Rattle.tally.specs.Rules.{InRange, Lawful, Memory, step, memory_of}
use Rattle.tally.proofs.Step.{step-memory}
use Rattle.calibrator.specs.Record.{kinds, kind_of, answered, Previous}
use Rattle.calibrator.specs.Observe.{event_from, event_of, is_quoted, rule, judge, refusal_by, observed}

kind-below : (k : Skip) → kind_of k < kinds
kind-below Gap = omega arith
kind-below Spread = omega arith

never_first : (n : Result Pair Skip) → is_first (event_from n) ≡ false
never_first (Err k) = refl
never_first (Ok e) = refl

module _ (c : MicroPriceConfig) (v : Valid c) where
  pair-in : (p q : TopOfBook) (n : Result Pair Skip) → neighbours_of c p q ≡ n → InRange kinds (states c) (event_from n)
  pair-in p q (Err k) h = kind-below k
  pair-in p q (Ok e) h =
      let k = counted-made c p q e h in
      ((place-located c p v e.from k.from_place).below, (place-located c q v e.to k.to-place).below)

  event-in : (l : Previous) (q : TopOfBook) → InRange kinds (states c) (event_of c l q)
  event-in None q = tt
  event-in (Some p) q = pair-in p q (neighbours_of c p q) refl

  event-first : (l : Previous) (q : TopOfBook) → is_first (event_of c l q) ≡ not (is_quoted l)
  event-first None q = refl
  event-first (Some p) q = never_first (neighbours_of c p q)

  pub rule-lawful : Lawful (rule c)
  rule-lawful =
      let n = c.imbalance_buckets in
      let some : 1 ≤ n = omega (arith, v.n-least) in
      record {
        mirror-below = λ i h. mirror-below n i some c.spread_states h;
        mirror-twice = λ i h. mirror-involution n i some;
        event-in = event-in;
        event-first = event-first;
        arrive-started = λ l q. refl;
      }

accepted-left : (k : Check) (m n : Memory Previous) → (answered k m n).answer ≡ Ok tt → (answered k m n).left ≡ n
accepted-left (Ok _) m n e = refl
accepted-left (Err r) m n e = absurd (zero-not-one cc)

refused-left : (k : Check) (m n : Memory Previous) (r : Refusal) → (answered k m n).answer ≡ Err r → (answered k m n).left ≡ m
refused-left (Ok _) m n r e = absurd (zero-not-one cc)
refused-left (Err x) m n r e = refl

-- the step law for document 01's rule: an accepted quote on the memory of a history leaves the memory of the history with that quote
pub observed-step : (c : MicroPriceConfig) → Valid c → (start : Counts) (qs : List TopOfBook) (q : TopOfBook)
    → (observed c (memory_of (rule c) None start qs) q).answer ≡ Ok tt
    → (observed c (memory_of (rule c) None start qs) q).left ≡ memory_of (rule c) None start (qs ++ q ∷ [])
observed-step c v start qs q e =
    accepted-left (refusal_by (rule c) (judge c) (memory_of (rule c) None start qs) q) (memory_of (rule c) None start qs)
    (step (rule c) (memory_of (rule c) None start qs) q) e
    ∙ step-memory (rule c) (rule-lawful c v) None start qs q

-- a refused quote leaves any memory as it was
pub observed-refused : (c : MicroPriceConfig) (m : Memory Previous) (q : TopOfBook) (r : Refusal) → (observed c m q).answer ≡ Err r
    → (observed c m q).left ≡ m
observed-refused c m q r e = refused-left (refusal_by (rule c) (judge c) m q) m (step (rule c) m q) r e

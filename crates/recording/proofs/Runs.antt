-- A recording counted quote by quote.
use Prim.Native.Nat.{ℕ, ◌+◌, ◌/◌, ◌%◌, ◌≤◌, ◌<◌}
use mathlib.Core.Path.{◌≡◌, sym, ap, ◌∙◌}
use mathlib.Core.Bool.{true, false}
use mathlib.Core.List.{List, ◌∷◌}
use native.Mathlib.Omega.{arith}
use lib.ListN.{length, drop}
use borrow.Author.Tests.{eq-eqb}
use Rattle.basics.specs.Lists.{bit}
use Rattle.std.specs.Prelude.{Ok}
use Rattle.config.specs.declared.MicroPriceConfig.{MicroPriceConfig}
use Rattle.quotes.specs.declared.TopOfBook.{TopOfBook}
use Rattle.tally.specs.Rules.{Memory}
use Rattle.calibrator.specs.Record.{Outcome, Previous}
use Rattle.calibrator.specs.Observe.{observed}
use Rattle.recording.specs.Recording.{quote_at, quotes_of}
use Rattle.recording.specs.Observe.{is_invalid, is_stop, RecordedOutcome, recorded_as, recorded_by, recorded}
use Rattle.recording.specs.Inner.{recorded_of}
use Rattle.recording.proofs.Recordings.{quotes-step, quotes-end}
use Rattle.recording.proofs.Windows.{bit-most}

-- one quote of a list
module _ {Last Quote : Type 0} (f : Memory Last → Quote → Outcome Last) (q : Quote) (qs : List Quote) (k : ℕ) (m : Memory Last) (o : Outcome Last)
    (e : o ≡ f m q) where
  -- that does not stop it
  pub goes_on : is_stop o.answer ≡ false → recorded_by f (q ∷ qs) k m ≡ recorded_by f qs (k + bit (is_invalid o.answer)) o.left
  goes_on s = rw (← e, s)

  pub stops_at : is_stop o.answer ≡ true → recorded_by f (q ∷ qs) k m ≡ recorded_as o.answer k o.left
  stops_at s = rw (← e, s)

-- ---- the loop over a recording's quotes

-- What holds before quote i, with k invalid ones before it, the memory m now and m₀ at entry: the quotes
-- from i on give from m what the whole recording gives from m₀.
pub record Observing (c : MicroPriceConfig) (w : List ℕ) (m₀ m : Memory Previous) (k i : ℕ) : Type 0 where
  pub few : k ≤ i
  pub same : recorded c (quotes_of w) 0 m₀ ≡ recorded c (drop i (quotes_of w)) k m

-- from quote i on
from-here : (c : MicroPriceConfig) (w : List ℕ) (m : Memory Previous) (k i : ℕ) (q : TopOfBook) → i < length w / 5 → q ≡ quote_at w i
    → recorded c (drop i (quotes_of w)) k m ≡ recorded c (q ∷ drop (i + 1) (quotes_of w)) k m
from-here c w m k i q here quoted =
    ap (λ (l : List TopOfBook). recorded c l k m) (quotes-step w i here ∙ ap (λ (p : TopOfBook). p ∷ drop (i + 1) (quotes_of w)) (sym quoted))

-- the ways out of the loop, in a recording of whole quotes
module _ {c : MicroPriceConfig} {w : List ℕ} {m₀ m : Memory Previous} {k i : ℕ} (even : length w % 5 ≡ 0) (runs : Observing c w m₀ m k i) where
  whole : (r : RecordedOutcome Previous) → recorded c (drop i (quotes_of w)) k m ≡ r → r ≡ recorded_of c w m₀
  whole r e = rw (eq-eqb (length w % 5) 0 even) (sym (runs.same ∙ e))

  -- the quotes are used up
  pub observing-end : length w / 5 ≤ i → recorded_as (Ok tt) k m ≡ recorded_of c w m₀
  observing-end past = whole (recorded_as (Ok tt) k m) (rw (quotes-end w i past))

  -- quote i stops it
  pub observing-stop : i < length w / 5 → {q : TopOfBook} → q ≡ quote_at w i → {o : Outcome Previous} → o ≡ observed c m q → is_stop o.answer ≡ true
      → recorded_as o.answer k o.left ≡ recorded_of c w m₀
  observing-stop here {q} quoted {o} done stops =
      whole (recorded_as o.answer k o.left)
      (from-here c w m k i q here quoted ∙ stops_at (observed c) q (drop (i + 1) (quotes_of w)) k m o done stops)

-- quote i does not stop it: n invalid ones then
module _ {c : MicroPriceConfig} {w : List ℕ} {m₀ m : Memory Previous} {k i : ℕ} (runs : Observing c w m₀ m k i) (here : i < length w / 5) where
  pub observing-on : {q : TopOfBook} → q ≡ quote_at w i → {o : Outcome Previous} → o ≡ observed c m q
      → is_stop o.answer ≡ false → {n : ℕ} → n ≡ k + bit (is_invalid o.answer) → Observing c w m₀ o.left n (i + 1)
  observing-on {q} quoted {o} done goes {n} counted =
      record {
        few = omega (arith, counted, bit-most (is_invalid o.answer), runs.few);
        same =
            runs.same
            ∙ from-here c w m k i q here quoted
            ∙ rw counted (goes_on (observed c) q (drop (i + 1) (quotes_of w)) k m o done goes);
      }

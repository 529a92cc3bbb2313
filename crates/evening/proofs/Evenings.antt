-- The whole evening, where nothing is refused before the first quote.
use Prim.Native.Nat.{ℕ}
use mathlib.Core.Path.{◌≡◌, refl, sym, ap, ◌∙◌}
use mathlib.Core.List.{List}
use lib.ListN.{length}
use lib.Ieee.{Float}
use Rattle.basics.proofs.Tests.{zero-not-one}
use Rattle.refusals.specs.Refusals.{Check}
use Rattle.std.specs.Prelude.{Ok, Err}
use Rattle.config.specs.declared.MicroPriceConfig.{MicroPriceConfig}
use Rattle.quotes.specs.declared.TopOfBook.{TopOfBook}
use Rattle.tally.specs.Rules.{Memory}
use Rattle.calibrator.specs.Observe.{fresh}
use Rattle.calibrator.specs.Record.{Previous}
use Rattle.recording.specs.Recording.{quotes_of, filter}
use Rattle.recording.specs.Window.{window_unless, inside, check_window, ends_of, window_of, part_of}
use Rattle.recording.specs.Observe.{recorded}
use Rattle.recording.specs.declared.Ends.{Ends}
use Rattle.recording.proofs.Parts.{handed-known, handed-quotes}
use Rattle.evening.specs.Evening.{EveningOutcome, evening_refusal, counted, evening_unless, calibrated}
use Rattle.fit.specs.Inner.{check_slices}

-- a window that is found is not refused
pub window-fine : (k : Check) (e f : Ends) → window_unless k e ≡ Ok f → Ok tt ≡ k
window-fine (Ok _) e f p = refl
window-fine (Err r) e f p = absurd (zero-not-one cc)

module _ (c : MicroPriceConfig) (w : List ℕ) (start end : ℕ) where
  -- the part of a window that is found, counted and fitted, is the evening
  pub evening-is : (m : Memory Previous) (model : List ℕ) (scratch : List Float) (part : List ℕ) (o : EveningOutcome) {e : Ends}
      → window_of w start end ≡ Ok e
      → check_slices c m.counts.tables (length scratch) (length model) ≡ Ok tt
      → part ≡ part_of e.first e.past w
      → o ≡ counted c (recorded c (quotes_of part) 0 (fresh c)) model scratch
      → o ≡ calibrated c m w start end model scratch
  evening-is m model scratch part o {e} found slices is done =
      let window : check_window w start end ≡ Ok tt = sym (window-fine (check_window w start end) (ends_of start end (quotes_of w)) e found) in
      let fine : evening_refusal c m w start end (length scratch) (length model) ≡ Ok tt = rw window slices in
      let handed = handed-known w start end (Ok e) e part (sym found) refl is in
      done
      ∙ ap (λ (qs : List TopOfBook). counted c (recorded c qs 0 (fresh c)) model scratch) (ap quotes_of handed ∙ handed-quotes w start end window)
      ∙ sym (ap (λ (k : Check). evening_unless k m model scratch (counted c (recorded c (filter (inside start end) (quotes_of w)) 0 (fresh c)) model scratch))
      fine)

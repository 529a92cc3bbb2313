-- An exported operation on counts that answers another number than 0 leaves all lent memory as it was, whatever it holds.
use Prim.Native.Nat.{ℕ}
use mathlib.Core.Path.{◌≡◌, refl}
use mathlib.Core.Bool.{Bool, true, false, cond}
use mathlib.Core.List.{List}
use lib.IntN.{ℤ}
use Rattle.std.specs.Prelude.{Ok, Err}
use Rattle.refusals.specs.Refusals.{Check}
use Rattle.quotes.specs.declared.TopOfBook.{TopOfBook}
use Rattle.tally.specs.Rules.{Memory, step}
use Rattle.calibrator.specs.Record.{memory, answered, Previous}
use Rattle.calibrator.specs.Observe.{check_memory, fresh, rule, judge, refusal_by}
use Rattle.config.specs.Configuration.{config_of}
use Rattle.abi_encoding.specs.Encoding.{record_of, right_words, encoded, bad_encoding, lent}
use Rattle.abi_counting.specs.Counting.{of_outcome, new_words, observe_words}

module _ (w s m : List ℕ) (t : List ℤ) where
  outcome-kept : (b : Bool) (k : Check) (after : Memory Previous)
      → let x = cond b (of_outcome w (answered k (memory (record_of w) s m t) after)) (lent bad_encoding w s m t) in
      (x.answer ≡ 0 → ⊥) → x ≡ lent x.answer w s m t
  outcome-kept false k after h = refl
  outcome-kept true (Ok _) after h = absurd (h refl)
  outcome-kept true (Err r) after h = refl

module _ (c w s m : List ℕ) (t : List ℤ) where
  pub new-unchanged : ((new_words c w s m t).answer ≡ 0 → ⊥) → new_words c w s m t ≡ lent (new_words c w s m t).answer w s m t
  new-unchanged = outcome-kept w s m t (right_words c w) (check_memory (config_of c) (memory (record_of w) s m t)) (fresh (config_of c))

  pub observe-unchanged : (q : TopOfBook) → ((observe_words c w s m t q).answer ≡ 0 → ⊥)
      → observe_words c w s m t q ≡ lent (observe_words c w s m t q).answer w s m t
  observe-unchanged q =
      let d = config_of c in
      let before = memory (record_of w) s m t in
      outcome-kept w s m t (encoded c w) (refusal_by (rule d) (judge d) before q) (step (rule d) before q)

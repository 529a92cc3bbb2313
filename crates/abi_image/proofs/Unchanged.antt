-- An exported operation on images that answers another number than 0 leaves all lent memory as it was, whatever it holds.
use Prim.Native.Nat.{ℕ}
use mathlib.Core.Path.{◌≡◌, refl}
use mathlib.Core.Bool.{Bool, true, false, cond}
use mathlib.Core.List.{List}
use lib.IntN.{ℤ}
use lib.ListN.{length}
use Rattle.std.specs.Prelude.{Ok, Err}
use Rattle.refusals.specs.Refusals.{Check}
use Rattle.tally.specs.Entries.{tables}
use Rattle.calibrator.specs.Record.{memory}
use Rattle.image_layout.specs.Layout.{newest, image}
use Rattle.image.specs.Image.{save_refusal, saved_unless, restore_refusal, taken_unless}
use Rattle.config.specs.Configuration.{config_of}
use Rattle.abi_encoding.specs.Encoding.{record_of, right_words, encoded, bad_encoding, lent}
use Rattle.abi_image.specs.Images.{lent_out, of_saved, save_words, lent_back, of_taken, restore_words}

save-kept : (b : Bool) (k : Check) (out written : List ℕ) → let x = cond b (of_saved (saved_unless k out written)) (lent_out bad_encoding out) in
    (x.answer ≡ 0 → ⊥) → x ≡ lent_out x.answer out
save-kept false k out written h = refl
save-kept true (Ok _) out written h = absurd (h refl)
save-kept true (Err r) out written h = refl

module _ (w s m : List ℕ) (t : List ℤ) where
  restore-kept : (c b : List ℕ) (i : Bool) (k : Check)
      → let x = cond i (of_taken c w (taken_unless k b (memory (record_of w) s m t))) (lent_back c (lent bad_encoding w s m t)) in
      (x.rest.answer ≡ 0 → ⊥) → x ≡ lent_back c (lent x.rest.answer w s m t)
  restore-kept c b false k h = refl
  restore-kept c b true (Ok _) h = absurd (h refl)
  restore-kept c b true (Err r) h = refl

module _ (c w s m : List ℕ) (t : List ℤ) where
  pub save-unchanged : (out : List ℕ) → ((save_words c w s m t out).answer ≡ 0 → ⊥) → save_words c w s m t out ≡ lent_out (save_words c w s m t out).answer out
  save-unchanged out =
      let before = memory (record_of w) s m t in
      save-kept (encoded c w) (save_refusal (config_of c) before (length out)) out (image newest (config_of c) before)

  pub restore-unchanged : (b : List ℕ) → ((restore_words b c w s m t).rest.answer ≡ 0 → ⊥)
      → restore_words b c w s m t ≡ lent_back c (lent (restore_words b c w s m t).rest.answer w s m t)
  restore-unchanged b = restore-kept w s m t c b (right_words c w) (restore_refusal b (tables s m t))

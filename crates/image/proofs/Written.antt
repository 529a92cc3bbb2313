-- The four stores of an image, the header and the three tables: together they write the image.
use Prim.Native.Nat.{ℕ, ◌+◌, ◌*◌, ◌≤◌}
use mathlib.Core.Path.{◌≡◌}
use mathlib.Core.List.{List, [], map}
use lib.IntN.{ℤ}
use lib.ListN.{length}
use lib.Seq.{sets}
use Rattle.image_words.specs.Words.{bytes_of, twos}
use Rattle.config.specs.Configuration.{states}
use Rattle.config.specs.declared.MicroPriceConfig.{MicroPriceConfig}
use Rattle.tally.specs.Entries.{tables}
use Rattle.calibrator.specs.Record.{counts_of, memory}
use Rattle.calibrator.specs.declared.Record.{Record}
use Rattle.calibrator.proofs.Lengths.{RightLengths}
use Rattle.image_layout.specs.Layout.{oldest, header_length, cells, image_length, header, image}
use Rattle.image_layout.proofs.Parts.{image-is}

-- what writing an image of the form rests on: tables of the configuration's lengths, an output of the image's
pub record Writable (form : ℕ) (c : MicroPriceConfig) (s m : List ℕ) (t : List ℤ) (o : List ℕ) : Type 0 where
  pub sizes : RightLengths (states c) (length s) (length m) (length t)
  pub long : length o ≡ image_length form c

-- o is the output as it came, o₁ to o₄ as each store leaves it, C the number of cells as code has it
module _ {form : ℕ} {c : MicroPriceConfig} {s m : List ℕ} {t : List ℤ} {o : List ℕ} (w : Writable form c s m t o) where
  pub image-written : oldest ≤ form → (r : Record) {C : ℕ} {h o₁ o₂ o₃ o₄ : List ℕ} → C ≡ cells c
      → h ≡ header form c r.previous (counts_of r.counters (tables [] [] []))
      → o₁ ≡ sets o 0 (bytes_of h) → o₂ ≡ sets o₁ (header_length form) (bytes_of s) → o₃ ≡ sets o₂ (header_length form + 8 * C) (bytes_of m)
      → o₄ ≡ sets o₃ (header_length form + 16 * C) (bytes_of (map twos t)) → o₄ ≡ image form c (memory r s m t)
  unfolding header
  image-written least r ec eh e₁ e₂ e₃ e₄ = image-is form least c r s m t _ o _ _ _ _ w.sizes w.long eh _ ec e₁ e₂ e₃ e₄

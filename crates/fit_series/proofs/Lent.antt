-- Changes of a lent scratch in a row.
use Prim.Native.Nat.{ℕ}
use mathlib.Core.Path.{refl, ◌∙◌}
use mathlib.Core.List.{List}
use lib.Ieee.{Float}
use Rattle.fit_series.specs.declared.inner.LentScratch.{LentScratch}
use Rattle.fit_series.specs.InnerLent.{Changed}

pub changed-none : {C : ℕ → List Float → List Float → Type 0} {a : LentScratch} → C a.n a.floats.now a.floats.now → Changed C a a
changed-none h = record { states = refl; slice = refl; floats = h }

pub changed-then : {C D E : ℕ → List Float → List Float → Type 0} {a b c : LentScratch} → Changed C a b → Changed D b c
    → (C a.n a.floats.now b.floats.now → D a.n b.floats.now c.floats.now → E a.n a.floats.now c.floats.now)
    → Changed E a c
changed-then s t both = record { states = t.states ∙ s.states; slice = t.slice ∙ s.slice; floats = both s.floats (rw s.states at t.floats) }

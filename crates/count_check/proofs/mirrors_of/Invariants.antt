-- `count_check::mirrors_of` meets its contract: each state below N gets its mirror. Loop over i; invariant: of the first N places those below i hold the
-- mirrors, and level is the spread level of i, which `mirror_in` asks and `level_after` keeps.
use Prim.Native.Nat.{ℕ, ◌<◌}
use mathlib.Core.Path.{◌≡◌}
use lib.ListN.{get_or}
use Rattle.quotes.specs.States.{mirror_of}
use Rattle.quotes.specs.Inner.{HasLevel}
use Rattle.count_check.proofs.mirrors_of.Given as goal

abbrev pub invariant-loop-i : goal.invariant-loop-i
invariant-loop-i l = ((k : ℕ) → k < l.i → get_or l.mirror-items k 0 ≡ mirror_of l.w k) × HasLevel l.w l.level l.i

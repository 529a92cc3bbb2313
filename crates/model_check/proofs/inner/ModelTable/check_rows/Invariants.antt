-- `model_check::inner::ModelTable::check_rows` meets its contract: the first bad row is refused. Invariant of the loop: the first refusal of all rows is that
-- of the rows from i on, and level is the spread level of i, which `check_row` asks and `level_after` keeps. Measure: n less i. A row that is refused is the
-- answer (`first-stop`), a fine one is passed (`first_step`), and at the end nothing is refused.
use Prim.Native.Nat.{◌-◌}
use mathlib.Core.Path.{◌≡◌}
use Rattle.refusals.specs.Refusals.{first_from}
use Rattle.config.specs.Configuration.{states}
use Rattle.quotes.specs.Inner.{HasLevel}
use Rattle.model_check.specs.Check.{check_row}
use Rattle.model_check.proofs.inner.ModelTable.check_rows.Given as goal

abbrev pub invariant-loop-i : goal.invariant-loop-i
invariant-loop-i l =
    let row = check_row l.self.config l.self.rows.now in
    (first_from row 0 (states l.self.config) ≡ first_from row l.i (l.i-end - l.i)) × HasLevel l.w l.level l.i

-- `evening::calibrate_micro_price` meets its contract. Where the window or the lengths are refused, nothing was touched. Else the ends that were found lie in
-- the recording (`ends-known`), which `part_of` asks, and its part counted and fitted is the evening (`evening-is`).
use mathlib.Core.Path.{sym, ap, ◌∙◌}
use Rattle.tally.specs.Lent.{tables_of}
use Rattle.calibrator.specs.Record.{memory_with}
use Rattle.recording.specs.Window.{part_ends}
use Rattle.recording.proofs.Windows.{ends-known}
use Rattle.evening.proofs.Evenings.{evening-is}
use Rattle.evening.proofs.calibrate_micro_price.Goals as goal

pub part_of-part-requires : goal.part_of-part-requires
part_of-part-requires c =
    let a = c.args in
    ends-known a.recording.now a.start a.end c.window_of.result c.in_ok-ends.ends c.window_of.ensures (sym (ap part_ends c.in_ok-ends.was))

pub returns-clause-left : goal.returns-clause-left
returns-clause-left c =
    let a = c.args in
    evening-is a.config a.recording.now a.start a.end (memory_with a.rec.now (tables_of a.tables.now)) a.model.now a.scratch.now c.part_of-part.result.now _
    (sym c.window_of.ensures ∙ c.in_ok-ends.was)
    (rw (c.view.ensures.stay, c.view.ensures.moved, c.view.ensures.totals) at (sym c.check_lengths.ensures ∙ c.in_ok-check_lengths.was))
    c.part_of-part.ensures.words c.count_and_fit.ensures.left

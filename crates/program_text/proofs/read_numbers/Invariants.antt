-- `program_text::read_numbers` meets its contract. Invariant (`Reached`): going on from the scan s at byte i gives the answer for the whole text, and storing
-- the numbers that end from there on gives its output; no more than i numbers have ended. One byte more is `reached-on`. The ways out: a byte may not stand
-- where it does (`reached-off`), the text ends within a number (`reached-open`), it ends after one (`reached-end`).
use Rattle.std.proofs.Common.{◌≤◌}
use Rattle.program_text.proofs.Walks.{Reached}
use Rattle.program_text.proofs.read_numbers.Given as goal

abbrev pub invariant-loop-b : goal.invariant-loop-b
invariant-loop-b l =
    (l.s.count ≤ l.b-index)
    × Reached l.text l.first l.fn.out l.out l.s l.b-index

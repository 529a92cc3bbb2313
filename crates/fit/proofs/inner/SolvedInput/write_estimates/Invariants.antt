-- `fit::inner::SolvedInput::write_estimates` meets its contract: the rows of the model table one after another. Invariant: its first i rows are those of the
-- states below i (`Writing`, `writing_more`). At the way out i is n, and n rows of 7 words are the whole table (`writing-all`).
use Rattle.fit.specs.InnerInput.{estimates_in}
use Rattle.fit.proofs.Judging.{Writing}
use Rattle.fit.proofs.inner.SolvedInput.write_estimates.Given as goal

abbrev pub invariant-loop-i : goal.invariant-loop-i
invariant-loop-i l = Writing (estimates_in l.self) l.initial.model l.i l.model

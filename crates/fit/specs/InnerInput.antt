-- For inner functions alone: what a `FitInput` lends, as the definition of the fit takes it. Apart from Inner.antt, which the structs need.
use Rattle.std.specs.Prelude.{ℕ}
use Rattle.model.specs.declared.StateEstimate.{StateEstimate}
use Rattle.fit_estimates.specs.Estimates.{Given}
use Rattle.fit.specs.Inner.{given_in, rows_in}
use Rattle.fit.specs.declared.inner.FitInput.{FitInput}
use Rattle.fit.specs.declared.inner.SolvedInput.{SolvedInput}

abbrev pub input_in : FitInput → Given
input_in f =
    given_in f.tables.pairs.states f.buckets f.tick f.least f.tables.pairs.stay.now f.tables.pairs.moved.now f.tables.move_half_ticks.now f.mirrors.now

-- each state's estimate, from what stands in scratch
abbrev pub estimates_in : SolvedInput → ℕ → StateEstimate
estimates_in s = rows_in s.marked.input.tables.pairs.states (input_in s.marked.input) s.scratch.now

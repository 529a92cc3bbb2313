-- For the contracts and proofs of inner functions alone: how many bytes a line has at most.
use Rattle.std.specs.Prelude.{ℕ, ◌+◌, ◌≤◌, List}
use Rattle.program_text.specs.Written.{Wrote}
use Rattle.program_text.specs.declared.Out.{Out}

-- bytes written to an output, at most so many
pub record WroteIn (most : ℕ) (before : Out) (bytes : List ℕ) (after : Out) : Type 0 where
  pub wrote : Wrote before bytes after
  pub within : after.at ≤ before.at + most

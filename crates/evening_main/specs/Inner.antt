-- For the contracts and proofs of inner functions alone: what reading the input comes to.
use Rattle.std.specs.Prelude.{ℕ, ◌<◌, ◌≤◌, List, length, take, Option, Result, IfOk}
use Rattle.std.specs.Io.KnownBytes.{Consumes, IsAtEnd}

-- as many bytes as there is buffer for, at most
abbrev pub InputWithin : {E : Type 0} → ℕ → Result ℕ E → Type 0
InputWithin buffer r = IfOk r (λ n. n ≤ buffer)

-- the known bytes `had` of a reader, of which it has `has` left after all reads: those that it gave stand in front of the buffer, and they are fewer than there
-- is room for only at their end
abbrev pub ReadAll : {E : Type 0} → Option (List ℕ) → Option (List ℕ) → List ℕ → Result ℕ E → Type 0
ReadAll had has buffer r = IfOk r (λ n. Consumes had has (take n buffer) × (n < length buffer → IsAtEnd has))

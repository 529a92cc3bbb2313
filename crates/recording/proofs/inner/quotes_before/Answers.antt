-- `recording::inner::quotes_before` meets its contract: in a sorted recording the first words of its fives do not fall (`fives-rise`), so the halving finds
-- where those before the time end, which is how many they are (`fives-before`).
use mathlib.Core.List.{List}
use Prim.Native.Nat.{ℕ}
use lib.Dec.{ltb}
use Rattle.std.proofs.Common.{rules}
use Rattle.std.proofs.lemmas.List.Sorted.{IsPartitionPoint-from_clause, IsPartitionedBy-ltb}
use Rattle.recording.proofs.Chunks.{first_word, fives-rise, fives-before}
use Rattle.recording.proofs.inner.quotes_before.Goals as goal

pub returns : goal.returns
returns c =
    let fives = c.as_chunks.ensures in
    let words = c.as_chunks.result.0.now in
    let found = c.partition_point in
    fives-before c.args.recording.now words fives.front fives.front_len c.args.time c.requires found.result found.ensures.bound
    (IsPartitionPoint-from_clause (λ (five : List ℕ). ltb (first_word five) c.args.time) words found.result found.ensures.partitioned
    (IsPartitionedBy-ltb first_word words c.args.time (fives-rise c.args.recording.now words fives.front fives.front_len c.requires))
    (λ a r f' k. search rules))

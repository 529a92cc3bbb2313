-- The hypotheses of demand 3 in words are met: the list of `returning-calls` as exported calls, with a restore that is lent four words for a configuration.
-- It has restores into other memory, one of them of no record's words, and one into tables of wrong lengths.
use Prim.Native.Nat.{ℕ}
use mathlib.Core.Path.{◌≡◌, refl}
use mathlib.Core.List.{List, [], ◌∷◌}
use lib.IntN.{pos}
use lib.ListN.{replicate}
use Rattle.config.specs.Configuration.{config_length, config_words}
use Rattle.history.proofs.LastKept.{three-states, even-quote, empty-image, first-image, empty-output, sevens, two-states, returning-calls, returning-words, returning-own}
use Rattle.abi_encoding.specs.Encoding.{record_length}
use Rattle.abi_counting.specs.Counting.{new_words}
use Rattle.abi_claims.specs.WordCalls.{WordMemory, memory_in_words, WordCall, observing, saving, restoring, history_calls}
use Rattle.abi_claims.specs.Demand.{Demand3Words}
use Rattle.abi_claims.proofs.Demand.{demand-3-words}

abbrev c : List ℕ
c = config_words three-states

-- words of 165 in each byte, as memory that was not cleared may hold
abbrev uncleared : ℕ
uncleared = 0xa5a5_a5a5_a5a5_a5a5

-- what new is lent
abbrev w : List ℕ
w = replicate record_length uncleared

-- memory of the right lengths
abbrev other : WordMemory
other = memory_in_words sevens

abbrev word-calls : List WordCall
word-calls =
    saving empty-output ∷
    observing (even-quote 0 5) ∷
    observing (even-quote 1 5) ∷
    saving empty-output ∷
    restoring empty-image (replicate config_length uncleared) other ∷
    observing (even-quote 0 6) ∷
    observing (even-quote 1 5) ∷
    restoring first-image (replicate 4 0) other ∷
    saving empty-output ∷
    saving [] ∷
    restoring first-image c (memory_in_words two-states) ∷
    restoring first-image c other ∷
    []

same-calls : history_calls word-calls ≡ returning-calls
same-calls = refl

new-answers-zero : (new_words c w (replicate 9 7) (replicate 9 7) (replicate 3 (pos 7))).answer ≡ 0
new-answers-zero = refl

pub returning-in-words : Demand3Words c w (replicate 9 7) (replicate 9 7) (replicate 3 (pos 7)) word-calls
returning-in-words = demand-3-words c w (replicate 9 7) (replicate 9 7) (replicate 3 (pos 7)) new-answers-zero returning-words word-calls returning-own

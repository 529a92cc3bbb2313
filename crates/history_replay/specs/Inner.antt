-- For the contracts and proofs of inner functions alone: a call as it is read from its words, and how one call ends.
use Rattle.std.specs.Prelude.{ℕ, ◌+◌, ◌-◌, ◌≤◌, ◌≡◌, cond, eqb, leb, List, take, drop, Result, Ok, Err, ⊤}
use Rattle.refusals.specs.Refusals.{number_of}
use Rattle.config.specs.declared.MicroPriceConfig.{MicroPriceConfig}
use Rattle.tally.specs.Rules.{Memory}
use Rattle.calibrator.specs.Record.{Previous}
use Rattle.history.specs.Calls.{Call, quote, save, restore, act}
use Rattle.history_replay.specs.declared.BadEncoding.{BadEncoding}
use Rattle.history_replay.specs.declared.inner.Part.{Part}
use Rattle.history_replay.specs.declared.inner.CodedCall.{CodedCall}
use Rattle.history_replay.specs.declared.inner.CodedCall.TheVariants.{Quote, Save, Restore}
use Rattle.history_replay.specs.declared.inner.NotDone.{NotDone}
use Rattle.history_replay.specs.declared.inner.NotDone.TheVariants.{Refused, OtherConfiguration}
use Rattle.history_replay.specs.Replay.{Site, word_in, start_at, long_at, call_quote, is_call, well_coded, badly_coded, is_left_out, other_configuration, answer_number, Stepped, stepped_unless}

-- ---- a call as it is read

abbrev pub part_at : List ℕ → ℕ → Part
part_at w k = record { start = start_at w k; end = start_at w k + long_at w k }

-- by its kind
abbrev pub coded : List ℕ → ℕ → CodedCall
coded w k =
    cond (eqb (word_in w k 0) 0) (Quote (call_quote w k)) (cond (eqb (word_in w k 0) 1) (Save (part_at w k)) (Restore (part_at w k)))

-- so many bytes from a place on, where they lie in the room
abbrev pub part_in : ℕ → ℕ → ℕ → Result Part BadEncoding
part_in room start long =
    cond (leb (start + long) room) (Ok (record { start = start; end = start + long })) (Err badly_coded)

-- call k, if it is one
abbrev pub decoded : ℕ → List ℕ → ℕ → Result CodedCall BadEncoding
decoded room w k = cond (is_call room w k) (Ok (coded w k)) (Err badly_coded)

-- a call for each answer, or a bad encoding
abbrev pub coding : ℕ → ℕ → List ℕ → Result ⊤ BadEncoding
coding room answers w = cond (well_coded room answers w) (Ok tt) (Err badly_coded)

-- the bytes of a save or a restore lie in the room
abbrev pub LiesIn : ℕ → CodedCall → Type 0
LiesIn room (Quote q) = Unit {0}
LiesIn room (Save p) = (p.start ≤ p.end) × (p.end ≤ room)
LiesIn room (Restore p) = (p.start ≤ p.end) × (p.end ≤ room)

-- ---- one call

abbrev pub bytes_in : Part → List ℕ → List ℕ
bytes_in p room = take (p.end - p.start) (drop p.start room)

-- the call on lent memory and room, and where a save's output begins
abbrev pub call_on : CodedCall → Site → Call
call_on (Quote q) s = quote q
call_on (Save p) s = save (bytes_in p s.room)
call_on (Restore p) s = restore (bytes_in p s.room) s.memory

abbrev pub output_start : CodedCall → ℕ
output_start (Quote q) = 0
output_start (Save p) = p.start
output_start (Restore p) = p.start

-- what it is answered with, and the site after it
abbrev pub stepped_by : MicroPriceConfig → CodedCall → Site → Stepped
stepped_by c l s = stepped_unless (is_left_out c (call_on l s)) (act c s.memory (call_on l s)) (output_start l) s

-- 0 of a call that is done, else the number of the refusal or of the other configuration
abbrev pub done_number : Result ⊤ NotDone → ℕ
done_number (Ok _) = 0
done_number (Err (Refused r)) = number_of r
done_number (Err OtherConfiguration) = other_configuration

-- what inner functions say of one call on the memory m: it ends with the number n and leaves the memory o
abbrev pub CallEnds : MicroPriceConfig → Memory Previous → Call → ℕ → Memory Previous → Type 0
CallEnds c m l n o =
    let out = is_left_out c l in
    (n ≡ cond out other_configuration (answer_number (act c m l).answer)) × (o ≡ cond out m (act c m l).left)

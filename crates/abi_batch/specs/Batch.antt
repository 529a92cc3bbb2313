-- What the exported evening and replay answer and leave in the memory that they are lent. Words that are not encoded, and of the evening other than five and
-- ten words, are answered with bad_encoding and change nothing; else it is the operation's own definition, in numbers.
use Rattle.std.specs.Prelude.{ℕ, ◌≡◌, Bool, true, cond, ◌||◌, List, eqb, Float, ℤ, length, Result, Ok, Err, ⊤}
use Rattle.refusals.specs.Refusals.{number_of, check_number}
use Rattle.tally.specs.Entries.{tables}
use Rattle.tally.specs.Rules.{Memory}
use Rattle.calibrator.specs.Record.{memory, Previous}
use Rattle.recording.specs.declared.Recorded.{Recorded}
use Rattle.history_replay.specs.declared.BadEncoding.{BadEncoding}
use Rattle.refusals.specs.declared.Refusal.{Refusal}
use Rattle.history.specs.Calls.{Call}
use Rattle.history_replay.specs.Replay.{site, calls_from, Replay, replayed, replay_history, past_of, OwnCalls}
use Rattle.evening.specs.Evening.{EveningOutcome, calibrated}
use Rattle.config.specs.Configuration.{config_of}
use Rattle.abi_encoding.specs.Encoding.{record_words_of, record_of, right_words, encoded, bad_encoding, Lent, lent, lent_as}

-- ---- the evening: document 01, "An evening's calibration"

-- an answer, the record's words, the three tables, the model table, scratch, and the word for the number of invalid quotes
pub record LentEvening : Type 0 where
  pub answer : ℕ
  pub rec : List ℕ
  pub stay : List ℕ
  pub moved : List ℕ
  pub totals : List ℤ
  pub model : List ℕ
  pub scratch : List Float
  pub invalid : ℕ

abbrev pub lent_evening : ℕ → List ℕ → List ℕ → List ℕ → List ℤ → List ℕ → List Float → ℕ → LentEvening
lent_evening answer rec stay moved totals model scratch invalid =
    record {
      answer = answer;
      rec = rec;
      stay = stay;
      moved = moved;
      totals = totals;
      model = model;
      scratch = scratch;
      invalid = invalid;
    }

-- a fit's answer, or a refusal before it
abbrev pub evening_number : Result Recorded Refusal → ℕ
evening_number (Ok d) = check_number d.answer
evening_number (Err r) = number_of r

-- the number of invalid quotes is written with a fit's answer, and only then
abbrev pub invalid_after : Result Recorded Refusal → ℕ → ℕ
invalid_after (Ok d) invalid = d.invalid
invalid_after (Err r) invalid = invalid

-- quotes were counted: there is a fit's answer, or a quote stopped the count with 2 or 6
abbrev pub has_counted : Result Recorded Refusal → Bool
has_counted (Ok d) = true
has_counted (Err r) = eqb (number_of r) 2 || eqb (number_of r) 6

-- the record is written where quotes were counted, and only then
abbrev pub record_after_evening : Result Recorded Refusal → List ℕ → Memory Previous → List ℕ
record_after_evening a w m = cond (has_counted a) (record_words_of m) w

-- what the evening leaves of the record's words w and of the word for the number of invalid quotes
abbrev pub of_evening : List ℕ → ℕ → EveningOutcome → LentEvening
of_evening w invalid o =
    lent_evening (evening_number o.answer) (record_after_evening o.answer w o.left) o.left.counts.tables.stay o.left.counts.tables.moved
    o.left.counts.tables.totals o.model o.scratch (invalid_after o.answer invalid)

-- the record is overwritten: its words may be any
abbrev pub calibrate_words : List ℕ → List ℕ → List ℕ → List ℕ → List ℤ → List ℕ → ℕ → ℕ → List ℕ → List Float → ℕ → LentEvening
calibrate_words c w s m t recording start end model scratch invalid =
    cond (right_words c w) (of_evening w invalid (calibrated (config_of c) (memory (record_of w) s m t) recording start end model scratch))
    (lent_evening bad_encoding w s m t model scratch invalid)

-- ---- the replay: document 01, "The history"

-- the numbers of the calls' answers, the room, and what else a replay leaves
pub record LentReplay : Type 0 where
  pub numbers : List ℕ
  pub room : List ℕ
  pub rest : Lent

abbrev pub lent_replay : List ℕ → List ℕ → Lent → LentReplay
lent_replay numbers room rest = record { numbers = numbers; room = room; rest = rest }

abbrev pub replayed_number : Result ⊤ BadEncoding → ℕ
replayed_number (Ok _) = 0
replayed_number (Err e) = bad_encoding

-- the record is written unless the encoding is bad
abbrev pub record_after_replay : Result ⊤ BadEncoding → List ℕ → Memory Previous → List ℕ
record_after_replay (Ok _) w m = record_words_of m
record_after_replay (Err e) w m = w

-- what a replay leaves of the record's words w
abbrev pub of_replay : List ℕ → Replay → LentReplay
of_replay w r =
    lent_replay r.numbers r.after.room
    (lent_as (replayed_number r.answer) (record_after_replay r.answer w r.after.memory) r.after.memory)

module _ (c w s m : List ℕ) (t : List ℤ) (calls room numbers : List ℕ) where
  abbrev pub replay_words : LentReplay
  replay_words =
      cond (encoded c w) (of_replay w (replayed (config_of c) (site (record_of w) (tables s m t) room) calls numbers))
      (lent_replay numbers room (lent bad_encoding w s m t))

  -- what the history of the calls says, after those before them
  abbrev pub replay_history_words : List Call → LentReplay
  replay_history_words before =
      let d = config_of c in
      of_replay w (replay_history d (past_of d before) room calls (calls_from d calls 0 (length numbers) (site (record_of w) (tables s m t) room)))

  -- a replay is the run of its calls; and of a calibrator's own calls, what their history says
  pub record PromisedWords (r : LentReplay) : Type 0 where
    pub run_is : r ≡ replay_words
    pub history-is : encoded c w ≡ true → (o : OwnCalls (config_of c) (site (record_of w) (tables s m t) room) calls numbers)
        → r ≡ replay_history_words o.before

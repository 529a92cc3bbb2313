-- Lists of micro_price_observe, _save and _restore on one calibrator, in words: document 01, "The history". Each call is what its contract says of it.
use Rattle.std.specs.Prelude.{ℕ, Bool, true, cond, List, [], ◌∷◌, map, eqb, ℤ}
use Rattle.refusals.specs.Refusals.{check_number}
use Rattle.quotes.specs.declared.TopOfBook.{TopOfBook}
use Rattle.tally.specs.Rules.{Memory}
use Rattle.calibrator.specs.Record.{memory, Previous}
use Rattle.recording.specs.Recording.{filter}
use Rattle.config.specs.Configuration.{config_of}
use Rattle.abi_encoding.specs.Encoding.{record_of, record_words_of, right_words, bad_encoding, Lent}
use Rattle.history.specs.Calls.{Call, quote, save, restore, Answer, observes, saves, restores, history_memory, new_past, history_run}
use Rattle.abi_counting.specs.Counting.{observe_words}
use Rattle.abi_image.specs.Images.{LentOut, of_saved, save_words, restored_number, config_after, restore_words}

-- ---- the calls

-- a record's words and the three tables, as a caller holds them
pub record WordMemory : Type 0 where
  pub rec : List ℕ
  pub stay : List ℕ
  pub moved : List ℕ
  pub totals : List ℤ

-- those that an operation leaves, and those of a memory
abbrev pub lent_memory : Lent → WordMemory
lent_memory l = record { rec = l.rec; stay = l.stay; moved = l.moved; totals = l.totals }

abbrev pub memory_in_words : Memory Previous → WordMemory
memory_in_words m =
    record {
      rec = record_words_of m;
      stay = m.counts.tables.stay;
      moved = m.counts.tables.moved;
      totals = m.counts.tables.totals;
    }

-- a save lends an output; a restore lends bytes, words for a configuration, and a record and tables to fill
pub data WordCall : Type 0 where
  observing : TopOfBook → WordCall
  saving : List ℕ → WordCall
  restoring : List ℕ → List ℕ → WordMemory → WordCall

-- the number; of a save with its output after it, of a restore with the configuration's words after it
pub data WordAnswer : Type 0 where
  observe_answer : ℕ → WordAnswer
  save_answer : LentOut → WordAnswer
  restore_answer : ℕ → List ℕ → WordAnswer

-- ---- the operations on a caller's memory, under a configuration's words c

pub record WordsActed : Type 0 where
  pub answer : WordAnswer
  pub left : WordMemory

-- memory that a restore fills is the calibrator's from then on; a refused one leaves what it is lent (`restore-unchanged` of `abi_image`)
abbrev pub act_words : List ℕ → WordMemory → WordCall → WordsActed
act_words c h (observing q) =
    let l = observe_words c h.rec h.stay h.moved h.totals q in
    record { answer = observe_answer l.answer; left = lent_memory l }
act_words c h (saving out) =
    record { answer = save_answer (save_words c h.rec h.stay h.moved h.totals out); left = h }
act_words c h (restoring b d l) =
    let t = restore_words b d l.rec l.stay l.moved l.totals in
    record { answer = restore_answer t.rest.answer t.config; left = cond (eqb t.rest.answer 0) (lent_memory t.rest) h }

pub record WordsRan : Type 0 where
  pub answers : List WordAnswer
  pub left : WordMemory

abbrev pub run_words : List ℕ → WordMemory → List WordCall → WordsRan
run_words c h [] = record { answers = []; left = h }
run_words c h (k ∷ ks) =
    let a = act_words c h k in
    let r = run_words c a.left ks in
    record { answers = a.answer ∷ r.answers; left = r.left }

-- ---- the same as calls of the history

-- a restore that is lent words of other lengths is answered with bad_encoding, and is none
abbrev pub is_made : WordCall → Bool
is_made (observing q) = true
is_made (saving out) = true
is_made (restoring b d l) = right_words d l.rec

abbrev pub call_of : WordCall → Call
call_of (observing q) = quote q
call_of (saving out) = save out
call_of (restoring b d l) = restore b (memory (record_of l.rec) l.stay l.moved l.totals)

abbrev pub history_calls : List WordCall → List Call
history_calls ks = map call_of (filter is_made ks)

-- ---- what the history says, in words

abbrev pub config_lent : WordCall → List ℕ
config_lent (observing q) = []
config_lent (saving out) = []
config_lent (restoring b d l) = d

abbrev pub answer_in_words : WordCall → Answer → WordAnswer
answer_in_words k (observes a) = observe_answer (check_number a)
answer_in_words k (saves s) = save_answer (of_saved s)
answer_in_words k (restores r) = restore_answer (restored_number r) (config_after r (config_lent k))

-- bad_encoding, and the configuration's words as they came
abbrev pub not_made : WordCall → WordAnswer
not_made k = restore_answer bad_encoding (config_lent k)

-- of the answers to the calls that are made, the first is k's; then come those of later calls
abbrev pub first_in_words : WordCall → List Answer → WordAnswer
first_in_words k [] = not_made k
first_in_words k (a ∷ later) = answer_in_words k a

abbrev pub later_answers : List Answer → List Answer
later_answers [] = []
later_answers (a ∷ later) = later

-- an answer for each call
abbrev pub answers_in_words : List WordCall → List Answer → List WordAnswer
answers_in_words [] answers = []
answers_in_words (k ∷ ks) answers =
    cond (is_made k) (first_in_words k answers ∷ answers_in_words ks (later_answers answers)) (not_made k ∷ answers_in_words ks answers)

abbrev pub history_in_words : List ℕ → List WordCall → WordsRan
history_in_words c ks =
    let s = history_run (config_of c) (new_past (config_of c)) (history_calls ks) in
    record { answers = answers_in_words ks s.answers; left = memory_in_words (history_memory (config_of c) s.past.now) }

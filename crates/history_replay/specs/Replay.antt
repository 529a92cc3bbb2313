-- An encoded list of calls, run by the operations on lent memory, with lent room for images.
-- A call is six words: its kind, 0 a quote, 1 a save, 2 a restore; then a quote's five words, or where its bytes begin in the room, how many they are, and
-- three words of any content. A restore is into the calibrator's own record and tables; one of another configuration is left out.
use Rattle.std.specs.Prelude.{ℕ, zero, suc, ◌+◌, ◌*◌, ◌≡◌, Bool, true, false, not, cond, ◌&&◌, ◌||◌, List, [], ◌∷◌, ◌++◌, leb, eqb, length, get_or, take, drop, Result, Ok, Err, ⊤}
use Rattle.std.proofs.Math.Option.{Option, none, some}
use Rattle.std.proofs.lemmas.List.Edits.{sets}
use Rattle.basics.specs.Lists.{all_from}
use Rattle.refusals.specs.Refusals.{number_of, check_number}
use Rattle.config.specs.Configuration.{valid, same_config}
use Rattle.config.specs.declared.MicroPriceConfig.{MicroPriceConfig}
use Rattle.quotes.specs.declared.TopOfBook.{TopOfBook}
use Rattle.tally.specs.Entries.{Tables}
use Rattle.tally.specs.Rules.{Memory}
use Rattle.calibrator.specs.Record.{memory_with, Previous}
use Rattle.calibrator.specs.Observe.{refuses}
use Rattle.history_replay.specs.declared.BadEncoding.{BadEncoding}
use Rattle.calibrator.specs.declared.Record.{Record}
use Rattle.image_layout.specs.Layout.{form_in, config_in}
use Rattle.image.specs.Image.{restore_refusal}
use Rattle.history.specs.Calls.{Call, quote, save, restore, Answer, observes, saves, restores, Acted, act, run, history_memory, Past, new_past, history_run, OwnImages, ConfigWords}
use Rattle.history.specs.Demand.{left}

-- ---- the encoding

-- word f of call k
abbrev pub word_in : List ℕ → ℕ → ℕ → ℕ
word_in w k f = get_or w (6 * k + f) 0

abbrev pub call_quote : List ℕ → ℕ → TopOfBook
call_quote w k =
    record {
      timestamp_ms = word_in w k 1;
      bid = word_in w k 2;
      ask = word_in w k 3;
      bid_size = word_in w k 4;
      ask_size = word_in w k 5;
    }

abbrev pub start_at : List ℕ → ℕ → ℕ
start_at w k = word_in w k 1

abbrev pub long_at : List ℕ → ℕ → ℕ
long_at w k = word_in w k 2

-- a quote, or a save or restore whose bytes lie in the room
abbrev pub is_call : ℕ → List ℕ → ℕ → Bool
is_call room w k = eqb (word_in w k 0) 0 || (leb (word_in w k 0) 2 && leb (start_at w k + long_at w k) room)

-- a call for each answer
abbrev pub well_coded : ℕ → ℕ → List ℕ → Bool
well_coded room answers w = eqb (length w) (6 * answers) && all_from (is_call room w) 0 answers

-- ---- the calls

-- the calibrator's memory, and the room
pub record Site : Type 0 where
  pub memory : Memory Previous
  pub room : List ℕ

abbrev pub site : Record → Tables → List ℕ → Site
site r t room = record { memory = memory_with r t; room = room }

abbrev pub call_at : List ℕ → ℕ → Site → Call
call_at w k s =
    let bytes = take (long_at w k) (drop (start_at w k) s.room) in
    cond (eqb (word_in w k 0) 0) (quote (call_quote w k)) (cond (eqb (word_in w k 0) 1) (save bytes) (restore bytes s.memory))

-- a save's output is in the room
abbrev pub room_after : Answer → ℕ → List ℕ → List ℕ
room_after (observes a) at room = room
room_after (saves s) at room = sets room at s.output
room_after (restores a) at room = room

abbrev pub site_after : Acted → ℕ → List ℕ → Site
site_after a at room = record { memory = a.left; room = room_after a.answer at room }

-- an image of another configuration that nothing refuses
abbrev pub is_foreign : MicroPriceConfig → List ℕ → Tables → Bool
is_foreign c b t = not (same_config c (config_in (form_in b) b)) && not (refuses (restore_refusal b t))

-- a restore of such an image is left out
abbrev pub is_left_out : MicroPriceConfig → Call → Bool
is_left_out c (quote q) = false
is_left_out c (save out) = false
is_left_out c (restore b lent) = is_foreign c b lent.counts.tables

-- its number: none of 01's
abbrev pub other_configuration : ℕ
other_configuration = 101

-- 0 if nothing is refused, else the refusal's number
abbrev pub answer_number : Answer → ℕ
answer_number (observes a) = check_number a
answer_number (saves s) = check_number s.answer
answer_number (restores (Ok d)) = 0
answer_number (restores (Err r)) = number_of r

-- what a call is answered with, and the site after it
pub record Stepped : Type 0 where
  pub answer : ℕ
  pub after : Site

abbrev pub stepped_to : ℕ → Site → Stepped
stepped_to a s = record { answer = a; after = s }

-- one that is left out changes nothing
abbrev pub stepped_unless : Bool → Acted → ℕ → Site → Stepped
stepped_unless true a at s = stepped_to other_configuration s
stepped_unless false a at s = stepped_to (answer_number a.answer) (site_after a at s.room)

-- call k
abbrev pub stepped : MicroPriceConfig → List ℕ → ℕ → Site → Stepped
stepped c w k s =
    stepped_unless (is_left_out c (call_at w k s)) (act c s.memory (call_at w k s)) (start_at w k) s

-- n calls from call k on; none where one is left out
abbrev pub calls_from : MicroPriceConfig → List ℕ → ℕ → ℕ → Site → List (Option Call)
calls_from c w k zero s = []
calls_from c w k (suc n) s = cond (is_left_out c (call_at w k s)) none (some (call_at w k s)) ∷ calls_from c w (suc k) n (stepped c w k s).after

-- those that are made
abbrev pub calls_made : List (Option Call) → List Call
calls_made [] = []
calls_made (none ∷ ks) = calls_made ks
calls_made (some k ∷ ks) = k ∷ calls_made ks

-- the numbers in the order of the list, from the answers to the calls that are made
abbrev pub call_numbers : List (Option Call) → List Answer → List ℕ
call_numbers [] answers = []
call_numbers (none ∷ ks) answers = other_configuration ∷ call_numbers ks answers
call_numbers (some k ∷ ks) [] = []
call_numbers (some k ∷ ks) (a ∷ answers) = answer_number a ∷ call_numbers ks answers

-- the room after those answers
abbrev pub room_from : List ℕ → ℕ → List (Option Call) → List Answer → List ℕ → List ℕ
room_from w k [] answers room = room
room_from w k (none ∷ ks) answers room = room_from w (suc k) ks answers room
room_from w k (some l ∷ ks) [] room = room
room_from w k (some l ∷ ks) (a ∷ answers) room = room_from w (suc k) ks answers (room_after a (start_at w k) room)

-- ---- replay

abbrev pub badly_coded : BadEncoding
badly_coded = record {}

pub record Replay : Type 0 where
  pub answer : Result ⊤ BadEncoding
  pub numbers : List ℕ
  pub after : Site

abbrev pub replay : Result ⊤ BadEncoding → List ℕ → Site → Replay
replay a ns s = record { answer = a; numbers = ns; after = s }

-- the end of a replay, by the answers to the calls that are made and the memory that they leave
abbrev pub replay_end : List ℕ → List ℕ → List (Option Call) → List Answer → Memory Previous → Replay
replay_end w room ks answers m = replay (Ok tt) (call_numbers ks answers) (record { memory = m; room = room_from w 0 ks answers room })

abbrev pub replay_run : MicroPriceConfig → Site → List ℕ → List (Option Call) → Replay
replay_run c s w ks =
    let r = run c s.memory (calls_made ks) in
    replay_end w s.room ks r.answers r.left

-- a bad encoding changes nothing; else the calls are run
abbrev pub replayed : MicroPriceConfig → Site → List ℕ → List ℕ → Replay
replayed c s w ns =
    cond (well_coded (length s.room) (length ns) w) (replay_run c s w (calls_from c w 0 (length ns) s)) (replay (Err badly_coded) ns s)

-- ---- as the history says

-- what a list of calls leaves of a calibrator with the past P, by its history
abbrev pub replay_history : MicroPriceConfig → Past → List ℕ → List ℕ → List (Option Call) → Replay
replay_history c P room w ks =
    let s = history_run c P (calls_made ks) in
    replay_end w room ks s.answers (history_memory c s.past.now)

-- the past of a new calibrator after some calls
abbrev pub past_of : MicroPriceConfig → List Call → Past
past_of c ks = (history_run c (new_past c) ks).past

-- a well coded list, on the memory that the calls before it left of a new calibrator, in which only kept images are taken back
pub record OwnCalls (c : MicroPriceConfig) (s : Site) (w ns : List ℕ) : Type 0 where
  pub valid-is : valid c ≡ true
  pub words : ConfigWords c
  pub before : List Call
  pub reached : s.memory ≡ left c before
  pub coded : well_coded (length s.room) (length ns) w ≡ true
  pub own : OwnImages c (new_past c) (before ++ calls_made (calls_from c w 0 (length ns) s))

-- a replay is the run of its calls; and of a calibrator's own calls, what their history says after those before them
pub record Promised (c : MicroPriceConfig) (s : Site) (w ns : List ℕ) (r : Replay) : Type 0 where
  pub run_is : r ≡ replayed c s w ns
  pub history-is : (o : OwnCalls c s w ns) → r ≡ replay_history c (past_of c o.before) s.room w (calls_from c w 0 (length ns) s)

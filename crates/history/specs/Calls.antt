-- Lists of quotes, saves and restores on a new calibrator: document 01, "The history".
use Rattle.std.specs.Prelude.{ℕ, Bool, true, false, not, ◌&&◌, ◌||◌, List, [], ◌∷◌, ◌++◌, T, eqb, length, Some, None, Result, Ok, Err}
use Rattle.std.proofs.Math.Option.{Option, none, some}
use Rattle.basics.specs.Lists.{same_words}
use Rattle.refusals.specs.Refusals.{refuse_if, first_of, Check}
use Rattle.refusals.specs.declared.Refusal.{Refusal}
use Rattle.config.specs.Configuration.{states, config_words}
use Rattle.config.specs.declared.MicroPriceConfig.{MicroPriceConfig}
use Rattle.quotes.specs.Quotes.{check_quote}
use Rattle.quotes.specs.declared.TopOfBook.{TopOfBook}
use Rattle.tally.specs.Events.{Counts}
use Rattle.tally.specs.Limits.{over_limit}
use Rattle.tally.specs.Rules.{Memory, memory_of}
use Rattle.calibrator.specs.Observe.{rule, fresh, earlier, observed, lent_wrong}
use Rattle.calibrator.specs.Record.{Previous}
use Rattle.image_words.specs.Words.{AllWords}
use Rattle.image_layout.specs.Layout.{newest, image_length, image, previous_words}
use Rattle.image.specs.Image.{Saved, saved, saved_unless, restored}

-- a save lends an output; a restore lends bytes, and the record and tables to fill
pub data Call : Type 0 where
  quote : TopOfBook → Call
  save : List ℕ → Call
  restore : List ℕ → Memory Previous → Call

-- a save answers with its output after it
pub data Answer : Type 0 where
  observes : Check → Answer
  saves : Saved → Answer
  restores : Result MicroPriceConfig Refusal → Answer

-- ---- the operations on memory

pub record Acted : Type 0 where
  pub answer : Answer
  pub left : Memory Previous

abbrev pub acted : Answer → Memory Previous → Acted
acted a m = record { answer = a; left = m }

-- memory that a restore fills is the calibrator's from then on
abbrev pub after_restore : Result MicroPriceConfig Refusal → Memory Previous → Memory Previous → Memory Previous
after_restore (Ok c) m filled = filled
after_restore (Err r) m filled = m

abbrev pub act : MicroPriceConfig → Memory Previous → Call → Acted
act c m (quote q) = let o = observed c m q in acted (observes o.answer) o.left
act c m (save out) = acted (saves (saved c m out)) m
act c m (restore b lent) =
    let t = restored b lent in
    acted (restores t.answer) (after_restore t.answer m t.left)

pub record Ran : Type 0 where
  pub answers : List Answer
  pub left : Memory Previous

abbrev pub run : MicroPriceConfig → Memory Previous → List Call → Ran
run c m [] = record { answers = []; left = m }
run c m (k ∷ ks) =
    let a = act c m k in
    let r = run c a.left ks in
    record { answers = a.answer ∷ r.answers; left = r.left }

-- ---- the history

-- the quotes, on top of counts that they start from
pub record History : Type 0 where
  pub start : Counts
  pub quotes : List TopOfBook

-- none, or the one quote
abbrev pub previous_quotes : Previous → List TopOfBook
previous_quotes None = []
previous_quotes (Some q) = q ∷ []

-- the history that begins at a memory: it starts from the memory's counts, and the last quote, if any, is its first
abbrev pub begins : Memory Previous → History
begins m = record { start = m.counts; quotes = previous_quotes m.last }

-- empty at new
abbrev pub new_history : MicroPriceConfig → History
new_history c = begins (fresh c)

abbrev pub gains : History → TopOfBook → History
gains H q = record { start = H.start; quotes = H.quotes ++ q ∷ [] }

-- its last quote, counters and tables
abbrev pub history_memory : MicroPriceConfig → History → Memory Previous
history_memory c H = memory_of (rule c) None H.start H.quotes

-- 2, 3, 4, 5 (against its last), 6 (the history with the quote passes a limit)
abbrev pub history_refusal : MicroPriceConfig → History → TopOfBook → Check
history_refusal c H q =
    first_of (first_of (check_quote c q) (refuse_if (earlier (history_memory c H).last q) 5))
    (refuse_if (over_limit (history_memory c (gains H q)).counts) 6)

pub record Kept : Type 0 where
  pub bytes : List ℕ
  pub history : History

-- the history, and the kept images with theirs, the latest first
pub record Past : Type 0 where
  pub now : History
  pub kept : List Kept

abbrev pub new_past : MicroPriceConfig → Past
new_past c = record { now = new_history c; kept = [] }

abbrev pub becomes : Past → History → Past
becomes P H = record { now = H; kept = P.kept }

abbrev pub keeps : Past → List ℕ → Past
keeps P b = record { now = P.now; kept = record { bytes = b; history = P.now } ∷ P.kept }

abbrev pub or_else : Bool → History → Option History → Option History
or_else true H o = some H
or_else false H o = o

-- the history last kept with that image
abbrev pub kept_with : List ℕ → List Kept → Option History
kept_with b [] = none
kept_with b (k ∷ ks) = or_else (same_words b k.bytes) k.history (kept_with b ks)

-- the history, if any, that a restore of those bytes brings back: the one last kept with them
abbrev pub returns : MicroPriceConfig → Past → List ℕ → Option History
returns c P b = kept_with b P.kept

pub record HistoryActed : Type 0 where
  pub answer : Answer
  pub past : Past

abbrev pub history_acted : Answer → Past → HistoryActed
history_acted a P = record { answer = a; past = P }

abbrev pub history_quote : Check → Past → History → HistoryActed
history_quote (Ok _) P H = history_acted (observes (Ok tt)) (becomes P H)
history_quote (Err r) P H = history_acted (observes (Err r)) P

-- 7, or the history's image is written and kept
abbrev pub history_save : Check → Past → List ℕ → List ℕ → HistoryActed
history_save (Ok _) P out b = history_acted (saves (saved_unless (Ok tt) out b)) (keeps P b)
history_save (Err r) P out b = history_acted (saves (saved_unless (Err r) out b)) P

-- a kept image, into memory of the right lengths, brings its history back; another restore is refused
abbrev pub history_restore : MicroPriceConfig → Past → Result MicroPriceConfig Refusal → Bool → Option History → HistoryActed
history_restore c P a true o = history_acted (restores a) P
history_restore c P a false none = history_acted (restores a) P
history_restore c P a false (some H) = history_acted (restores (Ok c)) (becomes P H)

abbrev pub check_output_length : MicroPriceConfig → List ℕ → Check
check_output_length c out = refuse_if (not (eqb (length out) (image_length newest c))) 7

abbrev pub history_act : MicroPriceConfig → Past → Call → HistoryActed
history_act c P (quote q) = history_quote (history_refusal c P.now q) P (gains P.now q)
history_act c P (save out) = history_save (check_output_length c out) P out (image newest c (history_memory c P.now))
history_act c P (restore b lent) =
    history_restore c P (restored b lent).answer (lent_wrong (states c) lent.counts.tables) (returns c P b)

pub record HistoryRan : Type 0 where
  pub answers : List Answer
  pub past : Past

abbrev pub history_run : MicroPriceConfig → Past → List Call → HistoryRan
history_run c P [] = record { answers = []; past = P }
history_run c P (k ∷ ks) =
    let t = history_act c P k in
    let s = history_run c t.past ks in
    record { answers = t.answer ∷ s.answers; past = s.past }

-- ---- the proviso

abbrev pub is_some : Option History → Bool
is_some none = false
is_some (some H) = true

abbrev pub is_refused : Result MicroPriceConfig Refusal → Bool
is_refused (Ok c) = false
is_refused (Err r) = true

-- each restore is of a kept image into memory of the right lengths, or is one that restore refuses; a quote's words are words
abbrev pub Proper : MicroPriceConfig → Past → Call → Type 0
Proper c P (quote q) = AllWords (previous_words (Some q))
Proper c P (save out) = Unit {0}
Proper c P (restore b lent) =
    T ((not (lent_wrong (states c) lent.counts.tables) && is_some (returns c P b)) || is_refused (restored b lent).answer)

abbrev pub OwnImages : MicroPriceConfig → Past → List Call → Type 0
OwnImages c P [] = Unit {0}
OwnImages c P (k ∷ ks) = Proper c P k × OwnImages c (history_act c P k).past ks

-- what the types of a configuration's words give
abbrev pub ConfigWords : MicroPriceConfig → Type 0
ConfigWords c = AllWords (config_words c)

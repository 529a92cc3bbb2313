-- Demand 3, of one configuration and one list of calls: document 01, "The history".
use Rattle.std.specs.Prelude.{ℕ, ◌+◌, ◌-◌, ◌<◌, max, ◌≡◌, Bool, false, not, ◌&&◌, List, [], ◌∷◌, ◌++◌, pos, ◌+ℤ◌, length, get_or, Some, None, Ok}
use Rattle.basics.specs.Lists.{any, count, greatest, sum, tab, cell_at, same_words}
use Rattle.config.specs.Configuration.{states}
use Rattle.config.specs.declared.MicroPriceConfig.{MicroPriceConfig}
use Rattle.quotes.specs.States.{mirror_of}
use Rattle.quotes.specs.declared.TopOfBook.{TopOfBook}
use Rattle.tally.specs.Entries.{Entry}
use Rattle.tally.specs.Events.{Event, Counts, entries, stay_at, moved_at, total_at, is_pair, is_skip, size_of}
use Rattle.tally.specs.Rules.{Memory, events}
use Rattle.tally.specs.Balance.{Balanced}
use Rattle.calibrator.specs.Observe.{rule, fresh, observed, refuses, lent_wrong}
use Rattle.calibrator.specs.Record.{Previous}
use Rattle.image_layout.specs.Layout.{newest, image_length, image}
use Rattle.image.specs.Image.{saved, end_save}
use Rattle.history.specs.Calls.{Call, save, restore, Answer, observes, saves, restores, run, History, history_memory, history_refusal, new_past, history_run}

-- what the operations leave after the list, and the history after it
abbrev pub left : MicroPriceConfig → List Call → Memory Previous
left c ks = (run c (fresh c) ks).left

abbrev pub history_of : MicroPriceConfig → List Call → History
history_of c ks = (history_run c (new_past c) ks).past.now

-- the counts that it starts from
abbrev pub start_of : MicroPriceConfig → List Call → Counts
start_of c ks = (history_of c ks).start

-- its neighbours, and its counted pairs, each followed by its mirror
abbrev pub neighbours_in : MicroPriceConfig → History → List Event
neighbours_in c H = events (rule c) None H.quotes

abbrev pub flow : MicroPriceConfig → History → List Entry
flow c H = entries (rule c).mirror (neighbours_in c H)

-- the last quote of a list, if any
abbrev pub last_of : List TopOfBook → Previous
last_of [] = None
last_of (q ∷ []) = Some q
last_of (q ∷ r ∷ qs) = last_of (r ∷ qs)

-- whether a call was a save that was not refused and wrote these bytes
abbrev pub wrote : List ℕ → Answer → Bool
wrote b (observes k) = false
wrote b (saves s) = not (refuses s.answer) && same_words b s.output
wrote b (restores r) = false

pub record Demand3 (c : MicroPriceConfig) (ks : List Call) : Type 0 where
  -- every answer and saved image, and after the list the record and tables, are the history's
  pub answers : (run c (fresh c) ks).answers ≡ (history_run c (new_past c) ks).answers
  pub memory : left c ks ≡ history_memory c (history_of c ks)
  -- the last quote is the history's last
  pub last-is : (left c ks).last ≡ last_of (history_of c ks).quotes
  -- each cell is the start's and the pairs and mirrors that go its way, each total the start's and the sum of the changes of those from its state
  pub stay-is : (i j : ℕ) → i < states c → j < states c
      → cell_at (states c) (left c ks).counts.tables.stay i j ≡ cell_at (states c) (start_of c ks).tables.stay i j + stay_at (flow c (history_of c ks)) i j
  pub moved-is : (i j : ℕ) → i < states c → j < states c
      → cell_at (states c) (left c ks).counts.tables.moved i j ≡ cell_at (states c) (start_of c ks).tables.moved i j + moved_at (flow c (history_of c ks)) i j
  pub total-is : (i : ℕ) → i < states c
      → get_or (left c ks).counts.tables.totals i (pos 0) ≡ get_or (start_of c ks).tables.totals i (pos 0) +ℤ total_at (flow c (history_of c ks)) i
  -- each counter is the start's and the number of its neighbours, the largest change the greater of the start's and their greatest
  pub pairs-are : (left c ks).counts.pairs ≡ (start_of c ks).pairs + count is_pair (neighbours_in c (history_of c ks))
  pub skips-are : (left c ks).counts.skips
      ≡ tab (rule c).kinds (λ k. get_or (start_of c ks).skips k 0 + count (is_skip k) (neighbours_in c (history_of c ks)))
  pub largest-is : (left c ks).counts.largest ≡ max (start_of c ks).largest (greatest size_of (neighbours_in c (history_of c ks)))
  -- pairs and skips are the start's and the quotes less one, and the start's alone for none
  pub neighbours-are : (left c ks).counts.pairs + sum (left c ks).counts.skips
      ≡ (start_of c ks).pairs + sum (start_of c ks).skips + (length (history_of c ks).quotes - 1)
  -- mirrored cells and totals, and twice the pairs
  pub balanced : Balanced (states c) (mirror_of c.imbalance_buckets) (left c ks).counts
  -- a quote after the list is refused as the history refuses it, 6 by 6
  pub quote-refused : (q : TopOfBook) → (observed c (left c ks) q).answer ≡ history_refusal c (history_of c ks) q
  -- a save after the list, with an output of the image's length, is not refused
  pub save-fine : (out : List ℕ) → length out ≡ image_length newest c
      → saved c (left c ks) out ≡ end_save (Ok tt) (image newest c (history_memory c (history_of c ks)))
  -- after a save that writes b, calls of which no save writes b again, and a restore of b into memory of the right lengths, the history is that at the save
  pub restore-returns : (before : List Call) (out : List ℕ) (js : List Call) (b : List ℕ) (lent : Memory Previous)
      → ks ≡ before ++ (save out ∷ (js ++ (restore b lent ∷ [])))
      → length out ≡ image_length newest c
      → b ≡ image newest c (history_memory c (history_of c before))
      → any (wrote b) (run c (left c (before ++ (save out ∷ []))) js).answers ≡ false
      → lent_wrong (states c) lent.counts.tables ≡ false
      → history_of c ks ≡ history_of c before

-- the same, where the start is new's zeros
pub record Demand3New (c : MicroPriceConfig) (ks : List Call) : Type 0 where
  pub demand : Demand3 c ks
  pub start_is : (history_of c ks).start ≡ (fresh c).counts
  -- each cell is the pairs and mirrors that go its way, each total the sum of the changes of those from its state
  pub stay-is : (i j : ℕ) → i < states c → j < states c → cell_at (states c) (left c ks).counts.tables.stay i j ≡ stay_at (flow c (history_of c ks)) i j
  pub moved-is : (i j : ℕ) → i < states c → j < states c → cell_at (states c) (left c ks).counts.tables.moved i j ≡ moved_at (flow c (history_of c ks)) i j
  pub total-is : (i : ℕ) → i < states c → get_or (left c ks).counts.tables.totals i (pos 0) ≡ total_at (flow c (history_of c ks)) i
  -- each counter is the number of its neighbours, the largest change their greatest
  pub pairs-are : (left c ks).counts.pairs ≡ count is_pair (neighbours_in c (history_of c ks))
  pub skips-are : (left c ks).counts.skips ≡ tab (rule c).kinds (λ k. count (is_skip k) (neighbours_in c (history_of c ks)))
  pub largest-is : (left c ks).counts.largest ≡ greatest size_of (neighbours_in c (history_of c ks))
  -- pairs and skips are the quotes less one, and 0 for none
  pub neighbours-are : (left c ks).counts.pairs + sum (left c ks).counts.skips ≡ length (history_of c ks).quotes - 1

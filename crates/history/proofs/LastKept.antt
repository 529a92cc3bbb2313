-- A list that tells the history last kept with an image from the first: two histories have one image, and its restore returns to the second.
-- At the end, histories that begin at a memory.
use Prim.Native.Nat.{ℕ}
use mathlib.Core.Path.{◌≡◌, refl, ap}
use mathlib.Core.List.{List, [], ◌∷◌, ◌++◌, map}
use native.Mathlib.Omega.{arith}
use lib.IntN.{pos}
use lib.ListN.{replicate}
use Rattle.basics.specs.Lists.{sum}
use Rattle.image_words.proofs.Words.{words-by}
use Rattle.refusals.specs.Refusals.{refusal}
use Rattle.refusals.specs.declared.Refusal.TheVariants.{SliceLength}
use Rattle.config.specs.Configuration.{new_config, with_max_quote_gap_ms, config_words}
use Rattle.config.specs.declared.MicroPriceConfig.{MicroPriceConfig}
use Rattle.quotes.specs.declared.TopOfBook.{TopOfBook}
use Rattle.tally.specs.Entries.{tables}
use Rattle.tally.specs.Events.{zeros}
use Rattle.tally.specs.Rules.{Memory}
use Rattle.calibrator.specs.Record.{kinds, Previous}
use Rattle.calibrator.specs.Observe.{fresh}
use Rattle.std.specs.Prelude.{Some, None, Ok, Err}
use Rattle.image_layout.specs.Layout.{newest, header, header_in, image_length, image, previous_words}
use Rattle.image.specs.Image.{end_save}
use Rattle.history.specs.Calls.{Call, quote, save, restore, observes, saves, restores, run, History, begins, new_history, gains, history_memory, new_past, OwnImages, ConfigWords}
use Rattle.history.specs.Demand.{history_of, Demand3}
use Rattle.history.proofs.Demand.{demand-3}

-- tick 1, three buckets, one spread state, gap 60,000: an image has 328 bytes
abbrev pub three-states : MicroPriceConfig
three-states = with_max_quote_gap_ms (new_config 1 3 1) 60000

-- bid 100 and ask 101 at a time, of one size on both sides
abbrev pub even-quote : ℕ → ℕ → TopOfBook
even-quote time size =
    record { timestamp_ms = time; bid = 100; ask = 101; bid_size = size; ask_size = size }

-- two histories of two quotes: the first quotes differ and are of one state, the last quote is the same
abbrev pub first-history : History
first-history = record { start = (fresh three-states).counts; quotes = even-quote 0 5 ∷ even-quote 1 5 ∷ [] }

abbrev pub second-history : History
second-history = record { start = (fresh three-states).counts; quotes = even-quote 0 6 ∷ even-quote 1 5 ∷ [] }

abbrev pub image_of : History → List ℕ
image_of H = image newest three-states (history_memory three-states H)

abbrev pub empty-image : List ℕ
empty-image = image_of (new_history three-states)

abbrev pub first-image : List ℕ
first-image = image_of first-history

abbrev pub empty-output : List ℕ
empty-output = replicate (image_length newest three-states) 0

-- other memory for a restore, of the right lengths: a record and tables of sevens
abbrev pub sevens : Memory Previous
sevens =
    record {
      last = Some (record { timestamp_ms = 7; bid = 7; ask = 7; bid_size = 7; ask_size = 7 });
      counts =
          record {
            pairs = 7;
            skips = replicate kinds 7;
            largest = 7;
            tables = tables (replicate 9 7) (replicate 9 7) (replicate 3 (pos 7));
          };
    }

-- tables of two states: wrong lengths
abbrev pub two-states : Memory Previous
two-states = record { last = None; counts = zeros kinds 2 }

-- new and the first history are saved; new is restored, and the second history is gained
abbrev pub before-second-save : List Call
before-second-save =
    save empty-output ∷
    quote (even-quote 0 5) ∷
    quote (even-quote 1 5) ∷
    save empty-output ∷
    restore empty-image sevens ∷
    quote (even-quote 0 6) ∷
    quote (even-quote 1 5) ∷
    []

-- 7 refuses both
abbrev pub refused-calls : List Call
refused-calls = save [] ∷ restore first-image two-states ∷ []

-- the second history is saved, and the image of the first restored
abbrev pub returning-calls : List Call
returning-calls = before-second-save ++ (save empty-output ∷ (refused-calls ++ (restore first-image sevens ∷ [])))

-- ---- what the list comes to

pub histories-differ : first-history ≡ second-history → ⊥
histories-differ e = omega (arith, ap (λ (H : History). sum (map (λ q. q.bid_size) H.quotes)) e)

pub one-image : image_of first-history ≡ image_of second-history
unfolding header header_in
one-image = refl

pub second-is-back : history_of three-states returning-calls ≡ second-history
unfolding header header_in
second-is-back = refl

-- what the operations answer; the third save writes what the second wrote
pub answers-are : (run three-states (fresh three-states) returning-calls).answers ≡
    (saves (end_save (Ok tt) empty-image) ∷
    observes (Ok tt) ∷
    observes (Ok tt) ∷
    saves (end_save (Ok tt) first-image) ∷
    restores (Ok three-states) ∷
    observes (Ok tt) ∷
    observes (Ok tt) ∷
    saves (end_save (Ok tt) first-image) ∷
    saves (end_save (refusal 7) []) ∷
    restores (Err SliceLength) ∷
    restores (Ok three-states) ∷
    [])
unfolding header header_in
answers-are = refl

-- ---- the hypotheses of demand 3 and of its restore-returns are met

pub returning-words : ConfigWords three-states
returning-words = words-by (config_words three-states) refl

pub returning-own : OwnImages three-states (new_past three-states) returning-calls
unfolding header header_in
returning-own =
    let five = words-by (previous_words (Some (even-quote 0 5))) refl in
    let six = words-by (previous_words (Some (even-quote 0 6))) refl in
    let last = words-by (previous_words (Some (even-quote 1 5))) refl in
    (tt, (five, (last, (tt, (tt, (six, (last, (tt, (tt, (tt, (tt, tt)))))))))))

pub returning-demand : Demand3 three-states returning-calls
returning-demand = demand-3 three-states refl returning-words returning-calls returning-own

pub returned-to-save : history_of three-states returning-calls ≡ history_of three-states before-second-save
unfolding header header_in
returned-to-save = returning-demand.restore-returns before-second-save empty-output refused-calls first-image sevens refl refl refl refl refl

-- ---- a history that begins at a memory with counts and a last quote

pub begins-at-sevens : history_memory three-states (begins sevens) ≡ sevens
begins-at-sevens = refl

-- a quote more makes a pair with that last quote, as in the history whose memory it was
pub begun-goes-on :
    history_memory three-states (gains (begins (history_memory three-states first-history)) (even-quote 2 5))
    ≡ history_memory three-states (gains first-history (even-quote 2 5))
begun-goes-on = refl

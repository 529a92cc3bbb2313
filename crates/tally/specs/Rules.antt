-- A rule of neighbours, and what a list of quotes comes to under it: document 01, "The history".
use Rattle.std.specs.Prelude.{ℕ, ◌<◌, ◌≡◌, Bool, true, not, List, [], ◌∷◌}
use Rattle.tally.specs.Events.{Event, first, skip, pair, is_first, Counts, entered, after}

-- What a calibrator counts by. `Last` is what is carried from a quote to the next: the last quote, if any, and whatever else a state needs.
pub record Rule : Type 1 where
  pub Quote : Type 0
  pub Last : Type 0
  pub kinds : ℕ
  pub states : ℕ
  pub mirror : ℕ → ℕ
  -- whether there was a quote before
  pub started : Last → Bool
  pub arrive : Last → Quote → Last
  pub event : Last → Quote → Event

-- an event of the kinds and the states
abbrev pub InRange : ℕ → ℕ → Event → Type 0
InRange K N first = Unit {0}
InRange K N (skip k) = k < K
InRange K N (pair i j d) = (i < N) × (j < N)

-- what is asked of a rule
pub record Lawful (R : Rule) : Type 0 where
  pub mirror-below : (i : ℕ) → i < R.states → R.mirror i < R.states
  pub mirror-twice : (i : ℕ) → i < R.states → R.mirror (R.mirror i) ≡ i
  pub event-in : (l : R.Last) (q : R.Quote) → InRange R.kinds R.states (R.event l q)
  pub event-first : (l : R.Last) (q : R.Quote) → is_first (R.event l q) ≡ not (R.started l)
  pub arrive-started : (l : R.Last) (q : R.Quote) → R.started (R.arrive l q) ≡ true

-- what is carried, and the counts
pub record Memory (Last : Type 0) : Type 0 where
  pub last : Last
  pub counts : Counts

-- an accepted quote
abbrev pub step : (R : Rule) → Memory R.Last → R.Quote → Memory R.Last
step R m q =
    record {
      last = R.arrive m.last q;
      counts = entered R.states R.mirror (R.event m.last q) m.counts;
    }

-- the events of quotes where l came before them, and what is carried after them
abbrev pub events : (R : Rule) → R.Last → List R.Quote → List Event
events R l [] = []
events R l (q ∷ qs) = R.event l q ∷ events R (R.arrive l q) qs

abbrev pub carried : (R : Rule) → R.Last → List R.Quote → R.Last
carried R l [] = l
carried R l (q ∷ qs) = carried R (R.arrive l q) qs

-- the memory of the quotes, on top of counts that they start from
abbrev pub memory_of : (R : Rule) → R.Last → Counts → List R.Quote → Memory R.Last
memory_of R l c qs =
    record {
      last = carried R l qs;
      counts = after R.kinds R.states R.mirror c (events R l qs);
    }

-- an event of the kinds and the states, each
abbrev pub AllIn : ℕ → ℕ → List Event → Type 0
AllIn K N [] = Unit {0}
AllIn K N (e ∷ es) = InRange K N e × AllIn K N es

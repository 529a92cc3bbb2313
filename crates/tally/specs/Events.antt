-- What quotes make with those before them, and what such events add to counts: document 01, "The history".
use Rattle.std.specs.Prelude.{ℕ, ◌+◌, ◌*◌, max, Bool, true, false, not, cond, ◌&&◌, List, [], ◌∷◌, eqb, ℤ, pos, nat_abs, ◌+ℤ◌, get_or, replicate}
use Rattle.basics.specs.Lists.{count, sum_of, greatest, tab, square, cell_at}
use Rattle.tally.specs.Entries.{Entry, Tables, is_zero, bump, enter_both, forth, back}

-- What a quote makes with the one before it: nothing, where it is the first; a skip of a kind, by number; or a pair from state to state with its change.
pub data Event : Type 0 where
  first : Event
  skip : ℕ → Event
  pair : ℕ → ℕ → ℤ → Event

-- pairs, skips by kind, the largest change, and the tables
pub record Counts : Type 0 where
  pub pairs : ℕ
  pub skips : List ℕ
  pub largest : ℕ
  pub tables : Tables

-- ---- one event, on counts of N states

abbrev pub entered : ℕ → (ℕ → ℕ) → Event → Counts → Counts
entered N mirror first c = c
entered N mirror (skip k) c =
    record { pairs = c.pairs; skips = bump c.skips k; largest = c.largest; tables = c.tables }
entered N mirror (pair i j d) c =
    record {
      pairs = c.pairs + 1;
      skips = c.skips;
      largest = max c.largest (nat_abs d);
      tables = enter_both N (forth i j d) (back mirror i j d) c.tables;
    }

-- ---- many events

-- the counted pairs, each followed by its mirror
abbrev pub entries : (ℕ → ℕ) → List Event → List Entry
entries mirror [] = []
entries mirror (first ∷ es) = entries mirror es
entries mirror (skip k ∷ es) = entries mirror es
entries mirror (pair i j d ∷ es) = forth i j d ∷ back mirror i j d ∷ entries mirror es

-- goes from i to j
abbrev pub goes : ℕ → ℕ → Entry → Bool
goes i j e = eqb e.from i && eqb e.to j

-- stay (i, j) counts pairs and mirrors from i to j with change 0, moved those with another
abbrev pub stay_at : List Entry → ℕ → ℕ → ℕ
stay_at es i j = count (λ e. goes i j e && is_zero e.change) es

abbrev pub moved_at : List Entry → ℕ → ℕ → ℕ
moved_at es i j = count (λ e. goes i j e && not (is_zero e.change)) es

-- move total i sums the changes of those from i
abbrev pub total_at : List Entry → ℕ → ℤ
total_at es i = sum_of (λ e. cond (eqb e.from i) e.change (pos 0)) es

abbrev pub is_pair : Event → Bool
is_pair first = false
is_pair (skip k) = false
is_pair (pair i j d) = true

abbrev pub is_skip : ℕ → Event → Bool
is_skip k first = false
is_skip k (skip m) = eqb m k
is_skip k (pair i j d) = false

abbrev pub is_first : Event → Bool
is_first first = true
is_first (skip k) = false
is_first (pair i j d) = false

-- the size of a counted pair's change
abbrev pub size_of : Event → ℕ
size_of first = 0
size_of (skip k) = 0
size_of (pair i j d) = nat_abs d

-- counts of K kinds and N states with what the events add: each counter the number of its kind, the largest change the greatest size
abbrev pub after : ℕ → ℕ → (ℕ → ℕ) → Counts → List Event → Counts
after K N mirror c es =
    record {
      pairs = c.pairs + count is_pair es;
      skips = tab K (λ k. get_or c.skips k 0 + count (is_skip k) es);
      largest = max c.largest (greatest size_of es);
      tables =
          record {
            stay = square N (λ i j. cell_at N c.tables.stay i j + stay_at (entries mirror es) i j);
            moved = square N (λ i j. cell_at N c.tables.moved i j + moved_at (entries mirror es) i j);
            totals = tab N (λ i. get_or c.tables.totals i (pos 0) +ℤ total_at (entries mirror es) i);
          };
    }

-- zeros: what new leaves
abbrev pub zeros : ℕ → ℕ → Counts
zeros K N =
    record {
      pairs = 0;
      skips = replicate K 0;
      largest = 0;
      tables = record { stay = replicate (N * N) 0; moved = replicate (N * N) 0; totals = replicate N (pos 0) };
    }

-- The check of counts against their mirrors: document 01, "The fit" (6, 9, 10, 11). Generic in the number of states and the mirror.
use Rattle.std.specs.Prelude.{ℕ, ◌+◌, ◌*◌, Bool, false, not, ◌||◌, ◌&&◌, List, eqb, ℤ, pos, negsuc, neg_ℤ, get_or}
use Rattle.basics.specs.Lists.{any, all_from, sum, cell_index}
use Rattle.refusals.specs.Refusals.{refuse_if, first_of, first_from, Check}
use Rattle.config.specs.Configuration.{states}
use Rattle.config.specs.declared.MicroPriceConfig.{MicroPriceConfig}
use Rattle.quotes.specs.States.{mirror_of}
use Rattle.tally.specs.Entries.{Tables, over_total}
use Rattle.tally.specs.Events.{Counts}
use Rattle.tally.specs.Limits.{over_counter}

abbrev pub same_total : ℤ → ℤ → Bool
same_total (pos a) (pos b) = eqb a b
same_total (pos a) (negsuc b) = false
same_total (negsuc a) (pos b) = false
same_total (negsuc a) (negsuc b) = eqb a b

-- 6: a stored counter of pairs or skips, or a move total, outside its limit
abbrev pub stored_over : Counts → Bool
stored_over k = over_counter k.pairs || any over_counter k.skips || any over_total k.tables.totals

-- 9: the total at m, the mirror of i, is that at i negated
abbrev pub total_mirrored : List ℤ → ℕ → ℕ → Bool
total_mirrored totals i m = same_total (get_or totals m (pos 0)) (neg_ℤ (get_or totals i (pos 0)))

-- the cells at two places are equal
abbrev pub cells_alike : List ℕ → ℕ → ℕ → Bool
cells_alike l x y = eqb (get_or l x 0) (get_or l y 0)

-- 10: in both tables each cell of row i equals its mirror's
abbrev pub cell_mirrored : ℕ → (ℕ → ℕ) → Tables → ℕ → ℕ → Bool
cell_mirrored N mirror t i j =
    cells_alike t.stay (cell_index N i j) (cell_index N (mirror i) (mirror j)) && cells_alike t.moved (cell_index N i j) (cell_index N (mirror i) (mirror j))

abbrev pub row_mirrored : ℕ → (ℕ → ℕ) → Tables → ℕ → Bool
row_mirrored N mirror t i = all_from (cell_mirrored N mirror t i) 0 N

-- a state: its total, then its row of cells
abbrev pub check_state : ℕ → (ℕ → ℕ) → Tables → ℕ → Check
check_state N mirror t i =
    first_of (refuse_if (not (total_mirrored t.totals i (mirror i))) 9) (refuse_if (not (row_mirrored N mirror t i)) 10)

-- 11: all cells together are twice the pairs
abbrev pub is_twice : ℕ → Tables → Bool
is_twice pairs t = eqb (sum t.stay + sum t.moved) (2 * pairs)

-- 6, then the walk, state by state, then 11
abbrev pub check_counts : ℕ → (ℕ → ℕ) → Counts → Check
check_counts N mirror k =
    first_of (refuse_if (stored_over k) 6)
    (first_of (first_from (check_state N mirror k.tables) 0 N) (refuse_if (not (is_twice k.pairs k.tables)) 11))

-- of a configuration's states
abbrev pub check_mirrored : MicroPriceConfig → Counts → Check
check_mirrored c k = check_counts (states c) (mirror_of c.imbalance_buckets) k

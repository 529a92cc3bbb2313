-- For the contracts and proofs of inner functions alone: a pair as code holds it, and what entering asks of places and of words.
use Rattle.std.specs.Prelude.{ℕ, ◌*◌, ◌≤◌, ◌<◌, Bool, ◌||◌, List, ℤ, pos, neg_ℤ, length, get_or, ◌≡◌}
use Rattle.basics.specs.Domain.{most_half_ticks}
use Rattle.tally.specs.Totals.{change, add_at}
use Rattle.tally.specs.declared.PairEntry.{PairEntry}
use Rattle.tally.specs.Entries.{Entry, Tables, forth, bump, over_cell, over_total}

-- the two entries of a pair as code holds it
abbrev pub forth_of : PairEntry → Entry
forth_of e = forth e.from e.to (change e.mid_from e.mid_to)

abbrev pub back_of : PairEntry → Entry
back_of e = record { from = e.mirror_from; to = e.mirror_to; change = neg_ℤ (change e.mid_from e.mid_to) }

-- no change of the mid is larger
abbrev pub most_change : ℕ
most_change = 2 * most_half_ticks

-- after one more at a and one more at b, a cell there is over its limit
abbrev pub cells_over : List ℕ → ℕ → ℕ → Bool
cells_over l a b = over_cell (get_or (bump (bump l a) b) a 0) || over_cell (get_or (bump (bump l a) b) b 0)

-- after d at a and −d at b, a total there is over its limit
abbrev pub totals_over : List ℤ → ℕ → ℕ → ℤ → Bool
totals_over l a b d =
    over_total (get_or (add_at (add_at l a d) b (neg_ℤ d)) a (pos 0)) || over_total (get_or (add_at (add_at l a d) b (neg_ℤ d)) b (pos 0))

-- a pair between states below n, in tables of their lengths, its mids as small as accepted quotes' are
pub record Placed (n : ℕ) (e : PairEntry) (t : Tables) : Type 0 where
  pub few : n ≤ 256
  pub from-below : e.from < n
  pub to_below : e.to < n
  pub mirror-from-below : e.mirror_from < n
  pub mirror-to-below : e.mirror_to < n
  pub stay-cells : length t.stay ≡ n * n
  pub moved-cells : length t.moved ≡ n * n
  pub totals-cells : length t.totals ≡ n
  pub mid-from-most : e.mid_from ≤ most_half_ticks
  pub mid-to-most : e.mid_to ≤ most_half_ticks

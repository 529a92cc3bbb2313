-- What holds of the counts of every history: document 01, "The history".
use Rattle.std.specs.Prelude.{ℕ, ◌+◌, ◌*◌, ◌<◌, ◌≡◌, pos, neg_ℤ, length, get_or}
use Rattle.basics.specs.Lists.{sum, cell_at}
use Rattle.tally.specs.Events.{Counts}

-- counters of K kinds of skip, tables of N states
pub record Sized (K N : ℕ) (c : Counts) : Type 0 where
  pub skip-kinds : length c.skips ≡ K
  pub stay-cells : length c.tables.stay ≡ N * N
  pub moved-cells : length c.tables.moved ≡ N * N
  pub totals-cells : length c.tables.totals ≡ N

-- each cell equals its mirror's, each total is its mirror's negated, and all cells together are twice the pairs
pub record Balanced (N : ℕ) (mirror : ℕ → ℕ) (c : Counts) : Type 0 where
  pub stay-mirrored : (i j : ℕ) → i < N → j < N → cell_at N c.tables.stay (mirror i) (mirror j) ≡ cell_at N c.tables.stay i j
  pub moved-mirrored : (i j : ℕ) → i < N → j < N → cell_at N c.tables.moved (mirror i) (mirror j) ≡ cell_at N c.tables.moved i j
  pub totals-mirrored : (i : ℕ) → i < N → get_or c.tables.totals (mirror i) (pos 0) ≡ neg_ℤ (get_or c.tables.totals i (pos 0))
  pub twice : sum c.tables.stay + sum c.tables.moved ≡ 2 * c.pairs

-- Entering a pair and its mirror into the three tables: document 01, "New, and one quote".
use Rattle.std.specs.Prelude.{ℕ, zero, suc, ◌+◌, Bool, true, false, not, cond, ◌||◌, List, ltb, ℤ, pos, negsuc, neg_ℤ, get_or, set}
use Rattle.basics.specs.Lists.{cell_index}
use Rattle.basics.specs.Domain.{cell_limit}
use Rattle.tally.specs.Totals.{within, add_at}

-- from a state to a state with a change of the mid
pub record Entry : Type 0 where
  pub from : ℕ
  pub to : ℕ
  pub change : ℤ

-- stay and moved, flat, and the move totals
pub record Tables : Type 0 where
  pub stay : List ℕ
  pub moved : List ℕ
  pub totals : List ℤ

abbrev pub tables : List ℕ → List ℕ → List ℤ → Tables
tables s m t = record { stay = s; moved = m; totals = t }

abbrev pub is_zero : ℤ → Bool
is_zero (pos zero) = true
is_zero (pos (suc n)) = false
is_zero (negsuc n) = false

-- one more at k
abbrev pub bump : List ℕ → ℕ → List ℕ
bump l k = set l k (get_or l k 0 + 1)

abbrev pub bump_if : Bool → List ℕ → ℕ → List ℕ
bump_if true l k = bump l k
bump_if false l k = l

-- the cell that an entry counts into
abbrev pub entry_cell : ℕ → Entry → ℕ
entry_cell N e = cell_index N e.from e.to

-- an entry counts into stay if the change is 0 and into moved if not, and its change into the total of its first state
abbrev pub enter : ℕ → Entry → Tables → Tables
enter N e t =
    record {
      stay = bump_if (is_zero e.change) t.stay (entry_cell N e);
      moved = bump_if (not (is_zero e.change)) t.moved (entry_cell N e);
      totals = add_at t.totals e.from e.change;
    }

-- a pair, then its mirror
abbrev pub enter_both : ℕ → Entry → Entry → Tables → Tables
enter_both N a b t = enter N b (enter N a t)

abbrev pub forth : ℕ → ℕ → ℤ → Entry
forth i j d = record { from = i; to = j; change = d }

-- the mirror goes between the mirrored states with the change negated
abbrev pub back : (ℕ → ℕ) → ℕ → ℕ → ℤ → Entry
back mirror i j d = record { from = mirror i; to = mirror j; change = neg_ℤ d }

-- a cell over 2^53, a total outside −2^53 to 2^53
abbrev pub over_cell : ℕ → Bool
over_cell n = ltb cell_limit n

abbrev pub over_total : ℤ → Bool
over_total z = not (within z)

-- the cell that an entry touched, and its total
abbrev pub cell_after : ℕ → Entry → Tables → ℕ
cell_after N e t = get_or (cond (is_zero e.change) t.stay t.moved) (entry_cell N e) 0

abbrev pub total_after : Entry → Tables → ℤ
total_after e t = get_or t.totals e.from (pos 0)

-- in the tables after both entries a touched cell or a touched total is over its limit
abbrev pub touched_over : ℕ → Entry → Entry → Tables → Bool
touched_over N a b t =
    (over_cell (cell_after N a t) || over_cell (cell_after N b t)) || (over_total (total_after a t) || over_total (total_after b t))

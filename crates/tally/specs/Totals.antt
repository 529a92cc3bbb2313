-- Changes of the mid and the totals that they are added to: document 01, "New, and one quote".
use Rattle.std.specs.Prelude.{ℕ, Bool, List, leb, ℤ, pos, nat_abs, ◌+ℤ◌, ◌-ℤ◌, get_or, set}
use Rattle.basics.specs.Domain.{cell_limit}

-- the change is new minus last
abbrev pub change : ℕ → ℕ → ℤ
change from to = pos to -ℤ pos from

-- from −2^53 to 2^53
abbrev pub within : ℤ → Bool
within total = leb (nat_abs total) cell_limit

abbrev pub add_at : List ℤ → ℕ → ℤ → List ℤ
add_at totals i d = set totals i (get_or totals i (pos 0) +ℤ d)

-- For the contracts and proofs of inner functions alone: what the functions inside marking leave.
use Rattle.std.specs.Prelude.{ℕ, ◌+◌, ◌*◌, ◌<◌, ◌≤◌, Bool, true, false, ◌&&◌, cond, ◌≡◌, List, length, ltb, set, take, drop}
use Rattle.basics.specs.Domain.{counter_limit}
use Rattle.basics.specs.Lists.{count, sum, tab, cell_at}
use Rattle.model.specs.Status.{is_calibrated}
use Rattle.model.specs.declared.StateStatus.{StateStatus}
use Rattle.model.specs.declared.StateStatus.TheVariants.{Calibrated, Rare, NoPriceMove, OutsideQuotes}
use Rattle.fit_marking.specs.Below.{some_to}
use Rattle.fit_marking.specs.Marks.{cells_of, mark_at, observations}

-- two tables of N × N cells, all cells together at most twice the limit of pairs
pub record Fitting (N : ℕ) (stay moved : List ℕ) : Type 0 where
  pub stay-cells : length stay ≡ N * N
  pub moved-cells : length moved ≡ N * N
  pub cells-sum : sum stay + sum moved ≤ 2 * counter_limit

-- how many numbers below n pass the test
unfoldable pub count_to : ℕ → (ℕ → Bool) → ℕ
count_to n p = count p (tab n (λ k. k))

-- the cells of row x
abbrev pub row_of : ℕ → List ℕ → ℕ → List ℕ
row_of N t x = take N (drop (x * N) t)

abbrev pub is_positive : ℕ → Bool
is_positive cell = ltb 0 cell

-- a cell of the row is positive
abbrev pub has_positive : ℕ → List ℕ → ℕ → Bool
has_positive N t x = some_to N (λ j. is_positive (cell_at N t x j))

-- a state from which no path is found yet
abbrev pub is_waiting : StateStatus → Bool
is_waiting Calibrated = false
is_waiting Rare = false
is_waiting NoPriceMove = true
is_waiting OutsideQuotes = false

-- a positive cell, and a mark Calibrated
abbrev pub leads : ℕ × StateStatus → Bool
leads p = ltb 0 p.0 && is_calibrated p.1

-- a positive stay cell leads from x to j, which is marked Calibrated
abbrev pub leads_to : ℕ → List ℕ → List StateStatus → ℕ → ℕ → Bool
leads_to N stay marks x j = leads (cell_at N stay x j, mark_at marks j)

abbrev pub leads_out : ℕ → List ℕ → List StateStatus → ℕ → Bool
leads_out N stay marks x = some_to N (leads_to N stay marks x)

-- the mark by the state's own rows: no step looked at yet
abbrev pub first_mark : ℕ → ℕ → List ℕ → List ℕ → ℕ → StateStatus
first_mark N least stay moved x =
    cond (ltb (observations (cells_of N least stay moved) x) least) Rare (cond (has_positive N moved x) Calibrated NoPriceMove)

pub record FirstMarks (N least : ℕ) (stay moved : List ℕ) (before after : List StateStatus) : Type 0 where
  pub marks : (i : ℕ) → i < N → mark_at after i ≡ first_mark N least stay moved i
  pub elsewhere : (i : ℕ) → N ≤ i → mark_at after i ≡ mark_at before i

-- how many states are marked NoPriceMove
abbrev pub waiting : ℕ → List StateStatus → ℕ
waiting N marks = count_to N (λ x. is_waiting (mark_at marks x))

-- the mark of x goes from NoPriceMove to Calibrated, since x leads out
pub record Freed (N : ℕ) (stay : List ℕ) (before after : List StateStatus) (x : ℕ) : Type 0 where
  pub was : mark_at before x ≡ NoPriceMove
  pub leads : leads_out N stay before x ≡ true
  pub marked : after ≡ set before x Calibrated

-- the marks are the same, and x, if it is marked NoPriceMove, does not lead out
pub record Left (N : ℕ) (stay : List ℕ) (before after : List StateStatus) (x : ℕ) : Type 0 where
  pub same : after ≡ before
  pub leads-not : mark_at before x ≡ NoPriceMove → leads_out N stay before x ≡ false

-- states freed one after the other
pub data Led (N : ℕ) (stay : List ℕ) (before : List StateStatus) : List StateStatus → Type 0 where
  none : Led N stay before before
  more : {m after : List StateStatus} {x : ℕ} → Led N stay before m → x < N → Freed N stay m after x → Led N stay before after

-- no state marked NoPriceMove leads out
abbrev pub Closed : ℕ → List ℕ → List StateStatus → Type 0
Closed N stay marks = (x : ℕ) → x < N → mark_at marks x ≡ NoPriceMove → leads_out N stay marks x ≡ false

-- a turn through the states, which says whether it freed any
pub record Turned (N : ℕ) (stay : List ℕ) (before after : List StateStatus) (freed : Bool) : Type 0 where
  pub led : Led N stay before after
  pub fewer : freed ≡ true → waiting N after < waiting N before
  pub closed : freed ≡ false → Closed N stay after

-- Which states the fit uses: document 01, "The fit". Generic in the number of states.
use Rattle.std.specs.Prelude.{ℕ, zero, suc, ◌+◌, ◌<◌, ◌≤◌, ◌≡◌, Bool, ◌&&◌, ◌||◌, cond, List, ltb, leb, get_or}
use Rattle.basics.specs.Lists.{cell_at}
use Rattle.model.specs.declared.StateStatus.{StateStatus}
use Rattle.model.specs.declared.StateStatus.TheVariants as Status
use Rattle.fit_marking.specs.Below.{sum_to, some_to}

-- the cells of stay and moved by row and column, and the least observations
pub record Cells : Type 0 where
  pub states : ℕ
  pub least : ℕ
  pub stay : ℕ → ℕ → ℕ
  pub moved : ℕ → ℕ → ℕ

abbrev pub cells_of : ℕ → ℕ → List ℕ → List ℕ → Cells
cells_of N least stay moved = record { states = N; least = least; stay = cell_at N stay; moved = cell_at N moved }

-- a row's stay plus moved
unfoldable pub observations : Cells → ℕ → ℕ
observations C i = sum_to C.states (C.stay i) + sum_to C.states (C.moved i)

abbrev pub Rare : Cells → ℕ → Type 0
Rare C i = observations C i < C.least

abbrev pub NotRare : Cells → ℕ → Type 0
NotRare C i = C.least ≤ observations C i

-- a path of positive stay cells, or of zero steps, from i to a state with a positive moved cell; no state on it is Rare
pub data Reaches (C : Cells) : ℕ → Type 0 where
  here : {i : ℕ} (j : ℕ) → NotRare C i → j < C.states → 0 < C.moved i j → Reaches C i
  via : {i : ℕ} (j : ℕ) → NotRare C i → j < C.states → 0 < C.stay i j → Reaches C j → Reaches C i

-- what a mark of state i says; no state is marked OutsideQuotes
abbrev pub Says : Cells → ℕ → StateStatus → Type 0
Says C i Status.Calibrated = NotRare C i × Reaches C i
Says C i Status.Rare = Rare C i
Says C i Status.NoPriceMove = NotRare C i × (Reaches C i → ⊥)
Says C i Status.OutsideQuotes = ⊥

-- the mark in place i
abbrev pub mark_at : List StateStatus → ℕ → StateStatus
mark_at marks i = get_or marks i Status.Calibrated

-- each state's place holds its mark; every other place is as it was
pub record Marked (C : Cells) (before after : List StateStatus) : Type 0 where
  pub marks : (i : ℕ) → i < C.states → Says C i (mark_at after i)
  pub elsewhere : (i : ℕ) → C.states ≤ i → mark_at after i ≡ mark_at before i

-- ---- the mark as a function; proofs/Decided.antt proves that it says what is so

abbrev pub not_rare : Cells → ℕ → Bool
not_rare C i = leb C.least (observations C i)

-- whether there is a path of at most k steps
unfoldable pub reaches_in : Cells → ℕ → ℕ → Bool
reaches_in C zero i = not_rare C i && some_to C.states (λ j. ltb 0 (C.moved i j))
reaches_in C (suc k) i =
    reaches_in C k i || (not_rare C i && some_to C.states (λ j. ltb 0 (C.stay i j) && reaches_in C k j))

-- no path needs more steps than there are states
unfoldable pub mark_of : Cells → ℕ → StateStatus
mark_of C i = cond (not_rare C i) (cond (reaches_in C C.states i) Status.Calibrated Status.NoPriceMove) Status.Rare

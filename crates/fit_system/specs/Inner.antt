-- For the contracts and proofs of inner functions alone: what is asked of the tables and of the marks, and the solution in its places of scratch.
use Rattle.std.specs.Prelude.{ℕ, ◌<◌, ◌≤◌, ◌≡◌, Bool, true, cond, eqb, List, ℤ, pos, length, get_or, Float, Option, Some, None, Ok}
use Rattle.std.specs.Float.{binary64}
use Rattle.std.specs.Float.Ieee.{in_float, sub, div, neg}
use Rattle.floats.specs.Floats.{pos_zero, one, exact_whole, from_int}
use Rattle.model.specs.declared.StateStatus.{StateStatus}
use Rattle.fit_marking.specs.Marks.{Cells, mark_of, mark_at}
use Rattle.fit_marking.specs.Inner.{Fitting}
use Rattle.fit_system.specs.Rows.{total_of}
use Rattle.refusals.specs.Refusals.{refusal, Check}
use Rattle.fit_linear.specs.Inner.{from}
use Rattle.fit_series.specs.Inner.{sum_at, share_at, solved_g1}
use Rattle.fit_system.specs.Solution.{Solution, solution, unsolved}

-- tables of N states whose numbers are exact as floats
pub record Exact (N : ℕ) (stay moved : List ℕ) (totals : List ℤ) : Type 0 where
  pub few : N ≤ 256
  pub cells : Fitting N stay moved
  pub totals-long : length totals ≡ N
  pub totals-exact : (i : ℕ) → i < N → in_float binary64 (total_of totals i) ≡ true

-- each cell is exact as a float
abbrev pub AllExact : List ℕ → Type 0
AllExact cells = (k : ℕ) → k < length cells → get_or cells k 0 ≤ exact_whole

-- what the functions take of a state: its observations, if its row is used
abbrev pub observed_in : Bool → ℕ → Option ℕ
observed_in used observed = cond used (Some observed) None

-- a number by the observations, and what a fallback state has in its place
abbrev pub part_by : Option ℕ → ℤ → Float
part_by (Some observed) number = div binary64 (from_int number) (from_int (pos observed))
part_by None number = pos_zero

abbrev pub fallback_by : Option ℕ → Float
fallback_by (Some observed) = pos_zero
fallback_by None = one

-- 1 − Q and T of a row, by its cells
abbrev pub stay_part : List ℕ → ℕ → Option ℕ → ℕ → Float
stay_part cells x observed k =
    let q = part_by observed (pos (get_or cells k 0)) in cond (eqb x k) (sub binary64 one q) (neg q)

abbrev pub moved_part : List ℕ → Option ℕ → ℕ → Float
moved_part cells observed k = part_by observed (pos (get_or cells k 0))

-- each state's place holds its mark
pub record Marks (C : Cells) (marks : List StateStatus) : Type 0 where
  pub enough : C.states ≤ length marks
  pub each : (i : ℕ) → i < C.states → mark_at marks i ≡ mark_of C i

abbrev pub check_of : Solution → Check
check_of (solution G1 sum share) = Ok tt
check_of (unsolved k) = refusal k

-- G1, sum and share of n states stand in their places
pub record Stands (n : ℕ) (G1 sum share : ℕ → Float) (l : List Float) : Type 0 where
  pub first : (k : ℕ) → k < n → solved_g1 n l k ≡ G1 k
  pub sums : (k : ℕ) → k < n → from (sum_at n) l k ≡ sum k
  pub shares : (k : ℕ) → k < n → from (share_at n) l k ≡ share k

abbrev pub StandsIn : ℕ → Solution → List Float → Type 0
StandsIn n (solution G1 sum share) l = Stands n G1 sum share l
StandsIn n (unsolved k) l = Unit {0}

-- the answer, and the solution, if there is one, in its places
pub record SolvedIn (n : ℕ) (s : Solution) (answer : Check) (after : List Float) : Type 0 where
  pub answers : answer ≡ check_of s
  pub stands : StandsIn n s after

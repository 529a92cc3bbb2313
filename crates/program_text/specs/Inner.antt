-- For the contracts and proofs of inner functions alone: the walk over the bytes of a text by which it is read. `text-read` and `read-text`
-- (proofs/Faithful.antt) tie it to `text_of`.
use Rattle.std.specs.Prelude.{ℕ, ◌+◌, ◌*◌, ◌-◌, ◌%◌, ◌^◌, ◌≡◌, Bool, false, cond, not, ◌&&◌, List, [], ◌∷◌, leb, ltb, eqb, length, drop, set, Option, None, Some, is_some, is_none}
use Rattle.std.specs.Option.{option_map}
use Rattle.std.proofs.lemmas.List.Edits.{sets}
use Rattle.program_text.specs.Text.{space, newline}
use Rattle.program_text.specs.declared.Scan.{Scan}

abbrev pub scan : ℕ → Option ℕ → Scan
scan k v = record { count = k; digits = v }

-- what follows the number with k numbers before it: a newline after the seventh and after each fifth from there on, else a space
abbrev pub separator : ℕ → ℕ
separator k = cond (ltb k 6) space (cond (eqb ((k - 6) % 5) 0) newline space)

abbrev pub is_digit : ℕ → Bool
is_digit b = leb 48 b && leb b 57

-- whether a digit d may follow digits of the value v: not after a first zero, and below 2^64
abbrev pub takes : ℕ → ℕ → Bool
takes v d = not (eqb v 0) && ltb (v * 10 + d) (2 ^ 64)

-- the value with it; the first digit may follow
abbrev pub with_digit : Option ℕ → ℕ → Option ℕ
with_digit None d = Some d
with_digit (Some v) d = cond (takes v d) (Some (v * 10 + d)) None

abbrev pub digit_step : Scan → ℕ → Option Scan
digit_step s d = option_map (λ v. scan s.count (Some v)) (with_digit s.digits d)

abbrev pub end_step : Scan → ℕ → Option Scan
end_step s b = cond (is_some s.digits && eqb b (separator s.count)) (Some (scan (s.count + 1) None)) None

abbrev pub step_of : Scan → ℕ → Option Scan
step_of s b = cond (is_digit b) (digit_step s (b - 48)) (end_step s b)

abbrev pub begin : Scan
begin = scan 0 None

-- the number that ended with a byte: the digits before it, if there are none after it
abbrev pub ended : Option ℕ → Option ℕ → Option ℕ
ended before None = before
ended before (Some v) = None

abbrev pub with_ended : Option ℕ → List ℕ → List ℕ
with_ended None l = l
with_ended (Some v) l = v ∷ l

-- the numbers that end in what is left, up to a byte that may not stand where it does
abbrev pub ended_by : Scan → Option Scan → (Scan → List ℕ) → List ℕ
ended_by s None more = []
ended_by s (Some t) more = with_ended (ended s.digits t.digits) (more t)

abbrev pub numbers_ended : Scan → List ℕ → List ℕ
numbers_ended s [] = []
numbers_ended s (b ∷ bs) = ended_by s (step_of s b) (λ t. numbers_ended t bs)

-- whether each byte may stand where it does, and no number is open at the end
abbrev pub fine_by : Option Scan → (Scan → Bool) → Bool
fine_by None more = false
fine_by (Some t) more = more t

abbrev pub fine : Scan → List ℕ → Bool
fine s [] = is_none s.digits
fine s (b ∷ bs) = fine_by (step_of s b) (λ t. fine t bs)

abbrev pub numbers_of : Scan → List ℕ → Option ℕ
numbers_of s b = cond (fine s b) (Some (s.count + length (numbers_ended s b))) None

-- a number that ended, stored in its place counted from number first on
abbrev pub stored_at : List ℕ → ℕ → ℕ → Option ℕ → List ℕ
stored_at l first k None = l
stored_at l first k (Some v) = cond (leb first k) (set l (k - first) v) l

abbrev pub kept : List ℕ → ℕ → Scan → Scan → List ℕ
kept l first s t = stored_at l first s.count (ended s.digits t.digits)

-- the numbers of a text: how many, and those from number first on stored, as far as there is room
pub record NumbersBy (b : List ℕ) (first : ℕ) (before : List ℕ) (r : Option ℕ) (left : List ℕ) : Type 0 where
  pub answer : r ≡ numbers_of begin b
  pub stored : left ≡ sets before 0 (drop first (numbers_ended begin b))

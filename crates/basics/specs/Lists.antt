-- Counts, sums and greatest of lists, and lists made by a function of the place.
use Rattle.std.specs.Prelude.{ℕ, zero, suc, ◌+◌, ◌*◌, ◌/◌, ◌%◌, max, Bool, true, false, ◌&&◌, ◌||◌, List, [], ◌∷◌, eqb, ℤ, pos, ◌+ℤ◌, get_or}

abbrev pub bit : Bool → ℕ
bit true = 1
bit false = 0

module _ {A : Type 0} where
  -- how many elements pass the test
  abbrev pub count : (A → Bool) → List A → ℕ
  count p [] = 0
  count p (x ∷ xs) = bit (p x) + count p xs

  abbrev pub sum_of : (A → ℤ) → List A → ℤ
  sum_of f [] = pos 0
  sum_of f (x ∷ xs) = f x +ℤ sum_of f xs

  -- the greatest, or 0
  abbrev pub greatest : (A → ℕ) → List A → ℕ
  greatest f [] = 0
  greatest f (x ∷ xs) = max (f x) (greatest f xs)

  -- whether an element passes the test
  abbrev pub any : (A → Bool) → List A → Bool
  any p [] = false
  any p (x ∷ xs) = p x || any p xs

  -- f 0, f 1, .., f (n − 1)
  abbrev pub tab : ℕ → (ℕ → A) → List A
  tab zero f = []
  tab (suc n) f = f zero ∷ tab n (λ k. f (suc k))

  -- N rows of N cells, flat: cell (i, j) at cell_index N i j
  abbrev pub square : ℕ → (ℕ → ℕ → A) → List A
  square N f = tab (N * N) (λ k. f (k / N) (k % N))

-- the place of cell (i, j) in flat rows of N, and the cell of a flat table
abbrev pub cell_index : ℕ → ℕ → ℕ → ℕ
cell_index N i j = i * N + j

abbrev pub cell_at : ℕ → List ℕ → ℕ → ℕ → ℕ
cell_at N t i j = get_or t (cell_index N i j) 0

-- the test at i, i + 1, .., k of them
abbrev pub all_from : (ℕ → Bool) → ℕ → ℕ → Bool
all_from p i zero = true
all_from p i (suc k) = p i && all_from p (suc i) k

abbrev pub sum : List ℕ → ℕ
sum [] = 0
sum (x ∷ xs) = x + sum xs

-- the same numbers in the same order
abbrev pub same_words : List ℕ → List ℕ → Bool
same_words [] [] = true
same_words [] (y ∷ ys) = false
same_words (x ∷ xs) [] = false
same_words (x ∷ xs) (y ∷ ys) = eqb x y && same_words xs ys

-- A recording, a flat list of five words a quote: document 01, its first lines and "The window".
use Rattle.std.specs.Prelude.{ℕ, ◌+◌, ◌*◌, ◌/◌, ◌%◌, Bool, true, not, cond, ◌&&◌, List, [], ◌∷◌, leb, eqb, length, get_or}
use Rattle.basics.specs.Lists.{tab}
use Rattle.quotes.specs.declared.TopOfBook.{TopOfBook}

-- the time of quote i
abbrev pub time_at : List ℕ → ℕ → ℕ
time_at w i = get_or w (5 * i) 0

-- a quote is five words: time, bid, ask, bid size, ask size
abbrev pub quote_at : List ℕ → ℕ → TopOfBook
quote_at w i =
    record {
      timestamp_ms = time_at w i;
      bid = get_or w (5 * i + 1) 0;
      ask = get_or w (5 * i + 2) 0;
      bid_size = get_or w (5 * i + 3) 0;
      ask_size = get_or w (5 * i + 4) 0;
    }

abbrev pub quotes_of : List ℕ → List TopOfBook
quotes_of w = tab (length w / 5) (quote_at w)

-- not a multiple of five words
abbrev pub uneven : List ℕ → Bool
uneven w = not (eqb (length w % 5) 0)

-- no time is below t, nor below the one before it
abbrev pub sorted_from : ℕ → List TopOfBook → Bool
sorted_from t [] = true
sorted_from t (q ∷ qs) = leb t q.timestamp_ms && sorted_from q.timestamp_ms qs

-- non-falling times
abbrev pub sorted : List TopOfBook → Bool
sorted qs = sorted_from 0 qs

-- the elements that pass the test, in their order
abbrev pub filter : {A : Type 0} → (A → Bool) → List A → List A
filter p [] = []
filter p (x ∷ xs) = cond (p x) (x ∷ filter p xs) (filter p xs)

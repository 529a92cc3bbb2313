-- The state of a quote and its mirror: document 01, "State and mirror".
use Rattle.std.specs.Prelude.{ℕ, zero, suc, ◌+◌, ◌-◌, ◌*◌, ◌/◌, ◌%◌, Bool, cond, ◌&&◌, leb, ltb, Option, Result, Ok, Err, Some, None}
use Rattle.refusals.specs.Refusals.{first_of, Check}
use Rattle.quotes.specs.declared.Reason.{Reason}
use Rattle.config.specs.Configuration.{states, valid, check_config}
use Rattle.config.specs.declared.MicroPriceConfig.{MicroPriceConfig}
use Rattle.quotes.specs.Quotes.{check_quote, spread_of}
use Rattle.quotes.specs.declared.At.{At}
use Rattle.quotes.specs.declared.Reason.TheVariants.{SpreadOutOfRange, Unusable}
use Rattle.quotes.specs.declared.TopOfBook.{TopOfBook}

-- the least of j, j + 1, .., j + k − 1 at which the test holds, else j + k
abbrev pub least_from : (ℕ → Bool) → ℕ → ℕ → ℕ
least_from p j zero = j
least_from p j (suc k) = cond (p j) j (least_from p (suc j) k)

-- the least j − 1 for j = 1 to n − 1 with lighter × n ≤ total × j, else n − 1
abbrev pub lower_bucket : ℕ → ℕ → ℕ → ℕ
lower_bucket lighter heavier n = least_from (λ j. leb (lighter * n) ((lighter + heavier) * j)) 1 (n - 1) - 1

-- the bucket from 0: if bid size ≤ ask size, that; otherwise n − 1 minus that of the swapped sizes
abbrev pub bucket_of : ℕ → ℕ → ℕ → ℕ
bucket_of bid ask n = cond (leb bid ask) (lower_bucket bid ask n) (n - 1 - lower_bucket ask bid n)

-- the state of a spread in ticks and a bucket
abbrev pub state_at : ℕ → ℕ → ℕ → ℕ
state_at n spread bucket = (spread - 1) * n + bucket

-- a state's spread in ticks
abbrev pub spread_in : ℕ → ℕ → ℕ
spread_in n i = i / n + 1

-- a state's bucket, from 0
abbrev pub bucket_in : ℕ → ℕ → ℕ
bucket_in n i = i % n

-- the mirror keeps the spread and turns bucket b into n − 1 − b
abbrev pub mirror_of : ℕ → ℕ → ℕ
mirror_of n i = state_at n (spread_in n i) (n - 1 - bucket_in n i)

-- a state with its mirror
abbrev pub with_mirror : ℕ → ℕ → At
with_mirror n i = record { state = i; mirror = mirror_of n i }

-- the same two, exchanged
abbrev pub mirror_at : At → At
mirror_at a = record { state = a.mirror; mirror = a.state }

-- the mirror's place; where there is no state, the same reason
abbrev pub mirror_place : Result At Reason → Result At Reason
mirror_place (Ok a) = Ok (mirror_at a)
mirror_place (Err r) = Err r

-- the place of an accepted quote: its state, unless the spread is over s
abbrev pub place_of : MicroPriceConfig → TopOfBook → Result At Reason
place_of c q =
    cond (ltb c.spread_states (spread_of c q)) (Err SpreadOutOfRange)
    (Ok
    (with_mirror c.imbalance_buckets
    (state_at c.imbalance_buckets (spread_of c q) (bucket_of q.bid_size q.ask_size c.imbalance_buckets))))

-- a place, unless refused
abbrev pub unless : Check → Result At Reason → Result At Reason
unless (Ok _) place = place
unless (Err r) place = Err (Unusable r)

-- the place of any quote under any configuration: refusals 1, 2, 3, 4 in this order come first
abbrev pub state_of : MicroPriceConfig → TopOfBook → Result At Reason
state_of c q = unless (first_of (check_config c) (check_quote c q)) (place_of c q)

-- the mirror of any number: none where it is no state of a valid configuration
abbrev pub mirror_state_of : MicroPriceConfig → ℕ → Option ℕ
mirror_state_of c i = cond (valid c && ltb i (states c)) (Some (mirror_of c.imbalance_buckets i)) None

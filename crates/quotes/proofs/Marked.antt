-- P1 to P13 of document 01, "Marked and run", in one table: n = 3, s = 2, tick 1, least observations 1, gap 1,000 unless said.
use Prim.Native.Nat.{ℕ}
use mathlib.Core.Path.{◌≡◌, refl, sym, ap, ◌∙◌}
use mathlib.Core.List.Memᴰ
use mathlib.Core.List.{List, [], ◌∷◌, map, Memᴰ, head-eq_of_cons-eq, tail-eq_of_cons-eq}
use mathlib.Core.Logic.{⊎_elim}
use Rattle.refusals.specs.Refusals.{refusal, Check}
use Rattle.std.specs.Prelude.{Option, Result, Ok, Err, Some}
use Rattle.quotes.specs.declared.At.{At}
use Rattle.quotes.specs.declared.Pair.{Pair}
use Rattle.quotes.specs.declared.Reason.{Reason}
use Rattle.quotes.specs.declared.Skip.{Skip}
use Rattle.config.specs.Configuration.{new_config, with_min_state_observations, with_max_quote_gap_ms}
use Rattle.config.specs.declared.MicroPriceConfig.{MicroPriceConfig}
use Rattle.quotes.specs.Quotes.{check_quote}
use Rattle.quotes.specs.States.{with_mirror, state_of, mirror_state_of}
use Rattle.quotes.specs.Neighbours.{neighbours_of}
use Rattle.quotes.specs.declared.Skip.TheVariants.{Gap}
use Rattle.quotes.specs.declared.TopOfBook.{TopOfBook}

-- the configuration of a tick
abbrev pub marked : ℕ → MicroPriceConfig
marked tick = with_max_quote_gap_ms (with_min_state_observations (new_config tick 3 2) 1) 1000

abbrev quote : ℕ → ℕ → ℕ → ℕ → ℕ → TopOfBook
quote t bid ask x y = record { timestamp_ms = t; bid = bid; ask = ask; bid_size = x; ask_size = y }

-- what a row asks: the place of two sizes at a spread of one tick, a state's mirror, two equal quotes a gap apart, or a quote at a tick
pub data Question : Type 0 where
  sizes : ℕ → ℕ → Question
  mirror : ℕ → Question
  gap : ℕ → Question
  offered : ℕ → TopOfBook → Question

pub data Answer : Type 0 where
  place : Result At Reason → Answer
  mirrors : Option ℕ → Answer
  neighbours : Result Pair Skip → Answer
  check : Check → Answer

abbrev pub answer : Question → Answer
answer (sizes x y) = place (state_of (marked 1) (quote 0 100 101 x y))
answer (mirror i) = mirrors (mirror_state_of (marked 1) i)
answer (gap ms) = neighbours (neighbours_of (marked 1) (quote 0 100 101 5 5) (quote ms 100 101 5 5))
answer (offered tick q) = check (check_quote (marked tick) q)

pub record Row : Type 0 where
  pub asks : Question
  pub gives : Answer

abbrev row : Question → Answer → Row
row q a = record { asks = q; gives = a }

-- at a spread of one tick the state is the bucket
abbrev bucket : ℕ → Answer
bucket b = place (Ok (with_mirror 3 b))

abbrev pub table : List Row
table =
    row (sizes 0 7) (bucket 0) ∷
    row (sizes 1 2) (bucket 0) ∷
    row (sizes 2 3) (bucket 1) ∷
    row (sizes 5 5) (bucket 1) ∷
    row (sizes 3 2) (bucket 1) ∷
    row (sizes 2 1) (bucket 2) ∷
    row (sizes 7 0) (bucket 2) ∷
    row (mirror 0) (mirrors (Some 2)) ∷
    row (mirror 4) (mirrors (Some 4)) ∷
    row (mirror 3) (mirrors (Some 5)) ∷
    row (gap 1000) (neighbours (Ok (record { from = with_mirror 3 1; to = with_mirror 3 1; mid_from = 201; mid_to = 201 }))) ∷
    row (gap 1001) (neighbours (Err Gap)) ∷
    row (offered 5 (quote 0 100 107 5 5)) (check (refusal 4)) ∷
    []

-- the computed test
pub table-right : map (λ r. answer r.asks) table ≡ map (λ r. r.gives) table
table-right = refl

same_at : (f g : Row → Answer) (l : List Row) (r : Row) → map f l ≡ map g l → Memᴰ r l → f r ≡ g r
same_at f g [] r e m = absurd (Memᴰ.not-nil m)
same_at f g (x ∷ xs) r e m =
    ⊎_elim
    (λ p. ap f p ∙ head-eq_of_cons-eq e ∙ sym (ap g p))
    (λ t. same_at f g xs r (tail-eq_of_cons-eq e) t)
    (Memᴰ.cases_cons m)

-- the law: each row of the table holds
pub marked_row : (r : Row) → Memᴰ r table → answer r.asks ≡ r.gives
marked_row r m = same_at (λ x. answer x.asks) (λ x. x.gives) table r table-right m

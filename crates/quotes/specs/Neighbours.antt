-- What two neighbouring quotes are: document 01, "New, and one quote".
use Rattle.std.specs.Prelude.{ℕ, ◌-◌, cond, ltb, Result, Ok, Err}
use Rattle.config.specs.declared.MicroPriceConfig.{MicroPriceConfig}
use Rattle.quotes.specs.Quotes.{half_ticks}
use Rattle.quotes.specs.States.{place_of, mirror_at}
use Rattle.quotes.specs.declared.At.{At}
use Rattle.quotes.specs.declared.Pair.{Pair}
use Rattle.quotes.specs.declared.Reason.{Reason}
use Rattle.quotes.specs.declared.Skip.{Skip}
use Rattle.quotes.specs.declared.Skip.TheVariants.{Gap, Spread}
use Rattle.quotes.specs.declared.TopOfBook.{TopOfBook}

-- two places with their mids in half ticks: a pair, or the spread skip if either spread is over s
abbrev pub paired : Result At Reason → Result At Reason → ℕ → ℕ → Result Pair Skip
paired (Ok i) (Ok j) a b = Ok (record { from = i; to = j; mid_from = a; mid_to = b })
paired (Ok i) (Err r) a b = Err Spread
paired (Err r) place a b = Err Spread

-- a pair between the mirrored states, its mids as they are; a skip as it is
abbrev pub mirror_neighbours : Result Pair Skip → Result Pair Skip
mirror_neighbours (Err k) = Err k
mirror_neighbours (Ok e) =
    Ok (record { from = mirror_at e.from; to = mirror_at e.to; mid_from = e.mid_from; mid_to = e.mid_to })

-- gap over the limit: a gap skip (the limit itself counts); else either spread over s: a spread skip; else a pair
abbrev pub neighbours_of : MicroPriceConfig → TopOfBook → TopOfBook → Result Pair Skip
neighbours_of c p q =
    cond (ltb c.max_quote_gap_ms (q.timestamp_ms - p.timestamp_ms)) (Err Gap)
    (paired (place_of c p) (place_of c q) (half_ticks c p) (half_ticks c q))

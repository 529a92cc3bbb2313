-- A quote by itself: document 01, "New, and one quote".
use Rattle.std.specs.Prelude.{ℕ, ◌+◌, ◌-◌, ◌/◌, ◌%◌, Bool, List, not, ◌||◌, ◌&&◌, leb, ltb, eqb, get_or}
use Rattle.basics.specs.Domain.{most}
use Rattle.refusals.specs.Refusals.{refuse_if, first_of, Check}
use Rattle.config.specs.declared.MicroPriceConfig.{MicroPriceConfig}
use Rattle.quotes.specs.declared.TopOfBook.{TopOfBook}

-- the quote of five words: time, bid, ask, bid size, ask size
abbrev pub quote_of_words : List ℕ → TopOfBook
quote_of_words w =
    record {
      timestamp_ms = get_or w 0 0;
      bid = get_or w 1 0;
      ask = get_or w 2 0;
      bid_size = get_or w 3 0;
      ask_size = get_or w 4 0;
    }

-- 2: a price or a size over the domain
abbrev pub over_domain : TopOfBook → Bool
over_domain q = ltb most q.bid || ltb most q.ask || ltb most q.bid_size || ltb most q.ask_size

-- 3: bid 0, ask ≤ bid, both sizes 0
abbrev pub bad_quote : TopOfBook → Bool
bad_quote q = eqb q.bid 0 || leb q.ask q.bid || eqb q.bid_size 0 && eqb q.ask_size 0

-- a price that is a multiple of the tick
abbrev pub on_grid : MicroPriceConfig → ℕ → Bool
on_grid c price = eqb (price % c.tick_size) 0

-- such a price in ticks
abbrev pub in_ticks : MicroPriceConfig → ℕ → ℕ
in_ticks c price = price / c.tick_size

-- 4: either price not a multiple of tick
abbrev pub off_tick : MicroPriceConfig → TopOfBook → Bool
off_tick c q = not (on_grid c q.bid) || not (on_grid c q.ask)

-- the refusals of a quote by itself, in their order
abbrev pub check_quote : MicroPriceConfig → TopOfBook → Check
check_quote c q = first_of (refuse_if (over_domain q) 2) (first_of (refuse_if (bad_quote q) 3) (refuse_if (off_tick c q) 4))

-- the spread in ticks
abbrev pub spread_of : MicroPriceConfig → TopOfBook → ℕ
spread_of c q = in_ticks c q.ask - in_ticks c q.bid

-- the mid in half ticks, document 01's half ticks: (bid + ask) / tick, by the law half-ticks-whole
abbrev pub half_ticks : MicroPriceConfig → TopOfBook → ℕ
half_ticks c q = in_ticks c q.bid + in_ticks c q.ask

-- a quote with its sizes exchanged
abbrev pub exchanged : TopOfBook → TopOfBook
exchanged q =
    record {
      timestamp_ms = q.timestamp_ms;
      bid = q.bid;
      ask = q.ask;
      bid_size = q.ask_size;
      ask_size = q.bid_size;
    }

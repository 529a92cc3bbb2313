-- Prices in ticks: the spread and the half ticks of an accepted quote.
use Prim.Native.Nat.{◌+◌, ◌-◌, ◌*◌, ◌/◌, ◌≤◌, ◌<◌}
use mathlib.Core.Path.{◌≡◌, sym}
use native.Mathlib.Omega.{arith}
use native.Mathlib.Nat.{div-add-mod', lt_of_mul-lt-mul_right, add-mul, mul-sub, mul_comm, div-eq_of_eq-mul_left, div-le_self}
use Rattle.basics.specs.Domain.{most_half_ticks}
use Rattle.config.specs.Inner.{Valid}
use Rattle.config.specs.declared.MicroPriceConfig.{MicroPriceConfig}
use Rattle.quotes.specs.Quotes.{in_ticks, spread_of, half_ticks}
use Rattle.quotes.specs.Inner.{Accepted}
use Rattle.quotes.specs.declared.TopOfBook.{TopOfBook}

module _ (c : MicroPriceConfig) (q : TopOfBook) (v : Valid c) (f : Accepted c q) where
  bid-is : in_ticks c q.bid * c.tick_size ≡ q.bid
  bid-is = omega (arith, div-add-mod' q.bid c.tick_size, f.bid-whole)

  ask-is : in_ticks c q.ask * c.tick_size ≡ q.ask
  ask-is = omega (arith, div-add-mod' q.ask c.tick_size, f.ask-whole)

  -- the bid is fewer ticks than the ask
  pub ticks-less : in_ticks c q.bid < in_ticks c q.ask
  ticks-less = lt_of_mul-lt-mul_right c.tick_size (omega (arith, bid-is, ask-is, f.ask-above))

  -- the spread is at least one tick
  pub spread-least : 1 ≤ spread_of c q
  spread-least = omega (arith, ticks-less)

  -- ask − bid = tick × spread
  pub spread-whole : q.ask - q.bid ≡ c.tick_size * spread_of c q
  spread-whole =
      let t = c.tick_size in
      omega (arith, mul-sub t (in_ticks c q.ask) (in_ticks c q.bid), mul_comm t (in_ticks c q.ask), mul_comm t (in_ticks c q.bid), bid-is, ask-is)

  -- the half ticks are (bid + ask) / tick
  pub half-ticks-whole : half_ticks c q ≡ (q.bid + q.ask) / c.tick_size
  half-ticks-whole =
      sym
      (div-eq_of_eq-mul_left v.tick-least
      (omega (arith, add-mul (in_ticks c q.bid) (in_ticks c q.ask) c.tick_size, bid-is, ask-is)))

  pub half-ticks-most : half_ticks c q ≤ most_half_ticks
  half-ticks-most =
      omega (arith, f.bid-most, f.ask-most, div-le_self q.bid c.tick_size, div-le_self q.ask c.tick_size)

-- Counts within their limits pass one at an event exactly if what the event added to does; zeros are within.
use mathlib.Core.Path.{◌≡◌, refl, sym, ◌∙◌, ap}
use mathlib.Core.Bool.{Bool, true, false, ◌||◌}
use mathlib.Core.List.{List}
use Prim.Native.Nat.{ℕ, ◌+◌, ◌*◌, ◌<◌}
use lib.IntN.{ℤ, pos, neg_ℤ}
use lib.ListN.{length, get_or}
use lib.Seq.{get_or-set_same}
use Rattle.basics.specs.Lists.{any}
use Rattle.basics.proofs.Tests.{neither}
use Rattle.basics.proofs.Lists.{flat-below}
use Rattle.basics.proofs.Anys.{any-replicate, any-one, any-two}
use Rattle.tally.specs.Totals.{add_at}
use Rattle.tally.specs.Entries.{is_zero, bump, over_cell, over_total}
use Rattle.tally.specs.Events.{Event, first, skip, pair, Counts, entered, zeros}
use Rattle.tally.specs.Inner.{cells_over, totals_over}
use Rattle.tally.specs.Limits.{over_counter, touched, over_limit}
use Rattle.tally.specs.Rules.{InRange}
use Rattle.tally.specs.Balance.{Sized}
use Rattle.tally.proofs.Touched.{zero-neg}

pub zeros_within : (K N : ℕ) → over_limit (zeros K N) ≡ false
zeros_within K N =
    rw (any-replicate over_counter 0 K refl, any-replicate over_cell 0 (N * N) refl, any-replicate over_total (pos 0) N refl)

-- nothing is over its limit
pub record Within (c : Counts) : Type 0 where
  pub pairs-in : over_counter c.pairs ≡ false
  pub skips-in : any over_counter c.skips ≡ false
  pub stay-in : any over_cell c.tables.stay ≡ false
  pub moved_in : any over_cell c.tables.moved ≡ false
  pub totals-in : any over_total c.tables.totals ≡ false

pub within-known : (c : Counts) → over_limit c ≡ false → Within c
within-known c e =
    let t = neither (over_counter c.pairs || any over_counter c.skips || any over_cell c.tables.stay || any over_cell c.tables.moved)
    (any over_total c.tables.totals) e in
    let m = neither (over_counter c.pairs || any over_counter c.skips || any over_cell c.tables.stay) (any over_cell c.tables.moved) t.0 in
    let s = neither (over_counter c.pairs || any over_counter c.skips) (any over_cell c.tables.stay) m.0 in
    let k = neither (over_counter c.pairs) (any over_counter c.skips) s.0 in
    record { pairs-in = k.0; skips-in = k.1; stay-in = s.1; moved_in = m.1; totals-in = t.1 }

-- the five tests where an event cannot change the others
skips-alone : (b : Bool) → (false || b || false || false || false) ≡ b
skips-alone true = refl
skips-alone false = refl

stay-alone : (a b t : Bool) → (a || false || b || false || t) ≡ (a || (b || t))
stay-alone true b t = refl
stay-alone false true t = refl
stay-alone false false t = refl

moved-alone : (a b t : Bool) → (a || false || false || b || t) ≡ (a || (b || t))
moved-alone true b t = refl
moved-alone false b t = refl

module _ (K N : ℕ) (mirror : ℕ → ℕ) (below : (i : ℕ) → i < N → mirror i < N) (c : Counts) (z : Sized K N c) (o : over_limit c ≡ false) where
  w : Within c
  w = within-known c o

  one-skip : (k : ℕ) → k < K → any over_counter (bump c.skips k) ≡ over_counter (get_or (bump c.skips k) k 0)
  one-skip k h =
      let there : k < length c.skips = rw z.skip-kinds h in
      let n = get_or c.skips k 0 + 1 in
      any-one over_counter c.skips k n w.skips-in there ∙ sym (ap over_counter (get_or-set_same c.skips k n 0 there))

  module _ (i j : ℕ) (d : ℤ) (hi : i < N) (hj : j < N) where
    cells : (l : List ℕ) → length l ≡ N * N → any over_cell l ≡ false
        → any over_cell (bump (bump l (i * N + j)) (mirror i * N + mirror j)) ≡ cells_over l (i * N + j) (mirror i * N + mirror j)
    cells l n e =
        any-two over_cell 0 l e (i * N + j) (mirror i * N + mirror j) _ _ (rw n (flat-below N i j hj N hi))
        (rw n (flat-below N (mirror i) (mirror j) (below j hj) N (below i hi)))

    sums : any over_total (add_at (add_at c.tables.totals i d) (mirror i) (neg_ℤ d)) ≡ totals_over c.tables.totals i (mirror i) d
    sums =
        any-two over_total (pos 0) c.tables.totals w.totals-in i (mirror i) _ _ (rw z.totals-cells hi)
        (rw z.totals-cells (below i hi))

    over-pair : (b : Bool) → is_zero d ≡ b → over_limit (entered N mirror (pair i j d) c) ≡ touched N mirror (pair i j d) (entered N mirror (pair i j d) c)
    over-pair true e =
        rw (zero-neg d, e, w.skips-in, w.moved_in)
        (stay-alone (over_counter (c.pairs + 1)) _ _
        ∙ (λ u. over_counter (c.pairs + 1) || (cells c.tables.stay z.stay-cells w.stay-in u || sums u)))
    over-pair false e =
        rw (zero-neg d, e, w.skips-in, w.stay-in)
        (moved-alone (over_counter (c.pairs + 1)) _ _
        ∙ (λ u. over_counter (c.pairs + 1) || (cells c.tables.moved z.moved-cells w.moved_in u || sums u)))

  pub over-touched : (e : Event) → InRange K N e → over_limit (entered N mirror e c) ≡ touched N mirror e (entered N mirror e c)
  over-touched first h = o
  over-touched (skip k) h =
      rw (w.pairs-in, w.stay-in, w.moved_in, w.totals-in) (skips-alone _ ∙ one-skip k h)
  over-touched (pair i j d) h = over-pair i j d h.0 h.1 (is_zero d) refl

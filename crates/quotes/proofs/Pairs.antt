-- What a counted pair is made of.
use Prim.Native.Nat.{◌-◌}
use mathlib.Core.Path.{◌≡◌, refl, sym, ap, ◌∙◌}
use mathlib.Core.Bool.{Bool, true, false, cond}
use lib.Dec.{ltb}
use Rattle.basics.proofs.Tests.{zero-not-one}
use Rattle.config.specs.declared.MicroPriceConfig.{MicroPriceConfig}
use Rattle.quotes.specs.Quotes.{half_ticks}
use Rattle.quotes.specs.States.{place_of}
use Rattle.quotes.specs.Neighbours.{paired, neighbours_of}
use Rattle.std.specs.Prelude.{Result, Ok, Err}
use Rattle.quotes.specs.declared.At.{At}
use Rattle.quotes.specs.declared.Reason.{Reason}
use Rattle.quotes.specs.declared.Skip.{Skip}
use Rattle.quotes.specs.declared.Pair.{Pair}
use Rattle.quotes.specs.declared.Skip.TheVariants.{Gap}
use Rattle.quotes.specs.declared.TopOfBook.{TopOfBook}

pub record Made (c : MicroPriceConfig) (p q : TopOfBook) (e : Pair) : Type 0 where
  pub from_place : place_of c p ≡ Ok e.from
  pub to-place : place_of c q ≡ Ok e.to
  pub from-mid : e.mid_from ≡ half_ticks c p
  pub to-mid : e.mid_to ≡ half_ticks c q

not-gap : (t : Bool) (w : Result Pair Skip) (e : Pair) → cond t (Err Gap) w ≡ Ok e → w ≡ Ok e
not-gap true w e h = absurd (zero-not-one cc)
not-gap false w e h = h

-- a counted pair goes from the first quote's state to the second's, with their half ticks
pub counted-made : (c : MicroPriceConfig) (p q : TopOfBook) (e : Pair) → neighbours_of c p q ≡ Ok e → Made c p q e
counted-made c p q e h =
    go (place_of c p) (place_of c q) refl refl
    (not-gap (ltb c.max_quote_gap_ms (q.timestamp_ms - p.timestamp_ms)) (paired (place_of c p) (place_of c q) (half_ticks c p) (half_ticks c q)) e h)
  where
    go : (a b : Result At Reason) → place_of c p ≡ a → place_of c q ≡ b → paired a b (half_ticks c p) (half_ticks c q) ≡ Ok e → Made c p q e
    go (Ok i) (Ok j) x y w =
        let n : Pair = record { from = i; to = j; mid_from = half_ticks c p; mid_to = half_ticks c q } in
        let k : n ≡ e = cc in
        record {
          from_place = x ∙ ap (λ (z : Pair). Ok z.from) k;
          to-place = y ∙ ap (λ (z : Pair). Ok z.to) k;
          from-mid = sym (ap (λ (z : Pair). z.mid_from) k);
          to-mid = sym (ap (λ (z : Pair). z.mid_to) k);
        }
    go (Ok i) (Err r) x y w = absurd (zero-not-one cc)
    go (Err r) b x y w = absurd (zero-not-one cc)

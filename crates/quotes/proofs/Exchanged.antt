-- A quote with its sizes exchanged: the same checks, spread and half ticks, and the mirrored state.
use Prim.Native.Nat.{ℕ, ◌-◌, ◌<◌}
use mathlib.Core.Path.{◌≡◌, refl, ap}
use mathlib.Core.Bool.{Bool, true, false, cond, ◌||◌, or_comm, and_comm}
use native.Mathlib.Omega.{arith}
use lib.Dec.{leb, ltb, eqb}
use Rattle.basics.specs.Domain.{most}
use Rattle.refusals.specs.Refusals.{first_of, Check}
use Rattle.std.specs.Prelude.{Result, Ok, Err}
use Rattle.quotes.specs.declared.Pair.{Pair}
use Rattle.quotes.specs.declared.Reason.{Reason}
use Rattle.quotes.specs.declared.Skip.{Skip}
use Rattle.config.specs.Configuration.{valid, check_config}
use Rattle.config.specs.Inner.{Valid}
use Rattle.config.specs.declared.MicroPriceConfig.{MicroPriceConfig}
use Rattle.config.proofs.Known.{valid-known}
use Rattle.quotes.specs.Quotes.{over_domain, bad_quote, check_quote, spread_of, half_ticks, exchanged}
use Rattle.quotes.specs.States.{bucket_of, state_at, with_mirror, mirror_at, mirror_place, place_of, unless, state_of}
use Rattle.quotes.specs.Neighbours.{paired, mirror_neighbours, neighbours_of}
use Rattle.quotes.specs.Inner.{Accepted}
use Rattle.quotes.specs.declared.At.{At}
use Rattle.quotes.specs.declared.Skip.TheVariants.{Gap}
use Rattle.quotes.specs.declared.Reason.TheVariants.{SpreadOutOfRange}
use Rattle.quotes.specs.declared.TopOfBook.{TopOfBook}
use Rattle.quotes.proofs.Buckets.{bucket-le, bucket-exchanged}
use Rattle.quotes.proofs.Known.{fine-known}
use Rattle.quotes.proofs.States.{mirror-row, mirror-at}

pub spread-exchanged : (c : MicroPriceConfig) (q : TopOfBook) → spread_of c (exchanged q) ≡ spread_of c q
spread-exchanged c q = refl

pub half-ticks-exchanged : (c : MicroPriceConfig) (q : TopOfBook) → half_ticks c (exchanged q) ≡ half_ticks c q
half-ticks-exchanged c q = refl

last-two : (a x y : Bool) → (a || x || y) ≡ (a || y || x)
last-two true x y = refl
last-two false x y = or_comm x y

pub check-exchanged : (c : MicroPriceConfig) (q : TopOfBook) → check_quote c (exchanged q) ≡ check_quote c q
check-exchanged c q =
    let o : over_domain (exchanged q) ≡ over_domain q = last-two (ltb most q.bid || ltb most q.ask) (ltb most q.ask_size) (ltb most q.bid_size) in
    let b : bad_quote (exchanged q) ≡ bad_quote q =
    ap (λ t. eqb q.bid 0 || leb q.ask q.bid || t) (and_comm (eqb q.ask_size 0) (eqb q.bid_size 0)) in
    rw (o, b)

picked : (t : Bool) (a b : At) → b ≡ mirror_at a → cond t (Err SpreadOutOfRange) (Ok b) ≡ mirror_place (cond t (Err SpreadOutOfRange) (Ok a))
picked true a b e = refl
picked false a b e = ap Ok e

-- the place of an accepted quote with its sizes exchanged is the mirror's
pub place-exchanged : (c : MicroPriceConfig) (q : TopOfBook) → Valid c → Accepted c q → place_of c (exchanged q) ≡ mirror_place (place_of c q)
place-exchanged c q v f =
    let n = c.imbalance_buckets in
    let b = bucket_of q.bid_size q.ask_size n in
    let l : b < n = omega (arith, bucket-le q.bid_size q.ask_size n, v.n-least) in
    let i = state_at n (spread_of c q) b in
    picked (ltb c.spread_states (spread_of c q)) (with_mirror n i) _
    (rw (bucket-exchanged q.bid_size q.ask_size n f.some_size v.n-least v.n-odd, ← mirror-row n (spread_of c q - 1) b l)
    (mirror-at n i (omega (arith, v.n-least))))

-- the state of any quote with its sizes exchanged is the mirror of its state
pub state-exchanged : (c : MicroPriceConfig) (q : TopOfBook) → state_of c (exchanged q) ≡ mirror_place (state_of c q)
state-exchanged c q = rw (check-exchanged c q) (go (valid c) refl (check_quote c q) refl)
  where
    go : (t : Bool) → valid c ≡ t → (k : Check) → check_quote c q ≡ k
        → unless (first_of (check_config c) (check_quote c q)) (place_of c (exchanged q)) ≡ mirror_place
        (unless (first_of (check_config c) (check_quote c q)) (place_of c q))
    go false e k g = rw e
    go true e (Ok _) g = rw (e, g) (place-exchanged c q (valid-known c e) (fine-known c q g))
    go true e (Err r) g = rw (e, g)

pair-mirrored : (a b : Result At Reason) (x y : ℕ) → paired (mirror_place a) (mirror_place b) x y ≡ mirror_neighbours (paired a b x y)
pair-mirrored (Ok i) (Ok j) x y = refl
pair-mirrored (Ok i) (Err r) x y = refl
pair-mirrored (Err r) b x y = refl

gapped : (t : Bool) (a b : Result Pair Skip) → b ≡ mirror_neighbours a → cond t (Err Gap) b ≡ mirror_neighbours (cond t (Err Gap) a)
gapped true a b e = refl
gapped false a b e = e

-- exchanged neighbours are the same skip, or the mirrored pair with the same change
pub neighbours-exchanged : (c : MicroPriceConfig) (p q : TopOfBook) → Valid c → Accepted c p → Accepted c q
    → neighbours_of c (exchanged p) (exchanged q) ≡ mirror_neighbours (neighbours_of c p q)
neighbours-exchanged c p q v f g =
    gapped (ltb c.max_quote_gap_ms (q.timestamp_ms - p.timestamp_ms))
    (paired (place_of c p) (place_of c q) (half_ticks c p) (half_ticks c q))
    (paired (place_of c (exchanged p)) (place_of c (exchanged q)) (half_ticks c p) (half_ticks c q))
    (rw (place-exchanged c p v f, place-exchanged c q v g)
    (pair-mirrored (place_of c p) (place_of c q) (half_ticks c p) (half_ticks c q)))

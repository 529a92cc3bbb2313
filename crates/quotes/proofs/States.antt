-- Laws of states and mirrors, for every number of buckets.
use Prim.Native.Nat.{ℕ, ◌+◌, ◌-◌, ◌*◌, ◌/◌, ◌%◌, ◌≤◌, ◌<◌}
use mathlib.Core.Path.{◌≡◌, refl, ◌∙◌}
use mathlib.Core.Bool.{Bool, true, false, cond}
use native.Mathlib.Omega.{arith}
use native.Mathlib.Nat.{mod-lt, mod-eq_of_lt, mul_comm, div-add-mod', div-eq_of_lt, mul-add-mod_self_right, mul-add-div_right, div-lt_iff_lt-mul, add-zero}
use lib.Dec.{ltb}
use borrow.Author.Tests.{ltb-false}
use Rattle.basics.proofs.Tests.{zero-not-one}
use Rattle.std.specs.Prelude.{Ok, Err}
use Rattle.refusals.specs.Refusals.{Check}
use Rattle.config.specs.Configuration.{states, valid}
use Rattle.config.specs.Inner.{Valid}
use Rattle.config.specs.declared.MicroPriceConfig.{MicroPriceConfig}
use Rattle.config.proofs.Known.{valid-known}
use Rattle.quotes.specs.Quotes.{spread_of, check_quote}
use Rattle.quotes.specs.States.{bucket_of, state_at, spread_in, bucket_in, mirror_of, with_mirror, mirror_at, place_of, state_of}
use Rattle.quotes.specs.Inner.{Accepted, Located}
use Rattle.quotes.specs.declared.At.{At}
use Rattle.quotes.specs.declared.Reason.TheVariants.{SpreadOutOfRange}
use Rattle.quotes.specs.declared.TopOfBook.{TopOfBook}
use Rattle.quotes.proofs.Buckets.{bucket-le}
use Rattle.quotes.proofs.Known.{fine-known}
use Rattle.quotes.proofs.Ticks.{spread-least}
use Rattle.basics.proofs.Lists.{flat-row, flat-column, flat-below}

row_below : (n s i b : ℕ) → i < s → b < n → i * n + b < n * s
row_below n s i b h l = rw (mul_comm n s) (flat-below n i b l s h)

back : (x : ℕ) → x + 1 - 1 ≡ x
back x = omega arith

mirror-is : (n i : ℕ) → mirror_of n i ≡ i / n * n + (n - 1 - i % n)
mirror-is n i = rw (back (i / n))

-- the mirror of row i, column b
pub mirror-row : (n i b : ℕ) → b < n → mirror_of n (i * n + b) ≡ i * n + (n - 1 - b)
mirror-row n i b h = mirror-is n (i * n + b) ∙ rw (flat-row n i b h, flat-column n i b h)

module _ (n i : ℕ) (some : 1 ≤ n) where
  bucket-less : i % n < n
  bucket-less = mod-lt i some

  turned-less : n - 1 - i % n < n
  turned-less = omega (arith, some)

  pub mirror-turns-bucket : bucket_in n (mirror_of n i) ≡ n - 1 - bucket_in n i
  mirror-turns-bucket = rw (mirror-is n i, mul-add-mod_self_right) (mod-eq_of_lt turned-less)

  pub mirror-keeps-spread : spread_in n (mirror_of n i) ≡ spread_in n i
  mirror-keeps-spread =
      rw (mirror-is n i, mul-add-div_right {m = n} some (i / n) (n - 1 - i % n), div-eq_of_lt turned-less, add-zero)

  pub mirror-involution : mirror_of n (mirror_of n i) ≡ i
  mirror-involution =
      rw (mirror-keeps-spread, mirror-turns-bucket, back (i / n))
      (omega (arith, div-add-mod' i n, bucket-less))

  pub mirror-below : (s : ℕ) → i < n * s → mirror_of n i < n * s
  mirror-below s h = rw (mirror-is n i) (row_below n s (i / n) _ ((div-lt_iff_lt-mul some).1 (rw mul_comm h)) turned-less)

  -- a state with its mirror, exchanged, is its mirror with the state
  pub mirror-at : with_mirror n (mirror_of n i) ≡ mirror_at (with_mirror n i)
  mirror-at = rw (mirror-involution)

-- a place that is a state has its spread in range
placed : (t : Bool) (a b : At) → cond t (Err SpreadOutOfRange) (Ok a) ≡ Ok b → (t ≡ false) × (a ≡ b)
placed true a b e = absurd (zero-not-one cc)
placed false a b e = (refl, cc)

-- the state of a place is below N, and so is the mirror that it carries
pub place-located : (c : MicroPriceConfig) (q : TopOfBook) → Valid c → (a : At) → place_of c q ≡ Ok a → Located c a
place-located c q v a e =
    let n = c.imbalance_buckets in
    let p = placed (ltb c.spread_states (spread_of c q)) _ a e in
    let h : spread_of c q ≤ c.spread_states = ltb-false _ _ p.0 in
    let b = bucket-le q.bid_size q.ask_size n in
    let l : a.state < states c =
    rw (← p.1)
    (row_below n c.spread_states (spread_of c q - 1) _ (omega (arith, v.s-least)) (omega (arith, v.n-least))) in
    let m : a.mirror ≡ mirror_of n a.state = rw (← p.1) in
    record {
      below = l;
      mirror-below = rw m (mirror-below n a.state (omega (arith, v.n-least)) c.spread_states l);
      mirrors = m;
    }

-- the spread of a place's state is the quote's
pub place-spread : (c : MicroPriceConfig) (q : TopOfBook) → Valid c → Accepted c q → (a : At) → place_of c q ≡ Ok a
    → spread_in c.imbalance_buckets a.state ≡ spread_of c q
place-spread c q v f a e =
    let n = c.imbalance_buckets in
    let b = bucket_of q.bid_size q.ask_size n in
    let l : b < n = omega (arith, bucket-le q.bid_size q.ask_size n, v.n-least) in
    let p = placed (ltb c.spread_states (spread_of c q)) (with_mirror n (state_at n (spread_of c q) b)) a e in
    rw (← p.1, flat-row n (spread_of c q - 1) b l) (omega (arith, spread-least c q v f))

-- a quote has a state only if nothing refuses it
pub state-usable : (c : MicroPriceConfig) (q : TopOfBook) (a : At) → state_of c q ≡ Ok a → Valid c × Accepted c q × (place_of c q ≡ Ok a)
state-usable c q a e = go (valid c) refl (check_quote c q) refl
  where
    go : (t : Bool) → valid c ≡ t → (k : Check) → check_quote c q ≡ k → Valid c × Accepted c q × (place_of c q ≡ Ok a)
    go false u k w = absurd (zero-not-one (cc (rw u at e)))
    go true u (Ok _) w = (valid-known c u, fine-known c q w, rw (u, w) at e)
    go true u (Err r) w = absurd (zero-not-one (cc (rw (u, w) at e)))

-- a state is below N: of any quote under any configuration
pub state-located : (c : MicroPriceConfig) (q : TopOfBook) (a : At) → state_of c q ≡ Ok a → Located c a
state-located c q a e = let u = state-usable c q a e in place-located c q u.0 a u.2

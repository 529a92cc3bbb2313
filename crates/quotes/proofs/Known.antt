-- The tests of a quote give the facts of Accepted.
use Prim.Native.Nat.{ℕ, zero, suc, ◌+◌, ◌≤◌}
use mathlib.Core.Path.{◌≡◌, refl}
use mathlib.Core.Bool.{false, not, ◌&&◌, ◌||◌}
use native.Mathlib.Omega.{arith}
use lib.Dec.{leb, ltb, eqb}
use borrow.Author.Tests.{ltb-false, leb-false, eqb-true, eqb-false, not-false}
use Rattle.refusals.specs.Refusals.{refuse_if, first_of}
use Rattle.refusals.proofs.Refusals.{if-fine, first_fine}
use Rattle.std.specs.Prelude.{Ok}
use Rattle.config.specs.declared.MicroPriceConfig.{MicroPriceConfig}
use Rattle.quotes.specs.Quotes.{over_domain, bad_quote, on_grid, off_tick, check_quote}
use Rattle.quotes.specs.Inner.{Accepted}
use Rattle.quotes.specs.declared.TopOfBook.{TopOfBook}
use Rattle.basics.proofs.Tests.{zero-not-one, neither}
use Rattle.basics.specs.Domain.{most}

some : (x y : ℕ) → (eqb x 0 && eqb y 0) ≡ false → 1 ≤ x + y
some zero zero e = absurd (zero-not-one cc)
some zero (suc y) e = omega arith
some (suc x) y e = omega arith

pub fine-known : (c : MicroPriceConfig) (q : TopOfBook) → check_quote c q ≡ Ok tt → Accepted c q
fine-known c q e =
    let a = first_fine (refuse_if (over_domain q) 2) (first_of (refuse_if (bad_quote q) 3) (refuse_if (off_tick c q) 4)) e in
    let i = first_fine (refuse_if (bad_quote q) 3) (refuse_if (off_tick c q) 4) a.1 in
    let l : (over_domain q ≡ false) × (bad_quote q ≡ false) × (off_tick c q ≡ false) =
    (if-fine _ 2 refl a.0, if-fine _ 3 refl i.0, if-fine _ 4 refl i.1) in
    let o = neither (ltb most q.bid || ltb most q.ask || ltb most q.bid_size) (ltb most q.ask_size) l.0 in
    let p = neither (ltb most q.bid || ltb most q.ask) (ltb most q.bid_size) o.0 in
    let r = neither (ltb most q.bid) (ltb most q.ask) p.0 in
    let b = neither (eqb q.bid 0 || leb q.ask q.bid) (eqb q.bid_size 0 && eqb q.ask_size 0) l.1 in
    let d = neither (eqb q.bid 0) (leb q.ask q.bid) b.0 in
    let f = neither (not (on_grid c q.bid)) (not (on_grid c q.ask)) l.2 in
    let z : q.bid ≡ 0 → ⊥ = eqb-false _ _ d.0 in
    record {
      bid-most = ltb-false _ _ r.0;
      ask-most = ltb-false _ _ r.1;
      bid-size-most = ltb-false _ _ p.1;
      ask-size-most = ltb-false _ _ o.1;
      bid-least = omega arith;
      ask-above = leb-false _ _ d.1;
      some_size = some q.bid_size q.ask_size b.1;
      bid-whole = eqb-true _ _ (not-false _ f.0);
      ask-whole = eqb-true _ _ (not-false _ f.1);
    }

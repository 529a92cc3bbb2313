-- What a pair does to totals, at one place or at two, and whether they stay within their limits.
use Prim.Native.Nat.{ℕ, zero, suc, ◌^◌, ◌≤◌, ◌<◌}
use mathlib.Core.Path.{◌≡◌, refl, sym, ap, ◌∙◌, subst}
use mathlib.Core.Bool.{Bool, true, false, not, ◌&&◌, ◌||◌, or_self, not-not}
use mathlib.Core.Logic.{◌≢◌}
use mathlib.Core.List.{List}
use native.Mathlib.Omega.{arith}
use native.Mathlib.Decide.{ℕ_discrete}
use lib.ListN.{length, get_or}
use lib.IntN.{ℤ, pos, negsuc, neg_ℤ, nat_abs, ◌+ℤ◌, +ℤ-neg_ℤ_cancel}
use lib.Seq.{get_or-set_same, lt-length-set}
use borrow.Author.Tests.{not-false}
use Rattle.basics.proofs.Tests.{neither}
use Rattle.basics.proofs.Stores.{at_same, at_first, at_second}
use Rattle.tally.specs.Totals.{within, add_at}
use Rattle.tally.proofs.Sums.{within-size, size-part, size-neg}
use Rattle.tally.specs.Entries.{is_zero, over_total}
use Rattle.tally.specs.Inner.{totals_over}

-- none over is each within
pub not-or : (a b : Bool) → not (a || b) ≡ (not a && not b)
not-or true b = refl
not-or false b = refl

module _ (l : List ℤ) (d : ℤ) where
  pub totals-same : (a : ℕ) → a < length l → within (get_or l a (pos 0)) ≡ not (totals_over l a a d)
  totals-same a h =
      let e : get_or (add_at (add_at l a d) a (neg_ℤ d)) a (pos 0) ≡ get_or l a (pos 0) =
      at_same (pos 0) (λ z. z +ℤ d) (λ z. z +ℤ neg_ℤ d) l a h ∙ +ℤ-neg_ℤ_cancel (get_or l a (pos 0)) d in
      rw (e, or_self) (sym (not-not (within (get_or l a (pos 0)))))

  pub totals-other : (a b : ℕ) → a < length l → b < length l → a ≢ b
      → (within (get_or l a (pos 0) +ℤ d) && within (get_or l b (pos 0) +ℤ neg_ℤ d)) ≡ not (totals_over l a b d)
  totals-other a b h k n =
      rw (
        at_first (pos 0) (λ z. z +ℤ d) (λ z. z +ℤ neg_ℤ d) l a b h n,
        at_second (pos 0) (λ z. z +ℤ d) (λ z. z +ℤ neg_ℤ d) l a b k (λ e. n (sym e)),
        not-or,
        not-not (within (get_or l a (pos 0) +ℤ d)),
        not-not (within (get_or l b (pos 0) +ℤ neg_ℤ d)),
      )

  -- where both entries fit, neither total is near the ends of its word
  module _ (small : nat_abs d ≤ 2 ^ 40) (a b : ℕ) (fits : totals_over l a b d ≡ false) where
    size : (x y : ℤ) → not (within x) ≡ false → x ≡ y +ℤ d → nat_abs y < 2 ^ 60
    size x y e f = omega (arith, within-size x (not-false _ e), size-part y d, ap nat_abs f)

    pub totals-first : a < length l → nat_abs (get_or l a (pos 0)) < 2 ^ 60
    totals-first h = go (ℕ_discrete a b)
      where
        p : not (within (get_or (add_at (add_at l a d) b (neg_ℤ d)) a (pos 0))) ≡ false
        p = (neither (over_total (get_or (add_at (add_at l a d) b (neg_ℤ d)) a (pos 0))) (over_total (get_or (add_at (add_at l a d) b (neg_ℤ d)) b (pos 0)))
            fits).0

        go : Dec (a ≡ b) → nat_abs (get_or l a (pos 0)) < 2 ^ 60
        go (yes q) =
            let s : not (totals_over l a a d) ≡ true = ap not (subst (λ (z : ℕ). totals_over l a z d ≡ false) (sym q) fits) in
            omega (arith, within-size (get_or l a (pos 0)) (totals-same a h ∙ s))
        go (no q) =
            size (get_or (add_at (add_at l a d) b (neg_ℤ d)) a (pos 0)) (get_or l a (pos 0)) p (at_first (pos 0) (λ z. z +ℤ d) (λ z. z +ℤ neg_ℤ d) l a b h q)

    pub totals-second : b < length l → nat_abs (get_or (add_at l a d) b (pos 0)) < 2 ^ 60
    totals-second k =
        let z = get_or (add_at l a d) b (pos 0) in
        let s : get_or (add_at (add_at l a d) b (neg_ℤ d)) b (pos 0) ≡ z +ℤ neg_ℤ d =
        get_or-set_same (add_at l a d) b (z +ℤ neg_ℤ d) (pos 0) (lt-length-set l a _ k) in
        let w = within-size (get_or (add_at (add_at l a d) b (neg_ℤ d)) b (pos 0))
        (not-false _
        (neither (over_total (get_or (add_at (add_at l a d) b (neg_ℤ d)) a (pos 0))) (over_total (get_or (add_at (add_at l a d) b (neg_ℤ d)) b (pos 0)))
        fits).1) in
        omega (arith, w, size-part z (neg_ℤ d), size-neg d, ap nat_abs s)

pub zero-neg : (d : ℤ) → is_zero (neg_ℤ d) ≡ is_zero d
zero-neg (pos zero) = refl
zero-neg (pos (suc n)) = refl
zero-neg (negsuc n) = refl

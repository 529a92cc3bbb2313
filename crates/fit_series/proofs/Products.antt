-- B times a vector, in scratch.
use Prim.Native.Nat.{ℕ, suc, ◌+◌, ◌*◌, ◌<◌, ◌≤◌}
use mathlib.Core.Path.{◌≡◌, ap, ◌∙◌}
use mathlib.Core.List.{List}
use mathlib.Core.Logic.{inl, ◌≢◌}
use native.Mathlib.Omega.{arith}
use lib.ListN.{length, set, length-set, replicate}
use lib.Seq.{get_or-set_same, get_or-set_other}
use lib.Ieee.{Float, nan, binary64, add, mul}
use borrow.Author.Count.{below_more}
use Rattle.floats.specs.Floats.{neg_zero}
use Rattle.std.proofs.lemmas.List.{get_or-replicate, length-replicate}
use Rattle.basics.proofs.Tests.{row_in}
use Rattle.fit_linear.specs.Arithmetic.{rounded}
use Rattle.fit_series.specs.Series.{dot, times}
use Rattle.fit_linear.specs.Inner.{float_at, from, Filled}
use Rattle.fit_series.specs.Inner.{width, next_at, solved_b, Dots, ProductTo}
use Rattle.fit_linear.proofs.Parts.{filled-after}
use Rattle.fit_series.proofs.Vectors.{dot-same}

-- of so many dot products those of the first r rows are of k + 1 floats, the others of k
pub record Dotting (rows i w j : ℕ) (l : List Float) (k r : ℕ) (sums : List Float) : Type 0 where
  pub as_many : length sums ≡ rows
  pub done : (q : ℕ) → q < r → float_at sums q ≡ dot rounded (suc k) (from (i + q * w) l) (from j l)
  pub ahead : (q : ℕ) → r ≤ q → q < rows → float_at sums q ≡ dot rounded k (from (i + q * w) l) (from j l)

pub dotting-none : {rows i w j : ℕ} {l : List Float} → Dotting rows i w j l 0 0 (replicate rows neg_zero)
unfolding dot
dotting-none = record {
  as_many = length-replicate _ _;
  done = λ q h. absurd (omega arith);
  ahead = λ q g h. get_or-replicate _ q _ nan h;
}

module _ {rows i w j k r : ℕ} {l sums : List Float} (d : Dotting rows i w j l k r sums) where
  -- one product more in one sum
  pub dotting-more : {x : Float} → r < rows → x ≡ add binary64 (float_at sums r) (mul binary64 (float_at l (i + r * w + k)) (float_at l (j + k)))
      → Dotting rows i w j l k (r + 1) (set sums r x)
  unfolding dot
  dotting-more {x} h e = record {
    as_many = length-set sums r x ∙ d.as_many;
    done =
        below_more (λ q. float_at (set sums r x) q ≡ dot rounded (suc k) (from (i + q * w) l) (from j l)) r
        (λ q g. let o : q ≢ r = omega arith in get_or-set_other sums r q x nan o ∙ d.done q g)
        (get_or-set_same sums r x nan (omega (arith, d.as_many)) ∙ e
        ∙ ap (λ s. add binary64 s (mul binary64 (float_at l (i + r * w + k)) (float_at l (j + k)))) (d.ahead r (omega arith) h));
    ahead = λ q g h. let o : q ≢ r = omega arith in get_or-set_other sums r q x nan o ∙ d.ahead q (omega arith) h;
  }

module _ (n v : ℕ) {r : ℕ} {l m : List Float} (before : v + n ≤ next_at n) (p : ProductTo n v r l m) where
  -- a row of B at its place, and the vector: what is before next is as it was
  row-dot : (q i : ℕ) → q < n → i ≡ q * width n + (n + 2)
      → dot rounded n (from i m) (from v m) ≡ times rounded n (solved_b n l) (from v l) q
  row-dot q i h e =
      rw e
      (dot-same rounded n _ _ _ _
      (λ k g.
      let x : q * width n + (n + 2) + k ≡ q * width n + (n + 2 + k) = omega arith in
      ap (float_at m) x ∙ p.elsewhere (q * width n + (n + 2 + k)) (inl (omega (arith, row_in q n (width n) h))))
      (λ k g. p.elsewhere (v + k) (inl (omega arith))))

  -- so many rows more
  pub product-more : {rows : ℕ} {sums m' : List Float} → r + rows ≤ n → Dots rows (r * width n + (n + 2)) (width n) v n m sums
      → Filled (next_at n + r) rows (float_at sums) m m'
      → ProductTo n v (r + rows) l m'
  product-more {rows} {sums} h d f =
      filled-after p
      (record {
        cells = λ q g.
            let e : r * width n + (n + 2) + q * width n ≡ (r + q) * width n + (n + 2) = omega arith in
            f.cells q g ∙ d.each q g ∙ row-dot (r + q) _ (omega arith) e;
        elsewhere = f.elsewhere;
      })

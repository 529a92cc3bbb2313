-- Rounds of the series and of the share, in scratch.
use Prim.Native.Nat.{ℕ, suc, ◌+◌, ◌-◌, ◌*◌, ◌<◌, ◌≤◌}
use mathlib.Core.Path.{◌≡◌, refl, ap, ◌∙◌}
use mathlib.Core.Bool.{true, false, cond}
use mathlib.Core.List.{List}
use mathlib.Core.Logic.{inl, inr, ⊎_elim}
use native.Mathlib.Numerals.{add-one}
use native.Mathlib.Omega.{arith}
use borrow.Author.Tests.{eq-eqb, ne_eqb}
use lib.Dec.{eqb}
use lib.ListN.{length}
use Rattle.std.specs.Prelude.{⊤, Result, Ok, Err}
use lib.Ieee.{Float, binary64, add, lt}
use Rattle.std.specs.List.{between}
use Rattle.std.proofs.lemmas.List.Edits.{length-between}
use Rattle.fit_linear.proofs.Parts.{part-at}
use Rattle.basics.proofs.Tests.{row_in}
use Rattle.floats.specs.Floats.{tiny, clamp, is_infinite}
use Rattle.fit_linear.specs.Arithmetic.{rounded}
use Rattle.fit_series.specs.Series.{Series, converged, not_converged, series_sum, series_term, times, plus, largest, summed, sum_series, share_after, fallback_within}
use Rattle.fit_linear.specs.Inner.{float_at, from, rows_of, Outside, Filled}
use Rattle.fit_series.specs.Inner.{width, sum_at, share_at, term_at, next_at, solved_g1, solved_f, solved_b, sum_answer, Summed, last_product, Shared, ProductTo, Column, TermAdded}
use Rattle.fit_series.specs.declared.NotConverged.{NotConverged}
use Rattle.fit_series.proofs.Vectors.{SameVector, SameSeries, dot-same, largest-same, series-same, share-same}

-- ---- what can be read while a part is written

-- a column of the rows, into a part behind them
pub column-read : {n c to : ℕ} {l : List Float} → c < width n → n * width n ≤ to → to + n ≤ length l → Column n (width n) c to l
column-read {n} h g r =
    record {
      enough = r;
      inside = λ k q. omega (arith, row_in k n (width n) q);
      unwritten = λ k q. inl (omega (arith, row_in k n (width n) q));
    }

one-wide : (l : List Float) (k a : ℕ) → rows_of 1 l k a ≡ from a l k
one-wide l k a = let e : k * 1 + a ≡ a + k = omega arith in ap (float_at l) e

-- the largest size of a part
pub largest-part : (base n : ℕ) (l : List Float) → base + n ≤ length l
    → largest rounded (length (between base (base + n) l)) (float_at (between base (base + n) l)) ≡ largest rounded n (from base l)
largest-part base n l h =
    let e : length (between base (base + n) l) ≡ n = length-between l base (base + n) h ∙ omega arith in
    rw e (largest-same rounded n _ _ (λ k g. part-at base n k l g))

-- the rows hold the same B
same-B : (n : ℕ) (l m : List Float) → ((i : ℕ) → i < sum_at n → float_at m i ≡ float_at l i) → (i j : ℕ) → i < n → j < n → solved_b n m i j ≡ solved_b n l i j
same-B n l m h i j p q = h (i * width n + (n + 2 + j)) (omega (arith, row_in i n (width n) p))

-- ---- one round of the series: the product, copied to term, added to sum

module _
    {n : ℕ}
    {l m₁ m₂ m₃ : List Float}
    (p : ProductTo n (term_at n) n l m₁)
    (c : Filled (term_at n) n (from (next_at n) m₁) m₁ m₂)
    (a : Filled (sum_at n) n (λ k. add binary64 (rows_of 1 m₂ k (sum_at n)) (from (next_at n) m₂ k)) m₂ m₃) where
  P : ℕ → Float
  P = times rounded n (solved_b n l) (from (term_at n) l)

  term₂ : (k : ℕ) → k < n → from (term_at n) m₂ k ≡ P k
  unfolding P
  term₂ k h = c.cells k h ∙ p.cells k h

  next₂ : (k : ℕ) → k < n → from (next_at n) m₂ k ≡ P k
  unfolding P
  next₂ k h = c.elsewhere (next_at n + k) (inr (omega arith)) ∙ p.cells k h

  sum₂ : (k : ℕ) → k < n → rows_of 1 m₂ k (sum_at n) ≡ from (sum_at n) l k
  sum₂ k h = one-wide m₂ k (sum_at n) ∙ c.elsewhere (sum_at n + k) (inl (omega arith)) ∙ p.elsewhere (sum_at n + k) (inl (omega arith))

  term₃ : (k : ℕ) → k < n → from (term_at n) m₃ k ≡ P k
  term₃ k h = a.elsewhere (term_at n + k) (inr (omega arith)) ∙ term₂ k h

  pub term-added : {x : Float} → x ≡ largest rounded n (from (term_at n) m₃) → TermAdded n l x m₃
  unfolding P
  term-added e =
      record {
        size = e ∙ largest-same rounded n _ _ term₃;
        sums = λ k h. a.cells k h ∙ rw (sum₂ k h, next₂ k h);
        terms = term₃;
        nexts = λ k h. a.elsewhere (next_at n + k) (inr (omega arith)) ∙ next₂ k h;
        elsewhere = λ i h g.
            a.elsewhere i h
            ∙ c.elsewhere i (⊎_elim (λ q. inl q) (λ q. inr (omega arith)) g)
            ∙ p.elsewhere i (⊎_elim (λ q. inl (omega arith)) (λ q. inr (omega arith)) g);
      }

-- ---- rounds of the series

-- a run with so many rounds left: what stands in sum and term, from which the rest of the run is the run's
pub record Running (n rounds left : ℕ) (l m : List Float) : Type 0 where
  pub fewer : left ≤ rounds
  pub total : ℕ → Float
  pub last : ℕ → Float
  pub rest : summed rounded n (solved_b n l) rounds (from (sum_at n) l) (from (term_at n) l) ≡ summed rounded n (solved_b n l) left total last
  pub sums : SameVector n (from (sum_at n) m) total
  pub terms : SameVector n (from (term_at n) m) last
  pub nexts : (k : ℕ) → k < n → from (next_at n) m k ≡ cond (eqb rounds left) (from (next_at n) l k) (last k)
  pub elsewhere : (i : ℕ) → Outside (sum_at n) n i → Outside (term_at n) (2 * n) i → float_at m i ≡ float_at l i

pub running_none : {n rounds : ℕ} {l : List Float} → Running n rounds rounds l l
running_none {n} {rounds} {l} =
    record {
      fewer = omega arith;
      total = from (sum_at n) l;
      last = from (term_at n) l;
      rest = refl;
      sums = λ k h. refl;
      terms = λ k h. refl;
      nexts = λ k h. rw (eq-eqb rounds rounds refl);
      elsewhere = λ i h g. refl;
    }

module _ {n rounds left : ℕ} {l m m' : List Float} {x : Float} (more : 0 < left) (r : Running n rounds left l m) (t : TermAdded n m x m') where
  B : ℕ → ℕ → Float
  B = solved_b n l

  next : ℕ → Float
  next = times rounded n B r.last

  total : ℕ → Float
  total = plus rounded r.total next

  product : SameVector n (times rounded n (solved_b n m) (from (term_at n) m)) next
  unfolding next B
  product i h =
      dot-same rounded n _ _ _ _
      (λ j g. same-B n l m (λ q s. r.elsewhere q (inl s) (inl (omega arith))) i j h g)
      r.terms

  size : x ≡ largest rounded n next
  size = t.size ∙ largest-same rounded n _ _ product

  sums' : SameVector n (from (sum_at n) m') total
  unfolding total
  sums' k h = t.sums k h ∙ rw (r.sums k h, product k h)

  terms' : SameVector n (from (term_at n) m') next
  terms' k h = t.terms k h ∙ product k h

  nexts' : SameVector n (from (next_at n) m') next
  nexts' k h = t.nexts k h ∙ product k h

  elsewhere' : (i : ℕ) → Outside (sum_at n) n i → Outside (term_at n) (2 * n) i → float_at m' i ≡ float_at l i
  elsewhere' i h g = t.elsewhere i h g ∙ r.elsewhere i h g

  one_more : left ≡ suc (left - 1)
  one_more = omega arith

  -- the run ends here, with the sum and the term of this round
  ends : (s : Series Float) (answer : Result ⊤ NotConverged) → summed rounded n B left r.total r.last ≡ s → answer ≡ sum_answer s → series_sum s ≡ total
      → series_term s ≡ next
      → Summed n rounds (summed rounded n B rounds (from (sum_at n) l) (from (term_at n) l)) l answer m'
  unfolding B
  ends s answer e is st nt =
      rw (r.rest ∙ e)
      (record {
        answers = is;
        sums = λ k h. rw st (sums' k h);
        terms = λ k h. rw nt (terms' k h);
        nexts = λ k h. rw (ne_eqb rounds 0 (omega (arith, r.fewer)), nt) (nexts' k h);
        elsewhere = elsewhere';
      })

  pub run-infinite : is_infinite x ≡ true
      → Summed n rounds (summed rounded n (solved_b n l) rounds (from (sum_at n) l) (from (term_at n) l)) l (Err (record {})) m'
  unfolding summed next total B
  run-infinite h = ends (not_converged total next) (Err (record {})) (rw (one_more, ← size, h)) refl refl refl

  pub run-tiny : is_infinite x ≡ false → lt x tiny ≡ true
      → Summed n rounds (summed rounded n (solved_b n l) rounds (from (sum_at n) l) (from (term_at n) l)) l (Ok tt) m'
  unfolding summed next total B
  run-tiny h g = ends (converged total next) (Ok tt) (rw (one_more, ← size, h, g)) refl refl refl

  goes : is_infinite x ≡ false → lt x tiny ≡ false
      → summed rounded n (solved_b n l) left r.total r.last ≡ summed rounded n (solved_b n l) (left - 1) total next
  unfolding summed next total B
  goes h g =
      let e : suc (left - 1) - 1 ≡ left - 1 = omega arith in
      rw (one_more, ← size, h, g, e)

  pub run_more : is_infinite x ≡ false → lt x tiny ≡ false → Running n rounds (left - 1) l m'
  run_more h g =
      record {
        fewer = omega (arith, r.fewer);
        total = total;
        last = next;
        rest = r.rest ∙ goes h g;
        sums = sums';
        terms = terms';
        nexts = λ k q. rw (ne_eqb rounds (left - 1) (omega (arith, r.fewer))) (nexts' k q);
        elsewhere = elsewhere';
      }

pub run_out : {n rounds : ℕ} {l m : List Float} → Running n rounds 0 l m
    → Summed n rounds (summed rounded n (solved_b n l) rounds (from (sum_at n) l) (from (term_at n) l)) l (Err (record {})) m
unfolding summed
run_out r = rw r.rest (record { answers = refl; sums = r.sums; terms = r.terms; nexts = r.nexts; elsewhere = r.elsewhere })

-- ---- the series from G1

-- what a run leaves, given by a series that agrees
module _ {n rounds : ℕ} {l m : List Float} {x : Result ⊤ NotConverged} where
  like : (a b : Series Float) → sum_answer a ≡ sum_answer b → SameVector n (series_sum a) (series_sum b) → SameVector n (series_term a) (series_term b)
      → Summed n rounds a l x m
      → Summed n rounds b l x m
  like a b h s t e =
      record {
        answers = e.answers ∙ h;
        sums = λ k g. e.sums k g ∙ s k g;
        terms = λ k g. e.terms k g ∙ t k g;
        nexts = λ k g. e.nexts k g ∙ ap (λ x. cond (eqb rounds 0) (from (next_at n) l k) x) (t k g);
        elsewhere = e.elsewhere;
      }

  pub summed_same : (a b : Series Float) → SameSeries n a b → Summed n rounds a l x m → Summed n rounds b l x m
  summed_same (converged s t) (converged s' t') h = like _ _ refl h.0 h.1
  summed_same (converged s t) (not_converged s' t') h = absurd h
  summed_same (not_converged s t) (converged s' t') h = absurd h
  summed_same (not_converged s t) (not_converged s' t') h = like _ _ refl h.0 h.1

-- the run of rows that hold B and G1
pub summed-of : (n rounds : ℕ) (l m : List Float) (x : Result ⊤ NotConverged) (B : ℕ → ℕ → Float) (G1 : ℕ → Float)
    → ((i j : ℕ) → i < n → j < n → solved_b n l i j ≡ B i j) → SameVector n (solved_g1 n l) G1
    → Summed n rounds (sum_series rounded n (solved_b n l) (solved_g1 n l) rounds) l x m → Summed n rounds (sum_series rounded n B G1 rounds) l x m
summed-of n rounds l m x B G1 h g = summed_same _ _ (series-same rounded n (solved_b n l) B h rounds _ _ _ _ g g)

-- G1 copied to sum and to term, and the run from there
pub sum-started : {n rounds : ℕ} {l m₁ m₂ m₃ : List Float} {x : Result ⊤ NotConverged} → Filled (sum_at n) n (λ k. rows_of (width n) l k n) l m₁
    → Filled (term_at n) n (λ k. rows_of (width n) m₁ k n) m₁ m₂
    → Summed n rounds (summed rounded n (solved_b n m₂) rounds (from (sum_at n) m₂) (from (term_at n) m₂)) m₂ x m₃
    → Summed n rounds (sum_series rounded n (solved_b n l) (solved_g1 n l) rounds) l x m₃
sum-started {n} {rounds} {l} {m₁} {m₂} {m₃} {x} s t e =
    record {
      answers = d.answers;
      sums = d.sums;
      terms = d.terms;
      nexts =
          λ k h. d.nexts k h
          ∙ ap (λ y. cond (eqb rounds 0) y (series_term (sum_series rounded n (solved_b n l) (solved_g1 n l) rounds) k))
          (start (next_at n + k) (inr (omega arith)) (inr (omega arith)));
      elsewhere = λ i h g. d.elsewhere i h g ∙ start i h (⊎_elim (λ q. inl q) (λ q. inr (omega arith)) g);
    }
  where
    start : (i : ℕ) → Outside (sum_at n) n i → Outside (term_at n) n i → float_at m₂ i ≡ float_at l i
    start i h g = t.elsewhere i g ∙ s.elsewhere i h

    rows : (i : ℕ) → i < sum_at n → float_at m₂ i ≡ float_at l i
    rows i h = start i (inl h) (inl (omega arith))

    G1 : (k : ℕ) → k < n → rows_of (width n) m₁ k n ≡ solved_g1 n l k
    G1 k h = s.elsewhere (k * width n + n) (inl (omega (arith, row_in k n (width n) h)))

    d : Summed n rounds (sum_series rounded n (solved_b n l) (solved_g1 n l) rounds) m₂ x m₃
    d =
        summed_same _ _
        (series-same rounded n (solved_b n m₂) (solved_b n l) (same-B n l m₂ rows) rounds _ _ _ _
        (λ k h. t.elsewhere (sum_at n + k) (inl (omega arith)) ∙ s.cells k h)
        (λ k h. t.cells k h ∙ G1 k h))
        e

-- ---- rounds of the share

pub shares-none : {n : ℕ} {l : List Float} → SameVector n (from (share_at n) l) (solved_f n l)
    → Shared n 0 (share_after rounded n (solved_b n l) (solved_f n l) 0) (last_product n (solved_b n l) (solved_f n l) 0) l l
unfolding share_after
shares-none h = record { shares = h; nexts = λ k g. refl; elsewhere = λ i h g. refl }

pub shares-more : {n done : ℕ} {l m m' : List Float}
    → Shared n done (share_after rounded n (solved_b n l) (solved_f n l) done) (last_product n (solved_b n l) (solved_f n l) done) l m
    → Shared n 1 (plus rounded (solved_f n m) (times rounded n (solved_b n m) (from (share_at n) m)))
    (times rounded n (solved_b n m) (from (share_at n) m)) m m'
    → Shared n (done + 1) (share_after rounded n (solved_b n l) (solved_f n l) (done + 1)) (last_product n (solved_b n l) (solved_f n l) (done + 1)) l m'
unfolding share_after
shares-more {n} {done} {l} {m} s r =
    record {
      shares = λ k h. rw add-one (r.shares k h ∙ rw (F k h, product k h));
      nexts = λ k h. rw (ne_eqb (done + 1) 0 (omega arith), back) (r.nexts k h ∙ product k h);
      elsewhere = λ i h g. r.elsewhere i h g ∙ s.elsewhere i h g;
    }
  where
    back : done + 1 - 1 ≡ done
    back = omega arith

    rows : (i : ℕ) → i < sum_at n → float_at m i ≡ float_at l i
    rows i h = s.elsewhere i (inl (omega arith)) (inl (omega arith))

    F : (k : ℕ) → k < n → solved_f n m k ≡ solved_f n l k
    F k h = rows (k * width n + (n + 1)) (omega (arith, row_in k n (width n) h))

    product : SameVector n (times rounded n (solved_b n m) (from (share_at n) m))
        (times rounded n (solved_b n l) (share_after rounded n (solved_b n l) (solved_f n l) done))
    product i h = dot-same rounded n _ _ _ _ (λ j g. same-B n l m rows i j h g) s.shares

-- what the rounds leave, given by vectors that agree
shared_same : {n rounds : ℕ} {u p u' p' : ℕ → Float} {l m : List Float} → SameVector n u u' → SameVector n p p' → Shared n rounds u p l m
    → Shared n rounds u' p' l m
shared_same {n} {rounds} {u} {p} {u'} {p'} {l} {m} a b s =
    record {
      shares = λ k h. s.shares k h ∙ a k h;
      nexts = λ k h. s.nexts k h ∙ ap (λ x. cond (eqb rounds 0) (from (next_at n) l k) x) (b k h);
      elsewhere = s.elsewhere;
    }

module _ (n rounds : ℕ) (l : List Float) (B : ℕ → ℕ → Float) (F : ℕ → Float) (same_b : (i j : ℕ) → i < n → j < n → solved_b n l i j ≡ B i j)
    (same_f : SameVector n (solved_f n l) F) where
  share-agrees : (k : ℕ) → SameVector n (share_after rounded n (solved_b n l) (solved_f n l) k) (share_after rounded n B F k)
  share-agrees = share-same rounded n (solved_b n l) B same_b (solved_f n l) F same_f

  product-agrees : SameVector n (last_product n (solved_b n l) (solved_f n l) rounds) (last_product n B F rounds)
  product-agrees i h = dot-same rounded n _ _ _ _ (λ j g. same_b i j h g) (share-agrees (rounds - 1))

  -- the share of rows that hold B and F
  pub shared_of : (m : List Float)
      → Shared n rounds (fallback_within rounded n (solved_b n l) (solved_f n l) rounds) (last_product n (solved_b n l) (solved_f n l) rounds) l m
      → Shared n rounds (fallback_within rounded n B F rounds) (last_product n B F rounds) l m
  shared_of m = shared_same (λ k h. ap clamp (share-agrees rounds k h)) product-agrees

-- F copied to share, so many rounds, and the clamp
pub share-started : {n rounds : ℕ} {l m₁ m₂ m₃ : List Float} → Filled (share_at n) n (λ k. rows_of (width n) l k (n + 1)) l m₁
    → Shared n rounds (share_after rounded n (solved_b n m₁) (solved_f n m₁) rounds) (last_product n (solved_b n m₁) (solved_f n m₁) rounds) m₁ m₂
    → Filled (share_at n) n (λ k. clamp (from (share_at n) m₂ k)) m₂ m₃
    → Shared n rounds (fallback_within rounded n (solved_b n l) (solved_f n l) rounds) (last_product n (solved_b n l) (solved_f n l) rounds) l m₃
share-started {n} {rounds} {l} {m₁} {m₂} c s f =
    record {
      shares = λ k h. f.cells k h ∙ ap clamp (d.shares k h);
      nexts = λ k h. f.elsewhere (next_at n + k) (inr (omega arith)) ∙ d.nexts k h ∙ rw (c.elsewhere (next_at n + k) (inr (omega arith)));
      elsewhere = λ i h g. f.elsewhere i h ∙ d.elsewhere i h g ∙ c.elsewhere i h;
    }
  where
    rows : (i : ℕ) → i < sum_at n → float_at m₁ i ≡ float_at l i
    rows i h = c.elsewhere i (inl (omega arith))

    B : (i j : ℕ) → i < n → j < n → solved_b n m₁ i j ≡ solved_b n l i j
    B = same-B n l m₁ rows

    F : SameVector n (solved_f n m₁) (solved_f n l)
    F k h = rows (k * width n + (n + 1)) (omega (arith, row_in k n (width n) h))

    d : Shared n rounds (share_after rounded n (solved_b n l) (solved_f n l) rounds) (last_product n (solved_b n l) (solved_f n l) rounds) m₁ m₂
    d =
        shared_same (share-agrees n rounds m₁ (solved_b n l) (solved_f n l) B F rounds)
        (product-agrees n rounds m₁ (solved_b n l) (solved_f n l) B F)
        s

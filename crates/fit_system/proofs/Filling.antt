-- A row of the system as its parts, and the rows one after another.
use Prim.Native.Nat.{ℕ, ◌+◌, ◌-◌, ◌*◌, ◌<◌, ◌≤◌}
use mathlib.Core.Path.{◌≡◌, refl, sym, ap, ◌∙◌}
use mathlib.Core.Bool.{Bool, true, false, cond}
use mathlib.Core.List.{List}
use mathlib.Core.Logic.{◌≢◌, ◌⊎◌, inl, inr, ⊎_elim}
use native.Mathlib.Nat.{suc-mul, eq-or-lt_of_le}
use native.Mathlib.Numerals.{add-one}
use native.Mathlib.Omega.{arith}
use borrow.Author.Tests.{lt-ltb, le-ltb, eq-eqb, ne_eqb}
use lib.Dec.{eqb}
use lib.IntN.{ℤ, pos}
use lib.ListN.{length, get_or, set, length-set, take}
use lib.Seq.{get_or-set_same, get_or-set_other}
use lib.Ieee.{Float, nan, binary64, in_float, sub, neg}
use Rattle.basics.proofs.Tests.{le-or-lt}
use borrow.Rule.Slice.PartMut.{put_mid}
use Rattle.std.specs.Prelude.{Option, IfSome}
use Rattle.std.specs.List.{between, enumerate_from}
use Rattle.std.proofs.lemmas.List.{length-take, get_or-take, get_or_default}
use Rattle.std.proofs.lemmas.List.FromFn.{length-enumerate_from, get_or-enumerate_from}
use Rattle.std.proofs.lemmas.List.Edits.{length-between}
use Rattle.floats.specs.Floats.{pos_zero, one, exact_whole}
use Rattle.model.specs.Status.{is_calibrated}
use Rattle.model.specs.declared.StateStatus.{StateStatus}
use Rattle.model.specs.declared.StateStatus.TheVariants.{Calibrated}
use Rattle.basics.specs.Lists.{cell_at}
use Rattle.fit_marking.specs.Marks.{Cells, cells_of, observations, mark_of, mark_at}
use Rattle.fit_marking.specs.Below.{sum_to}
use Rattle.fit_marking.specs.Inner.{row_of}
use Rattle.fit_marking.proofs.Below.{sum_more, sum-part}
use Rattle.fit_marking.proofs.Rows.{length-row, row-at, row-in-tables, any-least, observations-fit}
use Rattle.fit_linear.specs.Arithmetic.{rounded}
use Rattle.fit_linear.specs.Elimination.{system}
use Rattle.fit_linear.specs.Inner.{float_at, from, Becomes, Filled}
use Rattle.fit_series.specs.Inner.{width}
use Rattle.fit_linear.proofs.Parts.{outside-row, filled-part}
use Rattle.fit_system.specs.Inner.{Exact, AllExact, observed_in, part_by, fallback_by, stay_part, moved_part}
use Rattle.fit_system.specs.Rows.{total_of, used, part, Q, T, K, fallback, system_of}

-- ---- numbers of a row

cell_below : (n k : ℕ) (f : ℕ → ℕ) → k < n → f k ≤ sum_to n f
cell_below n k f h = omega (arith, sum_more k f, sum-part (k + 1) n f (omega arith))

-- row x lies in the tables, and its cells, its move total and its observations are exact as floats
pub record RowExact (n : ℕ) (stay moved : List ℕ) (totals : List ℤ) (x : ℕ) : Type 0 where
  pub stay-in : x * n + n ≤ length stay
  pub stay-exact : AllExact (row_of n stay x)
  pub moved_in : x * n + n ≤ length moved
  pub moved-exact : AllExact (row_of n moved x)
  pub total-in : x < length totals
  pub total-exact : in_float binary64 (total_of totals x) ≡ true
  pub observed-exact : (mark : StateStatus) → IfSome (observed_in (is_calibrated mark) (observations (cells_of n 0 stay moved) x)) (λ o. o ≤ exact_whole)

pub row-exact : {n : ℕ} {stay moved : List ℕ} {totals : List ℤ} {x : ℕ} → Exact n stay moved totals → x < n → RowExact n stay moved totals x
row-exact {n} {stay} {moved} {totals} {x} e h =
    let r = row-in-tables e.cells h in
    record {
      stay-in = r.stay-in;
      stay-exact =
          λ k g.
          let b : k < n = omega (arith, length-row n stay x r.stay-in) in
          omega (arith, row-at n stay x k b, cell_below n k (cell_at n stay x) b);
      moved_in = r.moved_in;
      moved-exact =
          λ k g.
          let b : k < n = omega (arith, length-row n moved x r.moved_in) in
          omega (arith, row-at n moved x k b, cell_below n k (cell_at n moved x) b);
      total-in = omega (arith, e.totals-long);
      total-exact = e.totals-exact x h;
      observed-exact = λ mark. few (is_calibrated mark);
    }
  where
    few : (u : Bool) → IfSome (observed_in u (observations (cells_of n 0 stay moved) x)) (λ o. o ≤ exact_whole)
    few true = observations-fit n 0 stay moved x e.cells h
    few false = tt

-- ---- one row

module _ (n : ℕ) (Q : ℕ → ℕ → Float) (K fallback : ℕ → Float) (T : ℕ → ℕ → Float) (x : ℕ) where
  S : ℕ → Float
  S = system rounded n Q K fallback T x

  at_left : (k : ℕ) → k < n → S k ≡ cond (eqb x k) (sub binary64 one (Q x k)) (neg (Q x k))
  unfolding S system
  at_left k h = rw (lt-ltb k n h)

  at-total : S n ≡ K x
  unfolding S system
  at-total = rw (le-ltb n n (omega arith), eq-eqb n n refl)

  at-fallback : S (n + 1) ≡ fallback x
  unfolding S system
  at-fallback = rw (le-ltb (n + 1) n (omega arith), ne_eqb (n + 1) n (omega arith), eq-eqb (n + 1) (n + 1) refl)

  at_right : (k : ℕ) → S (n + 2 + k) ≡ T x k
  unfolding S system
  at_right k =
      let back : n + 2 + k - (n + 2) ≡ k = omega arith in
      rw (le-ltb (n + 2 + k) n (omega arith), ne_eqb (n + 2 + k) n (omega arith), ne_eqb (n + 2 + k) (n + 1) (omega arith), back)

  -- 1 − Q, then K and the fallback's 1 or 0, then T
  pub row-filled : (base : ℕ) (l m e : List Float) (t f : Float)
      → Filled base n (λ k. cond (eqb x k) (sub binary64 one (Q x k)) (neg (Q x k))) l m
      → base + (n + 1) < length m
      → t ≡ K x
      → f ≡ fallback x
      → Filled (base + (n + 2)) n (T x) (set (set m (base + n) t) (base + (n + 1)) f) e
      → Filled base (width n) (system rounded n Q K fallback T x) l e
  unfolding S
  row-filled base l m e t f a long is-t is_f b = record { cells = cells; elsewhere = elsewhere }
    where
      m₁ : List Float
      m₁ = set m (base + n) t

      m₂ : List Float
      m₂ = set m₁ (base + (n + 1)) f

      kept : (i : ℕ) → i ≢ base + n → i ≢ base + (n + 1) → float_at m₂ i ≡ float_at m i
      kept i p q = get_or-set_other m₁ (base + (n + 1)) i f nan q ∙ get_or-set_other m (base + n) i t nan p

      left : (k : ℕ) → k < n → from base e k ≡ S k
      left k h =
          b.elsewhere (base + k) (inl (omega arith))
          ∙ kept (base + k) (omega arith) (omega arith)
          ∙ a.cells k h
          ∙ sym (at_left k h)

      total : from base e n ≡ S n
      total =
          b.elsewhere (base + n) (inl (omega arith))
          ∙ get_or-set_other m₁ (base + (n + 1)) (base + n) f nan (omega arith)
          ∙ get_or-set_same m (base + n) t nan (omega arith)
          ∙ is-t
          ∙ sym at-total

      one-or-none : from base e (n + 1) ≡ S (n + 1)
      one-or-none =
          b.elsewhere (base + (n + 1)) (inl (omega arith))
          ∙ get_or-set_same m₁ (base + (n + 1)) f nan (omega (arith, length-set m (base + n) t))
          ∙ is_f
          ∙ sym at-fallback

      right : (k : ℕ) → k < n → from base e (n + 2 + k) ≡ S (n + 2 + k)
      right k h =
          let place : base + (n + 2 + k) ≡ base + (n + 2) + k = omega arith in
          ap (float_at e) place ∙ b.cells k h ∙ sym (at_right k)

      cells : (k : ℕ) → k < width n → from base e k ≡ S k
      cells k h =
          ⊎_elim
          (λ (p : n ≤ k).
          ⊎_elim
          (λ (z : n ≡ k). rw (← z) total)
          (λ (z : n < k).
          ⊎_elim
          (λ (y : n + 1 ≡ k). rw (← y) one-or-none)
          (λ (y : n + 1 < k).
          let place : k ≡ n + 2 + (k - (n + 2)) = omega arith in
          rw place (right (k - (n + 2)) (omega arith)))
          (eq-or-lt_of_le (omega arith)))
          (eq-or-lt_of_le p))
          (λ (p : k < n). left k p)
          (le-or-lt n k)

      elsewhere : (i : ℕ) → (i < base) ⊎ (base + width n ≤ i) → float_at e i ≡ float_at l i
      elsewhere i h =
          b.elsewhere i (⊎_elim (λ q. inl (omega arith)) (λ q. inr (omega arith)) h)
          ∙ kept i (⊎_elim (λ q. omega arith) (λ q. omega arith) h) (⊎_elim (λ q. omega arith) (λ q. omega arith) h)
          ∙ a.elsewhere i (⊎_elim (λ q. inl q) (λ q. inr (omega arith)) h)

-- the row of a state, by whether it is used and by its observations
pub state-row : (C : Cells) (total : ℕ → ℤ) (x base : ℕ) (u : Bool) (o : ℕ) → u ≡ used C x → o ≡ observations C x
    → (l m e : List Float) (t f : Float)
    → Filled base C.states (λ k. let q = part u (pos (C.stay x k)) o in cond (eqb x k) (sub binary64 one q) (neg q)) l m
    → base + (C.states + 1) < length m
    → t ≡ part u (total x) o
    → f ≡ cond u pos_zero one
    → Filled (base + (C.states + 2)) C.states (λ k. part u (pos (C.moved x k)) o) (set (set m (base + C.states) t) (base + (C.states + 1)) f) e
    → Filled base (width C.states) (system_of C total x) l e
state-row C total x base u o is-u is-o l m e t f a long is-t is_f b =
    row-filled C.states (Q C) (K C total) (fallback C) (T C) x base l m e t f
    (rw (is-u, is-o) at a)
    long
    (rw (is-u, is-o) at is-t)
    (rw is-u at is_f)
    (rw (is-u, is-o) at b)

-- row x of a state with this mark, by its parts in the order of the code
pub row-by-parts : (n least x o : ℕ) (mark : StateStatus) (stay moved : List ℕ) (totals : List ℤ) {l m e : List Float} {t f : Float}
    → mark ≡ mark_of (cells_of n least stay moved) x
    → o ≡ observations (cells_of n 0 stay moved) x
    → Filled (x * width n) n (λ k. let q = part (is_calibrated mark) (pos (cell_at n stay x k)) o in cond (eqb x k) (sub binary64 one q) (neg q)) l m
    → x * width n + width n ≤ length m
    → t ≡ part (is_calibrated mark) (total_of totals x) o
    → f ≡ cond (is_calibrated mark) pos_zero one
    → Filled (x * width n + (n + 2)) n (λ k. part (is_calibrated mark) (pos (cell_at n moved x k)) o)
    (set (set m (x * width n + n) t) (x * width n + (n + 1)) f) e
    → Filled (x * width n) (width n) (system_of (cells_of n least stay moved) (total_of totals) x) l e
row-by-parts n least x o mark stay moved totals {l} {m} {e} {t} {f} marked is-o left long is-t is_f right =
    state-row (cells_of n least stay moved) (total_of totals) x (x * width n) (is_calibrated mark) o
    (ap is_calibrated marked)
    (is-o ∙ sym (any-least n least stay moved x))
    l m e t f left (omega arith) is-t is_f right

-- n places from base on, and what is written there
pub length-here : (base n : ℕ) (l : List Float) → base + n ≤ length l → length (between base (base + n) l) ≡ n
length-here base n l h = length-between l base (base + n) h ∙ omega arith

pub filled-here : (base n : ℕ) (l part : List Float) {v : ℕ → Float} → base + n ≤ length l → length part ≡ n
    → ((k : ℕ) → k < length (between base (base + n) l) → float_at part k ≡ v k) → Filled base n v l (put_mid base (base + n - base) l part)
filled-here base n l part h e c =
    let all : base + n - base ≡ n = omega arith in
    rw all (filled-part base n l part h e (λ k g. c k (rw (length-here base n l h) g)))

-- a part of a row by another name of its cells
part-of-row : {base n : ℕ} {v w : ℕ → Float} {l m : List Float} → ((k : ℕ) → k < n → v k ≡ w k) → Filled base n v l m → Filled base n w l m
part-of-row same f = record { cells = λ k h. f.cells k h ∙ same k h; elsewhere = f.elsewhere }

-- a part by what the functions take
parts : (u : Bool) (o : ℕ) (z : ℤ) → part_by (observed_in u o) z ≡ part u z o
unfolding part
parts true o z = refl
parts false o z = refl

fallbacks : (u : Bool) (o : ℕ) → fallback_by (observed_in u o) ≡ cond u pos_zero one
fallbacks true o = refl
fallbacks false o = refl

-- the same of the lists of its cells, which lie in the tables
pub row-by-lists : (n least x : ℕ) (mark : StateStatus) (stay moved : List ℕ) (totals : List ℤ) (observed : Option ℕ) (stays moves : List ℕ)
    {l m e : List Float} {t f : Float}
    → RowExact n stay moved totals x
    → mark ≡ mark_of (cells_of n least stay moved) x
    → observed ≡ observed_in (is_calibrated mark) (observations (cells_of n 0 stay moved) x)
    → stays ≡ row_of n stay x
    → moves ≡ row_of n moved x
    → Filled (x * width n) n (stay_part stays x observed) l m
    → x * width n + width n ≤ length m
    → t ≡ part_by observed (total_of totals x)
    → f ≡ fallback_by observed
    → Filled (x * width n + (n + 2)) n (moved_part moves observed) (set (set m (x * width n + n) t) (x * width n + (n + 1)) f) e
    → Filled (x * width n) (width n) (system_of (cells_of n least stay moved) (total_of totals) x) l e
row-by-lists n least x mark stay moved totals observed stays moves {l} {m} {e} {t} {f} exact marked is-o is-stay is-moved left long is-t is_f right =
    let u = is_calibrated mark in
    let o = observations (cells_of n 0 stay moved) x in
    let p : (z : ℤ) → part_by observed z ≡ part u z o = λ z. ap (λ b. part_by b z) is-o ∙ parts u o z in
    let at-stay : (k : ℕ) → k < n → get_or stays k 0 ≡ cell_at n stay x k = λ k h. ap (λ r. get_or r k 0) is-stay ∙ row-at n stay x k h in
    let at-moved : (k : ℕ) → k < n → get_or moves k 0 ≡ cell_at n moved x k = λ k h. ap (λ r. get_or r k 0) is-moved ∙ row-at n moved x k h in
    let less : ℕ → Float → Float = λ k q. cond (eqb x k) (sub binary64 one q) (neg q) in
    row-by-parts n least x o mark stay moved totals marked refl
    (part-of-row
    (λ k h. ap (λ c. less k (part_by observed (pos c))) (at-stay k h) ∙ ap (less k) (p (pos (cell_at n stay x k)))) left)
    long
    (is-t ∙ p (total_of totals x))
    (is_f ∙ ap fallback_by is-o ∙ fallbacks u o)
    (part-of-row
    (λ k h. ap (λ c. part_by observed (pos c)) (at-moved k h) ∙ p (pos (cell_at n moved x k))) right)

-- ---- rows one after another

pub rows_more : (x w : ℕ) (A : ℕ → ℕ → Float) (l m e : List Float) → Becomes x w A l m → Filled (x * w) w (A x) m e → Becomes (x + 1) w A l e
rows_more x w A l m e b f =
    record {
      cells = λ r k h g.
          ⊎_elim
          (λ (q : r ≡ x). rw q (f.cells k g))
          (λ (q : r < x). f.elsewhere (r * w + k) (outside-row w r x k (omega arith) g) ∙ b.cells r k q g)
          (eq-or-lt_of_le (omega arith));
      elsewhere = λ i h. f.elsewhere i (inr (omega (arith, next))) ∙ b.elsewhere i (omega (arith, next));
    }
  where
    next : (x + 1) * w ≡ x * w + w
    next = rw add-one (suc-mul x w)

-- ---- the first n marks, each with its number

pub record MarkGiven (n k x : ℕ) (mark : StateStatus) (marks : List StateStatus) : Type 0 where
  pub below : k < n
  pub number-is : x ≡ k
  pub mark-is : mark ≡ mark_at marks k

pub mark-given : {n k x : ℕ} {mark : StateStatus} {marks : List StateStatus}
    → (k < length (take n (enumerate_from 0 marks))) × ((x, mark) ≡ get_or (take n (enumerate_from 0 marks)) k (x, mark)) → MarkGiven n k x mark marks
mark-given {n} {k} {x} {mark} {marks} t =
    let below : k < n = omega (arith, length-take n (enumerate_from 0 marks)) in
    let long : k < length marks = omega (arith, length-take n (enumerate_from 0 marks), length-enumerate_from 0 marks) in
    let e = t.1 ∙ get_or-take n (enumerate_from 0 marks) k (x, mark) below ∙ get_or-enumerate_from 0 marks k (x, mark) long in
    let number : x ≡ 0 + k = ap (λ p. p.0) e in
    record { below = below; number-is = omega arith; mark-is = ap (λ p. p.1) e ∙ get_or_default marks k mark Calibrated long }

pub marks-given : (n : ℕ) (marks : List StateStatus) → n ≤ length marks → length (take n (enumerate_from 0 marks)) ≡ n
marks-given n marks h = omega (arith, length-take n (enumerate_from 0 marks), length-enumerate_from 0 marks)

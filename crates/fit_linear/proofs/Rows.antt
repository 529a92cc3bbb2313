-- One column's steps on flat rows are the steps of the matrix that the rows hold.
use Prim.Native.Nat.{ℕ, ◌+◌, ◌-◌, ◌*◌, ◌<◌, ◌≤◌}
use mathlib.Core.Path.{◌≡◌, refl, sym, ap, ◌∙◌}
use mathlib.Core.Bool.{Bool, true, false, cond}
use mathlib.Core.List.{List, ◌++◌}
use mathlib.Core.Logic.{inr, ⊎_elim}
use native.Mathlib.Nat.{suc-mul, eq-or-lt_of_le}
use native.Mathlib.Numerals.{add-one}
use native.Mathlib.Omega.{arith}
use borrow.Author.Tests.{eqb-true, eqb-false}
use lib.Dec.{eqb}
use lib.Ieee.{Float, nan, binary64, sub, mul, div, eq}
use lib.ListN.{length, get_or-append}
use borrow.Rule.Slice.PartMut.{put_mid}
use Rattle.std.specs.List.{between}
use Rattle.std.proofs.Common.{rules}
use Rattle.std.proofs.lemmas.List.{places}
use Rattle.std.proofs.lemmas.List.Edits.{length-between}
use Rattle.basics.proofs.Tests.{row_in}
use Rattle.floats.specs.Floats.{pos_zero}
use Rattle.floats.proofs.Signs.{Three, less, same, more, three}
use Rattle.fit_linear.specs.Arithmetic.{rounded}
use Rattle.fit_linear.specs.Elimination.{swapped, normalized, cleared, reduced}
use Rattle.fit_linear.specs.Inner.{float_at, rows_of, Becomes, Filled, Swapped}
use Rattle.fit_linear.proofs.Steps.{reduced-own, reduced-other}
use Rattle.fit_linear.proofs.Parts.{outside-row, rows-below, filled-part, part-at}

-- ---- rows cleared

module _ (factor : Float) (row top : ℕ → Float) (k : ℕ) where
  pub cleared-skipped : eq factor pos_zero ≡ true → cleared rounded factor row top k ≡ row k
  unfolding cleared
  cleared-skipped h = rw h

  pub cleared-done : eq factor pos_zero ≡ false → cleared rounded factor row top k ≡ sub binary64 (row k) (mul binary64 factor (top k))
  unfolding cleared
  cleared-done h = rw h

pub rows-none : {w : ℕ} {A : ℕ → ℕ → Float} {l : List Float} → Becomes 0 w A l l
rows-none = record { cells = λ r k h g. absurd (omega arith); elsewhere = λ i h. refl }

-- row r is written
pub rows-more : {w r : ℕ} {A : ℕ → ℕ → Float} {l m m' : List Float} → Becomes r w A l m → Filled (r * w) w (A r) m m' → Becomes (r + 1) w A l m'
rows-more {w} {r} {A} s f =
    record {
      cells = λ q k h g.
          ⊎_elim
          (λ (e : q ≡ r). rw e (f.cells k g))
          (λ (e : q < r). f.elsewhere (q * w + k) (outside-row w q r k (omega arith) g) ∙ s.cells q k e g)
          (eq-or-lt_of_le (omega arith));
      elsewhere = λ i h. f.elsewhere i (inr (omega (arith, next))) ∙ s.elsewhere i (omega (arith, next));
    }
  where
    next : (r + 1) * w ≡ r * w + w
    next = rw add-one (suc-mul r w)

-- row r of n rows that is cleared by a row, a part of its own
pub row-cleared : (w c r : ℕ) {A : ℕ → ℕ → Float} (top : ℕ → Float) {l m : List Float} (part : List Float) → c < w → r * w + w ≤ length m
    → Becomes r w A l m → length part ≡ w
    → ((k : ℕ) → k < length (between (r * w) (r * w + w) m)
    → float_at part k ≡ cleared rounded (float_at (between (r * w) (r * w + w) m) c) (float_at (between (r * w) (r * w + w) m)) top k)
    → Filled (r * w) w (cleared rounded (rows_of w l r c) (rows_of w l r) top) m (put_mid (r * w) w m part)
unfolding cleared
row-cleared w c r {A} top {l} {m} part hc within s e f =
    filled-part (r * w) w m part within e
    (λ k h. f k (rw (length-between m (r * w) (r * w + w) within) (omega arith)) ∙ rw (own c hc, own k h))
  where
    own : (k : ℕ) → k < w → float_at (between (r * w) (r * w + w) m) k ≡ rows_of w l r k
    own k h = part-at (r * w) w k m h ∙ s.elsewhere (r * w + k) (omega arith)

-- ---- two rows that change places

pub swap-cells : (w c p : ℕ) (l m : List Float) → Swapped (c * w) (p * w) w l m → (r k : ℕ) → k < w → rows_of w m r k ≡ swapped rounded (rows_of w l) c p r k
unfolding swapped
swap-cells w c p l m s r k h = go (eqb r c) refl (eqb r p) refl
  where
    go : (a : Bool) → eqb r c ≡ a → (b : Bool) → eqb r p ≡ b → rows_of w m r k ≡ cond a (rows_of w l p k) (cond b (rows_of w l c k) (rows_of w l r k))
    go true e b g = rw (eqb-true r c e) (s.first k h)
    go false e true g = rw (eqb-true r p g) (s.second k h)
    go false e false g = s.elsewhere (r * w + k) (outside-row w r c k (eqb-false r c e) h) (outside-row w r p k (eqb-false r p g) h)

-- ---- the whole column: rows c and p change places, row c is divided, and the rows above it and below it, parts of their own, are cleared by it

-- a list in three parts
module _ (a t : ℕ) (x y z : List Float) (lx : length x ≡ a) (ly : length y ≡ t) where
  in-first : (i : ℕ) → i < a → float_at (x ++ (y ++ z)) i ≡ float_at x i
  in-first i h = get_or-append x (y ++ z) nan i (omega arith)

  in-second : (i : ℕ) → i < t → float_at (x ++ (y ++ z)) (a + i) ≡ float_at y i
  in-second i h = search (rules, places)

  in-third : (i : ℕ) → float_at (x ++ (y ++ z)) (a + t + i) ≡ float_at z i
  in-third i = search (rules, places)

module _ (n w c p : ℕ) (hc : c < n) (hp : p < n) (narrow : n ≤ w) (row row' : List Float) {l m above below above' below' : List Float}
    (s : Swapped (c * w) (p * w) w l m)
    (parts : m ≡ above ++ (row ++ below))
    (long : length above ≡ c * w)
    (wide : length row ≡ w)
    (long' : length above' ≡ c * w)
    (wide' : length row' ≡ w)
    (t : (k : ℕ) → k < length row → float_at row' k ≡ div binary64 (float_at row k) (float_at row c))
    (u : Becomes c w (λ r. cleared rounded (rows_of w above r c) (rows_of w above r) (float_at row')) above above')
    (v : Becomes (n - (c + 1)) w (λ r. cleared rounded (rows_of w below r c) (rows_of w below r) (float_at row')) below below') where
  S : ℕ → ℕ → Float
  S = swapped rounded (rows_of w l) c p

  -- the cells before the clearing
  first : (r k : ℕ) → r < c → k < w → rows_of w above r k ≡ S r k
  unfolding S
  first r k h g =
      let e : r * w + k < c * w = omega (arith, row_in r c w h) in
      sym (in-first (c * w) w above row below long wide (r * w + k) e) ∙ rw (← parts) (swap-cells w c p l m s r k g)

  second : (k : ℕ) → k < w → float_at row k ≡ S c k
  unfolding S
  second k g = sym (in-second (c * w) w above row below long wide k g) ∙ rw (← parts) (swap-cells w c p l m s c k g)

  place : (r k : ℕ) → (c + 1 + r) * w + k ≡ c * w + w + (r * w + k)
  place r k = omega arith

  third : (r k : ℕ) → k < w → rows_of w below r k ≡ S (c + 1 + r) k
  unfolding S
  third r k g =
      sym (in-third (c * w) w above row below long wide (r * w + k))
      ∙ rw (← parts, ← place r k) (swap-cells w c p l m s (c + 1 + r) k g)

  -- the divided row
  own : (k : ℕ) → k < w → float_at row' k ≡ normalized rounded S c k
  own k h = t k (omega arith) ∙ rw (second k h, second c (omega arith))

  pub column-becomes : Becomes n w (reduced rounded (swapped rounded (rows_of w l) c p) c) l (above' ++ (row' ++ below'))
  unfolding cleared S
  column-becomes =
      record {
        cells = λ r k h g. go r k h g (three r c);
        elsewhere = λ i h.
            let j = i - (c * w + w) in
            let e : c * w + w + j ≡ i = omega (arith, row_in c n w hc) in
            rw e at (behind j (omega (arith, rows-below n w c hc)));
      }
    where
      -- what lies behind the n rows
      behind : (j : ℕ) → (n - (c + 1)) * w ≤ j → float_at (above' ++ (row' ++ below')) (c * w + w + j) ≡ float_at l (c * w + w + j)
      behind j h =
          in-third (c * w) w above' row' below' long' wide' j
          ∙ v.elsewhere j h
          ∙ sym (in-third (c * w) w above row below long wide j)
          ∙ rw (← parts)
          (s.elsewhere (c * w + w + j) (inr (omega arith)) (inr (omega (arith, rows-below n w c hc, row_in p n w hp))))

      -- a row below row c
      lower : (r k : ℕ) → c + 1 + r < n → k < w → rows_of w (above' ++ (row' ++ below')) (c + 1 + r) k ≡ reduced rounded S c (c + 1 + r) k
      lower r k h g =
          ap (float_at (above' ++ (row' ++ below'))) (place r k)
          ∙ in-third (c * w) w above' row' below' long' wide' (r * w + k)
          ∙ v.cells r k (omega arith) g
          ∙ rw (third r c (omega arith), third r k g, own k g) (sym (reduced-other rounded S c (c + 1 + r) k (omega arith)))

      go : (r k : ℕ) → r < n → k < w → Three r c → rows_of w (above' ++ (row' ++ below')) r k ≡ reduced rounded S c r k
      go r k h g (same q) = rw q (in-second (c * w) w above' row' below' long' wide' k g ∙ own k g ∙ sym (reduced-own rounded S c k))
      go r k h g (less q) =
          in-first (c * w) w above' row' below' long' wide' (r * w + k) (omega (arith, row_in r c w q))
          ∙ u.cells r k q g
          ∙ rw (first r c q (omega arith), first r k q g, own k g) (sym (reduced-other rounded S c r k (omega arith)))
      go r k h g (more q) =
          let e : c + 1 + (r - (c + 1)) ≡ r = omega arith in
          rw e at (lower (r - (c + 1)) k (omega arith) g)

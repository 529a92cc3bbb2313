-- Parts of a flat list that a loop fills from the first place up.
use Prim.Native.Nat.{ℕ, ◌+◌, ◌-◌, ◌*◌, ◌<◌, ◌≤◌}
use mathlib.Core.Path.{◌≡◌, refl, ap, ◌∙◌}
use mathlib.Core.List.{List}
use mathlib.Core.Logic.{◌≢◌, ◌⊎◌, inl, inr, ⊎_elim}
use mathlib.Core.Bool.{Bool, true, false}
use native.Mathlib.Omega.{arith}
use borrow.Author.Count.{below_more}
use borrow.Author.Tests.{ltb-true, ltb-false}
use lib.Dec.{ltb}
use lib.ListN.{length, set, length-set}
use lib.Seq.{get_or-set_same, get_or-set_other}
use lib.Ieee.{Float, nan}
use borrow.Rule.Slice.PartMut.{put_mid}
use Rattle.std.proofs.Common.{rules}
use Rattle.std.proofs.lemmas.List.{places}
use Rattle.std.proofs.lemmas.List.Edits.{get_or-between, length-between}
use Rattle.std.specs.List.{between, CopiedTo, SameBelow, SameFrom}
use Rattle.basics.proofs.Tests.{le-or-lt, row_in}
use Rattle.fit_linear.specs.Inner.{float_at, from, Outside, Filled, Swapped}

-- ---- rows

-- two rows are apart
pub rows_apart : (w r s : ℕ) → r ≢ s → (r * w + w ≤ s * w) ⊎ (s * w + w ≤ r * w)
rows_apart w r s h = go (ltb r s) refl
  where
    go : (b : Bool) → ltb r s ≡ b → (r * w + w ≤ s * w) ⊎ (s * w + w ≤ r * w)
    go true e = inl (row_in r s w (ltb-true r s e))
    go false e = inr (row_in s r w (omega (arith, ltb-false r s e)))

-- a place of row r is outside row s
pub outside-row : (w r s k : ℕ) → r ≢ s → k < w → Outside (s * w) w (r * w + k)
outside-row w r s k h g = ⊎_elim (λ q. inl (omega arith)) (λ q. inr (omega arith)) (rows_apart w r s h)

-- the rows below row c, the rows above it and row c
pub rows-below : (n w c : ℕ) → c < n → (n - (c + 1)) * w + (c * w + w) ≡ n * w
rows-below n w c h = let all : n - (c + 1) + (c + 1) ≡ n = omega arith in go (n - (c + 1)) ∙ ap (λ x. x * w) all
  where
    go : (d : ℕ) → d * w + (c * w + w) ≡ (d + (c + 1)) * w
    go d = omega arith

-- ---- one part

pub filled_none : {base : ℕ} {v : ℕ → Float} {l : List Float} → Filled base 0 v l l
filled_none = record { cells = λ k h. absurd (omega arith); elsewhere = λ i h. refl }

module _ {base k : ℕ} {v : ℕ → Float} {l m : List Float} (f : Filled base k v l m) where
  -- places from k on are not written yet
  pub filled-ahead : (i : ℕ) → base + k ≤ i → float_at m i ≡ float_at l i
  filled-ahead i h = f.elsewhere i (inr h)

  pub filled_more : (x : Float) → base + k < length m → x ≡ v k → Filled base (k + 1) v l (set m (base + k) x)
  filled_more x h e =
      record {
        cells =
            below_more (λ j. from base (set m (base + k) x) j ≡ v j) k
            (λ j g. let d : base + j ≢ base + k = omega arith in get_or-set_other m (base + k) (base + j) x nan d ∙ f.cells j g)
            (get_or-set_same m (base + k) x nan h ∙ e);
        elsewhere = λ i g.
            let d : i ≢ base + k = ⊎_elim (λ q. omega arith) (λ q. omega arith) g in
            get_or-set_other m (base + k) i x nan d ∙ f.elsewhere i (⊎_elim (λ q. inl q) (λ q. inr (omega arith)) g);
      }

-- a loop over n places from base on, of which k are filled
pub record Filling (base n : ℕ) (v : ℕ → Float) (before : List Float) (k : ℕ) (after : List Float) : Type 0 where
  pub most : k ≤ n
  pub same_length : length after ≡ length before
  pub part : Filled base k v before after

module _ {base n k : ℕ} {v : ℕ → Float} {l m : List Float} (f : Filling base n v l k m) where
  pub filling-ahead : (i : ℕ) → base + k ≤ i → float_at m i ≡ float_at l i
  filling-ahead i h = filled-ahead f.part i h

  pub filling-more : (x : Float) → k < n → base + n ≤ length l → x ≡ v k → Filling base n v l (k + 1) (set m (base + k) x)
  filling-more x h enough e =
      record {
        most = omega arith;
        same_length = length-set m (base + k) x ∙ f.same_length;
        part = filled_more f.part x (omega (arith, f.same_length)) e;
      }

-- ---- a list that a loop writes from the first place up

-- the first k places hold the first k of a vector
pub record Rewriting (v : ℕ → Float) (before : List Float) (k : ℕ) (after : List Float) : Type 0 where
  pub done : (j : ℕ) → j < k → float_at after j ≡ v j
  pub ahead : (j : ℕ) → k ≤ j → float_at after j ≡ float_at before j

-- ---- a part that is written at once

module _ (base n : ℕ) (l part : List Float) (within : base + n ≤ length l) (as_long : length part ≡ n) where
  put-before : (i : ℕ) → i < base → float_at (put_mid base n l part) i ≡ float_at l i
  put-before i h = search (rules, places)

  put-in : (k : ℕ) → k < n → from base (put_mid base n l part) k ≡ float_at part k
  put-in k h = search (rules, places)

  put-behind : (i : ℕ) → base + n ≤ i → float_at (put_mid base n l part) i ≡ float_at l i
  put-behind i h = search (rules, places)

  pub filled-part : {v : ℕ → Float} → ((k : ℕ) → k < n → float_at part k ≡ v k) → Filled base n v l (put_mid base n l part)
  filled-part c = record { cells = λ k h. put-in k h ∙ c k h; elsewhere = λ i h. ⊎_elim (put-before i) (put-behind i) h }

-- what a part of a list holds
pub part-at : (base n k : ℕ) (l : List Float) → k < n → float_at (between base (base + n) l) k ≡ from base l k
part-at base n k l h = get_or-between l base (base + n) k nan (omega arith)

-- a part of which each float is made into another
pub mapped-part : (f : Float → Float) (base n : ℕ) (l part : List Float) → base + n ≤ length l → length part ≡ n
    → ((k : ℕ) → k < length (between base (base + n) l) → float_at part k ≡ f (float_at (between base (base + n) l) k))
    → Filled base n (λ k. f (from base l k)) l (put_mid base n l part)
mapped-part f base n l part h e c =
    filled-part base n l part h e (λ k g. c k (rw (length-between l base (base + n) h) (omega arith)) ∙ ap f (part-at base n k l g))

-- a part copied from another place
pub copied-part : {l m : List Float} (a to n : ℕ) → CopiedTo l m a to n → SameBelow l m to → SameFrom l m (to + n) → Filled to n (from a l) l m
copied-part {l} a to n c b f =
    record {
      cells = λ k h.
          let e : to + k - to ≡ k = omega arith in
          rw e at (c (to + k) nan (omega arith) (omega arith));
      elsewhere = λ i h. ⊎_elim (b i nan) (f i nan) h;
    }

-- a part of k and the n after it
pub filled-after : {base k n : ℕ} {v : ℕ → Float} {l m m' : List Float} → Filled base k v l m → Filled (base + k) n (λ j. v (k + j)) m m'
    → Filled base (k + n) v l m'
filled-after {base} {k} {n} {v} {l} {m} {m'} f g =
    record {
      cells = λ j h.
          ⊎_elim
          (λ (q : k ≤ j).
          let e : k + (j - k) ≡ j = omega arith in
          let i : base + k + (j - k) ≡ base + j = omega arith in
          rw (e, i) at (g.cells (j - k) (omega arith)))
          (λ (q : j < k). g.elsewhere (base + j) (inl (omega arith)) ∙ f.cells j q)
          (le-or-lt k j);
      elsewhere = λ i h.
          g.elsewhere i (⊎_elim (λ q. inl (omega arith)) (λ q. inr (omega arith)) h)
          ∙ f.elsewhere i (⊎_elim (λ q. inl q) (λ q. inr (omega arith)) h);
    }

-- ---- two parts that change places

module _ {a b w k : ℕ} {l m : List Float} (apart : (a + w ≤ b) ⊎ (b + w ≤ a)) (less : k < w) (s : Swapped a b k l m) where
  pub swapped-more : a + k < length m → b + k < length m → Swapped a b (k + 1) l (set (set m (a + k) (from b m k)) (b + k) (from a m k))
  swapped-more la lb =
      record {
        first =
            below_more (λ j. from a m₂ j ≡ from b l j) k
            (λ j h. keep (a + j) (⊎_elim (λ q. omega arith) (λ q. omega arith) apart) (omega arith) ∙ s.first j h)
            (get_or-set_other m₁ (b + k) (a + k) (from a m k) nan (⊎_elim (λ q. omega arith) (λ q. omega arith) apart)
            ∙ get_or-set_same m (a + k) (from b m k) nan la
            ∙ s.elsewhere (b + k) (⊎_elim (λ q. inr (omega arith)) (λ q. inl (omega arith)) apart) (inr (omega arith)));
        second =
            below_more (λ j. from b m₂ j ≡ from a l j) k
            (λ j h. keep (b + j) (omega arith) (⊎_elim (λ q. omega arith) (λ q. omega arith) apart) ∙ s.second j h)
            (get_or-set_same m₁ (b + k) (from a m k) nan (omega (arith, lb, length-set m (a + k) (from b m k)))
            ∙ s.elsewhere (a + k) (inr (omega arith)) (⊎_elim (λ q. inl (omega arith)) (λ q. inr (omega arith)) apart));
        elsewhere = λ i h g.
            keep i (⊎_elim (λ q. omega arith) (λ q. omega arith) g) (⊎_elim (λ q. omega arith) (λ q. omega arith) h)
            ∙ s.elsewhere i (⊎_elim (λ q. inl q) (λ q. inr (omega arith)) h) (⊎_elim (λ q. inl q) (λ q. inr (omega arith)) g);
      }
    where
      m₁ : List Float
      m₁ = set m (a + k) (from b m k)

      m₂ : List Float
      m₂ = set m₁ (b + k) (from a m k)

      keep : (i : ℕ) → i ≢ b + k → i ≢ a + k → float_at m₂ i ≡ float_at m i
      keep i p q = get_or-set_other m₁ (b + k) i (from a m k) nan p ∙ get_or-set_other m (a + k) i (from b m k) nan q

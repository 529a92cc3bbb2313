-- What stands in a list after stores: two changes at one place or at two, several stores in a row, a list filled from the front.
use Prim.Native.Nat.{ℕ, zero, suc, ◌+◌, ◌<◌, ◌≤◌}
use mathlib.Core.Path.{◌≡◌, refl, sym, ap, ◌∙◌}
use mathlib.Core.Logic.{◌≢◌}
use mathlib.Core.List.{List, [], ◌∷◌, ◌++◌, append-nil}
use native.Mathlib.Omega.{arith}
use borrow.Author.Count.{below_more}
use lib.ListN.{length, get_or, set, replicate, drop_of_length-le, length-set, length-replicate, get_or-replicate}
use lib.Seq.{sets, sets-eq, ext_get_or, get_or-set_same, get_or-set_other, lt-length-set}

-- ---- two changes

module _ {A : Type 0} (d : A) (f g : A → A) (l : List A) where
  abbrev pub once : ℕ → List A
  once a = set l a (f (get_or l a d))

  abbrev pub twice : ℕ → ℕ → List A
  twice a b = set (once a) b (g (get_or (once a) b d))

  pub at_same : (a : ℕ) → a < length l → get_or (twice a a) a d ≡ g (f (get_or l a d))
  at_same a h = get_or-set_same (once a) a _ d (lt-length-set l a _ h) ∙ ap g (get_or-set_same l a _ d h)

  pub at_first : (a b : ℕ) → a < length l → a ≢ b → get_or (twice a b) a d ≡ f (get_or l a d)
  at_first a b h n = get_or-set_other (once a) b a _ d n ∙ get_or-set_same l a _ d h

  pub at_second : (a b : ℕ) → b < length l → b ≢ a → get_or (twice a b) b d ≡ g (get_or l b d)
  at_second a b h n = get_or-set_same (once a) b _ d (lt-length-set l a _ h) ∙ ap g (get_or-set_other l a b _ d n)

-- ---- several stores, from place i on

module _ {A : Type 0} where
  pub sets-append : (xs ys l : List A) (i : ℕ) → sets l i (xs ++ ys) ≡ sets (sets l i xs) (i + length xs) ys
  sets-append [] ys l i = ap (λ (k : ℕ). sets l k ys) (omega arith)
  sets-append (x ∷ xs) ys l i = sets-append xs ys (set l i x) (suc i) ∙ ap (λ (k : ℕ). sets (sets (set l i x) (suc i) xs) k ys) (omega arith)

  -- stores from the start to the end leave nothing of what was there
  pub sets-whole : (xs l : List A) → length xs ≡ length l → sets l 0 xs ≡ xs
  sets-whole xs l e = sets-eq xs l 0 (omega arith) ∙ ap (λ (r : List A). xs ++ r) (drop_of_length-le l {i = 0 + length xs} (omega arith)) ∙ append-nil xs

module _ {A : Type 0} (d : A) where
  -- places outside the stores stay
  pub sets_below : (vs l : List A) (i j : ℕ) → j < i → get_or (sets l i vs) j d ≡ get_or l j d
  sets_below [] l i j h = refl
  sets_below (v ∷ vs) l i j h = sets_below vs (set l i v) (suc i) j (omega arith) ∙ get_or-set_other l i j v d (λ e. omega arith)

  pub sets-above : (vs l : List A) (i j : ℕ) → i + length vs ≤ j → get_or (sets l i vs) j d ≡ get_or l j d
  sets-above [] l i j h = refl
  sets-above (v ∷ vs) l i j h = sets-above vs (set l i v) (suc i) j (omega arith) ∙ get_or-set_other l i j v d (λ e. omega arith)

  -- and the stores can be read
  pub sets-at : (vs l : List A) (i k : ℕ) → k < length vs → i + length vs ≤ length l → get_or (sets l i vs) (i + k) d ≡ get_or vs k d
  sets-at [] l i k h r = absurd (omega arith)
  sets-at (v ∷ vs) l i zero h r =
      ap (λ (j : ℕ). get_or (sets (set l i v) (suc i) vs) j d) (let e : i + 0 ≡ i = omega arith in e)
      ∙ sets_below vs (set l i v) (suc i) i (omega arith)
      ∙ get_or-set_same l i v d (omega arith)
  sets-at (v ∷ vs) l i (suc k) h r =
      ap (λ (j : ℕ). get_or (sets (set l i v) (suc i) vs) j d) (let e : i + suc k ≡ suc i + k = omega arith in e)
      ∙ sets-at vs (set l i v) (suc i) k (omega arith) (omega (arith, length-set l i v))

-- ---- a list filled from the front

-- by a function of the place: what stands below i, and one more
pub filled-by : {A : Type 0} (f : ℕ → A) (l : List A) (i : ℕ) (v d : A) → i < length l → v ≡ f i → ((k : ℕ) → k < i → get_or l k d ≡ f k) → (k : ℕ) → k < i + 1
    → get_or (set l i v) k d ≡ f k
filled-by f l i v d h e below =
    below_more (λ k. get_or (set l i v) k d ≡ f k) i (λ k b. get_or-set_other l i k v d (λ q. omega arith) ∙ below k b)
    (get_or-set_same l i v d h ∙ e)

-- one value at every place
pub filled : {A : Type 0} (l : List A) (v d : A) → ((k : ℕ) → k < length l → get_or l k d ≡ v) → l ≡ replicate (length l) v
filled l v d all =
    ext_get_or d l (replicate (length l) v) (sym (length-replicate (length l) v))
    (λ k h. all k h ∙ sym (get_or-replicate (length l) k v d h))

-- x places hold f's values, the places after them are as they were
pub record Stored {A : Type 0} (d : A) (f : ℕ → A) (x : ℕ) (before after : List A) : Type 0 where
  pub same_length : length after ≡ length before
  pub done : (i : ℕ) → i < x → get_or after i d ≡ f i
  pub rest : (i : ℕ) → x ≤ i → get_or after i d ≡ get_or before i d

pub stored-none : {A : Type 0} (d : A) (f : ℕ → A) (l : List A) → Stored d f 0 l l
stored-none d f l = record { same_length = refl; done = λ i h. absurd (omega arith); rest = λ i h. refl }

-- one value at every place
pub stored-all : {A : Type 0} (d v : A) (x : ℕ) (before after : List A) → Stored d (λ i. v) x before after → length before ≤ x
    → after ≡ replicate (length before) v
stored-all d v x before after s h =
    let e = filled after v d (λ i g. s.done i (omega (arith, s.same_length))) in
    rw s.same_length at e

pub stored_more : {A : Type 0} (d : A) (f : ℕ → A) (x : ℕ) (v : A) (before l : List A) → Stored d f x before l → x < length l → v ≡ f x
    → Stored d f (x + 1) before (set l x v)
stored_more d f x v before l s h e =
    record {
      same_length = length-set l x v ∙ s.same_length;
      done = filled-by f l x v d h e s.done;
      rest = λ i g. get_or-set_other l x i v d (λ q. omega arith) ∙ s.rest i (omega arith);
    }

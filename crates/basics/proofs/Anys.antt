-- Whether an element of a list passes a test, by the places of the list and after stores into it.
use mathlib.Core.Path.{◌≡◌, refl, sym, ◌∙◌, ap}
use mathlib.Core.Bool.{Bool, true, false, ◌||◌, or-false, or-true}
use mathlib.Core.List.{List, [], ◌∷◌}
use Prim.Native.Nat.{ℕ, zero, suc, ◌<◌, suc-le-suc}
use native.Mathlib.Nat.{not-suc-le-zero, le_of_suc-le-suc, zero-lt-suc}
use native.Mathlib.Decide.{ℕ_discrete}
use lib.ListN.{length, get_or, set, replicate, length-set}
use lib.Seq.{get_or-set_other}
use Rattle.basics.specs.Lists.{any}
use Rattle.basics.proofs.Tests.{neither}

module _ {A : Type 0} (p : A → Bool) where
  pub any-replicate : (x : A) (n : ℕ) → p x ≡ false → any p (replicate n x) ≡ false
  any-replicate x zero e = refl
  any-replicate x (suc n) e = rw e (any-replicate x n e)

  -- after a store into a list with none, only what was stored can be one
  pub any-one : (l : List A) (k : ℕ) (a : A) → any p l ≡ false → k < length l → any p (set l k a) ≡ p a
  any-one [] k a e h = absurd (not-suc-le-zero h)
  any-one (x ∷ xs) zero a e h = rw (neither (p x) (any p xs) e).1 (or-false (p a))
  any-one (x ∷ xs) (suc k) a e h =
      let n = neither (p x) (any p xs) e in
      rw n.0 (any-one xs k a n.1 (le_of_suc-le-suc h))

  module _ (d : A) where
    pub any-hit : (l : List A) (i : ℕ) → i < length l → p (get_or l i d) ≡ true → any p l ≡ true
    any-hit [] i h e = absurd (not-suc-le-zero h)
    any-hit (x ∷ xs) zero h e = rw e
    any-hit (x ∷ xs) (suc i) h e = rw (any-hit xs i (le_of_suc-le-suc h) e) (or-true (p x))

    pub any_none : (l : List A) → ((i : ℕ) → i < length l → p (get_or l i d) ≡ false) → any p l ≡ false
    any_none [] f = refl
    any_none (x ∷ xs) f = rw (f zero (zero-lt-suc (length xs))) (any_none xs (λ i h. f (suc i) (suc-le-suc h)))

    pub none-at : (l : List A) → any p l ≡ false → (i : ℕ) → i < length l → p (get_or l i d) ≡ false
    none-at [] e i h = absurd (not-suc-le-zero h)
    none-at (x ∷ xs) e zero h = (neither (p x) (any p xs) e).0
    none-at (x ∷ xs) e (suc i) h = none-at xs (neither (p x) (any p xs) e).1 i (le_of_suc-le-suc h)

    -- after two stores into a list with none, only those two places can have one
    pub any-two : (l : List A) → any p l ≡ false → (j k : ℕ) (a b : A) → j < length l → k < length l
        → any p (set (set l j a) k b) ≡ (p (get_or (set (set l j a) k b) j d) || p (get_or (set (set l j a) k b) k d))
    any-two l e j k a b hj hk = go (p (get_or m j d)) refl (p (get_or m k d)) refl
      where
        m : List A
        m = set (set l j a) k b

        long : length m ≡ length l
        long = length-set (set l j a) k b ∙ length-set l j a

        other : (i : ℕ) → i < length l → Dec (i ≡ j) → Dec (i ≡ k) → p (get_or m j d) ≡ false → p (get_or m k d) ≡ false → p (get_or m i d) ≡ false
        other i h (yes u) v f g = ap (λ (n : ℕ). p (get_or m n d)) u ∙ f
        other i h (no u) (yes v) f g = ap (λ (n : ℕ). p (get_or m n d)) v ∙ g
        other i h (no u) (no v) f g =
            ap p (get_or-set_other (set l j a) k i b d v ∙ get_or-set_other l j i a d u) ∙ none-at l e i h

        go : (x : Bool) → p (get_or m j d) ≡ x → (y : Bool) → p (get_or m k d) ≡ y → any p m ≡ (p (get_or m j d) || p (get_or m k d))
        go true f y g = any-hit m j (rw long hj) f ∙ sym (ap (λ (t : Bool). t || p (get_or m k d)) f)
        go false f true g = any-hit m k (rw long hk) g ∙ sym (λ u. f u || g u)
        go false f false g =
            any_none m (λ i h. other i (rw long at h) (ℕ_discrete i j) (ℕ_discrete i k) f g) ∙ sym (λ u. f u || g u)

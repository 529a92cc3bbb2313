-- Marking is a function. Where there is a path, there is one of at most as many steps as there are states: so it is decided whether there is one, and each
-- state has one mark.
use mathlib.Core.Path.{◌≡◌, refl, sym, ◌∙◌}
use mathlib.Core.Bool.{Bool, true, false, not, ◌&&◌, cond, or-true, false≢true}
use mathlib.Core.List.{List}
use mathlib.Core.Logic.{◌⊎◌, inl, inr, ⊎_elim}
use Prim.Native.Nat.{ℕ, zero, suc, ◌<◌}
use native.Mathlib.Omega.{arith}
use borrow.Author.Tests.{not-true, ltb-true, lt-ltb, leb-true, leb-false, le-leb, lt-leb}
use lib.Dec.{ltb}
use Rattle.basics.proofs.Tests.{both, either, yes_or_no, fails}
use Rattle.model.specs.declared.StateStatus.{StateStatus}
use Rattle.model.specs.declared.StateStatus.TheVariants as Status
use Rattle.fit_marking.specs.Below.{some_to}
use Rattle.fit_marking.specs.Inner.{count_to}
use Rattle.fit_marking.specs.Marks.{Cells, observations, Rare, NotRare, Reaches, here, via, Says, Marked, not_rare, reaches_in, mark_of, mark_at}
use Rattle.fit_marking.proofs.Below.{some_at, some-found, some-not, count_less, count_most}

module _ (C : Cells) where
  -- a path whose first step goes on to one of at most k
  abbrev onward : ℕ → ℕ → Bool
  onward k i = not_rare C i && some_to C.states (λ j. ltb 0 (C.stay i j) && reaches_in C k j)

  onward-found : (k i : ℕ) → onward k i ≡ true → (j : ℕ) × NotRare C i × (j < C.states) × (0 < C.stay i j) × (reaches_in C k j ≡ true)
  onward-found k i h =
      let a = both (not_rare C i) (some_to C.states (λ j. ltb 0 (C.stay i j) && reaches_in C k j)) h in
      let w = some-found C.states (λ j. ltb 0 (C.stay i j) && reaches_in C k j) a.1 in
      let b = both (ltb 0 (C.stay i w.0)) (reaches_in C k w.0) w.2 in
      (w.0, leb-true _ _ a.0, w.1, ltb-true _ _ b.0, b.1)

  onward-at : (k i j : ℕ) → NotRare C i → j < C.states → 0 < C.stay i j → reaches_in C k j ≡ true → onward k i ≡ true
  onward-at k i j a l m t =
      let u : ltb 0 (C.stay i j) && reaches_in C k j ≡ true = rw (lt-ltb _ _ m, t) in
      rw (le-leb _ _ a, some_at C.states (λ j. ltb 0 (C.stay i j) && reaches_in C k j) j l u)

  grows : (k i : ℕ) → reaches_in C k i ≡ true → reaches_in C (suc k) i ≡ true
  unfolding reaches_in
  grows k i h = rw h

  goes_on : (k i : ℕ) → onward k i ≡ true → reaches_in C (suc k) i ≡ true
  unfolding reaches_in
  goes_on k i h = rw h (or-true (reaches_in C k i))

  last_step : (k i : ℕ) → reaches_in C (suc k) i ≡ true → (reaches_in C k i ≡ true) ⊎ (onward k i ≡ true)
  unfolding reaches_in
  last_step k i h = either (reaches_in C k i) (onward k i) h

  no_steps : (i : ℕ) → reaches_in C 0 i ≡ true → Reaches C i
  unfolding reaches_in
  no_steps i h =
      let a = both (not_rare C i) (some_to C.states (λ j. ltb 0 (C.moved i j))) h in
      let w = some-found C.states (λ j. ltb 0 (C.moved i j)) a.1 in
      here w.0 (leb-true _ _ a.0) w.1 (ltb-true _ _ w.2)

  moves : (i j : ℕ) → NotRare C i → j < C.states → 0 < C.moved i j → reaches_in C 0 i ≡ true
  unfolding reaches_in
  moves i j a l m = rw (le-leb _ _ a, some_at C.states (λ j. ltb 0 (C.moved i j)) j l (lt-ltb _ _ m))

  pub path-of : (k i : ℕ) → reaches_in C k i ≡ true → Reaches C i
  path-of zero i h = no_steps i h
  path-of (suc k) i h =
      elim (last_step k i h) [
        | inl e ↦ path-of k i e
        | inr e ↦ let w = onward-found k i e in via w.0 w.1 w.2 w.3 (path-of k w.0 w.4)
      ]

  -- no state is reached by one step more
  abbrev Still : ℕ → Type 0
  Still k = (j : ℕ) → j < C.states → reaches_in C (suc k) j ≡ true → reaches_in C k j ≡ true

  still-on : (k : ℕ) → Still k → Still (suc k)
  still-on k s j l h =
      elim (last_step (suc k) j h) [
        | inl e ↦ e
        | inr e ↦ let w = onward-found (suc k) j e in goes_on k j (onward-at k j w.0 w.1 w.2 w.3 (s w.0 w.2 w.4))
      ]

  abbrev new : ℕ → ℕ → Bool
  new k j = reaches_in C (suc k) j && not (reaches_in C k j)

  more-reached : (k : ℕ) → Still k ⊎ (count_to C.states (reaches_in C k) < count_to C.states (reaches_in C (suc k)))
  more-reached k =
      elim (yes_or_no (some_to C.states (new k))) [
        | inl t ↦
            let w = some-found C.states (new k) t in
            let b = both (reaches_in C (suc k) w.0) (not (reaches_in C k w.0)) w.2 in
            inr (count_less C.states (reaches_in C k) (reaches_in C (suc k)) w.0 (λ j l g. grows k j g) w.1 (not-true _ b.1) b.0)
        | inr f ↦ inl (λ j l h. old (reaches_in C (suc k) j) (reaches_in C k j) (some-not C.states (new k) f j l) h)
      ]
    where
      old : (a b : Bool) → a && not b ≡ false → a ≡ true → b ≡ true
      old true true e h = refl
      old true false e h = sym e
      old false b e h = absurd (false≢true h)

  -- each step reaches one state more at least, until no step does
  still-or : (k : ℕ) → Still k ⊎ (k < count_to C.states (reaches_in C (suc k)))
  still-or zero = ⊎_elim inl (λ g. inr (omega arith)) (more-reached 0)
  still-or (suc k) =
      elim (still-or k) [
        | inl s ↦ inl (still-on k s)
        | inr l ↦ ⊎_elim inl (λ g. inr (omega arith)) (more-reached (suc k))
      ]

  still : Still C.states
  still = ⊎_elim (λ s. s) (λ l. absurd (let m = count_most C.states (reaches_in C (suc C.states)) in omega arith)) (still-or C.states)

  first : (k i : ℕ) → reaches_in C 0 i ≡ true → reaches_in C k i ≡ true
  first zero i h = h
  first (suc k) i h = grows k i (first k i h)

  pub path-in : (i : ℕ) → i < C.states → Reaches C i → reaches_in C C.states i ≡ true
  path-in i l (here j a g m) = first C.states i (moves i j a g m)
  path-in i l (via j a g m r) = still i l (goes_on C.states i (onward-at C.states i j a g m (path-in j g r)))

  -- there is a path from i, or there is none
  pub decided : (i : ℕ) → i < C.states → Reaches C i ⊎ (Reaches C i → ⊥)
  decided i l =
      elim (yes_or_no (reaches_in C C.states i)) [
        | inl t ↦ inl (path-of C.states i t)
        | inr f ↦ inr (λ r. false≢true (sym f ∙ path-in i l r))
      ]

  -- ---- each state has one mark

  pub is-rare : (i : ℕ) → Rare C i → mark_of C i ≡ Status.Rare
  unfolding mark_of
  is-rare i h = rw (lt-leb _ _ h)

  pub is-calibrated : (i : ℕ) → i < C.states → NotRare C i → Reaches C i → mark_of C i ≡ Status.Calibrated
  unfolding mark_of
  is-calibrated i l h r = λ t. cond (le-leb C.least (observations C i) h t) (cond (path-in i l r t) Status.Calibrated Status.NoPriceMove) Status.Rare

  pub is_none : (i : ℕ) → i < C.states → NotRare C i → (Reaches C i → ⊥) → mark_of C i ≡ Status.NoPriceMove
  unfolding mark_of
  is_none i l h n = λ t. cond (le-leb C.least (observations C i) h t) (cond (none t) Status.Calibrated Status.NoPriceMove) Status.Rare
    where
      none : reaches_in C C.states i ≡ false
      none = fails (reaches_in C C.states i) (λ t. n (path-of C.states i t))

  pub mark-says : (i : ℕ) → i < C.states → Says C i (mark_of C i)
  mark-says i l =
      elim (yes_or_no (not_rare C i)) [
        | inr f ↦ let r = leb-false _ _ f in rw (is-rare i r) r
        | inl t ↦
            let k : NotRare C i = leb-true _ _ t in
            elim (decided i l) [
              | inl p ↦ rw (is-calibrated i l k p) (k, p)
              | inr n ↦ rw (is_none i l k n) (k, n)
            ]
      ]

  pub mark-only : (i : ℕ) → i < C.states → (m : StateStatus) → Says C i m → mark_of C i ≡ m
  mark-only i l Status.Calibrated s = is-calibrated i l s.0 s.1
  mark-only i l Status.Rare s = is-rare i s
  mark-only i l Status.NoPriceMove s = is_none i l s.0 s.1
  mark-only i l Status.OutsideQuotes s = absurd s

  -- what marking leaves, by the function
  pub marked-is : (before after : List StateStatus) → Marked C before after → (i : ℕ) → i < C.states → mark_at after i ≡ mark_of C i
  marked-is before after M i l = sym (mark-only i l (mark_at after i) (M.marks i l))

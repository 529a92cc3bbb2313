-- Cells that equal their mirrors' give a state and its mirror the same observations and the same mark.
use mathlib.Core.Path.{◌≡◌, refl, sym, ap, ◌∙◌}
use mathlib.Core.Bool.{Bool, true, cond}
use Prim.Native.Nat.{ℕ, zero, suc, ◌+◌, ◌<◌}
use borrow.Author.Tests.{eqb-true, eq-eqb, ne_eqb}
use lib.Dec.{eqb}
use Rattle.basics.specs.Lists.{tab, sum}
use Rattle.basics.proofs.Tests.{eqb_same, same_test}
use Rattle.basics.proofs.Lists.{sum-tab-add, sum-tab-zero, sum-tab-one}
use Rattle.model.specs.declared.StateStatus.{StateStatus}
use Rattle.model.specs.declared.StateStatus.TheVariants as Status
use Rattle.fit_marking.specs.Below.{sum_to}
use Rattle.fit_marking.specs.Marks.{Cells, observations, NotRare, Reaches, here, via, Says, mark_of}
use Rattle.fit_marking.specs.Mirror.{CellsMirror}
use Rattle.fit_marking.proofs.Below.{sum_same}
use Rattle.fit_marking.proofs.Decided.{mark-says, mark-only}

-- ---- a sum in the mirror's order

sum-swap : (n m : ℕ) (g : ℕ → ℕ → ℕ) → sum_to n (λ j. sum_to m (g j)) ≡ sum_to m (λ k. sum_to n (λ j. g j k))
unfolding sum_to
sum-swap zero m g = sym (sum-tab-zero m (λ k. 0) (λ k h. refl))
sum-swap (suc n) m g =
    ap (λ (s : ℕ). sum (tab m (g 0)) + s) (sum-swap n m (λ j. g (suc j)))
    ∙ sym (sum-tab-add m (g 0) (λ k. sum (tab n (λ j. g (suc j) k))))

-- the sum that takes f at a alone
pick : (n a : ℕ) (f : ℕ → ℕ) → a < n → sum_to n (λ k. cond (eqb k a) (f k) 0) ≡ f a
unfolding sum_to
pick n a f h = sum-tab-one n (λ k. cond (eqb k a) (f k) 0) a h (λ m l d. rw (ne_eqb m a d)) ∙ rw (eqb_same a)

module _ (C : Cells) (mirror : ℕ → ℕ) (M : CellsMirror C mirror) where
  turned : (j k : ℕ) → j < C.states → k < C.states → eqb j (mirror k) ≡ eqb k (mirror j)
  turned j k a b = same_test (eqb j (mirror k)) (eqb k (mirror j)) (go j k b) (go k j a)
    where
      go : (j k : ℕ) → k < C.states → eqb j (mirror k) ≡ true → eqb k (mirror j) ≡ true
      go j k b t = eq-eqb _ _ (sym (M.mirror-twice k b) ∙ ap mirror (sym (eqb-true _ _ t)))

  sum-mirrored : (f : ℕ → ℕ) → sum_to C.states (λ k. f (mirror k)) ≡ sum_to C.states f
  sum-mirrored f =
      let N = C.states in
      sum_same N (λ k. f (mirror k)) (λ k. sum_to N (λ j. cond (eqb j (mirror k)) (f j) 0)) (λ k h. sym (pick N (mirror k) f (M.mirror-below k h)))
      ∙ sum-swap N N (λ k j. cond (eqb j (mirror k)) (f j) 0)
      ∙ sum_same N (λ j. sum_to N (λ k. cond (eqb j (mirror k)) (f j) 0)) f
      (λ j h. sum_same N (λ k. cond (eqb j (mirror k)) (f j) 0) (λ k. cond (eqb k (mirror j)) (f j) 0)
      (λ k g. ap (λ (b : Bool). cond b (f j) 0) (turned j k h g))
      ∙ pick N (mirror j) (λ k. f j) (M.mirror-below j h))

  pub observations-mirrored : (i : ℕ) → i < C.states → observations C (mirror i) ≡ observations C i
  unfolding observations
  observations-mirrored i h =
      let a = sym (sum-mirrored (C.stay (mirror i)))
      ∙ sum_same C.states (λ j. C.stay (mirror i) (mirror j)) (C.stay i) (λ j g. M.stay-mirrored i j h g) in
      let b = sym (sum-mirrored (C.moved (mirror i)))
      ∙ sum_same C.states (λ j. C.moved (mirror i) (mirror j)) (C.moved i) (λ j g. M.moved-mirrored i j h g) in
      rw (a, b)

  not-rare-mirrored : (i : ℕ) → i < C.states → NotRare C i → NotRare C (mirror i)
  not-rare-mirrored i h k = rw (observations-mirrored i h) k

  pub path-mirrored : (i : ℕ) → i < C.states → Reaches C i → Reaches C (mirror i)
  path-mirrored i h (here j k l p) = here (mirror j) (not-rare-mirrored i h k) (M.mirror-below j l) (rw (M.moved-mirrored i j h l) p)
  path-mirrored i h (via j k l p q) = via (mirror j) (not-rare-mirrored i h k) (M.mirror-below j l) (rw (M.stay-mirrored i j h l) p) (path-mirrored j l q)

  path-back : (i : ℕ) → i < C.states → Reaches C (mirror i) → Reaches C i
  path-back i h r = rw (M.mirror-twice i h) at (path-mirrored (mirror i) (M.mirror-below i h) r)

  says-mirrored : (i : ℕ) → i < C.states → (m : StateStatus) → Says C i m → Says C (mirror i) m
  says-mirrored i h Status.Calibrated s = (not-rare-mirrored i h s.0, path-mirrored i h s.1)
  says-mirrored i h Status.Rare s = rw (observations-mirrored i h) s
  says-mirrored i h Status.NoPriceMove s = (not-rare-mirrored i h s.0, λ r. s.1 (path-back i h r))
  says-mirrored i h Status.OutsideQuotes s = s

  pub mark-mirrored : (i : ℕ) → i < C.states → mark_of C (mirror i) ≡ mark_of C i
  mark-mirrored i h = mark-only C (mirror i) (M.mirror-below i h) (mark_of C i) (says-mirrored i h (mark_of C i) (mark-says C i h))

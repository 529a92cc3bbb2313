-- Marks that start by the states' own rows, change by single states that are freed, and are closed, say what is so of every path.
use mathlib.Core.Path.{◌≡◌, refl, sym, ◌∙◌}
use mathlib.Core.Bool.{true, false, false≢true}
use mathlib.Core.List.{List}
use mathlib.Core.Logic.{inl, inr}
use Prim.Native.Nat.{ℕ, ◌<◌, ◌≤◌}
use native.Mathlib.Omega.{arith}
use native.Mathlib.Decide.{ℕ_discrete}
use borrow.Author.Tests.{lt-ltb, ltb-true, ltb-false}
use lib.Dec.{ltb}
use lib.ListN.{length}
use Rattle.basics.proofs.Tests.{both, yes_or_no}
use Rattle.model.specs.Status.{is_calibrated}
use Rattle.model.specs.declared.StateStatus.{StateStatus}
use Rattle.model.specs.declared.StateStatus.TheVariants as Status
use Rattle.basics.specs.Lists.{cell_at}
use Rattle.fit_marking.specs.Marks.{Cells, cells_of, observations, Rare, NotRare, Reaches, here, via, Says, Marked, mark_at}
use Rattle.fit_marking.specs.Inner.{has_positive, leads_to, first_mark, FirstMarks, Freed, Led, none, more, Closed}
use Rattle.fit_marking.proofs.Below.{some-found, some-not}
use Rattle.fit_marking.proofs.Turns.{freed-here, freed-other, led-length, led-elsewhere}

is-calibrated-true : (m : StateStatus) → is_calibrated m ≡ true → m ≡ Status.Calibrated
is-calibrated-true Status.Calibrated e = refl
is-calibrated-true Status.Rare e = absurd (false≢true e)
is-calibrated-true Status.NoPriceMove e = absurd (false≢true e)
is-calibrated-true Status.OutsideQuotes e = absurd (false≢true e)

module _ (N least : ℕ) (stay moved : List ℕ) where
  abbrev C : Cells
  C = cells_of N least stay moved

  -- what a mark says while states are still freed
  data So (m : List StateStatus) (i : ℕ) : Type 0 where
    so-rare : Rare C i → mark_at m i ≡ Status.Rare → So m i
    so-path : NotRare C i → mark_at m i ≡ Status.Calibrated → Reaches C i → So m i
    so-none : NotRare C i → mark_at m i ≡ Status.NoPriceMove → has_positive N moved i ≡ false → So m i

  abbrev AllSo : List StateStatus → Type 0
  AllSo m = (i : ℕ) → i < N → So m i

  so-first : (m : List StateStatus) (i : ℕ) → mark_at m i ≡ first_mark N least stay moved i → So m i
  so-first m i e =
      elim (yes_or_no (ltb (observations C i) least)) [
        | inl t ↦ so-rare (ltb-true _ _ t) (e ∙ rw t)
        | inr f ↦
            elim (yes_or_no (has_positive N moved i)) [
              | inl t ↦
                  let w = some-found N (λ j. ltb 0 (cell_at N moved i j)) t in
                  so-path (ltb-false _ _ f) (e ∙ rw (f, t)) (here w.0 (ltb-false _ _ f) w.1 (ltb-true _ _ w.2))
              | inr u ↦ so-none (ltb-false _ _ f) (e ∙ rw (f, u)) u
            ]
      ]

  so-same : (m m' : List StateStatus) (i : ℕ) → mark_at m' i ≡ mark_at m i → So m i → So m' i
  so-same m m' i e (so-rare a b) = so-rare a (e ∙ b)
  so-same m m' i e (so-path a b r) = so-path a (e ∙ b) r
  so-same m m' i e (so-none a b r) = so-none a (e ∙ b) r

  reached : (m : List StateStatus) (i : ℕ) → mark_at m i ≡ Status.Calibrated → So m i → Reaches C i
  reached m i e (so-rare a b) = absurd (cc)
  reached m i e (so-path a b r) = r
  reached m i e (so-none a b r) = absurd (cc)

  waits : (m : List StateStatus) (i : ℕ) → mark_at m i ≡ Status.NoPriceMove → So m i → NotRare C i
  waits m i e (so-rare a b) = absurd (cc)
  waits m i e (so-path a b r) = a
  waits m i e (so-none a b r) = a

  so_step : (m m' : List StateStatus) (x : ℕ) → x < N → N ≤ length m → Freed N stay m m' x → AllSo m → AllSo m'
  so_step m m' x h r w s i l = go (ℕ_discrete i x)
    where
      go : Dec (i ≡ x) → So m' i
      go (no d) = so-same m m' i (freed-other N stay m m' x h r w i d) (s i l)
      go (yes e) =
          let f = some-found N (leads_to N stay m x) w.leads in
          let b = both _ _ f.2 in
          let k = waits m x w.was (s x h) in
          let to = reached m f.0 (is-calibrated-true _ b.1) (s f.0 f.1) in
          rw e (so-path k (freed-here N stay m m' x h r w) (via f.0 k f.1 (ltb-true _ _ b.0) to))

  so-led : (l m : List StateStatus) → N ≤ length l → Led N stay l m → AllSo l → AllSo m
  so-led l m r none s = s
  so-led l m r (more {m = k} {x = x} q h w) s =
      let e = led-length N stay l k r q in
      so_step k m x h (rw e r) w (so-led l k r q s)

  -- where no state is left to free, every path is found
  so-closed : (m : List StateStatus) → Closed N stay m → AllSo m → (i : ℕ) → i < N → Reaches C i → mark_at m i ≡ Status.Calibrated
  so-closed m c s i l (here j a g p) = go (s i l)
    where
      go : So m i → mark_at m i ≡ Status.Calibrated
      go (so-rare b e) = absurd (let z : NotRare C i = a in omega arith)
      go (so-path b e r) = e
      go (so-none b e r) =
          let f = some-not N (λ j. ltb 0 (cell_at N moved i j)) r j g in
          absurd (false≢true (sym f ∙ lt-ltb 0 (cell_at N moved i j) p))
  so-closed m c s i l (via j a g p q) = go (s i l) (so-closed m c s j g q)
    where
      go : So m i → mark_at m j ≡ Status.Calibrated → mark_at m i ≡ Status.Calibrated
      go (so-rare b e) k = absurd (omega arith)
      go (so-path b e r) k = e
      go (so-none b e r) k =
          let f = some-not N (leads_to N stay m i) (c i l e) j g in
          let t : leads_to N stay m i j ≡ true = rw (lt-ltb 0 (cell_at N stay i j) p, k) refl in
          absurd (false≢true (sym f ∙ t))

  pub all-marked : (before l m : List StateStatus) → N ≤ length l → FirstMarks N least stay moved before l → Led N stay l m → Closed N stay m
      → Marked C before m
  all-marked before l m r f q c = record {
    marks = λ i h. go i h (s i h);
    elsewhere = λ i h. led-elsewhere N stay l m r q i h ∙ f.elsewhere i h;
  }
    where
      s : AllSo m
      s = so-led l m r q (λ i h. so-first l i (f.marks i h))

      go : (i : ℕ) → i < N → So m i → Says C i (mark_at m i)
      go i h (so-rare a e) = rw e a
      go i h (so-path a e p) = rw e (a, p)
      go i h (so-none a e n) = rw e (a, λ p. let z = so-closed m c s i h p in absurd cc)

-- How the fit of n states ends, by what its parts answer.
use Prim.Native.Nat.{ℕ, zero, suc, ◌<◌, ◌≤◌}
use mathlib.Core.Path.{◌≡◌, refl, sym, ap, ◌∙◌}
use mathlib.Core.Bool.{Bool, true, false, not, cond, ◌||◌}
use mathlib.Core.List.{List, ◌++◌}
use native.Mathlib.Omega.{arith}
use lib.Dec.{eqb}
use lib.ListN.{length, take}
use Rattle.std.specs.List.{list_any}
use lib.Ieee.{Float}
use Rattle.basics.proofs.Tests.{zero-not-one}
use Rattle.std.specs.Prelude.{Ok, Err}
use Rattle.refusals.specs.Refusals.{Check}
use Rattle.refusals.specs.declared.Refusal.{Refusal}
use Rattle.refusals.specs.declared.Refusal.TheVariants.{NoCalibratedState}
use Rattle.model.specs.Rows.{row_words}
use Rattle.model.specs.declared.StateEstimate.{StateEstimate}
use Rattle.model.specs.Status.{is_calibrated}
use Rattle.model.specs.declared.StateStatus.{StateStatus}
use Rattle.model.specs.declared.StateStatus.TheVariants.{Calibrated, Rare, NoPriceMove, OutsideQuotes}
use Rattle.model.specs.contracts.StateStatusPartialEq.TheImpl as StatusImpl
use Rattle.fit_marking.specs.Below.{some_to}
use Rattle.fit_marking.specs.Marks.{Cells, observations, Marked, mark_of, mark_at}
use Rattle.fit_marking.proofs.Below.{some-none, some-step}
use Rattle.fit_marking.proofs.Rows.{some-first}
use Rattle.fit_marking.proofs.Decided.{marked-is}
use Rattle.fit_system.specs.Rows.{used}
use Rattle.fit_system.specs.Inner.{Marks, check_of, StandsIn, SolvedIn}
use Rattle.fit_system.specs.Solution.{Solution, solution, unsolved, solution_of}
use Rattle.fit_system.proofs.Solving.{SolvedOrRefused, solved-or-refused}
use Rattle.fit_estimates.specs.Estimates.{Given, estimate_of, estimate, representable}
use Rattle.fit.specs.Fit.{Fit, fitted, refused, judged_rows, fit_from, fit_of, table_of, fit_answer, model_after}
use Rattle.fit.specs.Inner.{rows_in, FitEnds}

-- ---- rows that agree below n

some_same : (n : ℕ) (p q : ℕ → Bool) → ((k : ℕ) → k < n → p k ≡ q k) → some_to n p ≡ some_to n q
some_same zero p q h = some-none p ∙ sym (some-none q)
some_same (suc n) p q h =
    some-step n p
    ∙ (λ j. some_same n p q (λ k g. h k (omega arith)) j || h n (omega arith) j)
    ∙ sym (some-step n q)

table_same : (n : ℕ) (a b : ℕ → StateEstimate) → ((k : ℕ) → k < n → a k ≡ b k) → table_of n a ≡ table_of n b
table_same zero a b h = refl
table_same (suc n) a b h = λ j. table_same n a b (λ k g. h k (omega arith)) j ++ row_words (h n (omega arith) j)

judged-same : (n : ℕ) (a b : ℕ → StateEstimate) → ((k : ℕ) → k < n → a k ≡ b k) → fit_answer (judged_rows n a) ≡ fit_answer (judged_rows n b)
unfolding judged_rows
judged-same n a b h =
    go _ _ _ _
    (some_same n (λ k. not (representable (a k))) (λ k. not (representable (b k))) (λ k g. ap (λ e. not (representable e)) (h k g)))
    (some_same n (λ k. eqb (a k).status 0) (λ k. eqb (b k).status 0) (λ k g. ap (λ e. eqb e.status 0) (h k g)))
  where
    pick : (s t : Bool) → fit_answer (cond s (refused 19) (cond t (fitted a) (refused 16))) ≡ fit_answer (cond s (refused 19) (cond t (fitted b) (refused 16)))
    pick true t = refl
    pick false true = refl
    pick false false = refl

    go : (s s' t t' : Bool) → s ≡ s' → t ≡ t'
        → fit_answer (cond s (refused 19) (cond t (fitted a) (refused 16))) ≡ fit_answer (cond s' (refused 19) (cond t' (fitted b) (refused 16)))
    go s s' t t' e f = pick s t ∙ (λ j. fit_answer (cond (e j) (refused 19) (cond (f j) (fitted b) (refused 16))))

-- rows that pass are the fit's
pub judged-passed : (n : ℕ) (rows : ℕ → StateEstimate) → Ok tt ≡ fit_answer (judged_rows n rows) → judged_rows n rows ≡ fitted rows
unfolding judged_rows
judged-passed n rows e = go (some_to n (λ i. not (representable (rows i)))) (some_to n (λ i. eqb (rows i).status 0)) e
  where
    go : (s t : Bool) → Ok tt ≡ fit_answer (cond s (refused 19) (cond t (fitted rows) (refused 16)))
        → cond s (refused 19) (cond t (fitted rows) (refused 16)) ≡ fitted rows
    go true t e = absurd (zero-not-one cc)
    go false true e = refl
    go false false e = absurd (zero-not-one cc)

-- a refused fit leaves the table
table-left : (n : ℕ) (f : Fit) (r : Refusal) (t : List ℕ) → Err r ≡ fit_answer f → t ≡ model_after n f t
table-left n (fitted rows) r t e = absurd (zero-not-one cc)
table-left n (refused k) r t e = refl

models-same : (n : ℕ) (a b : ℕ → StateEstimate) → ((k : ℕ) → k < n → a k ≡ b k) → (t : List ℕ)
    → model_after n (judged_rows n a) t ≡ model_after n (judged_rows n b) t
unfolding judged_rows
models-same n a b h t =
    go _ _ _ _
    (some_same n (λ k. not (representable (a k))) (λ k. not (representable (b k))) (λ k g. ap (λ e. not (representable e)) (h k g)))
    (some_same n (λ k. eqb (a k).status 0) (λ k. eqb (b k).status 0) (λ k g. ap (λ e. eqb e.status 0) (h k g)))
  where
    pick : (x y : Bool)
        → model_after n (cond x (refused 19) (cond y (fitted a) (refused 16))) t ≡ model_after n (cond x (refused 19) (cond y (fitted b) (refused 16))) t
    pick true y = refl
    pick false true = table_same n a b h
    pick false false = refl

    go : (x x' y y' : Bool) → x ≡ x' → y ≡ y'
        → model_after n (cond x (refused 19) (cond y (fitted a) (refused 16))) t ≡ model_after n (cond x' (refused 19) (cond y' (fitted b) (refused 16))) t
    go x x' y y' e f = pick x y ∙ (λ j. model_after n (cond (e j) (refused 19) (cond (f j) (fitted b) (refused 16))) t)

-- ---- the marks

pub marks-of : (C : Cells) (before after : List StateStatus) → C.states ≤ length after → Marked C before after → Marks C after
marks-of C before after h m = record { enough = h; each = marked-is C before after m }

-- whether one of the first n marks is Calibrated, asked by the derived equality
pub marked-used : (C : Cells) (marks : List StateStatus) → Marks C marks
    → list_any (λ m. (StatusImpl.ghosts).eq m Calibrated) (take C.states marks) ≡ some_to C.states (used C)
marked-used C marks m =
    some-first (λ m. (StatusImpl.ghosts).eq m Calibrated) C.states marks Calibrated m.enough
    ∙ some_same C.states _ (used C) (λ i h. equal (mark_at marks i) ∙ ap is_calibrated (m.each i h))
  where
    equal : (m : StateStatus) → (StatusImpl.ghosts).eq m Calibrated ≡ is_calibrated m
    equal Calibrated = refl
    equal Rare = refl
    equal NoPriceMove = refl
    equal OutsideQuotes = refl

-- ---- the ends

module _ (rounds moves : ℕ) (G : Given) (t : List ℕ) where
  pub ends-none : some_to G.cells.states (used G.cells) ≡ false → FitEnds G.cells.states (fit_of rounds moves G) t (Err NoCalibratedState) t
  unfolding fit_of
  ends-none e = rw e (record { answers = refl; models = refl })

  module _ (u : some_to G.cells.states (used G.cells) ≡ true) where
    goes : fit_of rounds moves G ≡ fit_from G (solution_of rounds moves G.cells G.total)
    unfolding fit_of
    goes = rw u

    pub ends-unsolved : {k : Check} {r : Refusal} → k ≡ check_of (solution_of rounds moves G.cells G.total) → k ≡ Err r
        → FitEnds G.cells.states (fit_of rounds moves G) t k t
    ends-unsolved {k} {r} is answer-is = rw (answer-is, goes) (go (solution_of rounds moves G.cells G.total) (sym answer-is ∙ is))
      where
        go : (s : Solution) → Err r ≡ check_of s → FitEnds G.cells.states (fit_from G s) t (Err r) t
        go (solution a b d) e = absurd (zero-not-one cc)
        go (unsolved k) e = record { answers = e; models = refl }

    -- the rows in scratch are those of the solution
    module _
        (mirrored : (i : ℕ) → i < G.cells.states → G.mirror i < G.cells.states)
        (l : List Float)
        (s : SolvedIn G.cells.states (solution_of rounds moves G.cells G.total) (Ok tt) l) where
      pub record Rows : Type 0 where
        pub rows : ℕ → StateEstimate
        pub fit_is : fit_of rounds moves G ≡ judged_rows G.cells.states rows
        pub same : (k : ℕ) → k < G.cells.states → rows_in G.cells.states G l k ≡ rows k

      solved-rows : Rows
      solved-rows =
          go (solution_of rounds moves G.cells G.total) (solved-or-refused rounds moves G.cells G.total) goes s.answers s.stands
        where
          go : (x : Solution) → SolvedOrRefused x → fit_of rounds moves G ≡ fit_from G x → Ok tt ≡ check_of x → StandsIn G.cells.states x l → Rows
          go (unsolved k) r f e st = absurd (r (sym e))
          go (solution G1 sum share) r f e st =
              record {
                rows = estimate G G1 sum share;
                fit_is = f;
                same = λ k h j.
                    estimate_of G.tick (G.bucket k) (G.spread k) (mark_of G.cells k) (observations G.cells k)
                    (record {
                      first_own = st.first k h j;
                      first_mirrored = st.first (G.mirror k) (mirrored k h) j;
                      own = st.sums k h j;
                      mirrored = st.sums (G.mirror k) (mirrored k h) j;
                      share = st.shares k h j;
                    });
              }

      pub ends-refused : {k : Check} {r : Refusal} → k ≡ fit_answer (judged_rows G.cells.states (rows_in G.cells.states G l)) → k ≡ Err r
          → FitEnds G.cells.states (fit_of rounds moves G) t k t
      ends-refused {k} {r} is answer-is =
          let R = solved-rows in
          let a : k ≡ fit_answer (fit_of rounds moves G) = is ∙ judged-same G.cells.states _ R.rows R.same ∙ ap fit_answer (sym R.fit_is) in
          record { answers = a; models = table-left G.cells.states (fit_of rounds moves G) r t (sym answer-is ∙ a) }

      pub ends-fitted : {k : Check} {m : List ℕ} → k ≡ fit_answer (judged_rows G.cells.states (rows_in G.cells.states G l)) → k ≡ Ok tt
          → m ≡ table_of G.cells.states (rows_in G.cells.states G l) → FitEnds G.cells.states (fit_of rounds moves G) t (Ok tt) m
      ends-fitted {k} {m} is answer-is w =
          let R = solved-rows in
          let f : fit_of rounds moves G ≡ fitted R.rows =
          R.fit_is ∙ judged-passed G.cells.states R.rows (sym answer-is ∙ is ∙ judged-same G.cells.states _ R.rows R.same) in
          rw f (record { answers = refl; models = w ∙ table_same G.cells.states _ R.rows R.same })

-- ---- another mirror that agrees below N

turned : Given → (ℕ → ℕ) → Given
turned G mirror = record { cells = G.cells; total = G.total; tick = G.tick; mirror = mirror; bucket = G.bucket; spread = G.spread }

module _ (G : Given) (mirror : ℕ → ℕ) (same : (i : ℕ) → i < G.cells.states → G.mirror i ≡ mirror i) where
  row_same : (G1 sum share : ℕ → Float) (k : ℕ) → k < G.cells.states → estimate G G1 sum share k ≡ estimate (turned G mirror) G1 sum share k
  unfolding turned
  row_same G1 sum share k h = λ j.
      estimate_of G.tick (G.bucket k) (G.spread k) (mark_of G.cells k) (observations G.cells k)
      (record {
        first_own = G1 k;
        first_mirrored = G1 (same k h j);
        own = sum k;
        mirrored = sum (same k h j);
        share = share k;
      })

  from-same : (x : Solution) (t : List ℕ)
      → (fit_answer (fit_from G x) ≡ fit_answer (fit_from (turned G mirror) x))
      × (model_after G.cells.states (fit_from G x) t ≡ model_after G.cells.states (fit_from (turned G mirror) x) t)
  unfolding turned
  from-same (unsolved k) t = (refl, refl)
  from-same (solution G1 sum share) t = (judged-same _ _ _ (row_same G1 sum share), models-same _ _ _ (row_same G1 sum share) t)

  pub ends_same : (rounds moves : ℕ) (t m : List ℕ) (r : Check) → FitEnds G.cells.states (fit_of rounds moves G) t r m
      → FitEnds G.cells.states
      (fit_of rounds moves (record { cells = G.cells; total = G.total; tick = G.tick; mirror = mirror; bucket = G.bucket; spread = G.spread })) t r m
  unfolding fit_of turned
  ends_same rounds moves t m r f =
      let x = solution_of rounds moves G.cells G.total in
      let u = some_to G.cells.states (used G.cells) in
      record {
        answers = f.answers ∙ pick-answers u (fit_from G x) (fit_from (turned G mirror) x) (from-same x t).0;
        models = f.models ∙ pick-models u (fit_from G x) (fit_from (turned G mirror) x) (from-same x t).1;
      }
    where
      pick-answers : (u : Bool) (a b : Fit) → fit_answer a ≡ fit_answer b → fit_answer (cond u a (refused 16)) ≡ fit_answer (cond u b (refused 16))
      pick-answers true a b e = e
      pick-answers false a b e = refl

      pick-models : (u : Bool) (a b : Fit) → model_after G.cells.states a t ≡ model_after G.cells.states b t
          → model_after G.cells.states (cond u a (refused 16)) t ≡ model_after G.cells.states (cond u b (refused 16)) t
      pick-models true a b e = e
      pick-models false a b e = refl

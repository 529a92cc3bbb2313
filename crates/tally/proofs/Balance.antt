-- What holds of the counts of every list of events in range: sizes, mirrors, twice the pairs; and that pairs and skips make the neighbours.
use mathlib.Core.Path.{◌≡◌, refl, sym, ◌∙◌, ap}
use mathlib.Core.Bool.{Bool, true, false, not, cond, ◌&&◌}
use mathlib.Core.List.{List, [], ◌∷◌}
use Prim.Native.Nat.{ℕ, suc, ◌+◌, ◌*◌, ◌-◌, ◌/◌, ◌%◌, ◌<◌, max}
use native.Mathlib.Nat.{add-zero}
use native.Mathlib.Omega.{arith}
use lib.IntN.{ℤ, pos, neg_ℤ, ◌+ℤ◌, +ℤ_idr, +ℤ_assoc, +ℤ_comm, neg_ℤ-+ℤ, neg_ℤ-neg_ℤ}
use lib.Dec.{eqb}
use lib.ListN.{length, get_or, replicate, length-replicate, get_or-replicate}
use borrow.Author.Tests.{eqb-true}
use Rattle.basics.specs.Lists.{bit, count, tab, square, sum}
use Rattle.basics.proofs.Tests.{both, fails, eqb_same, same_test}
use Rattle.basics.proofs.Lists.{length-tab, get_or-tab, tab-ext, tab-get_or, flat-row, flat-column, flat-below, get_or-square, square-get_or, sum-tab-add, sum-tab-zero, sum-tab-one, sum-replicate}
use Rattle.tally.specs.Entries.{Entry, is_zero, entry_cell}
use Rattle.tally.specs.Events.{Event, first, skip, pair, Counts, entries, goes, total_at, is_pair, is_skip, is_first, after, zeros}
use Rattle.tally.specs.Rules.{Rule, InRange, Lawful, events, AllIn}
use Rattle.tally.specs.Balance.{Sized, Balanced}
use Rattle.tally.proofs.Step.{goes-own, goes-cell, cell_at}
use Rattle.tally.proofs.Touched.{zero-neg}

-- ---- no events

pub after_none : (K N : ℕ) (mirror : ℕ → ℕ) (c : Counts) → Sized K N c → after K N mirror c [] ≡ c
after_none K N mirror c z =
    λ u.
    record {
      pairs = add-zero c.pairs u;
      skips = skips u;
      largest = largest u;
      tables =
          record {
            stay = cells c.tables.stay z.stay-cells u;
            moved = cells c.tables.moved z.moved-cells u;
            totals = totals u;
          };
    }
  where
    skips : tab K (λ k. get_or c.skips k 0 + 0) ≡ c.skips
    skips =
        tab-ext K _ (λ k. get_or c.skips k 0) (λ k b. add-zero (get_or c.skips k 0)) ∙ tab-get_or c.skips K 0 z.skip-kinds

    largest : max c.largest 0 ≡ c.largest
    largest = omega arith

    cells : (l : List ℕ) → length l ≡ N * N → square N (λ i j. get_or l (i * N + j) 0 + 0) ≡ l
    cells l e =
        tab-ext (N * N) _ (λ k. get_or l (k / N * N + k % N) 0) (λ k b. add-zero (get_or l (k / N * N + k % N) 0))
        ∙ square-get_or N l 0 e

    totals : tab N (λ i. get_or c.tables.totals i (pos 0) +ℤ pos 0) ≡ c.tables.totals
    totals =
        tab-ext N _ (λ i. get_or c.tables.totals i (pos 0)) (λ i b. +ℤ_idr (get_or c.tables.totals i (pos 0)))
        ∙ tab-get_or c.tables.totals N (pos 0) z.totals-cells

-- ---- sizes

pub after-sized : (K N : ℕ) (mirror : ℕ → ℕ) (c : Counts) (es : List Event) → Sized K N (after K N mirror c es)
after-sized K N mirror c es =
    record {
      skip-kinds = length-tab K _;
      stay-cells = length-tab (N * N) _;
      moved-cells = length-tab (N * N) _;
      totals-cells = length-tab N _;
    }

pub zeros-sized : (K N : ℕ) → Sized K N (zeros K N)
zeros-sized K N =
    record {
      skip-kinds = length-replicate K 0;
      stay-cells = length-replicate (N * N) 0;
      moved-cells = length-replicate (N * N) 0;
      totals-cells = length-replicate N (pos 0);
    }

-- ---- zeros

pub zeros-balanced : (K N : ℕ) (mirror : ℕ → ℕ) → ((i : ℕ) → i < N → mirror i < N) → Balanced N mirror (zeros K N)
zeros-balanced K N mirror below =
    record {
      stay-mirrored = cells;
      moved-mirrored = cells;
      totals-mirrored =
          λ i hi.
          get_or-replicate N (mirror i) (pos 0) (pos 0) (below i hi) ∙ sym (ap neg_ℤ (get_or-replicate N i (pos 0) (pos 0) hi));
      twice = omega (arith, sum-replicate (N * N));
    }
  where
    cells : (i j : ℕ) → i < N → j < N → ◌≡◌ {A = ℕ} (get_or (replicate (N * N) 0) (mirror i * N + mirror j) 0) (get_or (replicate (N * N) 0) (i * N + j) 0)
    cells i j hi hj =
        get_or-replicate (N * N) (mirror i * N + mirror j) 0 0 (flat-below N (mirror i) (mirror j) (below j hj) N (below i hi))
        ∙ sym (get_or-replicate (N * N) (i * N + j) 0 0 (flat-below N i j hj N hi))

-- ---- events in range

pub events-in : (R : Rule) → Lawful R → (l : R.Last) (qs : List R.Quote) → AllIn R.kinds R.states (events R l qs)
events-in R W l [] = tt
events-in R W l (q ∷ qs) = (W.event-in l q, events-in R W (R.arrive l q) qs)

-- ---- mirrors

module _ (K N : ℕ) (mirror : ℕ → ℕ) (below : (i : ℕ) → i < N → mirror i < N) (again : (i : ℕ) → i < N → mirror (mirror i) ≡ i) where
  -- a state is the mirror of i exactly if its mirror is i
  swap : (a i : ℕ) → a < N → i < N → eqb a (mirror i) ≡ eqb (mirror a) i
  swap a i ha hi =
      same_test (eqb a (mirror i)) (eqb (mirror a) i)
      (λ p. rw (eqb-true a (mirror i) p, again i hi) (eqb_same i))
      (λ p. rw (← (eqb-true (mirror a) i p), again a ha) (eqb_same a))

  swap-both : (a i : ℕ) → a < N → i < N → eqb (mirror a) (mirror i) ≡ eqb a i
  swap-both a i ha hi = swap (mirror a) i (below a ha) hi ∙ ap (λ (n : ℕ). eqb n i) (again a ha)

  module _ (t : ℤ → Bool) (even : (d : ℤ) → t (neg_ℤ d) ≡ t d) where
    cells-mirrored : (es : List Event) → AllIn K N es → (i j : ℕ) → i < N → j < N
        → cell_at (λ e. t e.change) (entries mirror es) (mirror i) (mirror j) ≡ cell_at (λ e. t e.change) (entries mirror es) i j
    cells-mirrored [] r i j hi hj = refl
    cells-mirrored (first ∷ es) r i j hi hj = cells-mirrored es r.1 i j hi hj
    cells-mirrored (skip k ∷ es) r i j hi hj = cells-mirrored es r.1 i j hi hj
    cells-mirrored (pair a b d ∷ es) r i j hi hj = omega (arith, cells-mirrored es r.1 i j hi hj, one, two)
      where
        one : bit ((eqb a (mirror i) && eqb b (mirror j)) && t d) ≡ bit ((eqb (mirror a) i && eqb (mirror b) j) && t (neg_ℤ d))
        one = rw (swap a i r.0.0 hi, swap b j r.0.1 hj, even d)

        two : bit ((eqb (mirror a) (mirror i) && eqb (mirror b) (mirror j)) && t (neg_ℤ d)) ≡ bit ((eqb a i && eqb b j) && t d)
        two = rw (swap-both a i r.0.0 hi, swap-both b j r.0.1 hj, even d)

  sums-mirrored : (es : List Event) → AllIn K N es → (i : ℕ) → i < N → total_at (entries mirror es) (mirror i) ≡ neg_ℤ (total_at (entries mirror es) i)
  sums-mirrored [] r i hi = refl
  sums-mirrored (first ∷ es) r i hi = sums-mirrored es r.1 i hi
  sums-mirrored (skip k ∷ es) r i hi = sums-mirrored es r.1 i hi
  sums-mirrored (pair a b d ∷ es) r i hi =
      (λ u. part (swap a i r.0.0 hi u) d +ℤ (part (swap-both a i r.0.0 hi u) (neg_ℤ d) +ℤ sums-mirrored es r.1 i hi u))
      ∙ turned (eqb (mirror a) i) (eqb a i) (total_at (entries mirror es) i)
    where
      part : Bool → ℤ → ℤ
      part x n = cond x n (pos 0)

      neg-part : (x : Bool) (n : ℤ) → neg_ℤ (part x n) ≡ part x (neg_ℤ n)
      neg-part true n = refl
      neg-part false n = refl

      left_comm : (x y z : ℤ) → x +ℤ (y +ℤ z) ≡ y +ℤ (x +ℤ z)
      left_comm x y z = sym (+ℤ_assoc x y z) ∙ ap (λ (s : ℤ). s +ℤ z) (+ℤ_comm x y) ∙ +ℤ_assoc y x z

      turned : (x y : Bool) (rest : ℤ) → part x d +ℤ (part y (neg_ℤ d) +ℤ neg_ℤ rest) ≡ neg_ℤ (part y d +ℤ (part x (neg_ℤ d) +ℤ rest))
      turned x y rest =
          left_comm (part x d) (part y (neg_ℤ d)) (neg_ℤ rest)
          ∙ sym
          (neg_ℤ-+ℤ (part y d) (part x (neg_ℤ d) +ℤ rest)
          ∙ (λ u. neg-part y d u +ℤ neg_ℤ-+ℤ (part x (neg_ℤ d)) rest u)
          ∙ ap (λ (s : ℤ). part y (neg_ℤ d) +ℤ (s +ℤ neg_ℤ rest)) (neg-part x (neg_ℤ d) ∙ ap (part x) (neg_ℤ-neg_ℤ d)))

-- ---- all cells together

abbrev AllBelow : ℕ → List Entry → Type 0
AllBelow N [] = Unit {0}
AllBelow N (e ∷ F) = (e.from < N) × (e.to < N) × AllBelow N F

entries_below : (K N : ℕ) (mirror : ℕ → ℕ) → ((i : ℕ) → i < N → mirror i < N) → (es : List Event) → AllIn K N es → AllBelow N (entries mirror es)
entries_below K N mirror below [] r = tt
entries_below K N mirror below (first ∷ es) r = entries_below K N mirror below es r.1
entries_below K N mirror below (skip k ∷ es) r = entries_below K N mirror below es r.1
entries_below K N mirror below (pair i j d ∷ es) r =
    (r.0.0, r.0.1, (below i r.0.0, below j r.0.1, entries_below K N mirror below es r.1))

-- the cells of one sort are its entries
sum-cells : (N : ℕ) (t : Entry → Bool) (F : List Entry) → AllBelow N F → sum (square N (cell_at t F)) ≡ count t F
sum-cells N t [] r = sum-tab-zero (N * N) (λ k. 0) (λ k b. refl)
sum-cells N t (e ∷ F) r =
    sum-tab-add (N * N) own (λ k. cell_at t F (k / N) (k % N)) ∙ (λ u. single u + sum-cells N t F r.2 u)
  where
    own : ℕ → ℕ
    own k = bit (goes (k / N) (k % N) e && t e)

    single : sum (tab (N * N) own) ≡ bit (t e)
    single =
        sum-tab-one (N * N) own (entry_cell N e) (flat-below N e.from e.to r.1 N r.0)
        (λ k b q. ap bit (fails _ (λ h. q (goes-cell N k e (both (goes (k / N) (k % N) e) (t e) h).0))))
        ∙ rw (flat-row N e.from e.to r.1, flat-column N e.from e.to r.1, goes-own e)

two-sorts : (mirror : ℕ → ℕ) (es : List Event)
    → count (λ e. is_zero e.change) (entries mirror es) + count (λ e. not (is_zero e.change)) (entries mirror es) ≡ 2 * count is_pair es
two-sorts mirror [] = refl
two-sorts mirror (first ∷ es) = omega (arith, two-sorts mirror es)
two-sorts mirror (skip k ∷ es) = omega (arith, two-sorts mirror es)
two-sorts mirror (pair i j d ∷ es) = omega (arith, two-sorts mirror es, one (is_zero d), one (is_zero (neg_ℤ d)))
  where
    one : (b : Bool) → bit b + bit (not b) ≡ 1
    one true = refl
    one false = refl

-- ---- the counts of events are balanced, if those that they start from are

pub after-balanced : (K N : ℕ) (mirror : ℕ → ℕ) → ((i : ℕ) → i < N → mirror i < N) → ((i : ℕ) → i < N → mirror (mirror i) ≡ i) → (c : Counts) → Sized K N c
    → Balanced N mirror c → (es : List Event) → AllIn K N es → Balanced N mirror (after K N mirror c es)
after-balanced K N mirror below again c z B es r =
    record {
      stay-mirrored = mirrored is_zero zero-neg c.tables.stay B.stay-mirrored;
      moved-mirrored =
          mirrored (λ d. not (is_zero d)) (λ d. ap not (zero-neg d)) c.tables.moved B.moved-mirrored;
      totals-mirrored =
          λ i hi.
          get_or-tab N total (mirror i) (pos 0) (below i hi)
          ∙ (λ u. B.totals-mirrored i hi u +ℤ sums-mirrored K N mirror below again es r i hi u)
          ∙ sym
          (ap neg_ℤ (get_or-tab N total i (pos 0) hi) ∙ neg_ℤ-+ℤ (get_or c.tables.totals i (pos 0)) (total_at F i));
      twice =
          omega (
            arith,
            sums c.tables.stay z.stay-cells (λ e. is_zero e.change),
            sums c.tables.moved z.moved-cells (λ e. not (is_zero e.change)),
            two-sorts mirror es,
            B.twice,
          );
    }
  where
    F : List Entry
    F = entries mirror es

    total : ℕ → ℤ
    total i = get_or c.tables.totals i (pos 0) +ℤ total_at F i

    mirrored : (t : ℤ → Bool) → ((d : ℤ) → t (neg_ℤ d) ≡ t d) → (l : List ℕ)
        → ((i j : ℕ) → i < N → j < N → get_or l (mirror i * N + mirror j) 0 ≡ get_or l (i * N + j) 0) → (i j : ℕ) → i < N → j < N
        → get_or (square N (λ x y. get_or l (x * N + y) 0 + cell_at (λ e. t e.change) F x y)) (mirror i * N + mirror j) 0 ≡ get_or
        (square N (λ x y. get_or l (x * N + y) 0 + cell_at (λ e. t e.change) F x y)) (i * N + j) 0
    mirrored t even l b i j hi hj =
        get_or-square N f (mirror i) (mirror j) 0 (below i hi) (below j hj)
        ∙ (λ u. b i j hi hj u + cells-mirrored K N mirror below again t even es r i j hi hj u)
        ∙ sym (get_or-square N f i j 0 hi hj)
      where
        f : ℕ → ℕ → ℕ
        f x y = get_or l (x * N + y) 0 + cell_at (λ e. t e.change) F x y

    sums : (l : List ℕ) → length l ≡ N * N → (t : Entry → Bool) → sum (square N (λ x y. get_or l (x * N + y) 0 + cell_at t F x y)) ≡ sum l + count t F
    sums l e t =
        sum-tab-add (N * N) (λ k. get_or l (k / N * N + k % N) 0) (λ k. cell_at t F (k / N) (k % N))
        ∙ (λ u. sum (square-get_or N l 0 e u) + sum-cells N t F (entries_below K N mirror below es r) u)

-- ---- neighbours

module _ (K N : ℕ) where
  -- an event is a pair, a skip of one kind, or a first
  one-sort : (e : Event) → InRange K N e → bit (is_pair e) + sum (tab K (λ k. bit (is_skip k e))) + bit (is_first e) ≡ 1
  one-sort first h = omega (arith, sum-tab-zero K (λ k. 0) (λ k b. refl))
  one-sort (skip m) h = omega (arith, sum-tab-one K own m h (λ k b q. ap bit (fails _ (λ p. q (sym (eqb-true m k p))))), ap bit (eqb_same m))
    where
      own : ℕ → ℕ
      own k = bit (eqb m k)
  one-sort (pair i j d) h = omega (arith, sum-tab-zero K (λ k. 0) (λ k b. refl))

  all-sorts : (es : List Event) → AllIn K N es → count is_pair es + sum (tab K (λ k. count (is_skip k) es)) + count is_first es ≡ length es
  all-sorts [] r = omega (arith, sum-tab-zero K (λ k. 0) (λ k b. refl))
  all-sorts (e ∷ es) r =
      omega
      (arith, one-sort e r.0, all-sorts es r.1, sum-tab-add K (λ k. bit (is_skip k e)) (λ k. count (is_skip k) es))

module _ (R : Rule) (W : Lawful R) where
  length-events : (l : R.Last) (qs : List R.Quote) → length (events R l qs) ≡ length qs
  length-events l [] = refl
  length-events l (q ∷ qs) = ap suc (length-events (R.arrive l q) qs)

  -- once started, no event is a first
  firsts-none : (l : R.Last) (qs : List R.Quote) → R.started l ≡ true → count is_first (events R l qs) ≡ 0
  firsts-none l [] e = refl
  firsts-none l (q ∷ qs) e =
      omega
      (arith, ap bit (W.event-first l q ∙ ap not e), firsts-none (R.arrive l q) qs (W.arrive-started l q))

  -- pairs and skips are the quotes less one, and 0 for none
  pub neighbours-counted : (l : R.Last) (qs : List R.Quote) → R.started l ≡ false
      → count is_pair (events R l qs) + sum (tab R.kinds (λ k. count (is_skip k) (events R l qs))) ≡ length qs - 1
  neighbours-counted l [] e = omega (arith, sum-tab-zero R.kinds (λ k. 0) (λ k b. refl))
  neighbours-counted l (q ∷ qs) e =
      omega (
        arith,
        all-sorts R.kinds R.states (events R l (q ∷ qs)) (events-in R W l (q ∷ qs)),
        length-events (R.arrive l q) qs,
        firsts-none (R.arrive l q) qs (W.arrive-started l q),
        ap bit (W.event-first l q ∙ ap not e),
      )

-- One event entered into the counts of events makes the counts of the events with it; so an accepted quote on the memory of quotes makes the memory of the
-- quotes with it.
use mathlib.Core.Path.{◌≡◌, refl, sym, ◌∙◌, ap}
use mathlib.Core.Logic.{◌≢◌}
use mathlib.Core.Bool.{Bool, true, false, not, cond, ◌&&◌, and-false}
use mathlib.Core.List.{List, [], ◌∷◌, ◌++◌, append-nil, append_assoc}
use Prim.Native.Nat.{ℕ, ◌+◌, ◌*◌, ◌/◌, ◌%◌, ◌<◌, max}
use native.Mathlib.Nat.{add-zero, div-add-mod'}
use native.Mathlib.Omega.{arith}
use lib.IntN.{ℤ, pos, ◌+ℤ◌, +ℤ_idr, +ℤ_assoc, nat_abs}
use lib.Dec.{eqb}
use lib.ListN.{get_or}
use borrow.Author.Tests.{eqb-true}
use Rattle.basics.specs.Lists.{bit, count, greatest, tab, square}
use Rattle.basics.proofs.Tests.{both, fails, eqb_same}
use Rattle.basics.proofs.Lists.{greatest-append, count-snoc, sum-snoc, get_or-tab, tab-ext, set-tab, flat-row, flat-column, flat-below}
use Rattle.tally.specs.Totals.{add_at}
use Rattle.tally.specs.Entries.{Entry, Tables, is_zero, bump, bump_if, entry_cell, enter, enter_both, forth, back}
use Rattle.tally.specs.Events.{Event, first, skip, pair, Counts, entered, entries, goes, stay_at, moved_at, total_at, is_pair, is_skip, size_of, after}
use Rattle.tally.specs.Rules.{Rule, InRange, Lawful, step, events, carried, memory_of}

-- ---- one more quote

pub events-snoc : (R : Rule) (l : R.Last) (qs : List R.Quote) (q : R.Quote) → events R l (qs ++ q ∷ []) ≡ events R l qs ++ R.event (carried R l qs) q ∷ []
events-snoc R l [] q = refl
events-snoc R l (p ∷ qs) q = ap (λ (es : List Event). R.event l p ∷ es) (events-snoc R (R.arrive l p) qs q)

pub carried-snoc : (R : Rule) (l : R.Last) (qs : List R.Quote) (q : R.Quote) → carried R l (qs ++ q ∷ []) ≡ R.arrive (carried R l qs) q
carried-snoc R l [] q = refl
carried-snoc R l (p ∷ qs) q = carried-snoc R (R.arrive l p) qs q

pub entries-append : (mirror : ℕ → ℕ) (es fs : List Event) → entries mirror (es ++ fs) ≡ entries mirror es ++ entries mirror fs
entries-append mirror [] fs = refl
entries-append mirror (first ∷ es) fs = entries-append mirror es fs
entries-append mirror (skip k ∷ es) fs = entries-append mirror es fs
entries-append mirror (pair i j d ∷ es) fs =
    ap (λ (r : List Entry). forth i j d ∷ back mirror i j d ∷ r) (entries-append mirror es fs)

-- ---- one entry

pub goes-own : (e : Entry) → goes e.from e.to e ≡ true
goes-own e = rw (eqb_same e.from, eqb_same e.to)

-- an entry goes by its own cell alone
pub goes-cell : (N k : ℕ) (e : Entry) → goes (k / N) (k % N) e ≡ true → k ≡ entry_cell N e
goes-cell N k e h =
    let b = both (eqb e.from (k / N)) (eqb e.to (k % N)) h in
    rw (eqb-true e.from (k / N) b.0, eqb-true e.to (k % N) b.1) (sym (div-add-mod' k N))

-- a cell counts the entries of one sort, t, that go its way
abbrev pub cell_at : (Entry → Bool) → List Entry → ℕ → ℕ → ℕ
cell_at t F i j = count (λ e. goes i j e && t e) F

module _ (N : ℕ) (F : List Entry) (e : Entry) (hf : e.from < N) (ht : e.to < N) where
  module _ (s : ℕ → ℕ → ℕ) (t : Entry → Bool) where
    abbrev old : ℕ → ℕ
    old k = s (k / N) (k % N) + cell_at t F (k / N) (k % N)

    abbrev new : ℕ → ℕ
    new k = s (k / N) (k % N) + cell_at t (F ++ e ∷ []) (k / N) (k % N)

    new_is : (k : ℕ) → new k ≡ old k + bit (goes (k / N) (k % N) e && t e)
    new_is k = omega (arith, count-snoc (λ x. goes (k / N) (k % N) x && t x) F e)

    here : t e ≡ true → new (entry_cell N e) ≡ old (entry_cell N e) + 1
    here p = new_is (entry_cell N e) ∙ ap (λ (b : Bool). old (entry_cell N e) + bit b) hit
      where
        hit : (goes (entry_cell N e / N) (entry_cell N e % N) e && t e) ≡ true
        hit = rw (flat-row N e.from e.to ht, flat-column N e.from e.to ht, goes-own e) p

    elsewhere : (k : ℕ) → k ≢ entry_cell N e → old k ≡ new k
    elsewhere k q = sym (new_is k ∙ ap (λ (b : Bool). old k + bit b) miss ∙ add-zero (old k))
      where
        miss : (goes (k / N) (k % N) e && t e) ≡ false
        miss = fails _ (λ h. q (goes-cell N k e (both (goes (k / N) (k % N) e) (t e) h).0))

    pub enter-cell : (b : Bool) → t e ≡ b
        → bump_if b (square N (λ i j. s i j + cell_at t F i j)) (entry_cell N e) ≡ square N (λ i j. s i j + cell_at t (F ++ e ∷ []) i j)
    enter-cell true p =
        set-tab (N * N) old new (entry_cell N e) (get_or (tab (N * N) old) (entry_cell N e) 0 + 1) in-square there (λ k b q. elsewhere k q)
      where
        in-square : entry_cell N e < N * N
        in-square = flat-below N e.from e.to ht N hf

        there : get_or (tab (N * N) old) (entry_cell N e) 0 + 1 ≡ new (entry_cell N e)
        there = ap (λ (n : ℕ). n + 1) (get_or-tab (N * N) old (entry_cell N e) 0 in-square) ∙ sym (here p)
    enter-cell false p =
        tab-ext (N * N) old new
        (λ k b. sym (new_is k ∙ ap (λ (x : Bool). old k + bit x) (none k) ∙ add-zero (old k)))
      where
        none : (k : ℕ) → (goes (k / N) (k % N) e && t e) ≡ false
        none k = rw p (and-false (goes (k / N) (k % N) e))

  module _ (z : ℕ → ℤ) where
    abbrev old_t : ℕ → ℤ
    old_t i = z i +ℤ total_at F i

    abbrev new_t : ℕ → ℤ
    new_t i = z i +ℤ total_at (F ++ e ∷ []) i

    new_t-is : (i : ℕ) → new_t i ≡ old_t i +ℤ cond (eqb e.from i) e.change (pos 0)
    new_t-is i =
        ap (λ (n : ℤ). z i +ℤ n) (sum-snoc (λ x. cond (eqb x.from i) x.change (pos 0)) F e)
        ∙ sym (+ℤ_assoc (z i) (total_at F i) (cond (eqb e.from i) e.change (pos 0)))

    pub enter-total : add_at (tab N (λ i. z i +ℤ total_at F i)) e.from e.change ≡ tab N (λ i. z i +ℤ total_at (F ++ e ∷ []) i)
    enter-total = set-tab N old_t new_t e.from (get_or (tab N old_t) e.from (pos 0) +ℤ e.change) hf there other
      where
        there : get_or (tab N old_t) e.from (pos 0) +ℤ e.change ≡ new_t e.from
        there =
            ap (λ (n : ℤ). n +ℤ e.change) (get_or-tab N old_t e.from (pos 0) hf)
            ∙ ap (λ (b : Bool). old_t e.from +ℤ cond b e.change (pos 0)) (sym (eqb_same e.from))
            ∙ sym (new_t-is e.from)

        other : (m : ℕ) → m < N → m ≢ e.from → old_t m ≡ new_t m
        other m b q =
            sym
            (new_t-is m
            ∙ ap (λ (x : Bool). old_t m +ℤ cond x e.change (pos 0)) (fails (eqb e.from m) (λ h. q (sym (eqb-true _ _ h))))
            ∙ +ℤ_idr (old_t m))

  -- into all three tables, made of what three functions start from
  pub enter_one : (s m : ℕ → ℕ → ℕ) (z : ℕ → ℤ)
      → enter N e
      (record { stay = square N (λ i j. s i j + stay_at F i j); moved = square N (λ i j. m i j + moved_at F i j); totals = tab N (λ i. z i +ℤ total_at F i) }) ≡
      record {
        stay = square N (λ i j. s i j + stay_at (F ++ e ∷ []) i j);
        moved = square N (λ i j. m i j + moved_at (F ++ e ∷ []) i j);
        totals = tab N (λ i. z i +ℤ total_at (F ++ e ∷ []) i);
      }
  enter_one s m z =
      λ u.
      record {
        stay = enter-cell s (λ x. is_zero x.change) (is_zero e.change) refl u;
        moved = enter-cell m (λ x. not (is_zero x.change)) (not (is_zero e.change)) refl u;
        totals = enter-total z u;
      }

-- ---- one event

module _ (K N : ℕ) (mirror : ℕ → ℕ) (below : (i : ℕ) → i < N → mirror i < N) (c : Counts) (es : List Event) where
  -- one more event of a sort, or none
  more : (p : Event → Bool) (n : ℕ) (e : Event) (b : ℕ) → bit (p e) ≡ b → n + count p es + b ≡ n + count p (es ++ e ∷ [])
  more p n e b h = omega (arith, count-snoc p es e)

  same : (p : Event → Bool) (n : ℕ) (e : Event) → bit (p e) ≡ 0 → n + count p es ≡ n + count p (es ++ e ∷ [])
  same p n e h = omega (arith, count-snoc p es e)

  larger : (e : Event) (b : ℕ) → size_of e ≡ b → max (max c.largest (greatest size_of es)) b ≡ max c.largest (greatest size_of (es ++ e ∷ []))
  larger e b h = rw (greatest-append size_of es (e ∷ [])) (omega arith)

  no-larger : (e : Event) → size_of e ≡ 0 → max c.largest (greatest size_of es) ≡ max c.largest (greatest size_of (es ++ e ∷ []))
  no-larger e h = rw (greatest-append size_of es (e ∷ [])) (omega arith)

  -- an event that is no skip leaves the skips
  same-skips : (e : Event) → ((k : ℕ) → bit (is_skip k e) ≡ 0) → (after K N mirror c es).skips ≡ (after K N mirror c (es ++ e ∷ [])).skips
  same-skips e h = tab-ext K _ _ (λ k b. same (is_skip k) (get_or c.skips k 0) e (h k))

  one-skip : (k : ℕ) → k < K → bump (after K N mirror c es).skips k ≡ (after K N mirror c (es ++ skip k ∷ [])).skips
  one-skip k h =
      set-tab K old new k (get_or (tab K old) k 0 + 1) h
      (ap (λ (n : ℕ). n + 1) (get_or-tab K old k 0 h) ∙ more (is_skip k) (get_or c.skips k 0) (skip k) 1 (ap bit (eqb_same k)))
      (λ m b q. same (is_skip m) (get_or c.skips m 0) (skip k) (ap bit (fails (eqb k m) (λ e. q (sym (eqb-true k m e))))))
    where
      old : ℕ → ℕ
      old m = get_or c.skips m 0 + count (is_skip m) es

      new : ℕ → ℕ
      new m = get_or c.skips m 0 + count (is_skip m) (es ++ skip k ∷ [])

  -- the tables with what a list of entries adds
  abbrev tables_with : List Entry → Tables
  tables_with F =
      record {
        stay = square N (λ i j. get_or c.tables.stay (i * N + j) 0 + stay_at F i j);
        moved = square N (λ i j. get_or c.tables.moved (i * N + j) 0 + moved_at F i j);
        totals = tab N (λ i. get_or c.tables.totals i (pos 0) +ℤ total_at F i);
      }

  -- an event with no entry leaves the tables
  same_tables : (e : Event) → entries mirror (e ∷ []) ≡ [] → tables_with (entries mirror es) ≡ tables_with (entries mirror (es ++ e ∷ []))
  same_tables e quiet =
      ap tables_with
      (sym
      (entries-append mirror es (e ∷ [])
      ∙ ap (λ (r : List Entry). entries mirror es ++ r) quiet
      ∙ append-nil (entries mirror es)))

  both-tables : (i j : ℕ) (d : ℤ) → i < N → j < N
      → enter_both N (forth i j d) (back mirror i j d) (tables_with (entries mirror es)) ≡ tables_with (entries mirror (es ++ pair i j d ∷ []))
  both-tables i j d hi hj =
      let F = entries mirror es in
      let a = forth i j d in
      let b = back mirror i j d in
      let s : ℕ → ℕ → ℕ = λ x y. get_or c.tables.stay (x * N + y) 0 in
      let m : ℕ → ℕ → ℕ = λ x y. get_or c.tables.moved (x * N + y) 0 in
      let z : ℕ → ℤ = λ x. get_or c.tables.totals x (pos 0) in
      ap (enter N b) (enter_one N F a hi hj s m z)
      ∙ enter_one N (F ++ a ∷ []) b (below i hi) (below j hj) s m z
      ∙ ap tables_with (append_assoc F (a ∷ []) (b ∷ []) ∙ sym (entries-append mirror es (pair i j d ∷ [])))

  pub entered-after : (e : Event) → InRange K N e → entered N mirror e (after K N mirror c es) ≡ after K N mirror c (es ++ e ∷ [])
  entered-after first h =
      λ u.
      record {
        pairs = same is_pair c.pairs first refl u;
        skips = same-skips first (λ k. refl) u;
        largest = no-larger first refl u;
        tables = same_tables first refl u;
      }
  entered-after (skip k) h =
      λ u.
      record {
        pairs = same is_pair c.pairs (skip k) refl u;
        skips = one-skip k h u;
        largest = no-larger (skip k) refl u;
        tables = same_tables (skip k) refl u;
      }
  entered-after (pair i j d) h =
      λ u.
      record {
        pairs = more is_pair c.pairs (pair i j d) 1 refl u;
        skips = same-skips (pair i j d) (λ k. refl) u;
        largest = larger (pair i j d) (nat_abs d) refl u;
        tables = both-tables i j d h.0 h.1 u;
      }

-- the step law: an accepted quote on the memory of quotes makes the memory of the quotes with it
pub step-memory : (R : Rule) → Lawful R → (l : R.Last) (c : Counts) (qs : List R.Quote) (q : R.Quote)
    → step R (memory_of R l c qs) q ≡ memory_of R l c (qs ++ q ∷ [])
step-memory R W l c qs q =
    λ u.
    record {
      last = sym (carried-snoc R l qs q) u;
      counts =
          (entered-after R.kinds R.states R.mirror W.mirror-below c (events R l qs) (R.event (carried R l qs) q) (W.event-in (carried R l qs) q)
          ∙ ap (after R.kinds R.states R.mirror c) (sym (events-snoc R l qs q)))
          u;
    }

-- Rows judged one after another, and the table written one after another.
use Prim.Native.Nat.{ℕ, zero, suc, ◌+◌, ◌*◌, ◌<◌}
use mathlib.Core.Path.{◌≡◌, refl, sym, ap, ◌∙◌}
use mathlib.Core.Bool.{Bool, true, false, not, ◌||◌}
use mathlib.Core.List.{List}
use native.Mathlib.Numerals.{add-one}
use native.Mathlib.Omega.{arith}
use borrow.Author.Tests.{not-true, not-false}
use lib.Dec.{eqb}
use lib.ListN.{length, get_or, length-append}
use lib.Seq.{sets}
use Rattle.basics.proofs.Stores.{sets-append, sets-whole}
use Rattle.fit_marking.specs.Below.{some_to}
use Rattle.fit_marking.specs.Marks.{observations, mark_at}
use Rattle.fit_marking.specs.Tables.{cells_in}
use Rattle.fit_marking.proofs.Rows.{any-least}
use Rattle.fit_marking.proofs.Below.{some-none, some_at, some-step, some_more}
use Rattle.model.specs.Rows.{row_words}
use Rattle.model.specs.declared.StateEstimate.{StateEstimate}
use Rattle.fit_linear.specs.Inner.{from}
use Rattle.fit_series.specs.Inner.{sum_at, share_at, solved_g1}
use Rattle.quotes.specs.States.{bucket_in, spread_in}
use Rattle.std.specs.Prelude.{Ok, Err}
use Rattle.refusals.specs.declared.Refusal.TheVariants.{NoCalibratedState, Unrepresentable}
use Rattle.fit_estimates.specs.Estimates.{estimate_of, solved_at, representable}
use Rattle.fit_estimates.specs.declared.Solved.{Solved}
use Rattle.fit.specs.Fit.{judged_rows, table_of, fit_answer}
use Rattle.fit.specs.InnerInput.{estimates_in}
use Rattle.fit.specs.declared.inner.SolvedInput.{SolvedInput}

-- ---- the rows that scratch holds

-- state i's row, made of what scratch has for it and its mirror, of its observations and of its mark
pub row_made : (x : SolvedInput) (i : ℕ) → i < x.marked.input.tables.pairs.states
    → {s : Solved}
    → s
    ≡ solved_at (λ k. get_or x.marked.input.mirrors.now i 0) (solved_g1 x.marked.input.tables.pairs.states x.scratch.now)
    (from (sum_at x.marked.input.tables.pairs.states) x.scratch.now) (from (share_at x.marked.input.tables.pairs.states) x.scratch.now) i
    → {o : ℕ} → o ≡ observations (cells_in x.marked.input.tables.pairs 0) i
    → {e : StateEstimate}
    → e ≡ estimate_of x.marked.input.tick (bucket_in x.marked.input.buckets i + 1) (spread_in x.marked.input.buckets i) (mark_at x.marked.marks.now i) o s
    → e ≡ estimates_in x i
row_made x i h is-s is-o is-e =
    let f = x.marked.input in
    let p = f.tables.pairs in
    is-e
    ∙ (λ j. estimate_of f.tick (bucket_in f.buckets i + 1) (spread_in f.buckets i) (x.marked.marked.each i h j)
    ((is-o ∙ sym (any-least p.states f.least p.stay.now p.moved.now i)) j) (is-s j))

-- ---- judged

-- the rows below i can be represented, and found says whether one is Calibrated
pub record Seen (rows : ℕ → StateEstimate) (i : ℕ) (found : Bool) : Type 0 where
  pub held : some_to i (λ k. not (representable (rows k))) ≡ false
  pub found-is : found ≡ some_to i (λ k. eqb (rows k).status 0)

pub seen_none : {rows : ℕ → StateEstimate} → Seen rows 0 false
seen_none = record { held = some-none _; found-is = sym (some-none _) }

module _ {rows : ℕ → StateEstimate} {i : ℕ} {found : Bool} (s : Seen rows i found) where
  module _ {e : StateEstimate} {r : Bool} (is : e ≡ rows i) (said : r ≡ representable e) where
    pub judged-no : (n : ℕ) → i < n → not r ≡ true → Err Unrepresentable ≡ fit_answer (judged_rows n rows)
    unfolding judged_rows
    judged-no n h fails = rw (some_at n (λ k. not (representable (rows k))) i h (ap (λ e. not (representable e)) (sym is) ∙ ap not (sym said) ∙ fails))

    pub seen_more : not r ≡ false → Seen rows (i + 1) (found || eqb e.status 0)
    seen_more holds =
        record {
          held = some_more i (λ k. not (representable (rows k))) s.held (ap (λ e. not (representable e)) (sym is) ∙ ap not (sym said) ∙ holds);
          found-is =
              (λ j. s.found-is j || eqb (is j).status 0)
              ∙ sym (ap (λ j. some_to j (λ k. eqb (rows k).status 0)) (add-one i) ∙ some-step i (λ k. eqb (rows k).status 0));
        }

  -- all n rows are seen
  module _ {n : ℕ} (all : i ≡ n) where
    pub judged-none : not found ≡ true → Err NoCalibratedState ≡ fit_answer (judged_rows n rows)
    unfolding judged_rows
    judged-none none = rw (← all, s.held, ← s.found-is, not-true found none)

    pub judged-fine : not found ≡ false → Ok tt ≡ fit_answer (judged_rows n rows)
    unfolding judged_rows
    judged-fine one = rw (← all, s.held, ← s.found-is, not-false found one)

-- ---- written

pub length-table : (n : ℕ) (rows : ℕ → StateEstimate) → length (table_of n rows) ≡ 7 * n
length-table zero rows = refl
length-table (suc n) rows = length-append (table_of n rows) (row_words (rows n)) ∙ omega (arith, length-table n rows)

-- a row more
pub table_more : (n i : ℕ) (rows : ℕ → StateEstimate) (e : StateEstimate) (l m : List ℕ) → e ≡ rows i → m ≡ sets l 0 (table_of i rows)
    → sets m (7 * i) (row_words e) ≡ sets l 0 (table_of (i + 1) rows)
table_more n i rows e l m is-e is_m =
    (λ j. sets (is_m j) (7 * i) (row_words (is-e j)))
    ∙ ap (λ k. sets (sets l 0 (table_of i rows)) k (row_words (rows i)))
    (let q : 7 * i ≡ 0 + length (table_of i rows) = omega (arith, length-table i rows) in q)
    ∙ sym (sets-append (table_of i rows) (row_words (rows i)) l 0)
    ∙ ap (λ k. sets l 0 (table_of k rows)) (sym (add-one i))

pub table-whole : (n : ℕ) (rows : ℕ → StateEstimate) (l : List ℕ) → length l ≡ 7 * n → sets l 0 (table_of n rows) ≡ table_of n rows
table-whole n rows l e = sets-whole (table_of n rows) l (length-table n rows ∙ sym e)

-- a loop over the rows of a table, of which the first i are written
pub record Writing (rows : ℕ → StateEstimate) (before : List ℕ) (i : ℕ) (after : List ℕ) : Type 0 where
  pub stored : after ≡ sets before 0 (table_of i rows)

module _ {rows : ℕ → StateEstimate} {l : List ℕ} {i : ℕ} {m : List ℕ} (w : Writing rows l i m) where
  pub writing_more : {e : StateEstimate} {after : List ℕ} → e ≡ rows i → after ≡ sets m (7 * i) (row_words e) → Writing rows l (i + 1) after
  writing_more {e} is put = record { stored = put ∙ table_more (i + 1) i rows e l m is w.stored }

  pub writing-all : {n : ℕ} → i ≡ n → length l ≡ 7 * n → m ≡ table_of n rows
  writing-all {n} all long = (rw all at w.stored) ∙ table-whole n rows l long

-- The part that a window hands out: its quotes are the quotes inside, in order, and none for a refusal.
use Prim.Native.Nat.{ℕ, ◌+◌, ◌-◌, ◌*◌, ◌≤◌, ◌<◌}
use mathlib.Core.Path.{◌≡◌, refl, sym, ap, ◌∙◌}
use mathlib.Core.Bool.{true, false, not, ◌||◌, and-false}
use mathlib.Core.List.{List, [], ◌∷◌}
use mathlib.Core.Logic.{◌⊎◌, inl, inr}
use native.Mathlib.Nat.{zero-add}
use native.Mathlib.Numerals.{one-add}
use native.Mathlib.Omega.{arith}
use lib.Dec.{leb, ltb, eqb}
use lib.ListN.{length, take, drop}
use borrow.Author.Tests.{eq-eqb, ne_eqb, le-leb, lt-leb, lt-ltb, le-ltb, not-false}
use Rattle.basics.specs.Lists.{count, any}
use Rattle.basics.proofs.Tests.{le-or-lt}
use Rattle.refusals.specs.Refusals.{refuse_if, first_of, Check}
use Rattle.refusals.proofs.Refusals.{if-fine, first_fine}
use Rattle.std.specs.Prelude.{Result, Ok, Err}
use Rattle.refusals.specs.declared.Refusal.{Refusal}
use Rattle.quotes.specs.declared.TopOfBook.{TopOfBook}
use Rattle.calibrator.specs.Observe.{refuses}
use Rattle.recording.specs.Recording.{quotes_of, uneven, sorted_from, sorted, filter}
use Rattle.recording.specs.Window.{inside, before, backward, check_window, ends_of, window_unless, window_of, part_ends, part_of}
use Rattle.recording.specs.declared.Ends.{Ends}
use Rattle.recording.proofs.Recordings.{sorted-known, sorted_filter, part_length, part-even, part-quotes}
use Rattle.recording.proofs.Windows.{none_before, any-count, ends-lie}

module _ (start end : ℕ) where
  none_after : (t : ℕ) (qs : List TopOfBook) → sorted_from t qs ≡ true → end ≤ t → count (inside start end) qs ≡ 0
  none_after t [] e h = refl
  none_after t (q ∷ qs) e h =
      let k = sorted-known t q qs e in
      let r = none_after q.timestamp_ms qs k.1 (omega (arith, k.0)) in
      rw (le-ltb q.timestamp_ms end (omega (arith, k.0)), r, and-false (leb start q.timestamp_ms))

  picked : (t : ℕ) (qs : List TopOfBook) → sorted_from t qs ≡ true
      → take (count (inside start end) qs) (drop (count (before start) qs) qs) ≡ filter (inside start end) qs
  picked t [] e = refl
  picked t (q ∷ qs) e =
      let k = sorted-known t q qs e in
      go k.1 (picked q.timestamp_ms qs k.1) (le-or-lt start q.timestamp_ms) (le-or-lt end q.timestamp_ms)
    where
      go : sorted_from q.timestamp_ms qs ≡ true → take (count (inside start end) qs) (drop (count (before start) qs) qs) ≡ filter (inside start end) qs
          → (start ≤ q.timestamp_ms) ⊎ (q.timestamp_ms < start) → (end ≤ q.timestamp_ms) ⊎ (q.timestamp_ms < end)
          → take (count (inside start end) (q ∷ qs)) (drop (count (before start) (q ∷ qs)) (q ∷ qs)) ≡ filter (inside start end) (q ∷ qs)
      go s r (inr a) b = rw (lt-ltb q.timestamp_ms start a, lt-leb start q.timestamp_ms a, one-add, zero-add) r
      go s r (inl a) (inl b) =
          let n = none_after q.timestamp_ms qs s b in
          rw (le-ltb q.timestamp_ms start a, le-leb start q.timestamp_ms a, le-ltb q.timestamp_ms end b, n) (rw n at r)
      go s r (inl a) (inr b) =
          let n = none_before q.timestamp_ms start qs s a in
          rw (le-ltb q.timestamp_ms start a, le-leb start q.timestamp_ms a, lt-ltb q.timestamp_ms end b, n, one-add)
          (ap (λ (l : List TopOfBook). q ∷ l) (rw n at r))

  -- the part's quotes are the quotes inside
  pub window-inside : (qs : List TopOfBook) → sorted qs ≡ true
      → take ((ends_of start end qs).past - (ends_of start end qs).first) (drop (ends_of start end qs).first qs) ≡ filter (inside start end) qs
  window-inside qs e =
      ap (λ (n : ℕ). take n (drop (count (before start) qs) qs))
      (let z : count (before start) qs + count (inside start end) qs - count (before start) qs ≡ count (inside start end) qs = omega arith in z)
      ∙ picked 0 qs e

none-counted : (n : ℕ) → eqb (5 * n) 0 ≡ not (ltb 0 n)
none-counted n = go (le-or-lt n 0)
  where
    go : (n ≤ 0) ⊎ (0 < n) → eqb (5 * n) 0 ≡ not (ltb 0 n)
    go (inl h) = rw (le-ltb 0 n h) (eq-eqb (5 * n) 0 (omega arith))
    go (inr h) = rw (lt-ltb 0 n h) (ne_eqb (5 * n) 0 (λ e. omega arith))

module _ (w : List ℕ) (start end : ℕ) where
  -- the words that quotes_in hands out
  abbrev pub handed : List ℕ
  handed = part_of (part_ends (window_of w start end)).first (part_ends (window_of w start end)).past w

  -- as code has its part
  pub handed-known : (found : Result Ends Refusal) (e : Ends) (part : List ℕ) → found ≡ window_of w start end → e ≡ part_ends found
      → part ≡ part_of e.first e.past w
      → part ≡ handed
  handed-known found e part f h p = p ∙ ap (λ (x : Ends). part_of x.first x.past w) (h ∙ ap part_ends f)

  -- whole quotes
  pub handed-even : uneven handed ≡ false
  handed-even =
      part-even w (part_ends (window_of w start end)).first (part_ends (window_of w start end)).past (ends-lie w start end).0 (ends-lie w start end).1

  -- where nothing is refused, the ends are those of the quotes inside, and the times are in order
  ends-are : check_window w start end ≡ Ok tt → part_ends (window_of w start end) ≡ ends_of start end (quotes_of w)
  ends-are f = ap (λ (k : Check). part_ends (window_unless k (ends_of start end (quotes_of w)))) f

  fine-sorted : check_window w start end ≡ Ok tt → sorted (quotes_of w) ≡ true
  fine-sorted f =
      let a = first_fine (refuse_if (uneven w) 7) (first_of (refuse_if (not (sorted (quotes_of w))) 14) (refuse_if (backward start end (quotes_of w)) 15)) f in
      let b = first_fine (refuse_if (not (sorted (quotes_of w))) 14) (refuse_if (backward start end (quotes_of w)) 15) a.1 in
      not-false (sorted (quotes_of w)) (if-fine (not (sorted (quotes_of w))) 14 refl b.0)

  pub handed-quotes : check_window w start end ≡ Ok tt → quotes_of handed ≡ filter (inside start end) (quotes_of w)
  handed-quotes f =
      part-quotes w (part_ends (window_of w start end)).first (part_ends (window_of w start end)).past (ends-lie w start end).0 (ends-lie w start end).1
      ∙ ap (λ (x : Ends). take (x.past - x.first) (drop x.first (quotes_of w))) (ends-are f)
      ∙ window-inside start end (quotes_of w) (fine-sorted f)

  -- a refusal hands out nothing
  pub handed-none : (r : Refusal) → check_window w start end ≡ Err r → handed ≡ []
  handed-none r f =
      ap (λ (k : Check). let x = part_ends (window_unless k (ends_of start end (quotes_of w))) in part_of x.first x.past w) f

  pub handed-sorted : sorted (quotes_of handed) ≡ true
  handed-sorted = go (check_window w start end) refl
    where
      go : (k : Check) → check_window w start end ≡ k → sorted (quotes_of handed) ≡ true
      go (Ok _) f =
          ap sorted (handed-quotes f) ∙ sorted_filter (inside start end) 0 (quotes_of w) (fine-sorted f)
      go (Err r) f = ap (λ (l : List ℕ). sorted (quotes_of l)) (handed-none r f)

  handed-length : check_window w start end ≡ Ok tt → length handed ≡ 5 * count (inside start end) (quotes_of w)
  handed-length f =
      part_length w (part_ends (window_of w start end)).first (part_ends (window_of w start end)).past (ends-lie w start end).0 (ends-lie w start end).1
      ∙ ap (λ (x : Ends). 5 * (x.past - x.first)) (ends-are f)
      ∙ (let z : 5 * (count (before start) (quotes_of w) + count (inside start end) (quotes_of w) - count (before start) (quotes_of w)) ≡ 5 * count
      (inside start end) (quotes_of w) = omega arith in z)

  -- empty exactly if the window is refused or holds no quote
  pub handed-empty : eqb (length handed) 0 ≡ (refuses (check_window w start end) || not (any (inside start end) (quotes_of w)))
  handed-empty = go (check_window w start end) refl
    where
      go : (k : Check) → check_window w start end ≡ k → eqb (length handed) 0 ≡ (refuses k || not (any (inside start end) (quotes_of w)))
      go (Err r) f = ap (λ (l : List ℕ). eqb (length l) 0) (handed-none r f)
      go (Ok _) f =
          ap (λ (n : ℕ). eqb n 0) (handed-length f) ∙ none-counted (count (inside start end) (quotes_of w))
          ∙ sym (ap not (any-count (inside start end) (quotes_of w)))

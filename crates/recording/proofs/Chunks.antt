-- A recording's words by fives: the quotes of the fives are the recording's, and so are their times.
use Prim.Native.Nat.{ℕ, zero, suc, ◌+◌, ◌*◌, ◌/◌, ◌≤◌, ◌<◌}
use mathlib.Core.Path.{◌≡◌, refl, sym, ap, ◌∙◌}
use mathlib.Core.Bool.{Bool, true, false}
use mathlib.Core.List.{List, [], ◌∷◌}
use mathlib.Core.Logic.{◌⊎◌, inl, inr}
use native.Mathlib.Nat.{not-suc-le-zero, le_of_suc-le-suc}
use native.Mathlib.Numerals.{add-one}
use native.Mathlib.Omega.{arith}
use lib.Dec.{ltb}
use lib.ListN.{length, get_or, take, drop}
use lib.Seq.{get_or-take, get_or-drop}
use borrow.Author.Tests.{le-leb, ltb-true, ltb-false, tests}
use Rattle.std.specs.Simd.{first_chunks}
use Rattle.std.specs.Prelude.{Some}
use Rattle.std.specs.List.{IsAllAdjacentAnswer, AllWithin}
use Rattle.std.specs.List.Sorted.{IsNonDecreasingBy, IsPartitionPoint}
use Rattle.std.specs.Ordering.{nat_cmp, is_le, is_some_and}
use Rattle.std.proofs.lemmas.List.Sorted.{IsNonDecreasingBy-from_all_adjacent}
use Rattle.std.proofs.lemmas.Map.Keys.{le_from_is_le}
use Rattle.basics.specs.Lists.{count}
use Rattle.basics.proofs.Tests.{le-or-lt, fails}
use Rattle.quotes.specs.declared.TopOfBook.{TopOfBook}
use Rattle.recording.specs.Recording.{time_at, quote_at, quotes_of, sorted_from, sorted}
use Rattle.recording.specs.Window.{before}
use Rattle.recording.proofs.Recordings.{sorted-known, sorted-at, quotes-length, quotes-at}
use Rattle.recording.proofs.Windows.{count_most, before-past, before-most}

-- ---- the quotes of the fives

first-word : (w : List ℕ) (f : ℕ) → f < 5 → get_or (take 5 w) f 0 ≡ get_or w f 0
first-word w f h = get_or-take 5 w f 0 h

next-word : (w : List ℕ) (i f : ℕ) → get_or (drop 5 w) (5 * i + f) 0 ≡ get_or w (5 * (suc i) + f) 0
next-word w i f = get_or-drop 5 w (5 * i + f) 0 ∙ ap (λ (n : ℕ). get_or w n 0) (let z : 5 + (5 * i + f) ≡ 5 * (suc i) + f = omega arith in z)

next-time : (w : List ℕ) (i : ℕ) → get_or (drop 5 w) (5 * i) 0 ≡ get_or w (5 * (suc i)) 0
next-time w i = get_or-drop 5 w (5 * i) 0 ∙ ap (λ (n : ℕ). get_or w n 0) (let z : 5 + 5 * i ≡ 5 * (suc i) = omega arith in z)

first-quote : (w : List ℕ) → quote_at (take 5 w) 0 ≡ quote_at w 0
first-quote w =
    λ t.
    record {
      timestamp_ms = first-word w 0 (omega arith) t;
      bid = first-word w 1 (omega arith) t;
      ask = first-word w 2 (omega arith) t;
      bid_size = first-word w 3 (omega arith) t;
      ask_size = first-word w 4 (omega arith) t;
    }

next-quote : (w : List ℕ) (i : ℕ) → quote_at (drop 5 w) i ≡ quote_at w (suc i)
next-quote w i =
    λ t.
    record {
      timestamp_ms = next-time w i t;
      bid = next-word w i 1 t;
      ask = next-word w i 2 t;
      bid_size = next-word w i 3 t;
      ask_size = next-word w i 4 t;
    }

chunk-quote : (n : ℕ) (w : List ℕ) (i : ℕ) (d : List ℕ) → i < n → quote_at (get_or (first_chunks 5 n w) i d) 0 ≡ quote_at w i
chunk-quote zero w i d h = absurd (not-suc-le-zero h)
chunk-quote (suc n) w zero d h = first-quote w
chunk-quote (suc n) w (suc i) d h = chunk-quote n (drop 5 w) i d (le_of_suc-le-suc h) ∙ next-quote w i

-- ---- in order

-- quotes are in order if each is not before the one before it
rising : (t : ℕ) (qs : List TopOfBook) (d : TopOfBook) → (0 < length qs → t ≤ (get_or qs 0 d).timestamp_ms)
    → ((k : ℕ) → suc k < length qs → (get_or qs k d).timestamp_ms ≤ (get_or qs (suc k) d).timestamp_ms) → sorted_from t qs ≡ true
rising t [] d first rise = refl
rising t (q ∷ qs) d first rise =
    rw (le-leb t q.timestamp_ms (first (omega arith)))
    (rising q.timestamp_ms qs d (λ l. rise 0 (omega arith)) (λ k l. rise (suc k) (omega arith)))

-- and only then
risen : (t : ℕ) (qs : List TopOfBook) (d : TopOfBook) (k : ℕ) → sorted_from t qs ≡ true → suc k < length qs
    → (get_or qs k d).timestamp_ms ≤ (get_or qs (suc k) d).timestamp_ms
risen t [] d k e h = absurd (not-suc-le-zero h)
risen t (q ∷ qs) d zero e h = sorted-at q.timestamp_ms qs 0 d (sorted-known t q qs e).1 (le_of_suc-le-suc h)
risen t (q ∷ qs) d (suc k) e h = risen q.timestamp_ms qs d k (sorted-known t q qs e).1 (le_of_suc-le-suc h)

module _ (w : List ℕ) where
  time-of : (i : ℕ) → i < length w / 5 → (get_or (quotes_of w) i (quote_at w 0)).timestamp_ms ≡ time_at w i
  time-of i h = ap (λ (q : TopOfBook). q.timestamp_ms) (quotes-at w i (quote_at w 0) h)

  times-rising : ((k : ℕ) → k + 1 < length w / 5 → time_at w k ≤ time_at w (k + 1)) → sorted (quotes_of w) ≡ true
  times-rising rise =
      rising 0 (quotes_of w) (quote_at w 0) (λ _. omega arith)
      (λ k l.
      let h : k + 1 < length w / 5 = omega (arith, quotes-length w) in
      rw (← add-one k, time-of k (omega arith), time-of (k + 1) h) (rise k h))

  times-risen : sorted (quotes_of w) ≡ true → (k : ℕ) → k + 1 < length w / 5 → time_at w k ≤ time_at w (k + 1)
  times-risen e k h =
      rw (← time-of k (omega arith), ← time-of (k + 1) h, add-one k) (risen 0 (quotes_of w) (quote_at w 0) k e (omega (arith, quotes-length w)))

-- ---- as code has its fives

-- the time of five words
abbrev pub first_word : List ℕ → ℕ
first_word five = get_or five 0 0

not-le : (a b : ℕ) → is_le (nat_cmp a b) ≡ false → b < a
not-le a b e = grind (arith, tests)

module _ (w : List ℕ) (fives : List (List ℕ)) (front : fives ≡ first_chunks 5 (length w / 5) w) (long : length fives ≡ length w / 5) where
  pub five-quote : (i : ℕ) (d : List ℕ) → i < length w / 5 → quote_at (get_or fives i d) 0 ≡ quote_at w i
  five-quote i d h = ap (λ (l : List (List ℕ)). quote_at (get_or l i d) 0) front ∙ chunk-quote (length w / 5) w i d h

  five-time : (i : ℕ) (d : List ℕ) → i < length w / 5 → first_word (get_or fives i d) ≡ time_at w i
  five-time i d h = ap (λ (q : TopOfBook). q.timestamp_ms) (five-quote i d h)

  -- what a test of neighbours answers
  pub fives-sorted : (r : Bool) → IsAllAdjacentAnswer (λ x y b. b ≡ is_some_and is_le (Some (nat_cmp (first_word x) (first_word y)))) fives r
      → r ≡ sorted (quotes_of w)
  fives-sorted true h =
      sym (times-rising w (λ k l.
      let here = first_word (get_or fives k []) in
      let next = first_word (get_or fives (k + 1) []) in
      omega (arith, five-time k [] (omega arith), five-time (k + 1) [] l, le_from_is_le here next (sym (h k [] (omega arith))))))
  fives-sorted false h =
      sym (fails (sorted (quotes_of w)) (λ e.
      let here = first_word (get_or fives h.0 []) in
      let next = first_word (get_or fives (h.0 + 1) []) in
      omega (arith, times-risen w e h.0 (omega arith), five-time h.0 [] (omega arith), five-time (h.0 + 1) [] (omega arith), not-le here next (sym (h.2 [])))))

  pub fives-rise : sorted (quotes_of w) ≡ true → IsNonDecreasingBy first_word fives
  fives-rise e =
      IsNonDecreasingBy-from_all_adjacent first_word fives
      (λ k d l. omega (arith, times-risen w e k (omega arith), five-time k d (omega arith), five-time (k + 1) d (omega arith)))

  -- where the times before x end is how many they are
  pub fives-before : (x : ℕ) → sorted (quotes_of w) ≡ true → (i : ℕ) → i ≤ length fives
      → IsPartitionPoint (λ y. ltb (first_word y) x ≡ true) (λ y. ltb (first_word y) x ≡ false) fives i → i ≡ count (before x) (quotes_of w)
  fives-before x e i l parted = omega (arith, lower i l parted.0, upper (le-or-lt (length w / 5) i))
    where
      lower : (j : ℕ) → j ≤ length fives → AllWithin (λ y. ltb (first_word y) x ≡ true) fives 0 j → j ≤ count (before x) (quotes_of w)
      lower zero k all = omega arith
      lower (suc j) k all =
          omega (
            arith,
            before-past w x j e (omega arith) (omega (arith, five-time j [] (omega arith), ltb-true _ _ (all j [] (omega arith) (omega arith)))),
          )

      upper : (length w / 5 ≤ i) ⊎ (i < length w / 5) → count (before x) (quotes_of w) ≤ i
      upper (inl k) = omega (arith, count_most (before x) (quotes_of w), quotes-length w)
      upper (inr k) =
          before-most w x i e k (omega (arith, five-time i [] k, ltb-false _ _ (parted.1 i [] (omega arith) (omega arith))))

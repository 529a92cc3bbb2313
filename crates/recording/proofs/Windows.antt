-- The window's ends by how many quotes are before its two times, and its answers.
use Prim.Native.Nat.{ℕ, zero, suc, ◌+◌, ◌/◌, ◌%◌, ◌≤◌, ◌<◌}
use mathlib.Core.Path.{◌≡◌, refl, sym, ap, ◌∙◌}
use mathlib.Core.Bool.{Bool, true, false, ◌||◌}
use mathlib.Core.List.{List, [], ◌∷◌}
use mathlib.Core.Logic.{◌⊎◌, inl, inr}
use native.Mathlib.Nat.{not-suc-le-zero, le_of_suc-le-suc}
use native.Mathlib.Omega.{arith}
use lib.Dec.{ltb}
use lib.ListN.{length, get_or}
use borrow.Author.Tests.{eq-eqb, le-leb, lt-leb, lt-ltb, le-ltb, ltb-true}
use Rattle.basics.specs.Lists.{bit, count, any}
use Rattle.basics.proofs.Tests.{le-or-lt, same_test}
use Rattle.refusals.specs.Refusals.{Check}
use Rattle.std.specs.Prelude.{Result, Ok, Err}
use Rattle.std.specs.Result.{ResultUnwrapsOrElse}
use Rattle.refusals.specs.declared.Refusal.{Refusal}
use Rattle.refusals.specs.declared.Refusal.TheVariants.{WindowBackward}
use Rattle.quotes.specs.declared.TopOfBook.{TopOfBook}
use Rattle.recording.specs.Recording.{time_at, quote_at, quotes_of, sorted_from, sorted}
use Rattle.recording.specs.Window.{inside, before, backward, check_window, ends_of, window_unless, window_of, part_ends}
use Rattle.recording.specs.declared.Ends.{Ends}
use Rattle.recording.proofs.Recordings.{sorted-known, sorted-at, quotes-length, quotes-at}

pub bit-most : (b : Bool) → bit b ≤ 1
bit-most true = omega arith
bit-most false = omega arith

pub count_most : {A : Type 0} (p : A → Bool) (xs : List A) → count p xs ≤ length xs
count_most p [] = omega arith
count_most p (x ∷ xs) = omega (arith, bit-most (p x), count_most p xs)

pub any-count : {A : Type 0} (p : A → Bool) (xs : List A) → any p xs ≡ ltb 0 (count p xs)
any-count p [] = refl
any-count p (x ∷ xs) = go (p x) (any-count p xs)
  where
    go : (b : Bool) → any p xs ≡ ltb 0 (count p xs) → (b || any p xs) ≡ ltb 0 (bit b + count p xs)
    go true r = sym (lt-ltb 0 (1 + count p xs) (omega arith))
    go false r = r ∙ ap (ltb 0) (let z : count p xs ≡ 0 + count p xs = omega arith in z)

-- a sum is larger if something is added
some_more : (a b n : ℕ) → b ≡ a + n → ltb 0 n ≡ ltb a b
some_more a b n e =
    same_test (ltb 0 n) (ltb a b) (λ t. lt-ltb a b (omega (arith, ltb-true 0 n t))) (λ t. lt-ltb 0 n (omega (arith, ltb-true a b t)))

-- ---- how many quotes in order are before a time

pub none_before : (t x : ℕ) (qs : List TopOfBook) → sorted_from t qs ≡ true → x ≤ t → count (before x) qs ≡ 0
none_before t x [] e h = refl
none_before t x (q ∷ qs) e h =
    let k = sorted-known t q qs e in
    let r = none_before q.timestamp_ms x qs k.1 (omega (arith, k.0)) in
    rw (le-ltb q.timestamp_ms x (omega (arith, k.0)), r)

before_above : (t x : ℕ) (qs : List TopOfBook) (i : ℕ) (d : TopOfBook) → sorted_from t qs ≡ true → i < length qs → (get_or qs i d).timestamp_ms < x
    → i < count (before x) qs
before_above t x [] i d e h l = absurd (not-suc-le-zero h)
before_above t x (q ∷ qs) zero d e h l = rw (lt-ltb q.timestamp_ms x l) (omega arith)
before_above t x (q ∷ qs) (suc i) d e h l =
    let k = sorted-known t q qs e in
    let a = sorted-at q.timestamp_ms qs i d k.1 (le_of_suc-le-suc h) in
    let r = before_above q.timestamp_ms x qs i d k.1 (le_of_suc-le-suc h) l in
    rw (lt-ltb q.timestamp_ms x (omega arith)) (omega arith)

before-below : (t x : ℕ) (qs : List TopOfBook) (i : ℕ) (d : TopOfBook) → sorted_from t qs ≡ true → i < length qs → x ≤ (get_or qs i d).timestamp_ms
    → count (before x) qs ≤ i
before-below t x [] i d e h l = absurd (not-suc-le-zero h)
before-below t x (q ∷ qs) zero d e h l =
    let k = sorted-known t q qs e in
    let r = none_before q.timestamp_ms x qs k.1 l in
    rw (le-ltb q.timestamp_ms x l) (omega arith)
before-below t x (q ∷ qs) (suc i) d e h l =
    let k = sorted-known t q qs e in
    let r = before-below q.timestamp_ms x qs i d k.1 (le_of_suc-le-suc h) l in
    omega (arith, bit-most (before x q))

-- by the time of quote i of a recording
module _ (w : List ℕ) (x i : ℕ) (e : sorted (quotes_of w) ≡ true) (h : i < length w / 5) where
  here : (get_or (quotes_of w) i (quote_at w i)).timestamp_ms ≡ time_at w i
  here = ap (λ (q : TopOfBook). q.timestamp_ms) (quotes-at w i (quote_at w i) h)

  pub before-past : time_at w i < x → i + 1 ≤ count (before x) (quotes_of w)
  before-past l =
      omega
      (arith, before_above 0 x (quotes_of w) i (quote_at w i) e (rw (quotes-length w) h) (rw here l))

  pub before-most : x ≤ time_at w i → count (before x) (quotes_of w) ≤ i
  before-most l = before-below 0 x (quotes_of w) i (quote_at w i) e (rw (quotes-length w) h) (rw here l)

-- ---- the ends

module _ (start end : ℕ) where
  -- forward, the quotes before the end are those before the start and those inside
  before_split : start ≤ end → (qs : List TopOfBook) → count (before end) qs ≡ count (before start) qs + count (inside start end) qs
  before_split h [] = refl
  before_split h (q ∷ qs) = omega (arith, one (le-or-lt start q.timestamp_ms) (le-or-lt end q.timestamp_ms), before_split h qs)
    where
      one : (start ≤ q.timestamp_ms) ⊎ (q.timestamp_ms < start) → (end ≤ q.timestamp_ms) ⊎ (q.timestamp_ms < end)
          → bit (before end q) ≡ bit (before start q) + bit (inside start end q)
      one (inl a) (inl b) = rw (le-ltb q.timestamp_ms end b, le-ltb q.timestamp_ms start a, le-leb start q.timestamp_ms a)
      one (inl a) (inr b) = rw (lt-ltb q.timestamp_ms end b, le-ltb q.timestamp_ms start a, le-leb start q.timestamp_ms a)
      one (inr a) (inl b) = absurd (omega arith)
      one (inr a) (inr b) = rw (lt-ltb q.timestamp_ms end b, lt-ltb q.timestamp_ms start a, lt-leb start q.timestamp_ms a)

  -- backward, nothing is inside
  none_inside : end ≤ start → (qs : List TopOfBook) → count (inside start end) qs ≡ 0
  none_inside h [] = refl
  none_inside h (q ∷ qs) = omega (arith, one (le-or-lt start q.timestamp_ms), none_inside h qs)
    where
      one : (start ≤ q.timestamp_ms) ⊎ (q.timestamp_ms < start) → bit (inside start end q) ≡ 0
      one (inl a) =
          rw (le-leb start q.timestamp_ms a, le-ltb q.timestamp_ms end (omega arith))
      one (inr a) = rw (lt-leb start q.timestamp_ms a)

module _ (start end : ℕ) (qs : List TopOfBook) where
  -- 15's condition: the part would end before it begins
  pub backward-is : backward start end qs ≡ ltb (count (before end) qs) (count (before start) qs)
  backward-is = go (le-or-lt start end)
    where
      go : (start ≤ end) ⊎ (end < start) → backward start end qs ≡ ltb (count (before end) qs) (count (before start) qs)
      go (inl h) =
          rw (le-ltb end start h)
          (sym (le-ltb (count (before end) qs) (count (before start) qs) (omega (arith, before_split start end h qs))))
      go (inr h) =
          rw (lt-ltb end start h)
          (any-count (inside end start) qs
          ∙ some_more (count (before end) qs) (count (before start) qs) (count (inside end start) qs) (before_split end start (omega arith) qs))

  -- where it does not, it ends after the quotes before the end
  pub past_is : count (before start) qs ≤ count (before end) qs → count (before start) qs + count (inside start end) qs ≡ count (before end) qs
  past_is l = go (le-or-lt start end)
    where
      go : (start ≤ end) ⊎ (end < start) → count (before start) qs + count (inside start end) qs ≡ count (before end) qs
      go (inl h) = sym (before_split start end h qs)
      go (inr h) =
          omega (arith, none_inside start end (omega arith) qs, before_split end start (omega arith) qs)

  ends-most : (ends_of start end qs).past ≤ length qs
  ends-most = go (le-or-lt start end)
    where
      go : (start ≤ end) ⊎ (end < start) → (ends_of start end qs).past ≤ length qs
      go (inl h) = omega (arith, before_split start end h qs, count_most (before end) qs)
      go (inr h) = omega (arith, none_inside start end (omega arith) qs, count_most (before start) qs)

-- ---- the window's answers

module _ (w : List ℕ) (start end : ℕ) where
  module _ (even : length w % 5 ≡ 0) where
    module _ (f p : ℕ) (e : sorted (quotes_of w) ≡ true) (ef : f ≡ count (before start) (quotes_of w)) (ep : p ≡ count (before end) (quotes_of w)) where
      back : ltb p f ≡ backward start end (quotes_of w)
      back = rw (ef, ep) (sym (backward-is start end (quotes_of w)))

      pub way-backward : p < f → Err WindowBackward ≡ window_of w start end
      way-backward h = rw (eq-eqb (length w % 5) 0 even, e, ← back, lt-ltb p f h)

      pub way-part : f ≤ p → Ok (record { first = f; past = p }) ≡ window_of w start end
      way-part h =
          rw (eq-eqb (length w % 5) 0 even, e, ← back, le-ltb p f h)
          (λ t. Ok (record { first = ef t; past = (ep ∙ sym (past_is start end (quotes_of w) (rw (← ef, ← ep) h))) t }))

-- the ends that are found, or by default none
pub ends-or : (found : Result Ends Refusal) (e : Ends) → ResultUnwrapsOrElse found (λ x. (x.first ≡ 0) × (x.past ≡ 0)) e → e ≡ part_ends found
ends-or (Ok f) e is = is
ends-or (Err r) e is = λ i. record { first = is.0 i; past = is.1 i }

module _ (w : List ℕ) (start end : ℕ) where
  -- the part lies in the recording
  pub ends-lie : ((part_ends (window_of w start end)).first ≤ (part_ends (window_of w start end)).past) ×
      ((part_ends (window_of w start end)).past ≤ length w / 5)
  ends-lie = go (check_window w start end)
    where
      go : (k : Check)
          → ((part_ends (window_unless k (ends_of start end (quotes_of w)))).first ≤ (part_ends (window_unless k (ends_of start end (quotes_of w)))).past)
          × ((part_ends (window_unless k (ends_of start end (quotes_of w)))).past ≤ length w / 5)
      go (Ok _) = (omega arith, omega (arith, ends-most start end (quotes_of w), quotes-length w))
      go (Err r) = (omega arith, omega arith)

  -- as code has its ends
  pub ends-known : (found : Result Ends Refusal) (e : Ends) → found ≡ window_of w start end → e ≡ part_ends found → (e.first ≤ e.past) × (e.past ≤ length w / 5)
  ends-known found e f h = rw (h, f) ends-lie

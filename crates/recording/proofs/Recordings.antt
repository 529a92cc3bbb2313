-- A recording's quotes one by one, times in order, and the quotes of a part.
use Prim.Native.Nat.{ℕ, zero, suc, ◌+◌, ◌*◌, ◌-◌, ◌/◌, ◌%◌, ◌≤◌, ◌<◌}
use mathlib.Core.Path.{◌≡◌, refl, sym, ap, ◌∙◌}
use mathlib.Core.Bool.{Bool, true, false, not, cond}
use mathlib.Core.List.{List, [], ◌∷◌}
use native.Mathlib.Nat.{not-suc-le-zero, le_of_suc-le-suc}
use native.Mathlib.Numerals.{add-one}
use native.Mathlib.Omega.{arith}
use lib.Dec.{leb}
use lib.ListN.{length, get_or, take, drop, length-drop, drop_of_length-le}
use lib.Seq.{drop-cons, get_or-take, get_or-drop, length-take-le, ext_get_or}
use borrow.Author.Tests.{le-leb, leb-true, eq-eqb}
use Rattle.basics.proofs.Lists.{length-tab, get_or-tab}
use Rattle.basics.proofs.Tests.{both}
use Rattle.quotes.specs.declared.TopOfBook.{TopOfBook}
use Rattle.recording.specs.Recording.{time_at, quote_at, quotes_of, uneven, sorted_from, filter}
use Rattle.recording.specs.Window.{part_of}

module _ (w : List ℕ) where
  pub quotes-length : length (quotes_of w) ≡ length w / 5
  quotes-length = length-tab (length w / 5) (quote_at w)

  pub quotes-at : (i : ℕ) (d : TopOfBook) → i < length w / 5 → get_or (quotes_of w) i d ≡ quote_at w i
  quotes-at i d h = get_or-tab (length w / 5) (quote_at w) i d h

  -- from quote i on
  pub quotes-step : (i : ℕ) → i < length w / 5 → drop i (quotes_of w) ≡ quote_at w i ∷ drop (i + 1) (quotes_of w)
  quotes-step i h =
      drop-cons (quotes_of w) i (quote_at w i) (rw quotes-length h)
      ∙ (λ t. quotes-at i (quote_at w i) h t ∷ drop (sym (add-one i) t) (quotes_of w))

  pub quotes-end : (i : ℕ) → length w / 5 ≤ i → drop i (quotes_of w) ≡ []
  quotes-end i h = drop_of_length-le (quotes_of w) {i = i} (rw quotes-length h)

-- ---- in order

-- what is known of times in order
pub sorted-known : (t : ℕ) (q : TopOfBook) (qs : List TopOfBook) → sorted_from t (q ∷ qs) ≡ true
    → (t ≤ q.timestamp_ms) × (sorted_from q.timestamp_ms qs ≡ true)
sorted-known t q qs e =
    let b = both (leb t q.timestamp_ms) (sorted_from q.timestamp_ms qs) e in
    (leb-true t q.timestamp_ms b.0, b.1)

-- a lower bound may be lowered
pub sorted-lower : (s t : ℕ) (qs : List TopOfBook) → s ≤ t → sorted_from t qs ≡ true → sorted_from s qs ≡ true
sorted-lower s t [] h e = refl
sorted-lower s t (q ∷ qs) h e =
    let k = sorted-known t q qs e in
    rw (le-leb s q.timestamp_ms (omega (arith, k.0))) k.1

-- each time is at least the bound
pub sorted-at : (t : ℕ) (qs : List TopOfBook) (i : ℕ) (d : TopOfBook) → sorted_from t qs ≡ true → i < length qs → t ≤ (get_or qs i d).timestamp_ms
sorted-at t [] i d e h = absurd (not-suc-le-zero h)
sorted-at t (q ∷ qs) zero d e h = (sorted-known t q qs e).0
sorted-at t (q ∷ qs) (suc i) d e h =
    let k = sorted-known t q qs e in
    let a = sorted-at q.timestamp_ms qs i d k.1 (le_of_suc-le-suc h) in
    omega (arith, k.0)

-- quotes picked from quotes in order are in order
pub sorted_filter : (p : TopOfBook → Bool) (t : ℕ) (qs : List TopOfBook) → sorted_from t qs ≡ true → sorted_from t (filter p qs) ≡ true
sorted_filter p t [] e = refl
sorted_filter p t (q ∷ qs) e =
    let k = sorted-known t q qs e in
    go (p q) k.0 (sorted_filter p q.timestamp_ms qs k.1)
  where
    go : (b : Bool) → t ≤ q.timestamp_ms → sorted_from q.timestamp_ms (filter p qs) ≡ true → sorted_from t (cond b (q ∷ filter p qs) (filter p qs)) ≡ true
    go true h r = rw (le-leb t q.timestamp_ms h) r
    go false h r = sorted-lower t q.timestamp_ms (filter p qs) h r

-- ---- a part

module _ (w : List ℕ) (a e : ℕ) (from : a ≤ e) (to : e ≤ length w / 5) where
  pub part_length : length (part_of a e w) ≡ 5 * (e - a)
  part_length =
      length-take-le (5 * e - 5 * a) (drop (5 * a) w) (rw (length-drop (5 * a) w) (omega arith))
      ∙ (let z : 5 * e - 5 * a ≡ 5 * (e - a) = omega arith in z)

  pub part-even : uneven (part_of a e w) ≡ false
  part-even =
      ap not (eq-eqb (length (part_of a e w) % 5) 0 (let l = part_length in omega arith))

  part-word : (i f : ℕ) → i < e - a → f < 5 → get_or (part_of a e w) (5 * i + f) 0 ≡ get_or w (5 * (a + i) + f) 0
  part-word i f h k =
      get_or-take (5 * e - 5 * a) (drop (5 * a) w) (5 * i + f) 0 (omega arith)
      ∙ get_or-drop (5 * a) w (5 * i + f) 0
      ∙ ap (λ (n : ℕ). get_or w n 0) (let z : 5 * a + (5 * i + f) ≡ 5 * (a + i) + f = omega arith in z)

  part-time : (i : ℕ) → i < e - a → time_at (part_of a e w) i ≡ time_at w (a + i)
  part-time i h =
      get_or-take (5 * e - 5 * a) (drop (5 * a) w) (5 * i) 0 (omega arith)
      ∙ get_or-drop (5 * a) w (5 * i) 0
      ∙ ap (λ (n : ℕ). get_or w n 0) (let z : 5 * a + 5 * i ≡ 5 * (a + i) = omega arith in z)

  part-quote : (i : ℕ) → i < e - a → quote_at (part_of a e w) i ≡ quote_at w (a + i)
  part-quote i h =
      λ t.
      record {
        timestamp_ms = part-time i h t;
        bid = part-word i 1 h (omega arith) t;
        ask = part-word i 2 h (omega arith) t;
        bid_size = part-word i 3 h (omega arith) t;
        ask_size = part-word i 4 h (omega arith) t;
      }

  -- the quotes of a part are those from a up to e
  pub part-quotes : quotes_of (part_of a e w) ≡ take (e - a) (drop a (quotes_of w))
  part-quotes = ext_get_or (quote_at w 0) (quotes_of (part_of a e w)) (take (e - a) (drop a (quotes_of w))) (long ∙ sym short) at
    where
      long : length (quotes_of (part_of a e w)) ≡ e - a
      long = quotes-length (part_of a e w) ∙ (let l = part_length in let z : length (part_of a e w) / 5 ≡ e - a = omega arith in z)

      short : length (take (e - a) (drop a (quotes_of w))) ≡ e - a
      short =
          length-take-le (e - a) (drop a (quotes_of w)) (rw (length-drop a (quotes_of w), quotes-length w) (omega arith))

      at : (i : ℕ) → i < length (quotes_of (part_of a e w))
          → get_or (quotes_of (part_of a e w)) i (quote_at w 0) ≡ get_or (take (e - a) (drop a (quotes_of w))) i (quote_at w 0)
      at i h =
          let b : i < e - a = omega (arith, long) in
          let l = part_length in
          quotes-at (part_of a e w) i (quote_at w 0) (omega arith)
          ∙ part-quote i b
          ∙ sym (quotes-at w (a + i) (quote_at w 0) (omega arith))
          ∙ sym (get_or-drop a (quotes_of w) i (quote_at w 0))
          ∙ sym (get_or-take (e - a) (drop a (quotes_of w)) i (quote_at w 0) b)

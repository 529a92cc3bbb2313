-- From the numbers of a text to the answer of `read_text`.
use Prim.Native.Nat.{ℕ, zero, suc, ◌+◌, ◌-◌, ◌/◌, ◌%◌, ◌≤◌, ◌<◌}
use mathlib.Core.Path.{◌≡◌, refl, sym, ◌∙◌, ap}
use mathlib.Core.Bool.{Bool, true, false, cond, ◌&&◌}
use mathlib.Core.Logic.{◌⊎◌, inl, inr}
use mathlib.Core.List.{List, [], ◌∷◌}
use native.Mathlib.Omega.{arith}
use lib.Dec.{leb, eqb}
use lib.ListN.{length, get_or, drop, set, length-set}
use lib.Seq.{sets, get_or-set_same}
use borrow.Author.Tests.{leb-true}
use Rattle.std.specs.Prelude.{Option, None, Some}
use Rattle.std.proofs.lemmas.Option.{cond_some}
use Rattle.basics.proofs.Tests.{zero-not-one, both}
use Rattle.basics.proofs.Stores.{sets_below}
use Rattle.program_text.specs.Reading.{whole_lines, few_states, request_of, Reading, asked, bad_input, read_numbers, read_text, read_answer, recording_by, ReadBy}
use Rattle.program_text.specs.Inner.{begin, numbers_ended, fine, NumbersBy}
use Rattle.program_text.specs.declared.Request.{Request}

-- stores may run over the end: what lies within can be read
pub sets-within : (vs l : List ℕ) (i k : ℕ) → k < length vs → i + k < length l → get_or (sets l i vs) (i + k) 0 ≡ get_or vs k 0
sets-within [] l i k h r = absurd (omega arith)
sets-within (v ∷ vs) l i zero h r =
    ap (λ (j : ℕ). get_or (sets (set l i v) (suc i) vs) j 0) (let e : i + 0 ≡ i = omega arith in e)
    ∙ sets_below 0 vs (set l i v) (suc i) i (omega arith)
    ∙ get_or-set_same l i v 0 (omega arith)
sets-within (v ∷ vs) l i (suc k) h r =
    ap (λ (j : ℕ). get_or (sets (set l i v) (suc i) vs) j 0) (let e : i + suc k ≡ suc i + k = omega arith in e)
    ∙ sets-within vs (set l i v) (suc i) k (omega arith) (omega (arith, length-set l i v))

pub front : (vs l : List ℕ) (k : ℕ) → k < length vs → k < length l → get_or (sets l 0 vs) k 0 ≡ get_or vs k 0
front vs l k h r =
    let e : k ≡ 0 + k = omega arith in
    ap (λ (j : ℕ). get_or (sets l 0 vs) j 0) e ∙ sets-within vs l 0 k h (omega arith)

-- whole lines are at least line 1
pub whole-least : (m : ℕ) → whole_lines m ≡ true → 7 ≤ m
whole-least m e = leb-true 7 m (both (leb 7 m) (eqb ((m - 7) % 5) 0 && leb ((m - 7) / 5) 1000) e).0

one_false : (x y : Bool) → (x ≡ false) ⊎ (y ≡ false) → (x && y) ≡ false
one_false x y (inl e) = ap (λ (t : Bool). t && y) e
one_false true y (inr e) = e
one_false false y (inr e) = refl

-- how many numbers there are, if each byte may stand where it does
none-known : (f : Bool) (m : ℕ) → None ≡ cond f (Some m) None → f ≡ false
none-known true m e = absurd (zero-not-one cc)
none-known false m e = refl

-- a text is answered by what it reads
read_by : (g h : Reading) (before : List ℕ) (r : Option Request) (left : List ℕ) → g ≡ h → r ≡ read_answer h → left ≡ recording_by h before
    → ReadBy g before r left
read_by g h before r left e f k =
    record { answer = f ∙ sym (ap read_answer e); recording = k ∙ sym (ap (λ (x : Reading). recording_by x before) e) }

-- `line1` is what the first call of `read_numbers` says, with which the text is read from number 0 on
module _ (b before : List ℕ) {l head : List ℕ} {r : Option ℕ} (line1 : NumbersBy b 0 l r head) where
  -- a byte may not stand where it does
  pub read-broken : r ≡ None → ReadBy (read_text b) before None before
  unfolding read_text
  read-broken e =
      read_by (read_text b) bad_input before None before
      (ap (λ (x : Bool). cond x (read_numbers (numbers_ended begin b)) bad_input)
      (none-known (fine begin b) (0 + length (numbers_ended begin b)) (sym e ∙ line1.answer)))
      refl
      refl

  -- n numbers, of which as many as there are stand in front of seven words
  module _ {n : ℕ} (found : r ≡ Some n) (seven : length l ≡ 7) where
    known : (fine begin b ≡ true) × (0 + length (numbers_ended begin b) ≡ n)
    known = cond_some (fine begin b) (0 + length (numbers_ended begin b)) n (sym line1.answer ∙ found)

    long : n ≡ length (numbers_ended begin b)
    long = let e = known.1 in omega arith

    at : (k : ℕ) → k < 7 → 7 ≤ n → get_or head k 0 ≡ get_or (numbers_ended begin b) k 0
    at k h g =
        ap (λ (x : List ℕ). get_or x k 0) line1.stored
        ∙ front (numbers_ended begin b) l k (omega (arith, long)) (omega arith)

    reads : (x : Bool)
        → (whole_lines (length (numbers_ended begin b)) && few_states (get_or (numbers_ended begin b) 1 0) (get_or (numbers_ended begin b) 2 0)) ≡ x
        → read_text b ≡ cond x (asked (request_of (numbers_ended begin b)) (drop 7 (numbers_ended begin b))) bad_input
    unfolding read_text
    reads x e =
        ap (λ (y : Bool). cond y (read_numbers (numbers_ended begin b)) bad_input) known.0
        ∙ ap (λ (y : Bool). cond y (asked (request_of (numbers_ended begin b)) (drop 7 (numbers_ended begin b))) bad_input) e

    -- the test of the code is the test of the definition
    tested : (whole_lines n && few_states (get_or head 1 0) (get_or head 2 0)) ≡
        (whole_lines (length (numbers_ended begin b)) && few_states (get_or (numbers_ended begin b) 1 0) (get_or (numbers_ended begin b) 2 0))
    tested = go (whole_lines n) refl
      where
        go : (x : Bool) → whole_lines n ≡ x
            → (whole_lines n && few_states (get_or head 1 0) (get_or head 2 0)) ≡
            (whole_lines (length (numbers_ended begin b)) && few_states (get_or (numbers_ended begin b) 1 0) (get_or (numbers_ended begin b) 2 0))
        go true e =
            let p = at 1 (omega arith) (whole-least n e) in
            let q = at 2 (omega arith) (whole-least n e) in
            λ i. whole_lines (long i) && few_states (p i) (q i)
        go false e =
            ap (λ (x : Bool). x && few_states (get_or head 1 0) (get_or head 2 0)) e
            ∙ sym (ap (λ (x : Bool). x && few_states (get_or (numbers_ended begin b) 1 0) (get_or (numbers_ended begin b) 2 0)) (ap whole_lines (sym long) ∙ e))

    pub read-refused : (whole_lines n ≡ false) ⊎ (few_states (get_or head 1 0) (get_or head 2 0) ≡ false) → ReadBy (read_text b) before None before
    read-refused e =
        read_by (read_text b) bad_input before None before
        (reads false (sym tested ∙ one_false (whole_lines n) (few_states (get_or head 1 0) (get_or head 2 0)) e)) refl refl

    -- the second call of `read_numbers` stores the words of the quotes
    pub read_asked : {left : List ℕ} {s : Option ℕ} → whole_lines n ≡ true → few_states (get_or head 1 0) (get_or head 2 0) ≡ true → NumbersBy b 7 before s left
        → ReadBy (read_text b) before
        (Some
        (record {
          tick = get_or head 0 0;
          buckets = get_or head 1 0;
          spread_states = get_or head 2 0;
          least = get_or head 3 0;
          gap = get_or head 4 0;
          start = get_or head 5 0;
          end = get_or head 6 0;
          quotes = (n - 7) / 5;
        }))
        left
    read_asked {left} u v quotes =
        let h = whole-least n u in
        let p0 = at 0 (omega arith) h in
        let p1 = at 1 (omega arith) h in
        let p2 = at 2 (omega arith) h in
        let p3 = at 3 (omega arith) h in
        let p4 = at 4 (omega arith) h in
        let p5 = at 5 (omega arith) h in
        let p6 = at 6 (omega arith) h in
        read_by (read_text b) (asked (request_of (numbers_ended begin b)) (drop 7 (numbers_ended begin b))) before _ left
        (reads true (sym tested ∙ (λ i. u i && v i)))
        (λ i. Some
        (record { tick = p0 i; buckets = p1 i; spread_states = p2 i; least = p3 i; gap = p4 i; start = p5 i; end = p6 i; quotes = (long i - 7) / 5 }))
        quotes.stored

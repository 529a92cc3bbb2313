-- The walk over the bytes: one byte more, and the end.
use Prim.Native.Nat.{ℕ, suc, ◌+◌, ◌-◌, ◌≤◌, ◌<◌}
use mathlib.Core.Path.{◌≡◌, refl, sym, ◌∙◌, ap, subst}
use mathlib.Core.Bool.{Bool, true, false, cond, not, ◌&&◌}
use mathlib.Core.Logic.{◌⊎◌, inl, inr}
use mathlib.Core.List.{List, [], ◌∷◌}
use native.Mathlib.Omega.{arith}
use lib.Dec.{eqb}
use lib.ListN.{length, get_or, drop, set, drop_of_length-le}
use lib.Seq.{sets, drop-cons, drop-nil}
use borrow.Author.Tests.{eqb-true, le-leb, lt-leb}
use Rattle.std.specs.Prelude.{Option, None, Some, is_some}
use Rattle.std.specs.Option.{option_map}
use Rattle.std.proofs.lemmas.Option.{cond_some, same_Some, none-some}
use Rattle.basics.proofs.Tests.{le-or-lt}
use Rattle.program_text.specs.Inner.{scan, separator, is_digit, with_digit, ended, with_ended, step_of, ended_by, numbers_ended, fine_by, fine, begin, numbers_of, stored_at, kept, NumbersBy}
use Rattle.program_text.specs.declared.Scan.{Scan}

-- ---- what a byte did that the walk went on from

pub data Went (s : Scan) (b : ℕ) : Scan → Type 0 where
  digit-read : is_digit b ≡ true → (v : ℕ) → with_digit s.digits (b - 48) ≡ Some v → Went s b (scan s.count (Some v))
  number-ended : (v : ℕ) → s.digits ≡ Some v → b ≡ separator s.count → Went s b (scan (s.count + 1) None)

module _ (s : Scan) (b : ℕ) where
  pub went : (t : Scan) → step_of s b ≡ Some t → Went s b t
  went t e = go (is_digit b) refl (with_digit s.digits (b - 48)) refl s.digits refl e
    where
      go : (d : Bool) → is_digit b ≡ d → (w : Option ℕ) → with_digit s.digits (b - 48) ≡ w → (x : Option ℕ) → s.digits ≡ x
          → cond d (option_map (λ v. scan s.count (Some v)) w) (cond (is_some x && eqb b (separator s.count)) (Some (scan (s.count + 1) None)) None) ≡ Some t
          → Went s b t
      go true hd (Some v) hw x hx f = subst (Went s b) (same_Some _ _ f) (digit-read hd v hw)
      go true hd None hw x hx f = absurd (none-some t f)
      go false hd w hw None hx f = absurd (none-some t f)
      go false hd w hw (Some v) hx f =
          let h = cond_some (eqb b (separator s.count)) (scan (s.count + 1) None) t f in
          subst (Went s b) h.1 (number-ended v hx (eqb-true b (separator s.count) h.0))

  pub count-on : (t : Scan) → step_of s b ≡ Some t → t.count ≤ s.count + 1
  count-on t e = go t (went t e)
    where
      go : (u : Scan) → Went s b u → u.count ≤ s.count + 1
      go u (digit-read p v q) = omega arith
      go u (number-ended v p q) = omega arith

-- ---- one byte more

-- the number with k before it stored, and those behind it
one_more : (l W : List ℕ) (first k v : ℕ)
    → sets (stored_at l first k (Some v)) (k + 1 - first) (drop (first - (k + 1)) W) ≡ sets l (k - first) (drop (first - k) (v ∷ W))
one_more l W first k v = by (le-or-lt first k)
  where
    by : (first ≤ k) ⊎ (k < first)
        → sets (stored_at l first k (Some v)) (k + 1 - first) (drop (first - (k + 1)) W) ≡ sets l (k - first) (drop (first - k) (v ∷ W))
    by (inl h) =
        let p : k + 1 - first ≡ suc (k - first) = omega arith in
        let q : first - (k + 1) ≡ 0 = omega arith in
        let r : 0 ≡ first - k = omega arith in
        (λ i. sets (cond (le-leb first k h i) (set l (k - first) v) l) (p i) (drop (q i) W))
        ∙ ap (λ (j : ℕ). sets l (k - first) (drop j (v ∷ W))) r
    by (inr h) =
        let p : k + 1 - first ≡ k - first = omega arith in
        let q : suc (first - (k + 1)) ≡ first - k = omega arith in
        (λ i. sets (cond (lt-leb first k h i) (set l (k - first) v) l) (p i) (drop (q i) (v ∷ W)))

module _ (s : Scan) (b : ℕ) (bs : List ℕ) where
  pub ended-on : (t : Scan) → step_of s b ≡ Some t → numbers_ended s (b ∷ bs) ≡ with_ended (ended s.digits t.digits) (numbers_ended t bs)
  ended-on t e = ap (λ (r : Option Scan). ended_by s r (λ u. numbers_ended u bs)) e

  pub fine-on : (t : Scan) → step_of s b ≡ Some t → fine s (b ∷ bs) ≡ fine t bs
  fine-on t e = ap (λ (r : Option Scan). fine_by r (λ u. fine u bs)) e

  pub ended-off : step_of s b ≡ None → numbers_ended s (b ∷ bs) ≡ []
  ended-off e = ap (λ (r : Option Scan). ended_by s r (λ u. numbers_ended u bs)) e

  pub fine-off : step_of s b ≡ None → fine s (b ∷ bs) ≡ false
  fine-off e = ap (λ (r : Option Scan). fine_by r (λ u. fine u bs)) e

  pub numbers_on : (t : Scan) → step_of s b ≡ Some t → numbers_of s (b ∷ bs) ≡ numbers_of t bs
  numbers_on t e = (λ i. cond (fine-on t e i) (Some (long t (went s b t e) e i)) None)
    where
      long : (u : Scan) → Went s b u → step_of s b ≡ Some u → s.count + length (numbers_ended s (b ∷ bs)) ≡ u.count + length (numbers_ended u bs)
      long u (digit-read p v q) f = ap (λ (l : List ℕ). s.count + length l) (ended-on u f)
      long u (number-ended v p q) f =
          ap (λ (l : List ℕ). s.count + length l) (ended-on u f ∙ ap (λ (x : Option ℕ). with_ended x (numbers_ended u bs)) p) ∙ omega arith

  pub stored_on : (l : List ℕ) (first : ℕ) (t : Scan) → step_of s b ≡ Some t
      → sets (kept l first s t) (t.count - first) (drop (first - t.count) (numbers_ended t bs)) ≡ sets l (s.count - first)
      (drop (first - s.count) (numbers_ended s (b ∷ bs)))
  stored_on l first t e = go t (went s b t e) e
    where
      go : (u : Scan) → Went s b u → step_of s b ≡ Some u
          → sets (kept l first s u) (u.count - first) (drop (first - u.count) (numbers_ended u bs)) ≡ sets l (s.count - first)
          (drop (first - s.count) (numbers_ended s (b ∷ bs)))
      go u (digit-read p v q) f = ap (λ (W : List ℕ). sets l (s.count - first) (drop (first - s.count) W)) (sym (ended-on u f))
      go u (number-ended v p q) f =
          let W = numbers_ended u bs in
          ap (λ (x : Option ℕ). sets (stored_at l first s.count x) (s.count + 1 - first) (drop (first - (s.count + 1)) W)) p
          ∙ one_more l W first s.count v
          ∙ ap (λ (V : List ℕ). sets l (s.count - first) (drop (first - s.count) V)) (ap (λ (x : Option ℕ). with_ended x W) (sym p) ∙ sym (ended-on u f))

-- ---- by places

-- what is left at i
abbrev pub rest : (text : List ℕ) (i : ℕ) → List ℕ
rest text i = get_or text i 0 ∷ drop (i + 1) text

pub rest-is : (text : List ℕ) (i : ℕ) → i < length text → drop i text ≡ rest text i
rest-is text i h = drop-cons text i 0 h ∙ ap (λ (j : ℕ). get_or text i 0 ∷ drop j text) (let e : suc i ≡ i + 1 = omega arith in e)

pub no_more : (l W : List ℕ) (k m : ℕ) → W ≡ [] → sets l k (drop m W) ≡ l
no_more l W k m e = ap (λ (U : List ℕ). sets l k (drop m U)) e ∙ ap (λ (U : List ℕ). sets l k U) (drop-nil m)

-- ---- the loop of `read_numbers`: at place i, with the scan s and the output out, what is left gives the whole

pub record Reached (text : List ℕ) (first : ℕ) (before : List ℕ) (out : List ℕ) (s : Scan) (i : ℕ) : Type 0 where
  pub numbers-same : numbers_of s (drop i text) ≡ numbers_of begin text
  pub kept-so-far : sets out (s.count - first) (drop (first - s.count) (numbers_ended s (drop i text))) ≡ sets before 0 (drop first (numbers_ended begin text))

module _ (text : List ℕ) (first : ℕ) (before : List ℕ) where
  module _ (out : List ℕ) (s : Scan) (i : ℕ) (r : Reached text first before out s i) where
    pub reached-on : (t : Scan) → i < length text → step_of s (get_or text i 0) ≡ Some t → Reached text first before (kept out first s t) t (i + 1)
    reached-on t h e =
        record {
          numbers-same = sym (numbers_on s (get_or text i 0) (drop (i + 1) text) t e) ∙ sym (ap (numbers_of s) (rest-is text i h)) ∙ r.numbers-same;
          kept-so-far =
              stored_on s (get_or text i 0) (drop (i + 1) text) out first t e
              ∙ sym (ap (λ (l : List ℕ). sets out (s.count - first) (drop (first - s.count) (numbers_ended s l))) (rest-is text i h))
              ∙ r.kept-so-far;
        }

    pub reached-off : i < length text → step_of s (get_or text i 0) ≡ None → NumbersBy text first before None out
    reached-off h e =
        record {
          answer =
              sym (ap (λ (x : Bool). cond x (Some (s.count + length (numbers_ended s (drop i text)))) None)
              (ap (fine s) (rest-is text i h) ∙ fine-off s (get_or text i 0) (drop (i + 1) text) e)) ∙ r.numbers-same;
          stored =
              sym (no_more out (numbers_ended s (drop i text)) (s.count - first) (first - s.count)
              (ap (numbers_ended s) (rest-is text i h) ∙ ended-off s (get_or text i 0) (drop (i + 1) text) e))
              ∙ r.kept-so-far;
        }

    at-end : length text ≤ i → drop i text ≡ []
    at-end h = drop_of_length-le text h

    pub stored-end : length text ≤ i → out ≡ sets before 0 (drop first (numbers_ended begin text))
    stored-end h = sym (no_more out (numbers_ended s (drop i text)) (s.count - first) (first - s.count) (ap (numbers_ended s) (at-end h))) ∙ r.kept-so-far

    pub reached-open : length text ≤ i → is_some s.digits ≡ true → NumbersBy text first before None out
    reached-open h e =
        record {
          answer = sym (ap (numbers_of s) (at-end h) ∙ ap (λ (x : Bool). cond (not x) (Some (s.count + 0)) None) e) ∙ r.numbers-same;
          stored = stored-end h;
        }

    pub reached-end : length text ≤ i → is_some s.digits ≡ false → NumbersBy text first before (Some s.count) out
    reached-end h e =
        let z : s.count + 0 ≡ s.count = omega arith in
        record {
          answer = sym (ap (numbers_of s) (at-end h) ∙ ap (λ (x : Bool). cond (not x) (Some (s.count + 0)) None) e ∙ ap Some z) ∙ r.numbers-same;
          stored = stored-end h;
        }

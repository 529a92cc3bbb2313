-- A text is read as a request and its words exactly if it is their text and they are admissible.
use Prim.Native.Nat.{ℕ, zero, suc, ◌+◌, ◌*◌, ◌-◌, ◌/◌, ◌%◌, ◌≤◌, ◌<◌, ◌^◌}
use mathlib.Core.Path.{◌≡◌, refl, sym, ◌∙◌, ap, subst}
use mathlib.Core.Bool.{Bool, true, false, cond, not, ◌&&◌}
use mathlib.Core.List.{List, [], ◌∷◌, ◌++◌, append_assoc}
use mathlib.Core.Logic.{◌⊎◌, inl, inr}
use native.Mathlib.Omega.{arith}
use lib.Dec.{leb, ltb, eqb}
use lib.ListN.{length, get_or, take, drop, length-drop}
use lib.Seq.{sets, sets-eq, take_at}
use borrow.Author.Tests.{lt-ltb, le-ltb, eq-eqb, ne_eqb, le-leb, eqb-true, leb-true, eqb-false, not-true}
use Rattle.std.specs.Prelude.{Option, None, Some, is_some, IfSome}
use Rattle.std.specs.Option.{option_map}
use Rattle.std.proofs.lemmas.Option.{cond_some, same_Some}
use Rattle.basics.proofs.Tests.{zero-not-one, both, le-or-lt, eqb_same}
use Rattle.image_words.specs.Words.{AllWords}
use Rattle.program_text.specs.Text.{digit, decimal, space, newline, line_of, quote_lines, first_line, text_of, Admissible}
use Rattle.program_text.specs.Reading.{whole_lines, few_states, request_of, asked, bad_input, read_numbers, read_text}
use Rattle.program_text.specs.Inner.{scan, separator, is_digit, takes, with_digit, with_ended, ended, step_of, begin, numbers_ended, fine}
use Rattle.program_text.specs.declared.Request.{Request}
use Rattle.program_text.specs.declared.Scan.{Scan}
use Rattle.program_text.proofs.Steps.{takes-below, step-digit, step-below}
use Rattle.program_text.proofs.Walks.{Went, digit-read, number-ended, went, ended-on, ended-off, fine-on, fine-off}
use Rattle.program_text.proofs.Decimals.{decimal-one, decimal-more, decimal_step}

-- ---- numbers one after another, each with what follows it

abbrev pub flat : ℕ → List ℕ → List ℕ
flat k [] = []
flat k (x ∷ xs) = decimal x ++ separator k ∷ flat (k + 1) xs

-- ---- from the numbers to the walk

-- a digit that may follow is read
digit-goes : (k d w : ℕ) (x : Option ℕ) → d ≤ 9 → with_digit x d ≡ Some w → step_of (scan k x) (digit d) ≡ Some (scan k (Some w))
digit-goes k d w x h e =
    let z : digit d - 48 ≡ d = omega arith in
    step-digit (scan k x) (digit d) (omega arith) (omega arith)
    ∙ (λ i. option_map (λ v. scan k (Some v)) (with_digit x (z i)))
    ∙ ap (λ (y : Option ℕ). option_map (λ v. scan k (Some v)) y) e

-- behind digits that are no first zero a digit that keeps the number below 2^64 may follow
follows : (v d : ℕ) → 1 ≤ v → v * 10 + d < 2 ^ 64 → with_digit (Some v) d ≡ Some (v * 10 + d)
follows v d h g = λ i. cond (not (ne_eqb v 0 (λ e. omega arith) i) && lt-ltb (v * 10 + d) (2 ^ 64) g i) (Some (v * 10 + d)) None

after-below : (k : ℕ) → separator k < 48
after-below k = by (ltb k 6) (eqb ((k - 6) % 5) 0)
  where
    by : (x y : Bool) → cond x space (cond y newline space) < 48
    by true y = omega arith
    by false true = omega arith
    by false false = omega arith

end_goes : (k v : ℕ) → step_of (scan k (Some v)) (separator k) ≡ Some (scan (k + 1) None)
end_goes k v =
    step-below (scan k (Some v)) (separator k) (after-below k)
    ∙ ap (λ (t : Bool). cond t (Some (scan (k + 1) None)) None) (eqb_same (separator k))

-- the walk over the digits of a number
pub record Same (s : Scan) (b : List ℕ) (t : Scan) (c : List ℕ) : Type 0 where
  pub same-fine : fine s b ≡ fine t c
  pub same_ended : numbers_ended s b ≡ numbers_ended t c

same-digit : (k d w : ℕ) (x : Option ℕ) (r : List ℕ) → d ≤ 9 → with_digit x d ≡ Some w → Same (scan k x) (digit d ∷ r) (scan k (Some w)) r
same-digit k d w x r h e =
    let g = digit-goes k d w x h e in
    record { same-fine = fine-on (scan k x) (digit d) r (scan k (Some w)) g; same_ended = ended-on (scan k x) (digit d) r (scan k (Some w)) g }

walk-digit : (n k : ℕ) (r : List ℕ) → n < 10 → Same (scan k None) (decimal n ++ r) (scan k (Some n)) r
walk-digit n k r s =
    subst (λ (l : List ℕ). Same (scan k None) (l ++ r) (scan k (Some n)) r) (sym (decimal-one n s)) (same-digit k n n None r (omega arith) refl)

walk-number : (fuel n k : ℕ) (r : List ℕ) → n ≤ fuel → n < 2 ^ 64 → Same (scan k None) (decimal n ++ r) (scan k (Some n)) r
walk-number zero n k r h g = walk-digit n k r (omega arith)
walk-number (suc fuel) n k r h g =
    by (le-or-lt 10 n) (λ s. walk-number fuel (n / 10) k (digit (n % 10) ∷ r) (omega arith) (omega arith))
  where
    by : (10 ≤ n) ⊎ (n < 10) → (10 ≤ n → Same (scan k None) (decimal (n / 10) ++ digit (n % 10) ∷ r) (scan k (Some (n / 10))) (digit (n % 10) ∷ r))
        → Same (scan k None) (decimal n ++ r) (scan k (Some n)) r
    by (inr s) f = walk-digit n k r s
    by (inl s) f =
        let first = f s in
        let whole : n / 10 * 10 + n % 10 ≡ n = omega arith in
        let last = same-digit k (n % 10) n (Some (n / 10)) r (omega arith) (follows (n / 10) (n % 10) (omega arith) (omega arith) ∙ ap Some whole) in
        let split : decimal n ++ r ≡ decimal (n / 10) ++ digit (n % 10) ∷ r =
        ap (λ (l : List ℕ). l ++ r) (decimal-more n s) ∙ append_assoc (decimal (n / 10)) (digit (n % 10) ∷ []) r in
        record {
          same-fine = ap (fine (scan k None)) split ∙ first.same-fine ∙ last.same-fine;
          same_ended = ap (numbers_ended (scan k None)) split ∙ first.same_ended ∙ last.same_ended;
        }

pub walk-flat : (xs : List ℕ) (k : ℕ) → AllWords xs → (fine (scan k None) (flat k xs) ≡ true) × (numbers_ended (scan k None) (flat k xs) ≡ xs)
walk-flat [] k a = (refl, refl)
walk-flat (x ∷ xs) k a =
    let w = walk-number x x k (separator k ∷ flat (k + 1) xs) (omega arith) a.0 in
    let m = walk-flat xs (k + 1) a.1 in (
      w.same-fine ∙ fine-on (scan k (Some x)) (separator k) (flat (k + 1) xs) (scan (k + 1) None) (end_goes k x) ∙ m.0,
      w.same_ended ∙ ended-on (scan k (Some x)) (separator k) (flat (k + 1) xs) (scan (k + 1) None) (end_goes k x) ∙ ap (λ (l : List ℕ). x ∷ l) m.1,
    )

-- ---- from the walk to the numbers

-- the digits read so far of a number that has not ended
abbrev pub pending : Option ℕ → List ℕ
pending None = []
pending (Some v) = decimal v

-- where a walk can be, their value is below 2^64
abbrev pub Sound : Option ℕ → Type 0
Sound x = IfSome x (λ v. v < 2 ^ 64)

-- a digit more is one byte more, and the value stays below 2^64
digit-more : (x : Option ℕ) (d w : ℕ) (r : List ℕ) → with_digit x d ≡ Some w → d ≤ 9 → (decimal w ++ r ≡ pending x ++ digit d ∷ r) × (w < 2 ^ 64)
digit-more None d w r e h =
    let z : d ≡ w = same_Some d w e in
    (ap (λ (n : ℕ). decimal n ++ r) (sym z) ∙ ap (λ (l : List ℕ). l ++ r) (decimal-one d (omega arith)), omega arith)
digit-more (Some v) d w r e h =
    let t = cond_some (takes v d) (v * 10 + d) w e in
    let n = eqb-false v 0 (not-true (eqb v 0) (both (not (eqb v 0)) (ltb (v * 10 + d) (2 ^ 64)) t.0).0) in
    let p : 1 ≤ v = one-at-least v n in (
      ap (λ (m : ℕ). decimal m ++ r) (sym t.1)
          ∙ ap (λ (l : List ℕ). l ++ r) (decimal_step v d p h)
          ∙ append_assoc (decimal v) (digit d ∷ []) r,
      omega (arith, takes-below v d t.0, t.1),
    )
  where
    one-at-least : (v : ℕ) → (v ≡ 0 → ⊥) → 1 ≤ v
    one-at-least zero n = absurd (n refl)
    one-at-least (suc v) n = omega arith

digit-known : (b : ℕ) → is_digit b ≡ true → (48 ≤ b) × (b ≤ 57)
digit-known b e = let t = both (leb 48 b) (leb b 57) e in (leb-true 48 b t.0, leb-true b 57 t.1)

-- what is written of the pending digits and the bytes that are left
written_step : (s : Scan) (b : ℕ) (t : Scan) (bs : List ℕ) → Went s b t
    → numbers_ended s (b ∷ bs) ≡ with_ended (ended s.digits t.digits) (numbers_ended t bs)
    → pending t.digits ++ bs ≡ flat t.count (numbers_ended t bs) → pending s.digits ++ b ∷ bs ≡ flat s.count (numbers_ended s (b ∷ bs))
written_step s b t bs (digit-read p v q) e h =
    let d = digit-known b p in
    let z : digit (b - 48) ≡ b = omega arith in
    sym ((digit-more s.digits (b - 48) v bs q (omega arith)).0 ∙ ap (λ (x : ℕ). pending s.digits ++ x ∷ bs) z)
    ∙ h
    ∙ ap (flat s.count) (sym e)
written_step s b t bs (number-ended v p q) e h =
    ap (λ (x : Option ℕ). pending x ++ b ∷ bs) p
    ∙ (λ i. decimal v ++ q i ∷ h i)
    ∙ ap (λ (x : Option ℕ). flat s.count (with_ended x (numbers_ended t bs))) (sym p)
    ∙ ap (flat s.count) (sym e)

sound-step : (s : Scan) (b : ℕ) (t : Scan) → Went s b t → Sound t.digits
sound-step s b t (digit-read p v q) = let d = digit-known b p in (digit-more s.digits (b - 48) v [] q (omega arith)).1
sound-step s b t (number-ended v p q) = tt

-- a byte at which the walk stops, or goes on
pub goes : (s : Scan) (b : ℕ) → (step_of s b ≡ None) ⊎ ((t : Scan) × (step_of s b ≡ Some t))
goes s b = go (step_of s b) refl
  where
    go : (r : Option Scan) → step_of s b ≡ r → (step_of s b ≡ None) ⊎ ((t : Scan) × (step_of s b ≡ Some t))
    go None e = inl e
    go (Some t) e = inr (t, e)

pub written : (b : List ℕ) (s : Scan) → fine s b ≡ true → pending s.digits ++ b ≡ flat s.count (numbers_ended s b)
written [] s e = none s.digits (not-true (is_some s.digits) e)
  where
    none : (x : Option ℕ) → is_some x ≡ false → pending x ++ [] ≡ []
    none None f = refl
    none (Some v) f = absurd (zero-not-one cc)
written (b ∷ bs) s e = by (goes s b) (λ t f. written bs t f)
  where
    by : (step_of s b ≡ None) ⊎ ((t : Scan) × (step_of s b ≡ Some t))
        → ((t : Scan) → fine t bs ≡ true → pending t.digits ++ bs ≡ flat t.count (numbers_ended t bs))
        → pending s.digits ++ b ∷ bs ≡ flat s.count (numbers_ended s (b ∷ bs))
    by (inl g) f = let n = sym (fine-off s b bs g) ∙ e in absurd (zero-not-one cc)
    by (inr (t, g)) f = written_step s b t bs (went s b t g) (ended-on s b bs t g) (f t (sym (fine-on s b bs t g) ∙ e))

pub ended-words : (b : List ℕ) (s : Scan) → Sound s.digits → AllWords (numbers_ended s b)
ended-words [] s o = tt
ended-words (b ∷ bs) s o = by (goes s b) (λ t g. ended-words bs t g)
  where
    either_way : (x y : Option ℕ) (l : List ℕ) → Sound x → AllWords l → AllWords (with_ended (ended x y) l)
    either_way x (Some w) l o a = a
    either_way None None l o a = a
    either_way (Some v) None l o a = (o, a)

    by : (step_of s b ≡ None) ⊎ ((t : Scan) × (step_of s b ≡ Some t)) → ((t : Scan) → Sound t.digits → AllWords (numbers_ended t bs))
        → AllWords (numbers_ended s (b ∷ bs))
    by (inl g) f = subst AllWords (sym (ended-off s b bs g)) tt
    by (inr (t, g)) f =
        subst AllWords (sym (ended-on s b bs t g)) (either_way s.digits t.digits (numbers_ended t bs) o (f t (sound-step s b t (went s b t g))))

-- ---- lines

-- where a space follows each number but the last, and a newline that, the numbers make a line
flat_line : (xs : List ℕ) (x k : ℕ) (more : List ℕ) → ((i : ℕ) → i < length xs → separator (k + i) ≡ space) → separator (k + length xs) ≡ newline
    → flat k (x ∷ xs ++ more) ≡ line_of (x ∷ xs) ++ flat (k + length xs + 1) more
flat_line [] x k more spaces last =
    let z : k + 0 ≡ k = omega arith in
    let e : separator k ≡ newline = ap separator (sym z) ∙ last in
    (λ i. decimal x ++ e i ∷ flat (sym z i + 1) more)
    ∙ sym (append_assoc (decimal x) (newline ∷ []) (flat (k + 0 + 1) more))
flat_line (y ∷ ys) x k more spaces last =
    let z : k + 0 ≡ k = omega arith in
    let e : separator k ≡ space = ap separator (sym z) ∙ spaces 0 (omega arith) in
    let n : k + 1 + length ys + 1 ≡ k + length (y ∷ ys) + 1 = omega arith in
    let m : k + length (y ∷ ys) ≡ k + 1 + length ys = omega arith in
    let rest = flat_line ys y (k + 1) more (λ i h. ap separator (let q : k + 1 + i ≡ k + suc i = omega arith in q) ∙ spaces (suc i) (omega arith))
    (ap separator (sym m) ∙ last) in
    (λ i. decimal x ++ e i ∷ rest i)
    ∙ sym (append_assoc (decimal x) (space ∷ line_of (y ∷ ys)) (flat (k + 1 + length ys + 1) more))
    ∙ ap (λ (j : ℕ). (decimal x ++ space ∷ line_of (y ∷ ys)) ++ flat j more) n

after_first : (k : ℕ) → k < 6 → separator k ≡ space
after_first k h = ap (λ (t : Bool). cond t space (cond (eqb ((k - 6) % 5) 0) newline space)) (lt-ltb k 6 h)

after-later : (k : ℕ) (t : Bool) → 6 ≤ k → eqb ((k - 6) % 5) 0 ≡ t → separator k ≡ cond t newline space
after-later k t h e = (λ i. cond (le-ltb k 6 h i) space (cond (e i) newline space))

quote-lines : (q j : ℕ) (ws : List ℕ) → length ws ≡ 5 * q → flat (7 + 5 * j) ws ≡ quote_lines q ws
quote-lines zero j [] h = refl
quote-lines zero j (a ∷ ws) h = absurd (omega arith)
quote-lines (suc q) j [] h = absurd (omega arith)
quote-lines (suc q) j (a ∷ []) h = absurd (omega arith)
quote-lines (suc q) j (a ∷ b ∷ []) h = absurd (omega arith)
quote-lines (suc q) j (a ∷ b ∷ c ∷ []) h = absurd (omega arith)
quote-lines (suc q) j (a ∷ b ∷ c ∷ d ∷ []) h = absurd (omega arith)
quote-lines (suc q) j (a ∷ b ∷ c ∷ d ∷ e ∷ ws) h =
    let n : 7 + 5 * j + 4 + 1 ≡ 7 + 5 * suc j = omega arith in
    flat_line (b ∷ c ∷ d ∷ e ∷ []) a (7 + 5 * j) ws
    (λ i g. after-later (7 + 5 * j + i) false (omega arith) (ne_eqb ((7 + 5 * j + i - 6) % 5) 0 (λ u. omega arith)))
    (after-later (7 + 5 * j + 4) true (omega arith) (eq-eqb ((7 + 5 * j + 4 - 6) % 5) 0 (omega arith)))
    ∙ ap (λ (r : List ℕ). line_of (a ∷ b ∷ c ∷ d ∷ e ∷ []) ++ r) (ap (λ (m : ℕ). flat m ws) n ∙ quote-lines q (suc j) ws (omega arith))

-- the text, number by number
pub text-flat : (r : Request) (ws : List ℕ) → length ws ≡ 5 * r.quotes → flat 0 (first_line r ++ ws) ≡ text_of r ws
text-flat r ws h =
    flat_line (r.buckets ∷ r.spread_states ∷ r.least ∷ r.gap ∷ r.start ∷ r.end ∷ []) r.tick 0 ws (λ i g. after_first (0 + i) (omega arith)) refl
    ∙ ap (λ (l : List ℕ). line_of (first_line r) ++ l) (quote-lines r.quotes 0 ws h)

-- ---- reading and writing

line-split : (l : List ℕ) → 7 ≤ length l → first_line (request_of l) ++ drop 7 l ≡ l
line-split [] h = absurd (omega arith)
line-split (a ∷ []) h = absurd (omega arith)
line-split (a ∷ b ∷ []) h = absurd (omega arith)
line-split (a ∷ b ∷ c ∷ []) h = absurd (omega arith)
line-split (a ∷ b ∷ c ∷ d ∷ []) h = absurd (omega arith)
line-split (a ∷ b ∷ c ∷ d ∷ e ∷ []) h = absurd (omega arith)
line-split (a ∷ b ∷ c ∷ d ∷ e ∷ f ∷ []) h = absurd (omega arith)
line-split (a ∷ b ∷ c ∷ d ∷ e ∷ f ∷ g ∷ l) h = refl

-- the text of an admissible request is read as that request
pub text-read : (r : Request) (ws : List ℕ) → Admissible r ws → read_text (text_of r ws) ≡ asked r ws
unfolding read_text
text-read r ws a =
    let all = first_line r ++ ws in
    let w = walk-flat all 0 a.numbers in
    let five = a.five in
    let few = a.few in
    let long : length all ≡ 7 + length ws = omega arith in
    let q : (length all - 7) / 5 ≡ r.quotes = omega arith in
    let t : whole_lines (length all) ≡ true =
    (λ i. le-leb 7 (length all) (omega arith) i &&
    (eq-eqb ((length all - 7) % 5) 0 (omega arith) i && le-leb ((length all - 7) / 5) 1000 (omega arith) i)) in
    ap (λ (b : List ℕ). cond (fine begin b) (read_numbers (numbers_ended begin b)) bad_input) (sym (text-flat r ws five))
    ∙ (λ i. cond (w.0 i) (read_numbers (w.1 i)) bad_input)
    ∙ (λ i. cond (t i && le-leb (r.buckets * r.spread_states) 27 a.states i) (asked (request_of all) ws) bad_input)
    ∙ (λ i. asked
    (record {
      tick = r.tick;
      buckets = r.buckets;
      spread_states = r.spread_states;
      least = r.least;
      gap = r.gap;
      start = r.start;
      end = r.end;
      quotes = q i;
    }) ws)

-- what is read as a request is the text of that request, which is admissible
pub read-text : (b : List ℕ) (r : Request) (ws : List ℕ) → read_text b ≡ asked r ws → (text_of r ws ≡ b) × Admissible r ws
unfolding read_text
read-text b r ws e =
    go (fine begin b) refl
    (whole_lines (length (numbers_ended begin b)) && few_states (get_or (numbers_ended begin b) 1 0) (get_or (numbers_ended begin b) 2 0)) refl e
  where
    known : fine begin b ≡ true
        → (whole_lines (length (numbers_ended begin b)) && few_states (get_or (numbers_ended begin b) 1 0) (get_or (numbers_ended begin b) 2 0)) ≡ true
        → (text_of (request_of (numbers_ended begin b)) (drop 7 (numbers_ended begin b)) ≡ b)
        × Admissible (request_of (numbers_ended begin b)) (drop 7 (numbers_ended begin b))
    known f t =
        let all = numbers_ended begin b in
        let p = both (whole_lines (length all)) (few_states (get_or all 1 0) (get_or all 2 0)) t in
        let u = both (leb 7 (length all)) (eqb ((length all - 7) % 5) 0 && leb ((length all - 7) / 5) 1000) p.0 in
        let v = both (eqb ((length all - 7) % 5) 0) (leb ((length all - 7) / 5) 1000) u.1 in
        let least : 7 ≤ length all = leb-true 7 (length all) u.0 in
        let whole : (length all - 7) % 5 ≡ 0 = eqb-true ((length all - 7) % 5) 0 v.0 in
        let five : length (drop 7 all) ≡ 5 * ((length all - 7) / 5) = omega (arith, length-drop 7 all) in
        let split = line-split all least in (
          sym (text-flat (request_of all) (drop 7 all) five) ∙ ap (flat 0) split ∙ sym (written b begin f),
          record {
            numbers = subst AllWords (sym split) (ended-words b begin tt);
            states = leb-true (get_or all 1 0 * get_or all 2 0) 27 p.1;
            few = leb-true ((length all - 7) / 5) 1000 v.1;
            five = five;
          },
        )

    same : (x : Request) (y : List ℕ) → asked x y ≡ asked r ws → (text_of x y ≡ b) × Admissible x y → (text_of r ws ≡ b) × Admissible r ws
    same x y g h =
        let p : x ≡ r = cc in
        let q : y ≡ ws = cc in
        subst (λ (z : Request). (text_of z ws ≡ b) × Admissible z ws) p (subst (λ (z : List ℕ). (text_of x z ≡ b) × Admissible x z) q h)

    go : (f : Bool) → fine begin b ≡ f → (t : Bool)
        → (whole_lines (length (numbers_ended begin b)) && few_states (get_or (numbers_ended begin b) 1 0) (get_or (numbers_ended begin b) 2 0)) ≡ t
        → cond f (cond t (asked (request_of (numbers_ended begin b)) (drop 7 (numbers_ended begin b))) bad_input) bad_input ≡ asked r ws
        → (text_of r ws ≡ b) × Admissible r ws
    go true hf true ht g = same (request_of (numbers_ended begin b)) (drop 7 (numbers_ended begin b)) g (known hf ht)
    go true hf false ht g = absurd (zero-not-one cc)
    go false hf t ht g = absurd (zero-not-one cc)

-- bad input is the text of nothing admissible
pub read-bad : (b : List ℕ) → read_text b ≡ bad_input → (r : Request) (ws : List ℕ) → Admissible r ws → text_of r ws ≡ b → ⊥
read-bad b e r ws a h =
    let n : asked r ws ≡ bad_input = sym (text-read r ws a) ∙ ap read_text h ∙ e in
    zero-not-one cc

-- a text has one reading
pub text-once : (r : Request) (ws : List ℕ) (q : Request) (vs : List ℕ) → Admissible r ws → Admissible q vs → text_of r ws ≡ text_of q vs → (r ≡ q) × (ws ≡ vs)
text-once r ws q vs a c h = same (sym (text-read r ws a) ∙ ap read_text h ∙ text-read q vs c)
  where
    same : asked r ws ≡ asked q vs → (r ≡ q) × (ws ≡ vs)
    same e = (cc, cc)

-- a recording of 5,000 words has room for the words of every text that is read, and they stand in its front
pub recording-front : (r : Request) (ws l : List ℕ) → Admissible r ws → 5000 ≤ length l → take (5 * r.quotes) (sets l 0 ws) ≡ ws
recording-front r ws l a h =
    let few = a.few in
    let five = a.five in
    ap (take (5 * r.quotes)) (sets-eq ws l 0 (omega arith)) ∙ take_at ws (drop (0 + length ws) l) (5 * r.quotes) five

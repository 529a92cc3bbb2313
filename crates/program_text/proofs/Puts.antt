-- Bytes written one after another.
use borrow.Rule.Slice.PartMut.{put_mid}
use Prim.Native.Nat.{ℕ, zero, suc, ◌+◌, ◌-◌, ◌/◌, ◌%◌, ◌≤◌, ◌<◌}
use mathlib.Core.Path.{◌≡◌, refl, sym, ◌∙◌, ap, subst}
use mathlib.Core.List.{List, [], ◌∷◌, ◌++◌, append_assoc}
use native.Mathlib.Omega.{arith}
use lib.ListN.{length, take, drop, length-append}
use lib.Seq.{sets, sets-eq, length-sets}
use Rattle.std.proofs.lemmas.List.{drop-drop}
use Rattle.basics.proofs.Stores.{sets-append}
use Rattle.program_text.specs.Text.{decimal}
use Rattle.program_text.specs.Written.{hex_digit, hex_digits, hex16, Put, Wrote}
use Rattle.program_text.specs.declared.Out.{Out}
use Rattle.program_text.proofs.Decimals.{decimal-one, decimal-more, length_more}

-- the output keeps its length
pub put-length : (before : List ℕ) (at : ℕ) (bytes : List ℕ) (next : ℕ) (left : List ℕ) → Put before at bytes next left → length left ≡ length before
put-length before at bytes next left p = ap length p.stored ∙ length-sets before at bytes

-- one after the other
pub put_both : (before mid left : List ℕ) (at j k : ℕ) (xs ys : List ℕ) → Put before at xs j mid → Put mid j ys k left → Put before at (xs ++ ys) k left
put_both before mid left at j k xs ys p q =
    record {
      next-is = omega (arith, p.next-is, q.next-is, length-append xs ys);
      stored =
          q.stored
          ∙ (λ i. sets (p.stored i) (p.next-is i) ys)
          ∙ sym (sets-append xs ys before at);
    }

-- given bytes, copied into the part of the output that they fill
pub put-part : (out bytes part : List ℕ) (at : ℕ) → at + length bytes ≤ length out → part ≡ bytes
    → Put out at bytes (at + length bytes) (put_mid at (at + length bytes - at) out part)
put-part out bytes part at h e =
    let n : at + length bytes - at ≡ length bytes = omega arith in
    record {
      next-is = refl;
      stored =
          rw (e, n, sets-eq bytes out at h, drop-drop (length bytes) at out, append_assoc (take at out) bytes (drop (at + length bytes) out));
    }

-- there is room for one digit
pub digit-inside : (before : List ℕ) (at n : ℕ) → n < 10 → at + length (decimal n) ≤ length before → at < length before
digit-inside before at n h r = omega (arith, ap length (decimal-one n h))

module _ {before left : Out} where
  pub wrote_both : {mid : Out} {xs ys : List ℕ} → Wrote before xs mid → Wrote mid ys left → Wrote before (xs ++ ys) left
  wrote_both p q = record { put = put_both _ _ _ _ _ _ _ _ p.put q.put; same = q.same ∙ p.same; long = q.long ∙ p.long }

  -- ---- a number

  -- after the digits of n / 10 there is room for one digit more
  pub more-inside : {n : ℕ} → 10 ≤ n → before.at + length (decimal n) ≤ length before.bytes.now → Wrote before (decimal (n / 10)) left
      → left.at < length left.bytes.now
  more-inside {n} h r p = omega (arith, length_more n h, p.put.next-is, p.long)

  pub one_digit : (n : ℕ) → n < 10 → Wrote before ((48 + n % 10) ∷ []) left → Wrote before (decimal n) left
  one_digit n h p =
      let e : 48 + n ≡ 48 + n % 10 = omega arith in
      subst (λ (l : List ℕ). Wrote before l left) (sym (decimal-one n h ∙ ap (λ (x : ℕ). x ∷ []) e)) p

  pub more_digits : {mid : Out} (n : ℕ) → 10 ≤ n → Wrote before (decimal (n / 10)) mid → Wrote mid ((48 + n % 10) ∷ []) left
      → Wrote before (decimal n) left
  more_digits n h p q = subst (λ (l : List ℕ). Wrote before l left) (sym (decimal-more n h)) (wrote_both p q)

-- ---- hexadecimal digits

pub length-hex : (k w : ℕ) → length (hex_digits k w) ≡ k
length-hex zero w = refl
length-hex (suc k) w = length-append (hex_digits k (w / 16)) (hex_digit (w % 16) ∷ []) ∙ omega (arith, length-hex k (w / 16))

pub length-hex16 : (w : ℕ) → length (hex16 w) ≡ 16
unfolding hex16
length-hex16 w = length-hex 16 w

module _ {before left : Out} where
  -- after the first k − 1 digits there is room for one more
  pub hex-inside : (w k : ℕ) → 0 < k → before.at + k ≤ length before.bytes.now → Wrote before (hex_digits (k - 1) (w / 16)) left
      → left.at < length left.bytes.now
  hex-inside w k h r p = omega (arith, length-hex (k - 1) (w / 16), p.put.next-is, p.long)

  pub more_hex : {mid : Out} {d : ℕ} (w k : ℕ) → 0 < k → Wrote before (hex_digits (k - 1) (w / 16)) mid → d ≡ hex_digit (w % 16) → Wrote mid (d ∷ []) left
      → Wrote before (hex_digits k w) left
  more_hex w k h p f q =
      let e : suc (k - 1) ≡ k = omega arith in
      subst (λ (m : ℕ). Wrote before (hex_digits m w) left) e (wrote_both p (rw f at q))

-- Bytes written one after another, and how many at most.
use Prim.Native.Nat.{ℕ, ◌+◌, ◌*◌, ◌≤◌, ◌<◌, ◌^◌}
use mathlib.Core.Path.{◌≡◌}
use mathlib.Core.List.{List, ◌++◌}
use native.Mathlib.Numerals.{add-one}
use native.Mathlib.Omega.{arith}
use lib.ListN.{length}
use Rattle.program_text.specs.Text.{decimal}
use Rattle.program_text.specs.Written.{hex16, Wrote}
use Rattle.program_text.specs.declared.Out.{Out}
use Rattle.program_text.proofs.Decimals.{decimal-word}
use Rattle.program_text.proofs.Puts.{wrote_both, length-hex16}
use Rattle.program_lines.specs.Lines.{row_line, row_lines}
use Rattle.program_lines.specs.Inner.{WroteIn}

module _ {before left : Out} where
  pub bytes-in : {bytes : List ℕ} → Wrote before bytes left → WroteIn (length bytes) before bytes left
  bytes-in p = record { wrote = p; within = omega (arith, p.put.next-is) }

  pub number_in : {n : ℕ} → n < 2 ^ 64 → Wrote before (decimal n) left → WroteIn 20 before (decimal n) left
  number_in {n} h p = record { wrote = p; within = omega (arith, p.put.next-is, decimal-word n h) }

  pub bits_in : (w : ℕ) → Wrote before (hex16 w) left → WroteIn 16 before (hex16 w) left
  bits_in w p = record { wrote = p; within = omega (arith, p.put.next-is, length-hex16 w) }

  -- a larger bound
  pub loosely : {k m : ℕ} {bytes : List ℕ} → k ≤ m → WroteIn k before bytes left → WroteIn m before bytes left
  loosely h p = record { wrote = p.wrote; within = let w = p.within in omega arith }

  -- one after the other
  pub both : {k m : ℕ} {mid : Out} {xs ys : List ℕ} → WroteIn k before xs mid → WroteIn m mid ys left → WroteIn (k + m) before (xs ++ ys) left
  both p q =
      record {
        wrote = wrote_both p.wrote q.wrote;
        within = let v = p.within in let w = q.within in omega arith;
      }

-- ---- rows

pub row_more : {before mid left : Out} (t : List ℕ) (i : ℕ) → WroteIn (156 * i) before (row_lines t i) mid → WroteIn 156 mid (row_line t i) left
    → WroteIn (156 * (i + 1)) before (row_lines t (i + 1)) left
row_more t i p q =
    let e : 156 * i + 156 ≡ 156 * (i + 1) = omega arith in
    rw (← e, add-one) (both p q)

-- What the answer of `evening_text` says of an output with room.
use Prim.Native.Nat.{ℕ, ◌+◌, ◌≤◌, ◌<◌}
use mathlib.Core.Path.{◌≡◌, sym, ◌∙◌, ap, subst}
use mathlib.Core.Bool.{Bool, cond}
use mathlib.Core.List.{List, [], ◌++◌}
use native.Mathlib.Omega.{arith}
use borrow.Author.Tests.{le-ltb}
use lib.ListN.{length, drop}
use lib.Seq.{sets-eq}
use Rattle.program_text.proofs.Lengths.{too_long}
use Rattle.program_lines.specs.Lines.{PutIn}
use Rattle.program_report.specs.Printed.{bad_line, printed, evening_text, most_bytes, text_for}

-- the text stands in front, whole, and what is behind it stays
pub whole-text : (b out : List ℕ) (r : ℕ) (left : List ℕ) → most_bytes ≤ length out → PutIn (length out) out 0 (text_for (length out) b) r left
    → (r ≡ length (evening_text b)) × (left ≡ evening_text b ++ drop r out)
unfolding text_for
whole-text b out r left h p =
    let q = subst (λ (t : Bool). PutIn (length out) out 0 (cond t [] (evening_text b)) r left) (le-ltb _ _ h) p in
    let e : 0 + length (evening_text b) ≡ r = sym q.put.next-is in
    let w = q.within in
    let f : 0 + length (evening_text b) ≤ length out = omega arith in
    (omega arith, q.put.stored ∙ sets-eq (evening_text b) out 0 f ∙ ap (λ (k : ℕ). evening_text b ++ drop k out) e)

-- an input longer than the longest text that asks anything
pub long-input : (b : List ℕ) → 105128 < length b → evening_text b ≡ bad_line
unfolding evening_text
long-input b h = ap printed (too_long b h)

-- What a text asks, and its lines.
use Prim.Native.Nat.{ℕ, ◌*◌, ◌≤◌, ◌<◌}
use mathlib.Core.Path.{◌≡◌, refl, sym, ◌∙◌, ap, subst}
use mathlib.Core.List.{List}
use native.Mathlib.Omega.{arith}
use borrow.Author.Tests.{lt-ltb, le-ltb}
use lib.ListN.{length, take}
use Rattle.std.specs.Prelude.{Option, None, Some}
use Rattle.program_text.specs.Text.{Admissible}
use Rattle.program_text.specs.Written.{Wrote}
use Rattle.program_text.specs.declared.Out.{Out}
use Rattle.program_text.specs.Reading.{Reading, asked, bad_input, read_text, ReadBy}
use Rattle.program_text.specs.declared.Request.{Request}
use Rattle.program_text.proofs.Faithful.{text-read}
use Rattle.program_text.proofs.Promised.{reading-bad, answer-request}
use Rattle.program_lines.specs.Lines.{PutIn}
use Rattle.program_lines.specs.Inner.{WroteIn}
use Rattle.program_lines.proofs.Within.{bytes-in, loosely}
use Rattle.program_report.specs.Printed.{bad_line, printed, evening_text, most_bytes, text_for}

-- `r` is what `read_text` says of the bytes b of a text
module _ (b : List ℕ) {before left : List ℕ} {x : Option Request} (r : ReadBy (read_text b) before x left) where
  -- the reading behind an answer: a request and the words in front of the recording, or bad input
  asked_by : {q : Request} → x ≡ Some q → 5000 ≤ length before
      → (read_text b ≡ asked q (take (5 * q.quotes) left)) × Admissible q (take (5 * q.quotes) left)
  asked_by {q} e h =
      let t = answer-request b before left q h (subst (λ (y : Option Request). ReadBy (read_text b) before y left) e r) in
      (ap read_text (sym t.0) ∙ text-read q (take (5 * q.quotes) left) t.1, t.1)

  bad-by : x ≡ None → read_text b ≡ bad_input
  bad-by e = reading-bad (read_text b) (sym e ∙ r.answer)

  -- the lines of the reading are those of the text
  module _ {out done : Out} where
    text-by : (g : Reading) → read_text b ≡ g → WroteIn most_bytes out (printed g) done → WroteIn most_bytes out (evening_text b) done
    unfolding evening_text
    text-by g e p = subst (λ (y : Reading). WroteIn most_bytes out (printed y) done) (sym e) p

    pub bad-text : x ≡ None → Wrote out bad_line done → WroteIn most_bytes out (evening_text b) done
    bad-text e p = text-by bad_input (bad-by e) (loosely (omega arith) (bytes-in p))

    pub request-text : {q : Request} → x ≡ Some q → 5000 ≤ length before
        → WroteIn most_bytes out (printed (asked q (take (5 * q.quotes) left))) done
        → WroteIn most_bytes out (evening_text b) done
    request-text {q} e h p = text-by (asked q (take (5 * q.quotes) left)) (asked_by e h).0 p

-- ---- for every output

pub text-short : (out b : List ℕ) → length out < most_bytes → PutIn (length out) out 0 (text_for (length out) b) 0 out
unfolding text_for
text-short out b h = rw (lt-ltb _ _ h) (record { put = record { next-is = refl; stored = refl }; within = omega arith })

pub text-long : {before after : Out} {left : List ℕ} (b : List ℕ) → before.at ≡ 0 → most_bytes ≤ length before.bytes.now
    → WroteIn most_bytes before (evening_text b) after
    → left ≡ after.bytes.now
    → PutIn (length before.bytes.now) before.bytes.now 0 (text_for (length before.bytes.now) b) after.at left
unfolding text_for
text-long b z h p e =
    let w = p.within in
    let q = p.wrote.put in
    rw (e, le-ltb _ _ h) (record { put = rw z at q; within = omega arith })

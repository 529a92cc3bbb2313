-- What the answer of `read_text` says of the text, both ways, by `text_of` and `Admissible` alone.
use Prim.Native.Nat.{ℕ, ◌*◌, ◌≤◌}
use mathlib.Core.Path.{◌≡◌, sym, ◌∙◌, ap, subst}
use mathlib.Core.List.{List}
use lib.ListN.{length, take}
use lib.Seq.{sets}
use Rattle.std.specs.Prelude.{Option, None, Some}
use Rattle.basics.proofs.Tests.{zero-not-one}
use Rattle.program_text.specs.Text.{text_of, Admissible}
use Rattle.program_text.specs.Reading.{Reading, asked, bad_input, read_text, read_answer, recording_by, ReadBy}
use Rattle.program_text.specs.declared.Request.{Request}
use Rattle.program_text.proofs.Faithful.{text-read, read-text, read-bad, recording-front}

-- the reading behind an answer
pub reading-asked : (g : Reading) (q : Request) → Some q ≡ read_answer g → (ws : List ℕ) × (g ≡ asked q ws)
reading-asked (asked r ws) q e = (ws, let p : r ≡ q = cc in ap (λ (x : Request). asked x ws) p)
reading-asked bad_input q e = absurd (zero-not-one cc)

pub reading-bad : (g : Reading) → None ≡ read_answer g → g ≡ bad_input
reading-bad (asked r ws) e = absurd (zero-not-one cc)
reading-bad bad_input e = λ i. bad_input

module _ (b before : List ℕ) (left : List ℕ) where
  -- a request: the text is that of the request and of the words in front of the recording, and they are admissible
  pub answer-request : (q : Request) → 5000 ≤ length before → ReadBy (read_text b) before (Some q) left
      → (text_of q (take (5 * q.quotes) left) ≡ b) × Admissible q (take (5 * q.quotes) left)
  answer-request q h r = go (reading-asked (read_text b) q r.answer)
    where
      go : (ws : List ℕ) × (read_text b ≡ asked q ws) → (text_of q (take (5 * q.quotes) left) ≡ b) × Admissible q (take (5 * q.quotes) left)
      go (ws, e) =
          let t = read-text b q ws e in
          let f : take (5 * q.quotes) left ≡ ws =
          ap (take (5 * q.quotes)) (r.recording ∙ ap (λ (g : Reading). recording_by g before) e) ∙ recording-front q ws before t.1 h in
          subst (λ (vs : List ℕ). (text_of q vs ≡ b) × Admissible q vs) (sym f) t

  -- bad input: no admissible request has this text, and the recording is as it was
  pub answer-bad : ReadBy (read_text b) before None left → ((r : Request) (ws : List ℕ) → Admissible r ws → text_of r ws ≡ b → ⊥) × (left ≡ before)
  answer-bad r =
      let e = reading-bad (read_text b) r.answer in
      (read-bad b e, r.recording ∙ ap (λ (g : Reading). recording_by g before) e)

  -- the text of an admissible request is answered by it, and its words are stored
  pub request-answer : (q : Request) (ws : List ℕ) (x : Option Request) → Admissible q ws → text_of q ws ≡ b → ReadBy (read_text b) before x left
      → (x ≡ Some q) × (left ≡ sets before 0 ws)
  request-answer q ws x a e r =
      let g : read_text b ≡ asked q ws = ap read_text (sym e) ∙ text-read q ws a in
      (r.answer ∙ ap read_answer g, r.recording ∙ ap (λ (y : Reading). recording_by y before) g)

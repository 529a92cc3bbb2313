use mathlib.Core.Path.{refl, sym, ap, ◌∙◌}
use mathlib.Core.Bool.{not}
use Prim.Native.Nat.{ℕ, ◌+◌}
use native.Mathlib.Omega.{arith}
use borrow.Author.Tests.{eqb-true}
use Rattle.tally.proofs.Lent.{same-again}
use Rattle.recording.proofs.Chunks.{five-quote}
use Rattle.recording.proofs.Runs.{observing-on, observing-stop, observing-end}
use Rattle.recording.proofs.inner.observe_recording.Goals as goal
use Rattle.recording.proofs.inner.observe_recording.Goals.{in-Err+else-not-is_invalid, in_default}

pub returns-then-not-is_invalid-clause-left : goal.returns-then-not-is_invalid-clause-left
returns-then-not-is_invalid-clause-left c =
    let fives = c.as_chunks.ensures in
    observing-stop (sym fives.back_len ∙ eqb-true _ 0 (sym c.is_empty.ensures ∙ c.if-not-is_empty.false)) c.loop-words.invariant.0 (omega arith)
    (c.from.ensures ∙ five-quote c.args.recording.now _ fives.front fives.front_len c.loop-words.words-index _ (omega arith)) c.in-Err.ensures.left
    (ap not (sym c.is_invalid.ensures ∙ c.if-not-is_invalid.true))

pub loop-words-preserved : goal.loop-words-preserved
loop-words-preserved c =
    let fives = c.as_chunks.ensures in
    let quoted = c.from.ensures ∙ five-quote c.args.recording.now _ fives.front fives.front_len c.loop-words.words-index _ (omega arith) in
    let same = same-again c.loop-words.invariant.1 c.observe-answer.ensures.same_slices in
    elim c.match-answer.branch [
      | in-Err+else-not-is_invalid w ↦
          let e = sym w.is_invalid.ensures ∙ w.if-not-is_invalid.false in (
            observing-on c.loop-words.invariant.0 (omega arith) quoted w.in-Err.ensures.left
                (ap not e) (w.invalid-is ∙ ap (λ (n : ℕ). c.loop-words.invalid + n) w.invalid_in-invalid.ensures.counted),
            same,
          )
      | in_default w ↦
          (observing-on c.loop-words.invariant.0 (omega arith) quoted w.in_default.ensures.left refl (omega arith), same)
    ]

pub returns-clause-left : goal.returns-clause-left
returns-clause-left c =
    observing-end (sym c.as_chunks.ensures.back_len ∙ eqb-true _ 0 (sym c.is_empty.ensures ∙ c.if-not-is_empty.false)) c.loop-words.invariant.0 (omega arith)

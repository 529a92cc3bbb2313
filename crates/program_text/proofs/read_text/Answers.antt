-- `program_text::read_text` meets its contract: the text is read once for the numbers of line 1 and, if the tests pass, again for the words of the quotes. No
-- loop. The ways out: a byte may not stand where it does (`read-broken`); not whole lines, too many quotes or too many states (`read-refused`); a request
-- (`read_asked`). The laws take what the calls promise.
use Rattle.std.proofs.Common.{refl, sym, ◌∙◌, inl, inr}
use Rattle.program_text.proofs.Answers.{read-broken, read-refused, read_asked}
use Rattle.program_text.proofs.read_text.Goals as goal
use Rattle.program_text.proofs.read_text.Goals.{then-not-whole_lines-via-then-not-whole_lines, then-not-whole_lines-via-else-not-whole_lines+then-not-few_states}

pub returns-in_err-count-clause-read : goal.returns-in_err-count-clause-read
returns-in_err-count-clause-read c = rw c.from_residual.ensures (read-broken c.args.text.now c.args.recording.now c.read_numbers.ensures c.in_err-count.was)

pub returns-then-not-whole_lines-clause-read : goal.returns-then-not-whole_lines-clause-read
returns-then-not-whole_lines-clause-read c =
    elim c.then-not-whole_lines.branch [
      | then-not-whole_lines-via-then-not-whole_lines w ↦
          read-refused c.args.text.now c.args.recording.now c.read_numbers.ensures c.in_ok-count.was refl
          (inl (sym c.whole_lines.ensures ∙ w.if-not-whole_lines.true))
      | then-not-whole_lines-via-else-not-whole_lines+then-not-few_states w ↦
          read-refused c.args.text.now c.args.recording.now c.read_numbers.ensures c.in_ok-count.was refl
          (inr (sym w.few_states.ensures ∙ w.if-not-few_states.true))
    ]

pub returns-clause-read : goal.returns-clause-read
returns-clause-read c =
    read_asked c.args.text.now c.args.recording.now c.read_numbers.ensures c.in_ok-count.was refl
    (sym c.whole_lines.ensures ∙ c.if-not-whole_lines.false) (sym c.few_states.ensures ∙ c.if-not-few_states.false) c.read_numbers-2.ensures

-- `fit::inner::FitInput::fit_states` meets its contract: mark the states, and fit them if one is Calibrated. No loop. What `mark_no_price_move` leaves are the
-- marks of the cells (`marks-of`), so a mark 0 is found exactly if a state is used (`marked-used`). The ways out: none is (`ends-none`), else the fit of the
-- marked states.
use mathlib.Core.Path.{sym, ◌∙◌}
use Rattle.fit.specs.InnerInput.{input_in}
use Rattle.fit.proofs.Ends.{marks-of, marked-used, ends-none}
use borrow.Author.Rules.{rules}
use Rattle.fit.proofs.inner.FitInput.fit_states.Goals as goal

pub returns-then-not-contains : goal.returns-then-not-contains
returns-then-not-contains c =
    let a = c.args in
    let G = input_in a.self.now in
    let m = marks-of G.cells _ _ (search rules) c.mark_no_price_move.ensures in
    let u = sym (marked-used G.cells _ m) ∙ sym c.contains.ensures.value ∙ c.if-not-contains.true in
    ends-none a.rounds.series a.rounds.fallback G a.model.now u

pub invariant_of-marked : goal.invariant_of-marked
invariant_of-marked c = record { marked = marks-of (input_in c.args.self.now).cells _ _ (search rules) c.mark_no_price_move.ensures }

pub returns : goal.returns
returns c =
    let a = c.args in
    let G = input_in a.self.now in
    let m = marks-of G.cells _ _ (search rules) c.mark_no_price_move.ensures in
    let u = sym (marked-used G.cells _ m) ∙ sym c.contains.ensures.value ∙ c.if-not-contains.false in
    c.fit_marked.ensures u

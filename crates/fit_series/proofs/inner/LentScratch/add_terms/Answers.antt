use Rattle.std.proofs.Common.{◌≡◌, ◌-◌, ◌+◌, sym, ◌∙◌, arith}
use Rattle.fit_series.proofs.Lent.{changed-none, changed-then}
use Rattle.fit_series.proofs.Rounds.{running_none, run-infinite, run-tiny, run_more, run_out}
use Rattle.fit_series.proofs.inner.LentScratch.add_terms.Goals as goal

pub loop-made-init : goal.loop-made-init
loop-made-init c =
    let all : c.args.rounds - 0 ≡ c.args.rounds = omega arith in
    changed-none (rw all running_none)

pub returns-then-is_infinite : goal.returns-then-is_infinite
returns-then-is_infinite c =
    let infinite = sym c.is_infinite.ensures ∙ c.if-is_infinite.true in
    changed-then c.loop-made.invariant c.add_term-largest.ensures (λ r t. run-infinite (omega arith) r t infinite)

pub returns-then-largest : goal.returns-then-largest
returns-then-largest c =
    let finite = sym c.is_infinite.ensures ∙ c.if-is_infinite.false in
    changed-then c.loop-made.invariant c.add_term-largest.ensures (λ r t. run-tiny (omega arith) r t finite c.if-largest.true)

pub loop-made-preserved : goal.loop-made-preserved
loop-made-preserved c =
    let finite = sym c.is_infinite.ensures ∙ c.if-is_infinite.false in
    let fewer : c.args.rounds - (c.loop-made.made + 1) ≡ c.args.rounds - c.loop-made.made - 1 = omega arith in
    rw fewer (changed-then c.loop-made.invariant c.add_term-largest.ensures (λ r t. run_more (omega arith) r t finite c.if-largest.false))

pub returns : goal.returns
returns c =
    let s = c.loop-made.invariant in
    let none : c.args.rounds - c.loop-made.made ≡ 0 = omega arith in
    record { states = s.states; slice = s.slice; floats = run_out (rw none at s.floats) }

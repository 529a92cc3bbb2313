-- `fit::inner::fit_counts_with` meets its contract: the refusals before the fit, then the fit of the tables with its mirrors, then scratch is cleared. No loop.
-- Two ways out: `check_fit` refuses, and nothing changes; else the fit ends as `fit_of` says, the table of mirrors agreeing with
-- `mirror_of` (`whole`). Where `check_fit` is fine, all that the callees and the structs ask is known (`fit-known-with`).
use mathlib.Core.Path.{sym, ◌∙◌}
use native.Mathlib.Omega.{arith}
use Rattle.std.proofs.Common.{rules}
use Rattle.tally.specs.Lent.{tables_in}
use Rattle.calibrator.specs.Record.{memory_with}
use Rattle.fit.proofs.Known.{fit-known-with, exact-of, usable-of, whole}
use Rattle.fit.proofs.inner.fit_counts_with.Goals as goal

pub mirrors_of-mirrors-requires : goal.mirrors_of-mirrors-requires
mirrors_of-mirrors-requires c =
    let a = c.args in
    let before = memory_with a.rec (tables_in a.tables) in
    let f = fit-known-with a.rounds.series a.rounds.fallback a.config before c.check_fit.ensures c.in_ok-check_fit.was in
    f.conf

pub state_count-requires : goal.state_count-requires
state_count-requires c =
    let a = c.args in
    let before = memory_with a.rec (tables_in a.tables) in
    let f = fit-known-with a.rounds.series a.rounds.fallback a.config before c.check_fit.ensures c.in_ok-check_fit.was in
    f.conf

pub invariant_of-pairs : goal.invariant_of-pairs
invariant_of-pairs c =
    let a = c.args in
    let before = memory_with a.rec (tables_in a.tables) in
    let f = fit-known-with a.rounds.series a.rounds.fallback a.config before c.check_fit.ensures c.in_ok-check_fit.was in
    record { fitting = rw c.state_count.ensures (exact-of f).cells }

pub invariant_of-tables : goal.invariant_of-tables
invariant_of-tables c =
    let a = c.args in
    let before = memory_with a.rec (tables_in a.tables) in
    let f = fit-known-with a.rounds.series a.rounds.fallback a.config before c.check_fit.ensures c.in_ok-check_fit.was in
    record { exact = rw c.state_count.ensures (exact-of f) }

pub invariant_of-input : goal.invariant_of-input
invariant_of-input c =
    let a = c.args in
    let before = memory_with a.rec (tables_in a.tables) in
    let f = fit-known-with a.rounds.series a.rounds.fallback a.config before c.check_fit.ensures c.in_ok-check_fit.was in
    let m = c.mirrors_of-mirrors in
    record { usable = rw c.state_count.ensures (usable-of f m.result (omega (arith, m.type_inv)) m.ensures) }

pub fit_states-answer-requires : goal.fit_states-answer-requires
fit_states-answer-requires c =
    let a = c.args in
    let before = memory_with a.rec (tables_in a.tables) in
    let f = fit-known-with a.rounds.series a.rounds.fallback a.config before c.check_fit.ensures c.in_ok-check_fit.was in
    rw c.state_count.ensures (record { few = f.conf.states-most; enough = omega (arith, f.scratch-long) }, f.model-long)

pub returns : goal.returns
returns c =
    let a = c.args in
    whole a.rounds.series a.rounds.fallback a.config (memory_with a.rec (tables_in a.tables)) a.model.now _ a.scratch.now _ _
    _ c.mirrors_of-mirrors.result c.state_count.ensures (sym c.check_fit.ensures ∙ c.in_ok-check_fit.was)
    c.mirrors_of-mirrors.ensures c.fit_states-answer.ensures (search rules)

-- `count_check::MirroredTables::totals_over` meets its contract: `any` over the n numbers below n is the test of the n totals (`any-range`).
use Prim.Native.Nat.{ℕ}
use mathlib.Core.Path.{refl, ◌∙◌}
use native.Mathlib.Omega.{arith}
use lib.ListN.{get_or}
use borrow.Author.Tests.{tests}
use Rattle.std.specs.Prelude.{pos}
use Rattle.std.proofs.Common.{rules}
use Rattle.std.proofs.lemmas.Iterator.{YieldsList-from_range}
use Rattle.std.proofs.lemmas.Iterator.Search.{any_from_yields_List}
use Rattle.tally.specs.Entries.{over_total}
use Rattle.count_check.proofs.Walks.{any-range}
use Rattle.count_check.proofs.MirroredTables.totals_over.Goals as goal

pub returns : goal.returns
returns g c =
    let t = c.args.self.now in
    let totals = (g.S.Counted.held t.source.now).totals in
    let over = λ (k : ℕ). over_total (get_or totals k (pos 0)) in
    any_from_yields_List over _ _ _ c.any.ensures.ran (YieldsList-from_range 0 t.n t.n refl (omega arith)) (λ x b q k. search (rules, tests))
    ∙ any-range over_total (pos 0) totals 0 t.n (omega arith)

-- `count_check::MirroredTables::sum_capped` meets its contract: the stay cells are added to 0, the moved cells to their sum, and each sum is cut off at the
-- greatest word (`added-sum`).
use mathlib.Core.Path.{refl, ◌∙◌}
use native.Mathlib.Omega.{arith}
use Prim.Native.Nat.{◌*◌}
use Rattle.std.proofs.Common.{rules}
use Rattle.std.proofs.lemmas.Iterator.{YieldsList-from_range}
use Rattle.std.proofs.lemmas.Iterator.Consumers.{fold_from_yields_List}
use Rattle.count_check.proofs.Sums.{added, added-sum}
use Rattle.count_check.proofs.MirroredTables.sum_capped.Goals as goal

pub returns : goal.returns
returns g c =
    let t = g.S.Counted.held c.args.self.now.source.now in
    let n = c.args.self.now.n * c.args.self.now.n in
    let stay = fold_from_yields_List _ (added t.stay) 0 _ c.fold-stay.ensures.ran (YieldsList-from_range 0 n n refl (omega arith)) (λ a x b q k. search rules)
    in
    let both = fold_from_yields_List _ (added t.moved) _ _ c.fold.ensures.ran (YieldsList-from_range 0 n n refl (omega arith)) (λ a x b q k. search rules) in
    let stay-sum = stay ∙ added-sum t.stay 0 n 0 (omega arith) (omega arith) in
    both ∙ added-sum t.moved 0 n _ (omega arith) (omega (arith, stay-sum)) ∙ omega (arith, stay-sum)

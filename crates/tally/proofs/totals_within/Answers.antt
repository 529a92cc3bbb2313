-- `tally::totals_within` meets its contract: whether both totals are within the limit with the change at a and its negative at b. At one place the two cancel,
-- and the total as it is has to be within; at two places each with its own addition (`totals-other`).
use Rattle.std.proofs.Common.{get_or, pos, rules, w64, SFits, neg_ℤ}
use Rattle.std.proofs.Math.IntN.{+ℤ_idl}
use Rattle.std.proofs.lemmas.Int.{to_z-of_z}
use Rattle.tally.proofs.Touched.{totals-other}
use Rattle.tally.proofs.totals_within.Goals as goal

pub returns : goal.returns
returns c =
    let a = c.args in
    let x : SFits w64 (get_or a.t.now a.a (pos 0)) = search rules in
    let y : SFits w64 (get_or a.t.now a.b (pos 0)) = search rules in
    let d : SFits w64 a.d = c.ranges.d in
    let e : SFits w64 (neg_ℤ a.d) = search rules in
    simp (c.is_within_after.ensures, c.is_within_after-2.ensures, +ℤ_idl, to_z-of_z)
    (totals-other a.t.now a.d a.a a.b c.requires.0 c.requires.1 c.if-a-b.false)

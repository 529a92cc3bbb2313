-- `fit_system::FitTables::fill_row` meets its contract: row x of the system by its parts, (1 − Q) | K | fallback | T. No loop. The callees ask that row x lies
-- in the tables and that its numbers are exact as floats (`row-exact`). The way out: the parts make the row, where the mark says whether it is used
-- (`row-by-lists`), and the parts of scratch that were lent are filled (`filled-here`).
use native.Mathlib.Omega.{arith}
use Prim.Native.Nat.{◌+◌, ◌-◌, ◌*◌}
use borrow.Author.Rules.{rules}
use borrow.Rule.Slice.PartMut.{put_mid}
use lib.ListN.{set}
use Rattle.fit_series.specs.Inner.{width}
use Rattle.fit_marking.proofs.Rows.{length-row}
use Rattle.fit_system.proofs.Filling.{row-exact, row-by-lists, length-here, filled-here}
use Rattle.fit_system.proofs.FitTables.fill_row.Goals as goal

pub fill_stay-requires : goal.fill_stay-requires
fill_stay-requires c =
    let a = c.args in
    let n = a.self.now.pairs.states in
    let k = row-exact a.self.now.exact c.requires.0 in (
      rw c.row-stay.ensures k.stay-exact,
      rw c.used_observations-observed.ensures (k.observed-exact a.mark),
      rw (c.row-stay.ensures, length-row n a.self.now.pairs.stay.now a.x k.stay-in) (length-here (a.x * width n) n a.scratch.now (search rules)),
    )

pub part_of-requires : goal.part_of-requires
part_of-requires c = rw c.used_observations-observed.ensures ((row-exact c.args.self.now.exact c.requires.0).observed-exact c.args.mark)

pub fill_moved-requires : goal.fill_moved-requires
fill_moved-requires c =
    let a = c.args in
    let n = a.self.now.pairs.states in
    let k = row-exact a.self.now.exact c.requires.0 in
    let b = a.x * width n in
    let l = set (set (put_mid b (b + n - b) a.scratch.now c.fill_stay.new.out) (b + n) c.part_of.result) (b + (n + 1)) c.fallback_of.result in (
      rw c.row-moved.ensures k.moved-exact,
      rw c.used_observations-observed.ensures (k.observed-exact a.mark),
      rw (c.row-moved.ensures, length-row n a.self.now.pairs.moved.now a.x k.moved_in) (length-here (b + (n + 2)) n l (search rules)),
    )

pub returns : goal.returns
returns c least marked =
    let a = c.args in
    let t = a.self.now in
    let n = t.pairs.states in
    let b = a.x * width n in
    row-by-lists n least a.x a.mark t.pairs.stay.now t.pairs.moved.now t.move_half_ticks.now _ _ _
    (row-exact t.exact c.requires.0)
    marked
    c.used_observations-observed.ensures
    c.row-stay.ensures
    c.row-moved.ensures
    (filled-here b n a.scratch.now c.fill_stay.new.out (search rules) (omega arith) c.fill_stay.ensures)
    (search rules)
    (c.part_of.ensures _ c.total_of-total.ensures)
    c.fallback_of.ensures
    (filled-here (b + (n + 2)) n _ c.fill_moved.new.out (search rules) (omega arith) c.fill_moved.ensures)

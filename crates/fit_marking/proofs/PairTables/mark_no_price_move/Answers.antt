-- `fit_marking::PairTables::mark_no_price_move` meets its contract: first marks by the states' own rows, then turns until one frees no state. Invariant: the
-- marks come
-- from the first marks by freeing states one after another (`Led`). The measure is the number of states with mark 2: a turn that frees a state brings it down.
-- The way out: the last turn freed none, so no state with mark 2 leads out, and the marks say what is so of every path (`all-marked`).
use mathlib.Core.Path.{refl}
use native.Mathlib.Omega.{arith}
use Rattle.fit_marking.specs.Inner.{none}
use Rattle.fit_marking.proofs.Turns.{led-led}
use Rattle.fit_marking.proofs.Marks.{all-marked}
use Rattle.fit_marking.proofs.PairTables.mark_no_price_move.Goals as goal

pub loop-init : goal.loop-init
loop-init c = (refl, none)

pub loop-preserved : goal.loop-preserved
loop-preserved c =
    let l = c.loop in
    (omega arith, led-led _ _ _ _ _ l.invariant.1 c.turn.ensures.led)

pub returns : goal.returns
returns c =
    let a = c.args in
    let l = c.loop in
    let t = c.turn.ensures in
    all-marked a.self.now.states a.least a.self.now.stay.now a.self.now.moved.now a.marks.now _ _ (omega arith) c.first_marks.ensures
    (led-led _ _ _ _ _ l.invariant.1 t.led) (t.closed c.loop-test.false)

-- `fit_marking::PairTables::turn` meets its contract: one turn through the states, which frees those that lead out. Invariant (`Pass`): the marks come from
-- those at entry
-- by freeing states; if one was freed, fewer wait; if none was, no state below x that waits leads out. A state that is freed (`pass-freed`) and one that is
-- left (`pass-left`) keep it. At the way out x is n (`pass-end`).
use native.Mathlib.Omega.{arith}
use Rattle.fit_marking.proofs.Turns.{pass-start, pass-freed, pass-left}
use Rattle.fit_marking.proofs.PairTables.turn.Goals as goal
use Rattle.fit_marking.proofs.PairTables.turn.Goals.{then-look_at, else-look_at}

pub loop-x-init : goal.loop-x-init
loop-x-init c = pass-start _ _ _

pub loop-x-preserved : goal.loop-x-preserved
loop-x-preserved c =
    let a = c.args in
    let l = c.loop-x in
    let look = c.look_at in
    elim c.if-look_at.branch [
      | then-look_at w ↦
          rw w.freed-is
          (pass-freed a.self.now.states a.self.now.stay.now a.marks.now l.marks _ l.freed l.x l.invariant (omega arith) (omega arith)
          (look.ensures.0 w.if-look_at.true))
      | else-look_at w ↦
          rw w.freed-is (pass-left a.self.now.states a.self.now.stay.now a.marks.now l.marks _ l.freed l.x l.invariant (look.ensures.1 w.if-look_at.false))
    ]

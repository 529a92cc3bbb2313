-- `quotes::inner::level_after` meets its contract: the state after one of the level's n is of the same level (`level-same`), or the first of the next, which
-- begins n states on and is of one tick more (`level-next`). No loop. A state's spread is at most its number and one (`level-spread-most`), so the sum fits.
use Rattle.quotes.proofs.Levels.{level-same, level-next}
use Rattle.quotes.proofs.inner.level_after.Goals as goal

pub returns-then-state-level : goal.returns-then-state-level
returns-then-state-level c =
    let a = c.args in
    level-same a.n a.level a.state c.requires.0 c.if-state-level.true

pub returns : goal.returns
returns c =
    let a = c.args in
    level-next a.n a.level a.state c.requires.0 c.if-state-level.false

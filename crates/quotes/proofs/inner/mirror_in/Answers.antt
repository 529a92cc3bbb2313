-- `quotes::inner::mirror_in` meets its contract: as far from the level's last state as the state is from its first is the mirror (`level-mirror`). No loop.
use Rattle.quotes.proofs.Levels.{level-mirror}
use Rattle.quotes.proofs.inner.mirror_in.Goals as goal

pub returns : goal.returns
returns c = level-mirror c.args.n c.args.first c.args.state c.requires.0

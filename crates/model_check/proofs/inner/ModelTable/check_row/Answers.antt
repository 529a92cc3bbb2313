-- `model_check::inner::ModelTable::check_row` meets its contract: row i and the row of its mirror state are read and judged. A row that is not fine is refused
-- with 13 at i, else nothing is. No loop. The mirror's row lies in the table since the mirror of a state is a state (`mirror-below`).
use native.Mathlib.Omega.{arith}
use Rattle.quotes.proofs.States.{mirror-below}
use Rattle.model_check.proofs.inner.ModelTable.check_row.Goals as goal

pub row-requires-2 : goal.row-requires-2
row-requires-2 c =
    let config = c.args.self.now.config in
    omega (
      arith,
      c.mirror_in-m.ensures,
      mirror-below config.imbalance_buckets c.args.i (omega (arith, c.args.self.now.valid.n-least)) config.spread_states
          c.requires.1,
    )

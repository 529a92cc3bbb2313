-- `model_signals::inner::signal_at` meets its contract: by cases on the quote's place. A spread out of range is sent with adjustment 0; a state has the signal
-- of its row. `signal_of_row` asks that the state is one of the configuration's, which a place has (`place-located`). No loop.
use mathlib.Core.Path.{sym}
use native.Mathlib.Omega.{arith}
use Rattle.quotes.proofs.States.{place-located}
use Rattle.model_signals.proofs.inner.signal_at.Goals as goal

pub signal_of_row-requires : goal.signal_of_row-requires
signal_of_row-requires c =
    let table = c.args.table.now in
    let l = place-located table.config c.args.quote table.valid _ (sym c.in-Ok.ensures) in
    (c.requires, omega (arith, l.below, l.mirror-below))

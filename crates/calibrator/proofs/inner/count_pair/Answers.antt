-- `calibrator::inner::count_pair` meets its contract. It ends in three ways: the counter of pairs is full (`way-full`), a touched cell or total would pass its
-- limit (`way-over`), or the pair is entered (`way-entered`). Each law takes what the calls on the way give and ensure and the two tests, in the code's order.
-- No loop. That the pair lies in the tables is `pair-placed`; that the counter can be added to is `may_add`, from the first test.
use Rattle.calibrator.proofs.Ways.{pair-placed, within-limit}
use Rattle.calibrator.proofs.inner.count_pair.Goals as goal

pub enter_pair-requires : goal.enter_pair-requires
enter_pair-requires c =
    let a = c.args in
    let p = c.requires in (
      pair-placed a.config a.pair c.state_count-n.ensures c.entry_of-e.ensures p.0 p.1 p.2,
      within-limit c.pair_within.result _ (rw (c.view.ensures.stay, c.view.ensures.moved, c.view.ensures.totals) at c.pair_within.ensures)
          c.if-not-pair_within.false,
    )

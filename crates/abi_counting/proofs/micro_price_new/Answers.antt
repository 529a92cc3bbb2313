-- `abi_counting::micro_price_new` meets its contract. The ways out: words of other lengths are answered 100 and nothing is written, the second case of
-- `new_words`; else what `calibrator::inner::new` answers of their configuration goes out as a number and the words of its record. No loop.
use mathlib.Core.Path.{refl}
use Rattle.std.proofs.Common.{rules}
use Rattle.tally.specs.Lent.{tables_of}
use Rattle.abi_encoding.specs.Encoding.{record_of, bad_encoding, lent}
use Rattle.abi_encoding.proofs.Laws.{long-by, operation-words}
use Rattle.calibrator.specs.Observe.{made}
use Rattle.abi_counting.specs.Counting.{of_outcome}
use Rattle.abi_counting.proofs.micro_price_new.Goals as goal

pub returns : goal.returns
returns c =
    let a = c.args in
    let r = record_of a.rec.now in
    search (
      rules,
      operation-words a.config.now a.rec.now a.stay.now a.moved.now a.move_half_ticks.now
          (long-by _ _ _ c.right_words.ensures c.if-not-right_words.false) refl c.config_of.ensures made (of_outcome a.rec.now) (c.new-made.ensures.left r)
          (c.put_outcome.ensures r (tables_of c.new-made.new.tables)) (lent bad_encoding a.rec.now a.stay.now a.moved.now a.move_half_ticks.now),
    )

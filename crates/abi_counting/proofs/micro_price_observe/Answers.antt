-- `abi_counting::micro_price_observe` meets its contract. The ways out: words that are not encoded are answered 100 and nothing is written, the second case of
-- `observe_words`; else what `calibrator::inner::observe` answers of their record and configuration goes out as a number and the words of its record. The calls
-- after the test ask of the words only what the test says. No loop.
use Rattle.abi_encoding.proofs.Laws.{encoded-by}
use Rattle.abi_counting.proofs.micro_price_observe.Goals as goal

pub record_of-before-requires : goal.record_of-before-requires
record_of-before-requires c = (encoded-by _ _ _ c.is_encoded.ensures c.if-not-is_encoded.false).rec-long

pub put_outcome-requires : goal.put_outcome-requires
put_outcome-requires c = (encoded-by _ _ _ c.is_encoded.ensures c.if-not-is_encoded.false).rec-long

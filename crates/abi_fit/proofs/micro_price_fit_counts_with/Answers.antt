-- `abi_fit::micro_price_fit_counts_with` meets its contract. The ways out: words that are not encoded are answered 100 and nothing is written, the second case
-- of `fit_with_words`; encoded words hold the record and the configuration, and what `fit::inner::fit_counts_with` answers of them goes out as a number. The
-- calls after the test ask of the words only what the test says. No loop.
use Rattle.abi_encoding.proofs.Laws.{encoded-by}
use Rattle.abi_fit.proofs.micro_price_fit_counts_with.Goals as goal

pub record_of-requires : goal.record_of-requires
record_of-requires c = (encoded-by _ _ _ c.is_encoded.ensures c.if-not-is_encoded.false).rec-long

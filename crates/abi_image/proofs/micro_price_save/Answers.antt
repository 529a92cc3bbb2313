-- `abi_image::micro_price_save` meets its contract. The ways out: words that are not encoded are answered 100 and nothing is written, the second case of
-- `save_words`; encoded words hold the record and the configuration, and what `image::inner::save` answers of them goes out as a number. The calls after
-- the test ask of the words only what the test says. No loop.
use Rattle.abi_encoding.proofs.Laws.{encoded-by}
use Rattle.abi_image.proofs.micro_price_save.Goals as goal

pub record_of-requires : goal.record_of-requires
record_of-requires c = (encoded-by _ _ _ c.is_encoded.ensures c.if-not-is_encoded.false).rec-long

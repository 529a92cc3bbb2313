-- `image_words::put_word` meets its contract: the library's eight bytes of a word, copied to their place, are the word's digits stored there (`put-bytes`).
use Rattle.std.proofs.Common.{arith, ◌∙◌}
use Rattle.image_words.proofs.Laws.{put-bytes}
use Rattle.image_words.proofs.put_word.Goals as goal

pub returns : goal.returns
returns c = put-bytes c.args.out.now c.args.at _ c.args.w _ (c.copy_from_slice.ensures.after ∙ c.to_le_bytes.ensures) (omega arith) (omega arith)

-- `recording::inner::is_sorted` meets its contract: the times of a recording are the first words of its fives, and each is compared with the next
-- (`fives-sorted`).
use Rattle.std.proofs.Common.{rules}
use Rattle.std.proofs.lemmas.List.Sorted.{answers_always}
use Rattle.recording.proofs.Chunks.{first_word, fives-sorted}
use Rattle.recording.proofs.inner.is_sorted.Goals as goal

pub returns : goal.returns
returns c =
    let fives = c.as_chunks.ensures in
    fives-sorted c.args.recording.now c.as_chunks.result.0.now fives.front fives.front_len c.is_sorted_by_key.result
    (c.is_sorted_by_key.ensures.cases first_word (answers_always _ _ _ (λ f a r f' k. search rules)))

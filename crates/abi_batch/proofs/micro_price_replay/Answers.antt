-- `abi_batch::micro_price_replay` meets its contract: words that are not encoded are answered 100 and nothing is written; encoded words hold the record and the
-- configuration (`encoded-by`), and what the replay promises of them it promises of the words: of a bad encoding with no word written, else with the record
-- written back (`replay-ran`). No loop.
use Rattle.std.proofs.Common.{rules}
use Rattle.tally.specs.Lent.{tables_of}
use Rattle.abi_encoding.proofs.Laws.{Encoded, encoded-by}
use Rattle.history_replay.specs.Replay.{site, replay}
use Rattle.abi_batch.proofs.BatchWords.{replay-ran}
use Rattle.abi_batch.proofs.micro_price_replay.Goals as goal

pub record_of-next-requires : goal.record_of-next-requires
record_of-next-requires c = (encoded-by _ _ _ c.is_encoded.ensures c.if-not-is_encoded.false).rec-long

pub put_record-requires : goal.put_record-requires
put_record-requires c = (encoded-by _ _ _ c.is_encoded.ensures c.if-not-is_encoded.false).rec-long

pub returns-in-Ok : goal.returns-in-Ok
returns-in-Ok c =
    let a = c.args in
    let o = c.replay in
    let known : Encoded a.config.now a.rec.now = encoded-by _ _ _ c.is_encoded.ensures c.if-not-is_encoded.false in
    let after = replay o.result o.new.answers (site o.new.rec (tables_of o.new.tables) o.new.room) in
    search (
      rules,
      replay-ran a.config.now a.rec.now a.stay.now a.moved.now a.move_half_ticks.now known
          c.record_of-next.ensures c.config_of-config.ensures a.calls.now a.room.now a.answers.now after o.ensures.runs c.in-Ok.is c.put_record.ensures,
    )

-- `image_layout::Header::record` meets its contract: the words that code takes are those of the definition (`word-read`).
use native.Mathlib.Omega.{arith}
use Rattle.image_layout.proofs.Headers.{word-read, some-if}
use Rattle.image_layout.proofs.Header.record.Goals as goal

pub returns : goal.returns
returns c =
    let header = c.args.self.now in
    let read = word-read header.bytes.now header.words header.read in
    rw (
      c.then_some.ensures,
      some-if,
      c.from-quote.ensures,
      read 9 (omega arith),
      read 10 (omega arith),
      read 11 (omega arith),
      read 12 (omega arith),
      read 13 (omega arith),
      read 14 (omega arith),
      read 15 (omega arith),
      read 16 (omega arith),
      read 17 (omega arith),
      read 18 (omega arith),
    )

-- `image_layout::Header::config` meets its contract: the words that code takes are those of the definition (`word-read`).
use native.Mathlib.Omega.{arith}
use Rattle.image_layout.proofs.Headers.{word-read}
use Rattle.image_layout.proofs.Header.config.Goals as goal

pub returns : goal.returns
returns c =
    let header = c.args.self.now in
    let read = word-read header.bytes.now header.words header.read in
    rw (c.config_of.ensures, read 1 (omega arith), read 2 (omega arith), read 3 (omega arith), read 4 (omega arith), read 5 (omega arith))

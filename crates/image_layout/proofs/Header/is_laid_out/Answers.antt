-- `image_layout::Header::is_laid_out` meets its contract: the header that code makes of the configuration and the record read is the one that the definition
-- compares with, and no other form than the newest is read; then come the two tests of the definition, the words and the length (`laid-out-is`).
use mathlib.Core.Path.{ap, ◌∙◌}
use Prim.Native.Nat.{ℕ}
use mathlib.Core.List.{List}
use Rattle.basics.specs.Lists.{same_words}
use Rattle.image_layout.proofs.Headers.{laid-out-is, same-pointwise}
use Rattle.image_layout.proofs.Header.is_laid_out.Goals as goal

pub returns : goal.returns
returns c =
    let header = c.args.self.now in
    let h = c.header_words-words.result in
    laid-out-is header.bytes.now c.config-config.result c.record.result h c.eq.result c.image_length.result c.config-config.ensures c.record.ensures
    c.header_words-words.ensures
    (c.eq.ensures ∙ same-pointwise header.words h ∙ ap (λ (ws : List ℕ). same_words ws h) header.read)
    c.image_length.ensures

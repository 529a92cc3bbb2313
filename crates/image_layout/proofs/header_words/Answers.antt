-- `image_layout::header_words` meets its contract: the list that code writes is the header, with N, N² and the last quote's six words as the callees answer
-- them (`header_is`). N is at most 256 and N² at most 65536, so that no offset overflows. No loop.
use mathlib.Core.List.{[]}
use Rattle.tally.specs.Entries.{tables}
use Rattle.image_layout.specs.Layout.{newest}
use Rattle.image_layout.proofs.Parts.{header_is}
use Rattle.image_layout.proofs.header_words.Goals as goal

pub returns : goal.returns
returns c =
    let a = c.args in
    header_is newest a.config a.rec.previous a.rec.counters (tables [] [] []) c.state_count-n.result
    c.cell_count-cells.result c.previous_words-q.result
    c.state_count-n.ensures c.cell_count-cells.ensures.0 c.previous_words-q.ensures

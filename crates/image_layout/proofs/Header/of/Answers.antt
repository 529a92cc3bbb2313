-- `image_layout::Header::of` meets its contract: the words that are read from the first byte on are the header's (`header_in`).
use mathlib.Core.List.{map-id}
use Rattle.image_layout.specs.Layout.{header_in}
use Rattle.image_layout.proofs.Header.of.Goals as goal

pub invariant_of-result-clause-read : goal.invariant_of-result-clause-read
unfolding header_in
invariant_of-result-clause-read c = rw map-id at c.get_table.ensures

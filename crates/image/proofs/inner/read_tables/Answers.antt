-- `image::inner::read_tables` meets its contract: three reads, each where the part before it ends, are the three tables of the image, whose lengths `Readable`
-- says (`read_is`).
use Rattle.image_layout.specs.Layout.{newest}
use Rattle.image.proofs.Ways.{read_is}
use mathlib.Core.Path.{refl}
use mathlib.Core.List.{map-id}
use Rattle.image.proofs.inner.read_tables.Goals as goal

pub returns-clause-read : goal.returns-clause-read
returns-clause-read c =
    let a = c.args in
    read_is newest a.b.now a.tables.now.stay.now a.tables.now.moved.now a.tables.now.move_half_ticks.now c.requires refl (rw map-id at c.get_table.ensures)
    (rw map-id at c.get_table-2.ensures) c.get_table-3.ensures

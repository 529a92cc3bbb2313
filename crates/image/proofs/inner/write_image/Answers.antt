-- `image::inner::write_image` meets its contract: the header and the three tables are stored one after another, each where the one before it ends. The length
-- that the contract requires gives each table its place, as no store changes the length; the four stores together fill the output with the image
-- (`image-written`). No loop.
use mathlib.Core.List.{map-id}
use native.Mathlib.Omega.{arith}
use Rattle.calibrator.proofs.Lengths.{lengths-known}
use Rattle.image_layout.specs.Layout.{newest}
use Rattle.image.proofs.Written.{Writable, image-written}
use Rattle.image.proofs.inner.write_image.Goals as goal

pub returns : goal.returns
returns c =
    let a = c.args in
    let w : Writable newest a.config a.tables.stay.now a.tables.moved.now a.tables.move_half_ticks.now a.out.now =
    record { sizes = lengths-known _ _ _ _ c.requires.1; long = c.requires.2 } in
    image-written w (omega arith) a.rec c.cell_count-cells.ensures.0 c.header_words-h.ensures
    (rw map-id at c.put_table.ensures) (rw map-id at c.put_table-2.ensures) (rw map-id at c.put_table-3.ensures) c.put_table-4.ensures

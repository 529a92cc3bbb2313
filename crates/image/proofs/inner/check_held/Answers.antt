-- `image::inner::check_held` meets its contract, refusals of what the image holds: wrong lengths (7), a broken last quote (8), else the check of the tables
-- where they lie in the bytes (`held-checked`). The three parts that code cuts out of the bytes hold N², N² and N words (`parts-lie`), and their words are the
-- image's tables (`parts_are`).
use mathlib.Core.Path.{sym, subst, ap, ◌∙◌}
use native.Mathlib.Omega.{arith}
use Rattle.tally.specs.Lent.{tables_in}
use Rattle.config.specs.Inner.{Valid}
use Rattle.image_layout.specs.Layout.{newest, image_length}
use Rattle.image.proofs.Ways.{held-checked}
use Rattle.image.proofs.Judged.{parts-lie, parts_are}
use Rattle.image.proofs.inner.check_held.Goals as goal

pub slice_bounds-imaged-end : goal.slice_bounds-imaged-end
slice_bounds-imaged-end c =
    let long = c.requires.1 ∙ sym (ap (image_length newest) c.config-config.ensures) in
    omega (arith, long, c.cell_count-cells.ensures.0)

pub slice_bounds-imaged-end-2 : goal.slice_bounds-imaged-end-2
slice_bounds-imaged-end-2 c =
    let long = c.requires.1 ∙ sym (ap (image_length newest) c.config-config.ensures) in
    omega (arith, long, c.cell_count-cells.ensures.0)

pub check_tables-requires : goal.check_tables-requires
check_tables-requires c = rw c.config-config.ensures
    (c.requires.0, parts-lie newest c.args.header.now.bytes.now _ c.requires.0 c.requires.1 _ (rw c.config-config.ensures at c.cell_count-cells.ensures.0))

pub returns : goal.returns
returns c =
    let b = c.args.header.now.bytes.now in
    let config = c.config-config in
    let valid = subst Valid (sym config.ensures) c.requires.0 in
    let long = c.requires.1 ∙ sym (ap (image_length newest) config.ensures) in
    held-checked newest b (tables_in c.args.tables) config.result c.record-rec.result config.ensures c.record-rec.ensures
    c.state_count-n.ensures
    c.wrong_lengths.ensures c.if-wrong_lengths.false c.is_broken.ensures c.if-is_broken.false
    (parts_are newest b config.result valid long _ c.cell_count-cells.ensures.0)
    c.check_tables.ensures

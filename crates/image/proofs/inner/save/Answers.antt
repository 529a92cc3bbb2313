-- `image::inner::save` meets its contract: refused by `check_save`, the output is as it came; else `write_image` fills it with the image. That nothing refuses
-- gives what writing asks: a valid configuration, tables of its lengths, an output of the image's length (`save-known`).
use mathlib.Core.Path.{sym, ◌∙◌}
use lib.ListN.{length}
use Rattle.tally.specs.Lent.{tables_in}
use Rattle.calibrator.specs.Record.{memory_with}
use Rattle.image.proofs.Judged.{save-known}
use Rattle.image.proofs.inner.save.Goals as goal

pub write_image-requires : goal.write_image-requires
write_image-requires c =
    let a = c.args in
    let k = save-known a.config (memory_with a.rec (tables_in a.tables)) (length a.out.now)
    (sym c.check_save.ensures ∙ c.in_ok-check_save.was) in
    (k.conf, k.sizes, k.long-is)

-- `image::inner::restore` meets its contract: refused by `check_restore`, the tables are as they came; else configuration, record and tables are what
-- the image holds (`way-restored`). That nothing refuses (`unrefused`) gives what reading asks: tables of the right lengths
-- (`restore-readable`).
use mathlib.Core.Path.{◌≡◌, sym, ap, subst, ◌∙◌}
use Prim.Native.Nat.{ℕ}
use Rattle.std.specs.Prelude.{Ok}
use Rattle.tally.specs.Lent.{tables_of}
use Rattle.calibrator.specs.Record.{memory_with}
use Rattle.image_layout.specs.Layout.{memory_in, form_in, config_in, record_in}
use mathlib.Core.List.{List}
use Rattle.image.specs.Image.{restore_refusal}
use Rattle.image.specs.Inner.{Readable}
use Rattle.image.proofs.Ways.{way-restored}
use Rattle.image.proofs.Judged.{restore-newest, restore-readable}
use Rattle.image.proofs.inner.restore.Goals as goal

pub read_tables-requires : goal.read_tables-requires
read_tables-requires c =
    let b = c.args.image.now in
    let t = tables_of c.args.tables.now in
    let v = c.view.ensures in
    let unrefused : restore_refusal b t ≡ Ok tt = rw (v.stay, v.moved, v.totals) at (sym c.check_restore.ensures ∙ c.in_ok-check_restore.was) in
    subst (λ (form : ℕ). Readable form b t) (restore-newest b t unrefused) (restore-readable b t unrefused)

pub returns-clause-left : goal.returns-clause-left
returns-clause-left c rec =
    let b = c.args.image.now in
    let t = tables_of c.args.tables.now in
    let v = c.view.ensures in
    let unrefused : restore_refusal b t ≡ Ok tt = rw (v.stay, v.moved, v.totals) at (sym c.check_restore.ensures ∙ c.in_ok-check_restore.was) in
    let same = rw c.unwrap-header.ensures at c.of.ensures in
    way-restored b (memory_with rec t) unrefused
    (c.config.ensures ∙ ap (λ (b : List ℕ). config_in (form_in b) b) same)
    (c.record.ensures ∙ ap (λ (b : List ℕ). record_in (form_in b) b) same)
    (c.read_tables.ensures.read ∙ ap (λ (form : ℕ). (memory_in form b).counts.tables) (sym (restore-newest b t unrefused)))

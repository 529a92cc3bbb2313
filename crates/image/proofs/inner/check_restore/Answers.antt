-- `image::inner::check_restore` meets its contract, refusals in order: under 160 bytes (12), no valid configuration (1), not laid out (12, `way-layout`), else
-- what `check_held` says (`way-held`). `check_held` asks for a valid configuration (`config-known`), for the newest form and for the image's length, which an
-- image that is laid out has (`form-is`, `laid-out-whole`).
use mathlib.Core.Path.{◌≡◌, sym, ap, subst, ◌∙◌}
use mathlib.Core.Bool.{true}
use mathlib.Core.List.{List}
use Prim.Native.Nat.{ℕ}
use Rattle.config.specs.Inner.{Valid}
use Rattle.config.proofs.Known.{valid-unrefused, config-known}
use Rattle.tally.specs.Lent.{tables_in}
use Rattle.image_layout.specs.Layout.{newest, image_length, form_in, config_in, laid_out}
use Rattle.image.specs.Image.{held_refusal, restore_refusal}
use Rattle.image.proofs.Ways.{way-layout, way-held}
use Rattle.image.proofs.Judged.{read-newest, laid-out-read, laid-out-whole}
use Rattle.image.proofs.inner.check_restore.Goals as goal

pub is_laid_out-requires : goal.is_laid_out-requires
is_laid_out-requires c = subst Valid c.config.ensures (config-known c.config.result (sym c.validate.ensures ∙ c.in_ok-validate.was))

pub returns-then-not-is_laid_out : goal.returns-then-not-is_laid_out
returns-then-not-is_laid_out c =
    let header = c.in-Some.header in
    let b = header.bytes.now in
    let t = tables_in c.args.tables in
    way-layout (form_in b) b t header.long c.config.ensures (valid-unrefused c.config.result (sym c.validate.ensures ∙ c.in_ok-validate.was))
    c.is_laid_out.ensures c.if-not-is_laid_out.true
    ∙ ap (λ (b : List ℕ). restore_refusal b t) c.in-Some.ensures

pub check_held-requires : goal.check_held-requires
check_held-requires c =
    let b = c.in-Some.header.bytes.now in
    let placed : laid_out (form_in b) b ≡ true = sym c.is_laid_out.ensures ∙ c.if-not-is_laid_out.false in
    let form-is : form_in b ≡ newest = read-newest (form_in b) (laid-out-read (form_in b) b placed) in (
      subst Valid c.config.ensures (config-known c.config.result (sym c.validate.ensures ∙ c.in_ok-validate.was)),
      laid-out-whole (form_in b) b placed ∙ ap (λ (form : ℕ). image_length form (config_in form b)) form-is,
    )

pub returns : goal.returns
returns c =
    let header = c.in-Some.header in
    let b = header.bytes.now in
    let t = tables_in c.args.tables in
    let placed : laid_out (form_in b) b ≡ true = sym c.is_laid_out.ensures ∙ c.if-not-is_laid_out.false in
    let form-is : form_in b ≡ newest = read-newest (form_in b) (laid-out-read (form_in b) b placed) in
    way-held (form_in b) b t header.long c.config.ensures (valid-unrefused c.config.result (sym c.validate.ensures ∙ c.in_ok-validate.was))
    c.is_laid_out.ensures c.if-not-is_laid_out.false (c.check_held.ensures ∙ ap (λ (form : ℕ). held_refusal form b t) (sym form-is))
    ∙ ap (λ (b : List ℕ). restore_refusal b t) c.in-Some.ensures

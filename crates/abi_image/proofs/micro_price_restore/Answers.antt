-- `abi_image::micro_price_restore` meets its contract. The ways out: words of other lengths are answered 100 and nothing is written, the second case of
-- `restore_words`; else what `image::inner::restore` answers goes out as a number and the words of its configuration and record. No loop.
use Prim.Native.Nat.{ℕ}
use mathlib.Core.Path.{◌≡◌, refl}
use mathlib.Core.List.{List}
use lib.IntN.{ℤ}
use Rattle.std.proofs.Common.{rules}
use Rattle.tally.specs.Lent.{tables_of}
use Rattle.image.specs.Image.{restored}
use Rattle.abi_encoding.specs.Encoding.{record_of, bad_encoding, lent}
use Rattle.abi_encoding.proofs.Laws.{long-by, operation-words}
use Rattle.abi_image.specs.Images.{LentBack, lent_back, of_taken}
use Rattle.abi_image.proofs.micro_price_restore.Goals as goal

-- the slices that were lent hold what the tables hold
held : {c w : List ℕ} {n : ℕ} {s s' m m' : List ℕ} {t t' : List ℤ} {x : LentBack}
    → s' ≡ s → m' ≡ m → t' ≡ t → lent_back c (lent n w s m t) ≡ x → lent_back c (lent n w s' m' t') ≡ x
held e f g h = rw (e, f, g) h

pub returns : goal.returns
returns c =
    let a = c.args in
    let r = record_of a.rec.now in
    held (search rules) (search rules) (search rules)
    (operation-words a.config.now a.rec.now a.stay.now a.moved.now a.move_half_ticks.now
    (long-by _ _ _ c.right_words.ensures c.if-not-right_words.false) refl refl (λ _ m. restored a.image.now m) (of_taken a.config.now a.rec.now)
    (c.restore-taken.ensures.left r) (c.put_restored.ensures r (tables_of c.restore-taken.new.tables))
    (lent_back a.config.now (lent bad_encoding a.rec.now a.stay.now a.moved.now a.move_half_ticks.now)))

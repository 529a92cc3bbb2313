-- A restore returns to the history at its save: the image is kept last with that history until a save writes the same bytes again.
use Prim.Native.Nat.{ℕ}
use mathlib.Core.Path.{◌≡◌, refl, sym, ap, ◌∙◌}
use mathlib.Core.Bool.{Bool, true, false, not}
use mathlib.Core.List.{List, [], ◌∷◌, ◌++◌}
use mathlib.Core.Option.{Option, none, some}
use lib.ListN.{length}
use borrow.Author.Tests.{eq-eqb}
use Rattle.basics.specs.Lists.{any, same_words}
use Rattle.basics.proofs.Lists.{same_self}
use Rattle.basics.proofs.Tests.{neither}
use Rattle.refusals.specs.Refusals.{refuse_if, Check}
use Rattle.std.specs.Prelude.{Ok, Err}
use Rattle.config.specs.Configuration.{states}
use Rattle.config.specs.declared.MicroPriceConfig.{MicroPriceConfig}
use Rattle.tally.specs.Rules.{Memory}
use Rattle.calibrator.specs.Record.{Previous}
use Rattle.calibrator.specs.Observe.{lent_wrong}
use Rattle.image_layout.specs.Layout.{newest, image_length, image}
use Rattle.image.specs.Image.{restored}
use Rattle.history.specs.Calls.{Call, quote, save, restore, History, gains, history_memory, history_refusal, Past, or_else, kept_with, returns, history_quote, history_save, history_restore, check_output_length, history_act, history_run}
use Rattle.history.specs.Demand.{wrote}

pub history-run-append : (c : MicroPriceConfig) (before ks : List Call) (P : Past)
    → (history_run c P (before ++ ks)).past ≡ (history_run c (history_run c P before).past ks).past
history-run-append c [] ks P = refl
history-run-append c (k ∷ before) ks P = history-run-append c before ks (history_act c P k).past

module _ (c : MicroPriceConfig) (b : List ℕ) where
  -- b is kept, last with that history
  abbrev KeptLast : Past → History → Type 0
  KeptLast P H = kept_with b P.kept ≡ some H

  -- a save that writes b keeps it with the history there
  save-keeps : (P : Past) (out : List ℕ) → length out ≡ image_length newest c → b ≡ image newest c (history_memory c P.now)
      → KeptLast (history_act c P (save out)).past P.now
  save-keeps P out long is =
      ap (λ (t : Bool). kept_with b (history_save (refuse_if (not t) 7) P out (image newest c (history_memory c P.now))).past.kept) (eq-eqb _ _ long)
      ∙ ap (λ (x : List ℕ). or_else (same_words b x) P.now (kept_with b P.kept)) (sym is)
      ∙ ap (λ (t : Bool). or_else t P.now (kept_with b P.kept)) (same_self b)

  -- a call that does not write b leaves it so
  call-leaves : (P : Past) (H : History) → KeptLast P H → (k : Call) → wrote b (history_act c P k).answer ≡ false → KeptLast (history_act c P k).past H
  call-leaves P H kept (quote q) other = go (history_refusal c P.now q)
    where
      go : (k : Check) → KeptLast (history_quote k P (gains P.now q)).past H
      go (Ok _) = kept
      go (Err r) = kept
  call-leaves P H kept (save out) other = go (check_output_length c out) other
    where
      written : List ℕ
      written = image newest c (history_memory c P.now)

      go : (k : Check) → wrote b (history_save k P out written).answer ≡ false → KeptLast (history_save k P out written).past H
      go (Ok _) differs = ap (λ (t : Bool). or_else t P.now (kept_with b P.kept)) differs ∙ kept
      go (Err r) differs = kept
  call-leaves P H kept (restore d lent) other = go (lent_wrong (states c) lent.counts.tables) (returns c P d)
    where
      go : (w : Bool) (o : Option History) → KeptLast (history_restore c P (restored d lent).answer w o).past H
      go true o = kept
      go false none = kept
      go false (some G) = kept

  calls-leave : (js : List Call) (P : Past) (H : History) → KeptLast P H → any (wrote b) (history_run c P js).answers ≡ false
      → KeptLast (history_run c P js).past H
  calls-leave [] P H kept others = kept
  calls-leave (k ∷ js) P H kept others =
      let t = history_act c P k in
      let n = neither (wrote b t.answer) (any (wrote b) (history_run c t.past js).answers) others in
      calls-leave js t.past H (call-leaves P H kept k n.0) n.1

  -- the history to bring back is the one that b is kept last with
  kept-returns : (P : Past) (H : History) → KeptLast P H → returns c P b ≡ some H
  kept-returns P H kept = kept

  -- a restore of b brings that history back
  restore-brings : (P : Past) (H : History) → KeptLast P H → (lent : Memory Previous) → lent_wrong (states c) lent.counts.tables ≡ false
      → (history_act c P (restore b lent)).past.now ≡ H
  restore-brings P H kept lent sizes = λ i. (history_restore c P (restored b lent).answer (sizes i) (kept-returns P H kept i)).past.now

  pub returns-to-save : (P : Past) (out : List ℕ) (js : List Call) (lent : Memory Previous)
      → length out ≡ image_length newest c
      → b ≡ image newest c (history_memory c P.now)
      → any (wrote b) (history_run c (history_act c P (save out)).past js).answers ≡ false
      → lent_wrong (states c) lent.counts.tables ≡ false
      → (history_run c P (save out ∷ (js ++ (restore b lent ∷ [])))).past.now ≡ P.now
  returns-to-save P out js lent long is others sizes =
      let S = (history_act c P (save out)).past in
      ap (λ (x : Past). x.now) (history-run-append c js (restore b lent ∷ []) S)
      ∙ restore-brings (history_run c S js).past P.now (calls-leave js S P.now (save-keeps P out long is) others) lent sizes

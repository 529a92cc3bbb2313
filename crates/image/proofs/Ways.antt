-- The ways through the judgement of an image and through its reading: each law takes what code has found on that way, in its order.
use Prim.Native.Nat.{ℕ, ◌+◌, ◌*◌, ◌≤◌}
use mathlib.Core.Path.{◌≡◌, sym, ap, ◌∙◌}
use mathlib.Core.Bool.{Bool, true, false}
use mathlib.Core.List.{List, map}
use native.Mathlib.Omega.{arith}
use lib.IntN.{ℤ}
use lib.ListN.{length, drop}
use lib.Seq.{drop-drop}
use borrow.Author.Tests.{le-ltb}
use Rattle.image_words.specs.Words.{words_of, untwos}
use Rattle.refusals.specs.Refusals.{refuse_if, first_of, refusal, Check}
use Rattle.std.specs.Prelude.{Ok}
use Rattle.config.specs.Configuration.{states, valid}
use Rattle.config.specs.declared.MicroPriceConfig.{MicroPriceConfig}
use Rattle.tally.specs.Entries.{Tables, tables}
use Rattle.tally.specs.Events.{Counts}
use Rattle.tally.specs.Rules.{Memory}
use Rattle.calibrator.specs.Observe.{broken, lent_wrong}
use Rattle.calibrator.specs.Record.{counts_of, memory, Previous}
use Rattle.calibrator.specs.declared.Record.{Record}
use Rattle.count_check.specs.Mirrors.{check_mirrored}
use Rattle.image_layout.specs.Layout.{oldest, header_length, cells, form_in, config_in, record_in, tables_from, memory_in, laid_out}
use Rattle.image.specs.Image.{held_refusal, form_refusal, restore_refusal, end_restore, restored}
use Rattle.image.specs.Inner.{Readable}

-- ---- the judgement of an image by its form, by what code finds of it in turn: its length, c of its header, which is valid, l whether it is laid out
module _ (form : ℕ) (b : List ℕ) (t : Tables) {c : MicroPriceConfig} (long : header_length oldest ≤ length b) (ec : c ≡ config_in form b)
    (is : valid c ≡ true) {l : Bool} (el : l ≡ laid_out form b) where
  validity : valid (config_in form b) ≡ true
  validity = ap valid (sym ec) ∙ is

  pub way-layout : l ≡ false → refusal 12 ≡ form_refusal form b t
  way-layout e = rw (le-ltb _ _ long, validity, ← el, e)

  pub way-held : {k : Check} → l ≡ true → k ≡ held_refusal form b t → k ≡ form_refusal form b t
  way-held e h = h ∙ rw (le-ltb _ _ long, validity, ← el, e)

-- ---- the judgement of what it holds

-- of a configuration, a last quote and counts
abbrev pub held_with : MicroPriceConfig → Previous → Counts → Tables → Check
held_with c l k t =
    first_of (refuse_if (lent_wrong (states c) t) 7) (first_of (refuse_if (broken c l) 8) (check_mirrored c k))

-- c and r are what the image holds, n the states, w whether the lent lengths are wrong for them, k whether the last quote is broken
module _ (form : ℕ) (b : List ℕ) (t : Tables) (c : MicroPriceConfig) (r : Record) {n : ℕ} {w : Bool} (ec : c ≡ config_in form b) (er : r ≡ record_in form b)
    (en : n ≡ states c) (ew : w ≡ lent_wrong n t) where
  abbrev held : Tables → Check
  held T = held_with c r.previous (counts_of r.counters T) t

  abbrev there : Tables
  there = tables_from (states c) (drop (header_length form) b)

  held-is : held there ≡ held_refusal form b t
  held-is = rw (ec, er)

  lengths : lent_wrong (states c) t ≡ w
  lengths = sym (ew ∙ ap (λ (k : ℕ). lent_wrong k t) en)

  pub held-checked : {k : Bool} → w ≡ false → k ≡ broken c r.previous → {T : Tables} {x : Check} → k ≡ false → T ≡ there
      → x ≡ check_mirrored c (counts_of r.counters T) → x ≡ held_refusal form b t
  held-checked right ek {T = T} e e_t ex =
      ex ∙ (let g : check_mirrored c (counts_of r.counters T) ≡ held T = rw (lengths, right, ← ek, e) in g) ∙ ap held e_t ∙ held-is

-- the three reads
pub read_is : (form : ℕ) (b s m : List ℕ) (t : List ℤ) {C : ℕ} {s' m' : List ℕ} {t' : List ℤ} → Readable form b (tables s m t)
    → C ≡ length s → s' ≡ words_of (length s) (drop (header_length form) b) → m' ≡ words_of (length m) (drop (header_length form + 8 * C) b)
    → t' ≡ map untwos (words_of (length t) (drop (header_length form + 16 * C) b)) → tables s' m' t' ≡ (memory_in form b).counts.tables
read_is form b s m t {C = C} r ec es em et =
    let start = header_length form in
    let D = cells (config_in form b) in
    let dm : drop (start + 8 * C) b ≡ drop (8 * D) (drop start b) =
    sym (drop-drop (8 * D) start b ∙ ap (λ (j : ℕ). drop j b) (let z : start + 8 * D ≡ start + 8 * C = omega (arith, r.stay-cells) in z)) in
    let dt : drop (start + 16 * C) b ≡ drop (16 * D) (drop start b) =
    sym (drop-drop (16 * D) start b ∙ ap (λ (j : ℕ). drop j b) (let z : start + 16 * D ≡ start + 16 * C = omega (arith, r.stay-cells) in z)) in
    λ i.
    record {
      stay = (es ∙ ap (λ (j : ℕ). words_of j (drop start b)) r.stay-cells) i;
      moved = (em ∙ ap (λ (j : ℕ). words_of j (drop (start + 8 * C) b)) r.moved-cells ∙ ap (words_of D) dm) i;
      totals =
          (et ∙ ap (λ (j : ℕ). map untwos (words_of j (drop (start + 16 * C) b))) r.totals-cells
          ∙ ap (λ (l : List ℕ). map untwos (words_of (states (config_in form b)) l)) dt) i;
    }

-- restored
pub way-restored : (b : List ℕ) (m : Memory Previous) {c : MicroPriceConfig} {r : Record} {s' m' : List ℕ} {t' : List ℤ}
    → restore_refusal b m.counts.tables ≡ Ok tt → c ≡ config_in (form_in b) b → r ≡ record_in (form_in b) b
    → tables s' m' t' ≡ (memory_in (form_in b) b).counts.tables
    → end_restore (Ok c) (memory r s' m' t') ≡ restored b m
way-restored b m e ec er et =
    (λ i. end_restore (Ok (ec i)) (record { last = (er i).previous; counts = counts_of (er i).counters (et i) }))
    ∙ (let g : end_restore (Ok (config_in (form_in b) b)) (memory_in (form_in b) b) ≡ restored b m = rw e in g)

-- What is known of an output and of an image that nothing refuses, and an image's tables in their parts.
use Prim.Native.Nat.{ℕ, zero, suc, ◌+◌, ◌*◌, ◌-◌, ◌/◌, ◌≤◌}
use mathlib.Core.Path.{◌≡◌, refl, sym, ap, ◌∙◌}
use mathlib.Core.Bool.{Bool, true, false, not, ◌&&◌}
use mathlib.Core.List.{List, [], ◌∷◌, map}
use native.Mathlib.Omega.{arith}
use lib.Dec.{eqb}
use lib.ListN.{length, take, drop, length-take, length-drop, length-map}
use lib.Seq.{drop-drop, take-take}
use borrow.Author.Tests.{eqb-true, ltb-false, not-false}
use Rattle.basics.specs.Lists.{same_words}
use Rattle.basics.proofs.Lists.{same-equal}
use Rattle.basics.proofs.Tests.{both}
use Rattle.image_words.specs.Words.{value, words_of, untwos}
use Rattle.image_words.proofs.Laws.{length-words}
use Rattle.refusals.specs.Refusals.{refuse_if, first_of}
use Rattle.std.specs.Prelude.{Ok}
use Rattle.refusals.proofs.Refusals.{if-fine, first_fine}
use Rattle.config.specs.Configuration.{states, valid, check_config}
use Rattle.config.specs.Inner.{Valid}
use Rattle.config.specs.declared.MicroPriceConfig.{MicroPriceConfig}
use Rattle.config.proofs.Known.{valid-unrefused, config-known}
use Rattle.tally.specs.Entries.{Tables}
use Rattle.tally.specs.Rules.{Memory}
use Rattle.count_check.specs.Mirrors.{check_mirrored}
use Rattle.count_check.specs.Inner.{words_in, tables_in_bytes, HasTables}
use Rattle.calibrator.specs.Observe.{wrong_lengths, lent_wrong, check_memory, broken}
use Rattle.calibrator.specs.Record.{Previous}
use Rattle.calibrator.proofs.Lengths.{tables-known, lengths-known}
use Rattle.image_layout.specs.Layout.{oldest, newest, is_read, header_length, cells, image_length, header, form_in, config_in, previous_in, tables_from, memory_in, header_in, laid_out}
use Rattle.image.specs.Image.{save_refusal, too_short, held_refusal, form_refusal, restore_refusal}
use Rattle.image.specs.Inner.{Readable}

-- ---- save

pub record Savable (c : MicroPriceConfig) (m : Memory Previous) (long : ℕ) : Type 0 where
  pub valid-is : valid c ≡ true
  pub conf : Valid c
  pub enough : check_memory c m ≡ Ok tt
  pub sizes : lent_wrong (states c) m.counts.tables ≡ false
  pub long-is : long ≡ image_length newest c
  pub sound : broken c m.last ≡ false
  pub mirrored : check_mirrored c m.counts ≡ Ok tt

pub save-known : (c : MicroPriceConfig) (m : Memory Previous) (long : ℕ) → save_refusal c m long ≡ Ok tt → Savable c m long
save-known c m long e =
    let last = first_of (refuse_if (broken c m.last) 8) (check_mirrored c m.counts) in
    let a = first_fine (check_memory c m) (first_of (refuse_if (not (eqb long (image_length newest c))) 7) last) e in
    let b = first_fine (refuse_if (not (eqb long (image_length newest c))) 7) last a.1 in
    let d = first_fine (refuse_if (broken c m.last) 8) (check_mirrored c m.counts) b.1 in
    let r = tables-known c (length m.counts.tables.stay) (length m.counts.tables.moved) (length m.counts.tables.totals) a.0 in
    let w = lent_wrong (states c) m.counts.tables in
    record {
      valid-is = valid-unrefused c (first_fine (check_config c) (refuse_if w 7) a.0).0;
      conf = r.0;
      enough = a.0;
      sizes = r.1;
      long-is = eqb-true long (image_length newest c) (not-false _ (if-fine _ 7 refl b.0));
      sound = if-fine _ 8 refl d.0;
      mirrored = d.1;
    }

-- ---- restore

-- restore reads no other form than the one that save writes
pub read-newest : (form : ℕ) → is_read form ≡ true → form ≡ newest
read-newest form e = eqb-true form newest e

-- an image that is laid out is of a form that is read, has the header of what it holds, and its length
module _ (form : ℕ) (b : List ℕ) (e : laid_out form b ≡ true) where
  abbrev words-test : Bool
  words-test = same_words (header_in form b) (header form (config_in form b) (previous_in b) (memory_in form b).counts)

  abbrev length-test : Bool
  length-test = eqb (length b) (image_length form (config_in form b))

  pub laid-out-read : is_read form ≡ true
  laid-out-read = (both (is_read form) (words-test && length-test) e).0

  pub laid-out-header : header_in form b ≡ header form (config_in form b) (previous_in b) (memory_in form b).counts
  laid-out-header = same-equal _ _ (both words-test length-test (both (is_read form) (words-test && length-test) e).1).0

  pub laid-out-whole : length b ≡ image_length form (config_in form b)
  laid-out-whole = eqb-true _ _ (both words-test length-test (both (is_read form) (words-test && length-test) e).1).1

pub record Restorable (form : ℕ) (b : List ℕ) (t : Tables) : Type 0 where
  pub read : is_read form ≡ true
  pub header-there : header_length oldest ≤ length b
  pub valid-is : valid (config_in form b) ≡ true
  pub conf : Valid (config_in form b)
  pub header_is : header_in form b ≡ header form (config_in form b) (previous_in b) (memory_in form b).counts
  pub whole : length b ≡ image_length form (config_in form b)
  pub sizes : lent_wrong (states (config_in form b)) t ≡ false
  pub sound : broken (config_in form b) (previous_in b) ≡ false
  pub mirrored : check_mirrored (config_in form b) (memory_in form b).counts ≡ Ok tt

form-known : (form : ℕ) (b : List ℕ) (t : Tables) → form_refusal form b t ≡ Ok tt → Restorable form b t
form-known form b t e =
    let c = config_in form b in
    let a = first_fine (refuse_if (too_short b) 12) (first_of (check_config c) (first_of (refuse_if (not (laid_out form b)) 12) (held_refusal form b t))) e in
    let d = first_fine (check_config c) (first_of (refuse_if (not (laid_out form b)) 12) (held_refusal form b t)) a.1 in
    let f = first_fine (refuse_if (not (laid_out form b)) 12) (held_refusal form b t) d.1 in
    let l = not-false (laid_out form b) (if-fine (not (laid_out form b)) 12 refl f.0) in
    let h = first_fine (refuse_if (lent_wrong (states c) t) 7)
    (first_of (refuse_if (broken c (previous_in b)) 8) (check_mirrored c (memory_in form b).counts)) f.1 in
    let k = first_fine (refuse_if (broken c (previous_in b)) 8) (check_mirrored c (memory_in form b).counts) h.1 in
    record {
      read = laid-out-read form b l;
      header-there = ltb-false (length b) (header_length oldest) (if-fine (too_short b) 12 refl a.0);
      valid-is = valid-unrefused c d.0;
      conf = config-known c d.0;
      header_is = laid-out-header form b l;
      whole = laid-out-whole form b l;
      sizes = if-fine (lent_wrong (states c) t) 7 refl h.0;
      sound = if-fine (broken c (previous_in b)) 8 refl k.0;
      mirrored = k.1;
    }

-- of lent tables a refusal sees the lengths alone
pub restore-by-lengths : (b : List ℕ) (t u : Tables) → length t.stay ≡ length u.stay → length t.moved ≡ length u.moved
    → length t.totals ≡ length u.totals → restore_refusal b t ≡ restore_refusal b u
restore-by-lengths b t u stay moved totals =
    let form = form_in b in
    let c = config_in form b in
    λ i.
    first_of (refuse_if (too_short b) 12)
    (first_of (check_config c)
    (first_of (refuse_if (not (laid_out form b)) 12)
    (first_of (refuse_if (wrong_lengths (states c) (stay i) (moved i) (totals i)) 7)
    (first_of (refuse_if (broken c (previous_in b)) 8) (check_mirrored c (memory_in form b).counts)))))

module _ (b : List ℕ) (t : Tables) (e : restore_refusal b t ≡ Ok tt) where
  pub restore-known : Restorable (form_in b) b t
  restore-known = form-known (form_in b) b t e

  pub restore-newest : form_in b ≡ newest
  restore-newest = read-newest (form_in b) restore-known.read

  pub restore-readable : Readable (form_in b) b t
  restore-readable =
      let k = restore-known in
      let z = lengths-known (states (config_in (form_in b) b)) (length t.stay) (length t.moved) (length t.totals) k.sizes in
      record {
        few = k.conf.states-most;
        stay-cells = z.stay-cells;
        moved-cells = z.moved-cells;
        totals-cells = z.totals-cells;
        whole = k.whole;
      }

-- ---- an image's tables in their parts

drop-take : (n k : ℕ) (l : List ℕ) → n ≤ k → drop n (take k l) ≡ take (k - n) (drop n l)
drop-take zero k l h = ap (λ (j : ℕ). take j l) (let s : k ≡ k - 0 = omega arith in s)
drop-take (suc n) zero l h = absurd (omega arith)
drop-take (suc n) (suc k) [] h = go (suc k - suc n)
  where
    go : (j : ℕ) → [] ≡ take {A = ℕ} j []
    go zero = refl
    go (suc j) = refl
drop-take (suc n) (suc k) (x ∷ l) h = drop-take n k l (omega arith) ∙ ap (λ (j : ℕ). take j (drop n l)) (let s : k - n ≡ suc k - suc n = omega arith in s)

-- the words of a part are those of the whole
words_take : (n k : ℕ) (l : List ℕ) → 8 * n ≤ k → words_of n (take k l) ≡ words_of n l
words_take zero k l h = refl
words_take (suc n) k l h =
    λ i. value (take-take 8 k l (omega arith) i) ∷ (ap (words_of n) (drop-take 8 k l (omega arith)) ∙ words_take n (k - 8) (drop 8 l) (omega arith)) i

-- a part of n words
part : (n k at : ℕ) (b : List ℕ) → k ≡ 8 * n → at + 8 * n ≤ length b → words_in (take k (drop at b)) ≡ words_of n (drop at b)
part n k at b e h =
    let l : length (take k (drop at b)) ≡ 8 * n = simp (length-take, length-drop) (omega arith) in
    let d : length (take k (drop at b)) / 8 ≡ n = omega arith in
    ap (λ (j : ℕ). words_of j (take k (drop at b))) d ∙ words_take n k (drop at b) (omega arith)

module _ (form : ℕ) (b : List ℕ) (c : MicroPriceConfig) (v : Valid c) (long : length b ≡ image_length form c) (C : ℕ) (is : C ≡ cells c) where
  abbrev start : ℕ
  start = header_length form

  abbrev sb : List ℕ
  sb = take (start + 8 * C - start) (drop start b)

  abbrev mb : List ℕ
  mb = take (start + 16 * C - (start + 8 * C)) (drop (start + 8 * C) b)

  abbrev tb : List ℕ
  tb = take (length b - (start + 16 * C)) (drop (start + 16 * C) b)

  in-stay : words_in sb ≡ words_of C (drop start b)
  in-stay = part C (start + 8 * C - start) start b (omega arith) (omega arith)

  in_moved : words_in mb ≡ words_of C (drop (start + 8 * C) b)
  in_moved = part C (start + 16 * C - (start + 8 * C)) (start + 8 * C) b (omega arith) (omega arith)

  in-totals : words_in tb ≡ words_of (states c) (drop (start + 16 * C) b)
  in-totals = part (states c) (length b - (start + 16 * C)) (start + 16 * C) b (omega arith) (omega arith)

  pub parts-lie : HasTables (states c) (tables_in_bytes sb mb tb)
  parts-lie =
      record {
        few = v.states-most;
        stay-cells = ap length in-stay ∙ length-words C _ ∙ is;
        moved-cells = ap length in_moved ∙ length-words C _ ∙ is;
        totals-cells = length-map (words_in tb) untwos ∙ ap length in-totals ∙ length-words (states c) _;
      }

  pub parts_are : tables_in_bytes sb mb tb ≡ tables_from (states c) (drop start b)
  parts_are =
      let dm : drop (start + 8 * C) b ≡ drop (8 * cells c) (drop start b) =
      sym (drop-drop (8 * cells c) start b ∙ ap (λ (j : ℕ). drop j b) (let s : start + 8 * cells c ≡ start + 8 * C = omega arith in s)) in
      let dt : drop (start + 16 * C) b ≡ drop (16 * cells c) (drop start b) =
      sym (drop-drop (16 * cells c) start b ∙ ap (λ (j : ℕ). drop j b) (let s : start + 16 * cells c ≡ start + 16 * C = omega arith in s)) in
      λ i.
      record {
        stay = (in-stay ∙ ap (λ (j : ℕ). words_of j (drop start b)) is) i;
        moved = (in_moved ∙ ap (λ (j : ℕ). words_of j (drop (start + 8 * C) b)) is ∙ ap (words_of (cells c)) dm) i;
        totals = ap (map untwos) (in-totals ∙ ap (words_of (states c)) dt) i;
      }

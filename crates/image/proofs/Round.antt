-- The round trip: restoring what was saved gives it back, and an image that is accepted is exactly what save writes of what restore gives.
use Prim.Native.Nat.{ℕ, suc, ◌+◌, ◌*◌, ◌/◌, ◌≤◌, ◌<◌}
use mathlib.Core.Path.{◌≡◌, refl, sym, ap, ◌∙◌}
use mathlib.Core.Bool.{true, false, not, cond, ◌&&◌, ◌||◌}
use mathlib.Core.List.{List, [], ◌∷◌, ◌++◌, map}
use native.Mathlib.Omega.{arith}
use lib.Dec.{eqb}
use lib.IntN.{ℤ, pos, negsuc}
use lib.ListN.{length, get_or, take, drop, length-append, length-map, length-drop}
use lib.Seq.{take_at, drop_at, take_all, drop-drop}
use mir.Syntax.{w64}
use mir.Facts.{to_z-of_z}
use borrow.Author.Tests.{le-ltb, eq-eqb, leb-true, not-false}
use Rattle.basics.specs.Lists.{any, same_words}
use Rattle.basics.proofs.Lists.{same_self}
use Rattle.basics.proofs.Tests.{zero-not-one, neither, eqb_same}
use Rattle.basics.specs.Domain.{cell_limit}
use Rattle.image_words.specs.Words.{bytes_of, words_of, twos, untwos, AllBytes, AllWords}
use Rattle.image_words.proofs.Laws.{length-bytes, length-words, words-at, words-part}
use Rattle.image_words.proofs.Round.{words_back, bytes_back, bytes_drop, words-fit, words-join, twos_back}
use Rattle.tally.specs.Totals.{within}
use Rattle.refusals.specs.Refusals.{refuse_if, first_of, first_from, Check}
use Rattle.std.specs.Prelude.{Some, None, Ok, Err}
use Rattle.refusals.proofs.Refusals.{if-fine, first_fine}
use Rattle.config.specs.Configuration.{states, valid}
use Rattle.config.specs.Inner.{Valid}
use Rattle.config.specs.declared.MicroPriceConfig.{MicroPriceConfig}
use Rattle.quotes.specs.States.{mirror_of}
use Rattle.tally.specs.Entries.{Tables, tables, over_total}
use Rattle.tally.specs.Events.{Counts}
use Rattle.tally.specs.Limits.{over_counter}
use Rattle.tally.specs.Rules.{Memory}
use Rattle.count_check.specs.Mirrors.{check_mirrored, stored_over, check_state, is_twice, check_counts}
use Rattle.calibrator.specs.Observe.{lent_wrong, check_memory, broken}
use Rattle.calibrator.specs.Record.{counts_of, memory, Previous}
use Rattle.calibrator.specs.declared.Counters.{Counters}
use Rattle.calibrator.specs.declared.Record.{Record}
use Rattle.calibrator.proofs.Lengths.{RightLengths, lengths-known}
use Rattle.image_layout.specs.Layout.{oldest, newest, is_read, header_length, cells, image_length, header, body, image, word, form_in, config_in, previous_in, record_in, tables_from, memory_in, header_in, laid_out}
use Rattle.image.specs.Image.{save_refusal, end_save, saved_unless, saved, too_short, held_refusal, form_refusal, restore_refusal, end_restore, taken_unless, restored}
use Rattle.image_layout.proofs.Parts.{length-header}
use Rattle.image.proofs.Judged.{save-known, restore-known, restore-newest}
use Rattle.image.proofs.Ways.{held_with}

-- ---- one image per content

header-words : (form : ℕ) (b : List ℕ) → header_in form b ≡ words_of form b
unfolding header_in
header-words form b = refl

-- an image that restore accepts is, in its own form, what save writes of what it holds: no byte of it does not matter
pub accepted-in-form : (b : List ℕ) (t : Tables) → AllBytes b → restore_refusal b t ≡ Ok tt
    → image (form_in b) (config_in (form_in b) b) (memory_in (form_in b) b) ≡ b
accepted-in-form b t a e =
    let form = form_in b in
    let k = restore-known b t e in
    let c = config_in form b in
    let N = states c in
    let C = N * N in
    let B = drop (header_length form) b in
    let l_b : length B ≡ 16 * C + 8 * N = simp length-drop (omega (arith, k.whole)) in
    let a_b = bytes_drop (header_length form) b a in
    let d : drop (16 * C) B ≡ drop (8 * C) (drop (8 * C) B) =
    sym (drop-drop (8 * C) (8 * C) B ∙ ap (λ (j : ℕ). drop j B) (let s : 8 * C + 8 * C ≡ 16 * C = omega arith in s)) in
    let t₃ : map twos (map untwos (words_of N (drop (16 * C) B))) ≡ words_of N (drop (8 * C) (drop (8 * C) B)) =
    twos_back (words_of N (drop (16 * C) B)) (words-fit N (drop (16 * C) B) (bytes_drop (16 * C) B a_b) (omega (arith, length-drop (16 * C) B)))
    ∙ ap (words_of N) d in
    let t₂ : words_of C (drop (8 * C) B) ++ map twos (map untwos (words_of N (drop (16 * C) B))) ≡ words_of (C + N) (drop (8 * C) B) =
    ap (λ (r : List ℕ). words_of C (drop (8 * C) B) ++ r) t₃ ∙ words-join C N (drop (8 * C) B) in
    let t₁ : body (tables_from N B) ≡ words_of (C + (C + N)) B =
    ap (λ (r : List ℕ). words_of C B ++ r) t₂ ∙ words-join C (C + N) B in
    let h : header form c (previous_in b) (memory_in form b).counts ≡ words_of form b = sym k.header_is ∙ header-words form b in
    (λ i. bytes_of (h i ++ t₁ i))
    ∙ ap bytes_of (words-join form (C + (C + N)) b)
    ∙ bytes_back (form + (C + (C + N))) b a (omega (arith, k.whole))

-- restore accepts the newest form alone
pub accepted-image : (b : List ℕ) (t : Tables) → AllBytes b → restore_refusal b t ≡ Ok tt → image newest (config_in newest b) (memory_in newest b) ≡ b
accepted-image b t a e =
    ap (λ (form : ℕ). image form (config_in form b) (memory_in form b)) (sym (restore-newest b t e)) ∙ accepted-in-form b t a e

-- ---- what was saved comes back

total-back : (z : ℤ) → not (within z) ≡ false → untwos (twos z) ≡ z
total-back (pos n) e = to_z-of_z {w = w64} {z = pos n} (record { sfits = omega (arith, leb-true n cell_limit (not-false _ e)) })
total-back (negsuc n) e = to_z-of_z {w = w64} {z = negsuc n} (record { sfits = omega (arith, leb-true (suc n) cell_limit (not-false _ e)) })

totals-back : (l : List ℤ) → any over_total l ≡ false → map untwos (map twos l) ≡ l
totals-back [] e = refl
totals-back (z ∷ l) e =
    let p = neither (over_total z) (any over_total l) e in
    λ i. total-back z p.0 i ∷ totals-back l p.1 i

-- the record read back from the header's words
previous-read : (form : ℕ) (c : MicroPriceConfig) (l : Previous) (k : Counters) (T : Tables) (rest : List ℕ)
    → cond (eqb (get_or (header form c l (counts_of k T) ++ rest) 9 0) 1)
    (Some (record {
      timestamp_ms = get_or (header form c l (counts_of k T) ++ rest) 10 0;
      bid = get_or (header form c l (counts_of k T) ++ rest) 11 0;
      ask = get_or (header form c l (counts_of k T) ++ rest) 12 0;
      bid_size = get_or (header form c l (counts_of k T) ++ rest) 13 0;
      ask_size = get_or (header form c l (counts_of k T) ++ rest) 14 0;
    })) None ≡ l
unfolding header
previous-read form c None k T rest = refl
previous-read form c (Some q) k T rest = refl

counters-read : (form : ℕ) (c : MicroPriceConfig) (l : Previous) (k : Counters) (T : Tables) (rest : List ℕ)
    → ◌≡◌ {A = Counters}
    (record {
      pairs = get_or (header form c l (counts_of k T) ++ rest) 15 0;
      skipped_spread_pairs = get_or (header form c l (counts_of k T) ++ rest) 16 0;
      skipped_gap_pairs = get_or (header form c l (counts_of k T) ++ rest) 17 0;
      largest_move_half_ticks = get_or (header form c l (counts_of k T) ++ rest) 18 0;
    }) k
unfolding header
counters-read form c None k T rest = refl
counters-read form c (Some q) k T rest = refl

module _ (form : ℕ) (c : MicroPriceConfig) (l : Previous) (k : Counters) (s m : List ℕ) (t : List ℤ) where
  abbrev T : Tables
  T = tables s m t

  abbrev h : List ℕ
  h = header form c l (counts_of k T)

  abbrev ws : List ℕ
  ws = h ++ body T

  abbrev held : Memory Previous
  held = memory (record { previous = l; counters = k }) s m t

  abbrev b : List ℕ
  b = image form c held

  module _ (least : oldest ≤ form) (v : Valid c) (z : RightLengths (states c) (length s) (length m) (length t)) (fits : AllWords ws)
      (small : any over_total t ≡ false) where
    abbrev C : ℕ
    C = cells c

    abbrev start : ℕ
    start = header_length form

    length-h : length h ≡ form
    length-h = length-header form least c l (counts_of k T)

    length-ws : length ws ≡ form + (C + (C + states c))
    length-ws =
        omega (
          arith,
          length-append h (body T),
          length-append s (m ++ map twos t),
          length-append m (map twos t),
          length-map t twos,
          length-h,
          z.stay-cells,
          z.moved-cells,
          z.totals-cells,
        )

    pub image-length : length b ≡ image_length form c
    image-length = length-bytes ws ∙ omega (arith, length-ws)

    words_are : words_of (length ws) b ≡ ws
    words_are = words_back ws fits

    word-is : (i : ℕ) → i < oldest → word b i ≡ get_or ws i 0
    word-is i lt = sym (words-at (length ws) i b (omega (arith, length-ws))) ∙ ap (λ (r : List ℕ). get_or r i 0) words_are

    -- a run of words
    run : (n j : ℕ) → j + n ≤ form + (C + (C + states c)) → words_of n (drop (8 * j) b) ≡ take n (drop j ws)
    run n j lt =
        sym (words-part n j (length ws) b (omega (arith, length-ws))) ∙ ap (λ (r : List ℕ). take n (drop j r)) words_are

    form-back : form_in b ≡ form
    unfolding header
    form-back = ap (λ (w : ℕ). w / 8) (word-is 6 (omega arith)) ∙ omega arith

    pub config-back : config_in form b ≡ c
    unfolding header
    config-back =
        λ i.
        record {
          tick_size = word-is 3 (omega arith) i;
          imbalance_buckets = word-is 1 (omega arith) i;
          spread_states = word-is 2 (omega arith) i;
          min_state_observations = word-is 4 (omega arith) i;
          max_quote_gap_ms = word-is 5 (omega arith) i;
        }

    previous-back : previous_in b ≡ l
    previous-back =
        (λ i.
        cond (eqb (word-is 9 (omega arith) i) 1)
        (Some
        (record {
          timestamp_ms = word-is 10 (omega arith) i;
          bid = word-is 11 (omega arith) i;
          ask = word-is 12 (omega arith) i;
          bid_size = word-is 13 (omega arith) i;
          ask_size = word-is 14 (omega arith) i;
        }))
        None)
        ∙ previous-read form c l k T (body T)

    counters-back : (record_in form b).counters ≡ k
    counters-back =
        (λ i.
        record {
          pairs = word-is 15 (omega arith) i;
          skipped_spread_pairs = word-is 16 (omega arith) i;
          skipped_gap_pairs = word-is 17 (omega arith) i;
          largest_move_half_ticks = word-is 18 (omega arith) i;
        })
        ∙ counters-read form c l k T (body T)

    -- the tables, run by run
    stay-back : words_of C (drop start b) ≡ s
    stay-back =
        run C form (omega arith)
        ∙ ap (take C) (drop_at h (body T) form length-h)
        ∙ take_at s (m ++ map twos t) C z.stay-cells

    moved_back : words_of C (drop (8 * C) (drop start b)) ≡ m
    moved_back =
        ap (words_of C) (drop-drop (8 * C) start b ∙ ap (λ (j : ℕ). drop j b) (let e : start + 8 * C ≡ 8 * (form + C) = omega arith in e))
        ∙ run C (form + C) (omega arith)
        ∙ ap (take C) (sym (drop-drop C form ws) ∙ ap (drop C) (drop_at h (body T) form length-h) ∙ drop_at s (m ++ map twos t) C z.stay-cells)
        ∙ take_at m (map twos t) C z.moved-cells

    totals-words : words_of (states c) (drop (16 * C) (drop start b)) ≡ map twos t
    totals-words =
        ap (words_of (states c))
        (drop-drop (16 * C) start b ∙ ap (λ (j : ℕ). drop j b) (let e : start + 16 * C ≡ 8 * (form + (C + C)) = omega arith in e))
        ∙ run (states c) (form + (C + C)) (omega arith)
        ∙ ap (take (states c))
        (sym (drop-drop (C + C) form ws)
        ∙ ap (drop (C + C)) (drop_at h (body T) form length-h)
        ∙ sym (drop-drop C C (body T))
        ∙ ap (drop C) (drop_at s (m ++ map twos t) C z.stay-cells)
        ∙ drop_at m (map twos t) C z.moved-cells)
        ∙ take_all (states c) (map twos t) (omega (arith, length-map t twos, z.totals-cells))

    -- what the image holds is what was saved
    pub memory-back : memory_in form b ≡ held
    memory-back =
        (λ i. memory (record { previous = previous-back i; counters = counters-back i }) (tables_from (states (config-back i)) (drop start b)).stay
        (tables_from (states (config-back i)) (drop start b)).moved (tables_from (states (config-back i)) (drop start b)).totals)
        ∙ (λ i. memory (record { previous = l; counters = k }) (stay-back i) (moved_back i) ((ap (map untwos) totals-words ∙ totals-back t small) i))

    header-back : header_in form b ≡ h
    header-back = header-words form b ∙ run form 0 (omega arith) ∙ take_at h (body T) form length-h

    laid_out_lem : is_read form ≡ true → laid_out form b ≡ true
    laid_out_lem read =
        (λ i. read i && (same_words (header-back i) (header form (config-back i) (previous-back i) (memory-back i).counts) && eqb (image-length i)
        (image_length form (config-back i))))
        ∙ rw (same_self h, eqb_same (image_length form c))

    -- and nothing refuses it, where the form is read, nothing refused the save and the lent tables have its lengths
    pub image-accepted : is_read form ≡ true → valid c ≡ true → broken c l ≡ false → check_mirrored c (counts_of k T) ≡ Ok tt → (lent : Tables)
        → lent_wrong (states c) lent ≡ false → restore_refusal b lent ≡ Ok tt
    image-accepted read valid-c sound fine lent sizes =
        let short : too_short b ≡ false = le-ltb (length b) (header_length oldest) (omega (arith, image-length)) in
        let conf : valid (config_in form b) ≡ true = ap valid config-back ∙ valid-c in
        let held-fine : held_refusal form b lent ≡ Ok tt =
        (λ i. held_with (config-back i) (previous-back i) (memory-back i).counts lent) ∙ rw (sizes, sound, fine) in
        ap (λ (f : ℕ). form_refusal f b lent) form-back ∙ rw (short, conf, laid_out_lem read, held-fine)

    -- what restore then gives
    pub image-taken : (lent : Memory Previous) → taken_unless (Ok tt) b lent ≡ end_restore (Ok c) held
    image-taken lent =
        ap (λ (f : ℕ). end_restore (Ok (config_in f b)) (memory_in f b)) form-back
        ∙ (λ i. end_restore (Ok (config-back i)) (memory-back i))

-- ---- in the operations' own definitions

counts-small : (N : ℕ) (mirror : ℕ → ℕ) (k : Counts) → check_counts N mirror k ≡ Ok tt → any over_total k.tables.totals ≡ false
counts-small N mirror k e =
    let f = first_fine (refuse_if (stored_over k) 6)
    (first_of (first_from (check_state N mirror k.tables) 0 N) (refuse_if (not (is_twice k.pairs k.tables)) 11)) e in
    (neither (over_counter k.pairs || any over_counter k.skips) (any over_total k.tables.totals) (if-fine (stored_over k) 6 refl f.0)).1

save-fine : (x : Check) (before written : List ℕ) → (saved_unless x before written).answer ≡ Ok tt
    → (x ≡ Ok tt) × ((saved_unless x before written).output ≡ written)
save-fine (Ok _) before written e = (refl, refl)
save-fine (Err r) before written e = absurd (zero-not-one cc)

-- restoring what was saved, into any memory of the right lengths, gives back configuration, record and tables
pub restored-saved : (c : MicroPriceConfig) (r : Record) (s m : List ℕ) (t : List ℤ) (out : List ℕ) (lent : Memory Previous)
    → AllWords (header newest c r.previous (counts_of r.counters (tables s m t)) ++ body (tables s m t))
    → lent_wrong (states c) lent.counts.tables ≡ false → (saved c (memory r s m t) out).answer ≡ Ok tt
    → restored (saved c (memory r s m t) out).output lent ≡ end_restore (Ok c) (memory r s m t)
restored-saved c r s m t out lent fits sizes e =
    let f = save-fine (save_refusal c (memory r s m t) (length out)) out (image newest c (memory r s m t)) e in
    let k = save-known c (memory r s m t) (length out) f.0 in
    let z = lengths-known (states c) (length s) (length m) (length t) k.sizes in
    let small = counts-small (states c) (mirror_of c.imbalance_buckets) (counts_of r.counters (tables s m t)) k.mirrored in
    let b = image newest c (memory r s m t) in
    let taken = image-accepted newest c r.previous r.counters s m t (omega arith) k.conf z fits small refl k.valid-is k.sound k.mirrored
    lent.counts.tables sizes in
    ap (λ (o : List ℕ). restored o lent) f.1
    ∙ ap (λ (x : Check). taken_unless x b lent) taken
    ∙ image-taken newest c r.previous r.counters s m t (omega arith) k.conf z fits small lent

restore-fine : (x : Check) (b : List ℕ) (m : Memory Previous) (c : MicroPriceConfig) → (taken_unless x b m).answer ≡ Ok c
    → (x ≡ Ok tt) × (config_in (form_in b) b ≡ c) × ((taken_unless x b m).left ≡ memory_in (form_in b) b)
restore-fine (Ok _) b m c e = (refl, cc, refl)
restore-fine (Err r) b m c e = absurd (zero-not-one cc)

held-lengths : (b : List ℕ) (t : Tables) → restore_refusal b t ≡ Ok tt → check_memory (config_in (form_in b) b) (memory_in (form_in b) b) ≡ Ok tt
held-lengths b t e =
    let k = restore-known b t e in
    let N = states (config_in (form_in b) b) in
    let B = drop (header_length (form_in b)) b in
    let ls = length-words (N * N) B in
    let lm = length-words (N * N) (drop (8 * (N * N)) B) in
    let lt : length (map untwos (words_of N (drop (16 * (N * N)) B))) ≡ N =
    length-map (words_of N (drop (16 * (N * N)) B)) untwos ∙ length-words N (drop (16 * (N * N)) B) in
    rw (k.valid-is, ls, lm, lt, eqb_same (N * N), eqb_same N)

-- and saving what restore gave writes the image that it was given
pub saved-restored : (b : List ℕ) (lent : Memory Previous) (c : MicroPriceConfig) (out : List ℕ) → AllBytes b → (restored b lent).answer ≡ Ok c
    → length out ≡ length b → saved c (restored b lent).left out ≡ end_save (Ok tt) b
saved-restored b lent c out bytes e long =
    let form = form_in b in
    let f = restore-fine (restore_refusal b lent.counts.tables) b lent c e in
    let k = restore-known b lent.counts.tables f.0 in
    let n = restore-newest b lent.counts.tables f.0 in
    let enough = held-lengths b lent.counts.tables f.0 in
    let whole : eqb (length out) (image_length newest (config_in form b)) ≡ true =
    eq-eqb _ _ (long ∙ k.whole ∙ ap (λ (x : ℕ). image_length x (config_in form b)) n) in
    let fine : save_refusal (config_in form b) (memory_in form b) (length out) ≡ Ok tt = rw (enough, whole, k.sound, k.mirrored) in
    (λ i. saved (sym f.1 i) (f.2 i) out)
    ∙ ap (λ (x : Check). saved_unless x out (image newest (config_in form b) (memory_in form b))) fine
    ∙ ap (λ (x : ℕ). end_save (Ok tt) (image x (config_in form b) (memory_in form b))) (sym n)
    ∙ ap (end_save (Ok tt)) (accepted-in-form b lent.counts.tables bytes f.0)

-- What restore accepts holds as the memory of a history does.
use Prim.Native.Nat.{ℕ, ◌+◌, ◌*◌, ◌^◌, ◌≤◌, ◌<◌}
use mathlib.Core.Path.{◌≡◌, refl, sym, subst, ◌∙◌}
use mathlib.Core.Bool.{Bool, true, false, not, cond, ◌||◌}
use mathlib.Core.List.{List, [], ◌∷◌}
use native.Mathlib.Omega.{arith}
use lib.Dec.{eqb}
use lib.IntN.{ℤ, pos, negsuc, neg_ℤ}
use lib.ListN.{length, get_or, drop, length-drop, length-map}
use borrow.Author.Tests.{eqb-true, le-ltb, ltb-false, not-false}
use Rattle.basics.specs.Lists.{any, sum}
use Rattle.basics.proofs.Tests.{zero-not-one, both, neither}
use Rattle.basics.specs.Domain.{counter_limit, cell_limit}
use Rattle.image_words.specs.Words.{words_of, untwos, AllBytes, AllWords}
use Rattle.image_words.proofs.Laws.{length-words}
use Rattle.image_words.proofs.Round.{bytes_drop, words-fit}
use Rattle.refusals.specs.Refusals.{refuse_if, first_of, first_from, Check}
use Rattle.std.specs.Prelude.{Some, None, Ok, Err}
use Rattle.refusals.proofs.Refusals.{if-fine, first_fine, from-fine}
use Rattle.config.specs.Configuration.{states}
use Rattle.config.specs.declared.MicroPriceConfig.{MicroPriceConfig}
use Rattle.quotes.specs.States.{mirror_of}
use Rattle.tally.specs.Balance.{Sized, Balanced}
use Rattle.tally.specs.Entries.{Tables, over_cell, over_total}
use Rattle.tally.specs.Events.{Counts}
use Rattle.tally.specs.Limits.{over_counter, over_limit}
use Rattle.tally.specs.Rules.{Memory}
use Rattle.count_check.specs.Mirrors.{same_total, stored_over, total_mirrored, cells_alike, cell_mirrored, row_mirrored, check_state, is_twice, check_counts}
use Rattle.count_check.proofs.Walks.{all-at}
use Rattle.calibrator.specs.Record.{kinds, Previous}
use Rattle.image_layout.specs.Layout.{oldest, header_length, word, previous_words, form_in, quote_in, previous_in, config_in, memory_in}
use Rattle.image.specs.Image.{taken_unless, restored, restore_refusal}
use Rattle.image.proofs.Judged.{Restorable, restore-known}
use Rattle.history.proofs.Holds.{Holds}

-- ---- counts that the count check does not refuse

same_total_lem : (x y : ℤ) → same_total x y ≡ true → x ≡ y
same_total_lem (pos a) (pos b) e = λ i. pos (eqb-true a b e i)
same_total_lem (pos a) (negsuc b) e = absurd (zero-not-one cc)
same_total_lem (negsuc a) (pos b) e = absurd (zero-not-one cc)
same_total_lem (negsuc a) (negsuc b) e = λ i. negsuc (eqb-true a b e i)

-- a cell is at most the sum of all
cells_in : (l : List ℕ) → sum l ≤ cell_limit → any over_cell l ≡ false
cells_in [] h = refl
cells_in (x ∷ l) h = rw (le-ltb cell_limit x (omega arith)) (cells_in l (omega arith))

module _ (N : ℕ) (mirror : ℕ → ℕ) (k : Counts) (fine : check_counts N mirror k ≡ Ok tt) where
  abbrev walk : Check
  walk = first_from (check_state N mirror k.tables) 0 N

  abbrev twice : Bool
  twice = is_twice k.pairs k.tables

  stored : stored_over k ≡ false
  stored = if-fine (stored_over k) 6 refl (first_fine (refuse_if (stored_over k) 6) (first_of walk (refuse_if (not twice) 11)) fine).0

  rest : (walk ≡ Ok tt) × (refuse_if (not twice) 11 ≡ Ok tt)
  rest = first_fine walk (refuse_if (not twice) 11) (first_fine (refuse_if (stored_over k) 6) (first_of walk (refuse_if (not twice) 11)) fine).1

  cells-twice : sum k.tables.stay + sum k.tables.moved ≡ 2 * k.pairs
  cells-twice = eqb-true _ _ (not-false twice (if-fine (not twice) 11 refl rest.1))

  module _ (i : ℕ) (h : i < N) where
    state : (refuse_if (not (total_mirrored k.tables.totals i (mirror i))) 9 ≡ Ok tt) × (refuse_if (not (row_mirrored N mirror k.tables i)) 10 ≡ Ok tt)
    state =
        first_fine (refuse_if (not (total_mirrored k.tables.totals i (mirror i))) 9) (refuse_if (not (row_mirrored N mirror k.tables i)) 10)
        (from-fine (check_state N mirror k.tables) 0 N rest.0 i (omega arith) (omega arith))

    total : get_or k.tables.totals (mirror i) (pos 0) ≡ neg_ℤ (get_or k.tables.totals i (pos 0))
    total =
        same_total_lem (get_or k.tables.totals (mirror i) (pos 0)) (neg_ℤ (get_or k.tables.totals i (pos 0)))
        (not-false (total_mirrored k.tables.totals i (mirror i)) (if-fine _ 9 refl state.0))

    cells : (j : ℕ) → j < N
        → (cells_alike k.tables.stay (i * N + j) (mirror i * N + mirror j) ≡ true)
        × (cells_alike k.tables.moved (i * N + j) (mirror i * N + mirror j) ≡ true)
    cells j g =
        both (cells_alike k.tables.stay (i * N + j) (mirror i * N + mirror j)) (cells_alike k.tables.moved (i * N + j) (mirror i * N + mirror j))
        (all-at (cell_mirrored N mirror k.tables i) 0 N j (not-false (row_mirrored N mirror k.tables i) (if-fine _ 10 refl state.1)) (omega arith)
        (omega arith))

  check-balanced : Balanced N mirror k
  check-balanced =
      record {
        stay-mirrored = λ i j h g. sym (eqb-true _ _ (cells i h j g).0);
        moved-mirrored = λ i j h g. sym (eqb-true _ _ (cells i h j g).1);
        totals-mirrored = total;
        twice = cells-twice;
      }

  check-within : over_limit k ≡ false
  check-within =
      let s = neither (over_counter k.pairs || any over_counter k.skips) (any over_total k.tables.totals) stored in
      let c = neither (over_counter k.pairs) (any over_counter k.skips) s.0 in
      let few : k.pairs ≤ counter_limit = ltb-false counter_limit k.pairs c.0 in
      let stay = cells_in k.tables.stay (omega (arith, cells-twice)) in
      let moved = cells_in k.tables.moved (omega (arith, cells-twice)) in
      rw (c.0, c.1, stay, moved, s.1)

-- ---- what an image holds

module _ (b : List ℕ) (bytes : AllBytes b) (there : header_length oldest ≤ length b) where
  word_fits : (k : ℕ) → k < oldest → word b k < 2 ^ 64
  word_fits k h =
      (words-fit 1 (drop (8 * k) b) (bytes_drop (8 * k) b bytes) (rw (length-drop (8 * k) b) (omega arith))).0

  previous-fits : AllWords (previous_words (previous_in b))
  previous-fits = go (eqb (word b 9) 1)
    where
      w : (k : ℕ) → k < oldest → word b k < 2 ^ 64
      w = word_fits

      go : (t : Bool) → AllWords (previous_words (cond t (Some (quote_in b)) None))
      go true = (omega arith, (w 10 (omega arith), (w 11 (omega arith), (w 12 (omega arith), (w 13 (omega arith), (w 14 (omega arith), tt))))))
      go false = (omega arith, (omega arith, (omega arith, (omega arith, (omega arith, (omega arith, tt))))))

tables-sized : (form : ℕ) (b : List ℕ) → Sized kinds (states (config_in form b)) (memory_in form b).counts
tables-sized form b =
    let N : ℕ = states (config_in form b) in
    let B : List ℕ = drop (header_length form) b in
    record {
      skip-kinds = refl;
      stay-cells = length-words (N * N) B;
      moved-cells = length-words (N * N) (drop (8 * (N * N)) B);
      totals-cells =
          length-map (words_of N (drop (16 * (N * N)) B)) untwos ∙ length-words N (drop (16 * (N * N)) B);
    }

-- what a form that restore accepts holds
held-holds : (form : ℕ) (b : List ℕ) (t : Tables) → AllBytes b → Restorable form b t → Holds (config_in form b) (memory_in form b)
held-holds form b t bytes k =
    let N : ℕ = states (config_in form b) in
    let mirror : ℕ → ℕ = mirror_of (config_in form b).imbalance_buckets in
    record {
      sized = tables-sized form b;
      balanced = check-balanced N mirror (memory_in form b).counts k.mirrored;
      within = check-within N mirror (memory_in form b).counts k.mirrored;
      sound = k.sound;
      last_fits = previous-fits b bytes k.header-there;
      largest-fits = word_fits b bytes k.header-there 18 (omega arith);
    }

taken-known : (k : Check) (b : List ℕ) (m : Memory Previous) (c : MicroPriceConfig) → (taken_unless k b m).answer ≡ Ok c
    → (k ≡ Ok tt) × (config_in (form_in b) b ≡ c) × (memory_in (form_in b) b ≡ (taken_unless k b m).left)
taken-known (Ok _) b m c e = (refl, cc, refl)
taken-known (Err r) b m c e = absurd (zero-not-one cc)

module _ (b : List ℕ) (bytes : AllBytes b) (m : Memory Previous) (c : MicroPriceConfig) (e : (restored b m).answer ≡ Ok c) where
  pub restored-holds : Holds c (restored b m).left
  restored-holds =
      let f = taken-known (restore_refusal b m.counts.tables) b m c e in
      let holds = held-holds (form_in b) b m.counts.tables bytes (restore-known b m.counts.tables f.0) in
      subst (Holds c) f.2 (subst (λ (d : MicroPriceConfig). Holds d (memory_in (form_in b) b)) f.1 holds)

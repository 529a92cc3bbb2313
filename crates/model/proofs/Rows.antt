-- Rows of the model table, written and read back.
use mathlib.Core.Path.{◌≡◌, refl, sym, ap, ◌∙◌}
use mathlib.Core.Bool.{not}
use mathlib.Core.Logic.{◌≢◌, ◌⊎◌, inl, inr}
use mathlib.Core.List.{List, [], ◌∷◌, ◌++◌}
use Prim.Native.Nat.{ℕ, zero, suc, ◌+◌, ◌*◌, ◌/◌, ◌<◌, ◌≤◌, ◌^◌}
use native.Mathlib.Nat.{le_of_suc-le-suc}
use native.Mathlib.Omega.{arith}
use lib.Dec.{T}
use lib.Ieee.{Float, nan, inf, fin, binary64, fits, is_nan}
use lib.Ieee.Bits.{of_bits-to_bits, to_bits-of_bits, of_bits-fits}
use lib.ListN.{length, get_or, take, drop}
use lib.Seq.{sets, sets-eq, length-sets, get_or-take, get_or-drop}
use Rattle.std.specs.Simd.{first_chunks}
use Rattle.std.proofs.Common.{append_assoc}
use Rattle.std.proofs.lemmas.List.{drop-drop}
use borrow.Rule.Slice.PartMut.{put_mid}
use Rattle.basics.proofs.Tests.{le-or-lt}
use Rattle.basics.proofs.Stores.{sets-at, sets_below, sets-above}
use Rattle.floats.specs.Floats.{plus_zero, bits_of, from_bits}
use Rattle.model.specs.Rows.{float_word, row_words, row_word, row_at, plus_zeros}
use Rattle.model.specs.declared.StateEstimate.{StateEstimate}

-- the words of a row in place of those that stood there, as `write_row` has them
pub row_put : (l : List ℕ) (i : ℕ) (e : StateEstimate) {k : ℕ} {ws : List ℕ} → k ≡ 7 → 7 * i + 7 ≤ length l → ws ≡ row_words e
    → put_mid (7 * i) k l ws ≡ sets l (7 * i) (row_words e)
row_put l i e is-k h is-ws =
    (λ j. put_mid (7 * i) (is-k j) l (is-ws j))
    ∙ sym (append_assoc (take (7 * i) l) (row_words e) (drop 7 (drop (7 * i) l)))
    ∙ ap (λ rest. take (7 * i) l ++ row_words e ++ rest) (drop-drop 7 (7 * i) l)
    ∙ sym (sets-eq (row_words e) l (7 * i) h)

pub length-row : (e : StateEstimate) → length (row_words e) ≡ 7
length-row e = refl

-- ---- reading

seven : (n : ℕ) (l : List ℕ) (i k : ℕ) (d : List ℕ) → i < n → k < 7 → get_or (get_or (first_chunks 7 n l) i d) k 0 ≡ row_word l i k
seven zero l i k d h b = absurd (omega arith)
seven (suc n) l zero k d h b = get_or-take 7 l k 0 b ∙ ap (λ (j : ℕ). get_or l j 0) (let z : k ≡ 7 * 0 + k = omega arith in z)
seven (suc n) l (suc i) k d h b =
    seven n (drop 7 l) i k d (le_of_suc-le-suc h) b ∙ get_or-drop 7 l (7 * i + k) 0
    ∙ ap (λ (j : ℕ). get_or l j 0) (let z : 7 + (7 * i + k) ≡ 7 * (suc i) + k = omega arith in z)

-- word k of row i, as `read_row` has the rows
pub word_of_seven : (l : List ℕ) (rows : List (List ℕ)) (i k : ℕ) → rows ≡ first_chunks 7 (length l / 7) l → 7 * i + 7 ≤ length l → k < 7
    → get_or (get_or rows i []) k 0 ≡ row_word l i k
word_of_seven l rows i k e h b =
    ap (λ (r : List (List ℕ)). get_or (get_or r i []) k 0) e ∙ seven (length l / 7) l i k [] (omega arith) b

-- ---- reading what was written

plus-fits : (x : Float) → T (fits binary64 x) → T (fits binary64 (plus_zero x))
unfolding plus_zero fits
plus-fits nan h = h
plus-fits (inf s) h = h
plus-fits (fin s zero e) h = h
plus-fits (fin s (suc m) e) h = h

float_back : (x : Float) → T (fits binary64 x) → from_bits (float_word x) ≡ plus_zero x
float_back x h = of_bits-to_bits binary64 (plus_zero x) (plus-fits x h)

-- the floats of an estimate are binary64's, as every f64 is
pub record Held (e : StateEstimate) : Type 0 where
  pub first : T (fits binary64 e.first_adjustment)
  pub final : T (fits binary64 e.adjustment)
  pub share : T (fits binary64 e.fallback_within_moves)

-- so are those of an estimate that was read, whatever the words
pub row-held : (t : List ℕ) (i : ℕ) → Held (row_at t i)
row-held t i =
    record {
      first = of_bits-fits binary64 (row_word t i 3);
      final = of_bits-fits binary64 (row_word t i 4);
      share = of_bits-fits binary64 (row_word t i 5);
    }

-- the estimate read from the row that was written for e: e, each zero as plus zero
pub row_back : (t : List ℕ) (i : ℕ) (e : StateEstimate) → Held e → 7 * i + 7 ≤ length t → row_at (sets t (7 * i) (row_words e)) i ≡ plus_zeros e
row_back t i e h r =
    let word : (k : ℕ) → k < 7 → row_word (sets t (7 * i) (row_words e)) i k ≡ get_or (row_words e) k 0 = λ k b. sets-at 0 (row_words e) t (7 * i) k b r in
    λ j.
    record {
      imbalance_bucket = word 0 (omega arith) j;
      spread_ticks = word 1 (omega arith) j;
      observations = word 2 (omega arith) j;
      first_adjustment = (ap from_bits (word 3 (omega arith)) ∙ float_back e.first_adjustment h.first) j;
      adjustment = (ap from_bits (word 4 (omega arith)) ∙ float_back e.adjustment h.final) j;
      fallback_within_moves = (ap from_bits (word 5 (omega arith)) ∙ float_back e.fallback_within_moves h.share) j;
      status = word 6 (omega arith) j;
    }

-- e itself, if its zeros are plus zero
pub row_same : (t : List ℕ) (i : ℕ) (e : StateEstimate) → Held e → 7 * i + 7 ≤ length t
    → plus_zero e.first_adjustment ≡ e.first_adjustment
    → plus_zero e.adjustment ≡ e.adjustment
    → plus_zero e.fallback_within_moves ≡ e.fallback_within_moves
    → row_at (sets t (7 * i) (row_words e)) i ≡ e
row_same t i e h r first final share =
    row_back t i e h r
    ∙ (λ j.
    record {
      imbalance_bucket = e.imbalance_bucket;
      spread_ticks = e.spread_ticks;
      observations = e.observations;
      first_adjustment = first j;
      adjustment = final j;
      fallback_within_moves = share j;
      status = e.status;
    })

-- no word outside the row changes
pub word-elsewhere : (t : List ℕ) (i : ℕ) (e : StateEstimate) (j : ℕ) → (j < 7 * i) ⊎ (7 * i + 7 ≤ j) → get_or (sets t (7 * i) (row_words e)) j 0 ≡ get_or t j 0
word-elsewhere t i e j (inl h) = sets_below 0 (row_words e) t (7 * i) j h
word-elsewhere t i e j (inr h) = sets-above 0 (row_words e) t (7 * i) j h

-- nor does the row of another state
pub row-elsewhere : (t : List ℕ) (i j : ℕ) (e : StateEstimate) → j ≢ i → row_at (sets t (7 * i) (row_words e)) j ≡ row_at t j
row-elsewhere t i j e n =
    let word : (k : ℕ) → k < 7 → row_word (sets t (7 * i) (row_words e)) j k ≡ row_word t j k = λ k b. word-elsewhere t i e (7 * j + k) (outside k b) in
    λ m.
    record {
      imbalance_bucket = word 0 (omega arith) m;
      spread_ticks = word 1 (omega arith) m;
      observations = word 2 (omega arith) m;
      first_adjustment = from_bits (word 3 (omega arith) m);
      adjustment = from_bits (word 4 (omega arith) m);
      fallback_within_moves = from_bits (word 5 (omega arith) m);
      status = word 6 (omega arith) m;
    }
  where
    outside : (k : ℕ) → k < 7 → (7 * j + k < 7 * i) ⊎ (7 * i + 7 ≤ 7 * j + k)
    outside k b = at (le-or-lt i j)
      where
        at : (i ≤ j) ⊎ (j < i) → (7 * j + k < 7 * i) ⊎ (7 * i + 7 ≤ 7 * j + k)
        at (inl l) = inr (omega arith)
        at (inr l) = inl (omega arith)

-- the table keeps its length
pub length-written : (t : List ℕ) (i : ℕ) (e : StateEstimate) → length (sets t (7 * i) (row_words e)) ≡ length t
length-written t i e = length-sets t (7 * i) (row_words e)

-- ---- writing what was read

-- the bits of a float that is neither NaN nor minus zero
pub record Plain (b : ℕ) : Type 0 where
  pub word : b < 2 ^ 64
  pub no_nan : T (not (is_nan (from_bits b)))
  pub zero-plus : plus_zero (from_bits b) ≡ from_bits b

word_back : (b : ℕ) → Plain b → float_word (from_bits b) ≡ b
word_back b p = ap bits_of p.zero-plus ∙ to_bits-of_bits binary64 b p.word p.no_nan

-- the words of an estimate that was read are the row's
pub words_back : (t : List ℕ) (i : ℕ) → Plain (row_word t i 3) → Plain (row_word t i 4) → Plain (row_word t i 5)
    → row_words (row_at t i) ≡ row_word t i 0 ∷ row_word t i 1 ∷ row_word t i 2 ∷ row_word t i 3 ∷ row_word t i 4 ∷ row_word t i 5 ∷ row_word t i 6 ∷ []
words_back t i first final share = rw (word_back _ first, word_back _ final, word_back _ share)

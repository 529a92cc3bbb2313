-- The words of a record: their number, and there and back; and what a test of the words gives to an exported operation.
use Prim.Native.Nat.{ℕ}
use mathlib.Core.Path.{◌≡◌, refl, sym, ◌∙◌, ap}
use mathlib.Core.Bool.{Bool, true, false, cond}
use mathlib.Core.List.{List, []}
use lib.Dec.{eqb}
use lib.IntN.{ℤ}
use lib.ListN.{length}
use borrow.Author.Tests.{eqb-true}
use Rattle.basics.proofs.Tests.{both, fails, eqb_same}
use Rattle.basics.proofs.Lists.{same-equal}
use Rattle.config.specs.Configuration.{is_config, config_of}
use Rattle.config.specs.declared.MicroPriceConfig.{MicroPriceConfig}
use Rattle.calibrator.specs.Record.{memory, counts_of, Previous}
use Rattle.calibrator.specs.declared.Counters.{Counters}
use Rattle.std.specs.Prelude.{Some, None}
use Rattle.calibrator.specs.declared.Record.{Record}
use Rattle.tally.specs.Entries.{Tables, tables}
use Rattle.tally.specs.Rules.{Memory}
use Rattle.abi_encoding.specs.Encoding.{record_length, record_words, record_words_of, previous_of, counters_of, record_of, is_record, right_words, encoded}

-- ---- a record

record-words-long : (l : Previous) (k : Counters) (t : Tables) → length (record_words l (counts_of k t)) ≡ record_length
record-words-long None k t = refl
record-words-long (Some q) k t = refl

module _ (w : List ℕ) where
  pub record-long : is_record w ≡ true → length w ≡ record_length
  record-long e =
      ap length (same-equal w (record_words_of (memory (record_of w) [] [] [])) e) ∙ record-words-long (previous_of w) (counters_of w) (tables [] [] [])

  pub no_record : (length w ≡ record_length → ⊥) → is_record w ≡ false
  no_record h = fails (is_record w) (λ e. h (record-long e))

record-back-of : (l : Previous) (k : Counters) (s m : List ℕ) (t : List ℤ)
    → record_of (record_words_of (memory (record { previous = l; counters = k }) s m t)) ≡ record { previous = l; counters = k }
record-back-of None k s m t = refl
record-back-of (Some q) k s m t = refl

pub record-back : (r : Record) (s m : List ℕ) (t : List ℤ) → record_of (record_words_of (memory r s m t)) ≡ r
record-back r s m t = record-back-of r.previous r.counters s m t

-- what is written is a record's
written_of : (l : Previous) (k : Counters) (s m : List ℕ) (t : List ℤ)
    → is_record (record_words_of (memory (record { previous = l; counters = k }) s m t)) ≡ true
written_of None k s m t = simp eqb_same
written_of (Some q) k s m t = simp eqb_same

pub record-written : (r : Record) (s m : List ℕ) (t : List ℤ) → is_record (record_words_of (memory r s m t)) ≡ true
record-written r s m t = written_of r.previous r.counters s m t

-- ---- for the exported operations

pub chosen : {A : Type 0} {x : A} {b : Bool} (y : A) → b ≡ true → x ≡ cond b x y
chosen {x = x} y e = sym (ap (λ b. cond b x y) e)

-- what a test of the words, b, gives to the calls after it
pub record Judged (b : Bool) (c w : List ℕ) : Type 0 where
  pub is : b ≡ true
  pub config : is_config c ≡ true
  pub rec-long : length w ≡ record_length

abbrev pub Long : List ℕ → List ℕ → Type 0
Long c w = Judged (right_words c w) c w

abbrev pub Encoded : List ℕ → List ℕ → Type 0
Encoded c w = Judged (encoded c w) c w

module _ (c w : List ℕ) (b : Bool) where
  pub long-by : b ≡ right_words c w → b ≡ true → Long c w
  long-by judged holds =
      let e : right_words c w ≡ true = sym judged ∙ holds in
      let k = both (is_config c) (eqb (length w) record_length) e in
      record { is = e; config = k.0; rec-long = eqb-true (length w) record_length k.1 }

  pub encoded-by : b ≡ encoded c w → b ≡ true → Encoded c w
  encoded-by judged holds =
      let e : encoded c w ≡ true = sym judged ∙ holds in
      let k = both (is_config c) (is_record w) e in
      record { is = e; config = k.0; rec-long = record-long w k.1 }

-- an operation on the record and the configuration that judged words hold: what is left of it, x, is what the exported operation says
module _ (c w s m : List ℕ) (t : List ℤ) {b : Bool} (k : Judged b c w) {r : Record} (record_is : r ≡ record_of w)
    {d : MicroPriceConfig} (decoded : d ≡ config_of c) where
  pub operation-words : {O X : Type 0} (f : MicroPriceConfig → Memory Previous → O) (out : O → X) {o : O} → o ≡ f d (memory r s m t) → {x : X} → x ≡ out o
      → (other : X) → x ≡ cond b (out (f (config_of c) (memory (record_of w) s m t))) other
  operation-words f out done left other =
      left ∙ ap out (done ∙ (λ j. f (decoded j) (memory (record_is j) s m t))) ∙ chosen other k.is

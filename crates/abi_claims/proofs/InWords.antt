-- What the exported functions do, call by call, is what the operations do: a memory that has its counters goes to words and back.
use Prim.Native.Nat.{ℕ}
use mathlib.Core.Path.{◌≡◌, refl, sym, ap, ◌∙◌}
use mathlib.Core.Bool.{Bool, true, false, cond, ◌&&◌}
use mathlib.Core.List.{List, [], ◌∷◌, map}
use lib.Dec.{eqb}
use lib.IntN.{ℤ}
use lib.ListN.{length, length-set}
use Rattle.basics.proofs.Tests.{zero-not-one}
use Rattle.refusals.specs.Refusals.{number_of, Check}
use Rattle.std.specs.Prelude.{Ok, Err}
use Rattle.refusals.proofs.Numbers.{number-not-zero}
use Rattle.config.specs.declared.MicroPriceConfig.{MicroPriceConfig}
use Rattle.tally.specs.Events.{Event, first, skip, pair, Counts, entered}
use Rattle.tally.specs.Rules.{Memory, step}
use Rattle.calibrator.specs.Record.{memory, answered, Previous}
use Rattle.calibrator.specs.Observe.{rule, judge, refusal_by, observed}
use Rattle.calibrator.proofs.Memories as Memories
use Rattle.recording.specs.Recording.{filter}
use Rattle.image.specs.Image.{saved, taken_unless, restored, restore_refusal}
use Rattle.config.specs.Configuration.{is_config, config_of}
use Rattle.abi_encoding.specs.Encoding.{is_record, record_of, record_words_of, encoded, bad_encoding, lent}
use Rattle.abi_encoding.proofs.Laws.{record-back, record-written}
use Rattle.history.specs.Calls.{Call, quote, save, restore, act, after_restore, run}
use Rattle.abi_counting.specs.Counting.{of_outcome}
use Rattle.abi_image.specs.Images.{lent_out, of_saved, lent_back, of_taken}
use Rattle.abi_claims.specs.WordCalls.{lent_memory, memory_in_words, WordCall, observing, saving, restoring, observe_answer, save_answer, restore_answer, WordsActed, act_words, WordsRan, run_words, is_made, call_of, history_calls, not_made, first_in_words, later_answers, answer_in_words, answers_in_words}

-- ---- a counter for each kind of skip

module _ (d : MicroPriceConfig) where
  abbrev pub HasKinds : Memory Previous → Type 0
  HasKinds m = length m.counts.skips ≡ (rule d).kinds

  kinds-entered : (e : Event) (k : Counts) → length k.skips ≡ (rule d).kinds → length (entered (rule d).states (rule d).mirror e k).skips ≡ (rule d).kinds
  kinds-entered first k h = h
  kinds-entered (skip n) k h = length-set k.skips n _ ∙ h
  kinds-entered (pair i j x) k h = h

  kinds-answered : (k : Check) (m n : Memory Previous) → HasKinds m → HasKinds n → HasKinds (answered k m n).left
  kinds-answered (Ok _) m n a b = b
  kinds-answered (Err r) m n a b = a

  kinds-taken : (k : Check) (b : List ℕ) (m lent : Memory Previous) → HasKinds m
      → HasKinds (after_restore (taken_unless k b lent).answer m (taken_unless k b lent).left)
  kinds-taken (Ok _) b m lent h = refl
  kinds-taken (Err r) b m lent h = h

  -- every call keeps them
  kinds_kept : (m : Memory Previous) → HasKinds m → (k : Call) → HasKinds (act d m k).left
  kinds_kept m h (quote q) =
      kinds-answered (refusal_by (rule d) (judge d) m q) m (step (rule d) m q) h (kinds-entered ((rule d).event m.last q) m.counts h)
  kinds_kept m h (save out) = h
  kinds_kept m h (restore b lent) = kinds-taken (restore_refusal b lent.counts.tables) b m lent h

  pub kinds-left : (ks : List Call) (m : Memory Previous) → HasKinds m → HasKinds (run d m ks).left
  kinds-left [] m h = h
  kinds-left (k ∷ ks) m h = kinds-left ks (act d m k).left (kinds_kept m h k)

-- ---- one call

module _ (c : List ℕ) (config : is_config c ≡ true) where
  abbrev d : MicroPriceConfig
  d = config_of c

  module _ (m : Memory Previous) (kinds : HasKinds d m) where
    abbrev s : List ℕ
    s = m.counts.tables.stay

    abbrev v : List ℕ
    v = m.counts.tables.moved

    abbrev t : List ℤ
    t = m.counts.tables.totals

    -- a memory is the record of its counters and last quote, with its tables
    of-record : memory (Memories.record_of m) s v t ≡ m
    of-record = Memories.record-back d m kinds

    pub words-encoded : encoded c (record_words_of m) ≡ true
    words-encoded = (λ i. config i && is_record (record_words_of (sym of-record i))) ∙ record-written (Memories.record_of m) s v t

    pub memory-from-words : memory (record_of (record_words_of m)) s v t ≡ m
    memory-from-words =
        (λ i. memory (record_of (record_words_of (sym of-record i))) s v t) ∙ ap (λ r. memory r s v t) (record-back (Memories.record_of m) s v t) ∙ of-record

    -- a call that is made
    act-words : (k : WordCall) → is_made k ≡ true
        → act_words c (memory_in_words m) k
        ≡ record { answer = answer_in_words k (act d m (call_of k)).answer; left = memory_in_words (act d m (call_of k)).left }
    act-words (observing q) made =
        (λ i.
        let l = cond (words-encoded i) (of_outcome (record_words_of m) (observed d (memory-from-words i) q)) (lent bad_encoding (record_words_of m) s v t) in
        record { answer = observe_answer l.answer; left = lent_memory l })
        ∙ go (refusal_by (rule d) (judge d) m q)
      where
        go : (k : Check) → let o = answered k m (step (rule d) m q) in
            ◌≡◌ {A = WordsActed}
            (record { answer = observe_answer (of_outcome (record_words_of m) o).answer; left = lent_memory (of_outcome (record_words_of m) o) })
            (record { answer = observe_answer (of_outcome (record_words_of m) o).answer; left = memory_in_words o.left })
        go (Ok _) = refl
        go (Err r) = refl
    act-words (saving out) made =
        λ i.
        record {
          answer = save_answer (cond (words-encoded i) (of_saved (saved d (memory-from-words i) out)) (lent_out bad_encoding out));
          left = memory_in_words m;
        }
    act-words (restoring b e l) made =
        (λ i.
        let x = cond (made i) (of_taken e l.rec (restored b lent')) (lent_back e (lent bad_encoding l.rec l.stay l.moved l.totals)) in
        record { answer = restore_answer x.rest.answer x.config; left = cond (eqb x.rest.answer 0) (lent_memory x.rest) (memory_in_words m) })
        ∙ go (restore_refusal b lent'.counts.tables)
      where
        lent' : Memory Previous
        lent' = memory (record_of l.rec) l.stay l.moved l.totals

        go : (k : Check) → let a = taken_unless k b lent' in let x = of_taken e l.rec a in
            ◌≡◌ {A = WordsActed}
            (record { answer = restore_answer x.rest.answer x.config; left = cond (eqb x.rest.answer 0) (lent_memory x.rest) (memory_in_words m) })
            (record { answer = restore_answer x.rest.answer x.config; left = memory_in_words (after_restore a.answer m a.left) })
        go (Ok _) = refl
        go (Err r) =
            let x = of_taken e l.rec (taken_unless (Err r) b lent') in
            ap (λ (z : Bool). record { answer = restore_answer (number_of r) e; left = cond z (lent_memory x.rest) (memory_in_words m) }) (number-not-zero r)

    -- one that is not
    words-not-made : (k : WordCall) → is_made k ≡ false → act_words c (memory_in_words m) k ≡ record { answer = not_made k; left = memory_in_words m }
    words-not-made (observing q) none = absurd (zero-not-one cc)
    words-not-made (saving out) none = absurd (zero-not-one cc)
    words-not-made (restoring b e l) none =
        λ i.
        let x = cond (none i) (of_taken e l.rec (restored b (memory (record_of l.rec) l.stay l.moved l.totals)))
        (lent_back e (lent bad_encoding l.rec l.stay l.moved l.totals)) in
        record { answer = restore_answer x.rest.answer x.config; left = cond (eqb x.rest.answer 0) (lent_memory x.rest) (memory_in_words m) }

  -- ---- all of them

  -- what the calls ks leave of the memory m, where those that are made are js
  abbrev ran_in_words : List WordCall → Memory Previous → List Call → WordsRan
  ran_in_words ks m js = record { answers = answers_in_words ks (run d m js).answers; left = memory_in_words (run d m js).left }

  pub run-words : (ks : List WordCall) (m : Memory Previous) → HasKinds d m → run_words c (memory_in_words m) ks ≡ ran_in_words ks m (history_calls ks)
  run-words [] m kinds = refl
  run-words (k ∷ ks) m kinds = go (run-words ks) (is_made k) refl
    where
      after : WordsActed → WordsRan
      after a = let r = run_words c a.left ks in record { answers = a.answer ∷ r.answers; left = r.left }

      go : ((n : Memory Previous) → HasKinds d n → run_words c (memory_in_words n) ks ≡ ran_in_words ks n (history_calls ks)) → (b : Bool) → is_made k ≡ b
          → let r = run d m (map call_of (cond b (k ∷ filter is_made ks) (filter is_made ks))) in
          after (act_words c (memory_in_words m) k)
          ≡ record {
            answers = cond b (first_in_words k r.answers ∷ answers_in_words ks (later_answers r.answers)) (not_made k ∷ answers_in_words ks r.answers);
            left = memory_in_words r.left;
          }
      go later true made =
          let a = act d m (call_of k) in
          ap after (act-words m kinds k made)
          ∙ ap (λ (r : WordsRan). record { answers = answer_in_words k a.answer ∷ r.answers; left = r.left })
          (later a.left (kinds_kept d m kinds (call_of k)))
      go later false none =
          ap after (words-not-made m kinds k none)
          ∙ ap (λ (r : WordsRan). record { answers = not_made k ∷ r.answers; left = r.left }) (later m kinds)

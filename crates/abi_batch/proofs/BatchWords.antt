-- From what the replay answers to what the exported operation leaves.
use Prim.Native.Nat.{ℕ}
use mathlib.Core.Path.{◌≡◌, refl, sym, ◌∙◌, ap, transport}
use mathlib.Core.Bool.{Bool, true, false, cond}
use mathlib.Core.List.{List}
use lib.IntN.{ℤ}
use lib.ListN.{length}
use Rattle.tally.specs.Entries.{tables}
use Rattle.config.specs.declared.MicroPriceConfig.{MicroPriceConfig}
use Rattle.calibrator.specs.declared.Record.{Record}
use Rattle.history_replay.specs.Replay.{badly_coded, site, well_coded, calls_from, Replay, replay, replay_run, Promised}
use Rattle.std.specs.Prelude.{Result, Ok, Err, ⊤}
use Rattle.history_replay.specs.declared.BadEncoding.{BadEncoding}
use Rattle.config.specs.Configuration.{config_of}
use Rattle.abi_encoding.specs.Encoding.{record_words_of, record_of, encoded, bad_encoding, lent}
use Rattle.abi_encoding.proofs.Laws.{chosen, Encoded}
use Rattle.abi_batch.specs.Batch.{LentReplay, lent_replay, replayed_number, record_after_replay, of_replay, replay_words, PromisedWords}

-- words that are encoded, with the record and the configuration of them, and what a replay promises of these
module _ (c w s m : List ℕ) (t : List ℤ) (k : Encoded c w) {r : Record} (record_is : r ≡ record_of w) {d : MicroPriceConfig} (decoded : d ≡ config_of c)
    (calls room numbers : List ℕ) (x : Replay) (promised : Promised d (site r (tables s m t) room) calls numbers x) where
  -- the exported replay with the number n and the record's words w'
  abbrev leaves : ℕ → List ℕ → LentReplay
  leaves n w' =
      lent_replay x.numbers x.after.room
      (lent n w' x.after.memory.counts.tables.stay x.after.memory.counts.tables.moved x.after.memory.counts.tables.totals)

  replay-words : {w' : List ℕ} → w' ≡ record_after_replay x.answer w x.after.memory → {n : ℕ} → n ≡ replayed_number x.answer
      → PromisedWords c w s m t calls room numbers (leaves n w')
  replay-words {w'} written {n} number =
      let p : Promised (config_of c) (site (record_of w) (tables s m t) room) calls numbers x =
      transport (λ j. Promised (decoded j) (site (record_is j) (tables s m t) room) calls numbers x) promised in
      let same : leaves n w' ≡ of_replay w x = (λ j. leaves (number j) (written j)) in
      record {
        run_is = same ∙ ap (of_replay w) p.run_is ∙ chosen _ k.is;
        history-is = λ _ own. same ∙ ap (of_replay w) (p.history-is own);
      }

  pub replay-ran : x.answer ≡ Ok tt → {w' : List ℕ} → w' ≡ record_words_of x.after.memory → PromisedWords c w s m t calls room numbers (leaves 0 w')
  replay-ran done written =
      replay-words (written ∙ sym (ap (λ (a : Result ⊤ BadEncoding). record_after_replay a w x.after.memory) done)) (sym (ap replayed_number done))

module _ (w s m : List ℕ) (t : List ℤ) where
  replay-kept : (room numbers : List ℕ) (b i : Bool) (ran : Replay) → ran.answer ≡ Ok tt
      → let x = cond b (of_replay w (cond i ran (replay (Err badly_coded) numbers (site (record_of w) (tables s m t) room))))
      (lent_replay numbers room (lent bad_encoding w s m t)) in (x.rest.answer ≡ 0 → ⊥) → x ≡ lent_replay numbers room (lent x.rest.answer w s m t)
  replay-kept room numbers false i ran d h = refl
  replay-kept room numbers true true ran d h = absurd (h (ap replayed_number d))
  replay-kept room numbers true false ran d h = refl

-- a replay that answers another number than 0 leaves all lent memory as it was
module _ (c w s m : List ℕ) (t : List ℤ) where
  pub replay-unchanged : (calls room numbers : List ℕ) → ((replay_words c w s m t calls room numbers).rest.answer ≡ 0 → ⊥)
      → replay_words c w s m t calls room numbers ≡ lent_replay numbers room (lent (replay_words c w s m t calls room numbers).rest.answer w s m t)
  replay-unchanged calls room numbers =
      let x = site (record_of w) (tables s m t) room in
      let d = config_of c in
      replay-kept w s m t room numbers (encoded c w) (well_coded (length room) (length numbers) calls)
      (replay_run d x calls (calls_from d calls 0 (length numbers) x)) refl

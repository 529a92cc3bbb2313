-- Save and restore: document 01, "The image".
use Rattle.std.specs.Prelude.{ℕ, Bool, not, List, ltb, eqb, length, Result, Ok, Err}
use Rattle.refusals.specs.Refusals.{refuse_if, first_of, Check}
use Rattle.refusals.specs.declared.Refusal.{Refusal}
use Rattle.config.specs.Configuration.{states, check_config}
use Rattle.config.specs.declared.MicroPriceConfig.{MicroPriceConfig}
use Rattle.tally.specs.Entries.{Tables}
use Rattle.tally.specs.Rules.{Memory}
use Rattle.count_check.specs.Mirrors.{check_mirrored}
use Rattle.calibrator.specs.Observe.{lent_wrong, check_memory, broken}
use Rattle.calibrator.specs.Record.{Previous, memory_with}
use Rattle.calibrator.specs.declared.Record.{Record}
use Rattle.image.specs.declared.Restored.{Restored}
use Rattle.image_layout.specs.Layout.{oldest, newest, header_length, image_length, image, form_in, config_in, previous_in, memory_in, laid_out}

-- ---- save

-- 1, 7 (tables, output), 8, 6, 9, 10, 11
abbrev pub save_refusal : MicroPriceConfig → Memory Previous → ℕ → Check
save_refusal c m long =
    first_of (check_memory c m)
    (first_of (refuse_if (not (eqb long (image_length newest c))) 7)
    (first_of (refuse_if (broken c m.last) 8) (check_mirrored c m.counts)))

-- an answer, and what the output then holds
pub record Saved : Type 0 where
  pub answer : Check
  pub output : List ℕ

abbrev pub end_save : Check → List ℕ → Saved
end_save k out = record { answer = k; output = out }

-- refused: the output unchanged; else the output is the image
abbrev pub saved_unless : Check → List ℕ → List ℕ → Saved
saved_unless (Ok _) before written = end_save (Ok tt) written
saved_unless (Err r) before written = end_save (Err r) before

abbrev pub saved : MicroPriceConfig → Memory Previous → List ℕ → Saved
saved c m out = saved_unless (save_refusal c m (length out)) out (image newest c m)

-- ---- restore

-- 12: under 160 bytes
abbrev pub too_short : List ℕ → Bool
too_short b = ltb (length b) (header_length oldest)

-- 7, 8, then 6, 9, 10, 11 on what an image of the form holds
abbrev pub held_refusal : ℕ → List ℕ → Tables → Check
held_refusal form b t =
    first_of (refuse_if (lent_wrong (states (config_in form b)) t) 7)
    (first_of (refuse_if (broken (config_in form b) (previous_in b)) 8) (check_mirrored (config_in form b) (memory_in form b).counts))

-- 12, 1, 12, then those
abbrev pub form_refusal : ℕ → List ℕ → Tables → Check
form_refusal form b t =
    first_of (refuse_if (too_short b) 12)
    (first_of (check_config (config_in form b)) (first_of (refuse_if (not (laid_out form b)) 12) (held_refusal form b t)))

-- by the form that the image has
abbrev pub restore_refusal : List ℕ → Tables → Check
restore_refusal b t = form_refusal (form_in b) b t

-- an answer and the memory that it leaves
pub record Taken : Type 0 where
  pub answer : Result MicroPriceConfig Refusal
  pub left : Memory Previous

abbrev pub end_restore : Result MicroPriceConfig Refusal → Memory Previous → Taken
end_restore a m = record { answer = a; left = m }

-- of the work by value: the configuration and the record of the image; or a refusal, and the record as it was given
abbrev pub restored_by : Record → Result Restored Refusal → Tables → Taken
restored_by before (Ok x) t = end_restore (Ok x.config) (memory_with x.rec t)
restored_by before (Err r) t = end_restore (Err r) (memory_with before t)

-- refused: record and tables unchanged; else it answers the configuration, and they hold what the image holds
abbrev pub taken_unless : Check → List ℕ → Memory Previous → Taken
taken_unless (Ok _) b m = end_restore (Ok (config_in (form_in b) b)) (memory_in (form_in b) b)
taken_unless (Err r) b m = end_restore (Err r) m

abbrev pub restored : List ℕ → Memory Previous → Taken
restored b m = taken_unless (restore_refusal b m.counts.tables) b m

-- The exported forms of document 01's "The image": what they answer and leave in the memory that they are lent.
-- Words that are not encoded, and of restore words of other lengths, are answered with bad_encoding and leave it as it is; else it is the operation's
-- own definition, in numbers and words.
use Rattle.std.specs.Prelude.{ℕ, cond, List, ℤ, Result, Ok, Err}
use Rattle.refusals.specs.Refusals.{number_of, check_number}
use Rattle.tally.specs.Rules.{Memory}
use Rattle.calibrator.specs.Record.{memory, Previous}
use Rattle.config.specs.declared.MicroPriceConfig.{MicroPriceConfig}
use Rattle.refusals.specs.declared.Refusal.{Refusal}
use Rattle.image.specs.Image.{Saved, saved, Taken, restored}
use Rattle.config.specs.Configuration.{config_words, config_of}
use Rattle.abi_encoding.specs.Encoding.{record_words_of, record_of, right_words, encoded, bad_encoding, Lent, lent, lent_as}

-- an answer, and the output
pub record LentOut : Type 0 where
  pub answer : ℕ
  pub output : List ℕ

abbrev pub lent_out : ℕ → List ℕ → LentOut
lent_out answer output = record { answer = answer; output = output }

abbrev pub of_saved : Saved → LentOut
of_saved s = lent_out (check_number s.answer) s.output

abbrev pub save_words : List ℕ → List ℕ → List ℕ → List ℕ → List ℤ → List ℕ → LentOut
save_words c w s m t out =
    cond (encoded c w) (of_saved (saved (config_of c) (memory (record_of w) s m t) out)) (lent_out bad_encoding out)

-- the configuration's words, and what else restore leaves
pub record LentBack : Type 0 where
  pub config : List ℕ
  pub rest : Lent

abbrev pub lent_back : List ℕ → Lent → LentBack
lent_back config rest = record { config = config; rest = rest }

abbrev pub restored_number : Result MicroPriceConfig Refusal → ℕ
restored_number (Ok d) = 0
restored_number (Err r) = number_of r

-- the configuration is written if it is answered
abbrev pub config_after : Result MicroPriceConfig Refusal → List ℕ → List ℕ
config_after (Ok d) c = config_words d
config_after (Err r) c = c

-- and the record
abbrev pub record_after : Result MicroPriceConfig Refusal → List ℕ → Memory Previous → List ℕ
record_after (Ok d) w m = record_words_of m
record_after (Err r) w m = w

-- what restore leaves of the configuration's words c and the record's words w
abbrev pub of_taken : List ℕ → List ℕ → Taken → LentBack
of_taken c w t =
    lent_back (config_after t.answer c) (lent_as (restored_number t.answer) (record_after t.answer w t.left) t.left)

-- configuration and record are overwritten: their words may be any
abbrev pub restore_words : List ℕ → List ℕ → List ℕ → List ℕ → List ℕ → List ℤ → LentBack
restore_words b c w s m t =
    cond (right_words c w) (of_taken c w (restored b (memory (record_of w) s m t))) (lent_back c (lent bad_encoding w s m t))

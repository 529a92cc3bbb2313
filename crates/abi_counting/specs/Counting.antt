-- The exported forms of document 01's "New, and one quote": what they answer and leave in the memory that they are lent.
-- Words that are not encoded, and of new words of other lengths, are answered with bad_encoding and leave it as it is; else it is the operation's own
-- definition, in numbers and words.
use Rattle.std.specs.Prelude.{ℕ, cond, List, ℤ}
use Rattle.refusals.specs.Refusals.{check_number}
use Rattle.config.specs.Configuration.{check_config, is_config, config_of}
use Rattle.quotes.specs.declared.TopOfBook.{TopOfBook}
use Rattle.calibrator.specs.Record.{memory, Outcome, Previous}
use Rattle.calibrator.specs.Observe.{made, observed}
use Rattle.abi_encoding.specs.Encoding.{record_of, right_words, encoded, bad_encoding, Lent, lent, lent_as, words_unless}

-- ---- the configuration

abbrev pub validate_words : List ℕ → ℕ
validate_words c = cond (is_config c) (check_number (check_config (config_of c))) bad_encoding

-- ---- new, and one quote

-- what an operation leaves of the record's words w
abbrev pub of_outcome : List ℕ → Outcome Previous → Lent
of_outcome w o = lent_as (check_number o.answer) (words_unless o.answer w o.left) o.left

-- the record is overwritten: its words may be any
abbrev pub new_words : List ℕ → List ℕ → List ℕ → List ℕ → List ℤ → Lent
new_words c w s m t =
    cond (right_words c w) (of_outcome w (made (config_of c) (memory (record_of w) s m t))) (lent bad_encoding w s m t)

abbrev pub observe_words : List ℕ → List ℕ → List ℕ → List ℕ → List ℤ → TopOfBook → Lent
observe_words c w s m t q =
    cond (encoded c w) (of_outcome w (observed (config_of c) (memory (record_of w) s m t) q)) (lent bad_encoding w s m t)

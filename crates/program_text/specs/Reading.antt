-- What a text asks, by the walk over its bytes (specs/Inner.antt): document 01, "Marked and run". `text-read` and `read-text` (proofs/Faithful.antt) say what
-- it is in terms of `text_of`.
use Rattle.std.specs.Prelude.{ℕ, ◌*◌, ◌-◌, ◌/◌, ◌%◌, ◌≡◌, Bool, cond, ◌&&◌, List, leb, eqb, length, get_or, drop, Option, None, Some}
use Rattle.std.proofs.lemmas.List.Edits.{sets}
use Rattle.program_text.specs.declared.Request.{Request}
use Rattle.program_text.specs.Inner.{numbers_ended, begin, fine}

-- line 1 and whole quotes, at most 1,000
abbrev pub whole_lines : ℕ → Bool
whole_lines m = leb 7 m && (eqb ((m - 7) % 5) 0 && leb ((m - 7) / 5) 1000)

abbrev pub few_states : ℕ → ℕ → Bool
few_states n s = leb (n * s) 27

abbrev pub request_of : List ℕ → Request
request_of ws =
    record {
      tick = get_or ws 0 0;
      buckets = get_or ws 1 0;
      spread_states = get_or ws 2 0;
      least = get_or ws 3 0;
      gap = get_or ws 4 0;
      start = get_or ws 5 0;
      end = get_or ws 6 0;
      quotes = (length ws - 7) / 5;
    }

-- what a text asks, with the words of its quotes; or it is bad input
pub data Reading : Type 0 where
  asked : Request → List ℕ → Reading
  bad_input : Reading

abbrev pub read_numbers : List ℕ → Reading
read_numbers ws =
    cond (whole_lines (length ws) && few_states (get_or ws 1 0) (get_or ws 2 0)) (asked (request_of ws) (drop 7 ws)) bad_input

unfoldable pub read_text : List ℕ → Reading
read_text b = cond (fine begin b) (read_numbers (numbers_ended begin b)) bad_input

-- ---- the answer, and what the lent recording then holds

abbrev pub read_answer : Reading → Option Request
read_answer (asked r ws) = Some r
read_answer bad_input = None

-- the words of the quotes from the front on, as far as there is room; bad input changes nothing
abbrev pub recording_by : Reading → List ℕ → List ℕ
recording_by (asked r ws) l = sets l 0 ws
recording_by bad_input l = l

pub record ReadBy (g : Reading) (before : List ℕ) (r : Option Request) (left : List ℕ) : Type 0 where
  pub answer : r ≡ read_answer g
  pub recording : left ≡ recording_by g before

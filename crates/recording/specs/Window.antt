-- The window: document 01, "The window".
use Rattle.std.specs.Prelude.{ℕ, ◌+◌, ◌*◌, ◌-◌, ◌≡◌, Bool, not, ◌&&◌, List, leb, ltb, take, drop, Result, Ok, Err}
use Rattle.std.specs.Borrow.{Bor}
use Rattle.basics.specs.Lists.{count, any}
use Rattle.refusals.specs.Refusals.{refuse_if, first_of, Check}
use Rattle.refusals.specs.declared.Refusal.{Refusal}
use Rattle.quotes.specs.declared.TopOfBook.{TopOfBook}
use Rattle.recording.specs.Recording.{quotes_of, uneven, sorted}
use Rattle.recording.specs.declared.Ends.{Ends}

-- inside if start ≤ time < end
abbrev pub inside : ℕ → ℕ → TopOfBook → Bool
inside start end q = leb start q.timestamp_ms && ltb q.timestamp_ms end

abbrev pub before : ℕ → TopOfBook → Bool
before t q = ltb q.timestamp_ms t

-- 15: exactly if end < start and some time is in end ≤ time < start
abbrev pub backward : ℕ → ℕ → List TopOfBook → Bool
backward start end qs = ltb end start && any (inside end start) qs

-- 7, 14, 15
abbrev pub check_window : List ℕ → ℕ → ℕ → Check
check_window w start end =
    first_of (refuse_if (uneven w) 7)
    (first_of (refuse_if (not (sorted (quotes_of w))) 14) (refuse_if (backward start end (quotes_of w)) 15))

-- the part begins after the quotes before start, and has as many quotes as are inside; they are those, by the law window-inside
abbrev pub ends_of : ℕ → ℕ → List TopOfBook → Ends
ends_of start end qs =
    record {
      first = count (before start) qs;
      past = count (before start) qs + count (inside start end) qs;
    }

abbrev pub window_unless : Check → Ends → Result Ends Refusal
window_unless (Ok _) e = Ok e
window_unless (Err r) e = Err r

abbrev pub window_of : List ℕ → ℕ → ℕ → Result Ends Refusal
window_of w start end = window_unless (check_window w start end) (ends_of start end (quotes_of w))

-- ---- the part itself

-- the ends of the part that is handed out: none for a refusal
abbrev pub part_ends : Result Ends Refusal → Ends
part_ends (Ok e) = e
part_ends (Err r) = record { first = 0; past = 0 }

-- the words of the quotes from a up to, not including, e
abbrev pub part_of : ℕ → ℕ → List ℕ → List ℕ
part_of a e w = take (5 * e - 5 * a) (drop (5 * a) w)

-- the part of a lent slice: in its block of memory, eight bytes a word from where it begins
pub record PartIn (e : Ends) (whole part : Bor (List ℕ)) : Type 0 where
  pub words : part.now ≡ part_of e.first e.past whole.now
  pub block : part.ref_ptr.0 ≡ whole.ref_ptr.0
  pub place : part.ref_ptr.1 ≡ whole.ref_ptr.1 + 8 * (5 * e.first)

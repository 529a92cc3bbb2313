-- The program's list meets every hypothesis of the list theorem, as a whole and in two parts, so its replay is what its history says.
use mathlib.Core.Path.{◌≡◌, refl, sym, subst}
use mathlib.Core.Bool.{Bool, true, not, ◌&&◌, ◌||◌}
use mathlib.Core.List.{List, [], ◌∷◌, ◌++◌}
use Prim.Native.Nat.{ℕ}
use lib.Dec.{T}
use lib.ListN.{replicate}
use Rattle.basics.proofs.Tests.{both}
use Rattle.config.specs.Configuration.{states, config_words}
use Rattle.std.specs.Prelude.{Some}
use Rattle.image_words.proofs.Words.{are_words, words-by}
use Rattle.image_layout.specs.Layout.{header, header_in, previous_words}
use Rattle.image.specs.Image.{restored}
use Rattle.calibrator.specs.Observe.{lent_wrong}
use Rattle.history.specs.Calls.{Call, quote, save, restore, ConfigWords, OwnImages, Proper, Past, new_past, history_act, returns, is_some, is_refused}
use Rattle.history_replay.specs.Replay.{calls_from, calls_made, replayed, OwnCalls}
use Rattle.cases_replay.specs.Journal.{setup, journal, start, first_part, later_part, between}

-- ---- the proviso as a test

abbrev is_proper : Past → Call → Bool
is_proper P (quote q) = are_words (previous_words (Some q))
is_proper P (save out) = true
is_proper P (restore b lent) =
    (not (lent_wrong (states setup) lent.counts.tables) && is_some (returns setup P b)) || is_refused (restored b lent).answer

proper-by : (P : Past) (k : Call) → is_proper P k ≡ true → Proper setup P k
proper-by P (quote q) e = words-by (previous_words (Some q)) e
proper-by P (save out) e = tt
proper-by P (restore b lent) e = subst T (sym e) tt

abbrev are_proper : Past → List Call → Bool
are_proper P [] = true
are_proper P (k ∷ ks) = is_proper P k && are_proper (history_act setup P k).past ks

own-by : (P : Past) (ks : List Call) → are_proper P ks ≡ true → OwnImages setup P ks
own-by P [] e = tt
own-by P (k ∷ ks) e =
    let p = both (is_proper P k) (are_proper (history_act setup P k).past ks) e in
    (proper-by P k p.0, own-by (history_act setup P k).past ks p.1)

-- ---- the list

setup-words : ConfigWords setup
setup-words = words-by (config_words setup) refl

pub own-calls : OwnCalls setup start journal (replicate {A = ℕ} 17 0)
unfolding header header_in
own-calls =
    record {
      valid-is = refl;
      words = setup-words;
      before = [];
      reached = refl;
      coded = refl;
      own = own-by (new_past setup) (calls_made (calls_from setup journal 0 17 start)) refl;
    }

-- ---- its second part, which restores the image that the first part saved

abbrev first_calls : List Call
first_calls = calls_made (calls_from setup first_part 0 3 start)

pub own-later-calls : OwnCalls setup between later_part (replicate {A = ℕ} 14 0)
unfolding header header_in
own-later-calls =
    record {
      valid-is = refl;
      words = setup-words;
      before = first_calls;
      reached = refl;
      coded = refl;
      own = own-by (new_past setup) (first_calls ++ calls_made (calls_from setup later_part 0 14 between)) refl;
    }

-- the numbers of both parts: one restore is left out, and is answered 101
pub numbers-are :
    (replayed setup start first_part (replicate {A = ℕ} 3 0)).numbers ++ (replayed setup between later_part (replicate {A = ℕ} 14 0)).numbers
    ≡ 0 ∷ 0 ∷ 0 ∷ 0 ∷ 5 ∷ 0 ∷ 0 ∷ 3 ∷ 7 ∷ 0 ∷ 1 ∷ 0 ∷ 0 ∷ 12 ∷ 0 ∷ 101 ∷ 0 ∷ []
unfolding header header_in
numbers-are = refl

-- Demand 3: the list claim with its consequences, for every valid configuration and every list in which only its own images are taken back; and what they are
-- where the history starts from zeros.
use Prim.Native.Nat.{ℕ, ◌+◌, ◌*◌, ◌-◌, ◌<◌, max}
use mathlib.Core.Path.{◌≡◌, refl, sym, ap, subst, ◌∙◌}
use mathlib.Core.Bool.{true, false}
use mathlib.Core.List.{List, [], ◌∷◌, ◌++◌, append_assoc}
use native.Mathlib.Nat.{zero-add}
use native.Mathlib.Omega.{arith}
use lib.IntN.{ℤ, pos, ◌+ℤ◌, +ℤ_idl}
use lib.ListN.{length, get_or, get_or-replicate}
use Rattle.basics.specs.Lists.{any, count, greatest, sum, tab, cell_at}
use Rattle.basics.proofs.Lists.{get_or-tab, get_or-square, flat-below, tab-ext, tab-get_or, sum-tab-add}
use Rattle.std.specs.Prelude.{Some, None, Ok, Err}
use Rattle.refusals.specs.Refusals.{Check}
use Rattle.config.specs.Configuration.{states, valid}
use Rattle.config.specs.Inner.{Valid}
use Rattle.config.specs.declared.MicroPriceConfig.{MicroPriceConfig}
use Rattle.config.proofs.Known.{valid-known}
use Rattle.quotes.specs.declared.TopOfBook.{TopOfBook}
use Rattle.tally.specs.Events.{Counts, stay_at, moved_at, total_at, is_pair, is_skip, size_of}
use Rattle.tally.specs.Rules.{Memory, step, carried}
use Rattle.tally.specs.Balance.{Sized, Balanced}
use Rattle.tally.proofs.Balance.{neighbours-counted}
use Rattle.calibrator.specs.Record.{answered, Previous}
use Rattle.calibrator.specs.Observe.{rule, fresh, observed, judge, refusal_by}
use Rattle.calibrator.proofs.Step.{rule-lawful}
use Rattle.image.specs.Image.{saved}
use Rattle.history.specs.Calls.{Call, save, restore, run, History, history_memory, Past, new_past, history_act, history_run, OwnImages, ConfigWords}
use Rattle.history.specs.Demand.{left, history_of, neighbours_in, flow, last_of, wrote, Demand3, Demand3New}
use Rattle.history.proofs.Holds.{save-image}
use Rattle.history.proofs.Claim.{list-claim, own-parts, part-claim, empty-is, refusal_is}
use Rattle.history.proofs.Returns.{history-run-append, returns-to-save}

answer-is : (k : Check) (m n : Memory Previous) → (answered k m n).answer ≡ k
answer-is (Ok _) m n = refl
answer-is (Err r) m n = refl

last-carried : (c : MicroPriceConfig) (q : TopOfBook) (qs : List TopOfBook) → carried (rule c) (Some q) qs ≡ last_of (q ∷ qs)
last-carried c q [] = refl
last-carried c q (r ∷ qs) = last-carried c r qs

last-of : (c : MicroPriceConfig) (qs : List TopOfBook) → carried (rule c) None qs ≡ last_of qs
last-of c [] = refl
last-of c (q ∷ qs) = last-carried c q qs

sum-on-top : (l : List ℕ) (n : ℕ) (f : ℕ → ℕ) → length l ≡ n → sum (tab n (λ k. get_or l k 0 + f k)) ≡ sum l + sum (tab n f)
sum-on-top l n f e = sum-tab-add n (λ k. get_or l k 0) f ∙ ap (λ (x : List ℕ). sum x + sum (tab n f)) (tab-get_or l n 0 e)

-- ---- a start of zeros adds nothing

module _ (c : MicroPriceConfig) (s : Counts) (new : s ≡ (fresh c).counts) where
  stay_none : (i j : ℕ) → i < states c → j < states c → cell_at (states c) s.tables.stay i j ≡ 0
  stay_none i j hi hj =
      ap (λ (x : Counts). cell_at (states c) x.tables.stay i j) new
      ∙ get_or-replicate (states c * states c) (i * states c + j) 0 0 (flat-below (states c) i j hj (states c) hi)

  moved_none : (i j : ℕ) → i < states c → j < states c → cell_at (states c) s.tables.moved i j ≡ 0
  moved_none i j hi hj =
      ap (λ (x : Counts). cell_at (states c) x.tables.moved i j) new
      ∙ get_or-replicate (states c * states c) (i * states c + j) 0 0 (flat-below (states c) i j hj (states c) hi)

  total-none : (i : ℕ) → i < states c → get_or s.tables.totals i (pos 0) ≡ pos 0
  total-none i hi = ap (λ (x : Counts). get_or x.tables.totals i (pos 0)) new ∙ get_or-replicate (states c) i (pos 0) (pos 0) hi

  skips-none : (f : ℕ → ℕ) → tab (rule c).kinds (λ k. get_or s.skips k 0 + f k) ≡ tab (rule c).kinds f
  skips-none f =
      tab-ext (rule c).kinds _ _
      (λ k h. ap (λ (n : ℕ). n + f k) (ap (λ (x : Counts). get_or x.skips k 0) new ∙ get_or-replicate (rule c).kinds k 0 0 h) ∙ zero-add (f k))

  largest-none : (n : ℕ) → max s.largest n ≡ n
  largest-none n = ap (λ (x : Counts). max x.largest n) new ∙ omega arith

  neighbours-none : s.pairs + sum s.skips ≡ 0
  neighbours-none = ap (λ (x : Counts). x.pairs + sum x.skips) new

-- ---- the theorems

module _ (c : MicroPriceConfig) (e : valid c ≡ true) (fits : ConfigWords c) where
  v : Valid c
  v = valid-known c e

  -- the memory of a history, in 01's own words
  module _ (H : History) where
    abbrev N : ℕ
    N = states c

    stay_of : (i j : ℕ) → i < N → j < N → cell_at N (history_memory c H).counts.tables.stay i j ≡ cell_at N H.start.tables.stay i j + stay_at (flow c H) i j
    stay_of i j hi hj = get_or-square N (λ x y. cell_at N H.start.tables.stay x y + stay_at (flow c H) x y) i j 0 hi hj

    moved-of : (i j : ℕ) → i < N → j < N
        → cell_at N (history_memory c H).counts.tables.moved i j ≡ cell_at N H.start.tables.moved i j + moved_at (flow c H) i j
    moved-of i j hi hj = get_or-square N (λ x y. cell_at N H.start.tables.moved x y + moved_at (flow c H) x y) i j 0 hi hj

    total_of : (i : ℕ) → i < N
        → get_or (history_memory c H).counts.tables.totals i (pos 0) ≡ get_or H.start.tables.totals i (pos 0) +ℤ total_at (flow c H) i
    total_of i hi = get_or-tab N (λ x. get_or H.start.tables.totals x (pos 0) +ℤ total_at (flow c H) x) i (pos 0) hi

    neighbours-of : Sized (rule c).kinds N H.start
        → (history_memory c H).counts.pairs + sum (history_memory c H).counts.skips ≡ H.start.pairs + sum H.start.skips + (length H.quotes - 1)
    neighbours-of sized =
        ap (λ (n : ℕ). (history_memory c H).counts.pairs + n)
        (sum-on-top H.start.skips (rule c).kinds (λ k. count (is_skip k) (neighbours_in c H)) sized.skip-kinds)
        ∙ omega (arith, neighbours-counted (rule c) (rule-lawful c v) None H.quotes refl)

  -- what the operations leave after a list
  left_after : (ks : List Call) → OwnImages c (new_past c) ks → left c ks ≡ history_memory c (history_of c ks)
  left_after ks o = ap (λ (x : Memory Previous). (run c x ks).left) (sym (empty-is c e fits)) ∙ (list-claim c e fits ks o).memories

  -- and what they answer to a list after another
  answers-after : (before ks : List Call) → OwnImages c (new_past c) (before ++ ks)
      → (run c (left c before) ks).answers ≡ (history_run c (history_run c (new_past c) before).past ks).answers
  answers-after before ks o =
      ap (λ (x : Memory Previous). (run c x ks).answers) (left_after before (own-parts c e fits before ks (new_past c) o).0)
      ∙ (part-claim c e fits before ks o).answers

  -- a list that ends in a save, other calls and a restore of what the save wrote
  module _ (before : List Call) (out : List ℕ) (js : List Call) (b : List ℕ) (lent : Memory Previous) where
    abbrev to-save : List Call
    to-save = before ++ (save out ∷ [])

    abbrev to-restore : List Call
    to-restore = before ++ (save out ∷ (js ++ (restore b lent ∷ [])))

    three-parts : (to-save ++ js) ++ (restore b lent ∷ []) ≡ to-restore
    three-parts = append_assoc to-save js (restore b lent ∷ []) ∙ append_assoc before (save out ∷ []) (js ++ (restore b lent ∷ []))

    -- what the operations answer in between is what the history says
    others-in-history : OwnImages c (new_past c) to-restore → any (wrote b) (run c (left c to-save) js).answers ≡ false
        → any (wrote b) (history_run c (history_act c (history_run c (new_past c) before).past (save out)).past js).answers ≡ false
    others-in-history o others =
        let own = (own-parts c e fits (to-save ++ js) (restore b lent ∷ []) (new_past c) (subst (OwnImages c (new_past c)) (sym three-parts) o)).0 in
        ap (λ (x : Past). any (wrote b) (history_run c x js).answers) (sym (history-run-append c before (save out ∷ []) (new_past c)))
        ∙ ap (any (wrote b)) (sym (answers-after to-save js own))
        ∙ others

  -- demand 3
  pub demand-3 : (ks : List Call) → OwnImages c (new_past c) ks → Demand3 c ks
  demand-3 ks o =
      let claim = list-claim c e fits ks o in
      let H = history_of c ks in
      let m : left c ks ≡ history_memory c H = left_after ks o in
      record {
        answers =
            ap (λ (x : Memory Previous). (run c x ks).answers) (sym (empty-is c e fits)) ∙ claim.answers;
        memory = m;
        last-is = ap (λ (x : Memory Previous). x.last) m ∙ last-of c H.quotes;
        stay-is = λ i j hi hj. ap (λ (x : Memory Previous). cell_at (states c) x.counts.tables.stay i j) m ∙ stay_of H i j hi hj;
        moved-is = λ i j hi hj. ap (λ (x : Memory Previous). cell_at (states c) x.counts.tables.moved i j) m ∙ moved-of H i j hi hj;
        total-is = λ i hi. ap (λ (x : Memory Previous). get_or x.counts.tables.totals i (pos 0)) m ∙ total_of H i hi;
        pairs-are = ap (λ (x : Memory Previous). x.counts.pairs) m;
        skips-are = ap (λ (x : Memory Previous). x.counts.skips) m;
        largest-is = ap (λ (x : Memory Previous). x.counts.largest) m;
        neighbours-are =
            ap (λ (x : Memory Previous). x.counts.pairs + sum x.counts.skips) m ∙ neighbours-of H claim.sound.start-sized;
        balanced =
            subst (λ (x : Memory Previous). Balanced (states c) (rule c).mirror x.counts) (sym m) claim.sound.holds.balanced;
        quote-refused =
            λ q.
            ap (λ (x : Memory Previous). (observed c x q).answer) m
            ∙ answer-is (refusal_by (rule c) (judge c) (history_memory c H) q) (history_memory c H) (step (rule c) (history_memory c H) q)
            ∙ refusal_is c e fits H claim.sound q;
        save-fine =
            λ out long.
            ap (λ (x : Memory Previous). saved c x out) m ∙ save-image c e (history_memory c H) claim.sound.holds out long;
        restore-returns =
            λ before out js b lent is long written others sizes.
            ap (history_of c) is
            ∙ ap (λ (x : Past). x.now) (history-run-append c before (save out ∷ (js ++ (restore b lent ∷ []))) (new_past c))
            ∙ returns-to-save c b (history_run c (new_past c) before).past out js lent long written
            (others-in-history before out js b lent (subst (OwnImages c (new_past c)) is o) others) sizes;
      }

  -- demand 3 of a list whose history starts from zeros
  pub demand-3-new : (ks : List Call) → OwnImages c (new_past c) ks → (history_of c ks).start ≡ (fresh c).counts → Demand3New c ks
  demand-3-new ks o new =
      let d = demand-3 ks o in
      let H = history_of c ks in
      let S : Counts = H.start in
      record {
        demand = d;
        start_is = new;
        stay-is =
            λ i j hi hj.
            d.stay-is i j hi hj ∙ ap (λ (n : ℕ). n + stay_at (flow c H) i j) (stay_none c S new i j hi hj) ∙ zero-add (stay_at (flow c H) i j);
        moved-is =
            λ i j hi hj.
            d.moved-is i j hi hj ∙ ap (λ (n : ℕ). n + moved_at (flow c H) i j) (moved_none c S new i j hi hj) ∙ zero-add (moved_at (flow c H) i j);
        total-is = λ i hi. d.total-is i hi ∙ ap (λ (z : ℤ). z +ℤ total_at (flow c H) i) (total-none c S new i hi) ∙ +ℤ_idl (total_at (flow c H) i);
        pairs-are =
            d.pairs-are ∙ ap (λ (x : Counts). x.pairs + count is_pair (neighbours_in c H)) new ∙ zero-add (count is_pair (neighbours_in c H));
        skips-are = d.skips-are ∙ skips-none c S new (λ k. count (is_skip k) (neighbours_in c H));
        largest-is = d.largest-is ∙ largest-none c S new (greatest size_of (neighbours_in c H));
        neighbours-are =
            d.neighbours-are ∙ ap (λ (n : ℕ). n + (length H.quotes - 1)) (neighbours-none c S new) ∙ zero-add (length H.quotes - 1);
      }

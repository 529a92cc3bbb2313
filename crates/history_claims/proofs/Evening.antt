-- Every evening's outcome, by the history of its window's quotes.
use Prim.Native.Nat.{ℕ, zero, suc, ◌+◌, ◌*◌, ◌/◌, ◌^◌, ◌<◌}
use mathlib.Core.Path.{◌≡◌, refl, sym, ap, subst, ◌∙◌}
use mathlib.Core.Bool.{Bool, true, false, not, cond}
use mathlib.Core.List.{List, [], ◌∷◌, ◌++◌, append-nil, append_assoc}
use mathlib.Core.Logic.{inl, inr}
use native.Mathlib.Omega.{arith}
use lib.ListN.{length, get_or}
use lib.Ieee.{Float}
use borrow.Author.Tests.{not-false}
use Rattle.basics.proofs.Tests.{zero-not-one}
use Rattle.basics.specs.Lists.{bit, tab}
use Rattle.image_words.specs.Words.{AllWords}
use Rattle.refusals.specs.Refusals.{number_of, refuse_if, first_of, Check}
use Rattle.std.specs.Prelude.{Some, Result, Ok, Err}
use Rattle.refusals.specs.declared.Refusal.{Refusal}
use Rattle.refusals.specs.declared.Refusal.TheVariants.{Configuration, OverDomain, CountLimit, SliceLength, RecordingUnsorted, WindowBackward}
use Rattle.refusals.proofs.Refusals.{if-fine, first_fine}
use Rattle.config.specs.Configuration.{states, valid, check_config}
use Rattle.config.specs.declared.MicroPriceConfig.{MicroPriceConfig}
use Rattle.quotes.specs.Quotes.{over_domain, bad_quote, off_tick, check_quote}
use Rattle.quotes.specs.declared.TopOfBook.{TopOfBook}
use Rattle.tally.specs.Limits.{over_limit}
use Rattle.tally.specs.Rules.{Memory}
use Rattle.calibrator.specs.Observe.{wrong_lengths, earlier, fresh, observed}
use Rattle.calibrator.specs.Record.{Previous}
use Rattle.recording.specs.Recording.{quote_at, quotes_of, uneven, sorted, filter}
use Rattle.recording.specs.Window.{inside, backward, check_window}
use Rattle.recording.specs.Observe.{is_invalid, is_stop, RecordedOutcome, recorded_as, recorded, unusable, usable}
use Rattle.recording.proofs.Recordings.{sorted_filter}
use Rattle.recording.proofs.Runs.{goes_on}
use Rattle.recording.proofs.Histories.{Ended, new-answers, new-left, new-invalid}
use Rattle.image_layout.specs.Layout.{previous_words}
use Rattle.history.specs.Calls.{quote, observes, run, History, gains, history_memory, history_refusal, Past, new_past, history_quote, history_act, history_run, OwnImages, ConfigWords}
use Rattle.history.specs.Demand.{left, history_of}
use Rattle.fit_rounds.specs.Rounds.{default_series_rounds, default_fallback_rounds}
use Rattle.fit.specs.Fit.{wrong_fit_lengths, fit_refusal_with, fit_counts}
use Rattle.fit.proofs.Models.{fit-numbers}
use Rattle.evening.specs.Evening.{end_evening, evening_refusal, counted_by, counted, evening_unless, calibrated}
use Rattle.history_claims.specs.Models.{Demand3Whole}
use Rattle.history_claims.specs.Evening.{window_quotes, calls_of, accepted_of, one_of, FittedEvening, StoppedAt, RefusedEvening, EveningHistory}
use Rattle.history_claims.proofs.Claims.{model-fitted, demand-3-whole}

-- ---- a recording's words

-- each quote's words are words
abbrev AllQuotes : List TopOfBook → Type 0
AllQuotes [] = Unit {0}
AllQuotes (q ∷ qs) = AllWords (previous_words (Some q)) × AllQuotes qs

word_fits : (w : List ℕ) → AllWords w → (i : ℕ) → get_or w i 0 < 2 ^ 64
word_fits [] a i = omega arith
word_fits (x ∷ w) a zero = a.0
word_fits (x ∷ w) a (suc i) = word_fits w a.1 i

tab-fits : (n : ℕ) (f : ℕ → TopOfBook) → ((i : ℕ) → AllWords (previous_words (Some (f i)))) → AllQuotes (tab n f)
tab-fits zero f h = tt
tab-fits (suc n) f h = (h zero, tab-fits n (λ k. f (suc k)) (λ i. h (suc i)))

quotes-fit : (w : List ℕ) → AllWords w → AllQuotes (quotes_of w)
quotes-fit w a =
    let word = word_fits w a in
    tab-fits (length w / 5) (quote_at w)
    (λ i. (omega arith, (word (5 * i), (word (5 * i + 1), (word (5 * i + 2), (word (5 * i + 3), (word (5 * i + 4), tt)))))))

filter-fits : (p : TopOfBook → Bool) (qs : List TopOfBook) → AllQuotes qs → AllQuotes (filter p qs)
filter-fits p [] a = tt
filter-fits p (q ∷ qs) a = go (p q) (filter-fits p qs a.1)
  where
    go : (b : Bool) → AllQuotes (filter p qs) → AllQuotes (cond b (q ∷ filter p qs) (filter p qs))
    go true r = (a.0, r)
    go false r = r

first-fit : (ps qs : List TopOfBook) → AllQuotes (ps ++ qs) → AllQuotes ps
first-fit [] qs a = tt
first-fit (p ∷ ps) qs a = (a.0, first-fit ps qs a.1)

-- a list of quotes has no images to take back
own : (c : MicroPriceConfig) (qs : List TopOfBook) (P : Past) → AllQuotes qs → OwnImages c P (calls_of qs)
own c [] P a = tt
own c (q ∷ qs) P a = (a.0, own c qs (history_act c P (quote q)).past a.1)

-- ---- quotes counted and the history's

-- 5 and 6, after another check, are not invalid quotes
own-check : (k : Check) (a b : Bool) → is_invalid (first_of (first_of k (refuse_if a 5)) (refuse_if b 6)) ≡ is_invalid k
own-check (Err r) a b = refl
own-check (Ok _) true b = refl
own-check (Ok _) false true = refl
own-check (Ok _) false false = refl

act-answer : (k : Check) (P : Past) (H : History) → (history_quote k P H).answer ≡ observes k
act-answer (Ok _) P H = refl
act-answer (Err r) P H = refl

same_first : {A : Type 0} (x y : A) (xs ys : List A) → x ∷ xs ≡ y ∷ ys → (x ≡ y) × (xs ≡ ys)
same_first x y xs ys e = (cc, cc)

same_check : (a b : Check) → observes a ≡ observes b → a ≡ b
same_check a b e = cc

-- a history with more quotes
abbrev joined : History → List TopOfBook → History
joined H qs = record { start = H.start; quotes = H.quotes ++ qs }

module _ (c : MicroPriceConfig) where
  -- a quote after which the count goes on
  module _ (q : TopOfBook) (qs : List TopOfBook) (k : ℕ) (m : Memory Previous) (fine : (recorded c (q ∷ qs) k m).answer ≡ Ok tt) where
    abbrev a : Check
    a = (observed c m q).answer

    not_stopped : is_stop a ≡ false
    not_stopped = go (is_stop a) refl fine
      where
        go : (b : Bool) → is_stop a ≡ b
            → (cond b (recorded_as a k (observed c m q).left) (recorded c qs (k + bit (is_invalid a)) (observed c m q).left)).answer ≡ Ok tt → b ≡ false
        go false s f = refl
        go true s f = sym s ∙ ap is_stop f

    rest-fine : (recorded c qs (k + bit (is_invalid a)) (observed c m q).left).answer ≡ Ok tt
    rest-fine = sym (ap (λ r. r.answer) (goes_on (observed c) q qs k m (observed c m q) refl not_stopped)) ∙ fine

  -- a history gains a quote exactly if 3 and 4 do not refuse it, where nothing else does
  gained : (P : Past) (q : TopOfBook) (ps : List TopOfBook) (k : Check) → is_stop k ≡ false → is_invalid k ≡ unusable c q
      → joined (history_quote k P (gains P.now q)).past.now ps ≡ joined P.now (cond (usable c q) (q ∷ ps) ps)
  gained P q ps (Ok _) s i = rw (← i) (ap (λ l. record { start = P.now.start; quotes = l }) (append_assoc P.now.quotes (q ∷ []) ps))
  gained P q ps (Err r) s i = let u : unusable c q ≡ true = sym i ∙ not-false (is_invalid (Err r)) s in rw u

  -- where nothing stops the count and the history answers as the operations do, it gains those
  history-run-quotes : (qs : List TopOfBook) (P : Past) (k : ℕ) (m : Memory Previous) → (recorded c qs k m).answer ≡ Ok tt
      → (run c m (calls_of qs)).answers ≡ (history_run c P (calls_of qs)).answers
      → (history_run c P (calls_of qs)).past.now ≡ joined P.now (filter (usable c) qs)
  history-run-quotes [] P k m fine e = ap (λ l. record { start = P.now.start; quotes = l }) (sym (append-nil P.now.quotes))
  history-run-quotes (q ∷ qs) P k m fine e =
      let K : Check = history_refusal c P.now q in
      let s = same_first (observes (observed c m q).answer) (history_quote K P (gains P.now q)).answer (run c (observed c m q).left (calls_of qs)).answers
      (history_run c (history_act c P (quote q)).past (calls_of qs)).answers e in
      let same : (observed c m q).answer ≡ K = same_check (observed c m q).answer K (s.0 ∙ act-answer K P (gains P.now q)) in
      history-run-quotes qs (history_act c P (quote q)).past (k + bit (is_invalid (observed c m q).answer)) (observed c m q).left (rest-fine q qs k m fine)
      s.1
      ∙ gained P q (filter (usable c) qs) K (ap is_stop (sym same) ∙ not_stopped q qs k m fine)
      (own-check (check_quote c q) (earlier (history_memory c P.now).last q) (over_limit (history_memory c (gains P.now q)).counts))

  -- the quote that stops a count, with those before it counted
  record Stop (qs : List TopOfBook) (k : ℕ) (m : Memory Previous) (r : Refusal) : Type 0 where
    ps : List TopOfBook
    q : TopOfBook
    rest : List TopOfBook
    split : qs ≡ ps ++ q ∷ rest
    before : (recorded c ps k m).answer ≡ Ok tt
    refused : (observed c (run c m (calls_of ps)).left q).answer ≡ Err r

  stop : (qs : List TopOfBook) (k : ℕ) (m : Memory Previous) (r : Refusal) → (recorded c qs k m).answer ≡ Err r → Stop qs k m r
  stop [] k m r e = absurd (zero-not-one cc)
  stop (q ∷ qs) k m r e = go (stop qs (k + bit (is_invalid a)) (observed c m q).left r) (is_stop a) refl e
    where
      a : Check
      a = (observed c m q).answer

      go : ((recorded c qs (k + bit (is_invalid a)) (observed c m q).left).answer ≡ Err r → Stop qs (k + bit (is_invalid a)) (observed c m q).left r)
          → (b : Bool) → is_stop a ≡ b
          → (cond b (recorded_as a k (observed c m q).left) (recorded c qs (k + bit (is_invalid a)) (observed c m q).left)).answer ≡ Err r
          → Stop (q ∷ qs) k m r
      go later true s f = record { ps = []; q = q; rest = qs; split = refl; before = refl; refused = f }
      go later false s f =
          let d = later f in
          record {
            ps = q ∷ d.ps;
            q = d.q;
            rest = d.rest;
            split = ap (λ l. q ∷ l) d.split;
            before =
                ap (λ r. r.answer) (goes_on (observed c) q d.ps k m (observed c m q) refl s) ∙ d.before;
            refused = d.refused;
          }

-- what holds of a check's refusal
abbrev Each : (Refusal → Type 0) → Check → Type 0
Each P (Ok _) = Unit {0}
Each P (Err r) = P r

-- 6 is answered only past a limit
limit : (k : Check) (b : Bool) (r : Refusal) → Each (λ x. number_of x ≡ 6 → ⊥) k → first_of k (refuse_if b 6) ≡ Err r → number_of r ≡ 6 → b ≡ true
limit k true r n e six = refl
limit (Ok _) false r n e six = absurd (zero-not-one cc)
limit (Err x) false r n e six = absurd (n (cc))

none-six : (c : MicroPriceConfig) (q : TopOfBook) (b : Bool) → Each (λ x. number_of x ≡ 6 → ⊥) (first_of (check_quote c q) (refuse_if b 5))
none-six c q b = go (over_domain q) (bad_quote q) (off_tick c q) b
  where
    go : (a b d e : Bool) → Each (λ x. number_of x ≡ 6 → ⊥) (first_of (first_of (refuse_if a 2) (first_of (refuse_if b 3) (refuse_if d 4))) (refuse_if e 5))
    go true b d e = λ n. omega arith
    go false true d e = λ n. omega arith
    go false false true e = λ n. omega arith
    go false false false true = λ n. omega arith
    go false false false false = tt

-- ---- an evening

module _ {A E : Type 0} where
  same-ok : {a b : A} → ◌≡◌ {A = Result A E} (Ok a) (Ok b) → a ≡ b
  same-ok e = cc

  same-err : {a b : E} → ◌≡◌ {A = Result A E} (Err a) (Err b) → a ≡ b
  same-err e = cc

module _ (c : MicroPriceConfig) (fits : ConfigWords c) (e : valid c ≡ true) where
  demand : (qs : List TopOfBook) → AllQuotes qs → Demand3Whole c (calls_of qs)
  demand qs words = demand-3-whole c e fits (calls_of qs) (own c qs (new_past c) words)

  -- quotes that nothing stops
  history-is : (qs : List TopOfBook) → AllQuotes qs → (recorded c qs 0 (fresh c)).answer ≡ Ok tt → history_of c (calls_of qs) ≡ accepted_of c qs
  history-is qs words fine = history-run-quotes c qs (new_past c) 0 (fresh c) fine (demand qs words).history.answers

  -- a quote that stops them
  stopped-at : (qs : List TopOfBook) → AllQuotes qs → (r : Refusal) → (recorded c qs 0 (fresh c)).answer ≡ Err r → StoppedAt c qs r
  stopped-at qs words r f =
      let s = stop c qs 0 (fresh c) r f in
      let H : History = accepted_of c s.ps in
      let late : Bool = earlier (history_memory c H).last s.q in
      let first : AllQuotes s.ps = first-fit s.ps (s.q ∷ s.rest) (subst AllQuotes s.split words) in
      let is : history_of c (calls_of s.ps) ≡ H = history-is s.ps first s.before in
      let refused : history_refusal c H s.q ≡ Err r =
      sym ((demand s.ps first).history.quote-refused s.q ∙ ap (λ (h : History). history_refusal c h s.q) is) ∙ s.refused in
      record {
        earlier = s.ps;
        here = s.q;
        later = s.rest;
        quotes-are = s.split;
        history-is = is;
        refused = refused;
        limit-passed =
            limit (first_of (check_quote c s.q) (refuse_if late 5)) (over_limit (history_memory c (gains H s.q)).counts) r (none-six c s.q late) refused;
      }

  -- quotes counted and fitted
  module _ (qs : List TopOfBook) (words : AllQuotes qs) (ordered : sorted qs ≡ true) (t : List ℕ) (l : List Float)
      (enough : wrong_fit_lengths (states c) (length l) (length t) ≡ false) where
    abbrev R : RecordedOutcome Previous
    R = recorded c qs 0 (fresh c)

    fitted-evening : R.answer ≡ Ok tt
        → FittedEvening c qs t l (counted_by c (Ok tt) R.invalid R.left t l)
        (record { answer = (fit_counts c R.left t l).answer; invalid = R.invalid })
    fitted-evening fine =
        let D : Demand3Whole c (calls_of qs) = demand qs words in
        let H : history_of c (calls_of qs) ≡ accepted_of c qs = history-is qs words fine in
        let M : R.left ≡ history_memory c (history_of c (calls_of qs)) = new-left c e qs ordered fine ∙ ap (history_memory c) (sym H) in
        let L : R.left ≡ left c (calls_of qs) = M ∙ sym D.history.memory in
        let F : fit_refusal_with default_series_rounds default_fallback_rounds c R.left (length l) (length t) ≡ Ok tt =
        ap (λ (x : Memory Previous). fit_refusal_with default_series_rounds default_fallback_rounds c x (length l) (length t)) L
        ∙ D.fit_refused default_series_rounds default_fallback_rounds (length l) (length t)
        ∙ ap (λ (b : Bool). refuse_if b 7) enough in
        record {
          history-is = H;
          memory-is = M;
          left_is = L;
          demand = D;
          invalid-are = new-invalid c e qs ordered fine;
          fit_is = ap (λ (x : Memory Previous). fit_counts c x t l) M;
          fit-numbers = λ r a. fit-numbers default_series_rounds default_fallback_rounds c R.left t l r F a;
          model = λ a. model-fitted default_series_rounds default_fallback_rounds c R.left t l a;
        }

    module _ (m : Memory Previous) where
      stopped-evening : (x : Refusal) → one_of (7 ∷ 14 ∷ 15 ∷ 1 ∷ []) x ≡ false → one_of (7 ∷ 14 ∷ 15 ∷ 1 ∷ 2 ∷ 6 ∷ []) x ≡ true → (r : Refusal)
          → R.answer ≡ Err r → R.answer ≡ Err x → RefusedEvening c m qs t l (end_evening (Err r) (fresh c) t l) r
      stopped-evening x n a r f g =
          let same : x ≡ r = cc in
          subst (λ (y : Refusal). RefusedEvening c m qs t l (end_evening (Err y) (fresh c) t l) y) same
          (record {
            number = a;
            unchanged = λ u. absurd (zero-not-one cc);
            stopped = λ u. (refl, stopped-at qs words x g);
          })

      -- only 2 and 6 stop it
      count-history : (k : Check) → R.answer ≡ k → EveningHistory c m qs t l (counted_by c k R.invalid R.left t l)
      count-history (Ok _) f =
          record {
            fitted = λ d g. subst (FittedEvening c qs t l (counted_by c (Ok tt) R.invalid R.left t l)) (same-ok g) (fitted-evening f);
            refused = λ r g. absurd (zero-not-one cc);
          }
      count-history (Err x) f =
          record {
            fitted = λ d g. absurd (zero-not-one cc);
            refused = λ r g. subst (RefusedEvening c m qs t l (end_evening (Err x) (fresh c) t l)) (same-err g) (go (new-answers c e qs ordered));
          }
        where
          go : Ended R.answer → RefusedEvening c m qs t l (end_evening (Err x) (fresh c) t l) x
          go (inl g) = absurd (zero-not-one cc)
          go (inr (inl g)) = stopped-evening OverDomain refl refl x f g
          go (inr (inr g)) = stopped-evening CountLimit refl refl x f g

module _ (c : MicroPriceConfig) (fits : ConfigWords c) (m : Memory Previous) (w : List ℕ) (words : AllWords w) (start end : ℕ) (t : List ℕ)
    (l : List Float) where
  abbrev qs : List TopOfBook
  qs = window_quotes w start end

  abbrev out_of_order : Bool
  out_of_order = not (sorted (quotes_of w))

  abbrev window : Check
  window = check_window w start end

  abbrev wrong_tables : Bool
  wrong_tables =
      wrong_lengths (states c) (length m.counts.tables.stay) (length m.counts.tables.moved) (length m.counts.tables.totals)

  abbrev enough : Check
  enough = first_of (check_config c) (refuse_if wrong_tables 7)

  abbrev wrong_slices : Bool
  wrong_slices = wrong_fit_lengths (states c) (length l) (length t)

  -- 7, 14, 15, 1: unchanged
  unchanged-evening : (x : Refusal) → one_of (2 ∷ 6 ∷ []) x ≡ false → one_of (7 ∷ 14 ∷ 15 ∷ 1 ∷ 2 ∷ 6 ∷ []) x ≡ true
      → RefusedEvening c m qs t l (end_evening (Err x) m t l) x
  unchanged-evening x n a =
      record {
        number = a;
        unchanged = λ u. refl;
        stopped = λ u. absurd (zero-not-one cc);
      }

  refused-first : Each (λ r. RefusedEvening c m qs t l (end_evening (Err r) m t l) r) (evening_refusal c m w start end (length l) (length t))
  refused-first = go (uneven w) out_of_order (backward start end (quotes_of w)) (not (valid c)) wrong_tables wrong_slices
    where
      go : (a b d e f g : Bool)
          → Each (λ r. RefusedEvening c m qs t l (end_evening (Err r) m t l) r)
          (first_of (first_of (refuse_if a 7) (first_of (refuse_if b 14) (refuse_if d 15)))
          (first_of (first_of (refuse_if e 1) (refuse_if f 7)) (refuse_if g 7)))
      go true b d e f g = unchanged-evening SliceLength refl refl
      go false true d e f g = unchanged-evening RecordingUnsorted refl refl
      go false false true e f g = unchanged-evening WindowBackward refl refl
      go false false false true f g = unchanged-evening Configuration refl refl
      go false false false false true g = unchanged-evening SliceLength refl refl
      go false false false false false true = unchanged-evening SliceLength refl refl
      go false false false false false false = tt

  evening-from : (k : Check) → evening_refusal c m w start end (length l) (length t) ≡ k
      → EveningHistory c m qs t l (evening_unless k m t l (counted c (recorded c qs 0 (fresh c)) t l))
  evening-from (Ok _) f =
      let a = first_fine window (first_of enough (refuse_if wrong_slices 7)) f in
      let b = first_fine enough (refuse_if wrong_slices 7) a.1 in
      let times = (first_fine (refuse_if (uneven w) 7) (first_of (refuse_if out_of_order 14) (refuse_if (backward start end (quotes_of w)) 15)) a.0).1 in
      let ordered : sorted (quotes_of w) ≡ true =
      not-false _ (if-fine out_of_order 14 refl (first_fine (refuse_if out_of_order 14) (refuse_if (backward start end (quotes_of w)) 15) times).0) in
      let right : valid c ≡ true = not-false _ (if-fine (not (valid c)) 1 refl (first_fine (check_config c) (refuse_if wrong_tables 7) b.0).0) in
      count-history c fits right qs (filter-fits (inside start end) (quotes_of w) (quotes-fit w words))
      (sorted_filter (inside start end) 0 (quotes_of w) ordered) t l (if-fine wrong_slices 7 refl b.1) m (recorded c qs 0 (fresh c)).answer refl
  evening-from (Err x) f =
      record {
        fitted = λ d g. absurd (zero-not-one cc);
        refused =
            λ r g. subst (RefusedEvening c m qs t l (end_evening (Err x) m t l)) (same-err g)
            (subst (Each (λ y. RefusedEvening c m qs t l (end_evening (Err y) m t l) y)) f refused-first);
      }

  -- every evening
  pub evening-history : EveningHistory c m qs t l (calibrated c m w start end t l)
  evening-history = evening-from (evening_refusal c m w start end (length l) (length t)) refl

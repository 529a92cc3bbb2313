-- Quotes in order of time, counted into a new calibrator: what they come to is the memory of the history of those that 3 and 4 do not refuse.
use Prim.Native.Nat.{ℕ, ◌+◌, ◌≤◌}
use mathlib.Core.Path.{◌≡◌, refl, sym, ap, subst, ◌∙◌}
use mathlib.Core.Bool.{Bool, true, false, not, cond}
use mathlib.Core.List.{List, [], ◌∷◌, ◌++◌, append-nil, append_assoc}
use mathlib.Core.Logic.{◌⊎◌, inl, inr}
use native.Mathlib.Nat.{add-zero, zero-add}
use native.Mathlib.Omega.{arith}
use borrow.Author.Tests.{eq-eqb, le-ltb}
use Rattle.basics.proofs.Tests.{zero-not-one}
use Rattle.basics.specs.Lists.{bit, count}
use Rattle.refusals.specs.Refusals.{refusal, refuse_if, first_of, Check}
use Rattle.std.specs.Prelude.{None, Ok, Err}
use Rattle.refusals.specs.declared.Refusal.{Refusal}
use Rattle.refusals.specs.declared.Refusal.TheVariants.{OverDomain, BadQuote, OffTick, CountLimit}
use Rattle.config.specs.Configuration.{states, valid}
use Rattle.config.specs.Inner.{Valid}
use Rattle.config.specs.declared.MicroPriceConfig.{MicroPriceConfig}
use Rattle.config.proofs.Known.{valid-known}
use Rattle.quotes.specs.Quotes.{over_domain, bad_quote, off_tick, check_quote}
use Rattle.quotes.specs.declared.TopOfBook.{TopOfBook}
use Rattle.tally.specs.Balance.{Sized}
use Rattle.tally.specs.Events.{zeros}
use Rattle.tally.specs.Limits.{over_limit, touched}
use Rattle.tally.specs.Rules.{Memory, step, events, memory_of}
use Rattle.tally.proofs.Balance.{after_none, after-sized, zeros-sized}
use Rattle.tally.proofs.Overs.{zeros_within, over-touched}
use Rattle.tally.proofs.Step.{carried-snoc, step-memory}
use Rattle.calibrator.specs.Record.{kinds, Outcome, answered, Previous}
use Rattle.calibrator.specs.Observe.{rule, check_memory, broken, earlier, judge, refusal_by, observed, fresh}
use Rattle.calibrator.proofs.Step.{rule-lawful}
use Rattle.recording.specs.Recording.{sorted_from, sorted, filter}
use Rattle.recording.specs.Observe.{is_invalid, is_stop, RecordedOutcome, recorded_as, recorded, unusable, usable}
use Rattle.recording.proofs.Recordings.{sorted-known}
use Rattle.recording.proofs.Runs.{goes_on, stops_at}

-- ---- a quote by itself

-- 2, 3 or 4, or nothing refused
data Judged (k : Check) : Type 0 where
  fine : k ≡ Ok tt → Judged k
  stopped : k ≡ refusal 2 → Judged k
  invalid : (r : Refusal) → k ≡ Err r → is_invalid (Err r) ≡ true → is_stop (Err r) ≡ false → Judged k

judged : (c : MicroPriceConfig) (q : TopOfBook) → Judged (check_quote c q)
judged c q = go (over_domain q) (bad_quote q) (off_tick c q)
  where
    go : (a b d : Bool) → Judged (first_of (refuse_if a 2) (first_of (refuse_if b 3) (refuse_if d 4)))
    go true b d = stopped refl
    go false true d = invalid BadQuote refl refl refl
    go false false true = invalid OffTick refl refl refl
    go false false false = fine refl

-- nothing refused, 2 or 6
abbrev pub Ended : Check → Type 0
Ended k = (k ≡ Ok tt) ⊎ ((k ≡ refusal 2) ⊎ (k ≡ refusal 6))

past-fine : (a b : Check) → first_of (first_of a (Ok tt)) b ≡ first_of a b
past-fine (Ok _) b = refl
past-fine (Err r) b = refl

-- the memory of a history of a new calibrator
abbrev held : MicroPriceConfig → List TopOfBook → Memory Previous
held c H = memory_of (rule c) None (zeros kinds (states c)) H

module _ (c : MicroPriceConfig) (e : valid c ≡ true) where
  v : Valid c
  v = valid-known c e

  sized : (H : List TopOfBook) → Sized kinds (states c) (held c H).counts
  sized H = after-sized kinds (states c) (rule c).mirror (zeros kinds (states c)) (events (rule c) None H)

  enough : (H : List TopOfBook) → check_memory c (held c H) ≡ Ok tt
  enough H =
      let s = sized H in
      rw (e, eq-eqb _ _ s.stay-cells, eq-eqb _ _ s.moved-cells, eq-eqb _ _ s.totals-cells)

  -- its last quote sound and at most t, its counts within their limits
  record Ready (t : ℕ) (H : List TopOfBook) : Type 0 where
    sound : broken c (held c H).last ≡ false
    late : (q : TopOfBook) → t ≤ q.timestamp_ms → earlier (held c H).last q ≡ false
    within : over_limit (held c H).counts ≡ false

  -- the history with a quote passes a limit
  abbrev passes : List TopOfBook → TopOfBook → Bool
  passes H q = over_limit (held c (H ++ q ∷ [])).counts

  one_more : (H : List TopOfBook) (q : TopOfBook) → step (rule c) (held c H) q ≡ held c (H ++ q ∷ [])
  one_more H q = step-memory (rule c) (rule-lawful c v) None (zeros kinds (states c)) H q

  module _ (t : ℕ) (H : List TopOfBook) (h : Ready t H) (q : TopOfBook) where
    -- 6 is of the history with the quote
    six : touched (states c) (rule c).mirror ((rule c).event (held c H).last q) (step (rule c) (held c H) q).counts ≡ passes H q
    six =
        sym (over-touched kinds (states c) (rule c).mirror (rule-lawful c v).mirror-below (held c H).counts (sized H) h.within
        ((rule c).event (held c H).last q) ((rule-lawful c v).event-in (held c H).last q))
        ∙ ap (λ (m : Memory Previous). over_limit m.counts) (one_more H q)

    -- such a quote is refused by 2, 3, 4 or 6
    refusal_is : t ≤ q.timestamp_ms → refusal_by (rule c) (judge c) (held c H) q ≡ first_of (check_quote c q) (refuse_if (passes H q) 6)
    refusal_is l = rw (enough H, h.sound, h.late q l, six) (past-fine (check_quote c q) _)

    next-ready : check_quote c q ≡ Ok tt → passes H q ≡ false → Ready q.timestamp_ms (H ++ q ∷ [])
    next-ready f w =
        let last = carried-snoc (rule c) None H q in
        record {
          sound = rw (last, f);
          late = λ p l. rw last (le-ltb p.timestamp_ms q.timestamp_ms l);
          within = w;
        }

    later : t ≤ q.timestamp_ms → Ready q.timestamp_ms H
    later l = record { sound = h.sound; late = λ p u. h.late p (omega arith); within = h.within }

  -- ---- many quotes

  -- what counting quotes after a history comes to, with k invalid ones before
  record Counted (H qs : List TopOfBook) (k : ℕ) (r : RecordedOutcome Previous) : Type 0 where
    answer-is : Ended r.answer
    left_is : r.answer ≡ Ok tt → r.left ≡ held c (H ++ filter (usable c) qs)
    invalid-is : r.answer ≡ Ok tt → r.invalid ≡ k + count (unusable c) qs
    within : over_limit r.left.counts ≡ false

  -- a stop leaves the memory of the history
  stopped-counted : (t : ℕ) (H qs : List TopOfBook) (k : ℕ) (x : Refusal) → Ready t H → (Err x ≡ refusal 2) ⊎ (Err x ≡ refusal 6)
      → Counted H qs k (recorded_as (Err x) k (held c H))
  stopped-counted t H qs k x h d =
      record {
        answer-is = inr d;
        left_is = λ u. absurd (zero-not-one cc);
        invalid-is = λ u. absurd (zero-not-one cc);
        within = h.within;
      }

  module _ (H qs : List TopOfBook) (q : TopOfBook) (k : ℕ) (r : RecordedOutcome Previous) where
    fine_more : check_quote c q ≡ Ok tt → Counted (H ++ q ∷ []) qs (k + 0) r → Counted H (q ∷ qs) k r
    fine_more f d =
        record {
          answer-is = d.answer-is;
          left_is =
              λ u.
              d.left_is u
              ∙ ap (held c) (append_assoc H (q ∷ []) (filter (usable c) qs))
              ∙ sym (ap (λ (a : Check). held c (H ++ cond (not (is_invalid a)) (q ∷ filter (usable c) qs) (filter (usable c) qs))) f);
          invalid-is = λ u. d.invalid-is u ∙ rw f (omega arith);
          within = d.within;
        }

    invalid-more : unusable c q ≡ true → Counted H qs (k + 1) r → Counted H (q ∷ qs) k r
    invalid-more i d =
        record {
          answer-is = d.answer-is;
          left_is = λ u. d.left_is u ∙ rw i;
          invalid-is = λ u. d.invalid-is u ∙ rw i (omega arith);
          within = d.within;
        }

  -- one quote: it stops, or is passed over, or joins the history
  module _ (t : ℕ) (H qs : List TopOfBook) (q : TopOfBook) (k : ℕ) (h : Ready t H) (l : t ≤ q.timestamp_ms) where
    abbrev outcome : Check → Outcome Previous
    outcome a = answered a (held c H) (step (rule c) (held c H) q)

    -- where the refusal is known
    is-observed : (a : Check) → first_of (check_quote c q) (refuse_if (passes H q) 6) ≡ a → outcome a ≡ observed c (held c H) q
    is-observed a d = sym (ap outcome (refusal_is t H h q l ∙ d))

    counted_stop : (x : Refusal) → is_stop (Err x) ≡ true → first_of (check_quote c q) (refuse_if (passes H q) 6) ≡ Err x
        → (Err x ≡ refusal 2) ⊎ (Err x ≡ refusal 6) → Counted H (q ∷ qs) k (recorded c (q ∷ qs) k (held c H))
    counted_stop x s d u =
        subst (Counted H (q ∷ qs) k)
        (sym (stops_at (observed c) q qs k (held c H) (outcome (Err x)) (is-observed (Err x) d) s))
        (stopped-counted t H (q ∷ qs) k x h u)

    counted-fine : check_quote c q ≡ Ok tt → passes H q ≡ false → Counted (H ++ q ∷ []) qs (k + 0) (recorded c qs (k + 0) (held c (H ++ q ∷ [])))
        → Counted H (q ∷ qs) k (recorded c (q ∷ qs) k (held c H))
    counted-fine f w d =
        fine_more H qs q k _ f
        (subst (Counted (H ++ q ∷ []) qs (k + 0))
        (ap (recorded c qs (k + 0)) (sym (one_more H q))
        ∙ sym (goes_on (observed c) q qs k (held c H) (outcome (Ok tt)) (is-observed (Ok tt) (rw (f, w))) refl))
        d)

    counted-invalid : (x : Refusal) → check_quote c q ≡ Err x → is_invalid (Err x) ≡ true → is_stop (Err x) ≡ false
        → Counted H qs (k + 1) (recorded c qs (k + 1) (held c H)) → Counted H (q ∷ qs) k (recorded c (q ∷ qs) k (held c H))
    counted-invalid x f i s d =
        invalid-more H qs q k _ (ap is_invalid f ∙ i)
        (subst (Counted H qs (k + 1))
        (sym (goes_on (observed c) q qs k (held c H) (outcome (Err x)) (is-observed (Err x) (rw f)) s
        ∙ ap (λ (b : Bool). recorded c qs (k + bit b) (held c H)) i))
        d)

  counted : (qs : List TopOfBook) (t : ℕ) (H : List TopOfBook) (k : ℕ) → Ready t H → sorted_from t qs ≡ true → Counted H qs k (recorded c qs k (held c H))
  counted [] t H k h s =
      record {
        answer-is = inl refl;
        left_is = λ u. ap (held c) (sym (append-nil H));
        invalid-is = λ u. sym (add-zero k);
        within = h.within;
      }
  counted (q ∷ qs) t H k h s =
      let n = sorted-known t q qs s in
      go n.0 (λ w f. counted qs q.timestamp_ms (H ++ q ∷ []) (k + 0) (next-ready t H h q f w) n.1)
      (counted qs q.timestamp_ms H (k + 1) (later t H h q n.0) n.1) (judged c q)
    where
      go : t ≤ q.timestamp_ms
          → (passes H q ≡ false → check_quote c q ≡ Ok tt → Counted (H ++ q ∷ []) qs (k + 0) (recorded c qs (k + 0) (held c (H ++ q ∷ []))))
          → Counted H qs (k + 1) (recorded c qs (k + 1) (held c H)) → Judged (check_quote c q) → Counted H (q ∷ qs) k (recorded c (q ∷ qs) k (held c H))
      go l f i (stopped j) = counted_stop t H qs q k h l OverDomain refl (rw j) (inl refl)
      go l f i (invalid x j a b) = counted-invalid t H qs q k h l x j a b i
      go l f i (fine j) = limits (passes H q) refl
        where
          limits : (b : Bool) → passes H q ≡ b → Counted H (q ∷ qs) k (recorded c (q ∷ qs) k (held c H))
          limits true w = counted_stop t H qs q k h l CountLimit refl (rw (j, w)) (inr refl)
          limits false w = counted-fine t H qs q k h l j w (f w j)

  -- ---- from new on

  empty-is : held c [] ≡ fresh c
  empty-is =
      λ i.
      record {
        last = None;
        counts = after_none kinds (states c) (rule c).mirror (zeros kinds (states c)) (zeros-sized kinds (states c)) i;
      }

  module _ (qs : List TopOfBook) (s : sorted qs ≡ true) where
    start : Ready 0 []
    start =
        record {
          sound = refl;
          late = λ q l. refl;
          within = ap (λ (m : Memory Previous). over_limit m.counts) empty-is ∙ zeros_within kinds (states c);
        }

    all : Counted [] qs 0 (recorded c qs 0 (fresh c))
    all = subst (λ (m : Memory Previous). Counted [] qs 0 (recorded c qs 0 m)) empty-is (counted qs 0 [] 0 start s)

    -- only 2 and 6 stop it
    pub new-answers : Ended (recorded c qs 0 (fresh c)).answer
    new-answers = all.answer-is

    -- if nothing does, its memory is that of the history of the quotes that 3 and 4 do not refuse, and the others are the invalid ones
    pub new-left : (recorded c qs 0 (fresh c)).answer ≡ Ok tt
        → (recorded c qs 0 (fresh c)).left ≡ memory_of (rule c) None (zeros kinds (states c)) (filter (usable c) qs)
    new-left u = all.left_is u

    pub new-invalid : (recorded c qs 0 (fresh c)).answer ≡ Ok tt → (recorded c qs 0 (fresh c)).invalid ≡ count (unusable c) qs
    new-invalid u = all.invalid-is u ∙ zero-add (count (unusable c) qs)

    -- its counts are within their limits
    pub new-within : over_limit (recorded c qs 0 (fresh c)).left.counts ≡ false
    new-within = all.within

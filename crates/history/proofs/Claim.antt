-- The list claim: what the operations do, call by call, is what the history says. A history's memory is seen through its named laws alone.
use Prim.Native.Nat.{ℕ}
use mathlib.Core.Path.{◌≡◌, refl, sym, ap, subst, ◌∙◌}
use mathlib.Core.Bool.{Bool, true, false, not, ◌&&◌, ◌||◌}
use mathlib.Core.List.{List, [], ◌∷◌, ◌++◌}
use mathlib.Core.Option.{Option, none, some}
use lib.Dec.{T}
use Rattle.basics.specs.Lists.{same_words}
use lib.ListN.{length}
use Rattle.basics.proofs.Lists.{same-equal}
use Rattle.refusals.specs.Refusals.{refuse_if, first_of, Check}
use Rattle.std.specs.Prelude.{Some, None, Result, Ok, Err}
use Rattle.refusals.specs.declared.Refusal.{Refusal}
use Rattle.refusals.proofs.Refusals.{if-fine, first_fine}
use Rattle.config.specs.Configuration.{states, valid}
use Rattle.config.specs.Inner.{Valid}
use Rattle.config.specs.declared.MicroPriceConfig.{MicroPriceConfig}
use Rattle.config.proofs.Known.{valid-known}
use Rattle.quotes.specs.Quotes.{check_quote}
use Rattle.quotes.specs.declared.TopOfBook.{TopOfBook}
use Rattle.tally.specs.Balance.{Sized}
use Rattle.tally.specs.Events.{after}
use Rattle.tally.specs.Limits.{over_limit}
use Rattle.tally.specs.Rules.{Memory, step}
use Rattle.tally.proofs.Step.{step-memory}
use Rattle.tally.proofs.Balance.{after_none}
use Rattle.image_words.specs.Words.{AllWords}
use Rattle.calibrator.specs.Record.{answered, Previous}
use Rattle.calibrator.specs.Observe.{rule, fresh, judge, refusal_by, earlier, lent_wrong}
use Rattle.calibrator.proofs.Step.{rule-lawful}
use Rattle.image_layout.specs.Layout.{newest, image, previous_words}
use Rattle.image.specs.Image.{saved_unless, save_refusal, end_restore, Taken, restored}
use Rattle.history.specs.Calls.{Call, quote, save, restore, observes, saves, restores, Acted, acted, after_restore, act, run, History, begins, new_history, gains, history_memory, history_refusal, Kept, Past, new_past, or_else, kept_with, returns, HistoryActed, history_acted, history_quote, history_save, history_restore, check_output_length, history_act, history_run, is_some, is_refused, Proper, OwnImages, ConfigWords}
use Rattle.history.proofs.Holds.{Holds, new-holds, step-holds, quote-first, save-first, image-back}

-- the history kept, if any, has the property
abbrev IfKept : (History → Type 0) → Option History → Type 0
IfKept Q none = Unit {0}
IfKept Q (some H) = Q H

-- of a newer history and an older one, whichever is taken
either-kept : (Q : History → Type 0) (t : Bool) (G : History) (o : Option History) → (t ≡ true → Q G) → IfKept Q o → IfKept Q (or_else t G o)
either-kept Q true G none newer older = newer refl
either-kept Q true G (some K) newer older = let this : Q G = newer refl in search
either-kept Q false G o newer older = older

-- the history that begins at a memory has that memory
pub begins-memory : (c : MicroPriceConfig) (m : Memory Previous) → Sized (rule c).kinds (states c) m.counts → history_memory c (begins m) ≡ m
begins-memory c m sized = go m.last
  where
    counts-are : after (rule c).kinds (states c) (rule c).mirror m.counts [] ≡ m.counts
    counts-are = after_none (rule c).kinds (states c) (rule c).mirror m.counts sized

    go : (l : Previous) → history_memory c (begins (record { last = l; counts = m.counts })) ≡ record { last = l; counts = m.counts }
    go None = λ i. record { last = None; counts = counts-are i }
    go (Some q) = λ i. record { last = Some q; counts = counts-are i }

module _ (c : MicroPriceConfig) (e : valid c ≡ true) (fits : ConfigWords c) where
  v : Valid c
  v = valid-known c e

  -- what is known of a history: what it starts from has the right sizes, and its record and tables hold
  pub record Sound (H : History) : Type 0 where
    pub start-sized : Sized (rule c).kinds (states c) H.start
    pub holds : Holds c (history_memory c H)

  pub begins-sound : (m : Memory Previous) → Holds c m → Sound (begins m)
  begins-sound m h = record { start-sized = h.sized; holds = subst (Holds c) (sym (begins-memory c m h.sized)) h }

  -- each kept image is that of the history kept with it
  abbrev AllKept : List Kept → Type 0
  AllKept [] = Unit {0}
  AllKept (k ∷ ks) = (k.bytes ≡ image newest c (history_memory c k.history)) × Sound k.history × AllKept ks

  record Good (P : Past) : Type 0 where
    now-sound : Sound P.now
    all-kept : AllKept P.kept

  record Agrees (a : Acted) (t : HistoryActed) : Type 0 where
    answers : a.answer ≡ t.answer
    memories : a.left ≡ history_memory c t.past.now
    good : Good t.past

  -- ---- a quote

  grown : (H : History) (q : TopOfBook) → step (rule c) (history_memory c H) q ≡ history_memory c (gains H q)
  grown H q = step-memory (rule c) (rule-lawful c v) None H.start H.quotes q

  pub refusal_is : (H : History) → Sound H → (q : TopOfBook) → refusal_by (rule c) (judge c) (history_memory c H) q ≡ history_refusal c H q
  refusal_is H h q =
      quote-first c e (history_memory c H) h.holds q
      ∙ ap (λ (m : Memory Previous). first_of (first_of (check_quote c q) (refuse_if (earlier (history_memory c H).last q) 5))
      (refuse_if (over_limit m.counts) 6))
      (grown H q)

  sound-gains : (H : History) → Sound H → (q : TopOfBook) → AllWords (previous_words (Some q)) → history_refusal c H q ≡ Ok tt → Sound (gains H q)
  sound-gains H h q words fine =
      let f = first_fine (first_of (check_quote c q) (refuse_if (earlier (history_memory c H).last q) 5))
      (refuse_if (over_limit (history_memory c (gains H q)).counts) 6) fine in
      let g = first_fine (check_quote c q) (refuse_if (earlier (history_memory c H).last q) 5) f.0 in
      let inside : over_limit (step (rule c) (history_memory c H) q).counts ≡ false =
      ap (λ (m : Memory Previous). over_limit m.counts) (grown H q) ∙ if-fine (over_limit (history_memory c (gains H q)).counts) 6 refl f.1 in
      record {
        start-sized = h.start-sized;
        holds = subst (Holds c) (grown H q) (step-holds c v (history_memory c H) h.holds q words g.0 inside);
      }

  quote-agrees : (P : Past) → Good P → (q : TopOfBook) → AllWords (previous_words (Some q))
      → Agrees (act c (history_memory c P.now) (quote q)) (history_act c P (quote q))
  quote-agrees P G q words = go (refusal_by (rule c) (judge c) m q) (history_refusal c P.now q) (refusal_is P.now G.now-sound q) (λ f. f)
    where
      m : Memory Previous
      m = history_memory c P.now

      go : (k : Check) (k' : Check) → k ≡ k' → (k' ≡ Ok tt → history_refusal c P.now q ≡ Ok tt)
          → Agrees (acted (observes (answered k m (step (rule c) m q)).answer) (answered k m (step (rule c) m q)).left) (history_quote k' P (gains P.now q))
      go k (Ok _) f g =
          rw f
          (record {
            answers = refl;
            memories = grown P.now q;
            good =
                record {
                  now-sound = sound-gains P.now G.now-sound q words (g refl);
                  all-kept = G.all-kept;
                };
          })
      go k (Err r) f g = rw f (record { answers = refl; memories = refl; good = G })

  -- ---- a save

  save-agrees : (P : Past) → Good P → (out : List ℕ) → Agrees (act c (history_memory c P.now) (save out)) (history_act c P (save out))
  save-agrees P G out = go (save_refusal c m (length out)) (check_output_length c out) (save-first c e m G.now-sound.holds (length out))
    where
      m : Memory Previous
      m = history_memory c P.now

      go : (k k' : Check) → k ≡ k' → Agrees (acted (saves (saved_unless k out (image newest c m))) m) (history_save k' P out (image newest c m))
      go k (Ok _) f =
          rw f
          (record {
            answers = refl;
            memories = refl;
            good = record { now-sound = G.now-sound; all-kept = (refl, G.now-sound, G.all-kept) };
          })
      go k (Err r) f = rw f (record { answers = refl; memories = refl; good = G })

  -- ---- a restore

  record IsImage (b : List ℕ) (H : History) : Type 0 where
    sound : Sound H
    is : b ≡ image newest c (history_memory c H)

  kept-is : (b : List ℕ) (ks : List Kept) → AllKept ks → IfKept (IsImage b) (kept_with b ks)
  kept-is b [] a = tt
  kept-is b (k ∷ ks) a =
      either-kept (IsImage b) (same_words b k.bytes) k.history (kept_with b ks)
      (λ same. record { sound = a.1; is = same-equal b k.bytes same ∙ a.0 })
      (kept-is b ks a.2)

  -- what a restore brings back has the image that is restored
  returned-is : (P : Past) → Good P → (b : List ℕ) → IfKept (IsImage b) (returns c P b)
  returned-is P G b = kept-is b P.kept G.all-kept

  restore-agrees : (P : Past) → Good P → (b : List ℕ) (lent : Memory Previous) → Proper c P (restore b lent)
      → Agrees (act c (history_memory c P.now) (restore b lent)) (history_act c P (restore b lent))
  restore-agrees P G b lent p = go (restored b lent) refl (lent_wrong (states c) lent.counts.tables) refl (returns c P b) refl p
    where
      m : Memory Previous
      m = history_memory c P.now

      other : (a : Result MicroPriceConfig Refusal) (filled : Memory Previous) → T (is_refused a)
          → Agrees (acted (restores a) (after_restore a m filled)) (history_acted (restores a) P)
      other (Ok d) filled f = absurd f
      other (Err r) filled f = record { answers = refl; memories = refl; good = G }

      go : (t : Taken) → restored b lent ≡ t → (w : Bool) → lent_wrong (states c) lent.counts.tables ≡ w → (o : Option History) → returns c P b ≡ o
          → T ((not w && is_some o) || is_refused t.answer)
          → Agrees (acted (restores t.answer) (after_restore t.answer m t.left)) (history_restore c P t.answer w o)
      go t et true ew o eo f = other t.answer t.left f
      go t et false ew none eo f = other t.answer t.left f
      go t et false ew (some H) eo f =
          let r : IsImage b H = subst (IfKept (IsImage b)) eo (returned-is P G b) in
          let back : t ≡ end_restore (Ok c) (history_memory c H) =
          sym et ∙ ap (λ (x : List ℕ). restored x lent) r.is ∙ image-back c e fits (history_memory c H) r.sound.holds lent ew in
          rw back
          (record {
            answers = refl;
            memories = refl;
            good = record { now-sound = r.sound; all-kept = G.all-kept };
          })

  -- ---- the list

  call-agrees : (P : Past) → Good P → (k : Call) → Proper c P k → Agrees (act c (history_memory c P.now) k) (history_act c P k)
  call-agrees P G (quote q) p = quote-agrees P G q p
  call-agrees P G (save out) p = save-agrees P G out
  call-agrees P G (restore b lent) p = restore-agrees P G b lent p

  pub record Claim (P : Past) (ks : List Call) : Type 0 where
    pub answers : (run c (history_memory c P.now) ks).answers ≡ (history_run c P ks).answers
    pub memories : (run c (history_memory c P.now) ks).left ≡ history_memory c (history_run c P ks).past.now
    pub sound : Sound (history_run c P ks).past.now

  from-here : (ks : List Call) (P : Past) → Good P → OwnImages c P ks → Claim P ks
  from-here [] P G o = record { answers = refl; memories = refl; sound = G.now-sound }
  from-here (k ∷ ks) P G o =
      let s = call-agrees P G k o.0 in
      let rest = from-here ks (history_act c P k).past s.good o.1 in
      record {
        answers =
            λ i. s.answers i ∷ (ap (λ (m : Memory Previous). (run c m ks).answers) s.memories ∙ rest.answers) i;
        memories = ap (λ (m : Memory Previous). (run c m ks).left) s.memories ∙ rest.memories;
        sound = rest.sound;
      }

  pub empty-is : history_memory c (new_history c) ≡ fresh c
  empty-is = begins-memory c (fresh c) (new-holds c v).sized

  new-good : Good (new_past c)
  new-good = record { now-sound = begins-sound (fresh c) (new-holds c v); all-kept = tt }

  -- every list of calls on a new calibrator
  pub list-claim : (ks : List Call) → OwnImages c (new_past c) ks → Claim (new_past c) ks
  list-claim ks o = from-here ks (new_past c) new-good o

  -- ---- a list in parts

  good-after : (ks : List Call) (P : Past) → Good P → OwnImages c P ks → Good (history_run c P ks).past
  good-after [] P G o = G
  good-after (k ∷ ks) P G o = good-after ks (history_act c P k).past (call-agrees P G k o.0).good o.1

  pub own-parts : (before ks : List Call) (P : Past) → OwnImages c P (before ++ ks) → OwnImages c P before × OwnImages c (history_run c P before).past ks
  own-parts [] ks P o = (tt, o)
  own-parts (k ∷ before) ks P o = let r = own-parts before ks (history_act c P k).past o.1 in ((o.0, r.0), r.1)

  -- a list after another
  pub part-claim : (before ks : List Call) → OwnImages c (new_past c) (before ++ ks) → Claim (history_run c (new_past c) before).past ks
  part-claim before ks o =
      let p = own-parts before ks (new_past c) o in
      from-here ks (history_run c (new_past c) before).past (good-after before (new_past c) new-good p.0) p.1

module _ (c : MicroPriceConfig) where
  -- it starts at new's counts
  abbrev StartsNew : History → Type 0
  StartsNew H = H.start ≡ (fresh c).counts

  abbrev AllNew : List Kept → Type 0
  AllNew [] = Unit {0}
  AllNew (k ∷ ks) = StartsNew k.history × AllNew ks

  record New (P : Past) : Type 0 where
    now-new : StartsNew P.now
    kept_new : AllNew P.kept

  found-new : (b : List ℕ) (ks : List Kept) → AllNew ks → IfKept StartsNew (kept_with b ks)
  found-new b [] a = tt
  found-new b (k ∷ ks) a = either-kept StartsNew (same_words b k.bytes) k.history (kept_with b ks) (λ same. a.0) (found-new b ks a.1)

  returned-new : (P : Past) → New P → (b : List ℕ) → IfKept StartsNew (returns c P b)
  returned-new P n b = found-new b P.kept n.kept_new

  act-new : (P : Past) → New P → (k : Call) → New (history_act c P k).past
  act-new P n (quote q) = go (history_refusal c P.now q)
    where
      go : (k : Check) → New (history_quote k P (gains P.now q)).past
      go (Ok _) = record { now-new = n.now-new; kept_new = n.kept_new }
      go (Err r) = n
  act-new P n (save out) = go (check_output_length c out)
    where
      go : (k : Check) → New (history_save k P out (image newest c (history_memory c P.now))).past
      go (Ok _) = record { now-new = n.now-new; kept_new = (n.now-new, n.kept_new) }
      go (Err r) = n
  act-new P n (restore b lent) = go (lent_wrong (states c) lent.counts.tables) (returns c P b) refl
    where
      go : (w : Bool) (o : Option History) → returns c P b ≡ o → New (history_restore c P (restored b lent).answer w o).past
      go true o f = n
      go false none f = n
      go false (some H) f = record { now-new = subst (IfKept StartsNew) f (returned-new P n b); kept_new = n.kept_new }

  all_new : (ks : List Call) (P : Past) → New P → StartsNew (history_run c P ks).past.now
  all_new [] P n = n.now-new
  all_new (k ∷ ks) P n = all_new ks (history_act c P k).past (act-new P n k)

  pub starts-new : (ks : List Call) → (history_run c (new_past c) ks).past.now.start ≡ (fresh c).counts
  starts-new ks = all_new ks (new_past c) (record { now-new = refl; kept_new = tt })

-- What holds of the memory of every history: of new's, and kept by an accepted quote; and what the operations make of such a memory.
use Prim.Native.Nat.{ℕ, zero, suc, ◌+◌, ◌*◌, ◌^◌, ◌≤◌, ◌<◌}
use mathlib.Core.Path.{◌≡◌, refl, sym, ap, subst, ◌∙◌}
use mathlib.Core.Bool.{Bool, true, false, not}
use mathlib.Core.List.{List, [], ◌∷◌, ◌++◌, map}
use native.Mathlib.Nat.{mul-le-mul}
use native.Mathlib.Omega.{arith}
use lib.Dec.{eqb}
use lib.IntN.{ℤ, pos, negsuc, neg_ℤ}
use lib.ListN.{length, get_or, replicate, length-replicate}
use borrow.Author.Tests.{eq-eqb, leb-true, ltb-false, not-false}
use Rattle.basics.specs.Lists.{any, all_from}
use Rattle.basics.proofs.Tests.{zero-not-one, neither, eqb_same}
use Rattle.basics.specs.Domain.{most_half_ticks, counter_limit, cell_limit}
use Rattle.image_words.specs.Words.{twos, AllWords}
use Rattle.image_words.proofs.Round.{all_append}
use Rattle.tally.proofs.Sums.{change-size}
use Rattle.refusals.specs.Refusals.{refuse_if, first_of, first_from, Check}
use Rattle.std.specs.Prelude.{Some, None, Result, Ok, Err}
use Rattle.quotes.specs.declared.Pair.{Pair}
use Rattle.quotes.specs.declared.Skip.{Skip}
use Rattle.config.specs.Configuration.{states, valid}
use Rattle.config.specs.Inner.{Valid}
use Rattle.config.specs.declared.MicroPriceConfig.{MicroPriceConfig}
use Rattle.config.proofs.Known.{valid-known}
use Rattle.quotes.specs.Inner.{Accepted}
use Rattle.quotes.specs.Neighbours.{neighbours_of}
use Rattle.quotes.specs.Quotes.{check_quote}
use Rattle.quotes.specs.States.{mirror_of}
use Rattle.quotes.specs.declared.Skip.TheVariants.{Gap, Spread}
use Rattle.quotes.specs.declared.TopOfBook.{TopOfBook}
use Rattle.quotes.proofs.Known.{fine-known}
use Rattle.quotes.proofs.Pairs.{counted-made}
use Rattle.quotes.proofs.Ticks.{half-ticks-most}
use Rattle.tally.specs.Entries.{over_cell, over_total}
use Rattle.tally.specs.Events.{Event, first, skip, pair, Counts, entered, after, size_of}
use Rattle.tally.specs.Limits.{over_counter, over_limit, touched}
use Rattle.tally.specs.Rules.{Memory, step}
use Rattle.tally.specs.Balance.{Sized, Balanced}
use Rattle.tally.proofs.Step.{entered-after}
use Rattle.tally.proofs.Balance.{after_none, after-sized, zeros-sized, zeros-balanced, after-balanced}
use Rattle.tally.proofs.Overs.{Within, within-known, zeros_within, over-touched}
use Rattle.count_check.specs.Mirrors.{same_total, stored_over, total_mirrored, cell_mirrored, row_mirrored, check_state, is_twice, check_counts}
use Rattle.calibrator.specs.Record.{kind_of, skipped, Previous}
use Rattle.calibrator.specs.Observe.{rule, fresh, event_from, event_of, check_memory, broken, refuses, judge, refusal_by, earlier, lent_wrong}
use Rattle.calibrator.proofs.Memories.{record_of, record-back}
use Rattle.calibrator.proofs.Step.{rule-lawful}
use Rattle.image_layout.specs.Layout.{newest, image_length, previous_words, header, body, image}
use Rattle.image.specs.Image.{save_refusal, saved, saved_unless, end_restore, restored}
use Rattle.image.proofs.Round.{restored-saved}
use Rattle.history.specs.Calls.{ConfigWords}

pub record Holds (c : MicroPriceConfig) (m : Memory Previous) : Type 0 where
  pub sized : Sized (rule c).kinds (states c) m.counts
  pub balanced : Balanced (states c) (mirror_of c.imbalance_buckets) m.counts
  pub within : over_limit m.counts ≡ false
  pub sound : broken c m.last ≡ false
  pub last_fits : AllWords (previous_words m.last)
  pub largest-fits : m.counts.largest < 2 ^ 64

-- ---- new, and one quote more

refuses-not : (k : Check) → refuses k ≡ false → k ≡ Ok tt
refuses-not (Ok _) e = refl
refuses-not (Err r) e = absurd (zero-not-one cc)

module _ (c : MicroPriceConfig) (v : Valid c) where
  pub new-holds : Holds c (fresh c)
  new-holds =
      record {
        sized = zeros-sized (rule c).kinds (states c);
        balanced = zeros-balanced (rule c).kinds (states c) (rule c).mirror (rule-lawful c v).mirror-below;
        within = zeros_within (rule c).kinds (states c);
        sound = refl;
        last_fits =
            (omega arith, (omega arith, (omega arith, (omega arith, (omega arith, (omega arith, tt))))));
        largest-fits = omega arith;
      }

  pair_size : (p q : TopOfBook) → Accepted c p → Accepted c q → (n : Result Pair Skip) → neighbours_of c p q ≡ n → size_of (event_from n) ≤ 2 * most_half_ticks
  pair_size p q fp fq (Err k) h = omega arith
  pair_size p q fp fq (Ok e) h =
      let k = counted-made c p q e h in
      omega
      (arith, change-size e.mid_from e.mid_to, k.from-mid, k.to-mid, half-ticks-most c p v fp, half-ticks-most c q v fq)

  event-size : (l : Previous) (q : TopOfBook) → broken c l ≡ false → Accepted c q → size_of (event_of c l q) ≤ 2 * most_half_ticks
  event-size None q s f = omega arith
  event-size (Some p) q s f =
      pair_size p q (fine-known c p (refuses-not (check_quote c p) s)) f (neighbours_of c p q) refl

  larger : (N : ℕ) (mirror : ℕ → ℕ) (e : Event) (k : Counts) → k.largest < 2 ^ 64 → size_of e ≤ 2 * most_half_ticks → (entered N mirror e k).largest < 2 ^ 64
  larger N mirror first k h g = h
  larger N mirror (skip n) k h g = h
  larger N mirror (pair i j d) k h g = omega arith

  module _ (m : Memory Previous) (h : Holds c m) (q : TopOfBook) where
    abbrev event : Event
    event = event_of c m.last q

    one_more : entered (states c) (rule c).mirror event m.counts ≡ after (rule c).kinds (states c) (rule c).mirror m.counts (event ∷ [])
    one_more =
        ap (entered (states c) (rule c).mirror event) (sym (after_none (rule c).kinds (states c) (rule c).mirror m.counts h.sized))
        ∙ entered-after (rule c).kinds (states c) (rule c).mirror (rule-lawful c v).mirror-below m.counts [] event ((rule-lawful c v).event-in m.last q)

    -- an accepted quote keeps it
    pub step-holds : AllWords (previous_words (Some q)) → check_quote c q ≡ Ok tt → over_limit (step (rule c) m q).counts ≡ false → Holds c (step (rule c) m q)
    step-holds words fine inside =
        record {
          sized =
              subst (Sized (rule c).kinds (states c)) (sym one_more)
              (after-sized (rule c).kinds (states c) (rule c).mirror m.counts (event ∷ []));
          balanced =
              subst (Balanced (states c) (rule c).mirror) (sym one_more)
              (after-balanced (rule c).kinds (states c) (rule c).mirror (rule-lawful c v).mirror-below (rule-lawful c v).mirror-twice m.counts
              h.sized h.balanced (event ∷ []) ((rule-lawful c v).event-in m.last q, tt));
          within = inside;
          sound = ap refuses fine;
          last_fits = words;
          largest-fits =
              larger (states c) (rule c).mirror event m.counts h.largest-fits (event-size m.last q h.sound (fine-known c q fine));
        }

    -- what it adds to passes a limit exactly if anything does
    pub touched-is : touched (states c) (rule c).mirror event (step (rule c) m q).counts ≡ over_limit (step (rule c) m q).counts
    touched-is =
        sym
        (over-touched (rule c).kinds (states c) (rule c).mirror (rule-lawful c v).mirror-below m.counts h.sized h.within event
        ((rule-lawful c v).event-in m.last q))

-- ---- the count check

pub first-all : (f : ℕ → Check) (i k : ℕ) → ((j : ℕ) → j < i + k → f j ≡ Ok tt) → first_from f i k ≡ Ok tt
first-all f i zero h = refl
first-all f i (suc k) h = rw (h i (omega arith)) (first-all f (suc i) k (λ j b. h j (omega arith)))

all-all : (p : ℕ → Bool) (i k : ℕ) → ((j : ℕ) → j < i + k → p j ≡ true) → all_from p i k ≡ true
all-all p i zero h = refl
all-all p i (suc k) h = rw (h i (omega arith)) (all-all p (suc i) k (λ j b. h j (omega arith)))

same-own : (z : ℤ) → same_total z z ≡ true
same-own (pos n) = eqb_same n
same-own (negsuc n) = eqb_same n

stored-in : (k : Counts) → over_limit k ≡ false → stored_over k ≡ false
stored-in k e = let w = within-known k e in rw (w.pairs-in, w.skips-in, w.totals-in)

module _ (N : ℕ) (mirror : ℕ → ℕ) (k : Counts) (b : Balanced N mirror k) where
  state-fine : (i : ℕ) → i < N → check_state N mirror k.tables i ≡ Ok tt
  state-fine i hi =
      let t : total_mirrored k.tables.totals i (mirror i) ≡ true = rw (b.totals-mirrored i hi) (same-own (neg_ℤ (get_or k.tables.totals i (pos 0)))) in
      let r : row_mirrored N mirror k.tables i ≡ true =
      all-all (cell_mirrored N mirror k.tables i) 0 N
      (λ j b'. let hj : j < N = omega arith in rw (eq-eqb _ _ (sym (b.stay-mirrored i j hi hj))) (eq-eqb _ _ (sym (b.moved-mirrored i j hi hj)))) in
      rw (t, r)

  pub check-fine : over_limit k ≡ false → check_counts N mirror k ≡ Ok tt
  check-fine e =
      let t : is_twice k.pairs k.tables ≡ true = eq-eqb _ _ b.twice in
      rw (stored-in k e, first-all (check_state N mirror k.tables) 0 N (λ i b'. state-fine i (omega arith)), t)

-- ---- the operations on such a memory

pub first-last : (k : Check) → first_of k (Ok tt) ≡ k
first-last (Ok _) = refl
first-last (Err r) = refl

module _ (c : MicroPriceConfig) (e : valid c ≡ true) (m : Memory Previous) (h : Holds c m) where
  v : Valid c
  v = valid-known c e

  pub memory-fine : check_memory c m ≡ Ok tt
  memory-fine =
      let a = eq-eqb _ _ h.sized.stay-cells in
      let b = eq-eqb _ _ h.sized.moved-cells in
      let d = eq-eqb _ _ h.sized.totals-cells in
      rw (e, a, b, d)

  -- a quote is refused by 2, 3, 4, 5 or 6
  pub quote-first : (q : TopOfBook)
      → refusal_by (rule c) (judge c) m q ≡ first_of (first_of (check_quote c q) (refuse_if (earlier m.last q) 5))
      (refuse_if (over_limit (step (rule c) m q).counts) 6)
  quote-first q = rw (memory-fine, h.sound, touched-is c v m h q)

  -- a save only by its output's length
  pub save-first : (long : ℕ) → save_refusal c m long ≡ refuse_if (not (eqb long (image_length newest c))) 7
  save-first long =
      rw (memory-fine, h.sound, check-fine (states c) (mirror_of c.imbalance_buckets) m.counts h.balanced h.within)
      (first-last (refuse_if (not (eqb long (image_length newest c))) 7))

  pub save-image : (out : List ℕ) → length out ≡ image_length newest c → saved c m out ≡ saved_unless (Ok tt) out (image newest c m)
  save-image out long =
      ap (λ (k : Check). saved_unless k out (image newest c m))
      (save-first (length out) ∙ ap (λ (t : Bool). refuse_if (not t) 7) (eq-eqb _ _ long))

-- ---- its words fit, and its image brings it back

counters-fit : (l : List ℕ) → any over_counter l ≡ false → (k : ℕ) → get_or l k 0 < 2 ^ 64
counters-fit [] e k = omega arith
counters-fit (x ∷ l) e zero = omega (arith, ltb-false counter_limit x (neither (over_counter x) (any over_counter l) e).0)
counters-fit (x ∷ l) e (suc k) = counters-fit l (neither (over_counter x) (any over_counter l) e).1 k

cells-within : (l : List ℕ) → any over_cell l ≡ false → AllWords l
cells-within [] e = tt
cells-within (x ∷ l) e =
    let p = neither (over_cell x) (any over_cell l) e in
    (omega (arith, ltb-false cell_limit x p.0), cells-within l p.1)

total-fits : (z : ℤ) → over_total z ≡ false → twos z < 2 ^ 64
total-fits (pos n) e = omega (arith, leb-true n cell_limit (not-false _ e))
total-fits (negsuc n) e = omega arith

totals-within : (l : List ℤ) → any over_total l ≡ false → AllWords (map twos l)
totals-within [] e = tt
totals-within (z ∷ l) e =
    let p = neither (over_total z) (any over_total l) e in
    (total-fits z p.0, totals-within l p.1)

module _ (c : MicroPriceConfig) (e : valid c ≡ true) (fits : ConfigWords c) (m : Memory Previous) (h : Holds c m) where
  w : Within m.counts
  w = within-known m.counts h.within

  counts-fit : AllWords (m.counts.pairs ∷ skipped Spread m.counts ∷ skipped Gap m.counts ∷ m.counts.largest ∷ image_length newest c ∷ [])
  counts-fit =
      let N = (valid-known c e).states-most in
      let C : states c * states c ≤ 65536 = mul-le-mul N N in
      let pairs : m.counts.pairs < 2 ^ 64 = omega (arith, ltb-false counter_limit m.counts.pairs w.pairs-in) in
      let skips = counters-fit m.counts.skips w.skips-in in
      (pairs, (skips (kind_of Spread), (skips (kind_of Gap), (h.largest-fits, (omega arith, tt)))))

  body-fits : AllWords (body m.counts.tables)
  body-fits =
      all_append m.counts.tables.stay (m.counts.tables.moved ++ map twos m.counts.tables.totals)
      (cells-within m.counts.tables.stay w.stay-in)
      (all_append m.counts.tables.moved (map twos m.counts.tables.totals) (cells-within m.counts.tables.moved w.moved_in)
      (totals-within m.counts.tables.totals w.totals-in))

  header-fits : AllWords (header newest c m.last m.counts)
  unfolding header
  header-fits =
      let N = (valid-known c e).states-most in
      let C : states c * states c ≤ 65536 = mul-le-mul N N in (
        omega arith,
        (
          fits.1.0,
          (
            fits.1.1.0,
            (
              fits.0,
              (
                fits.1.1.1.0,
                (
                  fits.1.1.1.1.0,
                  (
                    omega arith,
                    (
                      omega arith,
                      (
                        omega arith,
                        all_append (previous_words m.last) _ h.last_fits counts-fit,
                      ),
                    ),
                  ),
                ),
              ),
            ),
          ),
        ),
      )

  words-fit : AllWords (header newest c m.last m.counts ++ body m.counts.tables)
  words-fit = all_append (header newest c m.last m.counts) (body m.counts.tables) header-fits body-fits

  -- its image, restored into any memory of the right lengths, gives it back
  pub image-back : (lent : Memory Previous) → lent_wrong (states c) lent.counts.tables ≡ false → restored (image newest c m) lent ≡ end_restore (Ok c) m
  image-back lent sizes =
      let out : List ℕ = replicate (image_length newest c) 0 in
      let is = record-back c m h.sized.skip-kinds in
      let k = save-image c e m h out (length-replicate (image_length newest c) 0) in
      let r = record_of m in
      let t = m.counts.tables in
      let round = restored-saved c r t.stay t.moved t.totals out lent
      (subst (λ (x : Memory Previous). AllWords (header newest c x.last x.counts ++ body x.counts.tables)) (sym is) words-fit) sizes
      (ap (λ (x : Memory Previous). (saved c x out).answer) is ∙ ap (λ x. x.answer) k) in
      sym (ap (λ (x : Memory Previous). restored (saved c x out).output lent) is ∙ ap (λ x. restored x.output lent) k)
      ∙ round
      ∙ ap (end_restore (Ok c)) is

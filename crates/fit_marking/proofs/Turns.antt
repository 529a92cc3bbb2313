-- A state that is freed brings the number of those that wait down; a turn through the states, as far as x; turns one after the other.
use mathlib.Core.Path.{◌≡◌, refl, ap, ◌∙◌}
use mathlib.Core.Bool.{Bool, true, false, true≢false, false≢true}
use mathlib.Core.List.{List}
use mathlib.Core.Logic.{⊎_elim, ◌≢◌}
use Prim.Native.Nat.{ℕ, ◌+◌, ◌<◌, ◌≤◌}
use native.Mathlib.Omega.{arith}
use native.Mathlib.Decide.{ℕ_discrete}
use borrow.Author.Count.{below_more}
use lib.ListN.{length, length-set}
use lib.Seq.{get_or-set_same, get_or-set_other}
use Rattle.basics.proofs.Tests.{yes_or_no}
use Rattle.model.specs.declared.StateStatus.{StateStatus}
use Rattle.model.specs.declared.StateStatus.TheVariants.{Calibrated, NoPriceMove}
use Rattle.fit_marking.specs.Marks.{mark_at}
use Rattle.fit_marking.specs.Inner.{is_waiting, leads_out, waiting, Freed, Left, Led, none, more, Turned}
use Rattle.fit_marking.proofs.Below.{count_less}

-- ---- one state is freed

module _ (N : ℕ) (stay : List ℕ) (m m' : List StateStatus) (x : ℕ) (inside : x < N) (enough : N ≤ length m) (l : Freed N stay m m' x) where
  pub freed-length : length m' ≡ length m
  freed-length = ap length l.marked ∙ length-set m x Calibrated

  pub freed-here : mark_at m' x ≡ Calibrated
  freed-here = rw l.marked (get_or-set_same m x Calibrated Calibrated (omega arith))

  pub freed-other : (i : ℕ) → i ≢ x → mark_at m' i ≡ mark_at m i
  freed-other i h = rw l.marked (get_or-set_other m x i Calibrated Calibrated h)

  freed-less : waiting N m' < waiting N m
  freed-less =
      count_less N (λ y. is_waiting (mark_at m' y)) (λ y. is_waiting (mark_at m y)) x
      (λ k h t. waited k t (ℕ_discrete k x))
      inside
      (rw freed-here)
      (rw l.was refl)
    where
      waited : (k : ℕ) → is_waiting (mark_at m' k) ≡ true → Dec (k ≡ x) → is_waiting (mark_at m k) ≡ true
      waited k t (yes e) = absurd (false≢true (rw (e, freed-here) at t))
      waited k t (no d) = rw (← freed-other k d) t

-- ---- a turn, as far as x

pub record Pass (N : ℕ) (stay : List ℕ) (before m : List StateStatus) (freed : Bool) (x : ℕ) : Type 0 where
  pub led : Led N stay before m
  pub sized : length m ≡ length before
  pub fewer : freed ≡ true → waiting N m < waiting N before
  pub kept : freed ≡ false → (m ≡ before) × ((y : ℕ) → y < x → mark_at m y ≡ NoPriceMove → leads_out N stay m y ≡ false)

pub pass-start : (N : ℕ) (stay : List ℕ) (l : List StateStatus) → Pass N stay l l false 0
pass-start N stay l = record {
  led = none;
  sized = refl;
  fewer = λ e. absurd (false≢true e);
  kept = λ e. (refl, λ y h. absurd (omega arith));
}

module _ (N : ℕ) (stay : List ℕ) (l m m' : List StateStatus) (freed : Bool) (x : ℕ) (p : Pass N stay l m freed x) where
  pub pass-freed : x < N → N ≤ length l → Freed N stay m m' x → Pass N stay l m' true (x + 1)
  pass-freed h r w =
      let enough : N ≤ length m = rw p.sized r in
      let f = freed-less N stay m m' x h enough w in
      record {
        led = more p.led h w;
        sized = freed-length N stay m m' x h enough w ∙ p.sized;
        fewer = λ e. ⊎_elim (λ t. let g = p.fewer t in omega arith) (λ t. rw (← (p.kept t).0) f) (yes_or_no freed);
        kept = λ e. absurd (true≢false e);
      }

  pub pass-left : Left N stay m m' x → Pass N stay l m' freed (x + 1)
  pass-left w = rw w.same (record {
    led = p.led;
    sized = p.sized;
    fewer = p.fewer;
    kept = λ t. ((p.kept t).0, below_more (λ y. mark_at m y ≡ NoPriceMove → leads_out N stay m y ≡ false) x (p.kept t).1 w.leads-not);
  })

pub pass-end : (N : ℕ) (stay : List ℕ) (l m : List StateStatus) (freed : Bool) (x : ℕ) → Pass N stay l m freed x → N ≤ x → Turned N stay l m freed
pass-end N stay l m freed x p h = record {
  led = p.led;
  fewer = p.fewer;
  closed = λ e y b t. (p.kept e).1 y (omega arith) t;
}

-- ---- turns one after the other

pub led-led : (N : ℕ) (stay : List ℕ) (l m k : List StateStatus) → Led N stay l m → Led N stay m k → Led N stay l k
led-led N stay l m k a none = a
led-led N stay l m k a (more {m = j} q h w) = more (led-led N stay l m j a q) h w

pub led-length : (N : ℕ) (stay : List ℕ) (l m : List StateStatus) → N ≤ length l → Led N stay l m → length m ≡ length l
led-length N stay l m r none = refl
led-length N stay l m r (more {m = k} {x = x} q h w) =
    let e = led-length N stay l k r q in
    freed-length N stay k m x h (rw e r) w ∙ e

pub led-elsewhere : (N : ℕ) (stay : List ℕ) (l m : List StateStatus) → N ≤ length l → Led N stay l m → (i : ℕ) → N ≤ i → mark_at m i ≡ mark_at l i
led-elsewhere N stay l m r none i g = refl
led-elsewhere N stay l m r (more {m = k} {x = x} q h w) i g =
    let e = led-length N stay l k r q in
    let d : i ≢ x = omega arith in
    freed-other N stay k m x h (rw e r) w i d ∙ led-elsewhere N stay l k r q i g

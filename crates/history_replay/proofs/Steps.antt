-- A replay call by call: each call's answer and the site after it, and the run of all.
use Prim.Native.Nat.{ℕ, zero, suc, ◌+◌, ◌-◌, ◌≤◌, ◌<◌}
use mathlib.Core.Path.{◌≡◌, refl, sym, ap, ◌∙◌}
use mathlib.Core.Bool.{Bool, true, false, cond}
use mathlib.Core.List.{List, [], ◌∷◌, ◌++◌, append-nil, append_assoc}
use mathlib.Core.Option.{Option, none, some}
use native.Mathlib.Omega.{arith}
use native.Mathlib.Numerals.{add-one}
use lib.ListN.{length, take, drop, set}
use lib.Seq.{sets, sets-eq, take-suc-set, append_snoc, take_all}
use borrow.Rule.Slice.PartMut.{mid_of, put_mid, mid_len, Post-is}
use Rattle.basics.proofs.Tests.{still, gone}
use Rattle.refusals.specs.Refusals.{check_number, Check}
use Rattle.std.specs.Prelude.{Result, Ok, Err}
use Rattle.refusals.specs.declared.Refusal.{Refusal}
use Rattle.config.specs.declared.MicroPriceConfig.{MicroPriceConfig}
use Rattle.tally.specs.Rules.{Memory}
use Rattle.calibrator.specs.Record.{Previous}
use Rattle.image.specs.Image.{Saved, end_save, saved, Taken, taken_unless, end_restore, restored, restore_refusal}
use Rattle.history.specs.Calls.{Call, restore, restores, after_restore, act, run}
use Rattle.history_replay.specs.Replay.{start_at, well_coded, Site, call_at, site_after, is_foreign, is_left_out, other_configuration, answer_number, Stepped, stepped_to, stepped_unless, stepped, calls_from, calls_made, call_numbers, room_from, Replay, replay, replayed}
use Rattle.history_replay.specs.declared.inner.Part.{Part}
use Rattle.history_replay.specs.declared.inner.CodedCall.{CodedCall}
use Rattle.history_replay.specs.declared.inner.CodedCall.TheVariants.{Save, Restore}
use Rattle.history_replay.specs.Inner.{LiesIn, bytes_in, stepped_by, CallEnds}

-- ---- the operations

-- a restore into the calibrator's own memory: a refusal leaves it
own-left : (k : Check) (b : List ℕ) (m : Memory Previous) → (taken_unless k b m).left ≡ after_restore (taken_unless k b m).answer m (taken_unless k b m).left
own-left (Ok _) b m = refl
own-left (Err r) b m = refl

module _ (c : MicroPriceConfig) (m : Memory Previous) (b : List ℕ) {f : Bool} (test : f ≡ is_foreign c b m.counts.tables) where
  pub restore-ends : f ≡ false → {a : Result MicroPriceConfig Refusal} {left : Memory Previous} → end_restore a left ≡ restored b m
      → CallEnds c m (restore b m) (answer_number (restores a)) left
  restore-ends e taken = (
    rw (← test, e) (ap (λ (t : Taken). answer_number (restores t.answer)) taken),
    rw (← test, e) (ap (λ (t : Taken). t.left) taken ∙ own-left (restore_refusal b m.counts.tables) b m),
  )

-- ---- one call

-- the part of xs from a to e, taken out and put back as ys
put_is : (a e : ℕ) (xs ys : List ℕ) → a ≤ e → e ≤ length xs → length ys ≡ length (mid_of a (e - a) xs) → put_mid a (e - a) xs ys ≡ sets xs a ys
put_is a e xs ys o h l =
    let n = mid_len a e xs h in
    let z : e ≡ a + length ys = omega arith in
    ap (λ (r : List ℕ). take a xs ++ (ys ++ r)) (Post-is a e xs o ∙ ap (λ (j : ℕ). drop j xs) z)
    ∙ sym (append_assoc (take a xs) ys (drop (a + length ys) xs))
    ∙ sym (sets-eq ys xs a (omega arith))

module _ (c : MicroPriceConfig) (s : Site) (p : Part) where
  abbrev steps_to : CodedCall → ℕ → Memory Previous → List ℕ → Type 0
  steps_to l n m room = stepped_to n (record { memory = m; room = room }) ≡ stepped_by c l s

  -- the output that save leaves is put back into the room
  pub save-steps : LiesIn (length s.room) (Save p) → {a : Check} {ys : List ℕ} → end_save a ys ≡ saved c s.memory (bytes_in p s.room)
      → length ys ≡ length (mid_of p.start (p.end - p.start) s.room) → steps_to (Save p) (check_number a) s.memory (put_mid p.start (p.end - p.start) s.room ys)
  save-steps h {ys = ys} es l =
      let put = put_is p.start p.end s.room ys h.0 h.1 l in
      λ i. stepped_to (check_number (es i).answer)
      (record { memory = s.memory; room = (put ∙ ap (λ (t : Saved). sets s.room p.start t.output) es) i })

  -- a restore, left out or made, leaves the room as it was
  room-left : (out : Bool) (b : List ℕ) → let a = act c s.memory (restore b s.memory) in
      stepped_to (cond out other_configuration (answer_number a.answer)) (record { memory = cond out s.memory a.left; room = s.room })
      ≡ stepped_unless out a p.start s
  room-left true b = refl
  room-left false b = refl

  pub restore-steps : {n : ℕ} {m : Memory Previous} → CallEnds c s.memory (restore (bytes_in p s.room) s.memory) n m → steps_to (Restore p) n m s.room
  restore-steps e =
      let b = bytes_in p s.room in
      (λ i. stepped_to (e.0 i) (record { memory = e.1 i; room = s.room })) ∙ room-left (is_left_out c (restore b s.memory)) b

-- ---- the steps

module _ (f : ℕ → Site → Stepped) where
  -- the numbers of n calls from call k on, and where they end
  abbrev pub numbers_from : ℕ → ℕ → Site → List ℕ
  numbers_from k zero s = []
  numbers_from k (suc n) s = (f k s).answer ∷ numbers_from (suc k) n (f k s).after

  abbrev pub end_from : ℕ → ℕ → Site → Site
  end_from k zero s = s
  end_from k (suc n) s = end_from (suc k) n (f k s).after

module _ (f : ℕ → Site → Stepped) (m k : ℕ) (s s' : Site) (a : ℕ) (h : k < m) (e : stepped_to a s' ≡ f k s) where
  pub end_step_lem : end_from f k (m - k) s ≡ end_from f (k + 1) (m - (k + 1)) s'
  end_step_lem =
      ap (λ (n : ℕ). end_from f k n s) (still k m h)
      ∙ (λ i. end_from f (suc k) (m - (k + 1)) (sym e i).after)
      ∙ ap (λ (j : ℕ). end_from f j (m - (k + 1)) s') (sym (add-one k))

  pub numbers-step : (ns : List ℕ) → m ≡ length ns
      → take k ns ++ numbers_from f k (m - k) s ≡ take (k + 1) (set ns k a) ++ numbers_from f (k + 1) (m - (k + 1)) s'
  numbers-step ns l =
      rw (still k m h, ← e, add-one, take-suc-set ns k a (omega arith), append_snoc (take k ns) a)

module _ (f : ℕ → Site → Stepped) (m k : ℕ) (s : Site) (h : m ≤ k) where
  pub end-end : end_from f k (m - k) s ≡ s
  end-end = rw (gone k m h)

  pub numbers-end : (ns : List ℕ) → m ≡ length ns → take k ns ++ numbers_from f k (m - k) s ≡ ns
  numbers-end ns l = rw (gone k m h, take_all k ns (omega arith), append-nil)

-- ---- the run is the steps

module _ (c : MicroPriceConfig) (w : List ℕ) where
  -- the run of a list whose first call is call k
  abbrev ran_from : ℕ → List (Option Call) → Site → Replay
  ran_from k ks s =
      let r = run c s.memory (calls_made ks) in
      replay (Ok _) (call_numbers ks r.answers) (record { memory = r.left; room = room_from w k ks r.answers s.room })

  -- n calls from call k on, step by step
  abbrev steps_from : ℕ → ℕ → Site → Replay
  steps_from k n s = replay (Ok tt) (numbers_from (stepped c w) k n s) (end_from (stepped c w) k n s)

  -- call k, left out or made, before n calls of which it is known
  run_step : (k n : ℕ) (s : Site) → ((t : Site) → ran_from (suc k) (calls_from c w (suc k) n t) t ≡ steps_from (suc k) n t)
      → (out : Bool) → let t = stepped_unless out (act c s.memory (call_at w k s)) (start_at w k) s in
      ran_from k (cond out none (some (call_at w k s)) ∷ calls_from c w (suc k) n t.after) s
      ≡ replay (Ok tt) (t.answer ∷ numbers_from (stepped c w) (suc k) n t.after) (end_from (stepped c w) (suc k) n t.after)
  run_step k n s later true = ap (λ (r : Replay). replay (Ok tt) (other_configuration ∷ r.numbers) r.after) (later s)
  run_step k n s later false =
      let a = act c s.memory (call_at w k s) in
      ap (λ (r : Replay). replay (Ok tt) (answer_number a.answer ∷ r.numbers) r.after) (later (site_after a (start_at w k) s.room))

  run-steps : (k n : ℕ) (s : Site) → ran_from k (calls_from c w k n s) s ≡ steps_from k n s
  run-steps k zero s = refl
  run-steps k (suc n) s = run_step k n s (λ t. run-steps (suc k) n t) (is_left_out c (call_at w k s))

  pub replay-done : (s s' : Site) (ns ns' : List ℕ) → well_coded (length s.room) (length ns) w ≡ true → ns' ≡ numbers_from (stepped c w) 0 (length ns) s
      → s' ≡ end_from (stepped c w) 0 (length ns) s → replay (Ok tt) ns' s' ≡ replayed c s w ns
  replay-done s s' ns ns' e p q = rw e ((λ i. replay (Ok tt) (p i) (q i)) ∙ sym (run-steps 0 (length ns) s))

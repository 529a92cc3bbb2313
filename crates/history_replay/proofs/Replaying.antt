-- The loop of a replay: what holds before call k, that a call keeps it, and what it gives when all calls are made.
use Prim.Native.Nat.{ℕ, ◌+◌, ◌-◌, ◌/◌, ◌≤◌, ◌<◌}
use mathlib.Core.Path.{◌≡◌, sym, ap, ◌∙◌}
use mathlib.Core.Bool.{true, true≢false}
use mathlib.Core.List.{List, [], ◌++◌}
use native.Mathlib.Omega.{arith}
use lib.ListN.{length, get_or, take, set, length-set}
use Rattle.config.specs.declared.MicroPriceConfig.{MicroPriceConfig}
use Rattle.history_replay.specs.Replay.{is_call, well_coded, Site, stepped_to, stepped, replay, Promised}
use Rattle.std.specs.Prelude.{Result, Ok, Err}
use Rattle.history_replay.specs.declared.BadEncoding.{BadEncoding}
use Rattle.history_replay.specs.declared.inner.CodedCall.{CodedCall}
use Rattle.history_replay.specs.Inner.{decoded, stepped_by}
use Rattle.history_replay.proofs.Decoding.{read-ok, read-err, coded-call, coded-long, coded-steps}
use Rattle.history_replay.proofs.Chunks.{read-chunk}
use Rattle.std.specs.Simd.{first_chunks}
use Rattle.history_replay.proofs.Replays.{promised}
use Rattle.history_replay.proofs.Steps.{numbers_from, end_from, numbers-step, end_step_lem, numbers-end, end-end, replay-done}

-- from s₀ and ns₀, before call k of a well coded list: the answers so far, then the numbers of the calls from k on, are the numbers of all calls; and the calls
-- from k on end where all end
pub record Replaying (c : MicroPriceConfig) (w : List ℕ) (s₀ : Site) (ns₀ : List ℕ) (k : ℕ) (s : Site) (ns : List ℕ) : Type 0 where
  pub coded : well_coded (length s₀.room) (length ns₀) w ≡ true
  pub room-kept : length s.room ≡ length s₀.room
  pub answers-kept : length ns ≡ length ns₀
  pub numbers : take k ns ++ numbers_from (stepped c w) k (length ns₀ - k) s ≡ numbers_from (stepped c w) 0 (length ns₀) s₀
  pub end : end_from (stepped c w) k (length ns₀ - k) s ≡ end_from (stepped c w) 0 (length ns₀) s₀

module _ {c : MicroPriceConfig} {w : List ℕ} {s₀ : Site} {ns₀ : List ℕ} {k : ℕ} {s : Site} {ns : List ℕ} (r : Replaying c w s₀ ns₀ k s ns) where
  -- call k, read of its six words in cs
  module _ {cs : List (List ℕ)} (front : cs ≡ first_chunks 6 (length w / 6) w) {x : Result CodedCall BadEncoding}
      (read : x ≡ decoded (length s.room) (get_or cs k []) 0) (h : k < length ns₀) where
    read-call : x ≡ decoded (length s.room) w k
    read-call =
        let l = coded-long (length s₀.room) (length ns₀) w r.coded in read-chunk (length s.room) k w front (omega arith) read

    -- it is a call
    pub replaying-reads : {d : BadEncoding} {G : Type 0} → x ≡ Err d → G
    replaying-reads e =
        let is : is_call (length s.room) w k ≡ true = rw r.room-kept (coded-call (length s₀.room) w k (length ns₀) r.coded h).1 in
        absurd (true≢false (sym is ∙ read-err (length s.room) w k read-call e))

    -- and is made
    pub replaying-step : {l : CodedCall} → x ≡ Ok l → {a : ℕ} {s' : Site} → stepped_to a s' ≡ stepped_by c l s → length s'.room ≡ length s.room
        → Replaying c w s₀ ns₀ (k + 1) s' (set ns k a)
    replaying-step {l} t {a} {s'} e n =
        let step : stepped_to a s' ≡ stepped c w k s =
        e ∙ ap (λ (j : CodedCall). stepped_by c j s) (read-ok (length s.room) w k read-call t).1 ∙ coded-steps w k c s in
        record {
          coded = r.coded;
          room-kept = n ∙ r.room-kept;
          answers-kept = length-set ns k a ∙ r.answers-kept;
          numbers = sym (numbers-step (stepped c w) (length ns₀) k s s' a h step ns (sym r.answers-kept)) ∙ r.numbers;
          end = sym (end_step_lem (stepped c w) (length ns₀) k s s' a h step) ∙ r.end;
        }

  pub replaying-done : length ns₀ ≤ k → Promised c s₀ w ns₀ (replay (Ok tt) ns s)
  replaying-done h =
      promised c s₀ w ns₀ (replay (Ok tt) ns s)
      (replay-done c w s₀ s ns₀ ns r.coded
      (sym (numbers-end (stepped c w) (length ns₀) k s h ns (sym r.answers-kept)) ∙ r.numbers)
      (sym (end-end (stepped c w) (length ns₀) k s h) ∙ r.end))

-- A replay that is the run of its calls is, of a calibrator's own calls, what their history says.
use mathlib.Core.Path.{◌≡◌, ap, ◌∙◌}
use mathlib.Core.Bool.{Bool, cond}
use mathlib.Core.List.{List}
use Prim.Native.Nat.{ℕ}
use lib.ListN.{length}
use Rattle.config.specs.declared.MicroPriceConfig.{MicroPriceConfig}
use Rattle.tally.specs.Rules.{Memory}
use Rattle.std.specs.Prelude.{Err}
use Rattle.calibrator.specs.Record.{Previous}
use Rattle.history.specs.Calls.{run, history_memory, Past, new_past}
use Rattle.history.proofs.Claim.{own-parts, part-claim}
use Rattle.history.proofs.Demand.{demand-3}
use Rattle.history_replay.specs.Replay.{badly_coded, Site, Replay, replay, replay_end, replay_run, replayed, replay_history, calls_from, calls_made, OwnCalls, past_of, Promised}

pub promised : (c : MicroPriceConfig) (s : Site) (w ns : List ℕ) (r : Replay) → r ≡ replayed c s w ns → Promised c s w ns r
promised c s w ns r e = record { run_is = e; history-is = of-history }
  where
    of-history : (o : OwnCalls c s w ns) → r ≡ replay_history c (past_of c o.before) s.room w (calls_from c w 0 (length ns) s)
    of-history o =
        let ks = calls_from c w 0 (length ns) s in
        let P : Past = past_of c o.before in
        let own = own-parts c o.valid-is o.words o.before (calls_made ks) (new_past c) o.own in
        let here : s.memory ≡ history_memory c P.now = o.reached ∙ (demand-3 c o.valid-is o.words o.before own.0).memory in
        let d = part-claim c o.valid-is o.words o.before (calls_made ks) o.own in
        e
        ∙ ap (λ (t : Bool). cond t (replay_run c s w ks) (replay (Err badly_coded) ns s)) o.coded
        ∙ ap (λ (m : Memory Previous). let r = run c m (calls_made ks) in replay_end w s.room ks r.answers r.left) here
        ∙ (λ i. replay_end w s.room ks (d.answers i) (d.memories i))

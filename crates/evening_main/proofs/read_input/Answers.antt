use Rattle.std.proofs.Common.{arith, subst}
use Rattle.std.specs.Io.KnownBytes.{Consumes}
use Rattle.std.proofs.KnownBytes.{Consumes-trans}
use Rattle.evening_main.proofs.Inputs.{front_more}
use Rattle.evening_main.proofs.read_input.Goals as goal

pub loop-at-preserved : goal.loop-at-preserved
loop-at-preserved g c =
    let l = c.loop-at in
    let n = c.in_ok-n in
    let within = n.ensures.bound.0 in (
      omega arith,
      subst (Consumes _ _) (front_more l.at n.n l.buffer c.read.new.buf l.invariant.0 within)
          (Consumes-trans _ _ _ _ _ l.invariant.1 n.ensures.bytes.0),
    )

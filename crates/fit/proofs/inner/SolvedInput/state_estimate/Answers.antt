-- `fit::inner::SolvedInput::state_estimate` meets its contract: state i's estimate, made of what scratch has for it and its mirror, of its observations and of
-- its mark (`row_made`). No loop. The callees ask that i and its mirror are states, and that bucket and spread are small: the remainder and the quotient of i
-- are at most i.
use Rattle.fit.proofs.Judging.{row_made}
use Rattle.fit.proofs.inner.SolvedInput.state_estimate.Goals as goal

pub returns : goal.returns
returns c = row_made c.args.self.now c.args.i c.requires c.solved_in-solved.ensures c.observations_of.ensures c.estimate_of.ensures

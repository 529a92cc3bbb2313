-- `program_report::put_request` meets its contract: N is at most 27, so the memory that an evening of N states needs can be cut from the arrays, and what is
-- cut from zeros is zeros (`cut-zeros`). That is all that `put_evening` asks for, and its promise is the contract. No loop.
use Rattle.std.proofs.Common.{◌≤◌, arith}
use Rattle.program_report.proofs.Evenings.{cut-zeros}
use Rattle.program_report.proofs.put_request.Goals as goal

pub put_evening-requires : goal.put_evening-requires
put_evening-requires c =
    let few : c.states_of-n.result ≤ 27 = omega arith in
    (c.states_of-n.ensures, few, omega arith, cut-zeros few)

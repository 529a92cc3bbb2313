-- `program_lines::put_spaced` meets its contract: a number below 2^64 has at most 20 digits (`number_in`, `decimal-word`), and a space follows (`both`).
use Rattle.std.proofs.Common.{arith}
use Rattle.program_text.proofs.Decimals.{decimal-word}
use Rattle.program_lines.proofs.Within.{bytes-in, number_in, both}
use Rattle.program_lines.proofs.put_spaced.Goals as goal

pub number-requires : goal.number-requires
number-requires c = omega (arith, decimal-word c.args.n c.ranges.n.fits)

pub text-requires : goal.text-requires
text-requires c = omega (arith, decimal-word c.args.n c.ranges.n.fits, c.number.ensures.put.next-is)

pub returns : goal.returns
returns c = both (number_in c.ranges.n.fits c.number.ensures) (bytes-in c.text.ensures)

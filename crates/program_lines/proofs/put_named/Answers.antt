-- `program_lines::put_named` meets its contract: the word (`bytes-in`), the number, which has at most 20 digits since it is below 2^64 (`number_in`,
-- `decimal-word`), and a newline, one after another (`both`).
use Rattle.std.proofs.Common.{arith}
use Rattle.program_text.proofs.Decimals.{decimal-word}
use Rattle.program_lines.proofs.Within.{bytes-in, number_in, loosely, both}
use Rattle.program_lines.proofs.put_named.Goals as goal

pub number-requires : goal.number-requires
number-requires c = omega (arith, decimal-word c.args.n c.ranges.n.fits, c.text.ensures.put.next-is)

pub text-requires-2 : goal.text-requires-2
text-requires-2 c = omega (arith, decimal-word c.args.n c.ranges.n.fits, c.text.ensures.put.next-is, c.number.ensures.put.next-is)

pub returns : goal.returns
returns c =
    loosely (omega arith) (both (both (bytes-in c.text.ensures) (number_in c.ranges.n.fits c.number.ensures)) (bytes-in c.text-2.ensures))

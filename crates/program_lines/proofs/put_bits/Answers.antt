-- `program_lines::put_bits` meets its contract: 16 digits (`bits_in`) and one byte (`bytes-in`), one after the other (`both`), are at most 17. The space has
-- room since the digits ended 16 bytes after `at` (`length-hex16`).
use Rattle.std.proofs.Common.{arith}
use Rattle.program_text.proofs.Puts.{length-hex16}
use Rattle.program_lines.proofs.Within.{bytes-in, bits_in, both}
use Rattle.program_lines.proofs.put_bits.Goals as goal

pub text-requires : goal.text-requires
text-requires c = omega (arith, length-hex16 c.args.w, c.hex.ensures.put.next-is)

pub returns : goal.returns
returns c = both (bits_in _ c.hex.ensures) (bytes-in c.text.ensures)

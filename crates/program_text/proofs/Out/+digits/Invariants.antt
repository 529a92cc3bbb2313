-- `program_text::Out::digits` meets its contract: the last k hexadecimal digits of w are written. It calls itself; the measure is k, which is one less in the
-- call. With k = 0 nothing is written; else the call has written the last k - 1 digits of w / 16, and the digit of w % 16 goes behind them (`more_hex`). There
-- is room for it since the call wrote k - 1 bytes and left the output as long as it was (`hex-inside`).
use Rattle.program_text.proofs.Out.+digits.Given as goal

abbrev pub decreases-digits : goal.decreases-digits
decreases-digits l = l.k

-- `console::text::Text::digits`: no digit, one, or those of the rest and the last.
use Rattle.std.proofs.Common.{arith}
use Rattle.console.proofs.Puts.{none, more}
use Rattle.console.proofs.Digits.{no-digits, one-digit, more-digits}
use Rattle.console.proofs.text.Text.+digits.Goals as goal

pub returns-then-most-eq0 : goal.returns-then-most-eq0
returns-then-most-eq0 t c = let at = c.args in rw (no-digits at.most at.n (omega arith)) (none at.self.now)

pub returns-then-n-lt10 : goal.returns-then-n-lt10
returns-then-n-lt10 t c = let at = c.args in rw (one-digit at.most at.n (omega arith) (omega arith)) c.byte.ensures

pub returns : goal.returns
returns t c = let at = c.args in rw (more-digits at.most at.n (omega arith) (omega arith)) (more c.digits.ensures c.byte-2.ensures)

-- A text that is too long after a read was too long with all that was left of the file.
use Rattle.std.proofs.Common.{ℕ}
use Rattle.bg_io.proofs.Texts.{too_long_gives, with_rest-longer}
use Rattle.bg_io.proofs.reading.append_file.Goals as goal

pub returns-in-Err-clause-longer : goal.returns-in-Err-clause-longer
returns-in-Err-clause-longer g c =
    too_long_gives ℕ (Unit {0}) _ _ c.in-Err.e
    (λ (n : ℕ) h. with_rest-longer c.args.limit _ _ c.loop-e.text.items c.args.text.now.items _ _ c.loop-e.text.ok.0 c.args.text.now.ok.0 c.loop-e.invariant.so_far h)
    c.in-Err.ensures.longer

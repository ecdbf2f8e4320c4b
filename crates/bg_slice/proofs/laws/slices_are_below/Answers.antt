use Rattle.bg_slice.proofs.Below.{blocks_less}
use Rattle.bg_slice.proofs.Guarding.{guards_named, guards_count}
use Rattle.bg_slice.proofs.laws.slices_are_below.Goals as goal

pub returns-clause-less : goal.returns-clause-less
returns-clause-less c t n these bs h = blocks_less t n these bs h

pub returns-clause-named : goal.returns-clause-named
returns-clause-named c n m bs h = guards_named n m bs h

pub returns-clause-count : goal.returns-clause-count
returns-clause-count c m bs = guards_count bs 0 m

use Rattle.bg_check.proofs.fitting.entries_fit.Goals as goal

pub returns-then-not-entry_fits-clause-rise : goal.returns-then-not-entry_fits-clause-rise
returns-then-not-entry_fits-clause-rise c = c.iter-key-items.ensures.ordered

pub returns-clause-rise : goal.returns-clause-rise
returns-clause-rise c = c.iter-key-items.ensures.ordered

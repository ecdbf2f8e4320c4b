use Rattle.std.proofs.Common.{sym}
use Rattle.bg_text.proofs.Lists.{ex_of-Chain}
use Rattle.bg_names.proofs.clauses.guard.Goals as goal

pub returns-in-Chain-clause-ok : goal.returns-in-Chain-clause-ok
returns-in-Chain-clause-ok c = rw (c.in-Chain.is, ex_of-Chain c.in-Chain.first c.in-Chain.links, sym c.deref.ensures, sym c.deref-in-Chain.ensures.value) c.behind.ensures.ok

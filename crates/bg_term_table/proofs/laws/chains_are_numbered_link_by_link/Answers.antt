use Rattle.bg_term_table.proofs.Linked.{table, made}
use Rattle.bg_term_table.proofs.laws.chains_are_numbered_link_by_link.Goals as goal

pub returns-clause-table : goal.returns-clause-table
returns-clause-table c fs incs signs es a ts = table fs incs signs es a ts

pub returns-clause-made : goal.returns-clause-made
returns-clause-made c fs incs signs es a ts = made fs incs signs es a ts

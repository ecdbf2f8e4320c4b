-- Passive blocks as blocks of forms over truth incarnations and the rows of relations.
use Rattle.std.specs.Prelude.{ℕ, List, map}
use Rattle.bg_passive.specs.Passive.{PassiveCmd, Claims, Supposes, Edge, PassiveBlock}
use Rattle.bg_formula.specs.Atoms.{AtomOf}
use Rattle.bg_formed.specs.Formed.{FormCmd, Asks, Takes, FormEdge, FormBlock}
use Rattle.bg_linear.specs.declared.scalar.Sort.{Sort}
use Rattle.bg_atoms.specs.Over.{says_over}

abbrev pub cmd_over : List Sort → ℕ → List AtomOf → PassiveCmd → FormCmd
cmd_over sorts n rows (Claims s b e) = Asks s b (says_over sorts n rows e)
cmd_over sorts n rows (Supposes b e) = Takes b (says_over sorts n rows e)

abbrev pub edge_over : List Sort → ℕ → List AtomOf → Edge → FormEdge
edge_over sorts n rows e = record { cmds = map (cmd_over sorts n rows) e.cmds; to = e.to }

abbrev pub block_over : List Sort → ℕ → List AtomOf → PassiveBlock → FormBlock
block_over sorts n rows b = record { cmds = map (cmd_over sorts n rows) b.cmds; next = map (edge_over sorts n rows) b.next }

-- the blocks of forms, where these rows are the atoms from n on
abbrev pub blocks_over : List Sort → ℕ → List AtomOf → List PassiveBlock → List FormBlock
blocks_over sorts n rows bs = map (block_over sorts n rows) bs

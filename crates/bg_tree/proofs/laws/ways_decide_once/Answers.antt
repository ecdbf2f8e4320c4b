use Rattle.bg_cert.specs.Certs.{root}
use Rattle.bg_tree.proofs.Paths.{way_once, way_bounds}
use Rattle.bg_tree.proofs.laws.ways_decide_once.Goals as goal

pub returns-clause-once : goal.returns-clause-once
returns-clause-once c = way_once

pub returns-clause-bounds : goal.returns-clause-bounds
returns-clause-bounds c = λ targets f set ds w. way_bounds targets f set (root f) ds w

use Rattle.std.proofs.Common.{◌≡◌, ◌++◌, map, drop}
use Rattle.bg_text.specs.Views.{id_of}
use Rattle.bg_cert.specs.Certs as c
use Rattle.bg_certtext.specs.Views.{node_of}
use Rattle.bg_accept.specs.Sections.{node_in}
use Rattle.bg_accept.proofs.section.nodes_of.Given as goal

abbrev pub invariant-loop-k : goal.invariant-loop-k
invariant-loop-k l =
    map c.node_of l.made.items ++ map (node_in (map id_of l.numbers.candidates.now)) (map node_of (drop l.k l.nodes))
    ≡ map (node_in (map id_of l.numbers.candidates.now)) (map node_of l.nodes)

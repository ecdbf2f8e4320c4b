use Rattle.std.proofs.Common.{◌≡◌, ◌+◌, drop, map, ◌∷◌, [], length}
use Rattle.bg_formula.specs.Formulas.{formula_of}
use Rattle.bg_cert.specs.Certs.{accepts, root_with, node_of, cert_of}
use Rattle.bg_cert.specs.Walks.{has, no_instance}
use Rattle.bg_cert.specs.Tours.{IsTour, path_in, stack_of, atoms_on}
use Rattle.bg_cert.proofs.check.is_tree.Given as goal

abbrev pub invariant-loop-k : goal.invariant-loop-k
invariant-loop-k l =
    record {
      tours : IsTour l.tour;
      sized : atoms_on l.tour ≡ length l.f.atoms.items + length l.cert.table.items;
      told : accepts (formula_of l.f) (has l.set) no_instance (stack_of (path_in (formula_of l.f) l.cert) l.tour) (map node_of (drop l.k l.cert.nodes.items)) ≡ accepts (formula_of l.f) (has l.set) no_instance (root_with (formula_of l.f) (cert_of l.cert).table ∷ []) (map node_of l.cert.nodes.items);
    }

use Rattle.std.proofs.Common.{◌≡◌, ◌++◌, map, drop}
use Rattle.bg_text.specs.Views.{id_of}
use Rattle.bg_certify.specs.Names.{names_in}
use Rattle.bg_certify.proofs.names.retained_names.Given as goal

abbrev pub invariant-loop-c : goal.invariant-loop-c
invariant-loop-c l =
    map (λ n. n.now) l.made.items ++ names_in (drop l.c l.set) (map id_of (drop l.c l.names)) ≡ names_in l.set (map id_of l.names)

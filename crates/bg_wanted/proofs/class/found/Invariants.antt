use Rattle.std.proofs.Common.{◌≡◌, List, drop}
use Rattle.bg_ast.specs.Syntax.{Fun}
use Rattle.bg_kinds.specs.Views.{keys_of, ref_of}
use Rattle.bg_term_table.specs.Views.{terms_in}
use Rattle.bg_wanted.specs.Classes.{first_met}
use Rattle.bg_wanted.proofs.class.found.Given as goal

abbrev pub invariant-loop-m : goal.invariant-loop-m
invariant-loop-m l =
    (fs : List Fun) → first_met (terms_in fs l.terms) (keys_of l.keys) (ref_of l.gives) l.met ≡ first_met (terms_in fs l.terms) (keys_of l.keys) (ref_of l.gives) (drop l.m-index l.met)

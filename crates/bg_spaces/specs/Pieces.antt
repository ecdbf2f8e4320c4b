-- Parts of specifications and of bodies.
use Rattle.std.specs.Prelude.{List, flat_map}
use Rattle.bg_text.specs.Trees as t
use Rattle.bg_names.specs.Faults.{Fault}
use Rattle.bg_names.specs.Spaces.{Scope}
use Rattle.bg_names.specs.Clauses.{clause_faults}
use Rattle.bg_spaces.specs.Declarations.{Spaces, modified_faults}

-- the faults of a part of a specification, where preconditions see this and postconditions that
abbrev pub spec_faults_in : Spaces → Scope → Scope → t.Spec → List Fault
spec_faults_in g before after (t.Requires k) = clause_faults before k
spec_faults_in g before after (t.Ensures k) = clause_faults after k
spec_faults_in g before after (t.Modifies p xs) = flat_map (modified_faults g) xs

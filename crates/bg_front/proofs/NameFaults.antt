-- Declarations that mean a program have no fault of names that is answered.
use Rattle.std.proofs.Common.{◌≡◌, List, [], ◌++◌, Some, None, sym, ap, ◌∙◌}
use Rattle.bg_text.specs.Trees.{Decl}
use Rattle.bg_names.specs.Faults.{Fault, better}
use Rattle.bg_names.specs.Spaces.{names_of}
use Rattle.bg_spaces.specs.Declarations.{function_ids}
use Rattle.bg_resolve.specs.Program.{plain_faults}
use Rattle.bg_resolve.specs.Resolves.{IsToldFault}
use Rattle.bg_resolve.proofs.Told.{one_recursion}
use Rattle.bg_front.proofs.Named.{AreNamed}

pub named_no_fault : (ds : List Decl) (f : Fault) → AreNamed ds → IsToldFault ds f → ⊥
named_no_fault ds f a b =
    let none : b.0 ≡ [] = one_recursion (names_of (function_ids ds)) ds b.0 [] b.1 a.1 in
    let all : plain_faults ds ++ b.0 ≡ [] = ap (λ (l : List Fault). l ++ b.0) a.0 ∙ none in
    let bad : None ≡ Some f = sym (ap (better None) all) ∙ b.2 in
    absurd cc

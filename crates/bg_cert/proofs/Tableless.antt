-- Certificates without rows of their own.
use Rattle.std.proofs.Common.{◌≡◌, ℕ, Bool, true, List, [], ◌∷◌, ap, ◌∙◌, append-nil}
use Rattle.std.specs.Prelude.{Option}
use Rattle.bg_formula.specs.Formulas.{Formula}
use Rattle.bg_formula.specs.Instances.{Instance, SignedAtom}
use Rattle.bg_cert.specs.Certs.{NodeOf, accepts, root, root_with, bare, Accepts}

root_bare : (f : Formula) → root_with f [] ≡ root f
root_bare f = ap (λ xs. record (root f) { atoms = xs }) (append-nil f.atoms)

pub bare_accepted : (f : Formula) (set : ℕ → Bool) (adds : Instance → Option (List (List SignedAtom))) (ns : List NodeOf) → accepts f set adds (root f ∷ []) ns ≡ true → Accepts f set adds (bare ns)
bare_accepted f set adds ns h = ap (λ p. accepts f set adds (p ∷ []) ns) (root_bare f) ∙ h

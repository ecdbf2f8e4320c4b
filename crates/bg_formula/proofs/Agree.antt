-- The rows among the atoms of the code stand there with their denials.
use Rattle.std.proofs.Common.{List, [], ◌∷◌, map}
use Rattle.bg_formula.specs.declared.atom.Atom.{Atom}
use Rattle.bg_formula.specs.declared.atom.Atom.TheVariants.{Truth, Holds}
use Rattle.bg_formula.specs.Atoms.{atom_of}
use Rattle.bg_formula.specs.Meaning.{AtomsAgree}

pub atoms_agree : (atoms : List Atom) → AtomsAgree (map atom_of atoms)
atoms_agree [] = tt
atoms_agree (Truth x ∷ rest) = atoms_agree rest
atoms_agree (Holds a ∷ rest) = (a.denies, atoms_agree rest)

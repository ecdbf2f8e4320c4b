-- A complete leaf by what once was asked, with a point that nothing calls for.
use Rattle.std.specs.Prelude.{◌≡◌, ◌^◌, ◌-◌, true, false, List, [], ◌∷◌, ℤ, pos, negsuc, map}
use Rattle.bg_rows.specs.Rows.{RowOf, row_of, entry}
use Rattle.bg_elim.specs.declared.order.Reason.TheVariants.{Given}
use Rattle.bg_formula.specs.Atoms.{IsRow}
use Rattle.bg_formula.specs.Formulas.{Formula}
use Rattle.bg_cert.specs.declared.cert.Decision.{Decision}
use Rattle.bg_cert.specs.declared.cert.Decision.TheVariants.{Atom, AtMost}
use Rattle.bg_tree.specs.declared.outcome.Leaf.{Leaf}

-- k times the only term is at most b
abbrev pub multiple : ℤ → ℤ → RowOf
multiple k b = record { entries = entry 0 k ∷ []; bound = b }

-- the clause of `procedure P(x: int) { assert x + x == 1; }`: 2x <= 1 and -2x <= -1 aren't both so
abbrev pub doubled : Formula
doubled =
    record {
      terms = 1;
      atoms =
          IsRow (multiple (pos 2) (pos 1)) (multiple (negsuc 1) (negsuc 1))
          ∷ IsRow (multiple (negsuc 1) (negsuc 0)) (multiple (pos 2) (pos 0))
          ∷ [];
      clauses = (record { atom = 0; sign = false } ∷ record { atom = 1; sign = false } ∷ []) ∷ [];
      candidates = [];
    }

-- -10^38, twice which is outside the range
abbrev pub far : ℤ
far = negsuc (10 ^ 38 - 1)

abbrev pub far_path : List Decision
far_path = Atom 0 true ∷ Atom 1 false ∷ AtMost 0 far true ∷ []

-- the rows of the path are kept, and the bound is the reason of the point
pub record IsFarLeaf (l : Leaf) : Type 0 where
  pub path : l.path.items ≡ far_path
  pub variables : l.order.variables.items ≡ 0 ∷ []
  pub reasons : l.order.reasons.items ≡ Given 0 ∷ Given 1 ∷ Given 2 ∷ []
  pub rows : map row_of l.order.rows.items ≡ multiple (pos 2) (pos 1) ∷ multiple (pos 2) (pos 0) ∷ multiple (pos 1) far ∷ []
  pub spots : l.spots.items ≡ record { variable = 0; value = far; reason = 2 } ∷ []

-- Forms whose atoms go elsewhere: denials and what is joined go with them.
use Rattle.std.proofs.Common.{◌≡◌, Bool, true, false, not, List, refl, sym, ap, ◌∙◌}
use Rattle.std.specs.Prelude.{◌&&◌, if◌then◌else◌}
use Rattle.bg_ast.specs.Syntax.{Op, And, Or, Implies, Iff, Equal, Unequal, Less}
use Rattle.bg_formula.specs.declared.atom.Literal.{Literal}
use Rattle.bg_forms.specs.Forms.{Form, Plain, Is, NotSo, Both, Same, opposite, is_literal, denied, both_beside, both_behind, both_of, any_of, same_behind, same_of, joined_by}
use Rattle.bg_forms.proofs.Meaning.{not_not}
use Rattle.bg_ahead.specs.Moved.{with_sign, moved_atom, moved, moved_form}

pub opposite_twice : (l : Literal) → opposite (opposite l) ≡ l
opposite_twice l = λ i. record { atom = l.atom; sign = not_not l.sign i }

opposite_by : (b : Bool) (l : Literal) → with_sign (not b) l ≡ opposite (with_sign b l)
opposite_by true l = refl
opposite_by false l = sym (opposite_twice l)

module _ (to : List Literal) where
  pub opposite_moved : (l : Literal) → moved to (opposite l) ≡ opposite (moved to l)
  opposite_moved l = opposite_by l.sign (moved_atom to l.atom)

  pub denied_moved : (f : Form) → denied (moved_form to f) ≡ moved_form to (denied f)
  denied_moved (Plain b) = refl
  denied_moved (Is l) = ap Is (sym (opposite_moved l))
  denied_moved (NotSo f) = refl
  denied_moved (Both f g) = refl
  denied_moved (Same f g) = refl

  literal_moved : (f : Form) → is_literal (moved_form to f) ≡ is_literal f
  literal_moved (Is l) = refl
  literal_moved _ = refl

  beside_by : (b : Bool) (f g : Form) → (if b then Both (moved_form to g) (moved_form to f) else Both (moved_form to f) (moved_form to g)) ≡ moved_form to (if b then Both g f else Both f g)
  beside_by true f g = refl
  beside_by false f g = refl

  beside_moved : (f g : Form) → both_beside (moved_form to f) (moved_form to g) ≡ moved_form to (both_beside f g)
  beside_moved f g =
      ap (λ b. if b && not (is_literal (moved_form to f)) then Both (moved_form to g) (moved_form to f) else Both (moved_form to f) (moved_form to g)) (literal_moved g)
      ∙ ap (λ b. if is_literal g && not b then Both (moved_form to g) (moved_form to f) else Both (moved_form to f) (moved_form to g)) (literal_moved f)
      ∙ beside_by (is_literal g && not (is_literal f)) f g

  behind_moved : (f g : Form) → both_behind (moved_form to f) (moved_form to g) ≡ moved_form to (both_behind f g)
  behind_moved f (Plain true) = refl
  behind_moved f (Plain false) = refl
  behind_moved f (Is l) = beside_moved f (Is l)
  behind_moved f (NotSo a) = beside_moved f (NotSo a)
  behind_moved f (Both a b) = beside_moved f (Both a b)
  behind_moved f (Same a b) = beside_moved f (Same a b)

  pub both_moved : (f g : Form) → both_of (moved_form to f) (moved_form to g) ≡ moved_form to (both_of f g)
  both_moved (Plain true) g = refl
  both_moved (Plain false) g = refl
  both_moved (Is l) g = behind_moved (Is l) g
  both_moved (NotSo a) g = behind_moved (NotSo a) g
  both_moved (Both a b) g = behind_moved (Both a b) g
  both_moved (Same a b) g = behind_moved (Same a b) g

  pub any_moved : (f g : Form) → any_of (moved_form to f) (moved_form to g) ≡ moved_form to (any_of f g)
  any_moved f g =
      ap (λ x. denied (both_of x (denied (moved_form to g)))) (denied_moved f)
      ∙ ap (λ x. denied (both_of (moved_form to (denied f)) x)) (denied_moved g)
      ∙ ap denied (both_moved (denied f) (denied g))
      ∙ denied_moved (both_of (denied f) (denied g))

  same_behind_moved : (f g : Form) → same_behind (moved_form to f) (moved_form to g) ≡ moved_form to (same_behind f g)
  same_behind_moved f (Plain true) = refl
  same_behind_moved f (Plain false) = denied_moved f
  same_behind_moved f (Is l) = refl
  same_behind_moved f (NotSo a) = refl
  same_behind_moved f (Both a b) = refl
  same_behind_moved f (Same a b) = refl

  pub same_moved : (f g : Form) → same_of (moved_form to f) (moved_form to g) ≡ moved_form to (same_of f g)
  same_moved (Plain true) g = refl
  same_moved (Plain false) g = denied_moved g
  same_moved (Is l) g = same_behind_moved (Is l) g
  same_moved (NotSo a) g = same_behind_moved (NotSo a) g
  same_moved (Both a b) g = same_behind_moved (Both a b) g
  same_moved (Same a b) g = same_behind_moved (Same a b) g

  pub joined_moved : (op : Op) (f g : Form) → joined_by op (moved_form to f) (moved_form to g) ≡ moved_form to (joined_by op f g)
  joined_moved And f g = both_moved g f
  joined_moved Or f g = any_moved g f
  joined_moved Implies f g = ap (λ x. any_of x (moved_form to g)) (denied_moved f) ∙ any_moved (denied f) g
  joined_moved Iff f g = same_moved g f
  joined_moved Equal f g = same_moved g f
  joined_moved Unequal f g = ap denied (same_moved g f) ∙ denied_moved (same_of g f)
  joined_moved Less f g = refl
  joined_moved _ f g = refl

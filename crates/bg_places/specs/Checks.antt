-- How many checks the parts of an implementation have.
use Rattle.std.specs.Prelude.{ℕ, suc, ◌+◌, ◌-◌, ◌^◌, min, if◌then◌else◌, List, [], ◌∷◌, get_or}
use Rattle.bg_ast.specs.Resolved.{Clause, St, Assert, Invoke, If, While, Sts, NoSt, Then, Arms, NoArm, Arm, Proc, Impl}

-- the clauses that are checked
abbrev pub checked : List Clause → ℕ
checked [] = 0
checked (k ∷ ks) = if k.is_free then checked ks else suc (checked ks)

abbrev pub required : Proc → ℕ
required q = checked q.requires_

abbrev pub ensured : Proc → ℕ
ensured q = checked q.ensures_

abbrev mutual
  -- the checks of a statement, where the procedures have so many preconditions that are checked
  pub st_checks : List ℕ → St → ℕ
  st_checks rs (Assert k) = checked (k ∷ [])
  st_checks rs (Invoke k) = get_or rs k.procedure 0
  st_checks rs (If n arms otherwise) = arms_checks rs arms + sts_checks rs otherwise
  st_checks rs (While n p g is body) = checked is + (sts_checks rs body + checked is)
  st_checks rs _ = 0

  pub sts_checks : List ℕ → Sts → ℕ
  sts_checks rs NoSt = 0
  sts_checks rs (Then a b) = st_checks rs a + sts_checks rs b

  pub arms_checks : List ℕ → Arms → ℕ
  arms_checks rs NoArm = 0
  arms_checks rs (Arm g body arms) = sts_checks rs body + arms_checks rs arms

-- the checks of an implementation, as far as 64 bits tell them, where the procedures have so many pre- and postconditions
abbrev pub impl_checks : List ℕ → List ℕ → Impl → ℕ
impl_checks rs es i = min (2 ^ 64 - 1) (sts_checks rs i.body + get_or es i.procedure 0)

-- The last candidates of a program in the order in which they guard: by procedure, first its preconditions, then its postconditions, then
-- the loops of its implementations.
use Rattle.std.specs.Prelude.{ℕ, suc, not, ◌==◌, if◌then◌else◌, List, [], ◌∷◌, ◌++◌, map, filter, Option}
use Rattle.bg_ast.specs.Resolved as r
use Rattle.bg_guess.specs.Erased.{is_own}

-- the candidates behind the first n that guard these clauses
abbrev pub guards : ℕ → List r.Clause → List (Option ℕ)
guards n ks = map (λ k. k.candidate) (filter (λ k. not (is_own n k)) ks)

abbrev mutual
  -- those that guard invariants, in the order of the text
  pub st_guards : ℕ → r.St → List (Option ℕ)
  st_guards n (r.If j arms otherwise) = arms_guards n arms ++ sts_guards n otherwise
  st_guards n (r.While j p g is body) = guards n is ++ sts_guards n body
  st_guards n _ = []

  pub sts_guards : ℕ → r.Sts → List (Option ℕ)
  sts_guards n r.NoSt = []
  sts_guards n (r.Then a rest) = st_guards n a ++ sts_guards n rest

  pub arms_guards : ℕ → r.Arms → List (Option ℕ)
  arms_guards n r.NoArm = []
  arms_guards n (r.Arm g body arms) = sts_guards n body ++ arms_guards n arms

-- those of the implementations of procedure k, by declaration
abbrev pub impls_guards : (n k : ℕ) → List r.Impl → List (Option ℕ)
impls_guards n k [] = []
impls_guards n k (m ∷ ms) = (if m.procedure == k then sts_guards n m.body else []) ++ impls_guards n k ms

-- those of procedures by declaration, from number k on
abbrev pub procs_guards : ℕ → List r.Impl → ℕ → List r.Proc → List (Option ℕ)
procs_guards n ms k [] = []
procs_guards n ms k (q ∷ qs) =
    guards n q.requires_ ++ (guards n q.ensures_ ++ (impls_guards n k ms ++ procs_guards n ms (suc k) qs))

-- those of a program
abbrev pub in_order : ℕ → r.Program → List (Option ℕ)
in_order n p = procs_guards n p.implementations 0 p.procedures

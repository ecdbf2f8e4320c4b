-- Which procedures are called from elsewhere, which have an implementation, and which numbers clauses have.
use Rattle.std.specs.Prelude.{ℕ, zero, suc, max, Bool, true, not, if◌then◌else◌, ◌==◌, List, [], ◌∷◌, ◌++◌, filter, slice_set}
use Rattle.std.specs.List.{list_any}
use Rattle.bg_ast.specs.Resolved as r
use Rattle.bg_ast.specs.Meaning.{sts_of}
use Rattle.bg_sense.specs.Resolved.{called_in}

-- the procedures among these that are another one
abbrev pub others : ℕ → List ℕ → List ℕ
others own ks = filter (λ k. not (k == own)) ks

-- the procedures that an implementation of another one calls
abbrev pub called : List r.Impl → List ℕ
called [] = []
called (m ∷ ms) = others m.procedure (called_in (sts_of m.body)) ++ called ms

-- the procedures that have an implementation
abbrev pub implemented : List r.Impl → List ℕ
implemented [] = []
implemented (m ∷ ms) = m.procedure ∷ implemented ms

-- for each of n numbers from k on, whether it is one of these
abbrev pub marks : (k n : ℕ) → List ℕ → List Bool
marks k zero ks = []
marks k (suc n) ks = list_any (λ j. j == k) ks ∷ marks (suc k) n ks

-- a mark at this number
abbrev pub marked : ℕ → List Bool → List Bool
marked k marks = slice_set marks k true

-- a mark at a procedure that another one calls
abbrev pub marked_call : (caller callee : ℕ) → List Bool → List Bool
marked_call caller callee marks = if callee == caller then marks else marked callee marks

abbrev mutual
  -- with marks at what a statement calls, in an implementation of the first procedure
  pub mark_st : ℕ → r.St → List Bool → List Bool
  mark_st own (r.Invoke k) marks = marked_call own k.procedure marks
  mark_st own (r.If n arms otherwise) marks = mark_sts own otherwise (mark_arms own arms marks)
  mark_st own (r.While n p g is body) marks = mark_sts own body marks
  mark_st own _ marks = marks

  pub mark_sts : ℕ → r.Sts → List Bool → List Bool
  mark_sts own r.NoSt marks = marks
  mark_sts own (r.Then a b) marks = mark_sts own b (mark_st own a marks)

  pub mark_arms : ℕ → r.Arms → List Bool → List Bool
  mark_arms own r.NoArm marks = marks
  mark_arms own (r.Arm g body arms) marks = mark_arms own arms (mark_sts own body marks)

-- and at what implementations call, in turn
abbrev pub mark_called : List r.Impl → List Bool → List Bool
mark_called [] marks = marks
mark_called (m ∷ ms) marks = mark_called ms (mark_sts m.procedure m.body marks)

-- marks at procedures that have an implementation
abbrev pub mark_implemented : List r.Impl → List Bool → List Bool
mark_implemented [] marks = marks
mark_implemented (m ∷ ms) marks = mark_implemented ms (marked m.procedure marks)

-- a number above n and above those of these clauses
abbrev pub above : ℕ → List r.Clause → ℕ
above n [] = n
above n (k ∷ ks) = above (max n (suc k.id)) ks

abbrev mutual
  -- and above those of a statement
  pub above_st : ℕ → r.St → ℕ
  above_st n (r.Assert k) = above n (k ∷ [])
  above_st n (r.If j arms otherwise) = above_sts (above_arms n arms) otherwise
  above_st n (r.While j p g is body) = above_sts (above n is) body
  above_st n _ = n

  pub above_sts : ℕ → r.Sts → ℕ
  above_sts n r.NoSt = n
  above_sts n (r.Then a b) = above_sts (above_st n a) b

  pub above_arms : ℕ → r.Arms → ℕ
  above_arms n r.NoArm = n
  above_arms n (r.Arm g body arms) = above_arms (above_sts n body) arms

-- and above those of procedures
abbrev pub above_procs : ℕ → List r.Proc → ℕ
above_procs n [] = n
above_procs n (q ∷ qs) = above_procs (above (above n q.requires_) q.ensures_) qs

-- and above those of implementations
abbrev pub above_impls : ℕ → List r.Impl → ℕ
above_impls n [] = n
above_impls n (m ∷ ms) = above_impls (above_sts n m.body) ms

-- A program without its last candidates: the clauses that they guard at procedures and at loops are left out.
use Rattle.std.specs.Prelude.{ℕ, Bool, map, filter, take}
use Rattle.bg_ast.specs.Resolved as r
use Rattle.bg_fits.specs.Valued.{is_declared}

-- whether a clause has none of the candidates behind the first n
abbrev pub is_own : ℕ → r.Clause → Bool
is_own n k = is_declared n k.candidate

abbrev mutual
  -- a statement, with the invariants alone that are its own
  pub erased_st : ℕ → r.St → r.St
  erased_st n (r.If j arms otherwise) = r.If j (erased_arms n arms) (erased_sts n otherwise)
  erased_st n (r.While j p g is body) = r.While j p g (filter (is_own n) is) (erased_sts n body)
  erased_st n (r.Label l) = r.Label l
  erased_st n (r.Assert k) = r.Assert k
  erased_st n (r.Assume e) = r.Assume e
  erased_st n (r.Havoc xs) = r.Havoc xs
  erased_st n (r.Assign p ts es) = r.Assign p ts es
  erased_st n (r.Invoke k) = r.Invoke k
  erased_st n (r.Break k) = r.Break k
  erased_st n (r.Goto ls) = r.Goto ls
  erased_st n r.Return = r.Return

  pub erased_sts : ℕ → r.Sts → r.Sts
  erased_sts n r.NoSt = r.NoSt
  erased_sts n (r.Then a rest) = r.Then (erased_st n a) (erased_sts n rest)

  pub erased_arms : ℕ → r.Arms → r.Arms
  erased_arms n r.NoArm = r.NoArm
  erased_arms n (r.Arm g body arms) = r.Arm g (erased_sts n body) (erased_arms n arms)

-- a procedure, with the clauses alone that are its own
abbrev pub erased_proc : ℕ → r.Proc → r.Proc
erased_proc n q =
    record {
      pos = q.pos;
      name = q.name;
      params = q.params;
      results = q.results;
      modifies = q.modifies;
      requires_ = filter (is_own n) q.requires_;
      ensures_ = filter (is_own n) q.ensures_;
    }

-- an implementation, with the invariants alone that are its own
abbrev pub erased_impl : ℕ → r.Impl → r.Impl
erased_impl n m =
    record {
      pos = m.pos;
      name = m.name;
      procedure = m.procedure;
      params = m.params;
      results = m.results;
      locals = m.locals;
      body = erased_sts n m.body;
    }

-- a program with its first n candidates alone
abbrev pub erased : ℕ → r.Program → r.Program
erased n p =
    record {
      types = p.types;
      constants = p.constants;
      candidates = take n p.candidates;
      globals = p.globals;
      functions = p.functions;
      axioms = p.axioms;
      procedures = map (erased_proc n) p.procedures;
      implementations = map (erased_impl n) p.implementations;
    }

-- What is kept of a tree, where the same program with numbers for names tells which candidate guards each clause. The program may have
-- guesses behind the clauses of a place: those that are retained are written there.
use Rattle.std.specs.Prelude.{ℕ, List, [], ◌∷◌, ◌++◌, map, drop, Option, Some, None, if◌then◌else◌}
use Rattle.bg_text.specs.Trees as t
use Rattle.bg_text.specs.Views.{option_of}
use Rattle.bg_ast.specs.Resolved as r
use Rattle.bg_words.specs.Sets.{Numbers, has}
use Rattle.bg_names.specs.Clauses.{bare, chain_of}
use Rattle.bg_spaces.specs.Declarations.{are_candidates}
use Rattle.bg_keep.specs.Kept.{saying, before}
use Rattle.bg_keep.specs.Guesses.{Names, kept_guesses}

-- an expression without its first operand, where `==>` stands behind that
abbrev pub behind_first : t.Ex → t.Ex
behind_first (t.Chain a (t.Link p sign e ls)) = chain_of e ls
behind_first e = e

-- the right side of a clause that has a candidate
abbrev pub right_side : t.Ex → t.Ex
right_side e = behind_first (bare e)

-- a clause of this candidate, or of none
abbrev pub told_clause : Numbers → Option ℕ → t.Clause → List t.Clause
told_clause set None k = k ∷ []
told_clause set (Some c) k = if has set c then saying (right_side k.says) k ∷ [] else []

-- the candidate of the first of these
abbrev pub first_candidate : List r.Clause → Option ℕ
first_candidate [] = None
first_candidate (c ∷ cs) = c.candidate

-- the program's clauses behind those of the tree are guesses
abbrev pub told_clauses : Numbers → Names → List r.Clause → List t.Clause → List t.Clause
told_clauses set f cs [] = kept_guesses set f cs
told_clauses set f cs (k ∷ ks) = told_clause set (first_candidate cs) k ++ told_clauses set f (drop 1 cs) ks

-- the candidate of an assertion
abbrev pub candidate_in : r.St → Option ℕ
candidate_in (r.Assert c) = c.candidate
candidate_in _ = None

abbrev pub invariants_in : r.St → List r.Clause
invariants_in (r.While n p g is ss) = is
invariants_in _ = []

abbrev pub arms_in : r.St → r.Arms
arms_in (r.If n arms ss) = arms
arms_in _ = r.NoArm

-- the statements of a loop, or behind the last `else`
abbrev pub block_in : r.St → r.Sts
block_in (r.If n arms ss) = ss
block_in (r.While n p g is ss) = ss
block_in _ = r.NoSt

-- the statements of the first arm, and the arms behind it
abbrev pub first_body : r.Arms → r.Sts
first_body r.NoArm = r.NoSt
first_body (r.Arm h body others) = body

abbrev pub next_arms : r.Arms → r.Arms
next_arms r.NoArm = r.NoArm
next_arms (r.Arm h body others) = others

abbrev mutual
  pub told_st : Numbers → Names → t.St → r.St → List t.St
  told_st set f (t.Assert k) b = map t.Assert (told_clause set (candidate_in b) k)
  told_st set f (t.If p arms) b = t.If p (told_arms set f arms (arms_in b)) ∷ []
  told_st set f (t.IfElse p arms ss) b = t.IfElse p (told_arms set f arms (arms_in b)) (told_sts set f ss (block_in b)) ∷ []
  told_st set f (t.While p g is ss) b = t.While p g (told_clauses set f (invariants_in b) is) (told_sts set f ss (block_in b)) ∷ []
  told_st set f a b = a ∷ []

  -- as far as both go on
  pub told_sts : Numbers → Names → t.Sts → r.Sts → t.Sts
  told_sts set f (t.Then a rest) (r.Then b others) = before (told_st set f a b) (told_sts set f rest others)
  told_sts set f _ _ = t.NoSt

  pub told_arms : Numbers → Names → t.Arms → r.Arms → t.Arms
  told_arms set f t.NoArm others = t.NoArm
  told_arms set f (t.Arm g ss arms) others = t.Arm g (told_sts set f ss (first_body others)) (told_arms set f arms (next_arms others))

abbrev pub told_body : Numbers → Names → r.Sts → t.Body → t.Body
told_body set f ss b = record { locals = b.locals; stmts = told_sts set f b.stmts ss }

-- how many preconditions a part of a specification has, and how many postconditions
abbrev pub requires_count : t.Spec → ℕ
requires_count (t.Requires k) = 1
requires_count _ = 0

abbrev pub ensures_count : t.Spec → ℕ
ensures_count (t.Ensures k) = 1
ensures_count _ = 0

-- a part of a specification, with the preconditions and postconditions that are ahead
abbrev pub told_spec : Numbers → (requires_ ensures_ : List r.Clause) → t.Spec → List t.Spec
told_spec set qs es (t.Requires k) = map t.Requires (told_clause set (first_candidate qs) k)
told_spec set qs es (t.Ensures k) = map t.Ensures (told_clause set (first_candidate es) k)
told_spec set qs es (t.Modifies p xs) = t.Modifies p xs ∷ []

-- the guesses stand behind all other parts, preconditions first
abbrev pub told_specs : Numbers → Names → (requires_ ensures_ : List r.Clause) → List t.Spec → List t.Spec
told_specs set f qs es [] = map t.Requires (kept_guesses set f qs) ++ map t.Ensures (kept_guesses set f es)
told_specs set f qs es (s ∷ specs) =
    told_spec set qs es s ++ told_specs set f (drop (requires_count s) qs) (drop (ensures_count s) es) specs

abbrev pub first_requires : List r.Proc → List r.Clause
first_requires [] = []
first_requires (q ∷ qs) = q.requires_

abbrev pub first_ensures : List r.Proc → List r.Clause
first_ensures [] = []
first_ensures (q ∷ qs) = q.ensures_

abbrev pub first_block : List r.Impl → r.Sts
first_block [] = r.NoSt
first_block (m ∷ ms) = m.body

-- what the clauses of the first procedure may speak of
abbrev pub first_procedure : List r.Declared → List r.Proc → Names
first_procedure gs [] = record { globals = gs; params = []; results = []; locals = [] }
first_procedure gs (q ∷ qs) = record { globals = gs; params = q.params; results = q.results; locals = [] }

-- and the invariants of the first implementation
abbrev pub first_implementation : List r.Declared → List r.Impl → Names
first_implementation gs [] = record { globals = gs; params = []; results = []; locals = [] }
first_implementation gs (m ∷ ms) = record { globals = gs; params = m.params; results = m.results; locals = m.locals }

abbrev pub told_procedure : Numbers → List r.Declared → List r.Proc → List r.Impl → t.Proc → t.Proc
told_procedure set gs qs ms q =
    record {
      pos = q.pos;
      attrs = q.attrs;
      name = q.name;
      sig = q.sig;
      specs = told_specs set (first_procedure gs qs) (first_requires qs) (first_ensures qs) q.specs;
      body = option_of (told_body set (first_implementation gs ms) (first_block ms)) q.body;
    }

abbrev pub told_implementation : Numbers → List r.Declared → List r.Impl → t.Impl → t.Impl
told_implementation set gs ms m =
    record {
      pos = m.pos;
      attrs = m.attrs;
      name = m.name;
      sig = m.sig;
      body = told_body set (first_implementation gs ms) (first_block ms) m.body;
    }

-- how many procedures a declaration adds, and how many implementations
abbrev pub procedure_count : t.Decl → ℕ
procedure_count (t.Procedure q) = 1
procedure_count _ = 0

abbrev pub option_count : Option t.Body → ℕ
option_count None = 0
option_count (Some b) = 1

abbrev pub implementation_count : t.Decl → ℕ
implementation_count (t.Procedure q) = option_count q.body
implementation_count (t.Implementation m) = 1
implementation_count _ = 0

abbrev pub told_constants : t.Consts → List t.Decl
told_constants c = if are_candidates c then [] else t.Constants c ∷ []

-- a declaration, with the procedures and implementations that are ahead
abbrev pub told_decl : Numbers → List r.Declared → List r.Proc → List r.Impl → t.Decl → List t.Decl
told_decl set gs qs ms (t.Constants c) = told_constants c
told_decl set gs qs ms (t.Procedure q) = t.Procedure (told_procedure set gs qs ms q) ∷ []
told_decl set gs qs ms (t.Implementation m) = t.Implementation (told_implementation set gs ms m) ∷ []
told_decl set gs qs ms d = d ∷ []

abbrev pub told_decls : Numbers → List r.Declared → List r.Proc → List r.Impl → List t.Decl → List t.Decl
told_decls set gs qs ms [] = []
told_decls set gs qs ms (d ∷ ds) =
    told_decl set gs qs ms d ++ told_decls set gs (drop (procedure_count d) qs) (drop (implementation_count d) ms) ds

-- the tree with its retained annotations, as the program tells
abbrev pub told : Numbers → r.Program → List t.Decl → List t.Decl
told set p ds = told_decls set p.globals p.procedures p.implementations ds

-- Opened programs: without constants and axioms, and no function has a body. Constants are globals that no procedure modifies, bodies of
-- functions stand in the place of their applications, and what is claimed of the constants is assumed in front of each body: that the
-- unique ones differ, and the axioms.
use Rattle.std.specs.Prelude.{ℕ, List, [], ◌∷◌, ◌++◌, map, length, Option, None}
use Rattle.bg_ast.specs.Syntax.{Ex, Clause, Guard, Star, Test, Call, St, Skip, Then, Label, Assert, Assume, Havoc, Assign, Invoke, If, While, Break, Goto, Return, Decl, Const, Fun, Proc, Impl, Prog}
use Rattle.bg_opened.specs.Exprs.{opened, all_opened, bodies_to}
use Rattle.bg_opened.specs.Unique.{claims}

-- a constant as a variable
abbrev pub global_for : Const → Decl
global_for c = record { ty = c.ty; wheres = [] }

-- a function without its body
abbrev pub bodiless : Fun → Fun
bodiless f = record f { body = None }

-- these are assumed in front of a statement
abbrev pub supposing : List Ex → St → St
supposing [] s = s
supposing (e ∷ es) s = Then (Assume e) (supposing es s)

module _ (g : ℕ) (bodies : ℕ → Option Ex) where
  abbrev pub opened_clause : Clause → Clause
  opened_clause k = record k { says = opened g bodies k.says }

  abbrev pub opened_guard : Guard → Guard
  opened_guard Star = Star
  opened_guard (Test e) = Test (opened g bodies e)

  abbrev pub opened_call : Call → Call
  opened_call k = record k { args = all_opened g bodies k.args }

  abbrev pub opened_st : St → St
  opened_st Skip = Skip
  opened_st (Then a b) = Then (opened_st a) (opened_st b)
  opened_st (Label l) = Label l
  opened_st (Assert k) = Assert (opened_clause k)
  opened_st (Assume e) = Assume (opened g bodies e)
  opened_st (Havoc xs) = Havoc xs
  opened_st (Assign xs es) = Assign xs (all_opened g bodies es)
  opened_st (Invoke k) = Invoke (opened_call k)
  opened_st (If n e a b) = If n (opened_guard e) (opened_st a) (opened_st b)
  opened_st (While n e is a) = While n (opened_guard e) (map opened_clause is) (opened_st a)
  opened_st (Break n) = Break n
  opened_st (Goto ls) = Goto ls
  opened_st Return = Return

  abbrev pub opened_decl : Decl → Decl
  opened_decl d = record d { wheres = map (opened g bodies) d.wheres }

  abbrev pub opened_proc : Proc → Proc
  opened_proc q =
      record {
        params = map opened_decl q.params;
        results = map opened_decl q.results;
        modifies = q.modifies;
        requires_ = map opened_clause q.requires_;
        ensures_ = map opened_clause q.ensures_;
      }

  -- where these are assumed in front of the body
  abbrev pub opened_impl : List Ex → Impl → Impl
  opened_impl es m =
      record {
        procedure = m.procedure;
        locals = map opened_decl m.locals;
        body = supposing (map (opened g bodies) es) (opened_st m.body);
      }

-- the bodies of a program's functions, in which bodies are opened so deep
abbrev pub bodies_of : ℕ → Prog → ℕ → Option Ex
bodies_of depth p = bodies_to (length p.globals) p.functions depth

-- the variables that are globals of the opened program
abbrev pub opened_globals : ℕ → Prog → List Decl
opened_globals depth p =
    map (opened_decl (length p.globals) (bodies_of depth p)) p.globals ++ map global_for p.constants

-- the program, in which bodies are opened so deep
abbrev pub opened_program : ℕ → Prog → Prog
opened_program depth p =
    record {
      globals = opened_globals depth p;
      constants = [];
      functions = map bodiless p.functions;
      axioms = [];
      procedures = map (opened_proc (length p.globals) (bodies_of depth p)) p.procedures;
      implementations = map (opened_impl (length p.globals) (bodies_of depth p) (claims p)) p.implementations;
      candidates = p.candidates;
    }

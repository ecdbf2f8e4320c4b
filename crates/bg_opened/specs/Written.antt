-- Programs as they are written, opened.
use Rattle.std.specs.Prelude.{ℕ, List, [], ◌∷◌, ◌++◌, map, length, None}
use Rattle.bg_base.specs.declared.pos.Pos.{Pos}
use Rattle.bg_text.specs.declared.expr.InfixSign.TheVariants as op
use Rattle.bg_ast.specs.Syntax.{Const}
use Rattle.bg_ast.specs.Resolved as r
use Rattle.bg_ast.specs.Meaning.{named_of, const_of}
use Rattle.bg_opened.specs.Unique.{unique_pairs}
use Rattle.bg_opened.specs.Changed.{opened_within}

-- a constant as a variable
abbrev pub global_for : r.Const → r.Declared
global_for c = record { name = c.name; ty = c.ty }

-- a function without its body
abbrev pub bodiless : r.Fun → r.Fun
bodiless f = record f { body = None }

-- these are assumed in front of statements
abbrev pub supposing : List r.Ex → r.Sts → r.Sts
supposing [] ss = ss
supposing (e ∷ es) ss = r.Then (r.Assume e) (supposing es ss)

module _ (o : r.Ex → r.Ex) where
  abbrev pub all_opened : r.Exs → r.Exs
  all_opened r.NoMore = r.NoMore
  all_opened (r.More e es) = r.More (o e) (all_opened es)

  abbrev pub opened_clause : r.Clause → r.Clause
  opened_clause k = record k { says = o k.says }

  abbrev pub opened_guard : r.Guard → r.Guard
  opened_guard r.Star = r.Star
  opened_guard (r.Test e) = r.Test (o e)

  abbrev pub opened_bracket : Pos × r.Exs → Pos × r.Exs
  opened_bracket b = (b.0, all_opened b.1)

  abbrev pub opened_target : r.Target → r.Target
  opened_target t = record t { brackets = map opened_bracket t.brackets }

  abbrev pub opened_call : r.Call → r.Call
  opened_call k = record k { args = all_opened k.args }

  abbrev mutual
    pub opened_st : r.St → r.St
    opened_st (r.Label l) = r.Label l
    opened_st (r.Assert k) = r.Assert (opened_clause k)
    opened_st (r.Assume e) = r.Assume (o e)
    opened_st (r.Havoc xs) = r.Havoc xs
    opened_st (r.Assign p ts es) = r.Assign p (map opened_target ts) (all_opened es)
    opened_st (r.Invoke k) = r.Invoke (opened_call k)
    opened_st (r.If n arms otherwise) = r.If n (opened_arms arms) (opened_sts otherwise)
    opened_st (r.While n p g is body) = r.While n p (opened_guard g) (map opened_clause is) (opened_sts body)
    opened_st (r.Break n) = r.Break n
    opened_st (r.Goto ls) = r.Goto ls
    opened_st r.Return = r.Return

    pub opened_sts : r.Sts → r.Sts
    opened_sts r.NoSt = r.NoSt
    opened_sts (r.Then a b) = r.Then (opened_st a) (opened_sts b)

    pub opened_arms : r.Arms → r.Arms
    opened_arms r.NoArm = r.NoArm
    opened_arms (r.Arm g body arms) = r.Arm (opened_guard g) (opened_sts body) (opened_arms arms)

  -- an arm: its guard, and its statements
  abbrev pub opened_arm : r.Guard × r.Sts → r.Guard × r.Sts
  opened_arm a = (opened_guard a.0, opened_sts a.1)

  abbrev pub opened_proc : r.Proc → r.Proc
  opened_proc q = record q { requires_ = map opened_clause q.requires_; ensures_ = map opened_clause q.ensures_ }

  -- where these are assumed in front of the body
  abbrev pub opened_impl : List r.Ex → r.Impl → r.Impl
  opened_impl es m = record m { body = supposing (map o es) (opened_sts m.body) }

-- where what no text says stands
abbrev pub nowhere : Pos
nowhere = record { line = 0; column = 0 }

-- two constants are different
abbrev pub apart : ℕ × ℕ → r.Ex
apart q = r.Chain (r.Constant nowhere q.0) (r.Link nowhere op.Unequal (r.Constant nowhere q.1) r.NoLink)

-- the constants of a program, with their types
abbrev pub constants_of : r.Program → List Const
constants_of p = map (const_of (named_of p.types)) p.constants

-- unique constants of each type are pairwise different, and the axioms are true
abbrev pub claims : r.Program → List r.Ex
claims p = map apart (unique_pairs (constants_of p)) ++ p.axioms

-- the expressions of a program, in which bodies are put in so often
abbrev pub opened_in : ℕ → r.Program → r.Ex → r.Ex
opened_in depth p = opened_within depth (length p.globals) p.functions

-- the program without constants, axioms and bodies of functions
abbrev pub opened_program : ℕ → r.Program → r.Program
opened_program depth p =
    record {
      types = p.types;
      constants = [];
      candidates = p.candidates;
      globals = p.globals ++ map global_for p.constants;
      functions = map bodiless p.functions;
      axioms = [];
      procedures = map (opened_proc (opened_in depth p)) p.procedures;
      implementations = map (opened_impl (opened_in depth p) (claims p)) p.implementations;
    }

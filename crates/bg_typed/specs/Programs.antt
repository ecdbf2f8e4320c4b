-- Names of programs: their numbers are those of declarations.
use Rattle.std.specs.Prelude.{◌≡◌, ◌++◌, [], Option, Some, None, length, slice_get, All}
use Rattle.bg_ast.specs.Syntax.{Fun, Proc, Impl, Prog}
use Rattle.bg_ast.specs.Resolved as r
use Rattle.bg_ast.specs.Meaning.{ex_of, meaning_of, named_of, fun_of, proc_of, impl_of}
use Rattle.bg_sense.specs.Types.{const_types}
use Rattle.bg_sense.specs.Typing.{Sig, sig_in}
use Rattle.bg_sense.specs.Typed.{HasNoOld, Around, around}
use Rattle.bg_typed.specs.Naming.{IsNamed}
use Rattle.bg_typed.specs.Bodies.{AreNamedStatements}

-- where no `old` stands, either
abbrev pub IsNamedPlain : Sig → r.Ex → Type 0
IsNamedPlain s e = IsNamed s e × HasNoOld (ex_of e)

abbrev pub function_in : r.Program → r.Fun → Fun
function_in p = fun_of (named_of p.types)

abbrev pub procedure_in : r.Program → r.Proc → Proc
procedure_in p = proc_of (named_of p.types)

abbrev pub implementation_in : r.Program → r.Impl → Impl
implementation_in p = impl_of (named_of p.types)

-- what an axiom sees
abbrev pub axiom_sig : Prog → Sig
axiom_sig p = sig_in (record p { globals = [] }) []

-- what a function's body sees
abbrev pub body_sig : Prog → Fun → Sig
body_sig p f = record { constants = const_types p.constants; functions = p.functions; globals = []; frame = f.params }

abbrev pub IsNamedBody : Sig → Option r.Ex → Type 0
IsNamedBody s None = Unit {0}
IsNamedBody s (Some e) = IsNamedPlain s e

abbrev pub IsNamedFunction : r.Program → r.Fun → Type 0
IsNamedFunction p f = IsNamedBody (body_sig (meaning_of p) (function_in p f)) f.body

-- what preconditions see, and what postconditions see
abbrev pub requires_sig : Prog → Proc → Sig
requires_sig p q = sig_in p q.params

abbrev pub ensures_sig : Prog → Proc → Sig
ensures_sig p q = sig_in p (q.params ++ q.results)

pub record IsNamedProcedure (p : r.Program) (q : r.Proc) : Type 0 where
  pub requires_ : All (λ k. IsNamedPlain (requires_sig (meaning_of p) (procedure_in p q)) k.says) q.requires_
  pub ensures_ : All (λ k. IsNamed (ensures_sig (meaning_of p) (procedure_in p q)) k.says) q.ensures_

-- what is around the body of an implementation
abbrev pub around_in : r.Program → r.Proc → r.Impl → Around
around_in p q m = around (meaning_of p) (procedure_in p q) (implementation_in p m)

-- an implementation of a declared procedure; its own frame counts where it has as many parameters and results
pub record IsNamedImplementation (p : r.Program) (m : r.Impl) : Type 0 where
  pub procedure : r.Proc
  pub is_there : slice_get p.procedures m.procedure ≡ Some procedure
  pub body :
      length m.params ≡ length procedure.params → length m.results ≡ length procedure.results →
      AreNamedStatements (around_in p procedure m) [] [] m.body

-- each number in a program is that of a declaration, and what is changed and jumped to is allowed
pub record IsNamedProgram (p : r.Program) : Type 0 where
  pub axioms : All (IsNamedPlain (axiom_sig (meaning_of p))) p.axioms
  pub functions : All (IsNamedFunction p) p.functions
  pub procedures : All (IsNamedProcedure p) p.procedures
  pub implementations : All (IsNamedImplementation p) p.implementations

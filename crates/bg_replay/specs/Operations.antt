-- The operations on whole numbers that a run makes, in order. What names mean where values are seen, `sees`, is left open.
use Rattle.std.specs.Prelude.{ℕ, zero, suc, ℤ, pos, ◌+ℤ◌, ◌-ℤ◌, ◌*ℤ◌, neg_ℤ, Bool, not, if◌then◌else◌, List, [], ◌∷◌, ◌++◌, Option, Some, None, find}
use Rattle.bg_base.specs.Exact.{fits}
use Rattle.bg_base.specs.declared.exact.Op as exact
use Rattle.bg_base.specs.declared.exact.Op.TheVariants as arith
use Rattle.bg_base.specs.declared.exact.OutOfRange.{OutOfRange}
use Rattle.bg_ast.specs.Values.{Val, number_of, truth_of}
use Rattle.bg_ast.specs.Syntax.{Op, Plus, Minus, Times, Ex, Not, Negative, Binary, Old, Apply, Select, Update, Exs, NoMore, More, Test}
use Rattle.bg_sense.specs.Eval.{Scope, ev}
use Rattle.bg_sense.specs.Types.{types_of}
use Rattle.bg_sense.specs.Clauses.{is_kept}
use Rattle.bg_flow.specs.Core.{Demand, Saying, Plan, Cmd, Check, Suppose, Forget, Put, Perform, Finish}
use Rattle.bg_flow.specs.Blocks.{Exit, Either, Block}
use Rattle.bg_scalar.specs.Worths.{Seen}
use Rattle.bg_scalar.specs.Lists.{Listed, Are, worths}
use Rattle.bg_replay.specs.Moments.{Moment, Around, Out, Goes, seen_at}
use Rattle.bg_replay.specs.Said.{on_said, checks}
use Rattle.bg_replay.specs.Acts.{forgotten, chosen, skipped, acts}
use Rattle.bg_replay.specs.Ways.{Way, On, leaves, acts_each}

-- an operation with its operands; a negation is one of the first
abbrev pub Operation : Type 0
Operation = OutOfRange

abbrev pub result : exact.Op → ℤ → ℤ → ℤ
result arith.Plus a b = a +ℤ b
result arith.Minus a b = a -ℤ b
result arith.Times a b = a *ℤ b
result arith.Negate a b = neg_ℤ a

-- the first whose result is no i128
abbrev pub first_outside : List Operation → Option Operation
first_outside os = find (λ o. not (fits (result o.op o.a o.b))) os

-- ---- of expressions, over whole numbers without bound

abbrev pub operation : Op → ℤ → ℤ → List Operation
operation Plus x y = record { op = arith.Plus; a = x; b = y } ∷ []
operation Minus x y = record { op = arith.Minus; a = x; b = y } ∷ []
operation Times x y = record { op = arith.Times; a = x; b = y } ∷ []
operation _ x y = []

abbrev mutual
  -- an operator's operands come first, from left to right, and so do the arguments of a function, which makes none itself, and the parts
  -- of a select or an update
  pub operations : Ex → Scope → List Operation
  operations (Not e) c = operations e c
  operations (Negative e) c =
      operations e c ++ (record { op = arith.Negate; a = number_of (ev e c); b = pos 0 } ∷ [])
  operations (Binary o a b) c =
      operations a c ++ (operations b c ++ operation o (number_of (ev a c)) (number_of (ev b c)))
  operations (Old e) c = operations e (record c { globals = c.before })
  operations (Apply f es) c = operations_of es c
  operations (Select m es) c = operations m c ++ operations_of es c
  operations (Update m es e) c = operations m c ++ (operations_of es c ++ operations e c)
  operations _ c = []

  pub operations_of : Exs → Scope → List Operation
  operations_of NoMore c = []
  operations_of (More e es) c = operations e c ++ operations_of es c

-- ---- of clauses that are there, up to the first that is false

abbrev pub of_checks : (ℕ → Bool) → Scope → List Demand → List Operation
of_checks set c [] = []
of_checks set c (d ∷ ds) =
    if is_kept set d.candidate then operations d.says c ++ (if truth_of (ev d.says c) then of_checks set c ds else [])
    else of_checks set c ds

abbrev pub of_supposes : (ℕ → Bool) → Scope → List Saying → List Operation
of_supposes set c [] = []
of_supposes set c (d ∷ ds) =
    if is_kept set d.candidate then operations d.says c ++ (if truth_of (ev d.says c) then of_supposes set c ds else [])
    else of_supposes set c ds

-- ---- of commands and blocks

-- where a part of the run goes on
abbrev pub behind : Out → (Moment → List Operation) → List Operation
behind (Goes m) go_on = go_on m
behind _ go_on = []

abbrev pub behind_way : Way → (ℕ → Moment → List Operation) → List Operation
behind_way (On k m) go_on = go_on k m
behind_way _ go_on = []

module _ (sees : Seen → Scope) where
  abbrev pub of_results : Around → Plan → List Val → List Val → Option (List Val) → Moment → List Operation
  of_results a k was args None m = []
  of_results a k was args (Some xs) m =
      of_supposes a.set (sees (record { tables = a.tables; globals = (skipped xs m).globals; before = was; frame = args ++ xs })) k.gives

  abbrev pub of_call : Around → Plan → Listed → Moment → List Operation
  of_call a k (Are args) m =
      let inside : Seen = record { tables = a.tables; globals = m.globals; before = m.globals; frame = args } in
      of_checks a.set (sees inside) k.needs
      ++ behind (on_said (checks a.set inside k.needs) m) (λ n.
      behind (forgotten a k.modifies n) (λ u. of_results a k n.globals args (chosen (types_of k.results) u.choices) u))
  of_call a k _ m = []

  abbrev pub of_act : Around → Cmd → Moment → List Operation
  of_act a (Check ds) m = of_checks a.set (sees (seen_at a m)) ds
  of_act a (Suppose ds) m = of_supposes a.set (sees (seen_at a m)) ds
  of_act a (Forget xs) m = []
  of_act a (Put xs es) m = operations_of es (sees (seen_at a m))
  of_act a (Perform k) m = operations_of k.args (sees (seen_at a m)) ++ of_call a k (worths k.args (seen_at a m)) m
  of_act a Finish m = []

  abbrev pub of_acts : Around → List Cmd → Moment → List Operation
  of_acts a [] m = []
  of_acts a (k ∷ ks) m = of_act a k m ++ behind (acts a k m) (of_acts a ks)

  abbrev pub of_exit : Around → Exit → Moment → List Operation
  of_exit a (Either (Test e) on off) m = operations e (sees (seen_at a m))
  of_exit a _ m = []

  -- of a run from the block that is so far ahead
  abbrev pub of_run : Around → ℕ → List Block → Moment → List Operation
  of_run a k [] m = []
  of_run a zero (b ∷ bs) m =
      of_acts a b.cmds m
      ++ behind (acts_each a b.cmds m) (λ n. of_exit a b.exit n ++ behind_way (leaves a b.exit n) (λ k u. of_run a k bs u))
  of_run a (suc k) (b ∷ bs) m = of_run a k bs m

-- Bodies that keep their variables typed.
use Rattle.std.specs.Prelude.{List, IsTrue}
use Rattle.bg_ast.specs.Values.{Val}
use Rattle.bg_ast.specs.Syntax.{St, If, While, Assign, Then, Invoke, Havoc}
use Rattle.bg_sense.specs.Eval.{evs}
use Rattle.bg_sense.specs.Flow.{World, Over, Jumps, Next, Flow}
use Rattle.bg_sense.specs.Context.{Ctx, scope}
use Rattle.bg_sense.specs.Variables.{put_all}
use Rattle.bg_sense.specs.Calls.{by_specification}
use Rattle.bg_sense.specs.Types.{are_of, types_of}
use Rattle.bg_sense.specs.Typing.{AreVars}

-- each variable has a value of its type
abbrev pub AreTyped : Ctx → List Val → List Val → Type 0
AreTyped c g r = IsTrue (are_of (types_of c.program.globals) g) × IsTrue (are_of (types_of c.variables) r)

abbrev pub EndsTyped : Ctx → Flow → Type 0
EndsTyped c (Next w) = AreTyped c w.globals w.frame
EndsTyped c (Jumps p w) = AreTyped c w.globals w.frame
EndsTyped c (Over a) = Unit {0}

-- each assignment and each call leaves typed variables typed
abbrev pub KeepsTypes : Ctx → St → Type 0
KeepsTypes c (Then a b) = KeepsTypes c a × KeepsTypes c b
KeepsTypes c (Havoc xs) = AreVars c xs
KeepsTypes c (Assign xs es) =
    AreVars c xs
    × ((w : World) → AreTyped c w.globals w.frame →
    AreTyped c (put_all xs (evs es (scope c w)) w).globals (put_all xs (evs es (scope c w)) w).frame)
KeepsTypes c (Invoke k) =
    AreVars c k.takes
    × ((w : World) → AreTyped c w.globals w.frame → EndsTyped c (by_specification c k w))
KeepsTypes c (If n g a b) = KeepsTypes c a × KeepsTypes c b
KeepsTypes c (While n g is a) = KeepsTypes c a
KeepsTypes c _ = Unit {0}

-- Blocks that are typed over the variables of a frame, all that their commands say included.
use Rattle.std.specs.Prelude.{◌≡◌, List, [], ◌∷◌, ◌++◌, map}
use Rattle.bg_ast.specs.Values.{Ty}
use Rattle.bg_ast.specs.Syntax.{Exs, Guard, Star, Test, Decl, Prog}
use Rattle.bg_sense.specs.Types.{types_of, const_types}
use Rattle.bg_sense.specs.Typing.{Sig, HaveTypes}
use Rattle.bg_sense.specs.Typed.{AreLinear, IsFormula}
use Rattle.bg_flow.specs.Core.{Demand, Saying, Plan, Cmd, Check, Suppose, Forget, Put, Perform, Finish}
use Rattle.bg_flow.specs.Blocks.{Exit, Leap, Either, Block}
use Rattle.bg_passive.specs.Incarnations.{ty_of}

-- what names mean where globals and the frame have these types
abbrev pub sig_with : Prog → List Ty → List Ty → Sig
sig_with p gts fts =
    record { constants = const_types p.constants; functions = p.functions; globals = gts; frame = fts }

-- what names mean in a frame of these declarations
abbrev pub sig_here : Prog → List Decl → Sig
sig_here p ds = sig_with p (types_of p.globals) (types_of ds)

-- what is demanded, and what is assumed, are truths
abbrev pub DemandsAreTyped : Sig → List Demand → Type 0
DemandsAreTyped g [] = Unit {0}
DemandsAreTyped g (d ∷ ds) = IsFormula g d.says × DemandsAreTyped g ds

abbrev pub SayingsAreTyped : Sig → List Saying → Type 0
SayingsAreTyped g [] = Unit {0}
SayingsAreTyped g (d ∷ ds) = IsFormula g d.says × SayingsAreTyped g ds

-- linear expressions of these types, one for each
abbrev pub ExsAreTyped : Sig → List Ty → Exs → Type 0
ExsAreTyped g ts es = HaveTypes es g ts × AreLinear es

-- a call: what is given; what its specification says of parameters, and of results too; and what takes the results
abbrev pub PlanIsTyped : Prog → List Decl → Plan → Type 0
PlanIsTyped p ds k =
    ExsAreTyped (sig_here p ds) (types_of k.params) k.args
    × (DemandsAreTyped (sig_with p (types_of p.globals) (types_of k.params)) k.needs
    × (SayingsAreTyped (sig_with p (types_of p.globals) (types_of k.params ++ types_of k.results)) k.gives
    × (map (ty_of p ds) k.takes ≡ types_of k.results)))

abbrev pub CmdIsTyped : Prog → List Decl → Cmd → Type 0
CmdIsTyped p ds (Check qs) = DemandsAreTyped (sig_here p ds) qs
CmdIsTyped p ds (Suppose qs) = SayingsAreTyped (sig_here p ds) qs
CmdIsTyped p ds (Forget xs) = Unit {0}
CmdIsTyped p ds (Put xs es) = ExsAreTyped (sig_here p ds) (map (ty_of p ds) xs) es
CmdIsTyped p ds (Perform k) = PlanIsTyped p ds k
CmdIsTyped p ds Finish = Unit {0}

abbrev pub CmdsAreTyped : Prog → List Decl → List Cmd → Type 0
CmdsAreTyped p ds [] = Unit {0}
CmdsAreTyped p ds (k ∷ ks) = CmdIsTyped p ds k × CmdsAreTyped p ds ks

abbrev pub GuardIsTyped : Prog → List Decl → Guard → Type 0
GuardIsTyped p ds Star = Unit {0}
GuardIsTyped p ds (Test e) = IsFormula (sig_here p ds) e

abbrev pub ExitIsTyped : Prog → List Decl → Exit → Type 0
ExitIsTyped p ds (Leap ks) = Unit {0}
ExitIsTyped p ds (Either g on off) = GuardIsTyped p ds g

-- each command and each exit of the blocks is typed in a frame of these declarations
abbrev pub CodeIsTyped : Prog → List Decl → List Block → Type 0
CodeIsTyped p ds [] = Unit {0}
CodeIsTyped p ds (b ∷ bs) = (CmdsAreTyped p ds b.cmds × ExitIsTyped p ds b.exit) × CodeIsTyped p ds bs

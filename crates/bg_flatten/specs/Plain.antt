-- Types that are no maps, and blocks without applications, selects, updates and `old`.
use Rattle.std.specs.Prelude.{Bool, true, not, ◌&&◌, List, [], ◌∷◌}
use Rattle.bg_ast.specs.Values.{Ty, is_map}
use Rattle.bg_ast.specs.Syntax.{Ex, Not, Negative, Binary, Apply, Select, Update, Old}
use Rattle.bg_passive.specs.Passive.{PassiveCmd, Claims, Supposes, Edge, PassiveBlock}
use Rattle.bg_flatten.specs.Makes.{Each}

-- whether none is a map
abbrev pub are_mapless : List Ty → Bool
are_mapless [] = true
are_mapless (t ∷ ts) = not (is_map t) && are_mapless ts

abbrev pub IsPlain : Ex → Type 0
IsPlain (Not e) = IsPlain e
IsPlain (Negative e) = IsPlain e
IsPlain (Binary op a b) = IsPlain a × IsPlain b
IsPlain (Apply f es) = ⊥
IsPlain (Select m es) = ⊥
IsPlain (Update m es e) = ⊥
IsPlain (Old e) = ⊥
IsPlain _ = Unit {0}

abbrev pub PlainCmd : PassiveCmd → Type 0
PlainCmd (Claims s b e) = IsPlain e
PlainCmd (Supposes b e) = IsPlain e

abbrev pub PlainEdge : Edge → Type 0
PlainEdge e = Each PlainCmd e.cmds

abbrev pub PlainBlock : PassiveBlock → Type 0
PlainBlock b = Each PlainCmd b.cmds × Each PlainEdge b.next

-- what each command says is plain
abbrev pub PlainBlocks : List PassiveBlock → Type 0
PlainBlocks bs = Each PlainBlock bs

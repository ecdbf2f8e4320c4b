-- Commands in which each assignment has as many values as targets, and each call as many arguments as parameters.
use Rattle.std.specs.Prelude.{◌≡◌, ℕ, suc, List, [], ◌∷◌, length}
use Rattle.bg_ast.specs.Syntax.{Exs, NoMore, More}
use Rattle.bg_flow.specs.Core.{Cmd, Put, Perform}
use Rattle.bg_flow.specs.Blocks.{Block}

abbrev pub how_many : Exs → ℕ
how_many NoMore = 0
how_many (More e es) = suc (how_many es)

abbrev pub IsEven : Cmd → Type 0
IsEven (Put xs es) = length xs ≡ how_many es
IsEven (Perform k) = how_many k.args ≡ length k.params
IsEven _ = Unit {0}

abbrev pub AreEven : List Cmd → Type 0
AreEven [] = Unit {0}
AreEven (k ∷ ks) = IsEven k × AreEven ks

abbrev pub BlocksEven : List Block → Type 0
BlocksEven [] = Unit {0}
BlocksEven (b ∷ bs) = AreEven b.cmds × BlocksEven bs

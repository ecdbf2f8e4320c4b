-- The rows of a chain's links. In `a <== b`, which means `b ==> a`, what b has comes before what a has.
use Rattle.std.specs.Prelude.{ℕ, zero, suc, Bool, true, false, if◌then◌else◌, List, [], ◌∷◌, ◌++◌, take, drop, reverse}
use Rattle.bg_text.specs.declared.expr.InfixSign.{InfixSign}
use Rattle.bg_text.specs.declared.expr.InfixSign.TheVariants as op
use Rattle.bg_ast.specs.declared.resolved.Link.{Link}
use Rattle.bg_ast.specs.Syntax.{Ex, Fact}
use Rattle.bg_ast.specs.Meaning as m
use Rattle.bg_ast.specs.Views.{ex_of}
use Rattle.bg_formula.specs.Atoms.{AtomOf}
use Rattle.bg_linear.specs.declared.scalar.Sort.{Sort}
use Rattle.bg_linear.specs.Chains.{is_implies}
use Rattle.bg_atoms.specs.declared.made.Made.{Made}
use Rattle.bg_atoms.specs.Pairs.{Pairs}
use Rattle.bg_atoms.specs.Made.{IsMade, behind}
use Rattle.bg_atoms.specs.Listed.{with_ex}

abbrev pub is_explies : InfixSign → Bool
is_explies op.Explies = true
is_explies _ = false

-- how many links stand before the next `==>`
abbrev pub until_implies : List Link → ℕ
until_implies [] = zero
until_implies (l ∷ ls) = if is_implies l.sign then zero else suc (until_implies ls)

-- what stands behind the link's sign, if that is `<==`
abbrev pub turned_by : Link → List Ex
turned_by l = if is_explies l.sign then m.ex_of (ex_of l.operand) ∷ [] else []

-- what stands behind each `<==` before the next `==>`
abbrev pub turned_in : List Link → List Ex
turned_in [] = []
turned_in (l ∷ ls) = if is_implies l.sign then [] else turned_by l ++ turned_in ls

-- their rows, those of the last one first
abbrev pub with_turned : List Sort → List Ex → List AtomOf → List AtomOf
with_turned sorts [] rows = rows
with_turned sorts (e ∷ es) rows = with_ex sorts e (with_turned sorts es rows)

-- what was made of them, of the last one first
abbrev pub AreTurned : List Sort → ℕ → List AtomOf → List Ex → List Made → Type 0
AreTurned sorts n rows es xs = Pairs (IsMade sorts n rows) es (reverse xs)

-- the rows of links, where those of what stands behind `<==`s before the next `==>` are there
abbrev pub with_links : List Sort → List Link → List AtomOf → List AtomOf
with_links sorts [] rows = rows
with_links sorts (l ∷ ls) rows =
    if is_implies l.sign then with_ex sorts (behind (m.ex_of (ex_of l.operand)) ls) rows
    else with_links sorts ls (if is_explies l.sign then rows else with_ex sorts (m.ex_of (ex_of l.operand)) rows)

-- the first link's operand with the n links of the relation that it begins, if there is a link
abbrev pub operand_in : List Link → ℕ → Ex
operand_in [] n = Fact false
operand_in (l ∷ ls) n = behind (m.ex_of (ex_of l.operand)) (take n ls)

-- the rows of that; `==>` begins a chain anew
abbrev pub with_operand : List Sort → List Link → ℕ → List AtomOf → List AtomOf
with_operand sorts [] n rows = rows
with_operand sorts (l ∷ ls) n rows =
    if is_implies l.sign then with_ex sorts (behind (m.ex_of (ex_of l.operand)) (take n ls)) (with_turned sorts (turned_in (drop n ls)) rows)
    else if is_explies l.sign then rows
    else with_ex sorts (m.ex_of (ex_of l.operand)) rows

-- What the code makes of expressions: what they are over atoms, and the first operation that leaves the range.
use Rattle.std.specs.Prelude.{◌≡◌, ℕ, false, List, map, Vec, Option, Some}
use Rattle.std.specs.Global.{Global}
use Rattle.bg_base.specs.declared.exact.OutOfRange.{OutOfRange}
use Rattle.bg_ast.specs.declared.resolved.Link.{Link}
use Rattle.bg_ast.specs.Syntax.{Ex, Fact, Op, Binary}
use Rattle.bg_ast.specs.Meaning as m
use Rattle.bg_ast.specs.Views.{ex_of, link_view, links_of}
use Rattle.bg_rows.specs.declared.refused.Refused.{Refused}
use Rattle.bg_rows.specs.declared.refused.Refused.TheVariants.{Range, Memory}
use Rattle.bg_formula.specs.Atoms.{AtomOf, view_linear}
use Rattle.bg_formula.specs.declared.atom.Linear.{Linear}
use Rattle.bg_linear.specs.declared.scalar.Sort.{Sort}
use Rattle.bg_atoms.specs.declared.made.Made.{Made}
use Rattle.bg_atoms.specs.declared.made.Linked.{Linked}
use Rattle.bg_atoms.specs.Kinds.{IsTruth}
use Rattle.bg_atoms.specs.Over.{first_refused}
use Rattle.bg_atoms.specs.Worlds.{Means}

abbrev pub rows_in : Vec Linear Global → List AtomOf
rows_in rows = map view_linear rows.items

-- this expression, with this first operation that leaves the range
pub record Shows (e : Ex) (first : Option OutOfRange) (x : Made) : Type 0 where
  pub says : m.ex_of (ex_of x.says) ≡ e
  pub refused : x.refused ≡ first

-- what an expression is over atoms, with its first operation that leaves the range
pub record Makes (sorts : List Sort) (n : ℕ) (rows : List AtomOf) (e : Ex) (x : Made) : Type 0 where
  pub means : Means sorts n rows e (m.ex_of (ex_of x.says))
  pub refused : first_refused sorts e ≡ x.refused

-- the same of a relation
abbrev pub IsRelated : List Sort → ℕ → List AtomOf → Op → Ex → Ex → Made → Type 0
IsRelated sorts n rows op a b x = Makes sorts n rows (Binary op a b) x

-- the same of a truth
abbrev pub IsMade : List Sort → ℕ → List AtomOf → Ex → Made → Type 0
IsMade sorts n rows e x = IsTruth sorts e → Makes sorts n rows e x

-- a chain of the code's links behind an expression
abbrev pub behind : Ex → List Link → Ex
behind a ls = m.chained a (links_of (map link_view ls))

-- put behind a truth, the links mean what these others mean behind what means the same
abbrev pub Carries : List Sort → ℕ → List AtomOf → List Link → List Link → Type 0
Carries sorts n rows ls xs =
    (a x : Ex) → IsTruth sorts a → IsTruth sorts (behind a ls) → Means sorts n rows a x → Means sorts n rows (behind a ls) (behind x xs)

-- put behind a truth whose first operation that leaves the range is `first`, the links make a chain of which it is `all`
abbrev pub Refuses : List Sort → Option OutOfRange → List Link → Option OutOfRange → Type 0
Refuses sorts first ls all =
    (a : Ex) → IsTruth sorts a → IsTruth sorts (behind a ls) → first_refused sorts a ≡ first → first_refused sorts (behind a ls) ≡ all

-- what the links of a chain are over atoms, with the chain's first operation that leaves the range, where that of what they stand behind
-- is `first`
pub record AreMade (sorts : List Sort) (n : ℕ) (rows : List AtomOf) (first : Option OutOfRange) (ls : List Link) (xs : Linked) : Type 0 where
  pub carries : Carries sorts n rows ls xs.links.items
  pub refuses : Refuses sorts first ls xs.refused

-- what was refused is the operation that leaves the range
abbrev pub IsRange : Refused → Made → Type 0
IsRange (Range o) x = Shows (Fact false) (Some o) x
IsRange Memory x = ⊥

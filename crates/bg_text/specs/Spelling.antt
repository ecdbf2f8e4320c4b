-- The tokens of an expression, rule by rule.
use Rattle.std.specs.Prelude.{◌≡◌, ◌≢◌, ℕ, ◌<◌, ◌≤◌, List, [], ◌∷◌, ◌++◌, map, Bool, true, false}
use Rattle.bg_text.specs.declared.token.Kind.{Kind}
use Rattle.bg_text.specs.declared.token.Kind.TheVariants as kinds
use Rattle.bg_text.specs.Tokens.{Tok}
use Rattle.bg_text.specs.Marks.{Mark, sign, sign_at, name_at, Fits, Words}
use Rattle.bg_text.specs.declared.expr.InfixSign.{InfixSign}
use Rattle.bg_text.specs.declared.expr.InfixSign.TheVariants as op
use Rattle.bg_text.specs.declared.expr.PrefixSign.{PrefixSign}
use Rattle.bg_text.specs.declared.expr.PrefixSign.TheVariants as prefix
use Rattle.bg_text.specs.declared.expr.TreePrefix.{TreePrefix}
use Rattle.bg_text.specs.Trees.{Ex, Number, Truth, Named, Apply, Old, Parens, Prefix, Postfix, Chain, Exs, NoMore, More, Brackets, NoBracket, Select, Update, Links, NoLink, Link}

abbrev pub infix_kind : InfixSign → Kind
infix_kind op.Iff = kinds.Iff
infix_kind op.Implies = kinds.Implies
infix_kind op.Explies = kinds.Explies
infix_kind op.And = kinds.And
infix_kind op.Or = kinds.Or
infix_kind op.Equal = kinds.Equal
infix_kind op.Unequal = kinds.Unequal
infix_kind op.Less = kinds.Less
infix_kind op.AtMost = kinds.AtMost
infix_kind op.Greater = kinds.Greater
infix_kind op.AtLeast = kinds.AtLeast
infix_kind op.Plus = kinds.Plus
infix_kind op.Minus = kinds.Minus
infix_kind op.Times = kinds.Times

abbrev pub truth_kind : Bool → Kind
truth_kind true = kinds.True
truth_kind false = kinds.False

abbrev pub prefix_kind : PrefixSign → Kind
prefix_kind prefix.Not = kinds.Not
prefix_kind prefix.Minus = kinds.Minus

abbrev pub prefix_mark : TreePrefix → Mark
prefix_mark s = sign_at s.pos (prefix_kind s.sign)

abbrev mutual
  pub ex_marks : Ex → List Mark
  ex_marks (Number p z) = sign_at p (kinds.Number z) ∷ []
  ex_marks (Truth p b) = sign_at p (truth_kind b) ∷ []
  ex_marks (Named p name) = name_at p name ∷ []
  ex_marks (Apply p name es) = name_at p name ∷ sign kinds.Open ∷ list_marks es ++ sign kinds.Close ∷ []
  ex_marks (Old p e) = sign_at p kinds.Old ∷ sign kinds.Open ∷ ex_marks e ++ sign kinds.Close ∷ []
  ex_marks (Parens p e) = sign_at p kinds.Open ∷ ex_marks e ++ sign kinds.Close ∷ []
  ex_marks (Prefix signs e) = map prefix_mark signs ++ ex_marks e
  ex_marks (Postfix e bs) = ex_marks e ++ bracket_marks bs
  ex_marks (Chain e links) = ex_marks e ++ link_marks links

  -- expressions with commas between them
  pub list_marks : Exs → List Mark
  list_marks NoMore = []
  list_marks (More e es) = ex_marks e ++ more_marks es

  -- expressions with a comma before each
  pub more_marks : Exs → List Mark
  more_marks NoMore = []
  more_marks (More e es) = sign kinds.Comma ∷ ex_marks e ++ more_marks es

  pub bracket_marks : Brackets → List Mark
  bracket_marks NoBracket = []
  bracket_marks (Select p es bs) = sign_at p kinds.OpenBracket ∷ list_marks es ++ sign kinds.CloseBracket ∷ bracket_marks bs
  bracket_marks (Update p es e bs) = sign_at p kinds.OpenBracket ∷ list_marks es ++ sign kinds.Becomes ∷ ex_marks e ++ sign kinds.CloseBracket ∷ bracket_marks bs

  pub link_marks : Links → List Mark
  link_marks NoLink = []
  link_marks (Link p s e links) = sign_at p (infix_kind s) ∷ ex_marks e ++ link_marks links

-- how tightly a sign binds
abbrev pub grade : InfixSign → ℕ
grade op.Iff = 0
grade op.Implies = 1
grade op.Explies = 1
grade op.And = 2
grade op.Or = 2
grade op.Equal = 3
grade op.Unequal = 3
grade op.Less = 3
grade op.AtMost = 3
grade op.Greater = 3
grade op.AtLeast = 3
grade op.Plus = 4
grade op.Minus = 4
grade op.Times = 5

-- whether the second sign may stand in a chain that begins with the first
abbrev pub goes_on : InfixSign → InfixSign → Bool
goes_on op.Iff op.Iff = true
goes_on op.Implies op.Implies = true
goes_on op.Explies op.Explies = true
goes_on op.And op.And = true
goes_on op.Or op.Or = true
goes_on op.Plus op.Plus = true
goes_on op.Plus op.Minus = true
goes_on op.Minus op.Plus = true
goes_on op.Minus op.Minus = true
goes_on op.Times op.Times = true
goes_on _ _ = false

-- the level of an expression: that of its signs, 6 with prefix signs, 7 with brackets, 8 for an atom
abbrev pub level : Ex → ℕ
level (Chain e NoLink) = 0
level (Chain e (Link p s f links)) = grade s
level (Prefix signs e) = 6
level (Postfix e bs) = 7
level _ = 8

abbrev mutual
  -- an expression of the grammar: each part stands at a level at which the rules have it
  pub IsEx : Ex → Type 0
  IsEx (Number p z) = Unit {0}
  IsEx (Truth p b) = Unit {0}
  IsEx (Named p name) = Unit {0}
  IsEx (Apply p name es) = AreExs es
  IsEx (Old p e) = IsEx e
  IsEx (Parens p e) = IsEx e
  IsEx (Prefix signs e) = (signs ≢ []) × IsEx e × 7 ≤ level e
  IsEx (Postfix e bs) = (bs ≢ NoBracket) × IsEx e × 8 ≤ level e × AreBrackets bs
  IsEx (Chain e links) = IsEx e × AreLinks (level e) links

  pub AreExs : Exs → Type 0
  AreExs NoMore = Unit {0}
  AreExs (More e es) = IsEx e × AreExs es

  -- each bracket has an index
  pub AreBrackets : Brackets → Type 0
  AreBrackets NoBracket = Unit {0}
  AreBrackets (Select p es bs) = (es ≢ NoMore) × AreExs es × AreBrackets bs
  AreBrackets (Update p es e bs) = (es ≢ NoMore) × AreExs es × IsEx e × AreBrackets bs

  -- the links behind a first operand of this level: there is one, and each operand binds more tightly than the first sign
  pub AreLinks : ℕ → Links → Type 0
  AreLinks n NoLink = ⊥
  AreLinks n (Link p s e links) = (grade s < n) × IsEx e × (grade s < level e) × GoOn s links

  pub GoOn : InfixSign → Links → Type 0
  GoOn s NoLink = Unit {0}
  GoOn s (Link p r e links) = (goes_on s r ≡ true) × IsEx e × (grade s < level e) × GoOn s links

-- the expression, where one of at least this level is wanted, is spelled by these tokens
abbrev pub Spells : ℕ → Ex → List Tok → Type 0
Spells k e ts = IsEx e × k ≤ level e × Words ts (ex_marks e)

-- and it has their positions
abbrev pub SpellsAt : ℕ → Ex → List Tok → Type 0
SpellsAt k e ts = IsEx e × k ≤ level e × Fits ts (ex_marks e)

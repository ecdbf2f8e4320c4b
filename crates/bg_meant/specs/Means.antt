-- What names mean in expressions, one rule for each form.
use Rattle.std.specs.Prelude.{◌≡◌, ℕ, true, Some}
use Rattle.bg_base.specs.declared.pos.Pos.{Pos}
use Rattle.bg_text.specs.Trees as t
use Rattle.bg_ast.specs.Syntax as s
use Rattle.bg_ast.specs.Resolved as r
use Rattle.bg_names.specs.declared.scope.Meaning.{Meaning}
use Rattle.bg_names.specs.declared.scope.Meaning.TheVariants as means
use Rattle.bg_names.specs.Spaces.{Scope, meaning, place}

-- a name that is read is a constant's or a variable's
abbrev pub IsRead : Pos → Meaning → r.Ex → Type 0
IsRead p (means.Constant k) e = e ≡ r.Constant p k
IsRead p (means.Global k) e = e ≡ r.Read p (s.Global k)
IsRead p (means.Local k) e = e ≡ r.Read p (s.Local k)
IsRead p _ e = ⊥

abbrev mutual
  -- in this scope the tree means this expression
  pub Means : Scope → t.Ex → r.Ex → Type 0
  Means g (t.Number p z) e = e ≡ r.Number p z
  Means g (t.Truth p b) e = e ≡ r.Truth p b
  Means g (t.Named p x) e = IsRead p (meaning g x) e
  Means g (t.Apply p f as_) e =
      (k : ℕ) × ((es : r.Exs) × (place g.functions f ≡ Some k) × MeanAll g as_ es × (e ≡ r.Apply p k es))
  Means g (t.Old p a) e = (g.has_old ≡ true) × ((x : r.Ex) × Means g a x × (e ≡ r.Old p x))
  Means g (t.Parens p a) e = (x : r.Ex) × Means g a x × (e ≡ r.Parens p x)
  Means g (t.Prefix signs a) e = (x : r.Ex) × Means g a x × (e ≡ r.Prefix signs x)
  Means g (t.Postfix a bs) e =
      (x : r.Ex) × ((cs : r.Brackets) × Means g a x × MeanBrackets g bs cs × (e ≡ r.Postfix x cs))
  Means g (t.Chain a ls) e =
      (x : r.Ex) × ((ms : r.Links) × Means g a x × MeanLinks g ls ms × (e ≡ r.Chain x ms))

  pub MeanAll : Scope → t.Exs → r.Exs → Type 0
  MeanAll g t.NoMore es = es ≡ r.NoMore
  MeanAll g (t.More a as_) es = (x : r.Ex) × ((xs : r.Exs) × Means g a x × MeanAll g as_ xs × (es ≡ r.More x xs))

  pub MeanBrackets : Scope → t.Brackets → r.Brackets → Type 0
  MeanBrackets g t.NoBracket cs = cs ≡ r.NoBracket
  MeanBrackets g (t.Select p as_ bs) cs =
      (es : r.Exs) × ((ds : r.Brackets) × MeanAll g as_ es × MeanBrackets g bs ds × (cs ≡ r.Select p es ds))
  MeanBrackets g (t.Update p as_ a bs) cs =
      (es : r.Exs)
      × ((x : r.Ex) × ((ds : r.Brackets) × MeanAll g as_ es × Means g a x × MeanBrackets g bs ds × (cs ≡ r.Update p es x ds)))

  pub MeanLinks : Scope → t.Links → r.Links → Type 0
  MeanLinks g t.NoLink ms = ms ≡ r.NoLink
  MeanLinks g (t.Link p sign a ls) ms =
      (x : r.Ex) × ((ns : r.Links) × Means g a x × MeanLinks g ls ns × (ms ≡ r.Link p sign x ns))

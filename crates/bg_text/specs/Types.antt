-- The tokens of types, attributes and groups of names, rule by rule.
use Rattle.std.specs.Prelude.{◌≡◌, ◌≢◌, ℕ, List, [], ◌∷◌, ◌++◌, Bool, true, false, Option, Some, None}
use Rattle.bg_text.specs.declared.token.Kind.TheVariants as kinds
use Rattle.bg_text.specs.Trees.{Id, Ty, IntType, BoolType, NamedType, InParens, MapType, Tys, NoType, OneType, Indices, NoIndex, Index, Arg, Formula, Quoted, Attr, Group}
use Rattle.bg_text.specs.Marks.{Mark, sign, sign_at, name_at, id_mark, each, commas}
use Rattle.bg_text.specs.Spelling.{ex_marks, IsEx}

-- a string of an attribute, with its quotes
abbrev pub quoted : List ℕ → Mark
quoted text = record { kind = kinds.Quoted; text = Some text; pos = None }

-- each part is one
abbrev pub All : {A : Type 0} → (A → Type 0) → List A → Type 0
All P [] = Unit {0}
All P (a ∷ rest) = P a × All P rest

abbrev pub IfThere : {A : Type 0} → (A → Type 0) → Option A → Type 0
IfThere P None = Unit {0}
IfThere P (Some a) = P a

abbrev mutual
  pub type_marks : Ty → List Mark
  type_marks (IntType p) = sign_at p kinds.Int ∷ []
  type_marks (BoolType p) = sign_at p kinds.Bool ∷ []
  type_marks (NamedType p x) = name_at p x ∷ []
  type_marks (InParens p t) = sign_at p kinds.Open ∷ type_marks t ++ sign kinds.Close ∷ []
  type_marks (MapType is t) = index_marks is ++ type_marks t

  pub index_marks : Indices → List Mark
  index_marks NoIndex = []
  index_marks (Index p ts is) = sign_at p kinds.OpenBracket ∷ types_marks ts ++ sign kinds.CloseBracket ∷ index_marks is

  -- types with commas between them
  pub types_marks : Tys → List Mark
  types_marks NoType = []
  types_marks (OneType t ts) = type_marks t ++ more_types_marks ts

  pub more_types_marks : Tys → List Mark
  more_types_marks NoType = []
  more_types_marks (OneType t ts) = sign kinds.Comma ∷ type_marks t ++ more_types_marks ts

abbrev pub is_map : Ty → Bool
is_map (MapType is t) = true
is_map _ = false

abbrev mutual
  -- a type of the grammar: a row of brackets is taken whole, and each has an index type
  pub IsType : Ty → Type 0
  IsType (IntType p) = Unit {0}
  IsType (BoolType p) = Unit {0}
  IsType (NamedType p x) = Unit {0}
  IsType (InParens p t) = IsType t
  IsType (MapType is t) = (is ≢ NoIndex) × AreIndices is × IsType t × (is_map t ≡ false)

  pub AreIndices : Indices → Type 0
  AreIndices NoIndex = Unit {0}
  AreIndices (Index p ts is) = (ts ≢ NoType) × AreTypes ts × AreIndices is

  pub AreTypes : Tys → Type 0
  AreTypes NoType = Unit {0}
  AreTypes (OneType t ts) = IsType t × AreTypes ts

abbrev pub arg_marks : Arg → List Mark
arg_marks (Formula e) = ex_marks e
arg_marks (Quoted text) = quoted text ∷ []

abbrev pub IsArg : Arg → Type 0
IsArg (Formula e) = IsEx e
IsArg (Quoted text) = Unit {0}

abbrev pub attr_marks : Attr → List Mark
attr_marks a = sign kinds.OpenBrace ∷ sign kinds.Colon ∷ id_mark a.name ∷ commas arg_marks a.args ++ sign kinds.CloseBrace ∷ []

abbrev pub IsAttr : Attr → Type 0
IsAttr a = All IsArg a.args

abbrev pub ids_marks : List Id → List Mark
ids_marks = commas (λ x. id_mark x ∷ [])

abbrev pub group_marks : Group → List Mark
group_marks g = each attr_marks g.attrs ++ ids_marks g.names ++ sign kinds.Colon ∷ type_marks g.ty

abbrev pub IsGroup : Group → Type 0
IsGroup g = All IsAttr g.attrs × (g.names ≢ []) × IsType g.ty

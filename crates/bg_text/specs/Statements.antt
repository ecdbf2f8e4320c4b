-- The tokens of statements, rule by rule.
use Rattle.std.specs.Prelude.{◌≡◌, ◌≢◌, List, [], ◌∷◌, ◌++◌, Bool, true, false}
use Rattle.bg_text.specs.declared.token.Kind.{Kind}
use Rattle.bg_text.specs.declared.token.Kind.TheVariants as kinds
use Rattle.bg_base.specs.declared.pos.Pos.{Pos}
use Rattle.bg_text.specs.Trees.{Id, Exs, NoMore, Clause, Guard, Star, Test, Target, Call, St, Label, Assert, Assume, Havoc, Assign, Invoke, If, IfElse, While, Break, Goto, Return, Sts, NoSt, Then, Arms, NoArm, Arm}
use Rattle.bg_text.specs.Marks.{Mark, sign, sign_at, id_mark, each, commas, if_there}
use Rattle.bg_text.specs.Spelling.{ex_marks, list_marks, IsEx, AreExs}
use Rattle.bg_text.specs.Types.{All, ids_marks, attr_marks, IsAttr}

-- the first word of a clause, which has its position
abbrev pub clause_word : Kind → Clause → List Mark
clause_word word c = if_free c.is_free word c.pos
  where
    if_free : Bool → Kind → Pos → List Mark
    if_free true word p = sign_at p kinds.Free ∷ sign word ∷ []
    if_free false word p = sign_at p word ∷ []

-- a clause that begins with this word, or with `free` before it
abbrev pub clause_marks : Kind → Clause → List Mark
clause_marks word c = clause_word word c ++ each attr_marks c.attrs ++ ex_marks c.says ++ sign kinds.Semicolon ∷ []

abbrev pub IsClause : Clause → Type 0
IsClause c = All IsAttr c.attrs × IsEx c.says

-- a clause that can't be free
abbrev pub IsPlain : Clause → Type 0
IsPlain c = (c.is_free ≡ false) × IsClause c

abbrev pub guard_marks : Guard → List Mark
guard_marks (Star p) = sign kinds.Open ∷ sign_at p kinds.Times ∷ sign kinds.Close ∷ []
guard_marks (Test e) = sign kinds.Open ∷ ex_marks e ++ sign kinds.Close ∷ []

abbrev pub IsGuard : Guard → Type 0
IsGuard (Star p) = Unit {0}
IsGuard (Test e) = IsEx e

abbrev pub bracket_marks : Pos × Exs → List Mark
bracket_marks b = sign_at b.0 kinds.OpenBracket ∷ list_marks b.1 ++ sign kinds.CloseBracket ∷ []

abbrev pub IsBracket : Pos × Exs → Type 0
IsBracket b = (b.1 ≢ NoMore) × AreExs b.1

abbrev pub target_marks : Target → List Mark
target_marks t = id_mark t.name ∷ each bracket_marks t.brackets

abbrev pub takes_marks : List Id → List Mark
takes_marks [] = []
takes_marks (x ∷ xs) = ids_marks (x ∷ xs) ++ sign kinds.Becomes ∷ []

abbrev pub call_marks : Call → List Mark
call_marks c =
    sign_at c.pos kinds.Call ∷ each attr_marks c.attrs ++ takes_marks c.takes ++ id_mark c.procedure ∷ sign kinds.Open ∷ list_marks c.args
    ++ sign kinds.Close ∷ sign kinds.Semicolon ∷ []

abbrev pub in_braces : List Mark → List Mark
in_braces ms = sign kinds.OpenBrace ∷ ms ++ sign kinds.CloseBrace ∷ []

abbrev mutual
  pub st_marks : St → List Mark
  st_marks (Label x) = id_mark x ∷ sign kinds.Colon ∷ []
  st_marks (Assert c) = clause_marks kinds.Assert c
  st_marks (Assume c) = clause_marks kinds.Assume c
  st_marks (Havoc p xs) = sign_at p kinds.Havoc ∷ ids_marks xs ++ sign kinds.Semicolon ∷ []
  st_marks (Assign p ts es) = commas target_marks ts ++ sign_at p kinds.Becomes ∷ list_marks es ++ sign kinds.Semicolon ∷ []
  st_marks (Invoke c) = call_marks c
  st_marks (If p arms) = sign_at p kinds.If ∷ arms_marks arms
  st_marks (IfElse p arms ss) = sign_at p kinds.If ∷ arms_marks arms ++ sign kinds.Else ∷ in_braces (sts_marks ss)
  st_marks (While p g cs ss) = sign_at p kinds.While ∷ guard_marks g ++ each (clause_marks kinds.Invariant) cs ++ in_braces (sts_marks ss)
  st_marks (Break p x) = sign_at p kinds.Break ∷ if_there (λ y. id_mark y ∷ []) x ++ sign kinds.Semicolon ∷ []
  st_marks (Goto p xs) = sign_at p kinds.Goto ∷ ids_marks xs ++ sign kinds.Semicolon ∷ []
  st_marks (Return p) = sign_at p kinds.Return ∷ sign kinds.Semicolon ∷ []

  pub sts_marks : Sts → List Mark
  sts_marks NoSt = []
  sts_marks (Then s ss) = st_marks s ++ sts_marks ss

  -- a guard and its block, with `else if` before each arm behind the first
  pub arms_marks : Arms → List Mark
  arms_marks NoArm = []
  arms_marks (Arm g ss arms) = guard_marks g ++ in_braces (sts_marks ss) ++ more_arms_marks arms

  pub more_arms_marks : Arms → List Mark
  more_arms_marks NoArm = []
  more_arms_marks (Arm g ss arms) = sign kinds.Else ∷ sign kinds.If ∷ guard_marks g ++ in_braces (sts_marks ss) ++ more_arms_marks arms

abbrev mutual
  -- a statement of the grammar
  pub IsSt : St → Type 0
  IsSt (Label x) = Unit {0}
  IsSt (Assert c) = IsPlain c
  IsSt (Assume c) = IsPlain c
  IsSt (Havoc p xs) = xs ≢ []
  IsSt (Assign p ts es) = (ts ≢ []) × All (λ t. All IsBracket t.brackets) ts × (es ≢ NoMore) × AreExs es
  IsSt (Invoke c) = All IsAttr c.attrs × AreExs c.args
  IsSt (If p arms) = (arms ≢ NoArm) × AreArms arms
  IsSt (IfElse p arms ss) = (arms ≢ NoArm) × AreArms arms × AreSts ss
  IsSt (While p g cs ss) = IsGuard g × All IsClause cs × AreSts ss
  IsSt (Break p x) = Unit {0}
  IsSt (Goto p xs) = xs ≢ []
  IsSt (Return p) = Unit {0}

  pub AreSts : Sts → Type 0
  AreSts NoSt = Unit {0}
  AreSts (Then s ss) = IsSt s × AreSts ss

  pub AreArms : Arms → Type 0
  AreArms NoArm = Unit {0}
  AreArms (Arm g ss arms) = IsGuard g × AreSts ss × AreArms arms

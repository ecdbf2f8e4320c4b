-- Each bracket of a statement is closed.
use Rattle.std.proofs.Common.{◌≡◌, Bool, true, false, List, [], ◌∷◌, ◌++◌, refl}
use Rattle.bg_base.specs.declared.pos.Pos.{Pos}
use Rattle.bg_text.specs.declared.token.Kind.{Kind}
use Rattle.bg_text.specs.declared.token.Kind.TheVariants as kinds
use Rattle.bg_text.specs.Brackets.{Neither, turn}
use Rattle.bg_text.specs.Trees.{Id, Exs, Clause, Guard, Star, Test, Target, Call, St, Label, Assert, Assume, Havoc, Assign, Invoke, If, IfElse, While, Break, Goto, Return, Sts, NoSt, Then, Arms, NoArm, Arm}
use Rattle.bg_text.specs.Marks.{sign, sign_at, id_mark, each}
use Rattle.bg_text.specs.Spelling.{list_marks}
use Rattle.bg_text.specs.Types.{attr_marks}
use Rattle.bg_text.specs.Statements.{clause_word, clause_marks, guard_marks, bracket_marks, target_marks, takes_marks, call_marks, st_marks, sts_marks, arms_marks, more_arms_marks}
use Rattle.bg_reread.proofs.Even.{Even, calm, plain, chain, nest, regroup, round, curly, ended, each_even, commas_even, there_even}
use Rattle.bg_reread.proofs.EvenParts.{ex_even, list_even, ids_even, attrs_even}

word_even : (k : Kind) (c : Clause) (b : Bool) → c.is_free ≡ b → turn k ≡ Neither → Even (clause_word k c)
word_even k c true e n = rw e (plain (sign_at c.pos kinds.Free) refl (plain (sign k) n calm))
word_even k c false e n = rw e (plain (sign_at c.pos k) n calm)

pub clause_even : (k : Kind) → turn k ≡ Neither → (c : Clause) → Even (clause_marks k c)
clause_even k n c = chain (chain (chain (word_even k c c.is_free refl n) (attrs_even c.attrs)) (ex_even c.says)) ended

guard_even : (g : Guard) → Even (guard_marks g)
guard_even (Star p) = round (plain (sign_at p kinds.Times) refl calm) calm
guard_even (Test e) = round (ex_even e) calm

bracket_even : (b : Pos × Exs) → Even (bracket_marks b)
bracket_even b = nest (sign_at b.0 kinds.OpenBracket) (sign kinds.CloseBracket) refl refl (list_even b.1) calm

target_even : (t : Target) → Even (target_marks t)
target_even t = plain (id_mark t.name) refl (each_even bracket_marks bracket_even t.brackets)

takes_even : (xs : List Id) → Even (takes_marks xs)
takes_even [] = calm
takes_even (x ∷ xs) = chain (ids_even (x ∷ xs)) (plain (sign kinds.Becomes) refl calm)

call_even : (c : Call) → Even (call_marks c)
call_even c =
    regroup ((sign_at c.pos kinds.Call ∷ each attr_marks c.attrs) ++ takes_marks c.takes) (id_mark c.procedure ∷ sign kinds.Open ∷ list_marks c.args) (sign kinds.Close ∷ sign kinds.Semicolon ∷ [])
    (chain (chain (plain (sign_at c.pos kinds.Call) refl (attrs_even c.attrs)) (takes_even c.takes)) (plain (id_mark c.procedure) refl (round (list_even c.args) ended)))

mutual
  st_even : (s : St) → Even (st_marks s)
  st_even (Label x) = plain (id_mark x) refl (plain (sign kinds.Colon) refl calm)
  st_even (Assert c) = clause_even kinds.Assert refl c
  st_even (Assume c) = clause_even kinds.Assume refl c
  st_even (Havoc p xs) = chain (plain (sign_at p kinds.Havoc) refl (ids_even xs)) ended
  st_even (Assign p ts es) = chain (chain (commas_even target_marks target_even ts) (plain (sign_at p kinds.Becomes) refl (list_even es))) ended
  st_even (Invoke c) = call_even c
  st_even (If p arms) = plain (sign_at p kinds.If) refl (arms_even arms)
  st_even (IfElse p arms ss) = chain (plain (sign_at p kinds.If) refl (arms_even arms)) (plain (sign kinds.Else) refl (curly (sts_even ss)))
  st_even (While p g cs ss) = chain (chain (plain (sign_at p kinds.While) refl (guard_even g)) (each_even (clause_marks kinds.Invariant) (clause_even kinds.Invariant refl) cs)) (curly (sts_even ss))
  st_even (Break p x) = chain (plain (sign_at p kinds.Break) refl (there_even (λ y. id_mark y ∷ []) (λ y. plain (id_mark y) refl calm) x)) ended
  st_even (Goto p xs) = chain (plain (sign_at p kinds.Goto) refl (ids_even xs)) ended
  st_even (Return p) = plain (sign_at p kinds.Return) refl ended

  pub sts_even : (ss : Sts) → Even (sts_marks ss)
  sts_even NoSt = calm
  sts_even (Then s ss) = chain (st_even s) (sts_even ss)

  arms_even : (as' : Arms) → Even (arms_marks as')
  arms_even NoArm = calm
  arms_even (Arm g ss arms) = chain (chain (guard_even g) (curly (sts_even ss))) (more_arms_even arms)

  more_arms_even : (as' : Arms) → Even (more_arms_marks as')
  more_arms_even NoArm = calm
  more_arms_even (Arm g ss arms) = chain (chain (plain (sign kinds.Else) refl (plain (sign kinds.If) refl (guard_even g))) (curly (sts_even ss))) (more_arms_even arms)

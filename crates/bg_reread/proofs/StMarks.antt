-- Statements without their positions have their marks, at no place.
use Rattle.std.proofs.Common.{◌≡◌, Bool, true, false, List, [], ◌∷◌, map, refl}
use Rattle.bg_base.specs.declared.pos.Pos.{Pos}
use Rattle.bg_text.specs.declared.token.Kind.{Kind}
use Rattle.bg_text.specs.declared.token.Kind.TheVariants as kinds
use Rattle.bg_text.specs.Trees.{Id, Exs, Clause, Guard, Star, Test, Target, Call, St, Label, Assert, Assume, Havoc, Assign, Invoke, If, IfElse, While, Break, Goto, Return, Sts, NoSt, Then, Arms, NoArm, Arm}
use Rattle.bg_text.specs.Marks.{sign, sign_at, id_mark}
use Rattle.bg_text.specs.Statements.{clause_word, clause_marks, guard_marks, bracket_marks, target_marks, takes_marks, call_marks, st_marks, sts_marks, arms_marks, more_arms_marks}
use Rattle.bg_reread.specs.Bare.{bare_id, bare_clause, bare_guard, bare_bracket, bare_target, bare_call, bare_st, bare_sts, bare_arms}
use Rattle.bg_reread.proofs.Stripped.{Strips, none, put, last, join, braces, each_strips, commas_strip, if_there_strips}
use Rattle.bg_reread.proofs.ExMarks.{ex_strips, list_strips}
use Rattle.bg_reread.proofs.TypeMarks.{ids_strip, attrs_strip}

word_by : (k : Kind) (c : Clause) (b : Bool) → c.is_free ≡ b → Strips (clause_word k (bare_clause c)) (clause_word k c)
word_by k c true e = record { same = rw e refl }
word_by k c false e = record { same = rw e refl }

pub clause_strips : (k : Kind) (c : Clause) → Strips (clause_marks k (bare_clause c)) (clause_marks k c)
clause_strips k c = join (join (join (word_by k c c.is_free refl) (attrs_strip c.attrs)) (ex_strips c.says)) (last (sign kinds.Semicolon))

guard_strips : (g : Guard) → Strips (guard_marks (bare_guard g)) (guard_marks g)
guard_strips (Star p) = put (sign kinds.Open) (put (sign_at p kinds.Times) (last (sign kinds.Close)))
guard_strips (Test e) = join (put (sign kinds.Open) (ex_strips e)) (last (sign kinds.Close))

bracket_strips : (b : Pos × Exs) → Strips (bracket_marks (bare_bracket b)) (bracket_marks b)
bracket_strips b = join (put (sign_at b.0 kinds.OpenBracket) (list_strips b.1)) (last (sign kinds.CloseBracket))

target_strips : (t : Target) → Strips (target_marks (bare_target t)) (target_marks t)
target_strips t = put (id_mark t.name) (each_strips bracket_marks bare_bracket bracket_strips t.brackets)

takes_strip : (xs : List Id) → Strips (takes_marks (map bare_id xs)) (takes_marks xs)
takes_strip [] = none
takes_strip (x ∷ xs) = join (ids_strip (x ∷ xs)) (last (sign kinds.Becomes))

call_strips : (c : Call) → Strips (call_marks (bare_call c)) (call_marks c)
call_strips c =
    join (join (join (put (sign_at c.pos kinds.Call) (attrs_strip c.attrs)) (takes_strip c.takes)) (put (id_mark c.procedure) (put (sign kinds.Open) (list_strips c.args))))
    (put (sign kinds.Close) (last (sign kinds.Semicolon)))

mutual
  st_strips : (s : St) → Strips (st_marks (bare_st s)) (st_marks s)
  st_strips (Label x) = put (id_mark x) (last (sign kinds.Colon))
  st_strips (Assert c) = clause_strips kinds.Assert c
  st_strips (Assume c) = clause_strips kinds.Assume c
  st_strips (Havoc p xs) = join (put (sign_at p kinds.Havoc) (ids_strip xs)) (last (sign kinds.Semicolon))
  st_strips (Assign p ts es) = join (join (commas_strip target_marks bare_target target_strips ts) (put (sign_at p kinds.Becomes) (list_strips es))) (last (sign kinds.Semicolon))
  st_strips (Invoke c) = call_strips c
  st_strips (If p arms) = put (sign_at p kinds.If) (arms_strip arms)
  st_strips (IfElse p arms ss) = join (put (sign_at p kinds.If) (arms_strip arms)) (put (sign kinds.Else) (braces (sts_strip ss)))
  st_strips (While p g cs ss) =
      join (join (put (sign_at p kinds.While) (guard_strips g)) (each_strips (clause_marks kinds.Invariant) bare_clause (clause_strips kinds.Invariant) cs)) (braces (sts_strip ss))
  st_strips (Break p x) = join (put (sign_at p kinds.Break) (if_there_strips (λ y. id_mark y ∷ []) bare_id (λ y. last (id_mark y)) x)) (last (sign kinds.Semicolon))
  st_strips (Goto p xs) = join (put (sign_at p kinds.Goto) (ids_strip xs)) (last (sign kinds.Semicolon))
  st_strips (Return p) = put (sign_at p kinds.Return) (last (sign kinds.Semicolon))

  pub sts_strip : (ss : Sts) → Strips (sts_marks (bare_sts ss)) (sts_marks ss)
  sts_strip NoSt = none
  sts_strip (Then s ss) = join (st_strips s) (sts_strip ss)

  arms_strip : (as' : Arms) → Strips (arms_marks (bare_arms as')) (arms_marks as')
  arms_strip NoArm = none
  arms_strip (Arm g ss arms) = join (join (guard_strips g) (braces (sts_strip ss))) (more_arms_strip arms)

  more_arms_strip : (as' : Arms) → Strips (more_arms_marks (bare_arms as')) (more_arms_marks as')
  more_arms_strip NoArm = none
  more_arms_strip (Arm g ss arms) = join (join (put (sign kinds.Else) (put (sign kinds.If) (guard_strips g))) (braces (sts_strip ss))) (more_arms_strip arms)

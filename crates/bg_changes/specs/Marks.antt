-- Marks on variables: those that a statement may change.
use Rattle.std.specs.Prelude.{Bool, true, false, List, [], ◌∷◌, map, Option, Some, None, slice_get, slice_set, get_or}
use Rattle.bg_ast.specs.Syntax.{Var, Global, Local}
use Rattle.bg_ast.specs.Resolved as r
use Rattle.bg_ast.specs.Meaning.{variable_of}
use Rattle.bg_changes.specs.declared.marks.Marks as code

-- a mark for each global, and for each variable of the frame
pub record Marks : Type 0 where
  pub globals : List Bool
  pub frame : List Bool

abbrev pub marks_of : code.Marks → Marks
marks_of m = record { globals = m.globals.items; frame = m.frame.items }

abbrev pub has_mark : Marks → Var → Bool
has_mark m (Global k) = get_or m.globals k false
has_mark m (Local k) = get_or m.frame k false

abbrev pub with_mark : Var → Marks → Marks
with_mark (Global k) m = record { globals = slice_set m.globals k true; frame = m.frame }
with_mark (Local k) m = record { globals = m.globals; frame = slice_set m.frame k true }

abbrev pub with_marks : List Var → Marks → Marks
with_marks [] m = m
with_marks (x ∷ xs) m = with_marks xs (with_mark x m)

abbrev pub target_variable : r.Target → Var
target_variable t = t.placed.variable

-- the globals that a procedure modifies, where it is there
abbrev pub modifies_of : Option r.Proc → List Var
modifies_of None = []
modifies_of (Some q) = map Global q.modifies

abbrev mutual
  -- with what a statement may change, where these are the procedures
  pub mark_st : List r.Proc → r.St → Marks → Marks
  mark_st qs (r.Havoc xs) m = with_marks (map variable_of xs) m
  mark_st qs (r.Assign p ts es) m = with_marks (map target_variable ts) m
  mark_st qs (r.Invoke k) m = with_marks (modifies_of (slice_get qs k.procedure)) (with_marks (map variable_of k.takes) m)
  mark_st qs (r.If n arms otherwise) m = mark_sts qs otherwise (mark_arms qs arms m)
  mark_st qs (r.While n p g is body) m = mark_sts qs body m
  mark_st qs _ m = m

  pub mark_sts : List r.Proc → r.Sts → Marks → Marks
  mark_sts qs r.NoSt m = m
  mark_sts qs (r.Then a b) m = mark_sts qs b (mark_st qs a m)

  pub mark_arms : List r.Proc → r.Arms → Marks → Marks
  mark_arms qs r.NoArm m = m
  mark_arms qs (r.Arm g body arms) m = mark_arms qs arms (mark_sts qs body m)

-- Statements are rules.
use Rattle.std.proofs.Common.{◌≡◌, ℕ, zero, suc, List, [], ◌∷◌, ◌++◌, true, false, Option, Some, None, refl, sym, ap, ◌∙◌, subst, arith, ◌⊎◌, inl, inr, append_assoc, append-nil}
use Rattle.bg_base.specs.declared.pos.Pos.{Pos}
use Rattle.bg_text.specs.declared.token.Kind.{Kind}
use Rattle.bg_text.specs.declared.token.Kind.TheVariants as kinds
use Rattle.bg_text.specs.Trees.{Id, Truth, Exs, NoMore, More, Attr, Clause, Guard, Star, Test, Target, Call, St, Label, Assert, Assume, Havoc, Assign, Invoke, If, IfElse, While, Break, Goto, Return, Sts, NoSt, Then, Arms, NoArm, Arm}
use Rattle.bg_text.specs.Views.{sts_from, Armed, arms_from}
use Rattle.bg_text.specs.Marks.{Mark, sign, sign_at, id_mark, each, after_commas, if_there}
use Rattle.bg_text.specs.Spelling.{ex_marks, list_marks, IsEx, AreExs}
use Rattle.bg_text.specs.Types.{All, IfThere, ids_marks, attr_marks, IsAttr}
use Rattle.bg_text.specs.Statements.{clause_marks, IsClause, IsPlain, guard_marks, IsGuard, bracket_marks, IsBracket, target_marks, call_marks, in_braces, st_marks, sts_marks, more_arms_marks, IsSt, AreSts, AreArms}
use Rattle.bg_reader.specs.Reading.{Reader, both, one, a_sign, a_text}
use Rattle.bg_reader.specs.Exact.{Begins}
use Rattle.bg_reader.proofs.Samples.{is_single, sample}
use Rattle.bg_text.specs.Brackets.{turn, left_by, left}
use Rattle.bg_grammar.specs.Rules.{a_kind, before, below, room}
use Rattle.bg_grammar.proofs.Rule.{nowhere, Spelled, Rule, Image, sign_rule, both_rule, image_rule, iff_rule, via_rule, marks_rule, choose_rule, less_rule, sign_picker, text_picker, kind_picker, row_ok, rows_rule, at_rule, after_rule, before_rule, shut_rule, chain_rule, Behind, NoRoom, Rooms, behind_rule, Within, Full, Room, enclosed_rule, inside_rule}
use Rattle.bg_parts.specs.Parts.{exs_at, args_in, ids_at}
use Rattle.bg_stmts.specs.Statements.{guard_in, guard_at, bracket_in, brackets_in, target, target_at, targets_at, Assigned, assigned_at, named, named_at, called_at, more_ids, Called, takes_at, call_by, call_at, block_at, arm_at, if_by, elses_at, if_at, invariants_at, while_at, havoc_at, goto_at, break_at, return_at, stmt_kinds, plain_at, simple_at, stmt_at, stmts_at, stmts_in}
use Rattle.bg_parts.proofs.TypeRules.{id_rule}
use Rattle.bg_parts.proofs.ExprRule.{expr_firsts, expr_rule, SomeExs, exs_rule, args_rule}
use Rattle.bg_parts.proofs.PartRules.{attrs_rule, SomeIds, ids_rule, clause_rule, invariant_rule}

-- guards
abbrev guard_inner : Guard → List Mark
guard_inner (Star p) = sign_at p kinds.Times ∷ []
guard_inner (Test e) = ex_marks e

guard_to : (g : Guard) → Image Star (λ p. Unit {0}) g ⊎ Image Test IsEx g → IsGuard g
guard_to g (inl i) = subst IsGuard i.1 tt
guard_to g (inr i) = subst IsGuard i.1 i.2

guard_back : (g : Guard) → IsGuard g → Image Star (λ p. Unit {0}) g ⊎ Image Test IsEx g
guard_back (Star p) i = inl (p, refl, tt)
guard_back (Test e) i = inr (e, refl, i)

guard_in_rule : (n d : ℕ) → Rule n d d (kinds.Close ∷ []) (kinds.Times ∷ expr_firsts) (kinds.Times ∷ []) false IsGuard guard_inner (guard_in n d)
unfolding guard_in
guard_in_rule n d =
    iff_rule (choose_rule (a_sign kinds.Times) (kinds.Times ∷ []) (sign_picker kinds.Times)
    (image_rule (sign_rule n d d (kinds.Close ∷ []) kinds.Times refl refl) Star guard_inner (λ v i. refl))
    (image_rule (less_rule (expr_rule n d) n (omega arith) (kinds.Close ∷ []) refl) Test guard_inner (λ v i. refl)) refl) IsGuard guard_to guard_back

some_guard : Begins (Spelled IsGuard guard_inner) []
some_guard = (Star nowhere, sample kinds.Times refl nowhere ∷ [], (tt, ((refl, tt, refl), tt)))

guard_within : (n d : ℕ) → Within n d kinds.Close IsGuard guard_inner (room (guard_in n) (below d))
guard_within n zero = Full refl some_guard
guard_within n (suc d) = Room d refl refl (guard_in_rule n d)

guard_same : (g : Guard) → IsGuard g → guard_marks g ≡ sign kinds.Open ∷ guard_inner g ++ sign kinds.Close ∷ []
guard_same (Star p) i = refl
guard_same (Test e) i = refl

guard_rule : (n d : ℕ) (F : List Kind) → Rule n d d F (kinds.Open ∷ []) (kinds.Open ∷ []) false IsGuard guard_marks (guard_at n d)
unfolding guard_at
guard_rule n d F = marks_rule (inside_rule IsGuard guard_inner F kinds.Open kinds.Close refl refl refl (λ b. refl) (guard_within n d)) guard_marks guard_same

-- left sides
some_exs : Begins (Spelled SomeExs list_marks) []
some_exs = (More (Truth nowhere true) NoMore, sample kinds.True refl nowhere ∷ [], (((λ c. cc), (tt, tt)), ((refl, tt, refl), tt)))

bracket_within : (n d : ℕ) → Within n d kinds.CloseBracket SomeExs list_marks (room (exs_at n) (below d))
bracket_within n zero = Full refl some_exs
bracket_within n (suc d) = Room d refl refl (exs_rule n d)

bracket_rule : (n d : ℕ) (F : List Kind) → Rule n d d F (kinds.OpenBracket ∷ []) (kinds.OpenBracket ∷ []) false IsBracket bracket_marks (bracket_in n d)
unfolding bracket_in
bracket_rule n d F = enclosed_rule SomeExs list_marks F kinds.OpenBracket kinds.CloseBracket refl refl refl (λ b. refl) (bracket_within n d)

brackets_rule : (n d : ℕ) (G : List Kind) → row_ok (kinds.OpenBracket ∷ []) (kinds.OpenBracket ∷ []) (kinds.OpenBracket ∷ []) (kinds.OpenBracket ∷ G) G ≡ true → Rule n d d G (kinds.OpenBracket ∷ []) [] true (All IsBracket) (each bracket_marks) (brackets_in n d)
unfolding brackets_in
brackets_rule n d G ok = rows_rule (a_sign kinds.OpenBracket) (kinds.OpenBracket ∷ []) (sign_picker kinds.OpenBracket) (bracket_rule n d (kinds.OpenBracket ∷ G)) G ok n (omega arith)

abbrev target_ends : List Kind
target_ends = kinds.Comma ∷ kinds.Becomes ∷ []

abbrev IsTarget : Target → Type 0
IsTarget t = All IsBracket t.brackets

target_rule : (n d : ℕ) → Rule n d d target_ends (kinds.Name ∷ []) (kinds.Name ∷ []) false IsTarget target_marks (target_at n d)
unfolding target_at
target_rule n d = via_rule (both_rule (id_rule n d (kinds.OpenBracket ∷ target_ends)) (brackets_rule n d target_ends refl) refl) (λ (v : Id × List (Pos × Exs)). target v.0 v.1) IsTarget target_marks (λ v i. refl) (λ v i. i.1) (λ w i. ((w.name, w.brackets), refl, (tt, i)))

abbrev after_target : Target → List Mark
after_target t = sign kinds.Comma ∷ target_marks t

targets_rule : (n d : ℕ) → Rule n d d (kinds.Becomes ∷ []) (kinds.Comma ∷ []) [] true (All IsTarget) (each after_target) (targets_at n d)
unfolding targets_at
targets_rule n d = rows_rule (a_sign kinds.Comma) (kinds.Comma ∷ []) (sign_picker kinds.Comma) (after_rule kinds.Comma refl refl (target_rule n d)) (kinds.Becomes ∷ []) refl n (omega arith)

abbrev AssignedWell : Assigned → Type 0
AssignedWell v = All IsBracket v.0 × (All IsTarget v.1.0 × SomeExs v.1.1.1)

abbrev assigned_marks : Assigned → List Mark
assigned_marks v = each bracket_marks v.0 ++ (each after_target v.1.0 ++ (sign_at v.1.1.0 kinds.Becomes ∷ (list_marks v.1.1.1 ++ sign kinds.Semicolon ∷ [])))

abbrev assigned_firsts : List Kind
assigned_firsts = kinds.OpenBracket ∷ kinds.Comma ∷ kinds.Becomes ∷ []

assigned_rule : (n d : ℕ) (F : List Kind) → Rule n d d F assigned_firsts [] false AssignedWell assigned_marks (assigned_at n d)
unfolding assigned_at
assigned_rule n d F = both_rule (brackets_rule n d target_ends refl) (both_rule (targets_rule n d) (at_rule kinds.Becomes refl refl (before_rule d F kinds.Semicolon refl refl (exs_rule n d) refl)) refl) refl

abbrev named_marks : Option Assigned → List Mark
named_marks None = sign kinds.Colon ∷ []
named_marks (Some v) = assigned_marks v

after_each : {A : Type 0} (f : A → List Mark) (vs : List A) → after_commas f vs ≡ each (λ v. sign kinds.Comma ∷ f v) vs
after_each f [] = refl
after_each f (v ∷ vs) = ap (λ l. sign kinds.Comma ∷ f v ++ l) (after_each f vs)

four : (a b c d : List Mark) → ((a ++ b) ++ c) ++ d ≡ a ++ (b ++ (c ++ d))
four a b c d = simp append_assoc

five : (a b c d e : List Mark) (x : Mark) → ((a ++ (x ∷ (b ++ c))) ++ d) ++ e ≡ a ++ (x ∷ (b ++ (c ++ (d ++ e))))
five a b c d e x = simp append_assoc

named_same : (x : Id) (o : Option Assigned) → st_marks (named x o) ≡ id_mark x ∷ named_marks o
named_same x None = refl
named_same x (Some v) = rw (after_each target_marks v.1.0) (ap (λ l. id_mark x ∷ l) (four (each bracket_marks v.0) (each after_target v.1.0) (sign_at v.1.1.0 kinds.Becomes ∷ list_marks v.1.1.1) (sign kinds.Semicolon ∷ [])))

abbrev NamedWell : Id × Option Assigned → Type 0
NamedWell v = (v.1 ≡ None) ⊎ Image Some AssignedWell v.1

abbrev IsNamed : St → Type 0
IsNamed = Image (λ (v : Id × Option Assigned). named v.0 v.1) NamedWell

named_rule : (n d : ℕ) (F : List Kind) → Rule n d d F (kinds.Name ∷ []) (kinds.Name ∷ []) false IsNamed st_marks (named_at n d)
unfolding named_at
named_rule n d F =
    image_rule (iff_rule (both_rule (id_rule n d (kinds.Colon ∷ assigned_firsts))
    (choose_rule (a_sign kinds.Colon) (kinds.Colon ∷ []) (sign_picker kinds.Colon) (shut_rule n d d F kinds.Colon refl refl None named_marks refl) (image_rule (assigned_rule n d F) Some named_marks (λ v i. refl)) refl) refl)
    NamedWell (λ v i. i.1) (λ v i. (tt, i)))
    (λ (v : Id × Option Assigned). named v.0 v.1) st_marks (λ v i. named_same v.0 v.1)

-- calls
some_args : Begins (Spelled AreExs (λ es. list_marks es ++ sign kinds.Close ∷ [])) []
some_args = (NoMore, sample kinds.Close refl nowhere ∷ [], (tt, ((refl, tt, tt), tt)))

args_behind : (n d : ℕ) (F : List Kind) → Behind n d F AreExs (λ es. list_marks es ++ sign kinds.Close ∷ []) (room (args_in n) (below d))
args_behind n zero F = NoRoom refl some_args
args_behind n (suc d) F = Rooms d refl (args_rule n d F)

abbrev args_marks : Exs → List Mark
args_marks es = (sign kinds.Open ∷ (list_marks es ++ sign kinds.Close ∷ [])) ++ sign kinds.Semicolon ∷ []

called_rule : (n d : ℕ) (F : List Kind) → Rule n d d F (kinds.Open ∷ []) (kinds.Open ∷ []) false AreExs args_marks (called_at n d)
unfolding called_at
called_rule n d F = before_rule d F kinds.Semicolon refl refl (behind_rule AreExs (λ es. list_marks es ++ sign kinds.Close ∷ []) (kinds.Semicolon ∷ []) kinds.Open refl refl (args_behind n d (kinds.Semicolon ∷ []))) refl

abbrev after_id : Id → List Mark
after_id x = sign kinds.Comma ∷ id_mark x ∷ []

more_ids_rule : (n d : ℕ) → Rule n d d (kinds.Becomes ∷ []) (kinds.Comma ∷ []) [] true (All (λ x. Unit {0})) (each after_id) (more_ids n)
unfolding more_ids
more_ids_rule n d = rows_rule (a_sign kinds.Comma) (kinds.Comma ∷ []) (sign_picker kinds.Comma) (after_rule kinds.Comma refl refl (id_rule n d target_ends)) (kinds.Becomes ∷ []) refl n (omega arith)

abbrev called_by : Option (List Id × Id) → Exs → List Mark
called_by None es = args_marks es
called_by (Some t) es = each after_id t.0 ++ (sign kinds.Becomes ∷ (id_mark t.1 ∷ args_marks es))

abbrev called_marks : Called → List Mark
called_marks v = called_by v.0 v.1

all_ids : (xs : List Id) → All (λ x. Unit {0}) xs
all_ids [] = tt
all_ids (x ∷ xs) = (tt, all_ids xs)

abbrev NoTakes : Called → Type 0
NoTakes = Image (λ (es : Exs). (None, es)) AreExs

abbrev SomeTakes : Called → Type 0
SomeTakes = Image (λ (v : List Id × (Id × Exs)). (Some (v.0, v.1.0), v.1.1)) (λ v. All (λ x. Unit {0}) v.0 × (Unit {0} × AreExs v.1.1))

takes_back : (o : Option (List Id × Id)) (es : Exs) → AreExs es → NoTakes (o, es) ⊎ SomeTakes (o, es)
takes_back None es i = inl (es, refl, i)
takes_back (Some t) es i = inr ((t.0, (t.1, es)), refl, (all_ids t.0, (tt, i)))

takes_to : (w : Called) → NoTakes w ⊎ SomeTakes w → AreExs w.1
takes_to w (inl i) = subst (λ (u : Called). AreExs u.1) i.1 i.2
takes_to w (inr i) = subst (λ (u : Called). AreExs u.1) i.1 i.2.1.1

takes_rule : (n d : ℕ) (F : List Kind) → Rule n d d F (kinds.Open ∷ kinds.Comma ∷ kinds.Becomes ∷ []) (kinds.Open ∷ []) false (λ (v : Called). AreExs v.1) called_marks (takes_at n d)
unfolding takes_at
takes_rule n d F =
    iff_rule (choose_rule (a_sign kinds.Open) (kinds.Open ∷ []) (sign_picker kinds.Open)
    (image_rule (called_rule n d F) (λ (es : Exs). (None, es)) called_marks (λ v i. refl))
    (image_rule (both_rule (more_ids_rule n d) (after_rule kinds.Becomes refl refl (both_rule (id_rule n d (kinds.Open ∷ [])) (called_rule n d F) refl)) refl) (λ (v : List Id × (Id × Exs)). (Some (v.0, v.1.0), v.1.1)) called_marks (λ v i. refl)) refl)
    (λ v. AreExs v.1) takes_to (λ v i. takes_back v.0 v.1 i)

abbrev CallWell : Call → Type 0
CallWell c = All IsAttr c.attrs × AreExs c.args

call_same : (p : Pos) (attrs : List Attr) (x : Id) (o : Option (List Id × Id)) (es : Exs) → call_marks (call_by p attrs x o es) ≡ sign_at p kinds.Call ∷ (each attr_marks attrs ++ (id_mark x ∷ called_by o es))
call_same p attrs x None es = simp append_assoc
call_same p attrs x (Some t) es =
    rw (after_each (λ x. id_mark x ∷ []) t.0)
    (ap (λ l. sign_at p kinds.Call ∷ l)
    (five (each attr_marks attrs) (each after_id t.0) (sign kinds.Becomes ∷ []) (id_mark t.1 ∷ sign kinds.Open ∷ list_marks es) (sign kinds.Close ∷ sign kinds.Semicolon ∷ []) (id_mark x)
    ∙ ap (λ l. each attr_marks attrs ++ (id_mark x ∷ (each after_id t.0 ++ (sign kinds.Becomes ∷ id_mark t.1 ∷ sign kinds.Open ∷ l)))) (sym (append_assoc (list_marks es) (sign kinds.Close ∷ []) (sign kinds.Semicolon ∷ [])))))

call_to : (p : Pos) (attrs : List Attr) (x : Id) (o : Option (List Id × Id)) (es : Exs) → All IsAttr attrs → AreExs es → CallWell (call_by p attrs x o es)
call_to p attrs x None es a e = (a, e)
call_to p attrs x (Some t) es a e = (a, e)

abbrev CallParts : Type 0
CallParts = Pos × (List Attr × (Id × Called))

abbrev PartsWell : CallParts → Type 0
PartsWell v = All IsAttr v.1.0 × (Unit {0} × AreExs v.1.1.1.1)

call_back : (w : Call) → CallWell w → (v : CallParts) × (call_by v.0 v.1.0 v.1.1.0 v.1.1.1.0 v.1.1.1.1 ≡ w) × PartsWell v
call_back w i = by w.takes refl
  where
    by : (xs : List Id) → w.takes ≡ xs → (v : CallParts) × (call_by v.0 v.1.0 v.1.1.0 v.1.1.1.0 v.1.1.1.1 ≡ w) × PartsWell v
    by [] e = ((w.pos, (w.attrs, (w.procedure, (None, w.args)))), ap (λ (xs : List Id). record { pos = w.pos; attrs = w.attrs; takes = xs; procedure = w.procedure; args = w.args }) (sym e), (i.0, (tt, i.1)))
    by (x ∷ xs) e = ((w.pos, (w.attrs, (x, (Some (xs, w.procedure), w.args)))), ap (λ (xs : List Id). record { pos = w.pos; attrs = w.attrs; takes = xs; procedure = w.procedure; args = w.args }) (sym e), (i.0, (tt, i.1)))

call_rule : (n d : ℕ) (F : List Kind) → Rule n d d F (kinds.Call ∷ []) (kinds.Call ∷ []) false CallWell call_marks (call_at n d)
unfolding call_at
call_rule n d F =
    via_rule (at_rule kinds.Call refl refl (both_rule (attrs_rule n d (kinds.Name ∷ []) refl) (both_rule (id_rule n d (kinds.Open ∷ kinds.Comma ∷ kinds.Becomes ∷ [])) (takes_rule n d F) refl) refl))
    (λ (v : CallParts). call_by v.0 v.1.0 v.1.1.0 v.1.1.1.0 v.1.1.1.1) CallWell call_marks (λ v i. call_same v.0 v.1.0 v.1.1.0 v.1.1.1.0 v.1.1.1.1) (λ v i. call_to v.0 v.1.0 v.1.1.0 v.1.1.1.0 v.1.1.1.1 i.0 i.1.1) call_back

-- names behind a word
ids_st_rule : (n d : ℕ) (F : List Kind) (k : Kind) (single : is_single k ≡ true) (step : left_by (turn k) d (left []) ≡ Some d) → Rule n d d F (k ∷ []) (k ∷ []) false (λ v. SomeIds v.1) (λ (v : Pos × List Id). sign_at v.0 k ∷ (ids_marks v.1 ++ sign kinds.Semicolon ∷ [])) (both (one (a_sign k)) (before (ids_at n) kinds.Semicolon))
ids_st_rule n d F k single step = at_rule k single step (before_rule d F kinds.Semicolon refl refl (ids_rule n d (kinds.Semicolon ∷ []) refl) refl)

abbrev IsHavoc : St → Type 0
IsHavoc = Image (λ (v : Pos × List Id). Havoc v.0 v.1) (λ v. SomeIds v.1)

havoc_rule : (n d : ℕ) (F : List Kind) → Rule n d d F (kinds.Havoc ∷ []) (kinds.Havoc ∷ []) false IsHavoc st_marks (havoc_at n)
unfolding havoc_at
havoc_rule n d F = image_rule (ids_st_rule n d F kinds.Havoc refl refl) (λ (v : Pos × List Id). Havoc v.0 v.1) st_marks (λ v i. refl)

abbrev IsGoto : St → Type 0
IsGoto = Image (λ (v : Pos × List Id). Goto v.0 v.1) (λ v. SomeIds v.1)

goto_rule : (n d : ℕ) (F : List Kind) → Rule n d d F (kinds.Goto ∷ []) (kinds.Goto ∷ []) false IsGoto st_marks (goto_at n)
unfolding goto_at
goto_rule n d F = image_rule (ids_st_rule n d F kinds.Goto refl refl) (λ (v : Pos × List Id). Goto v.0 v.1) st_marks (λ v i. refl)

abbrev break_marks : Option Id → List Mark
break_marks x = if_there (λ y. id_mark y ∷ []) x ++ sign kinds.Semicolon ∷ []

abbrev BreakWell : Option Id → Type 0
BreakWell o = Image Some (λ x. Unit {0}) o ⊎ (o ≡ None)

abbrev IsBreak : St → Type 0
IsBreak = Image (λ (v : Pos × Option Id). Break v.0 v.1) (λ v. BreakWell v.1)

break_rule : (n d : ℕ) (F : List Kind) → Rule n d d F (kinds.Break ∷ []) (kinds.Break ∷ []) false IsBreak st_marks break_at
unfolding break_at
break_rule n d F =
    image_rule (at_rule kinds.Break refl refl
    (choose_rule (a_text kinds.Name) (kinds.Name ∷ []) (text_picker kinds.Name)
    (image_rule (before_rule d F kinds.Semicolon refl refl (id_rule n d (kinds.Semicolon ∷ [])) refl) Some break_marks (λ v i. refl))
    (shut_rule n d d F kinds.Semicolon refl refl None break_marks refl) refl))
    (λ (v : Pos × Option Id). Break v.0 v.1) st_marks (λ v i. refl)

abbrev IsReturn : St → Type 0
IsReturn = Image Return (λ p. Unit {0})

return_rule : (n d : ℕ) (F : List Kind) → Rule n d d F (kinds.Return ∷ []) (kinds.Return ∷ []) false IsReturn st_marks return_at
unfolding return_at
return_rule n d F = image_rule (before_rule d F kinds.Semicolon refl refl (sign_rule n d d (kinds.Semicolon ∷ []) kinds.Return refl refl) refl) Return st_marks (λ v i. refl)

-- blocks
abbrev BlockWithin : ℕ → ℕ → Option (Reader Sts) → Type 0
BlockWithin n d R = Within n d kinds.CloseBrace AreSts sts_marks R

abbrev stmt_ends : List Kind
stmt_ends = kinds.CloseBrace ∷ stmt_kinds

abbrev ArmWell : Armed → Type 0
ArmWell a = IsGuard a.0 × AreSts a.1

abbrev arm_marks : Armed → List Mark
arm_marks a = guard_marks a.0 ++ in_braces (sts_marks a.1)

abbrev else_marks : Armed → List Mark
else_marks a = sign kinds.Else ∷ sign kinds.If ∷ arm_marks a

module _ (n d : ℕ) (R : Option (Reader Sts)) (w : BlockWithin n d R) where
  block_rule : (F : List Kind) → Rule n d d F (kinds.OpenBrace ∷ []) (kinds.OpenBrace ∷ []) false AreSts (λ ss. in_braces (sts_marks ss)) (block_at R)
  unfolding block_at
  block_rule F = inside_rule AreSts sts_marks F kinds.OpenBrace kinds.CloseBrace refl refl refl (λ b. refl) w

  arm_rule : (F : List Kind) → Rule n d d F (kinds.Open ∷ []) (kinds.Open ∷ []) false ArmWell arm_marks (arm_at n d R)
  unfolding arm_at
  arm_rule F = both_rule (guard_rule n d (kinds.OpenBrace ∷ [])) (block_rule F) refl

  abbrev Elses : Type 0
  Elses = List Armed × Option Sts

  abbrev ElsesWell : Elses → Type 0
  ElsesWell v = All ArmWell v.0 × IfThere AreSts v.1

  elses_rule : Rule n d d stmt_ends (kinds.Else ∷ []) [] true ElsesWell (λ v. each else_marks v.0 ++ if_there (λ ss. sign kinds.Else ∷ in_braces (sts_marks ss)) v.1) (elses_at n d R)
  unfolding elses_at
  elses_rule = chain_rule kinds.Else kinds.If refl refl refl refl stmt_ends (arm_rule (kinds.Else ∷ stmt_ends)) (block_rule stmt_ends) refl n (omega arith)

  abbrev IfParts : Type 0
  IfParts = Pos × (Armed × Elses)

  abbrev if_from : IfParts → St
  if_from v = if_by v.0 (v.1.0 ∷ v.1.1.0) v.1.1.1

  abbrev IsIf : St → Type 0
  IsIf = Image if_from (λ v. ArmWell v.1.0 × ElsesWell v.1.1)

  arms_same : (arms : List Armed) → more_arms_marks (arms_from arms) ≡ each else_marks arms
  arms_same [] = refl
  arms_same (a ∷ arms) = ap (λ l. sign kinds.Else ∷ sign kinds.If ∷ (guard_marks a.0 ++ in_braces (sts_marks a.1)) ++ l) (arms_same arms)

  if_same : (p : Pos) (a : Armed) (arms : List Armed) (o : Option Sts) → st_marks (if_by p (a ∷ arms) o) ≡ sign_at p kinds.If ∷ (arm_marks a ++ (each else_marks arms ++ if_there (λ ss. sign kinds.Else ∷ in_braces (sts_marks ss)) o))
  if_same p a arms None = ap (λ l. sign_at p kinds.If ∷ (arm_marks a ++ l)) (arms_same arms ∙ sym (append-nil (each else_marks arms)))
  if_same p a arms (Some ss) =
      let rest = sign kinds.Else ∷ in_braces (sts_marks ss) in
      ap (λ l. sign_at p kinds.If ∷ l) (append_assoc (arm_marks a) (more_arms_marks (arms_from arms)) rest ∙ ap (λ l. arm_marks a ++ (l ++ rest)) (arms_same arms))

  if_rule : Rule n d d stmt_ends (kinds.If ∷ []) (kinds.If ∷ []) false IsIf st_marks (if_at n d R)
  unfolding if_at
  if_rule = image_rule (at_rule kinds.If refl refl (both_rule (arm_rule (kinds.Else ∷ stmt_ends)) elses_rule refl)) if_from st_marks (λ v i. if_same v.0 v.1.0 v.1.1.0 v.1.1.1)

  -- loops
  invariants_rule : Rule n d d (kinds.OpenBrace ∷ []) (kinds.Free ∷ kinds.Invariant ∷ []) [] true (All IsClause) (each (clause_marks kinds.Invariant)) (invariants_at n d)
  unfolding invariants_at
  invariants_rule = rows_rule (a_kind (kinds.Free ∷ kinds.Invariant ∷ [])) (kinds.Free ∷ kinds.Invariant ∷ []) (kind_picker (kinds.Free ∷ kinds.Invariant ∷ [])) (invariant_rule n d (kinds.Free ∷ kinds.Invariant ∷ kinds.OpenBrace ∷ [])) (kinds.OpenBrace ∷ []) refl n (omega arith)

  abbrev WhileParts : Type 0
  WhileParts = Pos × (Guard × (List Clause × Sts))

  abbrev while_from : WhileParts → St
  while_from v = While v.0 v.1.0 v.1.1.0 v.1.1.1

  abbrev IsWhile : St → Type 0
  IsWhile = Image while_from (λ v. IsGuard v.1.0 × (All IsClause v.1.1.0 × AreSts v.1.1.1))

  while_same : (v : WhileParts) → st_marks (while_from v) ≡ sign_at v.0 kinds.While ∷ (guard_marks v.1.0 ++ (each (clause_marks kinds.Invariant) v.1.1.0 ++ in_braces (sts_marks v.1.1.1)))
  while_same v = ap (λ l. sign_at v.0 kinds.While ∷ l) (append_assoc (guard_marks v.1.0) (each (clause_marks kinds.Invariant) v.1.1.0) (in_braces (sts_marks v.1.1.1)))

  while_rule : Rule n d d stmt_ends (kinds.While ∷ []) (kinds.While ∷ []) false IsWhile st_marks (while_at n d R)
  unfolding while_at
  while_rule = image_rule (at_rule kinds.While refl refl (both_rule (guard_rule n d (kinds.Free ∷ kinds.Invariant ∷ kinds.OpenBrace ∷ [])) (both_rule invariants_rule (block_rule stmt_ends) refl) refl)) while_from st_marks (λ v i. while_same v)

  -- all of them
  abbrev IsAssert : St → Type 0
  IsAssert = Image Assert IsPlain

  abbrev IsAssume : St → Type 0
  IsAssume = Image Assume IsPlain

  abbrev IsInvoke : St → Type 0
  IsInvoke = Image Invoke CallWell

  abbrev PlainSt : St → Type 0
  PlainSt s = IsBreak s ⊎ (IsGoto s ⊎ (IsReturn s ⊎ IsNamed s))

  abbrev SimpleSt : St → Type 0
  SimpleSt s = IsAssert s ⊎ (IsAssume s ⊎ (IsHavoc s ⊎ (IsInvoke s ⊎ PlainSt s)))

  abbrev AnySt : St → Type 0
  AnySt s = IsIf s ⊎ (IsWhile s ⊎ SimpleSt s)

  abbrev plain_kinds : List Kind
  plain_kinds = kinds.Break ∷ kinds.Goto ∷ kinds.Return ∷ kinds.Name ∷ []

  plain_rule : Rule n d d stmt_ends plain_kinds plain_kinds false PlainSt st_marks (plain_at n d)
  unfolding plain_at
  plain_rule =
      choose_rule (a_sign kinds.Break) (kinds.Break ∷ []) (sign_picker kinds.Break) (break_rule n d stmt_ends)
      (choose_rule (a_sign kinds.Goto) (kinds.Goto ∷ []) (sign_picker kinds.Goto) (goto_rule n d stmt_ends)
      (choose_rule (a_sign kinds.Return) (kinds.Return ∷ []) (sign_picker kinds.Return) (return_rule n d stmt_ends)
      (named_rule n d stmt_ends) refl) refl) refl

  abbrev simple_kinds : List Kind
  simple_kinds = kinds.Assert ∷ kinds.Assume ∷ kinds.Havoc ∷ kinds.Call ∷ plain_kinds

  simple_rule : Rule n d d stmt_ends simple_kinds simple_kinds false SimpleSt st_marks (simple_at n d)
  unfolding simple_at
  simple_rule =
      choose_rule (a_sign kinds.Assert) (kinds.Assert ∷ []) (sign_picker kinds.Assert) (image_rule (clause_rule n d stmt_ends kinds.Assert refl refl) Assert st_marks (λ v i. refl))
      (choose_rule (a_sign kinds.Assume) (kinds.Assume ∷ []) (sign_picker kinds.Assume) (image_rule (clause_rule n d stmt_ends kinds.Assume refl refl) Assume st_marks (λ v i. refl))
      (choose_rule (a_sign kinds.Havoc) (kinds.Havoc ∷ []) (sign_picker kinds.Havoc) (havoc_rule n d stmt_ends)
      (choose_rule (a_sign kinds.Call) (kinds.Call ∷ []) (sign_picker kinds.Call) (image_rule (call_rule n d stmt_ends) Invoke st_marks (λ v i. refl))
      plain_rule refl) refl) refl) refl

  assign_to : (x : Id) (v : Assigned) → AssignedWell v → IsSt (named x (Some v))
  assign_to x v i = ((λ c. cc), (i.0, i.1.0), i.1.1.0, i.1.1.1)

  named_to : (x : Id) (o : Option Assigned) → NamedWell (x, o) → IsSt (named x o)
  named_to x o (inl i) = subst (λ u. IsSt (named x u)) (sym i) tt
  named_to x o (inr i) = subst (λ u. IsSt (named x u)) i.1 (assign_to x i.0 i.2)

  arms_are : (arms : List Armed) → All ArmWell arms → AreArms (arms_from arms)
  arms_are [] h = tt
  arms_are (a ∷ arms) h = (h.0.0, h.0.1, arms_are arms h.1)

  if_to : (p : Pos) (a : Armed) (arms : List Armed) (o : Option Sts) → ArmWell a → All ArmWell arms → IfThere AreSts o → IsSt (if_by p (a ∷ arms) o)
  if_to p a arms None h i j = ((λ c. cc), (h.0, h.1, arms_are arms i))
  if_to p a arms (Some ss) h i j = ((λ c. cc), (h.0, h.1, arms_are arms i), j)

  plain_to : (s : St) → PlainSt s → IsSt s
  plain_to s (inl i) = subst IsSt i.1 tt
  plain_to s (inr (inl i)) = subst IsSt i.1 i.2
  plain_to s (inr (inr (inl i))) = subst IsSt i.1 tt
  plain_to s (inr (inr (inr i))) = subst IsSt i.1 (named_to i.0.0 i.0.1 i.2)

  simple_to : (s : St) → SimpleSt s → IsSt s
  simple_to s (inl i) = subst IsSt i.1 i.2
  simple_to s (inr (inl i)) = subst IsSt i.1 i.2
  simple_to s (inr (inr (inl i))) = subst IsSt i.1 i.2
  simple_to s (inr (inr (inr (inl i)))) = subst IsSt i.1 i.2
  simple_to s (inr (inr (inr (inr i)))) = plain_to s i

  any_to : (s : St) → AnySt s → IsSt s
  any_to s (inl i) = subst IsSt i.1 (if_to i.0.0 i.0.1.0 i.0.1.1.0 i.0.1.1.1 i.2.0 i.2.1.0 i.2.1.1)
  any_to s (inr (inl i)) = subst IsSt i.1 (i.2.0, i.2.1.0, i.2.1.1)
  any_to s (inr (inr i)) = simple_to s i

  arms_back : (arms : Arms) → AreArms arms → (l : List Armed) × (arms_from l ≡ arms) × All ArmWell l
  arms_back NoArm h = ([], refl, tt)
  arms_back (Arm g ss arms) h = let r = arms_back arms h.2 in ((g, ss) ∷ r.0, ap (Arm g ss) r.1, ((h.0, h.1), r.2))

  a_plain : (s : St) → PlainSt s → AnySt s
  a_plain s i = inr (inr (inr (inr (inr (inr i)))))

  any_back : (s : St) → IsSt s → AnySt s
  any_back (Label x) h = a_plain (Label x) (inr (inr (inr ((x, None), refl, inl refl))))
  any_back (Assert c) h = inr (inr (inl (c, refl, h)))
  any_back (Assume c) h = inr (inr (inr (inl (c, refl, h))))
  any_back (Havoc p xs) h = inr (inr (inr (inr (inl ((p, xs), refl, h)))))
  any_back (Assign p [] es) h = absurd (h.0 refl)
  any_back (Assign p (t ∷ ts) es) h = a_plain (Assign p (t ∷ ts) es) (inr (inr (inr ((t.name, Some (t.brackets, (ts, (p, es)))), refl, inr ((t.brackets, (ts, (p, es))), refl, (h.1.0, (h.1.1, (h.2, h.3))))))))
  any_back (Invoke c) h = inr (inr (inr (inr (inr (inl (c, refl, h))))))
  any_back (If p NoArm) h = absurd (h.0 refl)
  any_back (If p (Arm g ss arms)) h = let r = arms_back arms h.1.2 in inl ((p, ((g, ss), (r.0, None))), ap (λ l. If p (Arm g ss l)) r.1, ((h.1.0, h.1.1), (r.2, tt)))
  any_back (IfElse p NoArm ls) h = absurd (h.0 refl)
  any_back (IfElse p (Arm g ss arms) ls) h = let r = arms_back arms h.1.2 in inl ((p, ((g, ss), (r.0, Some ls))), ap (λ l. IfElse p (Arm g ss l) ls) r.1, ((h.1.0, h.1.1), (r.2, h.2)))
  any_back (While p g cs ss) h = inr (inl ((p, (g, (cs, ss))), refl, (h.0, (h.1, h.2))))
  any_back (Break p None) h = a_plain (Break p None) (inl ((p, None), refl, inr refl))
  any_back (Break p (Some x)) h = a_plain (Break p (Some x)) (inl ((p, Some x), refl, inl (x, refl, tt)))
  any_back (Goto p xs) h = a_plain (Goto p xs) (inr (inl ((p, xs), refl, h)))
  any_back (Return p) h = a_plain (Return p) (inr (inr (inl (p, refl, tt))))

  abbrev all_kinds : List Kind
  all_kinds = kinds.If ∷ kinds.While ∷ simple_kinds

  stmt_rule : Rule n d d stmt_ends all_kinds all_kinds false IsSt st_marks (stmt_at n d R)
  unfolding stmt_at
  stmt_rule =
      iff_rule (choose_rule (a_sign kinds.If) (kinds.If ∷ []) (sign_picker kinds.If) if_rule
      (choose_rule (a_sign kinds.While) (kinds.While ∷ []) (sign_picker kinds.While) while_rule simple_rule refl) refl) IsSt any_to any_back

  sts_same : (ss : List St) → sts_marks (sts_from ss) ≡ each st_marks ss
  sts_same [] = refl
  sts_same (s ∷ ss) = ap (λ l. st_marks s ++ l) (sts_same ss)

  sts_are : (ss : List St) → All IsSt ss → AreSts (sts_from ss)
  sts_are [] h = tt
  sts_are (s ∷ ss) h = (h.0, sts_are ss h.1)

  sts_back : (ss : Sts) → AreSts ss → (l : List St) × (sts_from l ≡ ss) × All IsSt l
  sts_back NoSt h = ([], refl, tt)
  sts_back (Then s ss) h = let r = sts_back ss h.1 in (s ∷ r.0, ap (Then s) r.1, (h.0, r.2))

  stmts_by : Rule n d d (kinds.CloseBrace ∷ []) all_kinds [] true AreSts sts_marks (stmts_at n d R)
  unfolding stmts_at
  stmts_by = via_rule (rows_rule (a_kind stmt_kinds) stmt_kinds (kind_picker stmt_kinds) stmt_rule (kinds.CloseBrace ∷ []) refl n (omega arith)) sts_from AreSts sts_marks (λ v i. sts_same v) sts_are sts_back

abbrev pub stmt_firsts : List Kind
stmt_firsts = kinds.If ∷ kinds.While ∷ kinds.Assert ∷ kinds.Assume ∷ kinds.Havoc ∷ kinds.Call ∷ kinds.Break ∷ kinds.Goto ∷ kinds.Return ∷ kinds.Name ∷ []

pub stmts_rule : (n d : ℕ) → Rule n d d (kinds.CloseBrace ∷ []) stmt_firsts [] true AreSts sts_marks (stmts_in n d)
unfolding stmts_in
stmts_rule n zero = stmts_by n zero None (Full refl (NoSt, [], (tt, tt)))
stmts_rule n (suc d) = stmts_by n (suc d) (Some (stmts_in n d)) (Room d refl refl (stmts_rule n d))

pub stmts_turn : (n d : ℕ) → stmts_in n d ≡ stmts_at n d (room (stmts_in n) (below d))
unfolding stmts_in
stmts_turn n zero = refl
stmts_turn n (suc d) = refl

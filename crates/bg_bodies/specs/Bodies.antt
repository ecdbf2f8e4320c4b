-- Statements: what their names mean, and the faults of their names.
use Rattle.std.specs.Prelude.{ℕ, ◌+◌, Bool, true, false, not, List, [], ◌∷◌, ◌++◌, map, flat_map, length, drop, Option, Some, None, slice_get, find}
use Rattle.bg_base.specs.declared.pos.Pos.{Pos}
use Rattle.bg_text.specs.Trees as t
use Rattle.bg_ast.specs.Resolved as r
use Rattle.bg_names.specs.declared.error.FaultKind.TheVariants as kinds
use Rattle.bg_names.specs.Faults.{Fault, fault, unless}
use Rattle.bg_names.specs.Spaces.{place, or_zero, use_faults, repeats}
use Rattle.bg_names.specs.Exprs.{ex_faults, exs_faults, named_ex, named_exs}
use Rattle.bg_names.specs.Clauses.{clause_faults, named_clause, named_clauses}
use Rattle.bg_names.specs.Inside.{Inside, has_number, id_faults, placed, target_faults, named_target, block_of, entered}

abbrev pub target_name : t.Target → t.Id
target_name x = x.name

abbrev pub or_none : {A : Type 0} → Option (List A) → List A
or_none (Some xs) = xs
or_none None = []

abbrev pub changes_at : List (List ℕ) → Option ℕ → List ℕ
changes_at changes (Some k) = or_none (slice_get changes k)
changes_at changes None = []

abbrev pub or_no_name : Option (List ℕ) → List ℕ
or_no_name (Some x) = x
or_no_name None = []

abbrev pub missing_fault : List (List ℕ) → Pos → Option ℕ → List Fault
missing_fault globals p (Some k) = fault kinds.NotModified p (or_no_name (slice_get globals k)) ∷ []
missing_fault globals p None = []

-- the first global that a callee modifies and the caller doesn't
abbrev pub callee_faults : Inside → t.Id → List Fault
callee_faults b x =
    missing_fault b.globals x.pos (find (λ k. not (has_number b.modifies k)) (changes_at b.changes (place b.procedures x.text)))

abbrev pub call_faults : Inside → t.Call → List Fault
call_faults b c =
    repeats [] c.takes
    ++ flat_map (id_faults b) c.takes
    ++ use_faults b.procedures c.procedure
    ++ callee_faults b c.procedure
    ++ exs_faults b.scope c.args

abbrev pub named_call : Inside → ℕ → t.Call → r.Call
named_call b n c =
    record {
      pos = c.pos;
      site = n;
      name_pos = c.procedure.pos;
      procedure = or_zero (place b.procedures c.procedure.text);
      args = named_exs b.scope c.args;
      takes = map (placed b) c.takes;
    }

abbrev pub guard_faults : Inside → t.Guard → List Fault
guard_faults b (t.Star p) = []
guard_faults b (t.Test e) = ex_faults b.scope e

abbrev pub named_guard : Inside → t.Guard → r.Guard
named_guard b (t.Star p) = r.Star
named_guard b (t.Test e) = r.Test (named_ex b.scope e)

abbrev pub has_label : List ℕ → Option ℕ → Bool
has_label ks (Some k) = has_number ks k
has_label ks None = false

-- a label that a jump names: it is one of the body's, and one of these
abbrev pub jump_faults : Inside → List ℕ → t.Id → List Fault
jump_faults b allowed x =
    use_faults b.labels x ++ unless (has_label allowed (place b.labels x.text)) (fault kinds.BadTarget x.pos x.text)

abbrev pub label_number : Inside → t.Id → ℕ
label_number b x = or_zero (place b.labels x.text)

-- the labels that stand directly in a list
abbrev pub labels_in : Inside → t.Sts → List ℕ
labels_in b t.NoSt = []
labels_in b (t.Then (t.Label x) ss) = label_number b x ∷ labels_in b ss
labels_in b (t.Then s ss) = labels_in b ss

-- the labels directly before the next statement
abbrev pub before_next : Inside → List ℕ → t.St → List ℕ
before_next b before (t.Label x) = label_number b x ∷ before
before_next b before _ = []

-- the labels ahead behind a statement
abbrev pub pass : t.St → List ℕ → List ℕ
pass (t.Label x) ks = drop 1 ks
pass _ ks = ks

-- the labels ahead with that of a statement
abbrev pub label_before : Inside → t.St → List ℕ → List ℕ
label_before b (t.Label x) ks = label_number b x ∷ ks
label_before b _ ks = ks

-- the word `break`
abbrev pub break_word : List ℕ
break_word = 98 ∷ 114 ∷ 101 ∷ 97 ∷ 107 ∷ []

abbrev pub break_faults : Inside → Bool → List ℕ → Pos → Option t.Id → List Fault
break_faults b in_loop around p None = unless in_loop (fault kinds.BadTarget p break_word)
break_faults b in_loop around p (Some x) = jump_faults b around x

abbrev mutual
  -- the faults of a statement, before these labels of lists around it, inside a loop or not, inside blocks with these labels,
  -- directly behind these labels
  pub st_faults : Inside → (ahead : List ℕ) → (in_loop : Bool) → (around before : List ℕ) → t.St → List Fault
  st_faults b ahead in_loop around before (t.Label x) = []
  st_faults b ahead in_loop around before (t.Assert k) = clause_faults b.scope k
  st_faults b ahead in_loop around before (t.Assume k) = ex_faults b.scope k.says
  st_faults b ahead in_loop around before (t.Havoc p xs) = flat_map (id_faults b) xs
  st_faults b ahead in_loop around before (t.Assign p ts es) =
      repeats [] (map target_name ts) ++ flat_map (target_faults b) ts ++ exs_faults b.scope es
  st_faults b ahead in_loop around before (t.Invoke c) = call_faults b c
  st_faults b ahead in_loop around before (t.If p arms) = arms_faults b ahead in_loop (before ++ around) arms
  st_faults b ahead in_loop around before (t.IfElse p arms ss) =
      arms_faults b ahead in_loop (before ++ around) arms ++ sts_faults b ahead in_loop (before ++ around) [] ss
  st_faults b ahead in_loop around before (t.While p g is ss) =
      guard_faults b g ++ flat_map (clause_faults b.scope) is ++ sts_faults b ahead true (before ++ around) [] ss
  st_faults b ahead in_loop around before (t.Break p x) = break_faults b in_loop around p x
  st_faults b ahead in_loop around before (t.Goto p xs) = flat_map (jump_faults b ahead) xs
  st_faults b ahead in_loop around before (t.Return p) = []

  pub sts_faults : Inside → (ahead : List ℕ) → (in_loop : Bool) → (around before : List ℕ) → t.Sts → List Fault
  sts_faults b ahead in_loop around before t.NoSt = []
  sts_faults b ahead in_loop around before (t.Then s ss) =
      st_faults b (labels_in b ss ++ ahead) in_loop around before s
      ++ sts_faults b ahead in_loop around (before_next b before s) ss

  pub arms_faults : Inside → (ahead : List ℕ) → (in_loop : Bool) → (around : List ℕ) → t.Arms → List Fault
  arms_faults b ahead in_loop around t.NoArm = []
  arms_faults b ahead in_loop around (t.Arm g ss arms) =
      (guard_faults b g ++ sts_faults b ahead in_loop around [] ss) ++ arms_faults b ahead in_loop around arms

-- how many arms a chain of `else if` has
abbrev pub arm_count : t.Arms → ℕ
arm_count t.NoArm = 0
arm_count (t.Arm g ss arms) = 1 + arm_count arms

abbrev mutual
  -- how many numbers a statement takes: one for each clause, call, loop and arm
  pub st_count : t.St → ℕ
  st_count (t.Assert k) = 1
  st_count (t.Invoke c) = 1
  st_count (t.If p arms) = arm_count arms + arms_count arms
  st_count (t.IfElse p arms ss) = arm_count arms + arms_count arms + sts_count ss
  st_count (t.While p g is ss) = 1 + length is + sts_count ss
  st_count _ = 0

  pub sts_count : t.Sts → ℕ
  sts_count t.NoSt = 0
  sts_count (t.Then s ss) = st_count s + sts_count ss

  pub arms_count : t.Arms → ℕ
  arms_count t.NoArm = 0
  arms_count (t.Arm g ss arms) = sts_count ss + arms_count arms

abbrev pub break_as : Inside → ℕ → List (ℕ × ℕ) → Option t.Id → ℕ
break_as b loop blocks None = loop
break_as b loop blocks (Some x) = block_of blocks (label_number b x)

abbrev mutual
  -- a statement with numbers for names: its own numbers begin with n; the loop around it, the labels of blocks around it with
  -- the blocks' numbers, and the labels directly before it
  pub named_st : Inside → (n loop : ℕ) → List (ℕ × ℕ) → (before : List ℕ) → t.St → r.St
  named_st b n loop blocks before (t.Label x) = r.Label (label_number b x)
  named_st b n loop blocks before (t.Assert k) = r.Assert (named_clause b.scope n k)
  named_st b n loop blocks before (t.Assume k) = r.Assume (named_ex b.scope k.says)
  named_st b n loop blocks before (t.Havoc p xs) = r.Havoc (map (placed b) xs)
  named_st b n loop blocks before (t.Assign p ts es) = r.Assign p (map (named_target b) ts) (named_exs b.scope es)
  named_st b n loop blocks before (t.Invoke c) = r.Invoke (named_call b n c)
  named_st b n loop blocks before (t.If p arms) =
      r.If n (named_arms b (n + arm_count arms) loop (entered before n blocks) arms) r.NoSt
  named_st b n loop blocks before (t.IfElse p arms ss) =
      r.If
      n
      (named_arms b (n + arm_count arms) loop (entered before n blocks) arms)
      (named_sts b (n + arm_count arms + arms_count arms) loop (entered before n blocks) [] ss)
  named_st b n loop blocks before (t.While p g is ss) =
      r.While
      n
      p
      (named_guard b g)
      (named_clauses b.scope (n + 1) is)
      (named_sts b (n + 1 + length is) n (entered before n blocks) [] ss)
  named_st b n loop blocks before (t.Break p x) = r.Break (break_as b loop blocks x)
  named_st b n loop blocks before (t.Goto p xs) = r.Goto (map (label_number b) xs)
  named_st b n loop blocks before (t.Return p) = r.Return

  pub named_sts : Inside → (n loop : ℕ) → List (ℕ × ℕ) → (before : List ℕ) → t.Sts → r.Sts
  named_sts b n loop blocks before t.NoSt = r.NoSt
  named_sts b n loop blocks before (t.Then s ss) =
      r.Then (named_st b n loop blocks before s) (named_sts b (n + st_count s) loop blocks (before_next b before s) ss)

  pub named_arms : Inside → (n loop : ℕ) → List (ℕ × ℕ) → t.Arms → r.Arms
  named_arms b n loop blocks t.NoArm = r.NoArm
  named_arms b n loop blocks (t.Arm g ss arms) =
      r.Arm (named_guard b g) (named_sts b n loop blocks [] ss) (named_arms b (n + sts_count ss) loop blocks arms)

abbrev mutual
  -- all labels of a body, in order
  pub st_labels : t.St → List t.Id
  st_labels (t.Label x) = x ∷ []
  st_labels (t.If p arms) = arms_labels arms
  st_labels (t.IfElse p arms ss) = arms_labels arms ++ sts_labels ss
  st_labels (t.While p g is ss) = sts_labels ss
  st_labels _ = []

  pub sts_labels : t.Sts → List t.Id
  sts_labels t.NoSt = []
  sts_labels (t.Then s ss) = st_labels s ++ sts_labels ss

  pub arms_labels : t.Arms → List t.Id
  arms_labels t.NoArm = []
  arms_labels (t.Arm g ss arms) = sts_labels ss ++ arms_labels arms

-- Reading statements.
use Rattle.std.specs.Prelude.{ℕ, zero, suc, List, [], ◌∷◌, Option, Some, None}
use Rattle.bg_base.specs.declared.pos.Pos.{Pos}
use Rattle.bg_text.specs.declared.token.Kind.{Kind}
use Rattle.bg_text.specs.declared.token.Kind.TheVariants as kinds
use Rattle.bg_text.specs.Trees.{Id, Exs, Attr, Clause, Guard, Star, Test, Target, Call, St, Label, Assert, Assume, Havoc, Assign, Invoke, If, IfElse, While, Break, Goto, Return, Sts}
use Rattle.bg_text.specs.Views.{sts_from, Armed, arms_from}
use Rattle.bg_reader.specs.Reading.{Reader, with_read, both, one, a_sign, a_text}
use Rattle.bg_expr.specs.Exprs.{expr_at}
use Rattle.bg_grammar.specs.Rules.{a_kind, choose, rows, after, before, opened, enclosed, inside, shut, chain_at, below, room}
use Rattle.bg_parts.specs.Types.{id_at}
use Rattle.bg_parts.specs.Parts.{exs_at, args_in, attrs_at, ids_at, clause_at, invariant_at}

-- a guard in its parentheses
unfoldable pub guard_in : ℕ → ℕ → Reader Guard
guard_in n d = choose (a_sign kinds.Times) (λ ts. with_read Star (one (a_sign kinds.Times) ts)) (λ ts. with_read Test (expr_at n d ts))

unfoldable pub guard_at : ℕ → ℕ → Reader Guard
guard_at n d = inside kinds.Open kinds.Close (room (guard_in n) (below d))

-- indices of a left side
unfoldable pub bracket_in : ℕ → ℕ → Reader (Pos × Exs)
bracket_in n d = enclosed kinds.OpenBracket kinds.CloseBracket (room (exs_at n) (below d))

unfoldable pub brackets_in : ℕ → ℕ → Reader (List (Pos × Exs))
brackets_in n d = rows (a_sign kinds.OpenBracket) (bracket_in n d) n

abbrev pub target : Id → List (Pos × Exs) → Target
target x bs = record { name = x; brackets = bs }

unfoldable pub target_at : ℕ → ℕ → Reader Target
target_at n d ts = with_read (λ v. target v.0 v.1) (both id_at (brackets_in n d) ts)

-- targets with a comma before each
unfoldable pub targets_at : ℕ → ℕ → Reader (List Target)
targets_at n d = rows (a_sign kinds.Comma) (after kinds.Comma (target_at n d)) n

-- an assignment behind its first name: brackets, further targets, the position of `:=`, values
abbrev pub Assigned : Type 0
Assigned = List (Pos × Exs) × (List Target × (Pos × Exs))

unfoldable pub assigned_at : ℕ → ℕ → Reader Assigned
assigned_at n d = both (brackets_in n d) (both (targets_at n d) (both (one (a_sign kinds.Becomes)) (before (exs_at n d) kinds.Semicolon)))

-- a label, or an assignment
abbrev pub named : Id → Option Assigned → St
named x None = Label x
named x (Some v) = Assign v.1.1.0 (target x v.0 ∷ v.1.0) v.1.1.1

unfoldable pub named_at : ℕ → ℕ → Reader St
named_at n d ts = with_read (λ v. named v.0 v.1) (both id_at (choose (a_sign kinds.Colon) (shut kinds.Colon None) (λ ts. with_read Some (assigned_at n d ts))) ts)

-- the arguments of a call in their parentheses, and the semicolon
unfoldable pub called_at : ℕ → ℕ → Reader Exs
called_at n d = before (λ ts. with_read (λ v. v.1) (opened kinds.Open (room (args_in n) (below d)) ts)) kinds.Semicolon

-- names with a comma before each
unfoldable pub more_ids : ℕ → Reader (List Id)
more_ids n = rows (a_sign kinds.Comma) (after kinds.Comma id_at) n

-- a call behind its first name: further results and the procedure's name, if that was a result, and the arguments
abbrev pub Called : Type 0
Called = Option (List Id × Id) × Exs

unfoldable pub takes_at : ℕ → ℕ → Reader Called
takes_at n d =
    choose (a_sign kinds.Open) (λ ts. with_read (λ es. (None, es)) (called_at n d ts))
    (λ ts. with_read (λ v. (Some (v.0, v.1.0), v.1.1)) (both (more_ids n) (after kinds.Becomes (both id_at (called_at n d))) ts))

abbrev pub call_by : Pos → List Attr → Id → Option (List Id × Id) → Exs → Call
call_by p attrs x None es = record { pos = p; attrs = attrs; takes = []; procedure = x; args = es }
call_by p attrs x (Some t) es = record { pos = p; attrs = attrs; takes = x ∷ t.0; procedure = t.1; args = es }

unfoldable pub call_at : ℕ → ℕ → Reader Call
call_at n d ts = with_read (λ v. call_by v.0 v.1.0 v.1.1.0 v.1.1.1.0 v.1.1.1.1) (both (one (a_sign kinds.Call)) (both (attrs_at n d) (both id_at (takes_at n d))) ts)

-- a block; R reads what stands in braces
unfoldable pub block_at : Option (Reader Sts) → Reader Sts
block_at R = inside kinds.OpenBrace kinds.CloseBrace R

unfoldable pub arm_at : ℕ → ℕ → Option (Reader Sts) → Reader Armed
arm_at n d R = both (guard_at n d) (block_at R)

abbrev pub if_by : Pos → List Armed → Option Sts → St
if_by p arms None = If p (arms_from arms)
if_by p arms (Some ss) = IfElse p (arms_from arms) ss

-- the arms behind the first, and the last block
unfoldable pub elses_at : ℕ → ℕ → Option (Reader Sts) → Reader (List Armed × Option Sts)
elses_at n d R = chain_at kinds.Else kinds.If (arm_at n d R) (block_at R) n

unfoldable pub if_at : ℕ → ℕ → Option (Reader Sts) → Reader St
if_at n d R ts = with_read (λ v. if_by v.0 (v.1.0 ∷ v.1.1.0) v.1.1.1) (both (one (a_sign kinds.If)) (both (arm_at n d R) (elses_at n d R)) ts)

unfoldable pub invariants_at : ℕ → ℕ → Reader (List Clause)
invariants_at n d = rows (a_kind (kinds.Free ∷ kinds.Invariant ∷ [])) (invariant_at n d) n

unfoldable pub while_at : ℕ → ℕ → Option (Reader Sts) → Reader St
while_at n d R ts =
    with_read (λ v. While v.0 v.1.0 v.1.1.0 v.1.1.1) (both (one (a_sign kinds.While)) (both (guard_at n d) (both (invariants_at n d) (block_at R))) ts)

-- names behind a word
unfoldable pub havoc_at : ℕ → Reader St
havoc_at n ts = with_read (λ v. Havoc v.0 v.1) (both (one (a_sign kinds.Havoc)) (before (ids_at n) kinds.Semicolon) ts)

unfoldable pub goto_at : ℕ → Reader St
goto_at n ts = with_read (λ v. Goto v.0 v.1) (both (one (a_sign kinds.Goto)) (before (ids_at n) kinds.Semicolon) ts)

unfoldable pub break_at : Reader St
break_at ts =
    with_read (λ v. Break v.0 v.1)
    (both (one (a_sign kinds.Break)) (choose (a_text kinds.Name) (λ ts. with_read Some (before id_at kinds.Semicolon ts)) (shut kinds.Semicolon None)) ts)

unfoldable pub return_at : Reader St
return_at ts = with_read Return (before (one (a_sign kinds.Return)) kinds.Semicolon ts)

-- the kinds with which a statement begins
abbrev pub stmt_kinds : List Kind
stmt_kinds =
    kinds.Assert ∷ kinds.Assume ∷ kinds.Havoc ∷ kinds.Call ∷ kinds.If ∷ kinds.While ∷ kinds.Break ∷ kinds.Goto ∷ kinds.Return ∷ kinds.Name ∷ []

-- a statement that goes on or leaves
unfoldable pub plain_at : ℕ → ℕ → Reader St
plain_at n d =
    choose (a_sign kinds.Break) break_at
    (choose (a_sign kinds.Goto) (goto_at n)
    (choose (a_sign kinds.Return) return_at
    (named_at n d)))

-- a statement without blocks
unfoldable pub simple_at : ℕ → ℕ → Reader St
simple_at n d =
    choose (a_sign kinds.Assert) (λ ts. with_read Assert (clause_at n d kinds.Assert ts))
    (choose (a_sign kinds.Assume) (λ ts. with_read Assume (clause_at n d kinds.Assume ts))
    (choose (a_sign kinds.Havoc) (havoc_at n)
    (choose (a_sign kinds.Call) (λ ts. with_read Invoke (call_at n d ts))
    (plain_at n d))))

unfoldable pub stmt_at : ℕ → ℕ → Option (Reader Sts) → Reader St
stmt_at n d R =
    choose (a_sign kinds.If) (if_at n d R)
    (choose (a_sign kinds.While) (while_at n d R)
    (simple_at n d))

unfoldable pub stmts_at : ℕ → ℕ → Option (Reader Sts) → Reader Sts
stmts_at n d R ts = with_read sts_from (rows (a_kind stmt_kinds) (stmt_at n d R) n ts)

-- statements with at most d brackets in one another, each list with at most n parts behind its first
unfoldable pub stmts_in : ℕ → ℕ → Reader Sts
stmts_in n zero = stmts_at n zero None
stmts_in n (suc d) = stmts_at n (suc d) (Some (stmts_in n d))

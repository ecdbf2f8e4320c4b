-- Clauses without their first operands, at the lists that the code meets.
use Rattle.std.proofs.Common.{◌≡◌, ℕ, zero, suc, ◌<◌, List, [], ◌∷◌, drop, length, map, refl, ap, sym, ◌∙◌, arith, Vec, Box, Global, Bool, false, Option, Some}
use Rattle.std.specs.Prelude.{if◌then◌else◌, get_or, remove}
use Rattle.bg_text.specs.declared.expr.TreeExpr.{TreeExpr}
use Rattle.bg_text.specs.declared.expr.TreeExpr.TheVariants as expr
use Rattle.bg_text.specs.declared.expr.TreeLink.{TreeLink}
use Rattle.bg_text.specs.Trees as t
use Rattle.bg_text.specs.Views as v
use Rattle.bg_text.specs.Views.{option_of}
use Rattle.bg_text.proofs.Lists as w
use Rattle.bg_ast.specs.declared.resolved.Clause.{Clause}
use Rattle.bg_ast.specs.declared.resolved.Arm.{Arm}
use Rattle.bg_ast.specs.declared.resolved.Guard.{Guard}
use Rattle.bg_ast.specs.declared.resolved.Stmt.{Stmt}
use Rattle.bg_ast.specs.declared.resolved.Stmt.TheVariants as made
use Rattle.bg_ast.specs.Views as u
use Rattle.bg_ast.proofs.Lists as z
use Rattle.bg_base.specs.declared.pos.Pos.{Pos}
use Rattle.bg_text.specs.declared.tree.TreeArm.{TreeArm}
use Rattle.bg_text.specs.declared.tree.TreeClause.{TreeClause}
use Rattle.bg_text.specs.declared.tree.TreeGuard.{TreeGuard}
use Rattle.bg_text.specs.declared.tree.TreeStmt.{TreeStmt}
use Rattle.bg_text.specs.declared.tree.TreeStmt.TheVariants as stmt
use Rattle.bg_base.specs.declared.ids.CandId.{CandId}
use Rattle.bg_words.specs.Sets.{Numbers, has}
use Rattle.bg_keep.specs.Kept.{saying}
use Rattle.bg_keep.specs.Guesses.{Names}
use Rattle.bg_ast.specs.Resolved as r
use Rattle.bg_names.specs.Clauses.{chain_of}
use Rattle.bg_names.proofs.Forms.{both}
use Rattle.bg_ast.specs.declared.resolved.Declared.{Declared}
use Rattle.bg_ast.specs.declared.resolved.Procedure.{Procedure}
use Rattle.bg_ast.specs.declared.resolved.Implementation.{Implementation}
use Rattle.bg_keep.proofs.Rows.{drop_map}
use Rattle.bg_names.proofs.Firsts.{drop_item}
use Rattle.bg_keep.specs.Told.{told_clause, right_side, behind_first, first_body, first_requires, first_ensures, first_block, first_procedure, first_implementation, first_candidate, arms_in, block_in, invariants_in, told_st, told_sts, told_arms, told_clauses}

abbrev pub named_by : (globals params results locals : List r.Declared) → Names
named_by gs ps rs ls = record { globals = gs; params = ps; results = rs; locals = ls }

pub candidate_there : (cs : List Clause) (i : ℕ) (k : Clause) → i < length cs → k ≡ get_or cs i k → option_of u.candidate_of k.candidate ≡ first_candidate (drop i (map u.clause_of cs))
candidate_there [] i k lt at = absurd (omega (arith, lt))
candidate_there (c ∷ cs) zero k lt at = ap (λ (x : Clause). option_of u.candidate_of x.candidate) at
candidate_there (c ∷ cs) (suc i) k lt at = candidate_there cs i k (omega (arith, lt)) at

-- nothing is left of a clause whose candidate isn't in the set
pub left_out : (set : Numbers) (o : Option CandId) (c : CandId) (b : Bool) (k : t.Clause) → o ≡ Some c → b ≡ has set c.0 → b ≡ false → [] ≡ told_clause set (option_of u.candidate_of o) k
left_out set o c b k is h out =
    sym (ap (λ x. told_clause set (option_of u.candidate_of x) k) is ∙ ap (λ x. if x then saying (right_side k.says) k ∷ [] else []) (sym h ∙ out))

with_links : (x : t.Ex) (ls : List TreeLink) → 0 < length ls → t.Chain x (v.links_of (map v.link_view ls)) ≡ chain_of x (v.links_of (map v.link_view ls))
with_links x [] some = absurd (omega (arith, some))
with_links x (l ∷ ls) some = refl

-- a chain of some links
pub chain_is : (e : Box TreeExpr Global) (first : TreeExpr) (ls : Vec TreeLink Global) → 0 < length ls.items → e.value ≡ first → v.ex_of (expr.Chain e ls) ≡ chain_of (v.ex_of first) (v.links_of (map v.link_view ls.items))
chain_is e first ls some is = w.ex_of-Chain e ls ∙ ap (λ x. t.Chain (v.ex_of x) (v.links_of (map v.link_view ls.items))) is ∙ with_links (v.ex_of first) ls.items some

no_links : (x : t.Ex) (ls : List TreeLink) → length ls < 1 → t.Chain x (v.links_of (map v.link_view ls)) ≡ behind_first (t.Chain x (v.links_of (map v.link_view ls)))
no_links x [] none = refl
no_links x (l ∷ ls) none = absurd (omega (arith, none))

-- a chain without links
pub behind_none : (e : TreeExpr) (x : Box TreeExpr Global) (ls : Vec TreeLink Global) → e ≡ expr.Chain x ls → length ls.items < 1 → v.ex_of (expr.Chain x ls) ≡ behind_first (v.ex_of e)
behind_none e x ls is none =
    w.ex_of-Chain x ls
    ∙ no_links (v.ex_of x.value) ls.items none
    ∙ ap behind_first (sym (w.ex_of-Chain x ls))
    ∙ ap (λ y. behind_first (v.ex_of y)) (sym is)

first_link : (x : t.Ex) (ls rest : List TreeLink) (l : TreeLink) → 0 < length ls → l ≡ get_or ls 0 l → rest ≡ remove ls 0 → chain_of (v.ex_of l.operand) (v.links_of (map v.link_view rest)) ≡ behind_first (t.Chain x (v.links_of (map v.link_view ls)))
first_link x [] rest l some is left = absurd (omega (arith, some))
first_link x (m ∷ ls) rest l some is left = rw (left, is) refl

-- a chain of some links without its first operand
pub behind_some : (e : TreeExpr) (x : Box TreeExpr Global) (ls : Vec TreeLink Global) (rest : List TreeLink) (l : TreeLink) → e ≡ expr.Chain x ls → 0 < length ls.items → l ≡ get_or ls.items 0 l → rest ≡ remove ls.items 0 → chain_of (v.ex_of l.operand) (v.links_of (map v.link_view rest)) ≡ behind_first (v.ex_of e)
behind_some e x ls rest l is some at left =
    first_link (v.ex_of x.value) ls.items rest l some at left
    ∙ ap behind_first (sym (w.ex_of-Chain x ls))
    ∙ ap (λ y. behind_first (v.ex_of y)) (sym is)

pub arms_of-If : (b : Stmt) (n : ℕ) (arms : Vec Arm Global) (ss : Vec Stmt Global) (xs : List Arm) → b ≡ made.If n arms ss → xs ≡ arms.items → u.arms_from (map u.arm_view xs) ≡ arms_in (u.st_of b)
arms_of-If b n arms ss xs is e =
    ap (λ l. u.arms_from (map u.arm_view l)) e ∙ ap arms_in (sym (z.st_of-If n arms ss)) ∙ ap (λ y. arms_in (u.st_of y)) (sym is)

pub block_of-If : (b : Stmt) (n : ℕ) (arms : Vec Arm Global) (ss : Vec Stmt Global) (xs : List Stmt) → b ≡ made.If n arms ss → xs ≡ ss.items → u.sts_in xs ≡ block_in (u.st_of b)
block_of-If b n arms ss xs is e = ap u.sts_in e ∙ ap block_in (sym (z.st_of-If n arms ss)) ∙ ap (λ y. block_in (u.st_of y)) (sym is)

pub block_of-While : (b : Stmt) (n : ℕ) (p : Pos) (g : Guard) (ks : Vec Clause Global) (ss : Vec Stmt Global) (xs : List Stmt) → b ≡ made.While n p g ks ss → xs ≡ ss.items → u.sts_in xs ≡ block_in (u.st_of b)
block_of-While b n p g ks ss xs is e =
    ap u.sts_in e ∙ ap block_in (sym (z.st_of-While n p g ks ss)) ∙ ap (λ y. block_in (u.st_of y)) (sym is)

pub body_there : (arms : List Arm) (i : ℕ) (a : Arm) (ss : List Stmt) → i < length arms → a ≡ get_or arms i a → ss ≡ a.body.items → u.sts_in ss ≡ first_body (u.arms_from (map u.arm_view (drop i arms)))
body_there arms i a ss lt at e = ap u.sts_in e ∙ ap (λ l. first_body (u.arms_from (map u.arm_view l))) (sym (drop_item arms i a lt at))

pub requires_there : (qs : List Procedure) (i : ℕ) (q : Procedure) (ks : List Clause) → i < length qs → q ≡ get_or qs i q → ks ≡ q.requires_.items → map u.clause_of ks ≡ first_requires (drop i (map u.proc_of qs))
requires_there qs i q ks lt at e =
    ap (map u.clause_of) e ∙ sym (ap first_requires (drop_map u.proc_of qs i ∙ ap (map u.proc_of) (drop_item qs i q lt at)))

pub ensures_there : (qs : List Procedure) (i : ℕ) (q : Procedure) (ks : List Clause) → i < length qs → q ≡ get_or qs i q → ks ≡ q.ensures_.items → map u.clause_of ks ≡ first_ensures (drop i (map u.proc_of qs))
ensures_there qs i q ks lt at e =
    ap (map u.clause_of) e ∙ sym (ap first_ensures (drop_map u.proc_of qs i ∙ ap (map u.proc_of) (drop_item qs i q lt at)))

pub block_there : (ms : List Implementation) (i : ℕ) (m : Implementation) (ss : List Stmt) → i < length ms → m ≡ get_or ms i m → ss ≡ m.body.items → u.sts_in ss ≡ first_block (drop i (map u.impl_of ms))
block_there ms i m ss lt at e =
    ap u.sts_in e ∙ sym (ap first_block (drop_map u.impl_of ms i ∙ ap (map u.impl_of) (drop_item ms i m lt at)))

pub procedure_there : (gs : List Declared) (qs : List Procedure) (i : ℕ) (q : Procedure) (ps rs : List Declared) → i < length qs → q ≡ get_or qs i q → ps ≡ q.params.items → rs ≡ q.results.items →
    named_by (map u.declared_of gs) (map u.declared_of ps) (map u.declared_of rs) [] ≡ first_procedure (map u.declared_of gs) (drop i (map u.proc_of qs))
procedure_there gs qs i q ps rs lt at e f =
    ap (λ l. named_by (map u.declared_of gs) (map u.declared_of l) (map u.declared_of rs) []) e
    ∙ ap (λ l. named_by (map u.declared_of gs) (map u.declared_of q.params.items) (map u.declared_of l) []) f
    ∙ sym (ap (first_procedure (map u.declared_of gs)) (drop_map u.proc_of qs i ∙ ap (map u.proc_of) (drop_item qs i q lt at)))

pub implementation_there : (gs : List Declared) (ms : List Implementation) (i : ℕ) (m : Implementation) (ps rs ls : List Declared) → i < length ms → m ≡ get_or ms i m → ps ≡ m.params.items → rs ≡ m.results.items → ls ≡ m.locals.items →
    named_by (map u.declared_of gs) (map u.declared_of ps) (map u.declared_of rs) (map u.declared_of ls) ≡ first_implementation (map u.declared_of gs) (drop i (map u.impl_of ms))
implementation_there gs ms i m ps rs ls lt at e f h =
    ap (λ l. named_by (map u.declared_of gs) (map u.declared_of l) (map u.declared_of rs) (map u.declared_of ls)) e
    ∙ ap (λ l. named_by (map u.declared_of gs) (map u.declared_of m.params.items) (map u.declared_of l) (map u.declared_of ls)) f
    ∙ ap (λ l. named_by (map u.declared_of gs) (map u.declared_of m.params.items) (map u.declared_of m.results.items) (map u.declared_of l)) h
    ∙ sym (ap (first_implementation (map u.declared_of gs)) (drop_map u.impl_of ms i ∙ ap (map u.impl_of) (drop_item ms i m lt at)))

-- what is kept of statements with statements in them
module _ (set : Numbers) (f : Names) (a : TreeStmt) (b : r.St) where
  pub kept-If : (p : Pos) (arms arms' : Vec TreeArm Global) (old : List TreeArm) (told : r.Arms) → a ≡ stmt.If p arms → v.arms_from (map v.arm_view arms'.items) ≡ told_arms set f (v.arms_from (map v.arm_view old)) told → old ≡ arms.items → told ≡ arms_in b → v.st_of (stmt.If p arms') ∷ [] ≡ told_st set f (v.st_of a) b
  kept-If p arms arms' old told is h same at =
      ap (λ x. x ∷ []) (w.st_of-If p arms' ∙ ap (t.If p) (h ∙ rw (same, at) refl))
      ∙ ap (λ y. told_st set f y b) (sym (w.st_of-If p arms))
      ∙ ap (λ y. told_st set f (v.st_of y) b) (sym is)

  pub kept-IfElse : (p : Pos) (arms arms' : Vec TreeArm Global) (ss ss' : Vec TreeStmt Global) (old : List TreeArm) (older : List TreeStmt) (told : r.Arms) (others : r.Sts) → a ≡ stmt.IfElse p arms ss → v.arms_from (map v.arm_view arms'.items) ≡ told_arms set f (v.arms_from (map v.arm_view old)) told → old ≡ arms.items → told ≡ arms_in b → v.sts_in ss'.items ≡ told_sts set f (v.sts_in older) others → older ≡ ss.items → others ≡ block_in b → v.st_of (stmt.IfElse p arms' ss') ∷ [] ≡ told_st set f (v.st_of a) b
  kept-IfElse p arms arms' ss ss' old older told others is h same at k alike behind =
      ap (λ x. x ∷ []) (w.st_of-IfElse p arms' ss' ∙ both (t.IfElse p) (h ∙ rw (same, at) refl) (k ∙ rw (alike, behind) refl))
      ∙ ap (λ y. told_st set f y b) (sym (w.st_of-IfElse p arms ss))
      ∙ ap (λ y. told_st set f (v.st_of y) b) (sym is)

  pub kept-While : (p : Pos) (g : TreeGuard) (ks ks' : Vec TreeClause Global) (ss ss' : Vec TreeStmt Global) (old : List TreeClause) (older : List TreeStmt) (told : List r.Clause) (others : r.Sts) → a ≡ stmt.While p g ks ss → map v.clause_of ks'.items ≡ told_clauses set f told (map v.clause_of old) → old ≡ ks.items → told ≡ invariants_in b → v.sts_in ss'.items ≡ told_sts set f (v.sts_in older) others → older ≡ ss.items → others ≡ block_in b → v.st_of (stmt.While p g ks' ss') ∷ [] ≡ told_st set f (v.st_of a) b
  kept-While p g ks ks' ss ss' old older told others is h same at k alike behind =
      ap (λ x. x ∷ []) (w.st_of-While p g ks' ss' ∙ both (t.While p (v.guard_of g)) (h ∙ rw (same, at) refl) (k ∙ rw (alike, behind) refl))
      ∙ ap (λ y. told_st set f y b) (sym (w.st_of-While p g ks ss))
      ∙ ap (λ y. told_st set f (v.st_of y) b) (sym is)

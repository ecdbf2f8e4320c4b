-- The parts of a body, by the code's states between them.
use Rattle.std.proofs.Common.{◌≡◌, ℕ, zero, suc, ◌+◌, ◌<◌, false, List, [], ◌∷◌, length, map, drop, sym, ap, ◌∙◌, subst, arith}
use Rattle.std.specs.Prelude.{get_or}
use Rattle.bg_ast.specs.Syntax as s
use Rattle.bg_ast.specs.Resolved as r
use Rattle.bg_ast.specs.Meaning as m
use Rattle.bg_ast.specs.Views.{arm_view, arms_from, st_of, sts_in, guard_of}
use Rattle.bg_ast.specs.declared.resolved.Arm.{Arm}
use Rattle.bg_ast.specs.declared.resolved.Stmt.{Stmt}
use Rattle.bg_sense.specs.Flow.{Behind}
use Rattle.bg_flow.specs.Core.{Core, Seq, Mark, Choose, Loop, Head, desugar}
use Rattle.bg_blocks.specs.declared.emit.Emitted as code
use Rattle.bg_blocks.specs.Emitted.{State, pushed, marked_at, marked_each, with_marks_of, Emits}
use Rattle.bg_blocks.specs.Decided.{skip_block, branch_block, turn_block, head_block}
use Rattle.bg_blocks.specs.EmittedViews.{state_of, EmitsBody}
use Rattle.bg_blocks.proofs.Emission.{emits_seq, emits_choose, emits_loop}
use Rattle.bg_blocks.proofs.Branching.{emits_branch, emits_turns, arms_at}

-- the same body in other words
pub same_body : (p : r.Program) (frame : ℕ) (a b : s.St) (old new : code.Emitted) → a ≡ b → EmitsBody p frame b old new → EmitsBody p frame a old new
same_body p frame a b old new is h = subst (λ st. EmitsBody p frame st old new) (sym is) h

pub arm_emits : (p : r.Program) (g : s.Guard) (a b : Core) (before : State) (e0 e1 e2 e3 : code.Emitted) → before.takes_in ≡ false → Emits b before (state_of p e0) →
    state_of p e1 ≡ pushed (skip_block before (state_of p e0)) (with_marks_of before (state_of p e0)) →
    Emits a (state_of p e1) (state_of p e2) →
    state_of p e3 ≡ pushed (branch_block g (state_of p e0) (state_of p e2)) (with_marks_of (state_of p e1) (state_of p e2)) →
    Emits (Choose g a b) before (state_of p e3)
arm_emits p g a b before e0 e1 e2 e3 h x is y last =
    let end : state_of p e3 ≡ pushed (branch_block g (state_of p e0) (state_of p e2)) (with_marks_of before (state_of p e2)) =
    last ∙ ap (λ s1. pushed (branch_block g (state_of p e0) (state_of p e2)) (with_marks_of s1 (state_of p e2))) is in
    subst (Emits (Choose g a b) before) (sym end) (emits_choose g a b before (state_of p e0) (state_of p e2) h x (subst (λ s1. Emits a s1 (state_of p e2)) is y))

pub loop_emits : (p : r.Program) (h : Head) (g : s.Guard) (a : Core) (number : ℕ) (e0 e1 e3 e4 : code.Emitted) →
    state_of p e1 ≡ marked_at (Behind number) (state_of p e0) →
    Emits a (pushed (turn_block h) (state_of p e1)) (state_of p e3) →
    state_of p e4 ≡ pushed (head_block g h (state_of p e1) (state_of p e3)) (with_marks_of (state_of p e1) (state_of p e3)) →
    Emits (Seq (Loop h g a) (Mark (Behind number))) (state_of p e0) (state_of p e4)
loop_emits p h g a number e0 e1 e3 e4 is y last =
    let s1 : State = marked_at (Behind number) (state_of p e0) in
    let end : state_of p e4 ≡ pushed (head_block g h s1 (state_of p e3)) (with_marks_of s1 (state_of p e3)) =
    last ∙ ap (λ t. pushed (head_block g h t (state_of p e3)) (with_marks_of t (state_of p e3))) is in
    let all : Emits (Loop h g a) s1 (state_of p e4) =
    subst (Emits (Loop h g a) s1) (sym end) (emits_loop h g a s1 (state_of p e3) (subst (λ t. Emits a (pushed (turn_block h) t) (state_of p e3)) is y)) in
    emits_turns h g a number (state_of p e0) (state_of p e4) all

-- one arm more
arms_more : (p : s.Prog) (ds : List s.Decl) (number j : ℕ) (a : Arm) (arms : List Arm) (otherwise : s.St) (s0 end : State) → j < length arms → a ≡ get_or arms j a →
    Emits (Choose (m.guard_of (guard_of a.guard)) (desugar p ds (m.sts_of (sts_in a.body.items))) (desugar p ds (m.arms_of (number + suc j) (arms_from (map arm_view (drop (suc j) arms))) otherwise))) (marked_each number (suc j) s0) end →
    Emits (desugar p ds (m.arms_of (number + j) (arms_from (map arm_view (drop j arms))) otherwise)) (marked_each number j s0) end
arms_more p ds number j a arms otherwise s0 end lt at x =
    let g = m.guard_of (guard_of a.guard) in
    let body = desugar p ds (m.sts_of (sts_in a.body.items)) in
    let more : suc j ≡ j + 1 = omega arith in
    let next : number + suc j ≡ suc (number + j) = omega arith in
    let y = subst (λ k. Emits (Choose g body (desugar p ds (m.arms_of (number + suc j) (arms_from (map arm_view (drop k arms))) otherwise))) (marked_each number (suc j) s0) end) more x in
    let z = subst (λ k. Emits (Choose g body (desugar p ds (m.arms_of k (arms_from (map arm_view (drop (j + 1) arms))) otherwise))) (marked_each number (suc j) s0) end) next y in
    subst (λ l. Emits (desugar p ds (m.arms_of (number + j) l otherwise)) (marked_each number j s0) end) (sym (arms_at arms j a lt at))
    (emits_branch g body (desugar p ds (m.arms_of (suc (number + j)) (arms_from (map arm_view (drop (j + 1) arms))) otherwise)) (number + j) (marked_each number j s0) end z)

pub arms_step : (p : s.Prog) (ds : List s.Decl) (number i j : ℕ) (a : Arm) (arms : List Arm) (otherwise : s.St) (s0 end : State) → suc j ≡ i → j < length arms → a ≡ get_or arms j a →
    Emits (Choose (m.guard_of (guard_of a.guard)) (desugar p ds (m.sts_of (sts_in a.body.items))) (desugar p ds (m.arms_of (number + i) (arms_from (map arm_view (drop i arms))) otherwise))) (marked_each number i s0) end →
    Emits (desugar p ds (m.arms_of (number + j) (arms_from (map arm_view (drop j arms))) otherwise)) (marked_each number j s0) end
arms_step p ds number i j a arms otherwise s0 end is lt at x =
    arms_more p ds number j a arms otherwise s0 end lt at
    (subst (λ k. Emits (Choose (m.guard_of (guard_of a.guard)) (desugar p ds (m.sts_of (sts_in a.body.items))) (desugar p ds (m.arms_of (number + k) (arms_from (map arm_view (drop k arms))) otherwise))) (marked_each number k s0) end) (sym is) x)

-- the statements from this one on
sts_at : (ss : List Stmt) (j : ℕ) (a : Stmt) → j < length ss → a ≡ get_or ss j a → sts_in (drop j ss) ≡ r.Then (st_of a) (sts_in (drop (suc j) ss))
sts_at [] j a h e = absurd (omega (arith, h))
sts_at (x ∷ ss) zero a h e = ap (λ y. r.Then (st_of y) (sts_in ss)) (sym e)
sts_at (x ∷ ss) (suc j) a h e = sts_at ss j a (omega (arith, h)) e

-- one statement more
pub sts_step : (p : s.Prog) (ds : List s.Decl) (ss : List Stmt) (i j : ℕ) (a : Stmt) (s0 s1 s2 : State) → suc j ≡ i → j < length ss → a ≡ get_or ss j a →
    Emits (desugar p ds (m.sts_of (sts_in (drop i ss)))) s0 s1 → Emits (desugar p ds (m.st_of (st_of a))) s1 s2 →
    Emits (desugar p ds (m.sts_of (sts_in (drop j ss)))) s0 s2
sts_step p ds ss i j a s0 s1 s2 is h e x y =
    let rest = subst (λ k. Emits (desugar p ds (m.sts_of (sts_in (drop k ss)))) s0 s1) (sym is) x in
    subst (λ l. Emits (desugar p ds (m.sts_of l)) s0 s2) (sym (sts_at ss j a h e))
    (emits_seq (desugar p ds (m.st_of (st_of a))) (desugar p ds (m.sts_of (sts_in (drop (suc j) ss)))) s0 s1 s2 rest y)

-- all arms
pub arms_whole : (p : s.Prog) (ds : List s.Decl) (number i : ℕ) (arms : List Arm) (otherwise : s.St) (s0 end : State) → i ≡ 0 → number + i ≡ number →
    Emits (desugar p ds (m.arms_of (number + i) (arms_from (map arm_view (drop i arms))) otherwise)) (marked_each number i s0) end →
    Emits (desugar p ds (m.arms_of number (arms_from (map arm_view arms)) otherwise)) s0 end
arms_whole p ds number i arms otherwise s0 end is same x =
    subst (λ k. Emits (desugar p ds (m.arms_of k (arms_from (map arm_view arms)) otherwise)) s0 end) same
    (subst (λ k. Emits (desugar p ds (m.arms_of (number + i) (arms_from (map arm_view (drop k arms))) otherwise)) (marked_each number k s0) end) is x)

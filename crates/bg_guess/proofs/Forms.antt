-- Guesses of each form of a statement, at the lists that the code meets.
use Rattle.std.proofs.Common.{◌≡◌, ℕ, ◌+◌, ◌++◌, List, map, [], ◌∷◌, refl, ap, ◌∙◌, sym, Vec, Box, Global}
use Rattle.bg_base.specs.declared.pos.Pos.{Pos}
use Rattle.bg_ast.specs.declared.resolved.Expr.{Expr}
use Rattle.bg_ast.specs.declared.resolved.Expr.TheVariants as expr
use Rattle.bg_ast.specs.declared.resolved.Link.{Link}
use Rattle.bg_ast.specs.declared.resolved.Clause.{Clause}
use Rattle.bg_ast.specs.declared.resolved.Guard.{Guard}
use Rattle.bg_ast.specs.declared.resolved.Arm.{Arm}
use Rattle.bg_ast.specs.declared.resolved.Stmt.{Stmt}
use Rattle.bg_ast.specs.declared.resolved.Stmt.TheVariants as stmt
use Rattle.bg_ast.specs.Resolved as r
use Rattle.bg_ast.specs.Views.{ex_of, st_of, sts_in, arms_from, arm_view, clause_of}
use Rattle.bg_ast.proofs.Lists as w
use Rattle.bg_guess.specs.Claims.{Subjects, claims}
use Rattle.bg_guess.specs.Loops.{guesses, size, st_guesses, sts_guesses, arms_guesses, guessed_st, guessed_sts, guessed_arms}

pub count-If : (n j : ℕ) (arms : Vec Arm Global) (ss : Vec Stmt Global) → st_guesses n (st_of (stmt.If j arms ss)) ≡ arms_guesses n (arms_from (map arm_view arms.items)) + sts_guesses n (sts_in ss.items)
count-If n j arms ss = ap (st_guesses n) (w.st_of-If j arms ss)

pub count-While : (n j : ℕ) (q : Pos) (g : Guard) (is : Vec Clause Global) (ss : Vec Stmt Global) → st_guesses n (st_of (stmt.While j q g is ss)) ≡ n + sts_guesses n (sts_in ss.items)
count-While n j q g is ss = ap (st_guesses n) (w.st_of-While j q g is ss)

-- a conditional, before and after
pub guessed-If : (above b : ℕ) (s : Subjects) (j : ℕ) (arms arms' : Vec Arm Global) (ss ss' : Vec Stmt Global) →
    arms_from (map arm_view arms'.items) ≡ guessed_arms above s b (arms_from (map arm_view arms.items)) →
    sts_in ss'.items ≡ guessed_sts above s (b + arms_guesses (size s) (arms_from (map arm_view arms.items))) (sts_in ss.items) →
    st_of (stmt.If j arms' ss') ≡ guessed_st above s b (st_of (stmt.If j arms ss))
guessed-If above b s j arms arms' ss ss' h k =
    w.st_of-If j arms' ss' ∙ (rw (h, k) refl ∙ sym (ap (guessed_st above s b) (w.st_of-If j arms ss)))

-- a loop, before and after
pub guessed-While : (above b : ℕ) (s : Subjects) (j : ℕ) (q : Pos) (g : Guard) (is is' : Vec Clause Global) (ss ss' : Vec Stmt Global) →
    map clause_of is'.items ≡ map clause_of is.items ++ guesses above q b (claims s) →
    sts_in ss'.items ≡ guessed_sts above s (b + size s) (sts_in ss.items) →
    st_of (stmt.While j q g is' ss') ≡ guessed_st above s b (st_of (stmt.While j q g is ss))
guessed-While above b s j q g is is' ss ss' h k =
    w.st_of-While j q g is' ss' ∙ (rw (h, k) refl ∙ sym (ap (guessed_st above s b) (w.st_of-While j q g is ss)))

pub ruleset loop_forms = (count-If, count-While, guessed-If, guessed-While)

one_item : (ls old : List Link) (l : Link) → ls ≡ old ++ l ∷ [] → old ≡ [] → ls ≡ l ∷ []
one_item ls old l is none = is ∙ ap (λ xs. xs ++ l ∷ []) none

-- a chain of one link
pub chain_is : (e : Box Expr Global) (ls : Vec Link Global) (old : List Link) (x : r.Ex) (l : Link) → ex_of e.value ≡ x → ls.items ≡ old ++ l ∷ [] → old ≡ [] →
    ex_of (expr.Chain e ls) ≡ r.Chain x (r.Link l.pos l.sign (ex_of l.operand) r.NoLink)
chain_is e ls old x l h is none = w.ex_of-Chain e ls ∙ (rw (h, one_item ls.items old l is none) refl)

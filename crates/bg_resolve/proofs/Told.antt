-- The fault of names that is answered is one alone, and it is the first.
use Rattle.std.proofs.Common.{◌≡◌, ℕ, List, [], ◌∷◌, ◌++◌, Some, None, slice_get, refl, sym, ap, ◌∙◌, arith}
use mathlib.Core.Logic.{dite}
use native.Mathlib.Decide.{ℕ_discrete, dec_lt}
use Rattle.bg_graph.specs.Graphs.{Graph, IsFirstOnCycle}
use Rattle.bg_text.specs.Trees.{Decl, Fun}
use Rattle.bg_names.specs.declared.error.FaultKind.TheVariants as kinds
use Rattle.bg_names.specs.Faults.{Fault, fault, better, IsFirst}
use Rattle.bg_names.specs.Spaces.{names_of}
use Rattle.bg_spaces.specs.Declarations.{function_ids}
use Rattle.bg_resolve.specs.Program.{plain_faults}
use Rattle.bg_resolve.specs.Calls.{IsRecursion, functions_in, calls_in}
use Rattle.bg_resolve.specs.Calls.IsRecursion.{never, first}
use Rattle.bg_resolve.specs.Resolves.{Recursion, IsToldFault}
use Rattle.bg_resolve.proofs.Order.{best_some}

-- the first node on a cycle is one alone
pub one_on_cycle : (g : Graph) (j k : ℕ) → IsFirstOnCycle g j → IsFirstOnCycle g k → j ≡ k
one_on_cycle g j k a b =
    dite (ℕ_discrete j k)
    (λ e. e)
    (λ n. absurd (dite (dec_lt j k) (λ l. b.1 j l a.0) (λ o. a.1 k (omega (arith, n, o)) b.0)))

-- the fault of recursion is one alone
pub one_recursion : (names : List (List ℕ)) (ds : List Decl) (rs qs : List Fault) → IsRecursion names ds rs → IsRecursion names ds qs → rs ≡ qs
one_recursion names ds _ _ (never a) (never b) = refl
one_recursion names ds _ _ (never a) (first k f c i) = absurd (a k c.0)
one_recursion names ds _ _ (first k f c i) (never b) = absurd (b k c.0)
one_recursion names ds _ _ (first j f c i) (first k g d h) =
    let n : j ≡ k = one_on_cycle (calls_in names ds) j k c d in
    let s : Some f ≡ Some g = sym i ∙ (ap (slice_get (functions_in ds)) n ∙ h) in
    let e : f ≡ g = cc in
    ap (λ (x : Fun). fault kinds.RecursiveFunction x.name.pos x.name.text ∷ []) e

pub one_told : (ds : List Decl) (f g : Fault) → IsToldFault ds f → IsToldFault ds g → f ≡ g
one_told ds f g a b =
    let e : a.0 ≡ b.0 = one_recursion (names_of (function_ids ds)) ds a.0 b.0 a.1 b.1 in
    let same : Some f ≡ Some g = sym a.2 ∙ (ap (λ (rs : List Fault). better None (plain_faults ds ++ rs)) e ∙ b.2) in
    cc

pub told_first : (ds : List Decl) (f : Fault) → IsToldFault ds f → (rs : List Fault) × Recursion ds rs × IsFirst f (plain_faults ds ++ rs)
told_first ds f a = (a.0, a.1, best_some (plain_faults ds ++ a.0) f a.2)

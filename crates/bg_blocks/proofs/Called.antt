-- What a call performs.
use Rattle.std.proofs.Common.{◌≡◌, ℕ, zero, suc, ◌<◌, ◌≤◌, List, [], ◌∷◌, length, map, Some, None, slice_get, Vec, Global, refl, sym, ap, ◌∙◌, subst, arith}
use Rattle.std.specs.Prelude.{get_or}
use Rattle.std.proofs.lemmas.List.{length-map}
use Rattle.bg_ast.specs.Values.{Ty}
use Rattle.bg_ast.specs.Syntax as s
use Rattle.bg_ast.specs.Resolved as r
use Rattle.bg_ast.specs.Meaning.{meaning_of, named_of, proc_of}
use Rattle.bg_ast.specs.Views as v
use Rattle.bg_ast.specs.declared.resolved.Variable.{Variable}
use Rattle.bg_ast.specs.declared.resolved.Procedure.{Procedure}
use Rattle.bg_ast.specs.declared.resolved.Resolved.{Resolved}
use Rattle.bg_sense.specs.Variables.{procedure_of}
use Rattle.bg_flow.specs.Core.{Perform, calls_of, plan_of}
use Rattle.bg_blocks.specs.Callees.{list_of, modified_in, IsModified}

abbrev head_of : {A : Type 0} (d : A) → List A → A
head_of d [] = d
head_of d (x ∷ xs) = x

abbrev rest_of : {A : Type 0} → List A → List A
rest_of [] = []
rest_of (x ∷ xs) = xs

there_in : (named : ℕ → Ty) (qs : List Procedure) (k : ℕ) (q : Procedure) → k < length qs → q ≡ get_or qs k q → slice_get (map (proc_of named) (map v.proc_of qs)) k ≡ Some (proc_of named (v.proc_of q))
there_in named [] k q h e = absurd (omega (arith, h))
there_in named (x ∷ qs) zero q h e = ap (λ p. Some (proc_of named (v.proc_of p))) (sym e)
there_in named (x ∷ qs) (suc k) q h e = there_in named qs k q (omega (arith, h)) e

missing_in : (named : ℕ → Ty) (qs : List Procedure) (k : ℕ) → length qs ≤ k → slice_get (map (proc_of named) (map v.proc_of qs)) k ≡ None
missing_in named [] k h = refl
missing_in named (x ∷ qs) zero h = absurd (omega (arith, h))
missing_in named (x ∷ qs) (suc k) h = missing_in named qs k (omega (arith, h))

-- the lists are those of the procedures
same_there : (f : r.Proc → List s.Var) (lists : List (Vec Variable Global)) (qs : List Procedure) (k : ℕ) (xs : Vec Variable Global) (q : Procedure) → map list_of lists ≡ map f (map v.proc_of qs) → k < length lists → xs ≡ get_or lists k xs → k < length qs → q ≡ get_or qs k q → list_of xs ≡ f (v.proc_of q)
same_there f [] qs k xs q is h e j d = absurd (omega (arith, h))
same_there f (l ∷ lists) [] k xs q is h e j d = absurd (omega (arith, j))
same_there f (l ∷ lists) (x ∷ qs) zero xs q is h e j d =
    ap list_of e ∙ (ap (head_of (list_of l)) is ∙ ap (λ p. f (v.proc_of p)) (sym d))
same_there f (l ∷ lists) (x ∷ qs) (suc k) xs q is h e j d =
    same_there f lists qs k xs q (ap rest_of is) (omega (arith, h)) e (omega (arith, j)) d

pub none_called : (p : Resolved) (k : s.Call) → length p.procedures.items ≤ k.procedure → [] ≡ calls_of (meaning_of (v.program_of p)) (procedure_of (meaning_of (v.program_of p)) k.procedure) k
none_called p k h =
    let program = v.program_of p in
    sym (ap (λ o. calls_of (meaning_of program) o k) (missing_in (named_of program.types) p.procedures.items k.procedure h))

pub one_called : (p : Resolved) (lists : List (Vec Variable Global)) (k : s.Call) (q : Procedure) (xs : Vec Variable Global) → IsModified (v.program_of p) lists →
    k.procedure < length p.procedures.items → q ≡ get_or p.procedures.items k.procedure q →
    k.procedure < length lists → xs ≡ get_or lists k.procedure xs →
    Perform (record (plan_of (meaning_of (v.program_of p)) (proc_of (named_of (v.program_of p).types) (v.proc_of q)) k) { modifies = list_of xs }) ∷ []
    ≡ calls_of (meaning_of (v.program_of p)) (procedure_of (meaning_of (v.program_of p)) k.procedure) k
one_called p lists k q xs is h e j d =
    let program = v.program_of p in
    let named = named_of program.types in
    ap (λ l. Perform (record (plan_of (meaning_of program) (proc_of named (v.proc_of q)) k) { modifies = l }) ∷ []) (same_there (modified_in program) lists p.procedures.items k.procedure xs q is j d h e)
    ∙ sym (ap (λ o. calls_of (meaning_of program) o k) (there_in named p.procedures.items k.procedure q h e))

-- there are as many lists as procedures
pub as_many : (p : Resolved) (lists : List (Vec Variable Global)) → IsModified (v.program_of p) lists → length lists ≡ length p.procedures.items
as_many p lists is =
    sym (length-map lists list_of) ∙ (ap length is ∙ (length-map (v.program_of p).procedures (modified_in (v.program_of p)) ∙ length-map p.procedures.items v.proc_of))

-- the same by the lists that the code reads
pub one_called_at : (p : Resolved) (lists : List (Vec Variable Global)) (k : s.Call) (qs : List Procedure) (q : Procedure) (xs : Vec Variable Global) (ys : List Variable) → IsModified (v.program_of p) lists →
    qs ≡ p.procedures.items → ys ≡ xs.items →
    k.procedure < length qs → q ≡ get_or qs k.procedure q →
    k.procedure < length lists → xs ≡ get_or lists k.procedure xs →
    Perform (record (plan_of (meaning_of (v.program_of p)) (proc_of (named_of (v.program_of p).types) (v.proc_of q)) k) { modifies = map v.var_of ys }) ∷ []
    ≡ calls_of (meaning_of (v.program_of p)) (procedure_of (meaning_of (v.program_of p)) k.procedure) k
one_called_at p lists k qs q xs ys is f g h e j d =
    let program = v.program_of p in
    ap (λ l. Perform (record (plan_of (meaning_of program) (proc_of (named_of program.types) (v.proc_of q)) k) { modifies = map v.var_of l }) ∷ []) g
    ∙ one_called p lists k q xs is (subst (λ l. k.procedure < length l) f h) (subst (λ l. q ≡ get_or l k.procedure q) f e) j d

pub none_called_at : (p : Resolved) (k : s.Call) (qs : List Procedure) → qs ≡ p.procedures.items → length qs ≤ k.procedure → [] ≡ calls_of (meaning_of (v.program_of p)) (procedure_of (meaning_of (v.program_of p)) k.procedure) k
none_called_at p k qs f h = none_called p k (subst (λ l. length l ≤ k.procedure) f h)

-- no list is missing where the procedure is there
pub none_missing : (p : Resolved) (lists : List (Vec Variable Global)) (k : ℕ) (qs : List Procedure) → IsModified (v.program_of p) lists → qs ≡ p.procedures.items → k < length qs → length lists ≤ k → ⊥
none_missing p lists k qs is f h j = let many = as_many p lists is in let same = ap length f in omega (arith, h, j, many, same)

-- What declarations add to a program, one after the other.
use Rattle.std.proofs.Common.{◌≡◌, ℕ, ◌+◌, List, [], ◌∷◌, flat_map, Option, refl, sym, ap, ◌∙◌, append-nil, append_assoc, arith}
use Rattle.bg_text.specs.Trees as t
use Rattle.bg_ast.specs.Resolved as r
use Rattle.bg_names.specs.Faults.{Fault, better}
use Rattle.bg_spaces.specs.Declarations.{Spaces, candidate_ids_of}
use Rattle.bg_resolve.specs.Program.{decl_faults, decl_count, in_turn, named_types, named_constants, named_globals, named_functions, named_axioms, named_procedures, named_implementations}
use Rattle.bg_resolve.specs.Parts.{no_program, part_of, joined, parts_from, type_faults_of, constant_faults_of, global_faults_of, function_faults_of, axiom_faults_of, procedure_faults_of, body_faults_of}
use Rattle.bg_resolve.specs.Pieces.{clause_count, body_count, named_bodies}
use Rattle.bg_names.proofs.Firsts.{better_append}

pub count-is : (d : t.Decl) → decl_count d ≡ clause_count d + body_count d
count-is (t.Types p attrs ds) = refl
count-is (t.Constants c) = refl
count-is (t.Function f) = refl
count-is (t.Axiom p attrs e) = refl
count-is (t.Globals v) = refl
count-is (t.Procedure q) = refl
count-is (t.Implementation m) = omega arith

pub bodies-are : (g : Spaces) (n : ℕ) (d : t.Decl) → named_implementations g n d ≡ named_bodies g (n + clause_count d) d
bodies-are g n (t.Types p attrs ds) = refl
bodies-are g n (t.Constants c) = refl
bodies-are g n (t.Function f) = refl
bodies-are g n (t.Axiom p attrs e) = refl
bodies-are g n (t.Globals v) = refl
bodies-are g n (t.Procedure q) = refl
bodies-are g n (t.Implementation m) = let same : n ≡ n + 0 = omega arith in ap (λ k. named_bodies g k (t.Implementation m)) same

-- the faults of a declaration, kind by kind
pub kinds-are : (g : Spaces) (best : Option Fault) (d : t.Decl) → better (better (better (better (better (better (better best (type_faults_of g d)) (constant_faults_of g d)) (global_faults_of g d)) (function_faults_of g d)) (axiom_faults_of g d)) (procedure_faults_of g d)) (body_faults_of g d) ≡ better best (decl_faults g d)
kinds-are g best (t.Types p attrs ds) = refl
kinds-are g best (t.Constants c) = refl
kinds-are g best (t.Function f) = refl
kinds-are g best (t.Axiom p attrs e) = refl
kinds-are g best (t.Globals v) = refl
kinds-are g best (t.Procedure q) =
    let d = t.Procedure q in
    sym (better_append best (procedure_faults_of g d) (body_faults_of g d))
kinds-are g best (t.Implementation m) = refl

joined_assoc : (p q s : r.Program) → joined (joined p q) s ≡ joined p (joined q s)
joined_assoc p q s =
    rw (append_assoc p.types q.types s.types, append_assoc p.constants q.constants s.constants, append_assoc p.candidates q.candidates s.candidates, append_assoc p.globals q.globals s.globals, append_assoc p.functions q.functions s.functions, append_assoc p.axioms q.axioms s.axioms, append_assoc p.procedures q.procedures s.procedures, append_assoc p.implementations q.implementations s.implementations)
    refl

-- one more declaration
pub joined_step : (p new : r.Program) (g : Spaces) (n m : ℕ) (d : t.Decl) (ds : List t.Decl) (whole : r.Program) → joined p (parts_from g n (d ∷ ds)) ≡ whole → new ≡ joined p (part_of g n d) → m ≡ n + decl_count d → joined new (parts_from g m ds) ≡ whole
joined_step p new g n m d ds whole known is next = rw (is, next) (joined_assoc p (part_of g n d) (parts_from g (n + decl_count d) ds) ∙ known)

-- all lists at once, from number n on
abbrev pub lists_from : Spaces → ℕ → List t.Decl → r.Program
lists_from g n ds =
    record {
      types = flat_map (named_types g) ds;
      constants = flat_map (named_constants g) ds;
      candidates = flat_map candidate_ids_of ds;
      globals = flat_map (named_globals g) ds;
      functions = flat_map (named_functions g) ds;
      axioms = flat_map (named_axioms g) ds;
      procedures = in_turn (named_procedures g) n ds;
      implementations = in_turn (named_implementations g) n ds;
    }

pub parts-are : (g : Spaces) (n : ℕ) (ds : List t.Decl) → parts_from g n ds ≡ lists_from g n ds
parts-are g n [] = refl
parts-are g n (d ∷ ds) = ap (joined (part_of g n d)) (parts-are g (n + decl_count d) ds)

-- the faults that are noted kind by kind
pub all_kinds : (g : Spaces) (d : t.Decl) (best b1 b2 b3 b4 b5 b6 new : Option Fault) → b1 ≡ better best (type_faults_of g d) → b2 ≡ better b1 (constant_faults_of g d) → b3 ≡ better b2 (global_faults_of g d) → b4 ≡ better b3 (function_faults_of g d) → b5 ≡ better b4 (axiom_faults_of g d) → b6 ≡ better b5 (procedure_faults_of g d) → new ≡ better b6 (body_faults_of g d) → new ≡ better best (decl_faults g d)
all_kinds g d best b1 b2 b3 b4 b5 b6 new h1 h2 h3 h4 h5 h6 h = h ∙ rw (h6, h5, h4, h3, h2, h1) (kinds-are g best d)

pub joined_nothing : (p : r.Program) → joined p no_program ≡ p
joined_nothing p =
    rw (append-nil p.types, append-nil p.constants, append-nil p.candidates, append-nil p.globals, append-nil p.functions, append-nil p.axioms, append-nil p.procedures, append-nil p.implementations)
    refl

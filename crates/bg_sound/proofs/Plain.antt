-- Programs without constants, axioms and bodies of functions: an interpretation meets them.
use Rattle.std.proofs.Common.{◌≡◌, Bool, true, false, List, [], ◌∷◌, map, refl, ap}
use Rattle.std.specs.Prelude.{not, ◌||◌}
use Rattle.std.specs.List.{list_all}
use Rattle.std.proofs.lemmas.Bool.{and_parts}
use Rattle.bg_ast.specs.Values.{Table, is_of}
use Rattle.bg_ast.specs.Syntax.{Const, Fun, Prog}
use Rattle.bg_ast.specs.Execution.{Interp}
use Rattle.bg_sense.specs.Eval.{default_for}
use Rattle.bg_sense.specs.Types.{are_of, const_types}
use Rattle.bg_sense.specs.Tables.{has_body, is_table, is_blank, is_table_of, are_tables}
use Rattle.bg_sense.specs.Interps.{are_distinct, all_hold, Meets}
use Rattle.bg_sense.proofs.Bools.{both}
use Rattle.bg_sense.proofs.TypedRuns.{default_typed}
use Rattle.bg_fits.specs.Valued.{is_empty, fun_passes, decls_pass, is_value_type, any_ex, is_over_values}
use Rattle.bg_sound.specs.Told.{Consistent}
use Rattle.bg_sound.specs.Sound.{AreAxioms}

empty_is : {A : Type 0} (xs : List A) → is_empty xs ≡ true → xs ≡ []
empty_is [] h = refl
empty_is (x ∷ xs) h = absurd (let bad : false ≡ true = h in cc)

-- the table that gives this value always
abbrev blank : Fun → Table
blank f = record { entries = []; default = default_for f.result }

not_or : (a b : Bool) → a ≡ true → (a || b) ≡ true
not_or true b h = refl
not_or false b h = absurd (let bad : false ≡ true = h in cc)

blank_is : (f : Fun) → fun_passes is_value_type f ≡ true → is_table_of f (blank f) ≡ true
blank_is f h =
    let a = and_parts (list_all is_value_type f.params) _ h in
    let b = and_parts (is_value_type f.result) (not (has_body f.body)) a.1 in
    both (is_table f (blank f)) _ (both (is_of f.result (default_for f.result)) true (default_typed f.result) refl) (not_or (not (has_body f.body)) (is_blank f (blank f)) b.1)

blanks : (fs : List Fun) → list_all (fun_passes is_value_type) fs ≡ true → are_tables fs (map blank fs) ≡ true
blanks [] h = refl
blanks (f ∷ fs) h =
    let a = and_parts (fun_passes is_value_type f) (list_all (fun_passes is_value_type) fs) h in
    both (is_table_of f (blank f)) (are_tables fs (map blank fs)) (blank_is f a.0) (blanks fs a.1)

-- there are no constants, and each function gives one value
abbrev plain : Prog → Interp
plain p = record { constants = []; tables = map blank p.functions }

met : (p : Prog) → p.constants ≡ [] → are_tables p.functions (map blank p.functions) ≡ true → p.axioms ≡ [] → Meets p (plain p)
met p c f a =
    record {
      interp = record { constants = ap (λ (cs : List Const). are_of (const_types cs) []) c; tables = f };
      unique = ap (λ (cs : List Const). are_distinct cs []) c;
      axioms = ap (all_hold p (plain p)) a;
    }

pub consistent : (p : Prog) → is_over_values p ≡ true → AreAxioms p Consistent
consistent p h =
    let a = and_parts (decls_pass is_value_type any_ex p.globals) _ h in
    let b = and_parts (is_empty p.constants) _ a.1 in
    let c = and_parts (list_all (fun_passes is_value_type) p.functions) _ b.1 in
    let d = and_parts (is_empty p.axioms) _ c.1 in
    (plain p, met p (empty_is p.constants b.0) (blanks p.functions c.0) (empty_is p.axioms d.0))

-- How many declarations there are, and what each procedure changes.
use Rattle.std.proofs.Common.{◌≡◌, ℕ, suc, ◌+◌, List, [], ◌∷◌, map, flat_map, length, refl, sym, ap, ◌∙◌}
use Rattle.std.proofs.lemmas.List.{length-map}
use Rattle.bg_text.specs.Trees as t
use Rattle.bg_ast.specs.Syntax as x
use Rattle.bg_sense.specs.Types.{types_of, const_types}
use Rattle.bg_spaces.specs.Declarations.{Spaces, spaces_of, global_ids, ids_in, vars_ids, named_groups, changes_of, modifies_of, text_of}
use Rattle.bg_resolve.specs.Program.{named_vars, named_procedures, in_turn, named, decl_count}
use Rattle.bg_named.specs.Numbers.{declared_id, changed}
use Rattle.bg_named.proofs.SpacesNames.{groups_names, vars_names}

pub types_long : (ds : List x.Decl) → length (types_of ds) ≡ length ds
types_long [] = refl
types_long (d ∷ ds) = ap suc (types_long ds)

pub const_types_long : (cs : List x.Const) → length (const_types cs) ≡ length cs
const_types_long [] = refl
const_types_long (c ∷ cs) = ap suc (const_types_long cs)

-- groups declare as many names as they have
pub groups_long : (g : Spaces) (gs : List t.Group) → length (named_groups g gs) ≡ length (ids_in gs)
groups_long g gs = sym (length-map (named_groups g gs) declared_id) ∙ ap length (groups_names g gs)

pub locals_long : (g : Spaces) (vs : List t.Vars) → length (flat_map (named_vars g) vs) ≡ length (flat_map vars_ids vs)
locals_long g vs = sym (length-map (flat_map (named_vars g) vs) declared_id) ∙ ap length (vars_names g vs)

changes_from : (g : Spaces) (n : ℕ) (ds : List t.Decl) → flat_map (changes_of g.values g.meanings (length g.globals)) ds ≡ map changed (in_turn (named_procedures g) n ds)
changes_from g n [] = refl
changes_from g n (t.Types p attrs es ∷ ds) = changes_from g (n + 0) ds
changes_from g n (t.Constants c ∷ ds) = changes_from g (n + 0) ds
changes_from g n (t.Function f ∷ ds) = changes_from g (n + 0) ds
changes_from g n (t.Axiom p attrs e ∷ ds) = changes_from g (n + 0) ds
changes_from g n (t.Globals v ∷ ds) = changes_from g (n + 0) ds
changes_from g n (t.Procedure q ∷ ds) =
    ap (λ (l : List (List ℕ)). modifies_of g.values g.meanings (length g.globals) q.specs ∷ l) (changes_from g (n + decl_count (t.Procedure q)) ds)
changes_from g n (t.Implementation m ∷ ds) = changes_from g (n + decl_count (t.Implementation m)) ds

-- what each procedure is known to change is what it modifies
pub changes_are : (ds : List t.Decl) → (spaces_of ds).changes ≡ map changed (named ds).procedures
changes_are ds =
    let g = spaces_of ds in
    ap (λ (n : ℕ). flat_map (changes_of g.values g.meanings n) ds) (sym (length-map (global_ids ds) text_of)) ∙ changes_from g 0 ds

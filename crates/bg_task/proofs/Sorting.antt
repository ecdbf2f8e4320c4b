-- The types of terms and of functions' values, one after the other, and the sorts of what stands for values.
use Rattle.std.proofs.Common.{◌≡◌, ℕ, ◌+◌, ◌<◌, List, [], ◌∷◌, ◌++◌, length, take, drop, get_or, map, refl, sym, ap, ◌∙◌, append_assoc}
use Rattle.std.proofs.lemmas.List.{map-append}
use Rattle.bg_ast.specs.Values.{Ty, IntTy, BoolTy, UserTy, MapTy}
use Rattle.bg_ast.specs.Syntax as s
use Rattle.bg_ast.specs.Meaning.{type_in, fun_of}
use Rattle.bg_ast.specs.Views as view
use Rattle.bg_ast.specs.declared.resolved.Function.{Function}
use Rattle.bg_kinds.specs.declared.kinds.ValueType.{ValueType}
use Rattle.bg_kinds.specs.Views.{ref_in}
use Rattle.bg_incarnate.proofs.Passing.{drop_item}
use Rattle.bg_sorts.specs.Sorts.{sort_of_type}
use Rattle.bg_terms.specs.Alike.{scalar_ty}
use Rattle.bg_linear.specs.declared.scalar.Sort.{Sort}
use Rattle.bg_terms.specs.Typed.{type_of, types_with}
use Rattle.bg_term_table.specs.declared.table.Term as kept
use Rattle.bg_term_table.specs.Views.{result_ty, term_of, terms_in}
use Rattle.bg_term_table.proofs.Loops.{read_more}
use Rattle.bg_task.specs.Sorts.{flat_sort}
use Rattle.bg_flat_clauses.specs.Sorts.{flat_sorts}

-- one more term
pub next_term : (fs : List s.Fun) (ts : List kept.Term) (i : ℕ) (t : kept.Term) (made new : List ValueType) (k : ValueType) (whole : List Ty) → i < length ts → t ≡ get_or ts i t → ref_in k ≡ type_of (term_of fs t) → new ≡ made ++ k ∷ [] → map ref_in made ++ map type_of (terms_in fs (drop i ts)) ≡ whole → map ref_in new ++ map type_of (terms_in fs (drop (i + 1) ts)) ≡ whole
next_term fs ts i t made new k whole h at is more known =
    let rest = map type_of (terms_in fs (drop (i + 1) ts)) in
    ap (λ l. map ref_in l ++ rest) more
    ∙ ap (λ l. l ++ rest) (map-append ref_in made (k ∷ []))
    ∙ append_assoc (map ref_in made) (ref_in k ∷ []) rest
    ∙ ap (λ x. map ref_in made ++ x ∷ rest) is
    ∙ ap (λ l. map ref_in made ++ map type_of (terms_in fs l)) (sym (drop_item ts i t h at))
    ∙ known

-- one more function
pub next_result : (named : ℕ → Ty) (ds : List Function) (i : ℕ) (d : Function) (made new : List ValueType) (k : ValueType) (whole : List Ty) → i < length ds → d ≡ get_or ds i d → ref_in k ≡ type_in named (view.type_of d.result) → new ≡ made ++ k ∷ [] → map ref_in made ++ map result_ty (map (fun_of named) (map view.fun_of (drop i ds))) ≡ whole → map ref_in new ++ map result_ty (map (fun_of named) (map view.fun_of (drop (i + 1) ds))) ≡ whole
next_result named ds i d made new k whole h at is more known =
    let rest = map result_ty (map (fun_of named) (map view.fun_of (drop (i + 1) ds))) in
    ap (λ l. map ref_in l ++ rest) more
    ∙ ap (λ l. l ++ rest) (map-append ref_in made (k ∷ []))
    ∙ append_assoc (map ref_in made) (ref_in k ∷ []) rest
    ∙ ap (λ x. map ref_in made ++ x ∷ rest) is
    ∙ ap (λ l. map ref_in made ++ map result_ty (map (fun_of named) (map view.fun_of l))) (sym (drop_item ds i d h at))
    ∙ known

-- ---- the sorts of what stands for values

one_sort : (t : Ty) → flat_sort t ≡ sort_of_type (scalar_ty t)
one_sort IntTy = refl
one_sort BoolTy = refl
one_sort (UserTy u) = refl
one_sort (MapTy ks t) = refl

-- one more term
pub next_sort : (fs : List s.Fun) (incs : List Ty) (ts : List kept.Term) (i : ℕ) (t : kept.Term) (made new : List Sort) (k : Sort) → i < length ts → t ≡ get_or ts i t → k ≡ flat_sort (type_of (term_of fs t)) → new ≡ made ++ k ∷ [] → made ≡ map flat_sort (types_with incs (terms_in fs (take i ts))) → new ≡ map flat_sort (types_with incs (terms_in fs (take (i + 1) ts)))
next_sort fs incs ts i t made new k h at is more known =
    let old = map type_of (terms_in fs (take i ts)) in
    let last = type_of (term_of fs t) in
    more
    ∙ ap (λ l. l ++ k ∷ []) (known ∙ map-append flat_sort incs old)
    ∙ append_assoc (map flat_sort incs) (map flat_sort old) (k ∷ [])
    ∙ ap (λ x. map flat_sort incs ++ (map flat_sort old ++ x ∷ [])) is
    ∙ ap (λ l. map flat_sort incs ++ l) (sym (map-append flat_sort old (last ∷ [])))
    ∙ sym (map-append flat_sort incs (old ++ last ∷ []))
    ∙ ap (λ l. map flat_sort (incs ++ l)) (sym (ap (map type_of) (read_more (term_of fs) ts i t h at) ∙ map-append type_of (terms_in fs (take i ts)) (term_of fs t ∷ [])))

pub sorts_flat : (tys : List Ty) → map flat_sort tys ≡ flat_sorts tys
sorts_flat [] = refl
sorts_flat (t ∷ tys) =
    ap (λ s. s ∷ map flat_sort tys) (one_sort t)
    ∙ ap (λ ss. sort_of_type (scalar_ty t) ∷ ss) (sorts_flat tys)

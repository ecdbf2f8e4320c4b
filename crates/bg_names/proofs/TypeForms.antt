-- How each form of a type is named, at the lists that the code meets.
use Rattle.std.proofs.Common.{◌≡◌, ℕ, List, [], ◌∷◌, ◌++◌, map, flat_map, refl, sym, ap, ◌∙◌, Vec, Box, Global}
use Rattle.bg_text.specs.declared.tree.TreeType.{TreeType}
use Rattle.bg_text.specs.declared.tree.TreeType.TheVariants as type
use Rattle.bg_text.specs.declared.tree.TypeBracket.{TypeBracket}
use Rattle.bg_text.specs.Views as v
use Rattle.bg_text.proofs.Lists as w
use Rattle.bg_ast.specs.declared.resolved.WrittenType.{WrittenType}
use Rattle.bg_ast.specs.declared.resolved.WrittenType.TheVariants as made
use Rattle.bg_ast.specs.declared.resolved.IndexTypes.{IndexTypes}
use Rattle.bg_ast.specs.Resolved as r
use Rattle.bg_ast.specs.Views as u
use Rattle.bg_ast.proofs.Lists as z
use Rattle.bg_names.proofs.Firsts.{better_append}
use Rattle.bg_names.proofs.Forms.{both}
use Rattle.bg_names.specs.Exprs.{named_ty, named_tys, named_indices, ty_faults, tys_faults, indices_faults}
use Rattle.bg_names.specs.Views.{named_type, type_faults, named_type_bracket, bracket_type_faults}

module _ (s : List (List ℕ)) where
  pub named_tys-of : (es : List TreeType) → named_tys s (v.tys_of (map v.type_of es)) ≡ u.tys_of (map (named_type s) es)
  named_tys-of [] = refl
  named_tys-of (e ∷ es) = ap (r.OneType (named_type s e)) (named_tys-of es)

  pub tys_faults-of : (es : List TreeType) → tys_faults s (v.tys_of (map v.type_of es)) ≡ flat_map (type_faults s) es
  tys_faults-of [] = refl
  tys_faults-of (e ∷ es) = ap (λ l. type_faults s e ++ l) (tys_faults-of es)

  pub named_indices-of : (bs : List TypeBracket) → named_indices s (v.indexed_of (map v.index_view bs)) ≡ u.indexed_of (map (named_type_bracket s) bs)
  named_indices-of [] = refl
  named_indices-of (b ∷ bs) = let w = named_type_bracket s b in ap (r.Index w.0 w.1) (named_indices-of bs)

  pub indices_faults-of : (bs : List TypeBracket) → indices_faults s (v.indexed_of (map v.index_view bs)) ≡ flat_map (bracket_type_faults s) bs
  indices_faults-of [] = refl
  indices_faults-of (b ∷ bs) = ap (λ l. bracket_type_faults s b ++ l) (indices_faults-of bs)

  pub type-Map : (bs : Vec TypeBracket Global) (e : Box TreeType Global) (ms : Vec IndexTypes Global) (x : Box WrittenType Global) → map u.index_view ms.items ≡ map (named_type_bracket s) bs.items → u.type_of x.value ≡ named_type s e.value → u.type_of (made.Map ms x) ≡ named_type s (type.Map bs e)
  type-Map bs e ms x k h =
      z.type_of-Map ms x
      ∙ both r.MapType (ap u.indexed_of k ∙ sym (named_indices-of bs.items)) h
      ∙ sym (ap (named_ty s) (w.type_of-Map bs e))

  pub faults-Map : (bs : Vec TypeBracket Global) (e : Box TreeType Global) → type_faults s (type.Map bs e) ≡ flat_map (bracket_type_faults s) bs.items ++ type_faults s e.value
  faults-Map bs e = ap (ty_faults s) (w.type_of-Map bs e) ∙ ap (λ l. l ++ type_faults s e.value) (indices_faults-of bs.items)

pub ruleset forms = (named_tys-of, tys_faults-of, type-Map, faults-Map, better_append)

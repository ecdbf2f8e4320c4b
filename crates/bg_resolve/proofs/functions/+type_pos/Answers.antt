use Rattle.std.proofs.Common.{◌≡◌, List, [], ◌∷◌, map, Some, None, slice_get, refl, ap, ◌∙◌}
use Rattle.bg_text.specs.declared.tree.TypeBracket.{TypeBracket}
use Rattle.bg_text.specs.Trees as t
use Rattle.bg_text.specs.Views as v
use Rattle.bg_text.proofs.Lists.{type_of-Map}
use Rattle.bg_resolve.specs.Program.{type_pos}
use Rattle.bg_resolve.proofs.functions.+type_pos.Goals as goal

at_bracket : (bs : List TypeBracket) (e : t.Ty) (b : TypeBracket) → Some b ≡ slice_get bs 0 → b.pos ≡ type_pos (t.MapType (v.indexed_of (map v.index_view bs)) e)
at_bracket [] e b h = let bad : Some b ≡ None = h in cc
at_bracket (x ∷ xs) e b h =
    let same : Some b ≡ Some x = h in
    let is : b ≡ x = cc in
    ap (λ (z : TypeBracket). z.pos) is

no_bracket : (bs : List TypeBracket) (e : t.Ty) → None ≡ slice_get bs 0 → type_pos e ≡ type_pos (t.MapType (v.indexed_of (map v.index_view bs)) e)
no_bracket [] e h = refl
no_bracket (x ∷ xs) e h = let bad : None ≡ Some x = h in cc

pub returns-in-Some : goal.returns-in-Some
returns-in-Some t c =
    rw (c.in-Map.is, type_of-Map c.in-Map.brackets c.in-Map.e) (at_bracket c.in-Map.brackets.items (v.type_of c.in-Map.e.value) c.in-Some.b.now (rw c.deref.ensures.value at c.in-Some.ensures.value))

pub returns-in-None : goal.returns-in-None
returns-in-None t c =
    let none = no_bracket c.in-Map.brackets.items (v.type_of c.in-Map.e.value) (rw c.deref.ensures.value at c.in-None.ensures.value) in
    rw (c.in-Map.is, type_of-Map c.in-Map.brackets c.in-Map.e) (rw c.deref-in-None.ensures at c.type_pos.ensures ∙ none)

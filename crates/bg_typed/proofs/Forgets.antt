-- What the meaning doesn't show.
use Rattle.std.proofs.Common.{◌≡◌, ℕ, List, [], ◌∷◌, refl}
use Rattle.bg_base.specs.declared.pos.Pos.{Pos}
use Rattle.bg_ast.specs.Values as v
use Rattle.bg_ast.specs.Resolved as r
use Rattle.bg_ast.specs.Meaning.{type_in, impl_of, st_of}
use Rattle.bg_typed.specs.Rules.{HasIndices, IsEven}

pub right_sides : (p : Pos) (t : r.Target) (a b : r.Ex) → (st_of (r.Assign p (t ∷ []) (r.More a (r.More b r.NoMore))) ≡ st_of (r.Assign p (t ∷ []) (r.More a r.NoMore))) × (IsEven (r.Assign p (t ∷ []) (r.More a (r.More b r.NoMore))) → ⊥)
right_sides p t a b = (refl, λ e. let bad : ⊥ = cc in bad)

pub index_types : (named : ℕ → v.Ty) (p : Pos) (t : r.Ty) → (type_in named (r.MapType (r.Index p (r.OneType (r.BoolType p) r.NoType) r.NoIndex) t) ≡ type_in named (r.MapType (r.Index p (r.OneType (r.IntType p) r.NoType) r.NoIndex) t)) × (HasIndices named (r.MapType (r.Index p (r.OneType (r.BoolType p) r.NoType) r.NoIndex) t) → ⊥)
index_types named p t = (refl, λ h. h.0.0.1)

pub own_names : (named : ℕ → v.Ty) (m : r.Impl) (ds es : List r.Declared) → impl_of named (record m { params = ds; results = es }) ≡ impl_of named m
own_names named m ds es = refl

-- Terms that are typed.
use Rattle.std.specs.Prelude.{◌≡◌, ℕ, List, [], ◌∷◌, ◌++◌, map, Some, slice_get}
use Rattle.bg_ast.specs.Values.{Ty, MapTy, KeyType}
use Rattle.bg_ast.specs.Syntax.{Exs, NoMore, More, Fun}
use Rattle.bg_sense.specs.Typing.{Sig, key_ty}
use Rattle.bg_terms.specs.Terms.{Head, Applies, Selects, Updates, Differs, Term}
use Rattle.bg_terms.specs.Alike.{HasFlatType}

abbrev pub HaveFlatTypes : List Ty → Exs → List Ty → Type 0
HaveFlatTypes tys NoMore ts = ts ≡ []
HaveFlatTypes tys (More x xs) [] = ⊥
HaveFlatTypes tys (More x xs) (t ∷ ts) = HasFlatType tys x t × HaveFlatTypes tys xs ts

-- what a head makes of these arguments has this type
abbrev pub HeadHasType : List Fun → List Ty → Head → Exs → Ty → Type 0
HeadHasType functions tys (Applies f) xs t =
    (fn : Fun) × ((slice_get functions f ≡ Some fn) × ((t ≡ fn.result) × HaveFlatTypes tys xs fn.params))
HeadHasType functions tys (Selects ks u) xs t = (t ≡ u) × HaveFlatTypes tys xs (MapTy ks u ∷ map key_ty ks)
HeadHasType functions tys (Updates ks u) xs t =
    (t ≡ MapTy ks u) × HaveFlatTypes tys xs (MapTy ks u ∷ u ∷ map key_ty ks)
HeadHasType functions tys (Differs ks u j) xs t =
    (k : KeyType) × ((slice_get ks j ≡ Some k) × ((t ≡ key_ty k) × HaveFlatTypes tys xs (MapTy ks u ∷ MapTy ks u ∷ [])))

abbrev pub type_of : Term → Ty
type_of t = t.ty

-- the types of incarnations and terms
abbrev pub types_with : List Ty → List Term → List Ty
types_with incs ts = incs ++ map type_of ts

-- each term has its type
abbrev pub TermsTyped : List Fun → List Ty → List Term → Type 0
TermsTyped functions incs ts =
    (a : ℕ) (t : Term) → slice_get ts a ≡ Some t → HeadHasType functions (types_with incs ts) t.head t.args t.ty

-- what names mean where the frame has these types, and there are no globals
abbrev pub sig_with : List Ty → List Fun → List Ty → Sig
sig_with constants functions frame =
    record { constants = constants; functions = functions; globals = []; frame = frame }

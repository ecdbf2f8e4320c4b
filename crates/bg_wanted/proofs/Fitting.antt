-- Maps and terms of which a select comes in.
use Rattle.std.proofs.Common.{◌≡◌, ℕ, ◌+◌, true, false, List, [], ◌∷◌, length, map, Some, None, refl, sym, ap, ◌∙◌, subst, inl, inr}
use Rattle.std.specs.Prelude.{slice_get, ◌⊎◌}
use Rattle.bg_ast.specs.Values.{Ty, MapTy, KeyType}
use Rattle.bg_ast.specs.Syntax.{Ex, Exs, Number, Fact, Constant, Read, Local, Global, Not, Negative, Binary, Apply, Select, Update, Old, NoMore, More, Fun}
use Rattle.bg_sense.specs.Types.{key_types_eq, ty_eq}
use Rattle.bg_sense.specs.Typing.{key_ty}
use Rattle.bg_sense.proofs.Bools.{and_left}
use Rattle.bg_terms.specs.Terms.{Head, Selects, Updates, Term}
use Rattle.bg_terms.specs.Alike.{HasFlatType}
use Rattle.bg_terms.specs.Typed.{HaveFlatTypes, HeadHasType, type_of, types_with, TermsTyped}
use Rattle.bg_terms.proofs.Heads.{kinds_refl}
use Rattle.bg_terms.proofs.Typed.{at_back, at_map}
use Rattle.bg_numbered.specs.Lines.{has_index, HaveIndices, select_from, behind_map, behind_value, if_fits, is_any, pick_at, pick_by}
use Rattle.bg_ast.specs.declared.resolved.Expr.{Expr}
use Rattle.bg_term_table.specs.Views.{meanings, listed}
use Rattle.bg_term_table.specs.Locals.{local_in}
use Rattle.bg_wanted.specs.Telling.{Fits}
use Rattle.bg_wanted.specs.Asked.{first_local, map_read_in}

keys_refl : (ks : List KeyType) (t : Ty) → key_types_eq ks ks ≡ true
keys_refl ks t = and_left (key_types_eq ks ks) (ty_eq t t) (kinds_refl ks t)

fits_any : (ks : List KeyType) (t : Ty) (m : ℕ) (h : Head) (xs : Exs) → (h ≡ Selects ks t) ⊎ (h ≡ Updates ks t) → is_any (pick_at ks t m h xs) ≡ true
fits_any ks t m h xs (inl e) =
    ap (λ k. is_any (pick_at ks t m k xs)) e
    ∙ ap (λ c. is_any (if_fits c (select_from ks t m (behind_map xs)))) (keys_refl ks t)
fits_any ks t m h xs (inr e) =
    ap (λ k. is_any (pick_at ks t m k xs)) e
    ∙ ap (λ c. is_any (if_fits c (select_from ks t m (behind_value xs)))) (keys_refl ks t)

module _ (fs : List Fun) (incs : List Ty) (ts : List Term) (terms : TermsTyped fs incs ts) (indexed : HaveIndices ts) where
  some_index : (a : ℕ) (b : Term) (t : Ty) → slice_get ts a ≡ Some b → (b.head ≡ Selects [] t) ⊎ (b.head ≡ Updates [] t) → ⊥
  some_index a b t e (inl h) = let bad : false ≡ true = sym (ap has_index h) ∙ indexed a b e in let no : ⊥ = cc in no
  some_index a b t e (inr h) = let bad : false ≡ true = sym (ap has_index h) ∙ indexed a b e in let no : ⊥ = cc in no

  pub fits : (m a : ℕ) (b : Term) (ks : List KeyType) (t : Ty) → slice_get (types_with incs ts) m ≡ Some (MapTy ks t) → slice_get ts a ≡ Some b → (b.head ≡ Selects ks t) ⊎ (b.head ≡ Updates ks t) → Fits incs ts m a
  fits m a b [] t e f h = absurd (some_index a b t f h)
  fits m a b (k ∷ ks) t e f h =
      ap (λ o. is_any (pick_by o m (slice_get ts a))) e
      ∙ (ap (λ o. is_any (pick_by (Some (MapTy (k ∷ ks) t)) m o)) f ∙ fits_any (k ∷ ks) t m b.head b.args h)

  term_type : (a : ℕ) (u : Term) → slice_get ts a ≡ Some u → slice_get (types_with incs ts) (length incs + a) ≡ Some u.ty
  term_type a u e =
      at_back incs (map type_of ts) a (length incs) refl ∙ at_map type_of ts a u e

  read_type : (x : Ex) (t : Ty) (j : ℕ) → local_in x ≡ Some j → HasFlatType (types_with incs ts) x t → slice_get (types_with incs ts) j ≡ Some t
  read_type (Read (Local i)) t j e h =
      let same : i ≡ j = cc in ap (slice_get (types_with incs ts)) (sym same) ∙ h
  read_type (Read (Global i)) t j e h = absurd (let bad : ⊥ = cc in bad)
  read_type (Number z) t j e h = absurd (let bad : ⊥ = cc in bad)
  read_type (Fact b) t j e h = absurd (let bad : ⊥ = cc in bad)
  read_type (Constant k) t j e h = absurd (let bad : ⊥ = cc in bad)
  read_type (Not y) t j e h = absurd (let bad : ⊥ = cc in bad)
  read_type (Negative y) t j e h = absurd (let bad : ⊥ = cc in bad)
  read_type (Binary o y z) t j e h = absurd (let bad : ⊥ = cc in bad)
  read_type (Apply f es) t j e h = absurd (let bad : ⊥ = cc in bad)
  read_type (Select y es) t j e h = absurd (let bad : ⊥ = cc in bad)
  read_type (Update y es z) t j e h = absurd (let bad : ⊥ = cc in bad)
  read_type (Old y) t j e h = absurd (let bad : ⊥ = cc in bad)

  -- the type of the map of an update
  map_type : (xs : Exs) (ks : List KeyType) (t : Ty) (j : ℕ) → first_local xs ≡ Some j → HaveFlatTypes (types_with incs ts) xs (MapTy ks t ∷ t ∷ map key_ty ks) → slice_get (types_with incs ts) j ≡ Some (MapTy ks t)
  map_type NoMore ks t j e h = absurd (let bad : ⊥ = cc in bad)
  map_type (More x xs) ks t j e h = read_type x (MapTy ks t) j e h.0

  module _ (u : ℕ) (x : Term) (ks : List KeyType) (t : Ty) (e : slice_get ts u ≡ Some x) (h : x.head ≡ Updates ks t) where
    typed : (x.ty ≡ MapTy ks t) × HaveFlatTypes (types_with incs ts) x.args (MapTy ks t ∷ t ∷ map key_ty ks)
    typed = subst (λ k. HeadHasType fs (types_with incs ts) k x.args x.ty) h (terms u x e)

    update_type : slice_get (types_with incs ts) (length incs + u) ≡ Some (MapTy ks t)
    update_type = term_type u x e ∙ ap (λ z. Some z) typed.0

    -- an update has a select at its own index
    pub own_fits : Fits incs ts (length incs + u) u
    own_fits = fits (length incs + u) u x ks t update_type e (inr h)

    module _ (a : ℕ) (b : Term) (f : slice_get ts a ≡ Some b) (k : b.head ≡ Selects ks t) where
      -- it and its map have one at the index of a select of maps of its type
      pub update_fits : Fits incs ts (length incs + u) a
      update_fits = fits (length incs + u) a b ks t update_type f (inl k)

      pub map_fits : (m : ℕ) → map_read_in (slice_get ts u) ≡ Some m → Fits incs ts m a
      map_fits m q =
          fits m a b ks t (map_type x.args ks t m (sym (ap map_read_in e) ∙ q) typed.1) f (inl k)

pub none_read : (args : List Expr) → length args ≡ 0 → None ≡ first_local (listed (meanings args))
none_read [] h = refl
none_read (x ∷ args) h = absurd (let bad : ⊥ = cc in bad)

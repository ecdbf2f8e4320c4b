-- Typed terms over whole numbers and truth values lack nothing.
use Rattle.std.proofs.Common.{◌≡◌, ℕ, zero, suc, ◌+◌, Bool, true, false, List, [], ◌∷◌, length, map, drop, Some, None, refl, sym, ap, ◌∙◌, arith, ⊎_elim}
use Rattle.std.specs.Prelude.{slice_get, ◌||◌}
use Rattle.bg_ast.specs.Values.{Val, Num, Truth, Element, Default, Entry, Ty, IntTy, BoolTy, UserTy, MapTy, is_of}
use Rattle.bg_ast.specs.Syntax.{Ex, Exs, Number, Fact, Constant, Read, Local, Global, Not, Negative, Binary, And, Or, Implies, Iff, Equal, Unequal, Less, AtMost, Greater, AtLeast, Plus, Minus, Times, Apply, Select, Update, Old, NoMore, More, Fun, Op}
use Rattle.bg_sense.specs.Types.{are_of}
use Rattle.bg_sense.specs.Typing.{Sig, HasType, HaveTypes, OpHasType, key_ty}
use Rattle.bg_sense.proofs.Bools.{and_left, and_right, both}
use Rattle.bg_terms.specs.Terms.{Head, Applies, Selects, Updates, Differs, Term}
use Rattle.bg_terms.specs.Alike.{HasFlatType, scalar_ty}
use Rattle.bg_terms.specs.Typed.{HaveFlatTypes, HeadHasType, TermsTyped, type_of, types_with, sig_with}
use Rattle.bg_terms.proofs.Typed.{at_back, at_map}
use Rattle.bg_scalar.specs.declared.scalar.Scalar.{Scalar}
use Rattle.bg_scalar.specs.Worths.{Listed, Are, Leave, NoValues, worths, is_table}
use Rattle.bg_scalar.specs.Values.{val_of}
use Rattle.bg_wanted.specs.Scalars.{scalars_in, has_table}
use Rattle.bg_scalar.specs.Typed.{is_valued, are_valued, Sees, HaveWorths}
use Rattle.bg_scalar.proofs.Typing.{have_worths}
use Rattle.bg_wanted.specs.Rows.{LacksOne, have_none, seen_at}

-- ---- flat expressions are over scalars

module _ (tys : List Ty) where
  op_scalar : (o : Op) (A B : Ty → Type 0) (a b : Ex) (t : Ty) → ((u : Ty) → A u → is_valued a ≡ true) → ((u : Ty) → B u → is_valued b ≡ true) → OpHasType o A B t → is_valued (Binary o a b) ≡ true
  op_scalar And A B a b t f g h = both (is_valued a) (is_valued b) (f BoolTy h.1) (g BoolTy h.2)
  op_scalar Or A B a b t f g h = both (is_valued a) (is_valued b) (f BoolTy h.1) (g BoolTy h.2)
  op_scalar Implies A B a b t f g h = both (is_valued a) (is_valued b) (f BoolTy h.1) (g BoolTy h.2)
  op_scalar Iff A B a b t f g h = both (is_valued a) (is_valued b) (f BoolTy h.1) (g BoolTy h.2)
  op_scalar Equal A B a b t f g h = both (is_valued a) (is_valued b) (f h.1.0 h.1.1) (g h.1.0 h.1.2)
  op_scalar Unequal A B a b t f g h = both (is_valued a) (is_valued b) (f h.1.0 h.1.1) (g h.1.0 h.1.2)
  op_scalar Less A B a b t f g h = both (is_valued a) (is_valued b) (f IntTy h.1) (g IntTy h.2)
  op_scalar AtMost A B a b t f g h = both (is_valued a) (is_valued b) (f IntTy h.1) (g IntTy h.2)
  op_scalar Greater A B a b t f g h = both (is_valued a) (is_valued b) (f IntTy h.1) (g IntTy h.2)
  op_scalar AtLeast A B a b t f g h = both (is_valued a) (is_valued b) (f IntTy h.1) (g IntTy h.2)
  op_scalar Plus A B a b t f g h = both (is_valued a) (is_valued b) (f IntTy h.1) (g IntTy h.2)
  op_scalar Minus A B a b t f g h = both (is_valued a) (is_valued b) (f IntTy h.1) (g IntTy h.2)
  op_scalar Times A B a b t f g h = both (is_valued a) (is_valued b) (f IntTy h.1) (g IntTy h.2)

  flat_scalar : (x : Ex) (t : Ty) → HasFlatType tys x t → is_valued x ≡ true
  flat_scalar (Number z) t h = refl
  flat_scalar (Fact b) t h = refl
  flat_scalar (Constant k) t h = absurd h
  flat_scalar (Read (Local j)) t h = refl
  flat_scalar (Read (Global j)) t h = absurd h
  flat_scalar (Not x) t h = flat_scalar x BoolTy h.1
  flat_scalar (Negative x) t h = flat_scalar x IntTy h.1
  flat_scalar (Binary o a b) t h =
      op_scalar o (HasFlatType tys a) (HasFlatType tys b) a b t (flat_scalar a) (flat_scalar b) h
  flat_scalar (Apply f es) t h = absurd h
  flat_scalar (Select m es) t h = absurd h
  flat_scalar (Update m es e) t h = absurd h
  flat_scalar (Old x) t h = absurd h

  abbrev here : Sig
  here = sig_with [] [] (map scalar_ty tys)

  -- and have types of scalars over scalars of these types

  op_typed : (o : Op) (A B C D : Ty → Type 0) (t : Ty) → ((u : Ty) → A u → C (scalar_ty u)) → ((u : Ty) → B u → D (scalar_ty u)) → OpHasType o A B t → OpHasType o C D (scalar_ty t)
  op_typed And A B C D t f g h = (ap scalar_ty h.0, f BoolTy h.1, g BoolTy h.2)
  op_typed Or A B C D t f g h = (ap scalar_ty h.0, f BoolTy h.1, g BoolTy h.2)
  op_typed Implies A B C D t f g h = (ap scalar_ty h.0, f BoolTy h.1, g BoolTy h.2)
  op_typed Iff A B C D t f g h = (ap scalar_ty h.0, f BoolTy h.1, g BoolTy h.2)
  op_typed Equal A B C D t f g h = (ap scalar_ty h.0, (scalar_ty h.1.0, f h.1.0 h.1.1, g h.1.0 h.1.2))
  op_typed Unequal A B C D t f g h = (ap scalar_ty h.0, (scalar_ty h.1.0, f h.1.0 h.1.1, g h.1.0 h.1.2))
  op_typed Less A B C D t f g h = (ap scalar_ty h.0, f IntTy h.1, g IntTy h.2)
  op_typed AtMost A B C D t f g h = (ap scalar_ty h.0, f IntTy h.1, g IntTy h.2)
  op_typed Greater A B C D t f g h = (ap scalar_ty h.0, f IntTy h.1, g IntTy h.2)
  op_typed AtLeast A B C D t f g h = (ap scalar_ty h.0, f IntTy h.1, g IntTy h.2)
  op_typed Plus A B C D t f g h = (ap scalar_ty h.0, f IntTy h.1, g IntTy h.2)
  op_typed Minus A B C D t f g h = (ap scalar_ty h.0, f IntTy h.1, g IntTy h.2)
  op_typed Times A B C D t f g h = (ap scalar_ty h.0, f IntTy h.1, g IntTy h.2)

  read_typed : (us : List Ty) (j : ℕ) (t : Ty) → slice_get us j ≡ Some t → slice_get (map scalar_ty us) j ≡ Some (scalar_ty t)
  read_typed [] j t e = absurd (let bad : ⊥ = cc in bad)
  read_typed (u ∷ us) zero t e = let same : u ≡ t = cc in ap (λ v. Some (scalar_ty v)) same
  read_typed (u ∷ us) (suc j) t e = read_typed us j t e

  flat_typed : (x : Ex) (t : Ty) → HasFlatType tys x t → HasType x here (scalar_ty t)
  flat_typed (Number z) t h = ap scalar_ty h
  flat_typed (Fact b) t h = ap scalar_ty h
  flat_typed (Constant k) t h = absurd h
  flat_typed (Read (Local j)) t h = read_typed tys j t h
  flat_typed (Read (Global j)) t h = absurd h
  flat_typed (Not x) t h = (ap scalar_ty h.0, flat_typed x BoolTy h.1)
  flat_typed (Negative x) t h = (ap scalar_ty h.0, flat_typed x IntTy h.1)
  flat_typed (Binary o a b) t h =
      op_typed o (HasFlatType tys a) (HasFlatType tys b) (HasType a here) (HasType b here) t (flat_typed a) (flat_typed b) h
  flat_typed (Apply f es) t h = absurd h
  flat_typed (Select m es) t h = absurd h
  flat_typed (Update m es e) t h = absurd h
  flat_typed (Old x) t h = absurd h

  flats_scalar : (xs : Exs) (ps : List Ty) → HaveFlatTypes tys xs ps → are_valued xs ≡ true
  flats_scalar NoMore ps h = refl
  flats_scalar (More x xs) [] h = absurd h
  flats_scalar (More x xs) (p ∷ ps) h = both (is_valued x) (are_valued xs) (flat_scalar x p h.0) (flats_scalar xs ps h.1)

  flats_typed : (xs : Exs) (ps : List Ty) → HaveFlatTypes tys xs ps → HaveTypes xs here (map scalar_ty ps)
  flats_typed NoMore ps h = ap (map scalar_ty) h
  flats_typed (More x xs) [] h = absurd h
  flats_typed (More x xs) (p ∷ ps) h = (flat_typed x p h.0, flats_typed xs ps h.1)

-- arguments of a typed term have types
pub args_types : (fs : List Fun) (tys : List Ty) (h : Head) (xs : Exs) (t : Ty) → HeadHasType fs tys h xs t → (ps : List Ty) × HaveFlatTypes tys xs ps
args_types fs tys (Applies f) xs t h = (h.0.params, h.1.1.1)
args_types fs tys (Selects ks u) xs t h = (MapTy ks u ∷ map key_ty ks, h.1)
args_types fs tys (Updates ks u) xs t h = (MapTy ks u ∷ u ∷ map key_ty ks, h.1)
args_types fs tys (Differs ks u j) xs t h = (MapTy ks u ∷ MapTy ks u ∷ [], h.1.1.1)

value_missing : (tys : List Ty) (values : List Scalar) (j : ℕ) (t : Ty) → are_of (map scalar_ty tys) (map val_of values) ≡ true → slice_get tys j ≡ Some t → slice_get values j ≡ None → ⊥
value_missing [] values j t h e f = let bad : ⊥ = cc in bad
value_missing (u ∷ tys) [] j t h e f = let bad : ⊥ = cc in bad
value_missing (u ∷ tys) (x ∷ values) zero t h e f = let bad : ⊥ = cc in bad
value_missing (u ∷ tys) (x ∷ values) (suc j) t h e f = value_missing tys values j t (and_right (is_of (scalar_ty u) (val_of x)) (are_of (map scalar_ty tys) (map val_of values)) h) e f

drop_missing : (values : List Scalar) (n a : ℕ) → slice_get (drop n values) a ≡ None → slice_get values (n + a) ≡ None
drop_missing values zero a e = ap (slice_get values) (let q : 0 + a ≡ a = omega arith in q) ∙ e
drop_missing [] (suc n) a e = refl
drop_missing (v ∷ vs) (suc n) a e = ap (slice_get (v ∷ vs)) (let q : suc n + a ≡ suc (n + a) = omega arith in q) ∙ drop_missing vs n a e

-- what is typed over numbers and truth values is no map

no_map : (t : Ty) (v : Val) → is_of (scalar_ty t) v ≡ true → is_table v ≡ true → ⊥
no_map t (Num z) h e = let bad : ⊥ = cc in bad
no_map t (Truth b) h e = let bad : ⊥ = cc in bad
no_map t (Element u z) h e = let bad : ⊥ = cc in bad
no_map IntTy (Default d) h e = let bad : ⊥ = cc in bad
no_map BoolTy (Default d) h e = let bad : ⊥ = cc in bad
no_map (UserTy u) (Default d) h e = let bad : ⊥ = cc in bad
no_map (MapTy ks t) (Default d) h e = let bad : ⊥ = cc in bad
no_map IntTy (Entry k v m) h e = let bad : ⊥ = cc in bad
no_map BoolTy (Entry k v m) h e = let bad : ⊥ = cc in bad
no_map (UserTy u) (Entry k v m) h e = let bad : ⊥ = cc in bad
no_map (MapTy ks t) (Entry k v m) h e = let bad : ⊥ = cc in bad

no_maps : (ps : List Ty) (vs : List Val) → are_of (map scalar_ty ps) vs ≡ true → has_table vs ≡ true → ⊥
no_maps ps [] h e = let bad : ⊥ = cc in bad
no_maps [] (v ∷ vs) h e = let bad : ⊥ = cc in bad
no_maps (p ∷ ps) (v ∷ vs) h e =
    on (is_table v) refl e (no_maps ps vs (and_right (is_of (scalar_ty p) v) (are_of (map scalar_ty ps) vs) h))
  where
    on : (c : Bool) → is_table v ≡ c → (c || has_table vs) ≡ true → (has_table vs ≡ true → ⊥) → ⊥
    on true q f rest = no_map p v (and_left (is_of (scalar_ty p) v) (are_of (map scalar_ty ps) vs) h) q
    on false q f rest = rest f

none_there : (ps : List Ty) (l : Listed) → have_none l ≡ true → HaveWorths (map scalar_ty ps) l → ⊥
none_there ps (Are vs) e h = no_maps ps vs h e
none_there ps (Leave o) e h = let bad : ⊥ = cc in bad
none_there ps NoValues e h = h

pub nothing_lacks : (fs : List Fun) (incs : List Ty) (ts : List Term) (values : List Scalar) (n : ℕ) → length incs ≡ n → TermsTyped fs incs ts → are_of (map scalar_ty (types_with incs ts)) (scalars_in values) ≡ true → LacksOne values n ts → ⊥
nothing_lacks fs incs ts values n count terms scalars l = ⊎_elim no_scalar missing l.lacks
  where
    missing : slice_get (drop n values) l.number ≡ None → ⊥
    missing e =
        value_missing (types_with incs ts) values (n + l.number) l.term.ty scalars (at_back incs (map type_of ts) l.number n (sym count) ∙ at_map type_of ts l.number l.term l.is_there) (drop_missing values n l.number e)

    sees : Sees (sig_with [] [] (map scalar_ty (types_with incs ts))) (seen_at (scalars_in values))
    sees = record { tables = λ f fn args e. absurd (let bad : ⊥ = cc in bad); globals = refl; before = refl; frame = scalars }

    no_scalar : have_none (worths l.term.args (seen_at (scalars_in values))) ≡ true → ⊥
    no_scalar e =
        let p = args_types fs (types_with incs ts) l.term.head l.term.args l.term.ty (terms l.number l.term l.is_there) in
        none_there p.0 (worths l.term.args (seen_at (scalars_in values))) e (have_worths l.term.args (seen_at (scalars_in values)) (sig_with [] [] (map scalar_ty (types_with incs ts))) (map scalar_ty p.0) (flats_scalar (types_with incs ts) l.term.args p.0 p.1) (flats_typed (types_with incs ts) l.term.args p.0 p.1) sees)

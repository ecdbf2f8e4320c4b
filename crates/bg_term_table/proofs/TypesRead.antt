-- Types of what is read, of heads, and of maps.
use Rattle.std.proofs.Common.{◌≡◌, ℕ, zero, suc, ◌-◌, ◌<◌, ◌≤◌, List, [], ◌∷◌, ◌++◌, length, get_or, map, Option, Some, None, refl, sym, ap, ◌∙◌, arith}
use Rattle.std.specs.Prelude.{slice_get}
use Rattle.std.specs.Option.{option_map}
use Rattle.std.proofs.lemmas.Option.{slice_get-map, slice_get_past, slice_get_read}
use Rattle.bg_ast.specs.Values.{Ty, IntTy, MapTy, result_of}
use Rattle.bg_ast.specs.Syntax.{Ex, Number, Fact, Constant, Read, Global, Local, Not, Negative, Binary, Apply, Select, Update, Old, Fun}
use Rattle.bg_kinds.specs.declared.kinds.Base.{Base}
use Rattle.bg_kinds.specs.declared.kinds.Base.TheVariants as base
use Rattle.bg_kinds.specs.declared.kinds.Keys.{Keys}
use Rattle.bg_kinds.specs.declared.kinds.ValueType.{ValueType}
use Rattle.bg_kinds.specs.Views.{base_of, keys_of, ref_in, tower}
use Rattle.bg_terms.specs.Terms.{Applies}
use Rattle.bg_terms.specs.Typed.{types_with}
use Rattle.bg_numbered.specs.Put.{head_ty, keys_in, result_or, ty_or, type_at}
use Rattle.bg_term_table.specs.declared.table.Term as kept
use Rattle.bg_term_table.specs.Views.{head_of, result_ty, terms_in}
use Rattle.bg_term_table.specs.Locals.{local_in}

pub missing : {A B : Type 0} (f : A → B) (xs : List A) (i : ℕ) → length xs ≤ i → slice_get (map f xs) i ≡ None
missing f xs i h = slice_get-map f xs i ∙ ap (option_map f) (slice_get_past xs i h)

pub there : {A B : Type 0} (f : A → B) (xs : List A) (i : ℕ) (x : A) → i < length xs → x ≡ get_or xs i x → slice_get (map f xs) i ≡ Some (f x)
there f xs i x h e = slice_get-map f xs i ∙ ap (option_map f) (slice_get_read xs (length xs) i x refl h e)

-- ---- incarnations and terms

pub in_front : {A : Type 0} (xs ys : List A) (j : ℕ) → j < length xs → slice_get (xs ++ ys) j ≡ slice_get xs j
in_front [] ys j h = absurd (omega (arith, h))
in_front (x ∷ xs) ys zero h = refl
in_front (x ∷ xs) ys (suc j) h = in_front xs ys j (omega (arith, h))

pub behind_all : {A : Type 0} (xs ys : List A) (i j : ℕ) → length xs ≤ j → i ≡ j - length xs → slice_get (xs ++ ys) j ≡ slice_get ys i
behind_all [] ys i j h e = let same : j ≡ i = omega (arith, e) in ap (slice_get ys) same
behind_all (x ∷ xs) ys i zero h e = absurd (omega (arith, h))
behind_all (x ∷ xs) ys i (suc j) h e = behind_all xs ys i j (omega (arith, h)) (omega (arith, e))

module _ (fs : List Fun) where
  result_by : (o : Option Fun) → ty_or (option_map result_ty o) ≡ result_or o
  result_by None = refl
  result_by (Some f) = refl

  -- the type of what a function gives
  pub result_at : (results : List ValueType) (f : ℕ) → map ref_in results ≡ map result_ty fs → ty_or (slice_get (map ref_in results) f) ≡ head_ty fs (Applies f)
  result_at results f h =
      ap (λ ts. ty_or (slice_get ts f)) h ∙ (ap ty_or (slice_get-map result_ty fs f) ∙ result_by (slice_get fs f))

  module _ (incs : List Ty) (ts : List kept.Term) where
    abbrev all : List Ty
    all = types_with incs (terms_in fs ts)

    abbrev type_in : kept.Term → Ty
    type_in t = head_ty fs (head_of t.head)

    types_are : (us : List kept.Term) → map (λ t. t.ty) (terms_in fs us) ≡ map type_in us
    types_are [] = refl
    types_are (u ∷ us) = ap (λ tys. type_in u ∷ tys) (types_are us)

    pub inc_at : (j : ℕ) → j < length incs → ty_or (slice_get all j) ≡ ty_or (slice_get incs j)
    inc_at j h = ap ty_or (in_front incs _ j h)

    pub term_missing : (i j : ℕ) → length incs ≤ j → i ≡ j - length incs → length ts ≤ i → IntTy ≡ ty_or (slice_get all j)
    term_missing i j h e past =
        sym (ap ty_or (behind_all incs _ i j h e ∙ (ap (λ tys. slice_get tys i) (types_are ts) ∙ missing type_in ts i past)))

    pub term_there : (i j : ℕ) (t : kept.Term) → length incs ≤ j → i ≡ j - length incs → i < length ts → t ≡ get_or ts i t → type_in t ≡ ty_or (slice_get all j)
    term_there i j t h e less is =
        sym (ap ty_or (behind_all incs _ i j h e ∙ (ap (λ tys. slice_get tys i) (types_are ts) ∙ there type_in ts i t less is)))

-- ---- what is read

abbrev pub at_local : List Ty → Option ℕ → Ty
at_local tys None = IntTy
at_local tys (Some j) = ty_or (slice_get tys j)

pub local_type : (tys : List Ty) (e : Ex) → at_local tys (local_in e) ≡ type_at tys e
local_type tys (Number z) = refl
local_type tys (Fact b) = refl
local_type tys (Constant k) = refl
local_type tys (Read (Global x)) = refl
local_type tys (Read (Local x)) = refl
local_type tys (Not e) = refl
local_type tys (Negative e) = refl
local_type tys (Binary op a b) = refl
local_type tys (Apply f es) = refl
local_type tys (Select m es) = refl
local_type tys (Update m es v) = refl
local_type tys (Old e) = refl

-- ---- maps

no_keys : (b : Base) → keys_in (base_of b) ≡ []
no_keys base.Int = refl
no_keys base.Bool = refl
no_keys (base.User u) = refl

gives_itself : (b : Base) → result_of (base_of b) ≡ base_of b
gives_itself base.Int = refl
gives_itself base.Bool = refl
gives_itself (base.User u) = refl

pub keys_without : (ms : List Keys) (b : Base) → ms ≡ [] → keys_in (tower ms (base_of b)) ≡ []
keys_without ms b h = ap (λ l. keys_in (tower l (base_of b))) h ∙ no_keys b

pub gives_without : (ms : List Keys) (b : Base) → ms ≡ [] → result_of (tower ms (base_of b)) ≡ tower ms (base_of b)
gives_without ms b h =
    ap (λ l. result_of (tower l (base_of b))) h ∙ (gives_itself b ∙ sym (ap (λ l. tower l (base_of b)) h))

pub same_tower : (ms ns : List Keys) (t : Ty) → map keys_of ms ≡ map keys_of ns → tower ms t ≡ tower ns t
same_tower [] [] t h = refl
same_tower [] (n ∷ ns) t h = absurd (let bad : ⊥ = cc in bad)
same_tower (m ∷ ms) [] t h = absurd (let bad : ⊥ = cc in bad)
same_tower (m ∷ ms) (n ∷ ns) t h =
    let first : keys_of m ≡ keys_of n = cc in
    let others : map keys_of ms ≡ map keys_of ns = cc in
    ap (λ k. MapTy k (tower ms t)) first ∙ ap (MapTy (keys_of n)) (same_tower ms ns t others)

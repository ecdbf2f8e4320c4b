-- Types and heads that are found to be the same are the same.
use Rattle.std.proofs.Common.{◌≡◌, true, List, [], ◌∷◌, refl, ap, ◌∙◌, subst}
use Rattle.std.specs.Prelude.{◌&&◌, ◌==◌}
use Rattle.std.proofs.lemmas.Bool.{eqb-true, eq-eqb}
use Rattle.bg_ast.specs.Values.{KeyType, IntKey, UserKey, Ty, IntTy, BoolTy, UserTy, MapTy}
use Rattle.bg_sense.specs.Types.{key_eq, key_types_eq, ty_eq}
use Rattle.bg_sense.proofs.Bools.{and_left, and_right, both}
use Rattle.bg_terms.specs.Terms.{Head, Applies, Selects, Updates, Differs, head_eq}
use Rattle.bg_terms.specs.Instances.{accesses}

key_same : (k l : KeyType) → key_eq k l ≡ true → k ≡ l
key_same IntKey IntKey h = refl
key_same IntKey (UserKey u) h = absurd (let bad : ⊥ = cc in bad)
key_same (UserKey t) IntKey h = absurd (let bad : ⊥ = cc in bad)
key_same (UserKey t) (UserKey u) h = ap UserKey (eqb-true t u h)

rows_same : (ks ls : List KeyType) → key_types_eq ks ls ≡ true → ks ≡ ls
rows_same [] [] h = refl
rows_same [] (l ∷ ls) h = absurd (let bad : ⊥ = cc in bad)
rows_same (k ∷ ks) [] h = absurd (let bad : ⊥ = cc in bad)
rows_same (k ∷ ks) (l ∷ ls) h =
    ap (λ x. x ∷ ks) (key_same k l (and_left (key_eq k l) (key_types_eq ks ls) h))
    ∙ ap (λ x. l ∷ x) (rows_same ks ls (and_right (key_eq k l) (key_types_eq ks ls) h))

types_same : (t u : Ty) → ty_eq t u ≡ true → t ≡ u
types_same IntTy IntTy h = refl
types_same IntTy BoolTy h = absurd (let bad : ⊥ = cc in bad)
types_same IntTy (UserTy k) h = absurd (let bad : ⊥ = cc in bad)
types_same IntTy (MapTy ks t) h = absurd (let bad : ⊥ = cc in bad)
types_same BoolTy IntTy h = absurd (let bad : ⊥ = cc in bad)
types_same BoolTy BoolTy h = refl
types_same BoolTy (UserTy k) h = absurd (let bad : ⊥ = cc in bad)
types_same BoolTy (MapTy ks t) h = absurd (let bad : ⊥ = cc in bad)
types_same (UserTy j) IntTy h = absurd (let bad : ⊥ = cc in bad)
types_same (UserTy j) BoolTy h = absurd (let bad : ⊥ = cc in bad)
types_same (UserTy j) (UserTy k) h = ap UserTy (eqb-true j k h)
types_same (UserTy j) (MapTy ks t) h = absurd (let bad : ⊥ = cc in bad)
types_same (MapTy ks t) IntTy h = absurd (let bad : ⊥ = cc in bad)
types_same (MapTy ks t) BoolTy h = absurd (let bad : ⊥ = cc in bad)
types_same (MapTy ks t) (UserTy k) h = absurd (let bad : ⊥ = cc in bad)
types_same (MapTy ks t) (MapTy ls u) h =
    ap (λ x. MapTy x t) (rows_same ks ls (and_left (key_types_eq ks ls) (ty_eq t u) h))
    ∙ ap (MapTy ls) (types_same t u (and_right (key_types_eq ks ls) (ty_eq t u) h))

pub kinds_same : (ks ls : List KeyType) (t u : Ty) → (key_types_eq ks ls && ty_eq t u) ≡ true → (ks ≡ ls) × (t ≡ u)
kinds_same ks ls t u h =
    (rows_same ks ls (and_left (key_types_eq ks ls) (ty_eq t u) h), types_same t u (and_right (key_types_eq ks ls) (ty_eq t u) h))

rows_refl : (ks : List KeyType) → key_types_eq ks ks ≡ true
rows_refl [] = refl
rows_refl (IntKey ∷ ks) = rows_refl ks
rows_refl (UserKey u ∷ ks) = both (u == u) (key_types_eq ks ks) (eq-eqb u u refl) (rows_refl ks)

pub types_refl : (t : Ty) → ty_eq t t ≡ true
types_refl IntTy = refl
types_refl BoolTy = refl
types_refl (UserTy k) = eq-eqb k k refl
types_refl (MapTy ks t) = both (key_types_eq ks ks) (ty_eq t t) (rows_refl ks) (types_refl t)

pub kinds_refl : (ks : List KeyType) (t : Ty) → (key_types_eq ks ks && ty_eq t t) ≡ true
kinds_refl ks t = both (key_types_eq ks ks) (ty_eq t t) (rows_refl ks) (types_refl t)

head_self : (h : Head) → head_eq h h ≡ true
head_self (Applies f) = eq-eqb f f refl
head_self (Selects ks t) = kinds_refl ks t
head_self (Updates ks t) = kinds_refl ks t
head_self (Differs ks t j) =
    both (key_types_eq ks ks && ty_eq t t) (j == j) (kinds_refl ks t) (eq-eqb j j refl)

pub head_refl : (h k : Head) → h ≡ k → head_eq h k ≡ true
head_refl h k e = subst (λ x. head_eq h x ≡ true) e (head_self h)

pub head_same : (h k : Head) → head_eq h k ≡ true → h ≡ k
head_same (Applies a) (Applies b) e = ap Applies (eqb-true a b e)
head_same (Applies a) (Selects ls u) e = absurd (let bad : ⊥ = cc in bad)
head_same (Applies a) (Updates ls u) e = absurd (let bad : ⊥ = cc in bad)
head_same (Applies a) (Differs ls u k) e = absurd (let bad : ⊥ = cc in bad)
head_same (Selects ks t) (Applies b) e = absurd (let bad : ⊥ = cc in bad)
head_same (Selects ks t) (Selects ls u) e =
    let q = kinds_same ks ls t u e in ap (λ x. Selects x t) q.0 ∙ ap (Selects ls) q.1
head_same (Selects ks t) (Updates ls u) e = absurd (let bad : ⊥ = cc in bad)
head_same (Selects ks t) (Differs ls u k) e = absurd (let bad : ⊥ = cc in bad)
head_same (Updates ks t) (Applies b) e = absurd (let bad : ⊥ = cc in bad)
head_same (Updates ks t) (Selects ls u) e = absurd (let bad : ⊥ = cc in bad)
head_same (Updates ks t) (Updates ls u) e =
    let q = kinds_same ks ls t u e in ap (λ x. Updates x t) q.0 ∙ ap (Updates ls) q.1
head_same (Updates ks t) (Differs ls u k) e = absurd (let bad : ⊥ = cc in bad)
head_same (Differs ks t j) (Applies b) e = absurd (let bad : ⊥ = cc in bad)
head_same (Differs ks t j) (Selects ls u) e = absurd (let bad : ⊥ = cc in bad)
head_same (Differs ks t j) (Updates ls u) e = absurd (let bad : ⊥ = cc in bad)
head_same (Differs ks t j) (Differs ls u k) e =
    let q = kinds_same ks ls t u (and_left (key_types_eq ks ls && ty_eq t u) (j == k) e) in
    ap (λ x. Differs x t j) q.0
    ∙ ap (λ x. Differs ls x j) q.1
    ∙ ap (Differs ls u) (eqb-true j k (and_right (key_types_eq ks ls && ty_eq t u) (j == k) e))

-- an update and a select of maps of one type
pub record Accesses (h k : Head) : Type 0 where
  pub keys : List KeyType
  pub result : Ty
  pub update : h ≡ Updates keys result
  pub select : k ≡ Selects keys result

pub accessing : (h k : Head) → accesses h k ≡ true → Accesses h k
accessing (Updates ks t) (Selects ls u) e =
    let q = kinds_same ks ls t u e in
    record { keys = ls; result = u; update = ap (λ x. Updates x t) q.0 ∙ ap (Updates ls) q.1; select = refl }
accessing (Applies f) h e = absurd (let bad : ⊥ = cc in bad)
accessing (Selects ks t) h e = absurd (let bad : ⊥ = cc in bad)
accessing (Differs ks t j) h e = absurd (let bad : ⊥ = cc in bad)
accessing (Updates ks t) (Applies f) e = absurd (let bad : ⊥ = cc in bad)
accessing (Updates ks t) (Updates ls u) e = absurd (let bad : ⊥ = cc in bad)
accessing (Updates ks t) (Differs ls u j) e = absurd (let bad : ⊥ = cc in bad)

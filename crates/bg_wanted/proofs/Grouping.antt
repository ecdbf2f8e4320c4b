-- Maps by their types, and which of them have one table.
use Rattle.std.proofs.Common.{◌≡◌, ℕ, zero, suc, ◌+◌, ◌<◌, ◌≤◌, Bool, true, false, cond, List, [], ◌∷◌, ◌++◌, length, get_or, take, map, Option, Some, None, refl, sym, ap, ◌∙◌, subst, arith, inl, inr, ⊎_elim}
use Rattle.std.specs.Prelude.{slice_get, slice_set, MatchOption, nat_lt, not, ◌&&◌, ◌==◌, ◌⊎◌, if◌then◌else◌}
use Rattle.std.specs.Ordering.{is_eq}
use Rattle.std.specs.BTreeMap.{is_at}
use Rattle.std.specs.BTreeSet.{BTreeSet}
use Rattle.std.specs.List.{list_any}
use Rattle.std.proofs.lemmas.Bool.{eqb-true, eq-eqb}
use Rattle.bg_ast.specs.Values.{Val, Ty, IntTy, BoolTy, UserTy, MapTy, KeyType, val_eq}
use Rattle.bg_sense.specs.Eval.{value_at}
use Rattle.bg_sense.specs.Types.{key_types_eq, ty_eq}
use Rattle.bg_sense.proofs.MapLaws.{val_same}
use Rattle.bg_terms.specs.Terms.{Term}
use Rattle.bg_terms.specs.Built.{built}
use Rattle.bg_terms.proofs.Heads.{kinds_same, kinds_refl}
use Rattle.bg_terms.proofs.True.{same_eq, false_unless}
use Rattle.bg_numbered.specs.Put.{ty_or}
use Rattle.bg_kinds.specs.Views.{base_of, keys_of, ref_of}
use Rattle.bg_kinds.specs.declared.kinds.Base.{Base}
use Rattle.bg_kinds.specs.declared.kinds.Base.TheVariants as base
use Rattle.bg_scalar.specs.declared.scalar.Scalar.{Scalar}
use Rattle.bg_scalar.specs.declared.value.Value.{Value}
use Rattle.bg_scalar.specs.Values.{val_of, value_of}
use Rattle.bg_wanted.specs.Scalars.{scalars_in}
use Rattle.bg_wanted.specs.declared.names.Pair.{Pair}
use Rattle.bg_wanted.specs.declared.names.Group.{Group}
use Rattle.bg_wanted.specs.Firsts.{scalar_cmp}
use Rattle.bg_wanted.specs.Alike.{map_type_in, AreApart, IsAlike, is_group, NoGroup, IsGroupAt, IsIn, has_scalar, AreDistinct, AreHeld, IsGroup, Covers, AreMore, AreGroups, Covered, AreGrown, AreKept, AreAllGroups, tables_of, same_there, are_same_at, GroupApart, IsPairIn, inner_of}
use Rattle.bg_wanted.proofs.Earliest.{equal_is, scalar_exact, scalar_equal}
use Rattle.bg_wanted.proofs.Settlement.{val_known}

-- ---- lists

below : {A : Type 0} (xs : List A) (a : ℕ) (x : A) → slice_get xs a ≡ Some x → a < length xs
below [] a x e = absurd (let bad : ⊥ = cc in bad)
below (y ∷ xs) zero x e = omega arith
below (y ∷ xs) (suc a) x e = let h = below xs a x e in omega (arith, h)

last_at : {A : Type 0} (xs : List A) (y : A) (i : ℕ) (x : A) → slice_get (xs ++ y ∷ []) i ≡ Some x → (slice_get xs i ≡ Some x) ⊎ ((i ≡ length xs) × (x ≡ y))
last_at [] y zero x e = let same : y ≡ x = cc in inr (refl, sym same)
last_at [] y (suc i) x e = absurd (let bad : ⊥ = cc in bad)
last_at (z ∷ xs) y zero x e = inl e
last_at (z ∷ xs) y (suc i) x e = ⊎_elim (λ h. inl h) (λ h. inr (ap suc h.0, h.1)) (last_at xs y i x e)

front_at : {A : Type 0} (xs : List A) (y : A) (i : ℕ) (x : A) → slice_get xs i ≡ Some x → slice_get (xs ++ y ∷ []) i ≡ Some x
front_at [] y i x e = absurd (let bad : ⊥ = cc in bad)
front_at (z ∷ xs) y zero x e = e
front_at (z ∷ xs) y (suc i) x e = front_at xs y i x e

end_at : {A : Type 0} (xs : List A) (y : A) → slice_get (xs ++ y ∷ []) (length xs) ≡ Some y
end_at [] y = refl
end_at (z ∷ xs) y = end_at xs y

set_there : {A : Type 0} (xs : List A) (i : ℕ) (x w : A) → slice_get xs i ≡ Some x → slice_get (slice_set xs i w) i ≡ Some w
set_there [] i x w e = absurd (let bad : ⊥ = cc in bad)
set_there (y ∷ xs) zero x w e = refl
set_there (y ∷ xs) (suc i) x w e = set_there xs i x w e

set_other : {A : Type 0} (xs : List A) (i k : ℕ) (w : A) → (k ≡ i → ⊥) → slice_get (slice_set xs i w) k ≡ slice_get xs k
set_other [] i k w off = refl
set_other (y ∷ xs) zero zero w off = absurd (off refl)
set_other (y ∷ xs) zero (suc k) w off = refl
set_other (y ∷ xs) (suc i) zero w off = refl
set_other (y ∷ xs) (suc i) (suc k) w off = set_other xs i k w (λ e. off (ap suc e))

set_which : {A : Type 0} (xs : List A) (i k : ℕ) (w h : A) → slice_get (slice_set xs i w) k ≡ Some h → ((k ≡ i) × (h ≡ w)) ⊎ (slice_get xs k ≡ Some h)
set_which [] i k w h e = inr e
set_which (y ∷ xs) zero zero w h e = let same : w ≡ h = cc in inl (refl, sym same)
set_which (y ∷ xs) zero (suc k) w h e = inr e
set_which (y ∷ xs) (suc i) zero w h e = inr e
set_which (y ∷ xs) (suc i) (suc k) w h e = ⊎_elim (λ p. inl (ap suc p.0, p.1)) (λ p. inr p) (set_which xs i k w h e)

pub item_is : {A : Type 0} (xs : List A) (i : ℕ) (x g : A) → slice_get xs i ≡ Some g → x ≡ get_or xs i x → x ≡ g
item_is [] i x g e h = absurd (let bad : ⊥ = cc in bad)
item_is (y ∷ xs) zero x g e h = let same : y ≡ g = cc in h ∙ same
item_is (y ∷ xs) (suc i) x g e h = item_is xs i x g e h

pub group_below : (gs : List Group) (i : ℕ) (ks : List KeyType) (t : Ty) → IsGroupAt gs i ks t → i < length gs
group_below gs i ks t w = below gs i w.0 w.1.0

lt_or : (a b : ℕ) → a < suc b → (a < b) ⊎ (a ≡ b)
lt_or zero zero h = inr refl
lt_or zero (suc b) h = inl (omega arith)
lt_or (suc a) zero h = absurd (omega (arith, h))
lt_or (suc a) (suc b) h = ⊎_elim (λ l. inl (omega (arith, l))) (λ e. inr (ap suc e)) (lt_or a b (omega (arith, h)))

-- ---- a map more in its group

cond_true : (c b : Bool) → b ≡ true → cond c true b ≡ true
cond_true true b h = refl
cond_true false b h = h

in_front : (j : ℕ) (js : List ℕ) (k : ℕ) → IsIn j js → IsIn j (js ++ k ∷ [])
in_front j js k h = (h.0, front_at js k h.0 j h.1)

pub held_none : (s : List Val) (m : BTreeSet Scalar) (js : List ℕ) → m.keys ≡ [] → js ≡ [] → AreHeld s m js
held_none s m js keys none =
    record {
      found = λ x h. absurd (let empty : has_scalar m x ≡ false = ap (λ l. list_any (is_at (scalar_cmp x)) l) keys in let bad : true ≡ false = sym h ∙ empty in let no : ⊥ = cc in no);
      kept = λ j h. absurd (let bad : None ≡ Some j = sym (ap (λ l. slice_get l h.0) none) ∙ h.1 in let no : ⊥ = cc in no);
      distinct = λ i k a b e f off. absurd (let bad : None ≡ Some a = sym (ap (λ l. slice_get l i) none) ∙ e in let no : ⊥ = cc in no);
    }

module _ (s : List Val) (m w : BTreeSet Scalar) (js : List ℕ) (number : ℕ) (scalar : Scalar) (put : (q : Scalar) → has_scalar w q ≡ cond (is_eq (scalar_cmp scalar q)) true (has_scalar m q)) (value : value_at s number ≡ val_of scalar) (held : AreHeld s m js) where
  still_there : (q : Scalar) → has_scalar m q ≡ true → has_scalar w q ≡ true
  still_there q h = put q ∙ cond_true (is_eq (scalar_cmp scalar q)) (has_scalar m q) h

  new_there : has_scalar w scalar ≡ true
  new_there = put scalar ∙ ap (λ c. cond c true (has_scalar m scalar)) (ap is_eq (scalar_equal scalar))

  which : (q : Scalar) → has_scalar w q ≡ true → (scalar ≡ q) ⊎ (has_scalar m q ≡ true)
  which q h = on (is_eq (scalar_cmp scalar q)) refl (sym (put q) ∙ h)
    where
      on : (c : Bool) → is_eq (scalar_cmp scalar q) ≡ c → cond c true (has_scalar m q) ≡ true → (scalar ≡ q) ⊎ (has_scalar m q ≡ true)
      on true e h = inl (scalar_exact scalar q (equal_is (scalar_cmp scalar q) e))
      on false e h = inr h

  held_old : has_scalar m scalar ≡ true → AreHeld s w js × ((i : ℕ) × (IsIn i js × (value_at s i ≡ value_at s number)))
  held_old there =
      let own = held.found scalar there in (
        record {
          found =
              λ q h. ⊎_elim (λ e. (own.0, (own.1.0, own.1.1 ∙ ap val_of e))) (λ k. held.found q k) (which q h);
          kept = λ j h. let k = held.kept j h in (k.0, (k.1.0, still_there k.0 k.1.1));
          distinct = held.distinct;
        },
        (own.0, (own.1.0, own.1.1 ∙ sym value)),
      )

  module _ (missing : has_scalar m scalar ≡ false) where
    off_new : (a : ℕ) → IsIn a js → value_at s a ≡ value_at s number → ⊥
    off_new a h e =
        let k = held.kept a h in
        let same : k.0 ≡ scalar = val_known k.0 scalar (sym k.1.0 ∙ (e ∙ value)) in
        let bad : true ≡ false = sym (ap (has_scalar m) (sym same) ∙ k.1.1) ∙ missing in
        let no : ⊥ = cc in
        no

    distinct_more : AreDistinct s (js ++ number ∷ [])
    distinct_more i k a b e f off = on (last_at js number i a e) (last_at js number k b f)
      where
        on : (slice_get js i ≡ Some a) ⊎ ((i ≡ length js) × (a ≡ number)) → (slice_get js k ≡ Some b) ⊎ ((k ≡ length js) × (b ≡ number)) → val_eq (value_at s a) (value_at s b) ≡ false
        on (inl p) (inl q) = held.distinct i k a b p q off
        on (inl p) (inr q) =
            false_unless (val_eq (value_at s a) (value_at s b)) (λ h. off_new a (i, p) (val_same (value_at s a) (value_at s b) h ∙ ap (value_at s) q.1))
        on (inr p) (inl q) =
            false_unless (val_eq (value_at s a) (value_at s b)) (λ h. off_new b (k, q) (sym (val_same (value_at s a) (value_at s b) h) ∙ ap (value_at s) p.1))
        on (inr p) (inr q) = absurd (off (p.0 ∙ sym q.0))

    held_new : AreHeld s w (js ++ number ∷ []) × ((i : ℕ) × (IsIn i (js ++ number ∷ []) × (value_at s i ≡ value_at s number)))
    held_new = (
      record {
        found =
            λ q h.
            ⊎_elim (λ e. (number, ((length js, end_at js number), value ∙ ap val_of e))) (λ k. let f = held.found q k in (f.0, (in_front f.0 js number f.1.0, f.1.1))) (which q h);
        kept =
            λ j h.
            ⊎_elim (λ e. let k = held.kept j (h.0, e) in (k.0, (k.1.0, still_there k.0 k.1.1))) (λ e. (scalar, (ap (value_at s) e.1 ∙ value, new_there))) (last_at js number h.0 j h.1);
        distinct = distinct_more;
      },
      (number, ((length js, end_at js number), refl)),
    )

  pub held_more : (ks : List ℕ) (added : Bool) → added ≡ not (has_scalar m scalar) → ks ≡ (if added then js ++ number ∷ [] else js) → AreHeld s w ks × ((i : ℕ) × (IsIn i ks × (value_at s i ≡ value_at s number)))
  held_more ks added new items = on (has_scalar m scalar) refl
    where
      on : (c : Bool) → has_scalar m scalar ≡ c → AreHeld s w ks × ((i : ℕ) × (IsIn i ks × (value_at s i ≡ value_at s number)))
      on true e =
          subst (λ l. AreHeld s w l × ((i : ℕ) × (IsIn i l × (value_at s i ≡ value_at s number)))) (sym (items ∙ ap (λ c. if c then js ++ number ∷ [] else js) (new ∙ ap not e))) (held_old e)
      on false e =
          subst (λ l. AreHeld s w l × ((i : ℕ) × (IsIn i l × (value_at s i ≡ value_at s number)))) (sym (items ∙ ap (λ c. if c then js ++ number ∷ [] else js) (new ∙ ap not e))) (held_new e)

pub are_more : (js ks : List ℕ) (j : ℕ) (c : Bool) → ks ≡ (if c then js ++ j ∷ [] else js) → AreMore js j ks
are_more js ks j true e = inr e
are_more js ks j false e = inl e

-- ---- a map more among the groups

module _ (s : List Val) (tys : List Ty) (gs : List Group) (number : ℕ) (ks : List KeyType) (t : Ty) (type_is : slice_get tys number ≡ Some (MapTy ks t)) (all : AreGroups s tys gs) where
  -- in a group that is there
  module _ (i : ℕ) (g w : Group) (there : slice_get gs i ≡ Some g) (is : is_group g ks t ≡ true) (keys : keys_of w.keys.now ≡ keys_of g.keys.now) (gives : ref_of w.gives ≡ ref_of g.gives) (more : AreMore g.numbers.items number w.numbers.items) (held : IsGroup s w × Covers s w number) where
    same_group : (ls : List KeyType) (u : Ty) → is_group w ls u ≡ is_group g ls u
    same_group ls u =
        ap (λ k. key_types_eq k ls && ty_eq (ref_of w.gives) u) keys
        ∙ ap (λ r. key_types_eq (keys_of g.keys.now) ls && ty_eq r u) gives

    its_type : (keys_of g.keys.now ≡ ks) × (ref_of g.gives ≡ t)
    its_type = kinds_same (keys_of g.keys.now) ks (ref_of g.gives) t is

    typed_in : (j : ℕ) → IsIn j w.numbers.items → slice_get tys j ≡ Some (MapTy (keys_of w.keys.now) (ref_of w.gives))
    typed_in j h = on more ∙ (ap (λ k. Some (MapTy k (ref_of g.gives))) (sym keys) ∙ ap (λ r. Some (MapTy (keys_of w.keys.now) r)) (sym gives))
      where
        own : j ≡ number → slice_get tys j ≡ Some (MapTy (keys_of g.keys.now) (ref_of g.gives))
        own e =
            ap (slice_get tys) e
            ∙ (type_is ∙ (ap (λ k. Some (MapTy k t)) (sym its_type.0) ∙ ap (λ r. Some (MapTy (keys_of g.keys.now) r)) (sym its_type.1)))

        on : AreMore g.numbers.items number w.numbers.items → slice_get tys j ≡ Some (MapTy (keys_of g.keys.now) (ref_of g.gives))
        on (inl e) = all.typed i g j there (h.0, ap (λ l. slice_get l h.0) (sym e) ∙ h.1)
        on (inr e) =
            ⊎_elim (λ f. all.typed i g j there (h.0, f)) (λ f. own f.1) (last_at g.numbers.items number h.0 j (ap (λ l. slice_get l h.0) (sym e) ∙ h.1))

    in_more : (j : ℕ) → IsIn j g.numbers.items → IsIn j w.numbers.items
    in_more j h = on more
      where
        on : AreMore g.numbers.items number w.numbers.items → IsIn j w.numbers.items
        on (inl e) = (h.0, ap (λ l. slice_get l h.0) e ∙ h.1)
        on (inr e) = (h.0, ap (λ l. slice_get l h.0) e ∙ front_at g.numbers.items number h.0 j h.1)

    -- the group that was at a place
    before : (k : ℕ) (h : Group) → slice_get (slice_set gs i w) k ≡ Some h → (q : Group) × ((slice_get gs k ≡ Some q) × ((ls : List KeyType) (u : Ty) → is_group h ls u ≡ is_group q ls u))
    before k h e =
        ⊎_elim (λ p. (g, (ap (slice_get gs) p.0 ∙ there, λ ls u. ap (λ x. is_group x ls u) p.1 ∙ same_group ls u))) (λ p. (h, (p, λ ls u. refl))) (set_which gs i k w h e)

    still : (k : ℕ) (ls : List KeyType) (u : Ty) → Covered s gs k ls u → Covered s (slice_set gs i w) k ls u
    still k ls u c = on (c.0 == i) refl
      where
        on : (b : Bool) → (c.0 == i) ≡ b → Covered s (slice_set gs i w) k ls u
        on true e =
            let same = eqb-true c.0 i e in
            let two : Some c.1.0 ≡ Some g = sym c.1.1.0 ∙ (ap (slice_get gs) same ∙ there) in
            let group : c.1.0 ≡ g = cc in
            let cover = subst (λ x. Covers s x k) group c.1.1.1.1 in
            (i, (w, (set_there gs i g w there, (same_group ls u ∙ (ap (λ x. is_group x ls u) (sym group) ∙ c.1.1.1.0), (cover.0, (in_more cover.0 cover.1.0, cover.1.1))))))
        on false e =
            let off : c.0 ≡ i → ⊥ = λ q. let yes = eq-eqb c.0 i q in let bad : false ≡ true = sym e ∙ yes in let no : ⊥ = cc in no in
            (c.0, (c.1.0, (set_other gs i c.0 w off ∙ c.1.1.0, c.1.1.1)))

    pub groups_set : AreGrown s tys gs (slice_set gs i w) number ks t
    groups_set =
        record {
          groups =
              record {
                each =
                    λ k h e. ⊎_elim (λ p. subst (IsGroup s) (sym p.1) held.0) (λ p. all.each k h p) (set_which gs i k w h e);
                typed =
                    λ k h j e inn.
                    ⊎_elim
                    (λ p. subst (λ (x : Group). slice_get tys j ≡ Some (MapTy (keys_of x.keys.now) (ref_of x.gives))) (sym p.1) (typed_in j (subst (λ (x : Group). IsIn j x.numbers.items) p.1 inn)))
                    (λ p. all.typed k h j p inn) (set_which gs i k w h e);
                one =
                    λ a b x y ls u e f p q.
                    let o = before a x e in
                    let r = before b y f in
                    all.one a b o.0 r.0 ls u o.1.0 r.1.0 (sym (o.1.1 ls u) ∙ p) (sym (r.1.1 ls u) ∙ q);
              };
          covered = (i, (w, (set_there gs i g w there, (same_group ks t ∙ is, held.1))));
          still = still;
        }

  -- in a group of its own
  module _ (w : Group) (missing : NoGroup gs ks t) (keys : keys_of w.keys.now ≡ ks) (gives : ref_of w.gives ≡ t) (held : IsGroup s w × Covers s w number) (more : AreMore [] number w.numbers.items) where
    own_group : is_group w ks t ≡ true
    own_group =
        ap (λ k. key_types_eq k ks && ty_eq (ref_of w.gives) t) keys
        ∙ (ap (λ r. key_types_eq ks ks && ty_eq r t) gives ∙ kinds_refl ks t)

    typed_own : (j : ℕ) → IsIn j w.numbers.items → slice_get tys j ≡ Some (MapTy (keys_of w.keys.now) (ref_of w.gives))
    typed_own j h = on more
      where
        on : AreMore [] number w.numbers.items → slice_get tys j ≡ Some (MapTy (keys_of w.keys.now) (ref_of w.gives))
        on (inl e) =
            absurd (let bad : None ≡ Some j = sym (ap (λ l. slice_get l h.0) e) ∙ h.1 in let no : ⊥ = cc in no)
        on (inr e) =
            ⊎_elim (λ f. absurd (let no : ⊥ = cc in no))
            (λ f. ap (slice_get tys) f.1 ∙ (type_is ∙ (ap (λ k. Some (MapTy k t)) (sym keys) ∙ ap (λ r. Some (MapTy (keys_of w.keys.now) r)) (sym gives))))
            (last_at [] number h.0 j (ap (λ l. slice_get l h.0) (sym e) ∙ h.1))

    other : (k : ℕ) (g : Group) (ls : List KeyType) (u : Ty) → slice_get gs k ≡ Some g → is_group g ls u ≡ true → is_group w ls u ≡ true → ⊥
    other k g ls u e p q =
        let mine = kinds_same (keys_of w.keys.now) ls (ref_of w.gives) u q in
        let one : ls ≡ ks = sym mine.0 ∙ keys in
        let two : u ≡ t = sym mine.1 ∙ gives in
        let its : is_group g ks t ≡ true = ap (λ x. is_group g x t) (sym one) ∙ (ap (is_group g ls) (sym two) ∙ p) in
        let bad : true ≡ false = sym its ∙ missing k g e in
        let no : ⊥ = cc in
        no

    one_more : (a b : ℕ) (x y : Group) (ls : List KeyType) (u : Ty) → slice_get (gs ++ w ∷ []) a ≡ Some x → slice_get (gs ++ w ∷ []) b ≡ Some y → is_group x ls u ≡ true → is_group y ls u ≡ true → a ≡ b
    one_more a b x y ls u e f p q = on (last_at gs w a x e) (last_at gs w b y f)
      where
        on : (slice_get gs a ≡ Some x) ⊎ ((a ≡ length gs) × (x ≡ w)) → (slice_get gs b ≡ Some y) ⊎ ((b ≡ length gs) × (y ≡ w)) → a ≡ b
        on (inl i) (inl j) = all.one a b x y ls u i j p q
        on (inl i) (inr j) = absurd (other a x ls u i p (ap (λ z. is_group z ls u) (sym j.1) ∙ q))
        on (inr i) (inl j) = absurd (other b y ls u j q (ap (λ z. is_group z ls u) (sym i.1) ∙ p))
        on (inr i) (inr j) = i.0 ∙ sym j.0

    pub groups_more : (now : List Group) → now ≡ gs ++ w ∷ [] → AreGrown s tys gs now number ks t
    groups_more now push =
        subst (λ l. AreGrown s tys gs l number ks t) (sym push)
        (record {
          groups =
              record {
                each =
                    λ k h e. ⊎_elim (λ p. all.each k h p) (λ p. subst (IsGroup s) (sym p.1) held.0) (last_at gs w k h e);
                typed =
                    λ k h j e inn.
                    ⊎_elim (λ p. all.typed k h j p inn)
                    (λ p. subst (λ (x : Group). slice_get tys j ≡ Some (MapTy (keys_of x.keys.now) (ref_of x.gives))) (sym p.1) (typed_own j (subst (λ (x : Group). IsIn j x.numbers.items) p.1 inn)))
                    (last_at gs w k h e);
                one = one_more;
              };
          covered = (length gs, (w, (end_at gs w, (own_group, held.1))));
          still = λ k ls u c. (c.0, (c.1.0, (front_at gs w c.0 c.1.0 c.1.1.0, c.1.1.1)));
        })

-- ---- what a number is

pub no_map : (s : List Val) (tys : List Ty) (gs : List Group) (j : ℕ) (u : Ty) → u ≡ ty_or (slice_get tys j) → map_type_in u ≡ None → AreGroups s tys gs → AreKept s tys gs gs j
no_map s tys gs j u is none all =
    record {
      groups = all;
      covered =
          λ ks t e.
          absurd (let bad : Some (ks, t) ≡ None = sym (ap map_type_in (is ∙ ap ty_or e)) ∙ none in let no : ⊥ = cc in no);
      still = λ k ls v c. c;
    }

map_is : (o : Option Ty) (ks : List KeyType) (t : Ty) → map_type_in (ty_or o) ≡ Some (ks, t) → o ≡ Some (MapTy ks t)
map_is None ks t e = absurd (let bad : ⊥ = cc in bad)
map_is (Some IntTy) ks t e = absurd (let bad : ⊥ = cc in bad)
map_is (Some BoolTy) ks t e = absurd (let bad : ⊥ = cc in bad)
map_is (Some (UserTy u)) ks t e = absurd (let bad : ⊥ = cc in bad)
map_is (Some (MapTy ls u)) ks t e =
    let both : (ls, u) ≡ (ks, t) = cc in
    ap (λ (p : List KeyType × Ty). Some (MapTy p.0 p.1)) both

pub its_map : (tys : List Ty) (j : ℕ) (u : Ty) (ks : List KeyType) (t : Ty) → u ≡ ty_or (slice_get tys j) → map_type_in u ≡ Some (ks, t) → slice_get tys j ≡ Some (MapTy ks t)
its_map tys j u ks t is e = map_is (slice_get tys j) ks t (ap map_type_in (sym is) ∙ e)

pub a_map : (s : List Val) (tys : List Ty) (old now : List Group) (j : ℕ) (ks : List KeyType) (t : Ty) → slice_get tys j ≡ Some (MapTy ks t) → AreGrown s tys old now j ks t → AreKept s tys old now j
a_map s tys old now j ks t is grown =
    record {
      groups = grown.groups;
      covered =
          λ ls u e.
          let both : Some (MapTy ks t) ≡ Some (MapTy ls u) = sym is ∙ e in
          let one : ks ≡ ls = cc in
          let two : t ≡ u = cc in
          subst (λ k. Covered s now j k u) one (subst (Covered s now j ks) two grown.covered);
      still = grown.still;
    }

pub no_groups : (s : List Val) (tys : List Ty) (gs : List Group) → gs ≡ [] → AreAllGroups s tys gs 0
no_groups s tys gs none =
    subst (λ l. AreAllGroups s tys l 0) (sym none)
    (record {
      groups =
          record {
            each = λ i g e. absurd (let no : ⊥ = cc in no);
            typed = λ i g j e h. absurd (let no : ⊥ = cc in no);
            one = λ i k g h ks t e f p q. absurd (let no : ⊥ = cc in no);
          };
      covered = λ j ks t h e. absurd (omega (arith, h));
    })

pub value_item : (values : List Scalar) (j k : ℕ) (d : Scalar) → j < length values → k ≡ j → value_at (scalars_in values) k ≡ val_of (get_or values j d)
value_item values j k d h e = ap (value_at (scalars_in values)) e ∙ at values j h
  where
    at : (vs : List Scalar) (i : ℕ) → i < length vs → value_at (scalars_in vs) i ≡ val_of (get_or vs i d)
    at [] i h = absurd (omega (arith, h))
    at (v ∷ vs) zero h = refl
    at (v ∷ vs) (suc i) h = at vs i (omega (arith, h))

pub all_more : (s : List Val) (tys : List Ty) (old now : List Group) (i k : ℕ) → k ≡ i → AreAllGroups s tys old i → AreKept s tys old now k → AreAllGroups s tys now (i + 1)
all_more s tys old now i k at all kept =
    record {
      groups = kept.groups;
      covered =
          λ j ks t h e.
          ⊎_elim (λ l. kept.still j ks t (all.covered j ks t l e)) (λ q. subst (λ x. Covered s now x ks t) (at ∙ sym q) (kept.covered ks t (ap (slice_get tys) (at ∙ sym q) ∙ e))) (lt_or j i (omega (arith, h)));
    }

pub all_whole : (s : List Val) (tys : List Ty) (gs : List Group) (i n : ℕ) → n ≤ i → AreAllGroups s tys gs i → AreAllGroups s tys gs n
all_whole s tys gs i n h all =
    record { groups = all.groups; covered = λ j ks t l e. all.covered j ks t (omega (arith, l, h)) e }

-- ---- tables

pub taken_more : {A : Type 0} (f : ℕ → A) (xs : List ℕ) (i : ℕ) (old now : List A) (y : A) → i < length xs → now ≡ old ++ y ∷ [] → y ≡ f (get_or xs i 0) → old ≡ map f (take i xs) → now ≡ map f (take (i + 1) xs)
taken_more f xs i old now y lt push is so =
    push ∙ (ap (λ l. l ++ y ∷ []) so ∙ (ap (λ z. map f (take i xs) ++ z ∷ []) is ∙ sym (more xs i lt)))
  where
    more : (l : List ℕ) (k : ℕ) → k < length l → map f (take (k + 1) l) ≡ map f (take k l) ++ f (get_or l k 0) ∷ []
    more [] k h = absurd (omega (arith, h))
    more (z ∷ l) zero h = refl
    more (z ∷ l) (suc k) h =
        ap (λ j. map f (take j (z ∷ l))) (let q : suc k + 1 ≡ suc (k + 1) = omega arith in q)
        ∙ ap (λ r. f z ∷ r) (more l k (omega (arith, h)))

map_last : {A B : Type 0} (f : A → B) (l : List A) (x : A) → map f (l ++ x ∷ []) ≡ map f l ++ f x ∷ []
map_last f [] x = refl
map_last f (z ∷ l) x = ap (λ r. f z ∷ r) (map_last f l x)

pub mapped_last : {A B : Type 0} (f : A → B) (old now : List A) (x : A) → now ≡ old ++ x ∷ [] → map f now ≡ map f old ++ f x ∷ []
mapped_last f old now x e = ap (map f) e ∙ map_last f old x

pub there_at : {A : Type 0} (xs : List A) (i : ℕ) (x : A) → i < length xs → x ≡ get_or xs i x → slice_get xs i ≡ Some x
there_at [] i x h e = absurd (omega (arith, h))
there_at (y ∷ xs) zero x h e = ap (λ z. Some z) (sym e)
there_at (y ∷ xs) (suc i) x h e = there_at xs i x (omega (arith, h)) e

-- what two tables at their places say
table_at : {A : Type 0} (f : A → Val) (vs : List Value) (js : List A) → map value_of vs ≡ map f js → (i : ℕ) (a : A) → slice_get js i ≡ Some a → (v : Value) × ((slice_get vs i ≡ Some v) × (value_of v ≡ f a))
table_at f [] [] e i a h = absurd (let bad : ⊥ = cc in bad)
table_at f [] (j ∷ js) e i a h = absurd (let bad : ⊥ = cc in bad)
table_at f (v ∷ vs) [] e i a h = absurd (let bad : ⊥ = cc in bad)
table_at f (v ∷ vs) (j ∷ js) e zero a h =
    let same : j ≡ a = cc in
    let first : value_of v ≡ f j = cc in
    (v, (refl, first ∙ ap f same))
table_at f (v ∷ vs) (j ∷ js) e (suc i) a h = let rest : map value_of vs ≡ map f js = cc in table_at f vs js rest i a h

module _ (s : List Val) (n : ℕ) (ts : List Term) (g : Group) (vs : List Value) (are : map value_of vs ≡ tables_of s n ts g) where
  abbrev of_map : ℕ → Val
  of_map j = built s n ts (MapTy (keys_of g.keys.now) (ref_of g.gives)) (value_at s j)

  -- the tables at two places
  at_two : (i k a b : ℕ) → slice_get g.numbers.items i ≡ Some a → slice_get g.numbers.items k ≡ Some b → are_same_at vs i k ≡ val_eq (of_map a) (of_map b)
  at_two i k a b e f =
      let x = table_at of_map vs g.numbers.items are i a e in
      let y = table_at of_map vs g.numbers.items are k b f in
      ap (λ o. same_there o (slice_get vs k)) x.1.0
      ∙ (ap (same_there (Some x.0)) y.1.0 ∙ (ap (λ v. val_eq v (value_of y.0)) x.1.1 ∙ ap (val_eq (of_map a)) y.1.1))

  as_many : length vs ≡ length g.numbers.items
  as_many = lengths vs g.numbers.items are
    where
      lengths : (us : List Value) (js : List ℕ) → map value_of us ≡ map of_map js → length us ≡ length js
      lengths [] [] e = refl
      lengths [] (j ∷ js) e = absurd (let bad : ⊥ = cc in bad)
      lengths (u ∷ us) [] e = absurd (let bad : ⊥ = cc in bad)
      lengths (u ∷ us) (j ∷ js) e = let rest : map value_of us ≡ map of_map js = cc in ap suc (lengths us js rest)

  pub group_apart : ((j k : ℕ) → j < k → k < length vs → are_same_at vs j k ≡ false) → GroupApart s n ts g
  group_apart none i k a b e f off = ⊎_elim (λ l. in_order i k a b e f l) (λ l. turned (in_order k i b a f e l)) (order i k off)
    where
      in_order : (i k a b : ℕ) → slice_get g.numbers.items i ≡ Some a → slice_get g.numbers.items k ≡ Some b → i < k → val_eq (of_map a) (of_map b) ≡ false
      in_order i k a b e f lt =
          sym (at_two i k a b e f)
          ∙ none i k lt (let h = below g.numbers.items k b f in let m = as_many in omega (arith, h, m))

      turned : val_eq (of_map b) (of_map a) ≡ false → val_eq (of_map a) (of_map b) ≡ false
      turned h =
          false_unless (val_eq (of_map a) (of_map b)) (λ q. let yes = same_eq (of_map b) (of_map a) (sym (val_same (of_map a) (of_map b) q)) in let bad : false ≡ true = sym h ∙ yes in let no : ⊥ = cc in no)

      order : (a b : ℕ) → (a ≡ b → ⊥) → (a < b) ⊎ (b < a)
      order zero zero off = absurd (off refl)
      order zero (suc b) off = inl (omega arith)
      order (suc a) zero off = inr (omega arith)
      order (suc a) (suc b) off =
          ⊎_elim (λ l. inl (omega (arith, l))) (λ l. inr (omega (arith, l))) (order a b (λ e. off (ap suc e)))

  pub group_pair : (i k : ℕ) (p : Pair) → i < k → k < length vs → are_same_at vs i k ≡ true → p.first ≡ get_or g.numbers.items i 0 → p.second ≡ get_or g.numbers.items k 0 → p.parts ≡ length (keys_of g.keys.now) → IsPairIn s n ts g p
  group_pair i k p lt high same first second parts =
      record {
        i = i;
        k = k;
        first = one;
        second = two;
        off = λ e. omega (arith, lt, e);
        parts = parts;
        alike = sym (at_two i k p.first p.second one two) ∙ same;
      }
    where
      at : (js : List ℕ) (a x : ℕ) → a < length js → x ≡ get_or js a 0 → slice_get js a ≡ Some x
      at [] a x h e = absurd (omega (arith, h))
      at (j ∷ js) zero x h e = ap (λ z. Some z) (sym e)
      at (j ∷ js) (suc a) x h e = at js a x (omega (arith, h)) e

      one : slice_get g.numbers.items i ≡ Some p.first
      one = at g.numbers.items i p.first (let m = as_many in omega (arith, lt, high, m)) first

      two : slice_get g.numbers.items k ≡ Some p.second
      two = at g.numbers.items k p.second (let m = as_many in omega (arith, high, m)) second

-- ---- all groups

some_pair : (s : List Val) (n : ℕ) (ts : List Term) (tys : List Ty) (gs : List Group) (m i : ℕ) (g : Group) (p : Pair) → AreAllGroups s tys gs m → slice_get gs i ≡ Some g → IsPairIn s n ts g p → IsAlike s n ts tys p
some_pair s n ts tys gs m i g p all e w =
    record {
      keys = keys_of g.keys.now;
      gives = ref_of g.gives;
      first = all.groups.typed i g p.first e (w.i, w.first);
      second = all.groups.typed i g p.second e (w.k, w.second);
      parts = w.parts;
      differ = (all.groups.each i g e).distinct w.i w.k p.first p.second w.first w.second w.off;
      alike = w.alike;
    }

groups_apart_more : (s : List Val) (n : ℕ) (ts : List Term) (gs : List Group) (i : ℕ) (g : Group) → slice_get gs i ≡ Some g → ((k : ℕ) (h : Group) → k < i → slice_get gs k ≡ Some h → GroupApart s n ts h) → GroupApart s n ts g → (k : ℕ) (h : Group) → k < i + 1 → slice_get gs k ≡ Some h → GroupApart s n ts h
groups_apart_more s n ts gs i g there so new k h lt e = ⊎_elim (λ l. so k h l e) own (lt_or k i (omega (arith, lt)))
  where
    own : k ≡ i → GroupApart s n ts h
    own q =
        let two : Some g ≡ Some h = sym there ∙ (ap (slice_get gs) (sym q) ∙ e) in
        let same : g ≡ h = cc in
        subst (GroupApart s n ts) same new

all_apart : (s : List Val) (n : ℕ) (ts : List Term) (tys : List Ty) (gs : List Group) (m i : ℕ) → AreAllGroups s tys gs m → m ≡ length tys → length gs ≤ i → ((k : ℕ) (h : Group) → k < i → slice_get gs k ≡ Some h → GroupApart s n ts h) → AreApart s n ts tys
all_apart s n ts tys gs m i all size end each j k ks t e f off =
    let x = all.covered j ks t (let h = below tys j (MapTy ks t) e in omega (arith, h, size)) e in
    let y = all.covered k ks t (let h = below tys k (MapTy ks t) f in omega (arith, h, size)) f in
    let same : x.0 ≡ y.0 = all.groups.one x.0 y.0 x.1.0 y.1.0 ks t x.1.1.0 y.1.1.0 x.1.1.1.0 y.1.1.1.0 in
    let two : Some x.1.0 ≡ Some y.1.0 = sym x.1.1.0 ∙ (ap (slice_get gs) same ∙ y.1.1.0) in
    let group : x.1.0 ≡ y.1.0 = cc in
    by x.0 x.1.0 x.1.1.0 x.1.1.1.0 x.1.1.1.1 (subst (λ g. Covers s g k) (sym group) y.1.1.1.1)
  where
    by : (i : ℕ) (g : Group) → slice_get gs i ≡ Some g → is_group g ks t ≡ true → Covers s g j → Covers s g k → val_eq (built s n ts (MapTy ks t) (value_at s j)) (built s n ts (MapTy ks t) (value_at s k)) ≡ false
    by i g there is a b =
        let type_is = kinds_same (keys_of g.keys.now) ks (ref_of g.gives) t is in
        let apart = each i g (let h = below gs i g there in omega (arith, h, end)) there in
        let differ : val_eq (value_at s a.0) (value_at s b.0) ≡ false = ap (λ v. val_eq v (value_at s b.0)) a.1.1 ∙ (ap (val_eq (value_at s j)) b.1.1 ∙ off) in
        let far : a.1.0.0 ≡ b.1.0.0 → ⊥ = λ q. let both : Some a.0 ≡ Some b.0 = sym a.1.0.1 ∙ (ap (slice_get g.numbers.items) q ∙ b.1.0.1) in let one : a.0 ≡ b.0 = cc in let yes = same_eq (value_at s a.0) (value_at s b.0) (ap (value_at s) one) in let bad : false ≡ true = sym differ ∙ yes in let no : ⊥ = cc in no in
        let said = apart a.1.0.0 b.1.0.0 a.0 b.0 a.1.0.1 b.1.0.1 far in
        ap (λ v. val_eq (built s n ts (MapTy ks t) v) (built s n ts (MapTy ks t) (value_at s k))) (sym a.1.1)
        ∙ (ap (λ v. val_eq (built s n ts (MapTy ks t) (value_at s a.0)) (built s n ts (MapTy ks t) v)) (sym b.1.1)
        ∙ (ap (λ l. val_eq (built s n ts (MapTy l t) (value_at s a.0)) (built s n ts (MapTy l t) (value_at s b.0))) (sym type_is.0)
        ∙ (ap (λ r. val_eq (built s n ts (MapTy (keys_of g.keys.now) r) (value_at s a.0)) (built s n ts (MapTy (keys_of g.keys.now) r) (value_at s b.0))) (sym type_is.1) ∙ said)))

-- the best of the pairs in the first so many groups, if there is one
abbrev pub IsBest : List Val → ℕ → List Term → List Group → ℕ → Option Pair → Type 0
IsBest s n ts gs i None = (k : ℕ) (h : Group) → k < i → slice_get gs k ≡ Some h → GroupApart s n ts h
IsBest s n ts gs i (Some p) = (k : ℕ) × ((g : Group) × ((slice_get gs k ≡ Some g) × IsPairIn s n ts g p))

pub best_more : (s : List Val) (n : ℕ) (ts : List Term) (gs : List Group) (i : ℕ) (g : Group) (best found : Option Pair) → slice_get gs i ≡ Some g → IsBest s n ts gs i best → MatchOption found (GroupApart s n ts g) (λ p. IsPairIn s n ts g p) → IsBest s n ts gs (i + 1) (inner_of best found)
best_more s n ts gs i g None None there so new = groups_apart_more s n ts gs i g there so new
best_more s n ts gs i g None (Some q) there so new = (i, (g, (there, new)))
best_more s n ts gs i g (Some p) None there so new = so
best_more s n ts gs i g (Some p) (Some q) there so new = on (nat_lt q.within p.within)
  where
    on : (c : Bool) → IsBest s n ts gs (i + 1) (if c then Some q else Some p)
    on true = (i, (g, (there, new)))
    on false = so

pub best_all : (s : List Val) (n : ℕ) (ts : List Term) (tys : List Ty) (gs : List Group) (m i : ℕ) (best : Option Pair) → AreAllGroups s tys gs m → m ≡ length tys → length gs ≤ i → IsBest s n ts gs i best → MatchOption best (AreApart s n ts tys) (λ p. IsAlike s n ts tys p)
best_all s n ts tys gs m i None all size end so = all_apart s n ts tys gs m i all size end so
best_all s n ts tys gs m i (Some p) all size end so = some_pair s n ts tys gs m so.0 so.1.0 p all so.1.1.0 so.1.1.1

-- ---- more for the code

pub base_none : (b : Base) → map_type_in (base_of b) ≡ None
base_none base.Int = refl
base_none base.Bool = refl
base_none (base.User u) = refl

pub number_at : (xs : List ℕ) (i n : ℕ) → i < length xs → n ≡ get_or xs i n → n ≡ get_or xs i 0
number_at [] i n h e = absurd (omega (arith, h))
number_at (x ∷ xs) zero n h e = e
number_at (x ∷ xs) (suc i) n h e = number_at xs i n (omega (arith, h)) e

pub fewer : (k n i : ℕ) → k < n → n ≤ i → k < i
fewer k n i h e = omega (arith, h, e)

length_last : {A : Type 0} (l : List A) (x : A) → length (l ++ x ∷ []) ≡ length l + 1
length_last [] x = refl
length_last (y ∷ l) x = let e = length_last l x in omega (arith, e)

pub one_longer : {A : Type 0} (old now : List A) (x : A) (i : ℕ) → now ≡ old ++ x ∷ [] → length old ≡ i → length now ≡ i + 1
one_longer old now x i push len = ap length push ∙ (length_last old x ∙ ap (λ k. k + 1) len)

pub value_there : (values : List Scalar) (a : ℕ) (x : Scalar) → a < length values → x ≡ get_or values a x → value_at (scalars_in values) a ≡ val_of x
value_there [] a x h e = absurd (omega (arith, h))
value_there (v ∷ vs) zero x h e = ap val_of (sym e)
value_there (v ∷ vs) (suc a) x h e = value_there vs a x (omega (arith, h)) e

pub no_group_more : (gs : List Group) (i : ℕ) (ks : List KeyType) (t : Ty) (g : Group) → i < length gs → g ≡ get_or gs i g → ((k : ℕ) (h : Group) → k < i → slice_get gs k ≡ Some h → is_group h ks t ≡ false) → is_group g ks t ≡ false → (k : ℕ) (h : Group) → k < i + 1 → slice_get gs k ≡ Some h → is_group h ks t ≡ false
no_group_more gs i ks t g lt is so new k h l e = ⊎_elim (λ m. so k h m e) own (lt_or k i (omega (arith, l)))
  where
    own : k ≡ i → is_group h ks t ≡ false
    own q =
        let two : Some g ≡ Some h = sym (there_at gs i g lt is) ∙ (ap (slice_get gs) (sym q) ∙ e) in
        let same : g ≡ h = cc in
        ap (λ x. is_group x ks t) (sym same) ∙ new

pub no_group_all : (gs : List Group) (i : ℕ) (ks : List KeyType) (t : Ty) → length gs ≤ i → ((k : ℕ) (h : Group) → k < i → slice_get gs k ≡ Some h → is_group h ks t ≡ false) → NoGroup gs ks t
no_group_all gs i ks t end so k h e = so k h (let l = below gs k h e in omega (arith, l, end)) e

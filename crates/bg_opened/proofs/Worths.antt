-- What opened expressions are worth.
use Rattle.std.proofs.Common.{◌≡◌, ◌<◌, ℕ, zero, suc, ◌+◌, Bool, true, List, [], ◌∷◌, ◌++◌, length, map, Option, Some, None, refl, sym, ap, ◌∙◌, subst, arith}
use Rattle.std.specs.Prelude.{◌&&◌, slice_get, not, neg_ℤ}
use Rattle.bg_ast.specs.Values.{Val, Num, Truth, Ty, IntTy, BoolTy, select, update, number_of, truth_of}
use Rattle.bg_ast.specs.Syntax.{Op, And, Or, Implies, Iff, Equal, Unequal, Less, AtMost, Greater, AtLeast, Plus, Minus, Times, Global, Local, Ex, Exs, Number, Fact, Constant, Read, Not, Negative, Binary, Apply, Select, Update, Old, NoMore, More, Fun, Prog}
use Rattle.bg_ast.specs.Execution.{Interp}
use Rattle.bg_sense.specs.Eval.{Scope, ev, evs, operate, value_at, functions_of}
use Rattle.bg_sense.specs.Types.{const_types}
use Rattle.bg_sense.specs.Tables.{has_body}
use Rattle.bg_sense.specs.Typing.{Sig, OpHasType, HasType, HaveTypes, AreTypedBodies}
use Rattle.bg_sense.specs.Typed.{HasNoOld, HaveNoOld}
use Rattle.bg_sense.specs.Recursion.{HasNoRecursion}
use Rattle.bg_sense.proofs.Unfolding.{unfolds}
use Rattle.bg_sense.proofs.Bools.{and_left, and_right}
use Rattle.bg_opened.proofs.Plain.{is_plain, are_plain}
use Rattle.bg_opened.specs.Exprs.{ex_at, put_in, put_in_all, applied, opened, all_opened, opened_fun, opened_body, bodies_to, raw_bodies}

-- ---- lists

pub within : {A : Type 0} (xs : List A) (k : ℕ) (x : A) → slice_get xs k ≡ Some x → k < length xs
within [] k x e = absurd (let bad : ⊥ = cc in bad)
within (y ∷ xs) zero x e = omega arith
within (y ∷ xs) (suc k) x e = let l = within xs k x e in omega arith

pub behind_at : {A : Type 0} (xs ys : List A) (k : ℕ) → slice_get (xs ++ ys) (length xs + k) ≡ slice_get ys k
behind_at [] ys k = let e : 0 + k ≡ k = omega arith in ap (λ n. slice_get ys n) e
behind_at (x ∷ xs) ys k =
    let e : length (x ∷ xs) + k ≡ suc (length xs + k) = omega arith in
    ap (λ n. slice_get (x ∷ (xs ++ ys)) n) e ∙ behind_at xs ys k

pub front_at : {A : Type 0} (xs ys : List A) (k : ℕ) → k < length xs → slice_get (xs ++ ys) k ≡ slice_get xs k
front_at [] ys k h = absurd (omega arith)
front_at (x ∷ xs) ys zero h = refl
front_at (x ∷ xs) ys (suc k) h = front_at xs ys k (omega arith)

-- ---- the globals that are read

abbrev mutual
  -- each global that an expression reads is one of the first n
  pub ReadsBelow : ℕ → Ex → Type 0
  ReadsBelow n (Read (Global x)) = x < n
  ReadsBelow n (Not e) = ReadsBelow n e
  ReadsBelow n (Negative e) = ReadsBelow n e
  ReadsBelow n (Binary op a b) = ReadsBelow n a × ReadsBelow n b
  ReadsBelow n (Apply f es) = EachReadsBelow n es
  ReadsBelow n (Select m es) = ReadsBelow n m × EachReadsBelow n es
  ReadsBelow n (Update m es e) = ReadsBelow n m × (EachReadsBelow n es × ReadsBelow n e)
  ReadsBelow n (Old e) = ReadsBelow n e
  ReadsBelow n _ = Unit {0}

  pub EachReadsBelow : ℕ → Exs → Type 0
  EachReadsBelow n NoMore = Unit {0}
  EachReadsBelow n (More e es) = ReadsBelow n e × EachReadsBelow n es

pub sides : (op : Op) (P Q : Ty → Type 0) (t : Ty) → OpHasType op P Q t → ((u : Ty) × P u) × ((u : Ty) × Q u)
sides And P Q t h = ((BoolTy, h.1), (BoolTy, h.2))
sides Or P Q t h = ((BoolTy, h.1), (BoolTy, h.2))
sides Implies P Q t h = ((BoolTy, h.1), (BoolTy, h.2))
sides Iff P Q t h = ((BoolTy, h.1), (BoolTy, h.2))
sides Equal P Q t h = ((h.1.0, h.1.1), (h.1.0, h.1.2))
sides Unequal P Q t h = ((h.1.0, h.1.1), (h.1.0, h.1.2))
sides Less P Q t h = ((IntTy, h.1), (IntTy, h.2))
sides AtMost P Q t h = ((IntTy, h.1), (IntTy, h.2))
sides Greater P Q t h = ((IntTy, h.1), (IntTy, h.2))
sides AtLeast P Q t h = ((IntTy, h.1), (IntTy, h.2))
sides Plus P Q t h = ((IntTy, h.1), (IntTy, h.2))
sides Minus P Q t h = ((IntTy, h.1), (IntTy, h.2))
sides Times P Q t h = ((IntTy, h.1), (IntTy, h.2))

mutual
  pub typed_reads : (e : Ex) (g : Sig) (t : Ty) → HasType e g t → ReadsBelow (length g.globals) e
  typed_reads (Number z) g t h = tt
  typed_reads (Fact b) g t h = tt
  typed_reads (Constant k) g t h = tt
  typed_reads (Read (Global x)) g t h = within g.globals x t h
  typed_reads (Read (Local x)) g t h = tt
  typed_reads (Not e) g t h = typed_reads e g BoolTy h.1
  typed_reads (Negative e) g t h = typed_reads e g IntTy h.1
  typed_reads (Binary op a b) g t h =
      let s = sides op (HasType a g) (HasType b g) t h in
      (typed_reads a g s.0.0 s.0.1, typed_reads b g s.1.0 s.1.1)
  typed_reads (Apply f es) g t h = all_typed_read es g h.0.params h.3
  typed_reads (Select m es) g t h =
      (typed_reads m g (Rattle.bg_ast.specs.Values.MapTy h.0 t) h.1, all_typed_read es g (map Rattle.bg_sense.specs.Typing.key_ty h.0) h.2)
  typed_reads (Update m es e) g t h = (
    typed_reads m g (Rattle.bg_ast.specs.Values.MapTy h.0 h.1.0) h.1.2,
    (all_typed_read es g (map Rattle.bg_sense.specs.Typing.key_ty h.0) h.1.3, typed_reads e g h.1.0 h.1.4),
  )
  typed_reads (Old e) g t h = typed_reads e g t h

  pub all_typed_read : (es : Exs) (g : Sig) (ts : List Ty) → HaveTypes es g ts → EachReadsBelow (length g.globals) es
  all_typed_read NoMore g ts h = tt
  all_typed_read (More e es) g [] h = absurd h
  all_typed_read (More e es) g (t ∷ ts) h = (typed_reads e g t h.0, all_typed_read es g ts h.1)

-- ---- arguments in the place of the frame

-- the same moment with another frame
abbrev pub framed : Scope → List Val → Scope
framed c r =
    record { functions = c.functions; constants = c.constants; globals = c.globals; before = c.before; frame = r }

at_worth : (xs : Exs) (j : ℕ) (c : Scope) → ev (ex_at xs j) c ≡ value_at (evs xs c) j
at_worth NoMore j c = refl
at_worth (More e es) zero c = refl
at_worth (More e es) (suc j) c = at_worth es j c

mutual
  pub put_in_worth : (b : Ex) (xs : Exs) (c : Scope) → HasNoOld b → ev (put_in b xs) c ≡ ev b (framed c (evs xs c))
  put_in_worth (Number z) xs c h = refl
  put_in_worth (Fact b) xs c h = refl
  put_in_worth (Constant k) xs c h = refl
  put_in_worth (Read (Global x)) xs c h = refl
  put_in_worth (Read (Local j)) xs c h = at_worth xs j c
  put_in_worth (Not e) xs c h = ap (λ v. Truth (not (truth_of v))) (put_in_worth e xs c h)
  put_in_worth (Negative e) xs c h = ap (λ v. Num (neg_ℤ (number_of v))) (put_in_worth e xs c h)
  put_in_worth (Binary op a b) xs c h =
      ap (λ v. operate op v (ev (put_in b xs) c)) (put_in_worth a xs c h.0)
      ∙ ap (operate op (ev a (framed c (evs xs c)))) (put_in_worth b xs c h.1)
  put_in_worth (Apply f es) xs c h = ap (c.functions f) (put_in_all_worth es xs c h)
  put_in_worth (Select m es) xs c h =
      ap (λ v. select v (map number_of (evs (put_in_all es xs) c))) (put_in_worth m xs c h.0)
      ∙ ap (λ vs. select (ev m (framed c (evs xs c))) (map number_of vs)) (put_in_all_worth es xs c h.1)
  put_in_worth (Update m es e) xs c h =
      ap (λ v. update v (map number_of (evs (put_in_all es xs) c)) (ev (put_in e xs) c)) (put_in_worth m xs c h.0)
      ∙ ap (λ vs. update (ev m (framed c (evs xs c))) (map number_of vs) (ev (put_in e xs) c)) (put_in_all_worth es xs c h.1)
      ∙ ap (update (ev m (framed c (evs xs c))) (map number_of (evs es (framed c (evs xs c))))) (put_in_worth e xs c h.2)
  put_in_worth (Old e) xs c h = absurd h

  put_in_all_worth : (es xs : Exs) (c : Scope) → HaveNoOld es → evs (put_in_all es xs) c ≡ evs es (framed c (evs xs c))
  put_in_all_worth NoMore xs c h = refl
  put_in_all_worth (More e es) xs c h =
      ap (λ v. v ∷ evs (put_in_all es xs) c) (put_in_worth e xs c h.0)
      ∙ ap (λ vs. ev e (framed c (evs xs c)) ∷ vs) (put_in_all_worth es xs c h.1)

at_no_old : (xs : Exs) (j : ℕ) → HaveNoOld xs → HasNoOld (ex_at xs j)
at_no_old NoMore j h = tt
at_no_old (More e es) zero h = h.0
at_no_old (More e es) (suc j) h = at_no_old es j h.1

mutual
  pub put_in_no_old : (b : Ex) (xs : Exs) → HasNoOld b → HaveNoOld xs → HasNoOld (put_in b xs)
  put_in_no_old (Number z) xs h k = tt
  put_in_no_old (Fact b) xs h k = tt
  put_in_no_old (Constant c) xs h k = tt
  put_in_no_old (Read (Global x)) xs h k = tt
  put_in_no_old (Read (Local j)) xs h k = at_no_old xs j k
  put_in_no_old (Not e) xs h k = put_in_no_old e xs h k
  put_in_no_old (Negative e) xs h k = put_in_no_old e xs h k
  put_in_no_old (Binary op a b) xs h k = (put_in_no_old a xs h.0 k, put_in_no_old b xs h.1 k)
  put_in_no_old (Apply f es) xs h k = put_in_all_no_old es xs h k
  put_in_no_old (Select m es) xs h k = (put_in_no_old m xs h.0 k, put_in_all_no_old es xs h.1 k)
  put_in_no_old (Update m es e) xs h k =
      (put_in_no_old m xs h.0 k, put_in_all_no_old es xs h.1 k, put_in_no_old e xs h.2 k)
  put_in_no_old (Old e) xs h k = absurd h

  put_in_all_no_old : (es xs : Exs) → HaveNoOld es → HaveNoOld xs → HaveNoOld (put_in_all es xs)
  put_in_all_no_old NoMore xs h k = tt
  put_in_all_no_old (More e es) xs h k = (put_in_no_old e xs h.0 k, put_in_all_no_old es xs h.1 k)

module _ (g : ℕ) (bodies : ℕ → Option Ex) (plain : (f : ℕ) (b : Ex) → bodies f ≡ Some b → HasNoOld b) where
  applied_no_old : (o : Option Ex) (f : ℕ) (xs : Exs) → bodies f ≡ o → HaveNoOld xs → HasNoOld (applied o f xs)
  applied_no_old None f xs e k = k
  applied_no_old (Some b) f xs e k = put_in_no_old b xs (plain f b e) k

  mutual
    pub opened_no_old : (e : Ex) → HasNoOld e → HasNoOld (opened g bodies e)
    opened_no_old (Number z) h = tt
    opened_no_old (Fact b) h = tt
    opened_no_old (Constant c) h = tt
    opened_no_old (Read x) h = tt
    opened_no_old (Not e) h = opened_no_old e h
    opened_no_old (Negative e) h = opened_no_old e h
    opened_no_old (Binary op a b) h = (opened_no_old a h.0, opened_no_old b h.1)
    opened_no_old (Apply f es) h = applied_no_old (bodies f) f (all_opened g bodies es) refl (all_opened_no_old es h)
    opened_no_old (Select m es) h = (opened_no_old m h.0, all_opened_no_old es h.1)
    opened_no_old (Update m es e) h = (opened_no_old m h.0, all_opened_no_old es h.1, opened_no_old e h.2)
    opened_no_old (Old e) h = absurd h

    all_opened_no_old : (es : Exs) → HaveNoOld es → HaveNoOld (all_opened g bodies es)
    all_opened_no_old NoMore h = tt
    all_opened_no_old (More e es) h = (opened_no_old e h.0, all_opened_no_old es h.1)

-- ---- what is opened

-- the constants' values stand in these from place g on
abbrev pub Behind : ℕ → List Val → List Val → Type 0
Behind g cs hs = (k : ℕ) → value_at hs (g + k) ≡ value_at cs k

-- the first n of these are those
abbrev pub Begins : ℕ → List Val → List Val → Type 0
Begins n hs gs = (x : ℕ) → x < n → value_at hs x ≡ value_at gs x

-- a body says what its function means, wherever the constants' values stand behind those of the globals
pub record Opens (fs : ℕ → List Val → Val) (g : ℕ) (cs ks : List Val) (f : ℕ) (b : Ex) : Type 0 where
  pub no_old : HasNoOld b
  pub worth : (hs ys r : List Val) → Behind g cs hs → Behind g cs ys → ev b (record { functions = fs; constants = ks; globals = hs; before = ys; frame = r }) ≡ fs f r

module _ (fs : ℕ → List Val → Val) (g n : ℕ) (cs ks : List Val) (bodies : ℕ → Option Ex) (opens : (f : ℕ) (b : Ex) → bodies f ≡ Some b → Opens fs g cs ks f b) where
  abbrev C : List Val → List Val → List Val → Scope
  C gs bs r = record { functions = fs; constants = cs; globals = gs; before = bs; frame = r }

  abbrev D : List Val → List Val → List Val → Scope
  D hs ys r = record { functions = fs; constants = ks; globals = hs; before = ys; frame = r }

  applied_worth : (o : Option Ex) (f : ℕ) (xs : Exs) (vs hs ys r : List Val) → bodies f ≡ o → Behind g cs hs → Behind g cs ys → evs xs (D hs ys r) ≡ vs → ev (applied o f xs) (D hs ys r) ≡ fs f vs
  applied_worth None f xs vs hs ys r e b q i = ap (fs f) i
  applied_worth (Some x) f xs vs hs ys r e b q i =
      let o = opens f x e in
      put_in_worth x xs (D hs ys r) o.no_old ∙ o.worth hs ys (evs xs (D hs ys r)) b q ∙ ap (fs f) i

  mutual
    pub opened_worth : (e : Ex) (gs bs hs ys r : List Val) → Behind g cs hs → Behind g cs ys → Begins n hs gs → Begins n ys bs → ReadsBelow n e → ev (opened g bodies e) (D hs ys r) ≡ ev e (C gs bs r)
    opened_worth (Number z) gs bs hs ys r b q s t h = refl
    opened_worth (Fact f) gs bs hs ys r b q s t h = refl
    opened_worth (Constant k) gs bs hs ys r b q s t h = b k
    opened_worth (Read (Global x)) gs bs hs ys r b q s t h = s x h
    opened_worth (Read (Local x)) gs bs hs ys r b q s t h = refl
    opened_worth (Not e) gs bs hs ys r b q s t h =
        ap (λ v. Truth (not (truth_of v))) (opened_worth e gs bs hs ys r b q s t h)
    opened_worth (Negative e) gs bs hs ys r b q s t h =
        ap (λ v. Num (neg_ℤ (number_of v))) (opened_worth e gs bs hs ys r b q s t h)
    opened_worth (Binary op x y) gs bs hs ys r b q s t h =
        ap (λ v. operate op v (ev (opened g bodies y) (D hs ys r))) (opened_worth x gs bs hs ys r b q s t h.0)
        ∙ ap (operate op (ev x (C gs bs r))) (opened_worth y gs bs hs ys r b q s t h.1)
    opened_worth (Apply f es) gs bs hs ys r b q s t h =
        applied_worth (bodies f) f (all_opened g bodies es) (evs es (C gs bs r)) hs ys r refl b q (all_opened_worth es gs bs hs ys r b q s t h)
    opened_worth (Select m es) gs bs hs ys r b q s t h =
        ap (λ v. select v (map number_of (evs (all_opened g bodies es) (D hs ys r)))) (opened_worth m gs bs hs ys r b q s t h.0)
        ∙ ap (λ vs. select (ev m (C gs bs r)) (map number_of vs)) (all_opened_worth es gs bs hs ys r b q s t h.1)
    opened_worth (Update m es e) gs bs hs ys r b q s t h =
        ap (λ v. update v (map number_of (evs (all_opened g bodies es) (D hs ys r))) (ev (opened g bodies e) (D hs ys r))) (opened_worth m gs bs hs ys r b q s t h.0)
        ∙ ap (λ vs. update (ev m (C gs bs r)) (map number_of vs) (ev (opened g bodies e) (D hs ys r))) (all_opened_worth es gs bs hs ys r b q s t h.1.0)
        ∙ ap (update (ev m (C gs bs r)) (map number_of (evs es (C gs bs r)))) (opened_worth e gs bs hs ys r b q s t h.1.1)
    opened_worth (Old e) gs bs hs ys r b q s t h = opened_worth e bs bs ys ys r q q t t h

    pub all_opened_worth : (es : Exs) (gs bs hs ys r : List Val) → Behind g cs hs → Behind g cs ys → Begins n hs gs → Begins n ys bs → EachReadsBelow n es → evs (all_opened g bodies es) (D hs ys r) ≡ evs es (C gs bs r)
    all_opened_worth NoMore gs bs hs ys r b q s t h = refl
    all_opened_worth (More e es) gs bs hs ys r b q s t h =
        ap (λ v. v ∷ evs (all_opened g bodies es) (D hs ys r)) (opened_worth e gs bs hs ys r b q s t h.0)
        ∙ ap (λ vs. ev e (C gs bs r) ∷ vs) (all_opened_worth es gs bs hs ys r b q s t h.1)

-- ---- the bodies of a program's functions

module _ (p : Prog) (i : Interp) (g : ℕ) (ks : List Val) (none : HasNoRecursion p) (typed : AreTypedBodies p) (plain : (f : ℕ) (fn : Fun) (e : Ex) → slice_get p.functions f ≡ Some fn → fn.body ≡ Some e → HasNoOld e) where
  opens_by : (depth f : ℕ) → ((h : ℕ) (b : Ex) → bodies_to g p.functions depth h ≡ Some b → Opens (functions_of p i) g i.constants ks h b) → (b : Ex) (o : Option Fun) → slice_get p.functions f ≡ o → opened_fun (opened g (bodies_to g p.functions depth)) o ≡ Some b → Opens (functions_of p i) g i.constants ks f b
  opens_by depth f deeper b None e q = absurd (let bad : ⊥ = cc in bad)
  opens_by depth f deeper b (Some fn) e q = by_body fn.body refl q
    where
      by_body : (x : Option Ex) → fn.body ≡ x → opened_body (opened g (bodies_to g p.functions depth)) x ≡ Some b → Opens (functions_of p i) g i.constants ks f b
      by_body None r s = absurd (let bad : ⊥ = cc in bad)
      by_body (Some x) r s =
          let same : opened g (bodies_to g p.functions depth) x ≡ b = cc in
          subst (Opens (functions_of p i) g i.constants ks f) same (record {
            no_old = opened_no_old g (bodies_to g p.functions depth) (λ h y z. (deeper h y z).no_old) x (plain f fn x e r);
            worth = λ hs ys fr u v. opened_worth (functions_of p i) g 0 i.constants ks (bodies_to g p.functions depth) deeper x [] [] hs ys fr u v (λ y l. absurd (omega arith)) (λ y l. absurd (omega arith)) (typed_reads x (record { constants = const_types p.constants; functions = p.functions; globals = []; frame = fn.params }) fn.result (typed f fn x e r))
                ∙ sym (unfolds p i none f fn x fr e r);
          })

  pub opens_to : (depth f : ℕ) (b : Ex) → bodies_to g p.functions depth f ≡ Some b → Opens (functions_of p i) g i.constants ks f b
  opens_to zero f b e = absurd (let bad : ⊥ = cc in bad)
  opens_to (suc depth) f b e = opens_by depth f (opens_to depth) b (slice_get p.functions f) refl e

-- ---- what applies functions without a body alone

module _ (funs : List Fun) (fs hs : ℕ → List Val → Val) (same : (f : ℕ) (args : List Val) → not (has_body (raw_bodies funs f)) ≡ true → fs f args ≡ hs f args) (cs ks bs : List Val) where
  abbrev A : List Val → List Val → Scope
  A r ys = record { functions = fs; constants = cs; globals = ys; before = bs; frame = r }

  abbrev B : List Val → List Val → Scope
  B r ys = record { functions = hs; constants = ks; globals = ys; before = bs; frame = r }

  abbrev has_none : ℕ → Bool
  has_none f = not (has_body (raw_bodies funs f))

  mutual
    pub plain_worth : (e : Ex) (r ys : List Val) → is_plain funs e ≡ true → ev e (A r ys) ≡ ev e (B r ys)
    plain_worth (Number z) r ys h = refl
    plain_worth (Fact b) r ys h = refl
    plain_worth (Constant k) r ys h = absurd (let bad : ⊥ = cc in bad)
    plain_worth (Read (Global x)) r ys h = refl
    plain_worth (Read (Local x)) r ys h = refl
    plain_worth (Not e) r ys h = ap (λ v. Truth (not (truth_of v))) (plain_worth e r ys h)
    plain_worth (Negative e) r ys h = ap (λ v. Num (neg_ℤ (number_of v))) (plain_worth e r ys h)
    plain_worth (Binary op a b) r ys h =
        ap (λ v. operate op v (ev b (A r ys))) (plain_worth a r ys (and_left (is_plain funs a) (is_plain funs b) h))
        ∙ ap (operate op (ev a (B r ys))) (plain_worth b r ys (and_right (is_plain funs a) (is_plain funs b) h))
    plain_worth (Apply f es) r ys h =
        ap (fs f) (all_plain_worth es r ys (and_right (has_none f) (are_plain funs es) h))
        ∙ same f (evs es (B r ys)) (and_left (has_none f) (are_plain funs es) h)
    plain_worth (Select m es) r ys h =
        ap (λ v. select v (map number_of (evs es (A r ys)))) (plain_worth m r ys (and_left (is_plain funs m) (are_plain funs es) h))
        ∙ ap (λ vs. select (ev m (B r ys)) (map number_of vs)) (all_plain_worth es r ys (and_right (is_plain funs m) (are_plain funs es) h))
    plain_worth (Update m es e) r ys h =
        let rest = and_right (is_plain funs m) (are_plain funs es && is_plain funs e) h in
        ap (λ v. update v (map number_of (evs es (A r ys))) (ev e (A r ys))) (plain_worth m r ys (and_left (is_plain funs m) (are_plain funs es && is_plain funs e) h))
        ∙ ap (λ vs. update (ev m (B r ys)) (map number_of vs) (ev e (A r ys))) (all_plain_worth es r ys (and_left (are_plain funs es) (is_plain funs e) rest))
        ∙ ap (update (ev m (B r ys)) (map number_of (evs es (B r ys)))) (plain_worth e r ys (and_right (are_plain funs es) (is_plain funs e) rest))
    plain_worth (Old e) r ys h = plain_worth e r bs h

    all_plain_worth : (es : Exs) (r ys : List Val) → are_plain funs es ≡ true → evs es (A r ys) ≡ evs es (B r ys)
    all_plain_worth NoMore r ys h = refl
    all_plain_worth (More e es) r ys h =
        ap (λ v. v ∷ evs es (A r ys)) (plain_worth e r ys (and_left (is_plain funs e) (are_plain funs es) h))
        ∙ ap (λ vs. ev e (B r ys) ∷ vs) (all_plain_worth es r ys (and_right (is_plain funs e) (are_plain funs es) h))

-- Each typed table has a normal form, which gives the same values.
use Rattle.std.proofs.Common.{◌≡◌, suc, Bool, true, false, List, [], ◌∷◌, Some, refl, sym, ap, ◌∙◌, subst, arith, ⊎_elim}
use Rattle.std.specs.Prelude.{not, if◌then◌else◌, IsTrue, All}
use Rattle.bg_ast.specs.Values.{Val, Table, val_eq, is_of}
use Rattle.bg_ast.specs.Syntax.{Fun}
use Rattle.bg_sense.specs.Eval.{vals_eq, entry_for, look_up}
use Rattle.bg_sense.specs.Types.{are_of}
use Rattle.bg_sense.specs.Tables.{vals_lt, is_before, are_entries, is_table}
use Rattle.bg_sense.proofs.Bools.{and_left, and_right, both, bool_cases}
use Rattle.bg_sense.proofs.Keys.{false_true}
use Rattle.bg_sense.proofs.MapLaws.{val_same, val_eq_refl, if_false}
use Rattle.bg_sense.proofs.Order.{vals_compared, vals_lt_self, vals_trans, vals_same}

abbrev Entries : Type 0
Entries = List (List Val × Val)

vals_eq_refl : (vs : List Val) → vals_eq vs vs ≡ true
vals_eq_refl [] = refl
vals_eq_refl (v ∷ vs) = both (val_eq v v) (vals_eq vs vs) (val_eq_refl v) (vals_eq_refl vs)

-- a key below another is not the same
lt_apart : (q k : List Val) → vals_lt q k ≡ true → vals_eq k q ≡ false
lt_apart q k h =
    ⊎_elim
    (λ e. absurd (vals_lt_self q (ap (vals_lt q) (sym (vals_same k q e)) ∙ h)))
    (λ e. e)
    (bool_cases (vals_eq k q))

module _ (f : Fun) (d : Val) where
  record Parts (e : List Val × Val) (es : Entries) : Type 0 where
    key : are_of f.params e.0 ≡ true
    value : is_of f.result e.1 ≡ true
    differs : not (val_eq e.1 d) ≡ true
    before : is_before e.0 es ≡ true
    rest : are_entries f d es ≡ true

  parts : (e : List Val × Val) (es : Entries) → are_entries f d (e ∷ es) ≡ true → Parts e es
  parts e es h =
      let h1 = and_right (are_of f.params e.0) _ h in
      let h2 = and_right (is_of f.result e.1) _ h1 in
      let h3 = and_right (not (val_eq e.1 d)) _ h2 in
      record {
        key = and_left (are_of f.params e.0) _ h;
        value = and_left (is_of f.result e.1) _ h1;
        differs = and_left (not (val_eq e.1 d)) _ h2;
        before = and_left (is_before e.0 es) (are_entries f d es) h3;
        rest = and_right (is_before e.0 es) (are_entries f d es) h3;
      }

  whole : (e : List Val × Val) (es : Entries) → Parts e es → are_entries f d (e ∷ es) ≡ true
  whole e es p =
      both (are_of f.params e.0) _ p.key (both (is_of f.result e.1) _ p.value (both (not (val_eq e.1 d)) _ p.differs (both (is_before e.0 es) (are_entries f d es) p.before p.rest)))

  before_trans : (k q : List Val) (es : Entries) → vals_lt k q ≡ true → is_before q es ≡ true → is_before k es ≡ true
  before_trans k q [] h b = refl
  before_trans k q (e ∷ es) h b = vals_trans k q e.0 h b

  -- before its first key a table gives its default
  before_gives : (q : List Val) (es : Entries) → are_entries f d es ≡ true → is_before q es ≡ true → entry_for es q d ≡ d
  before_gives q [] h b = refl
  before_gives q (e ∷ es) h b =
      let p = parts e es h in
      if_false (vals_eq e.0 q) e.1 (entry_for es q d) (lt_apart q e.0 b) ∙ before_gives q es p.rest (before_trans q e.0 es b p.before)

  -- an entry in front, unless the default says the same
  abbrev front : List Val → Val → Entries → Entries
  front q v es = if val_eq v d then es else (q, v) ∷ es

  -- the entries with another value at one key
  abbrev put : List Val → Val → Entries → Entries
  put q v [] = front q v []
  put q v (e ∷ es) =
      if vals_eq q e.0 then front q v es
      else if vals_lt q e.0 then front q v (e ∷ es)
      else e ∷ put q v es

  front_normal : (q : List Val) (v : Val) (es : Entries) → are_of f.params q ≡ true → is_of f.result v ≡ true → is_before q es ≡ true → are_entries f d es ≡ true → are_entries f d (front q v es) ≡ true
  front_normal q v es a t b h = on (val_eq v d) refl
    where
      on : (c : Bool) → val_eq v d ≡ c → are_entries f d (if c then es else (q, v) ∷ es) ≡ true
      on true e = h
      on false e =
          whole (q, v) es (record { key = a; value = t; differs = ap not e; before = b; rest = h })

  front_before : (k q : List Val) (v : Val) (es : Entries) → vals_lt k q ≡ true → is_before k es ≡ true → is_before k (front q v es) ≡ true
  front_before k q v es l b = on (val_eq v d)
    where
      on : (c : Bool) → is_before k (if c then es else (q, v) ∷ es) ≡ true
      on true = b
      on false = l

  before_if : (b : Bool) (k : List Val) (es fs : Entries) → is_before k es ≡ true → is_before k fs ≡ true → is_before k (if b then es else fs) ≡ true
  before_if true k es fs x y = x
  before_if false k es fs x y = y

  put_before : (k q : List Val) (v : Val) (es : Entries) → are_entries f d es ≡ true → vals_lt k q ≡ true → is_before k es ≡ true → is_before k (put q v es) ≡ true
  put_before k q v [] h l b = front_before k q v [] l refl
  put_before k q v (e ∷ es) h l b =
      before_if
      (vals_eq q e.0)
      k
      (front q v es)
      (if vals_lt q e.0 then front q v (e ∷ es) else e ∷ put q v es)
      (front_before k q v es l (before_trans k e.0 es b (parts e es h).before))
      (before_if (vals_lt q e.0) k (front q v (e ∷ es)) (e ∷ put q v es) (front_before k q v (e ∷ es) l b) b)

  above : (q k : List Val) → are_of f.params q ≡ true → are_of f.params k ≡ true → vals_eq q k ≡ false → vals_lt q k ≡ false → vals_lt k q ≡ true
  above q k a b e l =
      ⊎_elim
      (λ x. absurd (false_true (vals_lt q k) l x))
      (λ o. ⊎_elim (λ x. absurd (false_true (vals_eq q k) e x)) (λ x. x) o)
      (vals_compared f.params q k a b)

  put_normal : (q : List Val) (v : Val) (es : Entries) → are_of f.params q ≡ true → is_of f.result v ≡ true → are_entries f d es ≡ true → are_entries f d (put q v es) ≡ true
  put_normal q v [] a t h = front_normal q v [] a t refl refl
  put_normal q v (e ∷ es) a t h =
      on (vals_eq q e.0) (vals_lt q e.0) refl refl (put_normal q v es a t (parts e es h).rest)
    where
      p : Parts e es
      p = parts e es h

      on : (x y : Bool) → vals_eq q e.0 ≡ x → vals_lt q e.0 ≡ y → are_entries f d (put q v es) ≡ true → are_entries f d (if x then front q v es else if y then front q v (e ∷ es) else e ∷ put q v es) ≡ true
      on true y s l r =
          front_normal q v es a t (subst (λ k. is_before k es ≡ true) (sym (vals_same q e.0 s)) p.before) p.rest
      on false true s l r = front_normal q v (e ∷ es) a t l h
      on false false s l r =
          whole e (put q v es) (record {
            key = p.key;
            value = p.value;
            differs = p.differs;
            before = put_before e.0 q v es p.rest (above q e.0 a p.key s l) p.before;
            rest = r;
          })

  front_gives : (q : List Val) (v : Val) (es : Entries) (args : List Val) → are_entries f d es ≡ true → is_before q es ≡ true → entry_for (front q v es) args d ≡ (if vals_eq q args then v else entry_for es args d)
  front_gives q v es args h b = on (val_eq v d) refl
    where
      at : (x : Bool) → vals_eq q args ≡ x → val_eq v d ≡ true → entry_for es args d ≡ (if x then v else entry_for es args d)
      at true e s =
          ap (λ k. entry_for es k d) (sym (vals_same q args e)) ∙ before_gives q es h b ∙ sym (val_same v d s)
      at false e s = refl

      on : (c : Bool) → val_eq v d ≡ c → entry_for (if c then es else (q, v) ∷ es) args d ≡ (if vals_eq q args then v else entry_for es args d)
      on true s = at (vals_eq q args) refl s
      on false s = refl

  -- where the keys differ, the tests may be made in either order
  swap : (a b : Bool) (v w z : Val) → (a ≡ true → b ≡ true → ⊥) → (if b then w else if a then v else z) ≡ (if a then v else if b then w else z)
  swap true true v w z h = absurd (h refl refl)
  swap true false v w z h = refl
  swap false b v w z h = refl

  put_gives : (q : List Val) (v : Val) (es : Entries) (args : List Val) → are_entries f d es ≡ true → entry_for (put q v es) args d ≡ (if vals_eq q args then v else entry_for es args d)
  put_gives q v [] args h = front_gives q v [] args refl refl
  put_gives q v (e ∷ es) args h =
      on (vals_eq q e.0) (vals_lt q e.0) refl refl (put_gives q v es args (parts e es h).rest)
    where
      p : Parts e es
      p = parts e es h

      skip : (x : Bool) (y : Bool) → x ≡ y → (if x then v else entry_for es args d) ≡ (if x then v else if y then e.1 else entry_for es args d)
      skip true y s = refl
      skip false true s = absurd (let bad : ⊥ = cc in bad)
      skip false false s = refl

      on : (x y : Bool) → vals_eq q e.0 ≡ x → vals_lt q e.0 ≡ y → entry_for (put q v es) args d ≡ (if vals_eq q args then v else entry_for es args d) → entry_for (if x then front q v es else if y then front q v (e ∷ es) else e ∷ put q v es) args d ≡ (if vals_eq q args then v else if vals_eq e.0 args then e.1 else entry_for es args d)
      on true y s l r =
          front_gives q v es args p.rest (subst (λ k. is_before k es ≡ true) (sym (vals_same q e.0 s)) p.before)
          ∙ skip (vals_eq q args) (vals_eq e.0 args) (ap (λ k. vals_eq k args) (vals_same q e.0 s))
      on false true s l r = front_gives q v (e ∷ es) args h l
      on false false s l r =
          ap (λ z. if vals_eq e.0 args then e.1 else z) r
          ∙ swap (vals_eq q args) (vals_eq e.0 args) v e.1 (entry_for es args d) (λ x y. false_true (vals_eq q e.0) s (ap (vals_eq q) (vals_same e.0 args y) ∙ x))

  -- what holds of typed entries
  abbrev Typed : List Val × Val → Type 0
  Typed e = IsTrue (are_of f.params e.0) × IsTrue (is_of f.result e.1)

  formed : (es : Entries) → All Typed es → (fs : Entries) × ((are_entries f d fs ≡ true) × ((args : List Val) → entry_for fs args d ≡ entry_for es args d))
  formed [] h = ([], (refl, λ args. refl))
  formed (e ∷ es) h =
      let r = formed es (λ k x l. h (suc k) x (omega arith)) in
      let t = h 0 e (omega arith) in (
        put e.0 e.1 r.0,
        (put_normal e.0 e.1 r.0 t.0 t.1 r.1.0, λ args. put_gives e.0 e.1 r.0 args r.1.0 ∙ ap (λ z. if vals_eq e.0 args then e.1 else z) (r.1.1 args)),
      )

pub normal_form : (f : Fun) (t : Table) → IsTrue (is_of f.result t.default) → All (λ e. IsTrue (are_of f.params e.0) × IsTrue (is_of f.result e.1)) t.entries → (u : Table) × (IsTrue (is_table f u) × ((args : List Val) → look_up (Some u) args ≡ look_up (Some t) args))
normal_form f t h es =
    let r = formed f t.default t.entries es in (
      record { entries = r.0; default = t.default },
      (both (is_of f.result t.default) (are_entries f t.default r.0) h r.1.0, r.1.1),
    )

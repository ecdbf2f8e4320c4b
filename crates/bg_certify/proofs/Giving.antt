-- Values and tables that a certificate gives are read back as they were, and fit.
use Rattle.std.proofs.Common.{◌≡◌, ℕ, zero, suc, ℤ, Bool, true, false, List, [], ◌∷◌, length, map, drop, refl, sym, ap, ◌∙◌, arith}
use Rattle.std.proofs.lemmas.Bool.{eqb-true}
use Rattle.std.proofs.lemmas.Slice.Eq.{bytes_eq-Decides}
use Rattle.std.specs.Prelude.{◌&&◌, not, if◌then◌else◌, Option, Some, None, is_some, slice_get}
use Rattle.std.specs.Str.{bytes_eq}
use Rattle.bg_ast.specs.Values as v
use Rattle.bg_ast.specs.Values.{KeyType, IntKey, UserKey, Ty, IntTy, BoolTy, UserTy, MapTy, Val, Table, val_eq, is_of, is_map, result_of, default_of, below_first, takes_parts}
use Rattle.bg_ast.specs.Syntax.{Fun}
use Rattle.bg_ast.specs.Meaning.{type_in, named_of, fun_of, body_of, const_of}
use Rattle.bg_ast.specs.Resolved as r
use Rattle.bg_sense.specs.Types.{are_of, types_of}
use Rattle.bg_sense.specs.Tables as sense
use Rattle.bg_sense.proofs.Bools.{both, and_left, and_right}
use Rattle.bg_replay.specs.Holds.{type_at}
use Rattle.bg_opened.specs.Exprs.{raw_bodies}
use Rattle.bg_opened.specs.Programs.{bodiless}
use Rattle.bg_opened.specs.Programs as meant
use Rattle.bg_opened.specs.Written.{global_for}
use Rattle.bg_inference.specs.Outcomes.{has_body}
use Rattle.bg_certtext.specs.Views.{ValueOf, EntryOf, FunctionOf}
use Rattle.bg_confirm.specs.Typed as typed
use Rattle.bg_confirm.specs.Typed.{name_of, part_fits, index_fits, value_fits, values_fit, functions_fit}
use Rattle.bg_confirm.specs.Met as met
use Rattle.bg_confirm.specs.Met.{number_at, val_for, vals_for, first_table, tables_by, AreTablesOf}
use Rattle.bg_certify.specs.Given.{HeadOf, name_or_none, type_names, part_of, index_of, keys_in, value_of, values_of, givens, entry_of, function_of, functions, constant_names, constant_types, declared_names, declared_types, head_of, heads}

-- ---- names and types

pub same_names : (cs : List r.Const) → declared_names (map global_for cs) ≡ constant_names cs
same_names [] = refl
same_names (c ∷ cs) = ap (λ (l : List (List ℕ)). c.name.text ∷ l) (same_names cs)

pub same_types : (types : List r.TypeName) (cs : List r.Const) → declared_types types (map global_for cs) ≡ constant_types types cs
same_types types [] = refl
same_types types (c ∷ cs) = ap (λ (l : List Ty). type_in (named_of types) c.ty ∷ l) (same_types types cs)

-- the same of the constants' meaning
pub meant_types : (types : List r.TypeName) (cs : List r.Const) → types_of (map meant.global_for (map (const_of (named_of types)) cs)) ≡ constant_types types cs
meant_types types [] = refl
meant_types types (c ∷ cs) = ap (λ (l : List Ty). type_in (named_of types) c.ty ∷ l) (meant_types types cs)

body_alike : (o : Option r.Ex) → sense.has_body (body_of o) ≡ is_some o
body_alike None = refl
body_alike (Some e) = refl

name_alike : (ds : List r.TypeName) (k : ℕ) → name_of (slice_get ds k) ≡ name_or_none (slice_get (type_names ds) k)
name_alike [] k = refl
name_alike (d ∷ ds) zero = refl
name_alike (d ∷ ds) (suc k) = name_alike ds k

less_by_one : (m n : ℕ) → suc m ≡ suc n → m ≡ n
less_by_one m n e = omega (arith, e)

-- ---- what is given is read back, where it is typed

module _ (types : List r.TypeName) where
  abbrev N : List (List ℕ)
  N = type_names types

  pub names_back : (ns : List (List ℕ)) (ts : List Ty) (xs : List Val) → length ns ≡ length xs → map (λ g. g.name) (givens N ns ts xs) ≡ ns
  names_back [] ts xs h = refl
  names_back (n ∷ ns) ts [] h = absurd (omega (arith, h))
  names_back (n ∷ ns) ts (x ∷ xs) h = ap (λ (l : List (List ℕ)). n ∷ l) (names_back ns (drop 1 ts) xs (omega (arith, h)))

  pub values_given : (ns : List (List ℕ)) (ts : List Ty) (xs : List Val) → length ns ≡ length xs → map (λ g. g.value) (givens N ns ts xs) ≡ values_of N ts xs
  values_given [] ts [] h = refl
  values_given [] ts (x ∷ xs) h = absurd (omega (arith, h))
  values_given (n ∷ ns) ts [] h = absurd (omega (arith, h))
  values_given (n ∷ ns) ts (x ∷ xs) h =
      ap (λ (l : List ValueOf). value_of N (type_at ts 0) x ∷ l) (values_given ns (drop 1 ts) xs (omega (arith, h)))

  -- ---- indices

  number_back : (k : KeyType) (z : ℤ) → number_at (part_of N k z) ≡ z
  number_back IntKey z = refl
  number_back (UserKey k) z = refl

  numbers_back : (ks : List KeyType) (zs : List ℤ) → map number_at (index_of N ks zs) ≡ zs
  numbers_back ks [] = refl
  numbers_back [] (z ∷ zs) = ap (λ (l : List ℤ). z ∷ l) (numbers_back [] zs)
  numbers_back (k ∷ ks) (z ∷ zs) =
      ap (λ (y : ℤ). y ∷ map number_at (index_of N ks zs)) (number_back k z)
      ∙ ap (λ (l : List ℤ). z ∷ l) (numbers_back ks zs)

  element_fit : (k : ℕ) → bytes_eq (name_of (slice_get types k)) (name_or_none (slice_get N k)) ≡ true
  element_fit k = (bytes_eq-Decides (name_of (slice_get types k)) (name_or_none (slice_get N k))).1 (name_alike types k)

  part_fit : (k : KeyType) (z : ℤ) → part_fits types k (part_of N k z) ≡ true
  part_fit IntKey z = refl
  part_fit (UserKey k) z = element_fit k

  index_fit : (ks : List KeyType) (zs : List ℤ) → length ks ≡ length zs → index_fits types ks (index_of N ks zs) ≡ true
  index_fit [] [] h = refl
  index_fit [] (z ∷ zs) h = absurd (omega (arith, h))
  index_fit (k ∷ ks) [] h = absurd (omega (arith, h))
  index_fit (k ∷ ks) (z ∷ zs) h =
      both (part_fits types k (part_of N k z)) (index_fits types ks (index_of N ks zs)) (part_fit k z) (index_fit ks zs (less_by_one (length ks) (length zs) h))

  -- ---- values

  -- what an entry in front of a map of a type is made of
  entry_parts : (t : Ty) (k : List ℤ) (x m : Val) → is_of t (v.Entry k x m) ≡ true → (takes_parts t (length k) ≡ true) × ((is_of (result_of t) x ≡ true) × (is_of t m ≡ true))
  entry_parts t k x m h =
      let rest = and_right (takes_parts t (length k)) _ h in
      let behind = and_right (not (val_eq x (default_of m))) _ (and_right (is_of (result_of t) x) _ rest) in (
        and_left (takes_parts t (length k)) _ h,
        (and_left (is_of (result_of t) x) _ rest, and_right (below_first k m) (is_of t m) behind),
      )

  value_back : (t : Ty) (x : Val) → is_of t x ≡ true → val_for t (value_of N t x) ≡ x
  value_back t (v.Num z) h = refl
  value_back t (v.Truth b) h = refl
  value_back IntTy (v.Element k z) h = absurd (let bad : ⊥ = cc in bad)
  value_back BoolTy (v.Element k z) h = absurd (let bad : ⊥ = cc in bad)
  value_back (UserTy j) (v.Element k z) h = ap (λ (n : ℕ). v.Element n z) (eqb-true j k h)
  value_back (MapTy ks t) (v.Element k z) h = absurd (let bad : ⊥ = cc in bad)
  value_back t (v.Default d) h = ap v.Default (value_back (result_of t) d (and_right (is_map t) (is_of (result_of t) d) h))
  value_back t (v.Entry k x m) h =
      let parts = entry_parts t k x m h in
      ap (λ (l : List ℤ). v.Entry l (val_for (result_of t) (value_of N (result_of t) x)) (val_for t (value_of N t m))) (numbers_back (keys_in t) k)
      ∙ (ap (λ (y : Val). v.Entry k y (val_for t (value_of N t m))) (value_back (result_of t) x parts.1.0)
      ∙ ap (λ (n : Val). v.Entry k x n) (value_back t m parts.1.1))

  value_fit : (t : Ty) (x : Val) → is_of t x ≡ true → value_fits types t (value_of N t x) ≡ true
  value_fit IntTy (v.Num z) h = refl
  value_fit IntTy (v.Truth b) h = absurd (let bad : ⊥ = cc in bad)
  value_fit IntTy (v.Element k z) h = absurd (let bad : ⊥ = cc in bad)
  value_fit IntTy (v.Default d) h = absurd (let bad : ⊥ = cc in bad)
  value_fit IntTy (v.Entry k x m) h = absurd (let bad : ⊥ = cc in bad)
  value_fit BoolTy (v.Num z) h = absurd (let bad : ⊥ = cc in bad)
  value_fit BoolTy (v.Truth b) h = refl
  value_fit BoolTy (v.Element k z) h = absurd (let bad : ⊥ = cc in bad)
  value_fit BoolTy (v.Default d) h = absurd (let bad : ⊥ = cc in bad)
  value_fit BoolTy (v.Entry k x m) h = absurd (let bad : ⊥ = cc in bad)
  value_fit (UserTy j) (v.Num z) h = absurd (let bad : ⊥ = cc in bad)
  value_fit (UserTy j) (v.Truth b) h = absurd (let bad : ⊥ = cc in bad)
  value_fit (UserTy j) (v.Element k z) h =
      ap (λ (n : ℕ). bytes_eq (name_of (slice_get types n)) (name_or_none (slice_get N k))) (eqb-true j k h) ∙ element_fit k
  value_fit (UserTy j) (v.Default d) h = absurd (let bad : ⊥ = cc in bad)
  value_fit (UserTy j) (v.Entry k x m) h = absurd (let bad : ⊥ = cc in bad)
  value_fit (MapTy ks t) (v.Num z) h = absurd (let bad : ⊥ = cc in bad)
  value_fit (MapTy ks t) (v.Truth b) h = absurd (let bad : ⊥ = cc in bad)
  value_fit (MapTy ks t) (v.Element k z) h = absurd (let bad : ⊥ = cc in bad)
  value_fit (MapTy ks t) (v.Default d) h = value_fit t d h
  value_fit (MapTy ks t) (v.Entry k x m) h =
      let parts = entry_parts (MapTy ks t) k x m h in
      both (index_fits types ks (index_of N ks k)) (value_fits types t (value_of N t x) && value_fits types (MapTy ks t) (value_of N (MapTy ks t) m)) (index_fit ks k (eqb-true (length ks) (length k) parts.0))
      (both (value_fits types t (value_of N t x)) (value_fits types (MapTy ks t) (value_of N (MapTy ks t) m)) (value_fit t x parts.1.0) (value_fit (MapTy ks t) m parts.1.1))

  pub values_back : (ts : List Ty) (xs : List Val) → are_of ts xs ≡ true → vals_for ts (values_of N ts xs) ≡ xs
  values_back [] [] h = refl
  values_back [] (x ∷ xs) h = absurd (let bad : ⊥ = cc in bad)
  values_back (t ∷ ts) [] h = absurd (let bad : ⊥ = cc in bad)
  values_back (t ∷ ts) (x ∷ xs) h =
      ap (λ (y : Val). y ∷ vals_for ts (values_of N ts xs)) (value_back t x (and_left (is_of t x) (are_of ts xs) h))
      ∙ ap (λ (l : List Val). x ∷ l) (values_back ts xs (and_right (is_of t x) (are_of ts xs) h))

  pub values_fitting : (ts : List Ty) (xs : List Val) → are_of ts xs ≡ true → values_fit types ts (values_of N ts xs) ≡ true
  values_fitting [] [] h = refl
  values_fitting [] (x ∷ xs) h = absurd (let bad : ⊥ = cc in bad)
  values_fitting (t ∷ ts) [] h = absurd (let bad : ⊥ = cc in bad)
  values_fitting (t ∷ ts) (x ∷ xs) h =
      both (value_fits types t (value_of N t x)) (values_fit types ts (values_of N ts xs)) (value_fit t x (and_left (is_of t x) (are_of ts xs) h)) (values_fitting ts xs (and_right (is_of t x) (are_of ts xs) h))

  -- ---- tables

  module _ (f : Fun) where
    abbrev given_entries : List (List Val × Val) → List EntryOf
    given_entries es = map (entry_of N f.params f.result) es

    entries_back : (d : Val) (es : List (List Val × Val)) → sense.are_entries f d es ≡ true → map (met.entry_of f) (given_entries es) ≡ es
    entries_back d [] h = refl
    entries_back d (e ∷ es) h =
        let key = and_left (are_of f.params e.0) _ h in
        let h1 = and_right (are_of f.params e.0) _ h in
        let value = and_left (is_of f.result e.1) _ h1 in
        let h2 = and_right (not (val_eq e.1 d)) _ (and_right (is_of f.result e.1) _ h1) in
        let others = and_right (sense.is_before e.0 es) _ h2 in
        ap (λ (k : List Val). (k, val_for f.result (value_of N f.result e.1)) ∷ map (met.entry_of f) (given_entries es)) (values_back f.params e.0 key)
        ∙ (ap (λ (x : Val). (e.0, x) ∷ map (met.entry_of f) (given_entries es)) (value_back f.result e.1 value)
        ∙ ap (λ (l : List (List Val × Val)). e ∷ l) (entries_back d es others))

    entries_fit : (d : Val) (es : List (List Val × Val)) → sense.are_entries f d es ≡ true → typed.entries_fit types f (given_entries es) ≡ true
    entries_fit d [] h = refl
    entries_fit d (e ∷ es) h =
        let key = and_left (are_of f.params e.0) _ h in
        let h1 = and_right (are_of f.params e.0) _ h in
        let value = and_left (is_of f.result e.1) _ h1 in
        let h2 = and_right (not (val_eq e.1 d)) _ (and_right (is_of f.result e.1) _ h1) in
        let others = and_right (sense.is_before e.0 es) _ h2 in
        both (typed.entry_fits types f (entry_of N f.params f.result e)) (typed.entries_fit types f (given_entries es))
        (both (values_fit types f.params (values_of N f.params e.0)) (value_fits types f.result (value_of N f.result e.1)) (values_fitting f.params e.0 key) (value_fit f.result e.1 value))
        (entries_fit d es others)

    abbrev named : List ℕ → HeadOf
    named n = record { name = n; params = f.params; result = f.result }

    table_back : (name : List ℕ) (t : Table) → sense.is_table f t ≡ true → met.table_of f (function_of N (named name) t) ≡ t
    table_back name t h =
        let default = value_back f.result t.default (and_left (is_of f.result t.default) (sense.are_entries f t.default t.entries) h) in
        let entries = entries_back t.default t.entries (and_right (is_of f.result t.default) (sense.are_entries f t.default t.entries) h) in
        ap (λ (d : Val). let u : Table = record { entries = map (met.entry_of f) (given_entries t.entries); default = d } in u) default
        ∙ ap (λ (es : List (List Val × Val)). let u : Table = record { entries = es; default = t.default } in u) entries

    table_fit : (name : List ℕ) (t : Table) → sense.is_table f t ≡ true → typed.table_fits types f (function_of N (named name) t) ≡ true
    table_fit name t h =
        both (value_fits types f.result (value_of N f.result t.default)) (typed.entries_fit types f (given_entries t.entries))
        (value_fit f.result t.default (and_left (is_of f.result t.default) (sense.are_entries f t.default t.entries) h))
        (entries_fit t.default t.entries (and_right (is_of f.result t.default) (sense.are_entries f t.default t.entries) h))

  -- the tables of functions without a body, by the names, types and bodies of a program's functions
  abbrev pub given_to : List r.Fun → List Table → List FunctionOf
  given_to fs ts = functions N (heads types fs) (map has_body fs) ts

  abbrev one : r.Fun → Fun
  one f = fun_of (named_of types) f

  abbrev funs : List r.Fun → List Fun
  funs fs = map one fs

  abbrev AreTables : List r.Fun → List Table → Type 0
  AreTables fs ts = sense.are_tables (map bodiless (funs fs)) ts ≡ true

  -- what is given to a function and others behind it, where it has a body or not
  abbrev gs : r.Fun → List r.Fun → Table → List Table → Bool → List FunctionOf
  gs f fs t ts b = if b then given_to fs ts else function_of N (head_of types f) t ∷ given_to fs ts

  is_one : (f : r.Fun) (fs : List r.Fun) (t : Table) (ts : List Table) → AreTables (f ∷ fs) (t ∷ ts) → sense.is_table (one f) t ≡ true
  is_one f fs t ts h =
      and_left (sense.is_table (one f) t) true (and_left (sense.is_table_of (bodiless (one f)) t) (sense.are_tables (map bodiless (funs fs)) ts) h)

  are_others : (f : r.Fun) (fs : List r.Fun) (t : Table) (ts : List Table) → AreTables (f ∷ fs) (t ∷ ts) → AreTables fs ts
  are_others f fs t ts h = and_right (sense.is_table_of (bodiless (one f)) t) (sense.are_tables (map bodiless (funs fs)) ts) h

  -- they are those of the functions, by name and type
  pub functions_back : (fs : List r.Fun) (ts : List Table) → AreTables fs ts → functions_fit types fs (given_to fs ts) ≡ true
  functions_back [] [] h = refl
  functions_back [] (t ∷ ts) h = absurd (let bad : ⊥ = cc in bad)
  functions_back (f ∷ fs) [] h = absurd (let bad : ⊥ = cc in bad)
  functions_back (f ∷ fs) (t ∷ ts) h = by (is_some f.body) (functions_back fs ts (are_others f fs t ts h))
    where
      by : (b : Bool) → functions_fit types fs (given_to fs ts) ≡ true →
          (if b then functions_fit types fs (gs f fs t ts b) else typed.first_fits types f (gs f fs t ts b) && functions_fit types fs (drop 1 (gs f fs t ts b))) ≡ true
      by true e = e
      by false e =
          let g = function_of N (head_of types f) t in
          both (typed.function_fits types f g) (functions_fit types fs (given_to fs ts))
          (both (bytes_eq f.name.text f.name.text) (typed.table_fits types (one f) g) ((bytes_eq-Decides f.name.text f.name.text).1 refl) (table_fit (one f) f.name.text t (is_one f fs t ts h))) e

  abbrev made : r.Fun → List r.Fun → Table → List Table → Bool → Bool → List Table
  made f fs t ts c b =
      if c then met.blank (one f) ∷ tables_by (funs fs) (gs f fs t ts b)
      else first_table (one f) (gs f fs t ts b) ∷ tables_by (funs fs) (drop 1 (gs f fs t ts b))

  -- where a function has no body its table is that of the certificate
  pub tables_back : (fs : List r.Fun) (ts : List Table) → AreTables fs ts → AreTablesOf (funs fs) (given_to fs ts) ts
  tables_back [] [] h k none = refl
  tables_back [] (t ∷ ts) h k none = absurd (let bad : ⊥ = cc in bad)
  tables_back (f ∷ fs) [] h k none = absurd (let bad : ⊥ = cc in bad)
  tables_back (f ∷ fs) (t ∷ ts) h k none = by (λ n e. tables_back fs ts (are_others f fs t ts h) n e) (is_some f.body) (body_alike f.body) k none
    where
      here : met.table_of (one f) (function_of N (head_of types f) t) ≡ t
      here = table_back (one f) f.name.text t (is_one f fs t ts h)

      by : AreTablesOf (funs fs) (given_to fs ts) ts → (b : Bool) → sense.has_body (one f).body ≡ b → (k : ℕ) → sense.has_body (raw_bodies (funs (f ∷ fs)) k) ≡ false →
          slice_get (t ∷ ts) k ≡ slice_get (made f fs t ts (sense.has_body (one f).body) b) k
      by others true e zero none = absurd (let bad : true ≡ false = sym e ∙ none in cc)
      by others true e (suc k) none = others k none ∙ ap (λ (c : Bool). slice_get (made f fs t ts c true) (suc k)) (sym e)
      by others false e zero none = ap (λ (u : Table). Some u) (sym here) ∙ ap (λ (c : Bool). slice_get (made f fs t ts c false) 0) (sym e)
      by others false e (suc k) none = others k none ∙ ap (λ (c : Bool). slice_get (made f fs t ts c false) (suc k)) (sym e)

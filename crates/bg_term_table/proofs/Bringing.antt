-- What lines bring, as the code finds it.
use Rattle.std.proofs.Common.{◌≡◌, ℕ, zero, suc, ◌+◌, ◌<◌, Bool, true, ◌&&◌, List, [], ◌∷◌, ◌++◌, length, get_or, drop, Option, Some, None, refl, sym, ap, ◌∙◌, append_assoc, arith}
use Rattle.std.specs.Prelude.{slice_get}
use Rattle.std.proofs.lemmas.List.{drop_more}
use Rattle.std.proofs.lemmas.Option.{slice_get-get_or}
use Rattle.bg_ast.specs.Values.{KeyType, IntKey, Ty, IntTy, BoolTy, UserTy, MapTy, result_of}
use Rattle.bg_ast.specs.Syntax.{Ex, Exs, Fun, Read, Local, NoMore, More}
use Rattle.bg_sense.specs.Types.{key_types_eq, ty_eq}
use Rattle.bg_terms.specs.Terms.{Selects, Updates, Differs, Term}
use Rattle.bg_terms.specs.Typed.{types_with}
use Rattle.bg_kinds.specs.Views.{keys_of, ref_in}
use Rattle.bg_numbered.specs.Put.{key_or, keys_in, ty_or, made}
use Rattle.bg_numbered.specs.Lines.{select_from, behind_map, behind_value, pick_at, pick_by, parts_from, reads_from, names_at, if_fit, names_by, named, is_any}
use Rattle.bg_term_table.specs.declared.table.Term as kept
use Rattle.bg_term_table.specs.declared.bring.Maps.{Maps}
use Rattle.bg_term_table.specs.Views.{listed, terms_in}
use Rattle.bg_term_table.specs.Brought.{has_index, selects, parts, names_of, read_list}

-- ---- picks

pub not_picked : (t : Ty) (m : ℕ) (a : Term) → ((ks : List KeyType) (u : Ty) → pick_at ks u m a.head a.args ≡ []) → [] ≡ pick_by (Some t) m (Some a)
not_picked IntTy m a h = refl
not_picked BoolTy m a h = refl
not_picked (UserTy u) m a h = refl
not_picked (MapTy [] u) m a h = refl
not_picked (MapTy (k ∷ ks) u) m a h = sym (h (k ∷ ks) u)

pub picked_select : (t : Ty) (m : ℕ) (a : Term) (ls : List KeyType) (v : Ty) → a.head ≡ Selects ls v → selects t m ls (behind_map a.args) ≡ pick_by (Some t) m (Some a)
picked_select IntTy m a ls v h = refl
picked_select BoolTy m a ls v h = refl
picked_select (UserTy u) m a ls v h = refl
picked_select (MapTy [] u) m a ls v h = refl
picked_select (MapTy (k ∷ ks) u) m a ls v h = sym (ap (λ x. pick_at (k ∷ ks) u m x a.args) h)

pub picked_update : (t : Ty) (m : ℕ) (a : Term) (ls : List KeyType) (v : Ty) → a.head ≡ Updates ls v → selects t m ls (behind_value a.args) ≡ pick_by (Some t) m (Some a)
picked_update IntTy m a ls v h = refl
picked_update BoolTy m a ls v h = refl
picked_update (UserTy u) m a ls v h = refl
picked_update (MapTy [] u) m a ls v h = refl
picked_update (MapTy (k ∷ ks) u) m a ls v h = sym (ap (λ x. pick_at (k ∷ ks) u m x a.args) h)

pub no_term : (o : Option Ty) (m : ℕ) → [] ≡ pick_by o m None
no_term None m = refl
no_term (Some IntTy) m = refl
no_term (Some BoolTy) m = refl
no_term (Some (UserTy u)) m = refl
no_term (Some (MapTy [] u)) m = refl
no_term (Some (MapTy (k ∷ ks) u)) m = refl

pub by_type : (o : Option Ty) (m : ℕ) (a : Option Term) → pick_by (Some (ty_or o)) m a ≡ pick_by o m a
by_type None m a = refl
by_type (Some t) m a = refl

-- the index behind a map, and behind a map and a new value
pub behind_one : (xs : List Ex) → listed (drop 1 xs) ≡ behind_map (listed xs)
behind_one [] = refl
behind_one (x ∷ xs) = refl

pub behind_two : (xs : List Ex) → listed (drop 2 xs) ≡ behind_value (listed xs)
behind_two [] = refl
behind_two (x ∷ []) = refl
behind_two (x ∷ (y ∷ xs)) = refl

-- ---- names

abbrev pub fits : (t u : Ty) → Bool
fits t u = has_index (keys_in t) && (key_types_eq (keys_in t) (keys_in u) && ty_eq (result_of t) (result_of u))

abbrev pub Named : (a b : Option Ty) → (n m o : ℕ) → Type 0
Named a b n m o = names_by a b n m o ≡ if_fit (fits (ty_or a) (ty_or b)) (names_at (keys_in (ty_or a)) (result_of (ty_or a)) n m o)

named_map : (k : KeyType) (ks : List KeyType) (t : Ty) (b : Option Ty) (n m o : ℕ) → Named (Some (MapTy (k ∷ ks) t)) b n m o
named_map k ks t None n m o = refl
named_map k ks t (Some IntTy) n m o = refl
named_map k ks t (Some BoolTy) n m o = refl
named_map k ks t (Some (UserTy u)) n m o = refl
named_map k ks t (Some (MapTy ls u)) n m o = refl

pub named_is : (a b : Option Ty) (n m o : ℕ) → Named a b n m o
named_is None b n m o = refl
named_is (Some IntTy) b n m o = refl
named_is (Some BoolTy) b n m o = refl
named_is (Some (UserTy u)) b n m o = refl
named_is (Some (MapTy [] t)) b n m o = refl
named_is (Some (MapTy (k ∷ ks) t)) b n m o = named_map k ks t b n m o

pub some_named : (ks : List KeyType) (t : Ty) (n m o : ℕ) → is_any (names_at ks t n m o) ≡ true
some_named [] t n m o = refl
some_named (k ∷ ks) t n m o = refl

-- of types as they are kept
pub one_named : (x y : Maps) (a b : Option Ty) (n m o : ℕ) → keys_of x.keys ≡ keys_in (ty_or a) → ref_in x.gives ≡ result_of (ty_or a) → keys_of y.keys ≡ keys_in (ty_or b) → ref_in y.gives ≡ result_of (ty_or b) → names_by a b n m o ≡ if_fit (has_index (keys_of x.keys) && (key_types_eq (keys_of x.keys) (keys_of y.keys) && ty_eq (ref_in x.gives) (ref_in y.gives))) (names_at (keys_of x.keys) (ref_in x.gives) n m o)
one_named x y a b n m o xk xg yk yg =
    named_is a b n m o
    ∙ ap (λ k. if_fit (has_index k && (key_types_eq k (keys_in (ty_or b)) && ty_eq (result_of (ty_or a)) (result_of (ty_or b)))) (names_at k (result_of (ty_or a)) n m o)) (sym xk)
    ∙ ap (λ t. if_fit (has_index (keys_of x.keys) && (key_types_eq (keys_of x.keys) (keys_in (ty_or b)) && ty_eq t (result_of (ty_or b)))) (names_at (keys_of x.keys) t n m o)) (sym xg)
    ∙ ap (λ k. if_fit (has_index (keys_of x.keys) && (key_types_eq (keys_of x.keys) k && ty_eq (ref_in x.gives) (result_of (ty_or b)))) (names_at (keys_of x.keys) (ref_in x.gives) n m o)) (sym yk)
    ∙ ap (λ t. if_fit (has_index (keys_of x.keys) && (key_types_eq (keys_of x.keys) (keys_of y.keys) && ty_eq (ref_in x.gives) t)) (names_at (keys_of x.keys) (ref_in x.gives) n m o)) (sym yg)

-- of terms that are seen as they are
pub named_as : (fs : List Fun) (incs : List Ty) (seen now : List kept.Term) (t : Option Maps) (m o : ℕ) → seen ≡ now → ((n : ℕ) → names_of t n m o ≡ names_by (slice_get (types_with incs (terms_in fs seen)) m) (slice_get (types_with incs (terms_in fs seen)) o) n m o) → named incs (terms_in fs now) m o ≡ names_of t (length incs + length (terms_in fs now)) m o
named_as fs incs seen now t m o same h =
    let n = length incs + length (terms_in fs now) in
    sym (h n ∙ ap (λ l. names_by (slice_get (types_with incs (terms_in fs l)) m) (slice_get (types_with incs (terms_in fs l)) o) n m o) same)

-- the parts, and both selects
pub two_selects : (ks : List KeyType) (t : Ty) (n m o : ℕ) (xs ys : Exs) (old one two new : List Term) → one ≡ old ++ parts ks t m o → two ≡ one ++ select_from ks t m xs ∷ [] → new ≡ two ++ select_from ks t o ys ∷ [] → xs ≡ reads_from n ks → ys ≡ reads_from n ks → new ≡ old ++ names_at ks t n m o
two_selects ks t n m o xs ys old one two new a b d x y =
    let at = select_from ks t m in
    let with = select_from ks t o in
    d
    ∙ ap (λ l. l ++ with ys ∷ []) (b ∙ ap (λ l. l ++ at xs ∷ []) a)
    ∙ append_assoc (old ++ parts ks t m o) (at xs ∷ []) (with ys ∷ [])
    ∙ append_assoc old (parts ks t m o) (at xs ∷ with ys ∷ [])
    ∙ ap (λ l. old ++ (parts ks t m o ++ l)) (ap (λ q. at q ∷ with ys ∷ []) x ∙ ap (λ q. at (reads_from n ks) ∷ with q ∷ []) y)

-- ---- parts

module _ (fs : List Fun) (ks : List KeyType) (t : Ty) (m o : ℕ) where
  abbrev maps : Exs
  maps = More (Read (Local m)) (More (Read (Local o)) NoMore)

  -- one part more
  pub part_more : (before : List Term) (rest : List KeyType) (i : ℕ) (k : KeyType) → slice_get ks i ≡ Some k → (before ++ made fs (Differs ks t i) maps ∷ []) ++ parts_from ks t m o (suc i) rest ≡ before ++ parts_from ks t m o i (k ∷ rest)
  part_more before rest i k h =
      append_assoc before (made fs (Differs ks t i) maps ∷ []) (parts_from ks t m o (suc i) rest)
      ∙ ap (λ u. before ++ (record { head = Differs ks t i; args = maps; ty = key_or u }) ∷ parts_from ks t m o (suc i) rest) h

  -- the same of a part as the code has it
  pub part_put : (i : ℕ) (old new : List Term) (own : List KeyType) (u : Ty) (part : ℕ) (args : Exs) → i < length ks → new ≡ old ++ made fs (Differs own u part) args ∷ [] → own ≡ ks → u ≡ t → part ≡ 0 + i → args ≡ maps → new ++ parts_from ks t m o (i + 1) (drop (i + 1) ks) ≡ old ++ parts_from ks t m o i (drop i ks)
  part_put i old new own u part args less put a b d e =
      let next : i + 1 ≡ suc i = omega arith in
      let place : part ≡ i = d ∙ (let none : 0 + i ≡ i = omega arith in none) in
      let same : made fs (Differs own u part) args ≡ made fs (Differs ks t i) maps =
      ap (λ k. made fs (Differs k u part) args) a ∙ ap (λ v. made fs (Differs ks v part) args) b ∙ ap (λ j. made fs (Differs ks t j) args) place ∙ ap (made fs (Differs ks t i)) e in
      let rest = drop (i + 1) ks in
      ap (λ l. l ++ parts_from ks t m o (i + 1) rest) (put ∙ ap (λ x. old ++ x ∷ []) same)
      ∙ ap (λ j. (old ++ made fs (Differs ks t i) maps ∷ []) ++ parts_from ks t m o j rest) next
      ∙ part_more old rest i (get_or ks i IntKey) (slice_get-get_or ks i IntKey less)
      ∙ ap (λ l. old ++ parts_from ks t m o i l) (sym (drop_more ks i IntKey less))

-- ---- reads

pub read_same : (n : ℕ) (ks : List KeyType) → reads_from n ks ≡ read_list n (length ks)
read_same n [] = refl
read_same n (k ∷ ks) = ap (More (Read (Local n))) (read_same (suc n) ks)

abbrev pub with_last : Exs → Ex → Exs
with_last NoMore x = More x NoMore
with_last (More y ys) x = More y (with_last ys x)

pub listed_last : (xs : List Ex) (x : Ex) → listed (xs ++ x ∷ []) ≡ with_last (listed xs) x
listed_last [] x = refl
listed_last (y ∷ ys) x = ap (More y) (listed_last ys x)

pub read_last : (n k : ℕ) → with_last (read_list n k) (Read (Local (n + k))) ≡ read_list n (suc k)
read_last n zero = ap (λ j. More (Read (Local j)) NoMore) (let e : n + 0 ≡ n = omega arith in e)
read_last n (suc k) =
    ap (More (Read (Local n))) (ap (λ j. with_last (read_list (suc n) k) (Read (Local j))) (let e : n + suc k ≡ suc n + k = omega arith in e) ∙ read_last (suc n) k)

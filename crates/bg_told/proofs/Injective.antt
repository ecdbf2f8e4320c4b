-- Of one type, values with one text are the same.
use Rattle.std.proofs.Common.{◌≡◌, ℕ, zero, suc, ◌<◌, Bool, true, false, not, ◌&&◌, ◌==◌, List, [], ◌∷◌, ◌++◌, codes, filter, length, slice_get, get_or, Option, Some, None, ℤ, refl, sym, ap, ◌∙◌, subst, append_assoc, arith}
use Rattle.std.specs.List.{list_all}
use Rattle.std.specs.Fmt.{signed_decimal}
use Rattle.std.proofs.lemmas.Bool.{and_parts, eqb-true}
use Rattle.std.proofs.lemmas.List.{append_cancel_left}
use Rattle.bg_base.specs.Exact.{fits}
use Rattle.bg_text.specs.Pieces.{is_ident, is_digit}
use Rattle.bg_ast.specs.Values.{KeyType, IntKey, UserKey, Ty, IntTy, BoolTy, UserTy, MapTy, Val, Num, Truth, Element, Default, Entry, is_of, takes_parts, val_eq, default_of, below_first, result_of}
use Rattle.bg_told.specs.Lines.{texts, text_or_none, is_printed}
use Rattle.bg_told.specs.ValueTexts.{front_text, default_text, element_text, number_text, number_behind, index_text, value_text, inside_text}
use Rattle.bg_told.specs.Distinct.{HaveNames, fits_in, ends}
use Rattle.bg_told.proofs.Whole.{name_bytes, names_are_printed}
use Rattle.bg_told.proofs.Digits.{numbers_apart, no_letter_first}

apart : (a b : ℕ) → a < b → a ≡ b → ⊥
apart a b l e = absurd (omega (arith, l, e))

-- the byte with this number
abbrev byte : ℕ → List ℕ → ℕ
byte k l = get_or l k 0

-- a space is no byte of a name
space_is_no_ident : is_ident 32 ≡ false
unfolding is_ident is_digit
space_is_no_ident = refl

no_space : (b : ℕ) → is_ident b ≡ true → b ≡ 32 → ⊥
no_space b h e = absurd (let bad : false ≡ true = sym space_is_no_ident ∙ (ap is_ident (sym e) ∙ h) in cc)

-- the name of an element's type isn't read as the word in front of a default
no_else : (name r q : List ℕ) → list_all is_ident name ≡ true → name ++ 33 ∷ r ≡ codes "else " ++ q → ⊥
no_else [] r q h e = apart 33 101 (omega arith) (ap (byte 0) e)
no_else (a ∷ []) r q h e = apart 33 108 (omega arith) (ap (byte 1) e)
no_else (a ∷ b ∷ []) r q h e = apart 33 115 (omega arith) (ap (byte 2) e)
no_else (a ∷ b ∷ c ∷ []) r q h e = apart 33 101 (omega arith) (ap (byte 3) e)
no_else (a ∷ b ∷ c ∷ d ∷ []) r q h e = apart 32 33 (omega arith) (sym (ap (byte 4) e))
no_else (a ∷ b ∷ c ∷ d ∷ s ∷ name) r q h e =
    let same : s ≡ 32 = ap (byte 4) e in
    let h1 = (and_parts (is_ident a) (list_all is_ident (b ∷ c ∷ d ∷ s ∷ name)) h).1 in
    let h2 = (and_parts (is_ident b) (list_all is_ident (c ∷ d ∷ s ∷ name)) h1).1 in
    let h3 = (and_parts (is_ident c) (list_all is_ident (d ∷ s ∷ name)) h2).1 in
    let h4 = (and_parts (is_ident d) (list_all is_ident (s ∷ name)) h3).1 in
    no_space s (and_parts (is_ident s) (list_all is_ident name) h4).0 same

-- where types have these names
module _ (types : List (List ℕ)) (named : HaveNames types) where
  abbrev name_at : ℕ → List ℕ
  name_at t = filter is_printed (text_or_none (slice_get types t))

  name_is_ident : (t : ℕ) → list_all is_ident (name_at t) ≡ true
  name_is_ident t = by (slice_get types t) refl
    where
      by : (o : Option (List ℕ)) → slice_get types t ≡ o → list_all is_ident (filter is_printed (text_or_none o)) ≡ true
      by None e = refl
      by (Some name) e =
          ap (list_all is_ident) (names_are_printed name (named t name e)) ∙ name_bytes name (named t name e)

  element_cells : (t : ℕ) (z : ℤ) (x : List ℕ) → element_text types t z ++ x ≡ (name_at t ++ codes "!") ++ (signed_decimal z ++ x)
  element_cells t z x = append_assoc (name_at t ++ codes "!") (signed_decimal z) x

  elements_apart : (t : ℕ) (a b : ℤ) (x y : List ℕ) → fits a ≡ true → fits b ≡ true → ends x ≡ true → ends y ≡ true → element_text types t a ++ x ≡ element_text types t b ++ y → (a ≡ b) × (x ≡ y)
  elements_apart t a b x y fa fb hx hy h =
      numbers_apart a b x y fa fb hx hy
      (append_cancel_left (name_at t ++ codes "!") _ _ (sym (element_cells t a x) ∙ (h ∙ element_cells t b y)))

  parts_apart : (k : KeyType) (a b : ℤ) (x y : List ℕ) → fits a ≡ true → fits b ≡ true → ends x ≡ true → ends y ≡ true → number_text types k a ++ x ≡ number_text types k b ++ y → (a ≡ b) × (x ≡ y)
  parts_apart IntKey a b x y fa fb hx hy h = numbers_apart a b x y fa fb hx hy h
  parts_apart (UserKey t) a b x y fa fb hx hy h = elements_apart t a b x y fa fb hx hy h

  -- a part isn't read as the word in front of a default
  no_else_part : (k : KeyType) (a : ℤ) (x q : List ℕ) → fits a ≡ true → number_text types k a ++ x ≡ codes "else " ++ q → ⊥
  no_else_part IntKey a x q f h = no_letter_first a x 101 (codes "lse " ++ q) f (omega arith) h
  no_else_part (UserKey t) a x q f h =
      no_else (name_at t) (signed_decimal a ++ x) q (name_is_ident t) (sym (append_assoc (name_at t) (codes "!") (signed_decimal a ++ x)) ∙ (sym (element_cells t a x) ∙ h))

  -- ---- indices

  others_end : (ks : List KeyType) (zs : List ℤ) (x : List ℕ) → ends x ≡ true → ends (texts (number_behind types) ks zs ++ x) ≡ true
  unfolding is_digit
  others_end [] zs x h = h
  others_end (k ∷ ks) [] x h = h
  others_end (k ∷ ks) (z ∷ zs) x h = refl

  others_apart : (ks : List KeyType) (as' bs : List ℤ) (x y : List ℕ) → length as' ≡ length ks → length bs ≡ length ks → list_all fits as' ≡ true → list_all fits bs ≡ true → ends x ≡ true → ends y ≡ true → texts (number_behind types) ks as' ++ x ≡ texts (number_behind types) ks bs ++ y → (as' ≡ bs) × (x ≡ y)
  others_apart [] [] [] x y la lb fa fb hx hy h = (refl, h)
  others_apart [] (a ∷ as') bs x y la lb fa fb hx hy h = absurd (omega (arith, la))
  others_apart [] [] (b ∷ bs) x y la lb fa fb hx hy h = absurd (omega (arith, lb))
  others_apart (k ∷ ks) [] bs x y la lb fa fb hx hy h = absurd (omega (arith, la))
  others_apart (k ∷ ks) (a ∷ as') [] x y la lb fa fb hx hy h = absurd (omega (arith, lb))
  others_apart (k ∷ ks) (a ∷ as') (b ∷ bs) x y la lb fa fb hx hy h =
      let pa = and_parts (fits a) (list_all fits as') fa in
      let pb = and_parts (fits b) (list_all fits bs) fb in
      let one = parts_apart k a b _ _ pa.0 pb.0 (others_end ks as' x hx) (others_end ks bs y hy)
      (append_cancel_left (codes ",") _ _ (sym (cells k ks a as' x) ∙ (h ∙ cells k ks b bs y))) in
      let rest = others_apart ks as' bs x y (omega (arith, la)) (omega (arith, lb)) pa.1 pb.1 hx hy one.1 in
      (ap (λ (c : ℤ). c ∷ as') one.0 ∙ ap (λ (l : List ℤ). b ∷ l) rest.0, rest.1)
    where
      cells : (k : KeyType) (ks : List KeyType) (c : ℤ) (cs : List ℤ) (z : List ℕ) → texts (number_behind types) (k ∷ ks) (c ∷ cs) ++ z ≡ codes "," ++ (number_text types k c ++ (texts (number_behind types) ks cs ++ z))
      cells k ks c cs z =
          append_assoc (codes "," ++ number_text types k c) (texts (number_behind types) ks cs) z
          ∙ append_assoc (codes ",") (number_text types k c) (texts (number_behind types) ks cs ++ z)

  indices_apart : (ks : List KeyType) (as' bs : List ℤ) (x y : List ℕ) → length as' ≡ length ks → length bs ≡ length ks → list_all fits as' ≡ true → list_all fits bs ≡ true → ends x ≡ true → ends y ≡ true → index_text types ks as' ++ x ≡ index_text types ks bs ++ y → (as' ≡ bs) × (x ≡ y)
  indices_apart [] [] [] x y la lb fa fb hx hy h = (refl, h)
  indices_apart [] (a ∷ as') bs x y la lb fa fb hx hy h = absurd (omega (arith, la))
  indices_apart [] [] (b ∷ bs) x y la lb fa fb hx hy h = absurd (omega (arith, lb))
  indices_apart (k ∷ ks) [] bs x y la lb fa fb hx hy h = absurd (omega (arith, la))
  indices_apart (k ∷ ks) (a ∷ as') [] x y la lb fa fb hx hy h = absurd (omega (arith, lb))
  indices_apart (k ∷ ks) (a ∷ as') (b ∷ bs) x y la lb fa fb hx hy h =
      let pa = and_parts (fits a) (list_all fits as') fa in
      let pb = and_parts (fits b) (list_all fits bs) fb in
      let one = parts_apart k a b _ _ pa.0 pb.0 (others_end ks as' x hx) (others_end ks bs y hy)
      (sym (append_assoc (number_text types k a) (texts (number_behind types) ks as') x) ∙ (h ∙ append_assoc (number_text types k b) (texts (number_behind types) ks bs) y)) in
      let rest = others_apart ks as' bs x y (omega (arith, la)) (omega (arith, lb)) pa.1 pb.1 hx hy one.1 in
      (ap (λ (c : ℤ). c ∷ as') one.0 ∙ ap (λ (l : List ℤ). b ∷ l) rest.0, rest.1)

  -- nor is an index, nor what stands behind one without parts
  no_else_index : (ks : List KeyType) (as' : List ℤ) (x q : List ℕ) → length as' ≡ length ks → list_all fits as' ≡ true → index_text types ks as' ++ (codes " := " ++ x) ≡ codes "else " ++ q → ⊥
  no_else_index [] as' x q l f h = apart 32 101 (omega arith) (ap (byte 0) h)
  no_else_index (k ∷ ks) [] x q l f h = absurd (omega (arith, l))
  no_else_index (k ∷ ks) (a ∷ as') x q l f h =
      no_else_part k a (texts (number_behind types) ks as' ++ (codes " := " ++ x)) q (and_parts (fits a) (list_all fits as') f).0
      (sym (append_assoc (number_text types k a) (texts (number_behind types) ks as') (codes " := " ++ x)) ∙ h)

  -- ---- maps, where what they have is told apart

  -- what stands behind a value is told by its text
  abbrev Told : Ty → Val → Val → Type 0
  Told t v w =
      (x y : List ℕ) → ends x ≡ true → ends y ≡ true → value_text types t v ++ x ≡ value_text types t w ++ y → (v ≡ w) × (x ≡ y)

  abbrev ToldInside : Ty → Val → Val → Type 0
  ToldInside t v w =
      (x y : List ℕ) → inside_text types t v ++ x ≡ inside_text types t w ++ y → (v ≡ w) × (x ≡ y)

  default_cells : (d x : List ℕ) → default_text d ++ x ≡ codes "else " ++ (d ++ (93 ∷ x))
  default_cells d x =
      append_assoc (codes "else ") (d ++ codes "]") x ∙ ap (λ (l : List ℕ). codes "else " ++ l) (append_assoc d (codes "]") x)

  front_cells : (k v m x : List ℕ) → (front_text k v ++ m) ++ x ≡ k ++ (codes " := " ++ (v ++ (codes ", " ++ (m ++ x))))
  front_cells k v m x = by (codes " := ") (codes ", ")
    where
      by : (a b : List ℕ) → ((k ++ (a ++ (v ++ b))) ++ m) ++ x ≡ k ++ (a ++ (v ++ (b ++ (m ++ x))))
      by a b = simp append_assoc

  closes : (x : List ℕ) → ends (93 ∷ x) ≡ true
  unfolding is_digit
  closes x = refl

  goes_on : (x : List ℕ) → ends (codes ", " ++ x) ≡ true
  unfolding is_digit
  goes_on x = refl

  leads : (x : List ℕ) → ends (codes " := " ++ x) ≡ true
  unfolding is_digit
  leads x = refl

  defaults_apart : (ks : List KeyType) (t : Ty) (d e : Val) → Told t d e → ToldInside (MapTy ks t) (Default d) (Default e)
  defaults_apart ks t d e told x y h =
      let one = told (93 ∷ x) (93 ∷ y) (closes x) (closes y) (append_cancel_left (codes "else ") _ _ (sym (default_cells (value_text types t d) x) ∙ (h ∙ default_cells (value_text types t e) y))) in
      let rest : x ≡ y = behind (93 ∷ x) (93 ∷ y) one.1 in
      (ap Default one.0, rest)
    where
      tail : List ℕ → List ℕ
      tail [] = []
      tail (b ∷ bs) = bs

      behind : (u v : List ℕ) → u ≡ v → tail u ≡ tail v
      behind u v e = ap tail e

  no_default : (ks : List KeyType) (t : Ty) (d : Val) (k : List ℤ) (v m : Val) (x y : List ℕ) → length k ≡ length ks → list_all fits k ≡ true → inside_text types (MapTy ks t) (Entry k v m) ++ x ≡ inside_text types (MapTy ks t) (Default d) ++ y → ⊥
  no_default ks t d k v m x y l f h =
      no_else_index ks k (value_text types t v ++ (codes ", " ++ (inside_text types (MapTy ks t) m ++ x))) (value_text types t d ++ (93 ∷ y)) l f
      (sym (front_cells (index_text types ks k) (value_text types t v) (inside_text types (MapTy ks t) m) x) ∙ (h ∙ default_cells (value_text types t d) y))

  entries_apart : (ks : List KeyType) (t : Ty) (k l : List ℤ) (v w m n : Val) → length k ≡ length ks → length l ≡ length ks → list_all fits k ≡ true → list_all fits l ≡ true → Told t v w → ToldInside (MapTy ks t) m n → ToldInside (MapTy ks t) (Entry k v m) (Entry l w n)
  entries_apart ks t k l v w m n lk ll fk fl one more x y h =
      let inside = inside_text types (MapTy ks t) in
      let p : List ℕ = codes ", " ++ (inside m ++ x) in
      let q : List ℕ = codes ", " ++ (inside n ++ y) in
      let vp : List ℕ = value_text types t v ++ p in
      let wq : List ℕ = value_text types t w ++ q in
      let a = indices_apart ks k l (codes " := " ++ vp) (codes " := " ++ wq) lk ll fk fl (leads vp) (leads wq) (sym (front_cells (index_text types ks k) (value_text types t v) (inside m) x) ∙ (h ∙ front_cells (index_text types ks l) (value_text types t w) (inside n) y)) in
      let b = one p q (goes_on (inside m ++ x)) (goes_on (inside n ++ y)) (append_cancel_left (codes " := ") vp wq a.1) in
      let c = more x y (append_cancel_left (codes ", ") (inside m ++ x) (inside n ++ y) b.1) in
      (ap (λ (z : List ℤ). Entry z v m) a.0 ∙ (ap (λ (z : Val). Entry l z m) b.0 ∙ ap (Entry l w) c.0), c.1)

  -- ---- values

  -- of this type, with numbers of 128 bits
  abbrev Good : Ty → Val → Type 0
  Good t v = (is_of t v ≡ true) × (fits_in v ≡ true)

  record GoodEntry (ks : List KeyType) (t : Ty) (k : List ℤ) (v m : Val) : Type 0 where
    parts : length k ≡ length ks
    numbers : list_all fits k ≡ true
    value : Good t v
    rest : Good (MapTy ks t) m

  good_entry : (ks : List KeyType) (t : Ty) (k : List ℤ) (v m : Val) → Good (MapTy ks t) (Entry k v m) → GoodEntry ks t k v m
  good_entry ks t k v m h =
      let a = and_parts (takes_parts (MapTy ks t) (length k)) _ h.0 in
      let b = and_parts (is_of t v) _ a.1 in
      let c = and_parts (not (val_eq v (default_of m))) _ b.1 in
      let d = and_parts (below_first k m) (is_of (MapTy ks t) m) c.1 in
      let f = and_parts (list_all fits k) (fits_in v && fits_in m) h.1 in
      let g = and_parts (fits_in v) (fits_in m) f.1 in
      record { parts = sym (eqb-true (length ks) (length k) a.0); numbers = f.0; value = (b.0, g.0); rest = (d.1, g.1) }

  opened : (a b x y : List ℕ) → (codes "[" ++ a) ++ x ≡ (codes "[" ++ b) ++ y → a ++ x ≡ b ++ y
  opened a b x y h =
      append_cancel_left (codes "[") _ _ (sym (append_assoc (codes "[") a x) ∙ (h ∙ append_assoc (codes "[") b y))

  never : {A : Type 0} → false ≡ true → A
  never h = absurd (let bad : false ≡ true = h in cc)

  truths_apart : (t : Ty) (a b : Bool) → Told t (Truth a) (Truth b)
  truths_apart t true true x y hx hy h = (refl, append_cancel_left (codes "true") x y h)
  truths_apart t false false x y hx hy h = (refl, append_cancel_left (codes "false") x y h)
  truths_apart t true false x y hx hy h = absurd (apart 102 116 (omega arith) (sym (ap (byte 0) h)))
  truths_apart t false true x y hx hy h = absurd (apart 102 116 (omega arith) (ap (byte 0) h))

  numbers_told : (t : Ty) (a b : ℤ) → fits a ≡ true → fits b ≡ true → Told t (Num a) (Num b)
  numbers_told t a b fa fb x y hx hy h = let one = numbers_apart a b x y fa fb hx hy h in (ap Num one.0, one.1)

  elements_told : (t : Ty) (u : ℕ) (a b : ℤ) → fits a ≡ true → fits b ≡ true → Told t (Element u a) (Element u b)
  elements_told t u a b fa fb x y hx hy h =
      let one = elements_apart u a b x y fa fb hx hy h in (ap (Element u) one.0, one.1)

  at_one_type : (u s r : ℕ) (a b : ℤ) → u ≡ s → u ≡ r → fits a ≡ true → fits b ≡ true → Told (UserTy u) (Element s a) (Element r b)
  at_one_type u s r a b es er fa fb =
      let P : ℕ → ℕ → Type 0 = λ i j. Told (UserTy u) (Element i a) (Element j b) in
      subst (λ i. P i r) es (subst (λ j. P u j) er (elements_told (UserTy u) u a b fa fb))

  ints_told : (v w : Val) → Good IntTy v → Good IntTy w → Told IntTy v w
  ints_told (Num a) (Num b) g h = numbers_told IntTy a b g.1 h.1
  ints_told (Num a) (Truth b) g h = never h.0
  ints_told (Num a) (Element s b) g h = never h.0
  ints_told (Num a) (Default d) g h = never h.0
  ints_told (Num a) (Entry k u n) g h = never h.0
  ints_told (Truth a) w g h = never g.0
  ints_told (Element s a) w g h = never g.0
  ints_told (Default d) w g h = never g.0
  ints_told (Entry k u n) w g h = never g.0

  bools_told : (v w : Val) → Good BoolTy v → Good BoolTy w → Told BoolTy v w
  bools_told (Truth a) (Truth b) g h = truths_apart BoolTy a b
  bools_told (Truth a) (Num b) g h = never h.0
  bools_told (Truth a) (Element s b) g h = never h.0
  bools_told (Truth a) (Default d) g h = never h.0
  bools_told (Truth a) (Entry k u n) g h = never h.0
  bools_told (Num a) w g h = never g.0
  bools_told (Element s a) w g h = never g.0
  bools_told (Default d) w g h = never g.0
  bools_told (Entry k u n) w g h = never g.0

  users_told : (i : ℕ) (v w : Val) → Good (UserTy i) v → Good (UserTy i) w → Told (UserTy i) v w
  users_told i (Element s a) (Element r b) g h = at_one_type i s r a b (eqb-true i s g.0) (eqb-true i r h.0) g.1 h.1
  users_told i (Element s a) (Num b) g h = never h.0
  users_told i (Element s a) (Truth b) g h = never h.0
  users_told i (Element s a) (Default d) g h = never h.0
  users_told i (Element s a) (Entry k u n) g h = never h.0
  users_told i (Num a) w g h = never g.0
  users_told i (Truth a) w g h = never g.0
  users_told i (Default d) w g h = never g.0
  users_told i (Entry k u n) w g h = never g.0

  mutual
    pub values_told : (v w : Val) (t : Ty) → Good t v → Good t w → Told t v w
    values_told v w IntTy g h = ints_told v w g h
    values_told v w BoolTy g h = bools_told v w g h
    values_told v w (UserTy i) g h = users_told i v w g h
    values_told (Num a) w (MapTy ks t) g h = never g.0
    values_told (Truth a) w (MapTy ks t) g h = never g.0
    values_told (Element s a) w (MapTy ks t) g h = never g.0
    values_told (Default d) (Num b) (MapTy ks t) g h = never h.0
    values_told (Default d) (Truth b) (MapTy ks t) g h = never h.0
    values_told (Default d) (Element s b) (MapTy ks t) g h = never h.0
    values_told (Entry k v m) (Num b) (MapTy ks t) g h = never h.0
    values_told (Entry k v m) (Truth b) (MapTy ks t) g h = never h.0
    values_told (Entry k v m) (Element s b) (MapTy ks t) g h = never h.0
    values_told (Default d) (Default e) (MapTy ks t) g h = λ x y hx hy q.
        defaults_apart ks t d e (values_told d e t g h) x y (opened (default_text (value_text types t d)) (default_text (value_text types t e)) x y q)
    values_told (Default d) (Entry l w n) (MapTy ks t) g h = λ x y hx hy q.
        (let b = good_entry ks t l w n h in
        absurd (no_default ks t d l w n y x b.parts b.numbers (sym (opened (inside_text types (MapTy ks t) (Default d)) (inside_text types (MapTy ks t) (Entry l w n)) x y q))))
    values_told (Entry k v m) (Default e) (MapTy ks t) g h = λ x y hx hy q.
        (let a = good_entry ks t k v m g in
        absurd (no_default ks t e k v m x y a.parts a.numbers (opened (inside_text types (MapTy ks t) (Entry k v m)) (inside_text types (MapTy ks t) (Default e)) x y q)))
    values_told (Entry k v m) (Entry l w n) (MapTy ks t) g h = λ x y hx hy q.
        (let a = good_entry ks t k v m g in
        let b = good_entry ks t l w n h in
        entries_apart ks t k l v w m n a.parts b.parts a.numbers b.numbers (values_told v w t a.value b.value) (inside_told m n ks t a.rest b.rest) x y
        (opened (inside_text types (MapTy ks t) (Entry k v m)) (inside_text types (MapTy ks t) (Entry l w n)) x y q))

    inside_told : (v w : Val) (ks : List KeyType) (t : Ty) → Good (MapTy ks t) v → Good (MapTy ks t) w → ToldInside (MapTy ks t) v w
    inside_told (Num a) w ks t g h = never g.0
    inside_told (Truth a) w ks t g h = never g.0
    inside_told (Element s a) w ks t g h = never g.0
    inside_told (Default d) (Num b) ks t g h = never h.0
    inside_told (Default d) (Truth b) ks t g h = never h.0
    inside_told (Default d) (Element s b) ks t g h = never h.0
    inside_told (Entry k v m) (Num b) ks t g h = never h.0
    inside_told (Entry k v m) (Truth b) ks t g h = never h.0
    inside_told (Entry k v m) (Element s b) ks t g h = never h.0
    inside_told (Default d) (Default e) ks t g h = defaults_apart ks t d e (values_told d e t g h)
    inside_told (Default d) (Entry l w n) ks t g h = λ x y q.
        (let b = good_entry ks t l w n h in absurd (no_default ks t d l w n y x b.parts b.numbers (sym q)))
    inside_told (Entry k v m) (Default e) ks t g h = λ x y q.
        (let a = good_entry ks t k v m g in absurd (no_default ks t e k v m x y a.parts a.numbers q))
    inside_told (Entry k v m) (Entry l w n) ks t g h =
        let a = good_entry ks t k v m g in
        let b = good_entry ks t l w n h in
        entries_apart ks t k l v w m n a.parts b.parts a.numbers b.numbers (values_told v w t a.value b.value) (inside_told m n ks t a.rest b.rest)

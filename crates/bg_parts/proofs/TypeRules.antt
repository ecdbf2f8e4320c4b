-- Types are read exactly.
use Rattle.std.proofs.Common.{◌≡◌, ◌≢◌, ℕ, zero, suc, List, [], ◌∷◌, ◌++◌, Bool, true, false, Option, Some, None, refl, sym, ap, ◌∙◌, subst, arith, ◌⊎◌, inl, inr, append_assoc}
use Rattle.bg_base.specs.declared.pos.Pos.{Pos}
use Rattle.bg_text.specs.declared.token.Kind.{Kind}
use Rattle.bg_text.specs.declared.token.Kind.TheVariants as kinds
use Rattle.bg_text.specs.Trees.{Ty, IntType, BoolType, NamedType, InParens, MapType, Tys, NoType, OneType, Indices, NoIndex, Index}
use Rattle.bg_text.specs.Marks.{Mark, sign, sign_at, id_mark, each, commas, after_commas}
use Rattle.bg_text.specs.Types.{All, type_marks, index_marks, types_marks, more_types_marks, is_map, IsType, AreIndices, AreTypes}
use Rattle.bg_reader.specs.Reading.{Reader, a_sign, a_text}
use Rattle.bg_reader.specs.Exact.{Begins}
use Rattle.bg_reader.proofs.Samples.{sample}
use Rattle.bg_grammar.specs.Rules.{commas_at, inner, below, room}
use Rattle.bg_grammar.proofs.Rule.{nowhere, Spelled, Rule, Image, sign_rule, text_rule, both_rule, image_rule, iff_rule, via_rule, choose_rule, sign_picker, text_picker, rows_rule, commas_rule, Within, Full, Room, enclosed_rule}
use Rattle.bg_text.specs.Views.{tys_of, Indexed, indexed_of}
use Rattle.bg_parts.specs.Types.{id_at, map_type, base_at, index_at, type_at, unnamed_at, type_in}

-- the kinds behind a type, and those that begin one
abbrev pub type_ends : List Kind
type_ends = kinds.Comma ∷ kinds.Semicolon ∷ kinds.Close ∷ kinds.CloseBracket ∷ kinds.OpenBrace ∷ []

abbrev pub base_firsts : List Kind
base_firsts = kinds.Int ∷ kinds.Bool ∷ kinds.Name ∷ kinds.Open ∷ []

abbrev pub type_firsts : List Kind
type_firsts = kinds.OpenBracket ∷ base_firsts

pub id_rule : (n d : ℕ) (F : List Kind) → Rule n d d F (kinds.Name ∷ []) (kinds.Name ∷ []) false (λ x. Unit {0}) (λ x. id_mark x ∷ []) id_at
unfolding id_at
id_rule n d F = via_rule (text_rule n d d F kinds.Name refl refl) (λ (b : Pos × List ℕ). record { pos = b.0; text = b.1 }) (λ x. Unit {0}) (λ x. id_mark x ∷ []) (λ v i. refl) (λ v i. tt) (λ w i. ((w.pos, w.text), refl, tt))

abbrev IsBase : Ty → Type 0
IsBase t = IsType t × (is_map t ≡ false)

abbrev Alternatives : Ty → Type 0
Alternatives t = Image IntType (λ p. Unit {0}) t ⊎ (Image BoolType (λ p. Unit {0}) t ⊎ (Image (λ (b : Pos × List ℕ). NamedType b.0 b.1) (λ b. Unit {0}) t ⊎ Image (λ (v : Pos × Ty). InParens v.0 v.1) (λ v. IsType v.1) t))

base_to : (t : Ty) → Alternatives t → IsBase t
base_to t (inl i) = subst IsBase i.1 (tt, refl)
base_to t (inr (inl i)) = subst IsBase i.1 (tt, refl)
base_to t (inr (inr (inl i))) = subst IsBase i.1 (tt, refl)
base_to t (inr (inr (inr i))) = subst IsBase i.1 (i.2, refl)

base_back : (t : Ty) → IsBase t → Alternatives t
base_back (IntType p) h = inl (p, refl, tt)
base_back (BoolType p) h = inr (inl (p, refl, tt))
base_back (NamedType p x) h = inr (inr (inl ((p, x), refl, tt)))
base_back (InParens p t) h = inr (inr (inr ((p, t), refl, h.0)))
base_back (MapType is t) h = absurd cc

base_rule : (n d : ℕ) (R : Option (Reader Ty)) → Within n d kinds.Close IsType type_marks R → Rule n d d type_ends base_firsts base_firsts false IsBase type_marks (base_at R)
unfolding base_at
base_rule n d R w =
    iff_rule
    (choose_rule (a_sign kinds.Int) (kinds.Int ∷ []) (sign_picker kinds.Int) (image_rule (sign_rule n d d type_ends kinds.Int refl refl) IntType type_marks (λ v i. refl))
    (choose_rule (a_sign kinds.Bool) (kinds.Bool ∷ []) (sign_picker kinds.Bool) (image_rule (sign_rule n d d type_ends kinds.Bool refl refl) BoolType type_marks (λ v i. refl))
    (choose_rule (a_text kinds.Name) (kinds.Name ∷ []) (text_picker kinds.Name) (image_rule (text_rule n d d type_ends kinds.Name refl refl) (λ (b : Pos × List ℕ). NamedType b.0 b.1) type_marks (λ v i. refl))
    (image_rule (enclosed_rule IsType type_marks type_ends kinds.Open kinds.Close refl refl refl (λ b. refl) w) (λ (v : Pos × Ty). InParens v.0 v.1) type_marks (λ v i. refl))
    refl) refl) refl)
    IsBase base_to base_back

-- lists of types
abbrev ManyTypes : List Ty → Type 0
ManyTypes ts = (ts ≢ []) × All IsType ts

abbrev index_mark : Indexed → List Mark
index_mark v = sign_at v.0 kinds.OpenBracket ∷ types_marks v.1 ++ sign kinds.CloseBracket ∷ []

abbrev IsIndex : Indexed → Type 0
IsIndex v = (v.1 ≢ NoType) × AreTypes v.1

more_types : (ts : List Ty) → more_types_marks (tys_of ts) ≡ after_commas type_marks ts
more_types [] = refl
more_types (t ∷ ts) = ap (λ l. sign kinds.Comma ∷ type_marks t ++ l) (more_types ts)

types_same : (ts : List Ty) → types_marks (tys_of ts) ≡ commas type_marks ts
types_same [] = refl
types_same (t ∷ ts) = ap (λ l. type_marks t ++ l) (more_types ts)

indices_same : (bs : List Indexed) → index_marks (indexed_of bs) ≡ each index_mark bs
indices_same [] = refl
indices_same (b ∷ bs) = rw (indices_same bs) (ap (λ l. sign_at b.0 kinds.OpenBracket ∷ l) (sym (append_assoc (types_marks b.1) (sign kinds.CloseBracket ∷ []) (each index_mark bs))))

are_types : (ts : List Ty) → All IsType ts → AreTypes (tys_of ts)
are_types [] h = tt
are_types (t ∷ ts) h = (h.0, are_types ts h.1)

types_back : (ts : Tys) → AreTypes ts → (l : List Ty) × (tys_of l ≡ ts) × All IsType l
types_back NoType h = ([], refl, tt)
types_back (OneType t ts) h = let r = types_back ts h.1 in (t ∷ r.0, ap (OneType t) r.1, (h.0, r.2))

some_types : (ts : List Ty) → ts ≢ [] → tys_of ts ≢ NoType
some_types [] h = absurd (h refl)
some_types (t ∷ ts) h = λ c. cc

are_indices : (bs : List Indexed) → All IsIndex bs → AreIndices (indexed_of bs)
are_indices [] h = tt
are_indices (b ∷ bs) h = (h.0.0, h.0.1, are_indices bs h.1)

indices_back : (is : Indices) → AreIndices is → (bs : List Indexed) × (indexed_of bs ≡ is) × All IsIndex bs
indices_back NoIndex h = ([], refl, tt)
indices_back (Index p ts is) h = let s = indices_back is h.2 in ((p, ts) ∷ s.0, ap (Index p ts) s.1, ((h.0, h.1), s.2))

type_to : (bs : List Indexed) (t : Ty) → All IsIndex bs → IsBase t → IsType (map_type bs t)
type_to [] t h b = b.0
type_to (c ∷ bs) t h b = ((λ e. cc), are_indices (c ∷ bs) h, b.0, b.1)

type_back : (t : Ty) → IsType t → (v : List Indexed × Ty) × (map_type v.0 v.1 ≡ t) × (All IsIndex v.0 × IsBase v.1)
type_back (IntType p) h = (([], IntType p), refl, (tt, (h, refl)))
type_back (BoolType p) h = (([], BoolType p), refl, (tt, (h, refl)))
type_back (NamedType p x) h = (([], NamedType p x), refl, (tt, (h, refl)))
type_back (InParens p t) h = (([], InParens p t), refl, (tt, (h, refl)))
type_back (MapType is t) h = let r = indices_back is h.1 in by r.0 r.1 r.2
  where
    by : (bs : List Indexed) → indexed_of bs ≡ is → All IsIndex bs → (v : List Indexed × Ty) × (map_type v.0 v.1 ≡ MapType is t) × (All IsIndex v.0 × IsBase v.1)
    by [] e a = absurd (h.0 (sym e))
    by (b ∷ bs) e a = ((b ∷ bs, t), ap (λ i. MapType i t) e, (a, (h.2, h.3)))

type_same : (v : List Indexed × Ty) → type_marks (map_type v.0 v.1) ≡ each index_mark v.0 ++ type_marks v.1
type_same v = by v.0
  where
    by : (bs : List Indexed) → type_marks (map_type bs v.1) ≡ each index_mark bs ++ type_marks v.1
    by [] = refl
    by (b ∷ bs) = ap (λ l. l ++ type_marks v.1) (indices_same (b ∷ bs))

index_back : (w : Indexed) → IsIndex w → (v : Pos × List Ty) × ((v.0, tys_of v.1) ≡ w) × ManyTypes v.1
index_back w h = let r = types_back w.1 h.1 in ((w.0, r.0), ap (λ (l : Tys). (w.0, l)) r.1, ((λ c. h.0 (sym r.1 ∙ ap tys_of c)), r.2))

index_rule : (n d : ℕ) (R : Option (Reader Ty)) → Within n d kinds.CloseBracket ManyTypes (commas type_marks) (inner (λ P. commas_at P n) R) → Rule n d d type_firsts (kinds.OpenBracket ∷ []) (kinds.OpenBracket ∷ []) false IsIndex index_mark (index_at n R)
unfolding index_at
index_rule n d R w =
    via_rule (enclosed_rule ManyTypes (commas type_marks) type_firsts kinds.OpenBracket kinds.CloseBracket refl refl refl (λ b. refl) w) (λ (v : Pos × List Ty). (v.0, tys_of v.1)) IsIndex index_mark
    (λ v i. ap (λ l. sign_at v.0 kinds.OpenBracket ∷ l ++ sign kinds.CloseBracket ∷ []) (types_same v.1)) (λ v i. (some_types v.1 i.0, are_types v.1 i.1)) index_back

type_by : (n d : ℕ) (R : Option (Reader Ty)) → Within n d kinds.Close IsType type_marks R → Within n d kinds.CloseBracket ManyTypes (commas type_marks) (inner (λ P. commas_at P n) R) → Rule n d d type_ends type_firsts [] false IsType type_marks (type_at n R)
unfolding type_at
type_by n d R w v =
    via_rule (both_rule (rows_rule (a_sign kinds.OpenBracket) (kinds.OpenBracket ∷ []) (sign_picker kinds.OpenBracket) (index_rule n d R v) base_firsts refl n (omega arith)) (base_rule n d R w) refl)
    (λ (v : List Indexed × Ty). map_type v.0 v.1) IsType type_marks (λ v i. type_same v) (λ v i. type_to v.0 v.1 i.0 i.1) type_back

int_word : Begins (Spelled IsType type_marks) []
int_word = (IntType nowhere, sample kinds.Int refl nowhere ∷ [], (tt, ((refl, tt, refl), tt)))

int_words : Begins (Spelled ManyTypes (commas type_marks)) []
int_words = (IntType nowhere ∷ [], sample kinds.Int refl nowhere ∷ [], (((λ c. cc), (tt, tt)), ((refl, tt, refl), tt)))

pub type_rule : (n d : ℕ) → Rule n d d type_ends type_firsts [] false IsType type_marks (type_in n d)
unfolding type_in
type_rule n zero = type_by n zero None (Full refl int_word) (Full refl int_words)
type_rule n (suc d) = type_by n (suc d) (Some (type_in n d)) (Room d refl refl (type_rule n d)) (Room d refl refl (commas_rule (type_rule n d) (kinds.CloseBracket ∷ []) refl))

pub type_turn : (n d : ℕ) → type_in n d ≡ type_at n (room (type_in n) (below d))
unfolding type_in
type_turn n zero = refl
type_turn n (suc d) = refl

-- types that don't begin with a name
abbrev pub is_named : Ty → Bool
is_named (NamedType p x) = true
is_named _ = false

abbrev pub UnnamedType : Ty → Type 0
UnnamedType t = IsType t × (is_named t ≡ false)

abbrev MapParts : Type 0
MapParts = Indexed × (List Indexed × Ty)

abbrev map_from : MapParts → Ty
map_from v = map_type (v.0 ∷ v.1.0) v.1.1

abbrev IsMap : Ty → Type 0
IsMap = Image map_from (λ v. IsIndex v.0 × (All IsIndex v.1.0 × IsBase v.1.1))

abbrev Unnamed : Ty → Type 0
Unnamed t = IsMap t ⊎ (Image IntType (λ p. Unit {0}) t ⊎ (Image BoolType (λ p. Unit {0}) t ⊎ Image (λ (v : Pos × Ty). InParens v.0 v.1) (λ v. IsType v.1) t))

unnamed_to : (t : Ty) → Unnamed t → UnnamedType t
unnamed_to t (inl i) = subst UnnamedType i.1 (type_to (i.0.0 ∷ i.0.1.0) i.0.1.1 (i.2.0, i.2.1.0) i.2.1.1, refl)
unnamed_to t (inr (inl i)) = subst UnnamedType i.1 (tt, refl)
unnamed_to t (inr (inr (inl i))) = subst UnnamedType i.1 (tt, refl)
unnamed_to t (inr (inr (inr i))) = subst UnnamedType i.1 (i.2, refl)

unnamed_back : (t : Ty) → UnnamedType t → Unnamed t
unnamed_back (IntType p) h = inr (inl (p, refl, tt))
unnamed_back (BoolType p) h = inr (inr (inl (p, refl, tt)))
unnamed_back (NamedType p x) h = absurd cc
unnamed_back (InParens p t) h = inr (inr (inr ((p, t), refl, h.0)))
unnamed_back (MapType bs t) h = let r = indices_back bs h.0.1 in by r.0 r.1 r.2
  where
    by : (l : List Indexed) → indexed_of l ≡ bs → All IsIndex l → Unnamed (MapType bs t)
    by [] e a = absurd (h.0.0 (sym e))
    by (b ∷ l) e a = inl ((b, (l, t)), ap (λ i. MapType i t) e, (a.0, (a.1, (h.0.2, h.0.3))))

unnamed_same : (v : MapParts) → type_marks (map_from v) ≡ index_mark v.0 ++ (each index_mark v.1.0 ++ type_marks v.1.1)
unnamed_same v = ap (λ l. l ++ type_marks v.1.1) (indices_same (v.0 ∷ v.1.0)) ∙ append_assoc (index_mark v.0) (each index_mark v.1.0) (type_marks v.1.1)

unnamed_by : (n d : ℕ) (R : Option (Reader Ty)) → Within n d kinds.Close IsType type_marks R → Within n d kinds.CloseBracket ManyTypes (commas type_marks) (inner (λ P. commas_at P n) R) → Rule n d d type_ends (kinds.OpenBracket ∷ kinds.Int ∷ kinds.Bool ∷ kinds.Open ∷ []) (kinds.OpenBracket ∷ kinds.Int ∷ kinds.Bool ∷ kinds.Open ∷ []) false UnnamedType type_marks (unnamed_at n R)
unfolding unnamed_at
unnamed_by n d R w v =
    iff_rule
    (choose_rule (a_sign kinds.OpenBracket) (kinds.OpenBracket ∷ []) (sign_picker kinds.OpenBracket)
    (image_rule (both_rule (index_rule n d R v) (both_rule (rows_rule (a_sign kinds.OpenBracket) (kinds.OpenBracket ∷ []) (sign_picker kinds.OpenBracket) (index_rule n d R v) base_firsts refl n (omega arith)) (base_rule n d R w) refl) refl) map_from type_marks (λ v i. unnamed_same v))
    (choose_rule (a_sign kinds.Int) (kinds.Int ∷ []) (sign_picker kinds.Int) (image_rule (sign_rule n d d type_ends kinds.Int refl refl) IntType type_marks (λ v i. refl))
    (choose_rule (a_sign kinds.Bool) (kinds.Bool ∷ []) (sign_picker kinds.Bool) (image_rule (sign_rule n d d type_ends kinds.Bool refl refl) BoolType type_marks (λ v i. refl))
    (image_rule (enclosed_rule IsType type_marks type_ends kinds.Open kinds.Close refl refl refl (λ b. refl) w) (λ (v : Pos × Ty). InParens v.0 v.1) type_marks (λ v i. refl))
    refl) refl) refl)
    UnnamedType unnamed_to unnamed_back

pub unnamed_rule : (n d : ℕ) → Rule n d d type_ends (kinds.OpenBracket ∷ kinds.Int ∷ kinds.Bool ∷ kinds.Open ∷ []) (kinds.OpenBracket ∷ kinds.Int ∷ kinds.Bool ∷ kinds.Open ∷ []) false UnnamedType type_marks (unnamed_at n (room (type_in n) (below d)))
unnamed_rule n zero = unnamed_by n zero None (Full refl int_word) (Full refl int_words)
unnamed_rule n (suc d) = unnamed_by n (suc d) (Some (type_in n d)) (Room d refl refl (type_rule n d)) (Room d refl refl (commas_rule (type_rule n d) (kinds.CloseBracket ∷ []) refl))

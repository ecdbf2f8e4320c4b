-- The types of declarations, where each written type has one.
use Rattle.std.proofs.Common.{◌≡◌, ℕ, true, List, [], ◌∷◌, ◌++◌, length, map, Some, refl, sym, ap, ◌∙◌, arith}
use Rattle.std.proofs.lemmas.List.{length-map, map-append, append-nil, append_assoc}
use Rattle.bg_base.specs.declared.pos.Pos.{Pos}
use Rattle.bg_ast.specs.Values as v
use Rattle.bg_ast.specs.Syntax.{Decl}
use Rattle.bg_ast.specs.Resolved as r
use Rattle.bg_ast.specs.Meaning as m
use Rattle.bg_sense.specs.Types.{types_of, const_types}
use Rattle.bg_kinds.specs.Faults.{is_none}
use Rattle.bg_kinds.specs.Kinds.{Kind, kind_in, type_faults}
use Rattle.bg_typing.specs.Sides.{Shape, is_typed_kind, pair_faults, pairs_faults, matched_faults}
use Rattle.bg_types.specs.Programs.{const_kind, declared_kind, declared_kinds, function_shape, procedure_shape, written_faults, declared_faults, consts_faults, shape_faults, functions_faults, two_lists_faults, procedures_faults, declared_side, declared_sides}
use Rattle.bg_typed.specs.Naming.{function_kinds}
use Rattle.bg_typed.specs.Bodies.{procedure_kinds}
use Rattle.bg_typed.proofs.Bits.{split_none, matched_none}
use Rattle.bg_typed.proofs.Assigned.{fitting}

-- each written type without faults stands for the one that it means
abbrev pub Stands : (ℕ → Kind) → (ℕ → v.Ty) → Type 0
Stands named n = (t : r.Ty) → is_none (type_faults named t) ≡ true → kind_in named t ≡ Some (m.type_in n t)

abbrev shape : List Kind → List Kind → Shape
shape ps rs = record { params = ps; results = rs }

shapes_same : (ps qs rs ss : List Kind) → ps ≡ qs → rs ≡ ss → shape ps rs ≡ shape qs ss
shapes_same ps qs rs ss a b = ap (λ (l : List Kind). shape l rs) a ∙ ap (shape qs) b

-- the types of declarations, as kinds
abbrev pub kinds_of_decls : List Decl → List Kind
kinds_of_decls ds = map Some (types_of ds)

types_of_append : (ds es : List Decl) → types_of (ds ++ es) ≡ types_of ds ++ types_of es
types_of_append [] es = refl
types_of_append (d ∷ ds) es = ap (λ l. d.ty ∷ l) (types_of_append ds es)

kinds_append : (ds es : List Decl) → kinds_of_decls (ds ++ es) ≡ kinds_of_decls ds ++ kinds_of_decls es
kinds_append ds es = ap (map Some) (types_of_append ds es) ∙ map-append Some (types_of ds) (types_of es)

-- a frame whose parts have these types
pub frame_is : (ps rs ls : List Decl) (as_ bs cs : List Kind) → as_ ≡ kinds_of_decls ps → bs ≡ kinds_of_decls rs → cs ≡ kinds_of_decls ls → (as_ ++ bs) ++ cs ≡ kinds_of_decls (ps ++ (rs ++ ls))
frame_is ps rs ls as_ bs cs a b c =
    append_assoc as_ bs cs
    ∙ (ap (λ l. l ++ (bs ++ cs)) a
    ∙ (ap (λ l. kinds_of_decls ps ++ (l ++ cs)) b
    ∙ (ap (λ l. kinds_of_decls ps ++ (kinds_of_decls rs ++ l)) c
    ∙ (ap (λ l. kinds_of_decls ps ++ l) (sym (kinds_append rs ls)) ∙ sym (kinds_append ps (rs ++ ls))))))

pub short_frame_is : (ps rs : List Decl) (as_ bs : List Kind) → as_ ≡ kinds_of_decls ps → bs ≡ kinds_of_decls rs → (as_ ++ bs) ++ [] ≡ kinds_of_decls (ps ++ rs)
short_frame_is ps rs as_ bs a b = frame_is ps rs [] as_ bs [] a b refl ∙ ap (λ l. kinds_of_decls (ps ++ l)) (append-nil rs)

-- as many declarations, of the same types
pub record AreSame (named : ℕ → Kind) (n : ℕ → v.Ty) (qs ms : List r.Declared) : Type 0 where
  pub long : length ms ≡ length qs
  pub kinds : declared_kinds named ms ≡ kinds_of_decls (map (m.decl_of n) qs)

module _ (named : ℕ → Kind) (n : ℕ → v.Ty) (stands : Stands named n) where
  pub declared_are : (ds : List r.Declared) → is_none (declared_faults named ds) ≡ true → declared_kinds named ds ≡ kinds_of_decls (map (m.decl_of n) ds)
  declared_are [] h = refl
  declared_are (d ∷ ds) h =
      let parts = split_none (type_faults named d.ty) (declared_faults named ds) h in
      ap (λ (k : Kind). k ∷ declared_kinds named ds) (stands d.ty parts.0) ∙ ap (λ l. Some (m.type_in n d.ty) ∷ l) (declared_are ds parts.1)

  pub consts_are : (cs : List r.Const) → is_none (consts_faults named cs) ≡ true → map (const_kind named) cs ≡ map Some (const_types (map (m.const_of n) cs))
  consts_are [] h = refl
  consts_are (c ∷ cs) h =
      let parts = split_none (type_faults named c.ty) (consts_faults named cs) h in
      ap (λ (k : Kind). k ∷ map (const_kind named) cs) (stands c.ty parts.0) ∙ ap (λ l. Some (m.type_in n c.ty) ∷ l) (consts_are cs parts.1)

  pub written_are : (ts : List r.Ty) → is_none (written_faults named ts) ≡ true → map (kind_in named) ts ≡ map Some (map (m.type_in n) ts)
  written_are [] h = refl
  written_are (t ∷ ts) h =
      let parts = split_none (type_faults named t) (written_faults named ts) h in
      ap (λ (k : Kind). k ∷ map (kind_in named) ts) (stands t parts.0) ∙ ap (λ l. Some (m.type_in n t) ∷ l) (written_are ts parts.1)

  pub function_is : (f : r.Fun) → is_none (shape_faults named f) ≡ true → function_shape named f ≡ function_kinds (m.fun_of n f)
  function_is f h =
      let parts = split_none (written_faults named f.params) (type_faults named f.result) h in
      shapes_same (map (kind_in named) f.params) (map Some (map (m.type_in n) f.params)) (kind_in named f.result ∷ []) (Some (m.type_in n f.result) ∷ []) (written_are f.params parts.0) (ap (λ (k : Kind). k ∷ []) (stands f.result parts.1))

  pub functions_are : (fs : List r.Fun) → is_none (functions_faults named fs) ≡ true → map (function_shape named) fs ≡ map function_kinds (map (m.fun_of n) fs)
  functions_are [] h = refl
  functions_are (f ∷ fs) h =
      let parts = split_none (shape_faults named f) (functions_faults named fs) h in
      ap (λ (s : Shape). s ∷ map (function_shape named) fs) (function_is f parts.0) ∙ ap (λ l. function_kinds (m.fun_of n f) ∷ l) (functions_are fs parts.1)

  pub procedure_is : (q : r.Proc) → is_none (two_lists_faults named q.params q.results) ≡ true → procedure_shape named q ≡ procedure_kinds (m.proc_of n q)
  procedure_is q h =
      let parts = split_none (declared_faults named q.params) (declared_faults named q.results) h in
      shapes_same (declared_kinds named q.params) (kinds_of_decls (map (m.decl_of n) q.params)) (declared_kinds named q.results) (kinds_of_decls (map (m.decl_of n) q.results)) (declared_are q.params parts.0) (declared_are q.results parts.1)

  pub procedures_are : (qs : List r.Proc) → is_none (procedures_faults named qs) ≡ true → map (procedure_shape named) qs ≡ map procedure_kinds (map (m.proc_of n) qs)
  procedures_are [] h = refl
  procedures_are (q ∷ qs) h =
      let parts = split_none (two_lists_faults named q.params q.results) (procedures_faults named qs) h in
      ap (λ (s : Shape). s ∷ map (procedure_shape named) qs) (procedure_is q parts.0) ∙ ap (λ l. procedure_kinds (m.proc_of n q) ∷ l) (procedures_are qs parts.1)

  -- declarations that fit others have their types
  pairs_same : (qs ms : List r.Declared) → is_none (declared_faults named qs) ≡ true → is_none (declared_faults named ms) ≡ true → length (declared_sides named ms) ≡ length (declared_kinds named qs) → is_none (pairs_faults (declared_kinds named qs) (declared_sides named ms)) ≡ true → declared_kinds named ms ≡ declared_kinds named qs
  pairs_same [] [] h i l e = refl
  pairs_same [] (d ∷ ms) h i l e = absurd (omega (arith, l))
  pairs_same (q ∷ qs) [] h i l e = absurd (omega (arith, l))
  pairs_same (q ∷ qs) (d ∷ ms) h i l e =
      let wanted = split_none (type_faults named q.ty) (declared_faults named qs) h in
      let given = split_none (type_faults named d.ty) (declared_faults named ms) i in
      let parts = split_none (pair_faults (declared_kind named q) (declared_side named d)) (pairs_faults (declared_kinds named qs) (declared_sides named ms)) e in
      let want : declared_kind named q ≡ Some (m.type_in n q.ty) = stands q.ty wanted.0 in
      let is : declared_kind named d ≡ Some (m.type_in n d.ty) = stands d.ty given.0 in
      let fits = fitting (declared_kind named q) (declared_kind named d) (declared_side named d) (m.type_in n q.ty) want refl (ap is_typed_kind is) parts.0 in
      let long : length (declared_sides named ms) ≡ length (declared_kinds named qs) = omega (arith, l) in
      ap (λ (k : Kind). k ∷ declared_kinds named ms) (fits ∙ sym want) ∙ ap (λ l. declared_kind named q ∷ l) (pairs_same qs ms wanted.1 given.1 long parts.1)

  pub matched_same : (p : Pos) (qs ms : List r.Declared) → is_none (declared_faults named qs) ≡ true → is_none (declared_faults named ms) ≡ true → is_none (matched_faults p (declared_kinds named qs) (declared_sides named ms)) ≡ true → AreSame named n qs ms
  matched_same p qs ms h i e =
      let both = matched_none p (declared_kinds named qs) (declared_sides named ms) e in
      let a = length-map ms (declared_side named) in
      let b = length-map qs (declared_kind named) in
      record {
        long = omega (arith, both.0, a, b);
        kinds = pairs_same qs ms h i both.0 both.1 ∙ declared_are qs h;
      }

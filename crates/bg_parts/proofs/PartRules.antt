-- Attributes, groups and clauses are rules.
use Rattle.std.proofs.Common.{◌≡◌, ◌≢◌, ℕ, zero, suc, List, [], ◌∷◌, ◌++◌, Bool, true, false, Some, refl, sym, ap, subst, arith, ◌⊎◌, inl, inr, append_assoc}
use Rattle.std.specs.Prelude.{◌&&◌, not}
use Rattle.bg_grammar.specs.Sets.{is_in, within}
use Rattle.bg_base.specs.declared.pos.Pos.{Pos}
use Rattle.bg_text.specs.declared.token.Kind.{Kind}
use Rattle.bg_text.specs.declared.token.Kind.TheVariants as kinds
use Rattle.bg_text.specs.Trees.{Id, Ty, Ex, Arg, Formula, Quoted, Attr, Clause}
use Rattle.bg_text.specs.Marks.{Mark, sign, id_mark, each, commas}
use Rattle.bg_text.specs.Spelling.{ex_marks, IsEx}
use Rattle.bg_text.specs.Types.{All, arg_marks, IsArg, attr_marks, IsAttr, ids_marks, group_marks, IsGroup}
use Rattle.bg_text.specs.Statements.{clause_marks, IsClause, IsPlain}
use Rattle.bg_reader.specs.Reading.{with_read, both, one, a_sign, a_text}
use Rattle.bg_reader.specs.Exact.{Begins}
use Rattle.bg_reader.proofs.Samples.{is_single, sample}
use Rattle.bg_text.specs.Brackets.{turn, left_by, left}
use Rattle.bg_grammar.specs.Rules.{after, below, room}
use Rattle.bg_grammar.proofs.Rule.{nowhere, Spelled, Rule, Image, string_rule, both_rule, image_rule, iff_rule, via_rule, choose_rule, less_rule, sign_picker, text_picker, row_ok, rows_rule, at_rule, after_rule, before_rule, commas_rule, list_closed_rule, Behind, NoRoom, Rooms, behind_rule}
use Rattle.bg_parts.specs.Parts.{arg_at, attr_rest, attr_at, attrs_at, ids_at, group_at, says_at, clause, clause_at, invariant_at}
use Rattle.bg_parts.proofs.TypeRules.{id_rule, type_rule}
use Rattle.bg_parts.proofs.ExprRule.{expr_firsts, expr_rule}

abbrev arg_ends : List Kind
arg_ends = kinds.Comma ∷ kinds.CloseBrace ∷ []

abbrev arg_firsts : List Kind
arg_firsts = kinds.Quoted ∷ expr_firsts

arg_to : (w : Arg) → Image Quoted (λ x. Unit {0}) w ⊎ Image Formula IsEx w → IsArg w
arg_to w (inl i) = subst IsArg i.1 tt
arg_to w (inr i) = subst IsArg i.1 i.2

arg_back : (w : Arg) → IsArg w → Image Quoted (λ x. Unit {0}) w ⊎ Image Formula IsEx w
arg_back (Quoted x) i = inl (x, refl, tt)
arg_back (Formula e) i = inr (e, refl, i)

arg_rule : (n d : ℕ) → Rule n d d arg_ends arg_firsts (kinds.Quoted ∷ []) false IsArg arg_marks (arg_at n d)
unfolding arg_at
arg_rule n d =
    iff_rule (choose_rule (a_text kinds.Quoted) (kinds.Quoted ∷ []) (text_picker kinds.Quoted)
    (image_rule (string_rule n d arg_ends kinds.Quoted refl refl) Quoted arg_marks (λ v i. refl))
    (image_rule (less_rule (expr_rule n d) n (omega arith) arg_ends refl) Formula arg_marks (λ v i. refl)) refl) IsArg arg_to arg_back

-- attributes
abbrev rest_marks : Attr → List Mark
rest_marks a = sign kinds.Colon ∷ id_mark a.name ∷ commas arg_marks a.args ++ sign kinds.CloseBrace ∷ []

attr_rest_rule : (n d : ℕ) (F : List Kind) → Rule n d (suc d) F (kinds.Colon ∷ []) (kinds.Colon ∷ []) false IsAttr rest_marks (attr_rest n d)
unfolding attr_rest
attr_rest_rule n d F =
    via_rule (after_rule kinds.Colon refl refl (both_rule (id_rule n d (kinds.CloseBrace ∷ arg_firsts)) (list_closed_rule (suc d) F kinds.CloseBrace refl refl (arg_rule n d) refl) refl))
    (λ (v : Id × List Arg). record { name = v.0; args = v.1 }) IsAttr rest_marks (λ v i. refl) (λ v i. i.1) (λ w i. ((w.name, w.args), refl, (tt, i)))

some_attr : Begins (Spelled IsAttr rest_marks) []
some_attr =
    let name = sample kinds.Name refl nowhere in
    (record { name = record { pos = nowhere; text = name.text }; args = [] }, sample kinds.Colon refl nowhere ∷ name ∷ sample kinds.CloseBrace refl nowhere ∷ [], (tt, ((refl, tt, tt), ((refl, refl, refl), ((refl, tt, tt), tt)))))

attr_behind : (n d : ℕ) (F : List Kind) → Behind n d F IsAttr rest_marks (room (attr_rest n) (below d))
attr_behind n zero F = NoRoom refl some_attr
attr_behind n (suc d) F = Rooms d refl (attr_rest_rule n d F)

attr_rule : (n d : ℕ) (F : List Kind) → Rule n d d F (kinds.OpenBrace ∷ []) (kinds.OpenBrace ∷ []) false IsAttr attr_marks (attr_at n d)
unfolding attr_at
attr_rule n d F = behind_rule IsAttr rest_marks F kinds.OpenBrace refl refl (attr_behind n d F)

abbrev pub attrs_ok : List Kind → Bool
attrs_ok G = row_ok (kinds.OpenBrace ∷ []) (kinds.OpenBrace ∷ []) (kinds.OpenBrace ∷ []) (kinds.OpenBrace ∷ G) G

pub attrs_rule : (n d : ℕ) (G : List Kind) → attrs_ok G ≡ true → Rule n d d G (kinds.OpenBrace ∷ []) [] true (All IsAttr) (each attr_marks) (attrs_at n d)
unfolding attrs_at
attrs_rule n d G ok = rows_rule (a_sign kinds.OpenBrace) (kinds.OpenBrace ∷ []) (sign_picker kinds.OpenBrace) (attr_rule n d (kinds.OpenBrace ∷ G)) G ok n (omega arith)

-- names
all_ids : (xs : List Id) → All (λ x. Unit {0}) xs
all_ids [] = tt
all_ids (x ∷ xs) = (tt, all_ids xs)

abbrev pub SomeIds : List Id → Type 0
SomeIds xs = xs ≢ []

pub ids_rule : (n d : ℕ) (G : List Kind) → (not (is_in G kinds.Comma) && within G (kinds.Comma ∷ G)) ≡ true → Rule n d d G (kinds.Name ∷ []) (kinds.Name ∷ []) false SomeIds ids_marks (ids_at n)
unfolding ids_at
ids_rule n d G ok = iff_rule (commas_rule (id_rule n d (kinds.Comma ∷ G)) G ok) SomeIds (λ v i. i.0) (λ v i. (i, all_ids v))

-- groups
abbrev pub group_ends : List Kind
group_ends = kinds.Comma ∷ kinds.Semicolon ∷ kinds.Close ∷ []

abbrev pub group_firsts : List Kind
group_firsts = kinds.OpenBrace ∷ kinds.Name ∷ []

pub group_rule : (n d : ℕ) → Rule n d d group_ends group_firsts [] false IsGroup group_marks (group_at n d)
unfolding group_at
group_rule n d =
    via_rule (both_rule (attrs_rule n d (kinds.Name ∷ []) refl) (both_rule (ids_rule n d (kinds.Colon ∷ []) refl) (after_rule kinds.Colon refl refl (less_rule (type_rule n d) n (omega arith) group_ends refl)) refl) refl)
    (λ (v : List Attr × (List Id × Ty)). record { attrs = v.0; names = v.1.0; ty = v.1.1 }) IsGroup group_marks (λ v i. simp append_assoc) (λ v i. (i.0, i.1.0, i.1.1)) (λ w i. ((w.attrs, (w.names, w.ty)), refl, (i.0, (i.1, i.2))))

-- clauses
abbrev pub SaysWell : List Attr × Ex → Type 0
SaysWell v = All IsAttr v.0 × IsEx v.1

abbrev pub says_marks : List Attr × Ex → List Mark
says_marks v = each attr_marks v.0 ++ (ex_marks v.1 ++ sign kinds.Semicolon ∷ [])

pub says_rule : (n d : ℕ) (F : List Kind) → Rule n d d F (kinds.OpenBrace ∷ expr_firsts) [] false SaysWell says_marks (says_at n d)
unfolding says_at
says_rule n d F = both_rule (attrs_rule n d expr_firsts refl) (before_rule d F kinds.Semicolon refl refl (expr_rule n d) refl) refl

plain_is : (c : Clause) (b : Bool) → c.is_free ≡ b → clause b c.pos (c.attrs, c.says) ≡ c
plain_is c b h = ap (λ (f : Bool). record { pos = c.pos; is_free = f; attrs = c.attrs; says = c.says }) (sym h)

pub clause_rule : (n d : ℕ) (F : List Kind) (k : Kind) (single : is_single k ≡ true) (step : left_by (turn k) d (left []) ≡ Some d) → Rule n d d F (k ∷ []) (k ∷ []) false IsPlain (clause_marks k) (clause_at n d k)
unfolding clause_at
clause_rule n d F k single step =
    via_rule (at_rule k single step (says_rule n d F)) (λ (v : Pos × (List Attr × Ex)). clause false v.0 v.1) IsPlain (clause_marks k) (λ v i. simp append_assoc) (λ v i. (refl, i)) (λ w i. ((w.pos, (w.attrs, w.says)), plain_is w false i.0, i.1))

-- a clause with `free` before its word
pub free_rule : (n d : ℕ) (F : List Kind) (k : Kind) (single : is_single k ≡ true) (step : left_by (turn k) d (left []) ≡ Some d) → Rule n d d F (kinds.Free ∷ []) (kinds.Free ∷ []) false (Image (λ (v : Pos × (List Attr × Ex)). clause true v.0 v.1) (λ v. SaysWell v.1)) (clause_marks k) (λ ts. with_read (λ v. clause true v.0 v.1) (both (one (a_sign kinds.Free)) (after k (says_at n d)) ts))
free_rule n d F k single step = image_rule (at_rule kinds.Free refl refl (after_rule k single step (says_rule n d F))) (λ (v : Pos × (List Attr × Ex)). clause true v.0 v.1) (clause_marks k) (λ v i. simp append_assoc)

abbrev Frees : Clause → Type 0
Frees = Image (λ (v : Pos × (List Attr × Ex)). clause true v.0 v.1) (λ v. SaysWell v.1)

pub clause_to : (c : Clause) → Frees c ⊎ IsPlain c → IsClause c
clause_to c (inl i) = subst IsClause i.1 i.2
clause_to c (inr i) = i.1

pub clause_back : (c : Clause) → IsClause c → Frees c ⊎ IsPlain c
clause_back c i = by c.is_free refl
  where
    by : (b : Bool) → c.is_free ≡ b → Frees c ⊎ IsPlain c
    by true h = inl ((c.pos, (c.attrs, c.says)), plain_is c true h, i)
    by false h = inr (h, i)

pub invariant_rule : (n d : ℕ) (F : List Kind) → Rule n d d F (kinds.Free ∷ kinds.Invariant ∷ []) (kinds.Free ∷ kinds.Invariant ∷ []) false IsClause (clause_marks kinds.Invariant) (invariant_at n d)
unfolding invariant_at
invariant_rule n d F = iff_rule (choose_rule (a_sign kinds.Free) (kinds.Free ∷ []) (sign_picker kinds.Free) (free_rule n d F kinds.Invariant refl refl) (clause_rule n d F kinds.Invariant refl refl) refl) IsClause clause_to clause_back

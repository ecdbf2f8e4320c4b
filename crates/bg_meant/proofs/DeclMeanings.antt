-- Declarations mean a program exactly where they have no fault of names.
use Rattle.std.proofs.Common.{◌≡◌, ℕ, ◌+◌, Bool, true, false, List, [], ◌∷◌, ◌++◌, map, flat_map, Option, Some, None, refl, sym, ap, ◌∙◌, inl, inr}
use Rattle.std.specs.Prelude.{◌||◌, ◌&&◌, not, if◌then◌else◌, Contains}
use Rattle.bg_base.specs.declared.pos.Pos.{Pos}
use Rattle.bg_text.specs.Trees as t
use Rattle.bg_text.specs.Views.{option_of}
use Rattle.bg_ast.specs.Resolved as r
use Rattle.bg_names.specs.declared.error.FaultKind.TheVariants as kinds
use Rattle.bg_names.specs.Faults.{Fault, fault, unless}
use Rattle.bg_names.specs.Spaces.{Scope, place, or_zero, use_faults, repeats}
use Rattle.bg_names.specs.Exprs.{named_ex, ty_faults, tys_faults, indices_faults, named_ty, named_tys, named_indices}
use Rattle.bg_names.specs.Clauses.{clause_faults, named_clause}
use Rattle.bg_bodies.specs.Bodies.{sts_faults, sts_labels}
use Rattle.bg_spaces.specs.Declarations.{Spaces, result_groups, param_ids, result_ids, are_candidates, is_global, value_of, specs_count, group_faults, sig_faults, modified_faults, named_group, named_groups, named_requires, named_ensures}
use Rattle.bg_resolve.specs.Program as Q
use Rattle.bg_resolve.specs.Program.{is_bool}
use Rattle.bg_resolve.specs.Parts.{no_program, joined, part_of, parts_from}
use Rattle.bg_sense.proofs.Members.{contained, member}
use Rattle.bg_named.proofs.ExprsBits.{never, holds}
use Rattle.bg_named.proofs.SpacesOnce.{empty_parts}
use Rattle.bg_named.proofs.SpacesPlaces.{used}
use Rattle.bg_named.proofs.StmtsMembers.{each_nil}
use Rattle.bg_meant.specs.Means.{Means}
use Rattle.bg_meant.specs.Once.{Both}
use Rattle.bg_meant.specs.Declared.{MeansTy, MeanTys, MeanIndices, declared, MeansGroup, MeanGroups, MeansVars, MeansNew, constant, MeansConstants, MeansArg, MeansFunction, MeanSpecs, MeansProcedure, MeansCode, MeansOwnBody, MeansDecl, MeanDecls}
use Rattle.bg_meant.proofs.Meanings.{both, no_use, means_fine, faultless_means}
use Rattle.bg_meant.proofs.Once.{match_fine, match_mean, none_faulty, joined_fine, joined_mean, once_fine, once_mean}
use Rattle.bg_meant.proofs.StMeanings.{clause_fine, clause_means, body_fine, body_means}

module _ (types : List (List ℕ)) where
  mutual
    ty_fine : (a : t.Ty) (e : r.Ty) → MeansTy types a e → (ty_faults types a ≡ []) × (named_ty types a ≡ e)
    ty_fine (t.IntType p) e h = (refl, sym h)
    ty_fine (t.BoolType p) e h = (refl, sym h)
    ty_fine (t.NamedType p x) e h = (no_use types p x h.0 h.1, ap (λ (o : Option ℕ). r.DeclaredType p (or_zero o)) h.1 ∙ sym h.2)
    ty_fine (t.InParens p a) e h = let w = ty_fine a h.0 h.1 in (w.0, ap (r.InParens p) w.1 ∙ sym h.2)
    ty_fine (t.MapType is a) e h =
        let w = indices_fine is h.0 h.1.1 in
        let v = ty_fine a h.1.0 h.1.2 in
        (both (indices_faults types is) (ty_faults types a) w.0 v.0, ap (λ (x : r.Indices). r.MapType x (named_ty types a)) w.1 ∙ (ap (r.MapType h.0) v.1 ∙ sym h.1.3))

    tys_fine : (as_ : t.Tys) (es : r.Tys) → MeanTys types as_ es → (tys_faults types as_ ≡ []) × (named_tys types as_ ≡ es)
    tys_fine t.NoType es h = (refl, sym h)
    tys_fine (t.OneType a as_) es h =
        let w = ty_fine a h.0 h.1.1 in
        let v = tys_fine as_ h.1.0 h.1.2 in
        (both (ty_faults types a) (tys_faults types as_) w.0 v.0, ap (λ (x : r.Ty). r.OneType x (named_tys types as_)) w.1 ∙ (ap (r.OneType h.0) v.1 ∙ sym h.1.3))

    indices_fine : (is : t.Indices) (js : r.Indices) → MeanIndices types is js → (indices_faults types is ≡ []) × (named_indices types is ≡ js)
    indices_fine t.NoIndex js h = (refl, sym h)
    indices_fine (t.Index p as_ is) js h =
        let w = tys_fine as_ h.0 h.1.1 in
        let v = indices_fine is h.1.0 h.1.2 in
        (both (tys_faults types as_) (indices_faults types is) w.0 v.0, ap (λ (x : r.Tys). r.Index p x (named_indices types is)) w.1 ∙ (ap (r.Index p h.0) v.1 ∙ sym h.1.3))

  mutual
    ty_means : (a : t.Ty) → ty_faults types a ≡ [] → MeansTy types a (named_ty types a)
    ty_means (t.IntType p) h = refl
    ty_means (t.BoolType p) h = refl
    ty_means (t.NamedType p x) h =
        let at = used types (record { pos = p; text = x }) h in
        (at.0, at.1, ap (λ (o : Option ℕ). r.DeclaredType p (or_zero o)) at.1)
    ty_means (t.InParens p a) h = (named_ty types a, ty_means a h, refl)
    ty_means (t.MapType is a) h =
        let w = empty_parts (indices_faults types is) (ty_faults types a) h in
        (named_indices types is, (named_ty types a, indices_mean is w.0, ty_means a w.1, refl))

    tys_mean : (as_ : t.Tys) → tys_faults types as_ ≡ [] → MeanTys types as_ (named_tys types as_)
    tys_mean t.NoType h = refl
    tys_mean (t.OneType a as_) h =
        let w = empty_parts (ty_faults types a) (tys_faults types as_) h in
        (named_ty types a, (named_tys types as_, ty_means a w.0, tys_mean as_ w.1, refl))

    indices_mean : (is : t.Indices) → indices_faults types is ≡ [] → MeanIndices types is (named_indices types is)
    indices_mean t.NoIndex h = refl
    indices_mean (t.Index p as_ is) h =
        let w = empty_parts (tys_faults types as_) (indices_faults types is) h in
        (named_tys types as_, (named_indices types is, tys_mean as_ w.0, indices_mean is w.1, refl))

module _ (g : Spaces) where
  group_fine : (x : t.Group) (ds : List r.Declared) → MeansGroup g x ds → (group_faults g x ≡ []) × (named_group g x ≡ ds)
  group_fine x ds h =
      let w = ty_fine g.types x.ty h.0 h.1 in (w.0, ap (λ (e : r.Ty). map (declared e) x.names) w.1 ∙ sym h.2)

  group_means : (x : t.Group) → group_faults g x ≡ [] → MeansGroup g x (named_group g x)
  group_means x h = (named_ty g.types x.ty, ty_means g.types x.ty h, refl)

  groups_fine : (xs : List t.Group) (ds : List r.Declared) → MeanGroups g xs ds → (flat_map (group_faults g) xs ≡ []) × (named_groups g xs ≡ ds)
  groups_fine xs ds h = joined_fine (MeansGroup g) (group_faults g) (named_group g) group_fine xs ds h

  groups_mean : (xs : List t.Group) → flat_map (group_faults g) xs ≡ [] → MeanGroups g xs (named_groups g xs)
  groups_mean xs h = joined_mean (MeansGroup g) (group_faults g) (named_group g) group_means xs h

  vars_fine : (v : t.Vars) (ds : List r.Declared) → MeansVars g v ds → (Q.vars_faults g v ≡ []) × (Q.named_vars g v ≡ ds)
  vars_fine v ds h = groups_fine v.groups ds h

  vars_mean : (v : t.Vars) → Q.vars_faults g v ≡ [] → MeansVars g v (Q.named_vars g v)
  vars_mean v h = groups_mean v.groups h

  -- ---- types

  abbrev new_as : t.Id → Option t.Ty → t.NewType
  new_as x o = record { name = x; synonym = o }

  new_fine_at : (x : t.Id) (o : Option t.Ty) (k : Option r.Ty) → Both (MeansTy g.types) o k → (Q.synonym_faults g (new_as x o) ≡ []) × (option_of (named_ty g.types) o ≡ k)
  new_fine_at x None None h = (refl, refl)
  new_fine_at x None (Some e) h = absurd h
  new_fine_at x (Some a) None h = absurd h
  new_fine_at x (Some a) (Some e) h = let w = ty_fine g.types a e h in (w.0, ap (λ (y : r.Ty). Some y) w.1)

  abbrev name_as : t.Id → Option r.Ty → r.TypeName
  name_as x o = record { name = x; synonym = o }

  new_fine : (d : t.NewType) (k : r.TypeName) → MeansNew g d k → (Q.synonym_faults g d ≡ []) × (Q.named_new g d ≡ k)
  new_fine d k h =
      let w = new_fine_at d.name d.synonym k.synonym h.1 in
      (w.0, ap (λ (x : t.Id). name_as x (option_of (named_ty g.types) d.synonym)) (sym h.0) ∙ ap (name_as k.name) w.1)

  new_means_at : (x : t.Id) (o : Option t.Ty) → Q.synonym_faults g (new_as x o) ≡ [] → Both (MeansTy g.types) o (option_of (named_ty g.types) o)
  new_means_at x None h = tt
  new_means_at x (Some a) h = ty_means g.types a h

  new_means : (d : t.NewType) → Q.synonym_faults g d ≡ [] → MeansNew g d (Q.named_new g d)
  new_means d h = (refl, new_means_at d.name d.synonym h)

  -- ---- functions

  arg_test : (b n : Bool) → (b ≡ true → n ≡ true) → (not b || n) ≡ true
  arg_test true n h = h refl
  arg_test false n h = refl

  arg_tested : (b n : Bool) → (not b || n) ≡ true → b ≡ true → n ≡ true
  arg_tested true n h e = h
  arg_tested false n h e = never e

  arg_fine : (hb : Bool) (a : t.FunArg) (e : r.Ty) → MeansArg g hb a e → (Q.arg_faults g hb a ≡ []) × (Q.arg_type g a ≡ e)
  arg_fine hb a e h =
      let w = ty_fine g.types a.ty e h.1 in (
        both
            (unless (not hb || Q.has_arg_name a) (fault kinds.UnnamedArgument (Q.type_pos a.ty) []))
            (ty_faults g.types a.ty)
            (ap (λ (z : Bool). unless z (fault kinds.UnnamedArgument (Q.type_pos a.ty) [])) (arg_test hb (Q.has_arg_name a) h.0))
            w.0,
        w.1,
      )

  arg_means : (hb : Bool) (a : t.FunArg) → Q.arg_faults g hb a ≡ [] → MeansArg g hb a (Q.arg_type g a)
  arg_means hb a h =
      let w = empty_parts (unless (not hb || Q.has_arg_name a) (fault kinds.UnnamedArgument (Q.type_pos a.ty) [])) (ty_faults g.types a.ty) h in
      (arg_tested hb (Q.has_arg_name a) (holds (not hb || Q.has_arg_name a) (fault kinds.UnnamedArgument (Q.type_pos a.ty) []) w.0), ty_means g.types a.ty w.1)

  body_text_fine : (s : Scope) (o : Option t.Ex) (k : Option r.Ex) → Both (Means s) o k → (Q.body_faults s o ≡ []) × (option_of (named_ex s) o ≡ k)
  body_text_fine s None None h = (refl, refl)
  body_text_fine s None (Some e) h = absurd h
  body_text_fine s (Some a) None h = absurd h
  body_text_fine s (Some a) (Some e) h = let w = means_fine s a e h in (w.0, ap (λ (y : r.Ex). Some y) w.1)

  body_text_means : (s : Scope) (o : Option t.Ex) → Q.body_faults s o ≡ [] → Both (Means s) o (option_of (named_ex s) o)
  body_text_means s None h = tt
  body_text_means s (Some a) h = faultless_means s a h

  function_fine : (f : t.Fun) (k : r.Fun) → MeansFunction g f k → (Q.function_faults g f ≡ []) × (Q.named_function g f ≡ k)
  function_fine f k h =
      let hb = Q.has_body f.body in
      let args = match_fine (MeansArg g hb) (Q.arg_faults g hb) (Q.arg_type g) (arg_fine hb) f.args k.params h.params in
      let result = ty_fine g.types (Q.result_type f.result) k.result h.result in
      let body = body_text_fine (Q.function_scope g f) f.body k.body h.body in (
        both
            ((repeats [] (flat_map Q.arg_ids f.args) ++ flat_map (Q.arg_faults g hb) f.args) ++ ty_faults g.types (Q.result_type f.result))
            (Q.body_faults (Q.function_scope g f) f.body)
            (both
            (repeats [] (flat_map Q.arg_ids f.args) ++ flat_map (Q.arg_faults g hb) f.args)
            (ty_faults g.types (Q.result_type f.result))
            (both (repeats [] (flat_map Q.arg_ids f.args)) (flat_map (Q.arg_faults g hb) f.args) (once_fine (flat_map Q.arg_ids f.args) h.once) args.0)
            result.0)
            body.0,
        rw (h.name, sym args.1, sym result.1, sym body.1) refl,
      )

  function_means : (f : t.Fun) → Q.function_faults g f ≡ [] → MeansFunction g f (Q.named_function g f)
  function_means f h =
      let hb = Q.has_body f.body in
      let last = empty_parts ((repeats [] (flat_map Q.arg_ids f.args) ++ flat_map (Q.arg_faults g hb) f.args) ++ ty_faults g.types (Q.result_type f.result)) (Q.body_faults (Q.function_scope g f) f.body) h in
      let more = empty_parts (repeats [] (flat_map Q.arg_ids f.args) ++ flat_map (Q.arg_faults g hb) f.args) (ty_faults g.types (Q.result_type f.result)) last.0 in
      let one = empty_parts (repeats [] (flat_map Q.arg_ids f.args)) (flat_map (Q.arg_faults g hb) f.args) more.0 in
      record {
        name = refl;
        once = once_mean (flat_map Q.arg_ids f.args) one.0;
        params = match_mean (MeansArg g hb) (Q.arg_faults g hb) (Q.arg_type g) (arg_means hb) f.args one.1;
        result = ty_means g.types (Q.result_type f.result) more.1;
        body = body_text_means (Q.function_scope g f) f.body last.1;
      }

  -- ---- specifications

  modified_fine : (xs : List t.Id) → ((x : t.Id) → Contains xs x → is_global (value_of g.values g.meanings x.text) ≡ true) → flat_map (modified_faults g) xs ≡ []
  modified_fine [] h = refl
  modified_fine (x ∷ xs) h =
      both
      (modified_faults g x)
      (flat_map (modified_faults g) xs)
      (ap (λ (z : Bool). unless z (fault kinds.UnknownName x.pos x.text)) (h x (contained (x ∷ xs) x (inl refl))))
      (modified_fine xs (λ y c. h y (contained (x ∷ xs) y (inr (member xs y c)))))

  modified_means : (xs : List t.Id) → flat_map (modified_faults g) xs ≡ [] → (x : t.Id) → Contains xs x → is_global (value_of g.values g.meanings x.text) ≡ true
  modified_means xs h x c =
      holds (is_global (value_of g.values g.meanings x.text)) (fault kinds.UnknownName x.pos x.text) (each_nil (modified_faults g) xs h x (member xs x c))

  module _ (s : t.Sig) where
    specs_fine : (n : ℕ) (specs : List t.Spec) (rs es : List r.Clause) → MeanSpecs g (Q.requires_scope g s) (Q.ensures_scope g s) n specs rs es → (flat_map (Q.spec_faults g s) specs ≡ []) × (named_requires (Q.requires_scope g s) n specs ≡ rs) × (named_ensures (Q.ensures_scope g s) n specs ≡ es)
    specs_fine n [] rs es h = (refl, sym h.0, sym h.1)
    specs_fine n (t.Requires k ∷ specs) rs es h =
        let w = clause_fine (Q.requires_scope g s) n k h.0 h.1.1 in
        let v = specs_fine (n + 1) specs h.1.0 es h.1.2 in (
          both (clause_faults (Q.requires_scope g s) k) (flat_map (Q.spec_faults g s) specs) w.0 v.0,
          ap (λ (x : r.Clause). x ∷ named_requires (Q.requires_scope g s) (n + 1) specs) w.1 ∙ (ap (λ (l : List r.Clause). h.0 ∷ l) v.1 ∙ sym h.1.3),
          v.2,
        )
    specs_fine n (t.Ensures k ∷ specs) rs es h =
        let w = clause_fine (Q.ensures_scope g s) n k h.0 h.1.1 in
        let v = specs_fine (n + 1) specs rs h.1.0 h.1.2 in (
          both (clause_faults (Q.ensures_scope g s) k) (flat_map (Q.spec_faults g s) specs) w.0 v.0,
          v.1,
          ap (λ (x : r.Clause). x ∷ named_ensures (Q.ensures_scope g s) (n + 1) specs) w.1 ∙ (ap (λ (l : List r.Clause). h.0 ∷ l) v.2 ∙ sym h.1.3),
        )
    specs_fine n (t.Modifies p xs ∷ specs) rs es h =
        let v = specs_fine n specs rs es h.1 in
        (both (flat_map (modified_faults g) xs) (flat_map (Q.spec_faults g s) specs) (modified_fine xs h.0) v.0, v.1, v.2)

    specs_mean : (n : ℕ) (specs : List t.Spec) → flat_map (Q.spec_faults g s) specs ≡ [] → MeanSpecs g (Q.requires_scope g s) (Q.ensures_scope g s) n specs (named_requires (Q.requires_scope g s) n specs) (named_ensures (Q.ensures_scope g s) n specs)
    specs_mean n [] h = (refl, refl)
    specs_mean n (t.Requires k ∷ specs) h =
        let w = empty_parts (clause_faults (Q.requires_scope g s) k) (flat_map (Q.spec_faults g s) specs) h in
        (named_clause (Q.requires_scope g s) n k, (named_requires (Q.requires_scope g s) (n + 1) specs, clause_means (Q.requires_scope g s) n k w.0, specs_mean (n + 1) specs w.1, refl))
    specs_mean n (t.Ensures k ∷ specs) h =
        let w = empty_parts (clause_faults (Q.ensures_scope g s) k) (flat_map (Q.spec_faults g s) specs) h in
        (named_clause (Q.ensures_scope g s) n k, (named_ensures (Q.ensures_scope g s) (n + 1) specs, clause_means (Q.ensures_scope g s) n k w.0, specs_mean (n + 1) specs w.1, refl))
    specs_mean n (t.Modifies p xs ∷ specs) h =
        let w = empty_parts (flat_map (modified_faults g) xs) (flat_map (Q.spec_faults g s) specs) h in
        (modified_means xs w.0, specs_mean n specs w.1)

  -- ---- bodies

  abbrev code_as : ℕ → Pos → t.Id → t.Sig → t.Body → r.Impl
  code_as n p q s b = Q.named_code g n p q s b

  code_fine : (n : ℕ) (p : Pos) (q : t.Id) (s : t.Sig) (b : t.Body) (m : r.Impl) → MeansCode g n p q s b m → m.procedure ≡ or_zero (place g.procedures q.text) → (sig_faults g s ≡ []) × (Q.code_faults g q s b ≡ []) × (code_as n p q s b ≡ m)
  code_fine n p q s b m h is =
      let params = groups_fine s.params m.params h.params in
      let results = groups_fine (result_groups s.results) m.results h.results in
      let locals = joined_fine (MeansVars g) (Q.vars_faults g) (Q.named_vars g) vars_fine b.locals m.locals h.locals in
      let body = body_fine (Q.inside g q s b) n b.stmts m.body h.body in (
        both (flat_map (group_faults g) s.params) (flat_map (group_faults g) (result_groups s.results)) params.0 results.0,
        both
            ((repeats [] (Q.frame_ids s b) ++ flat_map (Q.vars_faults g) b.locals) ++ repeats [] (sts_labels b.stmts))
            (sts_faults (Q.inside g q s b) [] false [] [] b.stmts)
            (both
            (repeats [] (Q.frame_ids s b) ++ flat_map (Q.vars_faults g) b.locals)
            (repeats [] (sts_labels b.stmts))
            (both (repeats [] (Q.frame_ids s b)) (flat_map (Q.vars_faults g) b.locals) (once_fine (Q.frame_ids s b) h.once) locals.0)
            (once_fine (sts_labels b.stmts) h.labels))
            body.0,
        rw (h.pos, h.name, is, sym params.1, sym results.1, sym locals.1, sym body.1) refl,
      )

  code_means : (n : ℕ) (p : Pos) (q : t.Id) (s : t.Sig) (b : t.Body) → sig_faults g s ≡ [] → Q.code_faults g q s b ≡ [] → MeansCode g n p q s b (code_as n p q s b)
  code_means n p q s b hs h =
      let sig = empty_parts (flat_map (group_faults g) s.params) (flat_map (group_faults g) (result_groups s.results)) hs in
      let last = empty_parts ((repeats [] (Q.frame_ids s b) ++ flat_map (Q.vars_faults g) b.locals) ++ repeats [] (sts_labels b.stmts)) (sts_faults (Q.inside g q s b) [] false [] [] b.stmts) h in
      let more = empty_parts (repeats [] (Q.frame_ids s b) ++ flat_map (Q.vars_faults g) b.locals) (repeats [] (sts_labels b.stmts)) last.0 in
      let one = empty_parts (repeats [] (Q.frame_ids s b)) (flat_map (Q.vars_faults g) b.locals) more.0 in
      record {
        pos = refl;
        name = refl;
        params = groups_mean s.params sig.0;
        results = groups_mean (result_groups s.results) sig.1;
        once = once_mean (Q.frame_ids s b) one.0;
        locals = joined_mean (MeansVars g) (Q.vars_faults g) (Q.named_vars g) vars_mean b.locals one.1;
        labels = once_mean (sts_labels b.stmts) more.1;
        body = body_means (Q.inside g q s b) n b.stmts last.1;
      }

  own_fine : (n : ℕ) (q : t.Proc) (o : Option t.Body) (ms : List r.Impl) → MeansOwnBody g n q o ms → (Q.option_faults g q.name q.sig o ≡ []) × (Q.named_option g n q.pos q.name q.sig o ≡ ms)
  own_fine n q None ms h = (once_fine (param_ids q.sig ++ result_ids q.sig) h.0, sym h.1)
  own_fine n q (Some b) ms h =
      let w = code_fine n q.pos q.name q.sig b h.0 h.1 h.2 in (w.1, ap (λ (m : r.Impl). m ∷ []) w.2 ∙ sym h.3)

  own_means : (n : ℕ) (q : t.Proc) (o : Option t.Body) → sig_faults g q.sig ≡ [] → Q.option_faults g q.name q.sig o ≡ [] → MeansOwnBody g n q o (Q.named_option g n q.pos q.name q.sig o)
  own_means n q None hs h = (once_mean (param_ids q.sig ++ result_ids q.sig) h, refl)
  own_means n q (Some b) hs h = (code_as n q.pos q.name q.sig b, code_means n q.pos q.name q.sig b hs h, refl, refl)

  procedure_fine : (n : ℕ) (q : t.Proc) (k : r.Proc) → MeansProcedure g n q k → (sig_faults g q.sig ≡ []) × (flat_map (Q.spec_faults g q.sig) q.specs ≡ []) × (Q.named_procedure g n q ≡ k)
  procedure_fine n q k h =
      let params = groups_fine q.sig.params k.params h.params in
      let results = groups_fine (result_groups q.sig.results) k.results h.results in
      let specs = specs_fine q.sig n q.specs k.requires_ k.ensures_ h.specs in (
        both (flat_map (group_faults g) q.sig.params) (flat_map (group_faults g) (result_groups q.sig.results)) params.0 results.0,
        specs.0,
        rw (h.pos, h.name, sym params.1, sym results.1, h.modifies, sym specs.1, sym specs.2) refl,
      )

  procedure_means : (n : ℕ) (q : t.Proc) → sig_faults g q.sig ≡ [] → flat_map (Q.spec_faults g q.sig) q.specs ≡ [] → MeansProcedure g n q (Q.named_procedure g n q)
  procedure_means n q hs h =
      let sig = empty_parts (flat_map (group_faults g) q.sig.params) (flat_map (group_faults g) (result_groups q.sig.results)) hs in
      record {
        pos = refl;
        name = refl;
        params = groups_mean q.sig.params sig.0;
        results = groups_mean (result_groups q.sig.results) sig.1;
        modifies = refl;
        specs = specs_mean q.sig n q.specs h;
      }

  -- ---- constants

  abbrev constants_part : Bool → t.Consts → r.Ty → r.Program
  constants_part cs c e =
      record no_program {
        constants = if cs then [] else map (constant c e) c.group.names;
        candidates = if cs then c.group.names else [];
      }

  abbrev constant_test : Bool → t.Consts → t.Id → List Fault
  constant_test cs c x = unless (not cs || (not c.is_unique && is_bool c.group.ty)) (fault kinds.BadCandidateUse x.pos x.text)

  and_true : (a b : Bool) → a ≡ false → b ≡ true → (not a && b) ≡ true
  and_true true b e f = never (sym e)
  and_true false b e f = f

  and_parts : (a b : Bool) → (not a && b) ≡ true → (a ≡ false) × (b ≡ true)
  and_parts true b h = never h
  and_parts false b h = (refl, h)

  constants_fine : (cs : Bool) (c : t.Consts) (e : r.Ty) (p : r.Program) → MeansConstants cs c e p → (flat_map (constant_test cs c) c.group.names ≡ []) × (constants_part cs c e ≡ p)
  constants_fine false c e p h = (none_faulty (constant_test false c) c.group.names (λ x i. refl), sym h)
  constants_fine true c e p h = (
    none_faulty
        (constant_test true c)
        c.group.names
        (λ x i. let w = h.0 x (contained c.group.names x i) in ap (λ (z : Bool). unless z (fault kinds.BadCandidateUse x.pos x.text)) (and_true c.is_unique (is_bool c.group.ty) w.0 w.1)),
    sym h.1,
  )

  constants_mean : (cs : Bool) (c : t.Consts) (e : r.Ty) → flat_map (constant_test cs c) c.group.names ≡ [] → MeansConstants cs c e (constants_part cs c e)
  constants_mean false c e h = refl
  constants_mean true c e h = (
    λ x i. and_parts c.is_unique (is_bool c.group.ty) (holds (not c.is_unique && is_bool c.group.ty) (fault kinds.BadCandidateUse x.pos x.text) (each_nil (constant_test true c) c.group.names h x (member c.group.names x i))),
    refl,
  )

  -- ---- declarations

  decl_fine : (n : ℕ) (d : t.Decl) (p : r.Program) → MeansDecl g n d p → (Q.decl_faults g d ≡ []) × (part_of g n d ≡ p)
  decl_fine n (t.Types pos attrs ds) p h =
      let w = match_fine (MeansNew g) (Q.synonym_faults g) (Q.named_new g) new_fine ds h.0 h.1 in
      (w.0, ap (λ (ks : List r.TypeName). record no_program { types = ks }) w.1 ∙ sym h.2)
  decl_fine n (t.Constants c) p h =
      let w = ty_fine g.types c.group.ty h.0 h.1 in
      let v = constants_fine (are_candidates c) c h.0 p h.2 in
      (both (group_faults g c.group) (flat_map (constant_test (are_candidates c) c) c.group.names) w.0 v.0, ap (constants_part (are_candidates c) c) w.1 ∙ v.1)
  decl_fine n (t.Function f) p h =
      let w = function_fine f h.0 h.1 in (w.0, ap (λ (k : r.Fun). record no_program { functions = k ∷ [] }) w.1 ∙ sym h.2)
  decl_fine n (t.Axiom pos attrs a) p h =
      let w = means_fine (Q.axiom_scope g) a h.0 h.1 in (w.0, ap (λ (x : r.Ex). record no_program { axioms = x ∷ [] }) w.1 ∙ sym h.2)
  decl_fine n (t.Globals v) p h =
      let w = vars_fine v h.0 h.1 in (w.0, ap (λ (ds : List r.Declared). record no_program { globals = ds }) w.1 ∙ sym h.2)
  decl_fine n (t.Procedure q) p h =
      let w = procedure_fine n q h.0 h.1.1 in
      let v = own_fine (n + specs_count q.specs) q q.body h.1.0 h.1.2 in (
        both (sig_faults g q.sig ++ flat_map (Q.spec_faults g q.sig) q.specs) (Q.option_faults g q.name q.sig q.body) (both (sig_faults g q.sig) (flat_map (Q.spec_faults g q.sig) q.specs) w.0 w.1) v.0,
        ap (λ (k : r.Proc). record no_program { procedures = k ∷ []; implementations = Q.named_option g (n + specs_count q.specs) q.pos q.name q.sig q.body }) w.2
            ∙ (ap (λ (ms : List r.Impl). record no_program { procedures = h.0 ∷ []; implementations = ms }) v.1 ∙ sym h.1.3),
      )
  decl_fine n (t.Implementation m) p h =
      let w = code_fine n m.pos m.name m.sig m.body h.0 h.2 (sym (ap or_zero h.1)) in (
        both
            (use_faults g.procedures m.name ++ sig_faults g m.sig)
            (Q.code_faults g m.name m.sig m.body)
            (both (use_faults g.procedures m.name) (sig_faults g m.sig) (no_use g.procedures m.name.pos m.name.text h.0.procedure h.1) w.0)
            w.1,
        ap (λ (i : r.Impl). record no_program { implementations = i ∷ [] }) w.2 ∙ sym h.3,
      )

  decl_means : (n : ℕ) (d : t.Decl) → Q.decl_faults g d ≡ [] → MeansDecl g n d (part_of g n d)
  decl_means n (t.Types pos attrs ds) h =
      (map (Q.named_new g) ds, match_mean (MeansNew g) (Q.synonym_faults g) (Q.named_new g) new_means ds h, refl)
  decl_means n (t.Constants c) h =
      let w = empty_parts (group_faults g c.group) (flat_map (constant_test (are_candidates c) c) c.group.names) h in
      (named_ty g.types c.group.ty, ty_means g.types c.group.ty w.0, constants_mean (are_candidates c) c (named_ty g.types c.group.ty) w.1)
  decl_means n (t.Function f) h = (Q.named_function g f, function_means f h, refl)
  decl_means n (t.Axiom pos attrs a) h = (named_ex (Q.axiom_scope g) a, faultless_means (Q.axiom_scope g) a h, refl)
  decl_means n (t.Globals v) h = (Q.named_vars g v, vars_mean v h, refl)
  decl_means n (t.Procedure q) h =
      let last = empty_parts (sig_faults g q.sig ++ flat_map (Q.spec_faults g q.sig) q.specs) (Q.option_faults g q.name q.sig q.body) h in
      let one = empty_parts (sig_faults g q.sig) (flat_map (Q.spec_faults g q.sig) q.specs) last.0 in
      (Q.named_procedure g n q, (Q.named_option g (n + specs_count q.specs) q.pos q.name q.sig q.body, procedure_means n q one.0 one.1, own_means (n + specs_count q.specs) q q.body one.0 last.1, refl))
  decl_means n (t.Implementation m) h =
      let last = empty_parts (use_faults g.procedures m.name ++ sig_faults g m.sig) (Q.code_faults g m.name m.sig m.body) h in
      let one = empty_parts (use_faults g.procedures m.name) (sig_faults g m.sig) last.0 in
      let at = used g.procedures m.name one.0 in
      let is_zero : place g.procedures m.name.text ≡ Some (or_zero (place g.procedures m.name.text)) = at.1 ∙ ap (λ (o : Option ℕ). Some (or_zero o)) (sym at.1) in
      (code_as n m.pos m.name m.sig m.body, is_zero, code_means n m.pos m.name m.sig m.body one.1 last.1, refl)

  pub decls_fine : (n : ℕ) (ds : List t.Decl) (p : r.Program) → MeanDecls g n ds p → (flat_map (Q.decl_faults g) ds ≡ []) × (parts_from g n ds ≡ p)
  decls_fine n [] p h = (refl, sym h)
  decls_fine n (d ∷ ds) p h =
      let w = decl_fine n d h.0 h.1.1 in
      let v = decls_fine (n + Q.decl_count d) ds h.1.0 h.1.2 in
      (both (Q.decl_faults g d) (flat_map (Q.decl_faults g) ds) w.0 v.0, ap (λ (q : r.Program). joined q (parts_from g (n + Q.decl_count d) ds)) w.1 ∙ (ap (joined h.0) v.1 ∙ sym h.1.3))

  pub decls_mean : (n : ℕ) (ds : List t.Decl) → flat_map (Q.decl_faults g) ds ≡ [] → MeanDecls g n ds (parts_from g n ds)
  decls_mean n [] h = refl
  decls_mean n (d ∷ ds) h =
      let w = empty_parts (Q.decl_faults g d) (flat_map (Q.decl_faults g) ds) h in
      (part_of g n d, (parts_from g (n + Q.decl_count d) ds, decl_means n d w.0, decls_mean (n + Q.decl_count d) ds w.1, refl))

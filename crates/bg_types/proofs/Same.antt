-- The faults of bodies by the types of declarations are those of the program.
use Rattle.std.proofs.Common.{◌≡◌, ℕ, List, [], ◌∷◌, ◌++◌, length, map, drop, Option, Some, None, slice_get, refl, sym, ap, ◌∙◌, ◌+◌, ◌≤◌, append_assoc, arith}
use Rattle.std.proofs.lemmas.List.{length-map, length-append}
use Rattle.std.proofs.lemmas.Option.{slice_get-map}
use Rattle.std.specs.Option.{option_map}
use Rattle.bg_ast.specs.declared.resolved.Implementation.{Implementation}
use Rattle.bg_ast.specs.Views.{impl_of, declared_of}
use Rattle.bg_types.specs.declared.tables.Frame.{Frame}
use Rattle.bg_kinds.specs.KindViews.{kind_in_of}
use Rattle.bg_types.specs.Tables.{frame_of}
use Rattle.bg_kinds.proofs.Loops.{both}
use Rattle.bg_ast.specs.Resolved as r
use Rattle.bg_kinds.specs.Faults.{Fault, first_of}
use Rattle.bg_kinds.specs.Kinds.{Kind}
use Rattle.bg_typing.specs.Sides.{Scope, Shape, matched_faults}
use Rattle.bg_typing.specs.Stmts.{sts_faults, truths_faults}
use Rattle.bg_types.specs.Programs.{declared_kind, declared_kinds, declared_side, declared_sides, function_shape, procedure_shape, procedure_frame, implementation_frame, scope_in, with_frame, without_globals, synonyms_faults, consts_faults, declared_faults, functions_faults, procedures_faults, implementations_faults, types_part, bodies_part, body_faults, bodies_faults, specification_faults, specifications_faults, matching_faults, implementation_faults, impls_faults}
use Rattle.bg_types.specs.Checks.{bodies_by, specifications_by, sides_by, matching_by, implementations_by}

pub slice_get_map : {A B : Type 0} (f : A → B) (xs : List A) (i : ℕ) (x : A) → slice_get xs i ≡ Some x → slice_get (map f xs) i ≡ Some (f x)
slice_get_map f xs i x h = slice_get-map f xs i ∙ ap (option_map f) h

-- two lists are as long as one another where what is read of them is the same
pub as_long : {A B C D : Type 0} (f : A → D) (g : C → D) (h : B → C) (xs xs' : List A) (ys ys' : List B) → xs' ≡ xs → ys' ≡ ys → map f xs ≡ map g (map h ys) → length xs' ≡ length ys'
as_long f g h xs xs' ys ys' i j e =
    ap length i ∙ (sym (length-map xs f) ∙ (ap length e ∙ (length-map (map h ys) g ∙ (length-map ys h ∙ sym (ap length j)))))

pub same_bodies : (named : ℕ → Kind) (g : Scope) (fs : List r.Fun) → bodies_by g (map (function_shape named) fs) fs ≡ bodies_faults named g fs
same_bodies named g [] = refl
same_bodies named g (f ∷ fs) = ap (λ l. body_faults g (function_shape named f) f.body ++ l) (same_bodies named g fs)

pub same_specifications : (named : ℕ → Kind) (g : Scope) (qs : List r.Proc) → specifications_by g (map (procedure_shape named) qs) (map (procedure_frame named) qs) qs ≡ specifications_faults named g qs
same_specifications named g [] = refl
same_specifications named g (q ∷ qs) = ap (λ l. specification_faults named g q ++ l) (same_specifications named g qs)

-- declarations whose types are the first of a row
front_sides : (named : ℕ → Kind) (ds : List r.Declared) (ks : List Kind) → sides_by ds (declared_kinds named ds ++ ks) ≡ declared_sides named ds
front_sides named [] ks = refl
front_sides named (d ∷ ds) ks = ap (λ l. declared_side named d ∷ l) (front_sides named ds ks)

behind_front : (named : ℕ → Kind) (ds : List r.Declared) (ks : List Kind) → drop (length ds) (declared_kinds named ds ++ ks) ≡ ks
behind_front named [] ks = refl
behind_front named (d ∷ ds) ks = behind_front named ds ks

same_params : (named : ℕ → Kind) (m : r.Impl) → sides_by m.params (implementation_frame named m) ≡ declared_sides named m.params
same_params named m =
    ap (sides_by m.params) (append_assoc (declared_kinds named m.params) (declared_kinds named m.results) (declared_kinds named m.locals))
    ∙ front_sides named m.params (declared_kinds named m.results ++ declared_kinds named m.locals)

same_results : (named : ℕ → Kind) (m : r.Impl) → sides_by m.results (drop (length m.params) (implementation_frame named m)) ≡ declared_sides named m.results
same_results named m =
    ap (λ l. sides_by m.results (drop (length m.params) l)) (append_assoc (declared_kinds named m.params) (declared_kinds named m.results) (declared_kinds named m.locals))
    ∙ (ap (sides_by m.results) (behind_front named m.params (declared_kinds named m.results ++ declared_kinds named m.locals))
    ∙ front_sides named m.results (declared_kinds named m.locals))

same_matching : (named : ℕ → Kind) (q : Option Shape) (m : r.Impl) → matching_by q (implementation_frame named m) m ≡ matching_faults named q m
same_matching named None m = refl
same_matching named (Some q) m =
    ap (λ l. matched_faults m.name.pos q.params l ++ matched_faults m.name.pos q.results (sides_by m.results (drop (length m.params) (implementation_frame named m)))) (same_params named m)
    ∙ ap (λ l. matched_faults m.name.pos q.params (declared_sides named m.params) ++ matched_faults m.name.pos q.results l) (same_results named m)

pub same_implementations : (named : ℕ → Kind) (g : Scope) (ms : List r.Impl) → implementations_by g (map (implementation_frame named) ms) ms ≡ impls_faults named g ms
same_implementations named g [] = refl
same_implementations named g (m ∷ ms) =
    ap (λ l. (l ++ sts_faults (with_frame g (implementation_frame named m)) m.body) ++ implementations_by g (map (implementation_frame named) ms) ms) (same_matching named (slice_get g.procedures m.procedure) m)
    ∙ ap (λ l. implementation_faults named g m ++ l) (same_implementations named g ms)

-- scopes are the same where their parts are
pub same_scope : (a b : Scope) → a.constants ≡ b.constants → a.globals ≡ b.globals → a.frame ≡ b.frame → a.functions ≡ b.functions → a.procedures ≡ b.procedures → a ≡ b
same_scope a b h i j k l =
    let e1 : a ≡ record a { constants = b.constants } = ap (λ x. record a { constants = x }) h in
    let a1 = record a { constants = b.constants } in
    let e2 : a1 ≡ record a1 { globals = b.globals } = ap (λ x. record a1 { globals = x }) i in
    let a2 = record a1 { globals = b.globals } in
    let e3 : a2 ≡ record a2 { frame = b.frame } = ap (λ x. record a2 { frame = x }) j in
    let a3 = record a2 { frame = b.frame } in
    let e4 : a3 ≡ record a3 { functions = b.functions } = ap (λ x. record a3 { functions = x }) k in
    let a4 = record a3 { functions = b.functions } in
    let e5 : a4 ≡ record a4 { procedures = b.procedures } = ap (λ x. record a4 { procedures = x }) l in
    e1 ∙ (e2 ∙ (e3 ∙ (e4 ∙ e5)))

-- the faults of bodies, by the tables of a program
pub all_best : (named : ℕ → Kind) (p : r.Program) (g : Scope) (functions procedures : List Shape) (pf mf : List (List Kind)) (b0 b1 b2 b3 b4 : Option Fault) → g ≡ scope_in named p → functions ≡ map (function_shape named) p.functions → procedures ≡ map (procedure_shape named) p.procedures → pf ≡ map (procedure_frame named) p.procedures → mf ≡ map (implementation_frame named) p.implementations → b1 ≡ first_of b0 (bodies_by g functions p.functions) → b2 ≡ first_of b1 (truths_faults (without_globals g []) p.axioms) → b3 ≡ first_of b2 (specifications_by g procedures pf p.procedures) → b4 ≡ first_of b3 (implementations_by g mf p.implementations) → b4 ≡ first_of b0 (bodies_part named (scope_in named p) p)
all_best named p g functions procedures pf mf b0 b1 b2 b3 b4 eg ef ep es em h1 h2 h3 h4 =
    let G = scope_in named p in
    let k1 = h1 ∙ (ap (λ g. first_of b0 (bodies_by g functions p.functions)) eg ∙ (ap (λ l. first_of b0 (bodies_by G l p.functions)) ef ∙ ap (first_of b0) (same_bodies named G p.functions))) in
    let k2 = h2 ∙ ap (λ g. first_of b1 (truths_faults (without_globals g []) p.axioms)) eg in
    let k3 = h3 ∙ (ap (λ g. first_of b2 (specifications_by g procedures pf p.procedures)) eg ∙ (ap (λ l. first_of b2 (specifications_by G l pf p.procedures)) ep ∙ (ap (λ l. first_of b2 (specifications_by G (map (procedure_shape named) p.procedures) l p.procedures)) es ∙ ap (first_of b2) (same_specifications named G p.procedures)))) in
    let k4 = h4 ∙ (ap (λ g. first_of b3 (implementations_by g mf p.implementations)) eg ∙ (ap (λ l. first_of b3 (implementations_by G l p.implementations)) em ∙ ap (first_of b3) (same_implementations named G p.implementations))) in
    let f1 = bodies_faults named G p.functions in
    let f2 = truths_faults (without_globals G []) p.axioms in
    let f3 = specifications_faults named G p.procedures in
    let f4 = impls_faults named G p.implementations in
    both b0 b1 b4 f1 (f2 ++ (f3 ++ f4)) k1 (both b1 b2 b4 f2 (f3 ++ f4) k2 (both b2 b3 b4 f3 f4 k3 k4))

-- frames are wide enough
frame_long : (named : ℕ → Kind) (m : r.Impl) → length m.params + length m.results ≤ length (implementation_frame named m)
frame_long named m =
    let ps = declared_kinds named m.params in
    let rs = declared_kinds named m.results in
    let ls = declared_kinds named m.locals in
    let a = length-append (ps ++ rs) ls in
    let b = length-append ps rs in
    let c = length-map m.params (declared_kind named) in
    let d = length-map m.results (declared_kind named) in
    omega (arith, a, b, c, d)

pub wide : (named : ℕ → Kind) (frames : List Frame) (ms : List Implementation) → map frame_of frames ≡ map (implementation_frame named) (map impl_of ms) → (i : ℕ) (f : Frame) (m : Implementation) → slice_get frames i ≡ Some f → slice_get ms i ≡ Some m → length m.params.items + length m.results.items ≤ length f.kinds.items
wide named frames ms h i f m hf hm =
    let x : slice_get (map frame_of frames) i ≡ Some (frame_of f) = slice_get_map frame_of frames i f hf in
    let y : slice_get (map impl_of ms) i ≡ Some (impl_of m) = slice_get_map impl_of ms i m hm in
    let z : slice_get (map (implementation_frame named) (map impl_of ms)) i ≡ Some (implementation_frame named (impl_of m)) = slice_get_map (implementation_frame named) (map impl_of ms) i (impl_of m) y in
    let s : Some (frame_of f) ≡ Some (implementation_frame named (impl_of m)) = sym x ∙ (ap (λ l. slice_get l i) h ∙ z) in
    let e : frame_of f ≡ implementation_frame named (impl_of m) = cc in
    let a = length-map f.kinds.items kind_in_of in
    let b = length-map m.params.items declared_of in
    let c = length-map m.results.items declared_of in
    let d = ap length e in
    omega (arith, a, b, c, d, frame_long named (impl_of m))

-- the faults of the types of declarations, kind by kind
pub types_best : (named : ℕ → Kind) (p : r.Program) (b0 b1 b2 b3 b4 b5 b6 : Option Fault) → b1 ≡ first_of b0 (synonyms_faults named p.types) → b2 ≡ first_of b1 (consts_faults named p.constants) → b3 ≡ first_of b2 (declared_faults named p.globals) → b4 ≡ first_of b3 (functions_faults named p.functions) → b5 ≡ first_of b4 (procedures_faults named p.procedures) → b6 ≡ first_of b5 (implementations_faults named p.implementations) → b6 ≡ first_of b0 (types_part named p)
types_best named p b0 b1 b2 b3 b4 b5 b6 h1 h2 h3 h4 h5 h6 =
    let five = procedures_faults named p.procedures ++ implementations_faults named p.implementations in
    let four = functions_faults named p.functions ++ five in
    let three = declared_faults named p.globals ++ four in
    both b0 b1 b6 (synonyms_faults named p.types) (consts_faults named p.constants ++ three) h1 (both b1 b2 b6 (consts_faults named p.constants) three h2 (both b2 b3 b6 (declared_faults named p.globals) four h3 (both b3 b4 b6 (functions_faults named p.functions) five h4 (both b4 b5 b6 (procedures_faults named p.procedures) (implementations_faults named p.implementations) h5 h6))))

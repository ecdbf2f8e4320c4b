-- Typed programs stay typed.
use Rattle.std.proofs.Common.{◌≡◌, ℕ, zero, suc, ◌+◌, ◌<◌, List, [], ◌∷◌, ◌++◌, map, length, Some, if◌then◌else◌, refl, ap, ◌∙◌, sym, subst, arith, true, false, Bool}
use Rattle.std.specs.Prelude.{All, slice_get, slice_index_or, get_or, option_map}
use Rattle.std.proofs.lemmas.Option.{slice_get-map, slice_get-get_or}
use Rattle.std.proofs.lemmas.List.Elements.{All-nil, All-cons, All-head, All-tail, All-weaker}
use Rattle.bg_ast.specs.Values.{Ty}
use Rattle.bg_ast.specs.Resolved as r
use Rattle.bg_ast.specs.Syntax as s
use Rattle.bg_ast.specs.Meaning.{clause_of, decl_of, proc_of, impl_of, named_of, sts_of, meaning_of}
use Rattle.bg_sense.specs.Variables.{modified, type_in}
use Rattle.bg_sense.specs.Types.{types_of}
use Rattle.bg_sense.specs.Typing.{Sig, sig_in, HaveTypes, types_in}
use Rattle.bg_sense.specs.Resolved.{IsResolved}
use Rattle.bg_sense.specs.Typed.{AreLinear, AreApart, AreTypedDecls, IsFormula, HasNoOld, Around, MayChange, sig_around, around, IsTypedCall, IsTypedStatement, IsTypedProc, IsTypedImpl, IsTyped}
use Rattle.bg_guess.specs.Claims.{Subjects, nothing}
use Rattle.bg_guess.specs.Lists.{subjects}
use Rattle.bg_guess.specs.Loops.{size}
use Rattle.bg_guess.specs.Guessed.{Survey, survey_of, requires_sight, ensures_sight, loop_sight, required, ensured, invariant, impl_count, next_proc, guessed_proc, guessed_procs, guessed_body, guessed_impl, guessed_impls, add_at, loop_counts, loop_starts, above_all, guessed}
use Rattle.bg_guess.proofs.Every.{behind}
use Rattle.bg_guess.proofs.Saying.{Speaks, formulas, without_old, speaks, end_append, risen}
use Rattle.bg_guess.proofs.TypedBodies.{Carries, typed_sts}

-- a procedure that is there is so with guesses
pub proc_there : (v : Survey) (loops : List ℕ) (above b k : ℕ) (named : ℕ → Ty) (qs : List r.Proc) (j : ℕ) (q : s.Proc) → slice_get (map (proc_of named) qs) j ≡ Some q →
    (o : r.Proc) × (c : ℕ) × (i : ℕ) × ((slice_get qs j ≡ Some o) × (q ≡ proc_of named o) × (slice_get (map (proc_of named) (guessed_procs v loops above b k qs)) j ≡ Some (proc_of named (guessed_proc v above c i o))))
proc_there v loops above b k named [] j q h = absurd (let bad : ⊥ = cc in bad)
proc_there v loops above b k named (o ∷ qs) zero q h = (o, b, k, (refl, sym (let e : proc_of named o ≡ q = cc in e), refl))
proc_there v loops above b k named (o ∷ qs) (suc j) q h = proc_there v loops above (next_proc v loops b k o) (suc k) named qs j q h

-- what a list speaks of where there may be none
spoken : (g : Sig) (b : Bool) (l : Subjects) → Speaks g l → Speaks g (if b then l else nothing)
spoken g true l h = h
spoken g false l h = (λ k d lt. absurd (omega arith), λ k d lt. absurd (omega arith))

none_kept : (b : Bool) (l : Subjects) → l.kept ≡ [] → (if b then l else nothing).kept ≡ []
none_kept true l h = h
none_kept false l h = refl

-- what procedures modify is there
pub modifies_there : (p : r.Program) → IsResolved (meaning_of p) → (j : ℕ) (o : r.Proc) → slice_get p.procedures j ≡ Some o → All (λ x. x < length (meaning_of p).globals) o.modifies
modifies_there p h j o e =
    let named = named_of p.types in
    risen (length (meaning_of p).globals) 0 o.modifies (h.modifies j (proc_of named o) (slice_get-map (proc_of named) p.procedures j ∙ ap (option_map (proc_of named)) e))

-- ---- one procedure

typed_requires : (p : r.Program) (above b k : ℕ) (q : r.Proc) → IsTypedProc (meaning_of p) (proc_of (named_of p.types) q) →
    All (λ (c : s.Clause). IsFormula (sig_in (meaning_of (guessed p)) (map (decl_of (named_of p.types)) q.params)) c.says × HasNoOld c.says) (map clause_of (guessed_proc (survey_of p) above b k q).requires_)
typed_requires p above b k q h =
    let ps = map (decl_of (named_of p.types)) q.params in
    let g = sig_in (meaning_of (guessed p)) ps in
    let v = survey_of p in
    let l = required v k q in
    let all = subjects v.base (requires_sight q) in
    let u = subst (λ ds. Speaks (sig_in (meaning_of p) ds) all) (end_append ps) (speaks p (requires_sight q) (All-nil (λ x. x < length (meaning_of p).globals))) in
    let one = formulas g q.pos l (spoken g (get_or v.called k false) all u) in
    let two = without_old q.pos l (none_kept (get_or v.called k false) all refl) in
    behind (λ e. IsFormula g e × HasNoOld e) above q.pos b l q.requires_ h.requires_ (λ j d lt. (one j d lt, two j d lt))

typed_ensures : (p : r.Program) (above b k : ℕ) (q : r.Proc) → IsTypedProc (meaning_of p) (proc_of (named_of p.types) q) → All (λ x. x < length (meaning_of p).globals) q.modifies →
    All (λ (c : s.Clause). IsFormula (sig_in (meaning_of (guessed p)) (map (decl_of (named_of p.types)) q.params ++ map (decl_of (named_of p.types)) q.results)) c.says) (map clause_of (guessed_proc (survey_of p) above b k q).ensures_)
typed_ensures p above b k q h m =
    let ps = map (decl_of (named_of p.types)) q.params in
    let rs = map (decl_of (named_of p.types)) q.results in
    let g = sig_in (meaning_of (guessed p)) (ps ++ rs) in
    let v = survey_of p in
    let l = ensured v k q in
    let all = subjects v.base (ensures_sight q) in
    let u = subst (λ ds. Speaks (sig_in (meaning_of p) (ps ++ ds)) all) (end_append rs) (speaks p (ensures_sight q) m) in
    behind (IsFormula g) above q.pos (b + size (required v k q)) l q.ensures_ h.ensures_ (formulas g q.pos l (spoken g (get_or v.implemented k false) all u))

typed_procs : (p : r.Program) (loops : List ℕ) (above b k : ℕ) (qs : List r.Proc) → All (IsTypedProc (meaning_of p)) (map (proc_of (named_of p.types)) qs) →
    All (λ (q : r.Proc). All (λ x. x < length (meaning_of p).globals) q.modifies) qs →
    All (IsTypedProc (meaning_of (guessed p))) (map (proc_of (named_of p.types)) (guessed_procs (survey_of p) loops above b k qs))
typed_procs p loops above b k [] h m = All-nil (IsTypedProc (meaning_of (guessed p)))
typed_procs p loops above b k (q ∷ qs) h m =
    let P = IsTypedProc (meaning_of p) in
    let M = λ (o : r.Proc). All (λ x. x < length (meaning_of p).globals) o.modifies in
    let named = named_of p.types in
    let v = survey_of p in
    let one = All-head P (proc_of named q) (map (proc_of named) qs) h in
    let here : IsTypedProc (meaning_of (guessed p)) (proc_of named (guessed_proc v above b k q))
    = record {
      params = one.params;
      results = one.results;
      requires_ = typed_requires p above b k q one;
      ensures_ = typed_ensures p above b k q one (All-head M q qs m);
    }
    in
    All-cons (IsTypedProc (meaning_of (guessed p))) (proc_of named (guessed_proc v above b k q)) (map (proc_of named) (guessed_procs v loops above (next_proc v loops b k q) (suc k) qs)) here
    (typed_procs p loops above (next_proc v loops b k q) (suc k) qs (All-tail P (proc_of named q) (map (proc_of named) qs) h) (All-tail M q qs m))

-- ---- one implementation

-- variables have the types that they had
types_same : (p : r.Program) (ds : List s.Decl) (xs : List s.Var) → types_in (meaning_of p) ds xs ≡ types_in (meaning_of (guessed p)) ds xs
types_same p ds [] = refl
types_same p ds (s.Global x ∷ xs) = ap (λ ts. type_in (slice_get (meaning_of p).globals x) ∷ ts) (types_same p ds xs)
types_same p ds (s.Local x ∷ xs) = ap (λ ts. type_in (slice_get ds x) ∷ ts) (types_same p ds xs)

carried : (p : r.Program) (o : r.Proc) (m : r.Impl) (above b c i : ℕ) →
    Carries (around (meaning_of p) (proc_of (named_of p.types) o) (impl_of (named_of p.types) m))
    (around (meaning_of (guessed p)) (proc_of (named_of p.types) (guessed_proc (survey_of p) above c i o)) (impl_of (named_of p.types) (guessed_impl (survey_of p) p.procedures above b m)))
carried p o m above b c i =
    record {
      sig = refl;
      change = change;
      call = call;
      types = types_same p (x.procedure.params ++ (x.procedure.results ++ map (decl_of named) m.locals));
    }
  where
    named : ℕ → Ty
    named = named_of p.types

    x : Around
    x = around (meaning_of p) (proc_of named o) (impl_of named m)

    y : Around
    y = around (meaning_of (guessed p)) (proc_of named (guessed_proc (survey_of p) above c i o)) (impl_of named (guessed_impl (survey_of p) p.procedures above b m))

    change : (v : s.Var) → MayChange x v → MayChange y v
    change (s.Global g) h = h
    change (s.Local g) h = h

    Rest : s.Call → s.Proc → Type 0
    Rest k q =
        HaveTypes k.args (sig_around x) (types_of q.params)
        × (AreLinear k.args × ((types_in x.program x.variables k.takes ≡ types_of q.results) × (AreApart k.takes × (All (MayChange x) k.takes × All (MayChange x) (modified x.program q)))))

    call : (k : s.Call) → IsTypedCall x k → IsTypedCall y k
    call k h =
        let there =
        proc_there (survey_of p) (loop_counts (survey_of p) p.procedures p.implementations) (above_all p.procedures p.implementations) (length p.candidates) 0 named p.procedures k.procedure h.0 h.1.0
        in
        let rest = subst (Rest k) there.3.1 h.1.1 in (
          proc_of named (guessed_proc (survey_of p) (above_all p.procedures p.implementations) there.1 there.2 there.0),
          (there.3.2, (rest.0, (rest.1.0, (sym (types_same p x.variables k.takes) ∙ rest.1.1.0, (rest.1.1.1.0, (All-weaker (MayChange x) (MayChange y) change k.takes rest.1.1.1.1.0, All-weaker (MayChange x) (MayChange y) change _ rest.1.1.1.1.1)))))),
        )

typed_impl : (p : r.Program) → IsResolved (meaning_of p) → (b : ℕ) (m : r.Impl) → IsTypedImpl (meaning_of p) (impl_of (named_of p.types) m) →
    IsTypedImpl (meaning_of (guessed p)) (impl_of (named_of p.types) (guessed_impl (survey_of p) p.procedures (above_all p.procedures p.implementations) b m))
typed_impl p h b m t =
    let named = named_of p.types in
    let v = survey_of p in
    let above = above_all p.procedures p.implementations in
    let there = proc_there v (loop_counts v p.procedures p.implementations) above (length p.candidates) 0 named p.procedures m.procedure t.procedure t.is_there in
    let o = there.0 in
    let x = around (meaning_of p) (proc_of named o) (impl_of named m) in
    let q = proc_of named (guessed_proc v above there.1 there.2 o) in
    let y = around (meaning_of (guessed p)) q (impl_of named (guessed_impl v p.procedures above b m)) in
    let body = subst (λ pr. IsTypedStatement (around (meaning_of p) pr (impl_of named m)) [] [] (sts_of m.body)) there.3.1 t.body in
    record {
      procedure = q;
      is_there = there.3.2;
      locals = subst (λ pr. AreTypedDecls (sig_around (around (meaning_of p) pr (impl_of named m))) (map (decl_of named) m.locals)) there.3.1 t.locals;
      body =
          subst (λ z. IsTypedStatement y [] [] (sts_of (guessed_body v above b m z))) (sym there.3.0)
          (typed_sts x y (carried p o m above b there.1 there.2) above (invariant v o m) (speaks p (loop_sight o m) (modifies_there p h m.procedure o there.3.0)) [] [] b m.body body);
    }

typed_impls : (p : r.Program) → IsResolved (meaning_of p) → (ns : List ℕ) (ms : List r.Impl) → All (IsTypedImpl (meaning_of p)) (map (impl_of (named_of p.types)) ms) →
    All (IsTypedImpl (meaning_of (guessed p))) (map (impl_of (named_of p.types)) (guessed_impls (survey_of p) p.procedures (above_all p.procedures p.implementations) ns ms))
typed_impls p h ns [] t = All-nil (IsTypedImpl (meaning_of (guessed p)))
typed_impls p h ns (m ∷ ms) t =
    let T = IsTypedImpl (meaning_of p) in
    let named = named_of p.types in
    let v = survey_of p in
    let qs = p.procedures in
    let above = above_all qs p.implementations in
    let later = add_at m.procedure (impl_count v qs m) ns in
    All-cons (IsTypedImpl (meaning_of (guessed p))) (impl_of named (guessed_impl v qs above (get_or ns m.procedure 0) m)) (map (impl_of named) (guessed_impls v qs above later ms))
    (typed_impl p h (get_or ns m.procedure 0) m (All-head T (impl_of named m) (map (impl_of named) ms) t)) (typed_impls p h later ms (All-tail T (impl_of named m) (map (impl_of named) ms) t))

pub typed : (p : r.Program) → IsTyped (meaning_of p) → IsResolved (meaning_of p) → IsTyped (meaning_of (guessed p))
typed p t h =
    let v = survey_of p in
    let modified = λ (k : ℕ) (d : r.Proc) (lt : k < length p.procedures). modifies_there p h k (slice_index_or p.procedures k d) (slice_get-get_or p.procedures k d lt) in
    record {
      globals = t.globals;
      axioms = t.axioms;
      bodies = t.bodies;
      plain_bodies = t.plain_bodies;
      procedures = typed_procs p (loop_counts v p.procedures p.implementations) (above_all p.procedures p.implementations) (length p.candidates) 0 p.procedures t.procedures modified;
      implementations = typed_impls p h (loop_starts v (loop_counts v p.procedures p.implementations) (length p.candidates) 0 p.procedures) p.implementations t.implementations;
    }

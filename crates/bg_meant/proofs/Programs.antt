-- A program without faults of names is resolved.
use Rattle.std.proofs.Common.{◌≡◌, ℕ, zero, suc, ◌+◌, ◌<◌, ◌≤◌, Bool, true, false, List, [], ◌∷◌, ◌++◌, map, length, Option, Some, None, if◌then◌else◌, refl, sym, ap, ◌∙◌, subst, arith, inl, inr}
use Rattle.std.specs.Prelude.{slice_get, flat_map}
use Rattle.std.proofs.lemmas.List.{map-append, length-map}
use Rattle.bg_base.specs.declared.pos.Pos.{Pos}
use Rattle.bg_text.specs.Trees as t
use Rattle.bg_text.specs.Types.{All as Each}
use Rattle.bg_text.specs.Declarations.{IsDecl}
use Rattle.bg_ast.specs.Syntax as s
use Rattle.bg_ast.specs.Resolved as r
use Rattle.bg_ast.specs.Values as v
use Rattle.bg_ast.specs.Meaning.{clause_of, sts_of, decl_of, proc_of, impl_of, named_of, meaning_of}
use Rattle.bg_names.specs.declared.scope.Meaning.{Meaning}
use Rattle.bg_names.specs.declared.scope.Meaning.TheVariants as means
use Rattle.bg_names.specs.Spaces.{Scope, meaning, place, or_zero, use_faults, repeats, in_frame, seen, value_at}
use Rattle.bg_names.specs.Inside.{has_number}
use Rattle.bg_bodies.specs.Bodies.{sts_labels, sts_faults}
use Rattle.bg_spaces.specs.Declarations.{Spaces, spaces_of, scope_in, sig_faults, named_requires, named_ensures, specs_count, rising, text_of, global_ids, procedure_ids}
use Rattle.bg_resolve.specs.Program.{vars_faults, requires_scope, ensures_scope, spec_faults, frame_ids, inside, code_faults, option_faults, plain_faults, named_procedure, named_procedures, named_code, named_option, named_implementations, option_count, decl_count, in_turn, named}
use Rattle.bg_sense.specs.Resolved.{AreDifferent, Rise, clauses_in, calls_in, called_in, branches_in, labels_in, specified, in_bodies, clauses_of, IsResolved}
use Rattle.bg_sense.proofs.Members.{In, member}
use Rattle.bg_named.specs.Numbers.{HasNumbers, IsNumber, IsMeant, declared_id, procedure_id}
use Rattle.bg_named.proofs.SpacesOnce.{empty_parts, names_are}
use Rattle.bg_named.proofs.SpacesNames.{global_names, procedure_names}
use Rattle.bg_named.proofs.SpacesNumbers.{are_once, has_numbers}
use Rattle.bg_named.proofs.SpacesPlaces.{place_is, used, has_place}
use Rattle.bg_named.proofs.SpacesEntries.{each_append, each_at}
use Rattle.bg_named.proofs.ProgramsEach.{Known, each_all, gathered_in_turn, once_of, all_known}
use Rattle.bg_meant.proofs.Times.{times, times_append, within, within_none, within_one, within_join, within_most, different}
use Rattle.bg_meant.proofs.Statements.{id_of, total, body_total}
use Rattle.bg_meant.proofs.Labels.{labels_are, own_labels}
use Rattle.bg_meant.proofs.Bodies.{NamesCandidates, IsGuarded, clause_guarded, IsBelow, body_there, body_guarded}

-- ---- numbers of a program

ids_append : (x : ℕ) (ks ls : List s.Clause) → times x (map id_of (ks ++ ls)) ≡ times x (map id_of ks) + times x (map id_of ls)
ids_append x ks ls = ap (times x) (map-append id_of ks ls) ∙ times_append x (map id_of ks) (map id_of ls)

-- how often a number stands in specifications, and in bodies
abbrev procs : ℕ → List s.Proc → ℕ
procs x qs = times x (map id_of (specified qs))

abbrev impls : ℕ → List s.Impl → ℕ
impls x ms = times x (map id_of (in_bodies clauses_in ms)) + (times x (in_bodies calls_in ms) + times x (in_bodies branches_in ms))

procs_cons : (x : ℕ) (q : s.Proc) (qs : List s.Proc) → procs x (q ∷ qs) ≡ (times x (map id_of q.requires_) + times x (map id_of q.ensures_)) + procs x qs
procs_cons x q qs =
    let a = ids_append x q.requires_ (q.ensures_ ++ specified qs) in
    let b = ids_append x q.ensures_ (specified qs) in
    omega (arith, a, b)

procs_append : (x : ℕ) (qs rs : List s.Proc) → procs x (qs ++ rs) ≡ procs x qs + procs x rs
procs_append x [] rs = omega arith
procs_append x (q ∷ qs) rs =
    let a = procs_cons x q (qs ++ rs) in
    let b = procs_cons x q qs in
    let c = procs_append x qs rs in
    omega (arith, a, b, c)

impls_cons : (x : ℕ) (m : s.Impl) (ms : List s.Impl) → impls x (m ∷ ms) ≡ total x m.body + impls x ms
impls_cons x m ms =
    let a = ids_append x (clauses_in m.body) (in_bodies clauses_in ms) in
    let b = times_append x (calls_in m.body) (in_bodies calls_in ms) in
    let c = times_append x (branches_in m.body) (in_bodies branches_in ms) in
    omega (arith, a, b, c)

impls_append : (x : ℕ) (ms ns : List s.Impl) → impls x (ms ++ ns) ≡ impls x ms + impls x ns
impls_append x [] ns = omega arith
impls_append x (m ∷ ms) ns =
    let a = impls_cons x m (ms ++ ns) in
    let b = impls_cons x m ms in
    let c = impls_append x ms ns in
    omega (arith, a, b, c)

specs_total : (x : ℕ) (g h : Scope) (n : ℕ) (specs : List t.Spec) → times x (map id_of (map clause_of (named_requires g n specs))) + times x (map id_of (map clause_of (named_ensures h n specs))) ≡ within n (specs_count specs) x
specs_total x g h n [] = sym (within_none n x)
specs_total x g h n (t.Requires k ∷ specs) =
    let rest = specs_total x g h (n + 1) specs in
    let one = within_one n x in
    let join = within_join n 1 (specs_count specs) x in
    omega (arith, rest, one, join)
specs_total x g h n (t.Ensures k ∷ specs) =
    let rest = specs_total x g h (n + 1) specs in
    let one = within_one n x in
    let join = within_join n 1 (specs_count specs) x in
    omega (arith, rest, one, join)
specs_total x g h n (t.Modifies p xs ∷ specs) = specs_total x g h n specs

-- with the numbers that a declaration gives
abbrev given : ℕ → (ℕ → v.Ty) → Spaces → ℕ → t.Decl → ℕ
given x ty g n d = procs x (map (proc_of ty) (named_procedures g n d)) + impls x (map (impl_of ty) (named_implementations g n d))

option_total : (x : ℕ) (ty : ℕ → v.Ty) (g : Spaces) (n : ℕ) (p : Pos) (q : t.Id) (sig : t.Sig) (o : Option t.Body) → impls x (map (impl_of ty) (named_option g n p q sig o)) ≡ within n (option_count o) x
option_total x ty g n p q sig None = sym (within_none n x)
option_total x ty g n p q sig (Some b) =
    let a = impls_cons x (impl_of ty (named_code g n p q sig b)) [] in
    let e = body_total x (inside g q sig b) n b.stmts in
    omega (arith, a, e)

decl_total : (x : ℕ) (ty : ℕ → v.Ty) (g : Spaces) (n : ℕ) (d : t.Decl) → given x ty g n d ≡ within n (decl_count d) x
decl_total x ty g n (t.Types p attrs es) = sym (within_none n x)
decl_total x ty g n (t.Constants c) = sym (within_none n x)
decl_total x ty g n (t.Function f) = sym (within_none n x)
decl_total x ty g n (t.Axiom p attrs e) = sym (within_none n x)
decl_total x ty g n (t.Globals vs) = sym (within_none n x)
decl_total x ty g n (t.Procedure q) =
    let a = procs_cons x (proc_of ty (named_procedure g n q)) [] in
    let e = specs_total x (requires_scope g q.sig) (ensures_scope g q.sig) n q.specs in
    let o = option_total x ty g (n + specs_count q.specs) q.pos q.name q.sig q.body in
    let join = within_join n (specs_count q.specs) (option_count q.body) x in
    omega (arith, a, e, o, join)
decl_total x ty g n (t.Implementation m) =
    let a = impls_cons x (impl_of ty (named_code g n m.pos m.name m.sig m.body)) [] in
    let e = body_total x (inside g m.name m.sig m.body) n m.body.stmts in
    omega (arith, a, e)

abbrev count : List t.Decl → ℕ
count [] = 0
count (d ∷ ds) = decl_count d + count ds

turn_total : (x : ℕ) (ty : ℕ → v.Ty) (g : Spaces) (n : ℕ) (ds : List t.Decl) → procs x (map (proc_of ty) (in_turn (named_procedures g) n ds)) + impls x (map (impl_of ty) (in_turn (named_implementations g) n ds)) ≡ within n (count ds) x
turn_total x ty g n [] = sym (within_none n x)
turn_total x ty g n (d ∷ ds) =
    let qs = in_turn (named_procedures g) (n + decl_count d) ds in
    let ms = in_turn (named_implementations g) (n + decl_count d) ds in
    let a = ap (procs x) (map-append (proc_of ty) (named_procedures g n d) qs) ∙ procs_append x (map (proc_of ty) (named_procedures g n d)) (map (proc_of ty) qs) in
    let b = ap (impls x) (map-append (impl_of ty) (named_implementations g n d) ms) ∙ impls_append x (map (impl_of ty) (named_implementations g n d)) (map (impl_of ty) ms) in
    let e = decl_total x ty g n d in
    let f = turn_total x ty g (n + decl_count d) ds in
    let join = within_join n (decl_count d) (count ds) x in
    omega (arith, a, b, e, f, join)

whole_total : (x : ℕ) (ds : List t.Decl) → procs x (meaning_of (named ds)).procedures + impls x (meaning_of (named ds)).implementations ≤ 1
whole_total x ds =
    let e = turn_total x (named_of (named ds).types) (spaces_of ds) 0 ds in
    let m = within_most 0 (count ds) x in
    omega (arith, e, m)

clauses_total : (x : ℕ) (p : s.Prog) → times x (map id_of (clauses_of p)) ≡ procs x p.procedures + times x (map id_of (in_bodies clauses_in p.implementations))
clauses_total x p = ids_append x (specified p.procedures) (in_bodies clauses_in p.implementations)

-- ---- what a program modifies, by declaration

rise_more : (low n : ℕ) (ks : List ℕ) → low ≤ n → Rise low n ks → Rise low (suc n) ks
rise_more low n [] l h = tt
rise_more low n (k ∷ ks) l h =
    let a = h.0 in
    let b = h.1 in
    (a, omega (arith, b), rise_more (suc k) n ks (omega (arith, b)) h.2)

rise_last : (low n : ℕ) (ks : List ℕ) → low ≤ n → Rise low n ks → Rise low (suc n) (ks ++ n ∷ [])
rise_last low n [] l h = (l, omega arith, tt)
rise_last low n (k ∷ ks) l h =
    let a = h.0 in
    let b = h.1 in
    (a, omega (arith, b), rise_last (suc k) n ks (omega (arith, b)) h.2)

whole : (xs : List ℕ) → xs ++ [] ≡ xs
whole [] = refl
whole (y ∷ ys) = ap (λ (l : List ℕ). y ∷ l) (whole ys)

pub rising_rise : (n : ℕ) (ks : List ℕ) → Rise 0 n (rising n ks)
rising_rise zero ks = tt
rising_rise (suc n) ks = by (has_number ks n) (rising_rise n ks)
  where
    by : (b : Bool) → Rise 0 n (rising n ks) → Rise 0 (suc n) (rising n ks ++ (if b then n ∷ [] else []))
    by true h = rise_last 0 n (rising n ks) (omega arith) h
    by false h = subst (Rise 0 (suc n)) (sym (whole (rising n ks))) (rise_more 0 n (rising n ks) (omega arith) h)

-- ---- each procedure and each implementation

each_map : {A B : Type 0} (f : A → B) (P : B → Type 0) (xs : List A) → Each (λ x. P (f x)) xs → Each P (map f xs)
each_map f P [] h = tt
each_map f P (x ∷ xs) h = (h.0, each_map f P xs h.1)

-- what holds of what each body has
each_in_bodies : {A : Type 0} (P : A → Type 0) (some : s.St → List A) (ms : List s.Impl) → Each (λ m. Each P (some m.body)) ms → Each P (in_bodies some ms)
each_in_bodies P some [] h = tt
each_in_bodies P some (m ∷ ms) h = each_append P (some m.body) (in_bodies some ms) h.0 (each_in_bodies P some ms h.1)

each_specified : (P : s.Clause → Type 0) (qs : List s.Proc) → Each (λ q. Each P q.requires_ × Each P q.ensures_) qs → Each P (specified qs)
each_specified P [] h = tt
each_specified P (q ∷ qs) h =
    each_append P q.requires_ (q.ensures_ ++ specified qs) h.0.0 (each_append P q.ensures_ (specified qs) h.0.1 (each_specified P qs h.1))

each_in : {A : Type 0} (P : A → Type 0) (xs : List A) (x : A) → Each P xs → In xs x → P x
each_in P [] x h i = absurd i
each_in P (y ∷ ys) x h (inl e) = subst P e h.0
each_in P (y ∷ ys) x h (inr i) = each_in P ys x h.1 i

in_list : (xs : List t.Id) (j : ℕ) (y : t.Id) → slice_get xs j ≡ Some y → j < length xs
in_list [] j y h = absurd (let bad : ⊥ = cc in bad)
in_list (z ∷ zs) zero y h = omega arith
in_list (z ∷ zs) (suc j) y h = let l = in_list zs j y h in omega (arith, l)

seen_is : (a : Bool) (m : Meaning) (k : ℕ) → seen a m ≡ means.Candidate k → m ≡ means.Candidate k
seen_is true m k e = e
seen_is false means.Nothing k e = e
seen_is false (means.Constant j) k e = e
seen_is false (means.Candidate j) k e = e
seen_is false (means.Local j) k e = e
seen_is false (means.Global j) k e = absurd (let bad : ⊥ = cc in bad)

module _ (g : Spaces) (p : r.Program) (numbers : HasNumbers g p) (ty : ℕ → v.Ty) where
  -- the names that the program means as candidates
  frames_fit : (frame : List (List ℕ)) (a b : Bool) → NamesCandidates (length p.candidates) (scope_in g frame a b)
  unfolding meaning
  frames_fit frame a b x k e = by_frame (place frame x) e
    where
      by_value : (m : Meaning) → value_at g.meanings (place g.values x) ≡ m → m ≡ means.Candidate k → k < length p.candidates
      by_value m h c =
          let n : IsNumber p.candidates x k = subst (IsMeant g.values p x) (h ∙ c) (numbers.values x) in
          in_list p.candidates k n.0 n.1

      by_frame : (o : Option ℕ) → in_frame o (seen a (value_at g.meanings (place g.values x))) ≡ means.Candidate k → k < length p.candidates
      by_frame (Some j) h = absurd (let bad : ⊥ = cc in bad)
      by_frame None h = by_value (value_at g.meanings (place g.values x)) refl (seen_is a (value_at g.meanings (place g.values x)) k h)

  requires_guarded : (q : t.Proc) (n : ℕ) (specs : List t.Spec) → Each (IsGuarded (length p.candidates)) (map clause_of (named_requires (requires_scope g q.sig) n specs))
  requires_guarded q n [] = tt
  requires_guarded q n (t.Requires k ∷ specs) = (clause_guarded (length p.candidates) (requires_scope g q.sig) (frames_fit _ true false) n k, requires_guarded q (n + 1) specs)
  requires_guarded q n (t.Ensures k ∷ specs) = requires_guarded q (n + 1) specs
  requires_guarded q n (t.Modifies o xs ∷ specs) = requires_guarded q n specs

  ensures_guarded : (q : t.Proc) (n : ℕ) (specs : List t.Spec) → Each (IsGuarded (length p.candidates)) (map clause_of (named_ensures (ensures_scope g q.sig) n specs))
  ensures_guarded q n [] = tt
  ensures_guarded q n (t.Requires k ∷ specs) = ensures_guarded q (n + 1) specs
  ensures_guarded q n (t.Ensures k ∷ specs) = (clause_guarded (length p.candidates) (ensures_scope g q.sig) (frames_fit _ true true) n k, ensures_guarded q (n + 1) specs)
  ensures_guarded q n (t.Modifies o xs ∷ specs) = ensures_guarded q n specs

  -- a procedure's specification
  abbrev IsGood : r.Proc → Type 0
  IsGood q = Rise 0 (length g.globals) q.modifies × (Each (IsGuarded (length p.candidates)) (map clause_of q.requires_) × Each (IsGuarded (length p.candidates)) (map clause_of q.ensures_))

  procedures_good : (n : ℕ) (d : t.Decl) → Known g d → Each IsGood (named_procedures g n d)
  procedures_good n (t.Types o attrs es) k = tt
  procedures_good n (t.Constants c) k = tt
  procedures_good n (t.Function f) k = tt
  procedures_good n (t.Axiom o attrs e) k = tt
  procedures_good n (t.Globals vs) k = tt
  procedures_good n (t.Procedure q) k =
      ((rising_rise (length g.globals) _, (requires_guarded q n q.specs, ensures_guarded q n q.specs)), tt)
  procedures_good n (t.Implementation m) k = tt

  -- a body, and its procedure
  pub record IsWell (m : r.Impl) : Type 0 where
    pub implemented : m.procedure < length g.procedures
    pub called : Each (IsBelow (length g.procedures)) (called_in (sts_of m.body))
    pub labels : AreDifferent (labels_in (sts_of m.body))
    pub guarded : Each (IsGuarded (length p.candidates)) (clauses_in (sts_of m.body))

  code_well : (n : ℕ) (o : Pos) (q : t.Id) (sig : t.Sig) (b : t.Body) (k : ℕ) → place g.procedures q.text ≡ Some k → code_faults g q sig b ≡ [] → IsWell (named_code g n o q sig b)
  code_well n o q sig b k at h =
      let locals = flat_map (vars_faults g) b.locals in
      let labels = repeats [] (sts_labels b.stmts) in
      let stmts = sts_faults (inside g q sig b) [] false [] [] b.stmts in
      let last = empty_parts ((repeats [] (frame_ids sig b) ++ locals) ++ labels) stmts h in
      let middle = empty_parts (repeats [] (frame_ids sig b) ++ locals) labels last.0 in
      record {
        implemented = subst (λ (i : Option ℕ). or_zero i < length g.procedures) (sym at) (place_is g.procedures q.text k at).small;
        called = body_there (inside g q sig b) n b.stmts last.1;
        labels = subst AreDifferent (sym (labels_are (inside g q sig b) n b.stmts)) (own_labels (sts_labels b.stmts) middle.1);
        guarded = body_guarded (length p.candidates) (inside g q sig b) (frames_fit _ true true) n b.stmts;
      }

  option_well : (n : ℕ) (q : t.Proc) (o : Option t.Body) (k : ℕ) → place g.procedures q.name.text ≡ Some k → option_faults g q.name q.sig o ≡ [] → Each IsWell (named_option g n q.pos q.name q.sig o)
  option_well n q None k at h = tt
  option_well n q (Some b) k at h = (code_well n q.pos q.name q.sig b k at h, tt)

  implementations_well : (n : ℕ) (d : t.Decl) → Known g d → Each IsWell (named_implementations g n d)
  implementations_well n (t.Types o attrs es) k = tt
  implementations_well n (t.Constants c) k = tt
  implementations_well n (t.Function f) k = tt
  implementations_well n (t.Axiom o attrs e) k = tt
  implementations_well n (t.Globals vs) k = tt
  implementations_well n (t.Procedure q) k =
      let at = has_place g.procedures q.name.text k.declared.0 in
      let parts = empty_parts (sig_faults g q.sig ++ flat_map (spec_faults g q.sig) q.specs) (option_faults g q.name q.sig q.body) k.faultless in
      option_well (n + specs_count q.specs) q q.body at.0 at.1 parts.1
  implementations_well n (t.Implementation m) k =
      let last = empty_parts (use_faults g.procedures m.name ++ sig_faults g m.sig) (code_faults g m.name m.sig m.body) k.faultless in
      let first = empty_parts (use_faults g.procedures m.name) (sig_faults g m.sig) last.0 in
      let at = used g.procedures m.name first.0 in
      (code_well n m.pos m.name m.sig m.body at.0 at.1 last.1, tt)

-- in declarations without faults of names each name that means a candidate means one of the program's
pub names_candidates : (ds : List t.Decl) → plain_faults ds ≡ [] → (frame : List (List ℕ)) (a b : Bool) → NamesCandidates (length (named ds).candidates) (scope_in (spaces_of ds) frame a b)
names_candidates ds h =
    frames_fit (spaces_of ds) (named ds) (has_numbers ds (once_of ds h)) (named_of (named ds).types)

-- ---- the whole

each_of : {A : Type 0} (P Q : A → Type 0) → ((x : A) → P x → Q x) → (xs : List A) → Each P xs → Each Q xs
each_of P Q f [] h = tt
each_of P Q f (x ∷ xs) h = (f x h.0, each_of P Q f xs h.1)

pub resolved_program : (ds : List t.Decl) → Each IsDecl ds → plain_faults ds ≡ [] → IsResolved (meaning_of (named ds))
resolved_program ds grammar h =
    let g = spaces_of ds in
    let p = named ds in
    let P = meaning_of p in
    let ty = named_of p.types in
    let c = length p.candidates in
    let numbers = has_numbers ds (once_of ds h) in
    let known = all_known ds grammar h in
    let wells = gathered_in_turn (IsWell g p numbers ty) (Known g) (named_implementations g) (implementations_well g p numbers ty) 0 ds known in
    let goods = gathered_in_turn (IsGood g p numbers ty) (Known g) (named_procedures g) (procedures_good g p numbers ty) 0 ds known in
    let long : length g.procedures ≡ length P.procedures =
    ap length (names_are (procedure_ids ds) (are_once ds (once_of ds h)).procedures)
    ∙ (length-map (procedure_ids ds) text_of ∙ (ap length (sym (procedure_names ds)) ∙ (length-map p.procedures procedure_id ∙ sym (length-map p.procedures (proc_of ty))))) in
    let globals : length g.globals ≡ length P.globals =
    length-map (global_ids ds) text_of
    ∙ (ap length (sym (global_names ds)) ∙ (length-map p.globals declared_id ∙ sym (length-map p.globals (decl_of ty)))) in
    let guarded : Each (IsGuarded c) (clauses_of P) =
    each_append
    (IsGuarded c)
    (specified P.procedures)
    (in_bodies clauses_in P.implementations)
    (each_specified (IsGuarded c) P.procedures (each_map (proc_of ty) (λ q. Each (IsGuarded c) q.requires_ × Each (IsGuarded c) q.ensures_) p.procedures (each_of (IsGood g p numbers ty) _ (λ q w. w.1) p.procedures goods)))
    (each_in_bodies (IsGuarded c) clauses_in P.implementations (each_map (impl_of ty) (λ m. Each (IsGuarded c) (clauses_in m.body)) p.implementations (each_of (IsWell g p numbers ty) _ (λ m w. w.guarded) p.implementations wells))) in
    record {
      implemented = each_all _ _ (each_map (impl_of ty) (λ m. m.procedure < length P.procedures) p.implementations (each_of (IsWell g p numbers ty) _ (λ m w. subst (λ (n : ℕ). m.procedure < n) long w.implemented) p.implementations wells));
      called = each_all _ _ (each_in_bodies (λ k. k < length P.procedures) called_in P.implementations (each_map (impl_of ty) (λ m. Each (λ k. k < length P.procedures) (called_in m.body)) p.implementations (each_of (IsWell g p numbers ty) _ (λ m w. subst (λ (n : ℕ). Each (IsBelow n) (called_in (sts_of m.body))) long w.called) p.implementations wells)));
      clauses = different _ (λ x. let e = whole_total x ds in let f = clauses_total x P in omega (arith, e, f));
      calls = different _ (λ x. let e = whole_total x ds in omega (arith, e));
      branches = different _ (λ x. let e = whole_total x ds in omega (arith, e));
      labels = each_all _ _ (each_map (impl_of ty) (λ m. AreDifferent (labels_in m.body)) p.implementations (each_of (IsWell g p numbers ty) _ (λ m w. w.labels) p.implementations wells));
      modifies = λ k q e. subst (λ (n : ℕ). Rise 0 n q.modifies) globals (each_at (λ (z : s.Proc). Rise 0 (length g.globals) z.modifies) P.procedures k q (each_map (proc_of ty) (λ (z : s.Proc). Rise 0 (length g.globals) z.modifies) p.procedures (each_of (IsGood g p numbers ty) _ (λ z w. w.0) p.procedures goods)) e);
      candidates = λ k m. each_in (IsGuarded c) (clauses_of P) k guarded (member (clauses_of P) k m);
    }

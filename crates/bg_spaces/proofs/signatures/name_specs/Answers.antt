use Rattle.std.proofs.Common.{◌≡◌, ℕ, ◌+◌, ◌<◌, List, [], ◌∷◌, ◌++◌, map, drop, get_or, length, refl, sym, ap, ◌∙◌, flat_map, append-nil, append_assoc, arith}
use Rattle.std.proofs.lemmas.List.{drop_all}
use Rattle.bg_text.specs.declared.tree.Spec.{Spec}
use Rattle.bg_text.specs.Trees as t
use Rattle.bg_text.specs.Views as v
use Rattle.bg_ast.specs.Resolved as r
use Rattle.bg_ast.specs.Views.{clause_of}
use Rattle.bg_names.specs.Faults.{better}
use Rattle.bg_names.specs.Spaces.{Scope}
use Rattle.bg_names.specs.Views.{scope_of, first_of}
use Rattle.bg_spaces.specs.SpaceViews.{spaces_in}
use Rattle.bg_spaces.specs.Pieces.{spec_faults_in}
use Rattle.bg_spaces.specs.Declarations.{named_requires, named_ensures, specs_count}
use Rattle.bg_names.proofs.Firsts.{drop_item}
use Rattle.bg_spaces.proofs.Noted.{noted_step}
use Rattle.bg_spaces.proofs.signatures.name_specs.Goals as goal

one_count : (x : t.Spec) (rest : List t.Spec) → specs_count (x ∷ rest) ≡ specs_count (x ∷ []) + specs_count rest
one_count (t.Requires k) rest = omega arith
one_count (t.Ensures k) rest = omega arith
one_count (t.Modifies p xs) rest = omega arith

one_requires : (s : Scope) (x : t.Spec) (rest : List t.Spec) (n m : ℕ) → m ≡ n + specs_count (x ∷ []) → named_requires s n (x ∷ rest) ≡ named_requires s n (x ∷ []) ++ named_requires s m rest
one_requires s (t.Requires k) rest n m h = rw h refl
one_requires s (t.Ensures k) rest n m h = rw h refl
one_requires s (t.Modifies p xs) rest n m h = let same : n ≡ m = omega (arith, h) in ap (λ j. named_requires s j rest) same

one_ensures : (s : Scope) (x : t.Spec) (rest : List t.Spec) (n m : ℕ) → m ≡ n + specs_count (x ∷ []) → named_ensures s n (x ∷ rest) ≡ named_ensures s n (x ∷ []) ++ named_ensures s m rest
one_ensures s (t.Requires k) rest n m h = rw h refl
one_ensures s (t.Ensures k) rest n m h = rw h refl
one_ensures s (t.Modifies p xs) rest n m h = let same : n ≡ m = omega (arith, h) in ap (λ j. named_ensures s j rest) same

-- numbered clauses of one more part
more_named : (f : ℕ → List t.Spec → List r.Clause) → ((x : t.Spec) (rest : List t.Spec) (n m : ℕ) → m ≡ n + specs_count (x ∷ []) → f n (x ∷ rest) ≡ f n (x ∷ []) ++ f m rest) → (made new : List r.Clause) (n m : ℕ) (xs : List Spec) (i : ℕ) (x : Spec) (whole : List r.Clause) → i < length xs → x ≡ get_or xs i x → made ++ f n (map v.spec_of (drop i xs)) ≡ whole → new ≡ made ++ f n (v.spec_of x ∷ []) → m ≡ n + specs_count (v.spec_of x ∷ []) → new ++ f m (map v.spec_of (drop (i + 1) xs)) ≡ whole
more_named f one made new n m xs i x whole h at known e next =
    let rest = map v.spec_of (drop (i + 1) xs) in
    ap (λ l. l ++ f m rest) e
    ∙ append_assoc made (f n (v.spec_of x ∷ [])) (f m rest)
    ∙ ap (λ l. made ++ l) (sym (one (v.spec_of x) rest n m next))
    ∙ ap (λ l. made ++ f n (map v.spec_of l)) (sym (drop_item xs i x h at))
    ∙ known

more_count : (n m : ℕ) (xs : List Spec) (i : ℕ) (x : Spec) (whole : ℕ) → i < length xs → x ≡ get_or xs i x → n + specs_count (map v.spec_of (drop i xs)) ≡ whole → m ≡ n + specs_count (v.spec_of x ∷ []) → m + specs_count (map v.spec_of (drop (i + 1) xs)) ≡ whole
more_count n m xs i x whole h at known next =
    let here = ap (λ l. specs_count (map v.spec_of l)) (drop_item xs i x h at) in
    let one = one_count (v.spec_of x) (map v.spec_of (drop (i + 1) xs)) in
    omega (arith, known, next, here, one)

pub loop-spec-preserved : goal.loop-spec-preserved
loop-spec-preserved c =
    let xs = c.args.specs.now in
    let at = c.spec-item.is in
    let some = c.loop-spec-test.true in
    let known = c.loop-spec.invariant in
    let done = c.in_ok-name_spec.ensures in
    let before = scope_of c.args.sees.now.before in
    let after = scope_of c.args.sees.now.after in
    record {
      before = more_named (named_requires before) (one_requires before) _ _ _ _ xs c.loop-spec.spec-index c.spec-item.result _ some at known.before done.before done.next;
      after = more_named (named_ensures after) (one_ensures after) _ _ _ _ xs c.loop-spec.spec-index c.spec-item.result _ some at known.after done.after done.next;
      next = more_count _ _ xs c.loop-spec.spec-index c.spec-item.result _ some at known.next done.next;
      first = noted_step (spec_faults_in (spaces_in c.args.sees.now.spaces.now) before after) v.spec_of _ _ xs c.loop-spec.spec-index c.spec-item.result _ some at known.first done.first;
    }

pub returns-clause-before : goal.returns-clause-before
returns-clause-before c =
    let made = map clause_of c.loop-spec.made.requires_.items in
    sym (append-nil made)
    ∙ ap (λ l. made ++ named_requires (scope_of c.args.sees.now.before) c.loop-spec.next (map v.spec_of l)) (sym (drop_all c.loop-spec.spec-index c.args.specs.now (omega (arith, c.loop-spec-test.false))))
    ∙ c.loop-spec.invariant.before

pub returns-clause-after : goal.returns-clause-after
returns-clause-after c =
    let made = map clause_of c.loop-spec.made.ensures_.items in
    sym (append-nil made)
    ∙ ap (λ l. made ++ named_ensures (scope_of c.args.sees.now.after) c.loop-spec.next (map v.spec_of l)) (sym (drop_all c.loop-spec.spec-index c.args.specs.now (omega (arith, c.loop-spec-test.false))))
    ∙ c.loop-spec.invariant.after

pub returns-clause-next : goal.returns-clause-next
returns-clause-next c =
    let none = ap (λ l. specs_count (map v.spec_of l)) (drop_all c.loop-spec.spec-index c.args.specs.now (omega (arith, c.loop-spec-test.false))) in
    omega (arith, none, c.loop-spec.invariant.next)

pub returns-clause-first : goal.returns-clause-first
returns-clause-first c =
    let faults = spec_faults_in (spaces_in c.args.sees.now.spaces.now) (scope_of c.args.sees.now.before) (scope_of c.args.sees.now.after) in
    ap (λ l. better (first_of c.loop-spec.notes) (flat_map faults (map v.spec_of l))) (sym (drop_all c.loop-spec.spec-index c.args.specs.now (omega (arith, c.loop-spec-test.false))))
    ∙ c.loop-spec.invariant.first

use Rattle.std.proofs.Common.{◌≡◌, List, [], ◌∷◌, map, flat_map, true, false, refl, ap, ◌∙◌}
use Rattle.std.proofs.lemmas.Result.{on_ok_weaker}
use Rattle.bg_text.specs.Trees as t
use Rattle.bg_text.specs.Views as v
use Rattle.bg_names.specs.Faults.{better}
use Rattle.bg_names.specs.Spaces.{with_names}
use Rattle.bg_spaces.specs.Declarations.{Spaces, scope_in}
use Rattle.bg_resolve.specs.Program.{requires_scope, ensures_scope, spec_faults}
use Rattle.bg_spaces.specs.SpaceViews.{spaces_in}
use Rattle.bg_spaces.specs.Pieces.{spec_faults_in}
use Rattle.bg_names.specs.Views.{first_of}
use Rattle.bg_names.proofs.Forms.{both}
use Rattle.bg_resolve.proofs.procedures.specification.Goals as goal

one-same : (g : Spaces) (s : t.Sig) (x : t.Spec) → spec_faults_in g (requires_scope g s) (ensures_scope g s) x ≡ spec_faults g s x
one-same g s (t.Requires k) = refl
one-same g s (t.Ensures k) = refl
one-same g s (t.Modifies p xs) = refl

specs-same : (g : Spaces) (s : t.Sig) (xs : List t.Spec) → flat_map (spec_faults_in g (requires_scope g s) (ensures_scope g s)) xs ≡ flat_map (spec_faults g s) xs
specs-same g s [] = refl
specs-same g s (x ∷ xs) = rw (one-same g s x, specs-same g s xs) refl

pub returns-clause-first : goal.returns-clause-first
returns-clause-first c =
    let g = spaces_in c.args.g.now in
    let s = v.sig_of c.args.q.now.signature in
    let params = (rw c.deref.ensures.value at c.in_ok-params.ensures.made) ∙ ap (with_names []) c.in_ok-names.ensures.ok in
    let frame = (rw c.deref-2.ensures.value at c.in_ok-frame.ensures.made) ∙ ap (with_names []) c.in_ok-names-2.ensures.ok in
    let before = c.scope_in-before.ensures ∙ ap (λ l. scope_in g l true false) params in
    let after = c.scope_in-after.ensures ∙ ap (λ l. scope_in g l true true) frame in
    on_ok_weaker c.name_specs.result
    (λ h. h ∙ ap (better (first_of c.args.notes.now))
    (both (λ x y. flat_map (spec_faults_in g x y) (map v.spec_of c.deref-3.result.now)) before after
    ∙ specs-same g s (map v.spec_of c.deref-3.result.now)
    ∙ ap (λ l. flat_map (spec_faults g s) (map v.spec_of l)) c.deref-3.ensures.value))
    c.name_specs.ensures.first

use Rattle.std.proofs.Common.{◌≡◌, ℕ, List, [], ◌++◌, Option, false, flat_map, length, refl, ap, ◌∙◌}
use Rattle.std.proofs.lemmas.Result.{on_ok_weaker}
use Rattle.bg_text.specs.Trees as t
use Rattle.bg_text.specs.Views as v
use Rattle.bg_names.specs.Faults.{Fault, better}
use Rattle.bg_names.specs.Spaces.{names_of, repeats}
use Rattle.bg_bodies.specs.Bodies.{sts_faults, sts_labels}
use Rattle.bg_spaces.specs.Declarations.{Spaces, param_ids}
use Rattle.bg_resolve.specs.Program.{frame_ids, inside, vars_faults}
use Rattle.bg_resolve.specs.Pieces.{inside_in}
use Rattle.bg_spaces.specs.SpaceViews.{spaces_in}
use Rattle.bg_names.specs.Views.{first_of}
use Rattle.bg_bodies.specs.Views.{tree_sts}
use Rattle.bg_names.proofs.Firsts.{after}
use Rattle.bg_names.proofs.Forms.{both}
use Rattle.bg_resolve.proofs.code.inner.Goals as goal

inside-is : (g : Spaces) (q : t.Id) (s : t.Sig) (b : t.Body) (frame labels : List (List ℕ)) (n : ℕ) → frame ≡ names_of (frame_ids s b) → labels ≡ names_of (sts_labels b.stmts) → n ≡ length (names_of (param_ids s)) → inside_in g frame n q labels ≡ inside g q s b
inside-is g q s b frame labels n h k e = rw (h, k, e) refl

-- faults that are noted in four steps
four : (f f1 f2 f3 new : Option Fault) (a b c d : List Fault) → f1 ≡ better f a → f2 ≡ better f1 b → f3 ≡ better f2 c → new ≡ better f3 d → new ≡ better f (a ++ b ++ c ++ d)
four f f1 f2 f3 new a b c d h k m e = after f f3 new (a ++ b ++ c) d (after f f2 f3 (a ++ b) c (after f f1 f2 a b h k) m) e

pub returns-clause-first : goal.returns-clause-first
returns-clause-first c =
    let g = spaces_in c.args.g.now in
    let q = v.id_of c.args.x.now.name.now in
    let s = v.sig_of c.args.x.now.signature.now in
    let b = v.body_of c.args.x.now.body.now in
    let labels = rw c.deref-2.ensures.value at c.in_ok-labels.ensures.made in
    let is = c.inside_in-inside.ensures ∙ inside-is g q s b _ _ _ c.in_ok-frame.ensures.made labels c.in_ok-inputs.ensures.made in
    on_ok_weaker c.statements.result
    (λ h. four (first_of c.args.notes.now) _ _ _ _ (repeats [] (frame_ids s b)) (flat_map (vars_faults g) b.locals) (repeats [] (sts_labels b.stmts)) (sts_faults (inside g q s b) [] false [] [] b.stmts)
    c.in_ok-frame.ensures.first
    (rw c.deref.ensures.value at c.in_ok-note_locals.ensures.first)
    (rw c.deref-2.ensures.value at c.in_ok-labels.ensures.first)
    (h ∙ both (λ w l. better (first_of c.labels.new.notes) (sts_faults w [] false [] [] l)) is (ap tree_sts c.deref-3.ensures.value)))
    c.statements.ensures.first

use Rattle.std.proofs.Common.{sym, ap, ◌∙◌}
use Rattle.std.specs.Prelude.{◌&&◌}
use Rattle.bg_sense.specs.Types.{key_types_eq, ty_eq}
use Rattle.bg_terms.proofs.Heads.{kinds_refl}
use Rattle.bg_kinds.specs.Views.{keys_of, ref_of}
use Rattle.bg_term_table.specs.Views.{head_of, terms_in}
use Rattle.bg_wanted.specs.Classes.{speaks}
use Rattle.bg_wanted.proofs.ClassLaws.{spoken_there, silent_head}
use Rattle.bg_wanted.proofs.class.class_of.Goals as goal

pub type_place-requires-clause-there : goal.type_place-requires-clause-there
type_place-requires-clause-there c =
    let ks = keys_of c.in-Selects.k in
    let t = ref_of c.as_ref.result in
    λ fs.
    spoken_there (terms_in fs c.args.terms.now) c.args.place (head_of c.args.head.now) ks t (c.requires.there fs)
    (ap (λ h. speaks (head_of h) ks t) c.in-Selects.is ∙ (ap (λ u. key_types_eq ks ks && ty_eq u t) (sym c.as_ref.ensures) ∙ kinds_refl ks t))

pub type_place-requires-in-Updates-clause-there : goal.type_place-requires-in-Updates-clause-there
type_place-requires-in-Updates-clause-there c =
    let ks = keys_of c.in-Updates.k in
    let t = ref_of c.as_ref-in-Updates.result in
    λ fs.
    spoken_there (terms_in fs c.args.terms.now) c.args.place (head_of c.args.head.now) ks t (c.requires.there fs)
    (ap (λ h. speaks (head_of h) ks t) c.in-Updates.is ∙ (ap (λ u. key_types_eq ks ks && ty_eq u t) (sym c.as_ref-in-Updates.ensures) ∙ kinds_refl ks t))

pub type_place-requires-in-Differs-clause-there : goal.type_place-requires-in-Differs-clause-there
type_place-requires-in-Differs-clause-there c =
    let ks = keys_of c.in-Differs.k in
    let t = ref_of c.as_ref-in-Differs.result in
    λ fs.
    spoken_there (terms_in fs c.args.terms.now) c.args.place (head_of c.args.head.now) ks t (c.requires.there fs)
    (ap (λ h. speaks (head_of h) ks t) c.in-Differs.is ∙ (ap (λ u. key_types_eq ks ks && ty_eq u t) (sym c.as_ref-in-Differs.ensures) ∙ kinds_refl ks t))

pub returns-in-Function-clause-met : goal.returns-in-Function-clause-met
returns-in-Function-clause-met c =
    λ fs.
    silent_head (terms_in fs c.args.terms.now) c.args.place c.in-Function.f (head_of c.args.head.now) c.args.met.now.items (c.requires.met fs) (c.requires.there fs) (ap head_of c.in-Function.is)

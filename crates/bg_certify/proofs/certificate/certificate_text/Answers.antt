use Rattle.std.proofs.Common.{◌≡◌, true, List, length, map, sym, ap, ◌∙◌, subst}
use Rattle.std.specs.Prelude.{option_map}
use Rattle.std.proofs.lemmas.List.{length-map}
use Rattle.std.proofs.lemmas.Result.{IfOk-weaker}
use Rattle.bg_text.specs.declared.expr.Name.{Name}
use Rattle.bg_text.specs.Views.{id_of}
use Rattle.bg_ast.specs.Resolved as r
use Rattle.bg_ast.specs.Views.{program_of}
use Rattle.bg_cert.specs.Walks.{no_instance}
use Rattle.bg_certtext.specs.Views.{CertOf, interp_of, section_of}
use Rattle.bg_certtext.specs.Spellable.{is_spellable}
use Rattle.bg_certtext.specs.Texts.{text_of}
use Rattle.bg_certify.specs.Names.{names_in, HasOwnNames}
use Rattle.bg_certify.specs.Written.{IsTrueOf, IsCertText}
use Rattle.bg_certify.proofs.Rightly.{PlacedLaw, InsideLaw, AboveLaw}
use Rattle.bg_certify.proofs.Whole.{written, verdicts_counted, marks_counted}
use Rattle.bg_certify.proofs.certificate.certificate_text.Goals as goal

pub retained_names-requires : goal.retained_names-requires
retained_names-requires c =
    let names = c.args.outcome.now.opened.candidates.items in
    marks_counted c.args.outcome.now c.requires
    ∙ (length-map names id_of ∙ ap (λ (l : List Name). length l) (sym c.as_slice.ensures.value))

pub sections-requires : goal.sections-requires
sections-requires c = verdicts_counted c.args.outcome.now c.requires

pub returns-then-is_spellable : goal.returns-then-is_spellable
returns-then-is_spellable c =
    let o = c.args.outcome.now in
    let cert : CertOf = record {
      interp = option_map interp_of c.in_ok-interp_by.field-0;
      retained = map (λ n. n.now) c.in_ok-retained_names.field-0.items;
      sections = map section_of c.in_ok-sections.field-0.items;
    } in
    let placed_law : PlacedLaw = c.placed_are_places.ensures in
    let inside_law : InsideLaw = λ f set d h. c.accepted_where_used.ensures.inside f set no_instance d h in
    let above_law : AboveLaw = λ f set other d h u. c.accepted_where_used.ensures.above f set other no_instance d h u in
    let names : cert.retained ≡ names_in o.judged.inferred.retained (program_of o.opened).candidates =
    subst (λ (l : List Name). cert.retained ≡ names_in o.judged.inferred.retained (map id_of l)) c.as_slice.ensures.value c.in_ok-retained_names.ensures in
    let spells : is_spellable cert ≡ true = sym c.is_spellable.ensures ∙ c.if-is_spellable.true in
    IfOk-weaker c.write.result (λ text. text.items ≡ text_of cert) (λ text. (p : r.Program) → IsTrueOf p o → HasOwnNames p → IsCertText p o text.items)
    (λ text e p h once. record {
      cert = cert;
      spellable = spells;
      written =
          written placed_law inside_law above_law p o h once cert c.in_ok-interp_by.ensures names c.in_ok-sections.ensures;
      is = e;
    })
    c.write.ensures

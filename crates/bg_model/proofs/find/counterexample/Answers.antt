use Rattle.std.proofs.Common.{◌≡◌, map, length, true, refl, sym, ap, ◌∙◌, rules}
use Rattle.std.specs.Prelude.{slice_get}
use Rattle.std.proofs.lemmas.List.{length-map}
use Rattle.bg_ast.specs.Meaning as m
use Rattle.bg_ast.specs.Meaning.{meaning_of}
use Rattle.bg_ast.specs.Views.{program_of}
use Rattle.bg_blocks.specs.Views.{block_of}
use Rattle.bg_flow.specs.Core.{frame_decls}
use Rattle.bg_forms.specs.Worth.{bools_at}
use Rattle.bg_formed.specs.Views.{form_block_of}
use Rattle.bg_places.specs.Views.{spot_of}
use Rattle.bg_scalar.specs.Values.{value_of}
use Rattle.bg_scalar.specs.Views.{vals_in}
use Rattle.bg_scalar.specs.Choices.{choice_of}
use Rattle.bg_model.specs.Behind.{behind_front, stretch_of}
use Rattle.bg_model.specs.Views.{set_of}
use Rattle.bg_model.specs.Turns.{fails, turns, taken}
use Rattle.bg_model.specs.Over.{walk_over}
use Rattle.bg_kinds.specs.Views.{ref_in}
use Rattle.bg_sound.specs.Chosen.{choices_are_of}
use Rattle.bg_model.specs.Picks.{choice_by, type_by}
use Rattle.bg_model.proofs.Fitting.{picks_fit}
use Rattle.bg_model.proofs.Denied.{denied_is}
use Rattle.bg_model.proofs.Found.{starts_at, fails_at}
use Rattle.bg_model.proofs.find.counterexample.Goals as goal

pub returns-then-not-fails-clause-told : goal.returns-then-not-fails-clause-told
returns-then-not-fails-clause-told c =
    let w = walk_over (set_of c.args.set.now) (spot_of c.args.target) (bools_at c.args.valuation.truths.now) in
    let forms = behind_front c.args.routine.front (map form_block_of c.args.routine.forms.now) in
    let walked : map stretch_of c.deref.result.now ≡ forms = ap (map stretch_of) c.deref.ensures.value ∙ c.in_ok-forms.ensures in
    denied_is (set_of c.args.set.now) (spot_of c.args.target) (bools_at c.args.valuation.truths.now) forms
    ∙ (ap (λ ts. fails (slice_get ts 0)) (sym (c.in_ok-made.ensures ∙ ap (turns w) walked)) ∙ (sym c.fails.ensures ∙ c.if-not-fails.true))

pub returns-clause-typed : goal.returns-clause-typed
returns-clause-typed c h =
    let ts = map ref_in c.args.valuation.kinds.now in
    let vs = map value_of c.args.valuation.values.now in
    let kinds : map ref_in c.in_ok-kinds.kinds.items ≡ map (type_by ts) c.in_ok-picks.picks.items = c.in_ok-kinds.ensures ∙ ap (map (type_by ts)) c.deref-3.ensures.value in
    let choices : map choice_of c.in_ok-choices.choices.items ≡ map (choice_by vs) c.in_ok-picks.picks.items = c.in_ok-choices.ensures ∙ ap (map (choice_by vs)) c.deref-4.ensures.value in
    ap (λ l. choices_are_of l (map choice_of c.in_ok-choices.choices.items)) kinds
    ∙ (ap (choices_are_of (map (type_by ts) c.in_ok-picks.picks.items)) choices ∙ picks_fit ts vs c.in_ok-picks.picks.items h)

pub returns-clause-told : goal.returns-clause-told
returns-clause-told c =
    let set = set_of c.args.set.now in
    let t = spot_of c.args.target in
    let truth = bools_at c.args.valuation.truths.now in
    let vs = map value_of c.args.valuation.values.now in
    let p = program_of c.args.routine.program.now in
    let prog = meaning_of p in
    let forms = behind_front c.args.routine.front (map form_block_of c.args.routine.forms.now) in
    let firsts = c.args.routine.firsts.now in
    let w = walk_over set t truth in
    let bs = map (block_of p) c.args.routine.blocks.now in
    let on : c.fails.result ≡ true = search rules in
    let walked : map stretch_of c.deref.result.now ≡ forms = ap (map stretch_of) c.deref.ensures.value ∙ c.in_ok-forms.ensures in
    let again : map stretch_of c.deref-2.result.now ≡ forms = ap (map stretch_of) c.deref-2.ensures.value ∙ c.in_ok-forms.ensures in
    let made : c.in_ok-made.made.items ≡ turns w forms = c.in_ok-made.ensures ∙ ap (turns w) walked in
    let fails_here : fails (slice_get (turns w forms) 0) ≡ true = ap (λ ts. fails (slice_get ts 0)) (sym made) ∙ (sym c.fails.ensures ∙ on) in
    let choices : map choice_of c.in_ok-choices.choices.items ≡ taken w vs bs forms firsts (turns w forms) 0 =
    c.in_ok-choices.ensures
    ∙ (ap (map (choice_by vs)) c.deref-4.ensures.value
    ∙ (c.in_ok-picks.ensures vs p
    ∙ (ap (λ fs. taken w vs bs fs firsts c.in_ok-made.made.items 0) again ∙ ap (λ ts. taken w vs bs forms firsts ts 0) made))) in
    let many : c.count_globals-many.result ≡ length prog.globals = c.count_globals-many.ensures ∙ sym (length-map p.globals (m.decl_of (m.named_of p.types))) in (
      denied_is set t truth forms ∙ fails_here,
      record {
        tables = refl;
        starts = λ k im pr s others later u. starts_at prog (frame_decls im pr) others s vs (vals_in c.in_ok-globals.globals.items) (vals_in c.in_ok-frame.frame.items) c.count_globals-many.result c.args.routine.frame u.values c.in_ok-globals.ensures c.in_ok-frame.ensures many u.frame_size;
        choices = choices;
        fails = λ i k im pr s others later u said none. fails_at set truth t vs prog i k im pr s others later bs c.args.routine.frame firsts forms (map choice_of c.in_ok-choices.choices.items) u said none choices fails_here;
      },
    )

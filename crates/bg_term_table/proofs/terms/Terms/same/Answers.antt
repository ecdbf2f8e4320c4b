use Rattle.std.proofs.Common.{◌≡◌, length, Some, refl, sym, ◌∙◌, subst}
use Rattle.std.specs.Prelude.{slice_get}
use Rattle.std.proofs.lemmas.Option.{slice_get_read}
use Rattle.std.proofs.lemmas.Result.{IfOk-weaker}
use Rattle.bg_term_table.proofs.terms.Terms.same.Goals as goal

pub returns-then-is_one_head : goal.returns-then-is_one_head
returns-then-is_one_head c =
    let t = c.in-Some.t.now in
    let ts = c.deref.result.now in
    IfOk-weaker c.behind.result _ _
    (λ j h. (
      h,
      record {
        term = t;
        is_there =
            subst (λ l. slice_get l c.args.place ≡ Some t) c.deref.ensures.value (slice_get_read ts (length ts) c.args.place t refl c.in-Some.ensures.lookup.3.0 c.in-Some.ensures.lookup.1);
        head = sym c.is_one_head.ensures ∙ c.if-is_one_head.true;
      },
    ))
    c.behind.ensures

use Rattle.std.proofs.Common.{sym, ap, ◌∙◌}
use Rattle.std.specs.Str.{bytes_eq}
use Rattle.bg_text.specs.Views.{id_of}
use Rattle.bg_accept.proofs.Marking.{begins_there}
use Rattle.bg_accept.proofs.retained.is_next.Goals as goal

pub returns-in-Some : goal.returns-in-Some
returns-in-Some c =
    let k = c.in-Some.ensures.lookup in
    let x = c.in-Some.name.now in
    c.eq.ensures
    ∙ (ap (λ t. bytes_eq t x.now) c.as_slice.ensures.value
    ∙ (ap (λ z. bytes_eq c.args.candidate.now.text.items z.now) (k.3.1 x)
    ∙ sym (begins_there (id_of c.args.candidate.now) c.args.names.now c.args.number x k.3.0)))

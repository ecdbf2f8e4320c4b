use Rattle.std.proofs.Common.{map, ap, ◌∙◌}
use Rattle.bg_ast.specs.Views.{ex_of}
use Rattle.bg_numbered.specs.Put.{made}
use Rattle.bg_term_table.specs.Views.{meanings, listed, head_of}
use Rattle.bg_term_table.proofs.Copied.{same_meanings}
use Rattle.bg_term_table.proofs.behind_lines.term_copied.Goals as goal

pub returns : goal.returns
returns c =
    let t = c.args.t.now in
    let args = c.in_ok-args.args.items in
    λ fs.
    ap (λ h. made fs h (listed (meanings args))) c.in_ok-head.ensures
    ∙ ap (λ l. made fs (head_of t.head) (listed l)) (same_meanings args t.args.items (c.in_ok-args.ensures ∙ ap (map ex_of) c.deref.ensures.value))

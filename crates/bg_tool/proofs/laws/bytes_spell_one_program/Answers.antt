use Rattle.std.proofs.Common.{sym, ap, ◌∙◌}
use Rattle.bg_resolve.specs.Program.{named}
use Rattle.bg_tool.proofs.laws.bytes_spell_one_program.Goals as goal

pub returns : goal.returns
returns c = λ bytes p q s t.
    let same = (c.a_text_has_one_tree_or_one_refusal.ensures.tree bytes s.tokens t.tokens s.spelled.decls t.spelled.decls s.spelled.tree t.spelled.tree).1 in
    let a = c.names_mean_a_program.ensures.none s.spelled.decls p s.spelled.meant in
    let b = c.names_mean_a_program.ensures.none t.spelled.decls q t.spelled.meant in
    a.2 ∙ (ap named same ∙ sym b.2)

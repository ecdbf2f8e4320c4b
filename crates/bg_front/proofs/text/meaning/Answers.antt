use Rattle.std.proofs.Common.{refl, sym, subst}
use Rattle.bg_text.specs.Tokens.{views}
use Rattle.bg_text.specs.Views.{decls_of}
use Rattle.bg_front.specs.Programs.{IsMeaningFrom}
use Rattle.bg_front.proofs.text.meaning.Goals as goal

pub returns-in-Ok-clause-meant : goal.returns-in-Ok-clause-meant
returns-in-Ok-clause-meant c =
    let ds = decls_of c.args.decls.now in
    let r = c.in-Ok.ensures in
    subst (IsMeaningFrom c.args.bytes.now (views c.args.tokens.now) ds) (sym r.2)
    (record { decls = ds; short = c.requires.short; tree = c.requires.tree; meant = c.names_mean_a_program.ensures.some ds r.0 r.1 }, refl)

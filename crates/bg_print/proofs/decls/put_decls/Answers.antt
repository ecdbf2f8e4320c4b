use Rattle.std.proofs.Common.{refl, map}
use Rattle.bg_text.specs.Views.{decl_of}
use Rattle.bg_print.specs.Printed.{decl_doc}
use Rattle.bg_print.specs.Docs.{text, each}
use Rattle.bg_print.proofs.Loops.{one_more, none_left}
use Rattle.bg_print.proofs.decls.put_decls.Goals as goal

pub loop-decl-preserved : goal.loop-decl-preserved
loop-decl-preserved c = one_more (λ l. text (each decl_doc (map decl_of l))) (λ l. text (each decl_doc (map decl_of l))) c.args.decls.now c.loop-decl.decl-index c.decl-item.result (text (decl_doc (decl_of c.decl-item.result))) _ _ _ (λ ys. refl) c.loop-decl-test.true c.decl-item.is c.in_ok-put_decl.ensures c.loop-decl.invariant

pub returns : goal.returns
returns c = none_left (λ l. text (each decl_doc (map decl_of l))) c.args.decls.now c.loop-decl.decl-index _ _ refl c.loop-decl-test.false c.loop-decl.invariant

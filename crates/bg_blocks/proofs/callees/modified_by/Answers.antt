use Rattle.std.proofs.Common.{◌∙◌, arith}
use Rattle.std.proofs.lemmas.List.{length-map}
use Rattle.std.proofs.lemmas.Result.{IfOk-weaker}
use Rattle.bg_ast.specs.Meaning.{meaning_of, named_of, decl_of}
use Rattle.bg_ast.specs.Views.{program_of, declared_of}
use Rattle.bg_blocks.proofs.callees.modified_by.Goals as goal

pub returns : goal.returns
returns c =
    let p = program_of c.args.program.now in
    IfOk-weaker c.modified.result _ _
    (λ xs h. h (meaning_of p) (named_of p.types) (length-map p.globals (decl_of (named_of p.types)) ∙ (length-map c.args.program.now.globals.items declared_of ∙ omega (arith, c.args.program.now.globals.ok.0, c.len.ensures))))
    c.modified.ensures

use Rattle.std.proofs.Common.{◌+◌, ◌≡◌, ◌∙◌, sym, ap, drop, length}
use Rattle.bg_text.specs.Tokens.{views}
use Rattle.bg_text.specs.Views.{decls_of}
use Rattle.bg_reader.specs.Reading.{Got, Bad, Deep}
use Rattle.bg_parse.specs.Declarations.{decls_at}
use Rattle.bg_parse.proofs.Answered.{is_program, is_left, is_stopped, is_deep, syntax_is, deep_is}
use Rattle.bg_parse.proofs.Sizes.{few_nodes}
use Rattle.bg_parse.proofs.program.parse.Goals as goal

pub returns-in-None-clause-read : goal.returns-in-None-clause-read
returns-in-None-clause-read c = is_program (length c.args.tokens.now + 1) 200 (views c.args.tokens.now) (decls_of c.in-Ok.decls.items) (views (drop c.in-Ok.next c.args.tokens.now)) c.in-None.ensures c.in-Ok.ensures

pub returns-in-Some-clause-refused : goal.returns-in-Some-clause-refused
returns-in-Some-clause-refused c = is_left (length c.args.tokens.now + 1) 200 (views c.args.tokens.now) (decls_of c.in-Ok.decls.items) _ _ (views (drop c.within.result c.args.tokens.now)) (c.within.ensures.same ∙ c.in-Some.ensures) (c.in-Ok.ensures ∙ ap (λ l. Got (decls_of c.in-Ok.decls.items) l) (sym c.within.ensures.same))

pub returns-in-Err-Syntax-clause-refused : goal.returns-in-Err-Syntax-clause-refused
returns-in-Err-Syntax-clause-refused c =
    let n = length c.args.tokens.now + 1 in
    let ts = views c.args.tokens.now in
    let x = views (drop c.within-in-Err-Syntax.result c.args.tokens.now) in
    let r : decls_at n 200 ts ≡ Bad x = syntax_is (λ j. views (drop j c.args.tokens.now)) c.in-Err-Syntax.field-0 (decls_at n 200 ts) c.in-Err-Syntax.i c.within-in-Err-Syntax.result c.within-in-Err-Syntax.ensures.same c.in-Err-Syntax.field-0-is c.in-Err-Syntax.ensures in
    is_stopped n 200 ts x r

pub returns-in-Err-TooDeep-clause-refused : goal.returns-in-Err-TooDeep-clause-refused
returns-in-Err-TooDeep-clause-refused c =
    let n = length c.args.tokens.now + 1 in
    let ts = views c.args.tokens.now in
    let x = views (drop c.within-in-Err-TooDeep.result c.args.tokens.now) in
    let r : decls_at n 200 ts ≡ Deep x = deep_is (λ j. views (drop j c.args.tokens.now)) c.in-Err-TooDeep.field-0 (decls_at n 200 ts) c.in-Err-TooDeep.i c.within-in-Err-TooDeep.result c.within-in-Err-TooDeep.ensures.same c.in-Err-TooDeep.field-0-is c.in-Err-TooDeep.ensures in
    is_deep n 200 ts x r

pub invariant_of-result : goal.invariant_of-result
invariant_of-result c =
    let p = is_program (length c.args.tokens.now + 1) 200 (views c.args.tokens.now) (decls_of c.in-Ok.decls.items) (views (drop c.in-Ok.next c.args.tokens.now)) c.in-None.ensures c.in-Ok.ensures in
    record {
      spelled = ∣ (views c.args.tokens.now, p.spells) ∣₁;
      few = few_nodes (decls_of c.in-Ok.decls.items) c.args.tokens.now p.spells c.requires;
    }

use Rattle.std.proofs.Common.{◌≡◌, ◌-◌, sym, ◌∙◌, ap, length, drop}
use Rattle.bg_text.specs.Tokens.{views}
use Rattle.bg_text.specs.Views.{ex_of}
use Rattle.bg_reader.specs.Reading.{Got, Bad, Deep}
use Rattle.bg_expr.specs.Exprs.{expr_at}
use Rattle.bg_expr.proofs.Said.{reads, places, refuses, sinks, not_before, not_many, syntax_is, deep_is}
use Rattle.bg_expr.proofs.public.expr.Goals as goal

pub returns-in-Ok-clause-read : goal.returns-in-Ok-clause-read
returns-in-Ok-clause-read c = reads (length c.args.tokens.now) (200 - c.args.depth) (views (drop c.args.from c.args.tokens.now)) (ex_of c.in-Ok.e) (views (drop c.within.result c.args.tokens.now)) (c.in-Ok.ensures ∙ ap (λ l. Got (ex_of c.in-Ok.e) l) (sym c.within.ensures.same))

pub returns-in-Ok-clause-positions : goal.returns-in-Ok-clause-positions
returns-in-Ok-clause-positions c = places (length c.args.tokens.now) (200 - c.args.depth) (views (drop c.args.from c.args.tokens.now)) (ex_of c.in-Ok.e) (views (drop c.within.result c.args.tokens.now)) (c.in-Ok.ensures ∙ ap (λ l. Got (ex_of c.in-Ok.e) l) (sym c.within.ensures.same))

pub returns-in-Ok-clause-size : goal.returns-in-Ok-clause-size
returns-in-Ok-clause-size c =
    let x = views (drop c.within.result c.args.tokens.now) in
    let r = reads (length c.args.tokens.now) (200 - c.args.depth) (views (drop c.args.from c.args.tokens.now)) (ex_of c.in-Ok.e) x (c.in-Ok.ensures ∙ ap (λ l. Got (ex_of c.in-Ok.e) l) (sym c.within.ensures.same)) in
    not_many (200 - c.args.depth) c.args.tokens.now c.args.from c.within.result (ex_of c.in-Ok.e) c.requires.start c.within.ensures.bound r

pub returns-in-Ok-clause-place : goal.returns-in-Ok-clause-place
returns-in-Ok-clause-place c =
    let p = places (length c.args.tokens.now) (200 - c.args.depth) (views (drop c.args.from c.args.tokens.now)) (ex_of c.in-Ok.e) (views (drop c.within.result c.args.tokens.now)) (c.in-Ok.ensures ∙ ap (λ l. Got (ex_of c.in-Ok.e) l) (sym c.within.ensures.same)) in
    (not_before c.args.tokens.now c.args.from c.within.result p.0 c.requires.start c.within.ensures.bound p.1, c.within.ensures.bound)

pub returns-in-Err-Syntax-clause-refused : goal.returns-in-Err-Syntax-clause-refused
returns-in-Err-Syntax-clause-refused c =
    let n = length c.args.tokens.now in
    let d = 200 - c.args.depth in
    let ts = views (drop c.args.from c.args.tokens.now) in
    let x = views (drop c.within-in-Err-Syntax.result c.args.tokens.now) in
    let r : expr_at n d ts ≡ Bad x = syntax_is (λ j. views (drop j c.args.tokens.now)) c.in-Err-Syntax.field-0 (expr_at n d ts) c.in-Err-Syntax.i c.within-in-Err-Syntax.result c.within-in-Err-Syntax.ensures.same c.in-Err-Syntax.field-0-is c.in-Err-Syntax.ensures in
    refuses n d ts x r

pub returns-in-Err-Syntax-clause-place : goal.returns-in-Err-Syntax-clause-place
returns-in-Err-Syntax-clause-place c =
    let n = length c.args.tokens.now in
    let d = 200 - c.args.depth in
    let ts = views (drop c.args.from c.args.tokens.now) in
    let x = views (drop c.within-in-Err-Syntax.result c.args.tokens.now) in
    let r : expr_at n d ts ≡ Bad x = syntax_is (λ j. views (drop j c.args.tokens.now)) c.in-Err-Syntax.field-0 (expr_at n d ts) c.in-Err-Syntax.i c.within-in-Err-Syntax.result c.within-in-Err-Syntax.ensures.same c.in-Err-Syntax.field-0-is c.in-Err-Syntax.ensures in
    let w = refuses n d ts x r in
    (not_before c.args.tokens.now c.args.from c.within-in-Err-Syntax.result w.front c.requires.start c.within-in-Err-Syntax.ensures.bound w.cut, c.within-in-Err-Syntax.ensures.bound)

pub returns-in-Err-TooDeep-clause-refused : goal.returns-in-Err-TooDeep-clause-refused
returns-in-Err-TooDeep-clause-refused c =
    let n = length c.args.tokens.now in
    let d = 200 - c.args.depth in
    let ts = views (drop c.args.from c.args.tokens.now) in
    let x = views (drop c.within-in-Err-TooDeep.result c.args.tokens.now) in
    let r : expr_at n d ts ≡ Deep x = deep_is (λ j. views (drop j c.args.tokens.now)) c.in-Err-TooDeep.field-0 (expr_at n d ts) c.in-Err-TooDeep.i c.within-in-Err-TooDeep.result c.within-in-Err-TooDeep.ensures.same c.in-Err-TooDeep.field-0-is c.in-Err-TooDeep.ensures in
    sinks n d ts x r

pub returns-in-Err-TooDeep-clause-place : goal.returns-in-Err-TooDeep-clause-place
returns-in-Err-TooDeep-clause-place c =
    let n = length c.args.tokens.now in
    let d = 200 - c.args.depth in
    let ts = views (drop c.args.from c.args.tokens.now) in
    let x = views (drop c.within-in-Err-TooDeep.result c.args.tokens.now) in
    let r : expr_at n d ts ≡ Deep x = deep_is (λ j. views (drop j c.args.tokens.now)) c.in-Err-TooDeep.field-0 (expr_at n d ts) c.in-Err-TooDeep.i c.within-in-Err-TooDeep.result c.within-in-Err-TooDeep.ensures.same c.in-Err-TooDeep.field-0-is c.in-Err-TooDeep.ensures in
    let w = sinks n d ts x r in
    (not_before c.args.tokens.now c.args.from c.within-in-Err-TooDeep.result w.front c.requires.start c.within-in-Err-TooDeep.ensures.bound w.cut, c.within-in-Err-TooDeep.ensures.bound)

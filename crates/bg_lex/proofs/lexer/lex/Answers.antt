use Rattle.std.proofs.Common.{◌≡◌, sym, subst, arith, length}
use Rattle.std.proofs.lemmas.Grind.{common_steps}
use Rattle.bg_text.specs.Tokens.{views}
use Rattle.bg_lex.proofs.Steps.{SoFar}
use Rattle.bg_lex.proofs.Whole.{one_more, at_end}
use Rattle.bg_lex.proofs.lexer.lex.Goals as goal

pub loop-rest-preserved : goal.loop-rest-preserved
loop-rest-preserved c =
    let more = one_more c.args.bytes.now c.loop-rest.rest.now c.split_at.result.0.now c.split_at.result.1.now (views c.loop-rest.list.items) (views c.add.new.list.items) c.loop-rest.at c.in-Ok.front.kind c.in-Ok.front.len c.loop-rest.invariant.so_far c.in-Ok.ensures c.split_at.ensures.front c.split_at.ensures.back c.in_ok-add.ensures.ok in
    record {
      so_far = subst (SoFar c.args.bytes.now c.split_at.result.1.now (views c.add.new.list.items)) (sym c.after_bytes-at.ensures.place) more;
      line = omega arith;
      column = omega arith;
    }

pub returns-clause-end : goal.returns-clause-end
returns-clause-end c =
    let none : length c.loop-rest.rest.now ≡ 0 = grind (arith, common_steps) in
    at_end c.args.bytes.now c.loop-rest.rest.now (views c.loop-rest.list.items) c.loop-rest.at c.loop-rest.invariant.so_far none

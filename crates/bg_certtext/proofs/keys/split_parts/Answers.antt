use Rattle.std.proofs.Common.{ℕ, List, Bor, refl, arith}
use Rattle.bg_certtext.proofs.KeyParts.{part_step, part_last}
use Rattle.bg_certtext.proofs.keys.split_parts.Goals as goal

pub loop-end-preserved : goal.loop-end-preserved
loop-end-preserved c = record {
  so_far = part_step (λ (w : Bor (List ℕ)). w.now) c.loop-end.parts.items c.push.new.self.items c.split_at.result.0 c.args.word.now c.loop-end.rest.now c.split_at.result.0.now c.split_at.result.1.now c.loop-end.end c.in_ok-push.ensures.items refl c.loop-end.invariant.part (omega arith) c.split_at.ensures.front c.split_at.ensures.back c.loop-end.invariant.so_far;
  part = c.part_in-end-in-loop-end.ensures;
}

pub returns : goal.returns
returns c =
    part_last (λ (w : Bor (List ℕ)). w.now) c.loop-end.parts.items c.push-2.new.self.items c.loop-end.rest c.args.word.now c.loop-end.rest.now c.loop-end.end c.in_ok-push-2.ensures.items refl c.loop-end.invariant.part (omega arith) c.loop-end.invariant.so_far

use Rattle.std.proofs.Common.{◌∙◌, arith}
use Rattle.bg_rounds.proofs.threaded.rounds.Goals as goal

pub tasks_of-requires-clause-set : goal.tasks_of-requires-clause-set
tasks_of-requires-clause-set g c = c.look.ensures.sits.count ∙ c.requires.cands

pub tasks_of-requires-clause-shelved : goal.tasks_of-requires-clause-shelved
tasks_of-requires-clause-shelved g c = c.loop-round.invariant.shelved

pub one_round-requires-clause-keepers : goal.one_round-requires-clause-keepers
one_round-requires-clause-keepers g c κs o = c.loop-round.invariant.keepers

pub one_round-requires-clause-shelved : goal.one_round-requires-clause-shelved
one_round-requires-clause-shelved g c κs o = c.loop-round.invariant.shelved

pub one_round-requires-clause-few : goal.one_round-requires-clause-few
one_round-requires-clause-few g c κs o = let n = c.loop-round.invariant.count in (let a = c.requires.few.0 in omega arith, let b = c.requires.few.1 in omega arith)

pub loop-round-preserved : goal.loop-round-preserved
loop-round-preserved g c = let i = c.loop-round.invariant in let l = c.look.ensures in let e = c.in_ok-keepers.ensures in record {
  sits = l.sits;
  keepers = e.keepers;
  count = e.count ∙ i.count;
  shelved = e.shelved;
  same = record {
    first = l.on.first ∙ i.same.first;
    right = l.on.right ∙ i.same.right;
    parts = l.on.parts ∙ i.same.parts;
    removals = l.removals ∙ i.same.removals;
    spare = l.spare ∙ i.same.spare;
  };
}

pub returns-then-is_empty-clause-keepers : goal.returns-then-is_empty-clause-keepers
returns-then-is_empty-clause-keepers g c = c.loop-round.invariant.keepers

pub returns-then-is_empty-clause-count : goal.returns-then-is_empty-clause-count
returns-then-is_empty-clause-count g c = c.loop-round.invariant.count

pub returns-then-is_empty-clause-shelved : goal.returns-then-is_empty-clause-shelved
returns-then-is_empty-clause-shelved g c = c.loop-round.invariant.shelved

pub returns-then-is_empty-clause-sits : goal.returns-then-is_empty-clause-sits
returns-then-is_empty-clause-sits g c = c.look.ensures.sits

pub returns-then-is_empty-clause-same : goal.returns-then-is_empty-clause-same
returns-then-is_empty-clause-same g c = let i = c.loop-round.invariant in let l = c.look.ensures in record {
  first = l.on.first ∙ i.same.first;
  right = l.on.right ∙ i.same.right;
  parts = l.on.parts ∙ i.same.parts;
  removals = l.removals ∙ i.same.removals;
  spare = l.spare ∙ i.same.spare;
}

pub returns-clause-keepers : goal.returns-clause-keepers
returns-clause-keepers g c = c.loop-round.invariant.keepers

pub returns-clause-count : goal.returns-clause-count
returns-clause-count g c = c.loop-round.invariant.count

pub returns-clause-shelved : goal.returns-clause-shelved
returns-clause-shelved g c = c.loop-round.invariant.shelved

pub returns-clause-sits : goal.returns-clause-sits
returns-clause-sits g c = c.loop-round.invariant.sits

pub returns-clause-same : goal.returns-clause-same
returns-clause-same g c = c.loop-round.invariant.same

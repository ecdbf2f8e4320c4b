use Rattle.std.proofs.Common.{true, refl, ap, ◌∙◌, ◌∷◌, ◌++◌, map}
use Rattle.std.proofs.lemmas.Result.{on_ok_weaker}
use Rattle.bg_clause.specs.Lends.{lent_in}
use Rattle.bg_clause.specs.Views.{clauses_in}
use Rattle.bg_clause.specs.Waiting.{Says, waits_of, emitted_all, after_all}
use Rattle.bg_clause.proofs.Emits.{left_first, left_clauses, said_clauses, said_more}
use Rattle.bg_clause.proofs.fronts.say_each.Goals as goal

pub returns-then-is_said-clause-clauses : goal.returns-then-is_said-clause-clauses
returns-then-is_said-clause-clauses c =
    let left = left_first _ _ _ _ _ _ c.in-Some.ensures c.in_ok-rest.ensures.left in
    on_ok_weaker c.say_true.result (λ is n. is n ∙ (ap (λ l. clauses_in c.leaf_front.new.out.items ++ emitted_all (Says true l (lent_in c.args.g) ∷ map waits_of c.args.waiting.now.items) n) c.in_ok-rest.ensures.same ∙ said_clauses _ _ _ _ _ left (c.is_said.ensures c.if-is_said.true) (Says true c.args.literals.items (lent_in c.args.g) ∷ map waits_of c.args.waiting.now.items) _ refl n)) c.say_true.ensures.clauses

pub returns-then-is_said-clause-more : goal.returns-then-is_said-clause-more
returns-then-is_said-clause-more c =
    let left = left_first _ _ _ _ _ _ c.in-Some.ensures c.in_ok-rest.ensures.left in
    on_ok_weaker c.say_true.result (λ is n. is n ∙ (ap (λ l. after_all (Says true l (lent_in c.args.g) ∷ map waits_of c.args.waiting.now.items) n) c.in_ok-rest.ensures.same ∙ said_more _ _ _ _ _ left (c.is_said.ensures c.if-is_said.true) (Says true c.args.literals.items (lent_in c.args.g) ∷ map waits_of c.args.waiting.now.items) _ refl n)) c.say_true.ensures.more

pub returns-clause-clauses : goal.returns-clause-clauses
returns-clause-clauses c =
    let left = left_first _ _ _ _ _ _ c.in-Some.ensures c.in_ok-rest.ensures.left in
    on_ok_weaker c.say_both-else-is_said.result (λ waits. left_clauses _ _ _ _ _ _ left c.in_ok-rest.ensures.same (Says true c.args.literals.items (lent_in c.args.g) ∷ map waits_of c.args.waiting.now.items) _ _ (ap (λ l. Says true l (lent_in c.args.g) ∷ map waits_of c.args.waiting.now.items) c.in_ok-rest.ensures.same) waits) c.say_both-else-is_said.ensures

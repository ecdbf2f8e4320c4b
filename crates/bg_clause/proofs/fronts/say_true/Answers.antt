use Rattle.std.proofs.Common.{refl, sym, ap, ◌∙◌, map}
use Rattle.std.proofs.lemmas.Result.{on_ok_weaker}
use Rattle.bg_clause.specs.Lends.{front_in}
use Rattle.bg_clause.specs.Waiting.{waits_of}
use Rattle.bg_clause.proofs.Emits.{left_same, left_alone, left_before, left_then, left_past, left_clauses, left_more, left_smaller, said_clauses, said_more, said_smaller, two_clauses, two_more, two_smaller}
use Rattle.bg_clause.proofs.fronts.say_true.Goals as goal

pub loop-x-init : goal.loop-x-init
loop-x-init c = (left_same _ _ _ _ refl, (refl, refl))

pub returns-then-is_said-clause-clauses : goal.returns-then-is_said-clause-clauses
returns-then-is_said-clause-clauses c =
    let left = left_alone _ _ _ _ _ _ _ _ _ c.loop-x.invariant.0 (sym (ap front_in c.in-Alone.is) ∙ c.front.ensures) c.loop-x.invariant.1.0 c.in_ok-rest-in-Alone.ensures.left in
    said_clauses _ _ _ _ _ left (c.is_said.ensures c.if-is_said.true) _ _ (ap (map waits_of) c.loop-x.invariant.1.1)

pub returns-in-Alone-clause-clauses : goal.returns-in-Alone-clause-clauses
returns-in-Alone-clause-clauses c =
    let left = left_alone _ _ _ _ _ _ _ _ _ c.loop-x.invariant.0 (sym (ap front_in c.in-Alone.is) ∙ c.front.ensures) c.loop-x.invariant.1.0 c.in_ok-rest-in-Alone.ensures.left in
    on_ok_weaker c.say.result (λ waits. left_clauses _ _ _ _ _ _ left (c.in_ok-rest-in-Alone.ensures.same ∙ c.loop-x.invariant.1.0) _ _ _ (ap (map waits_of) c.loop-x.invariant.1.1) waits) c.say.ensures

pub returns-then-not-is_said-clause-clauses : goal.returns-then-not-is_said-clause-clauses
returns-then-not-is_said-clause-clauses c =
    let left = left_before _ _ _ _ _ _ _ _ _ _ c.loop-x.invariant.0 (sym (ap front_in c.in-Before.is) ∙ c.front.ensures) c.loop-x.invariant.1.0 c.in_ok-rest-in-Before.ensures.left in
    on_ok_weaker c.say_both.result (λ waits. two_clauses _ _ _ _ _ _ _ left (c.in_ok-rest-in-Before.ensures.same ∙ c.loop-x.invariant.1.0) _ _ _ (ap (map waits_of) c.loop-x.invariant.1.1) waits) c.say_both.ensures

pub returns-in-Other-clause-clauses : goal.returns-in-Other-clause-clauses
returns-in-Other-clause-clauses c =
    let left = left_then _ _ _ _ _ _ _ c.loop-x.invariant.0 (left_same _ _ _ _ (sym (ap front_in c.in-Other.is) ∙ c.front.ensures)) in
    on_ok_weaker c.say-in-Other.result (λ waits. left_clauses _ _ _ _ _ _ left c.loop-x.invariant.1.0 _ _ _ (ap (map waits_of) c.loop-x.invariant.1.1) waits) c.say-in-Other.ensures

pub returns-then-is_said-clause-more : goal.returns-then-is_said-clause-more
returns-then-is_said-clause-more c =
    let left = left_alone _ _ _ _ _ _ _ _ _ c.loop-x.invariant.0 (sym (ap front_in c.in-Alone.is) ∙ c.front.ensures) c.loop-x.invariant.1.0 c.in_ok-rest-in-Alone.ensures.left in
    said_more _ _ _ _ _ left (c.is_said.ensures c.if-is_said.true) _ _ (ap (map waits_of) c.loop-x.invariant.1.1)

pub returns-in-Alone-clause-more : goal.returns-in-Alone-clause-more
returns-in-Alone-clause-more c =
    let left = left_alone _ _ _ _ _ _ _ _ _ c.loop-x.invariant.0 (sym (ap front_in c.in-Alone.is) ∙ c.front.ensures) c.loop-x.invariant.1.0 c.in_ok-rest-in-Alone.ensures.left in
    on_ok_weaker c.say.result (λ waits. left_more _ _ _ _ _ _ left (c.in_ok-rest-in-Alone.ensures.same ∙ c.loop-x.invariant.1.0) _ _ _ (ap (map waits_of) c.loop-x.invariant.1.1) waits) c.say.ensures

pub returns-then-not-is_said-clause-more : goal.returns-then-not-is_said-clause-more
returns-then-not-is_said-clause-more c =
    let left = left_before _ _ _ _ _ _ _ _ _ _ c.loop-x.invariant.0 (sym (ap front_in c.in-Before.is) ∙ c.front.ensures) c.loop-x.invariant.1.0 c.in_ok-rest-in-Before.ensures.left in
    on_ok_weaker c.say_both.result (λ waits. two_more _ _ _ _ _ _ _ left (c.in_ok-rest-in-Before.ensures.same ∙ c.loop-x.invariant.1.0) _ _ _ (ap (map waits_of) c.loop-x.invariant.1.1) waits) c.say_both.ensures

pub returns-in-Other-clause-more : goal.returns-in-Other-clause-more
returns-in-Other-clause-more c =
    let left = left_then _ _ _ _ _ _ _ c.loop-x.invariant.0 (left_same _ _ _ _ (sym (ap front_in c.in-Other.is) ∙ c.front.ensures)) in
    on_ok_weaker c.say-in-Other.result (λ waits. left_more _ _ _ _ _ _ left c.loop-x.invariant.1.0 _ _ _ (ap (map waits_of) c.loop-x.invariant.1.1) waits) c.say-in-Other.ensures

pub returns-then-is_said-clause-smaller : goal.returns-then-is_said-clause-smaller
returns-then-is_said-clause-smaller c =
    let left = left_alone _ _ _ _ _ _ _ _ _ c.loop-x.invariant.0 (sym (ap front_in c.in-Alone.is) ∙ c.front.ensures) c.loop-x.invariant.1.0 c.in_ok-rest-in-Alone.ensures.left in
    said_smaller _ _ _ _ _ left (c.is_said.ensures c.if-is_said.true) _ _ (ap (map waits_of) c.loop-x.invariant.1.1)

pub returns-in-Alone-clause-smaller : goal.returns-in-Alone-clause-smaller
returns-in-Alone-clause-smaller c =
    let left = left_alone _ _ _ _ _ _ _ _ _ c.loop-x.invariant.0 (sym (ap front_in c.in-Alone.is) ∙ c.front.ensures) c.loop-x.invariant.1.0 c.in_ok-rest-in-Alone.ensures.left in
    on_ok_weaker c.say.result (λ waits. left_smaller _ _ _ _ _ _ left (c.in_ok-rest-in-Alone.ensures.same ∙ c.loop-x.invariant.1.0) _ _ _ (ap (map waits_of) c.loop-x.invariant.1.1) waits) c.say.ensures

pub returns-then-not-is_said-clause-smaller : goal.returns-then-not-is_said-clause-smaller
returns-then-not-is_said-clause-smaller c =
    let left = left_before _ _ _ _ _ _ _ _ _ _ c.loop-x.invariant.0 (sym (ap front_in c.in-Before.is) ∙ c.front.ensures) c.loop-x.invariant.1.0 c.in_ok-rest-in-Before.ensures.left in
    on_ok_weaker c.say_both.result (λ waits. two_smaller _ _ _ _ _ _ _ left (c.in_ok-rest-in-Before.ensures.same ∙ c.loop-x.invariant.1.0) _ _ _ (ap (map waits_of) c.loop-x.invariant.1.1) waits) c.say_both.ensures

pub returns-in-Other-clause-smaller : goal.returns-in-Other-clause-smaller
returns-in-Other-clause-smaller c =
    let left = left_then _ _ _ _ _ _ _ c.loop-x.invariant.0 (left_same _ _ _ _ (sym (ap front_in c.in-Other.is) ∙ c.front.ensures)) in
    on_ok_weaker c.say-in-Other.result (λ waits. left_smaller _ _ _ _ _ _ left c.loop-x.invariant.1.0 _ _ _ (ap (map waits_of) c.loop-x.invariant.1.1) waits) c.say-in-Other.ensures

pub loop-x-preserved : goal.loop-x-preserved
loop-x-preserved c =
    let left = left_before _ _ _ _ _ _ _ _ _ _ c.loop-x.invariant.0 (sym (ap front_in c.in-Before.is) ∙ c.front.ensures) c.loop-x.invariant.1.0 c.in_ok-rest-in-Before.ensures.left in (
      left_past _ _ _ _ _ _ left (c.is_said-in-Before.ensures c.if-not-is_said.false),
      (c.in_ok-rest-in-Before.ensures.same ∙ c.loop-x.invariant.1.0, c.loop-x.invariant.1.1),
    )

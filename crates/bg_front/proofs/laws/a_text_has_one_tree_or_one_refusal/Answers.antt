use Rattle.bg_front.proofs.Ones.{one_tree, not_both, one_refusal}
use Rattle.bg_front.proofs.laws.a_text_has_one_tree_or_one_refusal.Goals as goal

pub returns-clause-tree : goal.returns-clause-tree
returns-clause-tree c =
    one_tree (record {
      texts = c.a_text_holds_one_list_of_tokens.ensures;
      refusals = c.a_text_has_one_refusal.ensures;
      apart = c.a_text_that_holds_tokens_is_not_refused.ensures;
      trees = c.tokens_spell_one_program.ensures.one;
      no_stop = c.answers_exclude_one_another.ensures.syntax;
      no_deep = c.answers_exclude_one_another.ensures.deep;
      stop_deep = c.answers_exclude_one_another.ensures.refusals;
      stops = c.there_is_one_refusal.ensures.syntax;
    })

pub returns-clause-both : goal.returns-clause-both
returns-clause-both c =
    not_both (record {
      texts = c.a_text_holds_one_list_of_tokens.ensures;
      refusals = c.a_text_has_one_refusal.ensures;
      apart = c.a_text_that_holds_tokens_is_not_refused.ensures;
      trees = c.tokens_spell_one_program.ensures.one;
      no_stop = c.answers_exclude_one_another.ensures.syntax;
      no_deep = c.answers_exclude_one_another.ensures.deep;
      stop_deep = c.answers_exclude_one_another.ensures.refusals;
      stops = c.there_is_one_refusal.ensures.syntax;
    })

pub returns-clause-refusal : goal.returns-clause-refusal
returns-clause-refusal c =
    one_refusal (record {
      texts = c.a_text_holds_one_list_of_tokens.ensures;
      refusals = c.a_text_has_one_refusal.ensures;
      apart = c.a_text_that_holds_tokens_is_not_refused.ensures;
      trees = c.tokens_spell_one_program.ensures.one;
      no_stop = c.answers_exclude_one_another.ensures.syntax;
      no_deep = c.answers_exclude_one_another.ensures.deep;
      stop_deep = c.answers_exclude_one_another.ensures.refusals;
      stops = c.there_is_one_refusal.ensures.syntax;
    })

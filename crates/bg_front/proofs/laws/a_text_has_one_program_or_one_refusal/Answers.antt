use Rattle.bg_front.proofs.Refused.{one_program, program_not_refused, refused_alike}
use Rattle.bg_front.proofs.laws.a_text_has_one_program_or_one_refusal.Goals as goal

pub returns-clause-program : goal.returns-clause-program
returns-clause-program c =
    one_program (record {
      texts = c.a_text_holds_one_list_of_tokens.ensures;
      refusals = c.a_text_has_one_refusal.ensures;
      apart = c.a_text_that_holds_tokens_is_not_refused.ensures;
      trees = c.tokens_spell_one_program.ensures.one;
      no_stop = c.answers_exclude_one_another.ensures.syntax;
      no_deep = c.answers_exclude_one_another.ensures.deep;
      stop_deep = c.answers_exclude_one_another.ensures.refusals;
      stops = c.there_is_one_refusal.ensures.syntax;
    })

pub returns-clause-both : goal.returns-clause-both
returns-clause-both c =
    program_not_refused (record {
      texts = c.a_text_holds_one_list_of_tokens.ensures;
      refusals = c.a_text_has_one_refusal.ensures;
      apart = c.a_text_that_holds_tokens_is_not_refused.ensures;
      trees = c.tokens_spell_one_program.ensures.one;
      no_stop = c.answers_exclude_one_another.ensures.syntax;
      no_deep = c.answers_exclude_one_another.ensures.deep;
      stop_deep = c.answers_exclude_one_another.ensures.refusals;
      stops = c.there_is_one_refusal.ensures.syntax;
    })
    c.programs_that_keep_the_rules_have_no_fault.ensures

pub returns-clause-refusal : goal.returns-clause-refusal
returns-clause-refusal c =
    refused_alike (record {
      texts = c.a_text_holds_one_list_of_tokens.ensures;
      refusals = c.a_text_has_one_refusal.ensures;
      apart = c.a_text_that_holds_tokens_is_not_refused.ensures;
      trees = c.tokens_spell_one_program.ensures.one;
      no_stop = c.answers_exclude_one_another.ensures.syntax;
      no_deep = c.answers_exclude_one_another.ensures.deep;
      stop_deep = c.answers_exclude_one_another.ensures.refusals;
      stops = c.there_is_one_refusal.ensures.syntax;
    })
    c.programs_that_keep_the_rules_have_no_fault.ensures

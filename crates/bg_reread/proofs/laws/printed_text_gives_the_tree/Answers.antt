use Rattle.bg_reread.proofs.Twins.{Known, reread, read_again, read_or_deep, bytes_stand, tokens_stand}
use Rattle.bg_reread.proofs.laws.printed_text_gives_the_tree.Goals as goal

pub returns : goal.returns
returns c =
    let k : Known = record {
      texts = c.a_text_holds_one_list_of_tokens.ensures;
      apart = c.a_text_that_holds_tokens_is_not_refused.ensures;
      prints = c.printed_is_read.ensures;
      alike = c.twins_differ_in_positions_alone.ensures;
      twin = c.tokens_spell_one_program.ensures.twin;
      words = c.tokens_spell_one_program.ensures.words;
    } in
    record {
      tokens = reread k;
      read = λ d ds es ts us h t. read_again k ds ts h us t d es;
      answered = λ d ds ts us h t. read_or_deep k ds ts h us t d;
      bytes = λ ds ts at fault h. bytes_stand k ds ts h at fault;
      syntax = λ d ds ts us rest h t. tokens_stand k ds ts h us t d rest;
    }

use Rattle.std.proofs.Common.{sym, ap, ◌∙◌}
use Rattle.std.specs.Prelude.{is_ok}
use Rattle.bg_term_table.specs.Keys.{kind_in, key_with}
use Rattle.bg_term_table.proofs.Found.{found_push}
use Rattle.bg_term_table.proofs.terms.Terms.add.Goals as goal

pub invariant_of-self : goal.invariant_of-self
invariant_of-self c =
    record {
      found = λ k. c.args.self.now.found k ∙ sym (found_push (is_ok c.push.result) (k.0, k.1.items) c.args.self.now.terms.items c.push.new.self.items _ c.push.ensures.items (ap (key_with (kind_in c.args.head)) c.requires));
    }

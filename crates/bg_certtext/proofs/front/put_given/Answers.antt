use Rattle.std.proofs.Common.{codes}
use Rattle.bg_certtext.specs.Views.{value_of}
use Rattle.bg_certtext.specs.Texts.{value_text}
use Rattle.bg_certtext.proofs.Written.{named_written}
use Rattle.bg_certtext.proofs.front.put_given.Goals as goal

pub returns : goal.returns
returns c =
    named_written c.args.out.now.items (codes "const") c.args.given.now.name.now (value_text (value_of c.args.given.now.value)) c.extend_from_slice.new.self.items c.put_word.new.out.items c.extend_from_slice-2.new.self.items c.put_value.new.out.items c.push.new.self.items
    c.in_ok-extend_from_slice.ensures.items c.in_ok-put_word.ensures c.in_ok-extend_from_slice-2.ensures.items c.in_ok-put_value.ensures c.in_ok-push.ensures.items

use Rattle.std.proofs.Common.{◌≡◌, [], map, refl, ◌∙◌, rules}
use Rattle.std.proofs.lemmas.Result.{on_ok_weaker}
use Rattle.bg_blocks.specs.declared.emit.Emitted.{Emitted}
use Rattle.bg_blocks.specs.Views.{cmd_of}
use Rattle.bg_blocks.proofs.Reading.{lead_is, none_is}
use Rattle.bg_blocks.proofs.simple.lead.Goals as goal

pub returns-in_ok-push-in-Some : goal.returns-in_ok-push-in-Some
returns-in_ok-push-in-Some c = λ p.
    let new : Emitted = record { blocks = c.push.new.self; takes_in = c.args.state.now.takes_in; marks = c.args.state.now.marks } in
    lead_is p (map (cmd_of p) c.args.cmds.items) c.args.state.now new c.in-Some.first c.in_ok-more-in-Some.more c.pop.new.self.items c.requires c.in-Some.ensures.items c.in_ok-push-in-Some.ensures.items (c.in_ok-more-in-Some.ensures p) refl refl

pub returns-in-None : goal.returns-in-None
returns-in-None c =
    let before : Emitted = record { blocks = c.pop.new.self; takes_in = c.args.state.now.takes_in; marks = c.args.state.now.marks } in
    let none : c.args.state.now.blocks.items ≡ [] = search rules in
    let left : c.pop.new.self.items ≡ [] = search rules in
    on_ok_weaker c.alone.result (λ h p. h p ∙ none_is p (map (cmd_of p) c.args.cmds.items) c.args.state.now before none left refl) c.alone.ensures

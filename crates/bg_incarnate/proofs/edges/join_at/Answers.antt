use Rattle.std.proofs.Common.{rules, length, ◌<◌, ◌≤◌, ◌≡◌, ◌++◌, refl, sym, ◌∙◌, append-nil, append_assoc}
use Rattle.bg_passive.specs.Incarnations.{joins}
use Rattle.bg_incarnate.specs.Views.{cmds_of, held_env}
use Rattle.bg_incarnate.proofs.Joins.{arrival-None, arrival-Some}
use Rattle.bg_incarnate.proofs.edges.join_at.Goals as goal

pub returns-in-None : goal.returns-in-None
returns-in-None c =
    let short : length c.args.later.now.items ≤ c.args.to = search rules in
    rw (arrival-None (held_env c.args.held.now) c.args.later.now.items c.args.to short) (sym (append-nil (cmds_of c.args.out.now.items)))

pub returns-in_ok-join-in-Some : goal.returns-in_ok-join-in-Some
returns-in_ok-join-in-Some c =
    let there : c.args.to < length c.args.later.now.items = search rules in
    let out = cmds_of c.args.out.now.items in
    let first = joins c.args.held.now.globals.items c.in-Some.a.now.held.globals.items in
    let second = joins c.args.held.now.frame.items c.in-Some.a.now.held.frame.items in
    let e : cmds_of c.join.new.out.items ≡ out ++ first = c.in_ok-join-in-Some.ensures ∙ rw (c.deref.ensures.value, c.deref-in-Some.ensures.value) refl in
    rw (
      arrival-Some (held_env c.args.held.now) c.args.later.now.items c.args.to c.in-Some.a.now there c.in-Some.ensures.lookup,
      sym (append_assoc out first second),
      sym e,
      sym c.deref-in-Some-2.ensures.value,
      sym c.deref-in-Some-3.ensures.value,
    )
    c.join-in-Some.ensures

use Rattle.std.proofs.Common.{get_or, drop, ◌+◌, false, inl, refl, ◌∙◌, arith}
use Rattle.std.proofs.lemmas.List.{drop_all}
use Rattle.bg_formula.specs.declared.atom.Literal.{Literal}
use Rattle.bg_pick.specs.declared.index.Index.{Index}
use Rattle.bg_pick.proofs.Indexes.{named_next, drop_next, low_next, grows_then, grows_start, last_named, covers_all}
use Rattle.bg_pick.proofs.index.add_clause.Goals as goal

pub loop-l-init : goal.loop-l-init
loop-l-init c =
    let old = c.args.i.now in
    let new : Index = record { start = c.push.new.self; yes = old.yes; no = old.no } in
    record {
      yes = c.requires.yes;
      no = c.requires.no;
      grows = grows_start old new c.args.x c.in_ok-push.ensures.items refl refl;
      start = last_named old.start.items c.push.new.self.items c.args.x c.in_ok-push.ensures.items;
      low = c.requires.low;
      named = λ a s e. inl e;
    }

pub loop-l-preserved : goal.loop-l-preserved
loop-l-preserved c =
    let n = c.loop-l.l-index in
    let ls = c.args.clause.now in
    let d : Literal = record { atom = 0; sign = false } in
    let e = drop_next ls n d c.loop-l-test.true in
    let g = c.in_ok-add_literal.ensures.grows in
    record {
      yes = c.in_ok-add_literal.ensures.yes ∙ c.loop-l.invariant.yes;
      no = c.in_ok-add_literal.ensures.no ∙ c.loop-l.invariant.no;
      grows = grows_then c.args.i.now c.loop-l.i c.add_literal.new.i c.loop-l.invariant.grows g;
      start = g.start c.args.x c.loop-l.invariant.start;
      low = (low_next c.args.atoms (drop (n + 1) ls) (drop n ls) (get_or ls n d) e c.loop-l.invariant.low).1;
      named = named_next c.loop-l.i c.add_literal.new.i c.args.x ls (drop (n + 1) ls) (drop n ls) (get_or ls n d) e g c.in_ok-add_literal.ensures.has c.loop-l.invariant.named;
    }

pub returns-clause-covers : goal.returns-clause-covers
returns-clause-covers c =
    let n = c.loop-l.l-index in
    let ls = c.args.clause.now in
    covers_all c.loop-l.i c.args.x ls (drop n ls) (drop_all n ls (omega arith)) c.loop-l.invariant.start c.loop-l.invariant.named

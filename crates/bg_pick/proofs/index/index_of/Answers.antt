use Rattle.std.proofs.Common.{sym, ◌∙◌, arith, length}
use Rattle.std.proofs.lemmas.List.{length-map}
use Rattle.bg_formula.specs.Atoms.{atom_of}
use Rattle.bg_formula.specs.Formulas.{formula_of}
use Rattle.bg_cert.specs.Walks.{has}
use Rattle.bg_pick.proofs.Indexes.{low_at, item_at, clauses_next, clauses_more, members_next, all_named}
use Rattle.bg_pick.proofs.index.index_of.Goals as goal

pub add_clause-requires-clause-low : goal.add_clause-requires-clause-low
add_clause-requires-clause-low c =
    let f = formula_of c.args.f.now in
    let n = c.len-atoms.ensures ∙ c.args.f.now.atoms.ok.0 ∙ sym (length-map c.args.f.now.atoms.items atom_of) in
    let e = item_at c.args.f.now.clauses.items c.deref-clause-items.result.now c.loop-k.k c.clause-item.result c.deref-clause-items.ensures.value c.loop-k-test.true c.clause-item.is in
    rw c.deref.ensures.value (low_at f c.len-atoms.result c.loop-k.k c.clause-item.result.items c.requires n e)

pub loop-k-preserved : goal.loop-k-preserved
loop-k-preserved c =
    let e = item_at c.args.f.now.clauses.items c.deref-clause-items.result.now c.loop-k.k c.clause-item.result c.deref-clause-items.ensures.value c.loop-k-test.true c.clause-item.is in
    let v = c.deref.ensures.value in
    let h = c.in_ok-add_clause.ensures.covers in
    let g = rw v at h in
    record {
      yes = c.in_ok-add_clause.ensures.yes;
      no = c.in_ok-add_clause.ensures.no;
      clauses = clauses_next (formula_of c.args.f.now) c.loop-k.i c.add_clause.new.i c.loop-k.k c.clause-item.result.items c.in_ok-add_clause.ensures.grows e g c.loop-k.invariant.clauses;
    }

pub loop-c-preserved : goal.loop-c-preserved
loop-c-preserved c =
    let f = formula_of c.args.f.now in
    let g = c.in_ok-add_member.ensures.grows in
    record {
      yes = c.in_ok-add_member.ensures.yes;
      no = c.in_ok-add_member.ensures.no;
      clauses = clauses_more f c.loop-c.i c.add_member.new.i (length c.args.f.now.clauses.items) g c.loop-c.invariant.clauses;
      members = members_next f (has c.args.set.now) c.loop-c.i c.add_member.new.i c.loop-c.c g c.in_ok-add_member.ensures.covers c.loop-c.invariant.members;
    }

pub returns : goal.returns
returns c =
    all_named (formula_of c.args.f.now) (has c.args.set.now) c.loop-c.i (length c.args.f.now.clauses.items) c.loop-c.c (omega (arith, length-map c.args.f.now.clauses.items (λ c. c.items))) (omega arith) c.loop-c.invariant.clauses c.loop-c.invariant.members

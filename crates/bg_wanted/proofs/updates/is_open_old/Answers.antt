use Rattle.std.proofs.Common.{refl, sym, ◌∙◌, inr}
use Rattle.bg_wanted.specs.Asked.{looked_rows}
use Rattle.bg_wanted.proofs.Asking.{unsettled, agreed_own, agreed_unfirst, agreed_seen, agree_missing_new, none_is, some_is}
use Rattle.bg_wanted.proofs.Same.{are_known, are_other}
use Rattle.bg_wanted.proofs.updates.is_open_old.Goals as goal

pub returns-then-are_same : goal.returns-then-are_same
returns-then-are_same c =
    record {
      so = λ has e. absurd (let bad : ⊥ = cc in bad);
      not =
          λ has e at first unseen.
          agreed_own c.args.looked c.args.update c.args.update.before c.args.a c.args.index.now at (are_known c.args.index.now c.args.update.index.now c.are_same.result c.are_same.ensures c.if-are_same.true);
    }

pub returns-then-not-is_first_one : goal.returns-then-not-is_first_one
returns-then-not-is_first_one c =
    record {
      so = λ has e. absurd (let bad : ⊥ = cc in bad);
      not =
          λ has e at first unseen.
          agreed_unfirst c.args.looked c.args.update c.args.update.before c.args.a c.args.index.now at (sym (c.in_ok-is_first_one.ensures (looked_rows c.args.looked) has) ∙ c.if-not-is_first_one.true) first;
    }

pub returns : goal.returns
returns c =
    let l = c.args.looked in
    let u = c.args.update in
    let rs = looked_rows l in
    let k = c.args.index.now in
    record {
      so =
          λ has e agree at is.
          unsettled l u u.before c.args.a k (inr refl) at is (are_other c.args.index.now c.args.update.index.now c.are_same.result c.are_same.ensures c.if-are_same.false)
          (agree_missing_new rs agree u.maps u.value u.before k (sym (c.in_ok-found.ensures rs has) ∙ none_is c.in_ok-found.found c.is_none.result c.is_none.ensures e));
      not =
          λ has e at first unseen.
          agreed_seen l u u.before c.args.a k c.in_ok-found.found at (sym (c.in_ok-found.ensures rs has)) (some_is c.in_ok-found.found c.is_none.result c.is_none.ensures e) unseen;
    }

use Rattle.std.proofs.Common.{◌∷◌, refl, sym, ◌∙◌, inl}
use Rattle.bg_terms.proofs.True.{not_true}
use Rattle.bg_wanted.specs.declared.class.Class.TheVariants as class
use Rattle.bg_wanted.specs.Firsts.{first_row}
use Rattle.bg_wanted.specs.Asked.{looked_rows}
use Rattle.bg_wanted.proofs.Asking.{unsettled, agreed_own, agreed_unfirst, agreed_both, agree_by, agree_not, flipped}
use Rattle.bg_wanted.proofs.Same.{are_known, are_other}
use Rattle.bg_wanted.proofs.updates.is_open_new.Goals as goal

pub returns-then-are_same : goal.returns-then-are_same
returns-then-are_same c =
    record {
      so = λ has e. absurd (let bad : ⊥ = cc in bad);
      not =
          λ has e at first.
          agreed_own c.args.looked c.args.update c.args.update.value c.args.a c.args.index.now at (are_known c.args.index.now c.args.update.index.now c.are_same.result c.are_same.ensures c.if-are_same.true);
    }

pub returns-then-not-is_first_one : goal.returns-then-not-is_first_one
returns-then-not-is_first_one c =
    record {
      so = λ has e. absurd (let bad : ⊥ = cc in bad);
      not =
          λ has e at first.
          agreed_unfirst c.args.looked c.args.update c.args.update.value c.args.a c.args.index.now at (sym (c.in_ok-is_first_one.ensures (looked_rows c.args.looked) has) ∙ c.if-not-is_first_one.true) first;
    }

pub returns : goal.returns
returns c =
    let l = c.args.looked in
    let u = c.args.update in
    let rs = looked_rows l in
    let k = c.args.index.now in
    record {
      so =
          λ has e agree at is.
          unsettled l u u.value c.args.a k (inl refl) at is (are_other c.args.index.now c.args.update.index.now c.are_same.result c.are_same.ensures c.if-are_same.false)
          (agree_not rs agree u.maps u.value u.before k (first_row (class.Select u.maps, u.value ∷ k) 0 rs) (first_row (class.Select u.maps, u.before ∷ k) 0 rs) refl refl (sym (c.in_ok-agree.ensures has) ∙ not_true c.in_ok-agree.agree e));
      not =
          λ has e at first.
          agreed_both l u u.value c.args.a k at (agree_by rs u.maps u.value u.before k (first_row (class.Select u.maps, u.value ∷ k) 0 rs) (first_row (class.Select u.maps, u.before ∷ k) 0 rs) refl refl (sym (c.in_ok-agree.ensures has) ∙ flipped c.in_ok-agree.agree e));
    }

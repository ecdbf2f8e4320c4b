use Rattle.std.proofs.Common.{◌≡◌, ◌<◌, length, sym, subst, arith}
use Rattle.std.specs.Prelude.{MatchOption}
use Rattle.std.proofs.lemmas.Bool.Decides.{nat_tests}
use Rattle.bg_terms.specs.Typed.{types_with}
use Rattle.bg_term_table.specs.Views.{term_of, terms_in, incs_of}
use Rattle.bg_wanted.specs.Scalars.{scalars_in}
use Rattle.bg_wanted.specs.Asked.{looked_rows}
use Rattle.bg_wanted.specs.Alike.{AreApart, IsAlike}
use Rattle.bg_wanted.proofs.Rowed.{mapped_length}
use Rattle.bg_wanted.proofs.Leaves.{as_long}
use Rattle.bg_wanted.proofs.Asking.{settled_of}
use Rattle.bg_wanted.proofs.Answering.{leaf_finished, leaf_settled, empty_is, not_empty}
use Rattle.bg_wanted.proofs.Wantings.{told_wanted}
use Rattle.bg_wanted.proofs.wanted.of_looked.Goals as goal

pub returns-then-not-is_empty : goal.returns-then-not-is_empty
returns-then-not-is_empty c =
    let l = c.args.looked in
    let values = c.args.values.now in
    let incs = incs_of c.args.around in
    let some : 0 < length c.ask_all.new.wants.made.items = let h = c.is_empty.ensures in let k = c.if-not-is_empty.true in grind (arith, nat_tests, h, k) in
    λ fs give leaf looked.
    let ts = terms_in fs l.terms.now in
    let go = c.in_ok-ask_all.ensures looked.selects fs incs values looked (record { told = c.in_ok-wants.ensures.told incs ts (sym (mapped_length (term_of fs) l.terms.now)); reason = λ any. absurd (any c.in_ok-wants.ensures.none) }) in
    told_wanted incs ts (scalars_in values) c.ask_all.new.wants go.0.told (not_empty c.ask_all.new.wants.made.items some)
    (λ done. go.0.reason (not_empty c.ask_all.new.wants.made.items some) (leaf_settled values incs ts (looked_rows l) looked.rows fs leaf.terms leaf.scalars done))

pub returns-in-None : goal.returns-in-None
returns-in-None c =
    let l = c.args.looked in
    let values = c.args.values.now in
    let incs = incs_of c.args.around in
    let none : length c.ask_all.new.wants.made.items ≡ 0 = let h = c.is_empty.ensures in let k = c.if-not-is_empty.false in grind (arith, nat_tests, h, k) in
    λ fs give leaf looked.
    let ts = terms_in fs l.terms.now in
    let go = c.in_ok-ask_all.ensures looked.selects fs incs values looked (record { told = c.in_ok-wants.ensures.told incs ts (sym (mapped_length (term_of fs) l.terms.now)); reason = λ any. absurd (any c.in_ok-wants.ensures.none) }) in
    let apart = subst (λ o. MatchOption o (AreApart (scalars_in values) (length incs) ts (types_with incs ts)) (λ p. IsAlike (scalars_in values) (length incs) ts (types_with incs ts) p)) c.in-None.is (c.in_ok-found.ensures fs give looked (as_long (types_with incs ts) values leaf.scalars)) in
    (leaf_finished values incs ts (looked_rows l) looked.rows fs leaf.terms leaf.scalars (settled_of (looked_rows l) looked.agree (go.1.1 (empty_is c.ask_all.new.wants.made.items none))) apart, c.in_ok-made-in-None.ensures fs give looked (as_long (types_with incs ts) values leaf.scalars))

pub returns : goal.returns
returns c =
    let l = c.args.looked in
    let values = c.args.values.now in
    let incs = incs_of c.args.around in
    λ fs give leaf looked.
    let ts = terms_in fs l.terms.now in
    let alike = subst (λ o. MatchOption o (AreApart (scalars_in values) (length incs) ts (types_with incs ts)) (λ p. IsAlike (scalars_in values) (length incs) ts (types_with incs ts) p)) c.in-Some.is (c.in_ok-found.ensures fs give looked (as_long (types_with incs ts) values leaf.scalars)) in
    c.in_ok-lines-in-Some.ensures incs ts (scalars_in values) (sym (mapped_length (term_of fs) l.terms.now)) leaf.types alike

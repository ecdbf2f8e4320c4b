use Rattle.std.proofs.Common.{List, [], map, ℕ, Bor, arith, sym, ◌∙◌}
use Rattle.bg_certtext.specs.Machine.{terms_in}
use Rattle.bg_certtext.proofs.Lists.{terms_more, terms_odd, terms_none, terms_done}
use Rattle.bg_certtext.proofs.parts.terms_in.Goals as goal

pub loop-rest-preserved : goal.loop-rest-preserved
loop-rest-preserved c =
    terms_more (λ (w : Bor (List ℕ)). w.now) (record { ref_ptr = (0, 0); now = [] }) c.loop-rest.made.items c.push.new.self.items c.loop-rest.low c.loop-rest.rest.now c.in-Some.t (terms_in 0 (map (λ w. w.now) c.args.words.now)) (omega arith) c.in_ok-push.ensures.items (sym c.in-Some.ensures.term) c.loop-rest.invariant

pub returns-else-is_empty : goal.returns-else-is_empty
returns-else-is_empty c = sym (terms_odd (λ (w : Bor (List ℕ)). w.now) c.loop-rest.made.items c.loop-rest.low c.loop-rest.rest.now (sym c.is_empty.ensures ∙ c.if-is_empty.false) (omega arith)) ∙ c.loop-rest.invariant

pub returns-in_default-term_in : goal.returns-in_default-term_in
returns-in_default-term_in c =
    terms_none (λ (w : Bor (List ℕ)). w.now) (record { ref_ptr = (0, 0); now = [] }) c.loop-rest.made.items c.loop-rest.low c.loop-rest.rest.now (terms_in 0 (map (λ w. w.now) c.args.words.now)) (omega arith) (sym c.in_default-term_in.ensures.term) c.loop-rest.invariant

pub returns-then-is_empty : goal.returns-then-is_empty
returns-then-is_empty c =
    terms_done (λ (w : Bor (List ℕ)). w.now) c.loop-rest.made.items c.loop-rest.low c.loop-rest.rest.now (terms_in 0 (map (λ w. w.now) c.args.words.now)) (sym c.is_empty.ensures ∙ c.if-is_empty.true) c.loop-rest.invariant

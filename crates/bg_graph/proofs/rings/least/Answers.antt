use Rattle.std.proofs.Common.{arith, ◌≡◌, ℕ, inl, inr, List, Contains, get_or, min, subst, sym, ◌∙◌}
use Rattle.std.proofs.lemmas.List.{take_all}
use Rattle.std.proofs.lemmas.List.Elements.{Contains-get_or}
use mathlib.Core.Logic.{dite}
use native.Mathlib.Decide.{dec_le}
use Rattle.bg_graph.proofs.Lists.{more_cases}
use Rattle.bg_graph.proofs.rings.least.Goals as goal

pub loop-v-preserved : goal.loop-v-preserved
loop-v-preserved c =
    let i = c.loop-v.v-index in let part = c.args.part.now in let x : ℕ = get_or part i 0 in
    let is : c.min-found.result ≡ min c.loop-v.found x = c.min-found.ensures in
    let low = c.loop-v.invariant.low in
    record {
      low = omega arith;
      all = λ v h. elim (more_cases part i c.loop-v-test.true v h) [ inl old ↦ (let a = c.loop-v.invariant.all v old in omega arith) | inr new ↦ omega arith ];
      one = dite (dec_le c.loop-v.found x)
          (λ le. let same : c.min-found.result ≡ c.loop-v.found = omega arith in elim c.loop-v.invariant.one [ inl e ↦ inl (same ∙ e) | inr h ↦ inr (let P : ℕ → Type 0 = λ n. Contains part n in subst P (sym same) h) ])
          (λ not. let same : c.min-found.result ≡ x = omega arith in inr (let P : ℕ → Type 0 = λ n. Contains part n in subst P (sym same) (Contains-get_or part i 0 c.loop-v-test.true)));
    }

pub returns-clause-all : goal.returns-clause-all
returns-clause-all c v h =
    let P : List ℕ → Type 0 = λ l. Contains l v in
    c.loop-v.invariant.all v (subst P (sym (take_all c.loop-v.v-index c.args.part.now c.loop-v-test.false)) h)

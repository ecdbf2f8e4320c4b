use Rattle.std.proofs.Common.{◌≡◌, ◌+◌, ◌++◌, ◌∷◌, ◌∙◌, [], true, false, length, take, refl, sym, ap, subst, arith, append-nil, length-append}
use Rattle.std.proofs.lemmas.List.{take-append-le, take_all}
use Rattle.bg_formula.specs.Formulas.{formula_of}
use Rattle.bg_cert.specs.Certs.{node_of}
use Rattle.bg_cert.specs.Walks.{has}
use Rattle.bg_cert.specs.Written.{KnowsBelow, is_lemma}
use Rattle.bg_cert.proofs.Seen.{knows_more, seen_more}
use Rattle.bg_cert.proofs.written.take.Goals as goal

pub returns-then-not-is_kept-clause-known : goal.returns-then-not-is_kept-clause-known
returns-then-not-is_kept-clause-known c t =
    let o = c.args.kept.now.nodes.ok in
    let k : c.len-k.result ≡ length c.args.kept.now.nodes.items = omega (arith, c.len-k.ensures, o) in
    let same : c.truncate.new.self.items ≡ c.args.kept.now.nodes.items =
    c.truncate.ensures.items ∙ ap (take c.len-k.result) c.in_ok-push.ensures.items ∙ take-append-le c.len-k.result c.args.kept.now.nodes.items _ (omega (arith, k)) ∙ take_all c.len-k.result c.args.kept.now.nodes.items (omega (arith, k)) in
    let e : c.is_lemma-is_kept.result ≡ false = c.if-not-is_kept.true in
    let no : is_lemma (node_of c.index.result.now) ≡ false = sym c.is_lemma-is_kept.ensures ∙ e in
    subst (λ xs. KnowsBelow (length xs) c.step.new.tour) (sym same) (c.in_ok-fits.ensures.known t (length c.args.kept.now.nodes.items) (λ y. absurd (let bad : true ≡ false = sym y ∙ no in cc)) c.requires.known)

pub returns-else-not-is_kept-clause-known : goal.returns-else-not-is_kept-clause-known
returns-else-not-is_kept-clause-known c t =
    let o = c.args.kept.now.nodes.ok in
    let k : c.len-k.result ≡ length c.args.kept.now.nodes.items = omega (arith, c.len-k.ensures, o) in
    let n : length c.push.new.self.items ≡ length c.args.kept.now.nodes.items + 1 = ap length c.in_ok-push.ensures.items ∙ length-append c.args.kept.now.nodes.items _ in
    c.in_ok-fits.ensures.known t (length c.push.new.self.items) (λ y. omega (arith, k, n)) (knows_more (length c.args.kept.now.nodes.items) (length c.push.new.self.items) (omega (arith, n)) c.args.tour.now c.requires.known)

pub returns-then-not-is_kept-clause-seen : goal.returns-then-not-is_kept-clause-seen
returns-then-not-is_kept-clause-seen c t s =
    let o = c.args.kept.now.nodes.ok in
    let k : c.len-k.result ≡ length c.args.kept.now.nodes.items = omega (arith, c.len-k.ensures, o) in
    let same : c.truncate.new.self.items ≡ c.args.kept.now.nodes.items =
    c.truncate.ensures.items ∙ ap (take c.len-k.result) c.in_ok-push.ensures.items ∙ take-append-le c.len-k.result c.args.kept.now.nodes.items _ (omega (arith, k)) ∙ take_all c.len-k.result c.args.kept.now.nodes.items (omega (arith, k)) in
    seen_more (formula_of c.args.f.now) (has c.args.set.now) c.args.kept.now (record { table = c.args.kept.now.table; nodes = c.push.new.self }) (record { table = c.args.kept.now.table; nodes = c.truncate.new.self }) c.args.tour.now c.step.new.tour (node_of c.index.result.now) (c.args.node ∷ []) (c.args.node ∷ []) refl refl c.in_ok-push.ensures.items (c.in_ok-push.ensures.items ∙ ap (λ xs. xs ++ (c.args.node ∷ [])) (sym same)) c.requires.known (returns-then-not-is_kept-clause-known c t) (λ rest. c.in_ok-fits.ensures.told rest ∙ rw t refl) s

pub returns-else-not-is_kept-clause-seen : goal.returns-else-not-is_kept-clause-seen
returns-else-not-is_kept-clause-seen c t s =
    seen_more (formula_of c.args.f.now) (has c.args.set.now) c.args.kept.now (record { table = c.args.kept.now.table; nodes = c.push.new.self }) (record { table = c.args.kept.now.table; nodes = c.push.new.self }) c.args.tour.now c.step.new.tour (node_of c.index.result.now) (c.args.node ∷ []) [] refl refl c.in_ok-push.ensures.items (sym (append-nil c.push.new.self.items)) c.requires.known (returns-else-not-is_kept-clause-known c t) (λ rest. c.in_ok-fits.ensures.told rest ∙ rw t refl) s

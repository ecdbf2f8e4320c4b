use Rattle.std.proofs.Common.{◌≡◌, ℕ, List, All, IfOk, Vec, drop, length, sym, ap, ◌∙◌, subst, arith}
use Rattle.std.specs.declared.alloc.Global.{Global}
use Rattle.std.proofs.lemmas.List.{take_at}
use Rattle.bg_rounds.specs.declared.keeper.Keeper.{Keeper}
use Rattle.bg_rounds.specs.declared.worker.Worker.{Worker}
use Rattle.bg_rounds.specs.Crews.{Works}
use Rattle.bg_rounds.proofs.threaded.one_round.Goals as goal

pub man-requires-clause-keepers : goal.man-requires-clause-keepers
man-requires-clause-keepers g c κs o = c.requires.keepers

pub man-requires-clause-seats : goal.man-requires-clause-seats
man-requires-clause-seats g c κs o = c.in_ok-claims.ensures.seats

pub work_all-requires-clause-tasks : goal.work_all-requires-clause-tasks
work_all-requires-clause-tasks g c κs o = c.requires.tasks

pub work_all-requires-clause-works : goal.work_all-requires-clause-works
work_all-requires-clause-works g c κs o = let k = g.C.Checker in let s = c.args.checker.now in
    let W : Worker g.row.P.Denot g.row.V.Denot g.row.D.Denot → Type 0 = Works (k.cands s) (k.targets s) (k.cand s) (k.passes s) (k.finds s) c.in_ok-claims.claims c.args.run.now.shared.now in
    subst (λ (ws : List (Worker g.row.P.Denot g.row.V.Denot g.row.D.Denot)). All W ws) (sym c.as_mut_slice.ensures.value) c.in_ok-workers.ensures.workers

pub collect-requires-clause-shelved : goal.collect-requires-clause-shelved
collect-requires-clause-shelved g c κs o = c.requires.shelved

pub returns-clause-keepers : goal.returns-clause-keepers
returns-clause-keepers g c = c.collect.ensures.keepers

pub returns-clause-shelved : goal.returns-clause-shelved
returns-clause-shelved g c = c.collect.ensures.shelved

pub collect-requires-clause-workers : goal.collect-requires-clause-workers
collect-requires-clause-workers g c κs o = let k = g.C.Checker in let s = c.args.checker.now in let ws = c.work_all.new.workers in
    let W : Worker g.row.P.Denot g.row.V.Denot g.row.D.Denot → Type 0 = Works (k.cands s) (k.targets s) (k.cand s) (k.passes s) (k.finds s) c.in_ok-claims.claims c.args.run.now.shared.now in
    let same = take_at ws (drop (length ws) c.in_ok-workers.workers.items) c.in_ok-workers.workers.len (omega (arith, c.work_all.auto.workers, c.as_mut_slice.ensures.len)) in
    subst (λ (xs : List (Worker g.row.P.Denot g.row.V.Denot g.row.D.Denot)). All W xs) (sym same) c.work_all.ensures

pub returns-clause-count : goal.returns-clause-count
returns-clause-count g c = let ws = c.work_all.new.workers in
    let same = take_at ws (drop (length ws) c.in_ok-workers.workers.items) c.in_ok-workers.workers.len (omega (arith, c.work_all.auto.workers, c.as_mut_slice.ensures.len)) in
    let whole = ap (λ (xs : List (Worker g.row.P.Denot g.row.V.Denot g.row.D.Denot)). length xs) same ∙ (c.work_all.auto.workers ∙ (ap (λ (xs : List (Worker g.row.P.Denot g.row.V.Denot g.row.D.Denot)). length xs) c.as_mut_slice.ensures.value ∙ c.in_ok-workers.ensures.count)) in
    subst (λ (n : ℕ). IfOk c.collect.result (λ (ds : Vec (Keeper g.row.V.Denot g.row.D.Denot) Global). length ds.items ≡ n)) whole c.collect.ensures.count

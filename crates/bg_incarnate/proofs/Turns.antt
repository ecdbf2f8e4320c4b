-- Turns of the loops of the walk.
use Rattle.std.proofs.Common.{◌≡◌, ◌<◌, ◌≤◌, ◌+◌, ◌-◌, ℕ, zero, suc, List, [], ◌∷◌, ◌++◌, length, map, drop, Some, None, get_or, refl, sym, ap, ◌∙◌, arith, append_assoc, append-nil, Vec, Global}
use Rattle.std.specs.Prelude.{slice_set, slice_get}
use Rattle.std.proofs.lemmas.List.{map-append, length-map}
use Rattle.bg_ast.specs.Syntax.{Decl, Prog}
use Rattle.bg_sense.specs.Variables.{count_from}
use Rattle.bg_flow.specs.Core.{Cmd}
use Rattle.bg_flow.specs.Blocks.{Block}
use Rattle.bg_passive.specs.Passive.{PassiveCmd, PassiveBlock, Edge}
use Rattle.bg_passive.specs.Incarnations.{Env, Arrival, edges, entry_env, passives, Passed, pass_all, targets_of}
use Rattle.bg_passive.specs.Arrivals.{Ways, way_to, ways_to, ways_here, ways_on, arrive_at, arrived}
use Rattle.bg_incarnate.specs.declared.arrived.Arrived.{Arrived}
use Rattle.bg_incarnate.specs.declared.blocks.PassiveBlock as code
use Rattle.bg_incarnate.specs.declared.blocks.Incarnations.{Incarnations}
use Rattle.bg_incarnate.specs.declared.held.Held.{Held}
use Rattle.bg_incarnate.specs.Views.{held_env, passive_block_of, incarnations_of, incarnations_at, onto}
use Rattle.bg_incarnate.specs.Arrived.{arrival_of, ways_of}
use Rattle.bg_incarnate.specs.Walked.{Walked, walked_of, ways_in, open_of, passed_at, walked_at, ways_after, walk, walk_after, arrival_in, first_in, next_in, finished, arrived_with}
use Rattle.bg_incarnate.proofs.Meeting.{last_first, alone_arrives}
use Rattle.bg_incarnate.proofs.Passing.{drop_item}
use Rattle.bg_incarnate.proofs.Walks.{open_grown, arrivals_are, passives_are, count_step}

-- an empty list of ways
pub grown : (ws new : List (Vec Held Global)) (e : Vec Held Global) (k : ℕ) (v : Env) (whole : Ways) → new ≡ ws ++ e ∷ [] → e.items ≡ [] → length ws ≤ k → way_to k v (open_of ws) ≡ whole → way_to k v (open_of new) ≡ whole
grown ws new e k v whole h none short known =
    ap (λ l. way_to k v (open_of l)) h
    ∙ ap (way_to k v) (map-append ways_in ws (e ∷ []) ∙ ap (λ l. open_of ws ++ ways_of l ∷ []) none)
    ∙ open_grown k v (open_of ws) (let l = length-map ws ways_in in omega (arith, l, short))
    ∙ known

-- one more way in a list
pub one_way : (old new : Vec Held Global) (h : Held) → new.items ≡ old.items ++ h ∷ [] → ways_in new ≡ held_env h ∷ ways_in old
one_way old new h e = last_first new.items old.items h e

-- one way alone leads to the next block
pub alone_here : (ways rest : List (Vec Held Global)) (here : Vec Held Global) (only : Held) (entry : Env) (n : ℕ) → ways ≡ here ∷ rest → here.items ≡ only ∷ [] → arrive_at entry (ways_here (open_of ways)) n ≡ (let a : Arrival = record { env = held_env only; next = n } in a)
alone_here ways rest here only entry n h k =
    ap (λ l. arrive_at entry (ways_here (open_of l)) n) h
    ∙ ap (λ l. arrive_at entry (ways_of l) n) k
    ∙ alone_arrives entry (held_env only) n

pub set_open : (ws : List (Vec Held Global)) (k : ℕ) (w x : Vec Held Global) (v : Env) → slice_get ws k ≡ Some x → ways_in w ≡ v ∷ ways_in x → open_of (slice_set ws k w) ≡ way_to k v (open_of ws)
set_open [] k w x v h e = let bad : None ≡ Some x = h in cc
set_open (y ∷ ws) zero w x v h e = let is : y ≡ x = cc in ap (λ l. l ∷ open_of ws) (e ∙ ap (λ z. v ∷ ways_in z) (sym is))
set_open (y ∷ ws) (suc k) w x v h e = ap (λ l. ways_in y ∷ l) (set_open ws k w x v h e)

same_walk : (entry : Env) (bs : List Block) (ways ways' : Ways) (n n' : ℕ) → ways' ≡ ways → n' ≡ n → walk entry bs ways' n' ≡ walk entry bs ways n
same_walk entry bs ways ways' n n' h k = rw (h, k) refl

-- the walk from a block on, after that block
walk_next : {A : Type 0} (f : A → Block) (entry : Env) (bs : List A) (i : ℕ) (b : A) (ways ways' : Ways) (n n' : ℕ) (w : Walked) → i < length bs → b ≡ get_or bs i b → w ≡ walked_at entry (f b) ways n → ways' ≡ ways_after entry (f b) ways n → n' ≡ (passed_at entry (f b) ways n).next → walk entry (map f (drop i bs)) ways n ≡ w ∷ walk entry (map f (drop (i + 1) bs)) ways' n'
walk_next f entry bs i b ways ways' n n' w h at is on next =
    ap (λ l. walk entry (map f l) ways n) (drop_item bs i b h at)
    ∙ ap (λ l. walked_at entry (f b) ways n ∷ l) (sym (same_walk entry (map f (drop (i + 1) bs)) _ ways' _ n' on next))
    ∙ ap (λ x. x ∷ walk entry (map f (drop (i + 1) bs)) ways' n') (sym is)

pub walk_step : {A B : Type 0} (f : A → Block) (g : B → Walked) (entry : Env) (bs : List A) (i : ℕ) (b : A) (ways ways' : Ways) (n n' : ℕ) (made new : List B) (w : B) (whole : List Walked) → i < length bs → b ≡ get_or bs i b → g w ≡ walked_at entry (f b) ways n → ways' ≡ ways_after entry (f b) ways n → n' ≡ (passed_at entry (f b) ways n).next → new ≡ made ++ w ∷ [] → map g made ++ walk entry (map f (drop i bs)) ways n ≡ whole → map g new ++ walk entry (map f (drop (i + 1) bs)) ways' n' ≡ whole
walk_step f g entry bs i b ways ways' n n' made new w whole h at is on next more known =
    let rest = walk entry (map f (drop (i + 1) bs)) ways' n' in
    ap (λ l. l ++ rest) (ap (map g) more ∙ map-append g made (w ∷ []))
    ∙ append_assoc (map g made) (g w ∷ []) rest
    ∙ ap (λ l. map g made ++ l) (sym (walk_next f entry bs i b ways ways' n n' (g w) h at is on next))
    ∙ known

pub firsts_step : {A B : Type 0} (f : A → Block) (g : B → Walked) (entry : Env) (bs : List A) (i : ℕ) (b : A) (ways ways' : Ways) (n n' : ℕ) (made new : List ℕ) (w : B) (whole : List ℕ) → i < length bs → b ≡ get_or bs i b → g w ≡ walked_at entry (f b) ways n → ways' ≡ ways_after entry (f b) ways n → n' ≡ (passed_at entry (f b) ways n).next → new ≡ made ++ first_in (g w) ∷ [] → made ++ map first_in (walk entry (map f (drop i bs)) ways n) ≡ whole → new ++ map first_in (walk entry (map f (drop (i + 1) bs)) ways' n') ≡ whole
firsts_step f g entry bs i b ways ways' n n' made new w whole h at is on next more known =
    let rest = map first_in (walk entry (map f (drop (i + 1) bs)) ways' n') in
    ap (λ l. l ++ rest) more
    ∙ append_assoc made (first_in (g w) ∷ []) rest
    ∙ ap (λ l. made ++ map first_in l) (sym (walk_next f entry bs i b ways ways' n n' (g w) h at is on next))
    ∙ known

pub walk_end : {A B : Type 0} (f : A → Block) (g : B → Walked) (entry : Env) (bs : List A) (ways : Ways) (n : ℕ) (made : List B) (whole : List Walked) → bs ≡ [] → map g made ++ walk entry (map f bs) ways n ≡ whole → map g made ≡ whole
walk_end f g entry bs ways n made whole h known =
    sym (append-nil (map g made)) ∙ ap (λ l. map g made ++ walk entry (map f l) ways n) (sym h) ∙ known

pub firsts_end : {A : Type 0} (f : A → Block) (entry : Env) (bs : List A) (ways : Ways) (n : ℕ) (made whole : List ℕ) → bs ≡ [] → made ++ map first_in (walk entry (map f bs) ways n) ≡ whole → made ≡ whole
firsts_end f entry bs ways n made whole h known =
    sym (append-nil made) ∙ ap (λ l. made ++ map first_in (walk entry (map f l) ways n)) (sym h) ∙ known

arrivals_in : (ws : List Arrived) → map arrival_in (map walked_of ws) ≡ map arrival_of ws
arrivals_in [] = refl
arrivals_in (w ∷ ws) = ap (λ l. arrival_of w ∷ l) (arrivals_in ws)

same_made : (a : PassiveBlock) (ks : List PassiveCmd) (es : List Edge) → a.cmds ≡ ks → a.next ≡ es → a ≡ (let b : PassiveBlock = record { cmds = ks; next = es } in b)
same_made a ks es h k = ap (λ l. (let b : PassiveBlock = record { cmds = l; next = a.next } in b)) h ∙ ap (λ l. (let b : PassiveBlock = record { cmds = ks; next = l } in b)) k

-- one more block is finished
pub finish_step : {A : Type 0} (f : A → Block) (bs : List A) (i : ℕ) (b : A) (ws rest : List Arrived) (w : Arrived) (made new : List code.PassiveBlock) (a : code.PassiveBlock) (whole : List PassiveBlock) → i < length bs → b ≡ get_or bs i b → ws ≡ w ∷ rest → new ≡ made ++ a ∷ [] → (passive_block_of a).cmds ≡ (walked_of w).cmds → (passive_block_of a).next ≡ edges (held_env w.end) (map arrival_of rest) (f b).exit → map passive_block_of made ++ finished (map walked_of ws) (map f (drop i bs)) ≡ whole → map passive_block_of new ++ finished (map walked_of rest) (map f (drop (i + 1) bs)) ≡ whole
finish_step f bs i b ws rest w made new a whole h at is more says ways known =
    let end = finished (map walked_of rest) (map f (drop (i + 1) bs)) in
    let made' = map passive_block_of made in
    ap (λ l. l ++ end) (ap (map passive_block_of) more ∙ map-append passive_block_of made (a ∷ []))
    ∙ append_assoc made' (passive_block_of a ∷ []) end
    ∙ ap (λ l. made' ++ l ∷ end) (same_made (passive_block_of a) _ _ says (ways ∙ ap (λ l. edges (held_env w.end) l (f b).exit) (sym (arrivals_in rest))))
    ∙ ap (λ l. made' ++ finished (map walked_of l) (map f (b ∷ drop (i + 1) bs))) (sym is)
    ∙ ap (λ l. made' ++ finished (map walked_of ws) (map f l)) (sym (drop_item bs i b h at))
    ∙ known

finished_none : (ws : List Walked) → finished ws [] ≡ []
finished_none [] = refl
finished_none (w ∷ ws) = refl

pub finish_end : {A : Type 0} (f : A → Block) (bs : List A) (ws : List Arrived) (made : List code.PassiveBlock) (whole : List PassiveBlock) → bs ≡ [] → map passive_block_of made ++ finished (map walked_of ws) (map f bs) ≡ whole → map passive_block_of made ≡ whole
finish_end f bs ws made whole h known =
    sym (append-nil (map passive_block_of made))
    ∙ ap (λ l. map passive_block_of made ++ l) (sym (finished_none (map walked_of ws)))
    ∙ ap (λ l. map passive_block_of made ++ finished (map walked_of ws) (map f l)) (sym h)
    ∙ known

pub finish_short : (bs : List Block) (ws : List Arrived) (made : List code.PassiveBlock) (whole : List PassiveBlock) → ws ≡ [] → map passive_block_of made ++ finished (map walked_of ws) bs ≡ whole → map passive_block_of made ≡ whole
finish_short bs ws made whole h known =
    sym (append-nil (map passive_block_of made)) ∙ ap (λ l. map passive_block_of made ++ finished (map walked_of l) bs) (sym h) ∙ known

-- the incarnations at one more arrival
pub arrive_step : {A : Type 0} (bs : List A) (i : ℕ) (b : A) (ws rest : List Arrived) (w : Arrived) (made new : List Incarnations) (a : Incarnations) (whole : List (List ℕ × List ℕ)) → i < length bs → b ≡ get_or bs i b → ws ≡ w ∷ rest → new ≡ made ++ a ∷ [] → incarnations_of a ≡ incarnations_at (arrival_of w) → map incarnations_of made ++ arrived_with (map walked_of ws) (drop i bs) ≡ whole → map incarnations_of new ++ arrived_with (map walked_of rest) (drop (i + 1) bs) ≡ whole
arrive_step bs i b ws rest w made new a whole h at is more same known =
    let end = arrived_with (map walked_of rest) (drop (i + 1) bs) in
    let made' = map incarnations_of made in
    ap (λ l. l ++ end) (ap (map incarnations_of) more ∙ map-append incarnations_of made (a ∷ []))
    ∙ append_assoc made' (incarnations_of a ∷ []) end
    ∙ ap (λ l. made' ++ l ∷ end) same
    ∙ ap (λ l. made' ++ arrived_with (map walked_of l) (b ∷ drop (i + 1) bs)) (sym is)
    ∙ ap (λ l. made' ++ arrived_with (map walked_of ws) l) (sym (drop_item bs i b h at))
    ∙ known

with_none : {A : Type 0} (bs : List A) (ws : List Walked) → bs ≡ [] → arrived_with ws bs ≡ []
with_none bs [] h = refl
with_none [] (w ∷ ws) h = refl
with_none (b ∷ bs) (w ∷ ws) h = absurd (let bad : ⊥ = cc in bad)

pub arrive_end : {A : Type 0} (bs : List A) (ws : List Arrived) (made : List Incarnations) (whole : List (List ℕ × List ℕ)) → bs ≡ [] → map incarnations_of made ++ arrived_with (map walked_of ws) bs ≡ whole → map incarnations_of made ≡ whole
arrive_end bs ws made whole h known =
    sym (append-nil (map incarnations_of made)) ∙ ap (λ l. map incarnations_of made ++ l) (sym (with_none bs (map walked_of ws) h)) ∙ known

-- a walk has an arrival for each block
with_each : {A : Type 0} (f : A → Block) (entry : Env) (bs : List A) (ways : Ways) (n : ℕ) → arrived_with (walk entry (map f bs) ways n) bs ≡ map incarnations_at (map arrival_in (walk entry (map f bs) ways n))
with_each f entry [] ways n = refl
with_each f entry (b ∷ bs) ways n =
    ap (λ l. incarnations_at (walked_at entry (f b) ways n).arrival ∷ l) (with_each f entry bs (ways_after entry (f b) ways n) (passed_at entry (f b) ways n).next)

pub whole_arrivals : {A : Type 0} (f : A → Block) (p : Prog) (ds : List Decl) (bs : List A) (entry : Env) (n : ℕ) (ws : List Walked) (old new : List Incarnations) → entry ≡ entry_env p ds → n ≡ length p.globals + length ds → ws ≡ walk entry (map f bs) [] n → map incarnations_of new ≡ map incarnations_of old ++ arrived_with ws bs → old ≡ [] → map incarnations_of new ≡ map incarnations_at (arrived p ds (map f bs)).arrivals
whole_arrivals f p ds bs entry n ws old new h k w m none =
    m
    ∙ ap (λ l. map incarnations_of l ++ arrived_with ws bs) none
    ∙ ap (λ l. arrived_with l bs) (w ∙ rw (h, k) refl)
    ∙ with_each f (entry_env p ds) bs [] (length p.globals + length ds)
    ∙ ap (map incarnations_at) (sym (arrivals_are p ds (map f bs) [] (length p.globals + length ds)))

-- the whole, where the entry has each variable's first incarnation
pub whole_blocks : (p : Prog) (ds : List Decl) (bs : List Block) (entry : Env) (n : ℕ) (ws : List Walked) (made : List PassiveBlock) → entry ≡ entry_env p ds → n ≡ length p.globals + length ds → ws ≡ walk entry bs [] n → made ≡ finished ws bs → made ≡ passives (arrived p ds bs).arrivals bs
whole_blocks p ds bs entry n ws made h k w m =
    m
    ∙ ap (λ l. finished l bs) (w ∙ rw (h, k) refl)
    ∙ passives_are (entry_env p ds) bs [] (length p.globals + length ds)
    ∙ ap (λ l. passives l bs) (sym (arrivals_are p ds bs [] (length p.globals + length ds)))

firsts_are : (ws : List Walked) → map first_in ws ≡ map next_in (map arrival_in ws)
firsts_are [] = refl
firsts_are (w ∷ ws) = ap (λ l. w.arrival.next ∷ l) (firsts_are ws)

pub whole_firsts : (p : Prog) (ds : List Decl) (bs : List Block) (entry : Env) (n : ℕ) (firsts : List ℕ) → entry ≡ entry_env p ds → n ≡ length p.globals + length ds → firsts ≡ map first_in (walk entry bs [] n) → firsts ≡ map next_in (arrived p ds bs).arrivals
whole_firsts p ds bs entry n firsts h k f =
    f
    ∙ rw (h, k) refl
    ∙ firsts_are (walk (entry_env p ds) bs [] (length p.globals + length ds))
    ∙ ap (map next_in) (sym (arrivals_are p ds bs [] (length p.globals + length ds)))

-- the entry, as the code makes it
pub entry_is : (p : Prog) (ds : List Decl) (g f m n : ℕ) (globals before frame : List ℕ) → length p.globals ≡ g → length ds ≡ f → before ≡ count_from 0 g → globals ≡ before → m ≡ 0 + g → frame ≡ count_from m f → (let v : Env = record { globals = globals; before = before; frame = frame } in v) ≡ entry_env p ds
entry_is p ds g f m n globals before frame h k b same e c =
    let z : m ≡ g = omega (arith, e) in
    rw (same, b, c, z, sym h, sym k) refl

pub after_step : {A : Type 0} (f : A → Block) (entry : Env) (bs : List A) (i : ℕ) (b : A) (ways ways' : Ways) (n n' : ℕ) (whole : ℕ) → i < length bs → b ≡ get_or bs i b → ways' ≡ ways_after entry (f b) ways n → n' ≡ (passed_at entry (f b) ways n).next → walk_after entry (map f (drop i bs)) ways n ≡ whole → walk_after entry (map f (drop (i + 1) bs)) ways' n' ≡ whole
after_step f entry bs i b ways ways' n n' whole h at on next known =
    ap (λ l. walk_after entry (map f (drop (i + 1) bs)) l n') on
    ∙ ap (walk_after entry (map f (drop (i + 1) bs)) (ways_after entry (f b) ways n)) next
    ∙ ap (λ l. walk_after entry (map f l) ways n) (sym (drop_item bs i b h at))
    ∙ known

pub after_end : {A : Type 0} (f : A → Block) (entry : Env) (bs : List A) (ways : Ways) (n whole : ℕ) → bs ≡ [] → walk_after entry (map f bs) ways n ≡ whole → n ≡ whole
after_end f entry bs ways n whole h known = ap (λ l. walk_after entry (map f l) ways n) (sym h) ∙ known

pub whole_count : (p : Prog) (ds : List Decl) (bs : List Block) (entry : Env) (n m k : ℕ) → entry ≡ entry_env p ds → n ≡ m → k ≡ walk_after entry bs [] n → k ≡ walk_after (entry_env p ds) bs [] m
whole_count p ds bs entry n m k h e f = f ∙ rw (h, e) refl

-- one more new incarnation
pub fresh_step : (made new : List ℕ) (j n k next next' : ℕ) (whole : List ℕ) → k < n → new ≡ made ++ j ∷ [] → j ≡ next → next' ≡ suc next → made ++ count_from next (n - k) ≡ whole → new ++ count_from next' (n - (k + 1)) ≡ whole
fresh_step made new j n k next next' whole h is e more known =
    rw (is, e, more) (append_assoc made (next ∷ []) (count_from (suc next) (n - (k + 1))) ∙ ap (λ l. made ++ l) (sym (count_step next n k h)) ∙ known)

pub item_at : {A : Type 0} (xs : List A) (i : ℕ) (x : A) → i < length xs → x ≡ get_or xs i x → slice_get xs i ≡ Some x
item_at [] i x h e = absurd (omega (arith, h))
item_at (y ∷ ys) zero x h e = ap (λ z. Some z) (sym e)
item_at (y ∷ ys) (suc i) x h e = item_at ys i x (omega (arith, h)) e

-- what is passed in a block
pub step_passed : (entry : Env) (b : Block) (ways : Ways) (n : ℕ) (ks : List Cmd) (c c' : List PassiveCmd) (u v v' : Env) (m n' : ℕ) → u ≡ (arrive_at entry (ways_here ways) n).env → v ≡ u → m ≡ (arrive_at entry (ways_here ways) n).next → ks ≡ b.cmds → c ≡ [] → (let s : Passed = record { cmds = c'; env = v'; next = n' } in s) ≡ onto (pass_all ks) (record { cmds = c; env = v; next = m }) → (let s : Passed = record { cmds = c'; env = v'; next = n' } in s) ≡ passed_at entry b ways n
step_passed entry b ways n ks c c' u v v' m n' h l k e none is = is ∙ rw (e, none, l, h, k) refl

same_arrived : (a : Arrival) (v : Env) (m : ℕ) → v ≡ a.env → m ≡ a.next → (let b : Arrival = record { env = v; next = m } in b) ≡ a
same_arrived a v m h k = rw (h, k) refl

same_walked : (a a' : Arrival) (c c' : List PassiveCmd) (v v' : Env) → a ≡ a' → c ≡ c' → v ≡ v' → (let w : Walked = record { arrival = a; cmds = c; end = v } in w) ≡ (let w : Walked = record { arrival = a'; cmds = c'; end = v' } in w)
same_walked a a' c c' v v' h k l = rw (h, k, l) refl

pub step_walked : (entry : Env) (b : Block) (ways : Ways) (n : ℕ) (c : List PassiveCmd) (u v : Env) (m n' : ℕ) → u ≡ (arrive_at entry (ways_here ways) n).env → m ≡ (arrive_at entry (ways_here ways) n).next → (let s : Passed = record { cmds = c; env = v; next = n' } in s) ≡ passed_at entry b ways n → (let w : Walked = record { arrival = record { env = u; next = m }; cmds = c; end = v } in w) ≡ walked_at entry b ways n
step_walked entry b ways n c u v m n' h k q =
    same_walked _ _ _ _ _ _ (same_arrived (arrive_at entry (ways_here ways) n) u m h k) (ap (λ d. d.cmds) q) (ap (λ d. d.env) q)

pub step_ways : (entry : Env) (b : Block) (ways on new : Ways) (n : ℕ) (c : List PassiveCmd) (v : Env) (n' : ℕ) → new ≡ ways_to (targets_of b.exit) v on → on ≡ ways_on ways → (let s : Passed = record { cmds = c; env = v; next = n' } in s) ≡ passed_at entry b ways n → new ≡ ways_after entry b ways n
step_ways entry b ways on new n c v n' h k q =
    h ∙ ap (λ l. ways_to (targets_of b.exit) v l) k ∙ ap (λ (d : Passed). ways_to (targets_of b.exit) d.env (ways_on ways)) q

pub from_none : (xs ys zs : List ℕ) → xs ≡ ys ++ zs → ys ≡ [] → xs ≡ zs
from_none xs ys zs h k = h ∙ rw k refl

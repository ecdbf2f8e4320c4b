-- Ways that meet: variable by variable, in any order of the ways.
use Rattle.std.proofs.Common.{◌≡◌, ◌+◌, ◌==◌, ℕ, zero, suc, Bool, true, false, ◌&&◌, if◌then◌else◌, List, [], ◌∷◌, ◌++◌, map, drop, reverse, refl, sym, ap, ◌∙◌, add-one, arith}
use Rattle.std.specs.Prelude.{slice_get}
use Rattle.std.proofs.lemmas.List.{map-append, reverse-append}
use mathlib.Core.List.{reverse-cons}
use Rattle.bg_passive.specs.Incarnations.{Env, Arrival}
use Rattle.bg_passive.specs.Arrivals.{all_begin, tails, merge, after_merge, globals_in, frames_in, arrive_at}
use Rattle.bg_incarnate.specs.declared.held.Held.{Held}
use Rattle.bg_incarnate.specs.declared.merge.Part.TheVariants as part
use Rattle.bg_incarnate.specs.Views.{held_env}
use Rattle.bg_incarnate.specs.Arrived.{ways_of, held_part, is_some, same_at, merge_from, after_from}

begin_one : (j : ℕ) (xs : List ℕ) (rest : List (List ℕ)) → all_begin j (xs ∷ rest) ≡ (is_some j (slice_get xs 0) && all_begin j rest)
begin_one j [] rest = refl
begin_one j (x ∷ xs) rest = refl

at_drop : (i : ℕ) (xs : List ℕ) → slice_get (drop i xs) 0 ≡ slice_get xs i
at_drop zero xs = refl
at_drop (suc i) [] = refl
at_drop (suc i) (x ∷ xs) = at_drop i xs

-- the incarnations at a place, as the first ones behind it
pub begin_at : (i j : ℕ) (os : List (List ℕ)) → all_begin j (map (drop i) os) ≡ same_at i j os
begin_at i j [] = refl
begin_at i j (o ∷ os) = begin_one j (drop i o) (map (drop i) os) ∙ rw (at_drop i o, begin_at i j os) refl

tails_one : (xs : List ℕ) (rest : List (List ℕ)) → tails (xs ∷ rest) ≡ drop 1 xs ∷ tails rest
tails_one [] rest = refl
tails_one (x ∷ xs) rest = refl

drop_more : (i : ℕ) (xs : List ℕ) → drop 1 (drop i xs) ≡ drop (suc i) xs
drop_more zero xs = refl
drop_more (suc i) [] = refl
drop_more (suc i) (x ∷ xs) = drop_more i xs

tails_at : (i : ℕ) (os : List (List ℕ)) → tails (map (drop i) os) ≡ map (drop (suc i)) os
tails_at i [] = refl
tails_at i (o ∷ os) = tails_one (drop i o) (map (drop i) os) ∙ rw (drop_more i o, tails_at i os) refl

tails_next : (i : ℕ) (os : List (List ℕ)) → tails (map (drop i) os) ≡ map (drop (i + 1)) os
tails_next i os = tails_at i os ∙ ap (λ n. map (drop n) os) (sym (add-one i))

one_merged : (b : Bool) (j n : ℕ) (f : ℕ → List ℕ) → (if b then j ∷ f n else n ∷ f (suc n)) ≡ (if b then j else n) ∷ f (if b then n else suc n)
one_merged true j n f = refl
one_merged false j n f = refl

one_after : (b : Bool) (n : ℕ) (f : ℕ → ℕ) → (if b then f n else f (suc n)) ≡ f (if b then n else suc n)
one_after true n f = refl
one_after false n f = refl

pub merge_is : (js : List ℕ) (n i : ℕ) (os : List (List ℕ)) → merge n js (map (drop i) os) ≡ merge_from n i js os
merge_is [] n i os = refl
merge_is (j ∷ js) n i os =
    let b = same_at i j os in
    rw (begin_at i j os, tails_next i os) (one_merged b j n (λ k. merge k js (map (drop (i + 1)) os)))
    ∙ ap (λ l. (if b then j else n) ∷ l) (merge_is js (if b then n else suc n) (i + 1) os)

pub after_is : (js : List ℕ) (n i : ℕ) (os : List (List ℕ)) → after_merge n js (map (drop i) os) ≡ after_from n i js os
after_is [] n i os = refl
after_is (j ∷ js) n i os =
    let b = same_at i j os in
    rw (begin_at i j os, tails_next i os) (one_after b n (λ k. after_merge k js (map (drop (i + 1)) os)))
    ∙ after_is js (if b then n else suc n) (i + 1) os

-- the order of the ways doesn't matter
and_assoc : (a b c : Bool) → ((a && b) && c) ≡ (a && (b && c))
and_assoc true b c = refl
and_assoc false b c = refl

and_turned : (a b : Bool) → (a && b) ≡ (b && a)
and_turned true true = refl
and_turned true false = refl
and_turned false true = refl
and_turned false false = refl

and_true : (a : Bool) → (a && true) ≡ a
and_true true = refl
and_true false = refl

same_append : (i j : ℕ) (xs ys : List (List ℕ)) → same_at i j (xs ++ ys) ≡ (same_at i j xs && same_at i j ys)
same_append i j [] ys = refl
same_append i j (x ∷ xs) ys = ap (λ b. is_some j (slice_get x i) && b) (same_append i j xs ys) ∙ sym (and_assoc (is_some j (slice_get x i)) (same_at i j xs) (same_at i j ys))

same_reversed : (i j : ℕ) (os : List (List ℕ)) → same_at i j (reverse os) ≡ same_at i j os
same_reversed i j [] = refl
same_reversed i j (o ∷ os) =
    ap (same_at i j) (reverse-cons o os)
    ∙ same_append i j (reverse os) (o ∷ [])
    ∙ ap (λ b. b && (is_some j (slice_get o i) && true)) (same_reversed i j os)
    ∙ ap (λ b. same_at i j os && b) (and_true (is_some j (slice_get o i)))
    ∙ and_turned (same_at i j os) (is_some j (slice_get o i))

merge_reversed : (js : List ℕ) (n i : ℕ) (os : List (List ℕ)) → merge_from n i js (reverse os) ≡ merge_from n i js os
merge_reversed [] n i os = refl
merge_reversed (j ∷ js) n i os =
    rw (same_reversed i j os) (ap (λ l. (if same_at i j os then j else n) ∷ l) (merge_reversed js (if same_at i j os then n else suc n) (i + 1) os))

after_reversed : (js : List ℕ) (n i : ℕ) (os : List (List ℕ)) → after_from n i js (reverse os) ≡ after_from n i js os
after_reversed [] n i os = refl
after_reversed (j ∷ js) n i os = rw (same_reversed i j os) (after_reversed js (if same_at i j os then n else suc n) (i + 1) os)

map_reversed : {A B : Type 0} (f : A → B) (xs : List A) → map f (reverse xs) ≡ reverse (map f xs)
map_reversed f [] = refl
map_reversed f (x ∷ xs) =
    ap (map f) (reverse-cons x xs)
    ∙ map-append f (reverse xs) (x ∷ [])
    ∙ ap (λ l. l ++ f x ∷ []) (map_reversed f xs)
    ∙ sym (reverse-cons (f x) (map f xs))

map_map : {A B C : Type 0} (f : B → C) (g : A → B) (xs : List A) → map f (map g xs) ≡ map (λ x. f (g x)) xs
map_map f g [] = refl
map_map f g (x ∷ xs) = ap (λ l. f (g x) ∷ l) (map_map f g xs)

drop_none : (os : List (List ℕ)) → map (drop 0) os ≡ os
drop_none [] = refl
drop_none (o ∷ os) = ap (λ l. o ∷ l) (drop_none os)

globals_are : (vs : List Env) → globals_in vs ≡ map (λ v. v.globals) vs
globals_are [] = refl
globals_are (v ∷ vs) = ap (λ l. v.globals ∷ l) (globals_are vs)

frames_are : (vs : List Env) → frames_in vs ≡ map (λ v. v.frame) vs
frames_are [] = refl
frames_are (v ∷ vs) = ap (λ l. v.frame ∷ l) (frames_are vs)

pub globals_of_ways : (hs : List Held) → globals_in (ways_of hs) ≡ reverse (map (held_part part.Globals) hs)
globals_of_ways hs = globals_are (ways_of hs) ∙ map_reversed (λ v. v.globals) (map held_env hs) ∙ ap reverse (map_map (λ v. v.globals) held_env hs)

pub frames_of_ways : (hs : List Held) → frames_in (ways_of hs) ≡ reverse (map (held_part part.Frame) hs)
frames_of_ways hs = frames_are (ways_of hs) ∙ map_reversed (λ v. v.frame) (map held_env hs) ∙ ap reverse (map_map (λ v. v.frame) held_env hs)

pub merge_met : (n : ℕ) (js : List ℕ) (os ps : List (List ℕ)) → os ≡ reverse ps → merge n js os ≡ merge_from n 0 js ps
merge_met n js os ps h = ap (merge n js) (h ∙ sym (drop_none (reverse ps))) ∙ merge_is js n 0 (reverse ps) ∙ merge_reversed js n 0 ps

pub after_met : (n : ℕ) (js : List ℕ) (os ps : List (List ℕ)) → os ≡ reverse ps → after_merge n js os ≡ after_from n 0 js ps
after_met n js os ps h = ap (after_merge n js) (h ∙ sym (drop_none (reverse ps))) ∙ after_is js n 0 (reverse ps) ∙ after_reversed js n 0 ps

-- the last way is the first one of the list
pub last_first : (hs front : List Held) (last : Held) → hs ≡ front ++ last ∷ [] → ways_of hs ≡ held_env last ∷ ways_of front
last_first hs front last h =
    ap ways_of h ∙ ap reverse (map-append held_env front (last ∷ [])) ∙ reverse-append (map held_env front) (held_env last ∷ [])

same_arrival : (g g' f f' b : List ℕ) (n n' : ℕ) → g ≡ g' → f ≡ f' → n ≡ n' → (let a : Arrival = record { env = record { globals = g; before = b; frame = f }; next = n } in a) ≡ (let a : Arrival = record { env = record { globals = g'; before = b; frame = f' }; next = n' } in a)
same_arrival g g' f f' b n n' h k l = rw (h, k, l) refl

-- one way alone is as it was
begins : (j : ℕ) (js : List ℕ) → all_begin j ((j ∷ js) ∷ []) ≡ true
begins j js = let e : (j == j) ≡ true = grind arith in rw e refl

alone_merged : (n : ℕ) (js : List ℕ) → merge n js (js ∷ []) ≡ js
alone_merged n [] = refl
alone_merged n (j ∷ js) = rw (begins j js) (ap (λ l. j ∷ l) (alone_merged n js))

alone_after : (n : ℕ) (js : List ℕ) → after_merge n js (js ∷ []) ≡ n
alone_after n [] = refl
alone_after n (j ∷ js) = rw (begins j js) (alone_after n js)

pub alone_arrives : (entry v : Env) (n : ℕ) → arrive_at entry (v ∷ []) n ≡ (let a : Arrival = record { env = v; next = n } in a)
alone_arrives entry v n =
    let m = after_merge n v.globals (v.globals ∷ []) in
    same_arrival _ v.globals _ v.frame v.before _ n (alone_merged n v.globals) (alone_merged m v.frame) (alone_after m v.frame ∙ alone_after n v.globals)

-- the arrival where ways meet, as the code makes it
abbrev pub met_at : Env → List (List ℕ) → List (List ℕ) → ℕ → Arrival
met_at v gs fs n =
    let n1 = after_from n 0 v.globals gs in
    record {
      env = record { globals = merge_from n 0 v.globals gs; before = v.before; frame = merge_from n1 0 v.frame fs };
      next = after_from n1 0 v.frame fs;
    }

meets : (v : Env) (vs : List Env) (gs fs : List (List ℕ)) (entry : Env) (n : ℕ) → globals_in (v ∷ vs) ≡ reverse gs → frames_in (v ∷ vs) ≡ reverse fs → arrive_at entry (v ∷ vs) n ≡ met_at v gs fs n
meets v vs gs fs entry n h k =
    let e = after_met n v.globals (globals_in (v ∷ vs)) gs h in
    same_arrival _ _ _ _ v.before _ _
    (merge_met n v.globals (globals_in (v ∷ vs)) gs h)
    (ap (λ m. merge m v.frame (frames_in (v ∷ vs))) e ∙ merge_met (after_from n 0 v.globals gs) v.frame (frames_in (v ∷ vs)) fs k)
    (ap (λ m. after_merge m v.frame (frames_in (v ∷ vs))) e ∙ after_met (after_from n 0 v.globals gs) v.frame (frames_in (v ∷ vs)) fs k)

pub arrive_met : (hs front : List Held) (last : Held) (entry : Env) (n : ℕ) → hs ≡ front ++ last ∷ [] → arrive_at entry (ways_of hs) n ≡ met_at (held_env last) (map (held_part part.Globals) hs) (map (held_part part.Frame) hs) n
arrive_met hs front last entry n h =
    let w = last_first hs front last h in
    ap (λ l. arrive_at entry l n) w
    ∙ meets (held_env last) (ways_of front) _ _ entry n (ap globals_in (sym w) ∙ globals_of_ways hs) (ap frames_in (sym w) ∙ frames_of_ways hs)

pub same_env : (g g' b f f' : List ℕ) → g ≡ g' → f ≡ f' → (let v : Env = record { globals = g; before = b; frame = f } in v) ≡ (let w : Env = record { globals = g'; before = b; frame = f' } in w)
same_env g g' b f f' h k = rw (h, k) refl

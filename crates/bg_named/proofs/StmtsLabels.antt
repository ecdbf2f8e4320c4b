-- Labels: those that stand in a list, and those that jumps name.
use Rattle.std.proofs.Common.{◌≡◌, ℕ, ◌+◌, Bool, true, false, List, [], ◌∷◌, ◌++◌, map, Option, Some, None, if◌then◌else◌, refl, sym, ap, ◌∙◌, inl, inr}
use Rattle.std.specs.Prelude.{◌≢◌, ◌||◌, ◌==◌, nat_eq, flat_map, All, Contains}
use Rattle.std.proofs.lemmas.Bool.{eqb-true, eq-eqb}
use Rattle.std.proofs.lemmas.List.Elements.{All-nil, All-cons}
use Rattle.bg_base.specs.declared.pos.Pos.{Pos}
use Rattle.bg_text.specs.Trees as t
use Rattle.bg_text.specs.Statements.{AreSts}
use Rattle.bg_ast.specs.Resolved as r
use Rattle.bg_ast.specs.Meaning.{sts_of, arms_of}
use Rattle.bg_names.specs.declared.error.FaultKind.TheVariants as kinds
use Rattle.bg_names.specs.Faults.{fault, unless}
use Rattle.bg_names.specs.Spaces.{place, or_zero, use_faults}
use Rattle.bg_names.specs.Inside.{Inside, has_number, block_of, entered}
use Rattle.bg_bodies.specs.Bodies.{has_label, jump_faults, label_number, labels_in, before_next, break_faults, break_as, break_word, named_sts, named_arms, st_count, arm_count, arms_count}
use Rattle.bg_sense.specs.Typed.{labels_of}
use Rattle.bg_sense.proofs.Members.{contained, member}
use Rattle.bg_named.proofs.ExprsBits.{never, split_nil, holds}
use Rattle.bg_named.proofs.StmtsMembers.{in_numbers}

-- a label that a jump names is one of those that it may name
jumps_to : (ks : List ℕ) (o : Option ℕ) → has_label ks o ≡ true → has_number ks (or_zero o) ≡ true
jumps_to ks None h = never h
jumps_to ks (Some k) h = h

pub allowed : (b : Inside) (ks : List ℕ) (x : t.Id) → jump_faults b ks x ≡ [] → has_number ks (label_number b x) ≡ true
allowed b ks x n =
    let parts = split_nil (use_faults b.labels x) (unless (has_label ks (place b.labels x.text)) (fault kinds.BadTarget x.pos x.text)) n in
    jumps_to ks (place b.labels x.text) (holds (has_label ks (place b.labels x.text)) (fault kinds.BadTarget x.pos x.text) parts.1)

pub all_allowed : (b : Inside) (ks : List ℕ) (xs : List t.Id) → flat_map (jump_faults b ks) xs ≡ [] → All (Contains ks) (map (label_number b) xs)
all_allowed b ks [] n = All-nil (Contains ks)
all_allowed b ks (x ∷ xs) n =
    let parts = split_nil (jump_faults b ks x) (flat_map (jump_faults b ks) xs) n in
    All-cons (Contains ks) (label_number b x) (map (label_number b) xs) (contained ks (label_number b x) (in_numbers ks (label_number b x) (allowed b ks x parts.0))) (all_allowed b ks xs parts.1)

-- what a `break` leaves is around it: the loop, where there is one, and the block of each label around
pub record AreAround (inside : List ℕ) (in_loop : Bool) (loop : ℕ) (around : List ℕ) (blocks : List (ℕ × ℕ)) : Type 0 where
  pub innermost : in_loop ≡ true → Contains inside loop
  pub labelled : (k : ℕ) → has_number around k ≡ true → Contains inside (block_of blocks k)

further : (xs : List ℕ) (x k : ℕ) → Contains xs k → Contains (x ∷ xs) k
further xs x k h = contained (x ∷ xs) k (inr (member xs k h))

pub one_more : (inside : List ℕ) (in_loop : Bool) (loop : ℕ) (around : List ℕ) (blocks : List (ℕ × ℕ)) (n : ℕ) → AreAround inside in_loop loop around blocks → AreAround (n ∷ inside) in_loop loop around blocks
one_more inside in_loop loop around blocks n h =
    record {
      innermost = λ e. further inside n loop (h.innermost e);
      labelled = λ k e. further inside n (block_of blocks k) (h.labelled k e);
    }

pub newest : (xs : List ℕ) (n : ℕ) → Contains (n ∷ xs) n
newest xs n = contained (n ∷ xs) n (inl refl)

enters : (before : List ℕ) (n : ℕ) (inside : List ℕ) (around : List ℕ) (blocks : List (ℕ × ℕ)) → ((k : ℕ) → has_number around k ≡ true → Contains inside (block_of blocks k)) → (k : ℕ) → has_number (before ++ around) k ≡ true → Contains (n ∷ inside) (block_of (entered before n blocks) k)
enters [] n inside around blocks f k h = further inside n (block_of blocks k) (f k h)
enters (l ∷ ls) n inside around blocks f k h =
    by (l == k) (nat_eq k l) refl refl h (enters ls n inside around blocks f k)
  where
    by : (a c : Bool) → (l == k) ≡ a → nat_eq k l ≡ c → (c || has_number (ls ++ around) k) ≡ true → (has_number (ls ++ around) k ≡ true → Contains (n ∷ inside) (block_of (entered ls n blocks) k)) → Contains (n ∷ inside) (if a then n else block_of (entered ls n blocks) k)
    by true c e d h rest = newest inside n
    by false true e d h rest =
        never (sym e ∙ eq-eqb l k (sym (eqb-true k l d)))
    by false false e d h rest = rest h

-- a block is entered that is no loop, or the loop stays the one around
pub block_entered : (inside : List ℕ) (in_loop : Bool) (loop : ℕ) (around before : List ℕ) (blocks : List (ℕ × ℕ)) (n : ℕ) → AreAround inside in_loop loop around blocks → AreAround (n ∷ inside) in_loop loop (before ++ around) (entered before n blocks)
block_entered inside in_loop loop around before blocks n h =
    record {
      innermost = λ e. further inside n loop (h.innermost e);
      labelled = enters before n inside around blocks h.labelled;
    }

pub loop_entered : (inside : List ℕ) (in_loop : Bool) (loop : ℕ) (around before : List ℕ) (blocks : List (ℕ × ℕ)) (n : ℕ) → AreAround inside in_loop loop around blocks → AreAround (n ∷ inside) true n (before ++ around) (entered before n blocks)
loop_entered inside in_loop loop around before blocks n h =
    record { innermost = λ e. newest inside n; labelled = enters before n inside around blocks h.labelled }

pub break_leaves : (b : Inside) (inside : List ℕ) (in_loop : Bool) (loop : ℕ) (around : List ℕ) (blocks : List (ℕ × ℕ)) (p : Pos) (x : Option t.Id) → AreAround inside in_loop loop around blocks → break_faults b in_loop around p x ≡ [] → Contains inside (break_as b loop blocks x)
break_leaves b inside in_loop loop around blocks p None h n = h.innermost (holds in_loop (fault kinds.BadTarget p break_word) n)
break_leaves b inside in_loop loop around blocks p (Some x) h n = h.labelled (label_number b x) (allowed b around x n)

-- a chain that has an arm has no label of its own
no_label : (b : Inside) (n loop : ℕ) (blocks : List (ℕ × ℕ)) (m : ℕ) (arms : t.Arms) (other : r.Sts) → arms ≢ t.NoArm → labels_of (arms_of m (named_arms b n loop blocks arms) (sts_of other)) ≡ []
no_label b n loop blocks m t.NoArm other h = absurd (h refl)
no_label b n loop blocks m (t.Arm g ss arms) other h = refl

one_empty : (b : Inside) (n loop : ℕ) (blocks : List (ℕ × ℕ)) (m : ℕ) (arms : t.Arms) → labels_of (arms_of m (named_arms b n loop blocks arms) (sts_of r.NoSt)) ≡ []
one_empty b n loop blocks m t.NoArm = refl
one_empty b n loop blocks m (t.Arm g ss arms) = refl

-- the labels that stand in a list stand in its meaning
pub labels_stand : (b : Inside) (n loop : ℕ) (blocks : List (ℕ × ℕ)) (before : List ℕ) (ss : t.Sts) → AreSts ss → labels_of (sts_of (named_sts b n loop blocks before ss)) ≡ labels_in b ss
labels_stand b n loop blocks before t.NoSt i = refl
labels_stand b n loop blocks before (t.Then (t.Label x) ss) i =
    ap (λ (ls : List ℕ). label_number b x ∷ ls) (labels_stand b (n + 0) loop blocks (before_next b before (t.Label x)) ss i.1)
labels_stand b n loop blocks before (t.Then (t.If p arms) ss) i =
    ap (λ (ls : List ℕ). ls ++ labels_of (sts_of (named_sts b (n + st_count (t.If p arms)) loop blocks [] ss))) (one_empty b (n + arm_count arms) loop (entered before n blocks) n arms)
    ∙ labels_stand b (n + st_count (t.If p arms)) loop blocks [] ss i.1
labels_stand b n loop blocks before (t.Then (t.IfElse p arms os) ss) i =
    ap (λ (ls : List ℕ). ls ++ labels_of (sts_of (named_sts b (n + st_count (t.IfElse p arms os)) loop blocks [] ss))) (no_label b (n + arm_count arms) loop (entered before n blocks) n arms (named_sts b (n + arm_count arms + arms_count arms) loop (entered before n blocks) [] os) i.0.0)
    ∙ labels_stand b (n + st_count (t.IfElse p arms os)) loop blocks [] ss i.1
labels_stand b n loop blocks before (t.Then (t.Assert k) ss) i = labels_stand b (n + 1) loop blocks [] ss i.1
labels_stand b n loop blocks before (t.Then (t.Assume k) ss) i = labels_stand b (n + 0) loop blocks [] ss i.1
labels_stand b n loop blocks before (t.Then (t.Havoc p xs) ss) i = labels_stand b (n + 0) loop blocks [] ss i.1
labels_stand b n loop blocks before (t.Then (t.Assign p ts es) ss) i = labels_stand b (n + 0) loop blocks [] ss i.1
labels_stand b n loop blocks before (t.Then (t.Invoke c) ss) i = labels_stand b (n + 1) loop blocks [] ss i.1
labels_stand b n loop blocks before (t.Then (t.While p g is os) ss) i =
    labels_stand b (n + st_count (t.While p g is os)) loop blocks [] ss i.1
labels_stand b n loop blocks before (t.Then (t.Break p x) ss) i = labels_stand b (n + 0) loop blocks [] ss i.1
labels_stand b n loop blocks before (t.Then (t.Goto p xs) ss) i = labels_stand b (n + 0) loop blocks [] ss i.1
labels_stand b n loop blocks before (t.Then (t.Return p) ss) i = labels_stand b (n + 0) loop blocks [] ss i.1

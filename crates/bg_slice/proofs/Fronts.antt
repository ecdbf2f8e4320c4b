-- The commands that count stand in front.
use Rattle.std.proofs.Common.{◌≡◌, ℕ, Bool, true, false, List, [], ◌∷◌, ◌++◌, length, refl, ap, sym, ◌∙◌, append_assoc}
use Rattle.std.specs.Prelude.{◌||◌, if◌then◌else◌, Option, None}
use Rattle.bg_ast.specs.Execution.{Spot}
use Rattle.bg_passive.specs.Passive.{spot_eq}
use Rattle.bg_formed.specs.Formed.{Says, FormCmd, Asks, Takes}
use Rattle.bg_formed.specs.Used.{Use, refusal_of, first_of, in_front, use_cmds}
use Rattle.bg_slice.specs.Slices.{ask_if, take_if, slice_cmds, names_cmd, names_cmds, guards_cmd, guards_cmds}
use Rattle.bg_slice.specs.Counting.{checks, silent, IsFront}
use Rattle.bg_slice.proofs.Onward.{use_append, cut_append}

-- ---- where something is reached behind commands all count

in_reached : (r : Says) (u : Use) → u.reached ≡ true → (in_front r u).reached ≡ true
in_reached r u h = on u.reached h
  where
    on : (z : Bool) → z ≡ true → (if z then record { reached = true; refusal = first_of (refusal_of r) u.refusal } else u).reached ≡ true
    on true e = refl
    on false e = absurd (let bad : ⊥ = cc in bad)

asks_reached : (z : Bool) (r : Says) (v : Use) → v.reached ≡ true → (if z then record { reached = true; refusal = first_of (refusal_of r) v.refusal } else in_front r v).reached ≡ true
asks_reached true r v h = refl
asks_reached false r v h = in_reached r v h

stays : (t : Spot) (ks : List FormCmd) (u : Use) → u.reached ≡ true → (use_cmds t ks u).reached ≡ true
stays t [] u h = h
stays t (Asks s b r ∷ ks) u h = asks_reached (spot_eq s t) r (use_cmds t ks u) (stays t ks u h)
stays t (Takes b r ∷ ks) u h = in_reached r (use_cmds t ks u) (stays t ks u h)

or_true : (a : Bool) → (a || true) ≡ true
or_true true = refl
or_true false = refl

pub all_count : (t : Spot) (ks : List FormCmd) (u : Use) → u.reached ≡ true → slice_cmds t ks u ≡ ks
all_count t [] u h = refl
all_count t (Asks s b r ∷ ks) u h =
    ap (λ z. ask_if (spot_eq s t || z) s b r ∷ slice_cmds t ks u) (stays t ks u h)
    ∙ (ap (λ z. ask_if z s b r ∷ slice_cmds t ks u) (or_true (spot_eq s t))
    ∙ ap (λ l. Asks s b r ∷ l) (all_count t ks u h))
all_count t (Takes b r ∷ ks) u h =
    ap (λ z. take_if z b r ∷ slice_cmds t ks u) (stays t ks u h) ∙ ap (λ l. Takes b r ∷ l) (all_count t ks u h)

-- ---- the last one that counts

one_reached : (t : Spot) (k : FormCmd) (u : Use) → checks t k ≡ true → (use_cmds t (k ∷ []) u).reached ≡ true
one_reached t (Asks s b r) u h = rw h refl
one_reached t (Takes b r) u h = absurd (let bad : ⊥ = cc in bad)

one_counts : (t : Spot) (k : FormCmd) (u : Use) → checks t k ≡ true → slice_cmds t (k ∷ []) u ≡ k ∷ []
one_counts t (Asks s b r) u h = rw h refl
one_counts t (Takes b r) u h = absurd (let bad : ⊥ = cc in bad)

pub up_to_check : (t : Spot) (ks : List FormCmd) (k : FormCmd) (u : Use) → checks t k ≡ true → slice_cmds t (ks ++ k ∷ []) u ≡ ks ++ k ∷ []
up_to_check t ks k u h =
    cut_append t ks k u
    ∙ (ap (λ l. l ++ slice_cmds t (k ∷ []) u) (all_count t ks (use_cmds t (k ∷ []) u) (one_reached t k u h))
    ∙ ap (λ l. ks ++ l) (one_counts t k u h))

-- ---- what doesn't count

-- what stands in front of something that isn't reached, and doesn't check the target, changes nothing
none_used : (t : Spot) (k : FormCmd) (u : Use) → u.reached ≡ false → checks t k ≡ false → use_cmds t (k ∷ []) u ≡ u
none_used t (Asks s b r) u h e = rw (e, h) refl
none_used t (Takes b r) u h e = rw h refl

none_counts : (t : Spot) (k : FormCmd) (u : Use) → u.reached ≡ false → checks t k ≡ false → slice_cmds t (k ∷ []) u ≡ silent (k ∷ [])
none_counts t (Asks s b r) u h e = rw (e, h) refl
none_counts t (Takes b r) u h e = rw h refl

pub behind_check : (t : Spot) (ks : List FormCmd) (k : FormCmd) (u : Use) → u.reached ≡ false → checks t k ≡ false → slice_cmds t (ks ++ k ∷ []) u ≡ slice_cmds t ks u ++ silent (k ∷ [])
behind_check t ks k u h e =
    cut_append t ks k u
    ∙ (ap (λ v. slice_cmds t ks v ++ slice_cmds t (k ∷ []) u) (none_used t k u h e)
    ∙ ap (λ l. slice_cmds t ks u ++ l) (none_counts t k u h e))

silent_names : (n : ℕ) (ks : List FormCmd) → names_cmds n (silent ks) ≡ false
silent_names n [] = refl
silent_names n (Asks s b r ∷ ks) = silent_names n ks
silent_names n (Takes b r ∷ ks) = silent_names n ks

silent_guards : (c : ℕ) (ks : List FormCmd) → guards_cmds c (silent ks) ≡ false
silent_guards c [] = refl
silent_guards c (Asks s b r ∷ ks) = silent_guards c ks
silent_guards c (Takes b r ∷ ks) = silent_guards c ks

names_front : (n : ℕ) (ks ms : List FormCmd) → names_cmds n (ks ++ silent ms) ≡ names_cmds n ks
names_front n [] ms = silent_names n ms
names_front n (k ∷ ks) ms = ap (λ z. names_cmd n k || z) (names_front n ks ms)

guards_front : (c : ℕ) (ks ms : List FormCmd) → guards_cmds c (ks ++ silent ms) ≡ guards_cmds c ks
guards_front c [] ms = silent_guards c ms
guards_front c (k ∷ ks) ms = ap (λ z. guards_cmd c k || z) (guards_front c ks ms)

-- what is left names what those name that count
pub front_names : (t : Spot) (ks : List FormCmd) (u : Use) (front : List FormCmd) → IsFront t ks u front → ◌≡◌ {A = ℕ → Bool} (λ n. names_cmds n front) (λ n. names_cmds n (slice_cmds t ks u))
front_names t ks u front is = λ i n. sym (ap (names_cmds n) is.cut ∙ names_front n front is.behind) i

pub front_guards : (t : Spot) (ks : List FormCmd) (u : Use) (front : List FormCmd) → IsFront t ks u front → ◌≡◌ {A = ℕ → Bool} (λ c. guards_cmds c front) (λ c. guards_cmds c (slice_cmds t ks u))
front_guards t ks u front is = λ i c. sym (ap (guards_cmds c) is.cut ∙ guards_front c front is.behind) i

-- ---- how it is found

-- of commands these are left, and none behind them counts
pub record IsLeft (t : Spot) (ks : List FormCmd) (u : Use) (left : List FormCmd) : Type 0 where
  pub behind : List FormCmd
  pub is : ks ≡ left ++ behind
  pub cut : slice_cmds t ks u ≡ slice_cmds t left u ++ silent behind

nil : (ks : List FormCmd) → ks ≡ ks ++ []
nil [] = refl
nil (k ∷ ks) = ap (λ l. k ∷ l) (nil ks)

pub begun : (t : Spot) (ks : List FormCmd) (u : Use) → IsLeft t ks u ks
begun t ks u = record { behind = []; is = nil ks; cut = nil (slice_cmds t ks u) }

silent_one : (k : FormCmd) (ks : List FormCmd) → silent (k ∷ []) ++ silent ks ≡ silent (k ∷ ks)
silent_one (Asks s b r) ks = refl
silent_one (Takes b r) ks = refl

pub goes_on : (t : Spot) (ks : List FormCmd) (u : Use) (before : List FormCmd) (k : FormCmd) → u.reached ≡ false → checks t k ≡ false → IsLeft t ks u (before ++ k ∷ []) → IsLeft t ks u before
goes_on t ks u before k h e l =
    record {
      behind = k ∷ l.behind;
      is = l.is ∙ append_assoc before (k ∷ []) l.behind;
      cut = l.cut ∙ (ap (λ x. x ++ silent l.behind) (behind_check t before k u h e) ∙ (append_assoc (slice_cmds t before u) (silent (k ∷ [])) (silent l.behind) ∙ ap (λ x. slice_cmds t before u ++ x) (silent_one k l.behind)));
    }

pub found : (t : Spot) (ks : List FormCmd) (u : Use) (before : List FormCmd) (k : FormCmd) → checks t k ≡ true → IsLeft t ks u (before ++ k ∷ []) → IsFront t ks u (before ++ k ∷ [])
found t ks u before k e l =
    record { behind = l.behind; is = l.is; cut = l.cut ∙ ap (λ x. x ++ silent l.behind) (up_to_check t before k u e) }

pub found_none : (t : Spot) (ks : List FormCmd) (u : Use) → IsLeft t ks u [] → IsFront t ks u []
found_none t ks u l = record { behind = l.behind; is = l.is; cut = l.cut }

pub found_all : (t : Spot) (ks : List FormCmd) (u : Use) → u.reached ≡ true → IsFront t ks u ks
found_all t ks u h = record { behind = []; is = nil ks; cut = all_count t ks u h ∙ nil ks }

pub empty : {A : Type 0} (xs : List A) → length xs ≡ 0 → xs ≡ []
empty [] e = refl
empty (x ∷ xs) e = absurd (let bad : ⊥ = cc in bad)

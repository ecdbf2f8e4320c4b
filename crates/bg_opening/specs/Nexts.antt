-- Codes of types; and for each unique constant, the next whose type has the same code.
use Rattle.std.specs.Prelude.{◌≡◌, ◌≢◌, ◌<◌, ℕ, ◌+◌, ◌-◌, ◌*◌, ◌%◌, ◌^◌, ◌==◌, if◌then◌else◌, List, [], ◌∷◌, Option, length, get_or, map}
use Rattle.std.specs.Ordering.{nat_cmp}
use Rattle.std.specs.BTreeMap.{get}
use Rattle.bg_ast.specs.Values.{KeyType, IntKey, UserKey, Ty, IntTy, BoolTy, UserTy, MapTy}
use Rattle.bg_kinds.specs.Views.{ref_in}
use Rattle.bg_opening.specs.declared.nexts.Later as code
use Rattle.bg_opening.specs.declared.uniques.Unique.{Unique}

-- a code with a number more
abbrev pub mixed : ℕ → ℕ → ℕ
mixed h n = (h * 6364136223846793005 % 2 ^ 64 + n) % 2 ^ 64

abbrev pub key_code : ℕ → KeyType → ℕ
key_code h IntKey = mixed h 0
key_code h (UserKey k) = mixed (mixed h 1) k

abbrev pub keys_code : ℕ → List KeyType → ℕ
keys_code h [] = mixed h 2
keys_code h (k ∷ ks) = keys_code (key_code h k) ks

-- the code of a type: one and the same for the same type, and seldom for others
abbrev pub type_code : ℕ → Ty → ℕ
type_code h IntTy = mixed h 3
type_code h BoolTy = mixed h 4
type_code h (UserTy k) = mixed (mixed h 5) k
type_code h (MapTy ks t) = type_code (keys_code h ks) t

abbrev pub code_of : Unique → ℕ
code_of u = type_code 0 (ref_in u.kind)

-- what is kept at each code
abbrev pub Kept : Type 0
Kept = ℕ → Option ℕ

abbrev pub kept : code.Later → Kept
kept m k = get nat_cmp m.at k

abbrev pub set_to : ℕ → Option ℕ → Kept → Kept
set_to k o m j = if k == j then o else m j

-- the next place with the same code, or one behind all
pub record IsNext (cs : List ℕ) (p m : ℕ) : Type 0 where
  pub later : p < m
  pub between : (j : ℕ) → p < j → j < m → j < length cs → get_or cs j 0 ≢ get_or cs p 0
  pub same : m < length cs → get_or cs m 0 ≡ get_or cs p 0

-- that of each place, from the last place on
pub record AreNexts (cs nexts : List ℕ) : Type 0 where
  pub all : length nexts ≡ length cs
  pub each : (p : ℕ) → p < length nexts → IsNext cs p (get_or nexts ((length nexts - 1) - p) 0)

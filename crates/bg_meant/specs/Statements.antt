-- What names mean in statements, one rule for each form.
use Rattle.std.specs.Prelude.{◌≡◌, ◌≤◌, ℕ, ◌+◌, List, [], ◌∷◌, ◌++◌, map, length, Option, Some, None, Contains}
use Rattle.bg_base.specs.declared.pos.Pos.{Pos}
use Rattle.bg_text.specs.Trees as t
use Rattle.bg_ast.specs.Syntax as s
use Rattle.bg_ast.specs.Resolved as r
use Rattle.bg_names.specs.declared.scope.Meaning.{Meaning}
use Rattle.bg_names.specs.declared.scope.Meaning.TheVariants as means
use Rattle.bg_names.specs.Spaces.{Scope, meaning, place}
use Rattle.bg_names.specs.Clauses.{guard_of, guarding, says_of}
use Rattle.bg_names.specs.Inside.{Inside, block_of, entered}
use Rattle.bg_bodies.specs.Bodies.{target_name, changes_at, label_number, labels_in, before_next, arm_count, st_count, sts_count, arms_count}
use Rattle.bg_spaces.specs.Declarations.{text_of}
use Rattle.bg_meant.specs.Means.{Means, MeanAll}
use Rattle.bg_meant.specs.Once.{Match, AreOnce}

-- a clause says what stands behind its candidate, where it has one
pub record MeansClause (g : Scope) (n : ℕ) (k : t.Clause) (c : r.Clause) : Type 0 where
  pub pos : c.pos ≡ k.pos
  pub id : c.id ≡ n
  pub is_free : c.is_free ≡ k.is_free
  pub candidate : c.candidate ≡ guarding (guard_of g k)
  pub says : Means g (says_of g k) c.says

-- clauses with numbers from n on
abbrev pub MeanClauses : Scope → ℕ → List t.Clause → List r.Clause → Type 0
MeanClauses g n [] [] = Unit {0}
MeanClauses g n (k ∷ ks) (c ∷ cs) = MeansClause g n k c × MeanClauses g (n + 1) ks cs
MeanClauses g n _ _ = ⊥

-- a variable that the body may change: no parameter, and a global only where the procedure modifies it
abbrev pub MayChange : Inside → Meaning → s.Var → Type 0
MayChange b (means.Local k) v = (b.inputs ≤ k) × (v ≡ s.Local k)
MayChange b (means.Global k) v = Contains b.modifies k × (v ≡ s.Global k)
MayChange b _ v = ⊥

abbrev pub MeansChanged : Inside → t.Id → r.Placed → Type 0
MeansChanged b x y = (y.pos ≡ x.pos) × MayChange b (meaning b.scope x.text) y.variable

abbrev pub MeansIndex : Inside → Pos × t.Exs → Pos × r.Exs → Type 0
MeansIndex b i j = (j.0 ≡ i.0) × MeanAll b.scope i.1 j.1

-- the left side of an assignment
pub record MeansTarget (b : Inside) (x : t.Target) (y : r.Target) : Type 0 where
  pub changed : MeansChanged b x.name y.placed
  pub brackets : Match (MeansIndex b) x.brackets y.brackets

-- a call: all that the procedure modifies the caller's procedure modifies too
pub record MeansCall (b : Inside) (n : ℕ) (k : t.Call) (c : r.Call) : Type 0 where
  pub pos : c.pos ≡ k.pos
  pub site : c.site ≡ n
  pub name_pos : c.name_pos ≡ k.procedure.pos
  pub procedure : place b.procedures k.procedure.text ≡ Some c.procedure
  pub modifies : (j : ℕ) → Contains (changes_at b.changes (Some c.procedure)) j → Contains b.modifies j
  pub args : MeanAll b.scope k.args c.args
  pub once : AreOnce (map text_of k.takes)
  pub takes : Match (MeansChanged b) k.takes c.takes

abbrev pub MeansGuard : Inside → t.Guard → r.Guard → Type 0
MeansGuard b (t.Star p) h = h ≡ r.Star
MeansGuard b (t.Test a) h = (x : r.Ex) × Means b.scope a x × (h ≡ r.Test x)

-- a label that a jump names is one of these
abbrev pub JumpsTo : Inside → List ℕ → t.Id → ℕ → Type 0
JumpsTo b allowed x k = (place b.labels x.text ≡ Some k) × Contains allowed k

abbrev pub label_in : ℕ × ℕ → ℕ
label_in x = x.0

-- `break` leaves the loop around it; with a label the innermost block around it that has the label
abbrev pub Breaks : Inside → (loop : Option ℕ) → (blocks : List (ℕ × ℕ)) → Option t.Id → ℕ → Type 0
Breaks b loop blocks None n = loop ≡ Some n
Breaks b loop blocks (Some x) n = (k : ℕ) × JumpsTo b (map label_in blocks) x k × (n ≡ block_of blocks k)

abbrev mutual
  -- a statement, before these labels of lists around it, inside this loop and blocks with these labels, directly behind these
  -- labels; its own numbers begin with n
  pub MeansSt : Inside → (ahead : List ℕ) → (loop : Option ℕ) → (blocks : List (ℕ × ℕ)) → (before : List ℕ) → (n : ℕ) → t.St → r.St → Type 0
  MeansSt b ahead loop blocks before n (t.Label x) e = e ≡ r.Label (label_number b x)
  MeansSt b ahead loop blocks before n (t.Assert k) e = (c : r.Clause) × MeansClause b.scope n k c × (e ≡ r.Assert c)
  MeansSt b ahead loop blocks before n (t.Assume k) e = (x : r.Ex) × Means b.scope k.says x × (e ≡ r.Assume x)
  MeansSt b ahead loop blocks before n (t.Havoc p xs) e = (ys : List r.Placed) × Match (MeansChanged b) xs ys × (e ≡ r.Havoc ys)
  MeansSt b ahead loop blocks before n (t.Assign p ts es) e =
      (us : List r.Target)
      × ((xs : r.Exs)
      × AreOnce (map text_of (map target_name ts))
      × Match (MeansTarget b) ts us
      × MeanAll b.scope es xs
      × (e ≡ r.Assign p us xs))
  MeansSt b ahead loop blocks before n (t.Invoke k) e = (c : r.Call) × MeansCall b n k c × (e ≡ r.Invoke c)
  MeansSt b ahead loop blocks before n (t.If p arms) e =
      (as_ : r.Arms) × MeanArms b ahead loop (entered before n blocks) (n + arm_count arms) arms as_ × (e ≡ r.If n as_ r.NoSt)
  MeansSt b ahead loop blocks before n (t.IfElse p arms ss) e =
      (as_ : r.Arms)
      × ((us : r.Sts)
      × MeanArms b ahead loop (entered before n blocks) (n + arm_count arms) arms as_
      × MeanSts b ahead loop (entered before n blocks) [] (n + arm_count arms + arms_count arms) ss us
      × (e ≡ r.If n as_ us))
  MeansSt b ahead loop blocks before n (t.While p g is ss) e =
      (h : r.Guard)
      × ((cs : List r.Clause)
      × ((us : r.Sts)
      × MeansGuard b g h
      × MeanClauses b.scope (n + 1) is cs
      × MeanSts b ahead (Some n) (entered before n blocks) [] (n + 1 + length is) ss us
      × (e ≡ r.While n p h cs us)))
  MeansSt b ahead loop blocks before n (t.Break p x) e = (k : ℕ) × Breaks b loop blocks x k × (e ≡ r.Break k)
  MeansSt b ahead loop blocks before n (t.Goto p xs) e = (ks : List ℕ) × Match (JumpsTo b ahead) xs ks × (e ≡ r.Goto ks)
  MeansSt b ahead loop blocks before n (t.Return p) e = e ≡ r.Return

  -- behind each statement the labels of the list that follow are ahead
  pub MeanSts : Inside → (ahead : List ℕ) → (loop : Option ℕ) → (blocks : List (ℕ × ℕ)) → (before : List ℕ) → (n : ℕ) → t.Sts → r.Sts → Type 0
  MeanSts b ahead loop blocks before n t.NoSt es = es ≡ r.NoSt
  MeanSts b ahead loop blocks before n (t.Then a ss) es =
      (x : r.St)
      × ((xs : r.Sts)
      × MeansSt b (labels_in b ss ++ ahead) loop blocks before n a x
      × MeanSts b ahead loop blocks (before_next b before a) (n + st_count a) ss xs
      × (es ≡ r.Then x xs))

  pub MeanArms : Inside → (ahead : List ℕ) → (loop : Option ℕ) → (blocks : List (ℕ × ℕ)) → (n : ℕ) → t.Arms → r.Arms → Type 0
  MeanArms b ahead loop blocks n t.NoArm es = es ≡ r.NoArm
  MeanArms b ahead loop blocks n (t.Arm g ss arms) es =
      (h : r.Guard)
      × ((xs : r.Sts)
      × ((as_ : r.Arms)
      × MeansGuard b g h
      × MeanSts b ahead loop blocks [] n ss xs
      × MeanArms b ahead loop blocks (n + sts_count ss) arms as_
      × (es ≡ r.Arm h xs as_)))

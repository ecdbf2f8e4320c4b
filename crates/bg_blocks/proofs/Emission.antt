-- How the blocks of a body are made of those of its parts.
use Rattle.std.proofs.Common.{◌≡◌, Bool, false, List, [], ◌∷◌, ◌++◌, length, Some, unwrap_or, refl, sym, ap, ◌∙◌, append_assoc, append-nil}
use Rattle.bg_ast.specs.Syntax.{Guard}
use Rattle.bg_sense.specs.Flow.{Point}
use Rattle.bg_flow.specs.Core.{Cmd, Core, Nil, Seq, Mark, Do, To, Choose, Loop, Head}
use Rattle.bg_flow.specs.Blocks.{Leap, Coded, to_points, closed, skipped, decided, arrived, code}
use Rattle.bg_blocks.specs.Marks.{key, undone}
use Rattle.bg_blocks.specs.Decided.{skip_block, branch_block, turn_block, head_block}
use Rattle.bg_blocks.specs.Emitted.{State, where_in, coded, pushed, performed, marked_at, with_marks_of, Emits}
use Rattle.bg_blocks.proofs.Where.{coded_marked, mark_undone, undone_append}

pub emits_nil : (s : State) → Emits Nil s s
emits_nil s = record { built = refl; extra = []; kept = sym (append-nil s.undo); undoes = refl }

pub emits_do : (ks : List Cmd) (s : State) → Emits (Do ks) s (performed ks s)
emits_do ks s = record { built = refl; extra = []; kept = sym (append-nil s.undo); undoes = refl }

pub emits_to : (ps : List Point) (s : State) → Emits (To ps) s (pushed (record { cmds = []; exit = Leap (to_points (where_in s) ps) }) s)
emits_to ps s = record { built = refl; extra = []; kept = sym (append-nil s.undo); undoes = refl }

pub emits_mark : (p : Point) (s : State) → Emits (Mark p) s (marked_at p s)
emits_mark p s =
    record {
      built = coded_marked p s;
      extra = (key p, s.marks (key p)) ∷ [];
      kept = refl;
      undoes = mark_undone (key p) (Some (length s.blocks)) s.marks;
    }

pub emits_seq : (a b : Core) (s0 s1 s2 : State) → Emits b s0 s1 → Emits a s1 s2 → Emits (Seq a b) s0 s2
emits_seq a b s0 s1 s2 x y =
    record {
      built = y.built ∙ ap (code a) x.built;
      extra = x.extra ++ y.extra;
      kept = y.kept ∙ (ap (λ l. l ++ y.extra) x.kept ∙ append_assoc s0.undo x.extra y.extra);
      undoes = undone_append x.extra y.extra s2.marks ∙ (ap (undone x.extra) y.undoes ∙ x.undoes);
    }

-- jumps lead there already
closed_there : (s : State) → s.takes_in ≡ false → coded s ≡ closed (coded s)
closed_there s h = ap (λ (o : Bool). record { blocks = s.blocks; from_end = λ p. unwrap_or (s.marks (key p)) 1; takes_in = o }) h

-- a branch: the other side, a block that skips it, this side, and the block that decides
pub emits_choose : (g : Guard) (a b : Core) (s0 s1 s4 : State) → s0.takes_in ≡ false → Emits b s0 s1 →
    Emits a (pushed (skip_block s0 s1) (with_marks_of s0 s1)) s4 →
    Emits (Choose g a b) s0 (pushed (branch_block g s1 s4) (with_marks_of s0 s4))
emits_choose g a b s0 s1 s4 h x y =
    let off : coded s1 ≡ code b (closed (coded s0)) = x.built ∙ ap (code b) (closed_there s0 h) in
    record {
      built =
          ap (decided (coded s0) g (coded s1)) y.built
          ∙ ap (λ (u : Coded). decided (coded s0) g u (code a (skipped (coded s0) u))) off;
      extra = [];
      kept = sym (append-nil s0.undo);
      undoes = refl;
    }

-- a loop: the end of a turn, the body, and the head
pub emits_loop : (h : Head) (g : Guard) (a : Core) (s0 s2 : State) →
    Emits a (pushed (turn_block h) s0) s2 →
    Emits (Loop h g a) s0 (pushed (head_block g h s0 s2) (with_marks_of s0 s2))
emits_loop h g a s0 s2 y =
    record {
      built = ap (arrived (coded s0) h g) y.built;
      extra = [];
      kept = sym (append-nil s0.undo);
      undoes = refl;
    }

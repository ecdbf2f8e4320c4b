use Rattle.std.proofs.Common.{◌≡◌, ℕ, true, false, ◌==◌, List, [], length, map, Bor, sym, ap, subst, ◌∙◌, arith}
use denote.Enum.Bare.{same_false}
use Rattle.bg_certtext.specs.contracts.draft.Stage.{the_type}
use Rattle.bg_certtext.specs.declared.draft.Stage.TheVariants as at
use Rattle.bg_certtext.specs.Words.{words_of}
use Rattle.bg_certtext.specs.Machine.{Answers, draft_of, is_other_version}
use Rattle.bg_certtext.proofs.Runs.{stands_more}
use Rattle.bg_certtext.proofs.Ends.{refused, taken, stops_at_line, not_other_at_line, is_next, stops_at_end, not_other_at_end, fewer}
use Rattle.bg_certtext.proofs.reader.read_lines.Goals as goal
use Rattle.bg_certtext.proofs.reader.read_lines.Goals.{then-number-eq1+then-is_other_version, else-number-eq1, else-number-eq1-via-then-number-eq1+else-is_other_version, else-number-eq1-via-else-number-eq1}
use Rattle.bg_certtext.proofs.reader.read_lines.Goals.{else-is_empty-via-then-is_empty+else-eq, else-is_empty-via-else-is_empty}

pub returns-then-not-branch : goal.returns-then-not-branch
returns-then-not-branch c =
    let bytes = c.args.bytes.now in
    let rest = c.loop-line.rest.now in
    let l = c.in-Some.line.now in
    let behind = c.in-Some.behind.now in
    let n = c.loop-line.number in
    let d = draft_of c.loop-line.draft in
    let stands = c.loop-line.invariant.stands in
    let cut = c.in-Some.ensures.cut in
    let inside = c.in-Some.ensures.line in
    let split : map (λ w. w.now) c.split.new.words.items ≡ words_of l = c.in_ok-split.ensures in
    let words = ap (map (λ (w : Bor (List ℕ)). w.now)) c.deref.ensures.value ∙ split in
    let no_more = refused (map (λ w. w.now) c.deref.result.now) l d (draft_of c.take_line.new.draft) c.in_ok-take_line.field-0 words c.in_ok-take_line.ensures.made c.if-not-branch.true in
    elim c.if-number-eq1.branch [
      | then-number-eq1+then-is_other_version w ↦
          let other = sym (ap is_other_version (ap (map (λ (x : Bor (List ℕ)). x.now)) w.deref-then-number-eq1.ensures.value ∙ split)) ∙ sym w.is_other_version.ensures ∙ w.if-is_other_version.true in
          subst (Answers bytes) (sym w.result-is) (l, is_next bytes rest l behind n d stands cut inside w.if-number-eq1.true, other)
      | else-number-eq1 w ↦ elim w.else-number-eq1.branch [
        | else-number-eq1-via-then-number-eq1+else-is_other_version v ↦
            let this = sym (ap is_other_version (ap (map (λ (x : Bor (List ℕ)). x.now)) v.deref-then-number-eq1.ensures.value ∙ split)) ∙ sym v.is_other_version.ensures ∙ v.if-is_other_version.false in
            subst (Answers bytes) (sym w.result-is) (stops_at_line bytes rest l behind n d stands cut inside no_more, not_other_at_line bytes rest l behind n d stands cut inside (λ e. this))
        | else-number-eq1-via-else-number-eq1 v ↦
            subst (Answers bytes) (sym w.result-is) (stops_at_line bytes rest l behind n d stands cut inside no_more, not_other_at_line bytes rest l behind n d stands cut inside (λ e. absurd (omega (arith, v.if-number-eq1.false))))
      ]
    ]

pub loop-line-preserved : goal.loop-line-preserved
loop-line-preserved c =
    let l = c.in-Some.line.now in
    let d = draft_of c.loop-line.draft in
    let e = draft_of c.take_line.new.draft in
    let split : map (λ w. w.now) c.split.new.words.items ≡ words_of l = c.in_ok-split.ensures in
    let words = ap (map (λ (w : Bor (List ℕ)). w.now)) c.deref.ensures.value ∙ split in
    let more = taken (map (λ w. w.now) c.deref.result.now) l d e c.in_ok-take_line.field-0 words c.in_ok-take_line.ensures.made c.if-not-branch.false in
    record {
      stands = stands_more c.args.bytes.now c.loop-line.rest.now l c.in-Some.behind.now c.loop-line.number d e c.loop-line.invariant.stands c.in-Some.ensures.cut more;
      room = c.in_ok-take_line.ensures.room;
      line = omega (arith, fewer c.loop-line.rest.now l c.in-Some.behind.now c.in-Some.ensures.cut);
    }

pub returns : goal.returns
returns c =
    let bytes = c.args.bytes.now in
    let rest = c.loop-line.rest.now in
    let n = c.loop-line.number in
    let d = draft_of c.loop-line.draft in
    let stands = c.loop-line.invariant.stands in
    let inside = c.in_default.ensures.none in
    let short : rest ≡ [] → d.stage ≡ at.End → ⊥ = elim c.else-is_empty.branch [
      | else-is_empty-via-then-is_empty+else-eq w ↦ λ r s. same_false the_type c.loop-line.draft.stage at.End (sym w.eq.ensures ∙ w.if-eq.false) s
      | else-is_empty-via-else-is_empty w ↦ λ r s.
          let none : (length rest == 0) ≡ true = ap (λ (bs : List ℕ). length bs == 0) r in
          let t : true ≡ false = sym none ∙ sym c.is_empty.ensures ∙ w.if-is_empty.false in
          absurd (cc)
    ] in
    (stops_at_end bytes rest n d stands inside short, not_other_at_end bytes rest n d stands inside)

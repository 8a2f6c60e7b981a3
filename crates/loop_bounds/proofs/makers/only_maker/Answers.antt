use Rattle.std.proofs.Common.{◌≡◌, ◌<◌, ◌≤◌, ◌∙◌, ⊎_elim, refl, sym, ap, arith, Some, None, true, false}
use Rattle.std.proofs.lemmas.Bool.{cases_lt, lt-ltb, le-ltb}
use Rattle.loop_bounds.specs.Tables.{sole_maker, the_one}
use Rattle.weak_lock_facts.specs.Loops.{is_entered_at}
use Rattle.loop_bounds.proofs.Soles.{only_none, only_past, only_before}
use Rattle.loop_bounds.proofs.makers.only_maker.Goals.{else-counted-maker-via-then-counted-maker+then-maker-before+else-is_entered_at, else-counted-maker-via-then-counted-maker+else-maker-before, else-counted-maker-via-else-counted-maker}
use Rattle.loop_bounds.proofs.makers.only_maker.Goals as goal

pub returns-in_err-maker-clause-maker : goal.returns-in_err-maker-clause-maker
returns-in_err-maker-clause-maker c =
    let is = c.args.instrs.now in
    let sole : sole_maker is c.args.register ≡ None = ap the_one (sym (c.requires.makers c.args.register)) ∙ sym c.sole_maker.ensures ∙ c.in_err-maker.was in
    c.from_residual.ensures ∙ sym (only_none is c.args.counted.now c.args.before c.args.register sole)

pub returns-then-is_entered_at-clause-maker : goal.returns-then-is_entered_at-clause-maker
returns-then-is_entered_at-clause-maker c =
    let is = c.args.instrs.now in
    let q = c.in_ok-maker.maker in
    let sole : sole_maker is c.args.register ≡ Some q = ap the_one (sym (c.requires.makers c.args.register)) ∙ sym c.sole_maker.ensures ∙ c.in_ok-maker.was in
    sym (only_before is c.args.counted.now c.args.before c.args.register q true true sole (omega (arith, c.requires.before)) (omega arith) (lt-ltb c.args.counted.now.at q (omega arith)) (sym c.is_entered_at.ensures ∙ c.if-is_entered_at.true))

pub returns-else-counted-maker-clause-maker : goal.returns-else-counted-maker-clause-maker
returns-else-counted-maker-clause-maker c =
    let is = c.args.instrs.now in
    let l = c.args.counted.now in
    let q = c.in_ok-maker.maker in
    let sole : sole_maker is c.args.register ≡ Some q = ap the_one (sym (c.requires.makers c.args.register)) ∙ sym c.sole_maker.ensures ∙ c.in_ok-maker.was in
    elim c.else-counted-maker.branch [
      | else-counted-maker-via-then-counted-maker+then-maker-before+else-is_entered_at w ↦ sym (only_before is l c.args.before c.args.register q true false sole (omega (arith, c.requires.before)) (omega (arith, w.if-maker-before.true)) (lt-ltb l.at q (omega (arith, w.if-counted-maker.true))) (sym w.is_entered_at.ensures ∙ w.if-is_entered_at.false))
      | else-counted-maker-via-then-counted-maker+else-maker-before w ↦ sym (only_past is l c.args.before c.args.register q sole (omega (arith, c.requires.before)) (omega (arith, w.if-maker-before.false)))
      | else-counted-maker-via-else-counted-maker w ↦ ⊎_elim
          (λ (lt : q < c.args.before). sym (only_before is l c.args.before c.args.register q false (is_entered_at is q c.args.before) sole (omega (arith, c.requires.before)) lt (le-ltb l.at q (omega (arith, w.if-counted-maker.false))) refl))
          (λ (le : c.args.before ≤ q). sym (only_past is l c.args.before c.args.register q sole (omega (arith, c.requires.before)) le))
          (cases_lt q c.args.before)
    ]

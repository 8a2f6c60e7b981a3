use Rattle.std.proofs.Common.{◌≡◌, true, sym, subst, ◌∙◌}
use Rattle.flow_code.specs.Valid.{is_valid}
use Rattle.weak_valid.proofs.Valid.{weakened_valid}
use Rattle.weaken.proofs.Chosen.{weakened_same}
use Rattle.weaken.proofs.Nexts.{ok_map}
use Rattle.weaken.proofs.weakening.weaken.Goals as goal

pub returns-clause-valid : goal.returns-clause-valid
returns-clause-valid c ss profile plain apart answers = ok_map c.weaken_at.result _ _
    (λ weak e. subst (λ z. is_valid z ≡ true) (sym (e ∙ weakened_same c.args.code.now c.args.points.now _ _ _ _ _ _ c.as_slice-2.ensures c.as_slice-4.ensures c.as_slice-5.ensures))
    (weakened_valid c.args.code.now c.args.points.now ss c.args.pairs.now c.args.ranges.now profile c.args.grains.now.rows c.requires.valid plain apart answers))
    c.weaken_at.ensures

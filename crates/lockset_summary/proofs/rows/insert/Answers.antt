use Rattle.std.proofs.Common.{◌≡◌, subst, sym, List, Some, true}
use Rattle.std.specs.Prelude.{slice_get}
use Rattle.facts.specs.declared.locks.Guarded.{Guarded}
use Rattle.facts.specs.Summaries.{guarded_ascend}
use Rattle.lockset_summary.specs.Guarding.{IsPlace}
use Rattle.lockset_summary.proofs.Insertion.{stays_put}
use Rattle.lockset_summary.proofs.rows.insert.Goals as goal

pub place_of-requires : goal.place_of-requires
place_of-requires c = subst (λ (z : List Guarded). guarded_ascend z ≡ true) (sym c.as_slice.ensures) c.requires

pub returns-in-Ok : goal.returns-in-Ok
returns-in-Ok c = stays_put c.args.row.now c.args.access c.in-Ok.field-0 c.requires (subst (λ (z : List Guarded). slice_get z c.in-Ok.field-0 ≡ Some c.args.access) c.as_slice.ensures c.in-Ok.ensures)

pub insert_at-requires : goal.insert_at-requires
insert_at-requires c = record {
  ascends = c.requires;
  place = subst (λ (z : List Guarded). IsPlace z c.args.access c.in-Err.place) c.as_slice.ensures c.in-Err.ensures;
}

pub returns-in-Err : goal.returns-in-Err
returns-in-Err c = c.insert_at.ensures

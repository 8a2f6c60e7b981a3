use Rattle.std.proofs.Common.{◌≡◌, Some, slice_get, subst, sym, ◌∙◌, ap, suc, drop, vec_len, arith}
use Rattle.std.specs.Vec.Iter.{into_iter_items}
use Rattle.crew.proofs.Zips.{drop_next}
use Rattle.crew.proofs.table.lay_out.Goals as goal

pub new-requires : goal.new-requires
new-requires g c =
    let jobs = c.args.jobs.items in let n = vec_len c.loop-job.parcels in let job = c.in-Some.job in
    let next = drop_next jobs n job (into_iter_items c.next.new.self) (sym c.loop-job.invariant.2 ∙ c.in-Some.ensures.steps.0) in
    subst (λ xs. slice_get xs c.len-in-loop-job.result ≡ Some job) c.requires (subst (λ k. slice_get jobs k ≡ Some job) (sym c.len-in-loop-job.ensures) next.0)

pub loop-job-preserved : goal.loop-job-preserved
loop-job-preserved g c =
    let jobs = c.args.jobs.items in let n = vec_len c.loop-job.parcels in
    let next = drop_next jobs n c.in-Some.job (into_iter_items c.next.new.self) (sym c.loop-job.invariant.2 ∙ c.in-Some.ensures.steps.0) in
    let grown = c.in_ok-push.ensures.len in
    let long : suc n ≡ vec_len c.push.new.self = omega arith in
    (tt, tt, next.1 ∙ ap (λ k. drop k jobs) long)

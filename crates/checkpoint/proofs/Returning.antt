-- What going on from a snapshot comes to, by how far the walk of the rest has gone.
use Rattle.std.proofs.Common.{◌≡◌, ℕ, ◌+◌, ◌-◌, ◌≤◌, inl, true, false, List, length, take, drop, ap, subst, arith, length-drop}
use Rattle.std.proofs.lemmas.List.{take_all}
use Rattle.sync_objects.specs.Setup.{SetupView}
use Rattle.sync_objects.specs.declared.entry.Entry.{Entry}
use Rattle.flow_code.specs.declared.code.Code.{Code}
use Rattle.thread_interpreter.specs.declared.access.Access.{Access}
use Rattle.thread_interpreter.specs.Flows.{Running}
use Rattle.core_run.specs.Shown.{all_ended, ShownAs}
use Rattle.core_run.specs.declared.outcome.Walk.{Walk}
use Rattle.core_run.specs.declared.outcome.Walk.TheVariants as walk
use Rattle.snapshots.specs.Snapshots.{resumed_state}
use Rattle.snapshots.specs.declared.snapshot.Snapshot.{Snapshot}
use Rattle.checkpoint.specs.Going.{standing, WentIs}
use Rattle.checkpoint.specs.Resuming.{ResumedIs, rest_of}
use Rattle.checkpoint.specs.declared.outcome.Resumed.TheVariants as resumed
use Rattle.checkpoint.specs.declared.outcome.Went.{Went}
use Rattle.checkpoint.specs.declared.outcome.Went.TheVariants as went
use Rattle.checkpoint.proofs.Finishing.{not_ended, has_ended}

module _ (code : Code) (s : SetupView) (x : Snapshot) (es : List Entry) (last : ℕ) (flows0 : List Running) (words0 : List ℕ) (start : standing flows0 words0 ≡ resumed_state code s x) (all : last ≡ length es) (flows : List Running) (words : List ℕ) (reads : List (List Access)) (out : List ℕ) where
  -- how far it has gone, said of the snapshot and of the entries after it
  went_on : (w : Went) → WentIs code s (standing flows0 words0) x.at (drop x.at (take last es)) flows words reads out w → WentIs code s (resumed_state code s x) x.at (rest_of code s x es) flows words reads out w
  went_on w h =
      let same : drop x.at (take last es) ≡ drop x.at es = ap (drop x.at) (take_all last es (omega (arith, all))) in
      subst (λ z. WentIs code s z x.at (rest_of code s x es) flows words reads out w) start (subst (λ z. WentIs code s (standing flows0 words0) x.at z flows words reads out w) same h)

  pub refused_on : (at : ℕ) → WentIs code s (standing flows0 words0) x.at (drop x.at (take last es)) flows words reads out (went.Refused at) → ResumedIs code s x es (resumed.Walked (walk.Wrong at))
  refused_on at h = let g = went_on (went.Refused at) h in ((g.0, g.1, inl g.2), g.3)

  pub outside_on : (at t : ℕ) → WentIs code s (standing flows0 words0) x.at (drop x.at (take last es)) flows words reads out (went.Outside at t) → ResumedIs code s x es (resumed.BadCell t)
  outside_on at t h = let g = went_on (went.Outside at t) h in g.3

  pub open_on : x.at ≤ length es → WentIs code s (standing flows0 words0) x.at (drop x.at (take last es)) flows words reads out went.On → all_ended flows ≡ false → ResumedIs code s x es (resumed.Walked (walk.Wrong last))
  open_on within h e = let g = went_on went.On h in (not_ended code s (resumed_state code s x) x.at (rest_of code s x es) flows words reads out g last (omega (arith, within, all, length-drop x.at es)) e, g.within)

  pub ended_on : WentIs code s (standing flows0 words0) x.at (drop x.at (take last es)) flows words reads out went.On → all_ended flows ≡ true → (w : Walk) → ShownAs flows reads out w → ResumedIs code s x es (resumed.Walked w)
  ended_on h e w q = let g = went_on went.On h in (has_ended code s (resumed_state code s x) x.at (rest_of code s x es) flows words reads out g e w q, g.within)

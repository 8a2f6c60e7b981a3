use Rattle.std.proofs.Common.{subst, List, ℕ, Vec, Global, Result, Ok, Err}
use Rattle.std.specs.Prelude.{IfOk}
use Rattle.points_to.specs.Ascending.{AreSound}
use Rattle.points_to.proofs.Lists.{required, sound_after, in_after, from_after, same_after, falls_after}
use Rattle.points_to.proofs.ascending.Rows.add.Goals as goal

items : Vec ℕ Global → List ℕ
items v = v.items

if_ok : {A E : Type 0} (r : Result A E) (P Q : A → Type 0) → ((a : A) → P a → Q a) → IfOk r P → IfOk r Q
if_ok (Ok a) P Q f h = f a h
if_ok (Err e) P Q f h = h

pub insert_sorted-requires : goal.insert_sorted-requires
insert_sorted-requires c = let s : AreSound c.args.self.now = subst AreSound c.self.view_is c.self.invariant in required (Vec ℕ Global) (λ v. v.items) c.self.inside.rows.items c.args.self.now c.args.n c.args.p c.index_mut.result.now c.index_mut.result.now c.self.view_is c.requires c.index_mut.ensures.value (s.ascend c.args.n)

pub invariant_of-self : goal.invariant_of-self
invariant_of-self c = let s : AreSound c.args.self.now = subst AreSound c.self.view_is c.self.invariant in sound_after (Vec ℕ Global) (λ v. v.items) c.self.inside.rows.items c.args.self.now c.args.n c.args.p c.index_mut.result.now c.insert_sorted.new.row c.self.view_is c.requires c.index_mut.ensures.value s c.insert_sorted.ensures.ascends c.insert_sorted.ensures.small

pub returns-clause-in_it : goal.returns-clause-in_it
returns-clause-in_it c = if_ok c.insert_sorted.result _ _ (λ a h. in_after (Vec ℕ Global) (λ v. v.items) c.self.inside.rows.items c.args.self.now c.args.n c.args.p c.index_mut.result.now c.insert_sorted.new.row c.self.view_is c.requires c.index_mut.ensures.value h) c.insert_sorted.ensures.in_it

pub returns-clause-from : goal.returns-clause-from
returns-clause-from c = from_after (Vec ℕ Global) (λ v. v.items) c.self.inside.rows.items c.args.self.now c.args.n c.args.p c.index_mut.result.now c.insert_sorted.new.row c.self.view_is c.requires c.index_mut.ensures.value c.insert_sorted.ensures.from

pub returns-clause-same : goal.returns-clause-same
returns-clause-same c = if_ok c.insert_sorted.result _ _ (λ a h e. same_after (Vec ℕ Global) (λ v. v.items) c.self.inside.rows.items c.args.self.now c.args.n c.args.p c.index_mut.result.now c.insert_sorted.new.row c.self.view_is c.requires c.index_mut.ensures.value (h e)) c.insert_sorted.ensures.same

pub returns-clause-falls : goal.returns-clause-falls
returns-clause-falls c = if_ok c.insert_sorted.result _ _ (λ a h e. falls_after (Vec ℕ Global) (λ v. v.items) c.self.inside.rows.items c.args.self.now c.args.n c.args.p c.index_mut.result.now c.insert_sorted.new.row c.self.view_is c.requires c.index_mut.ensures.value (h e) c.insert_sorted.ensures.small) c.insert_sorted.ensures.longer

pub returns-clause-ascend : goal.returns-clause-ascend
returns-clause-ascend c =
    let s : AreSound c.args.self.now = subst AreSound c.self.view_is c.self.invariant in
    let t = sound_after (Vec ℕ Global) (λ v. v.items) c.self.inside.rows.items c.args.self.now c.args.n c.args.p c.index_mut.result.now c.insert_sorted.new.row c.self.view_is c.requires c.index_mut.ensures.value s c.insert_sorted.ensures.ascends c.insert_sorted.ensures.small in
    t.ascend

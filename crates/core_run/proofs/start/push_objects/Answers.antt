use Rattle.std.proofs.Common.{◌≡◌, ◌++◌, ◌∷◌, []}
use Rattle.sync_objects.specs.Start.{start_word}
use Rattle.sync_objects.specs.declared.object.ObjId.TheVariants as object
use Rattle.core_run.proofs.Starting.{objects_in}
use Rattle.core_run.proofs.start.push_objects.Goals as goal

pub returns : goal.returns
returns c =
    let e2 : c.push.new.self.items ≡ c.push_zeros.new.words.items ++ start_word (object.Slot 0) ∷ [] = cc (c.in_ok-push.ensures.items, c.start_word.ensures.word) in
    let e4 : c.push-2.new.self.items ≡ c.push_zeros-2.new.words.items ++ start_word object.Threads ∷ [] = cc (c.in_ok-push-2.ensures.items, c.start_word-2.ensures.word) in
    let e5 : c.push-3.new.self.items ≡ c.push-2.new.self.items ++ start_word object.Halt ∷ [] = cc (c.in_ok-push-3.ensures.items, c.start_word-3.ensures.word) in
    let e6 : c.push-4.new.self.items ≡ c.push-3.new.self.items ++ start_word object.Input ∷ [] = cc (c.in_ok-push-4.ensures.items, c.start_word-4.ensures.word) in
    let e7 : c.push-5.new.self.items ≡ c.push-4.new.self.items ++ start_word object.Output ∷ [] = cc (c.in_ok-push-5.ensures.items, c.start_word-5.ensures.word) in
    objects_in c.args.cells c.args.locks c.args.words.now.items c.push_zeros.new.words.items c.push.new.self.items c.push_zeros-2.new.words.items c.push-2.new.self.items c.push-3.new.self.items c.push-4.new.self.items c.push-5.new.self.items c.push_stripes.new.words.items c.in_ok-push_zeros.ensures e2 c.in_ok-push_zeros-2.ensures e4 e5 e6 e7 c.in_ok-push_stripes.ensures

use Rattle.std.proofs.Common.{◌≡◌, ◌≢◌, ◌∙◌, inl, inr, ap, sym, subst, refl, arith, rules, to_z, of_z}
use Rattle.std.proofs.lemmas.Int.{to_z-of_z}
use mir.Syntax.{w64}
use mathlib.Core.Option.{none}
use Rattle.sync_objects.specs.Advance.{advanced, Advances}
use Rattle.core_run.specs.Words.{cells_of, place_of}
use Rattle.shared_cells.specs.Words.{objects_end}
use Rattle.shared_cells.specs.Views.{looked, missed}
use Rattle.shared_cells.specs.Plays.{IsSpotOf, LooksAt, Makes}
use Rattle.shared_cells.specs.Seats.{is_asked}
use Rattle.shared_cells.proofs.Keeping.{length-first_words}
use Rattle.shared_cells.proofs.Calls.{called, place_is, object_is, on_table, at_spot_of, sits_as}
use Rattle.shared_cells.proofs.Allowed.{look_allowed, object_place}
use Rattle.shared_cells.proofs.Attempts.{looking, object_spot, exchanges}
use Rattle.shared_cells.proofs.cells.Cells.attempt_at.Goals as goal

pub spot-place-requires : goal.spot-place-requires
spot-place-requires c =
    let shared = c.self.inside.table.shared in
    let seat = c.args.seat.now in
    let me = seat.seat.me in
    let v = me.0 in
    let k = called _ shared.key shared.table_id _ _ _ _ _ seat.seat.table_id me seat.thread c.self.view_is c.self.invariant.0 c.requires.seat in
    let b = c.args.self.now in
    let p = c.place_of.result in
    let place : place_of (cells_of v.code v.setup) c.args.obj ≡ p = place_is _ shared.key shared.table_id _ _ _ _ _ seat.seat.table_id me seat.thread c.self.view_is c.self.invariant.0 c.requires.seat c.args.obj p c.place_of.ensures in
    let high = (object_place v.code v.setup c.args.obj k.limits (object_is _ shared.key shared.table_id seat.seat.table_id me k c.args.obj c.requires.object)).1 in
    let words = length-first_words b.code b.setup in
    let same : objects_end v.code v.setup ≡ objects_end b.code b.setup = ap (λ z. objects_end z v.setup) k.code_is ∙ ap (objects_end b.code) k.setup_is in
    omega (arith, place, high, words, same)

pub load-seen-requires : goal.load-seen-requires
load-seen-requires c =
    let shared = c.self.inside.table.shared in
    let seat = c.args.seat.now in
    let me = seat.seat.me in
    let v = me.0 in
    let p = c.place_of.result in
    let q = c.spot-place.result in
    let spot = object_spot _ shared.key shared.table_id _ _ _ _ _ seat.seat.table_id me seat.thread c.self.view_is c.self.invariant.0 c.requires.seat c.args.obj c.requires.object p c.place_of.ensures q c.spot-place.ensures in
    let k = called _ shared.key shared.table_id _ _ _ _ _ seat.seat.table_id me seat.thread c.self.view_is c.self.invariant.0 c.requires.seat in (
      k.table_is,
      on_table _ shared.key shared.table_id seat.seat.table_id me k shared.table_id.slots seat.seat.id p q spot,
      at_spot_of _ shared.key shared.table_id seat.seat.table_id me k shared.table_id.slots seat.seat.id p q spot 0 0 none (λ w. w) LooksAt
          (look_allowed v me.1 shared.table_id.slots seat.seat.id k.alone k.runnable k.limits p),
    )

pub advance-requires-clause-range : goal.advance-requires-clause-range
advance-requires-clause-range c =
    let shared = c.self.inside.table.shared in
    let seat = c.args.seat.now in
    let me = seat.seat.me in
    let v = me.0 in
    let p = c.place_of.result in
    let q = c.spot-place.result in
    let spot = object_spot _ shared.key shared.table_id _ _ _ _ _ seat.seat.table_id me seat.thread c.self.view_is c.self.invariant.0 c.requires.seat c.args.obj c.requires.object p c.place_of.ensures q c.spot-place.ensures in
    let w = c.load-seen.result in
    let looks = c.load-seen.ensures.2 p spot in
    let look = looking _ shared.key shared.table_id _ _ _ _ _ seat.seat.table_id me seat.thread c.self.view_is c.self.invariant.0 c.requires.seat seat.marks c.args.op c.args.obj c.requires.object c.requires.due p c.place_of.ensures w c.load-seen.new.seat.me looks in
    look.makeable.range

pub advance-requires-clause-number : goal.advance-requires-clause-number
advance-requires-clause-number c =
    let shared = c.self.inside.table.shared in
    let seat = c.args.seat.now in
    let me = seat.seat.me in
    let v = me.0 in
    let p = c.place_of.result in
    let q = c.spot-place.result in
    let spot = object_spot _ shared.key shared.table_id _ _ _ _ _ seat.seat.table_id me seat.thread c.self.view_is c.self.invariant.0 c.requires.seat c.args.obj c.requires.object p c.place_of.ensures q c.spot-place.ensures in
    let w = c.load-seen.result in
    let looks = c.load-seen.ensures.2 p spot in
    let look = looking _ shared.key shared.table_id _ _ _ _ _ seat.seat.table_id me seat.thread c.self.view_is c.self.invariant.0 c.requires.seat seat.marks c.args.op c.args.obj c.requires.object c.requires.due p c.place_of.ensures w c.load-seen.new.seat.me looks in
    look.ask.number

pub advance-requires-clause-sound : goal.advance-requires-clause-sound
advance-requires-clause-sound c =
    let shared = c.self.inside.table.shared in
    let seat = c.args.seat.now in
    let me = seat.seat.me in
    let v = me.0 in
    let p = c.place_of.result in
    let q = c.spot-place.result in
    let spot = object_spot _ shared.key shared.table_id _ _ _ _ _ seat.seat.table_id me seat.thread c.self.view_is c.self.invariant.0 c.requires.seat c.args.obj c.requires.object p c.place_of.ensures q c.spot-place.ensures in
    let w = c.load-seen.result in
    let looks = c.load-seen.ensures.2 p spot in
    let look = looking _ shared.key shared.table_id _ _ _ _ _ seat.seat.table_id me seat.thread c.self.view_is c.self.invariant.0 c.requires.seat seat.marks c.args.op c.args.obj c.requires.object c.requires.due p c.place_of.ensures w c.load-seen.new.seat.me looks in
    look.ask.sound

pub returns-then-not-is_asked-clause-is : goal.returns-then-not-is_asked-clause-is
returns-then-not-is_asked-clause-is c =
    let shared = c.self.inside.table.shared in
    let seat = c.args.seat.now in
    let me = seat.seat.me in
    let v = me.0 in
    let p = c.place_of.result in
    let q = c.spot-place.result in
    let spot = object_spot _ shared.key shared.table_id _ _ _ _ _ seat.seat.table_id me seat.thread c.self.view_is c.self.invariant.0 c.requires.seat c.args.obj c.requires.object p c.place_of.ensures q c.spot-place.ensures in
    let w = c.load-seen.result in
    let looks = c.load-seen.ensures.2 p spot in
    let look = looking _ shared.key shared.table_id _ _ _ _ _ seat.seat.table_id me seat.thread c.self.view_is c.self.invariant.0 c.requires.seat seat.marks c.args.op c.args.obj c.requires.object c.requires.due p c.place_of.ensures w c.load-seen.new.seat.me looks in
    inl record {
      refused = inr (ap (is_asked c.args.at) (sym c.number_of-number.ensures) ∙ sym c.is_asked.ensures ∙ c.if-not-is_asked.true);
      found = look.found;
      later = look.later;
      view = looks.view ∙ ap (λ z. looked v z w) (sym look.place_is);
      marks = refl;
    }

pub returns-in_default-clause-is : goal.returns-in_default-clause-is
returns-in_default-clause-is c =
    let shared = c.self.inside.table.shared in
    let seat = c.args.seat.now in
    let me = seat.seat.me in
    let v = me.0 in
    let p = c.place_of.result in
    let q = c.spot-place.result in
    let spot = object_spot _ shared.key shared.table_id _ _ _ _ _ seat.seat.table_id me seat.thread c.self.view_is c.self.invariant.0 c.requires.seat c.args.obj c.requires.object p c.place_of.ensures q c.spot-place.ensures in
    let w = c.load-seen.result in
    let looks = c.load-seen.ensures.2 p spot in
    let look = looking _ shared.key shared.table_id _ _ _ _ _ seat.seat.table_id me seat.thread c.self.view_is c.self.invariant.0 c.requires.seat seat.marks c.args.op c.args.obj c.requires.object c.requires.due p c.place_of.ensures w c.load-seen.new.seat.me looks in
    inl record {
      refused = inl (ap (λ t. advanced c.args.op t w) c.requires.seat.thread_is ∙ c.in_default.ensures.table);
      found = look.found;
      later = look.later;
      view = looks.view ∙ ap (λ z. looked v z w) (sym look.place_is);
      marks = refl;
    }

pub compare_exchange_with-found-requires : goal.compare_exchange_with-found-requires
compare_exchange_with-found-requires c =
    let shared = c.self.inside.table.shared in
    let seat = c.args.seat.now in
    let me = seat.seat.me in
    let v = me.0 in
    let p = c.place_of.result in
    let q = c.spot-place.result in
    let spot = object_spot _ shared.key shared.table_id _ _ _ _ _ seat.seat.table_id me seat.thread c.self.view_is c.self.invariant.0 c.requires.seat c.args.obj c.requires.object p c.place_of.ensures q c.spot-place.ensures in
    let w = c.load-seen.result in
    let looks = c.load-seen.ensures.2 p spot in
    let look = looking _ shared.key shared.table_id _ _ _ _ _ seat.seat.table_id me seat.thread c.self.view_is c.self.invariant.0 c.requires.seat seat.marks c.args.op c.args.obj c.requires.object c.requires.due p c.place_of.ensures w c.load-seen.new.seat.me looks in
    let k = called _ shared.key shared.table_id _ _ _ _ _ seat.seat.table_id me seat.thread c.self.view_is c.self.invariant.0 c.requires.seat in
    let answer = to_z w64 (of_z w64 c.in-Some.answer) in
    let same : answer ≡ c.in-Some.answer = to_z-of_z w64 c.in-Some.answer (search rules) in
    let moves : advanced c.args.op v.from w ≡ Advances c.in-Some.next answer = ap (λ t. advanced c.args.op t w) c.requires.seat.thread_is ∙ c.in-Some.ensures.table ∙ ap (Advances c.in-Some.next) (sym same) in (
      c.load-seen.ensures.0 ∙ k.table_is,
      on_table _ shared.key shared.table_id seat.seat.table_id me k shared.table_id.slots seat.seat.id p q spot,
      exchanges _ shared.key shared.table_id seat.seat.table_id me k (record { op = c.args.op; obj = c.args.obj; marks = seat.marks; answer = answer }) p q w c.in-Some.next spot c.requires.due look moves shared.table_id.slots c.load-seen.new.seat.id c.load-seen.new.seat.me looks.slots looks.view,
    )

pub returns-then-found-seen-clause-is : goal.returns-then-found-seen-clause-is
returns-then-found-seen-clause-is c =
    let shared = c.self.inside.table.shared in
    let seat = c.args.seat.now in
    let me = seat.seat.me in
    let v = me.0 in
    let p = c.place_of.result in
    let q = c.spot-place.result in
    let spot = object_spot _ shared.key shared.table_id _ _ _ _ _ seat.seat.table_id me seat.thread c.self.view_is c.self.invariant.0 c.requires.seat c.args.obj c.requires.object p c.place_of.ensures q c.spot-place.ensures in
    let w = c.load-seen.result in
    let looks = c.load-seen.ensures.2 p spot in
    let look = looking _ shared.key shared.table_id _ _ _ _ _ seat.seat.table_id me seat.thread c.self.view_is c.self.invariant.0 c.requires.seat seat.marks c.args.op c.args.obj c.requires.object c.requires.due p c.place_of.ensures w c.load-seen.new.seat.me looks in
    let found = c.compare_exchange_with-found.result in
    let differs : found ≢ w = c.if-found-seen.true in
    inr record {
      was = w;
      differs = differs;
      found = look.found;
      later = look.later;
      view = (c.compare_exchange_with-found.ensures.2 p (subst (λ z. IsSpotOf z p q) (sym looks.view) spot)).other differs ∙ ap (λ z. missed z p found) looks.view ∙ ap (λ z. missed (looked v z w) z found) (sym look.place_is);
      marks = refl;
    }

pub returns-clause-is : goal.returns-clause-is
returns-clause-is c =
    let shared = c.self.inside.table.shared in
    let seat = c.args.seat.now in
    let me = seat.seat.me in
    let v = me.0 in
    let p = c.place_of.result in
    let q = c.spot-place.result in
    let spot = object_spot _ shared.key shared.table_id _ _ _ _ _ seat.seat.table_id me seat.thread c.self.view_is c.self.invariant.0 c.requires.seat c.args.obj c.requires.object p c.place_of.ensures q c.spot-place.ensures in
    let w = c.load-seen.result in
    let looks = c.load-seen.ensures.2 p spot in
    let look = looking _ shared.key shared.table_id _ _ _ _ _ seat.seat.table_id me seat.thread c.self.view_is c.self.invariant.0 c.requires.seat seat.marks c.args.op c.args.obj c.requires.object c.requires.due p c.place_of.ensures w c.load-seen.new.seat.me looks in
    let answer = to_z w64 (of_z w64 c.in-Some.answer) in
    let same : answer ≡ c.in-Some.answer = to_z-of_z w64 c.in-Some.answer (search rules) in
    let moves : advanced c.args.op v.from w ≡ Advances c.in-Some.next answer = ap (λ t. advanced c.args.op t w) c.requires.seat.thread_is ∙ c.in-Some.ensures.table ∙ ap (Advances c.in-Some.next) (sym same) in
    let found = c.compare_exchange_with-found.result in
    let hit : found ≡ w = c.if-found-seen.false in
    let made = (c.compare_exchange_with-found.ensures.2 p (subst (λ z. IsSpotOf z p q) (sym looks.view) spot)).done hit in
    record {
      seen = w;
      next = c.in-Some.next;
      moves = moves;
      number_is = c.number_of-number.ensures;
      asked = sym c.is_asked.ensures ∙ c.if-not-is_asked.false;
      later = look.later;
      makes = subst (λ z. Makes (looked v z w) z seat.marks c.args.op c.args.obj w answer c.compare_exchange_with-found.new.seat.me.0) (sym look.place_is)
          (subst (λ z. Makes z p seat.marks c.args.op c.args.obj w answer c.compare_exchange_with-found.new.seat.me.0) looks.view made);
      marks = refl;
    }

pub returns-then-not-is_asked-clause-seat : goal.returns-then-not-is_asked-clause-seat
returns-then-not-is_asked-clause-seat c =
    let shared = c.self.inside.table.shared in
    let seat = c.args.seat.now in
    let me = seat.seat.me in
    let v = me.0 in
    let p = c.place_of.result in
    let q = c.spot-place.result in
    let spot = object_spot _ shared.key shared.table_id _ _ _ _ _ seat.seat.table_id me seat.thread c.self.view_is c.self.invariant.0 c.requires.seat c.args.obj c.requires.object p c.place_of.ensures q c.spot-place.ensures in
    let looks = c.load-seen.ensures.2 p spot in
    sits_as _ seat.seat.table_id c.load-seen.new.seat.table_id me c.load-seen.new.seat.me seat.thread c.requires.seat c.load-seen.ensures.0 looks.slots (looked v p c.load-seen.result) looks.view refl refl refl c.requires.seat.alone

pub returns-in_default-clause-seat : goal.returns-in_default-clause-seat
returns-in_default-clause-seat c =
    let shared = c.self.inside.table.shared in
    let seat = c.args.seat.now in
    let me = seat.seat.me in
    let v = me.0 in
    let p = c.place_of.result in
    let q = c.spot-place.result in
    let spot = object_spot _ shared.key shared.table_id _ _ _ _ _ seat.seat.table_id me seat.thread c.self.view_is c.self.invariant.0 c.requires.seat c.args.obj c.requires.object p c.place_of.ensures q c.spot-place.ensures in
    let looks = c.load-seen.ensures.2 p spot in
    sits_as _ seat.seat.table_id c.load-seen.new.seat.table_id me c.load-seen.new.seat.me seat.thread c.requires.seat c.load-seen.ensures.0 looks.slots (looked v p c.load-seen.result) looks.view refl refl refl c.requires.seat.alone

pub returns-then-found-seen-clause-seat : goal.returns-then-found-seen-clause-seat
returns-then-found-seen-clause-seat c =
    let shared = c.self.inside.table.shared in
    let seat = c.args.seat.now in
    let me = seat.seat.me in
    let v = me.0 in
    let p = c.place_of.result in
    let q = c.spot-place.result in
    let spot = object_spot _ shared.key shared.table_id _ _ _ _ _ seat.seat.table_id me seat.thread c.self.view_is c.self.invariant.0 c.requires.seat c.args.obj c.requires.object p c.place_of.ensures q c.spot-place.ensures in
    let looks = c.load-seen.ensures.2 p spot in
    let then = c.load-seen.new.seat.me in
    let sits = sits_as _ seat.seat.table_id c.load-seen.new.seat.table_id me c.load-seen.new.seat.me seat.thread c.requires.seat c.load-seen.ensures.0 looks.slots (looked v p c.load-seen.result) looks.view refl refl refl c.requires.seat.alone in
    let said = c.compare_exchange_with-found.ensures.2 p (subst (λ z. IsSpotOf z p q) (sym looks.view) spot) in
    sits_as _ c.load-seen.new.seat.table_id c.compare_exchange_with-found.new.seat.table_id then c.compare_exchange_with-found.new.seat.me seat.thread sits c.compare_exchange_with-found.ensures.0 said.slots (missed then.0 p c.compare_exchange_with-found.result) (said.other c.if-found-seen.true) refl refl refl sits.alone

pub returns-clause-seat : goal.returns-clause-seat
returns-clause-seat c =
    let shared = c.self.inside.table.shared in
    let seat = c.args.seat.now in
    let me = seat.seat.me in
    let v = me.0 in
    let p = c.place_of.result in
    let q = c.spot-place.result in
    let spot = object_spot _ shared.key shared.table_id _ _ _ _ _ seat.seat.table_id me seat.thread c.self.view_is c.self.invariant.0 c.requires.seat c.args.obj c.requires.object p c.place_of.ensures q c.spot-place.ensures in
    let looks = c.load-seen.ensures.2 p spot in
    let then = c.load-seen.new.seat.me in
    let sits = sits_as _ seat.seat.table_id c.load-seen.new.seat.table_id me c.load-seen.new.seat.me seat.thread c.requires.seat c.load-seen.ensures.0 looks.slots (looked v p c.load-seen.result) looks.view refl refl refl c.requires.seat.alone in
    let said = c.compare_exchange_with-found.ensures.2 p (subst (λ z. IsSpotOf z p q) (sym looks.view) spot) in
    let done = said.done c.if-found-seen.false in
    sits_as _ c.load-seen.new.seat.table_id c.compare_exchange_with-found.new.seat.table_id then c.compare_exchange_with-found.new.seat.me seat.thread sits c.compare_exchange_with-found.ensures.0 said.slots _ done.view refl refl refl refl

-- What becomes of the stripes that a thread holds, by what is due in it.
use Rattle.std.proofs.Common.{◌≡◌, ℕ, ◌<◌, ◌==◌, ◌⊎◌, Bool, true, false, if◌then◌else◌, List, [], ◌∷◌, Option, Some, None, refl, ap, ◌∙◌}
use Rattle.sync_objects.specs.declared.object.ObjId.{ObjId}
use Rattle.sync_objects.specs.declared.object.ObjId.TheVariants as object
use Rattle.sync_objects.specs.declared.operation.Op.{Op}
use Rattle.sync_objects.specs.declared.operation.Op.TheVariants as op
use Rattle.word_semantics.specs.declared.event.Due.{Due}
use Rattle.word_semantics.specs.declared.event.Due.TheVariants as due
use Rattle.flow_code.specs.declared.thread.Stripe.{Stripe}
use Rattle.flow_code.specs.Holding.{number_of_stripe}
use Rattle.flow_code.specs.Next.{first_owed}
use Rattle.lock_ownership.proofs.Standings.{standing, is_held, is_there}
use Rattle.lock_ownership.proofs.Holds.{numbered}
use Rattle.lock_ownership.proofs.PlainDues.{is_stripe, IsPlain}

-- the same stripes are held
abbrev pub HoldsAlike : List Stripe → List Stripe → Type 0
HoldsAlike xs ys = (n : ℕ) → is_held (standing ys n) ≡ is_held (standing xs n)

-- one stripe more is held, or one less
pub record Gains (xs ys : List Stripe) (k : ℕ) : Type 0 where
  pub before : is_held (standing xs k) ≡ false
  pub after : (n : ℕ) → is_held (standing ys n) ≡ (if k == n then true else is_held (standing xs n))

pub record Loses (xs ys : List Stripe) (k : ℕ) : Type 0 where
  pub before : is_held (standing xs k) ≡ true
  pub after : (n : ℕ) → is_held (standing ys n) ≡ (if k == n then false else is_held (standing xs n))

-- an operation that gets a stripe, and one that lets it go
abbrev pub Gets : Op → Type 0
Gets o = (o ≡ op.Take) ⊎ (o ≡ op.Retake)

abbrev pub LetsGo : Op → Type 0
LetsGo o = (o ≡ op.Give) ⊎ (o ≡ op.Revoke)

-- what an operation does: it is of another kind, or it gets or lets go its stripe
pub data ByOperation (xs ys : List Stripe) (o : Op) (obj : ObjId) : Type 0 where
  elsewhere : is_stripe obj ≡ false → HoldsAlike xs ys → ByOperation xs ys o obj
  gains : (lock stripe : ℕ) → stripe < 8 → obj ≡ object.Weak lock stripe → Gets o → Gains xs ys (numbered lock stripe) → ByOperation xs ys o obj
  loses : (lock stripe : ℕ) → stripe < 8 → obj ≡ object.Weak lock stripe → LetsGo o → Loses xs ys (numbered lock stripe) → ByOperation xs ys o obj

abbrev pub Moves : List Stripe → List Stripe → Due → Type 0
Moves xs ys (due.Operate o obj) = ByOperation xs ys o obj
Moves xs ys _ = HoldsAlike xs ys

pub same_moves : (t : ℕ) (xs ys : List Stripe) (d : Due) → HoldsAlike xs ys → IsPlain t d → Moves xs ys d
same_moves t xs ys due.Nothing h n = h
same_moves t xs ys due.Quiet h n = h
same_moves t xs ys (due.Load c) h n = h
same_moves t xs ys (due.Store c w) h n = h
same_moves t xs ys due.Mark h n = h
same_moves t xs ys (due.Operate o obj) h n = elsewhere n.0 h
same_moves t xs ys (due.Trap kind) h n = h

-- a stripe that is there is held, where nothing is owed
pub held_if : (xs : List Stripe) (n : ℕ) → first_owed xs ≡ None → is_held (standing xs n) ≡ is_there (standing xs n)
held_if [] n e = refl
held_if (x ∷ xs) n e = by x.owed e (λ q. held_if xs n q)
  where
    on : (b : Bool) → is_held (standing xs n) ≡ is_there (standing xs n) → is_held (if b then Some false else standing xs n) ≡ is_there (if b then Some false else standing xs n)
    on true q = refl
    on false q = q

    by : (o : Bool) → (if o then Some x else first_owed xs) ≡ None → (first_owed xs ≡ None → is_held (standing xs n) ≡ is_there (standing xs n)) → is_held (if number_of_stripe x == n then Some o else standing xs n) ≡ is_there (if number_of_stripe x == n then Some o else standing xs n)
    by true q more = cc
    by false q more = on (number_of_stripe x == n) (more q)

-- where one stripe is held that wasn't there, or one isn't there any more that was held

pub gain : (xs ys : List Stripe) (k : ℕ) → is_held (standing xs k) ≡ false → ((n : ℕ) → standing ys n ≡ (if k == n then Some false else standing xs n)) → Gains xs ys k
gain xs ys k before e = record { before = before; after = λ n. ap is_held (e n) ∙ by n (k == n) }
  where
    by : (n : ℕ) (b : Bool) → is_held (if b then Some false else standing xs n) ≡ (if b then true else is_held (standing xs n))
    by n true = refl
    by n false = refl

pub loss : (o : Option Bool) (xs ys : List Stripe) (k : ℕ) → is_held o ≡ false → is_held (standing xs k) ≡ true → ((n : ℕ) → standing ys n ≡ (if k == n then o else standing xs n)) → Loses xs ys k
loss o xs ys k none before e = record { before = before; after = λ n. ap is_held (e n) ∙ by n (k == n) }
  where
    by : (n : ℕ) (b : Bool) → is_held (if b then o else standing xs n) ≡ (if b then false else is_held (standing xs n))
    by n true = none
    by n false = refl

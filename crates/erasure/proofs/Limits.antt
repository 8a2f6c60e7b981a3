-- Limits and owed stripes, with and without weak locks.
use Rattle.std.proofs.Common.{◌≡◌, ℕ, ◌⊎◌, inl, inr, ⊎_elim, Bool, true, false, if◌then◌else◌, Option, Some, None, refl, sym, ap, subst}
use Rattle.std.proofs.lemmas.Bool.{true≢false}
use Rattle.sync_objects.specs.Names.{name_of, is_ending, is_weak}
use Rattle.sync_objects.specs.declared.object.ObjId.{ObjId}
use Rattle.sync_objects.specs.declared.object.ObjId.TheVariants as object
use Rattle.sync_objects.specs.declared.operation.Op.{Op}
use Rattle.sync_objects.specs.declared.operation.Op.TheVariants as op
use Rattle.rr_base.specs.declared.trap.Trap.TheVariants as trap
use Rattle.flow_code.specs.declared.thread.Stripe.{Stripe}
use Rattle.word_semantics.specs.declared.event.Due.{Due}
use Rattle.word_semantics.specs.declared.event.Due.TheVariants as due
use Rattle.flow_code.specs.Next.{limited, retake, owing, listed}
use Rattle.erasure.proofs.Asides.{IsWeakDue, passes, takes, gives}

-- ---- where a thread steps aside

-- it passes, makes an operation on a stripe, or has no room for one
pub data IsAside : Due → Type 0 where
  idle : IsAside due.Quiet
  takes_stripe : (lock stripe : ℕ) → IsAside (due.Operate op.Take (object.Weak lock stripe))
  gives_stripe : (lock stripe : ℕ) → IsAside (due.Operate op.Give (object.Weak lock stripe))
  retakes : (x : Stripe) → IsAside (retake x)
  fills : IsAside (due.Trap trap.LogFull)

free_weak : (over : Bool) (d : Due) → IsWeakDue d → limited over d ≡ d
free_weak false d h = refl
free_weak true d passes = refl
free_weak true d (takes lock stripe) = refl
free_weak true d (gives lock stripe) = refl

listed_aside : (full : Bool) (owed : Option Stripe) (d : Due) → IsWeakDue d → IsAside (listed full (owing owed d))
listed_aside true None d passes = idle
listed_aside true (Some x) d passes = idle
listed_aside false None d passes = idle
listed_aside false (Some x) d passes = idle
listed_aside true None d (takes lock stripe) = fills
listed_aside true (Some x) d (takes lock stripe) = fills
listed_aside false None d (takes lock stripe) = takes_stripe lock stripe
listed_aside false (Some x) d (takes lock stripe) = retakes x
listed_aside true None d (gives lock stripe) = fills
listed_aside true (Some x) d (gives lock stripe) = fills
listed_aside false None d (gives lock stripe) = gives_stripe lock stripe
listed_aside false (Some x) d (gives lock stripe) = retakes x

pub weak_aside : (full over : Bool) (owed : Option Stripe) (d : Due) → IsWeakDue d → IsAside (listed full (owing owed (limited over d)))
weak_aside full over owed d h = subst (λ x. IsAside (listed full (owing owed x))) (sym (free_weak over d h)) (listed_aside full owed d h)

-- ---- where it doesn't

-- What is due with weak locks, x, is what is due without them, y, unless there is no room for it, or an owed stripe is taken
-- again first. It is d, which limits leave of what is due by the code.
pub data Compares (x y d : Due) : Type 0 where
  same : x ≡ d → y ≡ d → Compares x y d
  no_room : x ≡ due.Trap trap.LogFull → Compares x y d
  again : (z : Stripe) → x ≡ retake z → Compares x y d

operate_listed : (more less : Bool) (o : Op) (obj : ObjId) → (less ≡ true → more ≡ true) → Compares (listed more (due.Operate o obj)) (listed less (due.Operate o obj)) (due.Operate o obj)
operate_listed true less o obj h = by (is_ending (name_of o)) refl
  where
    ends : (b : Bool) → is_ending (name_of o) ≡ true → listed b (due.Operate o obj) ≡ due.Operate o obj
    ends true e = ap (λ z. if z then due.Operate o obj else due.Trap trap.LogFull) e
    ends false e = refl

    by : (b : Bool) → is_ending (name_of o) ≡ b → Compares (listed true (due.Operate o obj)) (listed less (due.Operate o obj)) (due.Operate o obj)
    by true e = same (ends true e) (ends less e)
    by false e = no_room (ap (λ z. if z then due.Operate o obj else due.Trap trap.LogFull) e)
operate_listed false true o obj h = absurd (true≢false (sym (h refl)))
operate_listed false false o obj h = same refl refl

listed_same : (b : Bool) (d : Due) → (listed b d ≡ d) ⊎ ((o : Op) × (obj : ObjId) × (d ≡ due.Operate o obj))
listed_same false d = inl refl
listed_same true due.Nothing = inl refl
listed_same true due.Quiet = inl refl
listed_same true (due.Load c) = inl refl
listed_same true (due.Store c v) = inl refl
listed_same true due.Mark = inl refl
listed_same true (due.Operate o obj) = inr (o, obj, refl)
listed_same true (due.Trap kind) = inl refl

compares_listed : (more less : Bool) (d : Due) → (less ≡ true → more ≡ true) → Compares (listed more d) (listed less d) d
compares_listed more less d h = by (listed_same more d) (listed_same less d)
  where
    other : (o : Op) (obj : ObjId) → d ≡ due.Operate o obj → Compares (listed more d) (listed less d) d
    other o obj e = subst (λ z. Compares (listed more z) (listed less z) z) (sym e) (operate_listed more less o obj h)

    by : (listed more d ≡ d) ⊎ ((o : Op) × (obj : ObjId) × (d ≡ due.Operate o obj)) → (listed less d ≡ d) ⊎ ((o : Op) × (obj : ObjId) × (d ≡ due.Operate o obj)) → Compares (listed more d) (listed less d) d
    by (inl a) (inl b) = same a b
    by (inr a) b = other a.0 a.1 a.2
    by (inl a) (inr b) = other b.0 b.1 b.2

again_listed : (more : Bool) (y d : Due) (z : Stripe) → Compares (listed more (retake z)) y d
again_listed true y d z = no_room refl
again_listed false y d z = again z refl

owing_is : (owed : Option Stripe) (d : Due) → (owing owed d ≡ d) ⊎ ((z : Stripe) × (owing owed d ≡ retake z))
owing_is None d = inl refl
owing_is (Some x) due.Nothing = inl refl
owing_is (Some x) due.Quiet = inl refl
owing_is (Some x) (due.Load c) = inr (x, refl)
owing_is (Some x) (due.Store c v) = inr (x, refl)
owing_is (Some x) due.Mark = inr (x, refl)
owing_is (Some x) (due.Operate o obj) = by (is_weak (name_of o))
  where
    by : (b : Bool) → ((if b then retake x else due.Operate o obj) ≡ due.Operate o obj) ⊎ ((z : Stripe) × ((if b then retake x else due.Operate o obj) ≡ retake z))
    by true = inr (x, refl)
    by false = inl refl
owing_is (Some x) (due.Trap kind) = inl refl

pub compares : (more less : Bool) (owed : Option Stripe) (d : Due) → (less ≡ true → more ≡ true) → Compares (listed more (owing owed d)) (listed less d) d
compares more less owed d h = ⊎_elim
    (λ e. subst (λ x. Compares (listed more x) (listed less d) d) (sym e) (compares_listed more less d h))
    (λ e. subst (λ x. Compares (listed more x) (listed less d) d) (sym e.1) (again_listed more (listed less d) d e.0))
    (owing_is owed d)

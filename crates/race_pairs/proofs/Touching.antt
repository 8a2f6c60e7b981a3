-- The accesses of roots, place by place and root by root.
use Rattle.std.proofs.Common.{◌≡◌, ℕ, ◌+◌, ◌++◌, List, [], ◌∷◌, length, true, Bool, sym, ap, subst, ◌∙◌, Some, Result, Ok, Err}
use Rattle.std.specs.declared.alloc.AllocError.{AllocError}
use Rattle.std.specs.Prelude.{OnOk}
use Rattle.flow_code.specs.Threads.{is_main}
use Rattle.std.specs.Prelude.{slice_get}
use Rattle.std.specs.List.{Contains}
use Rattle.rr_base.specs.declared.layout.Place.{Place}
use Rattle.flow_code.specs.declared.code.Code.{Code}
use Rattle.facts.specs.declared.locks.Guarded.{Guarded}
use Rattle.facts.specs.declared.locks.Summary.{Summary}
use Rattle.facts.specs.PointsTo.{Tables}
use Rattle.facts.specs.Pairs.{is_root, places_of, stands}
use Rattle.race_pairs.specs.declared.touch.Reached.{Reached}
use Rattle.race_pairs.specs.declared.touch.Touch.{Touch}
use Rattle.race_pairs.specs.Gains.{Gains, Below}
use Rattle.race_pairs.specs.Touches.{TouchesAt, TouchesNth, TouchesOf, TouchesFrom, TouchesRoot, IsTouch}
use Rattle.race_pairs.proofs.Elements.{got, held, holds}
use Rattle.race_pairs.proofs.Gaining.{pushed, alike, more, all_below}

-- the access at the k-th place
abbrev pub AtPlace : List Place → Reached → ℕ → Touch → Type 0
AtPlace ps a k w = (slice_get ps k ≡ Some w.place) × (w.access ≡ a)

pub place_more : (ps : List Place) (a : Reached) (k : ℕ) (p : Place) (xs ys zs : List Touch) → slice_get ps k ≡ Some p → zs ≡ ys ++ record { place = p; access = a } ∷ [] → Gains (Below k (AtPlace ps a)) xs ys → Gains (Below (k + 1) (AtPlace ps a)) xs zs
place_more ps a k p xs ys zs at e g =
    more (AtPlace ps a) k xs ys zs g
    (subst (Gains (AtPlace ps a k) ys) (sym e)
    (alike (λ w. w ≡ record { place = p; access = a }) (AtPlace ps a k) ys (ys ++ record { place = p; access = a } ∷ [])
    (λ w h. (at ∙ ap (λ (v : Touch). Some v.place) (sym h), ap (λ (v : Touch). v.access) h))
    (λ w h. let s : w.place ≡ p = cc in λ i. record { place = s i; access = h.1 i })
    (pushed ys (record { place = p; access = a }))))

pub places_all : (ps : List Place) (a : Reached) (xs ys : List Touch) → Gains (Below (length ps) (AtPlace ps a)) xs ys → Gains (λ w. Contains ps w.place × (w.access ≡ a)) xs ys
places_all ps a xs ys g =
    alike (λ w. (k : ℕ) × AtPlace ps a k w) (λ w. Contains ps w.place × (w.access ≡ a)) xs ys
    (λ w h. (held ps h.0 w.place h.1.0, h.1.1))
    (λ w h. let s = holds ps w.place h.0 in (s.0, (s.1, h.1)))
    (all_below (AtPlace ps a) (length ps) xs ys (λ k w h. (got ps k w.place h.0).0) g)

pub access_more : (code : Code) (t : Tables) (r : ℕ) (gs : List Guarded) (k : ℕ) (x : Guarded) (xs ys zs : List Touch) → slice_get gs k ≡ Some x → Gains (Below k (TouchesNth code t r gs)) xs ys → Gains (TouchesAt code t r k x) ys zs → Gains (Below (k + 1) (TouchesNth code t r gs)) xs zs
access_more code t r gs k x xs ys zs at g h =
    more (TouchesNth code t r gs) k xs ys zs g
    (alike (TouchesAt code t r k x) (TouchesNth code t r gs k) ys zs
    (λ w p. (x, at, p))
    (λ w q. let s : q.0 ≡ x = cc in subst (λ y. TouchesAt code t r k y w) s q.2)
    h)

pub accesses_all : (code : Code) (t : Tables) (r : ℕ) (gs : List Guarded) (xs ys : List Touch) → Gains (Below (length gs) (TouchesNth code t r gs)) xs ys → Gains (TouchesOf code t r gs) xs ys
accesses_all code t r gs xs ys g = all_below (TouchesNth code t r gs) (length gs) xs ys (λ k w h. (got gs k h.0 h.1).0) g

pub root_is : (code : Code) (t : Tables) (r : ℕ) (s : Summary) (xs ys : List Touch) → is_root code r ≡ true → Gains (TouchesOf code t r s.guarded) xs ys → Gains (TouchesFrom code t r s) xs ys
root_is code t r s xs ys e g = alike (TouchesOf code t r s.guarded) (TouchesFrom code t r s) xs ys (λ w h. (e, h)) (λ w h. h.1) g

pub root_more : (code : Code) (t : Tables) (ss : List Summary) (r : ℕ) (s : Summary) (xs ys zs : List Touch) → slice_get ss r ≡ Some s → Gains (Below r (TouchesRoot code t ss)) xs ys → Gains (TouchesFrom code t r s) ys zs → Gains (Below (r + 1) (TouchesRoot code t ss)) xs zs
root_more code t ss r s xs ys zs at g h =
    more (TouchesRoot code t ss) r xs ys zs g
    (alike (TouchesFrom code t r s) (TouchesRoot code t ss r) ys zs
    (λ w p. (s, at, p))
    (λ w q. let e : q.0 ≡ s = cc in subst (λ y. TouchesFrom code t r y w) e q.2)
    h)

pub roots_all : (code : Code) (t : Tables) (ss : List Summary) (xs ys : List Touch) → Gains (Below (length ss) (TouchesRoot code t ss)) xs ys → Gains (IsTouch code t ss) xs ys
roots_all code t ss xs ys g = all_below (TouchesRoot code t ss) (length ss) xs ys (λ r w h. (got ss r h.0 h.1).0) g

-- a loop ends at the length
pub ends : (At : ℕ → Touch → Type 0) (k n : ℕ) (xs ys : List Touch) → k ≡ n → Gains (Below k At) xs ys → Gains (Below n At) xs ys
ends At k n xs ys e g = subst (λ j. Gains (Below j At) xs ys) e g

pub touched : (code : Code) (t : Tables) (r k : ℕ) (x : Guarded) (main : Bool) (ps : List Place) (xs ys : List Touch) (q : Result Unit AllocError) → main ≡ is_main code r → ps ≡ places_of code t (stands x) → OnOk q (Gains (λ w. Contains ps w.place × (w.access ≡ record { at = stands x; root = r; is_main = main; index = k })) xs ys) → OnOk q (Gains (TouchesAt code t r k x) xs ys)
touched code t r k x main ps xs ys (Err e) f g h = h
touched code t r k x main ps xs ys (Ok u) f g h =
    alike (λ w. Contains ps w.place × (w.access ≡ record { at = stands x; root = r; is_main = main; index = k })) (TouchesAt code t r k x) xs ys
    (λ w p. (subst (λ (z : List Place). Contains z w.place) g p.0, p.1 ∙ ap (λ b. record { at = stands x; root = r; is_main = b; index = k }) f))
    (λ w p. (subst (λ (z : List Place). Contains z w.place) (sym g) p.0, p.1 ∙ ap (λ b. record { at = stands x; root = r; is_main = b; index = k }) (sym f)))
    h

-- The grains are the only ones.
use Rattle.std.proofs.Common.{◌≡◌, Bool, true, List, [], ◌∷◌, sym, ap, subst, ◌∙◌}
use Rattle.std.specs.List.{Contains}
use Rattle.flow_code.specs.declared.code.Code.{Code}
use Rattle.facts.specs.declared.pair.AccessAt.{AccessAt}
use Rattle.facts.specs.declared.pair.Pair.{Pair}
use Rattle.profiles.specs.declared.profile.Profile.{Profile}
use Rattle.facts.specs.Pairs.{access_less}
use Rattle.profiles.proofs.Ascending as ascending
use Rattle.profiles.proofs.Ascending.{and_left, and_right}
use Rattle.weak_lock_facts.specs.declared.grain.Grained.{Grained}
use Rattle.weak_lock_facts.specs.declared.range.Range.{Range}
use Rattle.weak_lock_facts.specs.Grains.{grain_of, rows_ascend, AreGrains}
use Rattle.grain_choice.proofs.Ascents as ascents

abbrev less : Grained → Grained → Bool
less x y = access_less x.access y.access

irr : (x : Grained) → less x x ≡ true → ⊥
irr x e = ascents.irr x.access e

along : (x y z : Grained) → less x y ≡ true → less y z ≡ true → less x z ≡ true
along x y z d e = ascents.along x.access y.access z.access d e

up : (xs : List Grained) → rows_ascend xs ≡ true → ascending.Up less irr along xs
up [] e = tt
up (x ∷ []) e = (tt, tt)
up (x ∷ y ∷ xs) e =
    let u = up (y ∷ xs) (and_right (less x y) (rows_ascend (y ∷ xs)) e) in
    let l = and_left (less x y) (rows_ascend (y ∷ xs)) e in
    ((l, ascending.before_less less irr along x y xs l u.0), u)

same_row : (x y : Grained) → x.access ≡ y.access → x.grain ≡ y.grain → x ≡ y
same_row x y e f = λ i. record { access = e i; grain = f i }

within : (code : Code) (ps : List Pair) (rs : List Range) (profile : Profile) (xs ys : List Grained) → AreGrains code ps rs profile xs → AreGrains code ps rs profile ys → (x : Grained) → ascending.In less irr along x xs → ascending.In less irr along x ys
within code ps rs profile xs ys a b x i =
    let there = ascending.at_In less irr along xs x i in
    let found = b.all x.access (a.racy x there) in
    let same : found.0 ≡ x = same_row found.0 x found.2 (b.grains found.0 found.1 ∙ ap (λ (z : AccessAt). grain_of code ps rs profile z) found.2 ∙ sym (a.grains x there)) in
    ascending.In_at less irr along ys x (subst (λ (z : Grained). Contains ys z) same found.1)

pub one_list : (code : Code) (ps : List Pair) (rs : List Range) (profile : Profile) (xs ys : List Grained) → AreGrains code ps rs profile xs → AreGrains code ps rs profile ys → xs ≡ ys
one_list code ps rs profile xs ys a b = ascending.one_list less irr along xs ys (up xs a.ascending) (up ys b.ascending) (within code ps rs profile xs ys a b) (within code ps rs profile ys xs b a)

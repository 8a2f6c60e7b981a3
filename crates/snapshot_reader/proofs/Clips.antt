-- Numbers that are cut off at the greatest of their types are judged as they are: the first line that isn't as it must be is the
-- same, and where there is none, no number was cut off.
use Rattle.std.proofs.Common.{◌≡◌, ℕ, zero, suc, Bool, true, false, List, [], ◌∷◌, ◌++◌, take, Some, ap, ◌∙◌}
use Rattle.std.specs.Prelude.{slice_get}
use Rattle.snapshots.specs.Conditions.{AllFit}

-- both lists of judgements are false at the same first place, or both are true throughout
abbrev pub Alike : List Bool → List Bool → Type 0
Alike [] [] = Unit {0}
Alike [] (c ∷ cs) = ⊥
Alike (b ∷ bs) [] = ⊥
Alike (b ∷ bs) (c ∷ cs) = (b ≡ c) × (b ≡ true → Alike bs cs)

pub alike_append : (bs cs ds es : List Bool) → Alike bs cs → (AllFit bs → Alike ds es) → Alike (bs ++ ds) (cs ++ es)
alike_append [] [] ds es h k = k tt
alike_append [] (c ∷ cs) ds es h k = absurd h
alike_append (b ∷ bs) [] ds es h k = absurd h
alike_append (b ∷ bs) (c ∷ cs) ds es h k = (h.0, λ t. alike_append bs cs ds es (h.1 t) (λ f. k (t, f)))

pub alike_fit : (bs cs : List Bool) → Alike bs cs → AllFit cs → AllFit bs
alike_fit [] [] h k = tt
alike_fit [] (c ∷ cs) h k = absurd h
alike_fit (b ∷ bs) [] h k = absurd h
alike_fit (b ∷ bs) (c ∷ cs) h k = let t : b ≡ true = h.0 ∙ k.0 in (t, alike_fit bs cs (h.1 t) k.1)

-- the first that is false stands at the same place
pub alike_first : (bs cs : List Bool) (k : ℕ) → Alike bs cs → AllFit (take k cs) → slice_get cs k ≡ Some false → AllFit (take k bs) × (slice_get bs k ≡ Some false)
alike_first [] [] k h f e = cc
alike_first [] (c ∷ cs) k h f e = absurd h
alike_first (b ∷ bs) [] k h f e = absurd h
alike_first (b ∷ bs) (c ∷ cs) zero h f e = (tt, ap Some h.0 ∙ e)
alike_first (b ∷ bs) (c ∷ cs) (suc k) h f e =
    let t : b ≡ true = h.0 ∙ f.0 in
    let r = alike_first bs cs k (h.1 t) f.1 e in
    ((t, r.0), r.1)

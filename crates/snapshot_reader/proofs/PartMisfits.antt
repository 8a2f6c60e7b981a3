-- The first misfit of some lines, from those of their parts.
use Rattle.std.proofs.Common.{◌≡◌, ℕ, ◌+◌, ◌*◌, ◌≤◌, Bool, true, false, List, [], ◌∷◌, length, Option, Some, None, Ok, Err, sym, ap, subst, arith}
use Rattle.std.specs.Prelude.{IfOk, Result, nat_lt, nat_le, ◌&&◌, ◌==◌}
use Rattle.std.specs.List.{AllByRecursion}
use Rattle.std.proofs.lemmas.Bool.{and_parts, ltb-true}
use Rattle.order_log.specs.Reading.{shown}
use Rattle.sync_objects.specs.Setup.{SetupView}
use Rattle.sync_objects.specs.declared.object.ObjId.TheVariants as object
use Rattle.flow_code.specs.declared.code.Code.{Code}
use Rattle.core_run.specs.Words.{has_object}
use Rattle.thread_interpreter.specs.declared.part.StripePart.{StripePart}
use Rattle.thread_interpreter.specs.declared.part.RegionPart.{RegionPart}
use Rattle.snapshots.specs.Conditions.{AllFit, is_after, nesting_in, stripes_judged}
use Rattle.snapshot_reader.specs.Misfits.{Misfits}
use Rattle.snapshot_reader.specs.Tallies.{AreListed, AreNestings, IsIn}
use Rattle.snapshot_reader.proofs.Judging.{misfits_back}

-- what an answer says follows from what another says
pub if_ok_more : {E : Type 0} (r : Result (Option ℕ) E) (P Q : Option ℕ → Type 0) → ((o : Option ℕ) → P o → Q o) → IfOk r P → IfOk r Q
if_ok_more (Ok o) P Q each h = each o h
if_ok_more (Err e) P Q each h = h

-- the first line has the misfit
pub head_misfit : (b : Bool) (rest : List Bool) (at : ℕ) → at ≤ 4294967295 → b ≡ false → Misfits (b ∷ rest) at (Some at)
head_misfit b rest at low unfit = (0, omega arith, tt, ap Some unfit)

-- the first line fits
pub after_head : (b : Bool) (rest : List Bool) (at next : ℕ) (r : Option ℕ) → b ≡ true → next ≡ shown (at + 1) → Misfits rest next r → Misfits (b ∷ rest) at r
after_head b rest at next r fits here h = misfits_back (b ∷ []) rest at next r here (fits, tt) h

-- stripes that fit are stripes of the machine
pub stripes_inside : (code : Code) (s : SetupView) (regions : List RegionPart) (b : Option ℕ) (xs : List StripePart) → AllFit (stripes_judged code s regions b xs) → AllByRecursion (λ (x : StripePart). IsIn (length code.locks) (x.lock, x.stripe)) xs
stripes_inside code s regions b [] h = tt
stripes_inside code s regions b (x ∷ xs) h =
    let p = and_parts (has_object code s (object.Weak x.lock x.stripe)) (is_after b (8 * x.lock + x.stripe) && (nat_le 1 x.nesting && (x.nesting == nesting_in regions (x.lock, x.stripe)))) h.0 in
    let q = and_parts (nat_lt x.lock (length code.locks)) (nat_lt x.stripe 8) p.0 in
    ((ltb-true x.lock (length code.locks) q.0, ltb-true x.stripe 8 q.1), stripes_inside code s regions (Some (8 * x.lock + x.stripe)) xs h.1)

-- stripes that were judged by the counts of a thread's regions
pub judged_by : (code : Code) (s : SetupView) (locks : ℕ) (counted regions : List RegionPart) (judged stripes : List StripePart) (counts given : List ℕ) (at : ℕ) (r : Option ℕ)
    → locks ≡ length code.locks → counted ≡ regions → judged ≡ stripes → given ≡ counts → AreNestings locks counted counts
    → ((any : SetupView) (rs : List RegionPart) → AreNestings (length code.locks) rs given → Misfits (stripes_judged code any rs None judged) at r)
    → Misfits (stripes_judged code s regions None stripes) at r
judged_by code s locks counted regions judged stripes counts given at r size same_regions same_stripes same_counts nestings judge =
    let a = subst (λ (m : ℕ). AreNestings m counted counts) size nestings in
    let b = subst (λ (rs : List RegionPart). AreNestings (length code.locks) rs counts) same_regions a in
    let e = subst (λ (cs : List ℕ). AreNestings (length code.locks) regions cs) (sym same_counts) b in
    subst (λ (xs : List StripePart). Misfits (stripes_judged code s regions None xs) at r) same_stripes (judge s regions e)

-- the places of a thread's stripes
pub listed_by : (locks n : ℕ) (seen stripes : List StripePart) (places given : List ℕ) → n ≡ locks → seen ≡ stripes → given ≡ places → AreListed n seen places → AreListed locks stripes given
listed_by locks n seen stripes places given size same same_places listed =
    subst (λ (ps : List ℕ). AreListed locks stripes ps) (sym same_places)
    (subst (λ (xs : List StripePart). AreListed locks xs places) same (subst (λ (m : ℕ). AreListed m seen places) size listed))

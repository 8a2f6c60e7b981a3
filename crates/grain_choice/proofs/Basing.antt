-- Grains by lists are those by the pairs, ranges and profile that the lists were made from.
use Rattle.std.proofs.Common.{◌≡◌, ℕ, zero, suc, ◌<◌, Bool, true, false, cond, ◌&&◌, ◌||◌, List, [], ◌∷◌, length, map, refl, sym, ap, subst, ◌∙◌, arith, Option, None}
use Rattle.std.specs.Prelude.{is_none, filter, slice_get, ◌==◌}
use Rattle.std.specs.List.{Contains}
use Rattle.std.proofs.lemmas.List.{get_or-map, length-map}
use Rattle.flow_code.specs.declared.act.Instr.{Instr}
use Rattle.flow_code.specs.declared.code.Code.{Code}
use Rattle.flow_code.specs.Next.{act_in}
use Rattle.facts.specs.declared.pair.AccessAt.{AccessAt}
use Rattle.facts.specs.declared.pair.Pair.{Pair}
use Rattle.profiles.specs.declared.profile.Profile.{Profile}
use Rattle.facts.specs.Pairs.{access_less, access_same, act_of}
use Rattle.weak_lock_facts.specs.declared.grain.Grain.TheVariants as grain
use Rattle.weak_lock_facts.specs.declared.grain.Grained.{Grained}
use Rattle.weak_lock_facts.specs.declared.range.Range.{Range}
use Rattle.weak_lock_facts.specs.Grains.{is_racy, is_seen, is_met, loop_of, block_at, instrs_of, is_load_or_store, is_narrow, is_beside, all_beside, together, loop_grain, grain_of, rows_ascend, AreGrains}
use Rattle.grain_choice.specs.declared.rows.Basis.{Basis}
use Rattle.grain_choice.specs.Chosen.{may_share, IsBasis, IsBasisOf, grain_by, row_by}
use Rattle.grain_choice.specs.Listed.{is_listed, ascend, Lists}
use Rattle.grain_choice.specs.Loops.{loop_at}
use Rattle.grain_choice.specs.Tables.{HaveFirsts, beside}
use Rattle.grain_choice.proofs.Ascents.{same_is, same_self, place_in}
use Rattle.grain_choice.proofs.Besides.{those_alike}
use Rattle.grain_choice.proofs.Bools.{any_filter, both_and}

pub listed_filter : (test : AccessAt → Bool) (bs : List AccessAt) (a : AccessAt) → is_listed (filter test bs) a ≡ is_listed bs a && test a
listed_filter test bs a = any_filter (λ b. access_same b a) test (test a) (λ x h. ap test (same_is x a h)) bs

-- a load or store stands in the code
pub in_code : (is : List Instr) (k : ℕ) → is_load_or_store (act_in (slice_get is k)) ≡ true → k < length is
in_code [] k h = cc
in_code (i ∷ is) zero h = omega arith
in_code (i ∷ is) (suc k) h = let r = in_code is k h in omega arith

-- an access that may have the grain of its block is listed with those that may
pub narrow_listed : (code : Code) (b : Basis) (bs : List AccessAt) (a : AccessAt) → IsBasis code b → bs ≡ b.narrow.items → is_listed b.met.items a ≡ true → loop_at b.loops a ≡ None → is_load_or_store (act_of code a) ≡ true → is_listed bs a ≡ true
narrow_listed code b bs a is e met none load =
    ap (λ (z : List AccessAt). is_listed z a) (e ∙ is.narrow)
    ∙ listed_filter (λ x. may_share code b.loops x) b.met.items a
    ∙ both_and (is_listed b.met.items a) (may_share code b.loops a) met (both_and (is_none (loop_at b.loops a)) (is_load_or_store (act_of code a)) (ap (λ (o : Option ℕ). is_none o) none) load)

module _ (code : Code) (ps : List Pair) (rs : List Range) (profile : Profile) (b : Basis) (is : IsBasisOf code ps rs profile b) where
  narrow_same : (a : AccessAt) → is_listed b.narrow.items a ≡ is_narrow code ps rs profile a
  narrow_same a =
      ap (λ (z : List AccessAt). is_listed z a) is.basis.narrow
      ∙ listed_filter (λ x. may_share code b.loops x) b.met.items a
      ∙ ap (λ m. m && may_share code b.loops a) (is.met a)
      ∙ ap (λ (o : Option ℕ). is_met code ps profile a && (is_none o && is_load_or_store (act_of code a))) (is.loops a)

  beside_same : (a : AccessAt) → beside code b.narrow.items a ≡ all_beside code ps rs profile a
  beside_same a =
      those_alike (λ k. is_listed b.narrow.items (record { function = a.function; instr = k }) && (block_at (instrs_of code a.function) k == block_at (instrs_of code a.function) a.instr)) (λ k. is_beside code ps rs profile a k)
      (λ k. ap (λ m. m && (block_at (instrs_of code a.function) k == block_at (instrs_of code a.function) a.instr)) (narrow_same (record { function = a.function; instr = k })))
      (length (instrs_of code a.function))

  grain_same : (a : AccessAt) → grain_by code b a ≡ grain_of code ps rs profile a
  grain_same a =
      ap (λ m. cond m (loop_grain (loop_at b.loops a) (cond (is_load_or_store (act_of code a)) (together (beside code b.narrow.items a)) grain.Instruction)) grain.Function) (is.met a)
      ∙ ap (λ (o : Option ℕ). cond (is_met code ps profile a) (loop_grain o (cond (is_load_or_store (act_of code a)) (together (beside code b.narrow.items a)) grain.Instruction)) grain.Function) (is.loops a)
      ∙ ap (λ (js : List ℕ). cond (is_met code ps profile a) (loop_grain (loop_of rs a) (cond (is_load_or_store (act_of code a)) (together js) grain.Instruction)) grain.Function) (beside_same a)

  rows-ascend : (bs : List AccessAt) → rows_ascend (map (λ a. row_by code b a) bs) ≡ ascend bs
  rows-ascend [] = refl
  rows-ascend (a ∷ []) = refl
  rows-ascend (a ∷ c ∷ bs) = ap (λ z. access_less a c && z) (rows-ascend (c ∷ bs))

  row_in : (bs : List AccessAt) (x : Grained) → Contains (map (λ a. row_by code b a) bs) x → (a : AccessAt) × (is_listed bs a ≡ true) × (row_by code b a ≡ x)
  row_in [] x (k, lt, e) = absurd (omega (arith, lt))
  row_in (a ∷ bs) x (zero, lt, e) = (a, or_left (access_same a a) (is_listed bs a) (same_self a), e)
    where
      or_left : (p q : Bool) → p ≡ true → p || q ≡ true
      or_left true q h = refl
      or_left false q h = cc
  row_in (a ∷ bs) x (suc k, lt, e) = let r = row_in bs x (k, omega (arith, lt), e) in (r.0, or_right (access_same a r.0) (is_listed bs r.0) r.1, r.2)
    where
      or_right : (p q : Bool) → q ≡ true → p || q ≡ true
      or_right true q h = refl
      or_right false q h = h

  in_rows : (bs : List AccessAt) (a : AccessAt) → is_listed bs a ≡ true → Contains (map (λ a. row_by code b a) bs) (row_by code b a)
  in_rows bs a h = let r = place_in bs a h in (r.0, subst (λ n. r.0 < n) (sym (length-map bs (λ a. row_by code b a))) r.1, get_or-map (λ a. row_by code b a) bs r.0 a (row_by code b a) r.1 ∙ ap (λ (z : AccessAt). row_by code b z) (r.2 a))

  pub are_grains : (bs : List AccessAt) (rows : List Grained) → Lists (λ a. is_racy ps a) bs → rows ≡ map (λ a. row_by code b a) bs → AreGrains code ps rs profile rows
  are_grains bs rows listed e = subst (λ (z : List Grained). AreGrains code ps rs profile z) (sym e) (record {
    ascending = rows-ascend bs ∙ listed.ascending;
    racy = λ x h. let r = row_in bs x h in subst (λ (z : Grained). is_racy ps z.access ≡ true) r.2 (sym (listed.has r.0) ∙ r.1);
    grains = λ x h. let r = row_in bs x h in subst (λ (z : Grained). z.grain ≡ grain_of code ps rs profile z.access) r.2 (grain_same r.0);
    all = λ a h. (row_by code b a, in_rows bs a (listed.has a ∙ h), refl);
  })

pub basis_is : (code : Code) (ps : List Pair) (rs : List Range) (profile : Profile) (b : Basis) (seen shown : List Pair) (met : List AccessAt) → shown ≡ seen → seen ≡ filter (λ p. is_seen code profile p) ps → Lists (λ a. is_racy shown a) b.met.items → ((a : AccessAt) → loop_at b.loops a ≡ loop_of rs a) → met ≡ b.met.items → b.narrow.items ≡ filter (λ a. may_share code b.loops a) met → HaveFirsts code b.firsts → IsBasisOf code ps rs profile b
basis_is code ps rs profile b seen shown met e f listed loops m narrow firsts = record {
  basis = record { ascending = listed.ascending; narrow = narrow ∙ ap (λ (z : List AccessAt). filter (λ a. may_share code b.loops a) z) m; firsts = firsts };
  met = λ a. listed.has a ∙ ap (λ (z : List Pair). is_racy z a) (e ∙ f);
  loops = loops;
}

pub chosen : (code : Code) (ps : List Pair) (rs : List Range) (profile : Profile) (b : Basis) (pairs others : List Pair) (ranges : List Range) (bs shown : List AccessAt) (rows : List Grained) → pairs ≡ ps → others ≡ ps → ranges ≡ rs → Lists (λ a. is_racy pairs a) bs → IsBasisOf code others ranges profile b → shown ≡ bs → rows ≡ map (λ a. row_by code b a) shown → AreGrains code ps rs profile rows
chosen code ps rs profile b pairs others ranges bs shown rows e f g listed is s r =
    are_grains code ps rs profile b
    (subst (λ (z : List Range). IsBasisOf code ps z profile b) g (subst (λ (z : List Pair). IsBasisOf code z ranges profile b) f is))
    bs rows
    (subst (λ (z : List Pair). Lists (λ a. is_racy z a) bs) e listed)
    (r ∙ ap (λ (z : List AccessAt). map (λ a. row_by code b a) z) s)

-- The lines of a thread whose numbers are cut off are judged as the lines themselves.
use Rattle.std.proofs.Common.{◌≡◌, ℕ, zero, suc, ◌+◌, ◌*◌, ◌^◌, ◌<◌, ◌≤◌, min, cond, Bool, true, false, List, [], ◌∷◌, length, map, Option, Some, None, refl, sym, ap, subst, ◌∙◌, arith, ⊎_elim}
use Rattle.std.specs.Prelude.{◌&&◌, ◌||◌, ◌==◌, nat_lt, nat_le, slice_get, is_some}
use Rattle.std.specs.List.{AllByRecursion, list_all}
use Rattle.std.proofs.lemmas.Bool.{and_parts, cases_lt, ltb-true, eqb-true, true≢false}
use Rattle.std.proofs.lemmas.Bool.Decides.{nat_tests}
use Rattle.std.proofs.lemmas.List.{length-map}
use Rattle.std.proofs.lemmas.List.Sums.{sum_by-cons}
use Rattle.std.proofs.lemmas.Option.{same_Some, slice_get_past, slice_get_within}
use Rattle.sync_objects.specs.Setup.{SetupView}
use Rattle.sync_objects.specs.declared.object.ObjId.TheVariants as object
use Rattle.flow_code.specs.declared.act.Instr.{Instr}
use Rattle.flow_code.specs.declared.code.Code.{Code}
use Rattle.flow_code.specs.declared.code.Function.{Function}
use Rattle.flow_code.specs.Next.{act_at, act_in}
use Rattle.flow_code.specs.Ranges.{most_made}
use Rattle.flow_code.specs.Threads.{instr_at, instr_in, registers_in}
use Rattle.core_run.specs.Words.{has_object}
use Rattle.thread_interpreter.specs.Parts.{frame_of}
use Rattle.thread_interpreter.specs.declared.part.FramePart.{FramePart}
use Rattle.thread_interpreter.specs.declared.part.StripePart.{StripePart}
use Rattle.thread_interpreter.specs.declared.part.RegionPart.{RegionPart}
use Rattle.snapshots.specs.Conditions.{AllFit, all_differ, frame_fits, frames_judged, goes_on, has_pair, is_after, is_among, is_called, is_from, is_take, nesting_in, opens, region_fits, regions_judged, stripe_fits, stripes_judged}
use Rattle.snapshot_lines.specs.Lines.{byte_most, clipped_frame, clipped_pair, clipped_region, clipped_stripe, half_most, word_most}
use Rattle.snapshot_reader.specs.Reading.{AreShort}
use Rattle.snapshot_reader.proofs.Clipping.{clip_le, clip_lt_alone, kept_le, kept_lt}
use Rattle.snapshot_reader.proofs.Clips.{Alike}

both_false : (a b x y : Bool) → a ≡ false → b ≡ false → (a && x) ≡ (b && y)
both_false a b x y e f = (λ i. e i && x) ∙ sym (λ i. f i && y)

-- ---- instructions

short_of : (fs : List Function) (k : ℕ) (f : Function) → AreShort fs → slice_get fs k ≡ Some f → length f.instrs < 4294967295
short_of [] k f h e = cc
short_of (g ∷ gs) zero f h e = subst (λ (x : Function). length x.instrs < 4294967295) (same_Some g f e) h.0
short_of (g ∷ gs) (suc k) f h e = short_of gs k f h.1 e

-- where there is an instruction, neither number was cut off, and where there is none, there is none at the greatest numbers
instr_kept : (fs : List Function) (k at : ℕ) → AreShort fs → length fs ≤ 2 ^ 20 → is_some (instr_in (slice_get fs k) at) ≡ true → (min k word_most ≡ k) × (min at word_most ≡ at)
instr_kept fs k at short few e = by (slice_get fs k) refl e
  where
    by : (o : Option Function) → slice_get fs k ≡ o → is_some (instr_in o at) ≡ true → (min k word_most ≡ k) × (min at word_most ≡ at)
    by None is h = absurd (true≢false (sym h))
    by (Some f) is h =
        let within = slice_get_within fs k f is in
        let size = short_of fs k f short is in
        let inside = there (slice_get f.instrs at) refl h in
        (let a : k < length fs = within in omega arith, let b : at < length f.instrs = inside in omega arith)
      where
        there : (o : Option Instr) → slice_get f.instrs at ≡ o → is_some o ≡ true → at < length f.instrs
        there None is_none h = absurd (true≢false (sym h))
        there (Some i) is_some_of h = slice_get_within f.instrs at i is_some_of

none_there : (fs : List Function) (k at : ℕ) → AreShort fs → length fs ≤ 2 ^ 20 → is_some (instr_in (slice_get fs k) at) ≡ false → is_some (instr_in (slice_get fs (min k word_most)) (min at word_most)) ≡ false
none_there fs k at short few e =
    ⊎_elim
    (λ lt.
    let same : min k word_most ≡ k = omega arith in
    ap (λ (z : ℕ). is_some (instr_in (slice_get fs z) (min at word_most))) same
    ∙ ⊎_elim (λ low. let kept : min at word_most ≡ at = omega arith in ap (λ (z : ℕ). is_some (instr_in (slice_get fs k) z)) kept ∙ e) (λ high. past (slice_get fs k) refl high) (cases_lt at 4294967295))
    (λ ge. ap (λ (o : Option Function). is_some (instr_in o (min at word_most))) (slice_get_past fs (min k word_most) (omega arith)))
    (cases_lt k 4294967295)
  where
    past : (o : Option Function) → slice_get fs k ≡ o → 4294967295 ≤ at → is_some (instr_in (slice_get fs k) (min at word_most)) ≡ false
    past None is high = ap (λ (o : Option Function). is_some (instr_in o (min at word_most))) is
    past (Some f) is high =
        let size = short_of fs k f short is in
        ap (λ (o : Option Function). is_some (instr_in o (min at word_most))) is ∙ ap is_some (slice_get_past f.instrs (min at word_most) (omega arith))

module _ (code : Code) (s : SetupView) (short : AreShort code.functions) (few : length code.functions ≤ 2 ^ 20) where
  -- ---- frames

  abbrev frame_tail : Option FramePart → FramePart → Bool
  frame_tail b g = (length g.registers == registers_in (slice_get code.functions g.function)) && (nat_le g.made most_made && (goes_on code s (act_at code (frame_of g)) g && is_called code b g.function))

  pub frame_same : (b : Option FramePart) (f : FramePart) → frame_fits code s b f ≡ frame_fits code s b (clipped_frame f)
  frame_same b f = by (is_some (instr_at code (frame_of f))) refl
    where
      by : (t : Bool) → is_some (instr_at code (frame_of f)) ≡ t → frame_fits code s b f ≡ frame_fits code s b (clipped_frame f)
      by true e =
          let k = instr_kept code.functions f.function f.instr short few e in
          let cut = clip_le f.made most_made byte_most
          (λ m. goes_on code s (act_at code (frame_of f)) (record { function = f.function; instr = f.instr; made = m; kept = f.kept; registers = f.registers }) && is_called code b f.function) (omega arith) in
          ap (λ (z : Bool). is_some (instr_at code (frame_of f)) && ((length f.registers == registers_in (slice_get code.functions f.function)) && z)) cut
          ∙ sym (λ i. frame_fits code s b (record { function = k.0 i; instr = k.1 i; made = min f.made byte_most; kept = f.kept; registers = f.registers }))
      by false e = both_false (is_some (instr_at code (frame_of f))) (is_some (instr_at code (frame_of (clipped_frame f)))) (frame_tail b f) (frame_tail b (clipped_frame f)) e (none_there code.functions f.function f.instr short few e)

  pub frame_kept : (b : Option FramePart) (f : FramePart) → frame_fits code s b f ≡ true → clipped_frame f ≡ f
  frame_kept b f e =
      let p = and_parts (is_some (instr_at code (frame_of f))) ((length f.registers == registers_in (slice_get code.functions f.function)) && (nat_le f.made most_made && (goes_on code s (act_at code (frame_of f)) f && is_called code b f.function))) e in
      let q = and_parts (length f.registers == registers_in (slice_get code.functions f.function)) (nat_le f.made most_made && (goes_on code s (act_at code (frame_of f)) f && is_called code b f.function)) p.1 in
      let r = and_parts (nat_le f.made most_made) (goes_on code s (act_at code (frame_of f)) f && is_called code b f.function) q.1 in
      let k = instr_kept code.functions f.function f.instr short few p.0 in
      let m = kept_le f.made most_made byte_most r.0 (omega arith) in
      λ i. record { function = k.0 i; instr = k.1 i; made = m i; kept = f.kept; registers = f.registers }

  pub frames_alike : (b : Option FramePart) (fs : List FramePart) → Alike (frames_judged code s b fs) (frames_judged code s b (map clipped_frame fs))
  frames_alike b [] = tt
  frames_alike b (f ∷ fs) = (
    frame_same b f,
    λ t. subst (λ (g : FramePart). Alike (frames_judged code s (Some f) fs) (frames_judged code s (Some g) (map clipped_frame fs))) (sym (frame_kept b f t)) (frames_alike (Some f) fs),
  )

  pub frames_kept : (b : Option FramePart) (fs : List FramePart) → AllFit (frames_judged code s b fs) → map clipped_frame fs ≡ fs
  frames_kept b [] h = refl
  frames_kept b (f ∷ fs) h = let first = frame_kept b f h.0 in let rest = frames_kept (Some f) fs h.1 in λ i. first i ∷ rest i

  -- ---- stripes

  module _ (locks : length code.locks ≤ 65472) where
    -- a pair of the machine is the same pair cut off
    pair_same : (q p : ℕ × ℕ) → p.0 < 65535 → p.1 < 255 → ((q.0 == p.0) && (q.1 == p.1)) ≡ ((min q.0 half_most == p.0) && (min q.1 byte_most == p.1))
    pair_same q p low_l low_s = let a = eq_clip q.0 p.0 half_most low_l in let b = eq_clip q.1 p.1 byte_most low_s in λ i. a i && b i
      where
        eq_clip : (n k most : ℕ) → k < most → (n == k) ≡ (min n most == k)
        eq_clip n k most lt = grind (arith, nat_tests)

    has_same : (ps : List (ℕ × ℕ)) (p : ℕ × ℕ) → p.0 < 65535 → p.1 < 255 → has_pair ps p ≡ has_pair (map clipped_pair ps) p
    has_same [] p l x = refl
    has_same (q ∷ qs) p l x = let a = pair_same q p l x in let b = has_same qs p l x in λ i. a i || b i

    nesting_one : (r : RegionPart) (rs : List RegionPart) (p : ℕ × ℕ) → nesting_in (r ∷ rs) p ≡ cond (has_pair r.stripes p) 1 0 + nesting_in rs p
    nesting_one r rs p = sum_by-cons (λ (q : RegionPart). cond (has_pair q.stripes p) 1 0) r rs

    nesting_same : (rs : List RegionPart) (p : ℕ × ℕ) → p.0 < 65535 → p.1 < 255 → nesting_in rs p ≡ nesting_in (map clipped_region rs) p
    nesting_same [] p l x = refl
    nesting_same (r ∷ rs) p l x =
        nesting_one r rs p ∙ (λ i. cond {A = ℕ} (has_same r.stripes p l x i) 1 0 + nesting_same rs p l x i) ∙ sym (nesting_one (clipped_region r) (map clipped_region rs) p)

    at_most_one : (t : Bool) → cond {A = ℕ} t 1 0 ≤ 1
    at_most_one true = omega arith
    at_most_one false = omega arith

    nesting_few : (rs : List RegionPart) (p : ℕ × ℕ) → nesting_in rs p ≤ length rs
    nesting_few [] p = omega arith
    nesting_few (r ∷ rs) p =
        let rest = nesting_few rs p in
        let here = nesting_one r rs p in
        let one = at_most_one (has_pair r.stripes p) in
        omega arith

    module _ (regions : List RegionPart) (fewer : length regions < 4294967295) where
      number_same : (n k : ℕ) → k < 4294967295 → (nat_le 1 n && (n == k)) ≡ (nat_le 1 (min n word_most) && (min n word_most == k))
      number_same n k lt = (λ i. one i && same i)
        where
          one : nat_le 1 n ≡ nat_le 1 (min n word_most)
          one = grind (arith, nat_tests)

          same : (n == k) ≡ (min n word_most == k)
          same = grind (arith, nat_tests)

      abbrev stripe_tail : Option ℕ → List RegionPart → ℕ → ℕ → ℕ → Bool
      stripe_tail b rs l z n = is_after b (8 * l + z) && (nat_le 1 n && (n == nesting_in rs (l, z)))

      pub stripe_same : (b : Option ℕ) (x : StripePart) → stripe_fits code s regions b x ≡ stripe_fits code s (map clipped_region regions) b (clipped_stripe x)
      stripe_same b x = by (has_object code s (object.Weak x.lock x.stripe)) refl
        where
          by : (t : Bool) → has_object code s (object.Weak x.lock x.stripe) ≡ t → stripe_fits code s regions b x ≡ stripe_fits code s (map clipped_region regions) b (clipped_stripe x)
          by true e =
              let p = and_parts (nat_lt x.lock (length code.locks)) (nat_lt x.stripe 8) e in
              let low_l = ltb-true x.lock (length code.locks) p.0 in
              let low_s = ltb-true x.stripe 8 p.1 in
              let l : min x.lock half_most ≡ x.lock = omega arith in
              let z : min x.stripe byte_most ≡ x.stripe = omega arith in
              let bound = nesting_few (map clipped_region regions) (x.lock, x.stripe) in
              let many = length-map regions clipped_region in
              ap (λ (k : ℕ). has_object code s (object.Weak x.lock x.stripe) && (is_after b (8 * x.lock + x.stripe) && (nat_le 1 x.nesting && (x.nesting == k)))) (nesting_same regions (x.lock, x.stripe) (omega arith) (omega arith))
              ∙ ap (λ (t : Bool). has_object code s (object.Weak x.lock x.stripe) && (is_after b (8 * x.lock + x.stripe) && t)) (number_same x.nesting (nesting_in (map clipped_region regions) (x.lock, x.stripe)) (omega arith))
              ∙ sym (λ i. has_object code s (object.Weak (l i) (z i)) && stripe_tail b (map clipped_region regions) (l i) (z i) (min x.nesting word_most))
          by false e =
              let gone : has_object code s (object.Weak (min x.lock half_most) (min x.stripe byte_most)) ≡ false =
              sym (λ i. clip_lt_alone x.lock (length code.locks) half_most (omega arith) i && clip_lt_alone x.stripe 8 byte_most (omega arith) i) ∙ e in
              both_false (has_object code s (object.Weak x.lock x.stripe)) (has_object code s (object.Weak (min x.lock half_most) (min x.stripe byte_most))) (stripe_tail b regions x.lock x.stripe x.nesting) (stripe_tail b (map clipped_region regions) (min x.lock half_most) (min x.stripe byte_most) (min x.nesting word_most)) e gone

      pub stripe_kept : (b : Option ℕ) (x : StripePart) → stripe_fits code s regions b x ≡ true → clipped_stripe x ≡ x
      stripe_kept b x e =
          let there = has_object code s (object.Weak x.lock x.stripe) in
          let p = and_parts there (is_after b (8 * x.lock + x.stripe) && (nat_le 1 x.nesting && (x.nesting == nesting_in regions (x.lock, x.stripe)))) e in
          let q = and_parts (nat_lt x.lock (length code.locks)) (nat_lt x.stripe 8) p.0 in
          let r = and_parts (is_after b (8 * x.lock + x.stripe)) (nat_le 1 x.nesting && (x.nesting == nesting_in regions (x.lock, x.stripe))) p.1 in
          let u = and_parts (nat_le 1 x.nesting) (x.nesting == nesting_in regions (x.lock, x.stripe)) r.1 in
          let l = kept_lt x.lock (length code.locks) half_most q.0 (omega arith) in
          let z = kept_lt x.stripe 8 byte_most q.1 (omega arith) in
          let same = eqb-true x.nesting (nesting_in regions (x.lock, x.stripe)) u.1 in
          let bound = nesting_few regions (x.lock, x.stripe) in
          let n : min x.nesting word_most ≡ x.nesting = omega arith in
          λ i. record { lock = l i; stripe = z i; owed = x.owed; nesting = n i }

      pub stripes_alike : (b : Option ℕ) (xs : List StripePart) → Alike (stripes_judged code s regions b xs) (stripes_judged code s (map clipped_region regions) b (map clipped_stripe xs))
      stripes_alike b [] = tt
      stripes_alike b (x ∷ xs) = (
        stripe_same b x,
        λ t. subst (λ (y : StripePart). Alike (stripes_judged code s regions (Some (8 * x.lock + x.stripe)) xs) (stripes_judged code s (map clipped_region regions) (Some (8 * y.lock + y.stripe)) (map clipped_stripe xs))) (sym (stripe_kept b x t)) (stripes_alike (Some (8 * x.lock + x.stripe)) xs),
      )

      pub stripes_kept : (b : Option ℕ) (xs : List StripePart) → AllFit (stripes_judged code s regions b xs) → map clipped_stripe xs ≡ xs
      stripes_kept b [] h = refl
      stripes_kept b (x ∷ xs) h = let first = stripe_kept b x h.0 in let rest = stripes_kept (Some (8 * x.lock + x.stripe)) xs h.1 in λ i. first i ∷ rest i

    -- ---- regions

    -- each is one of the machine
    abbrev AreIn : List StripePart → Type 0
    AreIn xs = AllByRecursion (λ (x : StripePart). (x.lock < 65472) × (x.stripe < 8)) xs

    pub stripes_in : (regions : List RegionPart) (b : Option ℕ) (xs : List StripePart) → AllFit (stripes_judged code s regions b xs) → AreIn xs
    stripes_in regions b [] h = tt
    stripes_in regions b (x ∷ xs) h =
        let p = and_parts (has_object code s (object.Weak x.lock x.stripe)) (is_after b (8 * x.lock + x.stripe) && (nat_le 1 x.nesting && (x.nesting == nesting_in regions (x.lock, x.stripe)))) h.0 in
        let q = and_parts (nat_lt x.lock (length code.locks)) (nat_lt x.stripe 8) p.0 in
        let l = ltb-true x.lock (length code.locks) q.0 in
        ((omega arith, ltb-true x.stripe 8 q.1), stripes_in regions (Some (8 * x.lock + x.stripe)) xs h.1)

    among_same : (xs : List StripePart) (p : ℕ × ℕ) → AreIn xs → is_among xs p ≡ is_among xs (clipped_pair p)
    among_same [] p h = refl
    among_same (x ∷ xs) p h =
        let rest = among_same xs p h.1 in
        let l = h.0.0 in
        let z = h.0.1 in
        let a : (x.lock == p.0) ≡ (x.lock == min p.0 half_most) = grind (arith, nat_tests) in
        let b : (x.stripe == p.1) ≡ (x.stripe == min p.1 byte_most) = grind (arith, nat_tests) in
        λ i. (a i && b i) || rest i

    among_low : (xs : List StripePart) (p : ℕ × ℕ) → AreIn xs → is_among xs p ≡ true → (p.0 < 65472) × (p.1 < 8)
    among_low [] p h e = absurd (true≢false (sym e))
    among_low (x ∷ xs) p h e = by ((x.lock == p.0) && (x.stripe == p.1)) refl (among_low xs p h.1) e
      where
        by : (t : Bool) → ((x.lock == p.0) && (x.stripe == p.1)) ≡ t → (is_among xs p ≡ true → (p.0 < 65472) × (p.1 < 8)) → (t || is_among xs p) ≡ true → (p.0 < 65472) × (p.1 < 8)
        by true is rest k =
            let q = and_parts (x.lock == p.0) (x.stripe == p.1) is in
            let a = eqb-true x.lock p.0 q.0 in
            let b = eqb-true x.stripe p.1 q.1 in
            let l = h.0.0 in
            let z = h.0.1 in
            (omega arith, omega arith)
        by false is rest k = rest k

    pairs_kept : (xs : List StripePart) (ps : List (ℕ × ℕ)) → AreIn xs → list_all (is_among xs) ps ≡ true → map clipped_pair ps ≡ ps
    pairs_kept xs [] h e = refl
    pairs_kept xs (p ∷ ps) h e =
        let q = and_parts (is_among xs p) (list_all (is_among xs) ps) e in
        let low = among_low xs p h q.0 in
        let l = low.0 in
        let z = low.1 in
        let a : min p.0 half_most ≡ p.0 = omega arith in
        let b : min p.1 byte_most ≡ p.1 = omega arith in
        let rest = pairs_kept xs ps h q.1 in
        λ i. (a i, b i) ∷ rest i

    all_among_same : (xs : List StripePart) (ps : List (ℕ × ℕ)) → AreIn xs → list_all (is_among xs) ps ≡ list_all (is_among xs) (map clipped_pair ps)
    all_among_same xs [] h = refl
    all_among_same xs (p ∷ ps) h = let a = among_same xs p h in let b = all_among_same xs ps h in λ i. a i && b i

    pairs_same : (xs : List StripePart) (ps : List (ℕ × ℕ)) → AreIn xs → (all_differ ps && list_all (is_among xs) ps) ≡ (all_differ (map clipped_pair ps) && list_all (is_among xs) (map clipped_pair ps))
    pairs_same xs ps h = by (list_all (is_among xs) ps) refl
      where
        by : (t : Bool) → list_all (is_among xs) ps ≡ t → (all_differ ps && list_all (is_among xs) ps) ≡ (all_differ (map clipped_pair ps) && list_all (is_among xs) (map clipped_pair ps))
        by true e = ap (λ (qs : List (ℕ × ℕ)). all_differ qs && list_all (is_among xs) qs) (sym (pairs_kept xs ps h e))
        by false e = none (all_differ ps) (list_all (is_among xs) ps) e ∙ sym (none (all_differ (map clipped_pair ps)) (list_all (is_among xs) (map clipped_pair ps)) (sym (all_among_same xs ps h) ∙ e))
          where
            none : (a b : Bool) → b ≡ false → (a && b) ≡ false
            none true b e = e
            none false b e = refl

    module _ (frames : List FramePart) (xs : List StripePart) (inside : AreIn xs) (shallow : length frames < 4294967295) where
      -- the frame and the instruction of a region
      opens_parts : (f at : ℕ) → opens code (slice_get frames f) at ≡ true → (min f word_most ≡ f) × (min at word_most ≡ at)
      opens_parts f at e = by (slice_get frames f) refl e
        where
          by : (o : Option FramePart) → slice_get frames f ≡ o → opens code o at ≡ true → (min f word_most ≡ f) × (min at word_most ≡ at)
          by None is h = absurd (true≢false (sym h))
          by (Some g) is h =
              let within = slice_get_within frames f g is in
              (let a : f < length frames = within in omega arith, (instr_kept code.functions g.function at short few (some_take (instr_in (slice_get code.functions g.function) at) h)).1)
            where
              some_take : (o : Option Instr) → is_take (act_in o) ≡ true → is_some o ≡ true
              some_take None k = absurd (true≢false (sym k))
              some_take (Some i) k = refl

      opens_none : (f at : ℕ) → opens code (slice_get frames f) at ≡ false → opens code (slice_get frames (min f word_most)) (min at word_most) ≡ false
      opens_none f at e =
          ⊎_elim
          (λ lt. let same : min f word_most ≡ f = omega arith in ap (λ (z : ℕ). opens code (slice_get frames z) (min at word_most)) same ∙ at_frame (slice_get frames f) e)
          (λ ge. ap (λ (o : Option FramePart). opens code o (min at word_most)) (slice_get_past frames (min f word_most) (omega arith)))
          (cases_lt f 4294967295)
        where
          at_frame : (o : Option FramePart) → opens code o at ≡ false → opens code o (min at word_most) ≡ false
          at_frame None h = refl
          at_frame (Some g) h =
              ⊎_elim
              (λ low. let kept : min at word_most ≡ at = omega arith in ap (λ (z : ℕ). opens code (Some g) z) kept ∙ h)
              (λ high. past (slice_get code.functions g.function) refl high)
              (cases_lt at 4294967295)
            where
              past : (o : Option Function) → slice_get code.functions g.function ≡ o → 4294967295 ≤ at → opens code (Some g) (min at word_most) ≡ false
              past None is high = ap (λ (o : Option Function). is_take (act_in (instr_in o (min at word_most)))) is
              past (Some f) is high =
                  let size = short_of code.functions g.function f short is in
                  ap (λ (o : Option Function). is_take (act_in (instr_in o (min at word_most)))) is ∙ ap (λ (o : Option Instr). is_take (act_in o)) (slice_get_past f.instrs (min at word_most) (omega arith))

      abbrev region_tail : Option ℕ → ℕ → List (ℕ × ℕ) → Bool
      region_tail b f ps = is_from b f && (all_differ ps && list_all (is_among xs) ps)

      pub region_same : (b : Option ℕ) (r : RegionPart) → region_fits code frames xs b r ≡ region_fits code frames xs b (clipped_region r)
      region_same b r = by (opens code (slice_get frames r.frame) r.instr) refl
        where
          by : (t : Bool) → opens code (slice_get frames r.frame) r.instr ≡ t → region_fits code frames xs b r ≡ region_fits code frames xs b (clipped_region r)
          by true e =
              let k = opens_parts r.frame r.instr e in
              ap (λ (z : Bool). opens code (slice_get frames r.frame) r.instr && (is_from b r.frame && z)) (pairs_same xs r.stripes inside)
              ∙ sym (λ i. opens code (slice_get frames (k.0 i)) (k.1 i) && region_tail b (k.0 i) (map clipped_pair r.stripes))
          by false e = both_false (opens code (slice_get frames r.frame) r.instr) (opens code (slice_get frames (min r.frame word_most)) (min r.instr word_most)) (region_tail b r.frame r.stripes) (region_tail b (min r.frame word_most) (map clipped_pair r.stripes)) e (opens_none r.frame r.instr e)

      pub region_kept : (b : Option ℕ) (r : RegionPart) → region_fits code frames xs b r ≡ true → clipped_region r ≡ r
      region_kept b r e =
          let p = and_parts (opens code (slice_get frames r.frame) r.instr) (is_from b r.frame && (all_differ r.stripes && list_all (is_among xs) r.stripes)) e in
          let q = and_parts (is_from b r.frame) (all_differ r.stripes && list_all (is_among xs) r.stripes) p.1 in
          let u = and_parts (all_differ r.stripes) (list_all (is_among xs) r.stripes) q.1 in
          let k = opens_parts r.frame r.instr p.0 in
          let ps = pairs_kept xs r.stripes inside u.1 in
          λ i. record { frame = k.0 i; instr = k.1 i; stripes = ps i }

      pub regions_alike : (b : Option ℕ) (rs : List RegionPart) → Alike (regions_judged code frames xs b rs) (regions_judged code frames xs b (map clipped_region rs))
      regions_alike b [] = tt
      regions_alike b (r ∷ rs) = (
        region_same b r,
        λ t. subst (λ (q : RegionPart). Alike (regions_judged code frames xs (Some r.frame) rs) (regions_judged code frames xs (Some q.frame) (map clipped_region rs))) (sym (region_kept b r t)) (regions_alike (Some r.frame) rs),
      )

      pub regions_kept : (b : Option ℕ) (rs : List RegionPart) → AllFit (regions_judged code frames xs b rs) → map clipped_region rs ≡ rs
      regions_kept b [] h = refl
      regions_kept b (r ∷ rs) h = let first = region_kept b r h.0 in let rest = regions_kept (Some r.frame) rs h.1 in λ i. first i ∷ rest i

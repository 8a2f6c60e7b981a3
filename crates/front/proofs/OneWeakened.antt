-- A code and a profile have one answer of the analyses, and one weakened code.
use Rattle.std.proofs.Common.{◌≡◌, List, sym, ap, subst, ◌∙◌}
use Rattle.facts.specs.declared.locks.Summary.{Summary}
use Rattle.facts.specs.declared.pair.Pair.{Pair}
use Rattle.profiles.specs.declared.profile.Profile.{Profile}
use Rattle.facts.specs.Pairs.{ArePairs}
use Rattle.facts.specs.PointsTo.{Tables, IsPointsTo}
use Rattle.facts.specs.Summaries.{AreSummaries}
use Rattle.facts.proofs.Tables as tables
use Rattle.facts.proofs.Summaries as summaries
use Rattle.flow_code.specs.declared.code.Code.{Code}
use Rattle.weak_lock_facts.specs.declared.grain.Grained.{Grained}
use Rattle.weak_lock_facts.specs.declared.grain.Grains.{Grains}
use Rattle.weak_lock_facts.specs.Grains.{AreGrains}
use Rattle.weak_lock_facts.specs.Ranges.{ranges_of}
use Rattle.grain_choice.proofs.Unique as grains
use Rattle.weak_code.specs.Weakened.{weakened}
use Rattle.lock_sound.specs.Weakened.{Analysed, IsAnalysed}

-- the parts but the code and the profile
module _ (code : Code) (profile : Profile) where
  abbrev Fits : Tables → List Summary → List Pair → Grains → Code → Type 0
  Fits t ss vs g w = IsPointsTo code t × AreSummaries code ss × ArePairs code t ss vs × AreGrains code vs (ranges_of code t) profile g.rows × (w ≡ weakened code t vs (ranges_of code t) g.rows)

  same_grains : (g h : Grains) → g.rows ≡ h.rows → g ≡ h
  same_grains g h e = λ i. record { rows = e i }

  with_parts : Tables → List Summary → List Pair → Grains → Code → Analysed
  with_parts t ss vs g w = record { plain = code; points = t; summaries = ss; pairs = vs; profile = profile; grains = g; weak = w }

  same_weak : (t : Tables) (ss : List Summary) (vs : List Pair) (g h : Grains) (w x : Code) → Fits t ss vs g w → Fits t ss vs h x → with_parts t ss vs g w ≡ with_parts t ss vs h x
  same_weak t ss vs g h w x f k =
      let rows : g.rows ≡ h.rows = grains.one_list code vs (ranges_of code t) profile g.rows h.rows f.3 k.3 in
      let same : w ≡ x = f.4 ∙ ap (λ (r : List Grained). weakened code t vs (ranges_of code t) r) rows ∙ sym k.4 in
      λ i. with_parts t ss vs (same_grains g h rows i) (same i)

  same_pairs : (t : Tables) (ss : List Summary) (vs ws : List Pair) (g h : Grains) (w x : Code) → Fits t ss vs g w → Fits t ss ws h x → with_parts t ss vs g w ≡ with_parts t ss ws h x
  same_pairs t ss vs ws g h w x f k =
      let e : vs ≡ ws = summaries.one_list code t ss vs ws f.2 k.2 in
      subst (λ (us : List Pair). with_parts t ss vs g w ≡ with_parts t ss us h x) e (same_weak t ss vs g h w x f (subst (λ (us : List Pair). Fits t ss us h x) (sym e) k))

  same_parts : (t u : Tables) (ss rs : List Summary) (vs ws : List Pair) (g h : Grains) (w x : Code) → Fits t ss vs g w → Fits u rs ws h x → with_parts t ss vs g w ≡ with_parts u rs ws h x
  same_parts t u ss rs vs ws g h w x f k =
      let p : t ≡ u = tables.one_answer code t u f.0 k.0 in
      let s : ss ≡ rs = summaries.one_answer code ss rs f.1 k.1 in
      subst (λ (v : Tables). with_parts t ss vs g w ≡ with_parts v rs ws h x) p
      (subst (λ (qs : List Summary). with_parts t ss vs g w ≡ with_parts t qs ws h x) s
      (same_pairs t ss vs ws g h w x f (subst (λ (qs : List Summary). Fits t qs ws h x) (sym s) (subst (λ (v : Tables). Fits v rs ws h x) (sym p) k))))

fits : (code : Code) (profile : Profile) (a : Analysed) → IsAnalysed a → a.plain ≡ code → a.profile ≡ profile → Fits code profile a.points a.summaries a.pairs a.grains a.weak
fits code profile a h e f = subst (λ (q : Profile). Fits code q a.points a.summaries a.pairs a.grains a.weak) f (subst (λ (c : Code). Fits c a.profile a.points a.summaries a.pairs a.grains a.weak) e (h.points, h.summaries, h.pairs, h.grains, h.weak))

same_as : (code : Code) (profile : Profile) (a : Analysed) → a.plain ≡ code → a.profile ≡ profile → a ≡ with_parts code profile a.points a.summaries a.pairs a.grains a.weak
unfolding with_parts
same_as code profile a e f = λ i. record { plain = e i; points = a.points; summaries = a.summaries; pairs = a.pairs; profile = f i; grains = a.grains; weak = a.weak }

pub one_weakened : (a b : Analysed) → IsAnalysed a → IsAnalysed b → a.plain ≡ b.plain → a.profile ≡ b.profile → a ≡ b
one_weakened a b h k e f =
    same_as b.plain b.profile a e f
    ∙ same_parts b.plain b.profile a.points b.points a.summaries b.summaries a.pairs b.pairs a.grains b.grains a.weak b.weak (fits b.plain b.profile a h e f) (fits b.plain b.profile b k (λ i. b.plain) (λ i. b.profile))
    ∙ sym (same_as b.plain b.profile b (λ i. b.plain) (λ i. b.profile))

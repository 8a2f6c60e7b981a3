-- The global cells of a sound core tree fit its code.
use Rattle.std.proofs.Common.{◌≡◌, ◌⊎◌, ⊎_elim, ℕ, zero, suc, ◌+◌, ◌<◌, ◌≤◌, ◌^◌, Bool, true, false, ◌&&◌, ◌==◌, nat_le, cond, List, [], ◌∷◌, length, drop, Option, Some, None, slice_get, slice_index_or, refl, sym, ◌∙◌, ap, subst, arith}
use Rattle.std.proofs.lemmas.Bool.{and_parts, and_from, or_left, or_right, leb-true, le-leb, eqb-false, eq-eqb}
use Rattle.rr_base.proofs.Lists.{slice_get-drop}
use Rattle.rr_base.specs.Words.{pack, site_of}
use Rattle.rr_base.proofs.WordLaws.{site_of-pack}
use Rattle.rr_base.specs.declared.layout.CellKind.{CellKind}
use Rattle.rr_base.specs.declared.layout.CellKind.TheVariants as kind
use Rattle.rr_base.specs.declared.layout.Layout.{Layout}
use Rattle.rr_base.specs.declared.layout.Site.{Site}
use Rattle.word_semantics.specs.Pointers.{site_at, base_at, same_kind}
use Rattle.word_semantics.specs.Cells.{size_in, size_of}
use Rattle.word_semantics.specs.Layouts.{layout_fits, sites_fit}
use Rattle.flow_code.specs.Addresses.{address_at, whole_object, address_of, is_given, is_address, lies_apart, all_apart, begin_with, object_fits, objects_fit, word_fits, words_fit, globals_fit}
use Rattle.core_tree.specs.Core.{Program}
use Rattle.flow_lower.specs.Lowered.{lowered}
use Rattle.core_tree.specs.Sound.{IsAddress, AreAtHome}

-- ---- kinds of cells

same : (k : CellKind) → same_kind k k ≡ true
same kind.Whole = refl
same kind.Pointer = refl
same kind.Mutex = refl
same kind.Cond = refl
same kind.Barrier = refl
same kind.Rw = refl

begin_is : (ks ws : List CellKind) → ((j : ℕ) (c : CellKind) → slice_get ws j ≡ Some c → slice_get ks j ≡ Some c) → begin_with ks ws ≡ true
begin_is ks [] h = refl
begin_is [] (w ∷ ws) h = let none : None ≡ Some w = h 0 w refl in absurd cc
begin_is (k ∷ ks) (w ∷ ws) h =
    let first : Some k ≡ Some w = h 0 w refl in
    let equal : k ≡ w = cc in
    and_from (same_kind k w) (begin_with ks ws) (subst (λ x. same_kind k x ≡ true) equal (same k)) (begin_is ks ws (λ j. h (suc j)))

-- ---- sites

layout_of : (sites : List Site) (k : ℕ) (site : Site) → sites_fit sites ≡ true → slice_get sites k ≡ Some site → layout_fits site.layout ≡ true
layout_of [] k site h e = absurd cc
layout_of (x ∷ sites) zero site h e = let same' : x ≡ site = cc in subst (λ y. layout_fits y.layout ≡ true) same' (and_parts (layout_fits x.layout) (sites_fit sites) h).0
layout_of (x ∷ sites) (suc k) site h e = layout_of sites k site (and_parts (layout_fits x.layout) (sites_fit sites) h).1 e

at_most : (l : Layout) → layout_fits l ≡ true → l.size ≤ 65535
at_most l h =
    let a = (and_parts (nat_le 1 l.size && nat_le l.size 65535 && (length l.kinds == l.size) && nat_le 1 l.element) _ h).0 in
    let b = (and_parts (nat_le 1 l.size && nat_le l.size 65535 && (length l.kinds == l.size)) (nat_le 1 l.element) a).0 in
    let c = (and_parts (nat_le 1 l.size && nat_le l.size 65535) (length l.kinds == l.size) b).0 in
    leb-true l.size 65535 (and_parts (nat_le 1 l.size) (nat_le l.size 65535) c).1

module _ (p : Program) (homes : AreAtHome p (base_at p.global_bases)) (layouts : sites_fit p.sites ≡ true) (few_cells : length p.globals ≤ 2 ^ 20) where
  abbrev home : ℕ → Option ℕ
  home = base_at p.global_bases

  -- ---- addresses

  small : (s : ℕ) (site : Site) → site_at p.sites s ≡ Some site → site.layout.size ≤ 65535
  small zero site e = absurd cc
  small (suc k) site e = at_most site.layout (layout_of p.sites k site layouts e)

  site_is : (w s base : ℕ) → home s ≡ Some base → w ≡ pack s base (size_of p.sites s) 0 → site_of w ≡ s
  site_is w s base e is =
      let there = homes.there s base e in
      let size : size_of p.sites s ≡ there.0.layout.size = ap size_in there.1 in
      let within : base + size_of p.sites s ≤ length p.globals = omega (arith, size, there.2.within) in
      ap site_of is ∙ site_of-pack s base (size_of p.sites s) 0 (omega (arith, within, few_cells)) (omega (arith, size, small s there.0 there.1)) (omega arith)

  pub address_is : (w : ℕ) → IsAddress p home w → is_address (lowered p) w ≡ true
  address_is w h =
      let s = h.0 in
      let base = h.1 in
      let there = homes.there s base h.2 in
      let size : size_of p.sites s ≡ there.0.layout.size = ap size_in there.1 in
      ap (λ t. is_given w (address_of (lowered p) t)) (site_is w s base h.2 h.3)
      ∙ ap (λ o. is_given w (whole_object s o (home s))) there.1
      ∙ ap (λ o. is_given w (whole_object s (Some there.0) o)) h.2
      ∙ eq-eqb w (pack s base there.0.layout.size 0) (h.3 ∙ ap (λ n. pack s base n 0) size)

  -- ---- start words

  word_is : (k : CellKind) (w : ℕ) → (k ≡ kind.Pointer → (w ≡ 0) ⊎ IsAddress p home w) → word_fits (lowered p) (address_at k w) ≡ true
  word_is kind.Pointer w h = by (w == 0) refl (h refl)
    where
      by : (b : Bool) → (w == 0) ≡ b → (w ≡ 0) ⊎ IsAddress p home w → word_fits (lowered p) (cond b None (Some w)) ≡ true
      by true e o = refl
      by false e o = ⊎_elim (λ zero'. absurd (eqb-false w 0 e zero')) (λ there. address_is w there) o
  word_is kind.Whole w h = refl
  word_is kind.Mutex w h = refl
  word_is kind.Cond w h = refl
  word_is kind.Barrier w h = refl
  word_is kind.Rw w h = refl

  words_are : (ks : List CellKind) (ws : List ℕ) → ((j w : ℕ) → slice_get ks j ≡ Some kind.Pointer → slice_get ws j ≡ Some w → (w ≡ 0) ⊎ IsAddress p home w) → words_fit (lowered p) ks ws ≡ true
  words_are [] ws h = refl
  words_are (k ∷ ks) [] h = refl
  words_are (k ∷ ks) (w ∷ ws) h =
      and_from (word_fits (lowered p) (address_at k w)) (words_fit (lowered p) ks ws) (word_is k w (λ e. h 0 w (ap Some e) refl)) (words_are ks ws (λ j. h (suc j)))

  -- ---- objects

  -- these are what the sites from s on have
  record AreFrom (s : ℕ) (bases : List (Option ℕ)) (sites : List Site) : Type 0 where
    bases_are : (j n base : ℕ) → n ≡ s + j → slice_index_or bases j None ≡ Some base → home n ≡ Some base
    sites_are : (j n : ℕ) (site : Site) → n ≡ s + j → slice_get sites j ≡ Some site → site_at p.sites n ≡ Some site

  later : (s : ℕ) (b : Option ℕ) (site : Site) (bases : List (Option ℕ)) (sites : List Site) → AreFrom s (b ∷ bases) (site ∷ sites) → AreFrom (s + 1) bases sites
  later s b site bases sites h = record {
    bases_are = λ j n base e is. h.bases_are (suc j) n base (omega (arith, e)) is;
    sites_are = λ j n x e is. h.sites_are (suc j) n x (omega (arith, e)) is;
  }

  -- the object of the site s, the first cell of which is `base`, and that of a later one
  two_apart : (s t base : ℕ) (own other : Site) (o : Option ℕ) → s < t → home s ≡ Some base → site_at p.sites s ≡ Some own → ((c : ℕ) → o ≡ Some c → home t ≡ Some c) → site_at p.sites t ≡ Some other → lies_apart base own.layout.size o other ≡ true
  two_apart s t base own other None lt e is e' is' = refl
  two_apart s t base own other (Some c) lt e is e' is' =
      let size : size_of p.sites s ≡ own.layout.size = ap size_in is in
      let size' : size_of p.sites t ≡ other.layout.size = ap size_in is' in
      ⊎_elim (λ le. or_left (nat_le (base + own.layout.size) c) (nat_le (c + other.layout.size) base) (le-leb (base + own.layout.size) c (omega (arith, le, size))))
      (λ le. or_right (nat_le (base + own.layout.size) c) (nat_le (c + other.layout.size) base) (le-leb (c + other.layout.size) base (omega (arith, le, size'))))
      (homes.apart s t base c e (e' c refl) (λ same'. omega (arith, lt, same')))

  apart_from : (s t base : ℕ) (own : Site) (bases : List (Option ℕ)) (sites : List Site) → s < t → home s ≡ Some base → site_at p.sites s ≡ Some own → AreFrom t bases sites → all_apart base own.layout.size bases sites ≡ true
  apart_from s t base own [] sites lt e is h = refl
  apart_from s t base own (b ∷ bases) [] lt e is h = refl
  apart_from s t base own (b ∷ bases) (site ∷ sites) lt e is h =
      and_from (lies_apart base own.layout.size b site) (all_apart base own.layout.size bases sites)
      (two_apart s t base own site b lt e is (λ c same'. h.bases_are 0 t c (omega arith) same') (h.sites_are 0 t site (omega arith) refl))
      (apart_from s (t + 1) base own bases sites (omega (arith, lt)) e is (later t b site bases sites h))

  object_is : (s : ℕ) (b : Option ℕ) (site : Site) (bases : List (Option ℕ)) (sites : List Site) → ((base : ℕ) → b ≡ Some base → home s ≡ Some base) → site_at p.sites s ≡ Some site → AreFrom (s + 1) bases sites → object_fits (lowered p) b site bases sites ≡ true
  object_is s None site bases sites e is h = refl
  object_is s (Some base) site bases sites e is h =
      let there = homes.there s base (e base refl) in
      let found : Some there.0 ≡ Some site = sym there.1 ∙ is in
      let equal : there.0 ≡ site = cc in
      let within : base + site.layout.size ≤ length p.globals = subst (λ (x : Site). base + x.layout.size ≤ length p.globals) equal there.2.within in
      and_from (nat_le (base + site.layout.size) (length p.globals) && begin_with (drop base p.global_kinds) site.layout.kinds) (all_apart base site.layout.size bases sites)
      (and_from (nat_le (base + site.layout.size) (length p.globals)) (begin_with (drop base p.global_kinds) site.layout.kinds)
      (le-leb (base + site.layout.size) (length p.globals) within)
      (begin_is (drop base p.global_kinds) site.layout.kinds (λ j c g. slice_get-drop base p.global_kinds j ∙ there.2.kinds j c (subst (λ (x : Site). slice_get x.layout.kinds j ≡ Some c) (sym equal) g))))
      (apart_from s (s + 1) base site bases sites (omega arith) (e base refl) is h)

  objects_are : (s : ℕ) (bases : List (Option ℕ)) (sites : List Site) → AreFrom s bases sites → objects_fit (lowered p) bases sites ≡ true
  objects_are s [] sites h = refl
  objects_are s (b ∷ bases) [] h = refl
  objects_are s (b ∷ bases) (site ∷ sites) h =
      and_from (object_fits (lowered p) b site bases sites) (objects_fit (lowered p) bases sites)
      (object_is s b site bases sites (λ base same'. h.bases_are 0 s base (omega arith) same') (h.sites_are 0 s site (omega arith) refl) (later s b site bases sites h))
      (objects_are (s + 1) bases sites (later s b site bases sites h))

  base_numbered : (n j base : ℕ) → n ≡ 1 + j → slice_index_or p.global_bases j None ≡ Some base → home n ≡ Some base
  base_numbered zero j base e h = absurd (omega (arith, e))
  base_numbered (suc m) j base e h = let same' : j ≡ m = omega (arith, e) in subst (λ i. slice_index_or p.global_bases i None ≡ Some base) same' h

  site_numbered : (n j : ℕ) (site : Site) → n ≡ 1 + j → slice_get p.sites j ≡ Some site → site_at p.sites n ≡ Some site
  site_numbered zero j site e h = absurd (omega (arith, e))
  site_numbered (suc m) j site e h = let same' : j ≡ m = omega (arith, e) in subst (λ i. slice_get p.sites i ≡ Some site) same' h

  pub globals_are : length p.global_kinds ≡ length p.globals → length p.global_bases ≡ length p.sites → globals_fit (lowered p) ≡ true
  globals_are kinds bases =
      and_from ((length p.global_kinds == length p.globals) && (length p.global_bases == length p.sites) && words_fit (lowered p) p.global_kinds p.globals) (objects_fit (lowered p) p.global_bases p.sites)
      (and_from ((length p.global_kinds == length p.globals) && (length p.global_bases == length p.sites)) (words_fit (lowered p) p.global_kinds p.globals)
      (and_from (length p.global_kinds == length p.globals) (length p.global_bases == length p.sites) (eq-eqb (length p.global_kinds) (length p.globals) kinds) (eq-eqb (length p.global_bases) (length p.sites) bases))
      (words_are p.global_kinds p.globals homes.words))
      (objects_are 1 p.global_bases p.sites (record {
        bases_are = λ j n base e is. base_numbered n j base e is;
        sites_are = λ j n site e is. site_numbered n j site e is;
      }))

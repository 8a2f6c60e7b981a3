-- The objects of globals in a code whose globals fit: where they lie, and what their addresses are.
use Rattle.std.proofs.Common.{◌≡◌, ℕ, zero, suc, ◌+◌, ◌^◌, ◌<◌, ◌≤◌, ◌⊎◌, inl, inr, Bool, true, false, List, [], ◌∷◌, length, drop, Option, Some, None, refl, sym, ap, subst, ◌∙◌, arith, nat_le, eqb-true}
use Rattle.std.specs.Prelude.{slice_get, slice_index_or, ◌&&◌, ◌||◌, ◌==◌}
use Rattle.std.proofs.lemmas.Bool.{leb-true}
use Rattle.std.proofs.lemmas.Bool.Decides.{nat_tests}
use Rattle.std.proofs.lemmas.Option.{slice_get_within}
use Rattle.rr_base.specs.Words.{site_of, base_of, length_of, offset_of, pack}
use Rattle.rr_base.proofs.WordLaws.{base_of-pack, length_of-pack, offset_of-pack}
use Rattle.rr_base.specs.declared.layout.Site.{Site}
use Rattle.word_semantics.specs.Pointers.{site_at, base_at}
use Rattle.word_semantics.specs.Cells.{size_in, size_of}
use Rattle.flow_code.specs.declared.code.Code.{Code}
use Rattle.flow_code.specs.Addresses.{whole_object, is_given, is_address, begin_with, lies_apart, all_apart, object_fits, objects_fit, words_fit, globals_fit}
use Rattle.flow_code.specs.Kinds.{is_site}
use Rattle.flow_code.specs.Valid.{is_valid}
use Rattle.flow_code.proofs.ValidParts.{left, right, some_is, few_globals, layout_is_fit, globals_are_fit}

-- ---- the parts of a code whose globals fit

module _ (code : Code) (fit : globals_fit code ≡ true) where
  before_objects : ((length code.global_kinds == length code.globals) && (length code.global_bases == length code.sites) && words_fit code code.global_kinds code.globals) ≡ true
  before_objects = left _ (objects_fit code code.global_bases code.sites) fit

  before_words : ((length code.global_kinds == length code.globals) && (length code.global_bases == length code.sites)) ≡ true
  before_words = left _ (words_fit code code.global_kinds code.globals) before_objects

  pub kinds_are_all : length code.global_kinds ≡ length code.globals
  kinds_are_all = eqb-true (length code.global_kinds) (length code.globals) (left (length code.global_kinds == length code.globals) (length code.global_bases == length code.sites) before_words)

  pub bases_are_all : length code.global_bases ≡ length code.sites
  bases_are_all = eqb-true (length code.global_bases) (length code.sites) (right (length code.global_kinds == length code.globals) (length code.global_bases == length code.sites) before_words)

  pub words_do_fit : words_fit code code.global_kinds code.globals ≡ true
  words_do_fit = right ((length code.global_kinds == length code.globals) && (length code.global_bases == length code.sites)) (words_fit code code.global_kinds code.globals) before_objects

  pub objects_do_fit : objects_fit code code.global_bases code.sites ≡ true
  objects_do_fit = right ((length code.global_kinds == length code.globals) && (length code.global_bases == length code.sites) && words_fit code code.global_kinds code.globals) (objects_fit code code.global_bases code.sites) fit

-- ---- where the object of a site lies

record Lies (code : Code) (found : Option Site) (base : ℕ) : Type 0 where
  site : Site
  is_found : found ≡ Some site
  within : base + site.layout.size ≤ length code.globals
  kinds : begin_with (drop base code.global_kinds) site.layout.kinds ≡ true

object_lies : (code : Code) (o : Option ℕ) (site : Site) (bases : List (Option ℕ)) (sites : List Site) (base : ℕ) → object_fits code o site bases sites ≡ true → o ≡ Some base → Lies code (Some site) base
object_lies code None site bases sites base h e = cc
object_lies code (Some b) site bases sites base h e = subst (Lies code (Some site)) (some_is b base e) (let
    first = left (nat_le (b + site.layout.size) (length code.globals) && begin_with (drop b code.global_kinds) site.layout.kinds) (all_apart b site.layout.size bases sites) h
    in record {
      site = site;
      is_found = refl;
      within = leb-true (b + site.layout.size) (length code.globals) (left (nat_le (b + site.layout.size) (length code.globals)) (begin_with (drop b code.global_kinds) site.layout.kinds) first);
      kinds = right (nat_le (b + site.layout.size) (length code.globals)) (begin_with (drop b code.global_kinds) site.layout.kinds) first;
    })

lies_in : (code : Code) (bases : List (Option ℕ)) (sites : List Site) (k base : ℕ) → length bases ≡ length sites → objects_fit code bases sites ≡ true → slice_index_or bases k None ≡ Some base → Lies code (slice_get sites k) base
lies_in code [] sites k base n h e = cc
lies_in code (o ∷ os) [] k base n h e = absurd (omega (arith, n))
lies_in code (o ∷ os) (site ∷ sites) zero base n h e = object_lies code o site os sites base (left (object_fits code o site os sites) (objects_fit code os sites) h) e
lies_in code (o ∷ os) (site ∷ sites) (suc k) base n h e = lies_in code os sites k base (omega (arith, n)) (right (object_fits code o site os sites) (objects_fit code os sites) h) e

-- the object of the site lies at these global cells, and they have its kinds
pub record LiesAt (code : Code) (s base : ℕ) : Type 0 where
  pub site : Site
  pub is_site : site_at code.sites s ≡ Some site
  pub within : base + site.layout.size ≤ length code.globals
  pub kinds : begin_with (drop base code.global_kinds) site.layout.kinds ≡ true

pub lies_at : (code : Code) → globals_fit code ≡ true → (s base : ℕ) → base_at code.global_bases s ≡ Some base → LiesAt code s base
lies_at code fit zero base e = cc
lies_at code fit (suc k) base e =
    let l = lies_in code code.global_bases code.sites k base (bases_are_all code fit) (objects_do_fit code fit) e in
    record { site = l.site; is_site = l.is_found; within = l.within; kinds = l.kinds }

-- ---- the objects of two sites lie apart

abbrev Apart : (b m c n : ℕ) → Type 0
Apart b m c n = (b + m ≤ c) ⊎ (c + n ≤ b)

either_within : (a b c d : ℕ) → (nat_le a b || nat_le c d) ≡ true → (a ≤ b) ⊎ (c ≤ d)
either_within a b c d h = by (nat_le a b) refl h
  where
    by : (t : Bool) → nat_le a b ≡ t → (t || nat_le c d) ≡ true → (a ≤ b) ⊎ (c ≤ d)
    by true e g = inl (leb-true a b e)
    by false e g = inr (leb-true c d g)

one_apart : (b m : ℕ) (o : Option ℕ) (site : Site) (c : ℕ) → lies_apart b m o site ≡ true → o ≡ Some c → Apart b m c site.layout.size
one_apart b m None site c h e = cc
one_apart b m (Some d) site c h e = subst (λ x. Apart b m x site.layout.size) (some_is d c e) (either_within (b + m) d (d + site.layout.size) b h)

each_apart : (b m : ℕ) (bases : List (Option ℕ)) (sites : List Site) (k c : ℕ) → length bases ≡ length sites → all_apart b m bases sites ≡ true → slice_index_or bases k None ≡ Some c → Apart b m c (size_in (slice_get sites k))
each_apart b m [] sites k c n h e = cc
each_apart b m (o ∷ os) [] k c n h e = absurd (omega (arith, n))
each_apart b m (o ∷ os) (site ∷ sites) zero c n h e = one_apart b m o site c (left (lies_apart b m o site) (all_apart b m os sites) h) e
each_apart b m (o ∷ os) (site ∷ sites) (suc k) c n h e = each_apart b m os sites k c (omega (arith, n)) (right (lies_apart b m o site) (all_apart b m os sites) h) e

later_apart : (code : Code) (o : Option ℕ) (site : Site) (bases : List (Option ℕ)) (sites : List Site) (k b c : ℕ) → length bases ≡ length sites → object_fits code o site bases sites ≡ true → o ≡ Some b → slice_index_or bases k None ≡ Some c → Apart b site.layout.size c (size_in (slice_get sites k))
later_apart code None site bases sites k b c n h e g = cc
later_apart code (Some d) site bases sites k b c n h e g =
    subst (λ x. Apart x site.layout.size c (size_in (slice_get sites k))) (some_is d b e)
    (each_apart d site.layout.size bases sites k c n (right (nat_le (d + site.layout.size) (length code.globals) && begin_with (drop d code.global_kinds) site.layout.kinds) (all_apart d site.layout.size bases sites) h) g)

-- of two places, the first before the second
in_turn : (code : Code) (bases : List (Option ℕ)) (sites : List Site) (j k b c : ℕ) → length bases ≡ length sites → objects_fit code bases sites ≡ true → j < k → slice_index_or bases j None ≡ Some b → slice_index_or bases k None ≡ Some c → Apart b (size_in (slice_get sites j)) c (size_in (slice_get sites k))
in_turn code [] sites j k b c n h lt e g = cc
in_turn code (o ∷ os) [] j k b c n h lt e g = absurd (omega (arith, n))
in_turn code (o ∷ os) (site ∷ sites) j zero b c n h lt e g = absurd (omega (arith, lt))
in_turn code (o ∷ os) (site ∷ sites) zero (suc k) b c n h lt e g = later_apart code o site os sites k b c (omega (arith, n)) (left (object_fits code o site os sites) (objects_fit code os sites) h) e g
in_turn code (o ∷ os) (site ∷ sites) (suc j) (suc k) b c n h lt e g = in_turn code os sites j k b c (omega (arith, n)) (right (object_fits code o site os sites) (objects_fit code os sites) h) (omega (arith, lt)) e g

turned : (b m c n : ℕ) → Apart b m c n → Apart c n b m
turned b m c n (inl h) = inr h
turned b m c n (inr h) = inl h

pub objects_apart : (code : Code) → globals_fit code ≡ true → (s t b c : ℕ) → base_at code.global_bases s ≡ Some b → base_at code.global_bases t ≡ Some c → (s ≡ t → ⊥) → (b + size_of code.sites s ≤ c) ⊎ (c + size_of code.sites t ≤ b)
objects_apart code fit zero t b c e g other = cc
objects_apart code fit (suc j) zero b c e g other = cc
objects_apart code fit (suc j) (suc k) b c e g other = by (order j k)
  where
    order : (x y : ℕ) → (x < y) ⊎ ((y < x) ⊎ (x ≡ y))
    order zero zero = inr (inr refl)
    order zero (suc y) = inl (omega arith)
    order (suc x) zero = inr (inl (omega arith))
    order (suc x) (suc y) = up (order x y)
      where
        up : (x < y) ⊎ ((y < x) ⊎ (x ≡ y)) → (suc x < suc y) ⊎ ((suc y < suc x) ⊎ (suc x ≡ suc y))
        up (inl h) = inl (omega (arith, h))
        up (inr (inl h)) = inr (inl (omega (arith, h)))
        up (inr (inr h)) = inr (inr (ap suc h))

    by : (j < k) ⊎ ((k < j) ⊎ (j ≡ k)) → (b + size_of code.sites (suc j) ≤ c) ⊎ (c + size_of code.sites (suc k) ≤ b)
    by (inl h) = in_turn code code.global_bases code.sites j k b c (bases_are_all code fit) (objects_do_fit code fit) h e g
    by (inr (inl h)) = turned c (size_of code.sites (suc k)) b (size_of code.sites (suc j)) (in_turn code code.global_bases code.sites k j c b (bases_are_all code fit) (objects_do_fit code fit) h g e)
    by (inr (inr h)) = absurd (other (ap suc h))

-- ---- addresses

-- the word is the pointer to the whole object of its site, which begins at a global cell
pub record IsAddressOf (code : Code) (w : ℕ) : Type 0 where
  pub base : ℕ
  pub site : Site
  pub is_site : site_at code.sites (site_of w) ≡ Some site
  pub is_base : base_at code.global_bases (site_of w) ≡ Some base
  pub is_word : w ≡ pack (site_of w) base site.layout.size 0

pub address_parts : (code : Code) (w : ℕ) → is_address code w ≡ true → IsAddressOf code w
address_parts code w h = by (site_at code.sites (site_of w)) (base_at code.global_bases (site_of w)) refl refl h
  where
    by : (o : Option Site) (b : Option ℕ) → site_at code.sites (site_of w) ≡ o → base_at code.global_bases (site_of w) ≡ b → is_given w (whole_object (site_of w) o b) ≡ true → IsAddressOf code w
    by None b e f g = cc
    by (Some site) None e f g = cc
    by (Some site) (Some base) e f g = record { base = base; site = site; is_site = e; is_base = f; is_word = eqb-true w (pack (site_of w) base site.layout.size 0) g }

-- a site that is found has a number of the code's
found_is : (code : Code) (s : ℕ) (site : Site) → site_at code.sites s ≡ Some site → is_site code s ≡ true
found_is code zero site e = cc
found_is code (suc k) site e = let lt = slice_get_within code.sites k site e in grind (arith, lt)

pub address_site : (code : Code) (w : ℕ) → is_address code w ≡ true → is_site code (site_of w) ≡ true
address_site code w h = let a = address_parts code w h in found_is code (site_of w) a.site a.is_site

-- the word's parts, in a valid code
pub record IsWhole (code : Code) (w : ℕ) : Type 0 where
  pub cells : length_of w ≡ size_of code.sites (site_of w)
  pub offset : offset_of w ≡ 0
  pub first : base_at code.global_bases (site_of w) ≡ Some (base_of w)
  pub within : base_of w + length_of w ≤ length code.globals

few_cells : (code : Code) → is_valid code ≡ true → (s : ℕ) (site : Site) → site_at code.sites s ≡ Some site → site.layout.size ≤ 65535
few_cells code valid zero site e = cc
few_cells code valid (suc k) site e = let fit = layout_is_fit code valid k site e in grind (arith, nat_tests, fit)

pub address_whole : (code : Code) → is_valid code ≡ true → (w : ℕ) → is_address code w ≡ true → IsWhole code w
address_whole code valid w h = by (address_parts code w h)
  where
    by : IsAddressOf code w → IsWhole code w
    by a =
        let size = few_cells code valid (site_of w) a.site a.is_site in
        let lies = lies_at code (globals_are_fit code valid) (site_of w) a.base a.is_base in
        let same : lies.site ≡ a.site = some_is lies.site a.site (sym lies.is_site ∙ a.is_site) in
        let within : a.base + a.site.layout.size ≤ length code.globals = subst (λ (x : Site). a.base + x.layout.size ≤ length code.globals) same lies.within in
        let globals = few_globals code valid in
        let low : a.base < 2 ^ 22 = omega (arith, within, globals) in
        let narrow : a.site.layout.size < 2 ^ 16 = omega (arith, size) in
        let here : 0 < 2 ^ 16 = omega arith in
        let base : base_of w ≡ a.base = ap base_of a.is_word ∙ base_of-pack (site_of w) a.base a.site.layout.size 0 low narrow here in
        let cells : length_of w ≡ a.site.layout.size = ap length_of a.is_word ∙ length_of-pack (site_of w) a.base a.site.layout.size 0 low narrow here in
        record {
          cells = cells ∙ sym (ap size_in a.is_site);
          offset = ap offset_of a.is_word ∙ offset_of-pack (site_of w) a.base a.site.layout.size 0 low narrow here;
          first = a.is_base ∙ ap (λ (n : ℕ). Some n) (sym base);
          within = omega (arith, within, base, cells);
        }

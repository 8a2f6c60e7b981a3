-- The objects of globals in a valid code: each lies within the global cells, and an address is the pointer to one of them.
use Rattle.std.proofs.Common.{◌≡◌, ℕ, zero, suc, ◌+◌, ◌*◌, ◌%◌, ◌<◌, ◌≤◌, ◌^◌, true, List, [], ◌∷◌, length, drop, Some, refl, sym, ap, subst, ◌∙◌, arith}
use Rattle.std.specs.Prelude.{slice_get}
use Rattle.std.proofs.lemmas.Option.{same_Some}
use Rattle.rr_base.specs.Words.{site_of, pack}
use Rattle.rr_base.specs.declared.layout.CellKind.{CellKind}
use Rattle.rr_base.specs.declared.layout.Site.{Site}
use Rattle.sync_objects.specs.Setup.{SetupView}
use Rattle.word_semantics.specs.Cells.{size_in, size_of}
use Rattle.word_semantics.specs.Operators.{based}
use Rattle.word_semantics.specs.Pointers.{base_at, pointer_at}
use Rattle.flow_code.specs.Addresses.{address_at, is_address, begin_with, word_fits, words_fit}
use Rattle.flow_code.specs.declared.act.Act.TheVariants as act
use Rattle.flow_code.specs.declared.code.Code.{Code}
use Rattle.flow_code.specs.declared.work.Work.TheVariants as work
use Rattle.flow_code.specs.Kinds.{has_pointer}
use Rattle.flow_code.specs.Valid.{is_valid}
use Rattle.flow_code.proofs.Objects.{lies_at, address_parts, words_do_fit}
use Rattle.flow_code.proofs.ValidParts.{left, right, few_globals, globals_are_fit}
use Rattle.facts.specs.PointsTo.{place, MayPoint, given}
use Rattle.facts.specs.declared.constraint.Constraint.TheVariants.{Given}
use Rattle.facts.specs.declared.constraint.Node.{Node}
use Rattle.facts.specs.declared.constraint.Node.TheVariants.{Register}
use Rattle.points_to_sound.specs.Objects.{Object, global, global_object}
use Rattle.points_to_sound.specs.Pointing.{act_of, IsGood}
use Rattle.points_to_sound.proofs.Finding.{first_of, constraint_of, stands}
use Rattle.points_to_sound.proofs.Laying.{HasSite, site_has, StartsAt, starts_at, first_good}
use Rattle.points_to_sound.proofs.Fitting.{stands_fit}

module _ (code : Code) (valid : is_valid code ≡ true) where
  -- ---- the object of a global site

  pub record IsGlobal (k base : ℕ) : Type 0 where
    pub has : HasSite code k
    pub within : base + has.site.layout.size ≤ length code.globals
    pub kinds : begin_with (drop base code.global_kinds) has.site.layout.kinds ≡ true

  pub global_is : (k base : ℕ) → base_at code.global_bases k ≡ Some base → IsGlobal k base
  global_is k base e =
      let l = lies_at code (globals_are_fit code valid) k base e in
      let h = site_has code valid k l.site l.is_site in
      let same : l.site ≡ h.site = same_Some l.site h.site (sym l.is_site ∙ h.is_site) in
      record {
        has = h;
        within = subst (λ (z : Site). base + z.layout.size ≤ length code.globals) same l.within;
        kinds = subst (λ (z : Site). begin_with (drop base code.global_kinds) z.layout.kinds ≡ true) same l.kinds;
      }

  -- ---- addresses

  word_is_fit : (ks : List CellKind) (ws : List ℕ) (i : ℕ) (kind : CellKind) (v : ℕ) → slice_get ks i ≡ Some kind → slice_get ws i ≡ Some v → words_fit code ks ws ≡ true → word_fits code (address_at kind v) ≡ true
  word_is_fit [] ws i kind v a b h = cc
  word_is_fit (k ∷ ks) [] i kind v a b h = cc
  word_is_fit (k ∷ ks) (x ∷ ws) zero kind v a b h = subst (λ n. word_fits code (address_at n v) ≡ true) (same_Some k kind a) (subst (λ n. word_fits code (address_at k n) ≡ true) (same_Some x v b) (left (word_fits code (address_at k x)) (words_fit code ks ws) h))
  word_is_fit (k ∷ ks) (x ∷ ws) (suc i) kind v a b h = word_is_fit ks ws i kind v a b (right (word_fits code (address_at k x)) (words_fit code ks ws) h)

  pub in_globals : (i : ℕ) (kind : CellKind) (v w : ℕ) → slice_get code.global_kinds i ≡ Some kind → slice_get code.globals i ≡ Some v → address_at kind v ≡ Some w → is_address code w ≡ true
  in_globals i kind v w a b c = subst (λ o. word_fits code o ≡ true) c (word_is_fit code.global_kinds code.globals i kind v a b (words_do_fit code (globals_are_fit code valid)))

  -- ---- the word that an address becomes

  pub record IsWhole (w : ℕ) : Type 0 where
    pub base : ℕ
    pub is_base : base_at code.global_bases (site_of w) ≡ Some base
    pub known : IsGlobal (site_of w) base
    pub is_word : w ≡ pack (site_of w) base (size_of code.sites (site_of w)) 0

  pub whole_is : (w : ℕ) → is_address code w ≡ true → IsWhole w
  whole_is w h =
      let x = address_parts code w h in
      record {
        base = x.base;
        is_base = x.is_base;
        known = global_is (site_of w) x.base x.is_base;
        is_word = x.is_word ∙ ap (λ n. pack (site_of w) x.base n 0) (sym (ap size_in x.is_site));
      }

  pack_moved : (s b c n : ℕ) → pack s b c 0 + 2 * n * 2 ^ 32 ≡ pack s (b + 2 * n) c 0
  pack_moved s b c n = omega arith

  based_starts : (slots w : ℕ) → slots ≤ 16 → (x : IsWhole w) → StartsAt (based slots w) (site_of w) (x.base + 2 * slots) (size_of code.sites (site_of w))
  based_starts slots w few x =
      let cells = size_of code.sites (site_of w) in
      let size : cells ≡ x.known.has.site.layout.size = ap size_in x.known.has.is_site in
      let short = x.known.has.few in
      let low : x.base + 2 * slots < 2 ^ 22 = let g = few_globals code valid in let within = x.known.within in omega arith in
      let is : based slots w ≡ pointer_at (site_of w) (x.base + 2 * slots) cells = ap (λ n. n % 2 ^ 64) (ap (λ n. n + 2 * slots * 2 ^ 32) x.is_word ∙ pack_moved (site_of w) x.base cells slots) in
      subst (λ v. StartsAt v (site_of w) (x.base + 2 * slots) cells) (sym is) (starts_at (site_of w) (x.base + 2 * slots) cells x.known.has.low low (omega arith))

  module _ (s : SetupView) (few : s.slots ≤ 16) (made : List Object) where
    -- an address is good where its place may be
    pub based_good : (n : Node) (w : ℕ) → is_address code w ≡ true → MayPoint code n (place (site_of w) 0) → IsGood code s made n (based s.slots w)
    based_good n w h may = let x = whole_is w h in first_good code s made (global_object code s (site_of w) x.base) n (based s.slots w) (global x.base x.is_base refl) (based_starts s.slots w few x) may

    pub address_good : (f k into a : ℕ) → act_of code f k ≡ Some (act.Compute into (work.Address a)) → IsGood code s made (Register f into) (based s.slots a)
    address_good f k into a at =
        let y = stands code f k (act.Compute into (work.Address a)) at in
        based_good (Register f into) a
        (right (has_pointer y.function into) (is_address code a) (stands_fit code valid f k (act.Compute into (work.Address a)) y))
        (given (constraint_of code f k (act.Compute into (work.Address a)) (Given (Register f into) (place (site_of a) 0)) at (first_of (Given (Register f into) (place (site_of a) 0)) [])))

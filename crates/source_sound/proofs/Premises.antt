-- What is used of the expressions of a function: their words are sound where they have no fault.
use Rattle.std.proofs.Common.{◌≡◌, ℕ, true, List, [], ◌∷◌, ◌++◌, Option, Some}
use Rattle.rr_base.specs.declared.layout.Site.{Site}
use Rattle.c_tree.specs.Tree.{Exp}
use Rattle.c_types.specs.declared.types.ObjectType.{ObjectType}
use Rattle.c_types.specs.Operands.{operand_of, type_operand, accepts}
use Rattle.c_types.specs.Standing.{Target, no_target, standing}
use Rattle.c_rules.specs.Faults.{faults, expression_faults}
use Rattle.c_spots.specs.Spots.{Spot, allocations}
use Rattle.c_locals.specs.Addresses.{addressed}
use Rattle.core_tree.specs.Core.{Function, Program}
use Rattle.core_tree.specs.Meaning.{is_pointer}
use Rattle.c_operators.specs.Denoted.{is_pointing, kind_of}
use Rattle.c_operators.specs.Context.{Frame, Context, home_numbered, site_at}
use Rattle.c_values.specs.Expressions.{value_of, wanted_of}
use Rattle.core_tree.specs.Sound.{HasSite, IsSoundExp}
use Rattle.source_sound.proofs.Environment.{IsFormedTarget, IsKept, AreKept, places_of, Suits, HaveSites}

-- each of these has a site
abbrev pub HaveSpots : Program → List Site → List Spot → Type 0
HaveSpots p sites [] = Unit {0}
HaveSpots p sites (s ∷ ss) = HasSite p (site_at sites s.at) × HaveSpots p sites ss

pub spots_parts : (p : Program) (sites : List Site) (xs ys : List Spot) → HaveSpots p sites (xs ++ ys) → HaveSpots p sites xs × HaveSpots p sites ys
spots_parts p sites [] ys have = (tt, have)
spots_parts p sites (x ∷ xs) ys have = let more = spots_parts p sites xs ys have.1 in ((have.0, more.0), more.1)

-- none of these numbers leads to a register
abbrev pub AreAllKept : Frame → List ℕ → Type 0
AreAllKept frame [] = Unit {0}
AreAllKept frame (n ∷ ns) = IsKept (home_numbered frame (Some n)) × AreAllKept frame ns

pub kept_parts : (frame : Frame) (xs ys : List ℕ) → AreAllKept frame (xs ++ ys) → AreAllKept frame xs × AreAllKept frame ys
kept_parts frame [] ys kept = (tt, kept)
kept_parts frame (x ∷ xs) ys kept = let more = kept_parts frame xs ys kept.1 in ((kept.0, more.0), more.1)

-- both, of one part of a function
abbrev pub Have : Program → Frame → List Site → List ℕ → List Spot → Type 0
Have p frame sites ns spots = AreAllKept frame ns × HaveSpots p sites spots

pub have_parts : (p : Program) (frame : Frame) (sites : List Site) (ms ns : List ℕ) (xs ys : List Spot) → Have p frame sites (ms ++ ns) (xs ++ ys) → Have p frame sites ms xs × Have p frame sites ns ys
have_parts p frame sites ms ns xs ys have =
    let kept = kept_parts frame ms ns have.0 in
    let spots = spots_parts p sites xs ys have.1 in
    ((kept.0, spots.0), (kept.1, spots.1))

module _ (p : Program) (home : ℕ → Option ℕ) (f : Function) where
  -- the word of an expression
  abbrev pub AreValuesSound : Type 0
  AreValuesSound = (h : Context) (e : Exp) → Suits p home f h → AreKept h (addressed h.numbers e) → HaveSites p home f h (places_of (allocations h.known no_target e))
      → expression_faults h.known e ≡ [] → IsSoundExp p home f (value_of h e)

  -- the word of an expression that an object of the type accepts, where the type tells which word is wanted
  abbrev pub AreWantedSound : Type 0
  AreWantedSound = (h : Context) (w : Target) (t : ObjectType) (e : Exp) (s : Suits p home f h) → IsFormedTarget s.structs w → AreKept h (addressed h.numbers e) → HaveSites p home f h (places_of (allocations h.known w e))
      → faults h.known w e ≡ [] → accepts t (operand_of (standing h.known w e)) ≡ true
      → (is_pointer (wanted_of h (kind_of (type_operand t)) w e) ≡ is_pointing (type_operand t)) × IsSoundExp p home f (wanted_of h (kind_of (type_operand t)) w e)

  -- as the environment of an expression names them
  have_sites : (h : Context) (spots : List Spot) → HaveSpots p h.source.sites spots → HaveSites p home f h (places_of spots)
  have_sites h [] have = tt
  have_sites h (s ∷ ss) have = (have.0, have_sites h ss have.1)

  are_kept : (h : Context) (ns : List ℕ) → AreAllKept h.frame ns → AreKept h ns
  are_kept h [] kept = tt
  are_kept h (n ∷ ns) kept = (kept.0, are_kept h ns kept.1)

  -- the same, as they are used here
  pub value_by_parts : AreValuesSound → (h : Context) (e : Exp) → Suits p home f h → Have p h.frame h.source.sites (addressed h.numbers e) (allocations h.known no_target e)
      → expression_faults h.known e ≡ [] → IsSoundExp p home f (value_of h e)
  value_by_parts values h e s have none = values h e s (are_kept h (addressed h.numbers e) have.0) (have_sites h (allocations h.known no_target e) have.1) none

  pub wanted_by_parts : AreWantedSound → (h : Context) (w : Target) (t : ObjectType) (e : Exp) (s : Suits p home f h) → IsFormedTarget s.structs w
      → Have p h.frame h.source.sites (addressed h.numbers e) (allocations h.known w e) → faults h.known w e ≡ [] → accepts t (operand_of (standing h.known w e)) ≡ true
      → (is_pointer (wanted_of h (kind_of (type_operand t)) w e) ≡ is_pointing (type_operand t)) × IsSoundExp p home f (wanted_of h (kind_of (type_operand t)) w e)
  wanted_by_parts wanted h w t e s formed have none fit = wanted h w t e s formed (are_kept h (addressed h.numbers e) have.0) (have_sites h (allocations h.known w e) have.1) none fit

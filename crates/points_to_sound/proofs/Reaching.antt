-- The cell that a good word is resolved to is one of its object's, at a place to which it may point.
use Rattle.std.proofs.Common.{◌≡◌, ℕ, ◌+◌, ◌<◌, ◌^◌, ◌==◌, nat_lt, Bool, true, false, if◌then◌else◌, List, Option, Some, None, Result, Ok, Err, refl, sym, ap, subst, ◌∙◌, arith}
use Rattle.std.proofs.lemmas.Bool.{true≢false, eq-eqb, ltb-true}
use Rattle.rr_base.specs.Words as pointer
use Rattle.rr_base.specs.Words.{site_of, base_of, length_of, offset_of, class_of}
use Rattle.rr_base.specs.declared.trap.Trap.{Trap}
use Rattle.rr_base.specs.declared.trap.Trap.TheVariants.{BadDereference, OutOfObject}
use Rattle.rr_base.specs.declared.layout.CellKind.{CellKind}
use Rattle.rr_base.specs.declared.layout.CellKind.TheVariants as kind
use Rattle.sync_objects.specs.Setup.{SetupView}
use Rattle.word_semantics.specs.Pointers.{site_at, known, same_kind, is_kind, kind_in, of_kind, resolved}
use Rattle.flow_code.specs.declared.code.Code.{Code}
use Rattle.flow_code.specs.Valid.{is_valid}
use Rattle.flow_code.proofs.ValidParts.{few_sites}
use Rattle.facts.specs.PointsTo.{element_of, MayPoint}
use Rattle.facts.specs.declared.constraint.Node.{Node}
use Rattle.points_to_sound.specs.Objects.{Object, IsObject, IsSized}
pub use Rattle.points_to_sound.specs.Pointing.{Reaches}
use Rattle.points_to_sound.specs.Pointing.{IsGood, nowhere, points}
use Rattle.points_to_sound.proofs.Moving.{site_there, good_known, same_place}

pub same_kinds : (a b : CellKind) → same_kind a b ≡ true → a ≡ b
same_kinds kind.Whole kind.Whole e = refl
same_kinds kind.Pointer kind.Pointer e = refl
same_kinds kind.Mutex kind.Mutex e = refl
same_kinds kind.Cond kind.Cond e = refl
same_kinds kind.Barrier kind.Barrier e = refl
same_kinds kind.Rw kind.Rw e = refl
same_kinds _ _ e = cc

kind_found : (o : Option CellKind) (want : CellKind) → is_kind o want ≡ true → o ≡ Some want
kind_found None want e = cc
kind_found (Some k) want e = ap (λ (x : CellKind). Some x) (same_kinds k want e)

pub of_kind_inv : (r : Result ℕ Trap) (b : Bool) (c : ℕ) → of_kind r b ≡ Ok c → (r ≡ Ok c) × (b ≡ true)
of_kind_inv (Ok d) true c e = (e, refl)
of_kind_inv (Ok d) false c e = cc
of_kind_inv (Err t) b c e = cc

-- where a word has a cell
pub record HasCellAt (w c : ℕ) : Type 0 where
  pub some : site_of w ≡ 0 → ⊥
  pub within : offset_of w < length_of w
  pub is : c ≡ base_of w + offset_of w

pub cell_inv : (w c : ℕ) → pointer.cell_of w ≡ Ok c → HasCellAt w c
cell_inv w c h = at (site_of w == 0) refl h
  where
    inside : (site_of w ≡ 0 → ⊥) → (b : Bool) → nat_lt (offset_of w) (length_of w) ≡ b → (if b then Ok (base_of w + offset_of w) else Err OutOfObject) ≡ Ok c → HasCellAt w c
    inside some true e h = record { some = some; within = ltb-true (offset_of w) (length_of w) e; is = cc }
    inside some false e h = cc

    at : (b : Bool) → (site_of w == 0) ≡ b → (if b then Err BadDereference else (if nat_lt (offset_of w) (length_of w) then Ok (base_of w + offset_of w) else Err OutOfObject)) ≡ Ok c → HasCellAt w c
    at true e h = cc
    at false e h = inside (λ z. true≢false (sym (eq-eqb (site_of w) 0 z) ∙ e)) (nat_lt (offset_of w) (length_of w)) refl h

module _ (code : Code) (s : SetupView) (made : List Object) (valid : is_valid code ≡ true) (sized : (o : Object) → IsObject code s made o → IsSized code o) where
  pub good_reaches : (n : Node) (w c : ℕ) (want : CellKind) → resolved code.sites w want ≡ Ok c → IsGood code s made n w → Reaches code s made n c want
  good_reaches n w c want h g = on g
    where
      inv : (pointer.cell_of (known code.sites w) ≡ Ok c) × (is_kind (kind_in (site_at code.sites (site_of w)) (offset_of w)) want ≡ true)
      inv = of_kind_inv (pointer.cell_of (known code.sites w)) (is_kind (kind_in (site_at code.sites (site_of w)) (offset_of w)) want) c h

      cell : HasCellAt w c
      cell = cell_inv w c (subst (λ v. pointer.cell_of v ≡ Ok c) (good_known code s made valid sized n w g) inv.0)

      on : IsGood code s made n w → Reaches code s made n c want
      on (nowhere e) = absurd (cell.some e)
      on (points o is p may) = record {
        object = o;
        is = is;
        offset = offset_of w;
        within = subst (λ k. offset_of w < k) p.cells cell.within;
        cell = cell.is ∙ ap (λ k. k + offset_of w) p.base;
        kind = ap (λ k. kind_in (site_at code.sites k) (offset_of w)) (sym p.site) ∙ kind_found (kind_in (site_at code.sites (site_of w)) (offset_of w)) want inv.1;
        may = subst (MayPoint code n) (same_place (site_of w) o.site _ _ p.site (ap (λ k. class_of (element_of code.sites k) (offset_of w)) p.site)) may;
      }

  -- a good word has 64 bits
  pub good_fits : (n : Node) (w : ℕ) → IsGood code s made n w → w < 2 ^ 64
  good_fits n w (nowhere e) = omega arith
  good_fits n w (points o is p may) =
      let z = sized o is in
      let t = site_there code.sites o.site z.site z.is_site in
      let few = few_sites code valid in
      let same = p.site in
      omega arith

-- Rows that meet all constraints have all places to which nodes may point.
use Rattle.std.proofs.Common.{◌≡◌, ℕ, ◌<◌, Bool, true, false, List, length, sym, subst, pos, ◌*ℤ◌}
use Rattle.rr_base.specs.declared.layout.Place.{Place}
use Rattle.flow_code.specs.declared.code.Code.{Code}
use Rattle.word_semantics.specs.Pointers.{directed}
use Rattle.facts.specs.declared.constraint.Node.{Node}
use Rattle.facts.specs.declared.constraint.Node.TheVariants.{Cells}
use Rattle.facts.specs.declared.constraint.Constraint.TheVariants.{Given, Included, Shifted, Strided, Loaded, Stored}
use Rattle.facts.specs.PointsTo.{place, place_on, element_of, classes_of, IsReached, are_whole_elements, constraints_of, May, given, included, shifted, strided, loaded, stored}
use Rattle.points_to.specs.Nodes.{number_of, place_from, Has, IsNode, IsPlace, AreThere}
use Rattle.points_to.specs.Filling.{Holds, MeetsAll}
use Rattle.points_to.proofs.Spots.{place_number}
use Rattle.points_to.proofs.Places.{narrow, on_place, cells_node}

-- the node is there, and its row has the place
pub record Known (code : Code) (rows : List (List (List ℕ))) (n : Node) (p : Place) : Type 0 where
  pub node : IsNode code n
  pub there : IsPlace code.sites p
  pub has : Has (length code.functions) rows n (number_of p)

whole : (code : Code) (p : Place) → IsPlace code.sites p → place_from (number_of p) ≡ p
whole code p h = place_number p (narrow code.sites p h)

reached_within : (b : Bool) (element from to : ℕ) → from < classes_of element → IsReached b element from to → to < classes_of element
reached_within true element from to lt r = subst (λ k. k < classes_of element) (sym r) lt
reached_within false element from to lt r = r

pub complete : (code : Code) (rows : List (List (List ℕ))) → AreThere code → MeetsAll code rows → {n : Node} {p : Place} → May code.sites (constraints_of code) n p → Known code rows n p
complete code rows t met (given {n} {p} h) = let w = t.within (Given n p) h in record { node = w.0; there = w.1; has = met (Given n p) h }
complete code rows t met (included {a} {b} {p} h m) =
    let k = complete code rows t met m in
    record { node = (t.within (Included a b) h).1; there = k.there; has = met (Included a b) h (number_of p) k.has }
complete code rows t met (shifted {a} {b} {by} {element} {back} {p} h m) =
    let k = complete code rows t met m in
    record {
      node = (t.within (Shifted a b by element back) h).1;
      there = on_place code.sites p (directed back by *ℤ pos element) t.elements k.there;
      has = subst (λ x. Has (length code.functions) rows b (number_of (place_on code.sites x (directed back by *ℤ pos element)))) (whole code p k.there) (met (Shifted a b by element back) h (number_of p) k.has);
    }
complete code rows t met (strided {a} {b} {stride} {p} class h m r) =
    let k = complete code rows t met m in
    record {
      node = (t.within (Strided a b stride) h).1;
      there = (k.there.0, k.there.1, reached_within (are_whole_elements stride (element_of code.sites p.site)) (element_of code.sites p.site) p.class class k.there.2 r);
      has = subst
          (λ (x : Place). (c : ℕ) → IsReached (are_whole_elements stride (element_of code.sites x.site)) (element_of code.sites x.site) x.class c → Has (length code.functions) rows b (number_of (place x.site c)))
          (whole code p k.there) (met (Strided a b stride) h (number_of p) k.has) class r;
    }
complete code rows t met (loaded {a} {b} {o} {p} h m n) =
    let k = complete code rows t met m in
    let j = complete code rows t met n in
    record {
      node = (t.within (Loaded a b) h).1;
      there = j.there;
      has = subst (λ x. Holds code (Cells x) b rows) (whole code o k.there) (met (Loaded a b) h (number_of o) k.has) (number_of p) j.has;
    }
complete code rows t met (stored {a} {b} {o} {p} h m n) =
    let k = complete code rows t met m in
    let j = complete code rows t met n in
    record {
      node = cells_node code o k.there;
      there = j.there;
      has = subst (λ x. Holds code b (Cells x) rows) (whole code o k.there) (met (Stored a b) h (number_of o) k.has) (number_of p) j.has;
    }

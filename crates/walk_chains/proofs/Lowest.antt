-- Between two points there is one lowest chain.
use Rattle.std.proofs.Common.{◌≡◌, ℕ, ◌<◌, ◌⊎◌, inl, inr, true, false, List, [], ◌∷◌, ◌++◌, Option, Some, None, refl, sym, ap, subst, ◌∙◌, append-nil}
use Rattle.std.specs.Prelude.{slice_get}
use Rattle.run_theory.proofs.InTime.{places}
use Rattle.sync_objects.specs.declared.entry.Entry.{Entry}
use Rattle.chain_report.specs.Chains.{is_after}
use Rattle.chain_report.specs.Finds.{IsLinked, at_first, onward, IsEligible, after, behind, IsLinkedTo, GoesOnFrom, EndsAt, IsLowestFrom, IsLowest}
use Rattle.chain_report.specs.declared.point.Point.{Point}

-- ---- passes from the last to the first

abbrev Passes : Type 0
Passes = List (ℕ × ℕ)

-- those of the first list in reverse before those of the second
abbrev turned : Passes → Passes → Passes
turned [] ys = ys
turned (x ∷ xs) ys = turned xs (x ∷ ys)

turned_twice : (xs ys zs : Passes) → turned (turned xs ys) zs ≡ turned ys (xs ++ zs)
turned_twice [] ys zs = refl
turned_twice (x ∷ xs) ys zs = turned_twice xs (x ∷ ys) zs

turned_back : (xs : Passes) → turned (turned xs []) [] ≡ xs
turned_back xs = turned_twice xs [] [] ∙ append-nil xs

module _ (es : List Entry) (from to : Point) where
  -- a chain has led here
  abbrev Led : Option ℕ → Type 0
  Led None = Unit {0}
  Led (Some b) = IsLinked es from b

  -- so does the lowest chain of these passes, the last one first
  abbrev LedBy : Option ℕ → Passes → Type 0
  LedBy None [] = Unit {0}
  LedBy None (x ∷ xs) = ⊥
  LedBy (Some b) [] = ⊥
  LedBy (Some b) (x ∷ xs) = (x.1 ≡ b) × IsLinkedTo es from x.1 x.0 × (before : Option ℕ) × GoesOnFrom es from before x.0 × LedBy before xs

  linked : (k a : ℕ) → IsLinkedTo es from k a → IsLinked es from k
  linked k a h = by h.eligible
    where
      by : IsEligible es from a → IsLinked es from k
      by (after e) = at_first a k e h.to
      by (behind b l lt one) = onward b a k l lt one h.to

  led : (r : Option ℕ) (xs : Passes) → LedBy r xs → Led r
  led None xs h = tt
  led (Some b) [] h = absurd h
  led (Some b) (x ∷ xs) h = subst (IsLinked es from) h.0 (linked x.1 x.0 h.1)

  -- ---- each step back has one answer

  linked_once : (k a b : ℕ) → IsLinkedTo es from k a → IsLinkedTo es from k b → a ≡ b
  linked_once k a b h g = by (places a b)
    where
      by : (a < b) ⊎ ((a ≡ b) ⊎ (b < a)) → a ≡ b
      by (inl lt) = absurd (g.lowest a lt h.eligible h.to)
      by (inr (inl e)) = e
      by (inr (inr gt)) = absurd (h.lowest b gt g.eligible g.to)

  goes_once : (a : ℕ) (r q : Option ℕ) → Led r → Led q → GoesOnFrom es from r a → GoesOnFrom es from q a → r ≡ q
  goes_once a None None l k h g = refl
  goes_once a None (Some c) l k h g = absurd (cc (h, g.0))
  goes_once a (Some b) None l k h g = absurd (cc (g, h.0))
  goes_once a (Some b) (Some c) l k h g = by (places b c)
    where
      by : (b < c) ⊎ ((b ≡ c) ⊎ (c < b)) → Some b ≡ Some c
      by (inl lt) = absurd (g.3 b lt l h.2)
      by (inr (inl e)) = ap Some e
      by (inr (inr gt)) = absurd (h.3 c gt k g.2)

  ends_once : (b c : ℕ) → IsLinked es from b → IsLinked es from c → EndsAt es from to (Some b) → EndsAt es from to (Some c) → b ≡ c
  ends_once b c l k h g = by (places b c)
    where
      by : (b < c) ⊎ ((b ≡ c) ⊎ (c < b)) → b ≡ c
      by (inl lt) = absurd (g.1 b lt l h.0)
      by (inr (inl e)) = e
      by (inr (inr gt)) = absurd (h.1 c gt k g.0)

  led_once : (r : Option ℕ) (xs ys : Passes) → LedBy r xs → LedBy r ys → xs ≡ ys
  led_once None [] [] h g = refl
  led_once None [] (y ∷ ys) h g = absurd g
  led_once None (x ∷ xs) ys h g = absurd h
  led_once (Some b) [] ys h g = absurd h
  led_once (Some b) (x ∷ xs) [] h g = absurd g
  led_once (Some b) (x ∷ xs) (y ∷ ys) h g =
      let to_one : x.1 ≡ y.1 = h.0 ∙ sym g.0 in
      let from_one : x.0 ≡ y.0 = linked_once y.1 x.0 y.0 (subst (λ k. IsLinkedTo es from k x.0) to_one h.1) g.1 in
      let before : h.2 ≡ g.2 = goes_once y.0 h.2 g.2 (led h.2 xs h.4) (led g.2 ys g.4) (subst (GoesOnFrom es from h.2) from_one h.3) g.3 in
      let rest : xs ≡ ys = led_once g.2 xs ys (subst (λ r. LedBy r xs) before h.4) g.4 in
      (λ i. (from_one i, to_one i) ∷ rest i)

  -- ---- a whole chain

  -- where a chain ends, and its passes from there
  record Whole (given : Passes) : Type 0 where
    last : ℕ
    ends : EndsAt es from to (Some last)
    led_by : LedBy (Some last) given

  whole : (r : Option ℕ) (given back : Passes) → LedBy r back → IsLowestFrom es from to r given → Whole (turned given back)
  whole None [] back h l = absurd l
  whole (Some b) [] back h l = record { last = b; ends = l; led_by = h }
  whole None (x ∷ rest) back h l = whole (Some x.1) rest (x ∷ back) (refl, l.1, None, l.0, h) l.2
  whole (Some b) (x ∷ rest) back h l = whole (Some x.1) rest (x ∷ back) (refl, l.1, Some b, l.0, h) l.2

  pub lowest_once : (given other : Passes) → IsLowest es from to given → IsLowest es from to other → given ≡ other
  lowest_once given other h g =
      let a = whole None given [] tt h in
      let b = whole None other [] tt g in
      let one : a.last ≡ b.last = ends_once a.last b.last (led (Some a.last) (turned given []) a.led_by) (led (Some b.last) (turned other []) b.led_by) a.ends b.ends in
      let same : turned given [] ≡ turned other [] = led_once (Some b.last) (turned given []) (turned other []) (subst (λ k. LedBy (Some k) (turned given [])) one a.led_by) b.led_by in
      sym (turned_back given) ∙ ap (λ xs. turned xs []) same ∙ turned_back other

-- The chain that is read off the rows, from its end to its beginning.
use Rattle.std.proofs.Common.{◌≡◌, ℕ, zero, suc, ◌+◌, ◌<◌, nat_lt, ◌==◌, ◌&&◌, ◌⊎◌, inl, inr, Bool, true, false, List, [], ◌∷◌, length, Option, Some, None, refl, sym, ap, subst, ◌∙◌, arith}
use Rattle.std.specs.Prelude.{slice_get}
use Rattle.std.proofs.lemmas.Bool.{and_parts, true≢false, ltb-true, lt-ltb, eqb-true, eq-eqb}
use Rattle.std.proofs.lemmas.Option.{same_Some, slice_get_within}
use Rattle.run_theory.proofs.InTime.{places}
use Rattle.sync_objects.specs.declared.entry.Entry.{Entry}
use Rattle.chain_report.specs.Chains.{passes, is_after, is_before, is_of_one, goes_on, ends, chain_from, is_chain}
use Rattle.chain_report.specs.Finds.{IsLinked, at_first, onward, IsEligible, after, behind, IsLinkedTo, EndsAt, IsLowestFrom, IsLowest}
use Rattle.chain_report.specs.Rows.{LinkIs, RowIs, AreRows}
use Rattle.chain_report.specs.Tables.{is_there, is_link_of, is_end_at, first_from}
use Rattle.chain_report.specs.declared.point.Point.{Point}
use Rattle.chain_report.specs.declared.row.Row.{Row}
use Rattle.chain_report.proofs.RowLinks.{FirstIs, found, not_found, there, has_link, linked_is, passes_less}

module _ (es : List Entry) (from to : Point) where
  -- where a chain leads
  abbrev pub Led : Option ℕ → Type 0
  Led None = Unit {0}
  Led (Some b) = IsLinked es from b

  pub leads : (given : List (ℕ × ℕ)) (r : Option ℕ) → Led r → chain_from es from to r given ≡ true → (b : ℕ) × IsLinked es from b × (is_before to (slice_get es b) ≡ true)
  leads [] None ok h = cc
  leads [] (Some b) ok h = (b, ok, h)
  leads (x ∷ rest) None ok h =
      let p = and_parts (goes_on es from None x.0 && passes es x.0 x.1) (chain_from es from to (Some x.1) rest) h in
      let q = and_parts (goes_on es from None x.0) (passes es x.0 x.1) p.0 in
      leads rest (Some x.1) (at_first x.0 x.1 q.0 q.1) p.1
  leads (x ∷ rest) (Some b) ok h =
      let p = and_parts (goes_on es from (Some b) x.0 && passes es x.0 x.1) (chain_from es from to (Some x.1) rest) h in
      let q = and_parts (goes_on es from (Some b) x.0) (passes es x.0 x.1) p.0 in
      let g = and_parts (nat_lt b x.0) (is_of_one (slice_get es b) (slice_get es x.0)) q.0 in
      leads rest (Some x.1) (onward b x.0 x.1 ok (ltb-true b x.0 g.0) g.1 q.1) p.1

  both : (a b : Bool) → a ≡ true → b ≡ true → (a && b) ≡ true
  both a b e f = ap (λ z. z && b) e ∙ f

  module _ (rs : List Row) (all : AreRows es from rs) (same_length : length rs ≡ length es) where
    row_at : (xs : List Row) (i : ℕ) → i < length xs → (r : Row) × (slice_get xs i ≡ Some r)
    row_at [] i h = absurd (omega arith)
    row_at (x ∷ xs) zero h = (x, refl)
    row_at (x ∷ xs) (suc i) h = row_at xs i (omega (arith, h))

    some_entry : (o : Option Entry) → is_before to o ≡ true → (e : Entry) × (o ≡ Some e)
    some_entry None h = cc
    some_entry (Some e) h = (e, refl)

    -- the row of a linked entry before the point is an end
    end_row : (b : ℕ) → IsLinked es from b → is_before to (slice_get es b) ≡ true → (r : Row) × (slice_get rs b ≡ Some r) × (is_end_at to r ≡ true)
    end_row b l h =
        let e = some_entry (slice_get es b) h in
        let within = slice_get_within es b e.0 e.1 in
        let r = row_at rs b (omega (arith, within, same_length)) in
        let q = all b r.0 r.1 in
        (r.0, r.1, both (is_there r.0.link) (is_before to (Some r.0.entry)) (has_link es from b r.0 q l) (ap (is_before to) (sym q.is) ∙ h))

    -- without an end there is no chain
    pub no_end : first_from (is_end_at to) 0 rs ≡ None → (given : List (ℕ × ℕ)) → is_chain es from to given ≡ true → ⊥
    no_end none given h =
        let x = leads given None tt h in
        let r = end_row x.0 x.1 x.2 in
        not_found (is_end_at to) 0 rs none x.0 r.0 r.1 r.2

    -- these passes are the last ones, from the linked entry at b on
    pub record At (b : ℕ) (given : List (ℕ × ℕ)) : Type 0 where
      pub within : b < length rs
      pub linked : IsLinked es from b
      pub lowest : IsLowestFrom es from to (Some b) given
      pub chain : chain_from es from to (Some b) given ≡ true

    pub begins : (b : ℕ) → first_from (is_end_at to) 0 rs ≡ Some b → At b []
    begins b h =
        let f = found (is_end_at to) 0 b rs h in
        let same : f.0 ≡ b = omega (arith, f.1) in
        let r = f.2.row in
        let q = all f.0 r f.2.is in
        let p = and_parts (is_there r.link) (is_before to (Some r.entry)) f.2.meets in
        let ends_so : is_before to (slice_get es f.0) ≡ true = ap (is_before to) q.is ∙ p.1 in
        subst (λ z. At z []) same
        (record {
          within = slice_get_within rs f.0 r f.2.is;
          linked = there es from f.0 r q p.0;
          lowest = (ends_so, λ c lt l e. let x = end_row c l e in f.2.lowest c x.0 lt x.1 x.2);
          chain = ends_so;
        })

    -- the linked entry's row tells to which one it is linked
    pub link_of : (b : ℕ) (given : List (ℕ × ℕ)) (r : Row) → At b given → slice_get rs b ≡ Some r → r.link ≡ None → ⊥
    link_of b given r at is none = true≢false (sym (has_link es from b r (all b r is) at.linked) ∙ ap is_there none)

    pub link_is : (b a : ℕ) (r : Row) → slice_get rs b ≡ Some r → r.link ≡ Some a → IsLinkedTo es from b a
    link_is b a r is e = by r.link (all b r is).link e
      where
        by : (o : Option ℕ) → LinkIs es from b o → o ≡ Some a → IsLinkedTo es from b a
        by None l g = cc
        by (Some k) l g = subst (IsLinkedTo es from b) (same_Some k a g) l

    pub link_within : (b a : ℕ) (given : List (ℕ × ℕ)) (r : Row) → At b given → slice_get rs b ≡ Some r → r.link ≡ Some a → (a < b) × (a < length rs)
    link_within b a given r at is e =
        let lt = passes_less es from a b (link_is b a r is e).to in
        (lt, omega (arith, lt, at.within))

    module _ (b a : ℕ) (given : List (ℕ × ℕ)) (r ra : Row) (at : At b given) (is : slice_get rs b ≡ Some r) (link : r.link ≡ Some a) (is_a : slice_get rs a ≡ Some ra) where
      l : IsLinkedTo es from b a
      l = link_is b a r is link

      -- the entry of the first point's thread begins the chain
      pub finishes : is_after from (Some ra.entry) ≡ true → IsLowest es from to ((a, b) ∷ given) × (is_chain es from to ((a, b) ∷ given) ≡ true)
      finishes h =
          let first : is_after from (slice_get es a) ≡ true = ap (is_after from) (all a ra is_a).is ∙ h in
          ((first, l, at.lowest), both (goes_on es from None a && passes es a b) (chain_from es from to (Some b) given) (both (goes_on es from None a) (passes es a b) first l.to) at.chain)

      -- any other one follows a linked entry of its thread
      link_row : (c : ℕ) → IsLinked es from c → c < length rs → is_of_one (slice_get es c) (slice_get es a) ≡ true → (x : Row) × (slice_get rs c ≡ Some x) × (is_link_of ra.entry.thread x ≡ true)
      link_row c k lt one =
          let x = row_at rs c lt in
          let q = all c x.0 x.1 in
          (x.0, x.1, both (is_there x.0.link) (x.0.entry.thread == ra.entry.thread) (has_link es from c x.0 q k) (sym (ap (λ o. is_of_one o (slice_get es a)) q.is ∙ ap (is_of_one (Some x.0.entry)) (all a ra is_a).is) ∙ one))

      behind_it : is_after from (Some ra.entry) ≡ false → (c : ℕ) × IsLinked es from c × (c < a) × (is_of_one (slice_get es c) (slice_get es a) ≡ true)
      behind_it h = by l.eligible
        where
          by : IsEligible es from a → (c : ℕ) × IsLinked es from c × (c < a) × (is_of_one (slice_get es c) (slice_get es a) ≡ true)
          by (after e) = absurd (true≢false (sym e ∙ ap (is_after from) (all a ra is_a).is ∙ h))
          by (behind c k lt one) = (c, k, lt, one)

      less_a : a < length rs
      less_a = slice_get_within rs a ra is_a

      pub never : is_after from (Some ra.entry) ≡ false → first_from (is_link_of ra.entry.thread) 0 rs ≡ None → ⊥
      never h none =
          let c = behind_it h in
          let x = link_row c.0 c.1 (omega (arith, c.2, less_a)) c.3 in
          not_found (is_link_of ra.entry.thread) 0 rs none c.0 x.0 x.1 x.2

      pub continues : (k : ℕ) → is_after from (Some ra.entry) ≡ false → first_from (is_link_of ra.entry.thread) 0 rs ≡ Some k → At k ((a, b) ∷ given) × (k < b)
      continues k h e =
          let f = found (is_link_of ra.entry.thread) 0 k rs e in
          let same : f.0 ≡ k = omega (arith, f.1) in
          let x = f.2.row in
          let q = all f.0 x f.2.is in
          let p = and_parts (is_there x.link) (x.entry.thread == ra.entry.thread) f.2.meets in
          let one : is_of_one (slice_get es f.0) (slice_get es a) ≡ true = ap (λ o. is_of_one o (slice_get es a)) q.is ∙ ap (is_of_one (Some x.entry)) (all a ra is_a).is ∙ p.1 in
          let c = behind_it h in
          let y = link_row c.0 c.1 (omega (arith, c.2, less_a)) c.3 in
          let low : f.0 < a = below f.0 c.0 (λ lt. f.2.lowest c.0 y.0 lt y.1 y.2) c.2 in
          let under = passes_less es from a b l.to in
          let last : is_after from (slice_get es a) ≡ false = ap (is_after from) (all a ra is_a).is ∙ h in (
            subst (λ z. At z ((a, b) ∷ given)) same
                (record {
                  within = slice_get_within rs f.0 x f.2.is;
                  linked = there es from f.0 x q p.0;
                  lowest = ((last, low, one, λ d lt k2 o2. let z = link_row d k2 (omega (arith, lt, low, less_a)) o2 in f.2.lowest d z.0 lt z.1 z.2), l, at.lowest);
                  chain = both (goes_on es from (Some f.0) a && passes es a b) (chain_from es from to (Some b) given)
                      (both (goes_on es from (Some f.0) a) (passes es a b) (both (nat_lt f.0 a) (is_of_one (slice_get es f.0) (slice_get es a)) (lt-ltb f.0 a low) one) l.to)
                      at.chain;
                }),
            omega (arith, low, under, same),
          )
        where
          below : (i j : ℕ) → (j < i → ⊥) → j < a → i < a
          below i j not_less lt = by (places i j)
            where
              by : (i < j) ⊎ ((i ≡ j) ⊎ (j < i)) → i < a
              by (inl less) = omega (arith, less, lt)
              by (inr (inl e)) = omega (arith, e, lt)
              by (inr (inr more)) = absurd (not_less more)

-- The rows of entries tell which of them are linked, and to which.
use Rattle.std.proofs.Common.{◌≡◌, ◌≢◌, ℕ, zero, suc, ◌+◌, ◌-◌, ◌<◌, ◌≤◌, nat_lt, ◌==◌, ◌&&◌, ◌||◌, ◌⊎◌, inl, inr, ⊎_elim, Bool, true, false, if◌then◌else◌, List, [], ◌∷◌, ◌++◌, length, take, Option, Some, None, refl, sym, ap, subst, ◌∙◌, arith}
use Rattle.std.specs.Prelude.{slice_get}
use Rattle.std.proofs.lemmas.Bool.{and_parts, true≢false, ltb-true, lt-ltb, eqb-true, eq-eqb}
use Rattle.std.proofs.lemmas.List.{length-append}
use Rattle.std.proofs.lemmas.Option.{same_Some, slice_get_within}
use Rattle.rr_base.proofs.Lists.{slice_get-append_left, slice_get-append_right}
use Rattle.run_theory.specs.Same.{same_object}
use Rattle.sync_objects.specs.declared.entry.Entry.{Entry}
use Rattle.sync_objects.specs.declared.mode.Mode.{Mode}
use Rattle.chain_report.specs.Chains.{exclude, hands_thread, passes_to, passes_entries, passes, is_after, is_before, is_of_one, goes_on, ends, chain_from, is_chain}
use Rattle.chain_report.specs.Finds.{IsLinked, at_first, onward, IsEligible, after, behind, IsLinkedTo}
use Rattle.chain_report.specs.Replayed.{released, acquired}
use Rattle.chain_report.specs.Rows.{LinkIs, RowIs, AreRows}
use Rattle.chain_report.specs.Tables.{is_there, is_link_of, is_end_at, offers, first_from, row_of, rows_from}
use Rattle.chain_report.specs.declared.point.Point.{Point}
use Rattle.chain_report.specs.declared.row.Row.{Row}

-- ---- the first row that meets a test

pub record FirstIs (test : Row → Bool) (rs : List Row) (k : ℕ) : Type 0 where
  pub row : Row
  pub is : slice_get rs k ≡ Some row
  pub meets : test row ≡ true
  pub lowest : (c : ℕ) (r : Row) → c < k → slice_get rs c ≡ Some r → test r ≡ true → ⊥

shift : (n k : ℕ) → n + suc k ≡ (n + 1) + k
shift n k = omega arith

pub found : (test : Row → Bool) (at k : ℕ) (rs : List Row) → first_from test at rs ≡ Some k → (j : ℕ) × (k ≡ at + j) × FirstIs test rs j
found test at k [] h = cc
found test at k (r ∷ rs) h = by (test r) refl h (λ g. found test (at + 1) k rs g)
  where
    by : (b : Bool) → test r ≡ b → (if b then Some at else first_from test (at + 1) rs) ≡ Some k → (first_from test (at + 1) rs ≡ Some k → (j : ℕ) × (k ≡ at + 1 + j) × FirstIs test rs j) → (j : ℕ) × (k ≡ at + j) × FirstIs test (r ∷ rs) j
    by true e g again = let same = same_Some at k g in (0, omega (arith, same), record { row = r; is = refl; meets = e; lowest = λ c x lt is m. absurd (omega (arith, lt)) })
    by false e g again =
        let q = again g in
        (suc q.0, omega (arith, q.1), record { row = q.2.row; is = q.2.is; meets = q.2.meets; lowest = low q.0 q.2 })
      where
        low : (j : ℕ) (f : FirstIs test rs j) (c : ℕ) (x : Row) → c < suc j → slice_get (r ∷ rs) c ≡ Some x → test x ≡ true → ⊥
        low j f zero x lt is m = true≢false (sym m ∙ ap test (sym (same_Some r x is)) ∙ e)
        low j f (suc c) x lt is m = f.lowest c x (omega (arith, lt)) is m

pub not_found : (test : Row → Bool) (at : ℕ) (rs : List Row) → first_from test at rs ≡ None → (c : ℕ) (r : Row) → slice_get rs c ≡ Some r → test r ≡ true → ⊥
not_found test at [] h c r is m = cc
not_found test at (x ∷ rs) h c r is m = by (test x) refl h c is (λ g n q. not_found test (at + 1) rs g n r q m)
  where
    by : (b : Bool) → test x ≡ b → (if b then Some at else first_from test (at + 1) rs) ≡ None → (n : ℕ) → slice_get (x ∷ rs) n ≡ Some r → (first_from test (at + 1) rs ≡ None → (i : ℕ) → slice_get rs i ≡ Some r → ⊥) → ⊥
    by true e g n q again = cc
    by false e g zero q again = true≢false (sym m ∙ ap test (sym (same_Some x r q)) ∙ e)
    by false e g (suc n) q again = again g n q

-- ---- rows

module _ (es : List Entry) (from : Point) where
  abbrev Linked : ℕ → Type 0
  Linked = IsLinked es from

  pub linked_is : (k a : ℕ) → IsLinkedTo es from k a → Linked k
  linked_is k a l = by l.eligible
    where
      by : IsEligible es from a → Linked k
      by (after e) = at_first a k e l.to
      by (behind b x lt one) = onward b a k x lt one l.to

  -- what an entry is linked from may begin a pass
  pub from_linked : (k : ℕ) → Linked k → (a : ℕ) × IsEligible es from a × (passes es a k ≡ true)
  from_linked k (at_first a n e p) = (a, after e, p)
  from_linked k (onward b a n x lt one p) = (a, behind b x lt one, p)

  -- a row has a link exactly where its entry is linked
  pub there : (k : ℕ) (r : Row) → RowIs es from k r → is_there r.link ≡ true → Linked k
  there k r q h = by r.link q.link h
    where
      by : (o : Option ℕ) → LinkIs es from k o → is_there o ≡ true → Linked k
      by None l e = cc
      by (Some a) l e = linked_is k a l

  pub has_link : (k : ℕ) (r : Row) → RowIs es from k r → Linked k → is_there r.link ≡ true
  has_link k r q l = by r.link q.link
    where
      by : (o : Option ℕ) → LinkIs es from k o → is_there o ≡ true
      by None none = let x = from_linked k l in absurd (none x.0 x.1 x.2)
      by (Some a) is = refl

  -- who passes stands earlier
  passes_parts : (a k : ℕ) (x y : Entry) → slice_get es a ≡ Some x → slice_get es k ≡ Some y → passes es a k ≡ passes_to es a x k y
  passes_parts a k x y e f = ap (λ o. passes_entries es a k o (slice_get es k)) e ∙ ap (passes_entries es a k (Some x)) f

  passes_first : (a k : ℕ) → passes es a k ≡ true → (x : Entry) × (slice_get es a ≡ Some x)
  passes_first a k h = by (slice_get es a) (slice_get es k) refl h
    where
      by : (u v : Option Entry) → slice_get es a ≡ u → passes_entries es a k u v ≡ true → (x : Entry) × (slice_get es a ≡ Some x)
      by (Some x) v e g = (x, e)
      by None v e g = cc

  pub passes_less : (a k : ℕ) → passes es a k ≡ true → a < k
  passes_less a k h = by (slice_get es a) (slice_get es k) h
    where
      by : (u v : Option Entry) → passes_entries es a k u v ≡ true → a < k
      by (Some x) (Some y) g =
          let p = and_parts (nat_lt a k && same_object x.obj y.obj) (hands_thread x.op y.op || exclude (released (take a es) x) (acquired (take k es) y)) g in
          ltb-true a k (and_parts (nat_lt a k) (same_object x.obj y.obj) p.0).0
      by (Some x) None g = cc
      by None v g = cc

  -- ---- the next row

  module _ (rs : List Row) (all : AreRows es from rs) (y : Entry) (here : slice_get es (length rs) ≡ Some y) where
    abbrev n : ℕ
    n = length rs

    row_at : (c : ℕ) → c < n → (r : Row) × (slice_get rs c ≡ Some r)
    row_at c lt = at rs c lt
      where
        at : (xs : List Row) (i : ℕ) → i < length xs → (r : Row) × (slice_get xs i ≡ Some r)
        at [] i h = absurd (omega arith)
        at (x ∷ xs) zero h = (x, refl)
        at (x ∷ xs) (suc i) h = at xs i (omega (arith, h))

    abbrev next : Row
    next = row_of from (take n es) rs y

    -- eligibility
    eligible_is : next.eligible ≡ true → IsEligible es from n
    eligible_is h = by (is_after from (Some y)) refl h
      where
        behind_it : (o : Option ℕ) → first_from (is_link_of y.thread) 0 rs ≡ o → is_there o ≡ true → IsEligible es from n
        behind_it None e g = cc
        behind_it (Some k) e g =
            let f = found (is_link_of y.thread) 0 k rs e in
            let r = f.2.row in
            let p = and_parts (is_there r.link) (r.entry.thread == y.thread) f.2.meets in
            let q = all f.0 r f.2.is in
            behind f.0 (there f.0 r q p.0) (slice_get_within rs f.0 r f.2.is)
            (ap (λ o. is_of_one o (slice_get es n)) q.is ∙ ap (is_of_one (Some r.entry)) here ∙ p.1)

        by : (b : Bool) → is_after from (Some y) ≡ b → (b || is_there (first_from (is_link_of y.thread) 0 rs)) ≡ true → IsEligible es from n
        by true e g = after (ap (is_after from) here ∙ e)
        by false e g = behind_it (first_from (is_link_of y.thread) 0 rs) refl g

    or_right : (a b : Bool) → b ≡ true → (a || b) ≡ true
    or_right true b e = refl
    or_right false b e = e

    eligible_known : IsEligible es from n → next.eligible ≡ true
    eligible_known (after e) = ap (λ b. b || is_there (first_from (is_link_of y.thread) 0 rs)) (sym (ap (is_after from) here) ∙ e)
    eligible_known (behind b l lt one) = or_right (is_after from (Some y)) (is_there (first_from (is_link_of y.thread) 0 rs)) (by (first_from (is_link_of y.thread) 0 rs) refl)
      where
        by : (o : Option ℕ) → first_from (is_link_of y.thread) 0 rs ≡ o → is_there o ≡ true
        by (Some k) e = refl
        by None e =
            let r = row_at b lt in
            let q = all b r.0 r.1 in
            let same : (r.0.entry.thread == y.thread) ≡ true = sym (ap (λ o. is_of_one o (slice_get es n)) q.is ∙ ap (is_of_one (Some r.0.entry)) here) ∙ one in
            absurd (not_found (is_link_of y.thread) 0 rs e b r.0 r.1 (ap (λ z. z && (r.0.entry.thread == y.thread)) (has_link b r.0 q l) ∙ same))

    -- what an offer is
    abbrev got : Option Mode
    got = acquired (take n es) y

    offer_is : (c : ℕ) (r : Row) → slice_get rs c ≡ Some r → offers y got r ≡ true → IsEligible es from c × (passes es c n ≡ true)
    offer_is c r is h =
        let q = all c r is in
        let p = and_parts (r.eligible && same_object r.entry.obj y.obj) (hands_thread r.entry.op y.op || exclude r.released got) h in
        let p2 = and_parts r.eligible (same_object r.entry.obj y.obj) p.0 in (
          q.eligible p2.0,
          passes_parts c n r.entry y q.is here
              ∙ ap (λ z. z && same_object r.entry.obj y.obj && (hands_thread r.entry.op y.op || exclude (released (take c es) r.entry) got)) (lt-ltb c n (slice_get_within rs c r is))
              ∙ ap (λ z. z && (hands_thread r.entry.op y.op || exclude (released (take c es) r.entry) got)) p2.1
              ∙ ap (λ z. hands_thread r.entry.op y.op || exclude z got) (sym q.lets_go)
              ∙ p.1,
        )

    is_offer : (c : ℕ) → IsEligible es from c → passes es c n ≡ true → (r : Row) × (slice_get rs c ≡ Some r) × (offers y got r ≡ true)
    is_offer c e p =
        let lt = passes_less c n p in
        let r = row_at c lt in
        let q = all c r.0 r.1 in
        let parts = and_parts (nat_lt c n && same_object r.0.entry.obj y.obj) (hands_thread r.0.entry.op y.op || exclude (released (take c es) r.0.entry) got) (sym (passes_parts c n r.0.entry y q.is here) ∙ p) in
        let two = and_parts (nat_lt c n) (same_object r.0.entry.obj y.obj) parts.0 in (
          r.0,
          r.1,
          ap (λ z. z && same_object r.0.entry.obj y.obj && (hands_thread r.0.entry.op y.op || exclude r.0.released got)) (q.known e)
              ∙ ap (λ z. z && (hands_thread r.0.entry.op y.op || exclude r.0.released got)) two.1
              ∙ ap (λ z. hands_thread r.0.entry.op y.op || exclude z got) q.lets_go
              ∙ parts.1,
        )

    link_is : (o : Option ℕ) → first_from (offers y got) 0 rs ≡ o → LinkIs es from n o
    link_is None e = λ c el p. let r = is_offer c el p in not_found (offers y got) 0 rs e c r.0 r.1 r.2
    link_is (Some k) e =
        let f = found (offers y got) 0 k rs e in
        let same : f.0 ≡ k = omega (arith, f.1) in
        let o = offer_is f.0 f.2.row f.2.is f.2.meets in
        subst (IsLinkedTo es from n) same
        (record {
          eligible = o.0;
          to = o.1;
          lowest = λ c lt el p. let r = is_offer c el p in f.2.lowest c r.0 lt r.1 r.2;
        })

    next_is : RowIs es from n next
    next_is = record { is = here; eligible = eligible_is; known = eligible_known; lets_go = refl; link = link_is (first_from (offers y got) 0 rs) refl }

    pub more_rows : AreRows es from (rs ++ next ∷ [])
    more_rows = λ k r is. by k r is (split k)
      where
        split : (k : ℕ) → (k < n) ⊎ (n ≤ k)
        split k = lower k n
          where
            lower : (a b : ℕ) → (a < b) ⊎ (b ≤ a)
            lower a zero = inr (omega arith)
            lower zero (suc b) = inl (omega arith)
            lower (suc a) (suc b) = ⊎_elim (λ h. inl (omega (arith, h))) (λ h. inr (omega (arith, h))) (lower a b)

        past : (j k : ℕ) (r : Row) → k ≡ n + j → slice_get (next ∷ []) j ≡ Some r → RowIs es from k r
        past zero k r e is = let same : k ≡ n = omega (arith, e) in subst (λ z. RowIs es from z r) (sym same) (subst (RowIs es from n) (same_Some next r is) next_is)
        past (suc j) k r e is = cc

        by : (k : ℕ) (r : Row) → slice_get (rs ++ next ∷ []) k ≡ Some r → (k < n) ⊎ (n ≤ k) → RowIs es from k r
        by k r is (inl lt) = all k r (sym (slice_get-append_left rs (next ∷ []) k lt) ∙ is)
        by k r is (inr le) =
            let j : k ≡ n + (k - n) = omega (arith, le) in
            past (k - n) k r j (sym (slice_get-append_right rs (next ∷ []) (k - n)) ∙ ap (slice_get (rs ++ next ∷ [])) (sym j) ∙ is)

  -- ---- all rows

  pub rows_are : (rs : List Row) (ys : List Entry) → AreRows es from rs → ((k : ℕ) → slice_get es (length rs + k) ≡ slice_get ys k) → AreRows es from (rows_from from es rs ys)
  rows_are rs [] all rest = all
  rows_are rs (y ∷ ys) all rest =
      let zero_is : length rs ≡ length rs + 0 = omega arith in
      let next = row_of from (take (length rs) es) rs y in
      rows_are (rs ++ next ∷ []) ys (more_rows rs all y (ap (slice_get es) zero_is ∙ rest 0))
      (λ k. let e : length (rs ++ next ∷ []) + k ≡ length rs + suc k = omega (arith, length-append rs (next ∷ [])) in ap (slice_get es) e ∙ rest (suc k))

  pub rows_count : (rs : List Row) (ys : List Entry) → length (rows_from from es rs ys) ≡ length rs + length ys
  rows_count rs [] = omega arith
  rows_count rs (y ∷ ys) = let next = row_of from (take (length rs) es) rs y in omega (arith, rows_count (rs ++ next ∷ []) ys, length-append rs (next ∷ []))

  -- those of a whole log
  pub all_rows : AreRows es from (rows_from from es [] es)
  all_rows = rows_are [] es (λ k r is. cc) (λ k. let e : 0 + k ≡ k = omega arith in ap (slice_get es) e)

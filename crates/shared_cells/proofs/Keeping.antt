-- A step of one seat keeps the rule.
use Rattle.std.proofs.Common.{◌≡◌, ◌≢◌, ℕ, ◌+◌, ◌*◌, ◌<◌, ◌≤◌, List, [], ◌∷◌, ◌++◌, length, replicate, Some, refl, sym, ap, subst, ◌∙◌, ⊎_elim, arith, length-append}
use Rattle.std.specs.Prelude.{slice_get, slice_set}
use Rattle.std.proofs.lemmas.List.{length-replicate}
use Rattle.std.proofs.lemmas.Option.{slice_get_within}
use mathlib.Core.Option.{some}
use lib.ListN.{get_elem?}
use Rattle.atomic_table.proofs.Lists.{at_set}
use Rattle.sync_objects.specs.Setup.{SetupView}
use Rattle.flow_code.specs.declared.code.Code.{Code}
use Rattle.core_run.specs.Histories.{IsReachable}
use Rattle.core_run.specs.Machine.{Told}
use Rattle.core_run.specs.Words.{cells_of, start_words}
use Rattle.run_theory.specs.Steps.{State}
use Rattle.rr_base.proofs.Lists.{slice_get_inside}
use Rattle.shared_cells.specs.Views.{SeatView, never}
use Rattle.shared_cells.specs.Words.{objects_end, departure_place, first_words, HasGoneOn, HaveGoneOn}
use Rattle.shared_cells.specs.Rule.{Carries, AreApart, IsPut, IsSeen, Shows}

pub gone_on : (a b c : ℕ) → HasGoneOn a b → HasGoneOn b c → HasGoneOn a c
gone_on a b c h k = record {
  number = let x = h.number in let y = k.number in omega (arith, x, y);
  same = λ e.
      let x = h.number in
      let y = k.number in
      h.same (omega (arith, x, y, e)) ∙ k.same (omega (arith, x, y, e));
}

pub gone_nowhere : (a : ℕ) → HasGoneOn a a
gone_nowhere a = record { number = omega arith; same = λ e. refl }

-- how many words there are
pub length-first_words : (code : Code) (s : SetupView) → length (first_words code s) ≡ objects_end code s + 8 * length code.locks + 2
length-first_words code s =
    let wants : List ℕ = replicate (8 * length code.locks) 0 in
    let a : length (first_words code s) ≡ length (start_words code s ++ wants) + 2 = length-append (start_words code s ++ wants) (never ∷ 0 ∷ []) in
    let b : length (start_words code s ++ wants) ≡ length (start_words code s) + length wants = length-append (start_words code s) wants in
    let c : length wants ≡ 8 * length code.locks = length-replicate (8 * length code.locks) 0 in
    omega (arith, a, b, c)

-- a view with one thread
pub only : (v : SeatView) → length v.carried ≡ 1 → (told : Told) × (v.carried ≡ told ∷ [])
only v alone = by v.carried alone
  where
    by : (xs : List Told) → length xs ≡ 1 → (told : Told) × (xs ≡ told ∷ [])
    by [] e = cc
    by (x ∷ []) e = (x, refl)
    by (x ∷ y ∷ ys) e = absurd (omega (arith, e))

module _ (code : Code) (s : SetupView) (words words1 : List ℕ) (views : List SeatView) (id : ℕ) (v v1 : SeatView) (h : Shows code s words views) where
  -- what a step shows that changes the words and the view of one seat
  pub record Keeps : Type 0 where
    pub state : State Told
    pub reached : IsReachable code s state
    pub others : List ℕ
    pub words_are : words1 ≡ state.words ++ others
    pub size : length words1 ≡ length words
    pub code_is : v1.code ≡ v.code
    pub setup_is : v1.setup ≡ v.setup
    pub from_is : v1.from ≡ v.from
    pub alone : length v1.carried ≡ 1
    pub carries : Carries state v1
    pub elsewhere : (k : ℕ) → k ≢ v.from → slice_get state.threads k ≡ slice_get h.state.threads k
    pub goes_on : (k now now1 : ℕ) → cells_of code s ≤ k → k < objects_end code s → slice_get words k ≡ Some now → slice_get words1 k ≡ Some now1 → HasGoneOn now now1
    pub notes : HaveGoneOn code s v1.notes words1
    pub met : (d : ℕ) → slice_get words1 (departure_place code s) ≡ Some d → d ≤ v1.met
    pub falls : (d d1 : ℕ) → slice_get words (departure_place code s) ≡ Some d → slice_get words1 (departure_place code s) ≡ Some d1 → d1 ≤ d
    pub departed : (d : ℕ) → slice_get words1 (departure_place code s) ≡ Some d → IsPut (slice_set views id v1) d

  module _ (at : get_elem? views id ≡ some v) (one : length v.carried ≡ 1) (k : Keeps) where
    seen_here : IsSeen code s k.state words1 v1
    seen_here =
        let was = h.seen id v at (omega (arith, one)) in
        record {
          code_is = k.code_is ∙ was.code_is;
          setup_is = k.setup_is ∙ was.setup_is;
          carries = k.carries;
          notes = k.notes;
          met = k.met;
        }

    -- there was a word at each place
    word_at : (i : ℕ) → i < objects_end code s + 8 * length code.locks + 2 → (w : ℕ) × (slice_get words i ≡ Some w)
    word_at i lt =
        let size = h.size in
        let len = length-first_words code s in
        slice_get_inside words i (omega (arith, size, len, lt))

    departure_within : departure_place code s < objects_end code s + 8 * length code.locks + 2
    departure_within = omega arith

    seen_elsewhere : (j : ℕ) (w : SeatView) → j ≢ id → get_elem? views j ≡ some w → 0 < length w.carried → IsSeen code s k.state words1 w
    seen_elsewhere j w ne e carrying =
        let was = h.seen j w e carrying in
        record {
          code_is = was.code_is;
          setup_is = was.setup_is;
          carries = λ m told there.
              let lt : m < length w.carried = slice_get_within w.carried m told there in
              let differ : v.from + 0 ≢ w.from + m = h.apart id j v w (λ z. ne (sym z)) at e 0 m (omega (arith, one)) lt in
              k.elsewhere (w.from + m) (λ z. differ (omega (arith, z))) ∙ was.carries m told there;
          notes = λ m n now there low high is.
              let before = word_at n.word (omega (arith, high)) in
              gone_on n.value before.0 now (was.notes m n before.0 there low high before.1) (k.goes_on n.word before.0 now low high before.1 is);
          met = λ d is.
              let before = word_at (departure_place code s) departure_within in
              let a = k.falls before.0 d before.1 is in
              let b = was.met before.0 before.1 in
              omega (arith, a, b);
        }

    apart_here : (j : ℕ) (w : SeatView) → j ≢ id → get_elem? views j ≡ some w → AreApart v1 w
    apart_here j w ne e m n lm ln =
        let one1 = k.alone in
        let from = k.from_is in
        let differ : v.from + 0 ≢ w.from + n = h.apart id j v w (λ z. ne (sym z)) at e 0 n (omega (arith, one)) ln in
        λ z. differ (omega (arith, z, from, one1, lm))

    pub shows_kept : Shows code s words1 (slice_set views id v1)
    shows_kept = record {
      state = k.state;
      reached = k.reached;
      others = k.others;
      words_are = k.words_are;
      size = k.size ∙ h.size;
      seen = λ j w e carrying. ⊎_elim (λ p. subst (IsSeen code s k.state words1) p.1 seen_here) (λ p. seen_elsewhere j w p.0 p.1 carrying) (at_set views id j v1 w e);
      apart = λ i j x y ne ei ej.
          ⊎_elim
          (λ a. ⊎_elim
          (λ b. absurd (ne (a.0 ∙ sym b.0)))
          (λ b. subst (λ (z : SeatView). AreApart z y) a.1 (apart_here j y b.0 b.1))
          (at_set views id j v1 y ej))
          (λ a. ⊎_elim
          (λ b. subst (λ (z : SeatView). AreApart x z) b.1 (λ m n lm ln q. apart_here i x a.0 a.1 n m ln lm (sym q)))
          (λ b. h.apart i j x y ne a.1 b.1)
          (at_set views id j v1 y ej))
          (at_set views id i v1 x ei);
      spent = λ j w e none. ⊎_elim
          (λ p.
          let same = ap (λ (z : SeatView). length z.carried) p.1 in
          let one1 = k.alone in
          absurd (omega (arith, same, one1, none)))
          (λ p. h.spent j w p.1 none)
          (at_set views id j v1 w e);
      low = λ d is.
          let before = word_at (departure_place code s) departure_within in
          let a = k.falls before.0 d before.1 is in
          let b = h.low before.0 before.1 in
          omega (arith, a, b);
      departed = k.departed;
    }

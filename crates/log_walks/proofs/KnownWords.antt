-- The words of objects, as they are kept along a log.
use Rattle.std.proofs.Common.{◌≡◌, ℕ, zero, suc, ◌+◌, ◌-◌, ◌^◌, ◌<◌, ◌≤◌, ℤ, List, [], ◌∷◌, Some, sym, ap, subst, ◌∙◌, add-one, arith, ⊎_elim}
use Rattle.std.specs.Prelude.{slice_get, take, if◌then◌else◌}
use Rattle.std.proofs.lemmas.Bool.{cases_eq}
use Rattle.std.proofs.lemmas.Option.{same_Some}
use Rattle.indexmap.specs.IndexMap.{IndexMap}
use Rattle.sync_objects.specs.Advance.{NotAllowed, Advances}
use Rattle.sync_objects.specs.Names.{object_kind, Fits}
use Rattle.sync_objects.specs.Start.{start_word}
use Rattle.sync_objects.specs.declared.entry.Entry.{Entry}
use Rattle.sync_objects.specs.declared.object.ObjId.{ObjId}
use Rattle.run_theory.specs.Same.{same_object}
use Rattle.run_theory.proofs.SameEntries.{object_cases, same_object-refl, same_object-ne}
use Rattle.core_run.proofs.Beginnings.{start_number}
use Rattle.sync_objects.proofs.Soundness.{start_is_sound}
use Rattle.log_walks.specs.Known.{known_advance, known_word, word_after, word_past, IsNeverAllowed, IsWrongAt, NoneIsWrong}
use Rattle.log_walks.specs.WordMap.{word_in, IsPut}
use Rattle.log_walks.proofs.Like.{IsSoundAfter, sound_after}

-- the words that the first so many entries leave, of which none is never allowed
pub record AreKnown (slots : ℕ) (all : List Entry) {S : Type 0} (words : IndexMap ObjId ℕ S) (k : ℕ) : Type 0 where
  pub words_are : (o : ObjId) → word_in words o ≡ known_word slots o (take k all) (start_word o)
  pub sound : (o : ObjId) → IsSoundAfter (object_kind o) k (word_in words o)
  pub none : NoneIsWrong slots all k

-- the word after one entry more
known_next : (slots : ℕ) (o : ObjId) (es : List Entry) (k : ℕ) (e : Entry) (w : ℕ) → slice_get es k ≡ Some e → known_word slots o (take (suc k) es) w ≡ word_past slots o e (known_word slots o (take k es) w)
known_next slots o [] k e w at = cc
known_next slots o (x ∷ es) zero e w at = ap (λ z. word_past slots o z w) (same_Some x e at)
known_next slots o (x ∷ es) (suc k) e w at = known_next slots o es k e (word_past slots o x w) at

module _ (slots : ℕ) (all : List Entry) {S : Type 0} (words : IndexMap ObjId ℕ S) (k : ℕ) (h : AreKnown slots all words k) (e : Entry) (at : slice_get all k ≡ Some e) where
  -- an entry that the word doesn't allow is never allowed
  pub wrong_here : (Fits e.op e.obj → known_advance slots e (word_in words e.obj) ≡ NotAllowed) → IsWrongAt slots all k
  wrong_here never = (e, at, λ fits. ap (known_advance slots e) (sym (h.words_are e.obj)) ∙ never fits)

  module _ (next : ℕ) (answer : ℤ) (fits : Fits e.op e.obj) (moves : known_advance slots e (word_in words e.obj) ≡ Advances next answer) where
    not_wrong : IsWrongAt slots all k → ⊥
    not_wrong w =
        let same : w.0 ≡ e = same_Some w.0 e (sym w.1 ∙ at) in
        let never : IsNeverAllowed slots (take k all) e = subst (IsNeverAllowed slots (take k all)) same w.2 in
        let no = ap (known_advance slots e) (h.words_are e.obj) ∙ never fits in
        absurd cc

    past_is : (o : ObjId) → (if same_object e.obj o then next else word_in words o) ≡ word_past slots o e (word_in words o)
    past_is o = ⊎_elim
        (λ (q : e.obj ≡ o). subst (λ z. (if same_object e.obj z then next else word_in words z) ≡ word_past slots z e (word_in words z)) q
        (ap (λ b. if b then next else word_in words e.obj) (same_object-refl e.obj)
        ∙ sym (ap (word_after (word_in words e.obj)) moves)
        ∙ ap (λ b. if b then word_after (word_in words e.obj) (known_advance slots e (word_in words e.obj)) else word_in words e.obj) (sym (same_object-refl e.obj))))
        (λ (ne : e.obj ≡ o → ⊥).
        ap (λ b. if b then next else word_in words o) (same_object-ne e.obj o ne)
        ∙ ap (λ b. if b then word_after (word_in words o) (known_advance slots e (word_in words o)) else word_in words o) (sym (same_object-ne e.obj o ne)))
        (object_cases e.obj o)

    pub one_more : (later : IndexMap ObjId ℕ S) → IsPut words e.obj next later → 1 ≤ slots → slots ≤ 16 → e.thread < slots → k < 2 ^ 32 - 1 → AreKnown slots all later (k + 1)
    one_more later put some few small room = record {
      words_are = λ o. put o ∙ past_is o ∙ ap (word_past slots o e) (h.words_are o) ∙ sym (known_next slots o all k e (start_word o) at) ∙ ap (λ n. known_word slots o (take n all) (start_word o)) (sym (add-one k));
      sound = λ o. subst (IsSoundAfter (object_kind o) (k + 1)) (sym (put o)) (sound_here o);
      none = λ j less w. ⊎_elim (λ (q : j ≡ k). not_wrong (subst (IsWrongAt slots all) q w)) (λ (ne : j ≡ k → ⊥). h.none j (omega (arith, less, ne)) w) (cases_eq j k);
    }
      where
        mine : IsSoundAfter (object_kind e.obj) (k + 1) next
        mine = subst (IsSoundAfter (object_kind e.obj) (k + 1)) (ap (word_after (word_in words e.obj)) moves) (sound_after slots e k (word_in words e.obj) some few fits (omega (arith, small, few)) room (h.sound e.obj))

        sound_here : (o : ObjId) → IsSoundAfter (object_kind o) (k + 1) (if same_object e.obj o then next else word_in words o)
        sound_here o = ⊎_elim
            (λ (q : e.obj ≡ o). subst (λ z. IsSoundAfter (object_kind z) (k + 1) (if same_object e.obj z then next else word_in words z)) q (subst (IsSoundAfter (object_kind e.obj) (k + 1)) (ap (λ b. if b then next else word_in words e.obj) (sym (same_object-refl e.obj))) mine))
            (λ (ne : e.obj ≡ o → ⊥). let was = h.sound o in let low = was.1 in subst (IsSoundAfter (object_kind o) (k + 1)) (ap (λ b. if b then next else word_in words o) (sym (same_object-ne e.obj o ne))) (was.0, omega (arith, low)))
            (object_cases e.obj o)

pub none_at_first : (slots : ℕ) (all : List Entry) {S : Type 0} (words : IndexMap ObjId ℕ S) → ((o : ObjId) → word_in words o ≡ start_word o) → AreKnown slots all words 0
none_at_first slots all words fresh = record {
  words_are = fresh;
  sound = λ o. let zero_number = start_number o in subst (IsSoundAfter (object_kind o) 0) (sym (fresh o)) (start_is_sound o, omega (arith, zero_number));
  none = λ j less w. absurd (omega (arith, less));
}

-- Along the walk of a log each object's word is like the one that the log's entries decide, so the walk has no part for an entry
-- that they never allow.
use Rattle.std.proofs.Common.{◌≡◌, ◌≢◌, ℕ, suc, ◌+◌, ◌-◌, ◌^◌, ◌<◌, true, if◌then◌else◌, List, [], ◌∷◌, length, Option, Some, None, refl, sym, ap, subst, ◌∙◌, arith, ⊎_elim}
use Rattle.std.specs.Prelude.{slice_get}
use Rattle.std.proofs.lemmas.Option.{same_Some, slice_get_within}
use Rattle.sync_objects.specs.Names.{object_kind, kind_of}
use Rattle.sync_objects.specs.Setup.{SetupView, IsWithinLimits}
use Rattle.sync_objects.specs.Start.{start_word}
use Rattle.sync_objects.specs.declared.entry.Entry.{Entry}
use Rattle.sync_objects.specs.declared.object.ObjId.{ObjId}
use Rattle.sync_objects.proofs.Soundness.{start_is_sound}
use Rattle.flow_code.specs.declared.code.Code.{Code}
use Rattle.flow_code.specs.Settle.{IsRunnable}
use Rattle.core_run.specs.Histories.{IsReachable}
use Rattle.core_run.specs.Machine.{Told, machine, start_state}
use Rattle.core_run.specs.Walks.{walk_of}
use Rattle.core_run.specs.Words.{cells_of, place_of, has_object}
use Rattle.core_run.proofs.Beginnings.{start_number, start_word_at}
use Rattle.core_run.proofs.Lawful.{lawful}
use Rattle.core_run.proofs.Reached.{kept}
use Rattle.run_theory.specs.Laws.{IsLawful}
use Rattle.run_theory.specs.Steps.{State}
use Rattle.run_theory.specs.Walk.{IsPart, IsSoloRun, part}
use Rattle.run_theory.proofs.Kept.{reaches_more, reaches_step}
use Rattle.run_theory.proofs.SameEntries.{object_cases, same_object-refl, same_object-ne}
use Rattle.run_theory.proofs.Solo.{part_is, solo_of_walk}
use Rattle.replay_theory.proofs.Made.{IsMadeAfter, part_made}
use Rattle.log_walks.specs.Known.{known_advance, word_after, word_past, known_word, IsNeverAllowed}
use Rattle.log_walks.proofs.Like.{IsLike, like_itself, Goes, GoesLike, goes_like, IsSoundAfter, sound_after}
use Rattle.log_walks.proofs.Operations.{operation_here}

module _ (code : Code) (s : SetupView) (runnable : IsRunnable code) (limits : IsWithinLimits s) where
  law : IsLawful (machine code s)
  law = lawful code s runnable limits

  -- the objects' words are like these, which can be words after at most so many operations
  pub record AreLike (st : State Told) (words : ObjId → ℕ) (n : ℕ) : Type 0 where
    pub like : (o : ObjId) (w : ℕ) → has_object code s o ≡ true → slice_get st.words (place_of (cells_of code s) o) ≡ Some w → IsLike (object_kind o) w (words o)
    pub sound : (o : ObjId) → IsSoundAfter (object_kind o) n (words o)

  like_at_start : AreLike (start_state code s) start_word 0
  like_at_start = record {
    like = λ o w has at. subst (λ z. IsLike (object_kind o) z (start_word o)) (same_Some (start_word o) w (sym (start_word_at code s o limits has) ∙ at)) (like_itself (object_kind o) (start_word o));
    sound = λ o. let zero_number = start_number o in (start_is_sound o, omega (arith, zero_number));
  }

  -- what an entry that is made does by its name
  record IsMadeLike (e : Entry) (st st1 : State Told) (words : ObjId → ℕ) : Type 0 where
    new : ℕ
    after : IsMadeAfter (machine code s) law e st st1
    fits : kind_of e.op ≡ object_kind e.obj
    small : e.thread < 16
    has : has_object code s e.obj ≡ true
    at : slice_get st1.words (place_of (cells_of code s) e.obj) ≡ Some new
    goes : Goes (object_kind e.obj) (known_advance s.slots e (words e.obj)) new

  made_like : (e : Entry) (st st1 : State Told) (words : ObjId → ℕ) (n : ℕ) → IsReachable code s st → n < 2 ^ 32 - 1 → AreLike st words n → IsPart (machine code s) e st st1 → IsMadeLike e st st1 words
  made_like e st st1 words n reached few like p =
      let a = part_made (machine code s) law e st st1 p in
      let o = operation_here code s runnable limits a.made.label a.made.thread e a.made.change a.made.effect in
      let k = kept code s runnable limits a.between (reaches_more (machine code s) (start_state code s) st a.between reached a.reached) in
      let inside = slice_get_within a.between.threads _ a.made.thread a.made.stands in
      let threads = k.threads in
      let few_slots = limits.few_slots in
      let of_thread = o.of_thread in
      let small : e.thread < 16 = omega (arith, inside, threads, few_slots, of_thread) in
      let fits : kind_of e.op ≡ object_kind e.obj = ap kind_of (sym o.name) ∙ o.fits in
      let word = k.sound.each e.obj a.made.old o.has a.made.at in
      let low = word.1 in
      let mine = like.sound e.obj in
      let mine_low = mine.1 in
      let goes : GoesLike s.slots e.op (object_kind e.obj) o.o = subst (λ z. GoesLike s.slots e.op z o.o) fits (subst (λ z. GoesLike s.slots z (kind_of z) o.o) o.name (goes_like s.slots o.o o.range o.draws)) in
      record {
        new = a.made.new;
        after = a;
        fits = fits;
        small = small;
        has = o.has;
        at = a.made.words;
        goes = goes e.thread a.made.old (words e.obj) a.made.new a.made.answer small (omega (arith, low)) word.0 (omega (arith, mine_low, few)) mine.0 (like.like e.obj a.made.old o.has (sym (a.same e.obj o.has) ∙ a.made.at)) (o.row a.made.old a.made.new a.made.answer a.made.after a.made.becomes);
      }

  past_here : (e : Entry) (v : ℕ) → word_past s.slots e.obj e v ≡ word_after v (known_advance s.slots e v)
  past_here e v = ap (λ b. if b then word_after v (known_advance s.slots e v) else v) (same_object-refl e.obj)

  past_else : (o : ObjId) (e : Entry) (v : ℕ) → e.obj ≢ o → word_past s.slots o e v ≡ v
  past_else o e v ne = ap (λ b. if b then word_after v (known_advance s.slots e v) else v) (same_object-ne e.obj o ne)

  -- the words after an entry are like those that it decides
  like_past : (e : Entry) (st st1 : State Told) (words : ObjId → ℕ) (n : ℕ) → n < 2 ^ 32 - 1 → AreLike st words n → IsMadeLike e st st1 words → AreLike st1 (λ o. word_past s.slots o e (words o)) (n + 1)
  like_past e st st1 words n few like h = record {
    like = λ o w has at. ⊎_elim
        (λ (q : e.obj ≡ o). subst (λ z. slice_get st1.words (place_of (cells_of code s) z) ≡ Some w → IsLike (object_kind z) w (word_past s.slots z e (words z))) q (here w) at)
        (λ (ne : e.obj ≡ o → ⊥). subst (IsLike (object_kind o) w) (sym (past_else o e (words o) ne)) (like.like o w has (sym (h.after.others o has (λ q. ne (sym q))) ∙ at)))
        (object_cases e.obj o);
    sound = λ o. ⊎_elim
        (λ (q : e.obj ≡ o). subst (λ z. IsSoundAfter (object_kind z) (n + 1) (word_past s.slots z e (words z))) q (subst (IsSoundAfter (object_kind e.obj) (n + 1)) (sym (past_here e (words e.obj))) (sound_after s.slots e n (words e.obj) limits.some_slot limits.few_slots h.fits h.small few (like.sound e.obj))))
        (λ (ne : e.obj ≡ o → ⊥). let mine = like.sound o in let low = mine.1 in subst (IsSoundAfter (object_kind o) (n + 1)) (sym (past_else o e (words o) ne)) (mine.0, omega (arith, low)))
        (object_cases e.obj o);
  }
    where
      here : (w : ℕ) → slice_get st1.words (place_of (cells_of code s) e.obj) ≡ Some w → IsLike (object_kind e.obj) w (word_past s.slots e.obj e (words e.obj))
      here w at =
          subst (IsLike (object_kind e.obj) w) (sym (past_here e (words e.obj) ∙ ap (word_after (words e.obj)) h.goes.is))
          (subst (λ z. IsLike (object_kind e.obj) z h.goes.word) (same_Some h.new w (sym h.at ∙ at)) h.goes.like)

  part_reaches : (e : Entry) (st st1 : State Told) → IsReachable code s st → IsPart (machine code s) e st st1 → IsReachable code s st1
  part_reaches e st st1 reached p = reaches_step (machine code s) (start_state code s) p.between st1 p.last (reaches_more (machine code s) (start_state code s) st p.between reached (p.before, p.leads)) p.ends

  record IsLikeEnd (es : List Entry) (st1 : State Told) (words : ObjId → ℕ) (n : ℕ) : Type 0 where
    reached : IsReachable code s st1
    like : AreLike st1 (λ o. known_word s.slots o es (words o)) (n + length es)

  solo_like : (es : List Entry) (st st1 : State Told) (words : ObjId → ℕ) (n : ℕ) → IsReachable code s st → n + length es < 2 ^ 32 - 1 → AreLike st words n → IsSoloRun (machine code s) es st st1 → IsLikeEnd es st1 words n
  solo_like [] st st1 words n reached few like h = record {
    reached = subst (IsReachable code s) h reached;
    like = subst (λ z. AreLike z words (n + 0)) h (subst (AreLike st words) (omega arith) like);
  }
  solo_like (e ∷ es) st st1 words n reached few like h =
      let room : n < 2 ^ 32 - 1 = omega (arith, few) in
      let made = made_like e st h.0 words n reached room like h.1 in
      let r = solo_like es h.0 st1 (λ o. word_past s.slots o e (words o)) (n + 1) (part_reaches e st h.0 reached h.1) (omega (arith, few)) (like_past e st h.0 words n room like made) h.2 in
      let m : n + 1 + length es ≡ n + suc (length es) = omega arith in
      record { reached = r.reached; like = subst (AreLike st1 (λ o. known_word s.slots o (e ∷ es) (words o))) m r.like }

  -- after its first entries the walk has no part for an entry that they never allow
  pub never_made : (before : List Entry) (e : Entry) (mid : State Told) → length before < 2 ^ 32 - 1 → walk_of code s before (start_state code s) ≡ Some mid → IsNeverAllowed s.slots before e → part (machine code s) e mid ≡ None
  never_made before e mid few walked never = go (part (machine code s) e mid) refl
    where
      end : IsLikeEnd before mid start_word 0
      end = solo_like before (start_state code s) mid start_word 0 ([], refl) (omega (arith, few)) like_at_start (solo_of_walk (machine code s) before (start_state code s) mid walked)

      go : (o : Option (State Told)) → part (machine code s) e mid ≡ o → o ≡ None
      go None is = refl
      go (Some st1) is =
          let made = made_like e mid st1 (λ o. known_word s.slots o before (start_word o)) (0 + length before) end.reached (omega (arith, few)) end.like (part_is (machine code s) e mid st1 is) in
          let no = never made.fits in
          absurd cc

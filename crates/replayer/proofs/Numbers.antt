-- The numbers of a log's entries, as they are counted.
use Rattle.std.proofs.Common.{◌≡◌, ℕ, suc, ◌+◌, ◌≤◌, ◌<◌, ◌^◌, ◌-◌, Bool, true, false, List, [], ◌∷◌, ◌++◌, length, take, Some, zero, refl, sym, ap, ◌∙◌, append_assoc, add-one, arith}
use Rattle.std.specs.Prelude.{slice_get, if◌then◌else◌, ◌==◌}
use Rattle.std.proofs.lemmas.Option.{same_Some}
use Rattle.std.proofs.lemmas.List.{append-nil, length-append}
use Rattle.std.proofs.lemmas.Bool.{eq-eqb, ne_eqb}
use Rattle.sync_objects.specs.declared.entry.Entry.{Entry}
use Rattle.sync_objects.specs.declared.entry.Noted.{Noted}
use Rattle.sync_objects.specs.declared.object.ObjId.{ObjId}
use Rattle.indexmap.specs.IndexMap.{IndexMap}
use Rattle.entry_merge.specs.Counts.{count_in, AreCounted}
use Rattle.replay_theory.specs.Numbered.{numbered, numbered_after, with_number}
use Rattle.run_theory.specs.Merge.{entries_at}
use Rattle.run_theory.specs.Same.{same_object}
use Rattle.run_theory.proofs.Written.{entries_at-append}
use Rattle.replayer.specs.Wants.{wanted_from}
use Rattle.replayer.proofs.Listing.{length-numbered}
use Rattle.replayer.specs.declared.wanted.Wanted.{Wanted}

-- the first so many entries have their numbers, and so many of each object are counted
pub record AreNumbered (all : List Entry) {S : Type 0} (counts : IndexMap ObjId ℕ S) (noted : List Noted) (k : ℕ) : Type 0 where
  pub same : noted ≡ numbered (take k all)
  pub counted : (o : ObjId) → count_in counts o ≡ entries_at o noted

-- no object has more entries than there are
pub few_at : (o : ObjId) (xs : List Noted) → entries_at o xs ≤ length xs
few_at o [] = omega arith
few_at o (x ∷ xs) = by (same_object x.entry.obj o) (few_at o xs)
  where
    by : (b : Bool) → entries_at o xs ≤ length xs → (if b then suc (entries_at o xs) else entries_at o xs) ≤ suc (length xs)
    by true h = omega (arith, h)
    by false h = omega (arith, h)

length-take_le : {A : Type 0} (k : ℕ) (xs : List A) → length (take k xs) ≤ length xs
length-take_le zero xs = omega arith
length-take_le (suc k) [] = omega arith
length-take_le (suc k) (x ∷ xs) = let h = length-take_le k xs in omega (arith, h)

counted_more : (b : Bool) (n : ℕ) → (if b then suc n else n) ≡ n + (if b then suc 0 else 0)
counted_more true n = omega arith
counted_more false n = omega arith

pub numbered-next : (before : List Noted) (es : List Entry) (k : ℕ) (e : Entry) → slice_get es k ≡ Some e → numbered_after before (take (suc k) es) ≡ numbered_after before (take k es) ++ with_number (before ++ numbered_after before (take k es)) e ∷ []
numbered-next before [] k e at = cc
numbered-next before (e0 ∷ es) zero e at = ap (λ z. with_number before z ∷ []) (same_Some e0 e at) ∙ ap (λ z. with_number z e ∷ []) (sym (append-nil before))
numbered-next before (e0 ∷ es) (suc k) e at =
    let y = with_number before e0 in
    ap (λ z. y ∷ z) (numbered-next (before ++ y ∷ []) es k e at ∙ ap (λ z. numbered_after (before ++ y ∷ []) (take k es) ++ with_number z e ∷ []) (append_assoc before (y ∷ []) (numbered_after (before ++ y ∷ []) (take k es))))

module _ {S : Type 0} (all : List Entry) (counts later : IndexMap ObjId ℕ S) (noted : List Noted) (e : Entry) (k : ℕ) (h : AreNumbered all counts noted k) (at : slice_get all k ≡ Some e) where
  pub small : length all < 2 ^ 32 - 1 → count_in counts e.obj < 2 ^ 32
  small few =
      let same = h.counted e.obj in
      let most = few_at e.obj noted in
      let long = ap length h.same ∙ length-numbered [] (take k all) in
      let short = length-take_le k all in
      omega (arith, same, most, long, short, few)

  pub one_more : (pushed : List Noted) → pushed ≡ noted ++ record { entry = e; number = count_in counts e.obj } ∷ [] → AreCounted counts e.obj later → AreNumbered all later pushed (k + 1)
  one_more pushed is counted =
      let x = with_number noted e in
      let same : pushed ≡ noted ++ x ∷ [] = is ∙ ap (λ n. noted ++ record { entry = e; number = n } ∷ []) (h.counted e.obj) in
      record {
        same = same ∙ ap (λ z. z ++ with_number z e ∷ []) h.same ∙ sym (numbered-next [] all k e at) ∙ ap (λ n. numbered (take n all)) (sym (add-one k));
        counted = λ o.
            counted o
            ∙ ap (λ n. if same_object e.obj o then suc n else n) (h.counted o)
            ∙ counted_more (same_object e.obj o) (entries_at o noted)
            ∙ sym (entries_at-append o noted (x ∷ []))
            ∙ ap (entries_at o) (sym same);
      }

take_all : {A : Type 0} (xs : List A) → take (length xs) xs ≡ xs
take_all [] = refl
take_all (x ∷ xs) = ap (λ z. x ∷ z) (take_all xs)

pub all_numbered : {S : Type 0} (all : List Entry) (counts : IndexMap ObjId ℕ S) (noted : List Noted) (k : ℕ) → AreNumbered all counts noted k → k ≡ length all → noted ≡ numbered all
all_numbered all counts noted k h e = h.same ∙ ap (λ n. numbered (take n all)) e ∙ ap numbered (take_all all)

-- ---- the entries of one thread

pub record AreWanted (t : ℕ) (all : List Noted) (wanted : List Wanted) (position : ℕ) (rest : List Noted) : Type 0 where
  pub same : wanted_from t 0 all ≡ wanted ++ wanted_from t position rest
  pub place : position + length rest ≡ length all

module _ (t : ℕ) (all : List Noted) (wanted : List Wanted) (position : ℕ) (x : Noted) (rest : List Noted) (h : AreWanted t all wanted position (x ∷ rest)) where
  pub its_own : (pushed : List Wanted) → x.entry.thread ≡ t → pushed ≡ wanted ++ record { noted = x; position = position } ∷ [] → AreWanted t all pushed (position + 1) rest
  its_own pushed own is =
      let place = h.place in
      record {
        same = h.same
            ∙ ap (λ b. wanted ++ (if b then record { noted = x; position = position } ∷ wanted_from t (position + 1) rest else wanted_from t (position + 1) rest)) (eq-eqb x.entry.thread t own)
            ∙ sym (append_assoc wanted (record { noted = x; position = position } ∷ []) (wanted_from t (position + 1) rest))
            ∙ ap (λ z. z ++ wanted_from t (position + 1) rest) (sym is);
        place = omega (arith, place);
      }

  pub anothers : (x.entry.thread ≡ t → ⊥) → AreWanted t all wanted (position + 1) rest
  anothers other =
      let place = h.place in
      record {
        same = h.same ∙ ap (λ b. wanted ++ (if b then record { noted = x; position = position } ∷ wanted_from t (position + 1) rest else wanted_from t (position + 1) rest)) (ne_eqb x.entry.thread t other);
        place = omega (arith, place);
      }

-- a thread has no more entries than there are
wanted_short : (t p : ℕ) (xs : List Noted) → length (wanted_from t p xs) ≤ length xs
wanted_short t p [] = omega arith
wanted_short t p (x ∷ xs) = by (x.entry.thread == t) (wanted_short t (p + 1) xs)
  where
    by : (b : Bool) → length (wanted_from t (p + 1) xs) ≤ length xs → length (if b then record { noted = x; position = p } ∷ wanted_from t (p + 1) xs else wanted_from t (p + 1) xs) ≤ suc (length xs)
    by true h = omega (arith, h)
    by false h = omega (arith, h)

pub few_wanted : (t : ℕ) (all : List Noted) (wanted : List Wanted) (position : ℕ) (rest : List Noted) → AreWanted t all wanted position rest → length all < 2 ^ 32 - 1 → length wanted < 2 ^ 32
few_wanted t all wanted position rest h few =
    let same = ap length h.same in
    let sum = length-append wanted (wanted_from t position rest) in
    let short = wanted_short t 0 all in
    omega (arith, same, sum, short, few)

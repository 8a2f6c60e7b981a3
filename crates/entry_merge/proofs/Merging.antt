-- The merge is written one entry after another.
use Rattle.std.proofs.Common.{◌≡◌, ℕ, zero, suc, ◌+◌, Bool, true, false, List, [], ◌∷◌, ◌++◌, length, refl, sym, ap, ◌∙◌, subst, arith}
use Rattle.std.specs.Prelude.{if◌then◌else◌, ◌==◌, map}
use Rattle.sync_objects.specs.declared.entry.Entry.{Entry}
use Rattle.sync_objects.specs.declared.entry.Noted.{Noted}
use Rattle.sync_objects.specs.declared.object.ObjId.{ObjId}
use Rattle.run_theory.specs.Same.{same_object}
use Rattle.run_theory.specs.Merge.{entries_at, Taken, Stuck, Takes, after_list, next_entry, merged_on, merged_after, total_length, written_merge}
use Rattle.run_theory.proofs.Written.{entries_at-append}
use Rattle.entry_merge.specs.Counts.{next_by}

-- only the counts matter
pub next_by_counts : (taken : ObjId → ℕ) (before : List Noted) (lists : List (List Noted)) → ((o : ObjId) → taken o ≡ entries_at o before) → next_entry before lists ≡ next_by taken lists
next_by_counts taken before [] same = refl
next_by_counts taken before ([] ∷ lists) same = ap (after_list []) (next_by_counts taken before lists same)
next_by_counts taken before ((x ∷ xs) ∷ lists) same =
    ap (λ n. if x.number == n then Takes x (xs ∷ lists) else after_list (x ∷ xs) (next_entry before lists)) (sym (same x.entry.obj))
    ∙ ap (λ z. if x.number == taken x.entry.obj then Takes x (xs ∷ lists) else after_list (x ∷ xs) z) (next_by_counts taken before lists same)

-- whatever is taken, its list is one shorter
abbrev IsShorter : ℕ → Taken → Type 0
IsShorter n Stuck = Unit {0}
IsShorter n (Takes x rest) = n ≡ suc (total_length rest)

after_is_shorter : (xs : List Noted) (n : ℕ) (t : Taken) → IsShorter n t → IsShorter (length xs + n) (after_list xs t)
after_is_shorter xs n Stuck h = tt
after_is_shorter xs n (Takes x rest) h = omega (arith, h)

next_is_shorter : (taken : ObjId → ℕ) (lists : List (List Noted)) → IsShorter (total_length lists) (next_by taken lists)
next_is_shorter taken [] = tt
next_is_shorter taken ([] ∷ lists) = after_is_shorter [] (total_length lists) (next_by taken lists) (next_is_shorter taken lists)
next_is_shorter taken ((x ∷ xs) ∷ lists) = go (x.number == taken x.entry.obj) (next_is_shorter taken lists)
  where
    go : (b : Bool) → IsShorter (total_length lists) (next_by taken lists) → IsShorter (total_length ((x ∷ xs) ∷ lists)) (if b then Takes x (xs ∷ lists) else after_list (x ∷ xs) (next_by taken lists))
    go true h = omega arith
    go false h = after_is_shorter (x ∷ xs) (total_length lists) (next_by taken lists) h

pub taken_is_shorter : (taken : ObjId → ℕ) (lists rest : List (List Noted)) (x : Noted) → next_by taken lists ≡ Takes x rest → total_length lists ≡ suc (total_length rest)
taken_is_shorter taken lists rest x e = subst (IsShorter (total_length lists)) e (next_is_shorter taken lists)

-- what was taken, the counts of it, and what is left of the lists
pub record IsBetween (lists : List (List Noted)) (taken : ObjId → ℕ) (merged : List Entry) (rest : List (List Noted)) : Type 0 where
  pub before : List Noted
  pub entries : merged ≡ map (λ (x : Noted). x.entry) before
  pub counts : (o : ObjId) → taken o ≡ entries_at o before
  pub written : written_merge lists ≡ before ++ merged_after (total_length rest) before rest

map_append : {X Y : Type 0} (f : X → Y) (xs ys : List X) → map f (xs ++ ys) ≡ map f xs ++ map f ys
map_append f [] ys = refl
map_append f (x ∷ xs) ys = ap (λ zs. f x ∷ zs) (map_append f xs ys)

append_assoc : {X : Type 0} (xs ys zs : List X) → (xs ++ ys) ++ zs ≡ xs ++ (ys ++ zs)
append_assoc [] ys zs = refl
append_assoc (x ∷ xs) ys zs = ap (λ l. x ∷ l) (append_assoc xs ys zs)

append_nil : {X : Type 0} (xs : List X) → xs ++ [] ≡ xs
append_nil [] = refl
append_nil (x ∷ xs) = ap (λ l. x ∷ l) (append_nil xs)

module _ (lists : List (List Noted)) (taken : ObjId → ℕ) (merged : List Entry) (rest : List (List Noted)) (b : IsBetween lists taken merged rest) where
  -- where an entry is taken next, it comes next in the merge
  pub takes_next : (x : Noted) (left : List (List Noted)) (counted : ObjId → ℕ) → next_by taken rest ≡ Takes x left → ((o : ObjId) → counted o ≡ (if same_object x.entry.obj o then suc (taken o) else taken o)) → IsBetween lists counted (merged ++ x.entry ∷ []) left
  takes_next x left counted next counts = record {
    before = b.before ++ x ∷ [];
    entries = ap (λ es. es ++ x.entry ∷ []) b.entries ∙ sym (map_append (λ (y : Noted). y.entry) b.before (x ∷ []));
    counts = λ o. counts o ∙ one_more o (same_object x.entry.obj o) ∙ sym (entries_at-append o b.before (x ∷ []));
    written =
        b.written
        ∙ ap (λ n. b.before ++ merged_after n b.before rest) (taken_is_shorter taken rest left x next)
        ∙ ap (λ z. b.before ++ merged_on (merged_after (total_length left)) b.before z) (next_by_counts taken b.before rest b.counts ∙ next)
        ∙ sym (append_assoc b.before (x ∷ []) (merged_after (total_length left) (b.before ++ x ∷ []) left));
  }
    where
      one_more : (o : ObjId) (same : Bool) → (if same then suc (taken o) else taken o) ≡ entries_at o b.before + (if same then 1 else 0)
      one_more o true = omega (arith, b.counts o)
      one_more o false = omega (arith, b.counts o)

  -- where none is, the merge is whole
  pub ends : next_by taken rest ≡ Stuck → merged ≡ map (λ (x : Noted). x.entry) (written_merge lists)
  ends next = b.entries ∙ ap (map (λ (x : Noted). x.entry)) (sym (b.written ∙ ap (λ ys. b.before ++ ys) (none_left (total_length rest)) ∙ append_nil b.before))
    where
      none_left : (n : ℕ) → merged_after n b.before rest ≡ []
      none_left zero = refl
      none_left (suc n) = ap (merged_on (merged_after n) b.before) (next_by_counts taken b.before rest b.counts ∙ next)

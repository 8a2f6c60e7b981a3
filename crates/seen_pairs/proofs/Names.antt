-- The names of the pairs that were noted.
use Rattle.std.proofs.Common.{◌≡◌, ℕ, ⊎_elim, true, List, [], ◌∷◌, map, Ordering, Less, Equal, Greater, is_eq, cond, refl, sym, ap, ◌∙◌, subst}
use Rattle.std.specs.Prelude.{Contains}
use Rattle.std.specs.Ordering.{ordering_reverse, is_le}
use Rattle.std.proofs.lemmas.Cmp.{nat_list_cmp_total}
use Rattle.std.proofs.lemmas.Map.Text.{is_eq-slice_cmp}
use Rattle.std.proofs.lemmas.Slice.Eq.{bytes_eq-Decides}
use Rattle.sync_objects.specs.Setup.{SetupView}
use Rattle.sync_objects.specs.declared.entry.Entry.{Entry}
use Rattle.flow_code.specs.declared.code.Code.{Code}
use Rattle.profiles.specs.Profile.{Text, Pair, text_order, ordered}
use Rattle.profile_book.specs.Listing.{IsSetOf}
use Rattle.seen_pairs.specs.Pairings.{AreNoted, names_of}
use Rattle.seen_pairs.specs.Seen.{name_of, IsSeen, AreSeen}
use Rattle.seen_pairs.proofs.Lists.{here, there, none, first_or_later}

-- ---- the order of two texts doesn't matter

same_text : (a b : Text) → is_eq (text_order a b) ≡ true → a ≡ b
same_text a b e = (bytes_eq-Decides a b).0 (sym (is_eq-slice_cmp a b) ∙ e)

by_order : (a b : Text) (o r : Ordering) → r ≡ ordering_reverse o → (is_eq o ≡ true → a ≡ b) → ◌≡◌ {A = Pair} (cond (is_le o) (a, b) (b, a)) (cond (is_le r) (b, a) (a, b))
by_order a b Less r e h = ap (λ z. cond (is_le z) (b, a) (a, b)) (sym e)
by_order a b Equal r e h = let q = h refl in (λ i. (q i, sym q i)) ∙ ap (λ z. cond (is_le z) (b, a) (a, b)) (sym e)
by_order a b Greater r e h = ap (λ z. cond (is_le z) (b, a) (a, b)) (sym e)

ordered_either : (a b : Text) → ordered a b ≡ ordered b a
ordered_either a b = by_order a b (text_order a b) (text_order b a) (nat_list_cmp_total.antisymm b a) (same_text a b)

-- ---- what is listed

listed_of : {X Y : Type 0} (f : X → Y) (xs : List X) (y : Y) → Contains (map f xs) y → (x : X) × Contains xs x × (f x ≡ y)
listed_of f [] y c = absurd (none y c)
listed_of f (x ∷ xs) y c =
    ⊎_elim
    (λ e. (x, here x xs, e))
    (λ d. let r = listed_of f xs y d in (r.0, there x r.0 xs r.1, r.2))
    (first_or_later (f x) y (map f xs) c)

of_listed : {X Y : Type 0} (f : X → Y) (xs : List X) (x : X) → Contains xs x → Contains (map f xs) (f x)
of_listed f [] x c = absurd (none x c)
of_listed f (z ∷ xs) x c =
    ⊎_elim
    (λ e. subst (λ y. Contains (f z ∷ map f xs) y) (ap f e) (here (f z) (map f xs)))
    (λ d. there (f z) (f x) (map f xs) (of_listed f xs x d))
    (first_or_later z x xs c)

pub seen_of : (code : Code) (s : SetupView) (es : List Entry) (noted : List (ℕ × ℕ)) (listed ps : List Pair) → AreNoted code s es noted → listed ≡ map (names_of code) noted → IsSetOf listed ps → AreSeen code s es ps
seen_of code s es noted listed ps h e set = record { end = h.end; walked = h.walked; ascending = set.ascending; each = λ p. (seen p, found p) }
  where
    seen : (p : Pair) → Contains ps p → IsSeen code s es p
    seen p c =
        let x = listed_of (names_of code) noted p (subst (λ zs. Contains zs p) e ((set.same p).0 c)) in
        record { first = x.0.0; second = x.0.1; at_once = h.only x.0.0 x.0.1 x.1; named = sym x.2 }

    in_list : (p : Pair) (x : ℕ × ℕ) → Contains noted x → names_of code x ≡ p → Contains ps p
    in_list p x c q = (set.same p).1 (subst (λ zs. Contains zs p) (sym e) (subst (λ y. Contains (map (names_of code) noted) y) q (of_listed (names_of code) noted x c)))

    found : (p : Pair) → IsSeen code s es p → Contains ps p
    found p x =
        ⊎_elim
        (λ c. in_list p (x.first, x.second) c (sym x.named))
        (λ c. in_list p (x.second, x.first) c (ordered_either (name_of code x.second) (name_of code x.first) ∙ sym x.named))
        (h.all x.first x.second x.at_once)

-- What is noted in a set of pairs, step by step.
use Rattle.std.proofs.Common.{◌≡◌, ℕ, zero, suc, ◌+◌, Bool, true, false, eqb, ne_eqb, drop, get_or, ◌<◌, ◌≤◌, ◌⊎◌, inl, inr, ⊎_elim, List, [], ◌∷◌, length, Some, Ordering, Less, Equal, Greater, refl, sym, ap, ◌∙◌, subst, arith}
use Rattle.std.specs.Prelude.{slice_get, Contains}
use Rattle.std.proofs.lemmas.Bool.{cases_eq, cases_lt, eqb-false, true≢false}
use Rattle.std.proofs.lemmas.Option.{same_Some, slice_get_within}
use Rattle.std.specs.BTreeSet.{insert_key}
use Rattle.std.specs.Ordering.{nat_cmp, ordering_then, match_ordering, MatchOrdering}
use Rattle.std.proofs.lemmas.Cmp.{ranked}
use Rattle.seen_pairs.specs.Pairings.{Notes, IsElsewhere}
use Rattle.seen_pairs.proofs.Lists.{here, there, none, first_or_later}

-- ---- one pair more

-- the order of pairs of numbers
abbrev pub numbers_order : ℕ × ℕ → ℕ × ℕ → Ordering
numbers_order p q = ordering_then (nat_cmp p.0 q.0) (nat_cmp p.1 q.1)

same_number : (a b : ℕ) (o : Ordering) → o ≡ nat_cmp a b → o ≡ Equal → a ≡ b
same_number a b o e h = subst (λ r. MatchOrdering r (a < b) (a ≡ b) (b < a)) h (ranked a b o e)

both_equal : (r s : Ordering) → ordering_then r s ≡ Equal → (r ≡ Equal) × (s ≡ Equal)
both_equal Less s e = cc
both_equal Equal s e = (refl, e)
both_equal Greater s e = cc

same_pair : (p q : ℕ × ℕ) → numbers_order p q ≡ Equal → p ≡ q
same_pair p q e =
    let t = both_equal (nat_cmp p.0 q.0) (nat_cmp p.1 q.1) e in
    let a = same_number p.0 q.0 (nat_cmp p.0 q.0) refl t.0 in
    let b = same_number p.1 q.1 (nat_cmp p.1 q.1) refl t.1 in
    (λ i. (a i, b i))

-- exactly this pair
abbrev pub Is : ℕ → ℕ → ℕ → ℕ → Type 0
Is f g a b = (a ≡ f) × (b ≡ g)

is_pair : (f g a b : ℕ) → ◌≡◌ {A = ℕ × ℕ} (f, g) (a, b) → Is f g a b
is_pair f g a b e = (sym (ap (λ (p : ℕ × ℕ). p.0) e), sym (ap (λ (p : ℕ × ℕ). p.1) e))

pair_is : (f g a b : ℕ) → Is f g a b → ◌≡◌ {A = ℕ × ℕ} (f, g) (a, b)
pair_is f g a b h = let x = sym h.0 in let y = sym h.1 in (λ i. (x i, y i))

pub insert_notes : (ks : List (ℕ × ℕ)) (f g : ℕ) → Notes ks (insert_key numbers_order ks (f, g)) (Is f g)
insert_notes [] f g = record {
  stays = λ a b c. absurd (none (a, b) c);
  noted = λ a b h. subst (λ p. Contains ((f, g) ∷ []) p) (pair_is f g a b h) (here (f, g) []);
  only = λ a b c. ⊎_elim (λ e. inr (is_pair f g a b e)) (λ d. inl d) (first_or_later (f, g) (a, b) [] c);
}
insert_notes (y ∷ ys) f g = by (numbers_order (f, g) y) refl (insert_notes ys f g)
  where
    by : (o : Ordering) → numbers_order (f, g) y ≡ o → Notes ys (insert_key numbers_order ys (f, g)) (Is f g) → Notes (y ∷ ys) (match_ordering o ((f, g) ∷ y ∷ ys) (y ∷ ys) (y ∷ insert_key numbers_order ys (f, g))) (Is f g)
    by Less e more = record {
      stays = λ a b c. there (f, g) (a, b) (y ∷ ys) c;
      noted = λ a b h. subst (λ p. Contains ((f, g) ∷ y ∷ ys) p) (pair_is f g a b h) (here (f, g) (y ∷ ys));
      only = λ a b c. ⊎_elim (λ q. inr (is_pair f g a b q)) (λ d. inl d) (first_or_later (f, g) (a, b) (y ∷ ys) c);
    }
    by Equal e more = record {
      stays = λ a b c. c;
      noted = λ a b h. subst (λ p. Contains (y ∷ ys) p) (sym (same_pair (f, g) y e) ∙ pair_is f g a b h) (here y ys);
      only = λ a b c. inl c;
    }
    by Greater e more = record {
      stays = λ a b c. ⊎_elim (λ q. subst (λ p. Contains (y ∷ insert_key numbers_order ys (f, g)) p) q (here y (insert_key numbers_order ys (f, g)))) (λ d. there y (a, b) (insert_key numbers_order ys (f, g)) (more.stays a b d)) (first_or_later y (a, b) ys c);
      noted = λ a b h. there y (a, b) (insert_key numbers_order ys (f, g)) (more.noted a b h);
      only = λ a b c. ⊎_elim (λ q. inl (subst (λ p. Contains (y ∷ ys) p) q (here y ys))) (λ d. ⊎_elim (λ old. inl (there y (a, b) ys old)) (λ new. inr new) (more.only a b d)) (first_or_later y (a, b) (insert_key numbers_order ys (f, g)) c);
    }

-- ---- several steps

pub nothing_noted : (ks : List (ℕ × ℕ)) (P : ℕ → ℕ → Type 0) → ((f g : ℕ) → P f g → ⊥) → Notes ks ks P
nothing_noted ks P h = record { stays = λ f g c. c; noted = λ f g p. absurd (h f g p); only = λ f g c. inl c }

-- two steps make one
pub both_noted : (old mid new : List (ℕ × ℕ)) (P Q R : ℕ → ℕ → Type 0) → ((f g : ℕ) → P f g → R f g) → ((f g : ℕ) → Q f g → R f g) → ((f g : ℕ) → R f g → P f g ⊎ Q f g) → Notes old mid P → Notes mid new Q → Notes old new R
both_noted old mid new P Q R p q r a b = record {
  stays = λ f g c. b.stays f g (a.stays f g c);
  noted = λ f g h. ⊎_elim (λ x. b.stays f g (a.noted f g x)) (λ x. b.noted f g x) (r f g h);
  only = λ f g c. ⊎_elim (λ m. ⊎_elim (λ o. inl o) (λ x. inr (p f g x)) (a.only f g m)) (λ x. inr (q f g x)) (b.only f g c);
}

pub same_noted : (old new : List (ℕ × ℕ)) (P Q : ℕ → ℕ → Type 0) → ((f g : ℕ) → P f g → Q f g) → ((f g : ℕ) → Q f g → P f g) → Notes old new P → Notes old new Q
same_noted old new P Q p q h = record { stays = h.stays; noted = λ f g x. h.noted f g (q f g x); only = λ f g c. ⊎_elim (λ o. inl o) (λ x. inr (p f g x)) (h.only f g c) }

-- ---- a function beside a stack

abbrev pub Beside : ℕ → List ℕ → ℕ → ℕ → Type 0
Beside function stack f g = (f ≡ function) × Contains stack g

pub beside_none : (ks : List (ℕ × ℕ)) (function : ℕ) → Notes ks ks (Beside function [])
beside_none ks function = nothing_noted ks (Beside function []) (λ f g h. none g h.1)

pub beside_more : (ks ks1 new : List (ℕ × ℕ)) (function x : ℕ) (rest : List ℕ) → ks1 ≡ insert_key numbers_order ks (function, x) → Notes ks1 new (Beside function rest) → Notes ks new (Beside function (x ∷ rest))
beside_more ks ks1 new function x rest e h =
    both_noted ks ks1 new (Is function x) (Beside function rest) (Beside function (x ∷ rest))
    (λ f g i. (i.0, subst (λ z. Contains (x ∷ rest) z) (sym i.1) (here x rest)))
    (λ f g b. (b.0, there x g rest b.1))
    (λ f g b. ⊎_elim (λ q. inl (b.0, sym q)) (λ c. inr (b.0, c)) (first_or_later x g rest b.1))
    (subst (λ (zs : List (ℕ × ℕ)). Notes ks zs (Is function x)) (sym e) (insert_notes ks function x)) h

-- ---- a stack beside a stack

abbrev pub Across : List ℕ → List ℕ → ℕ → ℕ → Type 0
Across mine other f g = Contains mine f × Contains other g

pub across_none : (ks : List (ℕ × ℕ)) (other : List ℕ) → Notes ks ks (Across [] other)
across_none ks other = nothing_noted ks (Across [] other) (λ f g h. none f h.0)

pub across_more : (ks ks1 new : List (ℕ × ℕ)) (x : ℕ) (rest other : List ℕ) → Notes ks ks1 (Beside x other) → Notes ks1 new (Across rest other) → Notes ks new (Across (x ∷ rest) other)
across_more ks ks1 new x rest other a b =
    both_noted ks ks1 new (Beside x other) (Across rest other) (Across (x ∷ rest) other)
    (λ f g h. (subst (λ z. Contains (x ∷ rest) z) (sym h.0) (here x rest), h.1))
    (λ f g h. (there x f rest h.0, h.1))
    (λ f g h. ⊎_elim (λ q. inl (sym q, h.1)) (λ c. inr (c, h.1)) (first_or_later x f rest h.0))
    a b

-- ---- the same from a place on

from_here : (xs : List ℕ) (at : ℕ) → at < length xs → drop at xs ≡ get_or xs at 0 ∷ drop (at + 1) xs
from_here [] at lt = absurd (omega arith)
from_here (x ∷ xs) zero lt = refl
from_here (x ∷ xs) (suc at) lt = let next : suc at + 1 ≡ suc (at + 1) = omega arith in from_here xs at (omega arith) ∙ ap (λ n. get_or xs at 0 ∷ drop n (x ∷ xs)) (sym next)

past : (xs : List ℕ) (at : ℕ) → length xs ≤ at → drop at xs ≡ []
past [] zero le = refl
past [] (suc at) le = refl
past (x ∷ xs) zero le = absurd (omega arith)
past (x ∷ xs) (suc at) le = past xs at (omega arith)

pub beside_at : (ks ks1 new : List (ℕ × ℕ)) (function at : ℕ) (stack : List ℕ) → at < length stack → ks1 ≡ insert_key numbers_order ks (function, get_or stack at 0) → Notes ks1 new (Beside function (drop (at + 1) stack)) → Notes ks new (Beside function (drop at stack))
beside_at ks ks1 new function at stack lt e h = subst (λ xs. Notes ks new (Beside function xs)) (sym (from_here stack at lt)) (beside_more ks ks1 new function (get_or stack at 0) (drop (at + 1) stack) e h)

pub beside_past : (ks : List (ℕ × ℕ)) (function at : ℕ) (stack : List ℕ) → length stack ≤ at → Notes ks ks (Beside function (drop at stack))
beside_past ks function at stack le = subst (λ xs. Notes ks ks (Beside function xs)) (sym (past stack at le)) (beside_none ks function)

pub across_at : (ks ks1 new : List (ℕ × ℕ)) (at : ℕ) (mine other : List ℕ) → at < length mine → Notes ks ks1 (Beside (get_or mine at 0) other) → Notes ks1 new (Across (drop (at + 1) mine) other) → Notes ks new (Across (drop at mine) other)
across_at ks ks1 new at mine other lt a b = subst (λ xs. Notes ks new (Across xs other)) (sym (from_here mine at lt)) (across_more ks ks1 new (get_or mine at 0) (drop (at + 1) mine) other a b)

pub across_past : (ks : List (ℕ × ℕ)) (at : ℕ) (mine other : List ℕ) → length mine ≤ at → Notes ks ks (Across (drop at mine) other)
across_past ks at mine other le = subst (λ xs. Notes ks ks (Across xs other)) (sym (past mine at le)) (across_none ks other)

-- a stack beside another, unless both are of one thread
abbrev pub Unless : Bool → List ℕ → List ℕ → ℕ → ℕ → Type 0
Unless is_own mine other f g = (is_own ≡ false) × Contains mine f × Contains other g

pub unless_own : (ks : List (ℕ × ℕ)) (b : Bool) (mine other : List ℕ) → b ≡ true → Notes ks ks (Unless b mine other)
unless_own ks b mine other e = nothing_noted ks (Unless b mine other) (λ f g h. true≢false (sym e ∙ h.0))

pub unless_other : (ks new : List (ℕ × ℕ)) (b : Bool) (mine other : List ℕ) → b ≡ false → Notes ks new (Across mine other) → Notes ks new (Unless b mine other)
unless_other ks new b mine other e h = same_noted ks new (Across mine other) (Unless b mine other) (λ f g x. (e, x.0, x.1)) (λ f g x. (x.1, x.2)) h

-- ---- a stack beside those of other threads

-- the function is on the stack of another thread, which isn't before thread k
pub record IsLater (stacks : List (List ℕ)) (t k g : ℕ) : Type 0 where
  pub elsewhere : IsElsewhere stacks t g
  pub late : k ≤ elsewhere.thread

abbrev pub Apart : List ℕ → List (List ℕ) → ℕ → ℕ → ℕ → Type 0
Apart mine stacks t f g = Contains mine f × IsElsewhere stacks t g

abbrev pub Later : List ℕ → List (List ℕ) → ℕ → ℕ → ℕ → ℕ → Type 0
Later mine stacks t k f g = Contains mine f × IsLater stacks t k g

pub later_all : (ks new : List (ℕ × ℕ)) (mine : List ℕ) (stacks : List (List ℕ)) (t : ℕ) → Notes ks new (Later mine stacks t 0) → Notes ks new (Apart mine stacks t)
later_all ks new mine stacks t h = same_noted ks new (Later mine stacks t 0) (Apart mine stacks t) (λ f g l. (l.0, l.1.elsewhere)) (λ f g a. (a.0, record { elsewhere = a.1; late = omega arith })) h

pub later_none : (ks : List (ℕ × ℕ)) (mine : List ℕ) (stacks : List (List ℕ)) (t k : ℕ) → length stacks ≤ k → Notes ks ks (Later mine stacks t k)
later_none ks mine stacks t k le = nothing_noted ks (Later mine stacks t k) (λ f g h. let within = slice_get_within stacks h.1.elsewhere.thread h.1.elsewhere.stack h.1.elsewhere.stack_is in let late = h.1.late in absurd (omega arith))

-- the stack at thread k is gone over
pub later_more : (ks ks1 new : List (ℕ × ℕ)) (mine ys : List ℕ) (stacks : List (List ℕ)) (t k : ℕ) (b : Bool) → b ≡ eqb k t → slice_get stacks k ≡ Some ys → Notes ks ks1 (Unless b mine ys) → Notes ks1 new (Later mine stacks t (k + 1)) → Notes ks new (Later mine stacks t k)
later_more ks ks1 new mine ys stacks t k b own at x y =
    both_noted ks ks1 new (Unless b mine ys) (Later mine stacks t (k + 1)) (Later mine stacks t k)
    (λ f g h. (h.1, record { elsewhere = record { thread = k; other = eqb-false k t (sym own ∙ h.0); stack = ys; stack_is = at; on_stack = h.2 }; late = omega arith }))
    (λ f g h. (h.0, record { elsewhere = h.1.elsewhere; late = let late = h.1.late in omega arith }))
    (λ f g h. ⊎_elim
    (λ (same : h.1.elsewhere.thread ≡ k). inl (own ∙ ne_eqb k t (λ e. h.1.elsewhere.other (same ∙ e)), h.0, subst (λ zs. Contains zs g) (same_Some h.1.elsewhere.stack ys (sym h.1.elsewhere.stack_is ∙ ap (slice_get stacks) same ∙ at)) h.1.elsewhere.on_stack))
    (λ (other : h.1.elsewhere.thread ≡ k → ⊥). inr (h.0, record { elsewhere = h.1.elsewhere; late = let late = h.1.late in ⊎_elim (λ (lt : h.1.elsewhere.thread < k + 1). absurd (other (omega arith))) (λ (le : k + 1 ≤ h.1.elsewhere.thread). le) (cases_lt h.1.elsewhere.thread (k + 1)) }))
    (cases_eq h.1.elsewhere.thread k))
    x y

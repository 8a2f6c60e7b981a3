-- Rounds of adding.
use Rattle.std.proofs.Common.{◌≡◌, ℕ, ◌+◌, ◌<◌, ◌≤◌, Bool, true, false, List, length, get_or, refl, sym, ap, ◌∙◌, subst, arith, ◌⊎◌, ⊎_elim, Result, Ok, Err, Some}
use Rattle.std.specs.Prelude.{IfOk, slice_get, ◌||◌}
use Rattle.std.specs.List.{Contains}
use Rattle.std.proofs.lemmas.Option.{slice_get_within, slice_get-get_or, get_or_from_slice_get, same_Some}
use Rattle.std.proofs.lemmas.Bool.{cases_lt}
use Rattle.flow_code.specs.declared.code.Code.{Code}
use Rattle.facts.specs.declared.constraint.Node.{Node}
use Rattle.facts.specs.declared.constraint.Constraint.{Constraint}
use Rattle.facts.specs.PointsTo.{constraints_of}
use Rattle.points_to.specs.Ascending.{widths, rooms, row_at}
use Rattle.points_to.specs.Nodes.{block_at, index_at, node_row, Has, IsNode}
use Rattle.points_to.specs.Filling.{Fine, AreFine, Falls, Adds, ForAll, ForFirst, ForOne, Meets, MeetsAll}
use Rattle.points_to.proofs.Spots.{same_node}

abbrev Blocks : Type 0
Blocks = List (List (List ℕ))

falls_join : (a b : Bool) (r s t : Blocks) → Falls a r s → Falls b s t → Falls (a || b) r t
falls_join true true r s t h k = omega arith
falls_join true false r s t h k = omega arith
falls_join false true r s t h k = omega arith
falls_join false false r s t h k = omega arith

or_false : (a b : Bool) → (a || b) ≡ false → (a ≡ false) × (b ≡ false)
or_false true b h = cc
or_false false b h = (refl, h)

pub weaker : (q : Code) (M N : Blocks → Type 0) (old new : Blocks) (added : Bool) → (M new → N new) → Adds q M old new added → Adds q N old new added
weaker q M N old new added m s = record { wide = s.wide; fine = s.fine; met = λ e. ((s.met e).0, m (s.met e).1); falls = s.falls }

pub join : (q : Code) (M N : Blocks → Type 0) (old mid new : Blocks) (a b : Bool) → Adds q M old mid a → Adds q N mid new b → Adds q (λ r. M r × N r) old new (a || b)
join q M N old mid new a b s t = record {
  wide = t.wide ∙ s.wide;
  fine = λ f. t.fine (s.fine f);
  met = λ e. let o = or_false a b e in ((t.met o.1).0 ∙ (s.met o.0).0, (subst M (sym (t.met o.1).0) (s.met o.0).1, (t.met o.1).1));
  falls = falls_join a b old mid new s.falls t.falls;
}

pub none : (q : Code) (M : Blocks → Type 0) (old : Blocks) → M old → Adds q M old old false
none q M old m = record { wide = refl; fine = λ f. f; met = λ e. (refl, m); falls = refl }

falls_one : (added : Bool) (old new : Blocks) → (added ≡ false → new ≡ old) → (added ≡ true → rooms new < rooms old) → Falls added old new
falls_one true old new same falls = falls refl
falls_one false old new same falls = ap rooms (same refl)

pub one : (q : Code) (n : Node) (b i p : ℕ) (old new : Blocks) (added : Bool) → b ≡ block_at (length q.functions) n → i ≡ index_at (length q.functions) n → IsNode q n → widths new ≡ widths old → Contains (row_at new b i) p → ((c j x : ℕ) → Contains (row_at new c j) x → Contains (row_at old c j) x ⊎ ((c ≡ b) × (j ≡ i) × (x ≡ p))) → (added ≡ false → new ≡ old) → (added ≡ true → rooms new < rooms old) → (AreFine q old → Fine q n p) → Adds q (λ r. Has (length q.functions) r n p) old new added
one q n b i p old new added eb ei node wide is from same falls g = record {
  wide = wide;
  fine = λ f m x proper has. ⊎_elim
      (λ (k : Has (length q.functions) old m x). f m x proper k)
      (λ (k : (block_at (length q.functions) m ≡ b) × (index_at (length q.functions) m ≡ i) × (x ≡ p)).
      subst (λ a. Fine q a x) (sym (same_node (length q.functions) m n proper node.0 (k.0 ∙ eb) (k.1 ∙ ei))) (subst (λ y. Fine q n y) (sym k.2) (g f)))
      (from (block_at (length q.functions) m) (index_at (length q.functions) m) x has);
  met = λ e. (same e, subst (λ c. Contains (row_at new c (index_at (length q.functions) n)) p) eb (subst (λ j. Contains (row_at new b j) p) ei is));
  falls = falls_one added old new same falls;
}

-- what is read from a row is in it
pub read_in : (F : ℕ) (rows : Blocks) (a : Node) (k p : ℕ) → slice_get (node_row F rows a) k ≡ Some p → Has F rows a p
read_in F rows a k p h = (k, slice_get_within (node_row F rows a) k p h, get_or_from_slice_get (node_row F rows a) k p p h)

-- what is in a row is read
pub in_read : (F : ℕ) (rows : Blocks) (a : Node) (p : ℕ) → Has F rows a p → (k : ℕ) × (k < length (node_row F rows a)) × (slice_get (node_row F rows a) k ≡ Some p)
in_read F rows a p (k, lt, e) = (k, lt, slice_get-get_or (node_row F rows a) k p lt ∙ ap Some e)

pub below_more : {X : Type 0} (P : ℕ → X → Type 0) (xs : List X) (k : ℕ) → ((j : ℕ) (p : X) → j < k → slice_get xs j ≡ Some p → P j p) → ((p : X) → slice_get xs k ≡ Some p → P k p) → (j : ℕ) (p : X) → j < k + 1 → slice_get xs j ≡ Some p → P j p
below_more P xs k below now j p lt h = ⊎_elim (λ l. below j p l h) (λ (g : k ≤ j). let e : k ≡ j = omega arith in subst (λ i. P i p) e (now p (subst (λ i. slice_get xs i ≡ Some p) (sym e) h))) (cases_lt j k)

pub ok_map : {A E : Type 0} (r : Result A E) (P Q : A → Type 0) → ((a : A) → P a → Q a) → IfOk r P → IfOk r Q
ok_map (Ok a) P Q f h = f a h
ok_map (Err e) P Q f h = h

pub ok_both : {A E : Type 0} (r : Result A E) (P Q R S : A → Type 0) → ((a : A) → P a → Q a → R a → S a) → IfOk r P → IfOk r Q → IfOk r R → IfOk r S
ok_both (Ok a) P Q R S f h k l = f a h k l
ok_both (Err e) P Q R S f h k l = h

-- what was done for one number of a row
pub for_one : (q : Code) (a : Node) (k p : ℕ) (Q : ℕ → Blocks → Type 0) (old new : Blocks) (added : Bool) → slice_get (node_row (length q.functions) old a) k ≡ Some p → Adds q (Q p) old new added → Adds q (ForOne q k a Q) old new added
for_one q a k p Q old new added h s = record {
  wide = s.wide;
  fine = s.fine;
  met = λ e. ((s.met e).0, λ x i. subst (λ y. Q y new) (same_Some p x (sym h ∙ ap (λ z. slice_get (node_row (length q.functions) z a) k) (sym (s.met e).0) ∙ i)) (s.met e).1);
  falls = s.falls;
}

-- one more number of a row
pub more_to : (q : Code) (k : ℕ) (a : Node) (Q : ℕ → Blocks → Type 0) (old mid new : Blocks) (added more : Bool) → Adds q (ForFirst q k a Q) old mid added → Adds q (ForOne q k a Q) mid new more → Adds q (ForFirst q (k + 1) a Q) old new (added || more)
more_to q k a Q old mid new added more s t =
    weaker q _ (ForFirst q (k + 1) a Q) old new (added || more) (λ m. below_more (λ j p. Q p new) (node_row (length q.functions) new a) k m.0 m.1) (join q (ForFirst q k a Q) (ForOne q k a Q) old mid new added more s t)

-- all numbers that the row had at first
pub all_to : (q : Code) (k : ℕ) (a : Node) (Q : ℕ → Blocks → Type 0) (old new : Blocks) (added : Bool) → length (node_row (length q.functions) old a) ≤ k → Adds q (ForFirst q k a Q) old new added → Adds q (ForAll q a Q) old new added
all_to q k a Q old new added e s = record {
  wide = s.wide;
  fine = s.fine;
  met = λ z. ((s.met z).0, λ p i. let r = in_read (length q.functions) new a p i in (s.met z).1 r.0 p (omega (arith, r.1, ap (λ (y : Blocks). length (node_row (length q.functions) y a)) (s.met z).0)) r.2);
  falls = s.falls;
}

-- constraints, as far as they have been met

abbrev pub MetTo : Code → List Constraint → ℕ → Blocks → Type 0
MetTo q cs k r = (j : ℕ) (c : Constraint) → j < k → slice_get cs j ≡ Some c → Meets q c r

pub more_met : (q : Code) (cs : List Constraint) (k : ℕ) (c : Constraint) (old mid new : Blocks) (added more : Bool) → slice_get cs k ≡ Some c → Adds q (MetTo q cs k) old mid added → Adds q (Meets q c) mid new more → Adds q (MetTo q cs (k + 1)) old new (added || more)
more_met q cs k c old mid new added more h s t =
    weaker q _ (MetTo q cs (k + 1)) old new (added || more) (λ m. below_more (λ j d. Meets q d new) cs k m.0 (λ d i. subst (λ y. Meets q y new) (same_Some c d (sym h ∙ i)) m.1)) (join q (MetTo q cs k) (Meets q c) old mid new added more s t)

pub all_met : (q : Code) (cs : List Constraint) (k : ℕ) (old new : Blocks) (added : Bool) → length cs ≤ k → cs ≡ constraints_of q → Adds q (MetTo q cs k) old new added → Adds q (MeetsAll q) old new added
all_met q cs k old new added e is s = weaker q (MetTo q cs k) (MeetsAll q) old new added (λ m c h. go c m (subst (λ z. Contains z c) (sym is) h)) s
  where
    go : (c : Constraint) → MetTo q cs k new → Contains cs c → Meets q c new
    go c m (j, lt, at) = m j c (omega arith) (slice_get-get_or cs j c lt ∙ ap Some at)

pub get_at : {X : Type 0} (xs ys : List X) (k : ℕ) (d : X) → ys ≡ xs → k < length ys → slice_get xs k ≡ Some (get_or ys k d)
get_at xs ys k d e lt = ap (λ z. slice_get z k) (sym e) ∙ slice_get-get_or ys k d lt

-- one more of those below a number
pub more_below : (q : Code) (Q : ℕ → Blocks → Type 0) (k : ℕ) (old mid new : Blocks) (added more : Bool) → Adds q (λ r. (c : ℕ) → c < k → Q c r) old mid added → Adds q (Q k) mid new more → Adds q (λ r. (c : ℕ) → c < k + 1 → Q c r) old new (added || more)
more_below q Q k old mid new added more s t =
    weaker q (λ r. ((c : ℕ) → c < k → Q c r) × Q k r) (λ r. (c : ℕ) → c < k + 1 → Q c r) old new (added || more)
    (λ m c lt. ⊎_elim (λ (l : c < k). m.0 c l) (λ (g : k ≤ c). let e : k ≡ c = omega arith in subst (λ j. Q j new) e m.1) (cases_lt c k))
    (join q (λ r. (c : ℕ) → c < k → Q c r) (Q k) old mid new added more s t)

-- The instructions of a weakened function, block after block.
use Rattle.std.proofs.Common.{◌≡◌, ℕ, ◌+◌, ◌<◌, List, [], ◌∷◌, ◌++◌, length, drop, map, get_or, refl, sym, ap, ◌∙◌, append_assoc, Some}
use Rattle.std.specs.Prelude.{slice_get, reverse}
use mathlib.Core.List.{reverse_aux}
use Rattle.std.proofs.lemmas.Option.{same_Some}
use Rattle.flow_code.specs.declared.act.Act.{Act}
use Rattle.flow_code.specs.declared.act.Act.TheVariants as act
use Rattle.flow_code.specs.declared.act.Instr.{Instr}
use Rattle.weak_code.specs.declared.stretch.Stretch.{Stretch}
use Rattle.weak_code.specs.Places.{gives, takes, turned, before, beginning, ending, left, enter}
use Rattle.weak_code.specs.Weakened.{at_instr, retarget, block, blocks}
use Rattle.weaken.proofs.Nexts.{dropped, any_default, found}

reverse_aux-append : {X : Type 0} (xs ys zs : List X) → reverse_aux xs (ys ++ zs) ≡ reverse_aux xs ys ++ zs
reverse_aux-append [] ys zs = refl
reverse_aux-append (x ∷ xs) ys zs = reverse_aux-append xs (x ∷ ys) zs

reverse_cons : {X : Type 0} (x : X) (xs : List X) → reverse (x ∷ xs) ≡ reverse xs ++ x ∷ []
reverse_cons x xs = reverse_aux-append xs [] (x ∷ [])

map-append : {X Y : Type 0} (f : X → Y) (xs ys : List X) → map f (xs ++ ys) ≡ map f xs ++ map f ys
map-append f [] ys = refl
map-append f (x ∷ xs) ys = ap (λ zs. f x ∷ zs) (map-append f xs ys)

-- one more Give, from the end
pub gives_next : (i : Instr) (rs : List ℕ) (k : ℕ) (r : ℕ) (start old new : List Instr) → slice_get rs k ≡ Some r → old ≡ start ++ map (at_instr i) (gives (drop (k + 1) rs)) → new ≡ old ++ at_instr i (act.Give r) ∷ [] → new ≡ start ++ map (at_instr i) (gives (drop k rs))
gives_next i rs k r start old new h e f =
    f ∙ ap (λ z. z ++ at_instr i (act.Give r) ∷ []) e ∙ append_assoc start (map (at_instr i) (gives (drop (k + 1) rs))) (at_instr i (act.Give r) ∷ [])
    ∙ ap (λ z. start ++ z) (sym (ap (λ z. map (at_instr i) (gives z)) (dropped rs k r h) ∙ ap (λ z. map (at_instr i) (map (λ q. act.Give q) z)) (reverse_cons r (drop (k + 1) rs)) ∙ ap (map (at_instr i)) (map-append (λ q. act.Give q) (reverse (drop (k + 1) rs)) (r ∷ [])) ∙ map-append (at_instr i) (gives (drop (k + 1) rs)) (act.Give r ∷ [])))

-- the three parts of what stands before an instruction
pub before_put : (ss : List Stretch) (k : ℕ) (i : Instr) (es bs ls : List ℕ) (a b c d : List Instr) → es ≡ ending ss k → bs ≡ beginning ss k → ls ≡ left ss k i.act → b ≡ a ++ map (at_instr i) (gives es) → c ≡ b ++ map (at_instr i) (takes bs) → d ≡ c ++ map (at_instr i) (gives ls) → d ≡ a ++ map (at_instr i) (before ss k i.act)
before_put ss k i es bs ls a b c d e f g p q r =
    r ∙ ap (λ z. z ++ map (at_instr i) (gives ls)) (q ∙ ap (λ z. z ++ map (at_instr i) (takes bs)) p ∙ append_assoc a (map (at_instr i) (gives es)) (map (at_instr i) (takes bs)))
    ∙ append_assoc a (map (at_instr i) (gives es) ++ map (at_instr i) (takes bs)) (map (at_instr i) (gives ls))
    ∙ ap (λ z. a ++ ((map (at_instr i) (gives z) ++ map (at_instr i) (takes bs)) ++ map (at_instr i) (gives ls))) e
    ∙ ap (λ z. a ++ ((map (at_instr i) (gives (ending ss k)) ++ map (at_instr i) (takes z)) ++ map (at_instr i) (gives ls))) f
    ∙ ap (λ z. a ++ ((map (at_instr i) (gives (ending ss k)) ++ map (at_instr i) (takes (beginning ss k))) ++ map (at_instr i) (gives z))) g
    ∙ ap (λ z. a ++ z) (sym (map-append (at_instr i) (turned ss k) (gives (left ss k i.act)) ∙ ap (λ z. z ++ map (at_instr i) (gives (left ss k i.act))) (map-append (at_instr i) (gives (ending ss k)) (takes (beginning ss k)))))

pub block_put : (ss : List Stretch) (is : List Instr) (k : ℕ) (i : Instr) (x : Act) (a b c : List Instr) → b ≡ a ++ map (at_instr i) (before ss k i.act) → x ≡ retarget (enter ss is k) i.act → c ≡ b ++ at_instr i x ∷ [] → c ≡ a ++ block ss is k i
block_put ss is k i x a b c e f g = g ∙ ap (λ z. b ++ at_instr i z ∷ []) f ∙ ap (λ z. z ++ at_instr i (retarget (enter ss is k) i.act) ∷ []) e ∙ append_assoc a (map (at_instr i) (before ss k i.act)) (at_instr i (retarget (enter ss is k) i.act) ∷ [])

pub blocks_step : (ss : List Stretch) (is : List Instr) (k : ℕ) (i : Instr) (old new all : List Instr) → slice_get is k ≡ Some i → new ≡ old ++ block ss is k i → old ++ blocks ss is k (drop k is) ≡ all → new ++ blocks ss is (k + 1) (drop (k + 1) is) ≡ all
blocks_step ss is k i old new all h e f =
    ap (λ z. z ++ blocks ss is (k + 1) (drop (k + 1) is)) e ∙ append_assoc old (block ss is k i) (blocks ss is (k + 1) (drop (k + 1) is))
    ∙ ap (λ z. old ++ z) (sym (ap (blocks ss is k) (dropped is k i h))) ∙ f

-- a row that was read from a table
pub row_is : {X : Type 0} (rows : List (List X)) (k : ℕ) (s t w : List X) → t ≡ s → s ≡ get_or rows k s → k < length rows → get_or rows k [] ≡ w → t ≡ w
row_is rows k s t w e f lt g = e ∙ f ∙ any_default rows k s [] lt ∙ g

-- the same, where the instruction is known by another name
pub before_put_by : (ss : List Stretch) (k : ℕ) (i j : Instr) (es bs ls : List ℕ) (a b c d : List Instr) → j ≡ i → es ≡ ending ss k → bs ≡ beginning ss k → ls ≡ left ss k i.act → b ≡ a ++ map (at_instr j) (gives es) → c ≡ b ++ map (at_instr j) (takes bs) → d ≡ c ++ map (at_instr j) (gives ls) → d ≡ a ++ map (at_instr i) (before ss k i.act)
before_put_by ss k i j es bs ls a b c d s e f g p q r =
    before_put ss k i es bs ls a b c d e f g (p ∙ ap (λ z. a ++ map (at_instr z) (gives es)) s) (q ∙ ap (λ z. b ++ map (at_instr z) (takes bs)) s) (r ∙ ap (λ z. c ++ map (at_instr z) (gives ls)) s)

pub block_put_by : (ss : List Stretch) (is : List Instr) (k : ℕ) (i j : Instr) (x : Act) (a b c : List Instr) → j ≡ i → b ≡ a ++ map (at_instr i) (before ss k i.act) → x ≡ retarget (enter ss is k) j.act → c ≡ b ++ at_instr j x ∷ [] → c ≡ a ++ block ss is k i
block_put_by ss is k i j x a b c s e f g = block_put ss is k i x a b c e (f ∙ ap (λ z. retarget (enter ss is k) z.act) s) (g ∙ ap (λ z. b ++ at_instr z x ∷ []) s)

pub blocks_step_in : (ss : List Stretch) (is : List Instr) (k : ℕ) (old new all : List Instr) → k < length is → ((i : Instr) → slice_get is k ≡ Some i → new ≡ old ++ block ss is k i) → old ++ blocks ss is k (drop k is) ≡ all → new ++ blocks ss is (k + 1) (drop (k + 1) is) ≡ all
blocks_step_in ss is k old new all lt e f = let x = found is k lt in blocks_step ss is k x.0 old new all x.1 (e x.0 x.1) f

pub same_item : {X : Type 0} (xs : List X) (k : ℕ) (x y : X) → slice_get xs k ≡ Some x → slice_get xs k ≡ Some y → x ≡ y
same_item xs k x y h g = same_Some x y (sym h ∙ g)

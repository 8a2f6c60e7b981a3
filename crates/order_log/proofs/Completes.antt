-- Whatever the lines so far say can be completed to a log, and to one within the limits where they are within them.
use Rattle.std.proofs.Common.{◌≡◌, ℕ, zero, suc, true, List, [], ◌∷◌, ◌++◌, replicate, Some, refl, sym, ap, ◌∙◌, arith, append_assoc}
use Rattle.std.specs.Prelude.{codes, IsTrue, nat_lt}
use Rattle.std.specs.List.{AllByRecursion}
use Rattle.std.specs.Option.{option_map}
use Rattle.std.specs.declared.cmp.Ordering.{Ordering}
use Rattle.std.specs.declared.cmp.Ordering.TheVariants.{Less, Equal, Greater}
use Rattle.std.specs.Ordering.{nat_cmp, ordering_then, is_le, is_lt}
use Rattle.std.proofs.lemmas.Bool.{le-ltb, eq-eqb, cond-true, cond-false}
use Rattle.std.proofs.lemmas.List.{append-nil, length-replicate}
use Rattle.profiles.specs.declared.profile.Profile.{Profile}
use Rattle.profiles.specs.declared.profile.Profile.TheVariants as profile
use Rattle.profiles.specs.Profile.{Text, Pair, text_order}
use Rattle.order_log.specs.Names.{continues_name, IsName}
use Rattle.order_log.specs.Log.{LogView, IsNamePair, IsLog, KeepsLimits}
use Rattle.order_log.specs.declared.version.Version.{Version}
use Rattle.order_log.specs.declared.version.Version.TheVariants as version
use Rattle.order_log.specs.Text.{number_text, hex_text, pair_line, CanSay, version_line, log_lines}
use Rattle.order_log.specs.Line.{hex_in, ends_before}
use Rattle.order_log.proofs.Heads.{AreBytes, pair_again, hex_again}
use Rattle.order_log.proofs.Lists.{All-append}
use Rattle.order_log.proofs.Machine.{Numbers, Part, Bare, Headed, Slotted, Celled, Limited, Pairing, Profiled, Sized, Whole, paired, view_of, taken}
use Rattle.order_log.proofs.Said.{said, Fine, Kept, adds}
use Rattle.order_log.proofs.Walks.{number_taken, version_taken}

-- ---- a later pair

same_text : (x : Text) → text_order x x ≡ Equal
same_text [] = refl
same_text (b ∷ bs) =
    let here : nat_cmp b b ≡ Equal = cond-false (nat_lt b b) _ _ (le-ltb b b (omega arith)) ∙ cond-true _ _ _ (eq-eqb b b refl) in
    ap (λ (o : Ordering). ordering_then o (text_order bs bs)) here ∙ same_text bs

longer_text : (x : Text) → text_order x (x ++ 97 ∷ []) ≡ Less
longer_text [] = refl
longer_text (b ∷ bs) =
    let here : nat_cmp b b ≡ Equal = cond-false (nat_lt b b) _ _ (le-ltb b b (omega arith)) ∙ cond-true _ _ _ (eq-eqb b b refl) in
    ap (λ (o : Ordering). ordering_then o (text_order bs (bs ++ 97 ∷ []))) here ∙ longer_text bs

below_longer : (x y : Text) → IsTrue (is_le (text_order x y)) → IsTrue (is_le (text_order x (y ++ 97 ∷ [])))
below_longer [] [] h = refl
below_longer [] (c ∷ cs) h = refl
below_longer (b ∷ bs) [] h = absurd cc
below_longer (b ∷ bs) (c ∷ cs) h = by (nat_cmp b c) h (below_longer bs cs)
  where
    by : (o : Ordering) → IsTrue (is_le (ordering_then o (text_order bs cs))) → (IsTrue (is_le (text_order bs cs)) → IsTrue (is_le (text_order bs (cs ++ 97 ∷ []))))
        → IsTrue (is_le (ordering_then o (text_order bs (cs ++ 97 ∷ []))))
    by Less k others = refl
    by Equal k others = others k
    by Greater k others = absurd cc

IsName-longer : (x : Text) → IsName x → IsName (x ++ 97 ∷ [])
IsName-longer [] h = absurd h
IsName-longer (b ∷ bs) h = (h.0, All-append (λ c. IsTrue (continues_name c)) bs (97 ∷ []) h.1 (refl, tt))

abbrev later_pair : List Pair → Pair
later_pair [] = (codes "a", codes "a")
later_pair (q ∷ []) = (q.0, q.1 ++ 97 ∷ [])
later_pair (q ∷ r ∷ rs) = later_pair (r ∷ rs)

later_names : (ps : List Pair) → AllByRecursion IsNamePair ps → IsNamePair (later_pair ps)
later_names [] h = record { first = (refl, tt); second = (refl, tt); lesser_first = refl }
later_names (q ∷ []) h = record { first = h.0.first; second = IsName-longer q.1 h.0.second; lesser_first = below_longer q.0 q.1 h.0.lesser_first }
later_names (q ∷ r ∷ rs) h = later_names (r ∷ rs) h.1

later_ends : (ps : List Pair) → ends_before ps (later_pair ps) ≡ true
later_ends [] = refl
later_ends (q ∷ []) = ap (λ (o : Ordering). is_lt (ordering_then o (text_order q.1 (q.1 ++ 97 ∷ [])))) (same_text q.0) ∙ ap is_lt (longer_text q.1)
later_ends (q ∷ r ∷ rs) = later_ends (r ∷ rs)

-- ---- completing

-- a log whose lines begin with what is said
pub record Completed (p : Part) : Type 0 where
  pub version : Version
  pub view : LogView
  pub log : IsLog view
  pub words : CanSay version view
  pub within : Kept p → KeepsLimits view
  pub more : List Text
  pub lines : log_lines version view ≡ said p ++ more

-- by one line that fits
able_by : (p : Part) (line : Text) (q : Part) → taken p line ≡ Some (q, true) → Fine p → (Fine q → Completed q) → Completed p
able_by p line q e fine later =
    let a = adds p line (q, true) e in
    let c = later (a.fine fine) in
    record {
      version = c.version;
      view = c.view;
      log = c.log;
      words = c.words;
      within = λ k. c.within (a.kept refl k);
      more = line ∷ c.more;
      lines = c.lines ∙ ap (λ (ls : List Text). ls ++ c.more) a.says ∙ append_assoc (said p) (line ∷ []) c.more;
    }

able_whole : (p : Part) (w : Version) (v : LogView) → (Fine p → IsLog v × CanSay w v) → (Kept p → KeepsLimits v) → log_lines w v ≡ said p → Fine p → Completed p
able_whole p w v log within lines fine = record { version = w; view = v; log = (log fine).0; words = (log fine).1; within = within; more = []; lines = lines ∙ sym (append-nil (said p)) }

AreBytes-zeros : (k : ℕ) → AreBytes (replicate k 0)
AreBytes-zeros zero = tt
AreBytes-zeros (suc k) = (omega arith, AreBytes-zeros k)

able_sized : (n : Numbers) (p : Profile) (k : ℕ) → Fine (Sized n p k) → Completed (Sized n p k)
able_sized n p k fine =
    let input = replicate k 0 in
    let found : hex_in k (hex_text input) ≡ Some input = ap (λ (m : ℕ). hex_in m (hex_text input)) (sym (length-replicate k 0)) ∙ hex_again input (AreBytes-zeros k) in
    able_by (Sized n p k) (hex_text input) (Whole n p input []) (ap (option_map (λ bytes. (Whole n p bytes [], true))) found) fine
    (able_whole (Whole n p input []) n.version (view_of n p input []) (λ f. f) (λ h. h) refl)

able_profiled : (n : Numbers) (p : Profile) → Fine (Profiled n p) → Completed (Profiled n p)
able_profiled n p fine = able_by (Profiled n p) (codes "input " ++ number_text 0) (Sized n p 0) (number_taken (codes "input ") 0 1048576 (λ k. Sized n p k) 0) fine (able_sized n p 0)

able_paired : (n : Numbers) (k : ℕ) (ps : List Pair) → Fine (paired n k ps) → Completed (paired n k ps)
able_paired n zero ps fine = able_profiled n (profile.Pairs ps) fine
able_paired n (suc k) ps fine =
    let q = later_pair ps in
    let found = pair_again ps q (later_names ps fine.1) (later_ends ps) in
    able_by (Pairing n k ps) (pair_line q) (paired n k (ps ++ q ∷ [])) (ap (option_map (λ p. (paired n k (ps ++ p ∷ []), true))) found) fine (able_paired n k (ps ++ q ∷ []))

able_limited : (n : Numbers) → Fine (Limited n) → Completed (Limited n)
able_limited n fine = able_by (Limited n) (codes "profile all") (Profiled n profile.All) refl fine (able_profiled n profile.All)

able_celled : (w : Version) (s c : ℕ) → Fine (Celled w s c) → Completed (Celled w s c)
able_celled w s c fine =
    able_by (Celled w s c) (codes "limit " ++ number_text 1) (Limited (record { version = w; slots = s; cells = c; limit = 1 }))
    (number_taken (codes "limit ") 1 67108864 (λ k. Limited (record { version = w; slots = s; cells = c; limit = k })) 1) fine (able_limited _)

able_slotted : (w : Version) (s : ℕ) → Fine (Slotted w s) → Completed (Slotted w s)
able_slotted w s fine = able_by (Slotted w s) (codes "cells " ++ number_text 1024) (Celled w s 1024) (number_taken (codes "cells ") 1024 131072 (λ k. Celled w s k) 1024) fine (able_celled w s 1024)

able_headed : (w : Version) → Fine (Headed w) → Completed (Headed w)
able_headed w fine = able_by (Headed w) (codes "slots " ++ number_text 1) (Slotted w 1) (number_taken (codes "slots ") 1 16 (λ k. Slotted w k) 1) fine (able_slotted w 1)

pub completed : (p : Part) → Fine p → Completed p
completed Bare fine = able_by Bare (version_line version.Two) (Headed version.Two) (version_taken version.Two) fine (able_headed version.Two)
completed (Headed w) fine = able_headed w fine
completed (Slotted w s) fine = able_slotted w s fine
completed (Celled w s c) fine = able_celled w s c fine
completed (Limited n) fine = able_limited n fine
completed (Pairing n left ps) fine = able_paired n (suc left) ps fine
completed (Profiled n p) fine = able_profiled n p fine
completed (Sized n p k) fine = able_sized n p k fine
completed (Whole n p input es) fine = able_whole (Whole n p input es) n.version (view_of n p input es) (λ f. f) (λ h. h) refl fine

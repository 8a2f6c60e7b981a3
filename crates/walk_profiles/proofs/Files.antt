-- The file of what is seen along a walk.
use Rattle.std.proofs.Common.{◌≡◌, refl, sym, ap, subst, ℕ, zero, suc, Bool, true, false, List, [], ◌∷◌, Ordering, Less, Equal, Greater, cond, Option, None, arith}
use Rattle.std.specs.Prelude.{Contains, slice_get}
use Rattle.std.specs.List.{AllByRecursion}
use Rattle.std.specs.Str.{IsUtf8}
use Rattle.std.proofs.lemmas.Str.{IsUtf8-from_ascii}
use Rattle.std.proofs.lemmas.Str.Ascii.{IsAscii-nil}
use Rattle.std.specs.Ordering.{ordering_reverse, is_le}
use Rattle.std.proofs.lemmas.Cmp.{nat_list_cmp_total}
use Rattle.core_run.specs.Machine.{start_state}
use Rattle.core_run.specs.Walks.{walk_of}
use Rattle.profiles.specs.Profile.{Text, Pair, text_order, ordered, AreTexts, ArePairs, IsLesserFirst}
use Rattle.flow_code.specs.declared.code.Code.{Code}
use Rattle.flow_code.specs.declared.code.Function.{Function}
use Rattle.job_outcomes.specs.Puts.{Put}
use Rattle.seen_pairs.specs.Seen.{AreSeen, IsSeen, SeenIs, name_in, name_of}
use Rattle.sync_objects.specs.Setup.{SetupView}
use Rattle.sync_objects.specs.declared.entry.Entry.{Entry}
use Rattle.walk_profiles.specs.Profiling.{PutsWalked}

-- ---- the pairs

by_order : (a b : Text) (o : Ordering) → text_order a b ≡ o → text_order b a ≡ ordering_reverse o → IsLesserFirst (cond (is_le o) (a, b) (b, a))
by_order a b Less e r = ap is_le e
by_order a b Equal e r = ap is_le e
by_order a b Greater e r = ap is_le r

ordered_first : (a b : Text) → IsLesserFirst (ordered a b)
ordered_first a b = by_order a b (text_order a b) refl (nat_list_cmp_total.antisymm b a)

texts_by : (a b : Text) (first : Bool) → IsUtf8 a → IsUtf8 b → AreTexts (cond first (a, b) (b, a))
texts_by a b true h g = (h, g)
texts_by a b false h g = (g, h)

name_text : (fs : List Function) (k : ℕ) → AllByRecursion (λ (f : Function). IsUtf8 f.name) fs → IsUtf8 (name_in (slice_get fs k))
name_text [] zero h = IsUtf8-from_ascii [] IsAscii-nil
name_text [] (suc k) h = IsUtf8-from_ascii [] IsAscii-nil
name_text (f ∷ fs) zero h = h.0
name_text (f ∷ fs) (suc k) h = name_text fs k h.1

here : {X : Type 0} (x : X) (xs : List X) → Contains (x ∷ xs) x
here x xs = (0, omega arith, refl)

there : {X : Type 0} (x y : X) (xs : List X) → Contains xs y → Contains (x ∷ xs) y
there x y xs (k, lt, e) = (suc k, omega (arith, lt), e)

all_of : {X : Type 0} (P : X → Type 0) (xs : List X) → ((x : X) → Contains xs x → P x) → AllByRecursion P xs
all_of P [] h = tt
all_of P (x ∷ xs) h = (h x (here x xs), all_of P xs (λ y c. h y (there x y xs c)))

module _ (code : Code) (s : SetupView) (es : List Entry) where
  seen_texts : (p : Pair) → AllByRecursion (λ (f : Function). IsUtf8 f.name) code.functions → IsSeen code s es p → AreTexts p
  seen_texts p h x = subst AreTexts (sym x.named) (texts_by (name_of code x.first) (name_of code x.second) (is_le (text_order (name_of code x.first) (name_of code x.second))) (name_text code.functions x.first h) (name_text code.functions x.second h))

  pub seen_are_pairs : (ps : List Pair) → AllByRecursion (λ (f : Function). IsUtf8 f.name) code.functions → AreSeen code s es ps → ArePairs ps
  seen_are_pairs ps names h = record {
    ascending = h.ascending;
    lesser_first = all_of IsLesserFirst ps (λ p c. let x = (h.each p).0 c in subst IsLesserFirst (sym x.named) (ordered_first (name_of code x.first) (name_of code x.second)));
    texts = all_of AreTexts ps (λ p c. seen_texts p names ((h.each p).0 c));
  }

-- ---- the file

pub seen_along : (code : Code) (s s' : SetupView) (es es' : List Entry) (o o' : Option (List Pair)) → s ≡ s' → es ≡ es' → o ≡ o' → SeenIs code s es o → SeenIs code s' es' o'
seen_along code s s' es es' o o' e f g h = subst (SeenIs code s' es') g (subst (λ xs. SeenIs code s' xs o) f (subst (λ x. SeenIs code x es o) e h))

pub no_file : (code : Code) (s : SetupView) (es : List Entry) (name : List ℕ) (puts : List Put) → walk_of code s es (start_state code s) ≡ None → PutsWalked code s es name puts
no_file code s es name puts none = λ end walked. absurd (cc (none, walked))

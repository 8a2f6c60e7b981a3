-- The bytes alone say what is read.
use Rattle.std.proofs.Common.{◌≡◌, ◌≢◌, ℕ, List, Result, Ok, Err, refl, sym, ap, ◌∙◌, subst}
use Rattle.std.proofs.lemmas.Option.{same_Some}
use Rattle.profiles.specs.Profile.{Pair}
use Rattle.profiles.specs.declared.profile.Profile.{Profile}
use Rattle.profiles.specs.declared.profile.Profile.TheVariants as profile
use Rattle.serde_json.specs.Data.{Data}
use Rattle.profile_book.specs.Listing.{IsSetOf, pairs_of}
use Rattle.profile_book.specs.Reading.{Spells, IsProfile, IsNoProfile, Answers}
use Rattle.profile_book.specs.declared.fault.ProfileFault.{ProfileFault}
use Rattle.profile_book.specs.declared.fault.ProfileFault.TheVariants as fault
use Rattle.profile_book.proofs.PairOrder.{one_set}

one_value : (bytes : List ℕ) (v w : Data) → Spells bytes v → Spells bytes w → v ≡ w
one_value bytes v w a b = same_Some v w (sym a.reads ∙ b.reads)

pub one_profile : (bytes : List ℕ) (ps qs : List Pair) → IsProfile bytes ps → IsProfile bytes qs → ps ≡ qs
one_profile bytes ps qs a b =
    let value = one_value bytes a.value b.value a.spells b.spells in
    let listed = same_Some a.listed b.listed (sym a.form ∙ ap pairs_of value ∙ b.form) in
    one_set b.listed ps qs (subst (λ xs. IsSetOf xs ps) listed a.pairs) b.pairs

not_both : (bytes : List ℕ) (ps : List Pair) → IsProfile bytes ps → IsNoProfile bytes → ⊥
not_both bytes ps a b = let clash = sym a.form ∙ ap pairs_of (one_value bytes a.value b.value a.spells b.spells) ∙ b.form in cc

pub one_answer : (bytes : List ℕ) (a b : Result Profile ProfileFault) → Answers bytes a → Answers bytes b → a ≢ Err fault.OutOfMemory → b ≢ Err fault.OutOfMemory → a ≡ b
one_answer bytes (Ok profile.All) b h k p q = absurd h
one_answer bytes (Ok (profile.Pairs ps)) (Ok profile.All) h k p q = absurd k
one_answer bytes (Ok (profile.Pairs ps)) (Ok (profile.Pairs qs)) h k p q = ap (λ rs. Ok (profile.Pairs rs)) (one_profile bytes ps qs h k)
one_answer bytes (Ok (profile.Pairs ps)) (Err fault.NotJson) h k p q = absurd (k h.value h.spells)
one_answer bytes (Ok (profile.Pairs ps)) (Err fault.NotProfile) h k p q = absurd (not_both bytes ps h k)
one_answer bytes (Ok (profile.Pairs ps)) (Err fault.OutOfMemory) h k p q = absurd (q refl)
one_answer bytes (Err fault.NotJson) (Ok profile.All) h k p q = absurd k
one_answer bytes (Err fault.NotJson) (Ok (profile.Pairs qs)) h k p q = absurd (h k.value k.spells)
one_answer bytes (Err fault.NotJson) (Err fault.NotJson) h k p q = refl
one_answer bytes (Err fault.NotJson) (Err fault.NotProfile) h k p q = absurd (h k.value k.spells)
one_answer bytes (Err fault.NotJson) (Err fault.OutOfMemory) h k p q = absurd (q refl)
one_answer bytes (Err fault.NotProfile) (Ok profile.All) h k p q = absurd k
one_answer bytes (Err fault.NotProfile) (Ok (profile.Pairs qs)) h k p q = absurd (not_both bytes qs k h)
one_answer bytes (Err fault.NotProfile) (Err fault.NotJson) h k p q = absurd (k h.value h.spells)
one_answer bytes (Err fault.NotProfile) (Err fault.NotProfile) h k p q = refl
one_answer bytes (Err fault.NotProfile) (Err fault.OutOfMemory) h k p q = absurd (q refl)
one_answer bytes (Err fault.OutOfMemory) b h k p q = absurd (p refl)

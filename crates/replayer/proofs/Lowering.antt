-- The entry that is known to be wrong before the start.
use Rattle.std.proofs.Common.{◌≡◌, ℕ, ◌<◌, List, [], ◌∷◌, ◌++◌, length, Option, Some, None, refl, sym, ap, subst, ◌∙◌, ⊎_elim, arith}
use Rattle.std.specs.Prelude.{slice_get, IfSome, MatchOption}
use Rattle.std.proofs.lemmas.Bool.{cases_eq, cases_lt}
use Rattle.std.proofs.lemmas.Option.{same_Some, slice_get_within}
use Rattle.sync_objects.specs.Setup.{SetupView}
use Rattle.sync_objects.specs.declared.entry.Entry.{Entry}
use Rattle.log_walks.specs.Known.{IsWrongAt, NoneIsWrong}
use Rattle.replayer.specs.Following.{Following}
use Rattle.replayer.specs.Replays.{HaveLowered}
use Rattle.replayer.proofs.Gathering.{split_last}

-- the first entry that is never allowed, or there is none
abbrev pub IsFirstWrong : ℕ → List Entry → Option ℕ → Type 0
IsFirstWrong slots es wrong = MatchOption wrong (NoneIsWrong slots es (length es)) (λ at. IsWrongAt slots es at × NoneIsWrong slots es at)

pub wrong_at : (slots : ℕ) (es : List Entry) (wrong : Option ℕ) (p : ℕ) → IsFirstWrong slots es wrong → wrong ≡ Some p → IsWrongAt slots es p
wrong_at slots es None p h e = cc
wrong_at slots es (Some q) p h e = subst (IsWrongAt slots es) (same_Some q p e) h.0

pub wrong_inside : (slots : ℕ) (es : List Entry) (wrong : Option ℕ) → IsFirstWrong slots es wrong → IfSome wrong (λ at. at < length es)
wrong_inside slots es None h = tt
wrong_inside slots es (Some q) h = slice_get_within es q h.0.0 h.0.1

is_first : (slots : ℕ) (es : List Entry) (wrong : Option ℕ) (p : ℕ) → IsFirstWrong slots es wrong → IsWrongAt slots es p → NoneIsWrong slots es p → wrong ≡ Some p
is_first slots es None p h is none = absurd (h p (slice_get_within es p is.0 is.1) is)
is_first slots es (Some q) p h is none = ⊎_elim
    (λ earlier. absurd (h.1 p earlier is))
    (λ later. ⊎_elim (λ (e : q ≡ p). ap Some e) (λ (ne : q ≡ p → ⊥). absurd (none q (omega (arith, later, ne)) h.0)) (cases_eq q p))
    (cases_lt p q)

-- the follower of the entry's thread among these has put its position
abbrev pub AreLowering : Option ℕ → List Entry → List Following → Type 0
AreLowering wrong es fs = (k : ℕ) (f : Following) (p : ℕ) (e : Entry) → slice_get fs k ≡ Some f → wrong ≡ Some p → slice_get es p ≡ Some e → e.thread ≡ k → f.known ≡ Some p

pub lowers_more : (wrong : Option ℕ) (es : List Entry) (fs pushed : List Following) (f : Following) (thread : ℕ) → pushed ≡ fs ++ f ∷ [] → thread ≡ length fs → ((p : ℕ) (e : Entry) → wrong ≡ Some p → slice_get es p ≡ Some e → e.thread ≡ thread → f.known ≡ Some p) → AreLowering wrong es fs → AreLowering wrong es pushed
lowers_more wrong es fs pushed f thread is here one h k x p e at wrong_is there own = ⊎_elim
    (λ q. h k x p e q wrong_is there own)
    (λ q. subst (λ (z : Following). z.known ≡ Some p) q.1 (one p e wrong_is there (own ∙ q.0 ∙ sym here)))
    (split_last fs f k x (ap (λ xs. slice_get xs k) (sym is) ∙ at))

pub have_lowered : (s : SetupView) (es : List Entry) (wrong : Option ℕ) (fs : List Following) → IsFirstWrong s.slots es wrong → AreLowering wrong es fs → HaveLowered s es fs
have_lowered s es wrong fs first lowering p e f is none there at = lowering e.thread f p e at (is_first s.slots es wrong p first is none) there refl

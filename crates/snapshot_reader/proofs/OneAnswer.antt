-- There is one answer to the same bytes.
use Rattle.std.proofs.Common.{◌≡◌, ℕ, zero, suc, Bool, false, inl, inr, List, [], ◌∷◌, take, Some, Result, Ok, Err, refl, sym, ap, subst, ◌∙◌}
use Rattle.std.specs.Prelude.{slice_get, IsTrue}
use Rattle.std.proofs.lemmas.Bool.{true≢false}
use Rattle.std.proofs.lemmas.Option.{same_Some}
use Rattle.profiles.specs.Profile.{Text}
use Rattle.sync_objects.specs.Setup.{SetupView}
use Rattle.flow_code.specs.declared.code.Code.{Code}
use Rattle.order_log.specs.Reading.{shown}
use Rattle.snapshots.specs.Conditions.{AllFit, MeetsConditions, judgements}
use Rattle.snapshots.specs.Text.{draft_of, snapshot_text}
use Rattle.snapshots.specs.declared.draft.Draft.{Draft}
use Rattle.snapshots.specs.declared.snapshot.Snapshot.{Snapshot}
use Rattle.snapshot_grammar.specs.Grammar.{IsCheckpoint}
use Rattle.snapshot_grammar.proofs.Unique.{draft_once, no_fault, one_fault}
use Rattle.snapshot_reader.specs.Reading.{IsAnswer, IsFault, IsStateFault}
use Rattle.snapshot_reader.specs.declared.fault.SnapshotFault.{SnapshotFault}
use Rattle.snapshot_reader.specs.declared.fault.SnapshotFault.TheVariants.{Refused, OutOfMemory}
use Rattle.snapshot_reader.proofs.Drafts.{snapshot_once}

-- ---- the first that is false

not_both : (b : Bool) → IsTrue b → Some b ≡ Some false → ⊥
not_both b h e = true≢false (sym h ∙ same_Some b false e)

all_fit : (bs : List Bool) (k : ℕ) → AllFit bs → slice_get bs k ≡ Some false → ⊥
all_fit [] k h e = cc
all_fit (b ∷ bs) zero h e = not_both b h.0 e
all_fit (b ∷ bs) (suc k) h e = all_fit bs k h.1 e

one_first : (bs : List Bool) (j k : ℕ) → AllFit (take j bs) → slice_get bs j ≡ Some false → AllFit (take k bs) → slice_get bs k ≡ Some false → j ≡ k
one_first [] j k h e g f = cc
one_first (b ∷ bs) zero zero h e g f = refl
one_first (b ∷ bs) zero (suc k) h e g f = absurd (not_both b g.0 e)
one_first (b ∷ bs) (suc j) zero h e g f = absurd (not_both b h.0 f)
one_first (b ∷ bs) (suc j) (suc k) h e g f = ap suc (one_first bs j k h.1 e g.1 f)

module _ (code : Code) (s : SetupView) (n : ℕ) (bytes : Text) where
  of_state : (k : ℕ) → IsStateFault code s n bytes k → IsCheckpoint s.slots bytes
  of_state k f = record { draft = f.draft; form = f.form; text = f.text }

  of_snapshot : (x : Snapshot) → MeetsConditions code s n x → bytes ≡ snapshot_text x → IsCheckpoint s.slots bytes
  of_snapshot x h e = record { draft = draft_of x; form = h.form; text = e }

  -- ---- a snapshot and a fault

  state_no : (x : Snapshot) (k : ℕ) → MeetsConditions code s n x → bytes ≡ snapshot_text x → IsStateFault code s n bytes k → ⊥
  state_no x k h e f =
      let same : draft_of x ≡ f.draft = draft_once s.slots bytes (draft_of x) f.draft h.form f.form e f.text in
      all_fit (judgements code s n f.draft) k (subst (λ (d : Draft). AllFit (judgements code s n d)) same h.fits) f.misfit

  fault_no : (x : Snapshot) (number k : ℕ) → MeetsConditions code s n x → bytes ≡ snapshot_text x → IsFault code s n bytes number k → ⊥
  fault_no x number k h e (inl f) = no_fault s.slots bytes k f.1 (of_snapshot x h e)
  fault_no x number k h e (inr f) = state_no x k h e f.1

  -- ---- two faults

  one_state : (j k : ℕ) → IsStateFault code s n bytes j → IsStateFault code s n bytes k → j ≡ k
  one_state j k f g =
      let same : g.draft ≡ f.draft = draft_once s.slots bytes g.draft f.draft g.form f.form g.text f.text in
      one_first (judgements code s n f.draft) j k f.fit f.misfit (subst (λ (d : Draft). AllFit (take k (judgements code s n d))) same g.fit) (subst (λ (d : Draft). slice_get (judgements code s n d) k ≡ Some false) same g.misfit)

  one_place : (a b j k : ℕ) → IsFault code s n bytes a j → IsFault code s n bytes b k → (a ≡ b) × (j ≡ k)
  one_place a b j k (inl f) (inl g) = (f.0 ∙ sym g.0, one_fault s.slots bytes j k f.1 g.1)
  one_place a b j k (inl f) (inr g) = absurd (no_fault s.slots bytes j f.1 (of_state k g.1))
  one_place a b j k (inr f) (inl g) = absurd (no_fault s.slots bytes k g.1 (of_state j f.1))
  one_place a b j k (inr f) (inr g) = (f.0 ∙ sym g.0, one_state j k f.1 g.1)

pub one_answer : (code : Code) (s : SetupView) (n : ℕ) (bytes : List ℕ) (q r : Result Snapshot SnapshotFault) → IsAnswer code s n bytes q → IsAnswer code s n bytes r → q ≡ r
one_answer code s n bytes (Ok x) (Ok y) a b = ap Ok (snapshot_once x y (draft_once s.slots bytes (draft_of x) (draft_of y) a.0.form b.0.form a.1 b.1))
one_answer code s n bytes (Ok x) (Err (Refused number line)) a b = absurd (fault_no code s n bytes x number b.0 a.0 a.1 b.2)
one_answer code s n bytes (Ok x) (Err OutOfMemory) a b = absurd b
one_answer code s n bytes (Err (Refused number line)) (Ok y) a b = absurd (fault_no code s n bytes y number a.0 b.0 b.1 a.2)
one_answer code s n bytes (Err (Refused number line)) (Err (Refused other place)) a b =
    let same = one_place code s n bytes number other a.0 b.0 a.2 b.2 in
    let lines : line ≡ place = a.1 ∙ ap (λ (z : ℕ). shown (suc z)) same.1 ∙ sym b.1 in
    λ i. Err (Refused (same.0 i) (lines i))
one_answer code s n bytes (Err (Refused number line)) (Err OutOfMemory) a b = absurd b
one_answer code s n bytes (Err OutOfMemory) r a b = absurd a

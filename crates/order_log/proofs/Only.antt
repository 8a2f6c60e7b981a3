-- There is one right answer.
use Rattle.std.proofs.Common.{◌≡◌, ℕ, ◌+◌, ◌≤◌, false, List, [], ◌∷◌, ◌++◌, length, take, drop, Some, Result, Ok, Err, refl, sym, ap, subst, ◌∙◌, arith, append_assoc, ⊎_elim}
use Rattle.std.proofs.lemmas.Bool.{cases_order}
use Rattle.std.proofs.lemmas.List.{take-append-drop, take-take}
use Rattle.std.proofs.lemmas.List.Concat.{flat_map-append}
use Rattle.std.proofs.lemmas.Option.{same_Some}
use Rattle.profiles.specs.Profile.{Text}
use Rattle.order_log.specs.declared.fault.LogFault.{LogFault}
use Rattle.order_log.specs.declared.fault.LogFault.TheVariants.{LogSyntax, LogLimit, OutOfMemory}
use Rattle.order_log.specs.Log.{LogView, IsLog, KeepsLimits}
use Rattle.order_log.specs.Text.{log_lines, text_of, IsTextOf}
use Rattle.order_log.specs.Reading.{lines_of, BeginsWith, IsSoundUpTo, IsSyntaxFault, IsLimitFault, shown, IsFirstAt, IsAnswer}
use Rattle.order_log.specs.Recogniser.{lines_in, log_at}
use Rattle.order_log.proofs.Machine.{Part, Bare, Headed, Slotted, Celled, Limited, Pairing, Profiled, Sized, Whole, view_of, log_at-run}
use Rattle.order_log.proofs.Walks.{walk, whole, whole_walk}
use Rattle.order_log.proofs.Right.{cut_log, begins_with, LeadsTo-start, run_right}

-- ---- no two logs have one text

-- the log that a part is, or the other one
abbrev log_or : LogView → Part → LogView
log_or v Bare = v
log_or v (Headed w) = v
log_or v (Slotted w s) = v
log_or v (Celled w s c) = v
log_or v (Limited n) = v
log_or v (Pairing n left ps) = v
log_or v (Profiled n p) = v
log_or v (Sized n p k) = v
log_or v (Whole n p input es) = view_of n p input es

pub same_text-same_log : (bytes : Text) (v w : LogView) → IsLog v → IsLog w → IsTextOf bytes v → IsTextOf bytes w → v ≡ w
same_text-same_log bytes v w log_v log_w e f =
    let lines : log_lines e.0 v ≡ log_lines f.0 w = sym (cut_log bytes e.0 v log_v e.2).lines ∙ (cut_log bytes f.0 w log_w f.2).lines in
    let walked : Some (whole e.0 v) ≡ Some (whole f.0 w) = sym (whole_walk false e.0 v log_v e.1 (λ t. absurd cc)) ∙ ap (walk false Bare) lines ∙ whole_walk false f.0 w log_w f.1 (λ t. absurd cc) in
    ap (log_or v) (same_Some (whole e.0 v) (whole f.0 w) walked)

-- ---- what fewer lines begin

begins_fewer : (j k : ℕ) (lines : List Text) (v : LogView) → j ≤ k → BeginsWith (take k lines) v → BeginsWith (take j lines) v
begins_fewer j k lines v le b =
    let shorter : take j (take k lines) ≡ take j lines = take-take j k lines le in
    let parts : take j lines ++ drop j (take k lines) ≡ take k lines = ap (λ (ls : List Text). ls ++ drop j (take k lines)) (sym shorter) ∙ take-append-drop j (take k lines) in
    record {
      log = b.log;
      version = b.version;
      words = b.words;
      more = text_of (drop j (take k lines)) ++ b.more;
      text = b.text ∙ ap (λ (ls : List Text). text_of ls ++ b.more) (sym parts) ∙ ap (λ (t : Text). t ++ b.more) (flat_map-append (λ line. line ++ 10 ∷ []) (take j lines) (drop j (take k lines)))
          ∙ append_assoc (text_of (take j lines)) (text_of (drop j (take k lines))) b.more;
    }

sound_fewer : (bytes : Text) (j k : ℕ) → j ≤ k → IsSoundUpTo bytes k → IsSoundUpTo bytes j
sound_fewer bytes j k le s = let t = s.there in record { there = omega arith; begins = (s.begins.0, begins_fewer j k (lines_of bytes) s.begins.0 le s.begins.1, s.begins.2) }

-- a log is sound in all its lines
log_begins : (bytes : Text) (v : LogView) (k : ℕ) → IsLog v → IsTextOf bytes v → BeginsWith (take k (lines_of bytes)) v
log_begins bytes v k log e =
    let c = cut_log bytes e.0 v log e.2 in
    begins_with (take k (lines_of bytes)) e.0 v (drop k (lines_of bytes)) log e.1 (sym c.lines ∙ sym (take-append-drop k (lines_of bytes)))

-- ---- a fault is no sound line

syntax_stops : (bytes : Text) (k : ℕ) → IsSyntaxFault bytes (k + 1) → IsSoundUpTo bytes (k + 1) → ⊥
syntax_stops bytes k fault s = ⊎_elim (λ w. w.1 (s.begins.0, s.begins.1)) (λ w. let t = s.there in let last : k + 1 ≡ length (lines_of bytes) + 1 = w.0 in absurd (omega arith)) fault

limit_stops : (bytes : Text) (k : ℕ) → IsLimitFault bytes (k + 1) → IsSoundUpTo bytes (k + 1) → ⊥
limit_stops bytes k fault s = fault.beyond s.begins

-- two first faults are at one line
same_line : (bytes : Text) (j k : ℕ) → IsSoundUpTo bytes j → IsSoundUpTo bytes k → (IsSoundUpTo bytes (j + 1) → ⊥) → (IsSoundUpTo bytes (k + 1) → ⊥) → j ≡ k
same_line bytes j k sj sk stops_j stops_k = ⊎_elim (λ e. e) (λ w. absurd (⊎_elim (λ lt. stops_j (sound_fewer bytes (j + 1) k (omega arith) sk)) (λ lt. stops_k (sound_fewer bytes (k + 1) j (omega arith) sj)) w)) (cases_order j k)

-- one line is not at fault in both ways
not_both : (bytes : Text) (j k : ℕ) → j ≡ k → IsSyntaxFault bytes (j + 1) → IsLimitFault bytes (k + 1) → ⊥
not_both bytes j k same syntax limit =
    let here : IsLimitFault bytes (j + 1) = subst (λ (n : ℕ). IsLimitFault bytes (n + 1)) (sym same) limit in
    ⊎_elim (λ w. w.1 here.begins) (λ w. let t = here.there in let last : j + 1 ≡ length (lines_of bytes) + 1 = w.0 in absurd (omega arith)) syntax

-- a log's text has no fault
log_syntax : (bytes : Text) (v : LogView) (k : ℕ) → IsLog v → IsTextOf bytes v → IsSyntaxFault bytes (k + 1) → ⊥
log_syntax bytes v k log e fault = ⊎_elim (λ w. w.1 (v, log_begins bytes v (k + 1) log e)) (λ w. w.1 v log e) fault

log_limit : (bytes : Text) (v : LogView) (k : ℕ) → IsLog v → KeepsLimits v → IsTextOf bytes v → IsLimitFault bytes (k + 1) → ⊥
log_limit bytes v k log kept e fault = fault.beyond (v, log_begins bytes v (k + 1) log e, kept)

-- ---- one answer

same_syntax : (bytes : Text) (m n : ℕ) → IsFirstAt (IsSyntaxFault bytes) bytes m → IsFirstAt (IsSyntaxFault bytes) bytes n → m ≡ n
same_syntax bytes m n a b =
    let line = same_line bytes a.0 b.0 a.2 b.2 (syntax_stops bytes a.0 a.3) (syntax_stops bytes b.0 b.3) in
    a.1 ∙ ap (λ (k : ℕ). shown (k + 1)) line ∙ sym b.1

same_limit : (bytes : Text) (m n : ℕ) → IsFirstAt (IsLimitFault bytes) bytes m → IsFirstAt (IsLimitFault bytes) bytes n → m ≡ n
same_limit bytes m n a b =
    let line = same_line bytes a.0 b.0 a.2 b.2 (limit_stops bytes a.0 a.3) (limit_stops bytes b.0 b.3) in
    a.1 ∙ ap (λ (k : ℕ). shown (k + 1)) line ∙ sym b.1

syntax_or_limit : (bytes : Text) (m n : ℕ) → IsFirstAt (IsSyntaxFault bytes) bytes m → IsFirstAt (IsLimitFault bytes) bytes n → ⊥
syntax_or_limit bytes m n a b = not_both bytes a.0 b.0 (same_line bytes a.0 b.0 a.2 b.2 (syntax_stops bytes a.0 a.3) (limit_stops bytes b.0 b.3)) a.3 b.3

one_answer : (bytes : Text) (q r : Result LogView LogFault) → IsAnswer bytes q → IsAnswer bytes r → q ≡ r
one_answer bytes (Ok v) (Ok w) a b = ap (λ (x : LogView). Ok x) (same_text-same_log bytes v w a.0 b.0 a.2 b.2)
one_answer bytes (Ok v) (Err (LogSyntax n)) a b = absurd (log_syntax bytes v b.0 a.0 a.2 b.3)
one_answer bytes (Ok v) (Err (LogLimit n)) a b = absurd (log_limit bytes v b.0 a.0 a.1 a.2 b.3)
one_answer bytes (Ok v) (Err OutOfMemory) a b = absurd b
one_answer bytes (Err (LogSyntax m)) (Ok w) a b = absurd (log_syntax bytes w a.0 b.0 b.2 a.3)
one_answer bytes (Err (LogSyntax m)) (Err (LogSyntax n)) a b = ap (λ (k : ℕ). Err (LogSyntax k)) (same_syntax bytes m n a b)
one_answer bytes (Err (LogSyntax m)) (Err (LogLimit n)) a b = absurd (syntax_or_limit bytes m n a b)
one_answer bytes (Err (LogSyntax m)) (Err OutOfMemory) a b = absurd b
one_answer bytes (Err (LogLimit m)) (Ok w) a b = absurd (log_limit bytes w a.0 b.0 b.1 b.2 a.3)
one_answer bytes (Err (LogLimit m)) (Err (LogSyntax n)) a b = absurd (syntax_or_limit bytes n m b a)
one_answer bytes (Err (LogLimit m)) (Err (LogLimit n)) a b = ap (λ (k : ℕ). Err (LogLimit k)) (same_limit bytes m n a b)
one_answer bytes (Err (LogLimit m)) (Err OutOfMemory) a b = absurd b
one_answer bytes (Err OutOfMemory) r a b = absurd a

-- ---- reading

-- what the recogniser gives is right, and nothing else is
pub log_at-right : (bytes : Text) → IsAnswer bytes (log_at (lines_in 1 bytes))
log_at-right bytes = subst (λ (r : Result LogView LogFault). IsAnswer bytes r) (sym (log_at-run (lines_in 1 bytes))) (run_right bytes [] Bare 1 (lines_of bytes) refl LeadsTo-start refl)

pub log_at-only : (bytes : Text) (r : Result LogView LogFault) → IsAnswer bytes r → log_at (lines_in 1 bytes) ≡ r
log_at-only bytes r h = one_answer bytes (log_at (lines_in 1 bytes)) r (log_at-right bytes) h

-- The lines of a thread.
use Rattle.std.proofs.Common.{◌≡◌, ℕ, ◌≤◌, ◌<◌, ◌^◌, List, [], ◌∷◌, ◌++◌, length, map, drop, replicate, Result, Ok, Err, refl, sym, ap, subst, ◌∙◌, arith, append_assoc}
use Rattle.std.specs.List.{AllByRecursion, flat_map}
use Rattle.std.proofs.lemmas.List.{append-nil, length-replicate}
use Rattle.profiles.specs.Profile.{Text}
use Rattle.order_log.specs.Recogniser.{Lines}
use Rattle.thread_interpreter.specs.declared.part.FramePart.{FramePart}
use Rattle.thread_interpreter.specs.declared.part.StripePart.{StripePart}
use Rattle.thread_interpreter.specs.declared.part.RegionPart.{RegionPart}
use Rattle.snapshots.specs.Conditions.{IsThreadForm}
use Rattle.snapshots.specs.Text.{frame_line, head_line, region_line, stripe_line, thread_lines}
use Rattle.snapshots.specs.declared.draft.DraftThread.{DraftThread}
use Rattle.snapshots.specs.declared.draft.Head.{Head}
use Rattle.snapshot_lines.specs.Lines.{IsAny, IsFrame, clipped_frame, clipped_head, clipped_region, clipped_stripe}
use Rattle.snapshot_lines.proofs.Once.{head_once}
use Rattle.snapshot_grammar.specs.Blanks.{blank_frame, blank_region, blank_stripe, blank_thread}
use Rattle.snapshot_grammar.specs.Drafts.{clipped_thread}
use Rattle.snapshot_grammar.specs.Parts.{AreMany, IsRead, IsStuckAt, Passed, Reads}
use Rattle.snapshot_grammar.specs.declared.fault.DraftFault.{DraftFault}
use Rattle.snapshot_grammar.specs.declared.fault.DraftFault.TheVariants.{Syntax, OutOfMemory}
use Rattle.snapshot_grammar.proofs.Grammar.{Delimits, IsPart, passed_none, passed_then, stuck_in}
use Rattle.snapshot_grammar.proofs.OneLine.{line_delimits, same_head}
use Rattle.snapshot_grammar.proofs.Many.{All-replicate, after_same, all_read, next_stuck, none_read, one_read}

-- ---- what stands of each

pub All-any : {X : Type 0} (xs : List X) → AllByRecursion IsAny xs
All-any [] = tt
All-any (x ∷ xs) = (tt, All-any xs)

kept_of : (fs : List FramePart) → AllByRecursion IsFrame fs → AllByRecursion (λ (f : FramePart). f.kept < 2 ^ 64) fs
kept_of [] h = tt
kept_of (f ∷ fs) h = (h.0.0, kept_of fs h.1)

registers_of : (fs : List FramePart) → AllByRecursion IsFrame fs → AllByRecursion (λ (f : FramePart). AllByRecursion (λ w. w < 2 ^ 64) f.registers) fs
registers_of [] h = tt
registers_of (f ∷ fs) h = (h.0.1, registers_of fs h.1)

pub frames_of : (fs : List FramePart) → AllByRecursion (λ (f : FramePart). f.kept < 2 ^ 64) fs → AllByRecursion (λ (f : FramePart). AllByRecursion (λ w. w < 2 ^ 64) f.registers) fs → AllByRecursion IsFrame fs
frames_of [] h k = tt
frames_of (f ∷ fs) h k = ((h.0, k.0), frames_of fs h.1 k.1)

blank_frame_stands : IsFrame blank_frame
blank_frame_stands = (omega arith, tt)

thread_stands : (h : Head) (fs : List FramePart) (xs : List StripePart) (rs : List RegionPart) → AreMany FramePart IsFrame h.frames fs → AreMany StripePart IsAny h.stripes xs → AreMany RegionPart IsAny h.regions rs
    → IsThreadForm (record { head = h; frames = fs; stripes = xs; regions = rs })
thread_stands h fs xs rs f x r = record { frames = f.count; stripes = x.count; regions = r.count; kept = kept_of fs f.all; registers = registers_of fs f.all }

some_frames : (n : ℕ) → AreMany FramePart IsFrame n (replicate n blank_frame)
some_frames n = record { count = length-replicate n blank_frame; all = All-replicate IsFrame n blank_frame blank_frame_stands }

some_stripes : (n : ℕ) → AreMany StripePart IsAny n (replicate n blank_stripe)
some_stripes n = record { count = length-replicate n blank_stripe; all = All-any (replicate n blank_stripe) }

some_regions : (n : ℕ) → AreMany RegionPart IsAny n (replicate n blank_region)
some_regions n = record { count = length-replicate n blank_region; all = All-any (replicate n blank_region) }

frames_in : (d : DraftThread) → IsThreadForm d → AreMany FramePart IsFrame d.head.frames d.frames
frames_in d k = record { count = k.frames; all = frames_of d.frames k.kept k.registers }

stripes_in : (d : DraftThread) → IsThreadForm d → AreMany StripePart IsAny d.head.stripes d.stripes
stripes_in d k = record { count = k.stripes; all = All-any d.stripes }

regions_in : (d : DraftThread) → IsThreadForm d → AreMany RegionPart IsAny d.head.regions d.regions
regions_in d k = record { count = k.regions; all = All-any d.regions }

-- what stands after as many lines
map_after : {X : Type 0} (Is : X → Type 0) (line : X → Text) (xs ys : List X) → AllByRecursion Is xs → AllByRecursion Is ys → length xs ≡ length ys → (u v : List Text) → map line xs ++ u ≡ map line ys ++ v → u ≡ v
map_after {X} Is line xs ys h k same u v e = after_same X Is (λ x. line x ∷ []) (map line) refl (λ x zs. refl) (line_delimits X Is line) xs ys h k same u v e

-- ---- parts

abbrev head_lines : Head → List Text
head_lines h = head_line h ∷ []

same_head_of : (d : DraftThread) (h : Head) (x t : List Text) → head_line d.head ∷ x ≡ head_line h ∷ t → d.head ≡ h
same_head_of d h x t e = head_once d.head h (same_head (head_line d.head) (head_line h) x t e)

head_part : IsPart Head IsAny head_lines DraftThread IsThreadForm thread_lines []
head_part = record {
  complete = λ h k.
      let fs = replicate h.frames blank_frame in
      let xs = replicate h.stripes blank_stripe in
      let rs = replicate h.regions blank_region in (
        record { head = h; frames = fs; stripes = xs; regions = rs },
        thread_stands h fs xs rs (some_frames h.frames) (some_stripes h.stripes) (some_regions h.regions),
        map frame_line fs ++ (map stripe_line xs ++ map region_line rs),
        refl,
      );
  project = λ c k u t e. (c.head, tt, (map frame_line c.frames ++ (map stripe_line c.stripes ++ map region_line c.regions)) ++ u, e);
}

frames_part : (h : Head) → IsPart (List FramePart) (AreMany FramePart IsFrame h.frames) (map frame_line) DraftThread IsThreadForm thread_lines (head_lines h)
frames_part h = record {
  complete = λ fs k.
      let xs = replicate h.stripes blank_stripe in
      let rs = replicate h.regions blank_region in
      (record { head = h; frames = fs; stripes = xs; regions = rs }, thread_stands h fs xs rs k (some_stripes h.stripes) (some_regions h.regions), map stripe_line xs ++ map region_line rs, refl);
  project = λ c k u t e.
      let rest = map stripe_line c.stripes ++ map region_line c.regions in
      let same : c.head ≡ h = same_head_of c h ((map frame_line c.frames ++ rest) ++ u) t e in
      (c.frames, subst (λ (g : Head). AreMany FramePart IsFrame g.frames c.frames) same (frames_in c k), rest ++ u, sym (append_assoc (map frame_line c.frames) rest u) ∙ ap (drop 1) e);
}

-- what stands after the frames
after_frames : (c : DraftThread) (k : IsThreadForm c) (h : Head) (fs : List FramePart) → AreMany FramePart IsFrame h.frames fs → (u t : List Text) → thread_lines c ++ u ≡ head_line h ∷ (map frame_line fs ++ t)
    → (c.head ≡ h) × ((map stripe_line c.stripes ++ map region_line c.regions) ++ u ≡ t)
after_frames c k h fs f u t e =
    let rest = map stripe_line c.stripes ++ map region_line c.regions in
    let same : c.head ≡ h = same_head_of c h ((map frame_line c.frames ++ rest) ++ u) (map frame_line fs ++ t) e in
    let many : length c.frames ≡ length fs = k.frames ∙ ap (λ (g : Head). g.frames) same ∙ sym f.count in
    (same, map_after IsFrame frame_line c.frames fs (frames_in c k).all f.all many (rest ++ u) t (sym (append_assoc (map frame_line c.frames) rest u) ∙ ap (drop 1) e))

stripes_part : (h : Head) (fs : List FramePart) → AreMany FramePart IsFrame h.frames fs → IsPart (List StripePart) (AreMany StripePart IsAny h.stripes) (map stripe_line) DraftThread IsThreadForm thread_lines (head_line h ∷ map frame_line fs)
stripes_part h fs f = record {
  complete = λ xs k. let rs = replicate h.regions blank_region in (record { head = h; frames = fs; stripes = xs; regions = rs }, thread_stands h fs xs rs f k (some_regions h.regions), map region_line rs, refl);
  project = λ c k u t e.
      let a = after_frames c k h fs f u t e in
      (c.stripes, subst (λ (g : Head). AreMany StripePart IsAny g.stripes c.stripes) a.0 (stripes_in c k), map region_line c.regions ++ u, sym (append_assoc (map stripe_line c.stripes) (map region_line c.regions) u) ∙ a.1);
}

-- what stands after the stripes
after_stripes : (c : DraftThread) (k : IsThreadForm c) (h : Head) (fs : List FramePart) (xs : List StripePart) → AreMany FramePart IsFrame h.frames fs → AreMany StripePart IsAny h.stripes xs
    → (u t : List Text) → thread_lines c ++ u ≡ head_line h ∷ (map frame_line fs ++ (map stripe_line xs ++ t)) → (c.head ≡ h) × (map region_line c.regions ++ u ≡ t)
after_stripes c k h fs xs f x u t e =
    let a = after_frames c k h fs f u (map stripe_line xs ++ t) e in
    let many : length c.stripes ≡ length xs = k.stripes ∙ ap (λ (g : Head). g.stripes) a.0 ∙ sym x.count in
    (a.0, map_after {X = StripePart} IsAny stripe_line c.stripes xs (All-any c.stripes) (All-any xs) many (map region_line c.regions ++ u) t (sym (append_assoc (map stripe_line c.stripes) (map region_line c.regions) u) ∙ a.1))

regions_part : (h : Head) (fs : List FramePart) (xs : List StripePart) → AreMany FramePart IsFrame h.frames fs → AreMany StripePart IsAny h.stripes xs
    → IsPart (List RegionPart) (AreMany RegionPart IsAny h.regions) (map region_line) DraftThread IsThreadForm thread_lines (head_line h ∷ (map frame_line fs ++ map stripe_line xs))
regions_part h fs xs f x = record {
  complete = λ rs k. (
    record { head = h; frames = fs; stripes = xs; regions = rs },
    thread_stands h fs xs rs f x k,
    [],
    ap (λ (z : List Text). head_line h ∷ (map frame_line fs ++ (map stripe_line xs ++ z))) (sym (append-nil (map region_line rs))) ∙ ap (λ (z : List Text). head_line h ∷ z) (sym (append_assoc (map frame_line fs) (map stripe_line xs) (map region_line rs ++ []))),
  );
  project = λ c k u t e.
      let a = after_stripes c k h fs xs f x u t (e ∙ ap (λ (z : List Text). head_line h ∷ z) (append_assoc (map frame_line fs) (map stripe_line xs) t)) in
      (c.regions, subst (λ (g : Head). AreMany RegionPart IsAny g.regions c.regions) a.0 (regions_in c k), u, a.1);
}

-- a thread's lines are known by how they begin
pub thread_delimits : Delimits DraftThread IsThreadForm thread_lines
thread_delimits x y h k u v e =
    let a = after_stripes x h y.head y.frames y.stripes (frames_in y k) (stripes_in y k) u (map region_line y.regions ++ v) (e ∙ ap (λ (z : List Text). head_line y.head ∷ z) (append_assoc (map frame_line y.frames) (map stripe_line y.stripes ++ map region_line y.regions) v ∙ ap (λ (z : List Text). map frame_line y.frames ++ z) (append_assoc (map stripe_line y.stripes) (map region_line y.regions) v))) in
    let many : length x.regions ≡ length y.regions = h.regions ∙ ap (λ (g : Head). g.regions) a.0 ∙ sym k.regions in
    map_after {X = RegionPart} IsAny region_line x.regions y.regions (All-any x.regions) (All-any y.regions) many u v a.1

-- ---- reading

module _ (l m : Lines) where
  pub head_error : (j : Lines) (e : DraftFault) → l.at ≤ 4294967295 → Reads {A = Head} {B = Head} IsAny head_lines clipped_head l (Err e) m → Reads {A = DraftThread} {B = DraftThread} IsThreadForm thread_lines clipped_thread l (Err e) j
  head_error j (Syntax at) low s = stuck_in Head IsAny head_lines DraftThread IsThreadForm thread_lines [] head_part l l at (passed_none l low) s
  head_error j OutOfMemory low s = tt

  module _ (head : Head) (h : IsRead Head Head IsAny head_lines clipped_head l head m) (k : Lines) where
    pub frames_error : (j : Lines) (e : DraftFault) → Reads {A = List FramePart} {B = List FramePart} (AreMany FramePart IsFrame h.item.frames) (map frame_line) (map clipped_frame) m (Err e) k
        → Reads {A = DraftThread} {B = DraftThread} IsThreadForm thread_lines clipped_thread l (Err e) j
    frames_error j (Syntax at) s = stuck_in (List FramePart) (AreMany FramePart IsFrame h.item.frames) (map frame_line) DraftThread IsThreadForm thread_lines (head_lines h.item) (frames_part h.item) l m at h.passed s
    frames_error j OutOfMemory s = tt

    module _ (frames : List FramePart) (f : IsRead (List FramePart) (List FramePart) (AreMany FramePart IsFrame h.item.frames) (map frame_line) (map clipped_frame) m frames k) (i : Lines) where
      frames_passed : Passed l k (head_line h.item ∷ map frame_line f.item)
      frames_passed = passed_then l m k (head_lines h.item) (map frame_line f.item) h.passed f.passed

      pub stripes_error : (j : Lines) (e : DraftFault) → Reads {A = List StripePart} {B = List StripePart} (AreMany StripePart IsAny h.item.stripes) (map stripe_line) (map clipped_stripe) k (Err e) i
          → Reads {A = DraftThread} {B = DraftThread} IsThreadForm thread_lines clipped_thread l (Err e) j
      stripes_error j (Syntax at) s = stuck_in (List StripePart) (AreMany StripePart IsAny h.item.stripes) (map stripe_line) DraftThread IsThreadForm thread_lines (head_line h.item ∷ map frame_line f.item) (stripes_part h.item f.item f.stands) l k at frames_passed s
      stripes_error j OutOfMemory s = tt

      module _ (stripes : List StripePart) (x : IsRead (List StripePart) (List StripePart) (AreMany StripePart IsAny h.item.stripes) (map stripe_line) (map clipped_stripe) k stripes i) where
        stripes_passed : Passed l i (head_line h.item ∷ (map frame_line f.item ++ map stripe_line x.item))
        stripes_passed = passed_then l k i (head_line h.item ∷ map frame_line f.item) (map stripe_line x.item) frames_passed x.passed

        pub regions_error : (o j : Lines) (e : DraftFault) → Reads {A = List RegionPart} {B = List RegionPart} (AreMany RegionPart IsAny h.item.regions) (map region_line) (map clipped_region) i (Err e) o
            → Reads {A = DraftThread} {B = DraftThread} IsThreadForm thread_lines clipped_thread l (Err e) j
        regions_error o j (Syntax at) s =
            stuck_in (List RegionPart) (AreMany RegionPart IsAny h.item.regions) (map region_line) DraftThread IsThreadForm thread_lines (head_line h.item ∷ (map frame_line f.item ++ map stripe_line x.item))
            (regions_part h.item f.item x.item f.stands x.stands) l i at stripes_passed s
        regions_error o j OutOfMemory s = tt

        pub thread_read : (j : Lines) (regions : List RegionPart) → IsRead (List RegionPart) (List RegionPart) (AreMany RegionPart IsAny h.item.regions) (map region_line) (map clipped_region) i regions j
            → IsRead DraftThread DraftThread IsThreadForm thread_lines clipped_thread l (record { head = head; frames = frames; stripes = stripes; regions = regions }) j
        thread_read j regions r = record {
          item = record { head = h.item; frames = f.item; stripes = x.item; regions = r.item };
          stands = thread_stands h.item f.item x.item r.item f.stands x.stands r.stands;
          passed =
              passed_then l m j (head_lines h.item) (map frame_line f.item ++ (map stripe_line x.item ++ map region_line r.item)) h.passed
              (passed_then m k j (map frame_line f.item) (map stripe_line x.item ++ map region_line r.item) f.passed (passed_then k i j (map stripe_line x.item) (map region_line r.item) x.passed r.passed));
          value = λ t. record { head = h.value t; frames = f.value t; stripes = x.value t; regions = r.value t };
        }

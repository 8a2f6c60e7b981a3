-- What holds of jobs that got their chances by a schedule.
use Rattle.std.proofs.Common.{◌≡◌, ◌≢◌, refl, sym, ◌∙◌, subst, ap, ℕ, suc, ◌+◌, ◌-◌, ◌*◌, ◌%◌, ◌<◌, ◌≤◌, ◌⊎◌, inl, inr, Bool, true, false, List, [], ◌∷◌, length, replicate, get_or, Some, IsTrue, MatchBool, below_more, arith}
use Rattle.std.specs.List.{AllZip, AllPass, slice_get, slice_set}
use Rattle.std.specs.Option.{unwrap_or}
use Rattle.std.proofs.lemmas.Option.{slice_get_past, slice_get-get_or}
use Rattle.std.proofs.lemmas.Nat.{mod-mul-add}
use Rattle.std.proofs.lemmas.List.{length-set}
use Rattle.crew.specs.Counts.{rises, total}
use Rattle.crew.specs.Turns.{Turned, Finished}
use Rattle.crew.specs.Schedule.{PlayState, begin, whose, Chance, passes, gives, Reached, begins, goes_on, Ends, Played, IsOver, IsSpent}
use Rattle.crew.specs.declared.job.Job as Job
use Rattle.crew.proofs.Zips.{zip_same, zip_set, zip_set_both}

-- the order's numbers, and those of the rounds after it
pub whose_order : (order : List ℕ) (jobs k : ℕ) → k < length order → (d : ℕ) → whose order jobs k ≡ get_or order k d
whose_order order jobs k low d = ap (λ o. unwrap_or o ((k - length order) % jobs)) (slice_get-get_or order k d low)

pub whose_round : (order : List ℕ) (jobs rounds at : ℕ) → at < jobs → whose order jobs ((length order + rounds * jobs) + at) ≡ at
whose_round order jobs rounds at low =
    let k = (length order + rounds * jobs) + at in
    let following : k - length order ≡ rounds * jobs + at = omega arith in
    ap (λ o. unwrap_or o ((k - length order) % jobs)) (slice_get_past order k (omega arith)) ∙ (ap (λ n. n % jobs) following ∙ mod-mul-add rounds jobs at low)

module _ {J : Type 0} (g : Job.Ghosts J) where
  -- a job was led on, and has no fewer turns
  abbrev pub Led : J → J → Type 0
  Led job later = g.leads_to job later × (g.turns job ≤ g.turns later)

  -- what is known to have ended has
  abbrev pub Known : Bool → J → Type 0
  Known over job = IsTrue over → g.ended job ≡ true

  pub gave : (s now : PlayState J) (at : ℕ) (job later : J) (ended : Bool) → s ≡ now → slice_get now.over at ≡ Some false → at < length now.jobs → job ≡ get_or s.jobs at job → s.left ≢ 0
      → Turned g job later → ended ≡ g.ended later → Chance g at now (record { jobs = slice_set s.jobs at later; over = slice_set s.over at ended; left = s.left - 1 })
  gave s now at job later ended same waits low is left turned same_end =
      let over : slice_get s.over at ≡ Some false = subst (λ (t : PlayState J). slice_get t.over at ≡ Some false) (sym same) waits in
      let low : at < length s.jobs = subst (λ (t : PlayState J). at < length t.jobs) (sym same) low in
      let here : slice_get s.jobs at ≡ Some job = slice_get-get_or s.jobs at job low ∙ ap Some (sym is) in
      subst (λ t. Chance g at t (record { jobs = slice_set s.jobs at later; over = slice_set s.over at ended; left = s.left - 1 })) same
      (subst (λ e. Chance g at s (record { jobs = slice_set s.jobs at later; over = slice_set s.over at e; left = s.left - 1 })) (sym same_end) (gives job later over here (omega arith) turned))

  pub goes_to : (number : ℕ → ℕ) (start : PlayState J) (k at : ℕ) (s t : PlayState J) → Reached g number start k s → number k ≡ at → Chance g at s t → Reached g number start (k + 1) t
  goes_to number start k at s t reached is chance = goes_on k s t reached (subst (λ n. Chance g n s t) (sym is) chance)

  -- since the first of two standings, in which so many jobs had their chance, a turn was spent; or nothing changed, and these jobs had ended
  abbrev pub HasSpent : (first : PlayState J) → (at : ℕ) → PlayState J → Type 0
  HasSpent first at s = (s.left < first.left) ⊎ ((s ≡ first) × ((i : ℕ) → i < at → slice_get first.over i ≢ Some false))

  pub spends : (first : PlayState J) (at : ℕ) (s t : PlayState J) → HasSpent first at s → Chance g at s t → HasSpent first (at + 1) t
  spends first at s t (inl less) (passes closed) = inl less
  spends first at s t (inl less) (gives job later waits is left turned) = inl (omega arith)
  spends first at s t (inr was) (passes closed) = inr (was.0, below_more (λ i. slice_get first.over i ≢ Some false) at was.1 (subst (λ (u : PlayState J). slice_get u.over at ≢ Some false) was.0 closed))
  spends first at s t (inr was) (gives job later waits is left turned) = let same = ap (λ (u : PlayState J). u.left) was.0 in inl (omega arith)

  not_false : (b : Bool) → (b ≡ false → ⊥) → b ≡ true
  not_false true is = refl
  not_false false is = absurd (is refl)

  pub spent : (first : PlayState J) (at : ℕ) (s : PlayState J) → length first.over ≤ at → HasSpent first at s → (s.left < first.left) ⊎ IsOver first
  spent first at s all (inl less) = inl less
  spent first at s all (inr was) =
      inr (λ k d low. not_false (get_or first.over k d) (λ is. was.1 k (omega arith) (slice_get-get_or first.over k d low ∙ ap Some is)))

  long : (at : ℕ) (s t : PlayState J) → Chance g at s t → length t.jobs ≡ length s.jobs
  long at s t (passes closed) = refl
  long at s t (gives job later waits is left turned) = length-set s.jobs at later

  pub long_on : (number : ℕ → ℕ) (start : PlayState J) (k : ℕ) (t : PlayState J) → Reached g number start k t → length t.jobs ≡ length start.jobs
  long_on number start _ _ begins = refl
  long_on number start _ _ (goes_on k s t reached chance) = long (number k) s t chance ∙ long_on number start k s reached

  -- ---- what became of the jobs

  led_by : {A : Type 0} (R : A → J → Type 0) → ((a : A) (job later : J) → Turned g job later → R a job → R a later)
      → (xs : List A) (at : ℕ) (s t : PlayState J) → Chance g at s t → AllZip R xs s.jobs → AllZip R xs t.jobs
  led_by R more xs at s t (passes closed) all = all
  led_by R more xs at s t (gives job later waits is left turned) all = zip_set R xs s.jobs at job later all is (λ a. more a job later turned)

  pub led : ((job : J) → g.leads_to job job) → ((a b c : J) → g.leads_to a b → g.leads_to b c → g.leads_to a c)
      → (number : ℕ → ℕ) (start : PlayState J) (k : ℕ) (t : PlayState J) → Reached g number start k t → AllZip Led start.jobs t.jobs
  led same on number start _ _ begins = zip_same Led (λ job. (same job, omega arith)) start.jobs
  led same on number start _ _ (goes_on k s t reached chance) =
      led_by Led (λ a job later turned h. let kept = turned.rose.kept in (on a job later h.0 turned.leads, omega arith)) start.jobs (number k) s t chance (led same on number start k s reached)

  none_known : (jobs : List J) → AllZip Known (replicate (length jobs) false) jobs
  none_known [] = tt
  none_known (job ∷ jobs) = ((λ h. absurd cc), none_known jobs)

  knows : (at : ℕ) (s t : PlayState J) → Chance g at s t → AllZip Known s.over s.jobs → AllZip Known t.over t.jobs
  knows at s t (passes closed) all = all
  knows at s t (gives job later waits is left turned) all = zip_set_both Known s.over s.jobs at (g.ended later) later all (λ h. h)

  pub known : (number : ℕ → ℕ) (start : PlayState J) (k : ℕ) (t : PlayState J) → AllZip Known start.over start.jobs → Reached g number start k t → AllZip Known t.over t.jobs
  known number start _ _ none begins = none
  known number start _ _ none (goes_on k s t reached chance) = knows (number k) s t chance (known number start k s none reached)

  finish : (xs ys : List J) (over : List Bool) → AllZip Led xs ys → AllZip Known over ys → AllPass (λ ended. ended) over → AllZip (Finished g) xs ys
  finish [] [] over all known ended = tt
  finish [] (y ∷ ys) over all known ended = absurd all
  finish (x ∷ xs) [] over all known ended = absurd all
  finish (x ∷ xs) (y ∷ ys) [] all known ended = absurd known
  finish (x ∷ xs) (y ∷ ys) (o ∷ over) all known ended = (
    record { leads = all.0.0; kept = all.0.1; ended = known.0 (ended 0 true (omega arith)) },
    finish xs ys over all.1 known.1 (λ k d low. ended (suc k) d (omega arith)),
  )

  -- what became of jobs that began to be played by this order
  pub finished : ((job : J) → g.leads_to job job) → ((a b c : J) → g.leads_to a b → g.leads_to b c → g.leads_to a c)
      → (order : List ℕ) (jobs : List J) (most : ℕ) (start t : PlayState J) → start ≡ begin jobs most → Ends g (whose order (length start.jobs)) start IsOver t → AllZip (Finished g) jobs t.jobs
  finished same on order jobs most start t is ends =
      let P : PlayState J → Type 0 = λ s. Ends g (whose order (length s.jobs)) s IsOver t in
      let from : P (begin jobs most) = subst P is ends in
      let number = whose order (length jobs) in
      finish jobs t.jobs t.over (led same on number (begin jobs most) from.chances t from.reached) (known number (begin jobs most) from.chances t (none_known jobs) from.reached) from.ended

  -- however it ended, they were led on
  led_to : ((job : J) → g.leads_to job job) → ((a b c : J) → g.leads_to a b → g.leads_to b c → g.leads_to a c)
      → (number : ℕ → ℕ) (start t : PlayState J) (b : Bool) → MatchBool b (Ends g number start IsOver t) (Ends g number start IsSpent t) → AllZip Led start.jobs t.jobs
  led_to same on number start t true ends = led same on number start ends.chances t ends.reached
  led_to same on number start t false ends = led same on number start ends.chances t ends.reached

  -- the sum of turns rose by what the turns of each job rose
  pub rises_total : (xs ys : List J) → AllZip Led xs ys → rises g.turns xs ys + total g.turns xs ≡ total g.turns ys
  rises_total [] [] all = refl
  rises_total [] (y ∷ ys) all = absurd all
  rises_total (x ∷ xs) [] all = absurd all
  rises_total (x ∷ xs) (y ∷ ys) all = let kept = all.0.1 in let rest = rises_total xs ys all.1 in omega arith

  pub rose : ((job : J) → g.leads_to job job) → ((a b c : J) → g.leads_to a b → g.leads_to b c → g.leads_to a c)
      → (order : List ℕ) (jobs : List J) (most : ℕ) (start t : PlayState J) (b : Bool) → start ≡ begin jobs most
      → MatchBool b (Ends g (whose order (length start.jobs)) start IsOver t) (Ends g (whose order (length start.jobs)) start IsSpent t)
      → rises g.turns jobs t.jobs + total g.turns jobs ≡ total g.turns t.jobs
  rose same on order jobs most start t b is ends =
      let P : PlayState J → Type 0 = λ s. MatchBool b (Ends g (whose order (length s.jobs)) s IsOver t) (Ends g (whose order (length s.jobs)) s IsSpent t) in
      rises_total jobs t.jobs (led_to same on (whose order (length jobs)) (begin jobs most) t b (subst P is ends))

  -- a round after whole rounds
  pub rounds_on : (order : List ℕ) (start s t : PlayState J) (rounds : ℕ) → Reached g (whose order (length start.jobs)) start (length order + rounds * length start.jobs) s
      → ((k : ℕ) → ((at : ℕ) → at < length s.jobs → whose order (length start.jobs) (k + at) ≡ at) → Reached g (whose order (length start.jobs)) start k s
      → Reached g (whose order (length start.jobs)) start (k + length s.jobs) t)
      → Reached g (whose order (length start.jobs)) start (length order + (rounds + 1) * length start.jobs) t
  rounds_on order start s t rounds reached round =
      let number = whose order (length start.jobs) in let k = length order + rounds * length start.jobs in
      let long : length s.jobs ≡ length start.jobs = long_on number start k s reached in
      let on : Reached g number start (k + length s.jobs) t = round k (λ at low. whose_round order (length start.jobs) rounds at (omega arith)) reached in
      let count : k + length s.jobs ≡ length order + (rounds + 1) * length start.jobs = omega arith in
      subst (λ n. Reached g number start n t) count on

  -- a whole number of rounds after the order the next one begins
  pub is_round : (order : List ℕ) (start s : PlayState J) (rounds : ℕ) → Reached g (whose order (length start.jobs)) start (length order + rounds * length start.jobs) s
      → (at : ℕ) → at < length s.jobs → whose order (length start.jobs) ((length order + rounds * length start.jobs) + at) ≡ at
  is_round order start s rounds reached at low =
      let long = long_on (whose order (length start.jobs)) start (length order + rounds * length start.jobs) s reached in
      whose_round order (length start.jobs) rounds at (omega arith)

  pub played : (order seen : List ℕ) (jobs : List J) (most : ℕ) (IsEnd : PlayState J → Type 0) (start t : PlayState J) → seen ≡ order → start ≡ begin jobs most
      → Ends g (whose seen (length start.jobs)) start IsEnd t → Played g order most IsEnd jobs t.jobs
  played order seen jobs most IsEnd start t same is ends =
      let ends : Ends g (whose order (length start.jobs)) start IsEnd t = subst (λ o. Ends g (whose o (length start.jobs)) start IsEnd t) same ends in
      let ends : Ends g (whose order (length jobs)) (begin jobs most) IsEnd t = subst (λ (s : PlayState J). Ends g (whose order (length s.jobs)) s IsEnd t) is ends in
      record { last = t; ends = ends; same = refl }

  pub rises_finished : (xs ys : List J) → AllZip (Finished g) xs ys → rises g.turns xs ys + total g.turns xs ≡ total g.turns ys
  rises_finished [] [] all = refl
  rises_finished [] (y ∷ ys) all = absurd all
  rises_finished (x ∷ xs) [] all = absurd all
  rises_finished (x ∷ xs) (y ∷ ys) all = let kept = all.0.kept in let rest = rises_finished xs ys all.1 in omega arith

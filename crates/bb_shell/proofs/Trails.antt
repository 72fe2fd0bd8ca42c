-- The trail of the saves of rounds, and what the copies stand for at their end.
use Rattle.std.proofs.Common.{◌≡◌, ℕ, suc, ◌+◌, ◌≤◌, Bool, true, false, List, [], ◌∷◌, ◌++◌, length, map, Option, Some, None, ap, append_assoc, arith, inl, inr, refl, sym, subst, ◌∙◌}
use Rattle.std.proofs.lemmas.List.{append-nil, length-take}
use Rattle.std.specs.Option.{ForSome, IfNone, option_map}
use Rattle.std.specs.Prelude.{count_by, is_some}
use Rattle.bb_copies.specs.Trail.{IsSince, IsTrail, Milestone, Stage, StandsAtOne, milestone_of, next_moment, stages_in, trail_of}
use Rattle.bb_copies.proofs.History.{longer}
use Rattle.bb_copies.proofs.Runs.{later_refl}
use Rattle.bb_copies.proofs.Trails.{begins_at}
use Rattle.bb_flash.specs.declared.plan.Plan.{Plan}
use Rattle.bb_flash.specs.Counted.{Counts, EachCounted, IsFair}
use Rattle.bb_flash.specs.Cuts.{IsContinued, IsLater}
use Rattle.bb_flash.proofs.Moments.{later_joined}
use Rattle.bb_flash.specs.Device.{Change, Device, Told, changes, content, moment}
use Rattle.bb_flash.specs.Image.{Image}
use Rattle.bb_state.specs.Keyed.{Keyed}
use Rattle.bb_state.specs.State.{IsStored}
use Rattle.bb_shell.proofs.Reached.{Luck, Passed, Reaches, StopsRefused, begun_counted, begun_saving, idle_content, idle_saving, idle_settled, is_made, longer_stands, made_cons, made_holds, made_stages, none_alone, reached_by, refused_stages, rounds_later, rounds_reached, settled_more, stage, told_image}
use Rattle.bb_shell.proofs.Joins.{some_is}
use Rattle.bb_shell.proofs.LastRounds.{kept_cons}
use Rattle.bb_shell.proofs.Starts.{round_later, start_changes, start_later, unrefused}
use Rattle.bb_shell.specs.Boot.{Round, plan_at}
use Rattle.bb_shell.specs.Running.{AreRun, IsRoundRun, is_refused_save, same_as_kept}
use Rattle.bb_shell.specs.Stages.{AreAnswered, EachSettled, HasTrail, IsCounted, IsFairRun, IsSettled, KeepsATrail, KeepsAtExit, LeadsTo, StandsIn, first_area, kept_after, saving_rounds}

some_of : {T : Type 0} → (o : Option T) → is_some o ≡ true → (x : T) × (o ≡ Some x)
some_of None e = absurd cc
some_of (Some x) e = (x, refl)

told_changes : (device : Device) (told : Told) → device.told ≡ Some told → changes device ≡ Some told.changes
told_changes device told e = ap (option_map (λ (t : Told). t.changes)) e

pub in_order : (first last : Told) → IsContinued first last → moment first ≤ moment last
in_order first last continued =
    let e = ap length continued.changes in omega (arith, length-take (moment first) last.changes)

pub fair_from : (L : Change → Image → Type 0) (told : Told) (since later : ℕ) → since ≤ later →
    IsFair L told since (moment told) → IsFair L told later (moment told)
fair_from L told since later order fair = λ call change from before made lucky.
    fair call change (omega arith) before made lucky

module _ (keyed : Keyed) where
  abbrev First : List ℕ
  First = first_area

  abbrev Page : ℕ
  Page = keyed.layout.geometry.page

  -- ---- a trail that goes on after its first milestone

  module _ (last : Told) where
    abbrev Since : ℕ → List (Option (List ℕ)) → Type 0
    Since = IsCounted keyed last

    -- each image that counts since a moment stands for one of these stages
    abbrev pub StandSince : ℕ → List Stage → Type 0
    StandSince when stages =
        (image : Image) → Counts (Luck keyed) Page last when image → StandsAtOne First (Passed keyed image) stages

    pub in_front : (h : List (List ℕ)) (a when : ℕ) (later : List Milestone) →
        when ≤ next_moment (moment last) later →
        StandSince when (stages_in (milestone_of h a when ∷ later)) → IsTrail Since (moment last) First later →
        IsTrail Since (moment last) First (milestone_of h a when ∷ later)
    in_front h a when later order stand trail =
        let stages = stages_in (milestone_of h a when ∷ later) in
        let here : IsSince Since (next_moment (moment last) later) First stages when = record {
          order = order;
          images = λ passed counted. subst (λ p. StandsAtOne First p stages) (sym counted.passes) (stand counted.image counted.counts);
        } in
        (here, trail)

    -- what stands for a list stands for it with a table after it too
    pub longer_one : (h : List (List ℕ)) (a : ℕ) (table : List ℕ) (rest : List Stage) (image : Image) →
        StandsAtOne First (Passed keyed image) (stage h a ∷ stage (h ++ table ∷ []) a ∷ rest) →
        StandsAtOne First (Passed keyed image) (stage (h ++ table ∷ []) a ∷ rest)
    longer_one h a table rest image (inl here) =
        inl (record { marks = here.marks; stands = longer First (Passed keyed image) h (table ∷ []) a here.marks here.stands })
    longer_one h a table rest image (inr later) = later

    abbrev pub TrailBy : Device → Device → Told → List (List ℕ) → ℕ → List Round → Type 0
    TrailBy from to first h a saving =
        HasTrail keyed from to first last h a (map (λ (round : Round). round.table) saving) (count_by is_made saving)

    none_trail : (from to : Device) (first : Told) (h : List (List ℕ)) (a : ℕ) → IsLater from to → moment first ≤ moment last →
        StandSince (moment first) (reached_by h a []) → TrailBy from to first h a []
    unfolding AreAnswered trail_of
    none_trail from to first h a later past stand = record {
      answered = [];
      known = later;
      stages = refl;
      trail = in_front h a (moment first) [] past stand tt;
    }

    refused_trail : (from to : Device) (first : Told) (h : List (List ℕ)) (a : ℕ) (round : Round) → IsLater from to →
        is_refused_save round.outcome ≡ true → moment first ≤ moment last →
        StandSince (moment first) (reached_by h a (round ∷ [])) → TrailBy from to first h a (round ∷ [])
    unfolding AreAnswered trail_of
    refused_trail from to first h a round later refused past stand =
        let longer_list = h ++ round.table ∷ [] in
        let stages = refused_stages h a round refused in
        let stands : StandSince (moment first) (stage h a ∷ stage longer_list a ∷ []) =
        λ image counts. subst (StandsAtOne First (Passed keyed image)) stages (stand image counts) in
        record {
          answered = [];
          known = later;
          stages = sym stages;
          trail =
              in_front h a (moment first) (milestone_of longer_list a (moment first) ∷ []) (omega arith) stands
              (in_front longer_list a (moment first) [] past (λ image counts. longer_one h a round.table [] image (stands image counts)) tt);
        }

    -- a save that answered Ok, and a trail after it
    made_trail : (from done to : Device) (used : Option ℕ) (first mid : Told) (h : List (List ℕ)) (a : ℕ) (round : Round) (saving : List Round) →
        IsStored keyed round.table used from done → ForSome done.told (λ told. moment told ≡ moment mid) →
        is_refused_save round.outcome ≡ false → moment first ≤ moment mid →
        StandSince (moment first) (reached_by h a (round ∷ saving)) →
        TrailBy done to mid (h ++ round.table ∷ []) (a + 1) saving → TrailBy from to first h a (round ∷ saving)
    unfolding AreAnswered trail_of
    made_trail from done to used first mid h a round saving stored at made order stand rest =
        let longer_list = h ++ round.table ∷ [] in
        let behind : List Milestone = trail_of longer_list (a + 1) (moment mid) (map (λ (r : Round). r.table) saving) rest.answered in
        let stages = made_stages h a round saving made in
        let whole : stages_in (milestone_of h a (moment first) ∷ milestone_of longer_list a (moment first) ∷ behind) ≡ reached_by h a (round ∷ saving) =
        ap (λ l. stage h a ∷ stage longer_list a ∷ l) rest.stages ∙ sym stages in
        let stands : StandSince (moment first) (stages_in (milestone_of h a (moment first) ∷ milestone_of longer_list a (moment first) ∷ behind)) =
        λ image counts. subst (StandsAtOne First (Passed keyed image)) (sym whole) (stand image counts) in
        let next : moment first ≤ next_moment (moment last) behind =
        subst (λ n. moment first ≤ n)
        (sym (begins_at (moment last) longer_list (a + 1) (moment mid) (map (λ (r : Round). r.table) saving) rest.answered)) order in
        record {
          answered = moment mid ∷ rest.answered;
          known = record {
            begun = from;
            done = done;
            used = used;
            later = later_refl from;
            stored = stored;
            at = at;
            rest = rest.known;
          };
          stages = whole;
          trail =
              in_front h a (moment first) (milestone_of longer_list a (moment first) ∷ behind) (omega arith) stands
              (in_front longer_list a (moment first) behind next
              (λ image counts. longer_one h a round.table (stages_in behind) image (stands image counts)) rest.trail);
        }

  -- what was answered from a device on was so from an earlier one on
  pub answered_from : (one two end : Device) (areas : List (List ℕ)) (answered : List ℕ) → IsLater one two →
      AreAnswered keyed two end areas answered → AreAnswered keyed one end areas answered
  unfolding AreAnswered
  answered_from one two end areas [] early known = later_joined one two end early known
  answered_from one two end [] (when ∷ answered) early known = absurd known
  answered_from one two end (area ∷ areas) (when ∷ answered) early known = record {
    begun = known.begun;
    done = known.done;
    used = known.used;
    later = later_joined one two known.begun early known.later;
    stored = known.stored;
    at = known.at;
    rest = known.rest;
  }

  -- ---- the rounds

  abbrev pub Trails : Option (List ℕ) → Option ℕ → List Round → Device → Device → Type 0
  Trails kept used saving from to =
      EachSettled keyed kept used from to (λ first last h a. TrailBy last from to first h a saving)

  pub stand_since : (kept : Option (List ℕ)) (used : Option ℕ) (saving : List Round) (from to : Device) → to.geometry ≡ keyed.layout.geometry →
      EachCounted (Luck keyed) (Reaches keyed kept used saving) from to →
      EachSettled keyed kept used from to (λ first last h a. StandSince last (moment first) (reached_by h a saving))
  stand_since kept used saving from to geometry counted = λ first e last f h a settled image counts.
      counted.each first e last f image (subst (λ g. Counts (Luck keyed) g.page last (moment first) image) (sym geometry) counts) h a settled

  told_order : (from to : Device) (first last : Told) → IsLater from to → from.told ≡ Some first → to.told ≡ Some last → moment first ≤ moment last
  told_order from to first last later e f = in_order first last (later.continued first e last f)

  module _ (plans : List (Option Plan)) (kept : Option (List ℕ)) (used copy : Option ℕ) (round : Round) (later : List Round) (from device to : Device)
      (geometry : from.geometry ≡ keyed.layout.geometry) (run : IsRoundRun keyed plans kept used copy round from device)
      (early : IsLater from device) (late : IsLater device to)
      (stops : StopsRefused (round ∷ later)) (whole : IsLater from to)
      (counted : EachCounted (Luck keyed) (Reaches keyed kept used (saving_rounds kept (round ∷ later))) from to)
      (rest : Trails (Some round.table) copy (saving_rounds (Some round.table) later) device to) where
    stand : EachSettled keyed kept used from to
        (λ first last h a. StandSince last (moment first) (reached_by h a (saving_rounds kept (round ∷ later))))
    stand = stand_since kept used (saving_rounds kept (round ∷ later)) from to (whole.geometry ∙ geometry) counted

    module _ (first last : Told) (here : from.told ≡ Some first) (there : to.told ≡ Some last) (h : List (List ℕ)) (a : ℕ)
        (settled : IsSettled keyed kept used first.image h a) where
      past : moment first ≤ moment last
      past = told_order from to first last whole here there

      next : (mid : Told) × (device.told ≡ Some mid)
      next = some_of device.told (early.told ∙ ap is_some here)

      same_image : same_as_kept kept round.table ≡ true → next.0.image ≡ first.image
      same_image e =
          some_is next.0.image first.image
          (sym (told_image device next.0 next.1)
          ∙ idle_content keyed plans kept used copy round from device geometry run e ∙ told_image from first here)

      stand_here : StandSince last (moment first) (reached_by h a (saving_rounds kept (round ∷ later)))
      stand_here = stand first here last there h a settled

      -- the round's start, if it made one, is no change
      same_moment : (done : Device) (told : Told) → done.told ≡ Some told → changes device ≡ changes done → moment told ≡ moment next.0
      same_moment done told is same =
          ap length
          (some_is told.changes next.0.changes (sym (told_changes done told is) ∙ sym same ∙ told_changes device next.0 next.1))

      tried_changes : changes device ≡ changes run.middle
      tried_changes = start_changes (plan_at plans round.target) round.outcome run.middle device run.tried

      idle_trail : same_as_kept kept round.table ≡ true → TrailBy last from to first h a (saving_rounds kept (round ∷ later))
      idle_trail e =
          let behind = rest next.0 next.1 last there h a
          (idle_settled keyed plans kept used copy round from device geometry run e first.image next.0.image h a (same_image e) settled) in
          let still : changes device ≡ changes from = tried_changes ∙ ap (λ d. changes d) (run.saved.idle e).device in
          subst (TrailBy last from to first h a) (sym (idle_saving kept round later e))
          (record {
            answered = behind.answered;
            known = answered_from from device to (map (λ (r : Round). r.table) (saving_rounds (Some round.table) later)) behind.answered early behind.known;
            stages = by_moment behind (sym (same_moment from first here still));
            trail = trail_at behind (sym (same_moment from first here still));
          })
        where
          by_moment : (behind : TrailBy last device to next.0 h a (saving_rounds (Some round.table) later)) → moment next.0 ≡ moment first →
              stages_in (trail_of h a (moment first) (map (λ (r : Round). r.table) (saving_rounds (Some round.table) later)) behind.answered) ≡ reached_by h a (saving_rounds (Some round.table) later)
          by_moment behind same =
              subst (λ n. stages_in (trail_of h a n (map (λ (r : Round). r.table) (saving_rounds (Some round.table) later)) behind.answered) ≡ reached_by h a (saving_rounds (Some round.table) later)) same
              behind.stages

          trail_at : (behind : TrailBy last device to next.0 h a (saving_rounds (Some round.table) later)) → moment next.0 ≡ moment first →
              IsTrail (IsCounted keyed last) (moment last) First (trail_of h a (moment first) (map (λ (r : Round). r.table) (saving_rounds (Some round.table) later)) behind.answered)
          trail_at behind same =
              subst (λ n. IsTrail (IsCounted keyed last) (moment last) First (trail_of h a n (map (λ (r : Round). r.table) (saving_rounds (Some round.table) later)) behind.answered)) same behind.trail

      refused_one : same_as_kept kept round.table ≡ false → is_refused_save round.outcome ≡ true →
          TrailBy last from to first h a (saving_rounds kept (round ∷ later))
      refused_one e refused =
          let alone : saving_rounds kept (round ∷ later) ≡ round ∷ [] =
          begun_saving kept round later e ∙ ap (λ l. round ∷ saving_rounds (Some round.table) l) (stops.0 refused) in
          subst (TrailBy last from to first h a) (sym alone)
          (refused_trail last from to first h a round whole refused past
          (subst (λ rs. StandSince last (moment first) (reached_by h a rs)) alone stand_here))

      made_one : same_as_kept kept round.table ≡ false → is_refused_save round.outcome ≡ false →
          TrailBy last from to first h a (saving_rounds kept (round ∷ later))
      made_one e done =
          let begun = begun_saving kept round later e in
          let holds = made_holds keyed plans kept used copy round from device geometry run e done next.0.image (told_image device next.0 next.1) in
          let stored : IsStored keyed round.table copy from run.middle =
          subst (λ refusal. IfNone refusal (IsStored keyed round.table copy from run.middle)) (unrefused round.outcome done) (run.saved.begun e).stored in
          let behind = rest next.0 next.1 last there (h ++ round.table ∷ []) (a + 1)
          (settled_more keyed kept used round.table copy first.image next.0.image h a settled holds) in
          let started = start_later (plan_at plans round.target) round.outcome run.middle device run.tried in
          let tables = map (λ (r : Round). r.table) (saving_rounds (Some round.table) later) in
          let here_on : TrailBy last run.middle to next.0 (h ++ round.table ∷ []) (a + 1) (saving_rounds (Some round.table) later) = record {
            answered = behind.answered;
            known = answered_from run.middle device to tables behind.answered started behind.known;
            stages = behind.stages;
            trail = behind.trail;
          } in
          subst (TrailBy last from to first h a) (sym begun)
          (made_trail last from run.middle to copy first next.0 h a round (saving_rounds (Some round.table) later) stored
          (λ told is. same_moment run.middle told is tried_changes) done
          (told_order from device first next.0 early here next.1)
          (subst (λ rs. StandSince last (moment first) (reached_by h a rs)) begun stand_here) here_on)

      one_trail : (same : Bool) → same_as_kept kept round.table ≡ same → (refused : Bool) → is_refused_save round.outcome ≡ refused →
          TrailBy last from to first h a (saving_rounds kept (round ∷ later))
      one_trail true e refused done = idle_trail e
      one_trail false e true refused = refused_one e refused
      one_trail false e false done = made_one e done

    pub round_trails : Trails kept used (saving_rounds kept (round ∷ later)) from to
    round_trails first here last there h a settled =
        one_trail first last here there h a settled (same_as_kept kept round.table) refl (is_refused_save round.outcome) refl

  pub rounds_trails : (plans : List (Option Plan)) (rounds : List Round) (kept : Option (List ℕ)) (used now : Option ℕ) (from to : Device) →
      from.geometry ≡ keyed.layout.geometry → StopsRefused rounds → AreRun keyed plans kept used now rounds from to →
      Trails kept used (saving_rounds kept rounds) from to
  unfolding AreRun
  rounds_trails plans [] kept used now from to geometry stops run = λ first here last there h a settled.
      let whole = rounds_later keyed plans [] kept used now from to run in
      none_trail last from to first h a whole (told_order from to first last whole here there)
      (stand_since kept used [] from to (whole.geometry ∙ geometry)
      (rounds_reached keyed plans [] kept used now from to geometry stops run) first here last there h a settled)
  rounds_trails plans (round ∷ later) kept used now from to geometry stops run =
      let early = round_later keyed plans kept used run.copy round from run.device run.before in
      let late = rounds_later keyed plans later (Some round.table) run.copy now run.device to run.behind in
      round_trails plans kept used run.copy round later from run.device to geometry run.before early late stops
      (rounds_later keyed plans (round ∷ later) kept used now from to run)
      (rounds_reached keyed plans (round ∷ later) kept used now from to geometry stops run)
      (rounds_trails plans later (Some round.table) run.copy now run.device to (early.geometry ∙ geometry) stops.1 run.behind)

  -- ---- the end

  abbrev pub LeadsBy : Option (List ℕ) → Option ℕ → Told → Told → List (List ℕ) → ℕ → List Round → Type 0
  LeadsBy kept now first last h a saving =
      LeadsTo keyed kept now first last h a (map (λ (round : Round). round.table) saving) (count_by is_made saving)

  none_leads : (kept : Option (List ℕ)) (used now : Option ℕ) (first last : Told) (h : List (List ℕ)) (a : ℕ) → now ≡ used → last.image ≡ first.image →
      IsSettled keyed kept used first.image h a → LeadsBy kept now first last h a []
  none_leads kept used now first last h a copy same settled =
      let acked : a + 0 ≡ a = omega arith in
      let here : IsSettled keyed kept now last.image (h ++ []) (a + 0) =
      subst (λ l. IsSettled keyed kept now last.image l (a + 0)) (sym (append-nil h))
      (subst (λ n. IsSettled keyed kept now last.image h n) (sym acked)
      (subst (λ i. IsSettled keyed kept now i h a) (sym same) (subst (λ u. IsSettled keyed kept u first.image h a) (sym copy) settled))) in
      record { stands = λ fair. here.stands; settled = λ all. here }

  abbrev pub Leads :
      Option (List ℕ) → Option (List ℕ) → Option ℕ → Option ℕ → List Round → Device → Device → Type 0
  Leads end kept used now saving from to =
      EachSettled keyed kept used from to (λ first last h a. LeadsBy end now first last h a saving)

  module _ (plans : List (Option Plan)) (kept : Option (List ℕ)) (used copy now : Option ℕ) (round : Round) (later : List Round) (from device to : Device)
      (geometry : from.geometry ≡ keyed.layout.geometry) (run : IsRoundRun keyed plans kept used copy round from device)
      (early : IsLater from device) (late : IsLater device to)
      (stops : StopsRefused (round ∷ later)) (alone : is_refused_save round.outcome ≡ true → later ≡ [] → to ≡ device)
      (rest : Leads (kept_after (Some round.table) later) (Some round.table) copy now (saving_rounds (Some round.table) later) device to) where
    abbrev end : Option (List ℕ)
    end = kept_after (Some round.table) later

    module _ (first last : Told) (here : from.told ≡ Some first) (there : to.told ≡ Some last) (h : List (List ℕ)) (a : ℕ)
        (settled : IsSettled keyed kept used first.image h a) where
      mid : (middle : Told) × (device.told ≡ Some middle)
      mid = some_of device.told (early.told ∙ ap is_some here)

      order : moment first ≤ moment mid.0
      order = told_order from device first mid.0 early here mid.1

      fair_behind : IsFairRun keyed first last → IsFairRun keyed mid.0 last
      fair_behind = fair_from (Luck keyed) last (moment first) (moment mid.0) order

      idle_leads : same_as_kept kept round.table ≡ true → LeadsBy end now first last h a (saving_rounds kept (round ∷ later))
      idle_leads e =
          let image : mid.0.image ≡ first.image =
          some_is mid.0.image first.image
          (sym (told_image device mid.0 mid.1)
          ∙ idle_content keyed plans kept used copy round from device geometry run e ∙ told_image from first here) in
          let behind = rest mid.0 mid.1 last there h a
          (idle_settled keyed plans kept used copy round from device geometry run e first.image mid.0.image h a image settled) in
          subst (LeadsBy end now first last h a) (sym (idle_saving kept round later e))
          (record { stands = λ fair. behind.stands (fair_behind fair); settled = behind.settled })

      refused_leads : same_as_kept kept round.table ≡ false → is_refused_save round.outcome ≡ true →
          LeadsBy end now first last h a (saving_rounds kept (round ∷ later))
      refused_leads e refused =
          let none : later ≡ [] = stops.0 refused in
          let only : saving_rounds kept (round ∷ later) ≡ round ∷ [] =
          begun_saving kept round later e ∙ ap (λ l. round ∷ saving_rounds (Some round.table) l) none in
          let at_end : to.told ≡ device.told = ap (λ d. d.told) (alone refused none) in
          let made = made_cons round [] true refused in
          let acked : a + count_by is_made (round ∷ []) ≡ a = omega (arith, made) in
          subst (LeadsBy end now first last h a) (sym only)
          (record {
            stands = λ fair.
                subst (λ n. StandsIn keyed last.image (h ++ round.table ∷ []) n) (sym acked)
                (longer_stands keyed kept used round.table first.image last.image h a settled
                ((begun_counted keyed plans kept used copy round from device geometry run e).each first here last (sym at_end ∙ there) last.image
                (inl (record { held = refl; fair = fair }))));
            settled = λ all. absurd (let no : count_by is_made (round ∷ []) ≡ 1 = all in omega (arith, made, no));
          })

      made_leads : same_as_kept kept round.table ≡ false → is_refused_save round.outcome ≡ false →
          LeadsBy end now first last h a (saving_rounds kept (round ∷ later))
      made_leads e done =
          let saving = saving_rounds (Some round.table) later in
          let tables = map (λ (r : Round). r.table) saving in
          let holds = made_holds keyed plans kept used copy round from device geometry run e done mid.0.image (told_image device mid.0 mid.1) in
          let behind = rest mid.0 mid.1 last there (h ++ round.table ∷ []) (a + 1)
          (settled_more keyed kept used round.table copy first.image mid.0.image h a settled holds) in
          let made = made_cons round saving false done in
          let acked : a + 1 + count_by is_made saving ≡ a + count_by is_made (round ∷ saving) = omega (arith, made) in
          let list : (h ++ round.table ∷ []) ++ tables ≡ h ++ (round.table ∷ tables) = append_assoc h (round.table ∷ []) tables in
          subst (LeadsBy end now first last h a) (sym (begun_saving kept round later e))
          (record {
            stands = λ fair.
                subst (λ n. StandsIn keyed last.image (h ++ (round.table ∷ tables)) n) acked
                (subst (λ l. StandsIn keyed last.image l (a + 1 + count_by is_made saving)) list (behind.stands (fair_behind fair)));
            settled = λ all.
                let fewer : count_by is_made saving ≡ length tables =
                let whole : count_by is_made (round ∷ saving) ≡ suc (length tables) = all in omega (arith, made, whole) in
                subst (λ n. IsSettled keyed end now last.image (h ++ (round.table ∷ tables)) n) acked
                (subst (λ l. IsSettled keyed end now last.image l (a + 1 + count_by is_made saving)) list (behind.settled fewer));
          })

      one_leads : (same : Bool) → same_as_kept kept round.table ≡ same → (refused : Bool) → is_refused_save round.outcome ≡ refused →
          LeadsBy end now first last h a (saving_rounds kept (round ∷ later))
      one_leads true e refused done = idle_leads e
      one_leads false e true refused = refused_leads e refused
      one_leads false e false done = made_leads e done

    pub round_leads : Leads (kept_after kept (round ∷ later)) kept used now (saving_rounds kept (round ∷ later)) from to
    round_leads = λ first here last there h a settled.
        subst (λ k. LeadsBy k now first last h a (saving_rounds kept (round ∷ later))) (sym (kept_cons kept round later))
        (one_leads first last here there h a settled (same_as_kept kept round.table) refl (is_refused_save round.outcome) refl)

  pub rounds_leads : (plans : List (Option Plan)) (rounds : List Round) (kept : Option (List ℕ)) (used now : Option ℕ) (from to : Device) →
      from.geometry ≡ keyed.layout.geometry → StopsRefused rounds → AreRun keyed plans kept used now rounds from to →
      Leads (kept_after kept rounds) kept used now (saving_rounds kept rounds) from to
  unfolding AreRun
  rounds_leads plans [] kept used now from to geometry stops run = λ first here last there h a settled.
      let same : last.image ≡ first.image =
      some_is last.image first.image (sym (told_image to last there) ∙ ap (λ d. content d) run.1 ∙ told_image from first here) in
      none_leads kept used now first last h a run.0 same settled
  rounds_leads plans (round ∷ later) kept used now from to geometry stops run =
      let early = round_later keyed plans kept used run.copy round from run.device run.before in
      let late = rounds_later keyed plans later (Some round.table) run.copy now run.device to run.behind in
      round_leads plans kept used run.copy now round later from run.device to geometry run.before early late stops
      (λ refused. none_alone keyed plans later (Some round.table) run.copy now run.device to run.behind)
      (rounds_leads plans later (Some round.table) run.copy now run.device to (early.geometry ∙ geometry) stops.1 run.behind)

-- ---- the words of the contract

pub rounds_trail : (keyed : Keyed) (plans : List (Option Plan)) (rounds : List Round) (kept : Option (List ℕ)) (used now : Option ℕ) (from to : Device) →
    from.geometry ≡ keyed.layout.geometry → StopsRefused rounds → AreRun keyed plans kept used now rounds from to →
    KeepsATrail keyed kept used rounds from to
rounds_trail keyed plans rounds kept used now from to geometry stops run = rounds_trails keyed plans rounds kept used now from to geometry stops run

pub rounds_exit : (keyed : Keyed) (plans : List (Option Plan)) (rounds : List Round) (kept : Option (List ℕ)) (used now : Option ℕ) (from to : Device) →
    from.geometry ≡ keyed.layout.geometry → StopsRefused rounds → AreRun keyed plans kept used now rounds from to →
    KeepsAtExit keyed kept used now rounds from to
rounds_exit keyed plans rounds kept used now from to geometry stops run = rounds_leads keyed plans rounds kept used now from to geometry stops run

-- A control word that is delivered is flown.
use Rattle.std.proofs.Common.{◌≡◌, ◌⊎◌, ℕ, ◌<◌, ◌^◌, nat_lt, Bool, true, false, if◌then◌else◌, List, [], ◌∷◌, Option, Some, None, filter, refl, sym, ◌∙◌, ap, subst, arith, inl, inr}
use Rattle.std.proofs.lemmas.Bool.{cases_Bool, cases_lt, lt-ltb, le-ltb}
use Rattle.exb_model.specs.ETags.{Tag, read_etag, stripped}
use Rattle.exb_model.specs.Tree.{Shape, IsTree, on, trunk, is_extender}
use Rattle.exb_model.specs.Setup.{Limits}
use Rattle.exb_model.specs.History.{Basis, History, ◌then◌}
use Rattle.exb_frame.specs.TagValues.{TagRoundTrip}
use Rattle.exb_lldp.specs.Announcements.{announced as announcement_in}
use Rattle.exb_model.specs.Frames.{IsBytes}
use Rattle.exb_extender.specs.declared.sends.Side.TheVariants as side
use Rattle.exb_extender.specs.Forwarding.{has_etag_type, is_bare_control, channel_tag, emitted}
use Rattle.exb_extender.specs.Machine.{ExtenderState}
use Rattle.exb_link.specs.declared.link_frame.LinkFrame.{LinkFrame}
use Rattle.exb_link.specs.LinkFrames.{is_control}
use Rattle.exb_control_spec.specs.Runs.PlannedChanges.{IsSetting}
use Rattle.exb_world_spec.specs.Worlds.{World, Way, Up, Down, Left, with_far}
use Rattle.exb_model.specs.Tables.{at}
use Rattle.exb_world_spec.specs.Effects.{Effect}
use Rattle.exb_world_spec.specs.ExtenderSteps.{takes_from_above}
use Rattle.exb_world_spec.specs.DataFrames.{holder_by, hung_at, hears_from, takes_control, bridge_takes}
use Rattle.exb_world_spec.specs.ControlFrames.{hears}
use Rattle.exb_world_spec.specs.Steps.{words_on, with_words, takes_up, takes_any, control_at, rest_of, stepped}
use Rattle.exb_world_spec.specs.Runs.Sessions.{IsOnWay, IsFrameOn, Hands, Each, WordFits, AskedOf, StoredAt, AreLow}
use Rattle.exb_world_spec.specs.Runs.Simulation.{IsSound}
use Rattle.exb_world_spec.proofs.Frames.{bare_is, read_typed, tag_fits}
use Rattle.exb_world_spec.proofs.ControlFrames.{seen_as}
use Rattle.exb_world_spec.proofs.Hops.{control_goes_on}
use Rattle.exb_world_spec.proofs.ExtenderSteps.{above_reacts}
use Rattle.exb_world_spec.proofs.Steps.{with_sound, kept}
use Rattle.exb_world_spec.proofs.Trunks.{trunk_low_on}
use Rattle.exb_world_spec.proofs.LinkFrames.{at_same, at_itself, each_filter, each_get}
use Rattle.exb_flight.specs.Items.{Key, leads}
use Rattle.exb_flight.specs.Flight.{Flight}
use Rattle.exb_flight.specs.Tokens.{Thins, addressee, content, holder_in, key_of_frame, key_for, key_on, items_on}
use Rattle.exb_flight.specs.SimulationRelation.{Shows}
use Rattle.exb_flight.specs.Simulation.{Flown, ControlsFly}
use Rattle.exb_flight.proofs.Items.{items_lead, thins_leads}
use Rattle.exb_flight.proofs.SimulatedTicks.{fewer_shows}
use Rattle.exb_flight.proofs.TokenKeys.{on_way}
use Rattle.exb_flight.proofs.PushedTokens.{pushed_none}
use Rattle.exb_flight.proofs.SimulatedControl.{IsGoodFor, good_for}
use Rattle.exb_flight.proofs.SimulatedExecution.{bare_flown}
use Rattle.exb_flight.proofs.SimulatedAnswers.{hears_flown}
use Rattle.exb_flight.proofs.ForwardedControlFrames.{up_flown, hops_pushed}

-- the members that pass a test pass it
filtered : (test : LinkFrame → Bool) (ws : List LinkFrame) → Each (λ (x : LinkFrame). test x ≡ true) (filter test ws)
filtered test [] = tt
filtered test (x ∷ xs) = elim (cases_Bool (test x)) [ inl e ↦ rw e (e, filtered test xs) | inr e ↦ rw e (filtered test xs) ]

found_control : (ws : List LinkFrame) (k : ℕ) (x : LinkFrame) → control_at ws k ≡ Some x → is_control x ≡ true
found_control ws k x e = each_get (λ y. is_control y ≡ true) (filter is_control ws) k x (filtered is_control ws) e

found_holds : (P : LinkFrame → Type 0) (ws : List LinkFrame) (k : ℕ) (x : LinkFrame) → control_at ws k ≡ Some x → Each P ws → P x
found_holds P ws k x e all = each_get P (filter is_control ws) k x (each_filter P is_control ws all) e

-- the words that stay show as before
rest_shows : (t : Shape) (i : Basis) (w : World) (h : History) (gone : List Left) (f : Flight) (n : ℕ) (way : Way) (k : ℕ) (keep : Bool) → Shows t i w h gone f → Shows t i (with_words n way (rest_of keep (words_on n way w) k) w) h gone f
rest_shows t i w h gone f n way k false s = fewer_shows t i w h gone f n way k s
rest_shows t i w h gone f n Up k true s =
    record { system = s.system; down = s.down; up = at_same (λ m ws. Thins (items_on t w.control.held Up m ws) (f.up m)) n (w.up n) w.up (s.up n) s.up; history = s.history; left = s.left; learned = s.learned }
rest_shows t i w h gone f n Down k true s =
    record { system = s.system; down = at_same (λ m ws. Thins (items_on t w.control.held Down m ws) (f.down m)) n (w.down n) w.down (s.down n) s.down; up = s.up; history = s.history; left = s.left; learned = s.learned }

module _ (t : Shape) (l : Limits) (i : Basis) (tree : IsTree t) (setting : IsSetting t l) (round : TagRoundTrip) where
  module _ (v : World) (sound : IsSound t l v) (h : History) (gone : List Left) (f : Flight) (s : Shows t i v h gone f) (n : ℕ) (there : is_extender t n ≡ true) (x : LinkFrame) (control : is_control x ≡ true) where
    -- ---- down
    down_flown : IsBytes x.bytes → WordFits t v.control.held (AskedOf v.control.askers) n x → (v.control.askers n).serial < 2 ^ 64 → ((j : Key) → key_on t v.control.held Down n x ≡ Some j → leads j (f.down n) ≡ true) →
        Flown t l i h gone f (takes_from_above t n x v)
    down_flown bytes fits low first =
        elim (cases_Bool (is_bare_control x.bytes)) [
          | inl bare ↦ rw bare (bare_flown t l i tree setting round v sound h gone f s n there x control bare fits low first)
          | inr other ↦ by_way other (fits (control)) (fits (control)).way
        ]
      where
        both : (b : Bool) → b ≡ true → b ≡ false → ⊥
        both b p q = cc

        by_way : is_bare_control x.bytes ≡ false → (k : IsOnWay t v.control.held n x.bytes (λ m c. Hands c (AskedOf v.control.askers m))) → IsFrameOn t v.control.held n x.bytes k.of k.frame → Flown t l i h gone f (takes_from_above t n x v)
        by_way other k (inl e) = absurd (both (is_bare_control x.bytes) (ap is_bare_control e.1 ∙ k.bare) other)
        by_way other k (inr tag) =
            let b = bare_is k.frame k.bare in
            let r = round k.frame (channel_tag tag.channel) (omega (arith, b.long)) (tag_fits tag.channel tag.small) in
            let typed : has_etag_type x.bytes ≡ true = read_typed x.bytes (channel_tag tag.channel) (ap read_etag tag.frame ∙ r.0) in
            let u : World = with_far n (v.far n) v in
            let su : Shows t i u h gone f = record { system = s.system ∙ sym (ap (λ (y : ℕ → ExtenderState). seen_as v.control y) (at_itself n v.far)); down = s.down; up = s.up; history = s.history; left = s.left; learned = s.learned } in
            let hops = rw other at ((control_goes_on round t l setting v sound n k.of x.bytes k.frame there k.there k.bare tag).sent) in
            let fit = rw other at ((above_reacts t l tree setting round v sound n there x.bytes bytes fits low).sent) in
            rw other (hops_pushed t l i tree setting round v sound n there x control k typed (emitted (v.far n).tables side.Up x.bytes) u refl h gone f su first (StoredAt (at n (v.far n) v.far)) fit hops).flown

    -- ---- up
    bridge_flown : IsGoodFor i v → on t n < 64 → WordFits t v.control.held (StoredAt v.far) n x → ((j : Key) → key_on t v.control.held Up n x ≡ Some j → leads j (f.up n) ≡ true) →
        AreLow (bridge_takes t l (on t n) n x v).world.control.askers → Flown t l i h gone f (bridge_takes t l (on t n) n x v)
    unfolding key_on
    bridge_flown good low_on fits first low =
        let k = fits (control) in
        let a = on_way t tree round v.control.held n x.bytes (λ m c. Hands c (StoredAt v.far m)) k in
        let is : takes_control t l (on t n) n x.bytes v ≡ hears t l k.of k.frame v =
        takes_by (cases_Bool (has_etag_type x.bytes)) ∙ (ap (λ (o : Option ℕ). hears_from t l o (content x.bytes) v) a.0 ∙ ap (λ (c : List ℕ). hears_from t l (Some k.of) c v) a.1) in
        let low' : AreLow (hears t l k.of k.frame v).world.control.askers = subst (λ (e : Effect). AreLow e.world.control.askers) is (rw control at low) in
        let lead : (j : Key) → key_of_frame Up k.of (announcement_in k.frame) k.frame ≡ Some j → leads j (f.up n) ≡ true = λ j e.
        first j (ap (λ (o : Option ℕ). key_for Up o (content x.bytes)) a.0 ∙ (ap (λ (c : List ℕ). key_of_frame Up k.of (announcement_in c) c) a.1 ∙ e)) in
        rw control (subst (λ (e : Effect). Flown t l i h gone f e) (sym is)
        (hears_flown t l i tree setting round n k.of low_on v sound good h gone f s k.there k.frame k.fits low' lead))
      where
        holder_same : (o : Option Tag) → holder_by v (on t n) o ≡ holder_in v.control.held (trunk t n) o
        holder_same None = refl
        holder_same (Some tag) = ap (λ (m : ℕ). v.control.held.port m tag.ecid) (sym (trunk_low_on t n low_on))

        takes_by : (has_etag_type x.bytes ≡ true) ⊎ (has_etag_type x.bytes ≡ false) → takes_control t l (on t n) n x.bytes v ≡ hears_from t l (addressee t v.control.held n x.bytes) (content x.bytes) v
        takes_by (inl e) =
            let A : Bool → Effect = λ b. if b then hears_from t l (hung_at t (holder_by v (on t n) (read_etag x.bytes))) (stripped x.bytes) v else hears t l n x.bytes v in
            let B : Bool → Option ℕ = λ b. if b then hung_at t (holder_in v.control.held (trunk t n) (read_etag x.bytes)) else Some n in
            let C : Bool → List ℕ = λ b. if b then stripped x.bytes else x.bytes in
            ap A e ∙ (ap (λ (o : Option ℕ). hears_from t l (hung_at t o) (stripped x.bytes) v) (holder_same (read_etag x.bytes))
            ∙ sym (ap (λ (b : Bool). hears_from t l (B b) (content x.bytes) v) e ∙ ap (λ (b : Bool). hears_from t l (B true) (C b) v) e))
        takes_by (inr e) = rw e refl

    up_taken : IsGoodFor i v → WordFits t v.control.held (StoredAt v.far) n x → ((j : Key) → key_on t v.control.held Up n x ≡ Some j → leads j (f.up n) ≡ true) →
        AreLow (takes_up t l n x v).world.control.askers → Flown t l i h gone f (takes_up t l n x v)
    up_taken good fits first low =
        elim (cases_lt (on t n) 64) [
          | inl below ↦ let b : nat_lt (on t n) 64 ≡ true = lt-ltb (on t n) 64 below in rw b (bridge_flown good below fits first (rw b at low))
          | inr deep ↦ rw (le-ltb (on t n) 64 deep) (up_flown t l i tree setting round v sound h gone f s n there deep x control fits first)
        ]

pub controls_fly : TagRoundTrip → ControlsFly
unfolding stepped
controls_fly round n Down k keep t l i setting w h gone f sound facts shows may = by_word (control_at (w.down n) k) refl
  where
    by_word : (o : Option LinkFrame) → control_at (w.down n) k ≡ o → Flown t l i h gone f (takes_any t l n Down o (rest_of keep (w.down n) k) w)
    by_word None e = (pushed_none t l i w h gone f shows).flown
    by_word (Some x) e =
        let its : IsSound t l (with_words n Down (rest_of keep (w.down n) k) w) = with_sound t l setting.tree setting round w sound n Down (rest_of keep (w.down n) k) (λ P all. kept t l setting.tree setting round P keep (w.down n) k all) in
        let fits : WordFits t w.control.held (AskedOf w.control.askers) n x = found_holds (WordFits t w.control.held (AskedOf w.control.askers) n) (w.down n) k x e (sound.fits.downs n) in
        let first : (j : Key) → key_on t w.control.held Down n x ≡ Some j → leads j (f.down n) ≡ true = λ j z.
        thins_leads j (items_on t w.control.held Down n (w.down n)) (f.down n) (shows.down n) (items_lead (key_on t w.control.held Down n) (w.down n) k x j may.may.can.1 e z) in
        down_flown t l i setting.tree setting round (with_words n Down (rest_of keep (w.down n) k) w) its h gone f (rest_shows t i w h gone f n Down k keep shows) n may.may.can.0 x (found_control (w.down n) k x e)
        (found_holds (λ y. IsBytes y.bytes) (w.down n) k x e (may.may.bytes.downs n)) fits (may.may.low n) first
controls_fly round n Up k keep t l i setting w h gone f sound facts shows may = by_word (control_at (w.up n) k) refl may.may.after
  where
    by_word : (o : Option LinkFrame) → control_at (w.up n) k ≡ o → AreLow (takes_any t l n Up o (rest_of keep (w.up n) k) w).world.control.askers → Flown t l i h gone f (takes_any t l n Up o (rest_of keep (w.up n) k) w)
    by_word None e low = (pushed_none t l i w h gone f shows).flown
    by_word (Some x) e low =
        let its : IsSound t l (with_words n Up (rest_of keep (w.up n) k) w) = with_sound t l setting.tree setting round w sound n Up (rest_of keep (w.up n) k) (λ P all. kept t l setting.tree setting round P keep (w.up n) k all) in
        let fits : WordFits t w.control.held (StoredAt w.far) n x = found_holds (WordFits t w.control.held (StoredAt w.far) n) (w.up n) k x e (sound.fits.ups n) in
        let first : (j : Key) → key_on t w.control.held Up n x ≡ Some j → leads j (f.up n) ≡ true = λ j z.
        thins_leads j (items_on t w.control.held Up n (w.up n)) (f.up n) (shows.up n) (items_lead (key_on t w.control.held Up n) (w.up n) k x j may.may.can.1 e z) in
        let good = good_for t i w h gone f facts shows in
        up_taken t l i setting.tree setting round (with_words n Up (rest_of keep (w.up n) k) w) its h gone f (rest_shows t i w h gone f n Up k keep shows) n may.may.can.0 x (found_control (w.up n) k x e)
        (record { work = good.work; queue = good.queue }) fits first low

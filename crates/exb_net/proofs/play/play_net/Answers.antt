use Rattle.std.proofs.Common.{◌≡◌, ◌⊎◌, ◌∙◌, ◌<◌, ◌≤◌, ◌+◌, ◌^◌, List, length, refl, ap, sym, subst, arith, inl, inr}
use Rattle.std.specs.Prelude.{All, String, string_bytes}
use Rattle.std.specs.declared.alloc.Global.{Global}
use Rattle.std.specs.declared.vec.Vec.{Vec}
use Rattle.std.proofs.lemmas.List.{length-map}
use Rattle.std.proofs.lemmas.Result.{err_from_is_err_and}
use Rattle.exb_inputs.specs.declared.captures.CheckedCapture.{CheckedCapture}
use Rattle.exb_inputs.specs.declared.fault.Fault.TheVariants.{Read, Memory}
use Rattle.exb_inputs.proofs.Outcomes.{files_same, if_err_map, if_ok_map}
use Rattle.exb_inputs.proofs.ShelfEffects.{counts_as, counts_from, counts_memory}
use Rattle.exb_net_file.specs.declared.net_parts.BridgeInputs.{BridgeInputs}
use Rattle.exb_net_file.specs.declared.members.NetMember.{NetMember}
use Rattle.exb_net_file.specs.SetupParts.{rest_of}
use Rattle.exb_net.specs.PairedLists.{AreEach}
use Rattle.exb_inputs.specs.MemberChecks.{AreAllMembersGood, AreMembersChecked}
use Rattle.exb_inputs.specs.OpenedNetFiles.{EndsAtMember, OpensCaptures, OpensEachOf}
use Rattle.exb_inputs.specs.NetRefusals.{FirstMemberFault}
use Rattle.exb_shelf.specs.Files.{Files, SameFiles}
use Rattle.exb_shelf.proofs.IdLemmas.{opens_weaker}
use Rattle.exb_net.specs.Nets.{OnlyNetOutputs, net_of}
use Rattle.exb_net.specs.OpenOrder.{IsNetWanted}
use Rattle.exb_net.specs.Outputs.{AreNetFronts, IsNetPlayed}
use Rattle.exb_net.proofs.ArmedFates.{rests_few}
use Rattle.exb_net.proofs.NetOutcomes.{all_reading, all_wanted, capture_net, capture_of_member, checked_unchanged, checking_cause, checking_early, checking_taken, flaw_at, if_err_both, in_order, memory_early, memory_own, memory_taken, memory_unchanged, net_reading, net_wanted, nothing_stops, only_asked, play_failure, play_net_fault, play_own, played, played_only, reading_cause, reading_net, stops_checking, stops_reading, unmade}
use Rattle.exb_net.proofs.BridgeFiles.{only_outputs}
use Rattle.exb_net.proofs.PreparationLemmas.{net_holds}
use Rattle.exb_net.proofs.play.play_net.Goals as goal

pub returns-in_err-members : goal.returns-in_err-members
returns-in_err-members g c =
    let S = g.S.Shelf in
    let f = S.file c.args.shelf.now in
    let name = c.args.name.now in
    let e = err_from_is_err_and c.from_residual.result c.from_residual.ensures.1 in
    let x = c.in_err-members.field-0.0 in
    rw (e.1, e.2)
    (record {
      done = λ t. tt;
      says = tt;
      cause = λ t. reading_cause name f x (c.in_err-members.ensures.refused t);
      stops = λ t fault stops. stops_reading c.nets_have_one_cause.ensures name f x (c.in_err-members.ensures.refused t) fault stops;
      causes = reading_net x c.in_err-members.ensures.causes;
      early = inr c.read_net.ensures.files;
      stopped = λ t fault stops. c.read_net.ensures.files;
      others = λ t ks xs holds n away. c.read_net.ensures.files n;
      fronts = λ t. inl c.read_net.ensures.files;
      reads = inr (net_reading S.tells name f _ (S.ids c.args.shelf.now) (S.ids c.read_net.new.shelf) c.in_err-members.ensures.opened);
      wanted = λ t. inr (net_wanted S.tells name f _ (S.ids c.args.shelf.now) (S.ids c.read_net.new.shelf) t c.in_err-members.ensures.opened);
      only = λ t. opens_weaker (IsNetWanted name f) _ _ _ (λ i w. inl w) (net_wanted S.tells name f _ (S.ids c.args.shelf.now) (S.ids c.read_net.new.shelf) t c.in_err-members.ensures.opened);
      order = inl (c.in_err-members.ensures.causes, c.in_err-members.ensures.opened);
      faults = counts_as x _ _ c.in_err-members.ensures.faults;
    })

pub returns-in_err-checked : goal.returns-in_err-checked
returns-in_err-checked g c =
    let S = g.S.Shelf in
    let f = S.file c.args.shelf.now in
    let name = c.args.name.now in
    let ms = c.in_ok-members.field-0.members in
    let ws = c.in_ok-members.field-0.wires in
    let f1 = S.file c.read_net.new.shelf in
    let same : SameFiles f (S.file c.check_members.new.shelf) = λ n. c.check_members.ensures.files n ∙ c.read_net.ensures.files n in
    let e = err_from_is_err_and c.from_residual-in_err-checked.result c.from_residual-in_err-checked.ensures.1 in
    let x = c.in_err-checked.field-0.0 in
    rw (e.1, e.2)
    (record {
      done = λ t. tt;
      says = tt;
      cause = λ t. checking_cause name f ms ws (c.in_ok-members.ensures.read t) x (flaw_at ms f f1 x c.read_net.ensures.files (subst (λ (xs : List NetMember). FirstMemberFault xs f1 x ⊎ ((x ≡ Read) ⊎ (x ≡ Memory))) c.as_slice.ensures (c.in_err-checked.ensures.flaw t)));
      stops = λ t fault stops. stops_checking c.nets_have_one_cause.ensures name f ms ws (c.in_ok-members.ensures.read t) x (flaw_at ms f f1 x c.read_net.ensures.files (subst (λ (xs : List NetMember). FirstMemberFault xs f1 x ⊎ ((x ≡ Read) ⊎ (x ≡ Memory))) c.as_slice.ensures (c.in_err-checked.ensures.flaw t))) fault stops;
      causes = capture_net x c.in_err-checked.ensures.causes;
      early = inr same;
      stopped = λ t fault stops n. c.check_members.ensures.files n ∙ c.read_net.ensures.files n;
      others = λ t ks xs holds n away. c.check_members.ensures.files n ∙ c.read_net.ensures.files n;
      fronts = λ t. inl (λ n. c.check_members.ensures.files n ∙ c.read_net.ensures.files n);
      reads = inr (all_reading S.tells name c.args.counters f ms ws (S.ids c.args.shelf.now) (S.ids c.read_net.new.shelf) (S.ids c.check_members.new.shelf) c.in_ok-members.ensures.sound c.in_ok-members.ensures.read c.in_ok-members.ensures.opened (subst (λ (xs : List NetMember). OpensCaptures xs (S.ids c.read_net.new.shelf) (S.ids c.check_members.new.shelf)) c.as_slice.ensures c.check_members.ensures.opened));
      wanted = λ t. inr (all_wanted S.tells name c.args.counters f ms ws (S.ids c.args.shelf.now) (S.ids c.read_net.new.shelf) (S.ids c.check_members.new.shelf) c.in_ok-members.ensures.sound c.in_ok-members.ensures.read c.in_ok-members.ensures.opened (subst (λ (xs : List NetMember). OpensCaptures xs (S.ids c.read_net.new.shelf) (S.ids c.check_members.new.shelf)) c.as_slice.ensures c.check_members.ensures.opened) t);
      only = λ t. opens_weaker (IsNetWanted name f) _ _ _ (λ i w. inl w) (all_wanted S.tells name c.args.counters f ms ws (S.ids c.args.shelf.now) (S.ids c.read_net.new.shelf) (S.ids c.check_members.new.shelf) c.in_ok-members.ensures.sound c.in_ok-members.ensures.read c.in_ok-members.ensures.opened (subst (λ (xs : List NetMember). OpensCaptures xs (S.ids c.read_net.new.shelf) (S.ids c.check_members.new.shelf)) c.as_slice.ensures c.check_members.ensures.opened) t);
      order = inr (unmade S.tells name c.args.counters f ms ws (S.ids c.args.shelf.now) (S.ids c.read_net.new.shelf) (S.ids c.check_members.new.shelf) c.in_ok-members.ensures.sound c.in_ok-members.ensures.read c.in_ok-members.ensures.opened (subst (λ (xs : List NetMember). OpensCaptures xs (S.ids c.read_net.new.shelf) (S.ids c.check_members.new.shelf)) c.as_slice.ensures c.check_members.ensures.opened) x (checking_early (String Global) x c.in_err-checked.ensures.causes) (capture_of_member S.tells ms f1 (S.ids c.read_net.new.shelf) (S.ids c.check_members.new.shelf) x (subst (λ (xs : List NetMember). EndsAtMember S.tells xs f1 (S.ids c.read_net.new.shelf) (S.ids c.check_members.new.shelf) x) c.as_slice.ensures c.in_err-checked.ensures.ends))
          (checked_unchanged ms x c.in_err-checked.ensures.causes) (checking_taken x c.in_err-checked.ensures.causes));
      faults = counts_from _ _ _ _ c.in_ok-members.ensures.faults.once (counts_as x _ _ c.in_err-checked.ensures.faults);
    })

pub returns-in_err-parts : goal.returns-in_err-parts
returns-in_err-parts g c =
    let S = g.S.Shelf in
    let f = S.file c.args.shelf.now in
    let name = c.args.name.now in
    let ms = c.in_ok-members.field-0.members in
    let ws = c.in_ok-members.field-0.wires in
    let f1 = S.file c.read_net.new.shelf in
    let e = err_from_is_err_and c.from_residual-in_err-parts.result c.from_residual-in_err-parts.ensures.1 in
    rw (e.1, e.2)
    (record {
      done = λ t. tt;
      says = tt;
      cause = λ t. inr (inr (inr refl));
      stops = λ t fault stops. inr (inr refl);
      causes = tt;
      early = inl tt;
      stopped = λ t fault stops n. c.check_members.ensures.files n ∙ c.read_net.ensures.files n;
      others = λ t ks xs holds n away. c.check_members.ensures.files n ∙ c.read_net.ensures.files n;
      fronts = λ t. inl (λ n. c.check_members.ensures.files n ∙ c.read_net.ensures.files n);
      reads = inl tt;
      wanted = λ t. inl tt;
      only = λ t. opens_weaker (IsNetWanted name f) _ _ _ (λ i w. inl w) (all_wanted S.tells name c.args.counters f ms ws (S.ids c.args.shelf.now) (S.ids c.read_net.new.shelf) (S.ids c.check_members.new.shelf) c.in_ok-members.ensures.sound c.in_ok-members.ensures.read c.in_ok-members.ensures.opened (subst (λ (xs : List NetMember). OpensCaptures xs (S.ids c.read_net.new.shelf) (S.ids c.check_members.new.shelf)) c.as_slice.ensures c.check_members.ensures.opened) t);
      order = inr (unmade S.tells name c.args.counters f ms ws (S.ids c.args.shelf.now) (S.ids c.read_net.new.shelf) (S.ids c.check_members.new.shelf) c.in_ok-members.ensures.sound c.in_ok-members.ensures.read c.in_ok-members.ensures.opened (subst (λ (xs : List NetMember). OpensCaptures xs (S.ids c.read_net.new.shelf) (S.ids c.check_members.new.shelf)) c.as_slice.ensures c.check_members.ensures.opened) Memory (memory_early (String Global)) (memory_own ms) (memory_unchanged ms) memory_taken);
      faults = counts_memory _ _ (c.in_ok-checked.ensures.faults.once ∙ c.in_ok-members.ensures.faults.once);
    })

pub returns-in_default : goal.returns-in_default
returns-in_default g c =
    let S = g.S.Shelf in
    let f = S.file c.args.shelf.now in
    let name = c.args.name.now in
    let ms = c.in_ok-members.field-0.members in
    let ws = c.in_ok-members.field-0.wires in
    let f1 = S.file c.read_net.new.shelf in
    record {
      done = λ t. tt;
      says = tt;
      cause = λ t. inr (inr (inr refl));
      stops = λ t fault stops. inr (inr refl);
      causes = tt;
      early = inl tt;
      stopped = λ t fault stops n. c.check_members.ensures.files n ∙ c.read_net.ensures.files n;
      others = λ t ks xs holds n away. c.check_members.ensures.files n ∙ c.read_net.ensures.files n;
      fronts = λ t. inl (λ n. c.check_members.ensures.files n ∙ c.read_net.ensures.files n);
      reads = inl tt;
      wanted = λ t. inl tt;
      only = λ t. opens_weaker (IsNetWanted name f) _ _ _ (λ i w. inl w) (all_wanted S.tells name c.args.counters f ms ws (S.ids c.args.shelf.now) (S.ids c.read_net.new.shelf) (S.ids c.check_members.new.shelf) c.in_ok-members.ensures.sound c.in_ok-members.ensures.read c.in_ok-members.ensures.opened (subst (λ (xs : List NetMember). OpensCaptures xs (S.ids c.read_net.new.shelf) (S.ids c.check_members.new.shelf)) c.as_slice.ensures c.check_members.ensures.opened) t);
      order = inr (unmade S.tells name c.args.counters f ms ws (S.ids c.args.shelf.now) (S.ids c.read_net.new.shelf) (S.ids c.check_members.new.shelf) c.in_ok-members.ensures.sound c.in_ok-members.ensures.read c.in_ok-members.ensures.opened (subst (λ (xs : List NetMember). OpensCaptures xs (S.ids c.read_net.new.shelf) (S.ids c.check_members.new.shelf)) c.as_slice.ensures c.check_members.ensures.opened) Memory (memory_early (String Global)) (memory_own ms) (memory_unchanged ms) memory_taken);
      faults = counts_memory _ _ (c.in_ok-checked.ensures.faults.once ∙ c.in_ok-members.ensures.faults.once);
    }

pub arm_all-requires : goal.arm_all-requires
arm_all-requires g c =
    let sound = c.in_ok-members.ensures.sound in
    let some = sound.some in
    let few = sound.few in
    let are = c.as_slice-2.ensures ∙ c.in_ok-parts.ensures.rests in
    let long = ap (λ (rs : List BridgeInputs). length rs) are ∙ length-map c.in_ok-members.field-0.members rest_of in
    record {
      some = omega (arith, long, some);
      plans = subst (λ (xs : List BridgeInputs). All (λ (r : BridgeInputs). length r.fate ≤ 60000) xs) (sym are) (rests_few c.in_ok-members.field-0.members sound.sound);
      fate = c.requires.fate;
      enough = omega (arith, long, few, c.requires.many);
      low = c.requires.each;
    }

pub play_checked-requires : goal.play_checked-requires
play_checked-requires g c =
    let S = g.S.Shelf in
    let f = S.file c.args.shelf.now in
    let name = c.args.name.now in
    let ms = c.in_ok-members.field-0.members in
    let ws = c.in_ok-members.field-0.wires in
    let f1 = S.file c.read_net.new.shelf in
    let f2 = S.file c.check_members.new.shelf in
    let same_f1 : f1 ≡ f = files_same f f1 c.read_net.ensures.files in
    let same_f2 : f2 ≡ f = files_same f1 f2 c.check_members.ensures.files ∙ same_f1 in
    let all : AreMembersChecked S.tells ms f2 c.as_slice-3.result.now =
    subst (λ (cs : List (Vec CheckedCapture Global)). AreMembersChecked S.tells ms f2 cs) (sym c.as_slice-3.ensures.value)
    (subst (λ (file : Files). AreMembersChecked S.tells ms file c.in_ok-checked.checked.items) (same_f1 ∙ sym same_f2) (subst (λ (xs : List NetMember). AreMembersChecked S.tells xs f1 c.in_ok-checked.checked.items) c.as_slice.ensures c.in_ok-checked.ensures.checked)) in
    record {
      read = (ms, (ws, (c.in_ok-parts.ensures, (c.in_ok-members.ensures.sound, all))));
      fates = subst (λ rs. AreEach (λ b r f. (goal.Fate-dyn g (f.vtable, f.value)).left f.value < 2 ^ 56 + length r.fate) rs c.in-Ok.fates.items) c.as_slice-2.ensures c.in-Ok.ensures.armed;
    }

pub returns : goal.returns
returns g c =
    let S = g.S.Shelf in
    let f = S.file c.args.shelf.now in
    let name = c.args.name.now in
    let ms = c.in_ok-members.field-0.members in
    let ws = c.in_ok-members.field-0.wires in
    let f1 = S.file c.read_net.new.shelf in
    let f2 = S.file c.check_members.new.shelf in
    let new = S.file c.play_checked.new.shelf in
    let same_f1 : f1 ≡ f = files_same f f1 c.read_net.ensures.files in
    let same_f2 : f2 ≡ f = files_same f1 f2 c.check_members.ensures.files ∙ same_f1 in
    let same_f2 : f2 ≡ f = files_same f1 f2 c.check_members.ensures.files ∙ files_same f f1 c.read_net.ensures.files in
    let all : AreMembersChecked S.tells ms f2 c.as_slice-3.result.now =
    subst (λ (cs : List (Vec CheckedCapture Global)). AreMembersChecked S.tells ms f2 cs) (sym c.as_slice-3.ensures.value)
    (subst (λ (file : Files). AreMembersChecked S.tells ms file c.in_ok-checked.checked.items) (same_f1 ∙ sym same_f2) (subst (λ (xs : List NetMember). AreMembersChecked S.tells xs f1 c.in_ok-checked.checked.items) c.as_slice.ensures c.in_ok-checked.ensures.checked)) in
    record {
      done = λ t. if_ok_map c.play_checked.result
          (λ line played.
          record {
            members = ms;
            wires = ws;
            ready = record { holds = c.in_ok-members.ensures.read t; good = (subst (λ (file : Files). AreAllMembersGood ms file) same_f1 (subst (λ (xs : List NetMember). AreAllMembersGood xs f1) c.as_slice.ensures (c.in_ok-checked.ensures.good t))) };
            played = subst (λ (file : Files). IsNetPlayed c.args.counters ms (net_of ms ws file) file new (string_bytes line)) same_f2 (played ms ws c.in_ok-parts.ensures c.in_ok-members.ensures.sound all);
            holds =
                let own = subst (λ (file : Files). IsNetPlayed c.args.counters ms (net_of ms ws file) file new (string_bytes line)) same_f2 (played ms ws c.in_ok-parts.ensures c.in_ok-members.ensures.sound all) in
                net_holds ms ws f c.inputs_are_of_members.ensures c.nets_are_timely.ensures c.histories_hold_all.ensures c.in_ok-members.ensures.sound own.histories own.eager;
          })
          (c.play_checked.ensures.done t);
      says = c.play_checked.ensures.says;
      cause = λ t. if_err_both c.play_checked.result (λ x of never. inr (play_failure x of never)) c.play_checked.ensures.causes (c.play_checked.ensures.never t);
      stops = λ t fault stops. absurd (nothing_stops c.nets_have_one_cause.ensures name f ms ws (c.in_ok-members.ensures.read t) (subst (λ (file : Files). AreAllMembersGood ms file) same_f1 (subst (λ (xs : List NetMember). AreAllMembersGood xs f1) c.as_slice.ensures (c.in_ok-checked.ensures.good t))) fault stops);
      causes = if_err_map c.play_checked.result (λ x of. play_net_fault x of) c.play_checked.ensures.causes;
      early = if_err_map c.play_checked.result (λ x of. inl of) c.play_checked.ensures.causes;
      stopped = λ t fault stops. absurd (nothing_stops c.nets_have_one_cause.ensures name f ms ws (c.in_ok-members.ensures.read t) (subst (λ (file : Files). AreAllMembersGood ms file) same_f1 (subst (λ (xs : List NetMember). AreAllMembersGood xs f1) c.as_slice.ensures (c.in_ok-checked.ensures.good t))) fault stops);
      others = λ t. only_asked name c.args.counters f new ms ws (c.in_ok-members.ensures.read t)
          (subst (λ (file : Files). OnlyNetOutputs c.args.counters ms file new) same_f2 (only_outputs c.args.counters ms f2 new (c.play_checked.ensures.only t ms ws c.in_ok-parts.ensures c.in_ok-members.ensures.sound)));
      fronts = λ t. inr (record {
        members = ms;
        wires = ws;
        holds = c.in_ok-members.ensures.read t;
        fronts = subst (λ (file : Files). AreNetFronts ms (net_of ms ws file) file new) same_f2 (c.play_checked.ensures.fronts t ms ws c.in_ok-parts.ensures c.in_ok-members.ensures.sound all);
      });
      reads = if_err_map c.play_checked.result (λ x of. inl of) c.play_checked.ensures.causes;
      wanted = λ t. if_err_map c.play_checked.result (λ x of. inl of) c.play_checked.ensures.causes;
      only = λ t. played_only S.tells name c.args.counters f ms ws (S.ids c.args.shelf.now) (S.ids c.read_net.new.shelf) (S.ids c.check_members.new.shelf) c.in_ok-members.ensures.sound c.in_ok-members.ensures.read c.in_ok-members.ensures.opened (subst (λ (xs : List NetMember). OpensCaptures xs (S.ids c.read_net.new.shelf) (S.ids c.check_members.new.shelf)) c.as_slice.ensures c.check_members.ensures.opened)
          (S.ids c.play_checked.new.shelf) c.play_checked.result (subst (λ (xs : List NetMember). OpensEachOf xs (S.ids c.read_net.new.shelf) (S.ids c.check_members.new.shelf)) c.as_slice.ensures c.in_ok-checked.ensures.each) (λ t. (subst (λ (file : Files). AreAllMembersGood ms file) same_f1 (subst (λ (xs : List NetMember). AreAllMembersGood xs f1) c.as_slice.ensures (c.in_ok-checked.ensures.good t)))) c.nets_have_one_cause.ensures (c.play_checked.ensures.opens ms ws c.in_ok-parts.ensures c.in_ok-members.ensures.sound) (c.play_checked.ensures.made ms ws c.in_ok-parts.ensures c.in_ok-members.ensures.sound) t;
      order = in_order S.tells name c.args.counters c.play_checked.result f (S.ids c.args.shelf.now) (S.ids c.play_checked.new.shelf)
          (played S.tells name c.args.counters f ms ws (S.ids c.args.shelf.now) (S.ids c.read_net.new.shelf) (S.ids c.check_members.new.shelf) c.in_ok-members.ensures.sound c.in_ok-members.ensures.read c.in_ok-members.ensures.opened (subst (λ (xs : List NetMember). OpensCaptures xs (S.ids c.read_net.new.shelf) (S.ids c.check_members.new.shelf)) c.as_slice.ensures c.check_members.ensures.opened)
          (S.ids c.play_checked.new.shelf) c.play_checked.result (subst (λ (xs : List NetMember). OpensEachOf xs (S.ids c.read_net.new.shelf) (S.ids c.check_members.new.shelf)) c.as_slice.ensures c.in_ok-checked.ensures.each) (λ t. (subst (λ (file : Files). AreAllMembersGood ms file) same_f1 (subst (λ (xs : List NetMember). AreAllMembersGood xs f1) c.as_slice.ensures (c.in_ok-checked.ensures.good t)))) c.nets_have_one_cause.ensures (c.play_checked.ensures.opens ms ws c.in_ok-parts.ensures c.in_ok-members.ensures.sound) (c.play_checked.ensures.made ms ws c.in_ok-parts.ensures c.in_ok-members.ensures.sound) (play_own ms c.play_checked.result c.play_checked.ensures.causes) (λ bridge p at is. c.play_checked.ensures.changed ms ws c.in_ok-parts.ensures bridge p at is) c.play_checked.ensures.causes);
      faults = counts_from c.play_checked.result _ _ _ (c.in_ok-checked.ensures.faults.once ∙ c.in_ok-members.ensures.faults.once) c.play_checked.ensures.faults;
    }

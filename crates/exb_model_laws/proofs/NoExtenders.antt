-- Bridges without extenders.
use Rattle.std.proofs.Common.{◌≡◌, ◌≢◌, inl, inr, ℕ, ◌/◌, ◌%◌, ◌<◌, ◌≤◌, true, List, [], ◌∷◌, slice_index, AllPairs, ap, ◌∙◌, arith}
use Rattle.std.specs.Prelude.{not, All}
use Rattle.std.proofs.lemmas.Bool.{cases_lt, and_parts, lt-ltb, ltb-true}
use Rattle.std.proofs.lemmas.List.Elements.{All-nil, All-cons, All-head}
use Rattle.exb_model.specs.declared.setup.ExtenderSetup.{ExtenderSetup}
use Rattle.exb_model.specs.declared.setup.Setup.{Setup}
use Rattle.exb_model.specs.declared.command.Command.{Command}
use Rattle.exb_model.specs.declared.command.Command.TheVariants as command
use Rattle.exb_model.specs.Tree.{Shape, is_port, is_cascade, is_external}
use Rattle.exb_model.specs.Setup.{shape_of, InRange, IsStart, IsValid}
use Rattle.exb_model.proofs.TreeTrunks.{external_from}
use Rattle.exb_model_laws.specs.SetupValidity.{HasPlace, HasWayUp, bridge_alone, AreInRange, BridgeAloneIsValid, StartIsJudged}
use Rattle.exb_model_laws.proofs.SetupTables.{bridge_ports_are, extender_there}
use Rattle.exb_model_laws.proofs.SetupValidity.{valid_in_words}
use Rattle.exb_model_laws.proofs.CascadeCounts.{none_below}

pub pairs_nil : {X : Type 0} (R : X → X → Type 0) → AllPairs R []
pairs_nil R i j d h k = absurd (omega arith)

-- ---- a bridge alone
module _ (ports channels groups ageing : ℕ) where
  no_pairs : AllPairs (λ (a b : ExtenderSetup). a.number ≢ b.number) []
  no_pairs = pairs_nil (λ (a b : ExtenderSetup). a.number ≢ b.number)

  -- it is valid where its numbers are in range and its start may stand there
  alone_from : (start : List Command) → AreInRange ports channels groups ageing → All (IsStart (shape_of (bridge_alone ports channels groups ageing start))) start → IsValid (bridge_alone ports channels groups ageing start)
  alone_from start r may =
      let s : Setup = bridge_alone ports channels groups ageing start in
      (valid_in_words (bridge_alone ports channels groups ageing start)).1 (record {
        some_ports = r.0;
        ports = r.1;
        some_channels = r.2;
        channels = r.3;
        some_groups = r.4;
        groups = r.5;
        ageing = r.6;
        ranges = All-nil InRange;
        numbers = no_pairs;
        places = All-nil (λ e. HasPlace s e.on);
        alone = pairs_nil (λ (a b : ExtenderSetup). a.on ≢ b.on);
        ways = All-nil (HasWayUp s);
        enough_channels = λ k low. (let z = none_below (bridge_alone ports channels groups ageing start) (All-nil InRange) no_pairs (λ e h. absurd h) k in omega (arith, z));
        start = may;
      })

  alone_to : (start : List Command) → IsValid (bridge_alone ports channels groups ageing start) → AreInRange ports channels groups ageing
  alone_to start v = (v.some_ports, v.ports, v.some_channels, v.channels, v.some_groups, v.groups, v.ageing)

  -- ---- which of its ports are external
  module _ (start : List Command) (r : AreInRange ports channels groups ageing) where
    bridge_has : slice_index (shape_of (bridge_alone ports channels groups ageing start)).ports 0 ≡ ports
    bridge_has = bridge_ports_are (bridge_alone ports channels groups ageing start) (All-nil InRange)

    none_there : (n : ℕ) → 0 < n → 0 < slice_index (shape_of (bridge_alone ports channels groups ageing start)).ports n → ⊥
    none_there n some there = (extender_there (bridge_alone ports channels groups ageing start) n some there).1

    external_of : (q : ℕ) → q < ports → is_external (shape_of (bridge_alone ports channels groups ageing start)) q ≡ true
    external_of q low =
        let t : Shape = shape_of (bridge_alone ports channels groups ageing start) in
        let few : ports ≤ 64 = r.1 in
        let device : q / 64 ≡ 0 = omega (arith, low, few) in
        let place : q % 64 ≡ q = omega (arith, low, few) in
        let has : slice_index t.ports (q / 64) ≡ ports = ap (λ (n : ℕ). slice_index t.ports n) device ∙ bridge_has in
        external_from t q (lt-ltb (q % 64) (slice_index t.ports (q / 64)) (omega (arith, low, place, has))) (λ n h. none_there n h.extender h.there)

    external_is : (q : ℕ) → is_external (shape_of (bridge_alone ports channels groups ageing start)) q ≡ true → q < ports
    external_is q is =
        let t : Shape = shape_of (bridge_alone ports channels groups ageing start) in
        let port = (and_parts (is_port t q) (not (is_cascade t q)) is).0 in
        let low : q % 64 < slice_index t.ports (q / 64) = ltb-true (q % 64) (slice_index t.ports (q / 64)) port in
        elim (cases_lt 0 (q / 64)) [
          | inl far ↦ absurd (none_there (q / 64) far (omega (arith, low)))
          | inr near ↦
              let device : q / 64 ≡ 0 = omega (arith, near) in
              let has : slice_index t.ports (q / 64) ≡ ports = ap (λ (n : ℕ). slice_index t.ports n) device ∙ bridge_has in
              omega (arith, low, has, device)
        ]

pub bridge_alone_is_valid : BridgeAloneIsValid
bridge_alone_is_valid ports channels groups ageing =
    (alone_to ports channels groups ageing [], λ r. alone_from ports channels groups ageing [] r (All-nil (IsStart (shape_of (bridge_alone ports channels groups ageing [])))))

pub start_is_judged : StartIsJudged
start_is_judged ports channels groups ageing q r =
    let c : Command = command.Isolate q true in
    let t : Shape = shape_of (bridge_alone ports channels groups ageing (c ∷ [])) in (
      (
        λ v. external_is ports channels groups ageing (c ∷ []) r q (All-head (IsStart t) c [] v.start),
        λ low. alone_from ports channels groups ageing (c ∷ []) r (All-cons (IsStart t) c [] (external_of ports channels groups ageing (c ∷ []) r q low) (All-nil (IsStart t))),
      ),
      λ v. All-head (IsStart (shape_of (bridge_alone ports channels groups ageing (command.Up q ∷ [])))) (command.Up q) [] v.start,
      λ v. All-head (IsStart (shape_of (bridge_alone ports channels groups ageing (command.Down q ∷ [])))) (command.Down q) [] v.start,
    )

-- Bridges that were opened, told by numbers.
use Rattle.std.proofs.Common.{◌≡◌, ◌*◌, ◌≤◌, ◌++◌, List, [], ◌∷◌, length, refl, ap, sym, ◌∙◌, subst, arith}
use Rattle.std.specs.Prelude.{All, IsPermutation}
use Rattle.std.proofs.lemmas.List.{append-nil}
use Rattle.std.proofs.lemmas.List.Sorted.{IsPermutation-refl}
use Rattle.exb_model.specs.Input.{Input, Eager, bounds_of, tree_of}
use Rattle.exb_model.specs.Setup.{IsValid}
use Rattle.exb_world_spec.specs.AllowedSteps.{IsSettled}
use Rattle.exb_world_spec.specs.Runs.SessionLaws.{IsMove}
use Rattle.exb_world_spec.specs.Runs.Sessions.{Each}
use Rattle.exb_world_spec.specs.Settling.{run}
use Rattle.exb_world_spec.specs.Steps.{Stepped}
use Rattle.exb_world_spec.specs.Worlds.{Step, Left, Mark}
use Rattle.exb_world_laws.specs.WorldInput.{Given, arrivals_of, commands_of}
use Rattle.exb_world_laws.specs.WorldInvariant.{given_in}
use Rattle.exb_world_spec.specs.Runs.ReachedWorlds.{HasVid, MayTakeAll, beginning}
use Rattle.exb_world_laws.specs.Runs.SegmentRuns.{PlaysIn, RunsAreFew, RunsAreUnderWay}
use Rattle.exb_world_laws.proofs.SegmentHistories.{each_moves}
use Rattle.exb_net_laws.specs.NetRuns.{Opens}
use Rattle.exb_net_laws.specs.EventCounts.{OpenedNetsAreNew}
use Rattle.exb_net_laws.proofs.BridgeRuns.{may_append}

none_long : (xs : List Left) → length xs ≤ 4160 * 0 → xs ≡ []
none_long [] few = refl
none_long (x ∷ xs) few = absurd (omega (arith, few))

-- An opening plays no segment.
opening_plays : (i : Input) → IsValid i.setup → All HasVid i.setup.start → (d : Stepped) (moves : List Step) → MayTakeAll (tree_of i) (bounds_of i) (beginning i.setup) moves → Each IsMove moves →
    IsSettled (tree_of i) (run (tree_of i) (bounds_of i) moves (beginning i.setup)).world → d ≡ run (tree_of i) (bounds_of i) (moves ++ Mark ∷ []) (beginning i.setup) → PlaysIn Eager i [] d
opening_plays i valid vids d moves may alone settled is =
    let marked : List Step = moves ++ Mark ∷ [] in
    let none : given_in moves ≡ [] = (each_moves moves alone).1 in
    record {
      first = moves;
      plays = [];
      valid = valid;
      vids = vids;
      may = subst (MayTakeAll (tree_of i) (bounds_of i) (beginning i.setup)) (sym (append-nil marked)) (may_append (tree_of i) (bounds_of i) moves (Mark ∷ []) (beginning i.setup) may (record { can = settled; has = tt; vid = tt }, tt));
      play = (
        record {
          gives = record {
            seconds = (each_moves moves alone).0;
            commands = ap commands_of none;
            arrivals = subst (λ (g : List Given). IsPermutation (arrivals_of g) []) (sym none) (IsPermutation-refl []);
            unmarked = (each_moves moves alone).2;
          };
          settled = settled;
        },
        tt,
      );
      eager = tt;
      is = is ∙ ap (λ (xs : List Step). run (tree_of i) (bounds_of i) xs (beginning i.setup)) (sym (append-nil marked));
    }

pub opened_nets_are_new : RunsAreFew → RunsAreUnderWay → OpenedNetsAreNew
opened_nets_are_new few under n s net vids opens b here =
    let o : Opens n b (s b) = opens b here in
    let i : Input = n.input b in
    let k : PlaysIn Eager i [] (s b) = opening_plays i (net.setups b here) (vids b here) (s b) o.moves o.may o.moves_alone o.settled o.is in
    let u = under Eager i [] (s b) k in
    let f = few Eager i [] (s b) k in
    record { clock = u.clock; given = u.commands; entered = f.entered; decided = f.decided; left = none_long (s b).left f.left }

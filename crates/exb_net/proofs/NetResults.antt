-- What a net leaves, whether it was played to its end or not.
use Rattle.std.proofs.Common.{◌≡◌, ℕ, ◌<◌, ◌++◌, Bool, true, List, [], length, map, Option, Some, None, refl, ap, ◌∙◌, subst, arith, inl, inr}
use Rattle.std.specs.Prelude.{slice_get}
use Rattle.std.proofs.lemmas.Option.{slice_get-map, slice_get_within}
use Rattle.exb_model.specs.FlatBridge.{flat}
use Rattle.exb_model.specs.Input.{basis_of, tree_of}
use Rattle.exb_model.specs.Tree.{is_external}
use Rattle.exb_world_spec.specs.Worlds.{left_at}
use Rattle.exb_net_spec.specs.Nets.{Net, IsNet}
use Rattle.exb_net_spec.specs.NetHistory.{Due, Goes, openings}
use Rattle.exb_net_spec.specs.QueueTermination.{NetsHaveHistories}
use Rattle.exb_net_spec.specs.NetLaws.{HistoriesGoOn}
use Rattle.exb_net_laws.specs.NetRunLaws.{NetsArePlayed}
use Rattle.exb_net.specs.NetStates.{no_dones}
use Rattle.exb_net_file.specs.declared.members.NetMember.{NetMember}
use Rattle.exb_net_file.specs.Members.{tree_in}
use Rattle.exb_outputs.specs.Manifests.{Listed}
use Rattle.exb_outputs.proofs.PortPlaces.{external_low}
use Rattle.exb_shelf.specs.Files.{Files}
use Rattle.exb_journal.specs.declared.file_names.OutputKind.{OutputKind}
use Rattle.exb_outputs.specs.WrittenTexts.{first_text}
use Rattle.exb_outputs.specs.KindTexts.{output_text}
use Rattle.exb_net.specs.Nets.{manifest_with}
use Rattle.exb_net.specs.Outputs.{AreNetFronts, IsNetPlayed}
use Rattle.exb_net.specs.Preparation.{AreCutAs}
use Rattle.exb_net.specs.NetInvariants.{HasWritten, IsCutAmid, IsCutOff, IsUnopened}
use Rattle.exb_net.proofs.BridgeFiles.{cut_texts, fronts_written, only_outputs, texts_begin, told_of, whole_texts, written_texts}

-- the trees of a net are those of its bridges
pub record HasTrees (n : Net) (ms : List NetMember) : Type 0 where
  pub count : n.count ≡ length ms
  pub tree : (b : ℕ) (m : NetMember) → slice_get ms b ≡ Some m → tree_of (n.input b) ≡ tree_in m

module _ (counters : Bool) (ms : List NetMember) (n : Net) (net : IsNet n) (trees : HasTrees n ms) where
  here : (b : ℕ) (m : NetMember) → slice_get ms b ≡ Some m → b < n.count
  here b m is = (let low = slice_get_within ms b m is in let same = trees.count in omega (arith, low, same))

  low : (b : ℕ) (m : NetMember) → slice_get ms b ≡ Some m → (q : ℕ) → is_external (tree_of (n.input b)) q ≡ true → q < 4160
  low b m is q ext = external_low (tree_of (n.input b)) q (net.setups b (here b m is)).tree ext

  manifest_there : (b : ℕ) (m : NetMember) → slice_get ms b ≡ Some m → slice_get (map (manifest_with counters) ms) b ≡ Some (manifest_with counters m)
  manifest_there b m is = slice_get-map (manifest_with counters) ms b ∙ ap (λ (o : Option NetMember). mapped o) is
    where
      mapped : Option NetMember → Option Listed
      mapped None = None
      mapped (Some x) = Some (manifest_with counters x)

  -- ---- all was played
  pub played : (before now : Files) (line : List ℕ) → HasWritten (record { net = n; before = before; manifests = map (manifest_with counters) ms }) now line → IsNetPlayed counters ms n before now line
  played before now line w =
      record {
        histories = w.histories;
        eager = w.eager;
        written = λ b m is. written_texts counters m (n.input b) (trees.tree b m is) (low b m is) (w.histories b) now (w.whole b (manifest_with counters m) (manifest_there b m is));
        others = only_outputs counters ms before now w.others;
        says = w.says;
      }

  pub played_fronts : (before now : Files) (line : List ℕ) → HasWritten (record { net = n; before = before; manifests = map (manifest_with counters) ms }) now line → AreNetFronts ms n before now
  played_fronts before now line w =
      record {
        histories = w.histories;
        eager = w.eager;
        fronts = λ b m is. whole_texts counters m (n.input b) (trees.tree b m is) (low b m is) (w.histories b) before now (w.whole b (manifest_with counters m) (manifest_there b m is));
      }

  -- ---- while files are made
  pub made_fronts : (have : NetsHaveHistories) (old new : Files) → ((text : ℕ → OutputKind → List ℕ) → ((b : ℕ) (o : OutputKind) → (rest : List ℕ) × (text b o ≡ first_text o ++ rest)) → AreCutAs (map (manifest_with counters) ms) old new text) → AreNetFronts ms n old new
  made_fronts have old new cut =
      let hs = have n net in
      let all = cut (λ b. output_text (n.input b) (hs.0 b) []) (λ b o. texts_begin (n.input b) (hs.0 b) o) in
      record {
        histories = hs.0;
        eager = hs.1;
        fronts = λ b m is. cut_texts counters m (n.input b) (trees.tree b m is) (low b m is) (hs.0 b) old new (all.each b (manifest_with counters m) (manifest_there b m is));
      }

  -- ---- while it is played
  nothing_left : (i : _) (q : ℕ) → left_at q [] ≡ flat i [] q
  unfolding flat
  nothing_left i q = refl

  unopened : (have : NetsHaveHistories) (before now : Files) → IsUnopened (record { net = n; before = before; manifests = map (manifest_with counters) ms }) now → AreNetFronts ms n before now
  unopened have before now u =
      let hs = have n net in
      record {
        histories = hs.0;
        eager = hs.1;
        fronts = λ b m is.
            (let told = told_of (hs.0 b) in
            fronts_written counters m (n.input b) (trees.tree b m is) (low b m is) [] (hs.0 b) told.0 before now (no_dones n b) (u.fronts.each b (manifest_with counters m) (manifest_there b m is)) refl (λ q ext. nothing_left (basis_of (n.input b)) q) told.1);
      }

  amid : (have : NetsHaveHistories) (law : NetsArePlayed) (go_on : HistoriesGoOn) (before now : Files) → IsCutAmid (record { net = n; before = before; manifests = map (manifest_with counters) ms }) now → AreNetFronts ms n before now
  amid have law go_on before now u =
      let hs = have n net in
      let shown = law n u.ds u.start u.dones net u.vids u.here u.order u.opened u.plays in
      let whole : Goes n (u.ds ++ u.rest) (openings n) hs.0 = subst (λ (ds : List Due). Goes n ds (openings n) hs.0) u.dues_are hs.1.goes in
      record {
        histories = hs.0;
        eager = hs.1;
        fronts = λ b m is.
            (let more = go_on n u.ds u.rest shown.histories hs.0 shown.goes whole b in
            let own = shown.shown b (here b m is) in
            fronts_written counters m (n.input b) (trees.tree b m is) (low b m is) (shown.histories b) (hs.0 b) more.0 before now (u.dones b) (u.fronts.each b (manifest_with counters m) (manifest_there b m is)) own.told own.left more.1);
      }

  pub cut_fronts : NetsHaveHistories → NetsArePlayed → HistoriesGoOn → (before now : Files) → IsCutOff (record { net = n; before = before; manifests = map (manifest_with counters) ms }) now → AreNetFronts ms n before now
  cut_fronts have law go_on before now (inl u) = unopened have before now u
  cut_fronts have law go_on before now (inr u) = amid have law go_on before now u

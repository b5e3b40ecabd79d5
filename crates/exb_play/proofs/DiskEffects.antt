-- What calls touch of a disk, one after another, and what stays of captures and outputs meanwhile.
use Rattle.std.proofs.Common.{◌≡◌, ℕ, List, [], ◌∷◌, Result, Ok, Err, ap, refl, subst, ◌∙◌}
use Rattle.exb_timeline.specs.declared.bridge_timeline.Timeline.{Timeline}
use Rattle.exb_timeline.specs.declared.bridge_timeline.Next.{Next}
use Rattle.exb_model.specs.Input.{Mode}
use Rattle.exb_timeline.specs.declared.capture_merge.CaptureFault.{CaptureFault}
use Rattle.exb_timeline.specs.declared.capture_merge.CaptureFault.TheVariants as again
use Rattle.exb_timeline.specs.CaptureMerges.{HasPort, ids_in, standings}
use Rattle.exb_inputs.proofs.ShelfEffects.{fewer_same, fewer_then}
use Rattle.exb_outputs.specs.Manifests.{Listed}
use Rattle.exb_outputs.proofs.UntouchedInputs.{reads-none, reads-then}
use Rattle.exb_shelf.specs.Shelf.{Faults}
use Rattle.exb_shelf.specs.FaultCounts.{after_write, writes_more}
use Rattle.exb_shelf.specs.declared.shelf.ShelfFault.{ShelfFault}
use Rattle.exb_shelf.specs.declared.shelf.ShelfFault.TheVariants as shelf_fault
use Rattle.exb_play.specs.Disks.{Disk, IsApart, Plays, Reads, Touches}
use Rattle.exb_timeline.specs.FaultCounts.{CountsFault}
use Rattle.exb_play.specs.declared.feed.Feed.{Feed}
use Rattle.exb_play.proofs.CapturePorts.{ports-all}
use Rattle.exb_play.proofs.TakenEvents.{comes-ids}
use Rattle.exb_outputs.specs.ShelfEffects.{CountsWrites, OnlyWrites}
use Rattle.exb_play.specs.declared.fault.PlayFault.{PlayFault}
use Rattle.exb_play.specs.declared.fault.PlayFault.TheVariants.{Reading, Writing}
use Rattle.exb_play.specs.RunInvariants.{AreOthers, EndsPlaying, HasGone, HasRead, HasTaken, IsGathered, IsWhy, PlaysOn, ReadsAgain, WritesOn}

-- ---- the preorder
pub touches-none : (known : Type 0) (stays : List ℕ → Type 0) (mine : List ℕ) (a : Disk) → Touches known stays mine a a
touches-none known stays mine a = record { files = λ t n away. refl; ids = reads-none mine a.ids a.ids (λ j. refl); faults = fewer_same a.faults a.faults refl }

pub touches-then : (known : Type 0) (stays : List ℕ → Type 0) (mine : List ℕ) (a b c : Disk) → Touches known stays mine a b → Touches known stays mine b c → Touches known stays mine a c
touches-then known stays mine a b c one two = record {
  files = λ t n away. two.files t n away ∙ one.files t n away;
  ids = reads-then mine a.ids b.ids c.ids one.ids two.ids;
  faults = fewer_then a.faults b.faults c.faults one.faults two.faults;
}

-- what reads alone, and what writes alone, is also such
pub plays-reading : (tells : Type 0) (manifest : Listed) (mine : List ℕ) (a b : Disk) → Reads mine a b → Plays tells manifest mine a b
plays-reading tells manifest mine a b one = record { files = λ t n away. one.files tt n tt; ids = one.ids; faults = one.faults }

pub plays-writing : (tells : Type 0) (manifest : Listed) (mine : List ℕ) (a b : Disk) → Plays tells manifest [] a b → Plays tells manifest mine a b
plays-writing tells manifest mine a b one = record { files = one.files; ids = reads-none mine a.ids b.ids (λ j. one.ids.others j tt); faults = one.faults }

-- ---- from a disk and a programme to another
module _ (known : Type 0) (stays : List ℕ → Type 0) where
  pub gone-none : (a : Disk) (p : Timeline) → HasGone known stays a p a p
  gone-none a p = record { touches = touches-none known stays (ids_in p.captures) a; same = refl; ports = λ k has. has; counts = refl }

  module _ (a : Disk) (p : Timeline) (b : Disk) (q : Timeline) (c : Disk) (one : HasGone known stays a p b q) where
    pub touches-on : Touches known stays (ids_in q.captures) b c → Touches known stays (ids_in p.captures) a c
    touches-on more = touches-then known stays (ids_in p.captures) a b c one.touches (subst (λ (mine : List ℕ). Touches known stays mine b c) one.same more)

    pub gone-then : (r : Timeline) → HasGone known stays b q c r → HasGone known stays a p c r
    gone-then r two = record { touches = touches-on two.touches; same = two.same ∙ one.same; ports = λ k has. one.ports k (two.ports k has); counts = two.counts ∙ one.counts }

-- why reading ended, said from further back
pub why-back : (others more : Type 0) (p q : Timeline) (fault : CaptureFault) → ((k : ℕ) → HasPort k (standings q.captures) → HasPort k (standings p.captures)) → (others → more) →
    IsWhy others q fault → IsWhy more p fault
why-back others more p q again.Memory ports so why = tt
why-back others more p q again.Read ports so why = tt
why-back others more p q (again.Changed k at) ports so why = (ports k why.0, so why.1)

pub counts-back : (fault : CaptureFault) (a b c : Faults) → b ≡ a → CountsFault fault b c → CountsFault fault a c
counts-back fault a b c same counts = subst (λ (f : Faults). CountsFault fault f c) same counts

-- ---- reading
pub read-none : (tells : Type 0) (a : Disk) (p : Timeline) → HasRead tells a p a p
read-none tells a p = record { gone = gone-none (Unit {0}) (λ name. Unit {0}) a p; streams = λ t xs has. (xs, has) }

pub read-then : (tells : Type 0) (a : Disk) (p : Timeline) (b : Disk) (q : Timeline) (c : Disk) (r : Timeline) → HasRead tells a p b q → HasRead tells b q c r → HasRead tells a p c r
read-then tells a p b q c r one two = record {
  gone = gone-then (Unit {0}) (λ name. Unit {0}) a p b q c one.gone r two.gone;
  streams = λ t xs has. (let (ys, there) = one.streams t xs has in two.streams t ys there);
}

-- and then an answer
module _ (tells : Type 0) (a : Disk) (p : Timeline) (b : Disk) (q : Timeline) (c : Disk) (read : HasRead tells a p b q) where
  pub reads-ok : {X Y : Type 0} (x : X) (y : Y) → ReadsAgain tells b q c (Ok x) → ReadsAgain tells a p c (Ok y)
  reads-ok x y more = record { reads = touches-on (Unit {0}) (λ name. Unit {0}) a p b q c read.gone more.reads; ends = more.ends ∙ read.gone.counts }

  pub reads-err : {X Y : Type 0} (fault : CaptureFault) → ReadsAgain {X = X} tells b q c (Err fault) → ReadsAgain {X = Y} tells a p c (Err fault)
  reads-err fault more = record {
    reads = touches-on (Unit {0}) (λ name. Unit {0}) a p b q c read.gone more.reads;
    ends = (
      why-back (tells → AreOthers b q) (tells → AreOthers a p) p q fault read.gone.ports (λ others t xs has. (let (ys, there) = read.streams t xs has in others t ys there)) more.ends.0,
      counts-back fault a.faults b.faults c.faults read.gone.counts more.ends.1,
    );
  }

-- what was taken was read
pub taken-read : {X : Type 0} (tells : Type 0) (a b : Disk) (f : Feed) (ds : List Next) (g : Feed) (x : X) → HasTaken tells a b f ds g → ReadsAgain tells a f.programme b (Ok x) → HasRead tells a f.programme b g.programme
taken-read tells a b f ds g x taken reads = record {
  gone = record {
    touches = reads.reads;
    same = comes-ids f.programme g.programme ds taken.comes;
    ports = ports-all f.programme g.programme ds taken.comes;
    counts = reads.ends;
  };
  streams = λ t xs has. (let (ys, order, there) = taken.takes t xs has in (ys, there));
}

-- and so was what was gathered
pub gathered-read : {X : Type 0} (tells : Type 0) (m : Mode) (a b : Disk) (second : ℕ) (p : Timeline) (g : Feed) (got : IsGathered tells m a b second p g) (x : X) → ReadsAgain tells a p b (Ok x) →
    HasGone (Unit {0}) (λ name. Unit {0}) a p b g.programme
gathered-read tells m a b second p g got x reads = record {
  touches = reads.reads;
  same = comes-ids p g.programme (got.first ∷ got.more) got.comes;
  ports = ports-all p g.programme (got.first ∷ got.more) got.comes;
  counts = reads.ends;
}

-- ---- playing
-- what was read
pub gone-reading : (tells : Type 0) (manifest : Listed) (a : Disk) (p : Timeline) (b : Disk) (q : Timeline) → HasGone (Unit {0}) (λ name. Unit {0}) a p b q → HasGone tells (IsApart manifest) a p b q
gone-reading tells manifest a p b q read = record {
  touches = plays-reading tells manifest (ids_in p.captures) a b read.touches;
  same = read.same;
  ports = read.ports;
  counts = read.counts;
}

-- and then written
pub gone-writing : {X : Type 0} (tells : Type 0) (manifest : Listed) (a : Disk) (p : Timeline) (b c : Disk) (q : Timeline) (x : X) → HasGone (Unit {0}) (λ name. Unit {0}) a p b q → WritesOn tells manifest b c (Ok x) →
    HasGone tells (IsApart manifest) a p c q
gone-writing tells manifest a p b c q x read writes = record {
  touches =
      touches-then tells (IsApart manifest) (ids_in p.captures) a b c (plays-reading tells manifest (ids_in p.captures) a b read.touches)
      (plays-writing tells manifest (ids_in p.captures) b c writes.plays);
  same = read.same;
  ports = read.ports;
  counts = writes.counts ∙ read.counts;
}

module _ (tells : Type 0) (manifest : Listed) (a : Disk) (p : Timeline) (b : Disk) (q : Timeline) (c : Disk) (gone : HasGone tells (IsApart manifest) a p b q) where
  pub plays-read : {X Y : Type 0} (x : X) (y : Y) → ReadsAgain tells b q c (Ok x) → PlaysOn tells manifest a p c (Ok y)
  plays-read x y more = record {
    plays = touches-on tells (IsApart manifest) a p b q c gone (plays-reading tells manifest (ids_in q.captures) b c more.reads);
    ends = more.ends ∙ gone.counts;
  }

  pub plays-stopped : {X Y : Type 0} (fault : CaptureFault) → (tells → AreOthers b q → ⊥) → ReadsAgain {X = X} tells b q c (Err fault) → PlaysOn {X = Y} tells manifest a p c (Err (Reading fault))
  plays-stopped fault never more = record {
    plays = touches-on tells (IsApart manifest) a p b q c gone (plays-reading tells manifest (ids_in q.captures) b c more.reads);
    ends = (
      why-back (tells → AreOthers b q) (tells → ⊥) p q fault gone.ports (λ others t. never t (others t)) more.ends.0,
      counts-back fault a.faults b.faults c.faults gone.counts more.ends.1,
    );
  }

  pub plays-broken : {X Y : Type 0} (fault : ShelfFault) → WritesOn {X = X} tells manifest b c (Err fault) → PlaysOn {X = Y} tells manifest a p c (Err (Writing fault))
  plays-broken {X = X} fault more = record {
    plays = touches-on tells (IsApart manifest) a p b q c gone (plays-writing tells manifest (ids_in q.captures) b c more.plays);
    ends = broken X fault a.faults b.faults c.faults gone.counts more.counts;
  }
    where
      broken : (X : Type 0) (fault : ShelfFault) (f g h : Faults) → g ≡ f → h ≡ after_write {X = X} (Err fault) g → h ≡ after_write {X = Unit {0}} (Err fault) f
      broken X shelf_fault.Failed f g h same is = is ∙ ap writes_more same
      broken X shelf_fault.Memory f g h same is = is ∙ same

-- what was written, as the calls below say it
pub writes-from : {X : Type 0} (tells : Type 0) (manifest : Listed) (a b : Disk) (result : Result X ShelfFault) → OnlyWrites tells manifest a.files b.files a.ids b.ids → CountsWrites result a.faults b.faults →
    WritesOn tells manifest a b result
writes-from tells manifest a b result only counts = record { plays = record { files = only.others; ids = reads-none [] a.ids b.ids only.kept; faults = counts.none_fell }; counts = counts.once }

pub writes-then : {X Y : Type 0} (tells : Type 0) (manifest : Listed) (a b c : Disk) (x : X) (result : Result Y ShelfFault) → WritesOn tells manifest a b (Ok x) → WritesOn tells manifest b c result → WritesOn tells manifest a c result
writes-then tells manifest a b c x result one two = record {
  plays = touches-then tells (IsApart manifest) [] a b c one.plays two.plays;
  counts = two.counts ∙ ap (after_write result) one.counts;
}

-- a run that went well, and then wrote
module _ {X : Type 0} (tells : Type 0) (manifest : Listed) (a : Disk) (p : Timeline) (b c : Disk) (x : X) (plays : PlaysOn tells manifest a p b (Ok x)) where
  also-touches : Plays tells manifest [] b c → Plays tells manifest (ids_in p.captures) a c
  also-touches more = touches-then tells (IsApart manifest) (ids_in p.captures) a b c plays.plays (plays-writing tells manifest (ids_in p.captures) b c more)

  pub plays-wrote : {Y Z : Type 0} (y : Y) (z : Z) → WritesOn tells manifest b c (Ok y) → PlaysOn tells manifest a p c (Ok z)
  plays-wrote y z more = record { plays = also-touches more.plays; ends = more.counts ∙ plays.ends }

  pub plays-broke : {Y Z : Type 0} (fault : ShelfFault) → WritesOn {X = Y} tells manifest b c (Err fault) → PlaysOn {X = Z} tells manifest a p c (Err (Writing fault))
  plays-broke {Y = Y} fault more = record { plays = also-touches more.plays; ends = broke Y fault a.faults b.faults c.faults plays.ends more.counts }
    where
      broke : (Y : Type 0) (fault : ShelfFault) (f g h : Faults) → g ≡ f → h ≡ after_write {X = Y} (Err fault) g → h ≡ after_write {X = Unit {0}} (Err fault) f
      broke Y shelf_fault.Failed f g h same is = is ∙ ap writes_more same
      broke Y shelf_fault.Memory f g h same is = is ∙ same

-- a run that wrote first
pub wrote-plays : {X Y : Type 0} (tells : Type 0) (manifest : Listed) (a b : Disk) (p : Timeline) (c : Disk) (x : X) (result : Result Y PlayFault) → WritesOn tells manifest a b (Ok x) → PlaysOn tells manifest b p c result →
    PlaysOn tells manifest a p c result
wrote-plays {Y = Y} tells manifest a b p c x result one two = record {
  plays = touches-then tells (IsApart manifest) (ids_in p.captures) a b c (plays-writing tells manifest (ids_in p.captures) a b one.plays) two.plays;
  ends = ends Y result two.ends;
}
  where
    ends : (Y : Type 0) (result : Result Y PlayFault) → EndsPlaying tells b p c result → EndsPlaying tells a p c result
    ends Y (Ok y) is = is ∙ one.counts
    ends Y (Err (Reading fault)) is = (is.0, counts-back fault a.faults b.faults c.faults one.counts is.1)
    ends Y (Err (Writing fault)) is = is ∙ ap (after_write {X = Unit {0}} (Err fault)) one.counts

-- where memory ran out before anything was played
pub plays-none : {X : Type 0} (tells : Type 0) (manifest : Listed) (a : Disk) (p : Timeline) → PlaysOn {X = X} tells manifest a p a (Err (Writing shelf_fault.Memory))
plays-none tells manifest a p = record { plays = touches-none tells (IsApart manifest) (ids_in p.captures) a; ends = refl }

-- The world where one part of the network changes.
use Rattle.std.proofs.Common.{◌≡◌, ℕ, List, [], ◌∷◌, ◌++◌, refl, ap, sym, ◌∙◌}
use Rattle.std.proofs.lemmas.Grind.{flat_map-append}
use Rattle.std.proofs.lemmas.List.{append-nil}
use Rattle.exb_ecp.specs.StopAndWait.{State as Ecp}
use Rattle.exb_extender.specs.Machine.{ExtenderState}
use Rattle.exb_link.specs.declared.link_frame.LinkFrame.{LinkFrame}
use Rattle.exb_world_spec.specs.TraceLines.{all_told, told}
use Rattle.exb_world_spec.specs.Worlds.{World, Line, Left as Leaving, with_near, with_far, with_down, with_up}
use Rattle.exb_model.specs.Tables.{at}
use Rattle.exb_world_spec.specs.Effects.{Effect, only, sending, leaving}
use Rattle.exb_outbox.specs.declared.log.Left.{Left}
use Rattle.exb_outbox.specs.declared.log.Log.{Log}
use Rattle.exb_bridge.specs.BridgeWorlds.{Whole}
use Rattle.exb_extender.specs.Extenders.{Devices, far_of, AreSame}
use Rattle.exb_link.specs.Links.{words_of}
use Rattle.exb_ecp.specs.Ends.{near_of}
use Rattle.exb_bridge.specs.TreeIndexes.{Site}
use Rattle.exb_outbox.specs.PortMaps.{Row, ports_in}
use Rattle.exb_outbox.specs.Logs.{if_tracing}
use Rattle.exb_bridge.specs.BridgeWorlds.{world_in, all_left, copies_at, copies_of, IsAt, Does, HasLeft}

-- ---- the world
module _ (c : Whole) (n : ℕ) where
  pub near_in : (es : List Ecp) (e : Ecp) → near_of es ≡ at n e (near_of c.near) → world_in (record c { near = es }) ≡ with_near n e (world_in c)
  near_in es e h = ap (λ (f : ℕ → Ecp). record (world_in c) { near = f }) h

  pub far_in : (d : Devices) (s : ExtenderState) → far_of d ≡ at n s (far_of c.far) → world_in (record c { far = d }) ≡ with_far n s (world_in c)
  far_in d s h = ap (λ (f : ℕ → ExtenderState). record (world_in c) { far = f }) h

  pub down_in : (d : List (List LinkFrame)) (ws : List LinkFrame) → words_of d ≡ at n ws (words_of c.down) → world_in (record c { down = d }) ≡ with_down n ws (world_in c)
  down_in d ws h = ap (λ (f : ℕ → List LinkFrame). record (world_in c) { down = f }) h

  pub up_in : (d : List (List LinkFrame)) (ws : List LinkFrame) → words_of d ≡ at n ws (words_of c.up) → world_in (record c { up = d }) ≡ with_up n ws (world_in c)
  up_in d ws h = ap (λ (f : ℕ → List LinkFrame). record (world_in c) { up = f }) h

-- ---- the site
module _ (s : Site) (c : Whole) (is : IsAt s c) where
  pub near_at : (es : List Ecp) → IsAt s (record c { near = es })
  near_at es = record { shape = is.shape; limits = is.limits; awake = is.awake; there = is.there; only = is.only; ports = is.ports }

  pub down_at : (d : List (List LinkFrame)) → IsAt s (record c { down = d })
  down_at d = record { shape = is.shape; limits = is.limits; awake = is.awake; there = is.there; only = is.only; ports = is.ports }

  pub up_at : (d : List (List LinkFrame)) → IsAt s (record c { up = d })
  up_at d = record { shape = is.shape; limits = is.limits; awake = is.awake; there = is.there; only = is.only; ports = is.ports }

  pub next_at : (xs : List ℕ) → IsAt s (record c { next = xs })
  next_at xs = record { shape = is.shape; limits = is.limits; awake = is.awake; there = is.there; only = is.only; ports = is.ports }

  pub far_at : (d : Devices) → AreSame c.far d → IsAt s (record c { far = d })
  far_at d same =
      record {
        shape = is.shape;
        limits = is.limits;
        awake = is.awake;
        there = λ n h. same.there n ∙ is.there n h;
        only = λ n h. is.only n (sym (same.there n) ∙ h);
        ports = λ n h. same.ports n ∙ is.ports n h;
      }

-- ---- what is done
-- nothing is told
pub tells_nothing : (e : Effect) (s : Site) (c : Whole) (log : Log) → world_in c ≡ e.world → e.events ≡ [] → e.passed ≡ [] → e.left ≡ [] → e.outs ≡ [] → IsAt s c → Does e s c log log
tells_nothing e s c log world events passed left outs is =
    record {
      world = world;
      events = sym (append-nil log.events) ∙ ap (λ xs. log.events ++ xs) (sym events);
      passed = sym (append-nil log.passed) ∙ ap (λ xs. log.passed ++ xs) (sym passed);
      left = sym (append-nil (all_left log.left)) ∙ ap (λ xs. all_left log.left ++ xs) (sym left);
      outs = sym (append-nil log.outs.items) ∙ ap (λ xs. log.outs.items ++ if_tracing log.tracing (all_told xs)) (sym outs);
      lines = refl;
      tracing = refl;
      at = is;
    }

-- the line of what goes out is noted, and nothing else
pub record IsNoted (line : Line) (old new : Log) : Type 0 where
  pub outs : new.outs.items ≡ old.outs.items ++ if_tracing old.tracing (told line ∷ [])
  pub events : new.events ≡ old.events
  pub passed : new.passed ≡ old.passed
  pub lines : new.lines ≡ old.lines
  pub tracing : new.tracing ≡ old.tracing

-- a word goes out
pub sends_word : (line : Line) (w : World) (s : Site) (c : Whole) (old new : Log) → world_in c ≡ w → IsAt s c → IsNoted line old new → new.left ≡ old.left → Does (sending line w) s c old new
sends_word line w s c old new world is noted left =
    record {
      world = world;
      events = noted.events ∙ sym (append-nil old.events);
      passed = noted.passed ∙ sym (append-nil old.passed);
      left = ap all_left left ∙ sym (append-nil (all_left old.left));
      outs = noted.outs;
      lines = noted.lines;
      tracing = noted.tracing;
      at = is;
    }

module _ (s : Site) (c : Whole) (old new : Log) (line : Line) (n : ℕ) (ws : List LinkFrame) (is : IsAt s c) (noted : IsNoted line old new) (left : new.left ≡ old.left) where
  -- a word goes onto a link
  pub sends_down : (d : List (List LinkFrame)) → words_of d ≡ at n ws (words_of c.down) → Does (sending line (with_down n ws (world_in c))) s (record c { down = d }) old new
  sends_down d h = sends_word line (with_down n ws (world_in c)) s (record c { down = d }) old new (down_in c n d ws h) (down_at s c is d) noted left

  pub sends_up : (d : List (List LinkFrame)) → words_of d ≡ at n ws (words_of c.up) → Does (sending line (with_up n ws (world_in c))) s (record c { up = d }) old new
  sends_up d h = sends_word line (with_up n ws (world_in c)) s (record c { up = d }) old new (up_in c n d ws h) (up_at s c is d) noted left

-- a frame leaves
pub has_left : (s : Site) (c : Whole) (old new : Log) (line : Line) (x : Leaving) → IsAt s c → HasLeft x (told line) old new → Does (leaving line x (world_in c)) s c old new
has_left s c old new line x is left =
    record {
      world = refl;
      events = left.events ∙ sym (append-nil old.events);
      passed = left.passed ∙ sym (append-nil old.passed);
      left = left.left;
      outs = left.outs;
      lines = left.lines;
      tracing = left.tracing;
      at = is;
    }

pub left_more : (xs : List Left) (x : Left) → all_left (xs ++ x ∷ []) ≡ all_left xs ++ copies_of x
left_more xs x = flat_map-append copies_of xs (x ∷ []) ∙ ap (λ (ys : List Leaving). all_left xs ++ ys) (append-nil (copies_of x))

pub left_one : (xs ys : List Left) (r : Row) (moment : ℕ) (bytes : List ℕ) (q : ℕ) → ports_in r ≡ q ∷ [] → ys ≡ xs ++ record { row = r; moment = moment; bytes = bytes } ∷ [] →
    all_left ys ≡ all_left xs ++ record { port = q; moment = moment; bytes = bytes } ∷ []
left_one xs ys r moment bytes q one is =
    let x : Left = record { row = r; moment = moment; bytes = bytes } in
    ap all_left is ∙ left_more xs x ∙ ap (λ (qs : List ℕ). all_left xs ++ copies_at moment bytes qs) one

-- it leaves at one port
pub leaves : (s : Site) (c : Whole) (old new : Log) (line : Line) (r : Row) (moment : ℕ) (bytes : List ℕ) (q : ℕ) → IsAt s c → IsNoted line old new → ports_in r ≡ q ∷ [] →
    new.left ≡ old.left ++ record { row = r; moment = moment; bytes = bytes } ∷ [] → Does (leaving line (record { port = q; moment = moment; bytes = bytes }) (world_in c)) s c old new
leaves s c old new line r moment bytes q is noted one h =
    has_left s c old new line (record { port = q; moment = moment; bytes = bytes }) is
    (record {
      left = left_one old.left new.left r moment bytes q one h;
      outs = noted.outs;
      events = noted.events;
      passed = noted.passed;
      lines = noted.lines;
      tracing = noted.tracing;
    })

-- nothing is done
pub does_nothing : (s : Site) (c : Whole) (log : Log) → IsAt s c → Does (only (world_in c)) s c log log
does_nothing s c log is = tells_nothing (only (world_in c)) s c log refl refl refl refl refl is
